mod OwnPlaces
pub mod Refusing
mod BlocksBasics
mod BlocksSteps
mod BlocksOthers
mod BlocksLater
mod BlocksPhases
mod BlocksKeeps
mod BlocksAsks
mod BlocksDispatch
mod BlocksTheorem
mod BlocksNearer
mod BlocksQuiet
mod BlocksStart
mod BlocksDenote
mod BlocksSpares
mod BlocksRetire
mod BlocksYields
mod BlocksPushWords
mod BlocksPopWords
pub mod StepFacts
mod SingleDeeds
mod RingDeeds
pub mod Walks
pub mod Noted
mod Resting
pub mod Standing
mod Traces
mod BlocksDeeds
pub mod Callers
mod BridgeSteps
pub mod Bridge
mod BridgeRow
pub mod Among
mod Targets
mod BlocksAmong
mod BlocksTouched
mod BlocksSlots
mod SlotsTouched
pub mod ItsOwn
pub mod SingleSteps
pub mod RingShape
pub mod RingPlaces
pub mod RingSound
pub mod RingLater
pub mod RingKinds
pub mod RingKeeps
pub mod SingleKeeps
pub mod SingleNearer
pub mod SingleTheorem
pub mod SingleShows
pub mod FitsFacts
pub mod Places
pub mod Balance
pub mod RingDenotes
pub mod RingSteps
pub mod RingNearer
pub mod RingTheorem
pub mod RingOneCell
pub mod RingShows
mod BlocksStep
mod BlocksChain
mod BlocksFacts
mod BlocksShows
pub mod Slots
pub mod Evidence
pub mod Runs
mod Accounts
mod Lone
mod Bounds
mod Whole
pub mod PartyFacts
pub mod RingMade
pub mod AloneFacts
pub mod Interface
pub mod Guards
mod ReplyFacts
pub mod HistoryRuns
pub mod HistoryOpening
pub mod Guarding
pub mod HistoryWords
pub mod HistorySteps
pub mod HistoryParties
pub mod HistoryCounts
pub mod HistoryCallsEnd
pub mod HistoryAnswers
mod CallBegins
mod Capacities
pub mod HistorySeats
