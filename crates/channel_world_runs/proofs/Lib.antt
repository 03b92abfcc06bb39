pub mod Lemmas
pub mod Words
pub mod LruLemmas
pub mod NoLonger
pub mod RefusalLemmas
pub mod WokenFacts
mod ReachesFacts
pub mod OwnerLists
pub mod OwnerKeys
pub mod OwnerTurns
pub mod OwnerMoves
pub mod OwnerHolders
pub mod OwnerNames
pub mod OwnerBegins
pub mod WokenPolls
pub mod OwnerCalls
pub mod OwnerTogether
pub mod AskFacts
pub mod AskStarts
mod BeginFacts
mod TriesFirst
pub mod OwnerEnds
pub mod OwnerSteps
pub mod OwnerRuns
pub mod OwnerWokenLists
pub mod OwnerWokenMoves
pub mod OwnerWoken
pub mod OwnerPolled
pub mod AccountFacts
pub mod WorldInvariant
pub mod ByNames
pub mod LoneFacts
pub mod Interface
pub mod OwedConfigurations
pub mod OwedCounts
pub mod OwedFacts
mod OwedRows
mod ResultFacts
pub mod ShownFacts
pub mod ObservationFacts
pub mod CallFacts
pub mod ActivityFacts
pub mod UserFacts
pub mod CountNames
pub mod CountTurns
pub mod CountBegins
pub mod CountClosings
pub mod CountFacts
pub mod PositionFacts
pub mod PlaceFacts
pub mod OwnerOrderNames
pub mod LeftFacts
pub mod WorldStateFacts
pub mod PendingFacts
pub mod PollFacts
pub mod NodeFacts
pub mod refinement
pub mod rest
