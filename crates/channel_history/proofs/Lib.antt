mod PartyFacts
mod Steps
mod Seats
mod Together
mod Lying
mod Goes
mod Keeping
mod Counting
mod Times
mod Passing
mod Sections
mod Deeds
mod Handles
mod Registrations
mod InHand
mod Joining
mod Splitting
mod Row
mod Waiting
pub mod Machine
pub mod ListTurns
pub mod CallSections
pub mod CallEnds
mod ByViews
mod Asking
mod Replying
mod Saying
mod RowFacts
mod Accounting
mod Accounts
mod Runs
pub mod Turns
pub mod Stages
pub mod Cells
pub mod Acting
pub mod QueueCells
pub mod CellActs
pub mod WholeCalls
