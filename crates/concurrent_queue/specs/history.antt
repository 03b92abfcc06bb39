-- `History` is one history of a queue's cells, `Shared` the rule of the table that threads share, and `Runs` what follows of the queue.
-- `Calls` says where a call stands whose party a view follows, by `Ends` and `OnCells` of each machine's steps.
pub mod Shared
pub mod History
pub mod Runs
pub mod StepTypes
pub mod Ends
pub mod OnCells
pub mod Calls
pub mod Joined
pub mod Keeps
pub mod QueueKeeps
pub mod Begun
