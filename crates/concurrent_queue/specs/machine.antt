-- The machines: what each form of queue does to its cells at a step, and what its cells and calls mean. The promise stands
-- beside this folder; nothing here is said to a caller.
pub mod Single
pub mod SingleState
pub mod RingWords
pub mod RingMoves
pub mod RingState
pub mod RingCalls
pub mod RingMeans
pub mod RingRank
pub mod RingReadings
pub mod RingMade
pub mod BlocksState
pub mod BlocksCalls
pub mod BlocksMoves
pub mod BlocksLeft
pub mod BlocksWords
pub mod BlocksMakes
pub mod BlocksDenotes
pub mod BlocksForm
pub mod Dispatch
pub mod Places
pub mod Positions
pub mod Forms
pub mod FastPath
pub mod Guarded
