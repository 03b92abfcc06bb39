-- What is promised of a queue. `Queue` is a queue with calls under way, and what each call's next step may do; `Rows` what
-- a call may answer, by its steps and by the moments that it saw; `Scene` one entry of a run, and `Run` whole runs. Their
-- laws: `Accounts` (nothing is lost), `Bounds` (never more than fit, closed once), `Lone` (a call whose others are quiet ends)
-- and `Whole` (no push is whole at its first step). `Bridge` says that calls whose operations come in one order are a run, and
-- `Touched` what is known of the cell that such a call is about to touch. A queue of one owner is said in `Alone`, `Room` and `Walk`, one that
-- threads share in `SharedQueue`, `Replies` and `Turns`, what a trace is shown in `Shown`, and what a refusal says in `Errors`.
-- `Stands` what cells may ask of those who operate on them, and `Tracked`
-- that cells which know where a call stands may ask so.
-- `Step` is the promise of one step of one call among any others, over the cells of `Contents`; `Capacity` and `Made` say which
-- queues there are.
-- Not promised, but what the code goes by: `Plain` and `Parties` are its fields as the promise sees them, and `machine` has
-- the machines of the three forms. No contract of a queue of one owner or of a run needs more than the files named here.
pub mod Queue
pub mod Rows
pub mod Scene
pub mod Run
pub mod Accounts
pub mod Bounds
pub mod Bridge
pub mod BridgeRow
pub mod Touched
pub mod Lone
pub mod Whole
pub mod Alone
pub mod Room
pub mod Walk
pub mod SharedQueue
pub mod Replies
pub mod Turns
pub mod Errors
pub mod Step
pub mod Contents
pub mod Deeds
pub mod Shown
pub mod Effects
pub mod Walked
pub mod Stands
pub mod Tracked
pub mod Capacity
pub mod Made
pub mod Plain
pub mod Places
pub mod Blocks
pub mod Parties
pub mod machine
pub mod history
pub mod Memory
pub mod QueueTables
pub mod Witnessed
