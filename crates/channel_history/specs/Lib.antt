-- `Party` says what a party's machine does, and `Steps` how it goes on; `History` what a history is, and `Keeps` what keeps it. `Says` is
-- what follows of it, `Accounts` which party's its messages are, `Handles` what its counts are, and `Registrations` which seats have the
-- listeners on its lists; `InHand` says what a call has in hand at each of its steps. `Row` are histories with calls in them. `Machine` is
-- a party as the machine of the queue's table, in whose rule the history is. `Cells` says what the cells of a call ask and say that go by
-- the view of its seat, `QueueCells`, `Sections` and `CallSections` what is under them, and `WholeCalls` how a call begins and ends over
-- them. `CallEnds` says how its party stands then, and which party may ask.
pub mod Party
pub mod Steps
pub mod History
pub mod Keeps
pub mod Says
pub mod Handles
pub mod Registrations
pub mod InHand
pub mod Accounts
pub mod Row
pub mod Machine
pub mod Cells
pub mod QueueCells
pub mod Sections
pub mod WholeCalls
pub mod CallSections
pub mod CallEnds
