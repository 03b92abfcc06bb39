-- A notification that tells listeners among other threads.
use Rattle.std.proofs.Common.{ℕ, ◌≤◌, Bool, true, false, arith}
use Rattle.event_listener.specs.Lists.{Lists, moved}

-- no more are moved than the notification is for
pub moved-at-most : {T W : Type 0} (additional : Bool) (n : ℕ) (lists : Lists T W) → moved additional n lists ≤ n
moved-at-most true n lists = omega arith
moved-at-most false n lists = omega arith
