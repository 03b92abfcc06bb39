-- What each deed does to a channel whose parts are known.
use Rattle.std.specs.Prelude.{◌≡◌, ◌+◌, ◌-◌, true, if◌then◌else◌, None, Ok, Err}
use Rattle.concurrent_queue.specs.Step.{IsQueueStep}
use Rattle.event_listener.specs.Lists.{kind_of, listened, registration, removed, removed_wakes}
use Rattle.channel_calls.specs.Deeds.{Deed, stepped, inserted, registered, taken_off, told, counted, lowered, raised}
use Rattle.channel_calls.specs.Parts.{Parts, Listeners, with_wait_lists, listeners, with_listeners, count, with_count, is_raised, told_as, told_as_wakes, Registers}
use Rattle.channel_calls.specs.declared.stage.WaitList.{WaitList}

module _ {T W : Type 0} where
  -- one list is this after it, and nothing else differs
  abbrev pub OnList : WaitList → Listeners W → Parts T W → Parts T W → Type 0
  OnList line l p q = q ≡ with_wait_lists (with_listeners line l p.wait_lists) p

  abbrev pub Does : Deed T W → Parts T W → Parts T W → Type 0
  Does (stepped call after r) p q = IsQueueStep p.cells call q.cells after r × (q.wait_lists ≡ p.wait_lists)
  Does (inserted line (Ok key)) p q = (kind_of (listeners line p.wait_lists) key ≡ None) × OnList line (listened key (listeners line p.wait_lists)) p q
  Does (inserted line (Err e)) p q = q ≡ p
  Does (registered line key task r) p q = Registers (listeners line p.wait_lists) key task r × OnList line (registration key task (listeners line p.wait_lists)) p q
  Does (taken_off line key names) p q = (names ≡ removed_wakes key true (listeners line p.wait_lists)) × OnList line (removed key true (listeners line p.wait_lists)) p q
  Does (told line telling names) p q = (names ≡ told_as_wakes telling (listeners line p.wait_lists)) × OnList line (told_as telling (listeners line p.wait_lists)) p q
  Does (counted side n) p q = (n ≡ count side p.wait_lists) × (q ≡ p)
  Does (lowered side n) p q = (n ≡ count side p.wait_lists) × (q ≡ with_wait_lists (with_count side (n - 1) p.wait_lists) p)
  Does (raised side n b) p q =
      (b ≡ is_raised side n p.wait_lists) × (q ≡ (if b then with_wait_lists (with_count side (n + 1) p.wait_lists) p else p))

  -- a deed by this relation is this effect on the parts
  abbrev pub IsExact : {C : Type 0} → (Deed T W → C → C → Type 0) → (C → Parts T W) → Type 0
  IsExact {C} did parts = (d : Deed T W) (a b : C) → did d a b → Does d (parts a) (parts b)
