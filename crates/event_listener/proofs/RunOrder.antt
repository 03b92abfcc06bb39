-- Sections of an event keep the order of listening.
use Rattle.std.proofs.Common.{ℕ, ◌+◌, Bool, true, false, List, [], ◌∷◌, Option, Some, None, Result, Ok, Err, is_some, if◌then◌else◌, refl, sym, ap, subst, ◌∙◌}
use Rattle.event_listener.specs.declared.error.ListenError.{ListenError}
use Rattle.event_listener.specs.declared.key.Key.{Key}
use Rattle.event_listener.specs.declared.waking.Task.{Task}
use Rattle.event_listener.specs.Lists.{Lists, ListView, Notice, serial_of, told_as, waits_as, without, with_task, registration, polled, passed, removed}
use Rattle.event_listener.specs.Order.{IsInOrder}
use Rattle.event_listener.specs.SectionRuns.{Calls, RunsKeepTheOrder}
use Rattle.event_listener.specs.Runs.{Inserts, Leaves}
use Rattle.event_listener.specs.Sections.{Call, Makes, inserts, registers, asks, takes_off, tells}
use Rattle.event_listener.proofs.SectionCalls.{runs_are_calls}
use Rattle.event_listener.proofs.OrderLemmas.{in-order-listened, in-order-without, in-order-with_task, in-order-notified, in-order-at}

module _ {T W : Type 0} (lists : Lists T W) (next : ℕ) (key : Key) (h : IsInOrder lists next) where
  registered-so : (task : W) (told waits : Bool) → IsInOrder (if told then without key lists else (if waits then with_task key task lists else lists)) next
  registered-so task true waits = in-order-without lists next key h
  registered-so task false true = in-order-with_task lists next key task h
  registered-so task false false = h

  pub in-order-registered : (task : W) → IsInOrder (registration key task lists) next
  in-order-registered task = registered-so task (is_some (told_as lists key)) (is_some (waits_as lists key))

  polled-so : (told : Bool) → IsInOrder (if told then without key lists else lists) next
  polled-so true = in-order-without lists next key h
  polled-so false = h

  pub in-order-polled : IsInOrder (polled key lists) next
  in-order-polled = polled-so (is_some (told_as lists key))

  removed-so : (pass_on : Bool) (found : Option (Notice T)) (waits : Bool)
      → IsInOrder (elim found [ Some notice ↦ (if pass_on then passed notice (without key lists) else without key lists) | None ↦ (if waits then without key lists else lists) ]) next
  removed-so true (Some notice) waits = in-order-notified (without key lists) next notice.additional _ (in-order-without lists next key h)
  removed-so false (Some notice) waits = in-order-without lists next key h
  removed-so pass_on None true = in-order-without lists next key h
  removed-so pass_on None false = h

  pub in-order-removed : (pass_on : Bool) → IsInOrder (removed key pass_on lists) next
  in-order-removed pass_on = removed-so pass_on (told_as lists key) (is_some (waits_as lists key))

module _ {T : Type 0} where
  abbrev Ordered : ListView T Task → Type 0
  Ordered view = IsInOrder view.lists view.serials

  stood : {before after : ListView T Task} {lists : Lists T Task} {room : ℕ} → IsInOrder lists before.serials → Leaves before after lists room → Ordered after
  stood h l = in-order-at h l.lists_are l.serials_are

  insertion : {before after : ListView T Task} (result : Result Key ListenError) → Ordered before → Inserts before after result → Ordered after
  insertion {before} (Ok key) h d =
      let at : IsInOrder before.lists (serial_of key) = in-order-at h refl d.added.serial_is in
      in-order-at (in-order-listened before.lists None key at) d.added.lists_are (d.added.serials_are ∙ ap (λ n. n + 1) (sym d.added.serial_is))
  insertion (Err error) h d = in-order-at h d.refused.lists_are d.refused.serials_are

  made : (call : Call T) (before after : ListView T Task) → Ordered before → Makes call before after → Ordered after
  made (inserts result) before after h d = insertion result h d
  made (registers key task answer) before after h d = stood (in-order-registered before.lists before.serials key h task) d.1
  made (asks key answer) before after h d = stood (in-order-polled before.lists before.serials key h) d.1
  made (takes_off key pass_on answer) before after h d = stood (in-order-removed before.lists before.serials key h pass_on) d.1
  made (tells additional size tags answer) before after h d = stood (in-order-notified before.lists before.serials additional _ h) d.1

  pub calls_keep_the_order : (calls : List (Call T)) (before after : ListView T Task) → Ordered before → Calls calls before after → Ordered after
  calls_keep_the_order [] before after h run = subst (λ (view : ListView T Task). Ordered view) (sym run) h
  calls_keep_the_order (call ∷ calls) before after h (between, made_so, rest) = calls_keep_the_order calls between after (made call before between h made_so) rest

pub runs_keep_the_order : {T : Type 0} → RunsKeepTheOrder T
runs_keep_the_order sections before after h run = let found = runs_are_calls sections before after run in calls_keep_the_order found.0 before after h found.2
