-- The counts are what raises and lowerings made of them.
use Rattle.std.proofs.Common.{◌≡◌, ℕ, ◌+◌, ◌-◌, ◌<◌, ◌^◌, ◌&&◌, nat_lt, Bool, true, false, List, [], ◌∷◌, refl, sym, ap, ◌∙◌, subst, true≢false, arith}
use Rattle.std.proofs.lemmas.Bool.Decides.{nat_tests}
use Rattle.std.specs.Prelude.{None, Some, Ok, Err, if◌then◌else◌}
use Rattle.concurrent_queue.proofs.Callers.{is_same}
use Rattle.channel_calls.specs.Deeds.{Deed, stepped, inserted, registered, taken_off, told, counted, lowered, raised}
use Rattle.channel_calls.specs.Effects.{Does}
use Rattle.channel_calls.specs.Parts.{Parts, Listeners, WaitLists, with_listeners, count, with_count}
use Rattle.channel_calls.specs.declared.stage.Side.{Side}
use Rattle.channel_calls.specs.declared.stage.Side.TheVariants.{Senders, Receivers}
use Rattle.channel_calls.specs.declared.stage.WaitList.{WaitList}
use Rattle.channel_calls.specs.declared.stage.WaitList.TheVariants.{Sends, Receives, Streams, Closings}
use Rattle.channel_steps.specs.every_run.Bridge.{Event, begins, does, on_queue, on_wait_lists, on_nothing, Happening, Changes, InOneOrder}
use Rattle.channel_history.specs.History.{appends, is_side}
use Rattle.channel_history.specs.Says.{counted_on, counted_by}

and_left : (a b : Bool) → true ≡ (a && b) → a ≡ true
and_left true b e = refl
and_left false b e = absurd (true≢false e)

and_right : (a b : Bool) → true ≡ (a && b) → b ≡ true
and_right true b e = sym e
and_right false b e = absurd (true≢false e)

lt_of : (n : ℕ) → nat_lt n (2 ^ 64 - 1) ≡ true → n < 2 ^ 64 - 1
lt_of n e = grind (arith, nat_tests)

module _ {W : Type 0} where
  of_list : (side : Side) (line : WaitList) (l : Listeners W) (a : WaitLists W) → count side (with_listeners line l a) ≡ count side a
  of_list Senders Sends l a = refl
  of_list Senders Receives l a = refl
  of_list Senders Streams l a = refl
  of_list Senders Closings l a = refl
  of_list Receivers Sends l a = refl
  of_list Receivers Receives l a = refl
  of_list Receivers Streams l a = refl
  of_list Receivers Closings l a = refl

  lowers : (side x : Side) (k : ℕ) (a : WaitLists W) → k ≡ count x a → count side (with_count x (k - 1) a) ≡ (if is_side side x then count side a - 1 else count side a)
  lowers Senders Senders k a e = ap (λ (n : ℕ). n - 1) e
  lowers Senders Receivers k a e = refl
  lowers Receivers Senders k a e = refl
  lowers Receivers Receivers k a e = ap (λ (n : ℕ). n - 1) e

  raises : (side x : Side) (k : ℕ) (a : WaitLists W) → k ≡ count x a → count side (with_count x (k + 1) a) ≡ (if is_side side x then count side a + 1 else count side a)
  raises Senders Senders k a e = ap (λ (n : ℕ). n + 1) e
  raises Senders Receivers k a e = refl
  raises Receivers Senders k a e = refl
  raises Receivers Receivers k a e = ap (λ (n : ℕ). n + 1) e

module _ {T W : Type 0} where
  pub by_deed : (side : Side) (o : Deed T W) (p q : Parts T W) → Does o p q → count side q.wait_lists ≡ counted_on side (does (on_wait_lists o)) (count side p.wait_lists)
  by_deed side (stepped call after r) p q h = ap (λ (a : WaitLists W). count side a) h.1
  by_deed side (inserted line (Ok key)) p q h = ap (λ (x : Parts T W). count side x.wait_lists) h.1 ∙ of_list side line _ p.wait_lists
  by_deed side (inserted line (Err e)) p q h = ap (λ (x : Parts T W). count side x.wait_lists) h
  by_deed side (registered line key task r) p q h = ap (λ (x : Parts T W). count side x.wait_lists) h.1 ∙ of_list side line _ p.wait_lists
  by_deed side (taken_off line key names) p q h = ap (λ (x : Parts T W). count side x.wait_lists) h.1 ∙ of_list side line _ p.wait_lists
  by_deed side (told line telling names) p q h = ap (λ (x : Parts T W). count side x.wait_lists) h.1 ∙ of_list side line _ p.wait_lists
  by_deed side (counted x n) p q h = ap (λ (y : Parts T W). count side y.wait_lists) h.1
  by_deed side (lowered x n) p q h = ap (λ (y : Parts T W). count side y.wait_lists) h.1 ∙ lowers side x n p.wait_lists h.0
  by_deed side (raised x n true) p q h =
      ap (λ (y : Parts T W). count side y.wait_lists) h.1 ∙ raises side x n p.wait_lists (sym (is_same (count x p.wait_lists) n (and_left _ _ h.0)))
  by_deed side (raised x n false) p q h = ap (λ (y : Parts T W). count side y.wait_lists) h.1

  by_event : (side : Side) (e : Event T W) (c d : Parts T W × List W) → Changes appends e c d → count side (d.0).wait_lists ≡ counted_on side e (count side (c.0).wait_lists)
  by_event side (begins ask) c d h = ap (λ (x : Parts T W × List W). count side (x.0).wait_lists) h
  by_event side (does on_nothing) c d h = ap (λ (x : Parts T W × List W). count side (x.0).wait_lists) h
  by_event side (does (on_queue None)) c d h = ap (λ (x : Parts T W × List W). count side (x.0).wait_lists) h
  by_event side (does (on_queue (Some o))) c d h = ap (λ (a : WaitLists W). count side a) h.1
  by_event side (does (on_wait_lists o)) c d h = by_deed side o c.0 d.0 h.0

  pub counts_made : (side : Side) (xs : List (Happening T W)) (c d : Parts T W × List W) → InOneOrder appends xs c d
      → count side (d.0).wait_lists ≡ counted_by side xs (count side (c.0).wait_lists)
  counts_made side [] c d h = ap (λ (x : Parts T W × List W). count side (x.0).wait_lists) h
  counts_made side (x ∷ xs) c d (m, h, rest) =
      counts_made side xs m d rest ∙ ap (λ (n : ℕ). counted_by side xs n) (by_event side x.event c m h)

  -- a raise finds less than its word holds
  stays_within : (side : Side) (o : Deed T W) (p q : Parts T W) → Does o p q → count side p.wait_lists < 2 ^ 64 → counted_on side (does (on_wait_lists o)) (count side p.wait_lists) < 2 ^ 64
  stays_within side (raised x n true) p q h fits = by side x (sym (is_same (count x p.wait_lists) n (and_left _ _ h.0))) (lt_of n (and_right _ _ h.0)) fits where
    by : (side x : Side) → n ≡ count x p.wait_lists → n < 2 ^ 64 - 1 → count side p.wait_lists < 2 ^ 64 → (if is_side side x then count side p.wait_lists + 1 else count side p.wait_lists) < 2 ^ 64
    by Senders Senders e less fits = omega (arith, e, less)
    by Senders Receivers e less fits = fits
    by Receivers Senders e less fits = fits
    by Receivers Receivers e less fits = omega (arith, e, less)
  stays_within side (lowered x n) p q h fits = by (is_side side x) where
    by : (b : Bool) → (if b then count side p.wait_lists - 1 else count side p.wait_lists) < 2 ^ 64
    by true = omega (arith, fits)
    by false = fits
  stays_within side (raised x n false) p q h fits = fits
  stays_within side (stepped call after r) p q h fits = fits
  stays_within side (inserted line r) p q h fits = fits
  stays_within side (registered line key task r) p q h fits = fits
  stays_within side (taken_off line key names) p q h fits = fits
  stays_within side (told line telling names) p q h fits = fits
  stays_within side (counted x n) p q h fits = fits

  event_within : (side : Side) (e : Event T W) (c d : Parts T W × List W) → Changes appends e c d → count side (c.0).wait_lists < 2 ^ 64 → counted_on side e (count side (c.0).wait_lists) < 2 ^ 64
  event_within side (begins ask) c d h fits = fits
  event_within side (does on_nothing) c d h fits = fits
  event_within side (does (on_queue o)) c d h fits = fits
  event_within side (does (on_wait_lists o)) c d h fits = stays_within side o c.0 d.0 h.0 fits

  pub counts_fit : (side : Side) (xs : List (Happening T W)) (c d : Parts T W × List W) → InOneOrder appends xs c d → count side (c.0).wait_lists < 2 ^ 64 → count side (d.0).wait_lists < 2 ^ 64
  counts_fit side [] c d h fits = subst (λ (x : Parts T W × List W). count side (x.0).wait_lists < 2 ^ 64) (sym h) fits
  counts_fit side (x ∷ xs) c d (m, h, rest) fits =
      counts_fit side xs m d rest (subst (λ (n : ℕ). n < 2 ^ 64) (sym (by_event side x.event c m h)) (event_within side x.event c m h fits))
