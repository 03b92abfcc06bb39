-- Other tasks put for those of a merge.
use Rattle.std.proofs.Common.{◌≡◌, ℕ, ◌==◌, Bool, true, false, if◌then◌else◌, List, [], ◌∷◌, map, Option, None, Some, option_map, refl, sym, ap, subst, ◌∙◌}
use Rattle.channel_steps.proofs.every_run.Words.{QueueForm, QueueCall, first, Deed, stepped, Parts, WaitLists, Takes, ChannelMakes, Mark, Reply, Returned, Stage, NextStep, Act, on_queue, on_wait_lists, on_nothing, Event, begins, Happening, Completed, Notes, Acts, own, Changes, InOneOrder, WakesSo, MergesHaveAnyTasks, wait_lists_by, parts_by, deed_by, act_by, stage_by, event_by, all_by}
use Rattle.channel_steps.specs.every_run.Bridge.{does}
use Rattle.channel_steps.proofs.every_run.TaskCells.{done_so}
use Rattle.channel_steps.proofs.every_run.TaskTurns.{first_alike, kept_alike, takes}
use Rattle.channel_steps.proofs.every_run.TaskWalks.{made_so}

module _ {T W V : Type 0} (put : W → V) where
  -- ---- a party

  own_so : (p : ℕ) (xs : List (Happening T W)) → own p (all_by put xs) ≡ map (λ y. event_by put y) (own p xs)
  own_so p [] = refl
  own_so p (x ∷ xs) = at (own_so p xs) (x.party == p) where
    at : own p (all_by put xs) ≡ map (λ y. event_by put y) (own p xs)
        → (b : Bool) → (if b then event_by put x.event ∷ own p (all_by put xs) else own p (all_by put xs)) ≡ map (λ y. event_by put y) (if b then x.event ∷ own p xs else own p xs)
    at more true = ap (λ (ys : List (Event T V)). event_by put x.event ∷ ys) more
    at more false = more

  abbrev act_so : Act T W → Act T V
  act_so o = act_by put o

  noted : (form : QueueForm) (o : Act T W) (d : Deed T W) → Notes form d on_nothing o → Notes form (deed_by put d) on_nothing (act_by put o)
  noted form o (stepped call after r) (x, makes, is) = (x, makes, ap act_so is)
  noted form o w is = ap act_so is

  made : (form : QueueForm) (at : Stage (QueueCall T) T W) (o : Act T W) (m : Mark) (next : Stage (QueueCall T) T W) (r : Option (Reply T)) → ChannelMakes (Notes form) at on_nothing o m next r
      → ChannelMakes (Notes form) (stage_by put at) on_nothing (act_by put o) m (stage_by put next) r
  made form at o m next r h = made_so put (Notes form) (Notes form) on_nothing o on_nothing (act_by put o) (λ d n. noted form o d n) (λ is. ap act_so is) m next r at h

  abbrev at_so : Option (Stage (QueueCall T) T W) → Option (Stage (QueueCall T) T V)
  at_so at = option_map (λ s. stage_by put s) at

  acts_so : (form : QueueForm) (at : Option (Stage (QueueCall T) T W)) (ys : List (Event T W)) (rs : List (Completed T)) → Acts form at ys rs → Acts form (at_so at) (map (λ y. event_by put y) ys) rs
  acts_so form None [] rs is = is
  acts_so form (Some at) [] rs is = is
  acts_so form None (begins a ∷ ys) rs (s, start, more) =
      (stage_by put s, subst (λ (t : NextStep T V). Takes t (stage_by put s) None) (first_alike put a) (takes put (first a) s None start), acts_so form (Some s) ys rs more)
  acts_so form (Some at) (does o ∷ ys) rs (m, next, None, makes, more) = (m, stage_by put next, None, made form at o m next None makes, acts_so form (Some next) ys rs more)
  acts_so form (Some at) (does o ∷ ys) rs (m, next, Some r, makes, (more, is, goes)) = (
    m,
    stage_by put next,
    Some r,
    made form at o m next (Some r) makes,
    (more, is ∙ ap (λ (k : Returned T). record { reply = r; kept = k } ∷ more) (sym (kept_alike put next)), acts_so form None ys more goes),
  )
  acts_so form x y rs h = absurd h

  -- ---- the cells

  module _ {S : Type 0} (wakes : S → W → S → Type 0) where
    abbrev both_so : Parts T W × S → Parts T V × S
    both_so c = (parts_by put c.0, c.1)

    changes_so : (y : Event T W) (c e : Parts T W × S) → Changes wakes y c e → Changes (WakesSo put wakes) (event_by put y) (both_so c) (both_so e)
    changes_so (does (on_queue (Some d))) c e (h, same, sink) = (h, ap (λ (a : WaitLists W). wait_lists_by put a) same, sink)
    changes_so (does (on_wait_lists d)) c e h = done_so put wakes d c e h
    changes_so w c e is = ap both_so is

    in_order_so : (xs : List (Happening T W)) (c e : Parts T W × S) → InOneOrder wakes xs c e → InOneOrder (WakesSo put wakes) (all_by put xs) (both_so c) (both_so e)
    in_order_so [] c e is = ap both_so is
    in_order_so (x ∷ xs) c e (m, h, more) = (both_so m, changes_so x.event c m h, in_order_so xs m e more)

pub merges_have_any_tasks : {W V : Type 0} (put : W → V) (T S : Type 0) (wakes : S → W → S → Type 0) → MergesHaveAnyTasks put T S wakes
merges_have_any_tasks put T S wakes form events given sink last woken acts order = (
  λ p. subst (λ ys. Acts form None ys (given p)) (sym (own_so put p events)) (acts_so put form None (own p events) (given p) (acts p)),
  in_order_so put wakes events _ _ order,
)
