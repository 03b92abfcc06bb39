-- The run of a merge whose begins are those of calls by names, step by step.
use Rattle.std.specs.Prelude.{◌≡◌, ◌∷◌}
use Rattle.channel_world.proofs.Words.{List, [], map, ap, None, refl, capacity_of, Waiter, EachStep, end_of, ChannelEntry as Entry, ChannelStep, MergeMoment, just_opened, steps_of, IsStepOf, NamesKept, step_refusal, NameState, IsNameStateOf, name_state_begun, PartyId, Step, names_owed_at, NamedStep, NamedMoment, first_name_state, BeginByNames, SaysByNames, MergesByNamesAreRuns}
use Rattle.channel_steps.specs.every_run.BridgeHeadline.{MergeStepSays}
use Rattle.channel_world_runs.proofs.WorldInvariant.{names_kept_first, names_kept_next}
use Rattle.channel_world_runs.proofs.ByNames.{may_begin, may_step}

module _ {T S : Type 0} (wakes : S → Waiter → S → Type 0) where
  abbrev at : NameState T → MergeMoment T Waiter S → NamedMoment T S
  at b m = record { name_state = b; merge = m }

  abbrev named : Step T → ChannelStep T Waiter → NamedStep T
  named x y = record { by_name = x; of_channel = y }

  -- a step that may be taken says what is said of it, and all is kept
  says : (b : NameState T) (m : MergeMoment T Waiter S) (x : Step T) (y : ChannelStep T Waiter) (e : Entry T) (c : NameState T) (n : MergeMoment T Waiter S)
      → NamesKept b m.configuration → (s : MergeStepSays wakes m y e n) → step_refusal b.name_table b.agents x ≡ None → IsStepOf b.name_table x y
      → IsNameStateOf x e.reply e.kept s.names b c → SaysByNames wakes (at b m) (named x y) e (at c n) × NamesKept c n.configuration
  says b m x y e c n k s accepted is name_state =
      let kept = names_kept_next b c m.configuration n.configuration x y e s.names accepted is s.next name_state k in (
        record {
          accepted = accepted;
          step = is;
          names = s.names;
          next = s.next;
          woken = s.woken;
          name_state = name_state;
          owed = names_owed_at c n.configuration kept;
        },
        kept,
      )

  -- from this name state and moment on, steps and moments of a merge have names and name states
  record WithNames (b : NameState T) (m : MergeMoment T Waiter S) (ys : List (ChannelStep T Waiter)) (es : List (Entry T)) (ns : List (MergeMoment T Waiter S)) : Type 0 where
    steps : List (NamedStep T)
    moments : List (NamedMoment T S)
    each : EachStep (SaysByNames wakes) (at b m) steps es moments
    same_steps : map (λ (x : NamedStep T). x.of_channel) steps ≡ ys
    same_moments : map (λ (n : NamedMoment T S). n.merge) moments ≡ ns

  -- one more in front
  in_front : (b : NameState T) (m : MergeMoment T Waiter S) (x : Step T) (y : ChannelStep T Waiter) (e : Entry T) (c : NameState T) (n : MergeMoment T Waiter S)
      (ys : List (ChannelStep T Waiter)) (es : List (Entry T)) (ns : List (MergeMoment T Waiter S))
      → SaysByNames wakes (at b m) (named x y) e (at c n) → WithNames c n ys es ns → WithNames b m (y ∷ ys) (e ∷ es) (n ∷ ns)
  in_front b m x y e c n ys es ns one rest = record {
    steps = named x y ∷ rest.steps;
    moments = at c n ∷ rest.moments;
    each = (one, rest.each);
    same_steps = ap (λ (l : List (ChannelStep T Waiter)). y ∷ l) rest.same_steps;
    same_moments = ap (λ (l : List (MergeMoment T Waiter S)). n ∷ l) rest.same_moments;
  }

  all_say : (b : NameState T) (m : MergeMoment T Waiter S) (ys : List (ChannelStep T Waiter)) (es : List (Entry T)) (ns : List (MergeMoment T Waiter S))
      → NamesKept b m.configuration → EachStep (MergeStepSays wakes) m ys es ns → BeginByNames wakes b m ys es ns → WithNames b m ys es ns
  all_say b m [] [] [] k h begins = record { steps = []; moments = []; each = tt; same_steps = refl; same_moments = refl }
  all_say b m (ChannelStep.Begin p a ∷ ys) (e ∷ es) (n ∷ ns) k h (c, free, is, more) =
      let q : PartyId = record { 0 = p } in
      let s = h.0 in
      let idle = s.call.idle in
      let one = says b m (Step.Begin q c) (ChannelStep.Begin p a) e (name_state_begun q c b) n k s (may_begin b m.configuration q c k idle free)
      (a, is, refl) refl in
      in_front b m (Step.Begin q c) (ChannelStep.Begin p a) e (name_state_begun q c b) n ys es ns one.0
      (all_say (name_state_begun q c b) n ys es ns one.1 h.1 more)
  all_say b m (ChannelStep.Step p ∷ ys) (e ∷ es) (n ∷ ns) k h more =
      let q : PartyId = record { 0 = p } in
      let s = h.0 in
      let t = may_step b m.configuration n.configuration q e s.names k s.next in
      let one = says b m (Step.Step q) (ChannelStep.Step p) e t.after n k s t.accepted refl t.name_state in
      in_front b m (Step.Step q) (ChannelStep.Step p) e t.after n ys es ns one.0
      (all_say t.after n ys es ns one.1 h.1 (more s.names t.after s.next s.woken t.name_state))
  all_say b m ys es ns k h begins = absurd h

pub merges_by_names_are_runs : (T S : Type 0) (wakes : S → Waiter → S → Type 0) → MergesByNamesAreRuns T S wakes
merges_by_names_are_runs T S wakes form events given sink last woken k begins =
    let kept = names_kept_first {T = T} (capacity_of form) in
    let all = all_say wakes first_name_state (just_opened form sink) (steps_of events) k.is.trace k.is.run.moments kept k.each begins in
    record {
      at_first = names_owed_at first_name_state _ kept;
      steps = all.steps;
      to = end_of (record { name_state = first_name_state; merge = just_opened form sink }) all.moments;
      run = record { moments = all.moments; each = all.each; ends = refl };
      same_steps = all.same_steps;
      same_moments = all.same_moments;
    }
