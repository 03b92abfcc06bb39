-- A merge whose calls are given names beside their tasks keeps the headline with the names.
use Rattle.std.proofs.Common.{◌≡◌, ℕ, suc, List, [], ◌∷◌, map, length, refl, sym, ap, subst, ◌∙◌}
use Rattle.channel_steps.proofs.every_run.Words.{ChannelAsk, Step, Event, begins, Happening, LastsFor, step_of, steps_of, WakesFor, WakesNamed, task_of, name_of, with_asked, asks_of, step_asking, steps_asking, NamedMergesKeepTheHeadline, parts_by, ask_by, event_by, all_by}
use Rattle.channel_steps.specs.declared.run.Step.TheVariants as step
use Rattle.channel_steps.specs.every_run.Bridge.{does}
use Rattle.channel_steps.proofs.every_run.BridgeHeadline.{merges_keep_the_headline}
use Rattle.channel_steps.proofs.every_run.TaskBehind.{tasks_may_tell_more}
use Rattle.channel_steps.proofs.every_run.TaskMerges.{merges_have_any_tasks}

length_so : {T W V : Type 0} (put : W → V) (xs : List (Happening T W)) → length (all_by put xs) ≡ length xs
length_so put [] = refl
length_so put (x ∷ xs) = ap (λ (n : ℕ). suc n) (length_so put xs)

module _ {T W V U : Type 0} (put : U → W) (name : U → V) where
  one_step : (p : ℕ) (x : Event T U) (xs : List (Happening T U)) → steps_of (all_by name xs) ≡ steps_asking (all_by put xs) (map (λ a. ask_by name a) (asks_of xs))
      → step_of p (event_by name x) ∷ steps_of (all_by name xs)
      ≡ step_asking p (event_by put x) (map (λ a. ask_by name a) (with_asked x (asks_of xs))) (λ more. steps_asking (all_by put xs) more)
  one_step p (begins a) xs more = ap (λ (ys : List (Step T V)). step.Begin p (ask_by name a) ∷ ys) more
  one_step p (does o) xs more = ap (λ (ys : List (Step T V)). step.Step p ∷ ys) more

  steps_are : (xs : List (Happening T U)) → steps_of (all_by name xs) ≡ steps_asking (all_by put xs) (map (λ a. ask_by name a) (asks_of xs))
  steps_are [] = refl
  steps_are (x ∷ xs) = one_step x.party x.event xs (steps_are xs)

pub named_merges_keep_the_headline : (T W V S : Type 0) (wakes : S → W → S → Type 0) → NamedMergesKeepTheHeadline T W V S wakes
named_merges_keep_the_headline T W V S wakes form events given sink last woken named has long acts order asks =
    let b = tasks_may_tell_more task_of T S wakes form events given sink last woken named acts order asks in
    let m = merges_have_any_tasks name_of T S (WakesFor task_of wakes) form b.behind given sink b.parts woken b.acts b.in_one_order in
    let as_many : length events ≡ length (all_by name_of b.behind) =
    ap (λ (xs : List (Happening T W)). length xs) (sym b.events_are) ∙ length_so task_of b.behind ∙ sym (length_so name_of b.behind) in
    record {
      both = b;
      headline =
          merges_keep_the_headline T V S (WakesNamed wakes) form (all_by name_of b.behind) given sink (parts_by name_of b.parts) woken has
          (subst (λ (n : ℕ). LastsFor n form) as_many long)
          m.0
          m.1;
      steps =
          steps_are task_of name_of b.behind
          ∙ ap (λ (xs : List (Happening T W)). steps_asking xs (map (λ a. ask_by name_of a) (asks_of b.behind))) b.events_are
          ∙ ap (λ (zs : List (ChannelAsk T (W × V))). steps_asking events (map (λ a. ask_by name_of a) zs)) b.asks_are;
    }
