-- Each reply that was given ended a call, as its row says.
use Rattle.std.proofs.Common.{◌≡◌, ℕ, ◌==◌, Bool, true, false, List, [], ◌∷◌, ◌++◌, if◌then◌else◌, inl, inr, refl, sym, ap, ◌∙◌, subst}
use Rattle.std.specs.Prelude.{Option, None, Some, IfSome}
use Rattle.concurrent_queue.proofs.Callers.{is_same}
use Rattle.channel_calls.specs.declared.reply.Reply.{Reply}
use Rattle.channel_calls.specs.declared.stage.Returned.{Returned}
use Rattle.channel_calls.specs.declared.whole.Completed.{Completed}
use Rattle.channel_steps.specs.Configuration.{ActiveCall}
use Rattle.channel_steps.specs.Run.{EachStep}
use Rattle.channel_steps.specs.declared.party.Entry.{Entry}
use Rattle.channel_steps.specs.declared.run.Step.{Step}
use Rattle.channel_steps.specs.declared.run.Step.TheVariants as step
use Rattle.channel_steps.specs.every_run.Bridge.{Event, begins, does, Happening, MergeMoment, given_by, given_to, step_of, steps_of}
use Rattle.channel_steps.specs.every_run.BridgeHeadline.{MergeStepSays}
use Rattle.channel_steps.specs.every_run.EndSays.{EndSays}
use Rattle.channel_steps.specs.every_run.Waits.{Any}
use Rattle.channel_history.specs.History.{appends}
use Rattle.channel_history.specs.Says.{EndsAs, HaveEnded}

module _ {T : Type 0} where
  abbrev gave : Reply T → Returned T → Completed T
  gave r kept = record { reply = r; kept = kept }

module _ {T W : Type 0} where
  later : (p : ℕ) (cs : List (Completed T)) (m n : MergeMoment T W (List W)) (x : Step T W) (xs : List (Step T W)) (e : Entry T) (es : List (Entry T)) (ns : List (MergeMoment T W (List W)))
      → HaveEnded p cs n xs es ns → HaveEnded p cs m (x ∷ xs) (e ∷ es) (n ∷ ns)
  later p [] m n x xs e es ns h = tt
  later p (c ∷ cs) m n x xs e es ns h = (inr h.0, later p cs m n x xs e es ns h.1)

  among : (P : ActiveCall T W → Type 0) (before : List (ActiveCall T W)) (u : ActiveCall T W) (behind : List (ActiveCall T W)) → P u → Any P (before ++ (u ∷ behind))
  among P [] u behind h = inl h
  among P (x ∷ xs) u behind h = inr (among P xs u behind h)

  module _ (p : ℕ) (m n : MergeMoment T W (List W)) (e : Entry T) (xs : List (Step T W)) (es : List (Entry T)) (ns : List (MergeMoment T W (List W))) (more : List (Completed T))
      (rest : HaveEnded p more n xs es ns) where
    -- what its step gave, and what was given later
    with_step : (q : ℕ) (o : _) → MergeStepSays appends m (step_of q (does o)) e n → q ≡ p
        → HaveEnded p (given_by e.reply e.kept ++ more) m (step_of q (does o) ∷ xs) (e ∷ es) (n ∷ ns)
    with_step q o says is = by e.reply refl where
      by : (r : Option (Reply T)) → e.reply ≡ r → HaveEnded p (given_by r e.kept ++ more) m (step_of q (does o) ∷ xs) (e ∷ es) (n ∷ ns)
      by None none = later p more m n (step_of q (does o)) xs e es ns rest
      by (Some r) ended =
          let w = says.call in let work = w.work in
          let end : EndSays w.after r e.kept = subst (λ (x : Option (Reply T)). IfSome x (λ y. EndSays w.after y e.kept)) ended work.ends in
          let kept : Returned T = end.kept in
          let here : EndSays w.after r (Some kept) = subst (λ (k : Option (Returned T)). EndSays w.after r k) end.leaves end in
          subst (λ (k : Option (Returned T)). HaveEnded p (given_by (Some r) k ++ more) m (step_of q (does o) ∷ xs) (e ∷ es) (n ∷ ns)) (sym end.leaves) (
            inl (record {
              step = ap (λ (k : ℕ). step.Step k) is;
              reply = ended;
              row = subst (λ (us : List (ActiveCall T W)). Any (λ u. EndsAs p (gave r kept) m e n u) us) (sym w.under_way)
                  (among (λ u. EndsAs p (gave r kept) m e n u) w.before w.call w.behind
                  (w.party ∙ is, w.at_now, subst (λ (u : ActiveCall T W). EndSays u r (Some kept)) w.is here));
            }),
            later p more m n (step_of q (does o)) xs e es ns rest,
          )

    with_event : (q : ℕ) (x : Event T W) → MergeStepSays appends m (step_of q x) e n → q ≡ p → HaveEnded p (given_by e.reply e.kept ++ more) m (step_of q x ∷ xs) (e ∷ es) (n ∷ ns)
    with_event q (begins ask) says is =
        let b = says.call in
        subst (λ (r : Option (Reply T)). HaveEnded p (given_by r e.kept ++ more) m (step_of q (begins ask) ∷ xs) (e ∷ es) (n ∷ ns)) (sym b.reply)
        (later p more m n (step_of q (begins ask)) xs e es ns rest)
    with_event q (does o) says is = with_step q o says is

  pub have_ended : (p : ℕ) (m : MergeMoment T W (List W)) (events : List (Happening T W)) (es : List (Entry T)) (ns : List (MergeMoment T W (List W)))
      → EachStep (MergeStepSays appends) m (steps_of events) es ns → HaveEnded p (given_to p events es) m (steps_of events) es ns
  have_ended p m [] [] [] h = tt
  have_ended p m (x ∷ xs) (e ∷ es) (n ∷ ns) h = by (have_ended p n xs es ns h.1) (x.party == p) refl where
    by : HaveEnded p (given_to p xs es) n (steps_of xs) es ns → (b : Bool) → (x.party == p) ≡ b
        → HaveEnded p (if b then given_by e.reply e.kept ++ given_to p xs es else given_to p xs es) m (steps_of (x ∷ xs)) (e ∷ es) (n ∷ ns)
    by rest true same = with_event p m n e (steps_of xs) es ns (given_to p xs es) rest x.party x.event h.0 (is_same x.party p same)
    by rest false same = later p (given_to p xs es) m n (step_of x.party x.event) (steps_of xs) e es ns rest
  have_ended p m x y z h = absurd h
