-- The calls under way at the end of a history are those that the views say.
use Rattle.std.proofs.Common.{◌≡◌, ℕ, ◌==◌, Bool, true, false, List, [], ◌∷◌, ◌++◌, map, if◌then◌else◌, inl, inr, refl, sym, ap, ◌∙◌, subst, eq-eqb, ne_eqb}
use Rattle.std.specs.Prelude.{Option, None, Some}
use Rattle.concurrent_queue.proofs.Callers.{is_same}
use Rattle.concurrent_queue.specs.declared.queue_call.QueueCall.{QueueCall}
use Rattle.channel_calls.specs.Moves.{Channel, phase}
use Rattle.channel_calls.specs.declared.reply.Reply.{Reply}
use Rattle.channel_calls.specs.declared.stage.Stage.{Stage}
use Rattle.channel_steps.specs.Configuration.{ActiveCall, ActiveCallWitness, active_call_of, sees, unless_ended}
use Rattle.channel_steps.specs.Run.{EachStep, end_of}
use Rattle.channel_steps.specs.declared.party.Entry.{Entry}
use Rattle.channel_steps.specs.declared.party.Party.{Party}
use Rattle.channel_steps.specs.declared.run.Step.{Step}
use Rattle.channel_steps.specs.declared.run.Step.TheVariants as step
use Rattle.channel_steps.specs.every_run.Bridge.{MergeMoment, stage_at}
use Rattle.channel_steps.specs.every_run.BridgeHeadline.{MergeStepSays}
use Rattle.channel_steps.specs.every_run.Ends.{Each}
use Rattle.channel_steps.specs.every_run.Waits.{Any}
use Rattle.channel_history.specs.Says.{IsAtStage}

-- ---- no two calls are of one party

module _ {T W : Type 0} where
  abbrev Not : ℕ → ActiveCall T W → Type 0
  Not p u = u.party ≡ p → ⊥

  abbrev pub AllDiffer : List (ActiveCall T W) → Type 0
  AllDiffer [] = Unit {0}
  AllDiffer (u ∷ us) = Each (λ v. Not u.party v) us × AllDiffer us

  -- the same calls, which have seen one moment more
  each_seen : (p : ℕ) (c : Channel T W) (us : List (ActiveCall T W)) → Each (λ v. Not p v) us → Each (λ v. Not p v) (map (sees c) us)
  each_seen p c [] h = tt
  each_seen p c (u ∷ us) h = (h.0, each_seen p c us h.1)

  each_on : (p : ℕ) (us vs : List (ActiveCall T W)) → Each (λ v. Not p v) us → Each (λ v. Not p v) vs → Each (λ v. Not p v) (us ++ vs)
  each_on p [] vs h k = k
  each_on p (u ∷ us) vs h k = (h.0, each_on p us vs h.1 k)

  differ_begun : (us : List (ActiveCall T W)) (u : ActiveCall T W) → AllDiffer us → Each (λ v. Not u.party v) us → AllDiffer (us ++ u ∷ [])
  differ_begun [] u h k = (tt, tt)
  differ_begun (x ∷ xs) u h k = (each_on x.party xs (u ∷ []) h.0 ((λ e. k.0 (sym e)), tt), differ_begun xs u h.1 k.1)

  differ_seen : (c : Channel T W) (us : List (ActiveCall T W)) → AllDiffer us → AllDiffer (map (sees c) us)
  differ_seen c [] h = tt
  differ_seen c (u ∷ us) h = (each_seen u.party c us h.0, differ_seen c us h.1)

  -- one of them goes on or has ended
  each_stepped : (p : ℕ) (c : Channel T W) (before : List (ActiveCall T W)) (u v : ActiveCall T W) (r : Option (Reply T)) (behind : List (ActiveCall T W)) → v.party ≡ u.party
      → Each (λ x. Not p x) (before ++ (u ∷ behind)) → Each (λ x. Not p x) (map (sees c) before ++ (unless_ended v r ++ map (sees c) behind))
  each_stepped p c [] u v None behind e h = ((λ k. h.0 (sym e ∙ k)), each_seen p c behind h.1)
  each_stepped p c [] u v (Some r) behind e h = each_seen p c behind h.1
  each_stepped p c (x ∷ xs) u v r behind e h = (h.0, each_stepped p c xs u v r behind e h.1)

  differ_stepped : (c : Channel T W) (before : List (ActiveCall T W)) (u v : ActiveCall T W) (r : Option (Reply T)) (behind : List (ActiveCall T W)) → v.party ≡ u.party
      → AllDiffer (before ++ (u ∷ behind)) → AllDiffer (map (sees c) before ++ (unless_ended v r ++ map (sees c) behind))
  differ_stepped c [] u v None behind e h =
      (subst (λ (k : ℕ). Each (λ x. Not k x) (map (sees c) behind)) (sym e) (each_seen u.party c behind h.0), differ_seen c behind h.1)
  differ_stepped c [] u v (Some r) behind e h = differ_seen c behind h.1
  differ_stepped c (x ∷ xs) u v r behind e h = (each_stepped x.party c xs u v r behind e h.0, differ_stepped c xs u v r behind e h.1)

module _ {T W S : Type 0} (wakes : S → W → S → Type 0) where
  pub differ_next : (m : MergeMoment T W S) (x : Step T W) (e : Entry T) (n : MergeMoment T W S) → MergeStepSays wakes m x e n → AllDiffer m.configuration.under_way → AllDiffer n.configuration.under_way
  differ_next m (step.Begin p ask) e n says h =
      let b = says.call in
      subst (λ (us : List (ActiveCall T W)). AllDiffer us) (sym b.under_way) (differ_begun m.configuration.under_way _ h b.idle)
  differ_next m (step.Step p) e n says h =
      let w = says.call in
      let all = subst (λ (us : List (ActiveCall T W)). AllDiffer us) w.under_way h in
      let same : w.after.party ≡ w.call.party = ap (λ (u : ActiveCall T W). u.party) w.is in
      subst (λ (us : List (ActiveCall T W)). AllDiffer us) (sym w.goes_on) (differ_stepped n.configuration.now w.before w.call w.after e.reply w.behind same all)

  pub differ_last : (m : MergeMoment T W S) (xs : List (Step T W)) (es : List (Entry T)) (ns : List (MergeMoment T W S)) → EachStep (MergeStepSays wakes) m xs es ns
      → AllDiffer m.configuration.under_way → AllDiffer (end_of m ns).configuration.under_way
  differ_last m [] [] [] h d = d
  differ_last m (x ∷ xs) (e ∷ es) (n ∷ ns) h d = differ_last n xs es ns h.1 (differ_next m x e n h.0 d)
  differ_last m x y ns h d = absurd h

-- ---- so each stands where its party does

same_some : {X : Type 0} (a b : X) → Some a ≡ Some b → a ≡ b
same_some a b e = cc

no_some : {X : Type 0} (a : X) → None ≡ Some a → ⊥
no_some a e = absurd (cc)

module _ {T W : Type 0} where
  abbrev pub StandsIn : List (Party T W) → ActiveCall T W → Type 0
  StandsIn parties u = (at : Stage (QueueCall T) T W) × (stage_at u.party parties ≡ Some at) × IsAtStage at u

  behind_another : (x : Party T W) (parties : List (Party T W)) (us : List (ActiveCall T W)) → Each (λ v. Not x.id v) us → Each (λ u. StandsIn parties u) us → Each (λ u. StandsIn (x ∷ parties) u) us
  behind_another x parties [] n h = tt
  behind_another x parties (u ∷ us) n h =
      let one = h.0 in (
        (one.0, ap (λ (b : Bool). if b then Some x.call.stage else stage_at u.party parties) (ne_eqb x.id u.party (λ e. n.0 (sym e))) ∙ one.1, one.2),
        behind_another x parties us n.1 h.1,
      )

  pub all_stand : (xs : List (ActiveCallWitness T W)) → AllDiffer (map active_call_of xs) → Each (λ u. StandsIn (map (λ (x : ActiveCallWitness T W). x.party) xs) u) (map active_call_of xs)
  all_stand [] h = tt
  all_stand (x ∷ xs) h =
      let parties : List (Party T W) = map (λ (y : ActiveCallWitness T W). y.party) xs in (
        (
          x.party.call.stage,
          ap (λ (b : Bool). if b then Some x.party.call.stage else stage_at x.party.id parties) (eq-eqb x.party.id x.party.id refl),
          (x.inner, refl),
        ),
        behind_another x.party parties (map active_call_of xs) h.0 (all_stand xs h.1),
      )

  -- and each party's call is among them
  pub all_there : (xs : List (ActiveCallWitness T W)) (p : ℕ) (at : Stage (QueueCall T) T W) → stage_at p (map (λ (x : ActiveCallWitness T W). x.party) xs) ≡ Some at
      → Any (λ u. (u.party ≡ p) × IsAtStage at u) (map active_call_of xs)
  all_there [] p at e = absurd (no_some at e)
  all_there (x ∷ xs) p at e = by (λ found. all_there xs p at found) (x.party.id == p) refl e where
    by : (stage_at p (map (λ (y : ActiveCallWitness T W). y.party) xs) ≡ Some at → Any (λ u. (u.party ≡ p) × IsAtStage at u) (map active_call_of xs))
        → (b : Bool) → (x.party.id == p) ≡ b → (if b then Some x.party.call.stage else stage_at p (map (λ (y : ActiveCallWitness T W). y.party) xs)) ≡ Some at
        → Any (λ u. (u.party ≡ p) × IsAtStage at u) (map active_call_of (x ∷ xs))
    by more true same found = inl (is_same x.party.id p same, (x.inner, ap (λ (s : Stage (QueueCall T) T W). phase x.inner s) (same_some x.party.call.stage at found)))
    by more false same found = inr (more found)
