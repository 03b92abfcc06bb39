-- Nothing comes after the end: of a run whose steps say so much, no call that begins later gives a message.
use Rattle.std.specs.Prelude.{◌≡◌, ◌∷◌, ◌++◌}
use Rattle.channel_world.proofs.Words.{ℕ, List, [], map, Option, None, Some, inl, inr, sym, subst, Channel, Reply, Waiter, Spent, EachStep, call_begun, ActiveCall, sees, unless_ended, none_of, asks, WorldInvariant, All, IsAmong, Moment, LeadsBy, Entry, Step, StepSays}
use Rattle.channel_steps.specs.every_run.Over.{AllSpent}
use Rattle.channel_world.specs.TheEnd.{GiveNothing, NothingComesAfter}

module _ {T : Type 0} where
  -- the call, where it is one of these parties', has seen nothing but the end
  abbrev IsLate : List ℕ → ActiveCall T Waiter → Type 0
  IsLate parties u = IsAmong u.party parties → AllSpent u.seen

  none_late : (us : List (ActiveCall T Waiter)) → All (IsLate []) us
  none_late [] = tt
  none_late (u ∷ us) = (λ i. absurd i, none_late us)

  -- one more party, which has no call yet
  late_more : (p : ℕ) (parties : List ℕ) (us : List (ActiveCall T Waiter)) → All (λ (u : ActiveCall T Waiter). u.party ≡ p → ⊥) us
      → All (IsLate parties) us → All (IsLate (p ∷ parties)) us
  late_more p parties [] none h = tt
  late_more p parties (u ∷ us) none h = (by, late_more p parties us none.1 h.1) where
    by : IsAmong u.party (p ∷ parties) → AllSpent u.seen
    by (inl e) = absurd (none.0 (sym e))
    by (inr i) = h.0 i

  late_join : (parties : List ℕ) (us vs : List (ActiveCall T Waiter)) → All (IsLate parties) us → All (IsLate parties) vs
      → All (IsLate parties) (us ++ vs)
  late_join parties [] vs h k = k
  late_join parties (u ∷ us) vs h k = (h.0, late_join parties us vs h.1 k)

  late_left : (parties : List ℕ) (us vs : List (ActiveCall T Waiter)) → All (IsLate parties) (us ++ vs) → All (IsLate parties) us
  late_left parties [] vs h = tt
  late_left parties (u ∷ us) vs h = (h.0, late_left parties us vs h.1)

  late_right : (parties : List ℕ) (us vs : List (ActiveCall T Waiter)) → All (IsLate parties) (us ++ vs) → All (IsLate parties) vs
  late_right parties [] vs h = h
  late_right parties (u ∷ us) vs h = late_right parties us vs h.1

  late_sees : (parties : List ℕ) (c : Channel T Waiter) (us : List (ActiveCall T Waiter)) → Spent c → All (IsLate parties) us
      → All (IsLate parties) (map (sees c) us)
  late_sees parties c [] over h = tt
  late_sees parties c (u ∷ us) over h = (λ i. (over, h.0 i), late_sees parties c us over h.1)

  late_ended : (parties : List ℕ) (u : ActiveCall T Waiter) (r : Option (Reply T)) → IsLate parties u → All (IsLate parties) (unless_ended u r)
  late_ended parties u None h = (h, tt)
  late_ended parties u (Some r) h = tt

  -- ---- over a run from a moment at which it is over

  give_nothing : (parties : List ℕ) (m : Moment T) (xs : List (Step T)) (es : List (Entry T)) (ns : List (Moment T))
      → WorldInvariant m.name_state m.configuration → EachStep LeadsBy m xs es ns → EachStep StepSays m xs es ns → Spent m.configuration.now
      → All (IsLate parties) m.configuration.under_way → GiveNothing parties xs es
  give_nothing parties m [] [] [] k h says over late = tt
  give_nothing parties m (Step.Begin p c ∷ xs) (e ∷ es) (n ∷ ns) k h says over late =
      let b = says.0.call in
      let first = says.0.over over in
      let none = none_of m.name_state m.configuration p c k says.0.accepted in
      let now : ActiveCall T Waiter = call_begun p.0 (asks m.name_state.name_table c) b.at_first m.configuration.now in
      let all = late_join (p.0 ∷ parties) m.configuration.under_way (now ∷ []) (late_more p.0 parties m.configuration.under_way none late) (λ i. (over, tt), tt) in
      give_nothing (p.0 ∷ parties) n xs es ns h.0.holds.kept h.1 says.1 first.0
      (subst (λ (us : List (ActiveCall T Waiter)). All (IsLate (p.0 ∷ parties)) us) (sym b.under_way) all)
  give_nothing parties m (Step.Step p ∷ xs) (e ∷ es) (n ∷ ns) k h says over late =
      let s = says.0.call in
      let first = says.0.over over in
      let there = subst (λ (us : List (ActiveCall T Waiter)). All (IsLate parties) us) s.under_way late in
      let right = late_right parties s.before (s.call ∷ s.behind) there in
      let after : IsLate parties s.after =
      subst (λ (u : ActiveCall T Waiter). IsLate parties u) (sym s.is) (λ i. (first.0, right.0 i)) in
      let behind = late_join parties (unless_ended s.after e.reply) (map (sees n.configuration.now) s.behind)
      (late_ended parties s.after e.reply after) (late_sees parties n.configuration.now s.behind first.0 right.1) in
      let all = late_join parties (map (sees n.configuration.now) s.before) (unless_ended s.after e.reply ++ map (sees n.configuration.now) s.behind)
      (late_sees parties n.configuration.now s.before first.0 (late_left parties s.before (s.call ∷ s.behind) there)) behind in (
        λ i gives. s.late (right.0 (subst (λ (q : ℕ). IsAmong q parties) (sym s.party) i)) gives,
        give_nothing parties n xs es ns h.0.holds.kept h.1 says.1 first.0
            (subst (λ (us : List (ActiveCall T Waiter)). All (IsLate parties) us) (sym s.goes_on) all),
      )
  give_nothing parties m xs es ns k h says over late = absurd h

  -- ---- steps that were not made say nothing

  none_made : (parties : List ℕ) (xs : List (Step T)) → GiveNothing parties xs []
  none_made parties [] = tt
  none_made parties (Step.Begin p c ∷ xs) = tt
  none_made parties (Step.Step p ∷ xs) = tt

  in_front : (left : List (Step T)) (parties : List ℕ) (m : Moment T) (xs : List (Step T)) (es : List (Entry T)) (ns : List (Moment T))
      → EachStep LeadsBy m xs es ns → GiveNothing parties xs es → GiveNothing parties (xs ++ left) es
  in_front left parties m [] [] [] h g = none_made parties left
  in_front left parties m (Step.Begin p c ∷ xs) (e ∷ es) (n ∷ ns) h g = in_front left (p.0 ∷ parties) n xs es ns h.1 g
  in_front left parties m (Step.Step p ∷ xs) (e ∷ es) (n ∷ ns) h g = (g.0, in_front left parties n xs es ns h.1 g.1)
  in_front left parties m xs es ns h g = absurd h

  nothing_made : (xs : List (Step T)) → NothingComesAfter xs []
  nothing_made [] = tt
  nothing_made (x ∷ xs) = tt

  -- ---- all of it

  made_before : (left : List (Step T)) (m : Moment T) (xs : List (Step T)) (es : List (Entry T)) (ns : List (Moment T))
      → WorldInvariant m.name_state m.configuration → EachStep LeadsBy m xs es ns → EachStep StepSays m xs es ns → Spent m.configuration.now
      → GiveNothing [] (xs ++ left) es
  made_before left m xs es ns k h says over =
      in_front left [] m xs es ns h (give_nothing [] m xs es ns k h says over (none_late m.configuration.under_way))

  made_after : (left : List (Step T)) (m : Moment T) (xs : List (Step T)) (es : List (Entry T)) (ns : List (Moment T))
      → WorldInvariant m.name_state m.configuration → EachStep LeadsBy m xs es ns → EachStep StepSays m xs es ns → NothingComesAfter (xs ++ left) es
  made_after left m [] [] [] k h says = nothing_made left
  made_after left m (x ∷ xs) (e ∷ es) (n ∷ ns) k h says = (
    λ ended. made_before left n xs es ns h.0.holds.kept h.1 says.1 (says.0.the_end ended),
    made_after left n xs es ns h.0.holds.kept h.1 says.1,
  )
  made_after left m [] [] (n ∷ ns) k h says = absurd h
  made_after left m [] (e ∷ es) ns k h says = absurd h
  made_after left m (x ∷ xs) [] ns k h says = absurd h
  made_after left m (x ∷ xs) (e ∷ es) [] k h says = absurd h

  module _ (steps left : List (Step T)) (m : Moment T) (xs : List (Step T)) (es : List (Entry T)) (ns : List (Moment T))
      (first : steps ≡ xs ++ left) (k : WorldInvariant m.name_state m.configuration) (h : EachStep LeadsBy m xs es ns) (says : EachStep StepSays m xs es ns) where
    pub ended_before : Spent m.configuration.now → GiveNothing [] steps es
    ended_before over = subst (λ (l : List (Step T)). GiveNothing [] l es) (sym first) (made_before left m xs es ns k h says over)

    pub nothing_comes : NothingComesAfter steps es
    nothing_comes = subst (λ (l : List (Step T)). NothingComesAfter l es) (sym first) (made_after left m xs es ns k h says)
