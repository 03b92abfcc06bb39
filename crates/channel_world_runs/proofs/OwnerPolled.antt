-- Where a poll of a name is under way, a party at work works there. So where nobody is at work, nobody is polled.
use Rattle.std.specs.Prelude.{◌≡◌, ◌∷◌, ◌++◌, ◌⊎◌}
use Rattle.channel_world_runs.proofs.Lemmas.{List, [], Option, None, Some, inl, inr, refl, sym, ap, ◌∙◌, subst, Mark, Reply, Returned, WaitList, Call, Waiter, Configuration, Steps, AllKnown, names_begun, on_return_of, written_back, IsAmong, NameStatus, waits, polled, status, subject, Owned, first_name_table, NameState, name_state_begun, Agent, PartyId, Admitted, IsCalm, Comes, among_left, among_right, among_of, waiter_or}
use Rattle.channel_world_runs.specs.OwnerPolled.{IsWorkedAt, PolledAtWork}
use Rattle.channel_world_runs.proofs.OwnerCalls.{BeginsSo, begins_so}
use Rattle.channel_world_runs.proofs.OwnerRuns.{IsAfter, ended_as, parts, set, inner}
use Rattle.channel_world_runs.proofs.OwnerSteps.{first_calm}

calm_polled : (x : NameStatus) (line : WaitList) → IsCalm x → x ≡ polled line → ⊥
calm_polled x line h e = subst (λ (p : NameStatus). IsCalm p) e h

module _ {T : Type 0} where
  pub polled_first : (b : NameState T) → b.name_table ≡ first_name_table → PolledAtWork b
  polled_first b new w line e =
      absurd (calm_polled (status {T = T} first_name_table w) line (first_calm T w) (sym (ap (λ r. status r w) new) ∙ e))

  -- ---- a call begins

  pub polled_begun : (q : PartyId) (c : Call T) (b : NameState T) (s : Configuration T Waiter) → Owned b s → Admitted b.name_table c
      → PolledAtWork b
      → PolledAtWork (name_state_begun q c b)
  polled_begun q c b s o fine at w line e = by (begins_so b.name_table c o.none_amiss fine)
    where
      mine : Agent T
      mine = record { party = q.0; on_return = on_return_of b.name_table c }

      was : status b.name_table w ≡ polled line → IsWorkedAt w (name_state_begun q c b)
      was f = let h = at w line f in (h.0, among_left h.0 b.agents (mine ∷ []) h.1, h.2)

      by : BeginsSo b.name_table c → IsWorkedAt w (name_state_begun q c b)
      by (inl k) = was (sym (k.same w) ∙ e)
      by (inr k) = now (waiter_or w k.name)
        where
          now : (w ≡ k.name) ⊎ (w ≡ k.name → ⊥) → IsWorkedAt w (name_state_begun q c b)
          now (inr other) = was (sym (k.sets.others w other) ∙ e)
          now (inl same) =
              let p : k.now ≡ polled line =
              sym k.sets.there ∙ (ap (λ (v : Waiter). status (names_begun b.name_table c) v) (sym same) ∙ e) in
              (mine, among_right mine b.agents (mine ∷ []) (inl refl), k.works line p ∙ ap (λ (v : Waiter). Some v) (sym same))

  -- ---- a call makes a step

  -- an agent other than the one that leaves
  still : (front : List (Agent T)) (a : Agent T) (back : List (Agent T)) (x : Agent T) (w : Waiter) → subject x.on_return ≡ Some w
      → (subject a.on_return ≡ Some w → ⊥) → IsAmong x (front ++ (a ∷ back)) → IsAmong x (front ++ back)
  still front a back x w his other i = by (among_of x front (a ∷ back) i)
    where
      by : IsAmong x front ⊎ IsAmong x (a ∷ back) → IsAmong x (front ++ back)
      by (inl j) = among_left x front back j
      by (inr (inl same)) = absurd (other (ap (λ (y : Agent T). subject y.on_return) same ∙ his))
      by (inr (inr j)) = among_right x front back j

  pub polled_step : (b c : NameState T) (s t : Configuration T Waiter) (q : PartyId) (m : Mark) (r : Option (Reply T)) (kp : Option (Returned T))
      (names : List Waiter) → Owned b s → AllKnown s.now s.under_way
      → Steps s q.0 (record { mark = m; reply = r; kept = kp }) names t
      → IsAfter b q r kp names c → PolledAtWork b → PolledAtWork c
  polled_step b c s t q m None kp names o known st after at w line e =
      let h = at w line (ap (λ (d : NameState T). status d.name_table w) (sym after.4) ∙ e) in
      subst (λ (d : NameState T). IsWorkedAt w d) (sym after.4) (h.0, h.1, h.2)
  polled_step b c s t q m (Some y) kp names o known st after at w line e =
      let pt = parts b s t q.0 m (Some y) kp names o known st in
      let f = st.finishes in
      let same = ended_as b c s t q m y kp names o known st after in
      let name_table : c.name_table ≡ written_back pt.agent.on_return y f.kept b.name_table =
      ap (λ (d : NameState T). d.name_table) same in
      let agents : c.agents ≡ pt.front ++ pt.back = ap (λ (d : NameState T). d.agents) same in
      let settle = set b s t q.0 m y kp names o known st in
      let now : status (written_back pt.agent.on_return y f.kept b.name_table) w ≡ polled line =
      ap (λ x. status x w) (sym name_table) ∙ e in
      let other : (subject pt.agent.on_return ≡ Some w → ⊥) =
      own_not pt.agent (status (written_back pt.agent.on_return y f.kept b.name_table)) f.kept _ settle.own now in
      let h = at w line (sym (settle.others w other) ∙ now) in (
        h.0,
        subst (λ (l : List (Agent T)). IsAmong h.0 l) (sym agents)
            (still pt.front pt.agent pt.back h.0 w h.2 other (subst (λ (l : List (Agent T)). IsAmong h.0 l) pt.are h.1)),
        h.2,
      )
    where
      own_not : (x : Agent T) (p : Waiter → NameStatus) (kept : Returned T) (wait : Option (WaitList × Waiter)) → Comes p x.on_return kept wait
          → p w ≡ polled line → subject x.on_return ≡ Some w → ⊥
      own_not x p kept wait (inl calm) g his = calm_polled (p w) line (calm.1 w his) g
      own_not x p kept wait (inr (l, key, task, i, j, his', is)) g own =
          let same : task ≡ w = inner task w (sym his' ∙ own) in
          let no : waits (record { line = l; key = key }) ≡ polled line = sym is ∙ (ap p same ∙ g) in
          cc
