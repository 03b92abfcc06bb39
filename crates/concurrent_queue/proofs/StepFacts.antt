-- The contract of a step, from what each form delivers.
use Rattle.std.proofs.Common.{◌≡◌, ℕ, ◌<◌, List, [], ◌∷◌, ◌++◌, Option, None, Some, MatchOption, refl, sym, ap, ◌∙◌, subst}
use Rattle.concurrent_queue.specs.Contents.{Contents}
use Rattle.concurrent_queue.specs.Queue.{Queue, Phase, asked, after, Continues, Answers, IsInRange}
use Rattle.concurrent_queue.specs.machine.Places.{Place}
use Rattle.concurrent_queue.specs.Step.{ActiveQueueCall, seat, AreAt, FitsBy, phases, OneCell, PhasesQuiet, chain_after}
use Rattle.concurrent_queue.specs.machine.Forms.{place, place_phases, FormStep, FormSteps, FormStarts, FormRanks}
use Rattle.concurrent_queue.specs.declared.call.QueueAsk.{QueueAsk}
use Rattle.concurrent_queue.specs.declared.call.QueueReply.{QueueReply}
use Rattle.concurrent_queue.specs.declared.call.Stepped.{Stepped}
use Rattle.concurrent_queue.specs.declared.queue_call.CallState.{CallState}
use Rattle.concurrent_queue.specs.declared.queue_call.QueueCall.{QueueCall}

module _ {A T : Type 0} (at : CallState T → A → Type 0) where
  -- the places of a list of seats, where one seat stands between the others
  pub record Parted (l r : List (ActiveQueueCall T)) (s : ActiveQueueCall T) (places : List (Place A T)) : Type 0 where
    pub left : List (Place A T)
    pub mine : Place A T
    pub right : List (Place A T)
    pub there : places ≡ left ++ mine ∷ right
    pub lefts : AreAt at l left
    pub stands : at s.call.state mine.action
    pub phase : s.phase ≡ mine.phase
    pub rights : AreAt at r right

  pub part : (l r : List (ActiveQueueCall T)) (s : ActiveQueueCall T) (places : List (Place A T)) → AreAt at (l ++ s ∷ r) places → Parted l r s places
  part [] r s (x ∷ xs) h = record { left = []; mine = x; right = xs; there = refl; lefts = tt; stands = h.0.0; phase = h.0.1; rights = h.1 }
  part [] r s [] h = absurd h
  part (y ∷ l) r s [] h = absurd h
  part (y ∷ l) r s (x ∷ xs) h =
      let g = part l r s xs h.1 in
      record { left = x ∷ g.left; mine = g.mine; right = g.right; there = ap (λ (zs : List (Place A T)). x ∷ zs) g.there; lefts = (h.0, g.lefts); stands = g.stands; phase = g.phase; rights = g.rights }

  pub join : (l r : List (ActiveQueueCall T)) (xs ys : List (Place A T)) → AreAt at l xs → AreAt at r ys → AreAt at (l ++ r) (xs ++ ys)
  join [] r [] ys h g = g
  join [] r (x ∷ xs) ys h g = absurd h
  join (s ∷ l) r [] ys h g = absurd h
  join (s ∷ l) r (x ∷ xs) ys h g = (h.0, join l r xs ys h.1 g)

  pub cut : (l r : List (ActiveQueueCall T)) (places : List (Place A T)) → AreAt at (l ++ r) places → (xs : List (Place A T)) × (ys : List (Place A T)) × (places ≡ xs ++ ys) × AreAt at l xs × AreAt at r ys
  cut [] r places h = ([], places, refl, tt, h)
  cut (s ∷ l) r [] h = absurd h
  cut (s ∷ l) r (x ∷ xs) h = let g = cut l r xs h.1 in (x ∷ g.0, g.1, ap (λ (zs : List (Place A T)). x ∷ zs) g.2, (h.0, g.3), g.4)

  pub same_phases : (ss : List (ActiveQueueCall T)) (xs : List (Place A T)) → AreAt at ss xs → phases ss ≡ place_phases xs
  same_phases [] [] h = refl
  same_phases [] (x ∷ xs) h = absurd h
  same_phases (s ∷ ss) [] h = absurd h
  same_phases (s ∷ ss) (x ∷ xs) h =
      ap (λ (p : Phase T). p ∷ phases ss) h.0.1 ∙ ap (λ (ps : List (Phase T)). x.phase ∷ ps) (same_phases ss xs h.1)

  module _ (means : Contents T → Queue T → List (Place A T) → Type 0) (left : Contents T → A → ℕ) (wrap : A → CallState T) where
    abbrev pub after_call : Stepped A T → QueueCall T
    after_call s = record { state = wrap s.action; mark = s.mark }

    -- the same for seats
    pub record SeatStep (c : Contents T) (a : A) (p : Phase T) (d : Contents T) (s : Stepped A T) (q : Queue T) (l r : List (ActiveQueueCall T)) : Type 0 where
      pub same_form : d.form ≡ c.form
      pub one_cell : OneCell c d
      pub effect : MatchOption s.reply
          ((p' : Phase T) × Continues q p s.mark p' × FitsBy at (means d (after p s.mark q)) (l ++ seat (after_call s) p' ∷ r))
          (λ x. Answers q p s.mark x × FitsBy at (means d (after p s.mark q)) (l ++ r))
      pub ends : PhasesQuiet q (phases (l ++ r)) → MatchOption s.reply (left d s.action < left c a) (λ x. Unit {0})

    module _ (wraps : (a : A) → at (wrap a) a) (c : Contents T) (a : A) (d : Contents T) (s : Stepped A T) (q : Queue T) (p : Phase T) (l r : List (ActiveQueueCall T)) (before : QueueCall T) (places : List (Place A T)) (parts : Parted l r (seat before p) places) where
      lift : (reply : Option (QueueReply T))
          → MatchOption reply
          ((p' : Phase T) × Continues q p s.mark p' × means d (after p s.mark q) (parts.left ++ place s.action p' ∷ parts.right))
          (λ x. Answers q p s.mark x × means d (after p s.mark q) (parts.left ++ parts.right))
          → MatchOption reply
          ((p' : Phase T) × Continues q p s.mark p' × FitsBy at (means d (after p s.mark q)) (l ++ seat (after_call s) p' ∷ r))
          (λ x. Answers q p s.mark x × FitsBy at (means d (after p s.mark q)) (l ++ r))
      lift None h =
          let mine : Place A T = place s.action h.0 in
          (h.0, h.1, (parts.left ++ mine ∷ parts.right, join l (seat (after_call s) h.0 ∷ r) parts.left (mine ∷ parts.right) parts.lefts ((wraps s.action, refl), parts.rights), h.2))
      lift (Some x) h = (h.0, (parts.left ++ parts.right, join l r parts.left parts.right parts.lefts parts.rights, h.1))

      pub lifted : FormStep means left c a p d s q parts.left parts.right → SeatStep c a p d s q l r
      lifted h =
          let same : phases (l ++ r) ≡ place_phases (parts.left ++ parts.right) = same_phases (l ++ r) (parts.left ++ parts.right) (join l r parts.left parts.right parts.lefts parts.rights) in
          record {
            same_form = h.same_form;
            one_cell = h.one_cell;
            effect = lift s.reply h.effect;
            ends = λ (quiet : PhasesQuiet q (phases (l ++ r))). h.ends (subst (λ (ps : List (Phase T)). PhasesQuiet q ps) same quiet);
          }

    -- a new call comes in
    pub seat_start : (start : QueueAsk T → A) → FormStarts means left start → (c : Contents T) (q : Queue T) (a : QueueAsk T) (l r : List (ActiveQueueCall T)) (call : QueueCall T) → at call.state (start a)
        → FitsBy at (means c q) (l ++ r) → FitsBy at (means c q) (l ++ seat call (asked a) ∷ r)
    seat_start start facts c q a l r call stands fits =
        let parts = cut l r fits.0 fits.1 in
        let m : means c q (parts.0 ++ parts.1) = subst (λ (xs : List (Place A T)). means c q xs) parts.2 fits.2 in
        (parts.0 ++ place (start a) (asked a) ∷ parts.1, join l (seat call (asked a) ∷ r) parts.0 (place (start a) (asked a) ∷ parts.1) parts.3 ((stands, refl), parts.4), facts c q a parts.0 parts.1 m)

    pub seat_ranks : FormRanks means left → (c : Contents T) (q : Queue T) (p : Phase T) (l r : List (ActiveQueueCall T)) (call : QueueCall T) (a : A) → ((x : A) → at call.state x → x ≡ a)
        → FitsBy at (means c q) (l ++ seat call p ∷ r) → left c a < 64
    seat_ranks facts c q p l r call a is fits =
        let parts = part l r (seat call p) fits.0 fits.1 in
        let stood : means c q (parts.left ++ parts.mine ∷ parts.right) = subst (λ (xs : List (Place A T)). means c q xs) parts.there fits.2 in
        subst (λ (x : A). left c x < 64) (is parts.mine.action parts.stands) (facts c q parts.mine.action parts.mine.phase parts.left parts.right stood)

  -- one step of a call whose action is a, among seats
  pub seat_step : (means : List ℕ → Contents T → Queue T → List (Place A T) → Type 0) (left : Contents T → A → ℕ) (wrap : A → CallState T) → ((b : A) → at (wrap b) b) → (step : Contents T → A → Contents T → Stepped A T → Type 0) → FormSteps means left step
      → (chain : List ℕ) (c : Contents T) (a : A) (d : Contents T) (s : Stepped A T) (q : Queue T) (p : Phase T) (l r : List (ActiveQueueCall T)) (before : QueueCall T)
      → ((x : A) → at before.state x → x ≡ a) → step c a d s → IsInRange q → FitsBy at (means chain c q) (l ++ seat before p ∷ r) → SeatStep (means (chain_after chain c d)) left wrap c a p d s q l r
  seat_step means left wrap wraps step facts chain c a d s q p l r before is made range fits =
      let parts = part l r (seat before p) fits.0 fits.1 in
      let mine : parts.mine ≡ place a p = ap (λ (x : A). place x parts.mine.phase) (is parts.mine.action parts.stands) ∙ ap (λ (x : Phase T). place a x) (sym parts.phase) in
      let stood : means chain c q (parts.left ++ place a p ∷ parts.right) =
      subst (λ (x : Place A T). means chain c q (parts.left ++ x ∷ parts.right)) mine (subst (λ (xs : List (Place A T)). means chain c q xs) parts.there fits.2) in
      lifted (means (chain_after chain c d)) left wrap wraps c a d s q p l r before fits.0 parts (facts chain c a d s q p parts.left parts.right made range stood)
