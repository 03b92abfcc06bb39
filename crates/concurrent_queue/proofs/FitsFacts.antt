-- What callers use of Fits, by the form of the queue.
use Rattle.std.proofs.Common.{◌≡◌, ℕ, ◌^◌, ◌<◌, ◌≤◌, ⊎_elim, inl, inr, ◌==◌, Bool, true, false, if◌then◌else◌, arith, option_to_list, List, [], ◌∷◌, ◌++◌, Option, None, Some, MatchOption, Result, Ok, Err, IfOk, refl, sym, ap, subst}
use Rattle.concurrent_queue.specs.Contents.{Contents, empty_slot, empty_blocks, slot_at}
use Rattle.concurrent_queue.specs.Queue.{Queue, Phase, asked, after, Continues, Answers, IsInRange, opened}
use Rattle.std.proofs.lemmas.Bool.Decides.{nat_tests}
use Rattle.concurrent_queue.specs.machine.Dispatch.{IsSingleStep, in_single, BySingle, IsRingStep, in_ring, ByRing, in_blocks, ByBlocks, IsBoundedFirst, IsFirstStep, IsStateStep, ring_cap}
use Rattle.concurrent_queue.specs.Capacity.{capacity_of}
use Rattle.concurrent_queue.specs.machine.RingWords.{cap_of, ring_mark, ring_start}
use Rattle.concurrent_queue.specs.machine.RingMeans.{RingMeans}
use Rattle.concurrent_queue.specs.machine.RingRank.{ring_rank}
use Rattle.concurrent_queue.specs.machine.RingReadings.{ring_closed, ring_counted, ring_length, ring_slot, ring_held}
use Rattle.concurrent_queue.specs.machine.Single.{start}
use Rattle.concurrent_queue.specs.machine.SingleState.{SingleMeans, single_rank}
use Rattle.concurrent_queue.specs.machine.BlocksForm.{UnboundedMeans}
use Rattle.concurrent_queue.specs.machine.BlocksWords.{IsBlocksStep, begin, blocks_closed, blocks_length, blocks_counted, blocks_slot, blocks_items}
use Rattle.concurrent_queue.specs.machine.BlocksLeft.{blocks_rank}
use Rattle.concurrent_queue.specs.Step.{ActiveQueueCall, seat, chain_after, Fits, FitsAt, FitsForm, FitsSlot, FitsRing, FitsBy, IsAtSingle, IsAtRing, IsAtBlocks, phases, OneCell, PhasesQuiet, rank, rank_by, rank_first, rank_bounded, rank_blocks, single_closed, single_length, Starts, IsQueueStep, LiesBy, Lies, IsBrought, ShowsBy, Shows, closed_by, closed_in, length_by, length_in, counted_by, counted_in, slot_by, slot_in, items_by, items_in}
use Rattle.std.specs.declared.alloc.AllocError.{AllocError}
use Rattle.concurrent_queue.specs.Made.{IsNew, new_cells}
use Rattle.concurrent_queue.specs.Plain.{contents_of}
use Rattle.concurrent_queue.specs.declared.plain.PlainCells.{PlainCells}
use Rattle.concurrent_queue.specs.declared.call.QueueAsk.{QueueAsk}
use Rattle.concurrent_queue.specs.declared.call.QueueMark.{QueueMark}
use Rattle.concurrent_queue.specs.declared.call.QueueReply.{QueueReply}
use Rattle.concurrent_queue.specs.declared.call.Stepped.{Stepped}
use Rattle.concurrent_queue.specs.declared.cells.QueueForm.{QueueForm}
use Rattle.concurrent_queue.specs.declared.cells.QueueForm.TheVariants.{Bounded, Unbounded}
use Rattle.concurrent_queue.specs.declared.single.SingleAction.{SingleAction}
use Rattle.concurrent_queue.specs.declared.bounded.RingAction.{RingAction}
use Rattle.concurrent_queue.specs.declared.unbounded.action.UnboundedCall.{UnboundedCall}
use Rattle.concurrent_queue.specs.declared.cells.Slot.TheVariants.{At}
use Rattle.concurrent_queue.specs.declared.queue_call.CallState.{CallState}
use Rattle.concurrent_queue.specs.declared.queue_call.CallState.TheVariants.{Asked, Single, Ring, Blocks, Finished}
use Rattle.concurrent_queue.specs.declared.queue_call.QueueCall.{QueueCall}
use Rattle.concurrent_queue.proofs.StepFacts.{SeatStep, seat_step, seat_start, seat_ranks, part, same_phases}
use Rattle.concurrent_queue.proofs.SingleTheorem.{single_steps, single_starts, single_ranks, single_opened}
use Rattle.concurrent_queue.proofs.SingleShows.{single_shows, single_lies}
use Rattle.concurrent_queue.proofs.BlocksFacts.{blocks_steps, blocks_starts, blocks_ranks, blocks_opened}
use Rattle.concurrent_queue.proofs.BlocksShows.{unbounded_shows, unbounded_lies}
use Rattle.concurrent_queue.proofs.RingShape.{mark_is}
use Rattle.concurrent_queue.proofs.RingTheorem.{ring_form_steps, ring_form_starts, ring_form_ranks}
use Rattle.concurrent_queue.proofs.RingShows.{ring_shows, ring_lies}
use Rattle.concurrent_queue.proofs.RingMade.{ring_opened}
use Rattle.concurrent_queue.specs.machine.RingMade.{empty_ring}

is_one : (cap : ℕ) → cap ≡ 1 → (cap == 1) ≡ true
is_one cap e = grind (arith, nat_tests)

not_one : (cap : ℕ) → 2 ≤ cap → (cap == 1) ≡ false
not_one cap h = grind (arith, nat_tests)

pub cap_same : (cap : ℕ) → cap ≤ 2 ^ 58 → cap_of cap ≡ cap
cap_same cap h = grind (arith, nat_tests)

module _ {T : Type 0} where
  wraps_single : (a : SingleAction T) → IsAtSingle (Single a) a
  wraps_single a = refl

  wraps_blocks : (a : UnboundedCall T) → IsAtBlocks (Blocks a) a
  wraps_blocks a = refl

  -- the call after a step
  abbrev pub made_call : Stepped (CallState T) T → QueueCall T
  made_call s = record { state = s.action; mark = s.mark }

  -- a step in the words of a form
  pub record StepsIn (f : QueueForm) (chain : List ℕ) (c : Contents T) (before : QueueCall T) (p : Phase T) (d : Contents T) (s : Stepped (CallState T) T) (q : Queue T) (l r : List (ActiveQueueCall T)) : Type 0 where
    pub same_form : d.form ≡ c.form
    pub one_cell : OneCell c d
    pub effect : MatchOption s.reply
        ((p' : Phase T) × Continues q p s.mark p' × FitsForm f (chain_after chain c d) d (after p s.mark q) (l ++ seat (made_call s) p' ∷ r))
        (λ x. Answers q p s.mark x × FitsForm f (chain_after chain c d) d (after p s.mark q) (l ++ r))
    pub ends : PhasesQuiet q (phases (l ++ r)) → MatchOption s.reply (rank_by f d s.action < rank_by f c before.state) (λ x. Unit {0})

  module _ (chain : List ℕ) (cap : ℕ) (one : cap ≡ 1) (c : Contents T) (a : SingleAction T) (before : QueueCall T) (p : Phase T) (d : Contents T) (x : Stepped (SingleAction T) T) (q : Queue T) (l r : List (ActiveQueueCall T)) (sized : rank_bounded cap c before.state ≡ single_rank c a) where
    single_does : (reply : Option (QueueReply T)) (call : QueueCall T)
        → MatchOption reply
        ((p' : Phase T) × Continues q p x.mark p' × FitsBy IsAtSingle (SingleMeans d (after p x.mark q)) (l ++ seat call p' ∷ r))
        (λ y. Answers q p x.mark y × FitsBy IsAtSingle (SingleMeans d (after p x.mark q)) (l ++ r))
        → MatchOption reply
        ((p' : Phase T) × Continues q p x.mark p' × FitsForm (Bounded cap) (chain_after chain c d) d (after p x.mark q) (l ++ seat call p' ∷ r))
        (λ y. Answers q p x.mark y × FitsForm (Bounded cap) (chain_after chain c d) d (after p x.mark q) (l ++ r))
    single_does None call h = (h.0, h.1, inl (record { one = one; calls = h.2 }))
    single_does (Some y) call h = (h.0, inl (record { one = one; calls = h.1 }))

    pub single_in : SeatStep IsAtSingle SingleMeans single_rank Single c a p d x q l r → StepsIn (Bounded cap) chain c before p d (in_single x) q l r
    single_in h =
        record {
          same_form = h.same_form;
          one_cell = h.one_cell;
          effect = single_does x.reply (made_call (in_single x)) h.effect;
          ends = λ (quiet : PhasesQuiet q (phases (l ++ r))). subst (λ (n : ℕ). MatchOption x.reply (single_rank d x.action < n) (λ y. Unit {0})) (sym sized) (h.ends quiet);
        }

  module _ (chain : List ℕ) (cap : ℕ) (two : 2 ≤ cap) (most : cap ≤ 2 ^ 58) (c : Contents T) (a : RingAction T) (before : QueueCall T) (p : Phase T) (d : Contents T) (x : Stepped (RingAction T) T) (q : Queue T) (l r : List (ActiveQueueCall T)) (sized : rank_bounded cap c before.state ≡ ring_rank (ring_mark cap) c a) where
    ring_does : (reply : Option (QueueReply T)) (call : QueueCall T)
        → MatchOption reply
        ((p' : Phase T) × Continues q p x.mark p' × FitsBy IsAtRing (RingMeans cap (ring_mark cap) d (after p x.mark q)) (l ++ seat call p' ∷ r))
        (λ y. Answers q p x.mark y × FitsBy IsAtRing (RingMeans cap (ring_mark cap) d (after p x.mark q)) (l ++ r))
        → MatchOption reply
        ((p' : Phase T) × Continues q p x.mark p' × FitsForm (Bounded cap) (chain_after chain c d) d (after p x.mark q) (l ++ seat call p' ∷ r))
        (λ y. Answers q p x.mark y × FitsForm (Bounded cap) (chain_after chain c d) d (after p x.mark q) (l ++ r))
    ring_does None call h = (h.0, h.1, inr (record { two = two; most = most; calls = h.2 }))
    ring_does (Some y) call h = (h.0, inr (record { two = two; most = most; calls = h.1 }))

    pub ring_in : SeatStep IsAtRing (λ c' q' xs. RingMeans cap (ring_mark cap) c' q' xs) (ring_rank (ring_mark cap)) Ring c a p d x q l r → StepsIn (Bounded cap) chain c before p d (in_ring x) q l r
    ring_in h =
        record {
          same_form = h.same_form;
          one_cell = h.one_cell;
          effect = ring_does x.reply (made_call (in_ring x)) h.effect;
          ends = λ (quiet : PhasesQuiet q (phases (l ++ r))). subst (λ (n : ℕ). MatchOption x.reply (ring_rank (ring_mark cap) d x.action < n) (λ y. Unit {0})) (sym sized) (h.ends quiet);
        }

  module _ (chain : List ℕ) (c : Contents T) (a : UnboundedCall T) (before : QueueCall T) (p : Phase T) (d : Contents T) (x : Stepped (UnboundedCall T) T) (q : Queue T) (l r : List (ActiveQueueCall T)) (sized : rank_blocks c before.state ≡ blocks_rank c a) where
    blocks_does : (reply : Option (QueueReply T)) (call : QueueCall T)
        → MatchOption reply
        ((p' : Phase T) × Continues q p x.mark p' × FitsBy IsAtBlocks (UnboundedMeans (chain_after chain c d) d (after p x.mark q)) (l ++ seat call p' ∷ r))
        (λ y. Answers q p x.mark y × FitsBy IsAtBlocks (UnboundedMeans (chain_after chain c d) d (after p x.mark q)) (l ++ r))
        → MatchOption reply
        ((p' : Phase T) × Continues q p x.mark p' × FitsForm Unbounded (chain_after chain c d) d (after p x.mark q) (l ++ seat call p' ∷ r))
        (λ y. Answers q p x.mark y × FitsForm Unbounded (chain_after chain c d) d (after p x.mark q) (l ++ r))
    blocks_does None call h = h
    blocks_does (Some y) call h = h

    pub blocks_in : SeatStep IsAtBlocks (UnboundedMeans (chain_after chain c d)) blocks_rank Blocks c a p d x q l r → StepsIn Unbounded chain c before p d (in_blocks x) q l r
    blocks_in h =
        record {
          same_form = h.same_form;
          one_cell = h.one_cell;
          effect = blocks_does x.reply (made_call (in_blocks x)) h.effect;
          ends = λ (quiet : PhasesQuiet q (phases (l ++ r))). subst (λ (n : ℕ). MatchOption x.reply (blocks_rank d x.action < n) (λ y. Unit {0})) (sym sized) (h.ends quiet);
        }

  -- ---- a step, by the form and the state of its call

  module _ (chain : List ℕ) (c : Contents T) (before : QueueCall T) (p : Phase T) (d : Contents T) (s : Stepped (CallState T) T) (q : Queue T) (l r : List (ActiveQueueCall T)) (range : IsInRange q) where
    by_single : (cap : ℕ) (a : SingleAction T) → ((x : SingleAction T) → IsAtSingle before.state x → x ≡ a) → rank_bounded cap c before.state ≡ single_rank c a
        → BySingle c a d s → FitsSlot cap c q (l ++ seat before p ∷ r) → StepsIn (Bounded cap) chain c before p d s q l r
    by_single cap a is sized (x, made, shape) fits =
        let h = seat_step IsAtSingle (λ k c' q' xs. SingleMeans c' q' xs) single_rank Single wraps_single IsSingleStep single_steps chain c a d x q p l r before is made range fits.calls in
        subst (λ (y : Stepped (CallState T) T). StepsIn (Bounded cap) chain c before p d y q l r) (sym shape) (single_in chain cap fits.one c a before p d x q l r sized h)

    by_ring : (cap : ℕ) (a : RingAction T) → ((x : RingAction T) → IsAtRing before.state x → x ≡ a) → rank_bounded cap c before.state ≡ ring_rank (ring_mark cap) c a
        → ByRing (cap_of cap) c a d s → FitsRing cap c q (l ++ seat before p ∷ r) → StepsIn (Bounded cap) chain c before p d s q l r
    by_ring cap a is sized (x, made, shape) fits =
        let two = fits.two in
        let step : IsRingStep cap c a d x = subst (λ (n : ℕ). IsRingStep n c a d x) (cap_same cap fits.most) made in
        let h = seat_step IsAtRing (λ k c' q' xs. RingMeans cap (ring_mark cap) c' q' xs) (ring_rank (ring_mark cap)) Ring (λ b. refl) (IsRingStep cap)
        (ring_form_steps cap (ring_mark cap) fits.two fits.most (mark_is cap (omega arith) fits.most)) chain c a d x q p l r before is step range fits.calls in
        subst (λ (y : Stepped (CallState T) T). StepsIn (Bounded cap) chain c before p d y q l r) (sym shape) (ring_in chain cap fits.two fits.most c a before p d x q l r sized h)

    by_blocks : (a : UnboundedCall T) → ((x : UnboundedCall T) → IsAtBlocks before.state x → x ≡ a) → rank_blocks c before.state ≡ blocks_rank c a
        → ByBlocks c a d s → FitsForm Unbounded chain c q (l ++ seat before p ∷ r) → StepsIn Unbounded chain c before p d s q l r
    by_blocks a is sized (x, made, shape) fits =
        let h = seat_step IsAtBlocks UnboundedMeans blocks_rank Blocks wraps_blocks IsBlocksStep blocks_steps chain c a d x q p l r before is made range fits in
        subst (λ (y : Stepped (CallState T) T). StepsIn Unbounded chain c before p d y q l r) (sym shape) (blocks_in chain c a before p d x q l r sized h)

  module _ (chain : List ℕ) (c : Contents T) (mark : QueueMark) (p : Phase T) (d : Contents T) (s : Stepped (CallState T) T) (q : Queue T) (l r : List (ActiveQueueCall T)) (range : IsInRange q) where
    abbrev stood : CallState T → QueueCall T
    stood state = record { state = state; mark = mark }

    slot_steps : (cap : ℕ) (state : CallState T) → c.form ≡ Bounded cap → IsStateStep c state d s → FitsSlot cap c q (l ++ seat (stood state) p ∷ r) → StepsIn (Bounded cap) chain c (stood state) p d s q l r
    slot_steps cap (Asked a) e made fits =
        let first : IsFirstStep (Bounded cap) c a d s = subst (λ (f : QueueForm). IsFirstStep f c a d s) e made in
        by_single chain c (stood (Asked a)) p d s q l r range cap (start a) (λ x h. h) (ap (λ (b : Bool). rank_first b (ring_mark cap) c a) (is_one cap fits.one))
        (subst (λ (b : Bool). IsBoundedFirst b (cap_of cap) c a d s) (is_one cap fits.one) first) fits
    slot_steps cap (Single a) e made fits = by_single chain c (stood (Single a)) p d s q l r range cap a (λ x h. h) refl made fits
    slot_steps cap (Ring a) e made fits =
        let parts = part IsAtSingle l r (seat (stood (Ring a)) p) fits.calls.0 fits.calls.1 in absurd parts.stands
    slot_steps cap (Blocks a) e made fits =
        let parts = part IsAtSingle l r (seat (stood (Blocks a)) p) fits.calls.0 fits.calls.1 in absurd parts.stands
    slot_steps cap Finished e made fits =
        let parts = part IsAtSingle l r (seat (stood Finished) p) fits.calls.0 fits.calls.1 in absurd parts.stands

    ring_steps_in : (cap : ℕ) (state : CallState T) → c.form ≡ Bounded cap → IsStateStep c state d s → FitsRing cap c q (l ++ seat (stood state) p ∷ r) → StepsIn (Bounded cap) chain c (stood state) p d s q l r
    ring_steps_in cap (Asked a) e made fits =
        let first : IsFirstStep (Bounded cap) c a d s = subst (λ (f : QueueForm). IsFirstStep f c a d s) e made in
        by_ring chain c (stood (Asked a)) p d s q l r range cap (ring_start a) (λ x h. h) (ap (λ (b : Bool). rank_first b (ring_mark cap) c a) (not_one cap fits.two))
        (subst (λ (b : Bool). IsBoundedFirst b (cap_of cap) c a d s) (not_one cap fits.two) first) fits
    ring_steps_in cap (Single a) e made fits =
        let parts = part IsAtRing l r (seat (stood (Single a)) p) fits.calls.0 fits.calls.1 in absurd parts.stands
    ring_steps_in cap (Ring a) e made fits = by_ring chain c (stood (Ring a)) p d s q l r range cap a (λ x h. h) refl (subst (λ (f : QueueForm). ByRing (ring_cap f) c a d s) e made) fits
    ring_steps_in cap (Blocks a) e made fits =
        let parts = part IsAtRing l r (seat (stood (Blocks a)) p) fits.calls.0 fits.calls.1 in absurd parts.stands
    ring_steps_in cap Finished e made fits =
        let parts = part IsAtRing l r (seat (stood Finished) p) fits.calls.0 fits.calls.1 in absurd parts.stands

    steps_in : (f : QueueForm) (state : CallState T) → c.form ≡ f → IsStateStep c state d s → FitsForm f chain c q (l ++ seat (stood state) p ∷ r) → StepsIn f chain c (stood state) p d s q l r
    steps_in (Bounded cap) state e made fits = ⊎_elim (slot_steps cap state e made) (ring_steps_in cap state e made) fits
    steps_in Unbounded (Asked a) e made fits =
        by_blocks chain c (stood (Asked a)) p d s q l r range (begin a) (λ x h. h) refl (subst (λ (f : QueueForm). IsFirstStep f c a d s) e made) fits
    steps_in Unbounded (Blocks a) e made fits = by_blocks chain c (stood (Blocks a)) p d s q l r range a (λ x h. h) refl made fits
    steps_in Unbounded (Single a) e made fits =
        let parts = part IsAtBlocks l r (seat (stood (Single a)) p) fits.0 fits.1 in absurd parts.stands
    steps_in Unbounded (Ring a) e made fits =
        let parts = part IsAtBlocks l r (seat (stood (Ring a)) p) fits.0 fits.1 in absurd parts.stands
    steps_in Unbounded Finished e made fits =
        let parts = part IsAtBlocks l r (seat (stood Finished) p) fits.0 fits.1 in absurd parts.stands

  does_fits : (f : QueueForm) (chain : List ℕ) (c : Contents T) (p : Phase T) (d : Contents T) (s : Stepped (CallState T) T) (q : Queue T) (l r : List (ActiveQueueCall T)) → d.form ≡ f → (reply : Option (QueueReply T))
      → MatchOption reply
      ((p' : Phase T) × Continues q p s.mark p' × FitsForm f chain d (after p s.mark q) (l ++ seat (made_call s) p' ∷ r))
      (λ x. Answers q p s.mark x × FitsForm f chain d (after p s.mark q) (l ++ r))
      → MatchOption reply
      ((p' : Phase T) × Continues q p s.mark p' × FitsAt chain d (after p s.mark q) (l ++ seat (made_call s) p' ∷ r))
      (λ x. Answers q p s.mark x × FitsAt chain d (after p s.mark q) (l ++ r))
  unfolding FitsAt
  does_fits f chain c p d s q l r e None h = (h.0, h.1, subst (λ (g : QueueForm). FitsForm g chain d (after p s.mark q) (l ++ seat (made_call s) h.0 ∷ r)) (sym e) h.2)
  does_fits f chain c p d s q l r e (Some x) h = (h.0, subst (λ (g : QueueForm). FitsForm g chain d (after p s.mark q) (l ++ r)) (sym e) h.1)

  -- the contract of a step follows from what the code does
  pub is_queue_step : (c : Contents T) (before : QueueCall T) (d : Contents T) (s : Stepped (CallState T) T) → IsStateStep c before.state d s → IsQueueStep c before d (made_call s) s.reply
  unfolding FitsAt rank
  is_queue_step c before d s made chain q p l r range fits =
      let h = steps_in chain c before.mark p d s q l r range c.form before.state refl made fits in
      record {
        one_cell = h.one_cell;
        effect = does_fits c.form (chain_after chain c d) c p d s q l r h.same_form s.reply h.effect;
        ends = λ (quiet : PhasesQuiet q (phases (l ++ r))).
            subst (λ (f : QueueForm). MatchOption s.reply (rank_by f d s.action < rank_by c.form c before.state) (λ x. Unit {0})) (sym h.same_form) (h.ends quiet);
      }

  -- ---- a new call

  starts_in : (f : QueueForm) (chain : List ℕ) (c : Contents T) (q : Queue T) (a : QueueAsk T) (mark : QueueMark) (l r : List (ActiveQueueCall T)) → FitsForm f chain c q (l ++ r)
      → FitsForm f chain c q (l ++ seat (record { state = Asked a; mark = mark }) (asked a) ∷ r)
  starts_in (Bounded cap) chain c q a mark l r fits = ⊎_elim
      (λ h. inl (record { one = h.one; calls = seat_start IsAtSingle SingleMeans single_rank Single start single_starts c q a l r (record { state = Asked a; mark = mark }) refl h.calls }))
      (λ h. inr (record {
        two = h.two;
        most = h.most;
        calls = (let two = h.two in seat_start IsAtRing (λ c' q' xs. RingMeans cap (ring_mark cap) c' q' xs) (ring_rank (ring_mark cap)) Ring ring_start
            (ring_form_starts cap (ring_mark cap) h.two h.most (mark_is cap (omega arith) h.most)) c q a l r (record { state = Asked a; mark = mark }) refl h.calls);
      })) fits
  starts_in Unbounded chain c q a mark l r fits = seat_start IsAtBlocks (UnboundedMeans chain) blocks_rank Blocks begin (blocks_starts chain) c q a l r (record { state = Asked a; mark = mark }) refl fits

  pub starts : (a : QueueAsk T) (mark : QueueMark) → Starts (record { state = Asked a; mark = mark }) a
  unfolding FitsAt
  starts a mark chain c q l r fits = starts_in c.form chain c q a mark l r fits

  -- ---- what the words give, and the bound on steps

  slot_shown : (cap : ℕ) (c : Contents T) (q : Queue T) (seats : List (ActiveQueueCall T)) → FitsSlot cap c q seats
      → ShowsBy (Some cap) (closed_by (Bounded cap) c) (length_by (Bounded cap) c) (counted_by (Bounded cap) c) (items_by (Bounded cap) c) c q (phases seats)
  slot_shown cap c q seats fits =
      let (places, are, means) = fits.calls in
      let shown : ShowsBy (Some 1) (single_closed c) (single_length c) 0 (option_to_list (slot_at c (At 0))) c q (phases seats) =
      subst (λ (ps : List (Phase T)). ShowsBy (Some 1) (single_closed c) (single_length c) 0 (option_to_list (slot_at c (At 0))) c q ps) (sym (same_phases IsAtSingle seats places are)) (single_shows c q places means) in
      subst (λ (b : Bool). ShowsBy (Some cap) (if b then single_closed c else ring_closed (ring_mark cap) c) (if b then single_length c else ring_length cap (ring_mark cap) c) (if b then 0 else ring_counted cap (ring_mark cap) c) (if b then option_to_list (slot_at c (At 0)) else ring_held cap (ring_mark cap) c) c q (phases seats)) (sym (is_one cap fits.one))
      (subst (λ (n : ℕ). ShowsBy (Some n) (single_closed c) (single_length c) 0 (option_to_list (slot_at c (At 0))) c q (phases seats)) (sym fits.one) shown)

  ring_shown : (cap : ℕ) (c : Contents T) (q : Queue T) (seats : List (ActiveQueueCall T)) → FitsRing cap c q seats
      → ShowsBy (Some cap) (closed_by (Bounded cap) c) (length_by (Bounded cap) c) (counted_by (Bounded cap) c) (items_by (Bounded cap) c) c q (phases seats)
  ring_shown cap c q seats fits =
      let (places, are, means) = fits.calls in
      let two = fits.two in
      let shown = subst (λ (ps : List (Phase T)). ShowsBy (Some cap) (ring_closed (ring_mark cap) c) (ring_length cap (ring_mark cap) c) (ring_counted cap (ring_mark cap) c) (ring_held cap (ring_mark cap) c) c q ps)
      (sym (same_phases IsAtRing seats places are)) (ring_shows cap (ring_mark cap) fits.two (mark_is cap (omega arith) fits.most) c q places means) in
      subst (λ (b : Bool). ShowsBy (Some cap) (if b then single_closed c else ring_closed (ring_mark cap) c) (if b then single_length c else ring_length cap (ring_mark cap) c) (if b then 0 else ring_counted cap (ring_mark cap) c) (if b then option_to_list (slot_at c (At 0)) else ring_held cap (ring_mark cap) c) c q (phases seats)) (sym (not_one cap fits.two)) shown

  no_phases : (f : QueueForm) (chain : List ℕ) (c : Contents T) (q : Queue T) (seats : List (ActiveQueueCall T)) → FitsForm f chain c q seats
      → ShowsBy (capacity_of f) (closed_by f c) (length_by f c) (counted_by f c) (items_by f c) c q (phases seats)
  no_phases (Bounded cap) chain c q seats fits = ⊎_elim (slot_shown cap c q seats) (ring_shown cap c q seats) fits
  no_phases Unbounded chain c q seats (places, are, means) =
      subst (λ (ps : List (Phase T)). ShowsBy None (blocks_closed c) (blocks_length c) (blocks_counted c) (blocks_items c) c q ps) (sym (same_phases IsAtBlocks seats places are)) (unbounded_shows chain c q places means)

  -- the cells and calls that mean a queue show it
  pub shows : (c : Contents T) (q : Queue T) (seats : List (ActiveQueueCall T)) → Fits c q seats → Shows c q (phases seats)
  unfolding FitsAt closed_in length_in counted_in items_in
  shows c q seats fits = no_phases c.form fits.0 c q seats fits.1

  -- ---- where the messages lie

  slot_lies : (cap : ℕ) (c : Contents T) (q : Queue T) (seats : List (ActiveQueueCall T)) → FitsSlot cap c q seats → LiesBy (λ i. if cap == 1 then At 0 else ring_slot cap (ring_mark cap) c i) c q.items (IsBrought (phases seats))
  slot_lies cap c q seats fits =
      let (places, are, means) = fits.calls in
      subst (λ (b : Bool). LiesBy (λ i. if b then At 0 else ring_slot cap (ring_mark cap) c i) c q.items (IsBrought (phases seats))) (sym (is_one cap fits.one))
      (subst (λ (ps : List (Phase T)). LiesBy (λ i. At 0) c q.items (IsBrought ps)) (sym (same_phases IsAtSingle seats places are)) (single_lies c q places means))

  ring_lies_in : (cap : ℕ) (c : Contents T) (q : Queue T) (seats : List (ActiveQueueCall T)) → FitsRing cap c q seats → LiesBy (λ i. if cap == 1 then At 0 else ring_slot cap (ring_mark cap) c i) c q.items (IsBrought (phases seats))
  ring_lies_in cap c q seats fits =
      let (places, are, means) = fits.calls in
      let two = fits.two in
      subst (λ (b : Bool). LiesBy (λ i. if b then At 0 else ring_slot cap (ring_mark cap) c i) c q.items (IsBrought (phases seats))) (sym (not_one cap fits.two))
      (subst (λ (ps : List (Phase T)). LiesBy (ring_slot cap (ring_mark cap) c) c q.items (IsBrought ps)) (sym (same_phases IsAtRing seats places are))
      (ring_lies cap (ring_mark cap) fits.two (mark_is cap (omega arith) fits.most) c q places means))

  lies_in : (f : QueueForm) (chain : List ℕ) (c : Contents T) (q : Queue T) (seats : List (ActiveQueueCall T)) → FitsForm f chain c q seats → LiesBy (slot_by f chain c) c q.items (IsBrought (phases seats))
  lies_in (Bounded cap) chain c q seats fits = ⊎_elim (slot_lies cap c q seats) (ring_lies_in cap c q seats) fits
  lies_in Unbounded chain c q seats (places, are, means) =
      subst (λ (ps : List (Phase T)). LiesBy (blocks_slot chain c) c q.items (IsBrought ps)) (sym (same_phases IsAtBlocks seats places are)) (unbounded_lies chain c q places means)

  -- each message lies in the slot that the words name, or is with its call
  pub lies : (chain : List ℕ) (c : Contents T) (q : Queue T) (seats : List (ActiveQueueCall T)) → FitsAt chain c q seats → Lies chain c q.items (IsBrought (phases seats))
  unfolding FitsAt slot_in
  lies chain c q seats fits = lies_in c.form chain c q seats fits

  slot_ranks : (cap : ℕ) (c : Contents T) (q : Queue T) (p : Phase T) (mark : QueueMark) (state : CallState T) (l r : List (ActiveQueueCall T)) → FitsSlot cap c q (l ++ seat (record { state = state; mark = mark }) p ∷ r) → rank_bounded cap c state < 64
  slot_ranks cap c q p mark (Asked a) l r fits = subst (λ (b : Bool). rank_first b (ring_mark cap) c a < 64) (sym (is_one cap fits.one))
      (seat_ranks IsAtSingle SingleMeans single_rank Single single_ranks c q p l r (record { state = Asked a; mark = mark }) (start a) (λ x h. h) fits.calls)
  slot_ranks cap c q p mark (Single a) l r fits = seat_ranks IsAtSingle SingleMeans single_rank Single single_ranks c q p l r (record { state = Single a; mark = mark }) a (λ x h. h) fits.calls
  slot_ranks cap c q p mark (Ring a) l r fits =
      let parts = part IsAtSingle l r (seat (record { state = Ring a; mark = mark }) p) fits.calls.0 fits.calls.1 in absurd parts.stands
  slot_ranks cap c q p mark (Blocks a) l r fits =
      let parts = part IsAtSingle l r (seat (record { state = Blocks a; mark = mark }) p) fits.calls.0 fits.calls.1 in absurd parts.stands
  slot_ranks cap c q p mark Finished l r fits =
      let parts = part IsAtSingle l r (seat (record { state = Finished; mark = mark }) p) fits.calls.0 fits.calls.1 in absurd parts.stands

  ring_ranks : (cap : ℕ) (c : Contents T) (q : Queue T) (p : Phase T) (mark : QueueMark) (state : CallState T) (l r : List (ActiveQueueCall T)) → FitsRing cap c q (l ++ seat (record { state = state; mark = mark }) p ∷ r) → rank_bounded cap c state < 64
  ring_ranks cap c q p mark (Asked a) l r fits =
      let two = fits.two in
      subst (λ (b : Bool). rank_first b (ring_mark cap) c a < 64) (sym (not_one cap fits.two))
      (seat_ranks IsAtRing (λ c' q' xs. RingMeans cap (ring_mark cap) c' q' xs) (ring_rank (ring_mark cap)) Ring (ring_form_ranks cap (ring_mark cap) fits.two fits.most (mark_is cap (omega arith) fits.most)) c q p l r (record { state = Asked a; mark = mark }) (ring_start a) (λ x h. h) fits.calls)
  ring_ranks cap c q p mark (Ring a) l r fits =
      let two = fits.two in
      seat_ranks IsAtRing (λ c' q' xs. RingMeans cap (ring_mark cap) c' q' xs) (ring_rank (ring_mark cap)) Ring (ring_form_ranks cap (ring_mark cap) fits.two fits.most (mark_is cap (omega arith) fits.most)) c q p l r (record { state = Ring a; mark = mark }) a (λ x h. h) fits.calls
  ring_ranks cap c q p mark (Single a) l r fits =
      let parts = part IsAtRing l r (seat (record { state = Single a; mark = mark }) p) fits.calls.0 fits.calls.1 in absurd parts.stands
  ring_ranks cap c q p mark (Blocks a) l r fits =
      let parts = part IsAtRing l r (seat (record { state = Blocks a; mark = mark }) p) fits.calls.0 fits.calls.1 in absurd parts.stands
  ring_ranks cap c q p mark Finished l r fits =
      let parts = part IsAtRing l r (seat (record { state = Finished; mark = mark }) p) fits.calls.0 fits.calls.1 in absurd parts.stands

  ranks_in : (f : QueueForm) (chain : List ℕ) (c : Contents T) (q : Queue T) (p : Phase T) (mark : QueueMark) (state : CallState T) (l r : List (ActiveQueueCall T)) → FitsForm f chain c q (l ++ seat (record { state = state; mark = mark }) p ∷ r) → rank_by f c state < 64
  ranks_in (Bounded cap) chain c q p mark state l r fits = ⊎_elim (slot_ranks cap c q p mark state l r) (ring_ranks cap c q p mark state l r) fits
  ranks_in Unbounded chain c q p mark (Asked a) l r fits = seat_ranks IsAtBlocks (UnboundedMeans chain) blocks_rank Blocks (blocks_ranks chain) c q p l r (record { state = Asked a; mark = mark }) (begin a) (λ x h. h) fits
  ranks_in Unbounded chain c q p mark (Blocks a) l r fits = seat_ranks IsAtBlocks (UnboundedMeans chain) blocks_rank Blocks (blocks_ranks chain) c q p l r (record { state = Blocks a; mark = mark }) a (λ x h. h) fits
  ranks_in Unbounded chain c q p mark (Single a) l r fits =
      let parts = part IsAtBlocks l r (seat (record { state = Single a; mark = mark }) p) fits.0 fits.1 in absurd parts.stands
  ranks_in Unbounded chain c q p mark (Ring a) l r fits =
      let parts = part IsAtBlocks l r (seat (record { state = Ring a; mark = mark }) p) fits.0 fits.1 in absurd parts.stands
  ranks_in Unbounded chain c q p mark Finished l r fits =
      let parts = part IsAtBlocks l r (seat (record { state = Finished; mark = mark }) p) fits.0 fits.1 in absurd parts.stands

  -- no call needs more than 63 steps where the others are quiet
  pub ranks : (c : Contents T) (q : Queue T) (p : Phase T) (call : QueueCall T) (l r : List (ActiveQueueCall T)) → Fits c q (l ++ seat call p ∷ r) → rank c call < 64
  unfolding FitsAt rank
  ranks c q p call l r fits = ranks_in c.form fits.0 c q p call.mark call.state l r fits.1

-- a queue that was just made
pub fits_one_slot : (T : Type 0) → FitsAt {T = T} [] empty_slot (opened (Some 1)) []
unfolding FitsAt
fits_one_slot T = inl (record { one = refl; calls = ([], tt, single_opened) })

-- a ring that was just made
pub fits_ring : (T : Type 0) (cap : ℕ) → 2 ≤ cap → cap ≤ 2 ^ 58 → FitsAt {T = T} [] (empty_ring cap) (opened (Some cap)) []
unfolding FitsAt
fits_ring T cap two most = inr (record { two = two; most = most; calls = ([], tt, ring_opened T cap (ring_mark cap) two (mark_is cap (omega arith) most)) })

pub fits_blocks : (T : Type 0) → FitsAt {T = T} [] empty_blocks (opened None) []
unfolding FitsAt
fits_blocks T = ([], tt, blocks_opened T)

blocks_are_new : {T : Type 0} (c : Contents T) → c ≡ empty_blocks → IsNew Unbounded c
blocks_are_new {T} c e = subst (λ (x : Contents T). IsNew Unbounded x) (sym e) (refl, fits_blocks T, refl)

one_slot_is_new : {T : Type 0} (cap : ℕ) → cap ≡ 1 → (c : Contents T) → c ≡ empty_slot → IsNew (Bounded cap) c
one_slot_is_new {T} cap one c e =
    let same : Bounded 1 ≡ Bounded cap = ap Bounded (sym one) in
    let cells : empty_slot {T = T} ≡ new_cells (Bounded cap) = ap (λ (f : QueueForm). new_cells {T = T} f) same in
    subst (λ (x : Contents T). IsNew (Bounded cap) x) (sym e)
    (same, subst (λ (f : QueueForm). FitsAt {T = T} [] empty_slot (opened (capacity_of f)) []) same (fits_one_slot T), cells)

ring_is_new : {T : Type 0} (cap : ℕ) → 2 ≤ cap → empty_ring {T = T} cap ≡ new_cells (Bounded cap)
ring_is_new {T} cap two = rw (not_one cap two) refl

pub new_one_slot : (T : Type 0) (cap : ℕ) → cap ≡ 1 → (r : Result (PlainCells T) AllocError) → IfOk r (λ cells. contents_of cells ≡ empty_slot) → IfOk r (λ cells. IsNew (Bounded cap) (contents_of cells))
new_one_slot T cap one (Ok cells) h = one_slot_is_new cap one (contents_of cells) h
new_one_slot T cap one (Err e) h = tt

pub new_ring : (T : Type 0) (cap : ℕ) → 2 ≤ cap → cap ≤ 2 ^ 58 → (r : Result (PlainCells T) AllocError) → IfOk r (λ cells. contents_of cells ≡ empty_ring cap) → IfOk r (λ cells. IsNew (Bounded cap) (contents_of cells))
new_ring T cap two most (Ok cells) h = subst (λ (x : Contents T). IsNew (Bounded cap) x) (sym h) (refl, fits_ring T cap two most, ring_is_new cap two)
new_ring T cap two most (Err e) h = tt

pub new_blocks : (T : Type 0) (cells : PlainCells T) → contents_of cells ≡ empty_blocks → IsNew Unbounded (contents_of cells)
new_blocks T cells e = blocks_are_new (contents_of cells) e
