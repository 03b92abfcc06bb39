-- What the unbounded form delivers: its steps, its new calls, its bound on steps, its start.
use Rattle.std.proofs.Common.{◌≡◌, ℕ, ◌^◌, ◌<◌, ◌≤◌, ⊎_elim, Bool, false, List, [], ◌∷◌, ◌++◌, map, Option, None, Some, MatchOption, refl, sym, ap, ◌∙◌, subst, inl, inr, arith}
use Rattle.std.proofs.lemmas.List.{map-append}
use Rattle.concurrent_queue.specs.Contents.{Contents, empty_blocks}
use Rattle.concurrent_queue.specs.Queue.{Queue, Phase, asked, after, Continues, Answers, IsInRange, opened}
use Rattle.concurrent_queue.specs.machine.Places.{Place, Each}
use Rattle.concurrent_queue.specs.Step.{chain_after, PhasesQuiet, AllQuiet, IsQuiet}
use Rattle.concurrent_queue.specs.machine.Forms.{place, place_phases, FormStep, FormSteps, FormStarts, FormRanks}
use Rattle.concurrent_queue.specs.machine.BlocksState.{Blocks, SoundBlocks, Duty, fill, take, count, retire, link, turn_tail, turn_head, start, keep, owed}
use Rattle.concurrent_queue.specs.machine.BlocksCalls.{KnowsBlocks, owes}
use Rattle.concurrent_queue.specs.machine.BlocksMoves.{StandsBlocks, BlocksSeat, BlocksMeans, is_force, answer_as}
use Rattle.concurrent_queue.specs.machine.BlocksLeft as left
use Rattle.concurrent_queue.specs.machine.BlocksLeft.{unbounded_rank, blocks_rank}
use Rattle.concurrent_queue.specs.machine.BlocksDenotes.{Denotes, act_of, IsProper}
use Rattle.concurrent_queue.specs.machine.BlocksForm.{seat_of, IsFit, IsChain, UnboundedMeans}
use Rattle.concurrent_queue.specs.machine.BlocksWords.{IsUnboundedStep, IsBlocksStep, reply_of, begin}
use Rattle.concurrent_queue.specs.declared.call.QueueAsk.{QueueAsk}
use Rattle.concurrent_queue.specs.declared.call.QueueAsk.TheVariants as ask
use Rattle.concurrent_queue.specs.declared.call.Stepped.{Stepped}
use Rattle.concurrent_queue.specs.declared.unbounded.ending.Ending.{Ending}
use Rattle.concurrent_queue.specs.declared.unbounded.action.UnboundedAction.TheVariants as act
use Rattle.concurrent_queue.specs.declared.unbounded.action.UnboundedCall.{UnboundedCall}
use Rattle.concurrent_queue.specs.declared.unbounded.action.Progress.{Progress}
use Rattle.concurrent_queue.proofs.Places.{each_at, each_others, each_with}
use Rattle.concurrent_queue.proofs.BlocksTheorem.{seat_at, Advances, blocks_advances, owners_with, Each-with, knows, its_owners}
use Rattle.concurrent_queue.proofs.BlocksQuiet.{blocks_ends, left_small}
use Rattle.concurrent_queue.proofs.BlocksStart.{first_blocks, starts_well}
use Rattle.concurrent_queue.proofs.BlocksStep.{small_step, yields, rank_is}
use Rattle.concurrent_queue.proofs.BlocksYields.{Yields}
use Rattle.concurrent_queue.proofs.BlocksChain.{grows, chained_on}

some_none : {A : Type 0} {x : A} → None ≡ Some x → ⊥
some_none e = absurd cc

module _ {T : Type 0} where
  seats : List (Place (UnboundedCall T) T) → List (BlocksSeat T)
  seats ps = map seat_of ps

  -- one place among others, as a seat
  pub seats_with : (l r : List (Place (UnboundedCall T) T)) (x : Place (UnboundedCall T) T) → map seat_of (l ++ x ∷ r) ≡ map seat_of l ++ seat_of x ∷ map seat_of r
  seats_with l r x = map-append seat_of l (x ∷ r)

  pub seats_without : (l r : List (Place (UnboundedCall T) T)) → map seat_of (l ++ r) ≡ map seat_of l ++ map seat_of r
  seats_without l r = map-append seat_of l r

  -- the others are quiet
  quiet_seats : (ps : List (Place (UnboundedCall T) T)) → AllQuiet (place_phases ps) → Each (λ (s : BlocksSeat T). IsQuiet s.phase.stage) (map seat_of ps)
  quiet_seats [] h = tt
  quiet_seats (p ∷ ps) h = (h.0, quiet_seats ps h.1)

  none_left : (ps : List (Place (UnboundedCall T) T)) → place_phases ps ≡ [] → map seat_of ps ≡ []
  none_left [] e = refl
  none_left (p ∷ ps) e = absurd cc

  in_range : (r : Blocks T) (q : Queue T) → StandsBlocks r q → IsInRange q → r.tail ≤ 2 ^ 61
  in_range r q st range = ⊎_elim (λ g. absurd (some_none (sym st.capacity ∙ g))) (λ g. let e = st.accepted in omega arith) range

  module _ (chain : List ℕ) (c : Contents T) (a : UnboundedCall T) (d : Contents T) (x : Progress T) (q : Queue T) (p : Phase T) (l r : List (Place (UnboundedCall T) T)) (n : Blocks T) (den : Denotes c n)
      (means : BlocksMeans n q (map seat_of l ++ seat_at (act_of a.action) p ∷ map seat_of r)) (fits : Each IsFit (l ++ r)) (proper : IsProper a.action) (kind : a.displacing ≡ is_force p.ask)
      (step : IsUnboundedStep c a.action (d, x)) (range : IsInRange q) (of : IsChain chain n) where
    owed_its : (e : Duty) → owes (act_of a.action) e ≤ owed n e
    owed_its e = let i = its_owners n q (map seat_of l) (map seat_of r) (act_of a.action) p means e in omega arith

    moved : Yields n a.action (d, x)
    moved = yields c n q.items means.stands.sound den p (in_range n q means.stands range) a.action (d, x) proper (knows n q (map seat_of l) (map seat_of r) (act_of a.action) p means) owed_its step

    -- the chain goes on as the tail's block word says
    chain_goes_on : IsChain (chain_after chain c d) moved.0
    chain_goes_on = chained_on chain n c d moved.0 den moved.1 (grows n q.items p means.stands.sound moved.2 (knows n q (map seat_of l) (map seat_of r) (act_of a.action) p means)) of

    abbrev Goes-on : Option (Ending T) → Type 0
    Goes-on e = MatchOption (reply_of a.displacing e)
        ((p' : Phase T) × Continues q p x.mark p' × UnboundedMeans (chain_after chain c d) d (after p x.mark q) (l ++ place (record { displacing = a.displacing; action = x.action }) p' ∷ r))
        (λ y. Answers q p x.mark y × UnboundedMeans (chain_after chain c d) d (after p x.mark q) (l ++ r))

    does_it : (e : Option (Ending T)) → Advances moved.0 q p (map seat_of l) (map seat_of r) (act_of x.action) x.mark e → Goes-on e
    does_it None h =
        let new : Place (UnboundedCall T) T = place (record { displacing = a.displacing; action = x.action }) h.0 in (
          h.0,
          h.1,
          (
            moved.0,
            moved.1,
            subst (λ (ps : List (BlocksSeat T)). BlocksMeans moved.0 (after p x.mark q) ps) (sym (seats_with l r new)) h.2,
            each_with IsFit l r new fits (moved.3, kind ∙ sym (ap is_force h.1.0)),
            chain_goes_on,
          ),
        )
    does_it (Some y) h =
        (subst (λ (b : Bool). Answers q p x.mark (answer_as b y)) (sym kind) h.0, (moved.0, moved.1, subst (λ (ps : List (BlocksSeat T)). BlocksMeans moved.0 (after p x.mark q) ps) (sym (seats_without l r)) h.1, fits, chain_goes_on))

    does_all : Goes-on x.ending
    does_all = does_it x.ending (blocks_advances n q (map seat_of l) (map seat_of r) (act_of a.action) p means moved.2)

    ends_it : (e : Option (Ending T)) → MatchOption e (unbounded_rank d x.action < unbounded_rank c a.action) (λ y. Unit {0}) → MatchOption (reply_of a.displacing e) (unbounded_rank d x.action < unbounded_rank c a.action) (λ y. Unit {0})
    ends_it None h = h
    ends_it (Some y) h = tt

    sound_after : (e : Option (Ending T)) → Advances moved.0 q p (map seat_of l) (map seat_of r) (act_of x.action) x.mark e → SoundBlocks moved.0 (after p x.mark q).items
    sound_after None h = h.2.stands.sound
    sound_after (Some y) h = h.1.stands.sound

    by_numbers : (e : Option (Ending T)) → MatchOption e (left.left moved.0 (act_of x.action) < left.left n (act_of a.action)) (λ y. Unit {0}) → MatchOption e (unbounded_rank d x.action < unbounded_rank c a.action) (λ y. Unit {0})
    by_numbers None h =
        let w = rank_is c n q.items means.stands.sound den a.action proper in
        let z = rank_is d moved.0 (after p x.mark q).items (sound_after x.ending (blocks_advances n q (map seat_of l) (map seat_of r) (act_of a.action) p means moved.2)) moved.1 x.action moved.3 in omega arith
    by_numbers (Some y) h = tt

    ends_all : PhasesQuiet q (place_phases (l ++ r)) → MatchOption (reply_of a.displacing x.ending) (unbounded_rank d x.action < unbounded_rank c a.action) (λ y. Unit {0})
    ends_all quiet = ends_it x.ending (by_numbers x.ending (blocks_ends n q (map seat_of l) (map seat_of r) (act_of a.action) p means
        (subst (λ (ps : List (BlocksSeat T)). Each (λ (s : BlocksSeat T). IsQuiet s.phase.stage) ps) (seats_without l r) (quiet_seats (l ++ r) quiet.0))
        (⊎_elim (λ g. inl (let e = means.stands.removed in omega arith)) (λ g. inr (sym (seats_without l r) ∙ none_left (l ++ r) g)) (quiet.1 means.stands.capacity))
        moved.2))

  pub mine_of : (chain : List ℕ) (c : Contents T) (q : Queue T) (l r : List (Place (UnboundedCall T) T)) (a : UnboundedCall T) (p : Phase T) (m : UnboundedMeans chain c q (l ++ place a p ∷ r))
      → BlocksMeans m.0 q (map seat_of l ++ seat_at (act_of a.action) p ∷ map seat_of r)
  mine_of chain c q l r a p m = subst (λ (ps : List (BlocksSeat T)). BlocksMeans m.0 q ps) (seats_with l r (place a p)) m.2

  -- each step of the machine is one of the contract
  pub blocks_steps : FormSteps {A = UnboundedCall T} {T = T} UnboundedMeans blocks_rank IsBlocksStep
  blocks_steps chain c a d s q p l r made range m =
      let fit = each_at IsFit l r (place a p) m.3 in
      let others = each_others IsFit l r (place a p) m.3 in
      let x = made.0 in
      let means = mine_of chain c q l r a p m in
      let small = small_step c a.action (d, x) made.1 in
      subst (λ (z : Stepped (UnboundedCall T) T). FormStep (UnboundedMeans (chain_after chain c d)) blocks_rank c a p d z q l r) (sym made.2) (record {
        same_form = small.1;
        one_cell = small.0;
        effect = does_all chain c a d x q p l r m.0 m.1 means others fit.0 fit.1 made.1 range m.4;
        ends = ends_all chain c a d x q p l r m.0 m.1 means others fit.0 fit.1 made.1 range m.4;
      })

  holding_none : (v : T) (e : Duty) → owes (act_of (act.Push v None)) e ≡ 0
  holding_none v (fill n) = refl
  holding_none v (take n) = refl
  holding_none v (count n) = refl
  holding_none v (retire n) = refl
  holding_none v (link n) = refl
  holding_none v turn_tail = refl
  holding_none v turn_head = refl
  holding_none v start = refl
  holding_none v (keep b) = refl

  -- a new call owes nothing and knows nothing yet
  new_owes : (a : QueueAsk T) (d : Duty) → owes (act_of (begin a).action) d ≡ 0
  new_owes (ask.Push v) d = holding_none v d
  new_owes (ask.ForcePush v) d = holding_none v d
  new_owes ask.Pop d = refl
  new_owes ask.Close d = refl
  new_owes ask.IsClosed d = refl
  new_owes ask.IsEmpty d = refl
  new_owes ask.IsFull d = refl
  new_owes ask.Len d = refl
  new_owes ask.Capacity d = refl

  new_knows : (n : Blocks T) (a : QueueAsk T) → KnowsBlocks n (act_of (begin a).action) (asked a)
  new_knows n (ask.Push v) = (inl refl, (false, refl), tt)
  new_knows n (ask.ForcePush v) = (inr refl, (false, refl), tt)
  new_knows n ask.Pop = (refl, (false, refl))
  new_knows n ask.Close = (refl, (false, refl))
  new_knows n ask.IsClosed = (refl, (false, refl))
  new_knows n ask.IsEmpty = (refl, (false, refl))
  new_knows n ask.IsFull = (refl, (false, refl))
  new_knows n ask.Len = (refl, (false, refl))
  new_knows n ask.Capacity = (refl, (false, refl))

  new_fits : (a : QueueAsk T) → IsFit (place (begin a) (asked a))
  new_fits (ask.Push v) = (tt, refl)
  new_fits (ask.ForcePush v) = (tt, refl)
  new_fits ask.Pop = (tt, refl)
  new_fits ask.Close = (tt, refl)
  new_fits ask.IsClosed = (tt, refl)
  new_fits ask.IsEmpty = (tt, refl)
  new_fits ask.IsFull = (tt, refl)
  new_fits ask.Len = (tt, refl)
  new_fits ask.Capacity = (tt, refl)

  pub blocks_starts : (chain : List ℕ) → FormStarts {A = UnboundedCall T} {T = T} (UnboundedMeans chain) blocks_rank begin
  blocks_starts chain c q a l r m =
      let new : Place (UnboundedCall T) T = place (begin a) (asked a) in
      let old : BlocksMeans m.0 q (map seat_of l ++ map seat_of r) = subst (λ (ps : List (BlocksSeat T)). BlocksMeans m.0 q ps) (seats_without l r) m.2 in (
        m.0,
        m.1,
        subst (λ (ps : List (BlocksSeat T)). BlocksMeans m.0 q ps) (sym (seats_with l r new)) (record {
          stands = old.stands;
          owners = λ e. owners_with e (map seat_of l) (map seat_of r) (seat_of new) ∙ (let z = new_owes a e in let o = old.owners e in omega arith);
          seats = Each-with (λ (s : BlocksSeat T). KnowsBlocks m.0 s.act s.phase) (map seat_of l) (map seat_of r) (seat_of new) (new_knows m.0 a) old.seats;
        }),
        each_with IsFit l r new m.3 (new_fits a),
        m.4,
      )

  pub blocks_ranks : (chain : List ℕ) → FormRanks {A = UnboundedCall T} {T = T} (UnboundedMeans chain) blocks_rank
  blocks_ranks chain c q a p l r m =
      let fit = each_at IsFit l r (place a p) m.3 in
      let w = rank_is c m.0 q.items m.2.stands.sound m.1 a.action fit.0 in
      let z = left_small m.0 (act_of a.action) in omega arith

-- a queue that was just made
pub blocks_opened : (T : Type 0) → UnboundedMeans {T = T} [] empty_blocks (opened None) []
blocks_opened T = (
  first_blocks,
  record {
    head = refl;
    tail = refl;
    head_block = inl (refl, refl);
    tail_block = inl (refl, refl);
    used = λ k h f. absurd (omega arith);
    numbered = λ k h. absurd (omega arith);
    idle = λ b i. absurd i;
    spares = λ b. refl;
    made = λ b h. refl;
    few = omega arith;
  },
  starts_well,
  tt,
  (refl, λ k h. absurd (omega arith)),
)
