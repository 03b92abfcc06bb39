-- A run goes on by one step.
use Rattle.std.proofs.Common.{◌≡◌, ℕ, zero, suc, ◌+◌, ◌<◌, ◌≤◌, List, [], ◌∷◌, ◌++◌, length, map, Option, None, Some, slice_get, slice_set, ◌⊎◌, ⊎_elim, inl, inr, refl, sym, ap, ◌∙◌, subst, arith, append_assoc, append-nil, length-append}
use Rattle.std.specs.List.{remove}
use Rattle.concurrent_queue.specs.Contents.{Contents}
use Rattle.concurrent_queue.specs.Capacity.{capacity_of}
use Rattle.concurrent_queue.specs.Queue.{Queue, Phase, asked, after, marked, is_displaced, AnswersTo, IsInRange, opened}
use Rattle.concurrent_queue.specs.machine.Places.{Each}
use Rattle.concurrent_queue.specs.Rows.{MarkedStep}
use Rattle.concurrent_queue.specs.Scene.{CallUnderWay, observing, stepped, with_mark, makes_room, AllIdle, OthersQuiet, ContinuesAs, unless_ended, NotUnderWay, IsUnderWay, IsBroughtBy, Reads, new_scene}
use Rattle.concurrent_queue.specs.Step.{ActiveQueueCall, seat, chain_after, Fits, FitsAt, StepLeaves, IsQueueStep, phases, AllQuiet, PhasesQuiet, IsBrought, OneCell, rank, mark_of}
use Rattle.concurrent_queue.specs.Parties.{party, HasParty, NoneHas, Turns, parties_after, TurnedOver, IsRefused}
use Rattle.concurrent_queue.specs.Run.{Config, Next, IsRun, accepted_in, one_if_accepted, IsCounted, MayRefuse, opened_config, RanTo}
use Rattle.concurrent_queue.specs.Made.{IsNew, new_cells}
use Rattle.concurrent_queue.specs.declared.call.QueueAsk.{QueueAsk}
use Rattle.concurrent_queue.specs.declared.call.QueueAsk.TheVariants as ask
use Rattle.concurrent_queue.specs.declared.call.QueueEntry.{QueueEntry}
use Rattle.concurrent_queue.specs.declared.call.QueueMark.{QueueMark}
use Rattle.concurrent_queue.specs.declared.call.QueueMark.TheVariants.{Nothing, Append, Take, TakeDisplaced, Replace, Close}
use Rattle.concurrent_queue.specs.declared.call.QueueReply.{QueueReply}
use Rattle.concurrent_queue.specs.declared.cells.QueueForm.{QueueForm}
use Rattle.concurrent_queue.specs.declared.queue_call.QueueCall.{QueueCall}
use Rattle.concurrent_queue.specs.declared.run.Party.{Party}
use Rattle.concurrent_queue.specs.declared.run.QueueStep.{QueueStep}
use Rattle.concurrent_queue.specs.declared.run.QueueStep.TheVariants.{Begin, Step}
use Rattle.concurrent_queue.specs.declared.run.QueueRefusal.{QueueRefusal}
use Rattle.concurrent_queue.specs.declared.run.QueueRefusal.TheVariants.{Busy, Idle, NoMemory}
use Rattle.concurrent_queue.proofs.Balance.{IsBalanced, IsFair, fair_goes, fair_answers, same_capacity}
use Rattle.concurrent_queue.proofs.Evidence.{Evidence, goes_known, answers_known, answers_same, evidence_keeps, quiet_of, brought_of}
use Rattle.concurrent_queue.proofs.FitsFacts.{shows, lies, ranks}

-- a party with its call, and what is known of the call beside its cells
pub record ActiveQueueCallWitness (T : Type 0) : Type 0 where
  pub party : Party T
  pub phase : Phase T
  pub marked_steps : List (MarkedStep T)
  pub seen : List (Queue T)
  pub left : ℕ

pub each_join : {X : Type 0} (P : X → Type 0) (xs ys : List X) → Each P xs → Each P ys → Each P (xs ++ ys)
each_join P [] ys h g = g
each_join P (x ∷ xs) ys h g = (h.0, each_join P xs ys h.1 g)

pub each_first : {X : Type 0} (P : X → Type 0) (xs ys : List X) → Each P (xs ++ ys) → Each P xs
each_first P [] ys h = tt
each_first P (x ∷ xs) ys h = (h.0, each_first P xs ys h.1)

pub each_last : {X : Type 0} (P : X → Type 0) (xs ys : List X) → Each P (xs ++ ys) → Each P ys
each_last P [] ys h = h
each_last P (x ∷ xs) ys h = each_last P xs ys h.1

pub map_join : {A B : Type 0} (f : A → B) (xs ys : List A) → map f (xs ++ ys) ≡ map f xs ++ map f ys
map_join f [] ys = refl
map_join f (x ∷ xs) ys = ap (λ zs. f x ∷ zs) (map_join f xs ys)

-- one element of a list that was mapped
pub record SplitAt {A B : Type 0} (f : A → B) (xs : List A) (k : ℕ) (y : B) : Type 0 where
  pub left : List A
  pub mine : A
  pub right : List A
  pub there : xs ≡ left ++ mine ∷ right
  pub is : f mine ≡ y
  pub set : (z : B) → slice_set (map f xs) k z ≡ map f left ++ z ∷ map f right
  pub removed : remove (map f xs) k ≡ map f left ++ map f right

pub split : {A B : Type 0} (f : A → B) (xs : List A) (k : ℕ) (y : B) → slice_get (map f xs) k ≡ Some y → SplitAt f xs k y
split f [] k y e = absurd cc
split f (x ∷ xs) zero y e = record { left = []; mine = x; right = xs; there = refl; is = cc; set = λ z. refl; removed = refl }
split f (x ∷ xs) (suc k) y e =
    let g = split f xs k y e in
    record {
      left = x ∷ g.left;
      mine = g.mine;
      right = g.right;
      there = ap (λ zs. x ∷ zs) g.there;
      is = g.is;
      set = λ z. ap (λ zs. f x ∷ zs) (g.set z);
      removed = ap (λ zs. f x ∷ zs) g.removed;
    }

module _ {T : Type 0} where
  abbrev pub under_of : ActiveQueueCallWitness T → CallUnderWay T
  under_of x = record { party = x.party.id; ask = x.phase.ask; marked_steps = x.marked_steps; seen = x.seen; left = x.left }

  abbrev pub seat_of : ActiveQueueCallWitness T → ActiveQueueCall T
  seat_of x = seat x.party.call x.phase

  abbrev pub party_of : ActiveQueueCallWitness T → Party T
  party_of x = x.party

  abbrev pub sees_too : Queue T → ActiveQueueCallWitness T → ActiveQueueCallWitness T
  sees_too q x = record x { seen = q ∷ x.seen; left = 63 }

  abbrev pub IsKnown : Queue T → ActiveQueueCallWitness T → Type 0
  IsKnown q x = Evidence q x.phase.ask x.phase.stage x.marked_steps x.seen

  abbrev pub IsWithin : Contents T → ActiveQueueCallWitness T → Type 0
  IsWithin c x = rank c x.party.call ≤ x.left

  abbrev pub at : List ℕ → Contents T → Queue T → List (ActiveQueueCallWitness T) → Config T
  at chain c now xs = record { cells = c; chain = chain; scene = record { now = now; under_way = map under_of xs } }

  -- ---- what the cells show of the scene

  brought_by : (q : Queue T) (xs : List (ActiveQueueCallWitness T)) (v : T) → Each (λ (x : ActiveQueueCallWitness T). IsKnown q x) xs → IsBrought (phases (map seat_of xs)) v → IsBroughtBy (map under_of xs) v
  brought_by q [] v all h = absurd h
  brought_by q (x ∷ xs) v all (inl h) = inl (h.0, brought_of q x.phase.ask x.phase.stage x.marked_steps x.seen all.0 h.1)
  brought_by q (x ∷ xs) v all (inr h) = inr (brought_by q xs v all.1 h)

  pub reads_of : (chain : List ℕ) (c : Contents T) (q : Queue T) (xs : List (ActiveQueueCallWitness T)) → FitsAt chain c q (map seat_of xs) → Each (λ (x : ActiveQueueCallWitness T). IsKnown q x) xs
      → Reads chain c (record { now = q; under_way = map under_of xs })
  reads_of chain c q xs fits all =
      let sh = shows c q (map seat_of xs) (chain, fits) in
      let lie = lies chain c q (map seat_of xs) fits in
      record {
        flag = sh.flag;
        long = sh.long;
        lies = record {
          apart = lie.apart;
          there = λ i v e. ⊎_elim (λ h. inl h) (λ h. inr (brought_by q xs v all h)) (lie.there i v e);
        };
      }

  -- ---- nobody held it up

  all_quiet : (q : Queue T) (xs ys : List (ActiveQueueCallWitness T)) → Each (λ (x : ActiveQueueCallWitness T). IsKnown q x) xs → Each (λ (x : ActiveQueueCallWitness T). IsKnown q x) ys
      → AllIdle (map under_of xs ++ map under_of ys) → AllQuiet (phases (map seat_of xs ++ map seat_of ys))
  all_quiet q [] [] h g idle = tt
  all_quiet q [] (y ∷ ys) h g idle = (quiet_of q y.phase.ask y.phase.stage y.marked_steps y.seen g.0 idle.0, all_quiet q [] ys tt g.1 idle.1)
  all_quiet q (x ∷ xs) ys h g idle = (quiet_of q x.phase.ask x.phase.stage x.marked_steps x.seen h.0 idle.0, all_quiet q xs ys h.1 g idle.1)

  none_too : (xs ys : List (ActiveQueueCallWitness T)) → map under_of xs ++ map under_of ys ≡ [] → phases (map seat_of xs ++ map seat_of ys) ≡ []
  none_too [] [] e = refl
  none_too [] (y ∷ ys) e = absurd cc
  none_too (x ∷ xs) ys e = absurd cc

  nobody : (q : Queue T) (xs ys : List (ActiveQueueCallWitness T)) → Each (λ (x : ActiveQueueCallWitness T). IsKnown q x) xs → Each (λ (x : ActiveQueueCallWitness T). IsKnown q x) ys
      → OthersQuiet q (map under_of xs ++ map under_of ys) → PhasesQuiet q (phases (map seat_of xs ++ map seat_of ys))
  nobody q xs ys h g free = (all_quiet q xs ys h g free.0, λ e. ⊎_elim (λ x. inl x) (λ x. inr (none_too xs ys x)) (free.1 e))

  -- ---- the others see a moment more

  unders_seen : (q : Queue T) (xs : List (ActiveQueueCallWitness T)) → map under_of (map (sees_too q) xs) ≡ map (observing q) (map under_of xs)
  unders_seen q [] = refl
  unders_seen q (x ∷ xs) = ap (λ us. observing q (under_of x) ∷ us) (unders_seen q xs)

  seats_seen : (q : Queue T) (xs : List (ActiveQueueCallWitness T)) → map seat_of (map (sees_too q) xs) ≡ map seat_of xs
  seats_seen q [] = refl
  seats_seen q (x ∷ xs) = ap (λ ss. seat_of x ∷ ss) (seats_seen q xs)

  parties_seen : (q : Queue T) (xs : List (ActiveQueueCallWitness T)) → map party_of (map (sees_too q) xs) ≡ map party_of xs
  parties_seen q [] = refl
  parties_seen q (x ∷ xs) = ap (λ ps. party_of x ∷ ps) (parties_seen q xs)

  known_seen : (q : Queue T) (a : QueueAsk T) (b : _) (m : QueueMark) → IsFair q a m → ((cap : ℕ) → q.capacity ≡ Some cap → length q.items ≤ cap) → (xs : List (ActiveQueueCallWitness T))
      → Each (λ (x : ActiveQueueCallWitness T). IsKnown q x) xs → Each (λ (x : ActiveQueueCallWitness T). IsKnown (marked a b m q) x) (map (sees_too (marked a b m q)) xs)
  known_seen q a b m fair within [] h = tt
  known_seen q a b m fair within (x ∷ xs) h = (evidence_keeps q a b m fair within x.phase.ask x.phase.stage x.marked_steps x.seen h.0, known_seen q a b m fair within xs h.1)

  -- ---- the bound on silent steps

  abbrev IsRanked : Contents T → ActiveQueueCall T → Type 0
  IsRanked c s = rank c s.call < 64

  all_ranked : (c : Contents T) (q : Queue T) (l r : List (ActiveQueueCall T)) → Fits c q (l ++ r) → Each (λ (s : ActiveQueueCall T). IsRanked c s) r
  all_ranked c q l [] fits = tt
  all_ranked c q l (s ∷ r) fits =
      (ranks c q s.phase s.call l r fits, all_ranked c q (l ++ s ∷ []) r (subst (λ (ss : List (ActiveQueueCall T)). Fits c q ss) (sym (append_assoc l (s ∷ []) r)) fits))

  abbrev IsSet : Contents T → ActiveQueueCallWitness T → Type 0
  IsSet c x = (x.left ≡ 63) ⊎ IsWithin c x

  all_within : (c : Contents T) (xs : List (ActiveQueueCallWitness T)) → Each (λ (s : ActiveQueueCall T). IsRanked c s) (map seat_of xs) → Each (λ (x : ActiveQueueCallWitness T). IsSet c x) xs → Each (λ (x : ActiveQueueCallWitness T). IsWithin c x) xs
  all_within c [] r s = tt
  all_within c (x ∷ xs) r s = (⊎_elim (λ e. (let n = r.0 in omega arith)) (λ h. h) s.0, all_within c xs r.1 s.1)

  all_set : (c : Contents T) (q : Queue T) (xs : List (ActiveQueueCallWitness T)) → Each (λ (x : ActiveQueueCallWitness T). IsSet c x) (map (sees_too q) xs)
  all_set c q [] = tt
  all_set c q (x ∷ xs) = (inl refl, all_set c q xs)

  within_now : (c : Contents T) (q : Queue T) (xs : List (ActiveQueueCallWitness T)) → Fits c q (map seat_of xs) → Each (λ (x : ActiveQueueCallWitness T). IsSet c x) xs → Each (λ (x : ActiveQueueCallWitness T). IsWithin c x) xs
  within_now c q xs fits set = all_within c xs (all_ranked c q [] (map seat_of xs) fits) set

  -- ---- runs

  pub more : (f : Config T) (ss : List (QueueStep T)) (es : List (QueueEntry T)) (g : Config T) (s : QueueStep T) (e : QueueEntry T) (h : Config T)
      → IsRun f ss es g → Next g s e h → Reads h.chain h.cells h.scene → IsRun f (ss ++ s ∷ []) (es ++ e ∷ []) h
  more f [] [] g s e h r n w = (h, subst (λ (x : Config T). Next x s e h) r n, w, refl)
  more f [] (e' ∷ es) g s e h r n w = absurd r
  more f (s' ∷ ss) [] g s e h r n w = absurd r
  more f (s' ∷ ss) (e' ∷ es) g s e h r n w = (r.0, r.1, r.2, more r.0 ss es g s e h r.3 n w)

  pub accepted_more : (es : List (QueueEntry T)) (e : QueueEntry T) → accepted_in (es ++ e ∷ []) ≡ accepted_in es + one_if_accepted e.mark
  accepted_more [] e = omega arith
  accepted_more (x ∷ es) e = omega (arith, accepted_more es e)

  accepted_now : (q : Queue T) (a : QueueAsk T) (b : _) (m : QueueMark) → (marked a b m q).accepted ≡ q.accepted + one_if_accepted m
  accepted_now q a b Nothing = omega arith
  accepted_now q a b Append = refl
  accepted_now q a b Take = omega arith
  accepted_now q a b TakeDisplaced = omega arith
  accepted_now q a b Replace = refl
  accepted_now q a b Close = omega arith

  -- what the code has after a run of these steps
  pub record HasRun (form : QueueForm) (made : List (QueueStep T)) (c : Contents T) (parties : List (Party T)) (trace : List (QueueEntry T)) : Type 0 where
    pub chain : List ℕ
    pub now : Queue T
    pub sittings : List (ActiveQueueCallWitness T)
    pub opened : Reads [] (new_cells {T = T} form) (new_scene (capacity_of form))
    pub run : IsRun (opened_config (new_cells form) form) made trace (at chain c now sittings)
    pub fits : FitsAt chain c now (map seat_of sittings)
    pub parties_are : parties ≡ map party_of sittings
    pub known : Each (λ (x : ActiveQueueCallWitness T). IsKnown now x) sittings
    pub within : Each (λ (x : ActiveQueueCallWitness T). IsWithin c x) sittings
    pub count : now.accepted ≡ accepted_in trace
    pub limit : now.capacity ≡ capacity_of form

module _ {T : Type 0} (form : QueueForm) (made : List (QueueStep T)) (c : Contents T) (parties : List (Party T)) (trace : List (QueueEntry T)) (r : HasRun form made c parties trace) where
  free_of : (p : ℕ) (xs : List (ActiveQueueCallWitness T)) → NoneHas p (map party_of xs) → NotUnderWay p (map under_of xs)
  free_of p [] none = tt
  free_of p (x ∷ xs) none = (λ e. none 0 x.party refl e, free_of p xs (λ k y there e. none (suc k) y there e))

  -- a call begins
  pub has_begun : (p : ℕ) (a : QueueAsk T) (e : QueueEntry T) (d : Contents T) (parties' : List (Party T)) → Turns (Begin p a) c parties e d parties'
      → HasRun form (made ++ Begin p a ∷ []) d parties' (trace ++ e ∷ [])
  has_begun p a e d parties' t =
      let call = t.0 in
      let none : NoneHas p (map party_of r.sittings) = subst (λ (ps : List (Party T)). NoneHas p ps) r.parties_are t.2 in
      let mine : ActiveQueueCallWitness T = record { party = party p call; phase = asked a; marked_steps = []; seen = r.now ∷ []; left = 63 } in
      let all : List (ActiveQueueCallWitness T) = r.sittings ++ mine ∷ [] in
      let fits_c : FitsAt r.chain c r.now (map seat_of all) =
      subst (λ (ss : List (ActiveQueueCall T)). FitsAt r.chain c r.now ss) (sym (map_join seat_of r.sittings (mine ∷ [])))
      (t.1 r.chain c r.now (map seat_of r.sittings) [] (subst (λ (ss : List (ActiveQueueCall T)). FitsAt r.chain c r.now ss) (sym (append-nil (map seat_of r.sittings))) r.fits)) in
      let fits : FitsAt r.chain d r.now (map seat_of all) = subst (λ (x : Contents T). FitsAt r.chain x r.now (map seat_of all)) (sym t.4) fits_c in
      let known = each_join (λ (x : ActiveQueueCallWitness T). IsKnown r.now x) r.sittings (mine ∷ []) r.known ((refl, λ h. absurd cc), tt) in
      let old : Each (λ (x : ActiveQueueCallWitness T). IsWithin d x) r.sittings = subst (λ (x : Contents T). Each (λ (y : ActiveQueueCallWitness T). IsWithin x y) r.sittings) (sym t.4) r.within in
      let ranked : rank d call < 64 = ranks d r.now (asked a) call (map seat_of r.sittings) [] (r.chain, subst (λ (ss : List (ActiveQueueCall T)). FitsAt r.chain d r.now ss) (map_join seat_of r.sittings (mine ∷ [])) fits) in
      let within = each_join (λ (x : ActiveQueueCallWitness T). IsWithin d x) r.sittings (mine ∷ []) old (omega arith, tt) in
      let e' : one_if_accepted e.mark ≡ 0 = ap (λ (x : QueueEntry T). one_if_accepted x.mark) t.3 in
      record {
        chain = r.chain;
        now = r.now;
        sittings = all;
        opened = r.opened;
        run = more (opened_config (new_cells form) form) made trace (at r.chain c r.now r.sittings) (Begin p a) e (at r.chain d r.now all) r.run
            (record { entry = t.3; free = free_of p r.sittings none; now = refl; under_way = map_join under_of r.sittings (mine ∷ []) }, t.4, refl)
            (reads_of r.chain d r.now all fits known);
        fits = fits;
        parties_are = t.5 ∙ ap (λ (ps : List (Party T)). ps ++ party p call ∷ []) r.parties_are ∙ sym (map_join party_of r.sittings (mine ∷ []));
        known = known;
        within = within;
        count = omega (arith, accepted_more trace e, r.count, e');
        limit = r.limit;
      }

  in_range : (e : QueueEntry T) → IsCounted form (trace ++ e ∷ []) → IsInRange r.now
  in_range e (inl h) = inl (r.limit ∙ h)
  in_range e (inr h) = inr (omega (arith, accepted_more trace e, r.count))

  -- the k-th call makes a step
  module _ (p : ℕ) (k : ℕ) (left right : List (ActiveQueueCallWitness T)) (mine : ActiveQueueCallWitness T) (there : r.sittings ≡ left ++ mine ∷ right) (whose : mine.party.id ≡ p) (call : QueueCall T) (e : QueueEntry T) (d : Contents T) (marked_by : e.mark ≡ mark_of call) where
    q' : Queue T
    q' = after mine.phase e.mark r.now

    known_all : Each (λ (x : ActiveQueueCallWitness T). IsKnown r.now x) (left ++ mine ∷ right)
    known_all = subst (λ (xs : List (ActiveQueueCallWitness T)). Each (λ (x : ActiveQueueCallWitness T). IsKnown r.now x) xs) there r.known

    known_left : Each (λ (x : ActiveQueueCallWitness T). IsKnown r.now x) left
    known_left = each_first (λ (x : ActiveQueueCallWitness T). IsKnown r.now x) left (mine ∷ right) known_all

    known_rest : Each (λ (x : ActiveQueueCallWitness T). IsKnown r.now x) (mine ∷ right)
    known_rest = each_last (λ (x : ActiveQueueCallWitness T). IsKnown r.now x) left (mine ∷ right) known_all

    within_all : Each (λ (x : ActiveQueueCallWitness T). IsWithin c x) (left ++ mine ∷ right)
    within_all = subst (λ (xs : List (ActiveQueueCallWitness T)). Each (λ (x : ActiveQueueCallWitness T). IsWithin c x) xs) there r.within

    my_bound : rank c mine.party.call ≤ mine.left
    my_bound = (each_last (λ (x : ActiveQueueCallWitness T). IsWithin c x) left (mine ∷ right) within_all).0

    fits_now : FitsAt r.chain c r.now (map seat_of left ++ seat_of mine ∷ map seat_of right)
    fits_now = subst (λ (ss : List (ActiveQueueCall T)). FitsAt r.chain c r.now ss) (ap (λ (xs : List (ActiveQueueCallWitness T)). map seat_of xs) there ∙ map_join seat_of left (mine ∷ right)) r.fits

    my_balance : IsBalanced r.now
    my_balance = (shows c r.now (map seat_of left ++ seat_of mine ∷ map seat_of right) (r.chain, fits_now)).balance

    my_limit : (cap : ℕ) → r.now.capacity ≡ Some cap → length r.now.items ≤ cap
    my_limit = (shows c r.now (map seat_of left ++ seat_of mine ∷ map seat_of right) (r.chain, fits_now)).within

    -- the sittings after the step, with what is left of the one that made it
    abbrev with_mine : List (ActiveQueueCallWitness T) → List (ActiveQueueCallWitness T)
    with_mine ms = map (sees_too q') left ++ (ms ++ map (sees_too q') right)

    same_seats : (ms : List (ActiveQueueCallWitness T)) → map seat_of (with_mine ms) ≡ map seat_of left ++ (map seat_of ms ++ map seat_of right)
    same_seats ms =
        map_join seat_of (map (sees_too q') left) (ms ++ map (sees_too q') right)
        ∙ ap (λ (ss : List (ActiveQueueCall T)). ss ++ map seat_of (ms ++ map (sees_too q') right)) (seats_seen q' left)
        ∙ ap (λ (ss : List (ActiveQueueCall T)). map seat_of left ++ ss) (map_join seat_of ms (map (sees_too q') right) ∙ ap (λ (ss : List (ActiveQueueCall T)). map seat_of ms ++ ss) (seats_seen q' right))

    same_unders : (ms : List (ActiveQueueCallWitness T)) → map under_of (with_mine ms) ≡ map (observing q') (map under_of left) ++ (map under_of ms ++ map (observing q') (map under_of right))
    same_unders ms =
        map_join under_of (map (sees_too q') left) (ms ++ map (sees_too q') right)
        ∙ ap (λ (us : List (CallUnderWay T)). us ++ map under_of (ms ++ map (sees_too q') right)) (unders_seen q' left)
        ∙ ap (λ (us : List (CallUnderWay T)). map (observing q') (map under_of left) ++ us) (map_join under_of ms (map (sees_too q') right) ∙ ap (λ (us : List (CallUnderWay T)). map under_of ms ++ us) (unders_seen q' right))

    same_parties : (ms : List (ActiveQueueCallWitness T)) → map party_of (with_mine ms) ≡ map party_of left ++ (map party_of ms ++ map party_of right)
    same_parties ms =
        map_join party_of (map (sees_too q') left) (ms ++ map (sees_too q') right)
        ∙ ap (λ (ps : List (Party T)). ps ++ map party_of (ms ++ map (sees_too q') right)) (parties_seen q' left)
        ∙ ap (λ (ps : List (Party T)). map party_of left ++ ps) (map_join party_of ms (map (sees_too q') right) ∙ ap (λ (ps : List (Party T)). map party_of ms ++ ps) (parties_seen q' right))

    -- a step that went, with the sittings that it leaves
    finish : (ms : List (ActiveQueueCallWitness T)) (n : ℕ) → IsFair r.now mine.phase.ask e.mark → q' ≡ marked mine.phase.ask (makes_room mine.marked_steps) e.mark r.now → OneCell c d
        → FitsAt (chain_after r.chain c d) d q' (map seat_of left ++ (map seat_of ms ++ map seat_of right))
        → Each (λ (x : ActiveQueueCallWitness T). IsKnown q' x) ms → Each (λ (x : ActiveQueueCallWitness T). IsSet d x) ms
        → map under_of ms ≡ unless_ended (stepped (under_of mine) e.mark r.now q' n) e.reply
        → ContinuesAs (under_of mine) (stepped (under_of mine) e.mark r.now q' n) r.now (map under_of left ++ map under_of right) e.reply
        → (parties' : List (Party T)) → parties' ≡ map party_of left ++ (map party_of ms ++ map party_of right)
        → HasRun form (made ++ Step p ∷ []) d parties' (trace ++ e ∷ [])
    unfolding q'
    finish ms n fair effect cell fit known set mine_is goes parties' are =
        let all : List (ActiveQueueCallWitness T) = with_mine ms in
        let chain : List ℕ = chain_after r.chain c d in
        let fits : FitsAt chain d q' (map seat_of all) = subst (λ (ss : List (ActiveQueueCall T)). FitsAt chain d q' ss) (sym (same_seats ms)) fit in
        let knowns : Each (λ (x : ActiveQueueCallWitness T). IsKnown q' x) all =
        each_join (λ (x : ActiveQueueCallWitness T). IsKnown q' x) (map (sees_too q') left) (ms ++ map (sees_too q') right) (known_seen r.now mine.phase.ask (is_displaced mine.phase.stage) e.mark fair my_limit left known_left)
        (each_join (λ (x : ActiveQueueCallWitness T). IsKnown q' x) ms (map (sees_too q') right) known (known_seen r.now mine.phase.ask (is_displaced mine.phase.stage) e.mark fair my_limit right known_rest.1)) in
        let sets : Each (λ (x : ActiveQueueCallWitness T). IsSet d x) all =
        each_join (λ (x : ActiveQueueCallWitness T). IsSet d x) (map (sees_too q') left) (ms ++ map (sees_too q') right) (all_set d q' left)
        (each_join (λ (x : ActiveQueueCallWitness T). IsSet d x) ms (map (sees_too q') right) set (all_set d q' right)) in
        record {
          chain = chain;
          now = q';
          sittings = all;
          opened = r.opened;
          run = more (opened_config (new_cells form) form) made trace (at r.chain c r.now r.sittings) (Step p) e (at chain d q' all) r.run (
            record {
              before = map under_of left;
              mine = under_of mine;
              behind = map under_of right;
              left = n;
              there = ap (λ (xs : List (ActiveQueueCallWitness T)). map under_of xs) there ∙ map_join under_of left (mine ∷ right);
              whose = whose;
              now = effect;
              goes_on = goes;
              under_way = same_unders ms ∙ ap (λ (us : List (CallUnderWay T)). map (observing q') (map under_of left) ++ (us ++ map (observing q') (map under_of right))) mine_is;
            },
            cell,
            refl,
          )
              (reads_of chain d q' all fits knowns);
          fits = fits;
          parties_are = are ∙ sym (same_parties ms);
          known = knowns;
          within = within_now d q' all (chain, fits) sets;
          count = accepted_now r.now mine.phase.ask (is_displaced mine.phase.stage) e.mark ∙ ap (λ (n : ℕ). n + one_if_accepted e.mark) r.count ∙ sym (accepted_more trace e);
          limit = same_capacity r.now mine.phase e.mark ∙ r.limit;
        }

module _ {T : Type 0} where
  not_append : (q : Queue T) (a : QueueAsk T) (x : QueueReply T) (s : _) → AnswersTo q a Append x s → ⊥
  not_append q (ask.Push v) x s h = h
  not_append q (ask.ForcePush v) x s h = h
  not_append q ask.Pop x s h = h
  not_append q ask.Close x s h = h
  not_append q ask.IsClosed x s h = h
  not_append q ask.IsEmpty x s h = h
  not_append q ask.IsFull x s h = h
  not_append q ask.Len x s h = h
  not_append q ask.Capacity x s h = h

  -- the parties after a step of the one between the others
  abbrev pub among : List (ActiveQueueCallWitness T) → Party T → Option (QueueReply T) → List (ActiveQueueCallWitness T) → List (Party T)
  among left z None right = map party_of left ++ (z ∷ map party_of right)
  among left z (Some x) right = map party_of left ++ map party_of right

  among_after : (xs : List (ActiveQueueCallWitness T)) (k : ℕ) (y : Party T) (s : SplitAt party_of xs k y) (z : Party T) (reply : Option (QueueReply T)) → parties_after (map party_of xs) k z reply ≡ among s.left z reply s.right
  among_after xs k y s z None = s.set z
  among_after xs k y s z (Some x) = s.removed

module _ {T : Type 0} (form : QueueForm) (made : List (QueueStep T)) (c : Contents T) (parties : List (Party T)) (trace : List (QueueEntry T)) (r : HasRun form made c parties trace) where
  module _ (p : ℕ) (left right : List (ActiveQueueCallWitness T)) (mine : ActiveQueueCallWitness T) (there : r.sittings ≡ left ++ mine ∷ right) (whose : mine.party.id ≡ p) (call : QueueCall T) (d : Contents T) where
    abbrev entry : Option (QueueReply T) → QueueEntry T
    entry reply = record { mark = mark_of call; reply = reply }

    q'' : Queue T
    q'' = after mine.phase (mark_of call) r.now

    step_with : (reply : Option (QueueReply T)) → StepLeaves r.chain c mine.party.call mine.phase d call reply r.now (map seat_of left) (map seat_of right)
        → (parties' : List (Party T)) → parties' ≡ among left (party mine.party.id call) reply right
        → HasRun form (made ++ Step p ∷ []) d parties' (trace ++ entry reply ∷ [])
    unfolding q'
    step_with None h parties' are =
        let m = mark_of call in
        let p' = h.effect.0 in
        let goes = h.effect.1 in
        let known = known_rest form made c parties trace r p 0 left right mine there whose call (entry None) d refl in
        let gone = goes_known r.now mine.seen mine.phase.ask m mine.phase.stage p'.stage mine.marked_steps goes.1 (my_balance form made c parties trace r p 0 left right mine there whose call (entry None) d refl) known.0 in
        let next : Queue T = after mine.phase m r.now in
        let marked_steps : List (MarkedStep T) = with_mark mine.marked_steps m r.now mine.seen in
        let mine' : ActiveQueueCallWitness T = record { party = party mine.party.id call; phase = p'; marked_steps = marked_steps; seen = next ∷ mine.seen; left = rank d call } in
        let known' : IsKnown next mine' = subst (λ (a : QueueAsk T). Evidence next a p'.stage marked_steps (next ∷ mine.seen)) (sym goes.0) gone.evidence in
        let bound = my_bound form made c parties trace r p 0 left right mine there whose call (entry None) d refl in
        let lefts = known_left form made c parties trace r p 0 left right mine there whose call (entry None) d refl in
        finish form made c parties trace r p 0 left right mine there whose call (entry None) d refl (mine' ∷ []) (rank d call)
        (fair_goes r.now mine.phase m p' goes) gone.same h.one_cell h.effect.2 (known', tt) (inr (omega arith), tt)
        (ap (λ (a : QueueAsk T). (let u : CallUnderWay T = record { party = mine.party.id; ask = a; marked_steps = marked_steps; seen = next ∷ mine.seen; left = rank d call } in u ∷ [])) goes.0)
        (gone.begun, ranks d next p' call (map seat_of left) (map seat_of right) (_, h.effect.2), λ free. (let n : rank d call < rank c mine.party.call = h.ends (nobody r.now left right lefts known.1 free) in omega arith))
        parties' are
    step_with (Some x) h parties' are =
        let m = mark_of call in
        let answers = h.effect.0 in
        let known = known_rest form made c parties trace r p 0 left right mine there whose call (entry (Some x)) d refl in
        finish form made c parties trace r p 0 left right mine there whose call (entry (Some x)) d refl [] 0
        (fair_answers r.now mine.phase m x answers)
        (answers_same r.now mine.phase.ask m (is_displaced mine.phase.stage) (makes_room mine.marked_steps) (λ e. not_append r.now mine.phase.ask x mine.phase.stage (subst (λ (n : QueueMark). AnswersTo r.now mine.phase.ask n x mine.phase.stage) e answers)))
        h.one_cell h.effect.1 tt tt refl
        (answers_known r.now mine.seen mine.phase.ask m x mine.phase.stage mine.marked_steps answers known.0)
        parties' are

  -- a call makes a step
  pub has_stepped : (p : ℕ) (e : QueueEntry T) (d : Contents T) (parties' : List (Party T)) → Turns (Step p) c parties e d parties' → IsCounted form (trace ++ e ∷ [])
      → HasRun form (made ++ Step p ∷ []) d parties' (trace ++ e ∷ [])
  has_stepped p e d parties' t counted =
      let k = t.0 in
      let old = t.1.0 in
      let s = split party_of r.sittings k (party p old) (subst (λ (ps : List (Party T)). slice_get ps k ≡ Some (party p old)) r.parties_are t.1.1) in
      let st = t.2 (party p old) t.1.1 in
      let call = st.0 in
      let is_call : mine_call s ≡ old = ap (λ (x : Party T). x.call) s.is in
      let is_id : s.mine.party.id ≡ p = ap (λ (x : Party T). x.id) s.is in
      let step : IsQueueStep c s.mine.party.call d call e.reply = subst (λ (x : QueueCall T). IsQueueStep c x d call e.reply) (sym is_call) st.1 in
      let fits = fits_now form made c parties trace r p k s.left s.right s.mine s.there is_id call e d st.2 in
      let h = step r.chain r.now s.mine.phase (map seat_of s.left) (map seat_of s.right) (in_range form made c parties trace r e counted) fits in
      let are : parties' ≡ among s.left (party s.mine.party.id call) e.reply s.right =
      st.3 ∙ ap (λ (ps : List (Party T)). parties_after ps k (party p call) e.reply) r.parties_are ∙ among_after r.sittings k (party p old) s (party p call) e.reply
      ∙ ap (λ (n : ℕ). among s.left (party n call) e.reply s.right) (sym is_id) in
      subst (λ (m : QueueMark). HasRun form (made ++ Step p ∷ []) d parties' (trace ++ record { mark = m; reply = e.reply } ∷ [])) (sym st.2)
      (step_with p s.left s.right s.mine s.there is_id call d e.reply h parties' are)
    where
      mine_call : {k : ℕ} {y : Party T} → SplitAt party_of r.sittings k y → QueueCall T
      mine_call s = s.mine.party.call

-- ---- the loop

module _ {T : Type 0} where
  counted_before : (form : QueueForm) (trace : List (QueueEntry T)) (e : QueueEntry T) → IsCounted form (trace ++ e ∷ []) → IsCounted form trace
  counted_before form trace e (inl h) = inl h
  counted_before form trace e (inr h) = inr (omega (arith, accepted_more trace e))

  -- the loop's state
  pub record IsRunning (form : QueueForm) (steps left : List (QueueStep T)) (trace : List (QueueEntry T)) (c : Contents T) (parties : List (Party T)) : Type 0 where
    pub made : List (QueueStep T)
    pub first : steps ≡ made ++ left
    pub entries : length trace ≡ length made
    pub run : IsCounted form trace → HasRun form made c parties trace

  pub running_start : (form : QueueForm) (steps : List (QueueStep T)) (c : Contents T) → IsNew form c → IsRunning form steps steps [] c []
  running_start form steps c (same, fits, new) =
      record {
        made = [];
        first = refl;
        entries = refl;
        run = λ h. record {
          chain = [];
          now = opened (capacity_of form);
          sittings = [];
          opened = subst (λ (x : Contents T). Reads [] x (new_scene (capacity_of form))) new (reads_of [] c (opened (capacity_of form)) [] fits tt);
          run = ap (λ (x : Contents T). opened_config x form) new;
          fits = fits;
          parties_are = refl;
          known = tt;
          within = tt;
          count = refl;
          limit = refl;
        };
      }

  turned : (form : QueueForm) (made : List (QueueStep T)) (c : Contents T) (parties : List (Party T)) (trace : List (QueueEntry T)) (s : QueueStep T) (e : QueueEntry T) (d : Contents T) (parties' : List (Party T))
      → HasRun form made c parties trace → Turns s c parties e d parties' → IsCounted form (trace ++ e ∷ []) → HasRun form (made ++ s ∷ []) d parties' (trace ++ e ∷ [])
  turned form made c parties trace (Begin p a) e d parties' r t counted = has_begun form made c parties trace r p a e d parties' t
  turned form made c parties trace (Step p) e d parties' r t counted = has_stepped form made c parties trace r p e d parties' t counted

  one_longer : (xs : List (QueueEntry T)) (ys : List (QueueStep T)) (x : QueueEntry T) (y : QueueStep T) → length xs ≡ length ys → length (xs ++ x ∷ []) ≡ length (ys ++ y ∷ [])
  one_longer xs ys x y e = omega (arith, length-append xs (x ∷ []), length-append ys (y ∷ []), e)

  pub running_more : (form : QueueForm) (steps left : List (QueueStep T)) (trace : List (QueueEntry T)) (c : Contents T) (parties : List (Party T)) (left' : List (QueueStep T)) (trace' : List (QueueEntry T)) (d : Contents T) (parties' : List (Party T))
      → IsRunning form steps left trace c parties → TurnedOver left c parties trace left' d parties' trace' → IsRunning form steps left' trace' d parties'
  running_more form steps left trace c parties left' trace' d parties' r (s, first, (e, longer, t)) =
      subst (λ (es : List (QueueEntry T)). IsRunning form steps left' es d parties') (sym longer)
      (record {
        made = r.made ++ s ∷ [];
        first = r.first ∙ ap (λ (ss : List (QueueStep T)). r.made ++ ss) first ∙ sym (append_assoc r.made (s ∷ []) left');
        entries = one_longer trace r.made e s r.entries;
        run = λ counted. turned form r.made c parties trace s e d parties' (r.run (counted_before form trace e counted)) t counted;
      })

  under_way_of : (p : ℕ) (xs : List (ActiveQueueCallWitness T)) (k : ℕ) → HasParty p (map party_of xs) k → IsUnderWay p (map under_of xs)
  under_way_of p [] k h = absurd cc
  under_way_of p (x ∷ xs) zero (call, e) = inl (let same : x.party ≡ party p call = cc in ap (λ (y : Party T). y.id) same)
  under_way_of p (x ∷ xs) (suc k) h = inr (under_way_of p xs k h)

  idle_of : (p : ℕ) (xs : List (ActiveQueueCallWitness T)) → NoneHas p (map party_of xs) → NotUnderWay p (map under_of xs)
  idle_of p [] none = tt
  idle_of p (x ∷ xs) none = (λ e. none 0 x.party refl e, idle_of p xs (λ k y there e. none (suc k) y there e))

  refused_of : (left : List (QueueStep T)) (parties : List (Party T)) (xs : List (ActiveQueueCallWitness T)) (why : QueueRefusal) → parties ≡ map party_of xs → IsRefused left parties why → MayRefuse (map under_of xs) left why
  refused_of (Begin p a ∷ ss) parties xs Busy e h = under_way_of p xs h.0 (subst (λ (ps : List (Party T)). HasParty p ps h.0) e h.1)
  refused_of (Begin p a ∷ ss) parties xs NoMemory e h = idle_of p xs (subst (λ (ps : List (Party T)). NoneHas p ps) e h)
  refused_of (Step p ∷ ss) parties xs Idle e h = idle_of p xs (subst (λ (ps : List (Party T)). NoneHas p ps) e h)
  refused_of (Step p ∷ ss) parties xs NoMemory e h = under_way_of p xs h.0 (subst (λ (ps : List (Party T)). HasParty p ps h.0) e h.1)
  refused_of left parties xs why e h = absurd h

  pub running_stop : (form : QueueForm) (steps left : List (QueueStep T)) (trace : List (QueueEntry T)) (c : Contents T) (parties : List (Party T)) (place : ℕ) (why : QueueRefusal)
      → IsRunning form steps left trace c parties → place ≡ length trace → IsRefused left parties why → RanTo form steps left trace (Some (record { place = place; why = why }))
  running_stop form steps left trace c parties place why r e h =
      record {
        made = r.made;
        first = r.first;
        entries = r.entries;
        ended = e ∙ r.entries;
        run = λ counted. (let x = r.run counted in record { last = at x.chain c x.now x.sittings; opened = x.opened; run = x.run; refused = refused_of left parties x.sittings why x.parties_are h });
      }

  pub running_end : (form : QueueForm) (steps left : List (QueueStep T)) (trace : List (QueueEntry T)) (c : Contents T) (parties : List (Party T))
      → IsRunning form steps left trace c parties → left ≡ [] → RanTo form steps left trace None
  running_end form steps left trace c parties r e =
      record {
        made = r.made;
        first = r.first;
        entries = r.entries;
        ended = e;
        run = λ counted. (let x = r.run counted in record { last = at x.chain c x.now x.sittings; opened = x.opened; run = x.run; refused = tt });
      }

pub no_items : {A : Type 0} (xs : List A) → length xs ≡ 0 → xs ≡ []
no_items [] e = refl
no_items (x ∷ xs) e = absurd (omega arith)
