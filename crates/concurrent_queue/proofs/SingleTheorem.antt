-- The machine of one slot meets what every form delivers.
use Rattle.std.proofs.Common.{◌≡◌, ℕ, ◌+◌, ◌<◌, ◌≤◌, Bool, true, false, List, [], ◌∷◌, ◌++◌, Option, None, Some, if◌then◌else◌, ◌==◌, MatchOption, refl, sym, ap, ◌∙◌, subst, inl, inr, arith}
use Rattle.concurrent_queue.specs.Contents.{Contents, can_put, empty_slot}
use Rattle.concurrent_queue.specs.Queue.{Queue, Stage, Phase, asked, after, Continues, Answers, opened}
use Rattle.concurrent_queue.specs.machine.Places.{Place, Each}
use Rattle.concurrent_queue.specs.machine.Dispatch.{IsSingleStep}
use Rattle.concurrent_queue.specs.machine.Single.{single_step, start}
use Rattle.concurrent_queue.specs.machine.SingleState.{holds, holders, KnowsSingle, Means, SingleMeans, single_rank}
use Rattle.concurrent_queue.specs.Step.{OneCell, IsQuiet, AllQuiet, PhasesQuiet}
use Rattle.concurrent_queue.specs.machine.Forms.{place, place_phases, FormStep, FormSteps, FormStarts, FormRanks}
use Rattle.concurrent_queue.specs.declared.call.QueueAsk.{QueueAsk}
use Rattle.concurrent_queue.specs.declared.call.QueueAsk.TheVariants as ask
use Rattle.concurrent_queue.specs.declared.call.QueueReply.{QueueReply}
use Rattle.concurrent_queue.specs.declared.call.Stepped.{Stepped}
use Rattle.concurrent_queue.specs.declared.cells.Slot.TheVariants.{At}
use Rattle.concurrent_queue.specs.declared.cells.Word.TheVariants.{State}
use Rattle.concurrent_queue.specs.declared.single.SingleAction.{SingleAction}
use Rattle.concurrent_queue.specs.declared.single.SingleAction.TheVariants.{Push, PushPut, PushUnlock, Force, ForceTake, ForcePut, ForceUnlock, Pop, PopTake, PopUnlock, Close, IsClosed, IsEmpty, IsFull, Len, Capacity, Finished}
use Rattle.concurrent_queue.proofs.Balance.{IsFair, fair_goes, fair_answers, balance, same_capacity}
use Rattle.concurrent_queue.proofs.Places.{sum_at, each_at, each_others, each_with, each_keeps}
use Rattle.concurrent_queue.proofs.SingleSteps.{Kept}
use Rattle.concurrent_queue.proofs.SingleKeeps.{Keeps, keeps}
use Rattle.concurrent_queue.proofs.SingleNearer.{Comes, nearer}

lock_of : (l : Bool) (x y : ℕ) → x + y ≡ (if l then 1 else 0) → 1 ≤ x → (l ≡ true) × (y ≡ 0)
lock_of false x y h g = absurd (omega arith)
lock_of true x y h g = (refl, omega arith)

free_of : (l : Bool) (x : ℕ) → x ≡ (if l then 1 else 0) → x ≡ 0 → l ≡ false
free_of false x h g = refl
free_of true x h g = absurd (omega arith)

few : (b : Bool) (x y : ℕ) → x < 64 → y < 64 → (if b then x else y) < 64
few true x y f g = f
few false x y f g = g

module _ {T : Type 0} where
  -- what another call knows is still so
  module _ (slot item slot' item' : Option T) where
    knows_other : (a : SingleAction T) (p : Phase T) → (1 ≤ holds a → (slot' ≡ slot) × (item' ≡ item)) → KnowsSingle slot item a p → KnowsSingle slot' item' a p
    knows_other (Push v) p h f = f
    knows_other (PushPut v) p h f = let e = h (omega arith) in (f.0, e.0 ∙ f.1, e.1 ∙ f.2)
    knows_other PushUnlock p h f = let e = h (omega arith) in (f.0, f.1, e.0 ∙ f.2, e.1 ∙ f.3)
    knows_other (Force v x) p h f = f
    knows_other (ForceTake v) p h f = let e = h (omega arith) in (f.0, f.1, e.0 ∙ f.2, e.1 ∙ f.3)
    knows_other (ForcePut v d) p h f = let e = h (omega arith) in (f.0, e.0 ∙ f.1, e.1 ∙ f.2)
    knows_other (ForceUnlock d) p h f = let e = h (omega arith) in (f.0, f.1, e.0 ∙ f.2, e.1 ∙ f.3)
    knows_other (Pop x) p h f = f
    knows_other PopTake p h f = let e = h (omega arith) in (f.0, f.1, e.0 ∙ f.2, e.1 ∙ f.3)
    knows_other (PopUnlock d) p h f = let e = h (omega arith) in (f.0, e.0 ∙ f.1, e.1 ∙ f.2)
    knows_other Close p h f = f
    knows_other IsClosed p h f = f
    knows_other IsEmpty p h f = f
    knows_other IsFull p h f = f
    knows_other Len p h f = f
    knows_other Capacity p h f = f
    knows_other Finished p h f = f

  module _ (c : Contents T) where
    either : (b : Bool) (x y : Contents T × Stepped (SingleAction T) T) → OneCell c x.0 → OneCell c y.0 → OneCell c (if b then x else y).0
    either true x y f g = f
    either false x y f g = g

    -- each step is one operation on the word or the slot
    one_cell : (a : SingleAction T) → OneCell c (single_step c a).0
    unfolding OneCell
    one_cell (Push v) = either (c.state == 0) _ _ (inr (inl (State, 3, refl))) (inl refl)
    one_cell (PushPut v) = either (can_put c (At 0)) _ _ (inr (inr (inl (At 0, Some v, refl)))) (inl refl)
    one_cell PushUnlock = inr (inl (State, _, refl))
    one_cell (Force v x) = either (c.state == x) _ _ (inr (inl (State, 3, refl))) (inl refl)
    one_cell (ForceTake v) = inr (inr (inl (At 0, None, refl)))
    one_cell (ForcePut v d) = either (can_put c (At 0)) _ _ (inr (inr (inl (At 0, Some v, refl)))) (inl refl)
    one_cell (ForceUnlock d) = inr (inl (State, _, refl))
    one_cell (Pop x) = either (c.state == x) _ _ (inr (inl (State, _, refl))) (inl refl)
    one_cell PopTake = inr (inr (inl (At 0, None, refl)))
    one_cell (PopUnlock d) = inr (inl (State, _, refl))
    one_cell Close = inr (inl (State, _, refl))
    one_cell IsClosed = inl refl
    one_cell IsEmpty = inl refl
    one_cell IsFull = inl refl
    one_cell Len = inl refl
    one_cell Capacity = inl refl
    one_cell Finished = inl refl

    either_form : (b : Bool) (x y : Contents T × Stepped (SingleAction T) T) → x.0.form ≡ c.form → y.0.form ≡ c.form → (if b then x else y).0.form ≡ c.form
    either_form true x y f g = f
    either_form false x y f g = g

    same_form : (a : SingleAction T) → (single_step c a).0.form ≡ c.form
    same_form (Push v) = either_form (c.state == 0) _ _ refl refl
    same_form (PushPut v) = either_form (can_put c (At 0)) _ _ refl refl
    same_form PushUnlock = refl
    same_form (Force v x) = either_form (c.state == x) _ _ refl refl
    same_form (ForceTake v) = refl
    same_form (ForcePut v d) = either_form (can_put c (At 0)) _ _ refl refl
    same_form (ForceUnlock d) = refl
    same_form (Pop x) = either_form (c.state == x) _ _ refl refl
    same_form PopTake = refl
    same_form (PopUnlock d) = refl
    same_form Close = refl
    same_form IsClosed = refl
    same_form IsEmpty = refl
    same_form IsFull = refl
    same_form Len = refl
    same_form Capacity = refl
    same_form Finished = refl

  -- a call with no mark holds nothing
  quiet_holds : (slot item : Option T) (a : SingleAction T) (p : Phase T) → KnowsSingle slot item a p → IsQuiet p.stage → holds a ≡ 0
  quiet_holds slot item (Push v) p f h = refl
  quiet_holds slot item (PushPut v) p f h = absurd (subst (λ (s : Stage T). IsQuiet s) f.0.1 h)
  quiet_holds slot item PushUnlock p f h = absurd (subst (λ (s : Stage T). IsQuiet s) f.1.1 h)
  quiet_holds slot item (Force v x) p f h = refl
  quiet_holds slot item (ForceTake v) p f h = absurd (subst (λ (s : Stage T). IsQuiet s) f.1.1 h)
  quiet_holds slot item (ForcePut v d) p f h = absurd (subst (λ (s : Stage T). IsQuiet s) f.0.1 h)
  quiet_holds slot item (ForceUnlock d) p f h = absurd (subst (λ (s : Stage T). IsQuiet s) f.1.1 h)
  quiet_holds slot item (Pop x) p f h = refl
  quiet_holds slot item PopTake p f h = absurd (subst (λ (s : Stage T). IsQuiet s) f.1.1 h)
  quiet_holds slot item (PopUnlock d) p f h = absurd (subst (λ (s : Stage T). IsQuiet s) f.0.1 h)
  quiet_holds slot item Close p f h = refl
  quiet_holds slot item IsClosed p f h = refl
  quiet_holds slot item IsEmpty p f h = refl
  quiet_holds slot item IsFull p f h = refl
  quiet_holds slot item Len p f h = refl
  quiet_holds slot item Capacity p f h = refl
  quiet_holds slot item Finished p f h = refl

  none_hold : (slot item : Option T) (ps : List (Place (SingleAction T) T)) → Each (λ (x : Place (SingleAction T) T). KnowsSingle slot item x.action x.phase) ps → AllQuiet (place_phases ps) → holders ps ≡ 0
  none_hold slot item [] all quiet = refl
  none_hold slot item (x ∷ ps) all quiet = omega (arith, quiet_holds slot item x.action x.phase all.0 quiet.0, none_hold slot item ps all.1 quiet.1)

  module _ (c : Contents T) (q : Queue T) (a : SingleAction T) (p : Phase T) (l r : List (Place (SingleAction T) T)) (locked : Bool) (item slot : Option T) (m : Means c q (l ++ place a p ∷ r) locked item slot) where
    together : holds a + holders (l ++ r) ≡ (if locked then 1 else 0)
    together = omega (arith, sum_at (λ (x : SingleAction T). holds x) l r (place a p), m.one_holder)

    mine : KnowsSingle slot item a p
    mine = each_at (λ (x : Place (SingleAction T) T). KnowsSingle slot item x.action x.phase) l r (place a p) m.calls

    others : Each (λ (x : Place (SingleAction T) T). KnowsSingle slot item x.action x.phase) (l ++ r)
    others = each_others (λ (x : Place (SingleAction T) T). KnowsSingle slot item x.action x.phase) l r (place a p) m.calls

    kept : Keeps c q locked item slot a p
    kept = keeps c q locked item slot p m.state m.slots m.items m.coming m.limit m.at_rest a (λ h. (lock_of locked (holds a) (holders (l ++ r)) together (omega arith)).0) mine

    module _ (d : Contents T) (s : Stepped (SingleAction T) T) (locked' : Bool) (item' slot' : Option T) (p' : Phase T) (k : Kept locked item slot q a p d s locked' item' slot' p') where
      other : (x : Place (SingleAction T) T) → KnowsSingle slot item x.action x.phase → holds x.action ≤ holders (l ++ r) → KnowsSingle slot' item' x.action x.phase
      other x f h = knows_other slot item slot' item' x.action x.phase
          (λ g. let lock = lock_of locked (holders (l ++ r)) (holds a) (omega (arith, together)) (omega arith) in k.same lock.0 lock.1) f

      others_after : Each (λ (x : Place (SingleAction T) T). KnowsSingle slot' item' x.action x.phase) (l ++ r)
      others_after = each_keeps _ _ (λ (x : SingleAction T). holds x) (holders (l ++ r)) other (l ++ r) (omega arith) others

      means_after : (ps : List (Place (SingleAction T) T)) → IsFair q p.ask s.mark → holders ps ≡ (if locked' then 1 else 0) → Each (λ (x : Place (SingleAction T) T). KnowsSingle slot' item' x.action x.phase) ps
          → SingleMeans d (after p s.mark q) ps
      means_after ps fair one all = (
        locked',
        item',
        slot',
        record {
          state = k.state;
          slots = k.slots;
          items = k.items;
          coming = k.coming;
          counts = balance q p s.mark fair m.counts;
          limit = same_capacity q p s.mark ∙ m.limit;
          one_holder = one;
          at_rest = k.at_rest;
          calls = all;
        },
      )

      does_after : (reply : Option (QueueReply T))
          → MatchOption reply (Continues q p s.mark p' × KnowsSingle slot' item' s.action p') (λ y. Answers q p s.mark y × (s.action ≡ Finished))
          → MatchOption reply
          ((p' : Phase T) × Continues q p s.mark p' × SingleMeans d (after p s.mark q) (l ++ place s.action p' ∷ r))
          (λ x. Answers q p s.mark x × SingleMeans d (after p s.mark q) (l ++ r))
      does_after None h =
          let x : Place (SingleAction T) T = place s.action p' in (
            p',
            h.0,
            means_after (l ++ x ∷ r) (fair_goes q p s.mark p' h.0)
                (omega (arith, sum_at (λ (y : SingleAction T). holds y) l r x, together, k.holding))
                (each_with _ l r x others_after h.1),
          )
      does_after (Some y) h =
          let e : holds s.action ≡ 0 = ap (λ (x : SingleAction T). holds x) h.1 in
          (h.0, means_after (l ++ r) (fair_answers q p s.mark y h.0) (omega (arith, together, k.holding)) others_after)

    nearer_now : PhasesQuiet q (place_phases (l ++ r)) → Comes c a
    nearer_now quiet =
        let none = none_hold slot item (l ++ r) others quiet.0 in
        nearer c locked item slot q.closed p m.state m.slots a (λ h. free_of locked (holds a) (omega (arith, together)) h) mine

    step_now : FormStep SingleMeans single_rank c a p (single_step c a).0 (single_step c a).1 q l r
    step_now =
        let s = (single_step c a).1 in
        record {
          same_form = same_form c a;
          one_cell = one_cell c a;
          effect = does_after (single_step c a).0 s kept.0 kept.1 kept.2 kept.3 kept.4 s.reply kept.4.effect;
          ends = nearer_now;
        }

  pub single_steps : FormSteps {A = SingleAction T} {T = T} (λ chain c q xs. SingleMeans c q xs) single_rank IsSingleStep
  single_steps chain c a d s q p l r made range (locked, item, slot, m) =
      subst (λ (x : Contents T × Stepped (SingleAction T) T). FormStep SingleMeans single_rank c a p x.0 x.1 q l r) (sym made) (step_now c q a p l r locked item slot m)

  -- ---- a new call

  start_free : (a : QueueAsk T) → holds (start a) ≡ 0
  start_free (ask.Push v) = refl
  start_free (ask.ForcePush v) = refl
  start_free ask.Pop = refl
  start_free ask.Close = refl
  start_free ask.IsClosed = refl
  start_free ask.IsEmpty = refl
  start_free ask.IsFull = refl
  start_free ask.Len = refl
  start_free ask.Capacity = refl

  start_knows : (slot item : Option T) (a : QueueAsk T) → KnowsSingle slot item (start a) (asked a)
  start_knows slot item (ask.Push v) = (refl, tt)
  start_knows slot item (ask.ForcePush v) = ((refl, tt), inl refl)
  start_knows slot item ask.Pop = ((refl, tt), inl refl)
  start_knows slot item ask.Close = (refl, tt)
  start_knows slot item ask.IsClosed = (refl, tt)
  start_knows slot item ask.IsEmpty = (refl, tt)
  start_knows slot item ask.IsFull = (refl, tt)
  start_knows slot item ask.Len = (refl, tt)
  start_knows slot item ask.Capacity = (refl, tt)

  pub single_starts : FormStarts {A = SingleAction T} {T = T} SingleMeans single_rank start
  single_starts c q a l r (locked, item, slot, m) =
      let x : Place (SingleAction T) T = place (start a) (asked a) in (
        locked,
        item,
        slot,
        record {
          state = m.state;
          slots = m.slots;
          items = m.items;
          coming = m.coming;
          counts = m.counts;
          limit = m.limit;
          one_holder = omega (arith, sum_at (λ (y : SingleAction T). holds y) l r x, m.one_holder, start_free a);
          at_rest = m.at_rest;
          calls = each_with _ l r x m.calls (start_knows slot item a);
        },
      )

  pub single_opened : SingleMeans {T = T} empty_slot (opened (Some 1)) []
  single_opened = (false, None, None, record { state = refl; slots = refl; items = refl; coming = refl; counts = refl; limit = refl; one_holder = refl; at_rest = λ e. refl; calls = tt })

  -- ---- the bound on steps

  rank_few : (c : Contents T) (a : SingleAction T) → single_rank c a < 64
  rank_few c (Push v) = omega arith
  rank_few c (PushPut v) = omega arith
  rank_few c PushUnlock = omega arith
  rank_few c (Force v x) = few (c.state == x) 4 5 (omega arith) (omega arith)
  rank_few c (ForceTake v) = omega arith
  rank_few c (ForcePut v d) = omega arith
  rank_few c (ForceUnlock d) = omega arith
  rank_few c (Pop x) = few (c.state == x) 3 4 (omega arith) (omega arith)
  rank_few c PopTake = omega arith
  rank_few c (PopUnlock v) = omega arith
  rank_few c Close = omega arith
  rank_few c IsClosed = omega arith
  rank_few c IsEmpty = omega arith
  rank_few c IsFull = omega arith
  rank_few c Len = omega arith
  rank_few c Capacity = omega arith
  rank_few c Finished = omega arith

  pub single_ranks : FormRanks {A = SingleAction T} {T = T} SingleMeans single_rank
  single_ranks c q a p l r m = rank_few c a
