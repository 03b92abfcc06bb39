-- The machine of a ring meets what every form delivers.
use Rattle.std.proofs.Common.{◌≡◌, ℕ, ◌+◌, ◌*◌, ◌^◌, ◌<◌, ◌≤◌, ⊎_elim, Bool, true, false, if◌then◌else◌, List, [], ◌∷◌, ◌++◌, map, Option, None, Some, MatchOption, refl, sym, ap, ◌∙◌, subst, arith}
use Rattle.concurrent_queue.specs.Contents.{Contents}
use Rattle.concurrent_queue.specs.machine.Positions.{pos}
use Rattle.concurrent_queue.specs.Queue.{Queue, Phase, asked, after, Continues, Answers, IsInRange}
use Rattle.concurrent_queue.specs.machine.Places.{Place, Each, sum}
use Rattle.concurrent_queue.specs.Step.{IsQuiet, AllQuiet, PhasesQuiet}
use Rattle.concurrent_queue.specs.machine.Forms.{place, place_phases, FormStep, FormSteps, FormStarts, FormRanks}
use Rattle.concurrent_queue.specs.machine.RingState.{Ring, SoundRing, IsShown}
use Rattle.concurrent_queue.specs.machine.RingCalls.{Duty, hold, bring, IsDuty, owes, owed, KnowsRing, placed}
use Rattle.concurrent_queue.specs.machine.RingMeans.{Later, Denotes, place_at, RingMeans}
use Rattle.concurrent_queue.specs.machine.RingRank.{ring_rank, rests_at}
use Rattle.concurrent_queue.specs.machine.RingWords.{ring_step, ring_start}
use Rattle.concurrent_queue.proofs.Places.{sum_at, each_at, each_others, each_with}
use Rattle.concurrent_queue.proofs.RingShape.{IsMark}
use Rattle.concurrent_queue.proofs.RingLater.{later_keeps}
use Rattle.concurrent_queue.proofs.RingNearer.{nearer}
use Rattle.concurrent_queue.proofs.RingOneCell.{ring_one_cell, ring_same_form}
use Rattle.concurrent_queue.proofs.RingSteps.{RingStep, ring_steps}
use Rattle.concurrent_queue.specs.declared.call.QueueAsk.{QueueAsk}
use Rattle.concurrent_queue.specs.declared.call.QueueAsk.TheVariants as ask
use Rattle.concurrent_queue.specs.declared.call.QueueReply.{QueueReply}
use Rattle.concurrent_queue.specs.declared.call.Stepped.{Stepped}
use Rattle.concurrent_queue.specs.declared.bounded.RingAction.{RingAction}
use Rattle.concurrent_queue.specs.declared.bounded.RingAction.TheVariants as act

-- a list that is a map, cut in two
pub record CutMap {A B : Type 0} (f : A → B) (l r : List B) (xs : List A) : Type 0 where
  pub left : List A
  pub right : List A
  pub there : xs ≡ left ++ right
  pub lefts : l ≡ map f left
  pub rights : r ≡ map f right

cut : {A B : Type 0} (f : A → B) (l r : List B) (xs : List A) → l ++ r ≡ map f xs → CutMap f l r xs
cut f [] r xs e = record { left = []; right = xs; there = refl; lefts = refl; rights = e }
cut f (y ∷ l) r [] e = absurd cc
cut f (y ∷ l) r (x ∷ xs) e =
    let t : l ++ r ≡ map f xs = cc in
    let h : y ≡ f x = cc in
    let g = cut f l r xs t in
    record { left = x ∷ g.left; right = g.right; there = ap (λ zs. x ∷ zs) g.there; lefts = (let i = g.lefts in cc); rights = g.rights }

-- the same where one stands between the others
pub record CutAt {A B : Type 0} (f : A → B) (l r : List B) (x : B) (xs : List A) : Type 0 where
  pub left : List A
  pub mine : A
  pub right : List A
  pub there : xs ≡ left ++ mine ∷ right
  pub lefts : l ≡ map f left
  pub is : x ≡ f mine
  pub rights : r ≡ map f right

pub cut_at : {A B : Type 0} (f : A → B) (l r : List B) (x : B) (xs : List A) → l ++ x ∷ r ≡ map f xs → CutAt f l r x xs
cut_at f [] r x [] e = absurd cc
cut_at f [] r x (y ∷ ys) e = record { left = []; mine = y; right = ys; there = refl; lefts = refl; is = cc; rights = cc }
cut_at f (z ∷ l) r x [] e = absurd cc
cut_at f (z ∷ l) r x (y ∷ ys) e =
    let t : l ++ x ∷ r ≡ map f ys = cc in
    let h : z ≡ f y = cc in
    let g = cut_at f l r x ys t in
    record { left = y ∷ g.left; mine = g.mine; right = g.right; there = ap (λ zs. y ∷ zs) g.there; lefts = (let i = g.lefts in cc); is = g.is; rights = g.rights }

pub map_joined : {A B : Type 0} (f : A → B) (xs ys : List A) → map f (xs ++ ys) ≡ map f xs ++ map f ys
map_joined f [] ys = refl
map_joined f (x ∷ xs) ys = ap (λ zs. f x ∷ zs) (map_joined f xs ys)

joined_with : {A B : Type 0} (f : A → B) (l r : List B) (x : B) (left right : List A) (y : A) → l ≡ map f left → r ≡ map f right → x ≡ f y → l ++ x ∷ r ≡ map f (left ++ y ∷ right)
joined_with f l r x left right y e g h = rw (e, g, h) (sym (map_joined f left (y ∷ right)))

two_low : (b : Bool) (x y : ℕ) → x < 64 → y < 64 → (if b then x else y) < 64
two_low true x y f g = f
two_low false x y f g = g

module _ {T : Type 0} where
  pub same_phases : (at : ℕ → ℕ) (xs : List (Place (RingAction T) T)) → place_phases (map (place_at at) xs) ≡ place_phases xs
  same_phases at [] = refl
  same_phases at (x ∷ xs) = ap (λ (ps : List (Phase T)). x.phase ∷ ps) (same_phases at xs)

  -- a call with no mark owes nothing
  idle_owes : (cap : ℕ) (r : Ring T) (a : RingAction T) (p : Phase T) → KnowsRing cap r a p → IsQuiet p.stage → (y : Duty) → owes cap a y ≡ 0
  idle_owes cap r (act.PushPut k v n) p h g y = absurd (subst (λ (z : Phase T). IsQuiet z.stage) h.0 g)
  idle_owes cap r (act.PushStore k n) p h g y = absurd (subst (λ (z : Phase T). IsQuiet z.stage) h.1 g)
  idle_owes cap r (act.ForceAdd v c) p h g y = absurd (subst (λ (z : Phase T). IsQuiet z.stage) h.1 g)
  idle_owes cap r (act.ForceTake v c) p h g y = absurd (subst (λ (z : Phase T). IsQuiet z.stage) h.1 g)
  idle_owes cap r (act.ForcePut v c d) p h g y = absurd (subst (λ (z : Phase T). IsQuiet z.stage) h.0 g)
  idle_owes cap r (act.ForceStore c d) p h g y = absurd (subst (λ (z : Phase T). IsQuiet z.stage) h.1 g)
  idle_owes cap r (act.PopTake n) p h g y = absurd (subst (λ (z : Phase T). IsQuiet z.stage) h.1 g)
  idle_owes cap r (act.PopStore n d) p h g y = absurd (subst (λ (z : Phase T). IsQuiet z.stage) h.0 g)
  idle_owes cap r (act.Push k v) p h g (hold i) = refl
  idle_owes cap r (act.Push k v) p h g bring = refl
  idle_owes cap r (act.PushShut k v) p h g y = absurd h
  idle_owes cap r (act.PushStamp k v n) p h g (hold i) = refl
  idle_owes cap r (act.PushStamp k v n) p h g bring = refl
  idle_owes cap r (act.PushSwap k v n) p h g (hold i) = refl
  idle_owes cap r (act.PushSwap k v n) p h g bring = refl
  idle_owes cap r (act.PushHead v c) p h g (hold i) = refl
  idle_owes cap r (act.PushHead v c) p h g bring = refl
  idle_owes cap r (act.ForceHead v c) p h g (hold i) = refl
  idle_owes cap r (act.ForceHead v c) p h g bring = refl
  idle_owes cap r act.Pop p h g (hold i) = refl
  idle_owes cap r act.Pop p h g bring = refl
  idle_owes cap r (act.PopStamp n) p h g (hold i) = refl
  idle_owes cap r (act.PopStamp n) p h g bring = refl
  idle_owes cap r (act.PopSwap n) p h g (hold i) = refl
  idle_owes cap r (act.PopSwap n) p h g bring = refl
  idle_owes cap r (act.PopTail n) p h g (hold i) = refl
  idle_owes cap r (act.PopTail n) p h g bring = refl
  idle_owes cap r act.Close p h g (hold i) = refl
  idle_owes cap r act.Close p h g bring = refl
  idle_owes cap r act.IsClosed p h g (hold i) = refl
  idle_owes cap r act.IsClosed p h g bring = refl
  idle_owes cap r act.IsEmpty p h g (hold i) = refl
  idle_owes cap r act.IsEmpty p h g bring = refl
  idle_owes cap r (act.IsEmptyTail n) p h g (hold i) = refl
  idle_owes cap r (act.IsEmptyTail n) p h g bring = refl
  idle_owes cap r act.IsFull p h g (hold i) = refl
  idle_owes cap r act.IsFull p h g bring = refl
  idle_owes cap r (act.IsFullHead n) p h g (hold i) = refl
  idle_owes cap r (act.IsFullHead n) p h g bring = refl
  idle_owes cap r act.Len p h g (hold i) = refl
  idle_owes cap r act.Len p h g bring = refl
  idle_owes cap r (act.LenHead n b) p h g (hold i) = refl
  idle_owes cap r (act.LenHead n b) p h g bring = refl
  idle_owes cap r (act.LenTail n b t) p h g (hold i) = refl
  idle_owes cap r (act.LenTail n b t) p h g bring = refl
  idle_owes cap r act.Capacity p h g (hold i) = refl
  idle_owes cap r act.Capacity p h g bring = refl
  idle_owes cap r act.Finished p h g y = absurd h

  abbrev KnowsAt : ℕ → Ring T → Place (RingAction T) T → Type 0
  KnowsAt cap r x = KnowsRing cap r x.action x.phase

  abbrev owners : ℕ → Duty → List (Place (RingAction T) T) → ℕ
  owners cap y xs = sum (λ a. owes cap a y) xs

  all_idle : (cap : ℕ) (r : Ring T) (y : Duty) (xs : List (Place (RingAction T) T)) → Each (KnowsAt cap r) xs → AllQuiet (place_phases xs) → owners cap y xs ≡ 0
  all_idle cap r y [] h g = refl
  all_idle cap r y (x ∷ xs) h g = omega (arith, idle_owes cap r x.action x.phase h.0 g.0 y, all_idle cap r y xs h.1 g.1)

  -- what all others know outlasts the step of a call at a
  all_later : (cap : ℕ) → 0 < cap → (r : Ring T) (a : RingAction T) (r' : Ring T) → Later cap r a r' → (xs : List (Place (RingAction T) T))
      → ((y : Duty) → IsDuty cap y → owes cap a y + owners cap y xs ≤ owed r y) → Each (KnowsAt cap r) xs → Each (KnowsAt cap r') xs
  all_later cap some r a r' l [] h g = tt
  all_later cap some r a r' l (x ∷ xs) h g =
      (later_keeps cap some r a r' l x.action x.phase (λ y i. omega (arith, h y i)) g.0, all_later cap some r a r' l xs (λ y i. omega (arith, h y i)) g.1)

  starts_at : (cap : ℕ) (r : Ring T) (a : QueueAsk T) → KnowsRing cap r (ring_start a) (asked a)
  starts_at cap r (ask.Push v) = (false, refl)
  starts_at cap r (ask.ForcePush v) = (false, refl)
  starts_at cap r ask.Pop = (false, refl)
  starts_at cap r ask.Close = (false, refl)
  starts_at cap r ask.IsClosed = (false, refl)
  starts_at cap r ask.IsEmpty = (false, refl)
  starts_at cap r ask.IsFull = (false, refl)
  starts_at cap r ask.Len = (false, refl)
  starts_at cap r ask.Capacity = (false, refl)

  start_placed : (at : ℕ → ℕ) (a : QueueAsk T) → ring_start a ≡ placed at (ring_start a)
  start_placed at (ask.Push v) = refl
  start_placed at (ask.ForcePush v) = refl
  start_placed at ask.Pop = refl
  start_placed at ask.Close = refl
  start_placed at ask.IsClosed = refl
  start_placed at ask.IsEmpty = refl
  start_placed at ask.IsFull = refl
  start_placed at ask.Len = refl
  start_placed at ask.Capacity = refl

  rank_low : (m : ℕ) (c : Contents T) (a : RingAction T) → ring_rank m c a < 64
  rank_low m c (act.Push k v) = omega arith
  rank_low m c (act.PushShut k v) = omega arith
  rank_low m c (act.PushStamp k v t) = two_low (Rattle.std.proofs.Common.nat_eq c.tail t) 6 14 (omega arith) (omega arith)
  rank_low m c (act.PushSwap k v t) = two_low _ 3 11 (omega arith) (omega arith)
  rank_low m c (act.PushPut k v t) = omega arith
  rank_low m c (act.PushStore k t) = omega arith
  rank_low m c (act.PushHead v h) = two_low _ 1 9 (omega arith) (omega arith)
  rank_low m c (act.ForceHead v h) = two_low _ 5 13 (omega arith) (omega arith)
  rank_low m c (act.ForceAdd v h) = omega arith
  rank_low m c (act.ForceTake v h) = omega arith
  rank_low m c (act.ForcePut v h d) = omega arith
  rank_low m c (act.ForceStore h d) = omega arith
  rank_low m c act.Pop = omega arith
  rank_low m c (act.PopStamp h) = two_low _ 4 10 (omega arith) (omega arith)
  rank_low m c (act.PopSwap h) = two_low _ 3 9 (omega arith) (omega arith)
  rank_low m c (act.PopTail h) = two_low _ 1 7 (omega arith) (omega arith)
  rank_low m c (act.PopTake h) = omega arith
  rank_low m c (act.PopStore h v) = omega arith
  rank_low m c act.Close = omega arith
  rank_low m c act.IsClosed = omega arith
  rank_low m c act.IsEmpty = omega arith
  rank_low m c (act.IsEmptyTail h) = omega arith
  rank_low m c act.IsFull = omega arith
  rank_low m c (act.IsFullHead t) = omega arith
  rank_low m c act.Len = omega arith
  rank_low m c (act.LenHead t b) = two_low (rests_at m c t b) 2 6 (omega arith) (omega arith)
  rank_low m c (act.LenTail t b h) = two_low (rests_at m c t b) 1 5 (omega arith) (omega arith)
  rank_low m c act.Capacity = omega arith
  rank_low m c act.Finished = omega arith

module _ {T : Type 0} (cap m : ℕ) (two : 2 ≤ cap) (limit : cap ≤ 2 ^ 58) (k : IsMark cap m) where
  abbrev Means : Contents T → Queue T → List (Place (RingAction T) T) → Type 0
  Means c q xs = RingMeans cap m c q xs

  -- the step that the code makes
  abbrev pub IsMachineStep : Contents T → RingAction T → Contents T → Stepped (RingAction T) T → Type 0
  IsMachineStep c a d s = (d, s) ≡ ring_step cap m c a

  module _ (c : Contents T) (q : Queue T) (p : Phase T) (l r : List (Place (RingAction T) T)) (ring : Ring T) (denotes : Denotes cap m c ring) (sound : SoundRing cap ring) (shown : IsShown cap ring q) (few : ring.tail ≤ 2 ^ 61)
      (left right : List (Place (RingAction T) T)) (lefts : l ≡ map (place_at (pos cap (2 * m))) left) (rights : r ≡ map (place_at (pos cap (2 * m))) right) (a : RingAction T) (knows : KnowsRing cap ring a p)
      (others : Each (KnowsAt cap ring) (left ++ right)) (counts : (y : Duty) → IsDuty cap y → owes cap a y + owners cap y (left ++ right) ≡ owed ring y) where
    some : 0 < cap
    some = omega arith

    module _ (d : Contents T) (s : Stepped (RingAction T) T) (x : RingStep cap m ring q a p d s) where
      kept_others : Each (KnowsAt cap x.ring) (left ++ right)
      kept_others = all_later cap some ring a x.ring x.kept.later (left ++ right) (λ y i. omega (arith, counts y i)) others

      goes_on : (reply : Option (QueueReply T)) → reply ≡ s.reply
          → MatchOption reply ((p' : Phase T) × Continues q p s.mark p' × KnowsRing cap x.ring x.action p') (λ y. Answers q p s.mark y × (x.action ≡ act.Finished))
          → MatchOption reply
          ((p' : Phase T) × Continues q p s.mark p' × Means d (after p s.mark q) (l ++ place s.action p' ∷ r))
          (λ y. Answers q p s.mark y × Means d (after p s.mark q) (l ++ r))
      goes_on None e h = (
        h.0,
        h.1,
        record {
          ring = x.ring;
          calls = left ++ place x.action h.0 ∷ right;
          positions = joined_with (place_at (pos cap (2 * m))) l r (place s.action h.0) left right (place x.action h.0) lefts rights (ap (λ (z : RingAction T). place z h.0) x.stands);
          denotes = x.denotes;
          sound = x.kept.sound;
          shown = x.kept.shown;
          owners = λ y i. (let g = sum_at (λ z. owes cap z y) left right (place x.action h.0) in omega (arith, g, counts y i, x.kept.owners y i));
          knows = each_with (KnowsAt cap x.ring) left right (place x.action h.0) kept_others h.2;
        },
      )
      goes_on (Some y) e h = (
        h.0,
        record {
          ring = x.ring;
          calls = left ++ right;
          positions = rw (lefts, rights) (sym (map_joined (place_at (pos cap (2 * m))) left right));
          denotes = x.denotes;
          sound = x.kept.sound;
          shown = x.kept.shown;
          owners = λ z i. (let g : owes cap x.action z ≡ 0 = ended z (h.1) in omega (arith, counts z i, x.kept.owners z i));
          knows = kept_others;
        },
      )
        where
          ended : (z : Duty) → x.action ≡ act.Finished → owes cap x.action z ≡ 0
          ended (hold i) e' = rw e' refl
          ended bring e' = rw e' refl

    -- where the others are quiet, the ring waits for nobody but this call
    quiet : AllQuiet (place_phases (l ++ r)) → (y : Duty) → IsDuty cap y → owed ring y ≡ owes cap a y
    quiet h y i =
        let e : place_phases (l ++ r) ≡ place_phases (left ++ right) = (rw (lefts, rights) (ap place_phases (sym (map_joined (place_at (pos cap (2 * m))) left right)))) ∙ same_phases (pos cap (2 * m)) (left ++ right) in
        let g = all_idle cap ring y (left ++ right) others (subst (λ (ps : List (Phase T)). AllQuiet ps) e h) in
        omega (arith, counts y i, g)

    form_step : FormStep Means (ring_rank m) c (placed (pos cap (2 * m)) a) p (ring_step cap m c (placed (pos cap (2 * m)) a)).0 (ring_step cap m c (placed (pos cap (2 * m)) a)).1 q l r
    form_step =
        let s = ring_step cap m c (placed (pos cap (2 * m)) a) in
        let x = ring_steps cap m two limit k c ring q denotes sound shown few a p knows in
        record {
          same_form = ring_same_form cap m c (placed (pos cap (2 * m)) a);
          one_cell = ring_one_cell cap m c (placed (pos cap (2 * m)) a);
          effect = goes_on s.0 s.1 x s.1.reply refl x.kept.leaves;
          ends = λ (h : PhasesQuiet q (place_phases (l ++ r))). nearer cap m two limit k c ring q denotes sound shown few a p knows (quiet h.0);
        }

  in_range : (q : Queue T) (ring : Ring T) → IsShown cap ring q → IsInRange q → ring.tail ≤ 2 ^ 61
  in_range q ring w range = ⊎_elim
      (λ e. absurd (let f : Some cap ≡ Some 1 = sym w.capacity ∙ e in let g : cap ≡ 1 = cc in omega arith))
      (λ h. let a = w.accepted in omega arith) range

  pub ring_form_steps : FormSteps (λ chain c q xs. Means c q xs) (ring_rank m) IsMachineStep
  ring_form_steps chain c a d s q p l r made range means =
      let g = cut_at (place_at (pos cap (2 * m))) l r (place a p) means.calls means.positions in
      let b = g.mine.action in
      let o = g.mine.phase in
      let a_is : a ≡ placed (pos cap (2 * m)) b = ap (λ (x : Place (RingAction T) T). x.action) g.is in
      let p_is : p ≡ o = ap (λ (x : Place (RingAction T) T). x.phase) g.is in
      let all = subst (λ (zs : List (Place (RingAction T) T)). Each (KnowsAt cap means.ring) zs) g.there means.knows in
      let counts : (y : Duty) → IsDuty cap y → owes cap b y + owners cap y (g.left ++ g.right) ≡ owed means.ring y = λ y i.
      (let h = sum_at (λ z. owes cap z y) g.left g.right g.mine in
      let j = ap (λ (zs : List (Place (RingAction T) T)). owners cap y zs) g.there in
      omega (arith, h, j, means.owners y i)) in
      let first = form_step c q o l r means.ring means.denotes means.sound means.shown (in_range q means.ring means.shown range) g.left g.right g.lefts g.rights b
      (each_at (KnowsAt cap means.ring) g.left g.right g.mine all) (each_others (KnowsAt cap means.ring) g.left g.right g.mine all) counts in
      let second = subst (λ (x : Phase T). FormStep Means (ring_rank m) c (placed (pos cap (2 * m)) b) x (ring_step cap m c (placed (pos cap (2 * m)) b)).0 (ring_step cap m c (placed (pos cap (2 * m)) b)).1 q l r) (sym p_is) first in
      let third = subst (λ (x : RingAction T). FormStep Means (ring_rank m) c x p (ring_step cap m c x).0 (ring_step cap m c x).1 q l r) (sym a_is) second in
      subst (λ (z : Contents T × Stepped (RingAction T) T). FormStep Means (ring_rank m) c a p z.0 z.1 q l r) (sym made) third

  pub ring_form_starts : FormStarts Means (ring_rank m) ring_start
  ring_form_starts c q a l r means =
      let f : Place (RingAction T) T → Place (RingAction T) T = place_at (pos cap (2 * m)) in
      let g = cut f l r means.calls means.positions in
      let b = ring_start a in
      let here : place b (asked a) ≡ f (place b (asked a)) = ap (λ (z : RingAction T). place z (asked a)) (start_placed (pos cap (2 * m)) a) in
      let none : (y : Duty) → owes cap b y ≡ 0 = λ y. idle_owes cap means.ring b (asked a) (starts_at cap means.ring a) tt y in
      record {
        ring = means.ring;
        calls = g.left ++ place b (asked a) ∷ g.right;
        positions = joined_with f l r (place b (asked a)) g.left g.right (place b (asked a)) g.lefts g.rights here;
        denotes = means.denotes;
        sound = means.sound;
        shown = means.shown;
        owners = λ y i. (let h = sum_at (λ z. owes cap z y) g.left g.right (place b (asked a)) in
            let j = ap (λ (zs : List (Place (RingAction T) T)). owners cap y zs) g.there in
            omega (arith, h, none y, j, means.owners y i));
        knows = each_with (KnowsAt cap means.ring) g.left g.right (place b (asked a)) (subst (λ (zs : List (Place (RingAction T) T)). Each (KnowsAt cap means.ring) zs) g.there means.knows) (starts_at cap means.ring a);
      }

  pub ring_form_ranks : FormRanks Means (ring_rank m)
  ring_form_ranks c q a p l r means = rank_low m c a
