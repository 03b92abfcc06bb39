-- A call whose others are quiet ends within 64 steps, from what a run carries.
use Rattle.std.proofs.Common.{◌≡◌, ℕ, zero, suc, ◌<◌, ◌≤◌, ⊎_elim, inl, inr, Bool, List, [], ◌∷◌, ◌++◌, map, Option, None, Some, refl, sym, ap, ◌∙◌, subst, arith}
use Rattle.concurrent_queue.specs.Contents.{Contents}
use Rattle.concurrent_queue.specs.Queue.{Queue, marked}
use Rattle.concurrent_queue.specs.Scene.{Scene, CallUnderWay, begun, observing, stepped, makes_room, AllIdle, OthersQuiet, ContinuesAs, unless_ended, NotUnderWay}
use Rattle.concurrent_queue.specs.Run.{Config, Next, IsRun, opened_config}
use Rattle.concurrent_queue.specs.Lone.{steps_of, HasReply, OthersQuietOf}
use Rattle.concurrent_queue.specs.declared.call.QueueAsk.{QueueAsk}
use Rattle.concurrent_queue.specs.declared.call.QueueMark.{QueueMark}
use Rattle.concurrent_queue.specs.declared.call.QueueMark.TheVariants.{Nothing, Append, Take, TakeDisplaced, Replace, Close}
use Rattle.concurrent_queue.specs.declared.call.QueueReply.{QueueReply}
use Rattle.concurrent_queue.specs.declared.call.QueueEntry.{QueueEntry}
use Rattle.concurrent_queue.specs.declared.cells.QueueForm.{QueueForm}
use Rattle.concurrent_queue.specs.declared.run.QueueStep.{QueueStep}
use Rattle.concurrent_queue.specs.declared.run.QueueStep.TheVariants.{Begin, Step}

module _ {T : Type 0} where
  -- no party stands twice
  abbrev Apart : List (CallUnderWay T) → Type 0
  Apart [] = Unit {0}
  Apart (u ∷ us) = NotUnderWay u.party us × Apart us

  -- each call has fewer than 64 silent steps left
  abbrev AllFew : List (CallUnderWay T) → Type 0
  AllFew [] = Unit {0}
  AllFew (u ∷ us) = (u.left < 64) × AllFew us

  abbrev Stands : Scene T → Type 0
  Stands s = Apart s.under_way × AllFew s.under_way

  -- ---- parties

  not_sees : (q : Queue T) (p : ℕ) (us : List (CallUnderWay T)) → NotUnderWay p us → NotUnderWay p (map (observing q) us)
  not_sees q p [] h = tt
  not_sees q p (u ∷ us) h = (h.0, not_sees q p us h.1)

  not_join : (p : ℕ) (us vs : List (CallUnderWay T)) → NotUnderWay p us → NotUnderWay p vs → NotUnderWay p (us ++ vs)
  not_join p [] vs h g = g
  not_join p (u ∷ us) vs h g = (h.0, not_join p us vs h.1 g)

  not_left : (p : ℕ) (us vs : List (CallUnderWay T)) → NotUnderWay p (us ++ vs) → NotUnderWay p us
  not_left p [] vs h = tt
  not_left p (u ∷ us) vs h = (h.0, not_left p us vs h.1)

  not_right : (p : ℕ) (us vs : List (CallUnderWay T)) → NotUnderWay p (us ++ vs) → NotUnderWay p vs
  not_right p [] vs h = h
  not_right p (u ∷ us) vs h = not_right p us vs h.1

  not_ended : (p : ℕ) (x : CallUnderWay T) (r : Option (QueueReply T)) → (x.party ≡ p → ⊥) → NotUnderWay p (unless_ended x r)
  not_ended p x None h = (h, tt)
  not_ended p x (Some y) h = tt

  apart_sees : (q : Queue T) (us : List (CallUnderWay T)) → Apart us → Apart (map (observing q) us)
  apart_sees q [] h = tt
  apart_sees q (u ∷ us) h = (not_sees q u.party us h.0, apart_sees q us h.1)

  apart_end : (us : List (CallUnderWay T)) (x : CallUnderWay T) → Apart us → NotUnderWay x.party us → Apart (us ++ x ∷ [])
  apart_end [] x h g = (tt, tt)
  apart_end (u ∷ us) x h g = (not_join u.party us (x ∷ []) h.0 ((λ e. g.0 (sym e)), tt), apart_end us x h.1 g.1)

  apart_from : (q : Queue T) (x : CallUnderWay T) (us : List (CallUnderWay T)) (r : Option (QueueReply T)) → NotUnderWay x.party us → Apart us → Apart (unless_ended x r ++ map (observing q) us)
  apart_from q x us None h g = (not_sees q x.party us h, apart_sees q us g)
  apart_from q x us (Some y) h g = apart_sees q us g

  apart_step : (q : Queue T) (x x' : CallUnderWay T) (l r : List (CallUnderWay T)) (y : Option (QueueReply T)) → x'.party ≡ x.party → Apart (l ++ x ∷ r) → Apart (map (observing q) l ++ (unless_ended x' y ++ map (observing q) r))
  apart_step q x x' [] r y e h = apart_from q x' r y (subst (λ (p : ℕ). NotUnderWay p r) (sym e) h.0) h.1
  apart_step q x x' (u ∷ l) r y e h =
      let p = u.party in
      let rest : NotUnderWay p (x ∷ r) = not_right p l (x ∷ r) h.0 in (
        not_join p (map (observing q) l) (unless_ended x' y ++ map (observing q) r) (not_sees q p l (not_left p l (x ∷ r) h.0))
            (not_join p (unless_ended x' y) (map (observing q) r) (not_ended p x' y (λ s. rest.0 (sym e ∙ s))) (not_sees q p r rest.1)),
        apart_step q x x' l r y e h.1,
      )

  -- ---- silent steps

  few_sees : (q : Queue T) (us : List (CallUnderWay T)) → AllFew (map (observing q) us)
  few_sees q [] = tt
  few_sees q (u ∷ us) = (omega arith, few_sees q us)

  few_join : (us vs : List (CallUnderWay T)) → AllFew us → AllFew vs → AllFew (us ++ vs)
  few_join [] vs h g = g
  few_join (u ∷ us) vs h g = (h.0, few_join us vs h.1 g)

  few_ended : (u u' : CallUnderWay T) (q : Queue T) (others : List (CallUnderWay T)) (y : Option (QueueReply T)) → ContinuesAs u u' q others y → AllFew (unless_ended u' y)
  few_ended u u' q others None h = (h.1, tt)
  few_ended u u' q others (Some y) h = tt

  -- ---- one entry of a run

  next_stands : (f : Config T) (s : QueueStep T) (e : QueueEntry T) (g : Config T) → Next f s e g → Stands f.scene → Stands g.scene
  next_stands f (Begin p a) e g n h =
      let b = n.0 in
      let x : CallUnderWay T = begun p a f.scene.now in
      subst (λ (us : List (CallUnderWay T)). Apart us × AllFew us) (sym b.under_way)
      (apart_end f.scene.under_way x h.0 b.free, few_join f.scene.under_way (x ∷ []) h.1 (omega arith, tt))
  next_stands f (Step p) e g n h =
      let s = n.0 in
      let x : CallUnderWay T = stepped s.mine e.mark f.scene.now g.scene.now s.left in
      let apart : Apart (s.before ++ s.mine ∷ s.behind) = subst (λ (us : List (CallUnderWay T)). Apart us) s.there h.0 in
      subst (λ (us : List (CallUnderWay T)). Apart us × AllFew us) (sym s.under_way) (
        apart_step g.scene.now s.mine x s.before s.behind e.reply refl apart,
        few_join (map (observing g.scene.now) s.before) (unless_ended x e.reply ++ map (observing g.scene.now) s.behind) (few_sees g.scene.now s.before)
            (few_join (unless_ended x e.reply) (map (observing g.scene.now) s.behind) (few_ended s.mine x f.scene.now (s.before ++ s.behind) e.reply s.goes_on) (few_sees g.scene.now s.behind)),
      )

  run_stands : (f : Config T) (ss : List (QueueStep T)) (es : List (QueueEntry T)) (g : Config T) → IsRun f ss es g → Stands f.scene → Stands g.scene
  run_stands f [] [] g r h = subst (λ (x : Config T). Stands x.scene) (sym r) h
  run_stands f [] (e ∷ es) g r h = absurd r
  run_stands f (s ∷ ss) [] g r h = absurd r
  run_stands f (s ∷ ss) (e ∷ es) g r h = run_stands r.0 ss es g r.3 (next_stands f s e r.0 r.1 h)

  -- ---- which call is a party's

  pub record Same (l r m s : List (CallUnderWay T)) (x y : CallUnderWay T) : Type 0 where
    pub before : l ≡ m
    pub mine : x ≡ y
    pub behind : r ≡ s

  same_call : (us l r m s : List (CallUnderWay T)) (x y : CallUnderWay T) → us ≡ l ++ x ∷ r → us ≡ m ++ y ∷ s → Apart us → x.party ≡ y.party → Same l r m s x y
  same_call us [] r [] s x y e g h p = record { before = refl; mine = cc; behind = cc }
  same_call us [] r (z ∷ m) s x y e g h p =
      let both : x ∷ r ≡ z ∷ (m ++ y ∷ s) = sym e ∙ g in
      let head : x ≡ z = cc in
      let rest : r ≡ m ++ y ∷ s = cc in
      let apart : Apart (x ∷ r) = subst (λ (vs : List (CallUnderWay T)). Apart vs) e h in
      absurd ((not_right x.party m (y ∷ s) (subst (λ (vs : List (CallUnderWay T)). NotUnderWay x.party vs) rest apart.0)).0 (sym p))
  same_call us (z ∷ l) r [] s x y e g h p =
      let both : y ∷ s ≡ z ∷ (l ++ x ∷ r) = sym g ∙ e in
      let rest : s ≡ l ++ x ∷ r = cc in
      let apart : Apart (y ∷ s) = subst (λ (vs : List (CallUnderWay T)). Apart vs) g h in
      absurd ((not_right y.party l (x ∷ r) (subst (λ (vs : List (CallUnderWay T)). NotUnderWay y.party vs) rest apart.0)).0 p)
  same_call us (z ∷ l) r (w ∷ m) s x y e g h p =
      let both : z ∷ (l ++ x ∷ r) ≡ w ∷ (m ++ y ∷ s) = sym e ∙ g in
      let head : z ≡ w = cc in
      let rest : l ++ x ∷ r ≡ m ++ y ∷ s = cc in
      let apart : Apart (z ∷ (l ++ x ∷ r)) = subst (λ (vs : List (CallUnderWay T)). Apart vs) e h in
      let same : Same l r m s x y = same_call (l ++ x ∷ r) l r m s x y refl rest apart.1 p in
      record {
        before = ap (λ (u : CallUnderWay T). u ∷ l) head ∙ ap (λ (vs : List (CallUnderWay T)). w ∷ vs) same.before;
        mine = same.mine;
        behind = same.behind;
      }

  -- ---- others go on holding nobody up

  idle_sees : (q : Queue T) (us : List (CallUnderWay T)) → AllIdle us → AllIdle (map (observing q) us)
  idle_sees q [] h = tt
  idle_sees q (u ∷ us) h = (h.0, idle_sees q us h.1)

  idle_join : (us vs : List (CallUnderWay T)) → AllIdle us → AllIdle vs → AllIdle (us ++ vs)
  idle_join [] vs h g = g
  idle_join (u ∷ us) vs h g = (h.0, idle_join us vs h.1 g)

  idle_left : (us vs : List (CallUnderWay T)) → AllIdle (us ++ vs) → AllIdle us
  idle_left [] vs h = tt
  idle_left (u ∷ us) vs h = (h.0, idle_left us vs h.1)

  idle_right : (us vs : List (CallUnderWay T)) → AllIdle (us ++ vs) → AllIdle vs
  idle_right [] vs h = h
  idle_right (u ∷ us) vs h = idle_right us vs h.1

  none_seen : (q : Queue T) (us vs : List (CallUnderWay T)) → us ++ vs ≡ [] → map (observing q) us ++ map (observing q) vs ≡ []
  none_seen q [] [] e = refl
  none_seen q [] (v ∷ vs) e = absurd cc
  none_seen q (u ∷ us) vs e = absurd cc

  more_removed : (a : QueueAsk T) (b : Bool) (k : QueueMark) (q : Queue T) → 0 < q.removed → 0 < (marked a b k q).removed
  more_removed a b Nothing q h = h
  more_removed a b Append q h = h
  more_removed a b Take q h = omega arith
  more_removed a b TakeDisplaced q h = omega arith
  more_removed a b Replace q h = omega arith
  more_removed a b Close q h = h

  pub same_limit : (a : QueueAsk T) (b : Bool) (k : QueueMark) (q : Queue T) → (marked a b k q).capacity ≡ q.capacity
  same_limit a b Nothing q = refl
  same_limit a b Append q = refl
  same_limit a b Take q = refl
  same_limit a b TakeDisplaced q = refl
  same_limit a b Replace q = refl
  same_limit a b Close q = refl

  still_held : (a : QueueAsk T) (b : Bool) (k : QueueMark) (q q' : Queue T) (l r : List (CallUnderWay T)) → q' ≡ marked a b k q → OthersQuiet q (l ++ r) → OthersQuiet q' (map (observing q') l ++ map (observing q') r)
  still_held a b k q q' l r e h =
      let idle : AllIdle (map (observing q') l ++ map (observing q') r) = idle_join (map (observing q') l) (map (observing q') r) (idle_sees q' l (idle_left l r h.0)) (idle_sees q' r (idle_right l r h.0)) in (
        idle,
        λ c. ⊎_elim (λ g. inl (subst (λ (x : Queue T). 0 < x.removed) (sym e) (more_removed a b k q g))) (λ g. inr (none_seen q' l r g))
            (h.1 (sym (same_limit a b k q) ∙ ap (λ (x : Queue T). x.capacity) (sym e) ∙ c)),
      )

  -- ---- the steps of a lone call

  module _ (p : ℕ) where
    -- what holds of the rest of a run, wherever the party's call stands
    abbrev Ends : ℕ → Config T → List (QueueEntry T) → Type 0
    Ends k f es =
        (l r : List (CallUnderWay T)) (x : CallUnderWay T) → f.scene.under_way ≡ l ++ x ∷ r → x.party ≡ p → Stands f.scene → OthersQuiet f.scene.now (l ++ r) → x.left < k → HasReply es

    ends_step : (k : ℕ) (f m : Config T) (mark : QueueMark) (reply : Option (QueueReply T)) (es : List (QueueEntry T)) → Next f (Step p) (record { mark = mark; reply = reply }) m → Ends k m es → Ends (suc k) f (record { mark = mark; reply = reply } ∷ es)
    ends_step k f m mark (Some y) es next rest l r x there whose stands held few = tt
    ends_step k f m mark None es next rest l r x there whose stands held few =
        let s = next.0 in
        let same : Same l r s.before s.behind x s.mine = same_call f.scene.under_way l r s.before s.behind x s.mine there s.there stands.0 (whose ∙ sym s.whose) in
        let others : l ++ r ≡ s.before ++ s.behind = ap (λ (us : List (CallUnderWay T)). us ++ r) same.before ∙ ap (λ (us : List (CallUnderWay T)). s.before ++ us) same.behind in
        let held' : OthersQuiet f.scene.now (s.before ++ s.behind) = subst (λ (us : List (CallUnderWay T)). OthersQuiet f.scene.now us) others held in
        let fewer = s.goes_on.2 held' in
        let left : x.left ≡ s.mine.left = ap (λ (u : CallUnderWay T). u.left) same.mine in
        rest (map (observing m.scene.now) s.before) (map (observing m.scene.now) s.behind) (stepped s.mine mark f.scene.now m.scene.now s.left) s.under_way s.whose
        (next_stands f (Step p) (record { mark = mark; reply = None }) m next stands)
        (still_held s.mine.ask (makes_room s.mine.marked_steps) mark f.scene.now m.scene.now s.before s.behind s.now held') (omega arith)

    ends_from : (k : ℕ) (f : Config T) (es : List (QueueEntry T)) (g : Config T) → IsRun f (steps_of p k) es g → Ends k f es
    ends_from zero f es g run = λ l r x there whose stands held few. absurd (omega arith)
    ends_from (suc k) f [] g run = absurd run
    ends_from (suc k) f (e ∷ es) g run = ends_step k f run.0 e.mark e.reply es run.1 (ends_from k run.0 es g run.3)

  few_at : (us l r : List (CallUnderWay T)) (x : CallUnderWay T) → us ≡ l ++ x ∷ r → AllFew us → x.left < 64
  few_at us l r x e h = at_place l (subst (λ (vs : List (CallUnderWay T)). AllFew vs) e h)
    where
      at_place : (m : List (CallUnderWay T)) → AllFew (m ++ x ∷ r) → x.left < 64
      at_place [] g = g.0
      at_place (u ∷ m) g = at_place m g.1

  pub lone_calls_end : (form : QueueForm) (start : Contents T) (made : List (QueueStep T)) (trace : List (QueueEntry T)) (f : Config T) → IsRun (opened_config start form) made trace f
      → (p : ℕ) → OthersQuietOf p f.scene → (k : ℕ) → 64 ≤ k → (entries : List (QueueEntry T)) (g : Config T) → IsRun f (steps_of p k) entries g → HasReply entries
  lone_calls_end form start made trace f ran p nobody zero long entries g run = absurd (omega arith)
  lone_calls_end form start made trace f ran p nobody (suc k) long [] g run = absurd run
  lone_calls_end form start made trace f ran p nobody (suc k) long (e ∷ es) g run =
      let s = run.1.0 in
      let stands = run_stands (opened_config start form) made trace f ran (tt, tt) in
      let few = few_at f.scene.under_way s.before s.behind s.mine s.there stands.1 in
      ends_from p (suc k) f (e ∷ es) g run s.before s.behind s.mine s.there s.whose stands (nobody s.before s.behind s.mine s.there s.whose) (omega arith)
