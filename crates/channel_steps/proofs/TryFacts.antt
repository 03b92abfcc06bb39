-- A step of the queue's call that goes on, and what is known of the channel's call after it.
use Rattle.std.proofs.Common.{append_assoc, ◌≡◌, ℕ, zero, suc, ◌+◌, ◌≤◌, ◌==◌, Bool, true, false, if◌then◌else◌, List, [], ◌∷◌, ◌++◌, length, drop, Option, None, Some, ◌⊎◌, ⊎_elim, inl, inr, refl, sym, ap, ◌∙◌, subst, arith, length-append}
use Rattle.std.proofs.lemmas.Bool.Decides.{nat_tests}
use Rattle.channel_steps.proofs.Words.{Queue, trying, displaced, appended, taken, read, measured, is_full_at, message, ContinuesBy, QueueAsk, QueueMark, Nothing, Append, Take, TakeDisplaced, Replace, Close, mark_of_queue, Channel, Purpose, Mark, is_filled, IsOldest, marked, is_displaced, may_refuse_at, seen_after, MarkedMoment, with_marked, Open, HasRoom, Crowded, Refuses, HasMessage, Once, MadeRoom, Displaced, TryAt, HasTaken, AreBehind, TriesAt, IsBalanced}
use Rattle.concurrent_queue.specs.Queue as queue
use Rattle.concurrent_queue.specs.declared.call.QueueAsk.TheVariants as ask
use Rattle.channel_calls.specs.declared.stage.Purpose.TheVariants as purpose
use Rattle.channel_steps.specs.Moments.{Unbounded}
use Rattle.channel_steps.proofs.QueueFacts.{Says, one_fewer}
use Rattle.channel_calls.specs.declared.mark.Mark.TheVariants as mark

pub eq_of : (m n : ℕ) → (m == n) ≡ true → m ≡ n
eq_of m n e = grind (arith, nat_tests)

pub ne_of : (m n : ℕ) → (m ≡ n → ⊥) → (m == n) ≡ false
ne_of m n e = grind (arith, nat_tests)

module _ {T : Type 0} where
  -- ---- how a step changes the queue

  -- where more were accepted, there is a message now, and there was room before or there is but one place
  pub record Progress (q q' : Queue T) : Type 0 where
    pub capacity : q'.capacity ≡ q.capacity
    pub grew : (q'.accepted ≡ q.accepted) ⊎ (((length q'.items == 0) ≡ false) × ((is_filled q ≡ false) ⊎ (q.capacity ≡ Some 1)))
    pub balanced : IsBalanced q → IsBalanced q'

  pub still : (q : Queue T) → Progress q q
  still q = record { capacity = refl; grew = inl refl; balanced = λ h. h }

  module _ (q : Queue T) where
    brings : (a : QueueAsk T) (v : T) → message a ≡ v ∷ [] → (b : Bool) → is_filled q ≡ false → Progress q (marked a b Append q)
    brings a v one b room =
        let k = length-append q.items (message a) in
        let n : length (message a) ≡ 1 = ap length one in
        record {
          capacity = refl;
          grew = inr (ne_of (length (q.items ++ message a)) 0 (λ e. absurd (omega (arith, k, n, e))), inl room);
          balanced = λ h. (let h' : length q.items + q.removed ≡ q.accepted = h in omega (arith, k, n));
        }

    takes : (a : QueueAsk T) (v : T) → IsOldest v q → (coming : Bool) → Progress q (record q { items = drop 1 q.items; coming = coming; removed = q.removed + 1 })
    takes a v oldest coming =
        record {
          capacity = refl;
          grew = inl refl;
          balanced = λ h. (let n = one_fewer q v oldest in let h' : length q.items + q.removed ≡ q.accepted = h in omega (arith, n));
        }

    replaces : (a : QueueAsk T) (v w : T) → message a ≡ v ∷ [] → IsOldest w q → q.capacity ≡ Some 1 → Progress q (marked a false Replace q)
    replaces a v w one oldest cap =
        let i = length-append (drop 1 q.items) (message a) in
        let j : length (message a) ≡ 1 = ap length one in
        record {
          capacity = refl;
          grew = inr (ne_of (length (drop 1 q.items ++ message a)) 0 (λ e. absurd (omega (arith, i, j, e))), inr cap);
          balanced = λ h. (let n = one_fewer q w oldest in let h' : length q.items + q.removed ≡ q.accepted = h in omega (arith, i, j, n));
        }

    pub progress : (a : QueueAsk T) (s : queue.Stage T) (m : QueueMark) → Says a s m q → Progress q (marked a (is_displaced s) m q)
    progress a s Nothing h = still q
    progress a s Append h = brings a h.0.0 h.0.1 (is_displaced s) h.1
    progress a s Take h = takes a h.0 h.1 q.coming
    progress a s TakeDisplaced h = takes a h.0.0 h.0.1 true
    progress a s Replace h = replaces a h.0.0 h.1.0 h.0.1 h.1.1 h.4
    progress a s Close h = record { capacity = refl; grew = inl refl; balanced = λ h. h }

module _ {T W : Type 0} where
  -- ---- moments

  refuses_of : (c : Channel T W) (cap : Option ℕ) (b : Bool) → c.queue.capacity ≡ cap → c.queue.closed ≡ b → (if b then false else may_refuse_at cap c.queue.items) ≡ true → Refuses cap c
  refuses_of c None false f e h = (e, f)
  refuses_of c (Some n) false f e h = (e, ap (λ (x : Option ℕ). is_full_at x c.queue.items) f ∙ h)
  refuses_of c cap true f e h = absurd cc

  pub refusal_seen : (b : Bool) (c : Channel T W) (seen : List (Channel T W)) → (b ≡ true → Once (Refuses c.queue.capacity) seen) → seen_after b c.queue ≡ true
      → Once (Refuses c.queue.capacity) (c ∷ seen)
  refusal_seen true c seen f h = inr (f refl)
  refusal_seen false c seen f h = inl (refuses_of c c.queue.capacity c.queue.closed refl refl h)

  pub full_once : (cap : Option ℕ) (xs : List T) (seen : List (Channel T W)) → is_full_at cap xs ≡ true → Once (Refuses cap) seen → Once Crowded seen
  full_once None xs seen e h = absurd cc
  full_once (Some n) xs seen e h = h

  pub unbounded_once : (cap : Option ℕ) (seen : List (Channel T W)) → cap ≡ None → Once (Refuses cap) seen → Once Unbounded seen
  unbounded_once None seen e h = h
  unbounded_once (Some n) seen e h = absurd cc

  was_open : (cap : Option ℕ) (c : Channel T W) → Refuses cap c → Open c
  was_open None c h = h.0
  was_open (Some n) c h = h.0

  pub open_once : (cap : Option ℕ) (seen : List (Channel T W)) → Once (Refuses cap) seen → Once Open seen
  open_once cap [] h = absurd h
  open_once cap (c ∷ cs) (inl h) = inl (was_open cap c h)
  open_once cap (c ∷ cs) (inr h) = inr (open_once cap cs h)

  displaced_now : (ds : List (MarkedMoment T W)) (d : T) (e : MarkedMoment T W) → MadeRoom ds d → e.mark ≡ mark_of_queue Append → HasRoom e.before → Displaced (ds ++ e ∷ []) d
  displaced_now (x ∷ []) d e h m f = (h, m, f)
  displaced_now x d e h m f = absurd h

  -- ---- a step of the queue's call that goes on

  -- the channel, and the call's marks, after a step of the queue's call
  abbrev pub next_channel : QueueAsk T → queue.Stage T → QueueMark → Channel T W → Channel T W
  next_channel a s m c = record c { queue = marked a (is_displaced s) m c.queue }

  module _ (c : Channel T W) (seen : List (Channel T W)) where
    -- it is known where the queue's call is now
    abbrev pub Went : QueueAsk T → QueueMark → queue.Stage T → queue.Stage T → List (MarkedMoment T W) → Type 0
    Went a m s t ds =
        TryAt (next_channel a s m c) a t (with_marked ds (mark_of_queue m) c seen) (next_channel a s m c ∷ seen)

    at_stage : (a : QueueAsk T) (m : QueueMark) (s t u : queue.Stage T) (ds : List (MarkedMoment T W)) → t ≡ u → Went a m s u ds → Went a m s t ds
    at_stage a m s t u ds e h = subst (λ (x : queue.Stage T). Went a m s x ds) (sym e) h

    at_deeds : (a : QueueAsk T) (m : QueueMark) (s t : queue.Stage T) (ds : List (MarkedMoment T W)) → ds ≡ [] → Went a m s t [] → Went a m s t ds
    at_deeds a m s t ds e h = subst (λ (x : List (MarkedMoment T W)). Went a m s t x) (sym e) h

    empty_or_not : (n : ℕ) → n ≡ length c.queue.items → IsBalanced c.queue → Once HasMessage (c ∷ seen) ⊎ (c.queue.accepted ≤ c.queue.removed)
    empty_or_not zero e h = let h' : length c.queue.items + c.queue.removed ≡ c.queue.accepted = h in inr (omega arith)
    empty_or_not (suc n) e h = inl (inl (ne_of (length c.queue.items) 0 (λ k. absurd (omega (arith, e, k)))))

    pub goes : (a : QueueAsk T) (m : QueueMark) (s t : queue.Stage T) (ds : List (MarkedMoment T W)) → ContinuesBy c.queue a m s t → IsBalanced c.queue → TryAt c a s ds seen → Went a m s t ds
    goes (ask.Push v) Nothing (trying b) t ds g h ev = at_stage (ask.Push v) Nothing (trying b) t (trying (seen_after b c.queue)) ds g (ev.0, λ e. refusal_seen b c seen ev.1 e)
    goes (ask.Push v) Nothing (appended None) t ds g h ev = at_stage (ask.Push v) Nothing (appended None) t (appended None) ds g ev
    goes (ask.Push v) Append (trying b) t ds g h ev = at_stage (ask.Push v) Append (trying b) t (appended None) ds g.2 (at_deeds (ask.Push v) Append (trying b) (appended None) ds ev.0 (refl, g.0, g.1))
    goes (ask.ForcePush v) Nothing (trying b) t ds g h ev = at_stage (ask.ForcePush v) Nothing (trying b) t (trying (seen_after b c.queue)) ds g (ev.0, λ e. refusal_seen b c seen ev.1 e)
    goes (ask.ForcePush v) Nothing (displaced d) t ds g h ev = at_stage (ask.ForcePush v) Nothing (displaced d) t (displaced d) ds g ev
    goes (ask.ForcePush v) Nothing (appended None) t ds g h ev = at_stage (ask.ForcePush v) Nothing (appended None) t (appended None) ds g ev
    goes (ask.ForcePush v) Nothing (appended (Some d)) t ds g h ev = at_stage (ask.ForcePush v) Nothing (appended (Some d)) t (appended (Some d)) ds g ev
    goes (ask.ForcePush v) Append (trying b) t ds g h ev = at_stage (ask.ForcePush v) Append (trying b) t (appended None) ds g.2 (at_deeds (ask.ForcePush v) Append (trying b) (appended None) ds ev.0 (refl, g.0, g.1))
    goes (ask.ForcePush v) Append (displaced d) t ds g h ev = at_stage (ask.ForcePush v) Append (displaced d) t (appended (Some d)) ds g.2 (inr (displaced_now ds d _ ev refl g.1))
    goes (ask.ForcePush v) Replace (trying b) t ds g h ev = at_stage (ask.ForcePush v) Replace (trying b) t (appended (Some g.0)) ds g.5 (at_deeds (ask.ForcePush v) Replace (trying b) (appended (Some g.0)) ds ev.0 (inl (refl, (g.2, g.3), g.1, g.4)))
    goes (ask.ForcePush v) TakeDisplaced (trying b) t ds g h ev =
        at_stage (ask.ForcePush v) TakeDisplaced (trying b) t (displaced g.0) ds g.5 (at_deeds (ask.ForcePush v) TakeDisplaced (trying b) (displaced g.0) ds ev.0 (refl, g.3, g.4, g.1, open_once c.queue.capacity (c ∷ seen) (refusal_seen b c seen ev.1 g.2), g.6))
    goes ask.Pop Nothing (trying b) t ds g h ev = at_stage ask.Pop Nothing (trying b) t (trying (seen_after b c.queue)) ds g ev
    goes ask.Pop Nothing (taken v) t ds g h ev = at_stage ask.Pop Nothing (taken v) t (taken v) ds g ev
    goes ask.Pop Take (trying b) t ds g h ev = at_stage ask.Pop Take (trying b) t (taken g.0) ds g.2 (at_deeds ask.Pop Take (trying b) (taken g.0) ds ev (refl, g.1))
    goes ask.IsEmpty Nothing (trying b) t ds g h ev = at_stage ask.IsEmpty Nothing (trying b) t (read c.queue.removed) ds g (ev, empty_or_not (length c.queue.items) refl h)
    goes ask.IsFull Nothing (trying b) t ds g h ev = at_stage ask.IsFull Nothing (trying b) t (read c.queue.accepted) ds g.0 (ev, g.1, inr refl)
    goes ask.Len Nothing (trying b) t ds g h ev = at_stage ask.Len Nothing (trying b) t (read c.queue.accepted) ds g ev
    goes ask.Len Nothing (read n) t ds g h ev = at_stage ask.Len Nothing (read n) t (measured n (length c.queue.items)) ds g (ev, inl refl)
    goes ask.Len Nothing (measured n k) t ds g h ev = at_stage ask.Len Nothing (measured n k) t (trying false) ds g ev.0
    goes x m s t ds g h ev = absurd g

  -- ---- what a call has taken before

  pub behind_more : (ds : List (MarkedMoment T W)) (seen : List (Channel T W)) (d : Channel T W) → AreBehind ds seen → AreBehind ds (d ∷ seen)
  behind_more [] seen d h = tt
  behind_more (x ∷ ds) seen d h = ((d ∷ h.0.0, ap (λ (cs : List (Channel T W)). d ∷ cs) h.0.1), behind_more ds seen d h.1)

  behind_last : (ds : List (MarkedMoment T W)) (x : MarkedMoment T W) (d : Channel T W) → AreBehind ds x.seen → AreBehind (ds ++ x ∷ []) (d ∷ x.seen)
  behind_last [] x d h = ((d ∷ [], refl), tt)
  behind_last (y ∷ ds) x d h = ((d ∷ h.0.0, ap (λ (cs : List (Channel T W)). d ∷ cs) h.0.1), behind_last ds x d h.1)

  behind_next : (ds : List (MarkedMoment T W)) (m : Mark) (c : Channel T W) (seen : List (Channel T W)) (d : Channel T W) → AreBehind ds seen → AreBehind (with_marked ds m c seen) (d ∷ seen)
  behind_next ds mark.Nothing c seen d h = behind_more ds seen d h
  behind_next ds m c seen d h = behind_last ds (record { mark = m; before = c; seen = seen }) d h

  deed_after : (before mine : List (MarkedMoment T W)) (m : Mark) (c : Channel T W) (seen : List (Channel T W)) → with_marked (before ++ mine) m c seen ≡ before ++ with_marked mine m c seen
  deed_after before mine mark.Nothing c seen = refl
  deed_after before mine m c seen = append_assoc before mine (record { mark = m; before = c; seen = seen } ∷ [])

  taken_on : (vs : List T) (ds mine : List (MarkedMoment T W)) (m : Mark) (c : Channel T W) (seen : List (Channel T W)) (d : Channel T W) → HasTaken vs ds mine seen
      → HasTaken vs (with_marked ds m c seen) (with_marked mine m c seen) (d ∷ seen)
  taken_on vs ds mine m c seen d t =
      record {
        before = t.before;
        all = ap (λ (xs : List (MarkedMoment T W)). with_marked xs m c seen) t.all ∙ deed_after t.before mine m c seen;
        took = t.took;
        behind = behind_next ds m c seen d t.behind;
      }

  pub goes_at : (c : Channel T W) (seen : List (Channel T W)) (y : Purpose T W) (a : QueueAsk T) (m : QueueMark) (s t : queue.Stage T) (ds : List (MarkedMoment T W))
      → ContinuesBy c.queue a m s t → IsBalanced c.queue → TriesAt c y a s ds seen
      → TriesAt (next_channel a s m c) y a t (with_marked ds (mark_of_queue m) c seen) (next_channel a s m c ∷ seen)
  goes_at c seen (purpose.RecvMany r) a m s t ds g h ev =
      (with_marked ev.0 (mark_of_queue m) c seen, taken_on r.taken ds ev.0 (mark_of_queue m) c seen (next_channel a s m c) ev.1, goes c seen a m s t ev.0 g h ev.2)
  goes_at c seen y a m s t ds g h ev = goes c seen a m s t ds g h ev

  -- ---- another call's step leaves what is known of the queue's call

  module _ (c c' : Channel T W) (p : Progress c.queue c'.queue) (older : List (Channel T W)) (seen : List (Channel T W)) (latest : seen ≡ c ∷ older) where
    grown_message : (n : ℕ) → Once HasMessage seen ⊎ (c.queue.accepted ≤ n) → Once HasMessage (c' ∷ seen) ⊎ (c'.queue.accepted ≤ n)
    grown_message n (inl h) = inl (inr h)
    grown_message n (inr h) = ⊎_elim (λ e. inr (omega (arith, h, e))) (λ k. inl (inl k.0)) p.grew

    grown_room : (n : ℕ) → (c.queue.capacity ≡ Some 1 → ⊥) → Once HasRoom seen ⊎ (c.queue.accepted ≡ n) → Once HasRoom (c' ∷ seen) ⊎ (c'.queue.accepted ≡ n)
    grown_room n many (inl h) = inl (inr h)
    grown_room n many (inr h) =
        ⊎_elim (λ e. inr (e ∙ h)) (λ k. ⊎_elim (λ room. inl (inr (subst (λ (cs : List (Channel T W)). Once HasRoom cs) (sym latest) (inl room)))) (λ one. absurd (many one)) k.1) p.grew

    refused_before : Once (Refuses c.queue.capacity) seen → Once (Refuses c'.queue.capacity) (c' ∷ seen)
    refused_before h = inr (subst (λ (cap : Option ℕ). Once (Refuses cap) seen) (sym p.capacity) h)

    pub try_stays : (a : QueueAsk T) (s : queue.Stage T) (ds : List (MarkedMoment T W)) → TryAt c a s ds seen → TryAt c' a s ds (c' ∷ seen)
    try_stays (ask.Push v) (trying b) ds ev = (ev.0, λ e. refused_before (ev.1 e))
    try_stays (ask.Push v) (appended None) ds ev = ev
    try_stays (ask.ForcePush v) (trying b) ds ev = (ev.0, λ e. refused_before (ev.1 e))
    try_stays (ask.ForcePush v) (displaced d) ds ev = ev
    try_stays (ask.ForcePush v) (appended None) ds ev = ev
    try_stays (ask.ForcePush v) (appended (Some d)) ds ev = ev
    try_stays ask.Pop (trying b) ds ev = ev
    try_stays ask.Pop (taken v) ds ev = ev
    try_stays ask.Close (trying b) ds ev = tt
    try_stays ask.IsClosed (trying b) ds ev = ev
    try_stays ask.IsEmpty (trying b) ds ev = ev
    try_stays ask.IsEmpty (read n) ds ev = (ev.0, grown_message n ev.1)
    try_stays ask.IsFull (trying b) ds ev = ev
    try_stays ask.IsFull (read n) ds ev = (ev.0, (λ e. ev.1 (sym p.capacity ∙ e)), grown_room n ev.1 ev.2)
    try_stays ask.Len (trying b) ds ev = ev
    try_stays ask.Len (read n) ds ev = ev
    try_stays ask.Len (measured n k) ds ev = (ev.0, inr ev.1)
    try_stays ask.Capacity (trying b) ds ev = ev
    try_stays a s ds ev = absurd ev

    pub tries_stay : (y : Purpose T W) (a : QueueAsk T) (s : queue.Stage T) (ds : List (MarkedMoment T W)) → TriesAt c y a s ds seen → TriesAt c' y a s ds (c' ∷ seen)
    tries_stay (purpose.RecvMany r) a s ds ev =
        let t = ev.1 in
        (ev.0, record { before = t.before; all = t.all; took = t.took; behind = behind_more ds seen c' t.behind }, try_stays a s ev.0 ev.2)
    tries_stay y a s ds ev = try_stays a s ds ev
