-- A step of a call: what is known of it after, whom it wakes, and what it takes and brings.
use Rattle.std.proofs.Common.{◌≡◌, map, ℕ, ◌+◌, ◌<◌, ◌≤◌, Bool, true, false, if◌then◌else◌, List, [], ◌∷◌, ◌++◌, take, drop, Option, None, Some, ◌⊎◌, inl, inr, refl, sym, ap, ◌∙◌, subst, arith, append-nil, append_assoc}
use Rattle.channel_steps.proofs.Words.{Queue, Phase, after, message, ContinuesBy, QueueAsk, QueueMark, QueueReply, Key, answered_next, first, mark_of_queue, up, Channel, Effect, untouched, on_count, leaves, Turned, Tried, Worked, Moves, listeners, is_raised, again, ChannelAsk, Loan, Mark, Reply, Purpose, ListenerRef, Returned, Sends, Receives, Side, Stage, Trying, Working, Finished, NextStep, Tries, Works, Ends, ListStep, TellReceive, TellSend, Insert, Leave, Raise, Continues, Answers, asks_listener, told_one_wakes, MarkedMoment, with_marked, TriesFor, TriesAt, StageAt, ToldAt, IsQuick, quick_steps_left, call_begun, ActiveCall, sees, does, Finishes, EndsInTime, brought, gone_by, came_by, Known, AllKnown, IsBalanced, Telling, telling, dropping, WokenBy}
use Rattle.concurrent_queue.specs.Queue as queue
use Rattle.concurrent_queue.specs.declared.call.QueueAsk.TheVariants as ask
use Rattle.concurrent_queue.specs.declared.call.QueueMark.TheVariants as queue_mark
use Rattle.channel_calls.specs.declared.ask.ChannelAsk.TheVariants as channel
use Rattle.channel_calls.specs.declared.stage.Waiting.TheVariants as waiting
use Rattle.channel_steps.specs.every_run.Ends.{IsStill}
use Rattle.channel_steps.proofs.MoveFacts.{nothing_gone, nothing_came, worked_spares}
use Rattle.channel_steps.proofs.QueueFacts.{moves_by}
use Rattle.channel_steps.proofs.TryFacts.{Progress, still, progress, next_channel, goes_at, tries_stay}
use Rattle.channel_steps.proofs.SuitFacts.{IsClosing, brings_own, tries_more}
use Rattle.channel_steps.proofs.TurnFacts.{TurnAt, After, turned_at}
use Rattle.channel_steps.proofs.AnswerFacts.{answered}
use Rattle.channel_steps.proofs.WorkFacts.{work_more, worked}
use Rattle.channel_steps.proofs.QuickFacts.{quick_moves, some_left, few_left}

module _ {T : Type 0} where
  never_closes : (q : Queue T) (a : QueueAsk T) (m : QueueMark) (s t : queue.Stage T) → ContinuesBy q a m s t → IsClosing a → ⊥
  never_closes q ask.Close m s t g h = g
  never_closes q a m s t g h = h

  split_first : (items : List T) → take 1 items ++ drop 1 items ≡ items
  split_first [] = refl
  split_first (v ∷ items) = refl

module _ {T W : Type 0} where
  -- ---- what is known of the call after its step

  module _ (c : Channel T W) (x : ChannelAsk T W) (told : List Telling) (ds : List (MarkedMoment T W)) (seen : List (Channel T W)) (bal : IsBalanced c.queue) where
    went : (f f' : Phase T) (y : Purpose T W) (m : QueueMark) → TriesFor x y f.ask ds seen → TriesAt c y f.ask f.stage ds seen → Continues c.queue f m f'
        → After (next_channel f.ask f.stage m c) x [] (with_marked ds (mark_of_queue m) c seen) (next_channel f.ask f.stage m c ∷ seen) None (Trying f' y)
    went f f' y m tf ta g =
        let d : Channel T W = next_channel f.ask f.stage m c in
        let es : List (MarkedMoment T W) = with_marked ds (mark_of_queue m) c seen in (
          subst (λ (a : QueueAsk T). TriesFor x y a es (d ∷ seen) × TriesAt d y a f'.stage es (d ∷ seen)) (sym g.0)
              (tries_more x y ds seen f.ask d es (λ h. absurd (never_closes c.queue f.ask m f.stage f'.stage g.1 h)) tf, goes_at c seen y f.ask m f.stage f'.stage ds g.1 bal ta),
          refl,
        )

    tried_by : (f : Phase T) (y : Purpose T W) (m : QueueMark) (r : Option (Reply T)) (s : Stage (Phase T) T W) → TriesFor x y f.ask ds seen → TriesAt c y f.ask f.stage ds seen
        → ((f' : Phase T) × Continues c.queue f m f' × (r ≡ None) × (s ≡ Trying f' y)) ⊎ ((z : QueueReply T) × Answers c.queue f m z × Turned (answered_next y z) r s)
        → After (next_channel f.ask f.stage m c) x [] (with_marked ds (mark_of_queue m) c seen) (next_channel f.ask f.stage m c ∷ seen) r s
    tried_by f y m r s tf ta (inl h) =
        let d : Channel T W = next_channel f.ask f.stage m c in
        let es : List (MarkedMoment T W) = with_marked ds (mark_of_queue m) c seen in
        subst (λ (z : Option (Reply T)). After d x [] es (d ∷ seen) z s) (sym h.2)
        (subst (λ (z : Stage (Phase T) T W). After d x [] es (d ∷ seen) None z) (sym h.3) (went f h.0 y m tf ta h.1))
    tried_by f y m r s tf ta (inr h) =
        let d : Channel T W = next_channel f.ask f.stage m c in
        turned_at d x [] (with_marked ds (mark_of_queue m) c seen) (d ∷ seen) (answered_next y h.0) r s h.2 (answered c seen ds bal x y f.ask m h.0 f.stage tf ta h.1)

    tried : (f : Phase T) (y : Purpose T W) (e : Effect T W) (r : Option (Reply T)) (s : Stage (Phase T) T W) → TriesFor x y f.ask ds seen → TriesAt c y f.ask f.stage ds seen → told ≡ [] → Tried c f y e r s
        → After e.channel x (told ++ []) (with_marked ds e.mark c seen) (e.channel ∷ seen) r s
    tried f y e r s tf ta none h =
        subst (λ (z : Effect T W). After z.channel x (told ++ []) (with_marked ds z.mark c seen) (z.channel ∷ seen) r s) (sym h.effect)
        (subst (λ (ts : List Telling). After (next_channel f.ask f.stage h.mark c) x (ts ++ []) (with_marked ds (mark_of_queue h.mark) c seen) (next_channel f.ask f.stage h.mark c ∷ seen) r s) (sym none)
        (tried_by f y h.mark r s tf ta h.how))

    pub own : (at : Stage (Phase T) T W) (e : Effect T W) (r : Option (Reply T)) (s : Stage (Phase T) T W) → StageAt c x at ds seen → ToldAt told at ds → Moves c at e r s
        → After e.channel x (told ++ telling at) (with_marked ds e.mark c seen) (e.channel ∷ seen) r s
    own (Trying f y) e r s h k g = tried f y e r s h.0 h.1 k g
    own (Working w) e r s h k g = worked c x told ds seen w e r s h k g
    own (Finished kept) e r s h k g = absurd h

  -- ---- how it changes the queue

  pub moves_on : (c : Channel T W) (at : Stage (Phase T) T W) (e : Effect T W) (r : Option (Reply T)) (s : Stage (Phase T) T W) → Moves c at e r s → Progress c.queue e.channel.queue
  moves_on c at e r s h =
      moves_by c at (λ m q. Progress c.queue q) (λ f y m is says. progress c.queue f.ask f.stage m says) (λ m s. still c.queue) e r s h

  -- ---- whom it wakes

  left_names : (o : Option ListenerRef) (c : Channel T W) (e : Effect T W) → e ≡ leaves o c → WokenBy [] o c e.woken
  left_names None c e h = ap (λ (z : Effect T W). z.woken) h
  left_names (Some held) c e h = ap (λ (z : Effect T W). z.woken) h

  raised_names : (b : Bool) (side : Side) (n : ℕ) (c : Channel T W) (e : Effect T W) → e ≡ (if b then on_count side (n + 1) (up side) c else untouched c) → e.woken ≡ []
  raised_names true side n c e h = ap (λ (z : Effect T W). z.woken) h
  raised_names false side n c e h = ap (λ (z : Effect T W). z.woken) h

  work_names : (c : Channel T W) (w : ListStep T W) (e : Effect T W) (r : Option (Reply T)) (s : Stage (Phase T) T W) → Worked c w e r s → WokenBy (telling (Working w)) (dropping (Working w)) c e.woken
  work_names c (TellReceive y) e r s h = ap (λ (z : Effect T W). z.woken) h.0 ∙ sym (append-nil (told_one_wakes (listeners Receives c.wait_lists)))
  work_names c (TellSend y) e r s h = ap (λ (z : Effect T W). z.woken) h.0 ∙ sym (append-nil (told_one_wakes (listeners Sends c.wait_lists)))
  work_names c (Insert w task) e r s (inl h) = ap (λ (z : Effect T W). z.woken) h.2
  work_names c (Insert w task) e r s (inr h) = ap (λ (z : Effect T W). z.woken) h.1
  work_names c (Leave y) e r s h = left_names y.held c e h.0
  work_names c (Raise side n m) e r s h = raised_names (is_raised side n c.wait_lists) side n c e h.0
  work_names c w e r s h = ap (λ (z : Effect T W). z.woken) h.0

  pub names_of : (c : Channel T W) (at : Stage (Phase T) T W) (e : Effect T W) (r : Option (Reply T)) (s : Stage (Phase T) T W) → Moves c at e r s → WokenBy (telling at) (dropping at) c e.woken
  names_of c (Trying f y) e r s h = ap (λ (z : Effect T W). z.woken) h.effect
  names_of c (Working w) e r s h = work_names c w e r s h
  names_of c (Finished kept) e r s h = ap (λ (z : Effect T W). z.woken) h.0

  -- ---- what it takes and brings

  -- what leaves and what stays is what was there and what came
  abbrev pub Held_by : Mark → ChannelAsk T W → List T → List T → Type 0
  Held_by m x items items' = gone_by m items ++ items' ≡ items ++ came_by m x

  queue_held : (x : ChannelAsk T W) (f : Phase T) (m : QueueMark) (q : Queue T) → message f.ask ≡ brought x → Held_by (mark_of_queue m) x q.items (after f m q).items
  queue_held x f queue_mark.Nothing q e = sym (append-nil q.items)
  queue_held x f queue_mark.Append q e = ap (λ (vs : List T). q.items ++ vs) e
  queue_held x f queue_mark.Take q e = split_first q.items ∙ sym (append-nil q.items)
  queue_held x f queue_mark.TakeDisplaced q e = split_first q.items ∙ sym (append-nil q.items)
  queue_held x f queue_mark.Replace q e =
      sym (append_assoc (take 1 q.items) (drop 1 q.items) (message f.ask)) ∙ (ap (λ (vs : List T). vs ++ message f.ask) (split_first q.items) ∙ ap (λ (vs : List T). q.items ++ vs) e)
  queue_held x f queue_mark.Close q e = sym (append-nil q.items)

  other_held : (m : Mark) (x : ChannelAsk T W) (items items' : List T) → IsStill m → items' ≡ items → Held_by m x items items'
  other_held m x items items' h e =
      ap (λ (vs : List T). vs ++ items') (nothing_gone m items h)
      ∙ (e ∙ (sym (append-nil items) ∙ ap (λ (vs : List T). items ++ vs) (sym (nothing_came m x h))))

  pub moves_held : (c : Channel T W) (x : ChannelAsk T W) (at : Stage (Phase T) T W) (ds : List (MarkedMoment T W)) (seen : List (Channel T W)) (e : Effect T W) (r : Option (Reply T)) (s : Stage (Phase T) T W) → StageAt c x at ds seen → Moves c at e r s
      → Held_by e.mark x c.queue.items e.channel.queue.items
  moves_held c x (Trying f y) ds seen e r s k h =
      subst (λ (z : Effect T W). Held_by z.mark x c.queue.items z.channel.queue.items) (sym h.effect) (queue_held x f h.mark c.queue (brings_own x y ds seen f.ask k.0))
  moves_held c x (Working w) ds seen e r s k h =
      let spares = worked_spares c w e r s h in other_held e.mark x c.queue.items e.channel.queue.items spares.1 (ap (λ (q : Queue T). q.items) spares.0)
  moves_held c x (Finished kept) ds seen e r s k h = absurd k

  -- ---- the calls under way after a step

  -- another's step
  pub sees_known : (c d : Channel T W) → Progress c.queue d.queue → (u : ActiveCall T W) → Known c u → Known d (sees d u)
  sees_known c d p u k =
      record { older = u.seen; latest = refl; stands = stays u.at k.stands; tells = k.tells; quick = k.quick }
    where
      stays : (at : Stage (Phase T) T W) → StageAt c u.ask at u.marks u.seen → StageAt d u.ask at u.marks (d ∷ u.seen)
      stays (Trying f y) h = (tries_more u.ask y u.marks u.seen f.ask d u.marks (λ z. refl) h.0, tries_stay c d p k.older u.seen k.latest y f.ask f.stage u.marks h.1)
      stays (Working w) h = work_more u.ask w d u.marks u.seen h
      stays (Finished kept) h = h

  pub all_see : (c d : Channel T W) → Progress c.queue d.queue → (us : List (ActiveCall T W)) → AllKnown c us → AllKnown d (map (sees d) us)
  all_see c d p [] h = tt
  all_see c d p (u ∷ us) h = (sees_known c d p u h.0, all_see c d p us h.1)

  -- its own step
  module _ (c : Channel T W) (u : ActiveCall T W) (bal : IsBalanced c.queue) (k : Known c u) (m : Mark) (d : Channel T W) (names : List W) (s : Stage (Phase T) T W) where
    abbrev effect : Effect T W
    effect = record { channel = d; mark = m; woken = names }

    pub own_known : Moves c u.at effect None s → Known d (does u s m c d)
    own_known g =
        let h = own c u.ask u.told u.marks u.seen bal u.at effect None s k.stands k.tells g in
        record { older = u.seen; latest = refl; stands = h.0; tells = h.1; quick = λ q. (let i = k.quick q in let j = quick_moves c u.ask u.at effect s u.marks u.seen k.stands q g in omega (arith, i, j)) }

    pub own_finishes : (r : Reply T) (left : Returned T) → ((kept : Returned T) → s ≡ Finished kept → left ≡ kept) → Moves c u.at effect (Some r) s → Finishes (does u s m c d) r (Some left)
    own_finishes r left same g =
        let h = own c u.ask u.told u.marks u.seen bal u.at effect (Some r) s k.stands k.tells g in
        record { kept = h.0; at_end = h.1; given = ap (λ (z : Returned T). Some z) (same h.0 h.1); met = h.2; keeps = h.3; all_told = h.4 }

    pub own_in_time : (r : Option (Reply T)) → Moves c u.at effect r s → IsQuick u.ask → EndsInTime u.made r
    own_in_time None g q =
        let h = own_known g in
        let i : u.made + 1 + quick_steps_left s ≤ 8 = h.quick q in
        let j : 0 < quick_steps_left s = some_left d u.ask s _ _ h.stands in
        omega (arith, i, j)
    own_in_time (Some r) g q =
        let i : u.made + quick_steps_left u.at ≤ 8 = k.quick q in
        let j : 0 < quick_steps_left u.at = some_left c u.ask u.at u.marks u.seen k.stands in
        omega (arith, i, j)

  -- ---- a call that begins

  -- a call has something to do
  abbrev GoesOnAt : NextStep T W → Type 0
  GoesOnAt (Tries a y) = Unit {0}
  GoesOnAt (Works w) = Unit {0}
  GoesOnAt (Ends y kept) = ⊥

  sent_at : (c : Channel T W) (m : T) (l : Loan) (t : W) (b : Bool) (k : Option Key) → l.asks_first ≡ b
      → let turn : NextStep T W = if b then asks_listener (waiting.Send m) k t else again (waiting.Send m) k t in TurnAt c (channel.PollSend m l t) [] [] (c ∷ []) turn × GoesOnAt turn
  sent_at c m l t false k is = (((refl, (refl, λ e. absurd (let no : false ≡ true = e in cc))), refl), tt)
  sent_at c m l t true None is = (((refl, (refl, λ e. absurd (let no : false ≡ true = e in cc))), refl), tt)
  sent_at c m l t true (Some key) is = (((refl, refl, λ no. absurd (let z : true ≡ false = sym is ∙ no in cc)), refl), tt)

  received_at : (c : Channel T W) (l : Loan) (t : W) (b : Bool) (k : Option Key) → l.asks_first ≡ b
      → let turn : NextStep T W = if b then asks_listener waiting.Receive k t else again waiting.Receive k t in TurnAt c (channel.PollRecv l t) [] [] (c ∷ []) turn × GoesOnAt turn
  received_at c l t false k is = (((tt, refl), refl), tt)
  received_at c l t true None is = (((tt, refl), refl), tt)
  received_at c l t true (Some key) is = (((tt, refl, λ no. absurd (let z : true ≡ false = sym is ∙ no in cc)), refl), tt)

  begins_at : (c : Channel T W) (x : ChannelAsk T W) → TurnAt c x [] [] (c ∷ []) (first x) × GoesOnAt (first x)
  begins_at c (channel.TrySend m) = (((refl, (refl, λ e. absurd (let no : false ≡ true = e in cc))), refl), tt)
  begins_at c (channel.ForceSend m) = (((refl, (refl, λ e. absurd (let no : false ≡ true = e in cc))), refl), tt)
  begins_at c (channel.RecvMany n) = (((refl, refl), refl), tt)
  begins_at c channel.Close = (((refl, tt), refl), tt)
  begins_at c (channel.PollSend m l t) = sent_at c m l t l.asks_first l.key refl
  begins_at c channel.PollFinishedSend = (((([], c ∷ [], refl, (refl, refl)), refl), refl), tt)
  begins_at c (channel.PollRecv l t) = received_at c l t l.asks_first l.key refl
  begins_at c (channel.PollNext (Some key) t) = (((tt, refl, λ e. tt), refl), tt)
  begins_at c (channel.RefusePoll line msg key) = (((([], c ∷ [], refl, (refl, refl)), refl), refl), tt)
  begins_at c (channel.GiveUp line msg key) = (((([], c ∷ [], refl, (refl, refl)), refl), refl), tt)
  begins_at c (channel.CloneHandle side) = (((refl, refl), refl), tt)
  begins_at c (channel.Upgrade side) = (((refl, refl), refl), tt)
  begins_at c (channel.HandleCount side) = (((refl, refl), refl), tt)
  begins_at c (channel.SendIsTerminated b) = (((([], c ∷ [], refl, (refl, refl)), refl), refl), tt)
  begins_at c (channel.SameChannel b) = (((([], c ∷ [], refl, (refl, refl)), refl), refl), tt)
  begins_at c channel.Make = (((([], c ∷ [], refl, (refl, refl)), refl), refl), tt)
  begins_at c channel.DropWeak = (((([], c ∷ [], refl, (refl, refl)), refl), refl), tt)
  begins_at c w = (((tt, refl), refl), tt)

  known_at : (c : Channel T W) (p : ℕ) (x : ChannelAsk T W) (turn : NextStep T W) (r : Option (Reply T)) (at : Stage (Phase T) T W) → r ≡ None → TurnAt c x [] [] (c ∷ []) turn → Turned turn r at → Known c (call_begun p x at c)
  known_at c p x turn r at none h t =
      let k : After c x [] [] (c ∷ []) None at = subst (λ (z : Option (Reply T)). After c x [] [] (c ∷ []) z at) none (turned_at c x [] [] (c ∷ []) turn r at t h) in
      record { older = []; latest = refl; stands = k.0; tells = k.1; quick = λ q. (let i = few_left at in omega (arith, i)) }

  first_known : (c : Channel T W) (p : ℕ) (x : ChannelAsk T W) (turn : NextStep T W) (r : Option (Reply T)) (at : Stage (Phase T) T W) → TurnAt c x [] [] (c ∷ []) turn → GoesOnAt turn → Turned turn r at → Known c (call_begun p x at c)
  first_known c p x (Tries a y) r at h o t = known_at c p x (Tries a y) r at t.0 h t
  first_known c p x (Works w) r at h o t = known_at c p x (Works w) r at t.0 h t
  first_known c p x (Ends y kept) r at h o t = absurd o

  pub begins_known : (c : Channel T W) (p : ℕ) (x : ChannelAsk T W) (r : Option (Reply T)) (at : Stage (Phase T) T W) → Turned (first x) r at → Known c (call_begun p x at c)
  begins_known c p x r at t = let h = begins_at c x in first_known c p x (first x) r at h.0 h.1 t
