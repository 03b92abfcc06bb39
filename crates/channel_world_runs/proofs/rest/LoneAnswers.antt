-- A call that is made alone on a channel at rest answers as the model may, and leaves the model's state.
use Rattle.std.specs.Prelude.{◌≡◌, ◌≤◌, ◌+◌, ◌∷◌, ◌++◌}
use Rattle.channel_world_runs.proofs.Lemmas.{arith, ℕ, List, [], true, false, Option, None, Some, IsSome, is_some, inl, inr, refl, sym, ap, subst, ◌∙◌, filter-append, option_map_or, Key, Channel, Reply, ListenerRef, WaitList, Sends, Receives, Streams, Closings, Outcome, Alone, left_among, or_right, Answer, AwakeIn, times, times_in, line_at, Waiting, same_waiter, is_among, without_waiter, Names, State, Call, Waiter, Op, Stream, HandleId, at, HandleEntry, keeper, Matches, held_after, with_held, Configuration, asks, WorldInvariant, names_alone, order_alone, name_state_alone, IsAmong, invalid, waits, status, under_way_in, begin_refusal, names_of, held_of, NameState, but_for, NonePolled, RefusalsAgree, LoneCallsAnswer, PollsAnswer, state_at, IsWorld, awake_after, Answers, poll_of, poll_awake, zero, suc, nat_lt, all_uses, Agent, KeysHeld as Holding, PlainChannel, tasks_are, told_holds, Admitted, admitted, among_its_line, Pends, pends}
use Rattle.channel_world_runs.proofs.refinement.Streams.{poll_next}
use Rattle.channel_world_runs.proofs.WokenPolls.{woken_admitted, poll_accepted}
use Rattle.channel_world_model.specs.Refusal as model
use Rattle.channel_world_runs.proofs.rest.LoneWoken.{left_of, woken_follows}
use Rattle.channel_world_runs.proofs.rest.LoneAsks.{asks_same, refusal_same}
use Rattle.channel_world_runs.proofs.rest.LoneNames.{names_follow}
use Rattle.channel_world_runs.proofs.rest.Names.{on}
use Rattle.channel_world_runs.proofs.rest.World.{rest_is_a_world}

-- ---- names

stood_once : (w : Waiter) (l : Waiting) → times_in w l ≤ 1 → times w l.woken ≤ 1
stood_once w l h =
    let once : times w l.sends + times w l.receives + times w l.streams + times w l.closings + times w l.woken ≤ 1 = h in
    omega (arith, once)

pub behind : (v : Waiter) (xs ys : List Waiter) → is_among v ys ≡ true → is_among v (xs ++ ys) ≡ true
behind v [] ys h = h
behind v (x ∷ xs) ys h = or_right (same_waiter v x) (is_among v (xs ++ ys)) (behind v xs ys h)

-- one of the last is among all
among_last : (k : Option Waiter) (v : Waiter) (xs ys : List Waiter) → is_among v (but_for k ys) ≡ true
    → is_among v (but_for k (xs ++ ys)) ≡ true
among_last None v xs ys e = behind v xs ys e
among_last (Some w) v xs ys e =
    ap (λ (l : List Waiter). is_among v l) (filter-append _ xs ys) ∙ behind v (without_waiter w xs) (without_waiter w ys) e

-- a key that is left is held before, unless it is that of the call itself
held_before : (k : Option Waiter) (key : Option Key) (h : Holding) (v : Waiter) (ws : List Waiter)
    → is_among v (but_for k ws) ≡ true → is_some (option_map_or (λ (w : Waiter). with_held w key h) k h v) ≡ true
    → is_some (h v) ≡ true
held_before None key h v ws among e = e
held_before (Some w) key h v ws among e =
    let apart : same_waiter w v ≡ false = (left_among w v ws among).1 in
    rw apart at e

abbrev lines : List Waiter → List Waiter → List Waiter → List Waiter → List Waiter → Waiting
lines a b c d e = record { sends = a; receives = b; streams = c; closings = d; woken = e }

same_waiting : (a b c d e f g h i j : List Waiter) → a ≡ f → b ≡ g → c ≡ h → d ≡ i → e ≡ j → lines a b c d e ≡ lines f g h i j
same_waiting a b c d e f g h i j ea eb ec ed ee =
    ap (λ (x : List Waiter). lines x b c d e) ea ∙ (ap (λ (x : List Waiter). lines f x c d e) eb
    ∙ (ap (λ (x : List Waiter). lines f g x d e) ec ∙ (ap (λ (x : List Waiter). lines f g h x e) ed
    ∙ ap (λ (x : List Waiter). lines f g h i x) ee)))

not_above : (n : ℕ) → n ≤ 0 → nat_lt 0 n ≡ false
not_above zero h = refl
not_above (suc n) h = absurd (omega (arith, h))

module _ {T : Type 0} where
  -- where nobody is at work, nobody is polled
  none_polled : (b : NameState T) (s : Configuration T Waiter) → WorldInvariant b s → b.agents ≡ [] → NonePolled b.name_table
  none_polled b s kept none w line e =
      let h = kept.polled w line e in subst (λ (l : List (Agent T)). IsAmong h.0 l) none h.1

  -- and no handle is used
  none_used : (b : NameState T) (s : Configuration T Waiter) → WorldInvariant b s → b.agents ≡ [] → (handle : HandleId)
      → (under_way_in b.name_table).used handle ≡ false
  none_used b s kept none handle = by (at handle.0 b.name_table.handles) refl
    where
      by : (o : Option HandleEntry) → at handle.0 b.name_table.handles ≡ o → (under_way_in b.name_table).used handle ≡ false
      by None e = rw e refl
      by (Some h) e =
          let few : h.users ≤ all_uses handle.0 b.agents = (kept.users handle.0 h e).0 in
          let nobody : all_uses handle.0 b.agents ≡ 0 = ap (all_uses handle.0) none in
          rw e (not_above h.users (omega (arith, few, nobody)))

  pub refusals_agree : (b : NameState T) (s : Configuration T Waiter) (c : Call T) → WorldInvariant b s → b.agents ≡ []
      → begin_refusal b.name_table c ≡ model.refusal (state_at b s) c
  refusals_agree b s c kept none =
      let o = kept.owned in
      refusal_same b.name_table (none_polled b s kept none) o.none_amiss (none_used b s kept none) (state_at b s) c refl

  -- a call whose operation, receiver or handle lives, is of its kind and is not being polled, and that matches what the model may
  -- answer; also where its receiver is borrowed
  module _ (b : NameState T) (s t : Configuration T Waiter) (c : Call T) (o : Outcome T Waiter) (kept : WorldInvariant b s)
      (ok : Admitted b.name_table c) (alone : Alone (asks b.name_table c) s.now o) (now : t.now ≡ o.channel)
      (matches : Matches (held_of b.name_table) (state_at b s) c o) (awake : AwakeIn matches.answer.after) where
    abbrev before : State T
    before = state_at b s

    abbrev answer : Answer T
    answer = matches.answer

    abbrev own : Option Waiter
    own = keeper before c

    told_are : answer.after.waiting.woken ≡ but_for own (before.waiting.woken ++ o.woken)
    told_are = matches.told ∙ sym (left_of own (before.waiting.woken ++ o.woken))

    once : (v : Waiter) → times v (but_for own (b.order.woken ++ o.woken)) ≤ 1
    once v = subst (λ (xs : List Waiter). times v xs ≤ 1) told_are (stood_once v answer.after.waiting (awake.placed.once v))

    -- each that was woken held a listener before, but for the call's own
    holds : (v : Waiter) → is_among v (but_for own o.woken) ≡ true → is_some (held_of b.name_table v) ≡ true
    holds v e =
        let among : is_among v answer.after.waiting.woken ≡ true =
        ap (λ (l : List Waiter). is_among v l) told_are ∙ among_last own v before.waiting.woken o.woken e in
        held_before own o.kept.key (held_of b.name_table) v o.woken e
        (of_kind (line_at answer.after.names v) refl (awake.placed.wakes v among) among)
      where
        of_kind : (k : Option WaitList) → line_at answer.after.names v ≡ k → IsSome k → is_among v answer.after.waiting.woken ≡ true
            → is_some (held_after before c o.kept.key (held_of b.name_table) v) ≡ true
        of_kind None k some among = cc some
        of_kind (Some line) k some among =
            let key =
            told_holds (held_after before c o.kept.key (held_of b.name_table)) answer.after.channel.closed line v _ _
            (matches.shows.lines line).told (among_its_line (line_at answer.after.names) line v answer.after.waiting.woken k ∙ among) in
            ap (λ (x : Option Key). is_some x) key.1

    named : (v : Waiter) → is_among v (but_for own o.woken) ≡ true → (h : ListenerRef) × (status b.name_table v ≡ waits h)
    named v e = by (held_of b.name_table v) refl (holds v e)
      where
        owned : (w : Waiter) → status b.name_table w ≡ invalid → ⊥
        owned = let x = kept.owned in x.none_amiss

        pending : (key : Key) → Pends (status b.name_table v) key → (h : ListenerRef) × (status b.name_table v ≡ waits h)
        pending key (inl bad) = absurd (owned v bad)
        pending key (inr p) = (on p.0 key, p.1)

        by : (k : Option Key) → held_of b.name_table v ≡ k → is_some k ≡ true → (h : ListenerRef) × (status b.name_table v ≡ waits h)
        by None f g = absurd (let no : false ≡ true = g in cc)
        by (Some key) f g = pending key (pends b.name_table v key f)

    woken_same : (order_alone b.name_table c o.kept o.woken b.order).woken ≡ answer.after.waiting.woken
    woken_same = woken_follows b s kept c ok o named once ∙ sym told_are

    waiting_same : (state_at (name_state_alone b c o) t).waiting ≡ answer.after.waiting
    waiting_same =
        ap (λ (x : Channel T Waiter). (state_at (name_state_alone b c o) (record t { now = x })).waiting) now
        ∙ same_waiting _ _ _ _ _ _ _ _ _ _ (tasks_are _ _ _ (matches.shows.lines Sends).untold)
        (tasks_are _ _ _ (matches.shows.lines Receives).untold) (tasks_are _ _ _ (matches.shows.lines Streams).untold)
        (tasks_are _ _ _ (matches.shows.lines Closings).untold) woken_same

    channel_same : (state_at (name_state_alone b c o) t).channel ≡ answer.after.channel
    channel_same =
        ap (λ (x : Channel T Waiter). (state_at (name_state_alone b c o) (record t { now = x })).channel) now
        ∙ (λ i. record {
          messages = matches.shows.messages i;
          capacity = matches.shows.capacity i;
          closed = matches.shows.closed i;
          senders = matches.shows.senders i;
          receivers = matches.shows.receivers i;
        })

    names_same : names_of (names_alone b.name_table c o.reply o.kept) ≡ answer.after.names
    names_same = names_follow b.name_table before refl s.now o c alone ∙ sym matches.names

    after : State T
    after = state_at (name_state_alone b c o) t

    state_same : state_at (name_state_alone b c o) t ≡ answer.after
    state_same =
        ap (λ (x : PlainChannel T). record (state_at (name_state_alone b c o) t) { channel = x }) channel_same
        ∙ (ap (λ (x : Names T). record (state_at (name_state_alone b c o) t) { channel = answer.after.channel; names = x }) names_same
        ∙ ap (λ (x : Waiting). record { channel = answer.after.channel; names = answer.after.names; waiting = x }) waiting_same)

    pub lone_answers : Answers before c (record { after = state_at (name_state_alone b c o) t; reply = o.reply; woken = o.woken })
    lone_answers =
        let a = subst (λ (x : State T). Answers before c (record { after = x; reply = answer.reply; woken = answer.woken }))
        (sym state_same) matches.allowed in
        let d = subst (λ (x : Reply T). Answers before c
        (record { after = state_at (name_state_alone b c o) t; reply = x; woken = answer.woken })) (sym matches.reply) a in
        subst (λ (x : List Waiter). Answers before c
        (record { after = state_at (name_state_alone b c o) t; reply = o.reply; woken = x })) (sym matches.woken) d

pub they_agree : (T : Type 0) → RefusalsAgree T
they_agree T b s c kept none = refusals_agree b s c kept none

pub they_answer : (T : Type 0) → LoneCallsAnswer T
they_answer T b s t c o kept none rest fine alone now =
    let world : IsWorld b s = rest_is_a_world T b s kept rest in
    let accepted : model.refusal (state_at b s) c ≡ None = sym (refusals_agree b s c kept none) ∙ fine in
    let matches : Matches (held_of b.name_table) (state_at b s) c o =
    world.calls c o accepted (subst (λ a. Alone a s.now o) (asks_same b.name_table (none_polled b s kept none) c) alone) in
    let awake : AwakeIn matches.answer.after = awake_after (state_at b s) c matches.answer accepted world.awake matches.allowed in
    lone_answers b s t c o kept (admitted b.name_table c fine) alone now matches awake

-- ---- a poll of settling: of a stream whether or not a live operation borrows its receiver

module _ {T : Type 0} (b : NameState T) (s t : Configuration T Waiter) (o : Outcome T Waiter) (kept : WorldInvariant b s) (none : b.agents ≡ [])
    (rest : s.under_way ≡ []) (now : t.now ≡ o.channel) where
  -- a stream that is pending is polled, and answers as the model may
  stream_polls_answer : (receiver : HandleId) → is_among (Stream receiver) b.order.woken ≡ true
      → Alone (asks b.name_table (Call.PollNext receiver)) s.now o
      → Answers (state_at b s) (Call.PollNext receiver)
      (record { after = state_at (name_state_alone b (Call.PollNext receiver) o) t; reply = o.reply; woken = o.woken })
  stream_polls_answer receiver e alone =
      let c : Call T = Call.PollNext receiver in
      let world : IsWorld b s = rest_is_a_world T b s kept rest in
      let matches : Matches (held_of b.name_table) (state_at b s) c o =
      poll_next (held_of b.name_table) s.now (state_at b s) world.shows world.awake receiver o
      (subst (λ a. Alone a s.now o) (asks_same b.name_table (none_polled b s kept none) c) alone) in
      let awake : AwakeIn matches.answer.after = poll_awake (state_at b s) (Stream receiver) matches.answer world.awake matches.allowed in
      lone_answers b s t c o kept (woken_admitted b s (Stream receiver) kept.owned kept.woken e) alone now matches awake

  polls_answer : (w : Waiter) → is_among w b.order.woken ≡ true → Alone (asks b.name_table (poll_of w)) s.now o
      → Answers (state_at b s) (poll_of w) (record { after = state_at (name_state_alone b (poll_of w) o) t; reply = o.reply; woken = o.woken })
  polls_answer (Stream receiver) e alone = stream_polls_answer receiver e alone
  polls_answer (Op op) e alone =
      they_answer T b s t (Call.Poll op) o kept none rest (poll_accepted b.name_table op (woken_admitted b s (Op op) kept.owned kept.woken e)) alone now

pub they_poll : (T : Type 0) → PollsAnswer T
they_poll T b s t w o kept none rest e alone now = polls_answer b s t o kept none rest now w e alone
