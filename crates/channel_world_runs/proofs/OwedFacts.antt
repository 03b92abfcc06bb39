-- What is owed in a configuration to those that are pending, by what is owed to those that wait and by who owns whose listener.
use Rattle.std.specs.Prelude.{◌≡◌, ◌+◌, ◌≤◌, ◌∷◌, ◌⊎◌}
use Rattle.channel_world_runs.proofs.Lemmas.{arith, ℕ, true, false, List, [], length, Option, None, Some, inl, inr, refl, sym, ap, ◌∙◌, Phase, Key, listeners, ChannelAsk, ListenerRef, WaitList, Sends, Receives, Streams, Stage, Trying, Working, TellReceive, TellStreams, TellSend, Leave, Waiter, Open, Shut, ActiveCall, Configuration, HoldsListener, total, HasClosed, LooksAgain, AnswersClosed, counts_for_receives, MessagesAreFew, HasPlaces, counts_for_sends, PlacesAreFew, WakeInvariant, IsSending, HasInHand, AnswersFor, IsIn, IsUnwoken, woken_on, IsMarked, WokenSound, IsAmong, AnyOf, holding, named, calling, Owned, NameState, Purpose, at_it, to_send, OwedIn}
use Rattle.channel_steps.specs.every_run.Waits.{Waits, Any}
use Rattle.channel_world_runs.proofs.OwedConfigurations.{is_sending}
use Rattle.channel_world_runs.proofs.OwedCounts.{told_few, receives_weigh, sends_weigh}
use Rattle.channel_world_runs.proofs.OwnerSteps.{apart}
use Rattle.channel_world_runs.proofs.OwnerTogether.{HasIt}

abbrev this : WaitList → Key → ListenerRef
this line key = record { line = line; key = key }

both : (a b : WaitList) (j k : Key) → a ≡ b → j ≡ k → (let x : Option ListenerRef = Some (this a j) in x) ≡ Some (this b k)
both a b j k e f = ap (λ (l : WaitList). let x : Option ListenerRef = Some (this l j) in x) e ∙ ap (λ (i : Key). let x : Option ListenerRef = Some (this b i) in x) f

is_in : (key : Key) (w : Waiter) (ws : List (Key × Option Waiter)) → IsAmong (key, Some w) ws → IsIn key ws
is_in key w [] i = i
is_in key w (x ∷ ws) (inl e) = inl (ap (λ (y : Key × Option Waiter). y.0) e)
is_in key w (x ∷ ws) (inr i) = inr (is_in key w ws i)

pub places : (cap : Option ℕ) (m n : ℕ) → m ≤ n → HasPlaces cap m → HasPlaces cap n
places None m n e h = absurd h
places (Some c) m n e h = omega (arith, e, h)

module _ {T : Type 0} where
  -- ---- what is in hand

  listener_held : (line : WaitList) (key : Key) (at : Stage (Phase T) T Waiter) → HoldsListener line key at → holding at ≡ Some (this line key)
  listener_held line key (Trying f (Purpose.Poll l (Some k) task)) h = both l line k key h.0 h.1
  listener_held line key (Working (TellReceive x)) h = h
  listener_held line key (Working (TellStreams x)) h = h
  listener_held line key (Working (TellSend x)) h = h
  listener_held line key (Working (Leave x)) h = h
  listener_held line key at h = absurd h

  looks_held : (line : WaitList) (key : Key) (at : Stage (Phase T) T Waiter) → LooksAgain line key at → holding at ≡ Some (this line key)
  looks_held line key (Trying f (Purpose.Poll l (Some k) task)) h = both l line k key h.0 h.1
  looks_held line key (Working (TellSend x)) h = h
  looks_held line key (Working (Leave x)) h = h
  looks_held line key at h = absurd h

  stream_held : (key : Key) (at : Stage (Phase T) T Waiter) → HasInHand key at → holding at ≡ Some (this Streams key)
  stream_held key (Trying f (Purpose.Poll Streams (Some k) task)) h = both Streams Streams k key refl h
  stream_held key (Working (TellSend x)) h = h
  stream_held key (Working (Leave x)) h = h
  stream_held key at h = absurd h

  one_holds : (P : ActiveCall T Waiter → Type 0) (h : ListenerRef) → ((u : ActiveCall T Waiter) → P u → holding u.at ≡ Some h) → (us : List (ActiveCall T Waiter)) → Any P us → (q : ℕ) × AnyOf (HasIt q h) us
  one_holds P h f [] i = absurd i
  one_holds P h f (u ∷ us) (inl i) = (u.party, inl (refl, f u i))
  one_holds P h f (u ∷ us) (inr i) = let r = one_holds P h f us i in (r.0, inr r.1)

  -- one or another
  either : (P Q R : ActiveCall T Waiter → Type 0) → ((u : ActiveCall T Waiter) → P u → Q u ⊎ R u) → (us : List (ActiveCall T Waiter)) → Any P us → AnyOf Q us ⊎ Any R us
  either P Q R f [] i = absurd i
  either P Q R f (u ∷ us) (inl i) = by (f u i)
    where
      by : Q u ⊎ R u → AnyOf Q (u ∷ us) ⊎ Any R (u ∷ us)
      by (inl j) = inl (inl j)
      by (inr j) = inr (inl j)
  either P Q R f (u ∷ us) (inr i) = by (either P Q R f us i)
    where
      by : AnyOf Q us ⊎ Any R us → AnyOf Q (u ∷ us) ⊎ Any R (u ∷ us)
      by (inl j) = inl (inr j)
      by (inr j) = inr (inr j)

  sending_is : (a : ChannelAsk T Waiter) → IsSending a → is_sending a ≡ true
  sending_is (ChannelAsk.TrySend m) h = refl
  sending_is (ChannelAsk.ForceSend m) h = refl
  sending_is (ChannelAsk.PollSend m key task) h = refl
  sending_is a h = absurd h

  module _ (b : NameState T) (s : Configuration T Waiter) (o : Owned b s) (k : WokenSound b s) (sound : WakeInvariant s) where
    abbrev Unwoken : WaitList → Waiter → Type 0
    Unwoken line w = IsUnwoken line w b.name_table b.order.woken

    -- the listener of one that is pending and was not woken waits, and no call has it in hand
    waiting : (line : WaitList) (w : Waiter) (u : Unwoken line w) → Waits line u.0 s.now
    waiting line w u = by (k.stands w (this line u.0) u.1)
      where
        by : IsMarked w b.order.woken (this line u.0) s.now → Waits line u.0 s.now
        by (inl m) = absurd (u.2 m.0)
        by (inr m) = is_in u.0 w (listeners line s.now.wait_lists).waiting m.1

    in_no_hand : (P : ActiveCall T Waiter → Type 0) (line : WaitList) (w : Waiter) (u : Unwoken line w)
        → ((x : ActiveCall T Waiter) → P x → holding x.at ≡ Some (this line u.0)) → Any P s.under_way → ⊥
    in_no_hand P line w u f i =
        let one = one_holds P (this line u.0) f s.under_way i in
        apart w one.0 (o.alone (named w) (calling one.0) (this line u.0) u.1 one.1)

    receives : (w : Waiter) → Unwoken Receives w → length s.now.queue.items ≤ woken_on Receives b.name_table b.order.woken + at_it s
    receives w u = by (let r = sound.receives in r.owed u.0 (waiting Receives w u))
      where
        by : MessagesAreFew s.now (total counts_for_receives s.under_way) ⊎ Any (λ x. HoldsListener Receives u.0 x.at) s.under_way
            → length s.now.queue.items ≤ woken_on Receives b.name_table b.order.woken + at_it s
        by (inl few) =
            let told = told_few b s Receives o k in
            let weigh = receives_weigh b s o in
            omega (arith, few, told, weigh)
        by (inr i) = absurd (in_no_hand (λ x. HoldsListener Receives u.0 x.at) Receives w u (λ x h. listener_held Receives u.0 x.at h) i)

    sends : (w : Waiter) → Unwoken Sends w → Open s.now
        → HasPlaces s.now.queue.capacity (length s.now.queue.items + (woken_on Sends b.name_table b.order.woken + to_send s))
    sends w u open_now = by (let r = sound.sends in r.owed u.0 (waiting Sends w u))
      where
        by : PlacesAreFew s.now (total counts_for_sends s.under_way) ⊎ Any (λ x. HoldsListener Sends u.0 x.at) s.under_way
            → HasPlaces s.now.queue.capacity (length s.now.queue.items + (woken_on Sends b.name_table b.order.woken + to_send s))
        by (inl (inl shut)) = absurd (let never : true ≡ false = sym shut ∙ open_now in cc)
        by (inl (inr few)) =
            let told = told_few b s Sends o k in
            let weigh = sends_weigh b s o (let r = sound.sends in let t = r.tellings in t.known) in
            places s.now.queue.capacity _ (length s.now.queue.items + (woken_on Sends b.name_table b.order.woken + to_send s)) (omega (arith, told, weigh)) few
        by (inr i) = absurd (in_no_hand (λ x. HoldsListener Sends u.0 x.at) Sends w u (λ x h. listener_held Sends u.0 x.at h) i)

    streams : (w : Waiter) → Unwoken Streams w → (s.now.queue.items ≡ []) ⊎ AnyOf (λ x. is_sending x.ask ≡ true) s.under_way
    streams w u = by (let r = sound.streams in r.owed u.0 (waiting Streams w u))
      where
        pick : (x : ActiveCall T Waiter) → AnswersFor u.0 x → (is_sending x.ask ≡ true) ⊎ HasInHand u.0 x.at
        pick x (inl h) = inl (sending_is x.ask h.0)
        pick x (inr h) = inr h

        last : AnyOf (λ x. is_sending x.ask ≡ true) s.under_way ⊎ Any (λ x. HasInHand u.0 x.at) s.under_way
            → (s.now.queue.items ≡ []) ⊎ AnyOf (λ x. is_sending x.ask ≡ true) s.under_way
        last (inl i) = inr i
        last (inr i) = absurd (in_no_hand (λ x. HasInHand u.0 x.at) Streams w u (λ x h. stream_held u.0 x.at h) i)

        by : (s.now.queue.items ≡ []) ⊎ Any (AnswersFor u.0) s.under_way
            → (s.now.queue.items ≡ []) ⊎ AnyOf (λ x. is_sending x.ask ≡ true) s.under_way
        by (inl none) = inl none
        by (inr i) = last (either (AnswersFor u.0) (λ x. is_sending x.ask ≡ true) (λ x. HasInHand u.0 x.at) pick s.under_way i)

    closing : (line : WaitList) (w : Waiter) → Unwoken line w → Shut s.now → AnyOf (λ x. HasClosed x.marks) s.under_way
    closing line w u shut =
        last (either (AnswersClosed line u.0) (λ x. HasClosed x.marks) (λ x. LooksAgain line u.0 x.at) pick s.under_way
        (let r = sound.closing in r.owed line u.0 shut (waiting line w u)))
      where
        pick : (x : ActiveCall T Waiter) → AnswersClosed line u.0 x → HasClosed x.marks ⊎ LooksAgain line u.0 x.at
        pick x (inl h) = inl h.0
        pick x (inr h) = inr h

        last : AnyOf (λ x. HasClosed x.marks) s.under_way ⊎ Any (λ x. LooksAgain line u.0 x.at) s.under_way → AnyOf (λ x. HasClosed x.marks) s.under_way
        last (inl i) = i
        last (inr i) = absurd (in_no_hand (λ x. LooksAgain line u.0 x.at) line w u (λ x h. looks_held line u.0 x.at h) i)

    pub owed : OwedIn b s
    owed = record { receives = receives; sends = sends; streams = streams; closing = closing }
