-- What the counts of a world count.
use Rattle.std.specs.Prelude.{◌⊎◌, ◌+◌, ◌≤◌, ◌≡◌, ◌∷◌}
use Rattle.channel_world.proofs.Words.{TellReceive, TellStreams, TellSend, TellSends, TakeRoom, TellAll, Insert, Register, Count, Load, Raise, Met, LeftLast, Dropped, AllKnown, same_side, is_last_of, All, Drops, IsByDrops}
use Rattle.concurrent_queue.specs.declared.call.QueueAsk.{QueueAsk}
use Rattle.channel_calls.specs.Turns.{closer_ending}
use Rattle.channel_calls.specs.declared.stage.Closer.{Closer}
use Rattle.channel_calls.specs.declared.stage.Ending.{Ending}
use Rattle.channel_calls.specs.declared.stage.Making.{Making}
use Rattle.channel_calls.specs.declared.stage.Waiting.{Waiting}
use Rattle.channel_calls.specs.declared.stage.ListStep.{ListStep}
use Rattle.channel_steps.specs.Known.{TriesFor, WorkAt, StageAt, IsFor, Makes}
use Rattle.channel_world.proofs.Lemmas.{filter, arith, Bool, cond, map, length, Option, None, Some, inl, inr, sym, ap, ◌∙◌, option_map, closed_in, QueueCall, shows, phase, count, Directory, are_alike, Handle, HandleKind, Sender, Receiver, WeakSender, WeakReceiver, Configuration, ActiveCallWitness, active_call_of, all_seats, tally, is_strong, strong_lives, live_on, parties_of, parts_in, Shown, IsQuiet, Stands, no_parties, WorldState, HandleEntry, strong_kind, live, CountsLive, OpenHasBoth, AreByDrops, CountsAtRest, count_in, to_lower, to_close, view_of, ℕ, true, false, List, [], refl, subst, Phase, Channel, ChannelAsk, Reply, Purpose, Side, Senders, Receivers, Stage, Trying, Working, Finished, Leave, Lower, Waiter, MarkedMoment, ActiveCall, is_lowering, is_closing}
use Rattle.channel_world_model.specs.Handles.{is_of, live_of}
use Rattle.channel_steps.specs.declared.party.Party.{Party}
use Rattle.channel_steps.specs.Known as known

-- ---- which calls under way are to lower a count, and which are at closing

module _ (T : Type 0) where
  abbrev Deeds : Type 0
  Deeds = List (MarkedMoment T Waiter)

  abbrev Seen : Type 0
  Seen = List (Channel T Waiter)

  -- ---- a call at its lowering

  drops_it : (side s : Side) (x : ChannelAsk T Waiter) → known.IsDropOf x s → same_side side s ≡ true → Drops side x
  drops_it Senders Senders ChannelAsk.DropSender h e = tt
  drops_it Receivers Receivers (ChannelAsk.DropReceiver k) h e = tt
  drops_it Senders Receivers x h e = absurd (let no : false ≡ true = e in cc)
  drops_it Receivers Senders x h e = absurd (let no : false ≡ true = e in cc)
  drops_it side s x h e = absurd h

  lowers : (side : Side) (c : Channel T Waiter) (x : ChannelAsk T Waiter) (at : Stage (Phase T) T Waiter) (ds : Deeds) (seen : Seen)
      → StageAt c x at ds seen → is_lowering side at ≡ true → Drops side x × (ds ≡ [])
  lowers side c x (Working (Lower s key)) ds seen k e = (drops_it side s x k.0 e, k.1)
  lowers side c x at ds seen k e = absurd (let no : false ≡ true = e in cc)

  -- ---- a call at closing

  closes_by : (side : Side) (x : ChannelAsk T Waiter) (cl : Closer) (a : QueueAsk T) (ds : Deeds) (seen : Seen)
      → TriesFor x (Purpose.Close cl) a ds seen → is_last_of side cl ≡ true → Drops side x × LeftLast side ds seen
  closes_by Senders ChannelAsk.DropSender Closer.Sender QueueAsk.Close ds seen k e = (tt, k)
  closes_by Receivers (ChannelAsk.DropReceiver key) (Closer.Receiver own) QueueAsk.Close ds seen k e = (tt, k)
  closes_by Receivers ChannelAsk.DropSender Closer.Sender QueueAsk.Close ds seen k e = absurd (let no : false ≡ true = e in cc)
  closes_by Senders (ChannelAsk.DropReceiver key) (Closer.Receiver own) QueueAsk.Close ds seen k e = absurd (let no : false ≡ true = e in cc)
  closes_by Senders ChannelAsk.Close Closer.Call QueueAsk.Close ds seen k e = absurd (let no : false ≡ true = e in cc)
  closes_by Receivers ChannelAsk.Close Closer.Call QueueAsk.Close ds seen k e = absurd (let no : false ≡ true = e in cc)
  closes_by side x cl a ds seen k e = absurd k

  closes : (side : Side) (c : Channel T Waiter) (x : ChannelAsk T Waiter) (at : Stage (Phase T) T Waiter) (ds : Deeds) (seen : Seen)
      → StageAt c x at ds seen → is_closing side at ≡ true → Drops side x × LeftLast side ds seen
  closes side c x (Trying f (Purpose.Close cl)) ds seen k e = closes_by side x cl f.ask ds seen k.0 e
  closes side c x at ds seen k e = absurd (let no : false ≡ true = e in cc)

  -- ---- a drop that has no mark

  no_deeds : (side : Side) (ds : Deeds) (seen : Seen) → ds ≡ [] → Dropped side ds seen → ⊥
  no_deeds side ds seen none h = subst (λ (l : Deeds). Dropped side l seen) none h

  no_last : (side : Side) (ds : Deeds) (seen : Seen) → ds ≡ [] → LeftLast side ds seen → ⊥
  no_last side ds seen none h = subst (λ (l : Deeds). LeftLast side l seen) none h

  unmet : (side : Side) (x : ChannelAsk T Waiter) (ds : Deeds) (seen : Seen) (y : Reply T) → Drops side x → ds ≡ []
      → Met x ds seen y → ⊥
  unmet Senders ChannelAsk.DropSender ds seen y d none (newer, older, same, row) = no_deeds Senders ds older none row.0
  unmet Receivers (ChannelAsk.DropReceiver key) ds seen y d none (newer, older, same, row) = no_deeds Receivers ds older none row.0
  unmet side x ds seen y d none m = absurd d

  untried : (side : Side) (x : ChannelAsk T Waiter) (a : Purpose T Waiter) (q : QueueAsk T) (ds : Deeds) (seen : Seen) → Drops side x
      → ds ≡ [] → TriesFor x a q ds seen → ⊥
  untried Senders ChannelAsk.DropSender (Purpose.Close Closer.Sender) QueueAsk.Close ds seen d none k = no_last Senders ds seen none k
  untried Receivers (ChannelAsk.DropReceiver key) (Purpose.Close (Closer.Receiver own)) QueueAsk.Close ds seen d none k =
      no_last Receivers ds seen none k
  untried Senders ChannelAsk.DropSender a q ds seen d none k = k
  untried Receivers (ChannelAsk.DropReceiver key) a q ds seen d none k = k
  untried side x a q ds seen d none k = absurd d

  unfor : (side : Side) (x : ChannelAsk T Waiter) (w : Waiting T) → Drops side x → IsFor x w → ⊥
  unfor Senders ChannelAsk.DropSender w d k = k
  unfor Receivers (ChannelAsk.DropReceiver key) w d k = k
  unfor side x w d k = absurd d

  unmade : (side s : Side) (x : ChannelAsk T Waiter) (m : Making) (seen : Seen) → Drops side x → Makes x s m seen → ⊥
  unmade Senders s ChannelAsk.DropSender m seen d k = k
  unmade Receivers s (ChannelAsk.DropReceiver key) m seen d k = k
  unmade side s x m seen d k = absurd d

  same_it : (side s : Side) (x : ChannelAsk T Waiter) → Drops side x → known.IsDropOf x s → same_side side s ≡ true
  same_it Senders Senders ChannelAsk.DropSender d k = refl
  same_it Receivers Receivers (ChannelAsk.DropReceiver key) d k = refl
  same_it Senders Receivers ChannelAsk.DropSender d k = absurd k
  same_it Receivers Senders (ChannelAsk.DropReceiver key) d k = absurd k
  same_it side s x d k = absurd d

  takes_none : (side : Side) (n : ℕ) → (let a : ChannelAsk T Waiter = ChannelAsk.RecvMany n in Drops side a) → ⊥
  takes_none Senders n d = d
  takes_none Receivers n d = d

  asks_none : (side s : Side) → (let a : ChannelAsk T Waiter = ChannelAsk.HandleCount s in Drops side a) → ⊥
  asks_none Senders s d = d
  asks_none Receivers s d = d

  works : (side : Side) (x : ChannelAsk T Waiter) (w : ListStep T Waiter) (ds : Deeds) (seen : Seen) → WorkAt x w ds seen → Drops side x
      → ds ≡ [] → (let at : Stage (Phase T) T Waiter = Working w in is_lowering side at ≡ true)
  works side x (TellReceive y) ds seen k d none = absurd (unmet side x ds seen y.reply d none k.0)
  works side x (TellStreams y) ds seen k d none = absurd (unmet side x ds seen y.reply d none k.0)
  works side x (TellSend y) ds seen k d none = absurd (unmet side x ds seen y.reply d none k.0)
  works side x (TellSends n y) ds seen k d none = absurd (unmet side x ds seen y.reply d none k.0)
  works side x (TakeRoom n) ds seen k d none = absurd (takes_none side n (subst (λ (a : ChannelAsk T Waiter). Drops side a) k.0 d))
  works side x (TellAll line cl) ds seen k d none =
      absurd (unmet side x ds seen (let y : Ending T = closer_ending cl true in y.reply) d none k.0)
  works side x (Insert w task) ds seen k d none = absurd (unfor side x w d k.0)
  works side x (Register w key task) ds seen k d none = absurd (unfor side x w d k.0)
  works side x (Leave y) ds seen k d none = absurd (unmet side x ds seen y.reply d none k.0)
  works side x (Lower s key) ds seen k d none = same_it side s x d k.0
  works side x (Count s) ds seen k d none = absurd (asks_none side s (subst (λ (a : ChannelAsk T Waiter). Drops side a) k.0 d))
  works side x (Load s m) ds seen k d none = absurd (unmade side s x m seen d k.0)
  works side x (Raise s n m) ds seen k d none = absurd (unmade side s x m seen d k.0)

  every : (side : Side) (c : Channel T Waiter) (x : ChannelAsk T Waiter) (at : Stage (Phase T) T Waiter) (ds : Deeds) (seen : Seen)
      → StageAt c x at ds seen → Drops side x → ds ≡ [] → is_lowering side at ≡ true
  every side c x (Trying f a) ds seen k d none = absurd (untried side x a f.ask ds seen d none k.0)
  every side c x (Working w) ds seen k d none = works side x w ds seen k d none
  every side c x (Finished kept) ds seen k d none = absurd k

  -- of each call of which so much is known
  pub by_drops : (side : Side) (c : Channel T Waiter) (us : List (ActiveCall T Waiter)) → AllKnown c us
      → All (λ (u : ActiveCall T Waiter). IsByDrops side u) us
  by_drops side c [] k = tt
  by_drops side c (u ∷ us) k =
      let own = k.0 in
      let at = own.stands in (
        record {
          lowers = lowers side c u.ask u.at u.marks u.seen at;
          all = every side c u.ask u.at u.marks u.seen at;
          closes = closes side c u.ask u.at u.marks u.seen at;
        },
        by_drops side c us k.1,
      )

-- ---- handles

same_kind : (side : Side) (k : HandleKind) → are_alike (strong_kind side) k ≡ is_strong side k
same_kind Senders Sender = refl
same_kind Receivers Sender = refl
same_kind side k = refl

same_there : (side : Side) (o : Option HandleEntry) → is_of (strong_kind side) (option_map (λ (h : HandleEntry). h.handle) o) ≡ strong_lives side o
same_there side None = refl
same_there side (Some h) = same_kind side h.handle.kind

one_more : {X : Type 0} (b c : Bool) (x : X) (xs : List X) → b ≡ c → length (cond b (x ∷ xs) xs) ≡ cond c 1 0 + length xs
one_more true true x xs e = omega arith
one_more false false x xs e = omega arith
one_more true false x xs e = cc e
one_more false true x xs e = cc e

same_live : (side : Side) (d : Directory HandleEntry)
    → live_of (strong_kind side) (map (λ (e : ℕ × Option HandleEntry). (e.0, option_map (λ (h : HandleEntry). h.handle) e.1)) d) ≡ live_on side d
same_live side [] = refl
same_live side (e ∷ d) =
    let rest = same_live side d in
    let kinds : List (ℕ × Option Handle) = map (λ (f : ℕ × Option HandleEntry). (f.0, option_map (λ (h : HandleEntry). h.handle) f.1)) d in
    let own = one_more (is_of (strong_kind side) (option_map (λ (h : HandleEntry). h.handle) e.1)) (strong_lives side e.1)
    (let x : ℕ × Option Handle = (e.0, option_map (λ (h : HandleEntry). h.handle) e.1) in x)
    (filter (λ (f : ℕ × Option Handle). is_of (strong_kind side) f.1) kinds) (same_there side e.1) in
    omega (arith, rest, own)

-- ---- calls under way

module _ {T : Type 0} where
  low_so : (side : Side) (f : Phase T) (s : Stage (QueueCall T) T Waiter) → is_lowering side (phase f s) ≡ is_lowering side s
  low_so side f (Working (Lower z key)) = refl
  low_so side f (Working w) = refl
  low_so side f (Trying q a) = refl
  low_so side f (Finished kept) = refl

  close_so : (side : Side) (f : Phase T) (s : Stage (QueueCall T) T Waiter) → is_closing side (phase f s) ≡ is_closing side s
  close_so side f (Trying q (Purpose.Close c)) = refl
  close_so side f (Trying q a) = refl
  close_so side f (Working w) = refl
  close_so side f (Finished kept) = refl

  same_tally : (p : Stage (Phase T) T Waiter → Bool) (q : Stage (QueueCall T) T Waiter → Bool)
      → ((f : Phase T) (s : Stage (QueueCall T) T Waiter) → p (phase f s) ≡ q s) → (xs : List (ActiveCallWitness T Waiter))
      → tally (λ (u : ActiveCall T Waiter). p u.at) (map active_call_of xs)
      ≡ tally (λ (x : Party T Waiter). q x.call.stage) (map (λ (x : ActiveCallWitness T Waiter). x.party) xs)
  same_tally p q same [] = refl
  same_tally p q same (x ∷ xs) =
      let rest = same_tally p q same xs in
      let own : cond (p (phase x.inner x.party.call.stage)) 1 0 ≡ cond (q x.party.call.stage) 1 0 =
      ap (λ (b : Bool). let n : ℕ = cond b 1 0 in n) (same x.inner x.party.call.stage) in
      omega (arith, rest, own)

  module _ (w : WorldState T) (s : Configuration T Waiter) (sh : Shown w s) where
    shown_tally : (p : Stage (Phase T) T Waiter → Bool) (q : Stage (QueueCall T) T Waiter → Bool)
        → ((f : Phase T) (z : Stage (QueueCall T) T Waiter) → p (phase f z) ≡ q z)
        → tally (λ (u : ActiveCall T Waiter). p u.at) s.under_way ≡ tally (λ (x : Party T Waiter). q x.call.stage) (parties_of w)
    shown_tally p q same =
        ap (λ (us : List (ActiveCall T Waiter)). tally (λ (u : ActiveCall T Waiter). p u.at) us) sh.shows.under_way
        ∙ (same_tally p q same sh.shows.witnesses
        ∙ ap (λ (ps : List (Party T Waiter)). tally (λ (x : Party T Waiter). q x.call.stage) ps) (sym sh.shows.parties_are))

    count_shown : (side : Side) → count side s.now.wait_lists ≡ count_in side (view_of w)
    count_shown side = ap (λ (c : Channel T Waiter). count side c.wait_lists) sh.shows.now

    closed_shown : s.now.queue.closed ≡ closed_in (parts_in w).cells
    closed_shown =
        let shown = shows (parts_in w).cells sh.shows.queue (all_seats sh.shows.witnesses) (_, sh.shows.fits) in
        ap (λ (c : Channel T Waiter). c.queue.closed) sh.shows.now ∙ sym shown.flag

  -- ---- a world

  module _ (w : WorldState T) (k : Stands w) where
    pub counts_live : CountsLive (view_of w)
    counts_live side =
        let c = (k.stands.kept.counted side).counts in
        let now = count_shown w k.configuration k.stands.shown side in
        let low = shown_tally w k.configuration k.stands.shown (λ at. is_lowering side at) (λ at. is_lowering side at) (low_so side) in
        let lives = same_live side w.name_table.handles in
        omega (arith, c, now, low, lives)

    pub open_has_both : OpenHasBoth (view_of w)
    open_has_both is_open side = by ((k.stands.kept.counted side).opened (closed_shown w k.configuration k.stands.shown ∙ is_open)) where
      by : (1 ≤ count side k.configuration.now.wait_lists) ⊎ (1 ≤ tally (λ (u : ActiveCall T Waiter). is_closing side u.at) k.configuration.under_way)
          → (1 ≤ count_in side (view_of w)) ⊎ (1 ≤ to_close side (view_of w))
      by (inl h) = let now = count_shown w k.configuration k.stands.shown side in inl (omega (arith, h, now))
      by (inr h) =
          let close = shown_tally w k.configuration k.stands.shown (λ at. is_closing side at) (λ at. is_closing side at) (close_so side) in
          inr (omega (arith, h, close))

    none_lowers : IsQuiet w → (side : Side) → to_lower side (view_of w) ≡ 0
    none_lowers quiet side = ap (λ (ps : List (Party T Waiter)). tally (λ (p : Party T Waiter). is_lowering side p.call.stage) ps) (no_parties w quiet)

    none_closes : IsQuiet w → (side : Side) → to_close side (view_of w) ≡ 0
    none_closes quiet side = ap (λ (ps : List (Party T Waiter)). tally (λ (p : Party T Waiter). is_closing side p.call.stage) ps) (no_parties w quiet)

    all_live : IsQuiet w → (side : Side) → count_in side (view_of w) ≡ live side (view_of w)
    all_live quiet side = let c = counts_live side in let none = none_lowers quiet side in omega (arith, c, none)

    has_one : IsQuiet w → closed_in (parts_in w).cells ≡ false → (side : Side) → 1 ≤ count_in side (view_of w)
    has_one quiet is_open side = by (open_has_both is_open side) where
      by : (1 ≤ count_in side (view_of w)) ⊎ (1 ≤ to_close side (view_of w)) → 1 ≤ count_in side (view_of w)
      by (inl h) = h
      by (inr h) = absurd (let none = none_closes quiet side in omega (arith, h, none))

    pub counts_at_rest : CountsAtRest (view_of w)
    counts_at_rest quiet = record {
      senders = all_live quiet Senders;
      receivers = all_live quiet Receivers;
      sending = λ is_open. has_one quiet is_open Senders;
      receiving = λ is_open. has_one quiet is_open Receivers;
    }

  pub are_by_drops : (w : WorldState T) → AreByDrops (view_of w)
  are_by_drops w s k side = by_drops T side s.now s.under_way (let streams = k.kept.sound.streams in streams.known)
