-- How those that were told were told, over runs.
use Rattle.std.proofs.Common.{◌≡◌, ℕ, Bool, true, false, List, Option, ◌⊎◌, ⊎_elim, inl, inr, refl, sym, ◌∙◌, subst}
use Rattle.channel_steps.proofs.every_run.Words.{Phase, Key, Channel, Effect, tells_all, Moves, ChannelAsk, Reply, WaitList, Sends, Receives, Streams, Stage, Working, TellReceive, TellStreams, TellSend, TellSends, TellAll, ToldAt, MarkedMoment, Open, Shut, Configuration, Steps, Known, Telling, Next, Begins, new_configuration, Entry, Step, HasClosed, LooksAgain, MayBeTold, IsOneByOne, EachTold, AnyTold, told_of, TellingsSound, TellingsStayFit, TellingsAlwaysFit, Waits, Any}
use Rattle.channel_steps.specs.declared.run.Step.TheVariants as step
use Rattle.channel_steps.proofs.Interface.{known_next}
use Rattle.channel_steps.specs.every_run.Ends.{Each}
use Rattle.channel_steps.proofs.every_run.AnyFacts.{any_mine, any_steps, any_begins}
use Rattle.channel_steps.proofs.every_run.Closed.{shut_does}
use Rattle.channel_steps.proofs.every_run.Closings.{new_apart}
use Rattle.channel_steps.proofs.every_run.ClosingMoves.{StillLooks, looks_goes, newcomer_looks, nobody_left}
use Rattle.channel_steps.proofs.every_run.EachFacts.{of_mine, each_known, each_steps, each_begins}
use Rattle.channel_steps.proofs.every_run.ListMoves.{moved_lists, waited, apart_next}
use Rattle.channel_steps.proofs.every_run.NoticeMoves.{teller_has_closed, closed_before, close_shuts}
use Rattle.channel_steps.proofs.every_run.RunFacts.{kept_long}
use Rattle.channel_steps.proofs.every_run.ToldFacts.{each_as, any_as}
use Rattle.channel_steps.proofs.every_run.ToldMoves.{Tells, moved_told}

open_as : (b b' : Bool) → (b ≡ true → b' ≡ true) → b' ≡ false → b ≡ false
open_as true b' f e = absurd (let never : true ≡ false = sym (f refl) ∙ e in cc)
open_as false b' f e = refl

at_line : (P : WaitList → Type 0) (line at : WaitList) → line ≡ at → P at → P line
at_line P line at e h = subst P (sym e) h

module _ {T W : Type 0} where
  -- a telling of an open channel is as it may be, and else the call has closed the channel
  tells_as : (line : WaitList) (b : Bool) (told : List Telling) (at : Stage (Phase T) T W) (ds : List (MarkedMoment T W))
      → ToldAt told at ds → Tells line b at → MayBeTold line b ⊎ HasClosed ds
  tells_as line b told (Working (TellReceive x)) ds k h = inl (at_line (λ (z : WaitList). MayBeTold z b) line Receives h.0 (sym h.1))
  tells_as line b told (Working (TellStreams x)) ds k h = inl (at_line (λ (z : WaitList). MayBeTold z b) line Streams h.0 (sym h.1))
  tells_as line b told (Working (TellSend x)) ds k h = inl (at_line (λ (z : WaitList). MayBeTold z b) line Sends h.0 (sym h.1))
  tells_as line b told (Working (TellSends n x)) ds k h = inl (at_line (λ (z : WaitList). MayBeTold z b) line Sends h.0 (sym h.1))
  tells_as line b told (Working (TellAll at closer)) ds k h = inr (teller_has_closed told at closer ds k)
  tells_as line b told at ds k h = absurd h

  -- one that tells a send or a receive by the default tells all of its list, and has closed the channel
  by_default_as : (line : WaitList) (one : IsOneByOne line) (told : List Telling) (c : Channel T W) (at : Stage (Phase T) T W)
      (e : Effect T W) (r : Option (Reply T)) (s : Stage (Phase T) T W) (ds : List (MarkedMoment T W))
      → ToldAt told at ds → Moves c at e r s → Tells line false at → HasClosed ds × ((key : Key) → Waits line key e.channel → ⊥)
  by_default_as line one told c (Working (TellReceive x)) e r s ds k g h = absurd (let never : true ≡ false = h.1 in cc)
  by_default_as line one told c (Working (TellStreams x)) e r s ds k g h = absurd (subst IsOneByOne h.0 one)
  by_default_as line one told c (Working (TellSend x)) e r s ds k g h = absurd (let never : true ≡ false = h.1 in cc)
  by_default_as line one told c (Working (TellSends n x)) e r s ds k g h = absurd (let never : true ≡ false = h.1 in cc)
  by_default_as line one told c (Working (TellAll at closer)) e r s ds k g h = (
    teller_has_closed told at closer ds k,
    λ key w. nobody_left at key c
        (subst (λ (z : WaitList). Waits z key (let e : Effect T W = tells_all at c in e.channel)) h.0
        (subst (λ (z : Effect T W). Waits line key z.channel) g.0 w)),
  )
  by_default_as line one told c at e r s ds k g h = absurd h

  -- ---- one step

  module _ (s t : Configuration T W) (p : ℕ) (e : Entry T) (names : List W) (st : Steps s p e names t) (sound : TellingsSound s) where
    abbrev effect : Effect T W
    effect = record { channel = t.now; mark = e.mark; woken = names }

    mine_known : Known s.now st.mine
    mine_known = of_mine (Known s.now) s t p e names st (each_known s.now s.under_way sound.known)

    shut_on : Shut s.now → Shut t.now
    shut_on shut = let k = shut_does s.now st.mine.at effect e.reply st.at_now shut st.moves in k.0.0

    mine_closed : HasClosed st.mine.marks → Shut t.now
    mine_closed h = shut_on (of_mine (λ u. HasClosed u.marks → Shut s.now) s t p e names st sound.closers h)

    closers_after : Each (λ u. HasClosed u.marks → Shut t.now) t.under_way
    closers_after =
        each_steps (λ u. HasClosed u.marks → Shut s.now) (λ u. HasClosed u.marks → Shut t.now) s t p e names st
        (λ u f h. shut_on (f h)) (λ f h. ⊎_elim (λ k. mine_closed k) (λ k. close_shuts s.now st.mine.at effect e.reply st.at_now st.moves k)
        (closed_before st.mine.marks e.mark s.now st.mine.seen h)) sound.closers

    module _ (line : WaitList) where
      open_after : Open t.now → EachTold (MayBeTold line) (told_of line t.now)
      open_after now =
          each_as (MayBeTold line) (told_of line t.now)
          (λ b h. ⊎_elim (λ k. any_as (MayBeTold line) (told_of line s.now) (sound.fit.while_open line (open_as s.now.queue.closed t.now.queue.closed shut_on now)) b k)
          (λ k. let mine = mine_known in
          ⊎_elim (λ n. n) (λ n. absurd (let never : true ≡ false = sym (mine_closed n) ∙ now in cc))
          (tells_as line b st.mine.told st.mine.at st.mine.marks mine.tells k))
          (moved_told line b s.now st.mine.at effect e.reply st.at_now st.moves h))

      module _ (key : Key) (w : Waits line key t.now) (shut : Shut s.now) where
        abbrev Looked : Type 0
        Looked = Any (λ u. LooksAgain line key u.at) t.under_way

        goes_on : StillLooks line key e.reply st.at_now → Looked
        goes_on h = any_mine (λ u. LooksAgain line key u.at) s t p e names st (λ u h. h) h.0 h.1

        looked : ((key : Key) → Waits line key s.now → Any (λ u. LooksAgain line key u.at) s.under_way) → Looked
        looked before =
            ⊎_elim
            (λ h. ⊎_elim (λ k. k)
            (λ k. let mine = mine_known in
            goes_on (looks_goes s.now st.mine.ask st.mine.at st.mine.marks st.mine.seen effect e.reply st.at_now line key
            mine.stands st.moves shut k (sound.apart line) w))
            (any_steps (λ u. LooksAgain line key u.at) s t p e names st (λ u h. h) (before key h)))
            (λ h. goes_on (newcomer_looks s.now effect e.reply st.at_now line key h))
            (waited line s.now effect e.reply st.at_now key
            (moved_lists line s.now st.mine.at effect e.reply st.at_now st.moves) w)

      abbrev ClosedThen : Configuration T W → Type 0
      ClosedThen z = Shut z.now × ((key : Key) → Waits line key z.now → Any (λ u. LooksAgain line key u.at) z.under_way)

      default_after : IsOneByOne line → AnyTold false (told_of line t.now) → ClosedThen t
      default_after one h =
          ⊎_elim
          (λ d. let k = sound.fit.by_default line one d in (shut_on k.0, λ key w. looked key w k.0 k.1))
          (λ d. let k = mine_known in
          let all = by_default_as line one st.mine.told s.now st.mine.at effect e.reply st.at_now st.mine.marks k.tells st.moves d in
          (mine_closed all.0, λ key w. absurd (all.1 key w)))
          (moved_told line false s.now st.mine.at effect e.reply st.at_now st.moves h)

  -- ---- a call that begins

  module _ (s t : Configuration T W) (p : ℕ) (ask : ChannelAsk T W) (e : Entry T) (b : Begins s p ask e t) (sound : TellingsSound s) where
    begun_default : (line : WaitList) → IsOneByOne line → AnyTold false (told_of line t.now)
        → Shut t.now × ((key : Key) → Waits line key t.now → Any (λ u. LooksAgain line key u.at) t.under_way)
    begun_default line one h =
        let k = sound.fit.by_default line one (subst (λ (c : Channel T W). AnyTold false (told_of line c)) b.now h) in (
          subst (λ (c : Channel T W). Shut c) (sym b.now) k.0,
          λ key w. any_begins (λ u. LooksAgain line key u.at) s t p ask e b
              (k.1 key (subst (λ (c : Channel T W). Waits line key c) b.now w)),
        )

    begun_open : (line : WaitList) → Open t.now → EachTold (MayBeTold line) (told_of line t.now)
    begun_open line now =
        subst (λ (c : Channel T W). EachTold (MayBeTold line) (told_of line c)) (sym b.now)
        (sound.fit.while_open line (subst (λ (c : Channel T W). Open c) b.now now))

    begun_closers : Each (λ u. HasClosed u.marks → Shut t.now) t.under_way
    begun_closers =
        each_begins (λ u. HasClosed u.marks → Shut s.now) (λ u. HasClosed u.marks → Shut t.now) s t p ask e b
        (λ u f h. subst (λ (c : Channel T W). Shut c) (sym b.now) (f h)) (λ h. absurd h) sound.closers

  pub tellings_next : (s : Configuration T W) (x : Step T W) (e : Entry T) (names : List W) (t : Configuration T W) → Next s x e names t
      → TellingsSound s → TellingsSound t
  tellings_next s (step.Begin p ask) e names t n sound =
      let k = known_next s (step.Begin p ask) e names t n sound.known sound.balanced in
      let b = n.0 in
      record {
        known = k.0;
        balanced = k.1;
        apart = λ line. apart_next line s (step.Begin p ask) e names t n (sound.apart line);
        closers = begun_closers s t p ask e b sound;
        fit = record { while_open = begun_open s t p ask e b sound; by_default = begun_default s t p ask e b sound };
      }
  tellings_next s (step.Step p) e names t n sound =
      let k = known_next s (step.Step p) e names t n sound.known sound.balanced in
      record {
        known = k.0;
        balanced = k.1;
        apart = λ line. apart_next line s (step.Step p) e names t n (sound.apart line);
        closers = closers_after s t p e names n sound;
        fit = record { while_open = open_after s t p e names n sound; by_default = default_after s t p e names n sound };
      }

-- ---- a channel that was just opened

module _ (T W : Type 0) where
  new_open : (cap : Option ℕ) (line : WaitList)
      → EachTold (MayBeTold line) (told_of line (let s : Configuration T W = new_configuration cap in s.now))
  new_open cap Sends = tt
  new_open cap line = tt

  new_default : (cap : Option ℕ) (line : WaitList) → AnyTold false (told_of line (let s : Configuration T W = new_configuration cap in s.now)) → ⊥
  new_default cap Sends h = h
  new_default cap line h = h

module _ {T W : Type 0} where
  pub tellings_new : (cap : Option ℕ) → TellingsSound (new_configuration {T = T} {W = W} cap)
  tellings_new cap =
      record {
        known = tt;
        balanced = refl;
        apart = new_apart T W cap;
        closers = tt;
        fit =
            record {
              while_open = λ line now. new_open T W cap line;
              by_default = λ line one h. absurd
                  (new_default T W cap line h);
            };
      }

module _ (T W : Type 0) where
  pub tellings_stay_fit : TellingsStayFit T W
  tellings_stay_fit s t steps trace h run = kept_long TellingsSound tellings_next s t steps trace h run

  pub tellings_always_fit : TellingsAlwaysFit T W
  tellings_always_fit cap t steps trace run = let h = tellings_stay_fit (new_configuration cap) t steps trace (tellings_new cap) run in h.fit
