-- On a list that is told one at a time, a step on lists pays: as many more are told as the call counts for less.
use Rattle.std.proofs.Common.{◌≡◌, ℕ, ◌+◌, ◌≤◌, false, Option, None, ◌⊎◌, ⊎_elim, inl, inr, refl, arith, List, length}
use Rattle.channel_steps.proofs.every_run.Words.{Phase, Key, Channel, Effect, Worked, line_of, again, ChannelAsk, Reply, WaitList, Stage, Working, Waiting, ListStep, Register, IsFor, WorkAt, MarkedMoment, Next, Configuration, Entry, Step, HoldsListener, AreOwed, LooksAgain, IsOneByOne, AnyTold, told_of, TellingsSound, Waits}
use Rattle.channel_steps.proofs.every_run.AnyFacts.{any_weaker}
use Rattle.channel_steps.proofs.every_run.HandMoves.{HasCause, looks_holds, holds_on, newcomer_holds}
use Rattle.channel_steps.proofs.every_run.NumberMoves.{weigh_turn, turned_weighs}
use Rattle.channel_steps.proofs.every_run.Owed.{Pays, OfStep, Ledger, owed_next}
use Rattle.channel_steps.proofs.every_run.ToldMoves.{tells_now, AsksAnew, worked_counts}
use Rattle.channel_steps.proofs.every_run.TotalFacts.{left_over}

module _ {T W : Type 0} (line : WaitList) (one : IsOneByOne line) (Enough : Channel T W → ℕ → Type 0) (weigh : ChannelAsk T W → Stage (Phase T) T W → ℕ) where
  -- one of the list was told by the default
  abbrev pub OneByDefault : Channel T W → Type 0
  OneByDefault c = AnyTold false (told_of line c)

  abbrev pub PaysOne : Channel T W → ChannelAsk T W → Stage (Phase T) T W → Effect T W → Option (Reply T) → Stage (Phase T) T W → Type 0
  PaysOne c x at e r s = Pays line Enough weigh (HoldsListener line) OneByDefault c x at e r s

  -- what has to hold of what calls count for, and of what is enough
  pub record Counting : Type 0 where
    pub tells : (x : ChannelAsk T W) (w : ListStep T W) → weigh x (Working w) ≤ tells_now w line
    pub asks : (x : ChannelAsk T W) (v : Waiting T) (task : W) → IsFor x v → line ≡ line_of v → weigh_turn weigh x (again v None task) ≡ 1
    pub caused : (c : Channel T W) (n : ℕ) → HasCause line c.queue → Enough c n
    -- where the queue is the same, and no fewer are told and to be told
    pub eased : (c d : Channel T W) (m n : ℕ) → d.queue ≡ c.queue → length (told_of line c) + m ≤ length (told_of line d) + n → Enough c m → Enough d n

  module _ (counting : Counting) where
    asks_anew : (x : ChannelAsk T W) (w : ListStep T W) (ds : List (MarkedMoment T W)) (seen : List (Channel T W)) (r : Option (Reply T)) (s : Stage (Phase T) T W)
        → WorkAt x w ds seen → AsksAnew line w r s → (left_over weigh x r s ≡ 1) × (tells_now w line ≡ 0)
    asks_anew x (Register v key task) ds seen r s h k = (
      (let turned = turned_weighs weigh x (again v None task) r s k.1 in let asks = counting.asks x v task h.0 k.0 in omega (arith, turned, asks)),
      refl,
    )
    asks_anew x w ds seen r s h k = absurd k

    pub worked_pays : (c : Channel T W) (x : ChannelAsk T W) (w : ListStep T W) (ds : List (MarkedMoment T W)) (seen : List (Channel T W)) (e : Effect T W) (r : Option (Reply T)) (s : Stage (Phase T) T W) (key : Key)
        → e.channel.queue ≡ c.queue → WorkAt x w ds seen → Worked c w e r s → Waits line key e.channel → PaysOne c x (Working w) e r s ⊎ OneByDefault c
    worked_pays c x w ds seen e r s key same h g waits = by (worked_counts key r s line c w e g waits)
      where
        less : weigh x (Working w) ≤ tells_now w line
        less = counting.tells x w

        by : (length (told_of line c) + tells_now w line ≤ length (told_of line e.channel))
            ⊎ ((AsksAnew line w r s × (length (told_of line c) ≤ length (told_of line e.channel) + 1)) ⊎ OneByDefault c)
            → PaysOne c x (Working w) e r s ⊎ OneByDefault c
        by (inl k) = inl (λ n enough. counting.eased c e.channel (weigh x (Working w) + n) (left_over weigh x r s + n) same (omega (arith, less, k)) enough)
        by (inr (inl (anew, k))) =
            let tries = asks_anew x w ds seen r s h anew in
            let more = tries.0 in
            let none = tries.1 in
            inl (λ n enough. counting.eased c e.channel (weigh x (Working w) + n) (left_over weigh x r s + n) same (omega (arith, less, k, more, none)) enough)
        by (inr (inr d)) = inr d

    -- with its payments, the ledger of such a list
    pub ledger_of : OfStep line Enough weigh (HoldsListener line) OneByDefault (λ c x at e r s key. PaysOne c x at e r s ⊎ OneByDefault c) → Ledger line Enough weigh (HoldsListener line) OneByDefault
    ledger_of pays =
        record {
          more = λ c m n less h. counting.eased c c m n refl (omega (arith, less)) h;
          comes = λ c e r s key h. newcomer_holds c e r s line key h;
          keeps = λ c x at ds seen e r s key st g w apart h.
              ⊎_elim (λ k. inl k) (λ k. inr (λ n. counting.caused e.channel (left_over weigh x r s + n) k))
              (holds_on line key one c x ds seen e r s at st g h apart w);
          pays = pays;
        }

  -- one entry of a run: where one was told by the default, each that waits is in hand
  pub one_next : Ledger line Enough weigh (HoldsListener line) OneByDefault → (s : Configuration T W) (x : Step T W) (e : Entry T) (names : List W) (t : Configuration T W) → Next s x e names t → TellingsSound s
      → AreOwed line Enough weigh (HoldsListener line) s → AreOwed line Enough weigh (HoldsListener line) t
  one_next ledger s x e names t n sound owed =
      owed_next line Enough weigh (HoldsListener line) OneByDefault ledger s x e names t n sound.known (sound.apart line)
      (λ d key w. let k = sound.fit.by_default line one d in
      any_weaker (λ u. LooksAgain line key u.at) (λ u. HoldsListener line key u.at) (λ u. looks_holds line key u.at) s.under_way (k.1 key w))
      owed
