-- No call under way has more than `most_left` steps left where the others are quiet.
use Rattle.std.proofs.Common.{arith, ◌≡◌, ◌≤◌, ℕ, zero, suc, List, [], ◌∷◌, ◌++◌, map, slice_get, Some, sym, subst, append_assoc}
use Rattle.channel_steps.proofs.Words.{Queue, ActiveQueueCall, Fits, Parts, Phase, QueueAsk, QueueCall, Channel, phase, ChannelAsk, Purpose, Stage, Trying, Working, Finished, ListStep, TakeRoom, party_left, all_left, most_left, most_wanted, MarkedMoment, TriesFor, WorkAt, StageAt, ActiveCall, Configuration, ActiveCallWitness, active_call_of, seats_of, all_seats, AllKnown, wanted_at, Represents, Party}
use Rattle.channel_steps.proofs.LeftFacts.{wanted_after, wanted_by, wanted}
use Rattle.concurrent_queue.specs.declared.call.QueueAsk.TheVariants as ask
use Rattle.channel_calls.specs.declared.ask.ChannelAsk.TheVariants as channel
use Rattle.channel_calls.specs.declared.stage.Purpose.TheVariants as purpose
use Rattle.channel_steps.proofs.LeftFacts as left_facts

module _ {T W : Type 0} where
  -- no more messages are wanted than the call asked for
  aimed : (x : ChannelAsk T W) (y : Purpose T W) (a : QueueAsk T) (ds : List (MarkedMoment T W)) (seen : List (Channel T W)) → TriesFor x y a ds seen → wanted_after y ≤ most_wanted x
  aimed (channel.RecvMany n) (purpose.RecvMany g) ask.Pop ds seen h = omega (arith, h)
  aimed x (purpose.RecvMany g) a ds seen h = absurd h
  aimed x y a ds seen h = omega arith

  worked : (x : ChannelAsk T W) (w : ListStep T W) (ds : List (MarkedMoment T W)) (seen : List (Channel T W)) → WorkAt x w ds seen → wanted_by w ≤ most_wanted x
  worked x (TakeRoom n) ds seen h = subst (λ (z : ChannelAsk T W). n ≤ most_wanted z) (sym h.0) (omega arith)
  worked x w ds seen h = omega arith

  wants : (now : Channel T W) (x : ChannelAsk T W) (f : Phase T) (s : Stage (QueueCall T) T W) (ds : List (MarkedMoment T W)) (seen : List (Channel T W)) → StageAt now x (phase f s) ds seen → wanted s ≤ most_wanted x
  wants now x f (Trying call y) ds seen h = aimed x y f.ask ds seen h.0
  wants now x f (Working w) ds seen h = worked x w ds seen h
  wants now x f (Finished kept) ds seen h = absurd h

module _ {T W : Type 0} (parts : Parts T W) (q : Queue T) (now : Channel T W) where
  few_behind : (l : List (ActiveQueueCall T)) (xs : List (ActiveCallWitness T W)) → Fits parts.cells q (l ++ all_seats xs)
      → AllKnown now (map active_call_of xs) → (k n : ℕ) → slice_get (map (party_left parts) (map (λ (x : ActiveCallWitness T W). x.party) xs)) k ≡ Some n → n ≤ most_left (wanted_at k (map active_call_of xs))
  few_behind l [] fits known k n there = absurd cc
  few_behind l (x ∷ xs) fits known zero n there =
      let first : party_left parts x.party ≡ n = cc there in
      let few = left_facts.few_left parts.cells parts.wait_lists q x.inner x.party.call.stage l (all_seats xs) fits in
      let k = known.0 in
      let w = wants now x.ask x.inner x.party.call.stage x.marks x.seen k.stands in
      omega (arith, first, few, w)
  few_behind l (x ∷ xs) fits known (suc k) n there =
      few_behind (l ++ seats_of x) xs (subst (λ (ss : List (ActiveQueueCall T)). Fits parts.cells q ss) (sym (append_assoc l (seats_of x) (all_seats xs))) fits) known.1 k n there

module _ {T W : Type 0} where
  pub few_left : (parts : Parts T W) (parties : List (Party T W)) (s : Configuration T W) → Represents parts parties s
      → (k n : ℕ) → slice_get (all_left parts parties) k ≡ Some n → n ≤ most_left (wanted_at k s.under_way)
  few_left parts parties s sh k n there =
      subst (λ (us : List (ActiveCall T W)). n ≤ most_left (wanted_at k us)) (sym sh.under_way)
      (few_behind parts sh.queue s.now [] sh.witnesses (s.blocks, sh.fits) (subst (λ (us : List (ActiveCall T W)). AllKnown s.now us) sh.under_way sh.known) k n
      (subst (λ (ps : List (Party T W)). slice_get (all_left parts ps) k ≡ Some n) sh.parties_are there))
