-- Beginning a call, and how far the positions last.
use Rattle.std.proofs.Common.{◌≡◌, ℕ, suc, List, [], ◌∷◌, ◌++◌, Option, None, refl, sym, ap, ◌∙◌, subst, append-nil, arith}
use Rattle.channel_steps.proofs.Words.{Queue, Phase, asked, ActiveQueueCall, QueueCall, Parts, first, Channel, seats, phase, Turned, IsTaken, ChannelAsk, ChannelCall, Reply, Stage, NextStep, Tries, Works, Ends, IsNewCall, Party, Entry, Step, ActiveCall, Configuration, ActiveCallWitness, active_call_of, all_seats, HasBegun, Next, HasRange}
use Rattle.concurrent_queue.specs.Step.{FitsAt}
use Rattle.channel_calls.specs.declared.mark.Mark.TheVariants.{Nothing}
use Rattle.channel_steps.specs.declared.run.Step.TheVariants as step
use Rattle.channel_steps.proofs.MoveFacts.{range_grows}
use Rattle.channel_steps.proofs.QueueFacts.{grows}
use Rattle.channel_steps.proofs.OwnFacts.{begins_known}
use Rattle.channel_steps.proofs.ConfigurationFacts.{map-round, seats_append, party_of, known_both}

module _ {T W : Type 0} where
  -- a new call has its first turn taken, and its call of the queue comes in beside all others
  pub record Came (turn : NextStep T W) (blocks : List ℕ) (parts : Parts T W) (q : Queue T) (others : List (ActiveQueueCall T)) (s : Stage (QueueCall T) T W) (r : Option (Reply T)) : Type 0 where
    pub inner : Phase T
    pub turned : Turned turn r (phase inner s)
    pub fits : FitsAt blocks parts.cells q (others ++ (seats inner s ++ []))

  module _ (blocks : List ℕ) (parts : Parts T W) (q : Queue T) (others : List (ActiveQueueCall T)) (fits : FitsAt blocks parts.cells q others) (any : Phase T) where
    round : FitsAt blocks parts.cells q (others ++ [])
    round = subst (λ (ss : List (ActiveQueueCall T)). FitsAt blocks parts.cells q ss) (sym (append-nil others)) fits

    pub came : (turn : NextStep T W) (s : Stage (QueueCall T) T W) (r : Option (Reply T)) → IsTaken turn r s → Came turn blocks parts q others s r
    came (Tries x purpose) s r (call, starts, none, e) =
        record {
          inner = asked x;
          turned = (none, ap (λ (z : Stage (QueueCall T) T W). phase (asked x) z) e);
          fits = subst (λ (z : Stage (QueueCall T) T W). FitsAt blocks parts.cells q (others ++ (seats (asked x) z ++ []))) (sym e) (starts blocks parts.cells q others [] round);
        }
    came (Works w) s r (none, e) =
        record {
          inner = any;
          turned = (none, ap (λ (z : Stage (QueueCall T) T W). phase any z) e);
          fits = subst (λ (z : Stage (QueueCall T) T W). FitsAt blocks parts.cells q (others ++ (seats any z ++ []))) (sym e) round;
        }
    came (Ends x kept) s r (some, e) =
        record {
          inner = any;
          turned = (some, ap (λ (z : Stage (QueueCall T) T W). phase any z) e);
          fits = subst (λ (z : Stage (QueueCall T) T W). FitsAt blocks parts.cells q (others ++ (seats any z ++ []))) (sym e) round;
        }

  module _ (any : Phase T) where
    pub begun : (p : ℕ) (ask : ChannelAsk T W) (call : ChannelCall T W) (parties : List (Party T W)) (e : Entry T) (parties' : List (Party T W))
        → IsNewCall call (first ask) → parties' ≡ parties ++ record { id = p; call = call } ∷ [] → e ≡ record { mark = Nothing; reply = None; kept = None }
        → HasBegun p ask parties e parties'
    begun p ask call parties e parties' new left entry parts s sh =
        let k = came s.blocks parts sh.queue (all_seats sh.witnesses) sh.fits any (first ask) call.stage new.0 new.1 in
        let mine : ActiveCallWitness T W = record { party = record { id = p; call = call }; inner = k.inner; ask = ask; seen = s.now ∷ []; marks = []; told = []; made = 0 } in
        let all : List (ActiveCallWitness T W) = sh.witnesses ++ (mine ∷ []) in
        let seats_are : all_seats all ≡ all_seats sh.witnesses ++ (seats k.inner call.stage ++ []) = seats_append sh.witnesses (mine ∷ []) in
        let fits : FitsAt s.blocks parts.cells sh.queue (all_seats all) = subst (λ (ss : List (ActiveQueueCall T)). FitsAt s.blocks parts.cells sh.queue ss) (sym seats_are) k.fits in
        let t : Configuration T W = record { now = s.now; blocks = s.blocks; under_way = s.under_way ++ (active_call_of mine ∷ []); gone = s.gone; came = s.came } in
        record {
          after = t;
          begins = record { entry = entry; at = phase k.inner call.stage; answer = new.0; turned = k.turned; now = refl; blocks = refl; under_way = refl; gone = refl; came = refl };
          shown = record {
            witnesses = all;
            queue = sh.queue;
            parties_are = left ∙ (ap (λ (zs : List (Party T W)). zs ++ (mine.party ∷ [])) sh.parties_are ∙ sym (map-round party_of sh.witnesses (mine ∷ [])));
            under_way = ap (λ (zs : List (ActiveCall T W)). zs ++ (active_call_of mine ∷ [])) sh.under_way ∙ sym (map-round active_call_of sh.witnesses (mine ∷ []));
            now = sh.now;
            fits = fits;
            bare = sh.bare;
            known = known_both s.now s.under_way (active_call_of mine ∷ []) sh.known (begins_known s.now p ask new.0 (phase k.inner call.stage) k.turned, tt);
            balanced = sh.balanced;
          };
        }

  -- so many positions fewer are left after a step
  pub next_range : (n : ℕ) (s : Configuration T W) (x : Step T W) (e : Entry T) (names : List W) (t : Configuration T W) → Next s x e names t → HasRange (suc n) s.now.queue → HasRange n t.now.queue
  next_range n s (step.Begin p ask) e names t next h =
      let same : t.now.queue ≡ s.now.queue = ap (λ (c : Channel T W). c.queue) next.0.now in
      let a : t.now.queue.accepted ≡ s.now.queue.accepted = ap (λ (q : Queue T). q.accepted) same in
      range_grows n s.now.queue t.now.queue (ap (λ (q : Queue T). q.capacity) same) (omega arith) h
  next_range n s (step.Step p) e names t next h =
      let g = grows s.now next.mine.at (record { channel = t.now; mark = e.mark; woken = names }) e.reply next.at_now next.moves in
      range_grows n s.now.queue t.now.queue g.0 g.1 h
