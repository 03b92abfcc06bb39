-- Calls without a mark are quiet to the calls of the queue.
use Rattle.std.proofs.Common.{⊎_elim, arith, ◌≡◌, ◌<◌, ◌≤◌, ℕ, List, [], ◌∷◌, ◌++◌, map, None, Some, ◌⊎◌, inl, inr, refl, sym, ap, ◌∙◌, subst}
use Rattle.channel_steps.proofs.Words.{Phase, trying, displaced, appended, taken, read, measured, ActiveQueueCall, PhasesQuiet, phases, QueueAsk, QueueCall, Channel, phase, seats, ChannelAsk, Stage, Trying, Working, Finished, Purpose, IsQuiet, AllQuiet, TryAt, TriesAt, StageAt, MarkedMoment, ActiveCall, Configuration, Steps, ActiveCallWitness, sees, active_call_of, seats_of, all_seats, AllKnown, AreIdle, OthersQuiet, Entry}
use Rattle.concurrent_queue.specs.Queue as queue
use Rattle.concurrent_queue.specs.declared.call.QueueAsk.TheVariants as ask
use Rattle.channel_calls.specs.declared.stage.Purpose.TheVariants as purpose
use Rattle.channel_steps.proofs.QueueFacts.{grows}

quiet_append : {T : Type 0} → (xs ys : List (ActiveQueueCall T)) → AllQuiet (phases xs) → AllQuiet (phases ys) → AllQuiet (phases (xs ++ ys))
quiet_append [] ys h k = k
quiet_append (x ∷ xs) ys h k = (h.0, quiet_append xs ys h.1 k)

module _ {T W : Type 0} where
  idle_try : (now : Channel T W) (a : QueueAsk T) (s : queue.Stage T) (seen : List (Channel T W)) → TryAt now a s [] seen → IsQuiet s
  idle_try now a (trying b) seen h = tt
  idle_try now a (read n) seen h = tt
  idle_try now a (measured n k) seen h = tt
  idle_try now (ask.Push v) (appended None) seen h = absurd h
  idle_try now (ask.ForcePush v) (displaced d) seen h = absurd h
  idle_try now (ask.ForcePush v) (appended None) seen h = absurd h
  idle_try now (ask.ForcePush v) (appended (Some d)) seen (inl h) = absurd h
  idle_try now (ask.ForcePush v) (appended (Some d)) seen (inr h) = absurd h
  idle_try now ask.Pop (taken v) seen h = absurd h
  idle_try now a s seen h = absurd h

  none_mine : (before mine : List (MarkedMoment T W)) → [] ≡ before ++ mine → mine ≡ []
  none_mine [] mine e = sym e
  none_mine (d ∷ before) mine e = absurd cc

  idle_at : (now : Channel T W) (y : Purpose T W) (a : QueueAsk T) (s : queue.Stage T) (seen : List (Channel T W)) → TriesAt now y a s [] seen → IsQuiet s
  idle_at now (purpose.RecvMany r) a s seen h =
      idle_try now a s seen (subst (λ (ds : List (MarkedMoment T W)). TryAt now a s ds seen) (none_mine h.1.before h.0 h.1.all) h.2)
  idle_at now y a s seen h = idle_try now a s seen h

  idle_stage : (now : Channel T W) (x : ChannelAsk T W) (f : Phase T) (s : Stage (QueueCall T) T W) (seen : List (Channel T W))
      → StageAt now x (phase f s) [] seen → AllQuiet (phases (seats f s))
  idle_stage now x f (Trying call y) seen h = (idle_at now y f.ask f.stage seen h.1, tt)
  idle_stage now x f (Working w) seen h = tt
  idle_stage now x f (Finished kept) seen h = tt

  pub idle_seats : (now : Channel T W) (xs : List (ActiveCallWitness T W)) → AllKnown now (map active_call_of xs) → AreIdle (map active_call_of xs)
      → AllQuiet (phases (all_seats xs))
  idle_seats now [] known idle = tt
  idle_seats now (x ∷ xs) known idle =
      let k = known.0 in
      let stands = subst (λ (ds : List (MarkedMoment T W)). StageAt now x.ask (phase x.inner x.party.call.stage) ds x.seen) idle.0 k.stands in
      quiet_append (seats_of x) (all_seats xs) (idle_stage now x.ask x.inner x.party.call.stage x.seen stands) (idle_seats now xs known.1 idle.1)

  none_seats : (xs : List (ActiveCallWitness T W)) → map active_call_of xs ≡ [] → all_seats xs ≡ []
  none_seats [] e = refl
  none_seats (x ∷ xs) e = absurd cc

  -- calls without a mark are quiet calls of the queue
  pub idle_holds : (now : Channel T W) (xs : List (ActiveCallWitness T W)) → AllKnown now (map active_call_of xs) → OthersQuiet now (map active_call_of xs)
      → PhasesQuiet now.queue (phases (all_seats xs))
  idle_holds now xs known (idle, first) =
      (idle_seats now xs known idle, λ bare. ⊎_elim (λ some. inl some) (λ none. inr (ap phases (none_seats xs none))) (first bare))

  -- ---- they are still quiet after its step

  idle_seen : (c : Channel T W) (us : List (ActiveCall T W)) → AreIdle us → AreIdle (map (sees c) us)
  idle_seen c [] h = tt
  idle_seen c (u ∷ us) h = (h.0, idle_seen c us h.1)

  idle_left : (us vs : List (ActiveCall T W)) → AreIdle (us ++ vs) → AreIdle us
  idle_left [] vs h = tt
  idle_left (u ∷ us) vs h = (h.0, idle_left us vs h.1)

  idle_right : (us vs : List (ActiveCall T W)) → AreIdle (us ++ vs) → AreIdle vs
  idle_right [] vs h = h
  idle_right (u ∷ us) vs h = idle_right us vs h.1

  idle_both : (us vs : List (ActiveCall T W)) → AreIdle us → AreIdle vs → AreIdle (us ++ vs)
  idle_both [] vs h k = k
  idle_both (u ∷ us) vs h k = (h.0, idle_both us vs h.1 k)

  pub hold_still : (s : Configuration T W) (p : ℕ) (e : Entry T) (names : List W) (t : Configuration T W) (n : Steps s p e names t)
      → OthersQuiet s.now (n.before ++ n.behind) → OthersQuiet t.now (map (sees t.now) n.before ++ map (sees t.now) n.behind)
  hold_still s p e names t n (idle, first) =
      let g = grows s.now n.mine.at (record { channel = t.now; mark = e.mark; woken = names }) e.reply n.at_now n.moves in (
        idle_both (map (sees t.now) n.before) (map (sees t.now) n.behind) (idle_seen t.now n.before (idle_left n.before n.behind idle))
            (idle_seen t.now n.behind (idle_right n.before n.behind idle)),
        λ bare. by g.2 (first (sym g.0 ∙ bare)),
      )
    where
      none : (us vs : List (ActiveCall T W)) → us ++ vs ≡ [] → map (sees t.now) us ++ map (sees t.now) vs ≡ []
      none [] [] h = refl
      none [] (v ∷ vs) h = absurd cc
      none (u ∷ us) vs h = absurd cc

      by : s.now.queue.removed ≤ t.now.queue.removed → (0 < s.now.queue.removed) ⊎ (n.before ++ n.behind ≡ [])
          → (0 < t.now.queue.removed) ⊎ (map (sees t.now) n.before ++ map (sees t.now) n.behind ≡ [])
      by more (inl some) = inl (omega (arith, some, more))
      by more (inr nobody) = inr (none n.before n.behind nobody)
