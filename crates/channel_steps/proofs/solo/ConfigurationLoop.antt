-- The steps of a call that is alone at work, one after another, from configuration to configuration.
use Rattle.channel_steps.proofs.solo.Words.{◌≡◌, ℕ, ◌+◌, ◌≤◌, List, [], ◌∷◌, ◌++◌, map, length, append-nil, append_assoc, Option, None, Some, inl, inr, refl, sym, ap, ◌∙◌, subst, arith, Queue, Phase, ActiveQueueCall, Fits, QueueCall, shows, Woken, ChannelAsk, ChannelCall, Mark, Nothing, Reply, Returned, Stage, Parts, first, kept_by, Channel, Effect, channel, phase, seats, Moves, Made, IsNewCall, IsStepOver, IsChannelStep, counted, end_on, run_none, known_next, fits_after, none_after, after_lone, lone_goes, lone_ends, messages_counted, messages_moved, Outcome, Alone, after_waking, answers, HasNextPosition, IsAtRest, AnswersAlone, PlainChannel, parts_of, DoesPlain, ChannelMakes, Done as Did, steps_left, ◌<◌}
use Rattle.concurrent_queue.specs.Step.{FitsAt, FitsForm}
use Rattle.concurrent_queue.specs.declared.cells.QueueForm.{QueueForm}
use Rattle.concurrent_queue.specs.declared.cells.QueueForm.TheVariants.{Bounded, Unbounded}
use Rattle.channel_calls.proofs.Interface.{exact_step}
use Rattle.channel_steps.specs.declared.party.Entry.{Entry}
use Rattle.channel_steps.specs.declared.party.Party.{Party}
use Rattle.channel_steps.specs.Run.{Begins, EachStep, IsRun, NextConfiguration, end_of}
use Rattle.channel_steps.specs.Configuration.{ActiveCall, Configuration, ActiveCallWitness, blocks_after, does, active_call_of, all_seats, Known, AllKnown, IsBalanced, MayHave, Steps, Represents}
use Rattle.channel_steps.specs.solo.Configurations.{steps_by, woken_by_steps, EndsWith, RanInConfigurations, RunsInConfigurations}
use Rattle.channel_calls.specs.declared.whole.Completed.{Completed}
use Rattle.channel_steps.specs.declared.run.Step.TheVariants as step
use Rattle.channel_steps.specs.Run as steps
use Rattle.channel_steps.proofs.solo.TryFacts.{idle}
use Rattle.channel_steps.proofs.solo.FirstFacts.{first_rest, first_goes_on, Begun, begun}
use Rattle.channel_steps.proofs.solo.AloneFacts.{IsAlone, Advances, Answered, StepsTo, woken_on, answered, finished_kept, goes_on_so, capacity_now, accepts_one, made_by, next, step_nearer}
use Rattle.channel_steps.proofs.solo.Counts.{counted_few}

module _ {T : Type 0} where
  -- none of these answers
  abbrev pub AreSilent : List (Entry T) → Type 0
  AreSilent [] = Unit {0}
  AreSilent (e ∷ es) = (e.reply ≡ None) × (e.kept ≡ None) × AreSilent es

  silent_more : (es : List (Entry T)) (e : Entry T) → AreSilent es → e.reply ≡ None → e.kept ≡ None → AreSilent (es ++ e ∷ [])
  silent_more [] e h reply kept = (reply, kept, tt)
  silent_more (f ∷ es) e h reply kept = (h.0, h.1, silent_more es e h.2 reply kept)

  silent_ends : (es : List (Entry T)) (e : Entry T) (x : Reply T) (k : Returned T) → AreSilent es → e.reply ≡ Some x → e.kept ≡ Some k
      → EndsWith x k (es ++ e ∷ [])
  silent_ends [] e x k h reply kept = (reply, kept)
  silent_ends (f ∷ []) e x k h reply kept = (h.0, h.1, (reply, kept))
  silent_ends (f ∷ g ∷ es) e x k h reply kept = (h.0, h.1, silent_ends (g ∷ es) e x k h.2 reply kept)

module _ {T W : Type 0} (a : ChannelAsk T W) (parts0 : Parts T W) where
  -- where a call begins, it has reached its first stage, over the queue that the cells mean
  pub starts_over : (q : Queue T) → HasNextPosition q → (stage : Stage (QueueCall T) T W) (t : Begun (first a) parts0.cells q stage)
      → Fits parts0.cells q []
      → (y : IsAlone a (channel q parts0) parts0 stage []) × (y.now ≡ q) × (y.at ≡ t.at)
  starts_over q position stage t fits =
      let x : Advances a (channel q parts0) parts0 stage [] None =
      record {
        queue = q;
        at = t.at;
        turn = first a;
        turned = t.turned;
        idle = idle parts0.cells q fits;
        fits = t.fits;
        place = position;
        capacity = refl;
        accepted = omega arith;
        unspent = λ h. refl;
        on = λ o k. first_rest a (channel q parts0) o k;
      }
      in
      goes_on_so a (channel q parts0) parts0 stage [] x

module _ {T W : Type 0} where
  -- ---- steps, one after another

  -- steps of the party p, whom they wake, and one more
  module _ (p : ℕ) where
    each_more : (s : Configuration T W) (es : List (Entry T)) (ns : List (Configuration T W)) → EachStep NextConfiguration s (steps_by p es) es ns
        → (e : Entry T) (names : List W) (t : Configuration T W) → Steps (end_of s ns) p e names t
        → EachStep NextConfiguration s (steps_by p (es ++ e ∷ [])) (es ++ e ∷ []) (ns ++ t ∷ [])
    each_more s [] [] h e names t x = ((names, x), tt)
    each_more s (f ∷ es) (n ∷ ns) h e names t x = (h.0, each_more n es ns h.1 e names t x)
    each_more s es ns h e names t x = absurd h

    woken_more : (s : Configuration T W) (es : List (Entry T)) (ns : List (Configuration T W)) (h : EachStep NextConfiguration s (steps_by p es) es ns)
        (e : Entry T) (names : List W) (t : Configuration T W) (x : Steps (end_of s ns) p e names t)
        → woken_by_steps s (steps_by p (es ++ e ∷ [])) (es ++ e ∷ []) (ns ++ t ∷ []) (each_more s es ns h e names t x)
        ≡ woken_by_steps s (steps_by p es) es ns h ++ names
    unfolding each_more
    woken_more s [] [] h e names t x = append-nil names
    woken_more s (f ∷ es) (n ∷ ns) h e names t x =
        ap (λ (ws : List W). h.0.0 ++ ws) (woken_more n es ns h.1 e names t x)
        ∙ sym (append_assoc h.0.0 (woken_by_steps n (steps_by p es) es ns h.1) names)
    woken_more s [] (n ∷ ns) h e names t x = absurd h
    woken_more s (f ∷ es) [] h e names t x = absurd h

    -- the run so far, and those that it woke
    pub record WentSo (s : Configuration T W) (es : List (Entry T)) (woken : List W) (t : Configuration T W) : Type 0 where
      pub run : IsRun NextConfiguration s (steps_by p es) es t
      pub named : woken_by_steps s (steps_by p es) es run.moments run.each ≡ woken

    went_more : (s m t : Configuration T W) (es : List (Entry T)) (so_far names : List W) (e : Entry T) → WentSo s es so_far m → Steps m p e names t
        → WentSo s (es ++ e ∷ []) (so_far ++ names) t
    went_more s m t es so_far names e g x =
        let r = g.run in
        let here = subst (λ (z : Configuration T W). Steps z p e names t) (sym r.ends) x in
        record {
          run = record { moments = r.moments ++ t ∷ []; each = each_more s es r.moments r.each e names t here; ends = end_on s r.moments (t ∷ []) };
          named = woken_more s es r.moments r.each e names t here ∙ ap (λ (ws : List W). ws ++ names) g.named;
        }

  -- ---- a configuration with nobody at work

  nobody : (xs : List (ActiveCallWitness T W)) → [] ≡ map (λ (x : ActiveCallWitness T W). x.party) xs → xs ≡ []
  nobody [] e = refl
  nobody (x ∷ xs) e =
      absurd (let no : (let none : List (Party T W) = [] in none) ≡ x.party ∷ map (λ (y : ActiveCallWitness T W). y.party) xs = e in cc)

  module _ (parts : Parts T W) (s : Configuration T W) (sh : Represents parts [] s) where
    at_rest : Fits parts.cells sh.queue []
    at_rest = (
      s.blocks,
      subst (λ (xs : List (ActiveCallWitness T W)). FitsAt s.blocks parts.cells sh.queue (all_seats xs))
          (nobody sh.witnesses sh.parties_are) sh.fits,
    )

    none_under_way : s.under_way ≡ []
    none_under_way = sh.under_way ∙ ap (λ (xs : List (ActiveCallWitness T W)). map active_call_of xs) (nobody sh.witnesses sh.parties_are)

  -- the configuration with nobody at work in which the queue is this one and has used these blocks
  abbrev resting : List ℕ → Queue T → Parts T W → Configuration T W
  resting blocks q parts = record { now = channel q parts; blocks = blocks; under_way = []; gone = []; came = [] }

  -- the cells show it
  shows_rest : (q : Queue T) (parts : Parts T W) → Fits parts.cells q [] → (blocks : List ℕ) × Represents parts [] (resting blocks q parts)
  unfolding FitsAt
  shows_rest q parts fits = by parts.cells.form refl fits.1
    where
      shown : (blocks : List ℕ) → MayHave parts.cells.form blocks → FitsAt blocks parts.cells q [] → Represents parts [] (resting blocks q parts)
      shown blocks bare there =
          record {
            witnesses = [];
            queue = q;
            parties_are = refl;
            under_way = refl;
            now = refl;
            fits = there;
            bare = bare;
            known = tt;
            balanced = (shows parts.cells q [] fits).balance;
          }

      by : (form : QueueForm) → parts.cells.form ≡ form → FitsForm form fits.0 parts.cells q [] → (blocks : List ℕ) × Represents parts [] (resting blocks q parts)
      by (Bounded capacity) is there =
          ([], shown [] (subst (λ (f : QueueForm). MayHave f []) (sym is) refl) (subst (λ (f : QueueForm). FitsForm f [] parts.cells q []) (sym is) there))
      by Unbounded is there =
          (fits.0, shown fits.0 (subst (λ (f : QueueForm). MayHave f fits.0) (sym is) tt) (subst (λ (f : QueueForm). FitsForm f fits.0 parts.cells q []) (sym is) there))

  -- ---- how far a call has come

  -- A call of the party p that began in the configuration s, over the channel c0, with so many messages counted then: where it is in
  -- the configuration to which its steps have led, and that they say the same of it as its stage does.
  pub record Between (a : ChannelAsk T W) (s : Configuration T W) (p : ℕ) (c0 : Channel T W) (messages0 : ℕ) (parts : Parts T W)
      (stage : Stage (QueueCall T) T W) (so_far : List W) (messages : ℕ) : Type 0 where
    pub alone : IsAlone a c0 parts stage so_far
    pub begun : Configuration T W
    pub begins : Begins s p a (record { mark = Nothing; reply = None; kept = None }) begun
    pub entries : List (Entry T)
    pub silent : AreSilent entries
    pub mid : Configuration T W
    pub went : WentSo p begun entries so_far mid
    pub mine : ActiveCall T W
    pub only : mid.under_way ≡ mine ∷ []
    pub whose : mine.party ≡ p
    pub at : mine.at ≡ phase alone.at stage
    pub now : mid.now ≡ channel alone.now parts
    pub known : Known mid.now mine
    pub balanced : IsBalanced mid.now.queue
    pub counts : messages0 ≡ length c0.queue.items → messages ≡ length mid.now.queue.items

  module _ (a : ChannelAsk T W) (parts0 : Parts T W) (messages0 : ℕ) (s : Configuration T W) (p : ℕ) (sh : Represents parts0 [] s) where
    abbrev start : Channel T W
    start = channel sh.queue parts0

    -- ---- it begins

    begins_between : (stage : Stage (QueueCall T) T W) (t : Begun (first a) parts0.cells sh.queue stage)
        → (y : IsAlone a start parts0 stage []) × (y.now ≡ sh.queue) × (y.at ≡ t.at)
        → Between a s p start messages0 parts0 stage [] messages0
    begins_between stage t y =
        let mine : ActiveCall T W = steps.call_begun p a (phase t.at stage) s.now in
        let after : Configuration T W = record { now = s.now; blocks = s.blocks; under_way = mine ∷ []; gone = s.gone; came = s.came } in
        let entry : Entry T = record { mark = Nothing; reply = None; kept = None } in
        let begins : Begins s p a entry after =
        record {
          entry = refl;
          at = phase t.at stage;
          answer = None;
          turned = t.turned;
          now = refl;
          blocks = refl;
          under_way = ap (λ (us : List (ActiveCall T W)). us ++ mine ∷ []) (sym (none_under_way parts0 s sh));
          gone = refl;
          came = refl;
        }
        in
        let bal : IsBalanced s.now.queue = subst (λ (c : Channel T W). IsBalanced c.queue) (sym sh.now) sh.balanced in
        let k : AllKnown s.now (mine ∷ []) × IsBalanced s.now.queue =
        known_next s (step.Begin p a) entry [] after (begins, refl) sh.known bal in
        record {
          alone = y.0;
          begun = after;
          begins = begins;
          entries = [];
          silent = tt;
          mid = after;
          went = record { run = run_none NextConfiguration after; named = refl };
          mine = mine;
          only = refl;
          whose = refl;
          at = ap (λ (f : Phase T). phase f stage) (sym y.2);
          now = sh.now ∙ ap (λ (q : Queue T). channel q parts0) (sym y.1);
          known = k.0.0;
          balanced = k.1;
          counts = λ h. h ∙ ap (λ (c : Channel T W). length c.queue.items) (sym sh.now);
        }

    begins_so : HasNextPosition s.now.queue → (call : ChannelCall T W) → IsNewCall call (first a)
        → Between a s p start messages0 parts0 call.stage [] messages0
    begins_so position call begins =
        let fits = at_rest parts0 s sh in
        let none : begins.0 ≡ None = first_goes_on a begins.0 call.stage begins.1 in
        let t : Begun (first a) parts0.cells sh.queue call.stage =
        begun parts0.cells sh.queue fits (first a) begins.0 call.stage none begins.1 in
        let place : HasNextPosition sh.queue = subst (λ (c : Channel T W). HasNextPosition c.queue) sh.now position in
        begins_between call.stage t (starts_over a parts0 sh.queue place call.stage t fits)

    -- ---- it makes a step

    module _ (parts : Parts T W) (stage : Stage (QueueCall T) T W) (so_far : List W) (messages : ℕ)
        (x : Between a s p start messages0 parts stage so_far messages) (parts' : Parts T W) (stage' : Stage (QueueCall T) T W)
        (m : Mark) (names : List W) where
      abbrev MadeOne : Option (Reply T) → Type 0
      MadeOne r = Made parts stage names parts' stage' m r x.alone.fits.0 x.alone.now x.alone.at [] []

      -- the blocks after it
      abbrev blocks_now : List ℕ
      blocks_now = blocks_after parts'.cells.form x.alone.fits.0 parts.cells parts'.cells

      moves_there : (r : Option (Reply T)) (made : MadeOne r)
          → Moves x.mid.now x.mine.at (record { channel = channel made.queue parts'; mark = m; woken = names }) r
          (phase made.phase_now stage')
      moves_there r made =
          let e : Effect T W = record { channel = channel made.queue parts'; mark = m; woken = names } in
          subst (λ (c : Channel T W). Moves c x.mine.at e r (phase made.phase_now stage')) (sym x.now)
          (subst (λ (at : Stage (Phase T) T W). Moves (channel x.alone.now parts) at e r (phase made.phase_now stage'))
          (sym x.at) made.moves)

      -- what is known and what is counted after a step of configurations
      follows : (e : Entry T) (t : Configuration T W) → Steps x.mid p e names t → AllKnown t.now t.under_way × IsBalanced t.now.queue
      follows e t n = known_next x.mid (step.Step p) e names t n
          (subst (λ (us : List (ActiveCall T W)). AllKnown x.mid.now us) (sym x.only) (x.known, tt)) x.balanced

      -- one slot holds one message at most, and in another queue so few were accepted that no count ends
      counts_on : (e : Entry T) (t : Configuration T W) → Steps x.mid p e names t
          → (start.queue.capacity ≡ Some 1 → length t.now.queue.items ≤ 1)
          → messages0 ≡ length start.queue.items → counted messages e.mark ≡ length t.now.queue.items
      counts_on e t n short h = ap (λ (k : ℕ). counted k e.mark) (x.counts h) ∙ by x.alone.place where
        balanced : IsBalanced t.now.queue
        balanced = let k = follows e t n in k.1

        by : HasNextPosition start.queue → counted (length x.mid.now.queue.items) e.mark ≡ length t.now.queue.items
        by (inl one) = counted_few (length x.mid.now.queue.items) (length t.now.queue.items) e.mark
            (messages_moved x.mid p e names t n x.balanced balanced) (short one)
        by (inr low) =
            let most : x.alone.now.accepted ≤ start.queue.accepted + 1 =
            accepts_one a start parts so_far names parts' stage' m None stage x.alone in
            let same : x.mid.now.queue.accepted ≡ x.alone.now.accepted = ap (λ (c : Channel T W). c.queue.accepted) x.now in
            messages_counted x.mid p e names t n x.balanced balanced (omega (arith, most, same, low))

      -- one slot holds one message at most
      short_in : (q d : Queue T) (seats : List (ActiveQueueCall T)) → Fits parts'.cells q seats → q.capacity ≡ start.queue.capacity → q ≡ d
          → start.queue.capacity ≡ Some 1 → length d.items ≤ 1
      short_in q d seats fits same is one =
          let most = (shows parts'.cells q seats fits).within 1 (same ∙ one) in
          let here = ap (λ (r : Queue T). length r.items) is in
          omega (arith, most, here)

      -- one that does not answer
      goes_between : (made : MadeOne None) → (y : IsAlone a start parts' stage' (so_far ++ names)) × (y.now ≡ made.queue)
          × (y.at ≡ made.phase_now)
          → Between a s p start messages0 parts' stage' (so_far ++ names) (counted messages m)
      goes_between made y =
          let d : Channel T W = channel made.queue parts' in
          let at_now : Stage (Phase T) T W = phase made.phase_now stage' in
          let after : Configuration T W = after_lone x.mid x.mine at_now m None blocks_now d in
          let e : Entry T = record { mark = m; reply = None; kept = None } in
          let n : Steps x.mid p e names after =
          subst (λ (i : ℕ). Steps x.mid i e names after) x.whose
          (lone_goes x.mid x.mine x.only x.known x.balanced m names blocks_now d at_now (moves_there None made)) in
          let k : AllKnown after.now after.under_way × IsBalanced after.now.queue = follows e after n in
          record {
            alone = y.0;
            begun = x.begun;
            begins = x.begins;
            entries = x.entries ++ e ∷ [];
            silent = silent_more x.entries e x.silent refl refl;
            mid = after;
            went = went_more p x.begun x.mid after x.entries so_far names e x.went n;
            mine = does x.mine at_now m x.mid.now d;
            only = refl;
            whose = x.whose;
            at = ap (λ (f : Phase T). phase f stage') (sym y.2);
            now = ap (λ (q : Queue T). channel q parts') (sym y.1);
            known = k.0.0;
            balanced = k.1;
            counts = counts_on e after n (short_in y.0.now made.queue (seats y.0.at stage' ++ []) y.0.fits
                (capacity_now a start parts' stage' (so_far ++ names) y.0) y.1);
          }

      goes_so : IsStepOver parts stage names parts' stage' m None
          → Between a s p start messages0 parts' stage' (so_far ++ names) (counted messages m)
      goes_so over =
          let made : MadeOne None = made_by a start parts so_far names parts' stage' m None stage x.alone over in
          goes_between made
          (settled made.queue made.phase_now (next a start parts so_far names parts' stage' m None stage x.alone made))
        where
          settled : (q : Queue T) (f : Phase T) → StepsTo a start parts so_far names parts' stage' m None q f
              → (y : IsAlone a start parts' stage' (so_far ++ names)) × (y.now ≡ q) × (y.at ≡ f)
          settled q f (inl h) = h.0
          settled q f (inr h) = let y = goes_on_so a start parts' stage' (so_far ++ names) h.0 in (y.0, y.1 ∙ h.1, y.2 ∙ h.2)

      -- one that answers
      module _ {S : Type 0} (wakes : S → W → S → Type 0) (sink0 sink' : S) (woken : Woken wakes sink0 (so_far ++ names) sink')
          (y : Reply T) (kept : Returned T) (left : kept ≡ kept_by stage') where
        abbrev Over : Type 0
        Over = RanInConfigurations wakes a sink0 messages0 (record { reply = y; kept = kept }) parts' sink' (counted messages m) s p

        ends_between : (made : MadeOne (Some y)) → (z : Advances a start parts' stage' (so_far ++ names) (Some y))
            × (z.queue ≡ made.queue) × (z.at ≡ made.phase_now) → Over
        ends_between made z =
            let e : Answered z.0.turn y (phase z.0.at stage') = answered z.0.turn y (phase z.0.at stage') z.0.turned in
            let f = finished_kept z.0.at stage' e.kept e.finished in
            let o : Outcome T W = after_waking (so_far ++ names) (answers y e.kept (channel z.0.queue parts')) in
            let d : Channel T W = channel made.queue parts' in
            let at_now : Stage (Phase T) T W = phase made.phase_now stage' in
            let after : Configuration T W = after_lone x.mid x.mine at_now m (Some y) blocks_now d in
            let last : Entry T = record { mark = m; reply = Some y; kept = Some kept } in
            let n : Steps x.mid p last names after =
            subst (λ (i : ℕ). Steps x.mid i last names after) x.whose
            (lone_ends x.mid x.mine x.only x.known x.balanced m names blocks_now d at_now y kept
            (λ k there. left ∙ (let g = finished_kept made.phase_now stage' k there in g.0)) (moves_there (Some y) made)) in
            let k : AllKnown after.now after.under_way × IsBalanced after.now.queue = follows last after n in
            let went = went_more p x.begun x.mid after x.entries so_far names last x.went n in
            let none : seats made.phase_now stage' ≡ [] = subst (λ (g : Phase T). seats g stage' ≡ []) z.2 f.1 in
            let from : s.now ≡ start = sh.now in
            record {
              outcome = o;
              after = after;
              does = subst (λ (c : Channel T W). Alone a c o) (sym from)
                  (z.0.on (answers y e.kept (channel z.0.queue parts')) (e.rests (channel z.0.queue parts')));
              reply = refl;
              kept = left ∙ f.0;
              woken = subst (λ (ws : List W). Woken wakes sink0 ws sink') (sym (append-nil (so_far ++ names))) woken;
              run = record {
                begun = x.begun;
                begins = x.begins;
                entries = x.entries ++ last ∷ [];
                run = went.run;
                ends = silent_ends x.entries last y e.kept x.silent refl (ap (λ (h : Returned T). Some h) (left ∙ f.0));
                woken = went.named ∙ sym (append-nil (so_far ++ names));
                over = refl;
              };
              shown = record {
                witnesses = [];
                queue = made.queue;
                parties_are = refl;
                under_way = refl;
                now = refl;
                fits = subst (λ (ss : List (ActiveQueueCall T)). FitsAt blocks_now parts'.cells made.queue (ss ++ [])) none
                    (fits_after x.alone.fits.0 parts.cells parts'.cells made.queue (seats made.phase_now stage' ++ []) made.fits);
                bare = none_after parts'.cells.form x.alone.fits.0 parts.cells parts'.cells;
                known = tt;
                balanced = k.1;
              };
              now = ap (λ (q : Queue T). channel q parts') (sym z.1);
              capacity = z.0.capacity ∙ ap (λ (c : Channel T W). c.queue.capacity) (sym from);
              accepted = (let most = z.0.accepted in let same = ap (λ (c : Channel T W). c.queue.accepted) from in
                  omega (arith, most, same));
              counted = λ h.
                  counts_on last after n (short_in z.0.queue made.queue (seats z.0.at stage' ++ []) z.0.fits z.0.capacity z.1)
                  (h ∙ ap (λ (c : Channel T W). length c.queue.items) from);
            }

        ends_so : IsStepOver parts stage names parts' stage' m (Some y) → Over
        ends_so over =
            let made : MadeOne (Some y) = made_by a start parts so_far names parts' stage' m (Some y) stage x.alone over in
            answers_at made made.queue made.phase_now (λ z. ends_between made z)
            (next a start parts so_far names parts' stage' m (Some y) stage x.alone made)
          where
            answers_at : (made : MadeOne (Some y)) (q : Queue T) (f : Phase T)
                → ((z : Advances a start parts' stage' (so_far ++ names) (Some y)) × (z.queue ≡ q) × (z.at ≡ f) → Over)
                → StepsTo a start parts so_far names parts' stage' m (Some y) q f → Over
            answers_at made q f by (inl h) = absurd (let no : Some y ≡ None = h.1 in cc)
            answers_at made q f by (inr h) = by h

module _ {T W S : Type 0} (wakes : S → W → S → Type 0) where
  -- by its deed on the cells of one owner, whatever other calls are under way
  pub plain_step : (a b : PlainChannel T W) (k l : S) (m : Mark) (next : Stage (QueueCall T) T W) (r : Option (Reply T)) (at : Stage (QueueCall T) T W)
      → ChannelMakes (Did DoesPlain wakes) at (a, k) (b, l) m next r → IsChannelStep wakes (parts_of a) at k (parts_of b) next m r l
  plain_step a b k l m next r at h = exact_step DoesPlain parts_of (λ d a b done. done.0) wakes a b k l m next r at h

  -- how far a call has come, with the sink
  pub record ReachedBetween (a : ChannelAsk T W) (s : Configuration T W) (p : ℕ) (c0 : Channel T W) (sink0 : S) (messages0 : ℕ)
      (parts : Parts T W) (stage : Stage (QueueCall T) T W) (sink : S) (messages : ℕ) : Type 0 where
    pub so_far : List W
    pub woken : Woken wakes sink0 so_far sink
    pub between : Between a s p c0 messages0 parts stage so_far messages

  -- in every configuration with nobody at work that the cells showed where it began
  abbrev pub IsBetween : ChannelAsk T W → Parts T W → S → ℕ → Parts T W → Stage (QueueCall T) T W → S → ℕ → Type 0
  IsBetween a parts0 sink0 messages0 parts stage sink messages =
      (s : Configuration T W) (p : ℕ) → HasNextPosition s.now.queue → (sh : Represents parts0 [] s)
      → ReachedBetween a s p (channel sh.queue parts0) sink0 messages0 parts stage sink messages

  module _ (a : ChannelAsk T W) (parts0 : Parts T W) (sink0 : S) (messages0 : ℕ) where
    pub configurations_start : (call : ChannelCall T W) → IsNewCall call (first a)
        → IsBetween a parts0 sink0 messages0 parts0 call.stage sink0 messages0
    configurations_start call begins s p position sh =
        record { so_far = []; woken = refl; between = begins_so a parts0 messages0 s p sh position call begins }

    -- so it is in one that shows just what the cells mean
    pub alone_there : (parts : Parts T W) (stage : Stage (QueueCall T) T W) (sink : S) (messages : ℕ) → IsBetween a parts0 sink0 messages0 parts stage sink messages
        → (q : Queue T) → HasNextPosition q → Fits parts0.cells q [] → (so_far : List W) × IsAlone a (channel q parts0) parts stage so_far
    alone_there parts stage sink messages way q position fits =
        let rest = shows_rest q parts0 fits in
        let x = way (resting rest.0 q parts0) 0 position rest.1 in
        let start : channel rest.1.queue parts0 ≡ channel q parts0 = sym rest.1.now in
        (x.so_far, subst (λ (c : Channel T W). IsAlone a c parts stage x.so_far) start x.between.alone)

    module _ (parts : Parts T W) (stage : Stage (QueueCall T) T W) (sink : S) (messages : ℕ)
        (way : IsBetween a parts0 sink0 messages0 parts stage sink messages)
        (parts' : Parts T W) (stage' : Stage (QueueCall T) T W) (m : Mark) (sink' : S) (messages' : ℕ) (noted : Mark)
        (same : noted ≡ m) (count : messages' ≡ counted messages noted) where
      counts : messages' ≡ counted messages m
      counts = count ∙ ap (λ (k : Mark). counted messages k) same

      pub configurations_more : IsChannelStep wakes parts stage sink parts' stage' m None sink'
          → IsBetween a parts0 sink0 messages0 parts' stage' sink' messages'
      configurations_more step s p position sh =
          let x = way s p position sh in
          let so_far : List W = x.so_far ++ step.0 in
          let y = goes_so a parts0 messages0 s p sh parts stage x.so_far messages x.between parts' stage' m step.0 step.2 in
          record {
            so_far = so_far;
            woken = woken_on wakes sink0 sink sink' x.so_far step.0 x.woken step.1;
            between = subst (λ (n : ℕ). Between a s p (channel sh.queue parts0) messages0 parts' stage' so_far n) (sym counts) y;
          }

      pub configurations_nearer : IsChannelStep wakes parts stage sink parts' stage' m None sink' → IsAtRest parts0
          → steps_left parts'.cells parts'.wait_lists stage' < steps_left parts.cells parts.wait_lists stage
      configurations_nearer step (q, position, fits) =
          let x = alone_there parts stage sink messages way q position fits in
          step_nearer a (channel q parts0) parts x.0 step.0 parts' stage' m None stage x.1 step.2

      pub configurations_end : (y : Reply T) → IsChannelStep wakes parts stage sink parts' stage' m (Some y) sink' → (kept : Returned T)
          → kept ≡ kept_by stage'
          → RunsInConfigurations wakes a parts0 sink0 messages0 (record { reply = y; kept = kept }) parts' sink' messages'
      configurations_end y step kept left s p position sh =
          let x = way s p position sh in
          let done : Completed T = record { reply = y; kept = kept } in
          let woken = woken_on wakes sink0 sink sink' x.so_far step.0 x.woken step.1 in
          let over = ends_so a parts0 messages0 s p sh parts stage x.so_far messages x.between parts' stage' m step.0 wakes sink0
          sink' woken y kept left step.2 in
          subst (λ (n : ℕ). RanInConfigurations wakes a sink0 messages0 done parts' sink' n s p) (sym counts) over

  -- what it answers in every configuration it answers over whatever queue the cells mean
  pub answers_alone : (a : ChannelAsk T W) (parts0 : Parts T W) (sink0 : S) (messages0 : ℕ) (done : Completed T) (parts' : Parts T W) (sink' : S) (messages' : ℕ)
      → RunsInConfigurations wakes a parts0 sink0 messages0 done parts' sink' messages' → AnswersAlone wakes a parts0 sink0 done parts' sink'
  answers_alone a parts0 sink0 messages0 done parts' sink' messages' runs q position fits =
      let rest = shows_rest q parts0 fits in
      let r = runs (resting rest.0 q parts0) 0 position rest.1 in
      let same : channel r.shown.queue parts' ≡ r.outcome.channel = sym r.shown.now ∙ r.now in
      record {
        outcome = r.outcome;
        does = r.does;
        reply = r.reply;
        kept = r.kept;
        wait_lists = ap (λ (c : Channel T W). c.wait_lists) same;
        at_rest = subst (λ (c : Channel T W). Fits parts'.cells c.queue []) same (at_rest parts' r.after r.shown);
        capacity = r.capacity;
        accepted = r.accepted;
        woken = r.woken;
      }
