-- A step of one party among all.
use Rattle.std.proofs.Common.{◌≡◌, ℕ, zero, suc, ◌+◌, ◌<◌, unwrap_or, List, [], ◌∷◌, ◌++◌, map, length, slice_get, slice_set, Option, None, Some, refl, sym, ap, ◌∙◌, subst, append_assoc}
use Rattle.std.specs.List.{remove}
use Rattle.channel_steps.proofs.Words.{Queue, Phase, IsInRange, Contents, ActiveQueueCall, chain_after, PhasesQuiet, phases, QueueForm, Bounded, Unbounded, Parts, QueueCall, Channel, Effect, channel, seats, phase, Made, Mark, Reply, kept_by, Stage, Trying, Working, Finished, FitsForm, IsStepOver, IsChannelStep, OnePlace, Party, Entry, StageAt, party_left, all_left, left_at, MarkedMoment, with_marked, ActiveCall, Configuration, MayHave, blocks_after, sees, does, gone_by, came_by, Known, AllKnown, IsBalanced, OthersQuiet, ActiveCallWitness, active_call_of, seats_of, all_seats, Represents, parties_in, unless_answered, after_step, left_by, StepsNearer, PartySteps, telling}
use Rattle.concurrent_queue.specs.Step.{FitsAt}
use Rattle.concurrent_queue.proofs.Callers.{itself}
use Rattle.channel_steps.proofs.AfterStep.{after-same, get-map, map-after}
use Rattle.channel_steps.proofs.IdleFacts.{idle_holds}
use Rattle.channel_steps.proofs.LeftFacts.{IsAtWork, step_lessens}
use Rattle.channel_steps.proofs.MoveFacts.{answered_alone, kept_at}
use Rattle.channel_steps.proofs.TryFacts.{Progress}
use Rattle.channel_steps.proofs.OwnFacts.{moves_on, names_of, moves_held, all_see, own_known, own_finishes, own_in_time}

module _ {T W : Type 0} where
  pub ids_after : (ps : List (Party T W)) (k : ℕ) (x y : Party T W) → slice_get ps k ≡ Some x → y.id ≡ x.id → (r : Option (Reply T))
      → parties_in (after_step ps k y r) ≡ unless_answered k r (parties_in ps)
  ids_after ps k x y there same r =
      map-after (λ (p : Party T W). p.id) ps k y r
      ∙ (ap (λ (n : ℕ). after_step (parties_in ps) k n r) same ∙ after-same (parties_in ps) k x.id r (get-map (λ (p : Party T W). p.id) ps k x there))

module _ {A B : Type 0} (g : A → B) where
  -- where the k-th of the images is, and what the list is round it
  pub split : (xs : List A) (k : ℕ) (y : B) → slice_get (map g xs) k ≡ Some y → (l : List A) × (x : A) × (r : List A) × (xs ≡ l ++ (x ∷ r)) × (g x ≡ y) × (length l ≡ k)
  split [] k y e = absurd cc
  split (x ∷ xs) zero y e = ([], x, xs, refl, (let same : g x ≡ y = cc in same), refl)
  split (x ∷ xs) (suc k) y e =
      let h = split xs k y e in
      (x ∷ h.0, h.1, h.2, ap (λ (zs : List A). x ∷ zs) h.3, h.4, ap (λ n. suc n) h.5)

  pub map-round : (l r : List A) → map g (l ++ r) ≡ map g l ++ map g r
  map-round [] r = refl
  map-round (x ∷ l) r = ap (λ zs. g x ∷ zs) (map-round l r)

  pub set-round : (l : List A) (x : A) (r : List A) (y : B) → slice_set (map g (l ++ (x ∷ r))) (length l) y ≡ map g l ++ (y ∷ map g r)
  set-round [] x r y = refl
  set-round (z ∷ l) x r y = ap (λ zs. g z ∷ zs) (set-round l x r y)

  pub remove-round : (l : List A) (x : A) (r : List A) → remove (map g (l ++ (x ∷ r))) (length l) ≡ map g l ++ map g r
  remove-round [] x r = refl
  remove-round (z ∷ l) x r = ap (λ zs. g z ∷ zs) (remove-round l x r)

module _ {A B : Type 0} (g : A → B) (n : B → ℕ) where
  -- the number of the one in the midst, and of what is put in its place
  number-round : (l : List A) (x : A) (r : List A) → unwrap_or (slice_get (map n (map g (l ++ (x ∷ r)))) (length l)) 0 ≡ n (g x)
  number-round [] x r = refl
  number-round (z ∷ l) x r = number-round l x r

  number-set : (l : List A) (x : A) (r : List A) (y : B) → unwrap_or (slice_get (map n (slice_set (map g (l ++ (x ∷ r))) (length l) y)) (length l)) 0 ≡ n y
  number-set [] x r y = refl
  number-set (z ∷ l) x r y = number-set l x r y

length-images : {A B : Type 0} (g : A → B) (xs : List A) → length (map g xs) ≡ length xs
length-images g [] = refl
length-images g (x ∷ xs) = ap (λ n. suc n) (length-images g xs)

module _ {T : Type 0} where
  -- ---- the blocks

  fits_by : (form : QueueForm) (blocks : List ℕ) (c d : Contents T) (q : Queue T) (ss : List (ActiveQueueCall T))
      → FitsForm form (chain_after blocks c d) d q ss → FitsForm form (blocks_after form blocks c d) d q ss
  fits_by (Bounded capacity) blocks c d q ss fits = fits
  fits_by Unbounded blocks c d q ss fits = fits

  pub fits_after : (blocks : List ℕ) (c d : Contents T) (q : Queue T) (ss : List (ActiveQueueCall T)) → FitsAt (chain_after blocks c d) d q ss
      → FitsAt (blocks_after d.form blocks c d) d q ss
  unfolding FitsAt
  fits_after blocks c d q ss fits = fits_by d.form blocks c d q ss fits

  pub none_after : (form : QueueForm) (blocks : List ℕ) (c d : Contents T) → MayHave form (blocks_after form blocks c d)
  none_after (Bounded capacity) blocks c d = refl
  none_after Unbounded blocks c d = tt

  still_named : (form : QueueForm) (blocks : List ℕ) (c : Contents T) → MayHave form blocks → blocks ≡ blocks_after form blocks c c
  still_named (Bounded capacity) blocks c bare = bare
  still_named Unbounded blocks c bare = rw (itself c.tail_block) refl

module _ {T W : Type 0} where
  -- where a call begins, they are those before
  pub blocks_begun : (parts : Parts T W) (parties : List (Party T W)) (s t : Configuration T W) → Represents parts parties s → t.blocks ≡ s.blocks
      → t.blocks ≡ blocks_after parts.cells.form s.blocks parts.cells parts.cells
  blocks_begun parts parties s t sh same = same ∙ still_named parts.cells.form s.blocks parts.cells sh.bare

  abbrev pub saw : Channel T W → ActiveCallWitness T W → ActiveCallWitness T W
  saw c x = record x { seen = c ∷ x.seen }

  abbrev pub party_of : ActiveCallWitness T W → Party T W
  party_of x = x.party

  pub seats_append : (l r : List (ActiveCallWitness T W)) → all_seats (l ++ r) ≡ all_seats l ++ all_seats r
  seats_append [] r = refl
  seats_append (x ∷ l) r = ap (λ (zs : List (ActiveQueueCall T)). seats_of x ++ zs) (seats_append l r) ∙ sym (append_assoc (seats_of x) (all_seats l) (all_seats r))

  seats_saw : (q : Channel T W) (l : List (ActiveCallWitness T W)) → all_seats (map (saw q) l) ≡ all_seats l
  seats_saw q [] = refl
  seats_saw q (x ∷ l) = ap (λ (zs : List (ActiveQueueCall T)). seats_of x ++ zs) (seats_saw q l)

  active_call_saw : (q : Channel T W) (l : List (ActiveCallWitness T W)) → map active_call_of (map (saw q) l) ≡ map (sees q) (map active_call_of l)
  active_call_saw q [] = refl
  active_call_saw q (x ∷ l) = ap (λ (zs : List (ActiveCall T W)). sees q (active_call_of x) ∷ zs) (active_call_saw q l)

  pub party_saw : (q : Channel T W) (l : List (ActiveCallWitness T W)) → map party_of (map (saw q) l) ≡ map party_of l
  party_saw q [] = refl
  party_saw q (x ∷ l) = ap (λ (zs : List (Party T W)). x.party ∷ zs) (party_saw q l)

  -- the configuration of these sittings
  abbrev pub configuration_of : List ℕ → Queue T → Parts T W → List (ActiveCallWitness T W) → List T → List T → Configuration T W
  configuration_of blocks q parts xs gone came = record { now = channel q parts; blocks = blocks; under_way = map active_call_of xs; gone = gone; came = came }

  same_configuration : (s : Configuration T W) (c : Channel T W) (us : List (ActiveCall T W)) → c ≡ s.now → us ≡ s.under_way → (let z : Configuration T W = record { now = c; blocks = s.blocks; under_way = us; gone = s.gone; came = s.came } in z) ≡ s
  same_configuration s c us e f =
      ap (λ (n : Channel T W). let z : Configuration T W = record { now = n; blocks = s.blocks; under_way = us; gone = s.gone; came = s.came } in z) e
      ∙ ap (λ (vs : List (ActiveCall T W)). let z : Configuration T W = record { now = s.now; blocks = s.blocks; under_way = vs; gone = s.gone; came = s.came } in z) f

  -- what is known of the calls before one, of that one, and of those behind it
  pub known_left : (c : Channel T W) (us vs : List (ActiveCall T W)) → AllKnown c (us ++ vs) → AllKnown c us
  known_left c [] vs h = tt
  known_left c (u ∷ us) vs h = (h.0, known_left c us vs h.1)

  pub known_right : (c : Channel T W) (us vs : List (ActiveCall T W)) → AllKnown c (us ++ vs) → AllKnown c vs
  known_right c [] vs h = h
  known_right c (u ∷ us) vs h = known_right c us vs h.1

  pub known_both : (c : Channel T W) (us vs : List (ActiveCall T W)) → AllKnown c us → AllKnown c vs → AllKnown c (us ++ vs)
  known_both c [] vs h k = k
  known_both c (u ∷ us) vs h k = (h.0, known_both c us vs h.1 k)

  module _ (parts parts' : Parts T W) (l r : List (ActiveCallWitness T W)) (x : ActiveCallWitness T W) (q : Queue T) (p' : Party T W) (m : Mark) (names : List W) (id : p'.id ≡ x.party.id)
      (blocks : List ℕ) (range : IsInRange q) (fits : FitsAt blocks parts.cells q (all_seats (l ++ (x ∷ r)))) (known : AllKnown (channel q parts) (map active_call_of (l ++ (x ∷ r)))) (bal : IsBalanced q) (gone came : List T) where
    round : FitsAt blocks parts.cells q (all_seats l ++ (seats_of x ++ all_seats r))
    round = subst (λ (ss : List (ActiveQueueCall T)). FitsAt blocks parts.cells q ss) (seats_append l (x ∷ r)) fits

    abbrev before_it : Channel T W
    before_it = channel q parts

    all_round : AllKnown before_it (map active_call_of l ++ (active_call_of x ∷ map active_call_of r))
    all_round = subst (λ (us : List (ActiveCall T W)). AllKnown before_it us) (map-round active_call_of l (x ∷ r)) known

    mine_known : Known before_it (active_call_of x)
    mine_known = let h = known_right before_it (map active_call_of l) (active_call_of x ∷ map active_call_of r) all_round in h.0

    left_known : AllKnown before_it (map active_call_of l)
    left_known = known_left before_it (map active_call_of l) (active_call_of x ∷ map active_call_of r) all_round

    right_known : AllKnown before_it (map active_call_of r)
    right_known = let h = known_right before_it (map active_call_of l) (active_call_of x ∷ map active_call_of r) all_round in h.1

    -- where the others are quiet, fewer steps are left
    at_work : (ds : List (MarkedMoment T W)) (s : Stage (QueueCall T) T W) → StageAt before_it x.ask (phase x.inner s) ds x.seen → IsAtWork s
    at_work ds (Trying call purpose) h = tt
    at_work ds (Working w) h = tt
    at_work ds (Finished kept) h = absurd h

    others_hold : OthersQuiet before_it (map active_call_of l ++ map active_call_of r) → PhasesQuiet q (phases (all_seats l ++ all_seats r))
    others_hold hold =
        let both = map-round active_call_of l r in
        let others : AllKnown before_it (map active_call_of (l ++ r)) =
        subst (λ (us : List (ActiveCall T W)). AllKnown before_it us) (sym both) (known_both before_it (map active_call_of l) (map active_call_of r) left_known right_known) in
        subst (λ (ss : List (ActiveQueueCall T)). PhasesQuiet q (phases ss)) (seats_append l r)
        (idle_holds before_it (l ++ r) others (subst (λ (us : List (ActiveCall T W)). OthersQuiet before_it us) (sym both) hold))

    comes_nearer : Made parts x.party.call.stage names parts' p'.call.stage m None blocks q x.inner (all_seats l) (all_seats r)
        → OthersQuiet before_it (map active_call_of l ++ map active_call_of r)
        → left_at (length l) (all_left parts' (slice_set (map party_of (l ++ (x ∷ r))) (length l) p')) < left_at (length l) (all_left parts (map party_of (l ++ (x ∷ r))))
    comes_nearer made hold =
        let less = step_lessens parts parts' names p'.call.stage m None blocks q x.inner (all_seats l) (all_seats r) x.party.call.stage
        (at_work x.marks x.party.call.stage mine_known.stands) made (others_hold hold) in
        rw (number-round party_of (party_left parts) l x r, number-set party_of (party_left parts') l x r p') less

    -- the blocks after it
    abbrev blocks_now : List ℕ
    blocks_now = blocks_after parts'.cells.form blocks parts.cells parts'.cells

    abbrev pub Outcome : Option (Reply T) → List (Party T W) → Type 0
    Outcome reply parties' =
        (t : Configuration T W)
        × StepsNearer (length l) (all_left parts (map party_of (l ++ (x ∷ r)))) (all_left parts' parties') (configuration_of blocks q parts (l ++ (x ∷ r)) gone came) x.party.id (record { mark = m; reply = reply; kept = left_by p' reply }) names t
        × Represents parts' parties' t × OnePlace parts parts' × (t.blocks ≡ blocks_now)

    pub core : (reply : Option (Reply T)) → IsStepOver parts x.party.call.stage names parts' p'.call.stage m reply
        → Outcome reply (after_step (map party_of (l ++ (x ∷ r))) (length l) p' reply)
    core None step =
        let made = step blocks q x.inner (all_seats l) (all_seats r) range round in
        let q' : Queue T = made.queue in
        let now : Channel T W = channel q' parts' in
        let at' = phase made.phase_now p'.call.stage in
        let at0 : Stage (Phase T) T W = phase x.inner x.party.call.stage in
        let e : Effect T W = record { channel = now; mark = m; woken = names } in
        let on : Progress q q' = moves_on before_it at0 e None at' made.moves in
        let next : ActiveCallWitness T W = record { party = p'; inner = made.phase_now; ask = x.ask; seen = now ∷ x.seen; marks = with_marked x.marks m before_it x.seen; told = x.told ++ telling at0; made = x.made + 1 } in
        let after_all : List (ActiveCallWitness T W) = map (saw now) l ++ (next ∷ map (saw now) r) in
        let seats_are : all_seats after_all ≡ all_seats l ++ (seats made.phase_now p'.call.stage ++ all_seats r) =
        seats_append (map (saw now) l) (next ∷ map (saw now) r) ∙ (ap (λ (zs : List (ActiveQueueCall T)). zs ++ (seats made.phase_now p'.call.stage ++ all_seats (map (saw now) r))) (seats_saw now l) ∙ ap (λ (zs : List (ActiveQueueCall T)). all_seats l ++ (seats made.phase_now p'.call.stage ++ zs)) (seats_saw now r)) in
        let parties_are : slice_set (map party_of (l ++ (x ∷ r))) (length l) p' ≡ map party_of after_all =
        set-round party_of l x r p' ∙ (ap (λ (zs : List (Party T W)). zs ++ (p' ∷ map party_of r)) (sym (party_saw now l)) ∙ (ap (λ (zs : List (Party T W)). map party_of (map (saw now) l) ++ (p' ∷ zs)) (sym (party_saw now r)) ∙ sym (map-round party_of (map (saw now) l) (next ∷ map (saw now) r)))) in
        let mine_after : ActiveCall T W = active_call_of next in
        let mine_named : ActiveCall T W = does (active_call_of x) at' m before_it now in
        let same : mine_after ≡ mine_named = ap (λ (n : ℕ). let u : ActiveCall T W = record mine_named { party = n } in u) id in
        let active_calls_are : map active_call_of after_all ≡ map (sees now) (map active_call_of l) ++ (mine_named ∷ map (sees now) (map active_call_of r)) =
        map-round active_call_of (map (saw now) l) (next ∷ map (saw now) r) ∙ (ap (λ (zs : List (ActiveCall T W)). zs ++ (mine_after ∷ map active_call_of (map (saw now) r))) (active_call_saw now l) ∙ (ap (λ (zs : List (ActiveCall T W)). map (sees now) (map active_call_of l) ++ (mine_after ∷ zs)) (active_call_saw now r) ∙ ap (λ (u : ActiveCall T W). map (sees now) (map active_call_of l) ++ (u ∷ map (sees now) (map active_call_of r))) same)) in
        let all_known : AllKnown now (map (sees now) (map active_call_of l) ++ (mine_named ∷ map (sees now) (map active_call_of r))) =
        known_both now (map (sees now) (map active_call_of l)) (mine_named ∷ map (sees now) (map active_call_of r)) (all_see before_it now on (map active_call_of l) left_known)
        (own_known before_it (active_call_of x) bal mine_known m now names at' made.moves, all_see before_it now on (map active_call_of r) right_known) in (
          configuration_of blocks_now q' parts' after_all (gone ++ gone_by m q.items) (came ++ came_by m x.ask),
          record {
            step = record {
              before = map active_call_of l;
              mine = active_call_of x;
              behind = map active_call_of r;
              at_now = at';
              there = map-round active_call_of l (x ∷ r);
              whose = refl;
              moves = made.moves;
              left = active_calls_are;
              named = names_of before_it at0 e None at' made.moves;
              finishes = refl;
              quick = own_in_time before_it (active_call_of x) bal mine_known m now names at' None made.moves;
              gone = refl;
              came = refl;
              held = moves_held before_it x.ask at0 x.marks x.seen e None at' mine_known.stands made.moves;
            };
            place = length-images active_call_of l;
            nearer = λ none hold. comes_nearer made hold;
          },
          record {
            witnesses = after_all;
            queue = q';
            parties_are = parties_are;
            under_way = refl;
            now = refl;
            fits = subst (λ (ss : List (ActiveQueueCall T)). FitsAt blocks_now parts'.cells q' ss) (sym seats_are)
                (fits_after blocks parts.cells parts'.cells q' (all_seats l ++ (seats made.phase_now p'.call.stage ++ all_seats r)) made.fits);
            bare = none_after parts'.cells.form blocks parts.cells parts'.cells;
            known = subst (λ (us : List (ActiveCall T W)). AllKnown now us) (sym active_calls_are) all_known;
            balanced = on.balanced bal;
          },
          made.one_place,
          refl,
        )
    core (Some y) step =
        let made = step blocks q x.inner (all_seats l) (all_seats r) range round in
        let q' : Queue T = made.queue in
        let now : Channel T W = channel q' parts' in
        let at' = phase made.phase_now p'.call.stage in
        let at0 : Stage (Phase T) T W = phase x.inner x.party.call.stage in
        let e : Effect T W = record { channel = now; mark = m; woken = names } in
        let on : Progress q q' = moves_on before_it at0 e (Some y) at' made.moves in
        let alone : seats made.phase_now p'.call.stage ≡ [] =
        answered_alone before_it at0 e y made.phase_now p'.call.stage made.moves in
        let after_all : List (ActiveCallWitness T W) = map (saw now) l ++ map (saw now) r in
        let fits' : FitsAt (chain_after blocks parts.cells parts'.cells) parts'.cells q' (all_seats l ++ all_seats r) =
        subst (λ (ss : List (ActiveQueueCall T)). FitsAt (chain_after blocks parts.cells parts'.cells) parts'.cells q' (all_seats l ++ (ss ++ all_seats r))) alone made.fits in
        let seats_are : all_seats after_all ≡ all_seats l ++ all_seats r =
        seats_append (map (saw now) l) (map (saw now) r) ∙ (ap (λ (zs : List (ActiveQueueCall T)). zs ++ all_seats (map (saw now) r)) (seats_saw now l) ∙ ap (λ (zs : List (ActiveQueueCall T)). all_seats l ++ zs) (seats_saw now r)) in
        let parties_are : remove (map party_of (l ++ (x ∷ r))) (length l) ≡ map party_of after_all =
        remove-round party_of l x r ∙ (ap (λ (zs : List (Party T W)). zs ++ map party_of r) (sym (party_saw now l)) ∙ (ap (λ (zs : List (Party T W)). map party_of (map (saw now) l) ++ zs) (sym (party_saw now r)) ∙ sym (map-round party_of (map (saw now) l) (map (saw now) r)))) in
        let active_calls_are : map active_call_of after_all ≡ map (sees now) (map active_call_of l) ++ map (sees now) (map active_call_of r) =
        map-round active_call_of (map (saw now) l) (map (saw now) r) ∙ (ap (λ (zs : List (ActiveCall T W)). zs ++ map active_call_of (map (saw now) r)) (active_call_saw now l) ∙ ap (λ (zs : List (ActiveCall T W)). map (sees now) (map active_call_of l) ++ zs) (active_call_saw now r)) in
        let all_known : AllKnown now (map (sees now) (map active_call_of l) ++ map (sees now) (map active_call_of r)) =
        known_both now (map (sees now) (map active_call_of l)) (map (sees now) (map active_call_of r)) (all_see before_it now on (map active_call_of l) left_known) (all_see before_it now on (map active_call_of r) right_known) in (
          configuration_of blocks_now q' parts' after_all (gone ++ gone_by m q.items) (came ++ came_by m x.ask),
          record {
            step = record {
              before = map active_call_of l;
              mine = active_call_of x;
              behind = map active_call_of r;
              at_now = at';
              there = map-round active_call_of l (x ∷ r);
              whose = refl;
              moves = made.moves;
              left = active_calls_are;
              named = names_of before_it at0 e (Some y) at' made.moves;
              finishes = own_finishes before_it (active_call_of x) bal mine_known m now names at' y (kept_by p'.call.stage) (λ kept there. kept_at made.phase_now p'.call.stage kept there) made.moves;
              quick = own_in_time before_it (active_call_of x) bal mine_known m now names at' (Some y) made.moves;
              gone = refl;
              came = refl;
              held = moves_held before_it x.ask at0 x.marks x.seen e (Some y) at' mine_known.stands made.moves;
            };
            place = length-images active_call_of l;
            nearer = λ none hold. absurd (let no : Some y ≡ None = none in cc);
          },
          record {
            witnesses = after_all;
            queue = q';
            parties_are = parties_are;
            under_way = refl;
            now = refl;
            fits = subst (λ (ss : List (ActiveQueueCall T)). FitsAt blocks_now parts'.cells q' ss) (sym seats_are)
                (fits_after blocks parts.cells parts'.cells q' (all_seats l ++ all_seats r) fits');
            bare = none_after parts'.cells.form blocks parts.cells parts'.cells;
            known = subst (λ (us : List (ActiveCall T W)). AllKnown now us) (sym active_calls_are) all_known;
            balanced = on.balanced bal;
          },
          made.one_place,
          refl,
        )

  -- a step of a party's call, as the code makes it, is a step in each configuration that is shown, wherever the party stands
  pub party_steps : {S : Type 0} (wakes : S → W → S → Type 0) (parts parts' : Parts T W) (sink sink' : S) (p p' : Party T W) (reply : Option (Reply T)) → p'.id ≡ p.id
      → IsChannelStep wakes parts p.call.stage sink parts' p'.call.stage p'.call.mark reply sink' → PartySteps wakes parts p sink reply parts' p' sink'
  party_steps wakes parts parts' sink sink' p p' reply id step parties k there s y range sh there' =
      let d = split party_of sh.witnesses k y (subst (λ (zs : List (Party T W)). slice_get zs k ≡ Some y) sh.parties_are there') in
      let l = d.0 in
      let x = d.1 in
      let r = d.2 in
      let same : y ≡ p = cc in
      let is : x.party ≡ p = d.4 ∙ same in
      let own : p'.id ≡ x.party.id = id ∙ sym (ap (λ (z : Party T W). z.id) is) in
      let made : IsChannelStep wakes parts x.party.call.stage sink parts' p'.call.stage p'.call.mark reply sink' =
      subst (λ (z : Party T W). IsChannelStep wakes parts z.call.stage sink parts' p'.call.stage p'.call.mark reply sink') (sym is) step in
      let names = made.0 in
      let in_range : IsInRange sh.queue = subst (λ (z : Channel T W). IsInRange z.queue) sh.now range in
      let fits : FitsAt s.blocks parts.cells sh.queue (all_seats (l ++ (x ∷ r))) = subst (λ (xs : List (ActiveCallWitness T W)). FitsAt s.blocks parts.cells sh.queue (all_seats xs)) d.3 sh.fits in
      let active_call_is : s.under_way ≡ map active_call_of (l ++ (x ∷ r)) = sh.under_way ∙ ap (λ (xs : List (ActiveCallWitness T W)). map active_call_of xs) d.3 in
      let known : AllKnown (channel sh.queue parts) (map active_call_of (l ++ (x ∷ r))) = subst (λ (us : List (ActiveCall T W)). AllKnown (channel sh.queue parts) us) active_call_is (subst (λ (z : Channel T W). AllKnown z s.under_way) sh.now sh.known) in
      let o = core parts parts' l r x sh.queue p' p'.call.mark names own s.blocks in_range fits known sh.balanced s.gone s.came reply made.2 in
      let t = o.0 in
      let e : Entry T = record { mark = p'.call.mark; reply = reply; kept = left_by p' reply } in
      let parties_is : parties ≡ map party_of (l ++ (x ∷ r)) = sh.parties_are ∙ ap (λ (xs : List (ActiveCallWitness T W)). map party_of xs) d.3 in
      let left : after_step (map party_of (l ++ (x ∷ r))) (length l) p' reply ≡ after_step parties k p' reply =
      ap (λ (zs : List (Party T W)). after_step zs (length l) p' reply) (sym parties_is) ∙ ap (λ n. after_step parties n p' reply) d.5 in
      let configuration_is : configuration_of s.blocks sh.queue parts (l ++ (x ∷ r)) s.gone s.came ≡ s = same_configuration s (channel sh.queue parts) (map active_call_of (l ++ (x ∷ r))) (sym sh.now) (sym active_call_is) in
      let first : List ℕ = all_left parts (map party_of (l ++ (x ∷ r))) in
      let last : List ℕ = all_left parts' (after_step (map party_of (l ++ (x ∷ r))) (length l) p' reply) in
      let of_party : StepsNearer (length l) first last s y.id e names t =
      subst (λ (n : ℕ). StepsNearer (length l) first last s n e names t) (ap (λ (z : Party T W). z.id) d.4)
      (subst (λ (z : Configuration T W). StepsNearer (length l) first last z x.party.id e names t) configuration_is o.1) in
      let from_here : StepsNearer (length l) (all_left parts parties) last s y.id e names t =
      subst (λ (zs : List (Party T W)). StepsNearer (length l) (all_left parts zs) last s y.id e names t) (sym parties_is) of_party in
      let to_there : StepsNearer (length l) (all_left parts parties) (all_left parts' (after_step parties k p' reply)) s y.id e names t =
      subst (λ (zs : List (Party T W)). StepsNearer (length l) (all_left parts parties) (all_left parts' zs) s y.id e names t) left from_here in
      record {
        names = names;
        woken = made.1;
        after = t;
        steps = subst (λ n. StepsNearer n (all_left parts parties) (all_left parts' (after_step parties k p' reply)) s y.id e names t) d.5 to_there;
        one_place = o.3;
        blocks = o.4;
        shown = subst (λ (zs : List (Party T W)). Represents parts' zs t) left o.2;
      }
