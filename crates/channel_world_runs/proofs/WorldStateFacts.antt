-- Steps of an interleaved channel, and runs of them.
use Rattle.std.specs.Prelude.{◌≡◌, ◌+◌, ◌-◌, ◌^◌, ◌≤◌, ◌<◌, ◌∷◌, ◌++◌, ◌⊎◌}
use Rattle.channel_world_runs.proofs.Lemmas.{arith, ℕ, min, Bool, true, false, nat_lt, slice_index_or, List, [], map, length, slice_get, vec_len, vec_capacity, Option, None, Some, inl, inr, refl, sym, ap, ◌∙◌, subst, append_assoc, length-map, map-append, IsInRange, shows, Parts, WaitLists, listeners, Channel, parts_of, Mark, Reply, WaitList, Call, Waiter, counted, brought_in, taken_out, IsRun, new_configuration, Begins, PartyBegins, telling, dropping, left_at, ActiveCall, Configuration, ActiveCallWitness, PartySteps, Represents, StepsAt, StepsNearer, active_call_of, after_step, all_seats, blocks_after, brought, left_by, IsBalanced, Steps as ChannelSteps, ChannelEntry, Party, asks, names_begun, on_return_of, activity_after, activity_begun, activity_of, agent_of, left_of, Observation, Owed, parties_of, agents_of, activities_of, parts_in, name_state_of, calls_in, lefts_in, AreCounted, HasOnePlace, Shown, IsQuiet, StandsIn, IsSame, LedByStep, LeadsByStep, HasPositions, HasPosition, brings, is_one_place, yet_in, WorldRefusal, nat_tests, step_refusal, first_name_table, no_places, order_begun, NameState, StepIsMade, MayRefuseStep, StopsAt, name_state_begun, name_state_ended, with_woken, channel_step, Moment, FewLeft, LeadsBy, accepted_in, left_in, moment_of, RanTo, Hears, CallUnderWay, WorldState, PartyId, Entry, Step, Sink, get-map, map-after, run_none, run_on, few_left, messages_counted, messages_moved, blocks_begun, WorldInvariant, no_accounts, next_accounts, none_read, balanced_in, has_position, in_range, brought_most, no_message, step_brings, begin_brings, yet_most, all_heard, few_woken}
use Rattle.channel_steps.specs.solo.Run as queue
use Rattle.channel_steps.proofs.solo.Counts.{counted_few}
use Rattle.channel_steps.proofs.every_run.Bounds.{step_bounded}
use Rattle.channel_calls.specs.declared.plain.PlainChannel.{PlainChannel}
use Rattle.channel_calls.specs.declared.mark.Mark.TheVariants.{Nothing}
use Rattle.channel_world_model.specs.declared.run.Stopped.{Stopped}
use Rattle.channel_world_runs.proofs.WorldInvariant.{kept_first, kept_next}
use Rattle.channel_world_runs.proofs.LeftFacts.{comes_nearer, few_of, parties_shown}
use Rattle.channel_world_runs.proofs.ActivityFacts.{begun_noted, begun_few, stepped_noted, stepped_few}
use Rattle.channel_world_runs.proofs.OwedFacts.{owed}
use Rattle.channel_world_runs.proofs.ObservationFacts.{observation_owed, observation_same}

module _ {T : Type 0} where
  -- ---- the calls under way

  abbrev party_in : CallUnderWay T → Party T Waiter
  party_in c = c.party

  -- as many are noted as are under way
  pub calls_many : (f : WorldState T) (s : Configuration T Waiter) → Shown f s → length s.under_way ≡ calls_in f
  calls_many f s sh =
      let same = ap length sh.activities in
      let noted = length-map f.calls.items (λ (c : CallUnderWay T). c.activity) in
      let are = length-map s.under_way (λ (u : ActiveCall T Waiter). activity_of u) in
      omega (arith, same, noted, are)

  -- ---- at the start

  -- where no call is under way, there is no party
  no_parties : (parts : Parts T Waiter) (parties : List (Party T Waiter)) (s : Configuration T Waiter) → s.under_way ≡ []
      → Represents parts parties s → parties ≡ []
  no_parties parts parties s quiet sh =
      sh.parties_are ∙ ap (λ (xs : List (ActiveCallWitness T Waiter)). map (λ (x : ActiveCallWitness T Waiter). x.party) xs) (none_read active_call_of sh.witnesses (sym sh.under_way ∙ quiet))

  pub no_calls : (f : WorldState T) (s : Configuration T Waiter) → s.under_way ≡ [] → Shown f s → IsQuiet f
  no_calls f s quiet sh = none_read party_in f.calls.items (no_parties (parts_in f) (parties_of f) s quiet sh.shows)

  pub new_shown : (f : WorldState T) (parties : List (Party T Waiter)) (cap : Option ℕ) → Represents (parts_in f) parties (new_configuration cap) → f.messages ≡ 0
      → f.accepted ≡ 0 → f.has_one_place ≡ is_one_place cap → f.calls.items ≡ [] → Shown f (new_configuration cap)
  new_shown f parties cap sh none nothing place nobody = record {
    shows = rw nobody (subst (λ (ps : List (Party T Waiter)). Represents (parts_in f) ps (new_configuration cap)) (no_parties (parts_in f) parties (new_configuration cap) refl sh) sh);
    place = place;
    positions = inr (record { accepted = omega arith; within = omega (arith, nothing) });
    messages = none;
    activities = rw nobody refl;
    few = tt;
  }

  -- ---- a call begins

  -- what is read off the calls under way, once one more is
  one_more : {A : Type 0} (f : CallUnderWay T → A) (old new : List (CallUnderWay T)) (x : CallUnderWay T) (y : A) → new ≡ old ++ x ∷ [] → f x ≡ y
      → map f new ≡ map f old ++ y ∷ []
  one_more {A} f old new x y calls is = ap (λ (cs : List (CallUnderWay T)). map f cs) calls ∙ (map-append f old (x ∷ []) ∙ ap (λ (z : A). map f old ++ z ∷ []) is)

  -- where a call begins that has a position, the messages that may yet come are within the positions
  begun_counted : (p : PartyId) (c : Call T) (f g : WorldState T) (s t : Configuration T Waiter) (entry : ChannelEntry T) → HasPosition c f
      → Shown f s → Begins s p.0 (asks f.name_table c) entry t → g.accepted ≡ f.accepted → g.has_one_place ≡ f.has_one_place
      → HasOnePlace g ⊎ AreCounted g t
  begun_counted p c f g s t entry room sh b counts place = by sh.positions where
    more : yet_in t.under_way ≤ yet_in s.under_way + length (brought (asks f.name_table c))
    more = begin_brings s p.0 (asks f.name_table c) entry t b

    same : t.now.queue.accepted ≡ s.now.queue.accepted
    same = ap (λ (x : Channel T Waiter). x.queue.accepted) b.now

    counted_in : AreCounted f s → f.accepted + yet_in t.under_way < 2 ^ 61 → AreCounted g t
    counted_in k within =
        let least = k.accepted in
        record { accepted = omega (arith, counts, same, least); within = omega (arith, counts, within) }

    brings_one : AreCounted f s → HasPositions (calls_in f + 1) f → HasOnePlace g ⊎ AreCounted g t
    brings_one k (inl one) = inl (place ∙ one)
    brings_one k (inr left) =
        let few = yet_most s.under_way in
        let many = calls_many f s sh in
        let one = brought_most (asks f.name_table c) in
        inr (counted_in k (omega (arith, more, left, few, many, one)))

    may_bring : AreCounted f s → (x : Bool) → brings f.name_table c ≡ x → HasOnePlace g ⊎ AreCounted g t
    may_bring k true e = brings_one k (room e)
    may_bring k false e =
        let none = no_message f.name_table c e in
        let before = k.within in
        inr (counted_in k (omega (arith, more, none, before)))

    by : HasOnePlace f ⊎ AreCounted f s → HasOnePlace g ⊎ AreCounted g t
    by (inl one) = inl (place ∙ one)
    by (inr k) = may_bring k (brings f.name_table c) refl

  pub has_begun : (p : PartyId) (c : Call T) (old new : WorldState T) (e : Entry T) (x : CallUnderWay T)
      → PartyBegins p.0 (asks old.name_table c) x.party
      → agent_of x ≡ record { party = p.0; on_return = on_return_of old.name_table c }
      → x.activity ≡ activity_begun (asks old.name_table c) → new.calls.items ≡ old.calls.items ++ x ∷ []
      → e.mark ≡ Nothing → e.reply ≡ None → e.woken.items ≡ []
      → new.channel ≡ old.channel → new.name_table ≡ names_begun old.name_table c → new.order ≡ order_begun c old.order
      → new.messages ≡ old.messages → new.accepted ≡ old.accepted → new.has_one_place ≡ old.has_one_place
      → HasPosition c old → step_refusal old.name_table (agents_of old) (Step.Begin p c) ≡ None
      → LeadsByStep (Step.Begin p c) old e new
  has_begun p c old new e x h agent noted calls mark reply woken same names order messages counts place room fine s sh =
      let entry : ChannelEntry T = record { mark = Nothing; reply = None; kept = None } in
      let b = h (parties_of old) (parts_in old) s sh.shows in
      let parts : parts_in new ≡ parts_in old = ap parts_of same in
      let parties : parties_of new ≡ parties_of old ++ x.party ∷ [] = one_more party_in old.calls.items new.calls.items x x.party calls refl in
      let agents : agents_of new ≡ agents_of old ++ record { party = p.0; on_return = on_return_of old.name_table c } ∷ [] =
      one_more agent_of old.calls.items new.calls.items x _ calls agent in
      let activities : activities_of new ≡ activities_of old ++ activity_begun (asks old.name_table c) ∷ [] =
      one_more (λ (y : CallUnderWay T). y.activity) old.calls.items new.calls.items x _ calls noted in
      let name_state : name_state_of new ≡ name_state_begun p c (name_state_of old) = rw (names, order, agents) refl in
      record {
        after = b.after;
        touches = parts;
        blocks = subst (λ (p : Parts T Waiter). b.after.blocks ≡ blocks_after p.cells.form s.blocks (parts_in old).cells p.cells) (sym parts)
            (blocks_begun (parts_in old) (parties_of old) s b.after sh.shows b.begins.blocks);
        made = record {
          not_refused = fine;
          kept = None;
          next = rw (mark, reply) (b.begins, woken);
          name_state = name_state;
        };
        nearer = tt;
        shown = record {
          shows = rw (parts, parties) b.shown;
          place = place ∙ (sh.place ∙ sym (ap (λ (x : Channel T Waiter). is_one_place x.queue.capacity) b.begins.now));
          positions = begun_counted p c old new s b.after entry room sh b.begins counts place;
          messages = messages ∙ (sh.messages ∙ sym (ap (λ (x : Channel T Waiter). length x.queue.items) b.begins.now));
          activities = activities ∙ begun_noted s p.0 (asks old.name_table c) entry b.after (activities_of old) b.begins sh.activities;
          few = begun_few s p.0 (asks old.name_table c) entry b.after b.begins sh.few;
        };
      }

  -- ---- a call makes a step

  -- the messages after a step are counted by its mark: one slot holds one at most
  counted_now : (new : WorldState T) (s : Configuration T Waiter) (p : ℕ) (e : ChannelEntry T) (names : List Waiter) (t : Configuration T Waiter)
      → ChannelSteps s p e names t → IsBalanced s.now.queue → Represents (parts_in new) (parties_of new) t
      → queue.HasNextPosition s.now.queue → counted (length s.now.queue.items) e.mark ≡ length t.now.queue.items
  counted_now new s p e names t n balanced sh (inr low) =
      messages_counted s p e names t n balanced (balanced_in _ _ t sh) (omega (arith, low))
  counted_now new s p e names t n balanced sh (inl one) =
      counted_few (length s.now.queue.items) (length t.now.queue.items) e.mark
      (messages_moved s p e names t n balanced (balanced_in _ _ t sh)) (omega (arith, most, here))
    where
      here : length t.now.queue.items ≡ length sh.queue.items
      here = ap (λ (c : Channel T Waiter). length c.queue.items) sh.now

      same : sh.queue.capacity ≡ s.now.queue.capacity
      same = sym (ap (λ (c : Channel T Waiter). c.queue.capacity) sh.now) ∙ (step_bounded s t p e names n).capacity

      most : length sh.queue.items ≤ 1
      most = (shows (parts_in new).cells sh.queue (all_seats sh.witnesses) (_, sh.fits)).within 1 (same ∙ one)

  -- those that were accepted after it, with those that may yet come
  counted_then : (old new : WorldState T) (s : Configuration T Waiter) (p : ℕ) (e : ChannelEntry T) (names : List Waiter) (t : Configuration T Waiter)
      (came : ℕ) → ChannelSteps s p e names t → came ≡ brought_in e.mark → new.accepted ≡ min (old.accepted + came) (2 ^ 64 - 1)
      → new.has_one_place ≡ old.has_one_place → HasOnePlace old ⊎ AreCounted old s → HasOnePlace new ⊎ AreCounted new t
  counted_then old new s p e names t came n brought counts place (inl one) = inl (place ∙ one)
  counted_then old new s p e names t came n brought counts place (inr k) =
      let b = step_brings s p e names t n in
      let grown = b.accepted in
      let fewer = b.fewer in
      let accepted = k.accepted in
      let within = k.within in
      inr (record {
        accepted = omega (arith, accepted, within, grown, fewer, brought, counts);
        within = omega (arith, within, fewer, brought, counts);
      })

  -- what is read off the calls under way, once the k-th has become this one, or answered
  read_off : {A : Type 0} (f : CallUnderWay T → A) (k : ℕ) (d : CallUnderWay T) (old new : WorldState T) (r : Option (Reply T))
      → new.calls.items ≡ after_step old.calls.items k d r → map f new.calls.items ≡ after_step (map f old.calls.items) k (f d) r
  read_off f k d old new r calls = ap (λ (cs : List (CallUnderWay T)). map f cs) calls ∙ map-after f old.calls.items k d r

  pub has_stepped : (p : PartyId) (k n came : ℕ) (c d : CallUnderWay T) (old new : WorldState T) (empty full : Sink) (e : Entry T)
      → slice_get old.calls.items k ≡ Some c → c.party.id ≡ p.0
      → PartySteps Hears (parts_in old) c.party empty e.reply (parts_in new) d.party full → e.mark ≡ d.party.call.mark
      → d.activity ≡ activity_after d.party.call.mark c.activity
      → new.calls.items ≡ after_step old.calls.items k d e.reply
      → empty.names.items ≡ [] → ((line : WaitList) → length (listeners line (parts_in old).wait_lists).waiting ≤ n)
      → n ≤ vec_capacity empty.names → e.woken.items ≡ full.names.items
      → name_state_of new ≡ name_state_ended k (agent_of c) e.reply (left_by d.party e.reply) (with_woken full.names.items (name_state_of old))
      → new.messages ≡ counted old.messages e.mark → came ≡ brought_in e.mark
      → new.accepted ≡ min (old.accepted + came) (2 ^ 64 - 1) → new.has_one_place ≡ old.has_one_place
      → step_refusal old.name_table (agents_of old) (Step.Step p) ≡ None
      → LeadsByStep (Step.Step p) old e new
  has_stepped p k n came c d old new empty full e there whose steps mark active calls none most room woken ended messages
      brought counts place fine s sh =
      let entry : ChannelEntry T = record { mark = e.mark; reply = e.reply; kept = left_by d.party e.reply } in
      let position = has_position old s sh in
      let range : IsInRange s.now.queue = in_range s.now.queue position in
      let left : parties_of new ≡ after_step (parties_of old) k d.party e.reply = read_off party_in k d old new e.reply calls in
      let made : StepsAt Hears (parts_in old) (parties_of old) k empty entry (parts_in new) (parties_of new) full =
      rw (mark, left) (steps (parties_of old) k (get-map party_in old.calls.items k c there)) in
      let h = made s c.party range sh.shows (get-map party_in old.calls.items k c there) in
      let wait_lists : (parts_in old).wait_lists ≡ s.now.wait_lists = sym (ap (λ (c : Channel T Waiter). c.wait_lists) sh.shows.now) in
      let most_now : ((line : WaitList) → length (listeners line s.now.wait_lists).waiting ≤ n) =
      subst (λ (r : WaitLists Waiter). (line : WaitList) → length (listeners line r).waiting ≤ n) wait_lists most in
      let few = few_woken n s.now most_now (telling h.steps.step.mine.at) (dropping h.steps.step.mine.at) h.names h.steps.step.named in
      let start : vec_len empty.names ≡ length empty.names.items = empty.names.ok.0 in
      let nobody : length empty.names.items ≡ 0 = ap length none in
      let heard : full.names.items ≡ h.names = all_heard empty h.names full h.woken (omega (arith, few, room, start, nobody))
      ∙ ap (λ (ws : List Waiter). ws ++ h.names) none in
      let messages_now = counted_now new s c.party.id entry h.names h.after h.steps.step (balanced_in _ _ s sh.shows) h.shown position in
      let kept_capacity = (step_bounded s h.after c.party.id entry h.names h.steps.step).capacity in
      let his : StepsNearer k (lefts_in old) (lefts_in new) s p.0 entry e.woken.items h.after = rw (woken, heard, sym whose) h.steps in
      record {
        after = h.after;
        touches = h.one_place;
        blocks = h.blocks;
        made = record {
          not_refused = fine;
          kept = left_by d.party e.reply;
          next = his.step;
          name_state = (k, agent_of c, get-map agent_of old.calls.items k c there, whose, rw woken ended);
        };
        nearer = λ goes_on handle_entry.
            subst (λ (j : ℕ). left_at j (lefts_in new) < left_at j (lefts_in old)) (sym his.place) (his.nearer goes_on handle_entry);
        shown = record {
          shows = h.shown;
          place = place ∙ (sh.place ∙ sym (ap (λ (cap : Option ℕ). is_one_place cap) kept_capacity));
          positions = counted_then old new s c.party.id entry h.names h.after came h.steps.step brought counts place sh.positions;
          messages = messages ∙ (ap (λ m. counted m e.mark) sh.messages ∙ messages_now);
          activities = read_off (λ (x : CallUnderWay T). x.activity) k d old new e.reply calls
              ∙ stepped_noted s c.party.id entry h.names h.after h.steps.step k h.steps.place (activities_of old) c.activity d.activity sh.activities
              (get-map (λ (x : CallUnderWay T). x.activity) old.calls.items k c there) (active ∙ ap (λ (m : Mark). activity_after m c.activity) (sym mark));
          few = stepped_few s c.party.id entry h.names h.after h.steps.step (balanced_in _ _ s sh.shows)
              (balanced_in _ _ h.after h.shown) sh.few;
        };
      }

  -- ---- runs

  -- all that holds where all is kept
  pub stands_in : (f : WorldState T) (s : Configuration T Waiter) → Shown f s → WorldInvariant (name_state_of f) s → StandsIn f s
  stands_in f s sh k = record { shown = sh; kept = k; owed = observation_owed f s sh (owed (name_state_of f) s k.owned k.woken k.sound) }

  -- what was just opened stands
  pub new_stands : (f : WorldState T) (cap : Option ℕ) → Shown f (new_configuration cap)
      → name_state_of f ≡ record { name_table = first_name_table; order = no_places; agents = [] } → StandsIn f (new_configuration cap)
  new_stands f cap sh name_state =
      stands_in f (new_configuration cap) sh (subst (λ (b : NameState T). WorldInvariant b (new_configuration cap)) (sym name_state) (kept_first cap))

  -- few steps are left in what stands
  pub few_in : (f : WorldState T) (s : Configuration T Waiter) → StandsIn f s → FewLeft (moment_of f s)
  few_in f s k party =
      few_of party (parts_in f) (parties_of f) s.under_way (parties_shown (parts_in f) (parties_of f) s k.shown.shows)
      (few_left (parts_in f) (parties_of f) s k.shown.shows)

  -- a step that was made leads from a configuration in which it stood to one in which it stands
  pub step_stands : (x : Step T) (f g : WorldState T) (e : Entry T) (s : Configuration T Waiter) (k : StandsIn f s) (t : LedByStep x f e g s)
      → StandsIn g t.after
  step_stands x f g e s k t =
      stands_in g t.after t.shown (kept_next (name_state_of f) (name_state_of g) s t.after x e t.made k.kept)

  leads_by : (x : Step T) (f g : WorldState T) (e : Entry T) (s : Configuration T Waiter) (k : StandsIn f s) (t : LedByStep x f e g s)
      → LeadsBy (moment_of f s) x e (moment_of g t.after)
  leads_by x f g e s k t =
      let after = step_stands x f g e s k t in
      record {
        touches = t.touches;
        blocks = t.blocks;
        made = t.made;
        nearer = comes_nearer x f g e s k t;
        holds = record {
          world_state = g;
          is = record { moment = refl; stands = after };
          kept = after.kept;
          few = few_in g t.after after;
        };
      }

  -- ---- numbers

  accepted_more : (es : List (Entry T)) (e : Entry T) → accepted_in (es ++ e ∷ []) ≡ accepted_in es + brought_in e.mark
  accepted_more [] e = omega arith
  accepted_more (f ∷ es) e = let h = accepted_more es e in omega (arith, h)

  left_more : (es : List (Entry T)) (e : Entry T) → left_in (es ++ e ∷ []) ≡ left_in es + taken_out e.mark
  left_more [] e = omega arith
  left_more (f ∷ es) e = let h = left_more es e in omega (arith, h)

  -- those that are there after a step, and went out, are those that were there, and came in
  next_numbers : (x : Step T) (b c : NameState T) (s t : Configuration T Waiter) (e : Entry T) → StepIsMade b s x e c t → IsBalanced s.now.queue
      → IsBalanced t.now.queue
      → length t.now.queue.items + taken_out e.mark ≡ length s.now.queue.items + brought_in e.mark
  next_numbers (Step.Begin p call) b c s t e made before after =
      let n = made.next.0 in
      let mark : e.mark ≡ Nothing = ap (λ (y : ChannelEntry T). y.mark) n.entry in
      let same : length t.now.queue.items ≡ length s.now.queue.items =
      ap (λ (d : Channel T Waiter). length d.queue.items) n.now in
      let none : taken_out e.mark ≡ 0 = ap taken_out mark in
      let nothing : brought_in e.mark ≡ 0 = ap brought_in mark in
      omega (arith, same, none, nothing)
  next_numbers (Step.Step p) b c s t e made before after = messages_moved s p.0 _ e.woken.items t made.next before after

  -- ---- runs

  pub ran_none : (steps : List (Step T)) (f : WorldState T) → RanTo steps steps f [] f
  ran_none steps f s k = record {
    made = [];
    last = s;
    first = refl;
    run = run_none LeadsBy (moment_of f s);
    stands = k;
    accounts = no_accounts s;
    numbers = refl;
  }

  pub ran_more : (steps left : List (Step T)) (x : Step T) (f : WorldState T) (trace : List (Entry T)) (g : WorldState T)
      (e : Entry T) (h : WorldState T)
      → RanTo steps (x ∷ left) f trace g → LeadsByStep x g e h → RanTo steps left f (trace ++ e ∷ []) h
  ran_more steps left x f trace g e h ran stepped s k =
      let r = ran s k in
      let t = stepped r.last r.stands.shown in
      let n : Moment T = moment_of h t.after in
      let one = leads_by x g h e r.last r.stands t in
      record {
        made = r.made ++ x ∷ [];
        last = t.after;
        first = r.first ∙ sym (append_assoc r.made (x ∷ []) left);
        run = run_on LeadsBy (moment_of f s) (moment_of g r.last) n r.made (x ∷ []) trace (e ∷ []) r.run
            (record { moments = n ∷ []; each = (one, tt); ends = refl });
        stands = step_stands x g h e r.last r.stands t;
        accounts = next_accounts s r.last t.after (channel_step g.name_table x) _ e.woken.items r.accounts t.made.next;
        numbers = (
            let one = next_numbers x (name_state_of g) (name_state_of h) r.last t.after e t.made (balanced_in _ _ r.last r.stands.shown.shows)
            (balanced_in _ _ t.after t.shown.shows) in
            let so_far = r.numbers in
            omega (arith, so_far, one, accepted_more trace e, left_more trace e)
            );
      }

  -- ---- why a run stops

  pub stops_here : (b : NameState T) (left : List (Step T)) (x : Step T) (made n : ℕ) (why : WorldRefusal) (o : Option Stopped)
      → true ≡ nat_lt 0 (length left) → x ≡ slice_index_or left 0 x → n ≡ made → o ≡ Some (record { place = made; why = why })
      → MayRefuseStep b x why → StopsAt b left n o
  stops_here b [] x made n why o e p m f h = absurd (cc e)
  stops_here b (y ∷ ys) x made n why o e p m f h = rw f (sym m, subst (λ (z : Step T). MayRefuseStep b z why) p h)

  pub stops_back : (b : NameState T) (left rest : List (Step T)) (x : Step T) (made n : ℕ) (why : WorldRefusal) (o : Option Stopped)
      → left ≡ x ∷ rest → n ≡ made → o ≡ Some (record { place = made; why = why }) → MayRefuseStep b x why → StopsAt b left n o
  stops_back b left rest x made n why o e m f h = rw (e, f) (sym m, h)

  pub stops_at_end : (b : NameState T) (left : List (Step T)) (n : ℕ) → false ≡ nat_lt 0 (length left) → StopsAt b left n None
  stops_at_end b [] n e = refl
  stops_at_end b (x ∷ xs) n e = absurd (grind (arith, nat_tests))

  -- the step in front
  pub first_is : (left : List (Step T)) (x y : Step T) (rest : List (Step T)) → x ≡ slice_index_or left 0 x
      → left ≡ y ∷ rest → x ≡ y
  first_is left x y rest p e = p ∙ ap (λ (l : List (Step T)). slice_index_or l 0 x) e

  -- ---- room that was taken changes nothing

  pub names_same : (g h : WorldState T) → IsSame g h → name_state_of h ≡ name_state_of g
  names_same g h same = rw (same.name_table, same.order, same.calls) refl

  shown_same : (g h : WorldState T) (s : Configuration T Waiter) → IsSame g h → Shown g s → Shown h s
  shown_same g h s same sh =
      let parts : parts_in h ≡ parts_in g = ap (λ c. parts_of c) same.channel in
      record {
        shows = rw (parts, same.calls) sh.shows;
        place = same.place ∙ sh.place;
        positions = by sh.positions;
        messages = rw same.messages sh.messages;
        activities = rw same.calls sh.activities;
        few = sh.few;
      }
    where
      by : HasOnePlace g ⊎ AreCounted g s → HasOnePlace h ⊎ AreCounted h s
      by (inl one) = inl (same.place ∙ one)
      by (inr k) = inr (record { accepted = rw same.accepted k.accepted; within = rw same.accepted k.within })

  pub stands_same : (g h : WorldState T) (s : Configuration T Waiter) → IsSame g h → StandsIn g s → StandsIn h s
  stands_same g h s same k = record {
    shown = shown_same g h s same k.shown;
    kept = rw (names_same g h same) k.kept;
    owed = subst (λ (w : Observation T). Owed w) (sym (observation_same g h same)) k.owed;
  }

  abbrev moment_with : Parts T Waiter → List (CallUnderWay T) → Configuration T Waiter → NameState T → Moment T
  moment_with parts calls s b = record { parts = parts; configuration = s; name_state = b; left = λ party. left_of party parts (map party_in calls) }

  moment_same : (g h : WorldState T) (s : Configuration T Waiter) → IsSame g h → moment_of h s ≡ moment_of g s
  moment_same g h s same =
      ap (λ (c : PlainChannel T Waiter). moment_with (parts_of c) h.calls.items s (name_state_of h)) same.channel
      ∙ (ap (λ (cs : List (CallUnderWay T)). moment_with (parts_in g) cs s (name_state_of h)) same.calls
      ∙ ap (λ (b : NameState T). moment_with (parts_in g) g.calls.items s b) (names_same g h same))

  pub ran_same : (steps left left' : List (Step T)) (f : WorldState T) (trace : List (Entry T)) (g h : WorldState T) → left' ≡ left
      → IsSame g h → RanTo steps left f trace g → RanTo steps left' f trace h
  ran_same steps left left' f trace g h more same ran s k =
      let r = ran s k in
      record {
        made = r.made;
        last = r.last;
        first = rw more r.first;
        run = subst (λ (n : Moment T). IsRun LeadsBy (moment_of f s) r.made trace n) (sym (moment_same g h r.last same)) r.run;
        stands = stands_same g h r.last same r.stands;
        accounts = r.accounts;
        numbers = r.numbers;
      }
