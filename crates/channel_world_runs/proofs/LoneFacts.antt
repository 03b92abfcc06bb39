-- A call made alone, by names: what its code does, and what is kept.
use Rattle.std.specs.Prelude.{◌≡◌, ◌+◌, ◌-◌, ◌≤◌, ◌^◌, ◌∷◌, ◌⊎◌}
use Rattle.channel_world_runs.proofs.Lemmas.{arith, min, ℕ, Bool, true, false, List, [], map, length, drop, Option, None, Result, Ok, Err, IfOk, OnErr, inl, inr, refl, sym, ap, ◌∙◌, subst, vec_len, vec_capacity, Vec, Channel, ChannelAsk, Reply, Alone, LoneRun, Call, Waiter, Answered, FitsAt, ActiveCall, Configuration, ActiveCallWitness, active_call_of, all_seats, Represents, asks, BeginsByName, parties_of, agents_of, parts_in, name_state_of, AreCounted, HasOnePlace, Shown, IsQuiet, IsSame, LeadsOn, activity_of, WorldInvariant, All, BringsWithin, CallsAlone, FinishesAlone, WakesAtMost, brings, accepted_by, is_one_place, yet_in, begin_refusal, NameState, Reaches, reply_of, WakeOrder, order_begun, Begun, NameTable, WorldState, agent_of, CallUnderWay, Sink, none_read, no_accounts, run_accounts, Admitted, admitted, came_most, counted_alone, has_position, no_way, lone_way, all_heard, drop_front}
use Rattle.channel_steps.specs.solo.Run.{HasNextPosition, IsAtRest}
use Rattle.channel_world_runs.specs.WorldState as place
use Rattle.channel_world_runs.proofs.WorldInvariant.{kept_alone}
use Rattle.channel_world_runs.proofs.ActivityFacts.{TookFew}
use Rattle.channel_world_runs.proofs.WorldStateFacts.{stands_in, stands_same}
use Rattle.channel_world_runs.proofs.PlaceFacts.{Counted}

module _ {T : Type 0} where
  -- a configuration that is shown has none then
  pub none_under_way : (f : WorldState T) (s : Configuration T Waiter) → IsQuiet f → Shown f s → s.under_way ≡ []
  none_under_way f s quiet sh =
      none_read activity_of s.under_way (sym sh.activities ∙ ap (λ (cs : List (CallUnderWay T)). map (λ (c : CallUnderWay T). c.activity) cs) quiet)

  pub no_agents : (f : WorldState T) → IsQuiet f → agents_of f ≡ []
  no_agents f quiet = ap (λ (cs : List (CallUnderWay T)). map agent_of cs) quiet

  pub no_parties : (f : WorldState T) → IsQuiet f → parties_of f ≡ []
  no_parties f quiet = ap (λ (cs : List (CallUnderWay T)). map (λ (c : CallUnderWay T). c.party) cs) quiet

  -- the cells are at rest
  pub is_at_rest : (f : WorldState T) (s : Configuration T Waiter) → Shown f s → IsQuiet f → IsAtRest (parts_in f)
  is_at_rest f s sh quiet =
      let q = sh.shows.queue in
      let none = none_read active_call_of sh.shows.witnesses (sym sh.shows.under_way ∙ none_under_way f s quiet sh) in (
        q,
        subst (λ (x : Channel T Waiter). HasNextPosition x.queue) sh.shows.now (has_position f s sh),
        (s.blocks, subst (λ (xs : List (ActiveCallWitness T Waiter)). FitsAt s.blocks (parts_in f).cells q (all_seats xs)) none sh.shows.fits),
      )

  -- a call that was made alone left the messages that were counted within the positions
  counted_then : (old new : WorldState T) (b : Bool) (x : Reply T) (came : ℕ) (s t : Configuration T Waiter)
      → (s.now.queue.accepted ≤ old.accepted → Counted old.accepted b x t) → place.HasPositions came old → came ≡ accepted_by b x
      → new.accepted ≡ min (old.accepted + came) (2 ^ 64 - 1) → new.has_one_place ≡ old.has_one_place → t.under_way ≡ []
      → HasOnePlace old ⊎ AreCounted old s → HasOnePlace new ⊎ AreCounted new t
  counted_then old new b x came s t counted room same counts kept over (inl one) = inl (kept ∙ one)
  counted_then old new b x came s t counted room same counts kept over (inr k) = by room where
    none : yet_in t.under_way ≡ 0
    none = ap yet_in over

    by : place.HasPositions came old → HasOnePlace new ⊎ AreCounted new t
    by (inl one) = inl (kept ∙ one)
    by (inr most) =
        let now : Counted old.accepted b x t = counted k.accepted in
        let accepted = now.accepted in
        inr (record { accepted = omega (arith, accepted, same, counts, most); within = omega (arith, none, counts, most) })

  -- where there is a position for whatever a call may bring, there is one for what it does
  pub brings_within : (c : Call T) (f : WorldState T) → place.HasPosition c f → BringsWithin c f
  brings_within c f room s o sh all alone = by (brings f.name_table c) refl where
    one : place.HasPositions (place.calls_in f + 1) f → place.HasPositions (accepted_by true o.reply) f
    one (inl single) = inl single
    one (inr left) = let most = came_most o.reply in inr (omega (arith, left, most))

    none : HasOnePlace f ⊎ AreCounted f s → place.HasPositions (accepted_by false o.reply) f
    none (inl single) = inl single
    none (inr k) = let within = k.within in inr (omega (arith, within))

    by : (b : Bool) → brings f.name_table c ≡ b → place.HasPositions (accepted_by b o.reply) f
    by true e = one (room e)
    by false e = none sh.positions

  -- a call that begins where no other is under way, and is made to its end, is made alone
  pub is_called : (c : Call T) (old new : WorldState T) (names : NameTable T) (order : WakeOrder) (begun : Begun T) (b : Bool) (before : Vec Waiter)
      (d : Answered T) (room : ℕ)
      → FinishesAlone begun b before (record old { name_table = names; order = order }) d new → BeginsByName old.name_table c begun names
      → ((s : Configuration T Waiter) → WorldInvariant (name_state_of old) s → order ≡ order_begun c old.order) → b ≡ brings old.name_table c → IsQuiet old → BringsWithin c old
      → length before.items + room ≤ vec_capacity before → WakesAtMost room c old
      → CallsAlone c old d.reply (drop (length before.items) d.woken.items) new
  is_called c old new names order begun b before d room made by_name placed may quiet place_left enough few s sh all =
      let empty : Sink = record { names = before } in
      let r = made.run s 0 (has_position old s sh) (subst (λ ps. Represents (parts_in old) ps s) (no_parties old quiet) sh.shows) in
      let alone : Alone (asks old.name_table c) s.now r.outcome =
      subst (λ (x : ChannelAsk T Waiter). Alone x s.now r.outcome) by_name.ask r.does in
      let most = few s r.outcome sh all alone in
      let start : vec_len before ≡ length before.items = before.ok.0 in
      let heard : drop (length before.items) d.woken.items ≡ r.outcome.woken =
      ap (λ (ws : List Waiter). drop (length before.items) ws) (all_heard empty r.outcome.woken (record { names = d.woken }) r.woken (omega (arith, most, enough, start)))
      ∙ drop_front before.items r.outcome.woken in
      let run : LoneRun s 0 (asks old.name_table c) r.outcome r.after =
      subst (λ (x : ChannelAsk T Waiter). LoneRun s 0 x r.outcome r.after) by_name.ask r.run in
      let said : accepted_by b d.reply ≡ accepted_by (brings old.name_table c) r.outcome.reply =
      ap (λ (x : Bool). accepted_by x d.reply) may ∙ ap (λ (y : Reply T). accepted_by (brings old.name_table c) y) r.reply in
      let capacity : r.after.now.queue.capacity ≡ s.now.queue.capacity =
      ap (λ (x : Channel T Waiter). x.queue.capacity) r.now ∙ r.capacity in
      let still : IsQuiet new = ap (λ (cs : Vec (CallUnderWay T)). cs.items) made.calls ∙ quiet in
      record {
        outcome = r.outcome;
        after = r.after;
        alone = alone;
        reply = r.reply;
        woken = heard;
        run = run;
        now = r.now;
        shown = record {
          shows = subst (λ ps. Represents (parts_in new) ps r.after) (sym (no_parties new still)) r.shown;
          place = made.place ∙ (sh.place ∙ sym (ap (λ (cap : Option ℕ). is_one_place cap) capacity));
          positions = counted_then old new (brings old.name_table c) r.outcome.reply (accepted_by b d.reply) s r.after
              (counted_alone old.name_table c old.accepted s r.after r.outcome 0 run alone r.now (none_under_way old s quiet sh))
              (subst (λ n. place.HasPositions n old) (sym said) (place_left s r.outcome sh all alone)) said made.accepted made.place run.over
              sh.positions;
          messages = r.counted sh.messages;
          activities = rw (still, run.over) refl;
          few = subst (λ (us : List (ActiveCall T Waiter)). All (TookFew r.after.now.queue.removed) us) (sym run.over) tt;
        };
        name_state = rw (made.name_table, made.order, by_name.on_return, by_name.names, placed s all, still, r.reply, r.kept, heard) refl;
      }

  -- a call made alone leads from a configuration in which the channel stood to one in which it stands
  pub call_leads : (c : Call T) (old new : WorldState T) (x : Reply T) (names : List Waiter) → IsQuiet old
      → Admitted old.name_table c → CallsAlone c old x names new → LeadsOn old (x ∷ []) new
  call_leads c old new x names quiet fine called s k =
      let d = called s k.shown k.kept in
      let kept : WorldInvariant (name_state_of new) d.after =
      subst (λ (b : NameState T). WorldInvariant b d.after) (sym d.name_state)
      (kept_alone (name_state_of old) c s d.after d.outcome (no_agents old quiet) fine d.run k.kept) in
      let way = lone_way s d.after 0 (asks old.name_table c) d.outcome d.run in
      record {
        last = d.after;
        way = subst (λ (y : Reply T). Reaches s (y ∷ []) d.after) (sym d.reply) way;
        stands = stands_in new d.after d.shown kept;
        accounts = run_accounts s d.after way.steps way.trace way.run;
      }

  pub same_leads : (old new : WorldState T) → IsSame old new → LeadsOn old [] new
  same_leads old new same s k =
      record { last = s; way = no_way s; stands = stands_same old new s same k; accounts = no_accounts s }

  pub leads_whatever : (c : Call T) (old new : WorldState T) (result : Result (Answered T) (Call T)) → IsQuiet old
      → begin_refusal old.name_table c ≡ None
      → IfOk result (λ (d : Answered T). CallsAlone c old d.reply d.woken.items new)
      → OnErr result (IsSame old new) → LeadsOn old (reply_of result) new
  leads_whatever c old new (Ok d) quiet fine called same =
      call_leads c old new d.reply d.woken.items quiet (admitted old.name_table c fine) called
  leads_whatever c old new (Err x) quiet fine called same = same_leads old new same
