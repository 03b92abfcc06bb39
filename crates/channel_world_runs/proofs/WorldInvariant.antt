-- What every step keeps of those that wait, and what a call made alone keeps.
use Rattle.std.specs.Prelude.{◌≡◌, ◌∷◌, ◌++◌}
use Rattle.channel_world_runs.proofs.Lemmas.{ℕ, false, List, [], map, slice_get, Option, None, Some, inl, refl, sym, ap, ◌∙◌, subst, append-nil, Channel, ChannelAsk, Reply, Returned, Outcome, EndsWith, LoneRun, steps_by, woken_by_steps, Call, Waiter, asks_first, EachStep, NextConfiguration, end_of, new_configuration, Begins, Next, ActiveCall, Configuration, Steps, sees, does, unless_ended, ChannelEntry, ChannelStep, IsOrListens, IsStepOf, asks, on_return_of, WorldInvariant, AllTry, NamesKept, name_state_alone, WakeOrder, no_places, all_woken, first_name_table, is_at_work, step_refusal, NameState, StepIsMade, IsNameStateOf, name_state_begun, name_state_ended, with_woken, FewUsers, Agent, NameTable, Entry, PartyId, Step, Admitted, admitted}
use Rattle.channel_steps.proofs.every_run.Interface.{all_sound_new, all_sound_next, stays_closed}
use Rattle.channel_world_runs.proofs.CountFacts.{counted_first, counted_begun, counted_step}
use Rattle.channel_world_runs.proofs.OwnerPolled.{polled_first, polled_begun, polled_step}
use Rattle.channel_world_runs.proofs.OwnerRuns.{IsAfter, stepped, idle_and_free}
use Rattle.channel_world_runs.proofs.OwnerSteps.{owned_first, begins_owned}
use Rattle.channel_world_runs.proofs.OwnerTogether.{all_join, all_left, all_right}
use Rattle.channel_world_runs.proofs.OwnerWoken.{woken_first, begins_woken, stepped_woken}
use Rattle.channel_world_runs.proofs.TriesFirst.{tries_first}
use Rattle.channel_world_runs.proofs.UserFacts.{users_first, users_begun, users_ended}

module _ {T : Type 0} where
  -- ---- what is kept also where a poll asks its listener first

  -- a channel that was just opened
  pub names_kept_first : (cap : Option ℕ) → NamesKept {T = T} (record { name_table = first_name_table; order = no_places; agents = [] }) (new_configuration cap)
  names_kept_first cap =
      record {
        owned = owned_first T cap;
        woken = woken_first T cap;
        sound = all_sound_new cap;
        polled = polled_first (record { name_table = first_name_table; order = no_places; agents = [] }) refl;
        users = users_first T;
        counted = counted_first cap;
      }

  -- a call begins
  pub names_kept_begun : (q : PartyId) (c : Call T) (b : NameState T) (a : ChannelAsk T Waiter) (s t : Configuration T Waiter) (e : ChannelEntry T)
      → IsOrListens (asks b.name_table c) a → Begins s q.0 a e t → is_at_work q.0 b.agents ≡ false → Admitted b.name_table c → NamesKept b s
      → NamesKept (name_state_begun q c b) t
  names_kept_begun q c b a s t e is n idle fine k =
      record {
        owned = begins_owned q c b a s t e is n k.owned idle fine;
        woken = begins_woken q c b a s t e is n k.owned k.woken fine;
        sound = all_sound_next s (ChannelStep.Begin q.0 a) e [] t k.sound (n, refl);
        polled = polled_begun q c b s k.owned fine k.polled;
        users = users_begun q c b k.users;
        counted = counted_begun q c b a s t e is n k.counted;
      }

  -- a call makes a step
  pub names_kept_step : (b c : NameState T) (s t : Configuration T Waiter) (q : PartyId) (e : ChannelEntry T) (names : List Waiter)
      → Steps s q.0 e names t → IsAfter b q e.reply e.kept names c → NamesKept b s → NamesKept c t
  names_kept_step b c s t q e names st after k =
      let streams = k.sound.streams in
      let known = streams.known in
      record {
        owned = stepped b c s t q e.mark e.reply e.kept names k.owned known st after;
        woken = stepped_woken b c s t q e.mark e.reply e.kept names k.owned known st after k.woken;
        sound = all_sound_next s (ChannelStep.Step q.0) e names t k.sound st;
        polled = polled_step b c s t q e.mark e.reply e.kept names k.owned known st after k.polled;
        users = subst (λ (d : NameState T). FewUsers d) (sym after.4) (users_ended after.0 after.1 e.reply e.kept names b after.2 k.users);
        counted = counted_step b c s t q e.mark e.reply e.kept names k.owned known st after
            (stays_closed s (ChannelStep.Step q.0) e names t st) k.counted;
      }

  -- a step by names that nothing refuses, whether a poll tries or asks its listener first
  pub names_kept_next : (b c : NameState T) (s t : Configuration T Waiter) (x : Step T) (y : ChannelStep T Waiter) (e : ChannelEntry T) (names : List Waiter)
      → step_refusal b.name_table b.agents x ≡ None → IsStepOf b.name_table x y → Next s y e names t → IsNameStateOf x e.reply e.kept names b c
      → NamesKept b s → NamesKept c t
  names_kept_next b c s t (Step.Begin q call) y e names fine (a, is, same) next name_state k =
      let ok = idle_and_free q call b fine in
      let n : Begins s q.0 a e t × (names ≡ []) = subst (λ (z : ChannelStep T Waiter). Next s z e names t) same next in
      subst (λ (d : NameState T). NamesKept d t) (sym name_state)
      (names_kept_begun q call b a s t e is n.0 ok.0 (admitted b.name_table call ok.1) k)
  names_kept_next b c s t (Step.Step q) y e names fine same next name_state k =
      names_kept_step b c s t q e names (subst (λ (z : ChannelStep T Waiter). Next s z e names t) same next) name_state k

  -- ---- all of it

  names_of : (b : NameState T) (s : Configuration T Waiter) → WorldInvariant b s → NamesKept b s
  names_of b s k =
      record {
        owned = k.owned;
        woken = k.woken;
        sound = k.sound;
        polled = k.polled;
        users = k.users;
        counted = k.counted;
      }

  with_tries : (b : NameState T) (s : Configuration T Waiter) → NamesKept b s → AllTry s.under_way → WorldInvariant b s
  with_tries b s k tries =
      record {
        owned = k.owned;
        woken = k.woken;
        sound = k.sound;
        polled = k.polled;
        users = k.users;
        counted = k.counted;
        tries = tries;
      }

  pub kept_first : (cap : Option ℕ) → WorldInvariant {T = T} (record { name_table = first_name_table; order = no_places; agents = [] }) (new_configuration cap)
  kept_first cap = with_tries _ _ (names_kept_first cap) tt

  abbrev Try : ActiveCall T Waiter → Type 0
  Try u = asks_first u.ask ≡ false

  -- a call begins
  pub kept_begun : (q : PartyId) (c : Call T) (b : NameState T) (s t : Configuration T Waiter) (e : ChannelEntry T)
      → Begins s q.0 (asks b.name_table c) e t → is_at_work q.0 b.agents ≡ false → Admitted b.name_table c → WorldInvariant b s
      → WorldInvariant (name_state_begun q c b) t
  kept_begun q c b s t e n idle fine k =
      with_tries (name_state_begun q c b) t (names_kept_begun q c b (asks b.name_table c) s t e (inl refl) n idle fine (names_of b s k))
      (subst AllTry (sym n.under_way) (all_join Try s.under_way _ k.tries (tries_first b.name_table c, tt)))

  tries_seen : (d : Channel T Waiter) (us : List (ActiveCall T Waiter)) → AllTry us → AllTry (map (sees d) us)
  tries_seen d [] h = tt
  tries_seen d (u ∷ us) h = (h.0, tries_seen d us h.1)

  tries_ended : (u : ActiveCall T Waiter) (r : Option (Reply T)) → Try u → AllTry (unless_ended u r)
  tries_ended u None h = (h, tt)
  tries_ended u (Some r) h = tt

  tries_step : (s t : Configuration T Waiter) (p : ℕ) (e : ChannelEntry T) (names : List Waiter) → Steps s p e names t → AllTry s.under_way
      → AllTry t.under_way
  tries_step s t p e names st h =
      let all : AllTry (st.before ++ (st.mine ∷ st.behind)) = subst AllTry st.there h in
      let own = all_right Try st.before (st.mine ∷ st.behind) all in
      let after : ActiveCall T Waiter = does st.mine st.at_now e.mark s.now t.now in
      subst AllTry (sym st.left)
      (all_join Try (map (sees t.now) st.before) (unless_ended after e.reply ++ map (sees t.now) st.behind)
      (tries_seen t.now st.before (all_left Try st.before (st.mine ∷ st.behind) all))
      (all_join Try (unless_ended after e.reply) (map (sees t.now) st.behind)
      (tries_ended after e.reply own.0) (tries_seen t.now st.behind own.1)))

  -- a call makes a step
  pub kept_step : (b c : NameState T) (s t : Configuration T Waiter) (q : PartyId) (e : ChannelEntry T) (names : List Waiter)
      → Steps s q.0 e names t → IsAfter b q e.reply e.kept names c → WorldInvariant b s → WorldInvariant c t
  kept_step b c s t q e names st after k =
      with_tries c t (names_kept_step b c s t q e names st after (names_of b s k)) (tries_step s t q.0 e names st k.tries)

  -- a step that was made
  pub kept_next : (b c : NameState T) (s t : Configuration T Waiter) (x : Step T) (e : Entry T) → StepIsMade b s x e c t → WorldInvariant b s → WorldInvariant c t
  kept_next b c s t (Step.Begin q call) e made k =
      let ok = idle_and_free q call b made.not_refused in
      subst (λ (d : NameState T). WorldInvariant d t) (sym made.name_state) (kept_begun q call b s t _ made.next.0 ok.0 (admitted b.name_table call ok.1) k)
  kept_next b c s t (Step.Step q) e made k = kept_step b c s t q _ e.woken.items made.next made.name_state k

  -- ---- a call made alone

  all_woken_append : (r : NameTable T) (xs ys : List Waiter) (o : WakeOrder) → all_woken r (xs ++ ys) o ≡ all_woken r ys (all_woken r xs o)
  all_woken_append r [] ys o = refl
  all_woken_append r (x ∷ xs) ys o = all_woken_append r xs ys _

  woken_append : (xs ys : List Waiter) (b : NameState T) → with_woken (xs ++ ys) b ≡ with_woken ys (with_woken xs b)
  woken_append xs ys b = ap (λ (o : WakeOrder). record b { order = o }) (all_woken_append b.name_table xs ys b.order)

  first_agent : (agents : List (Agent T)) (a : Agent T) → agents ≡ a ∷ [] → slice_get agents 0 ≡ Some a
  first_agent agents a e = ap (λ (l : List (Agent T)). slice_get l 0) e

  -- steps of the only one at work, of which the last one answers
  kept_over : (q : PartyId) (a : Agent T) (r : Reply T) (kept : Returned T) (es : List (ChannelEntry T)) (ns : List (Configuration T Waiter))
      (b : NameState T) (s : Configuration T Waiter) → b.agents ≡ a ∷ [] → a.party ≡ q.0 → EndsWith r kept es
      → (h : EachStep NextConfiguration s (steps_by q.0 es) es ns) → WorldInvariant b s
      → WorldInvariant (name_state_ended 0 a (Some r) (Some kept) (with_woken (woken_by_steps s (steps_by q.0 es) es ns h) b)) (end_of s ns)
  kept_over q a r kept (e ∷ []) (n ∷ []) b s only his last h k =
      let woken : NameState T = with_woken h.0.0 b in
      let after : name_state_ended 0 a (Some r) (Some kept) (with_woken (h.0.0 ++ []) b) ≡ name_state_ended 0 a e.reply e.kept woken =
      ap (λ (ws : List Waiter). name_state_ended 0 a (Some r) (Some kept) (with_woken ws b)) (append-nil h.0.0)
      ∙ (ap (λ (x : Option (Reply T)). name_state_ended 0 a x (Some kept) woken) (sym last.0)
      ∙ ap (λ (x : Option (Returned T)). name_state_ended 0 a e.reply x woken) (sym last.1)) in
      kept_step b _ s n q e h.0.0 h.0.1 (0, a, first_agent b.agents a only, his, after) k
  kept_over q a r kept (e ∷ f ∷ es) (n ∷ ns) b s only his last h k =
      let woken : NameState T = with_woken h.0.0 b in
      let after : woken ≡ name_state_ended 0 a e.reply e.kept woken =
      ap (λ (x : Option (Reply T)). name_state_ended 0 a x e.kept woken) (sym last.0) in
      let next = kept_step b woken s n q e h.0.0 h.0.1 (0, a, first_agent b.agents a only, his, after) k in
      subst (λ (d : NameState T). WorldInvariant (name_state_ended 0 a (Some r) (Some kept) d) (end_of n ns))
      (sym (woken_append h.0.0 (woken_by_steps n (steps_by q.0 (f ∷ es)) (f ∷ es) ns h.1) b))
      (kept_over q a r kept (f ∷ es) ns woken n only his last.2 h.1 next)
  kept_over q a r kept [] ns b s only his last h k = absurd last
  kept_over q a r kept (e ∷ []) (n ∷ m ∷ ns) b s only his last h k = absurd h.1
  kept_over q a r kept (e ∷ es) [] b s only his last h k = absurd h

  -- the whole call
  pub kept_alone : (b : NameState T) (c : Call T) (s t : Configuration T Waiter) (o : Outcome T Waiter) → b.agents ≡ []
      → Admitted b.name_table c → LoneRun s 0 (asks b.name_table c) o t → WorldInvariant b s → WorldInvariant (name_state_alone b c o) t
  kept_alone b c s t o none fine run k =
      let q : PartyId = record { 0 = 0 } in
      let a : Agent T = record { party = 0; on_return = on_return_of b.name_table c } in
      let idle : is_at_work 0 b.agents ≡ false = ap (λ (l : List (Agent T)). is_at_work 0 l) none in
      let began = kept_begun q c b s run.begun _ run.begins idle fine k in
      let only : (name_state_begun q c b).agents ≡ a ∷ [] = ap (λ (l : List (Agent T)). l ++ (a ∷ [])) none in
      let over = kept_over q a o.reply o.kept run.entries run.run.moments (name_state_begun q c b) run.begun only refl run.ends run.run.each began in
      let whole : NameState T = with_woken o.woken (name_state_begun q c b) in
      let same = ap (λ (ws : List Waiter). name_state_ended 0 a (Some o.reply) (Some o.kept) (with_woken ws (name_state_begun q c b))) run.woken
      ∙ ap (λ (l : List (Agent T)). name_state_ended 0 a (Some o.reply) (Some o.kept) (record whole { agents = l })) only in
      let last : NameState T = name_state_ended 0 a (Some o.reply) (Some o.kept)
      (with_woken (woken_by_steps run.begun (steps_by q.0 run.entries) run.entries run.run.moments run.run.each) (name_state_begun q c b)) in
      subst (λ (d : NameState T). WorldInvariant d t) same (subst (λ (u : Configuration T Waiter). WorldInvariant last u) run.run.ends over)
