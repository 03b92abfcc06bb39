-- A run has each of the headline's sentences.
use Rattle.std.specs.Prelude.{◌&&◌, ◌+◌, ◌≡◌, ◌≤◌, ◌<◌, ◌==◌, if◌then◌else◌, ◌∷◌, ◌++◌}
use Rattle.channel_world.proofs.Words.{is_none, FewLeft, in_a_row, OthersQuietOf, EndInARow, eq-eqb, ne_eqb, brought_by, came_is, none_adds, both_add, brought, gone_by, came_by, none_before, All, message_brought, brought_at}
use Rattle.channel_world_runs.proofs.Interface.{nobody_still, ran_leads}
use Rattle.channel_world.proofs.Lemmas.{length, Parts, Call, Stopped, SaysTheEnd, Replies, Spent, does, ChannelStep, each_says, name_state_of, parties_of, parts_in, messages_in, StandsIn, Stands, StopsAt, channel_step, Holds, accepted_in, left_in, moment_of, RanTo, WorldState, PartyId, few_in, owed_at, tries_at, step_marked, MomentSays, BeginSays, WorkSays, CallSays, StepSays, view_of, WorldView, append-nil, Mark, Nothing, AddUp, end_of, ActiveCall, ChannelEntry, all_brought, all_taken, eqb-true, arith, ℕ, suc, Bool, true, false, List, [], Option, None, Some, refl, sym, ap, ◌∙◌, subst, Reply, Waiter, EachStep, Configuration, WorldInvariant, Moment, LeadsBy, Entry, Step, EndInFront}
use Rattle.channel_steps.proofs.every_run.Interface.{stays_closed, stays_over, says_over, late_gives}
use Rattle.channel_steps.proofs.every_run.MarkFacts.{all_begin}
use Rattle.channel_steps.proofs.every_run.EndFacts.{may_end}
use Rattle.channel_world.proofs.TheEndFacts.{ended_before, nothing_comes}
use Rattle.channel_steps.proofs.every_run.WordsFacts.{words_say}
use Rattle.channel_world.specs.Headline.{Headline}
use Rattle.channel_world.specs.Carried.{LeadsTo}
use Rattle.channel_world.specs.StepsLeft.{EndsInFront}
use Rattle.channel_world.specs.TheEnd.{NothingComesAfter}
use Rattle.channel_world_runs.specs.Reaches.{replies_in}
use Rattle.channel_steps.specs.every_run.Words.{WordsSay}
use Rattle.channel_calls.specs.Moves as moves

-- ---- how soon a call ends where the others are quiet

module _ {T : Type 0} where
  -- there are no more in a row than are left
  row_left : (p : ℕ) (m : Moment T) (xs : List (Step T)) (es : List (Entry T)) (ns : List (Moment T)) → WorldInvariant m.name_state m.configuration
      → EachStep LeadsBy m xs es ns → OthersQuietOf p m.configuration → in_a_row p xs es ≤ m.left p
  row_left p m [] [] [] k h free = omega arith
  row_left p m (Step.Begin q c ∷ xs) (e ∷ es) (n ∷ ns) k h free = omega arith
  row_left p m (Step.Step q ∷ xs) (e ∷ es) (n ∷ ns) k h free =
      by (λ still. row_left p n xs es ns h.0.holds.kept h.1 still) (q.0 == p) refl e.reply refl
    where
      by : (OthersQuietOf p n.configuration → in_a_row p xs es ≤ n.left p) → (b : Bool) → (q.0 == p) ≡ b → (r : Option (Reply T)) → e.reply ≡ r
          → (if b && is_none r then suc (in_a_row p xs es) else 0) ≤ m.left p
      by more false same r goes_on = omega arith
      by more true same (Some x) goes_on = omega arith
      by more true same None goes_on =
          let his : q.0 ≡ p = eqb-true q.0 p same in
          let his_free : OthersQuietOf q.0 m.configuration = subst (λ (j : ℕ). OthersQuietOf j m.configuration) (sym his) free in
          let less : n.left p < m.left p = subst (λ (j : ℕ). n.left j < m.left j) his (h.0.nearer goes_on his_free) in
          let still : OthersQuietOf p n.configuration = subst (λ (j : ℕ). OthersQuietOf j n.configuration) his (nobody_still m q e n k h.0 goes_on his_free) in
          let rest = more still in
          omega (arith, less, rest)
  row_left p m xs es ns k h free = absurd h

  pub all_in_a_row : (m : Moment T) (xs : List (Step T)) (es : List (Entry T)) (ns : List (Moment T)) → WorldInvariant m.name_state m.configuration → FewLeft m
      → EachStep LeadsBy m xs es ns → EndInARow m.configuration xs es ns
  all_in_a_row m [] [] [] k few h = tt
  all_in_a_row m (x ∷ xs) (e ∷ es) (n ∷ ns) k few h = (
    λ p free. (let row = row_left p m (x ∷ xs) (e ∷ es) (n ∷ ns) k h free in let most = few p in omega (arith, row, most)),
    all_in_a_row n xs es ns h.0.holds.kept h.0.holds.few h.1,
  )
  all_in_a_row m xs es ns k few h = absurd h

  -- ---- in front of a list

  none_in_a_row : (p : ℕ) (xs : List (Step T)) → in_a_row {T = T} p xs [] ≡ 0
  none_in_a_row p [] = refl
  none_in_a_row p (Step.Begin q c ∷ xs) = refl
  none_in_a_row p (Step.Step q ∷ xs) = refl

  -- steps that were not made do not count
  row_in_front : (p : ℕ) (left : List (Step T)) (s : Configuration T Waiter) (xs : List (Step T)) (es : List (Entry T)) (ns : List (Moment T))
      → EndInARow s xs es ns → in_a_row p (xs ++ left) es ≡ in_a_row p xs es
  row_in_front p left s [] [] [] h = none_in_a_row p left
  row_in_front p left s (Step.Begin q c ∷ xs) (e ∷ es) (n ∷ ns) h = refl
  row_in_front p left s (Step.Step q ∷ xs) (e ∷ es) (n ∷ ns) h =
      ap (λ k. if (q.0 == p) && is_none e.reply then suc k else 0) (row_in_front p left n.configuration xs es ns h.1)
  row_in_front p left s xs es ns h = absurd h

  first_in_front : (s : Configuration T Waiter) (xs : List (Step T)) (es : List (Entry T)) (ns : List (Moment T)) → EndInARow s xs es ns
      → EndInFront s xs es
  first_in_front s [] [] [] h p free = omega arith
  first_in_front s (x ∷ xs) (e ∷ es) (n ∷ ns) h p free = h.0 p free
  first_in_front s xs es ns h p free = absurd h

  pub in_front : (steps left : List (Step T)) (s : Configuration T Waiter) (xs : List (Step T)) (es : List (Entry T)) (ns : List (Moment T))
      → steps ≡ xs ++ left → EndInARow s xs es ns → EndInFront s steps es
  in_front steps left s xs es ns first h p free =
      let same : in_a_row p steps es ≡ in_a_row p xs es =
      ap (λ (l : List (Step T)). in_a_row p l es) first ∙ row_in_front p left s xs es ns h in
      let most = first_in_front s xs es ns h p free in
      omega (arith, same, most)

-- ---- what a run brought and took

-- ---- a run

module _ {T : Type 0} where
  message_is : (p : ℕ) (us : List (ActiveCall T Waiter)) (mine : ActiveCall T Waiter) (vs : List (ActiveCall T Waiter))
      → All (λ (u : ActiveCall T Waiter). u.party ≡ p → ⊥) us → mine.party ≡ p → message_brought p (us ++ (mine ∷ vs)) ≡ brought mine.ask
  message_is p [] mine vs none his = rw (eq-eqb mine.party p his) refl
  message_is p (u ∷ us) mine vs none his = rw (ne_eqb u.party p none.0) (message_is p us mine vs none.1 his)

  -- the accounts of one step
  one_adds : (m : Moment T) (x : Step T) (e : Entry T) (n : Moment T) → WorldInvariant m.name_state m.configuration → LeadsBy m x e n
      → AddUp m.configuration (gone_by e.mark m.configuration.now.queue.items) (brought_at m.configuration x e) n.configuration
  one_adds m (Step.Begin p c) e n k l =
      let b = l.made.next.0 in
      let mark : e.mark ≡ Nothing = ap (λ (g : ChannelEntry T). g.mark) b.entry in
      subst (λ (y : Mark). AddUp m.configuration (gone_by y m.configuration.now.queue.items) [] n.configuration) (sym mark)
      (record {
        held = ap (λ (c : moves.Channel T Waiter). c.queue.items) b.now ∙ sym (append-nil m.configuration.now.queue.items);
        gone = b.gone ∙ sym (append-nil m.configuration.gone);
        came = b.came ∙ sym (append-nil m.configuration.came);
      })
  one_adds m (Step.Step p) e n k l =
      let s = l.made.next in
      let his = message_is p.0 s.before s.mine s.behind (none_before m p e n k l) s.whose in
      let there = ap (λ (us : List (ActiveCall T Waiter)). message_brought p.0 us) s.there in
      let same : came_by e.mark s.mine.ask ≡ brought_at m.configuration (Step.Step p) e =
      came_is e.mark s.mine.ask ∙ ap (λ (ms : List T). brought_by e.mark ms) (sym (there ∙ his)) in
      subst (λ (ms : List T). AddUp m.configuration (gone_by e.mark m.configuration.now.queue.items) ms n.configuration) same
      (record { held = s.held; gone = s.gone; came = s.came })

  pub all_add : (m : Moment T) (xs : List (Step T)) (es : List (Entry T)) (ns : List (Moment T)) → WorldInvariant m.name_state m.configuration
      → EachStep LeadsBy m xs es ns → AddUp m.configuration (all_taken m.configuration es ns) (all_brought m.configuration xs es ns) (end_of m ns).configuration
  all_add m [] [] [] k h = none_adds m.configuration
  all_add m (x ∷ xs) (e ∷ es) (n ∷ ns) k h =
      both_add m.configuration n.configuration (end_of n ns).configuration _ _ _ _ (one_adds m x e n k h.0) (all_add n xs es ns h.0.holds.kept h.1)
  all_add m xs es ns k h = absurd h

module _ {T : Type 0} where
  -- ---- a moment

  say_words : (f : WorldState T) (s : Configuration T Waiter) → StandsIn f s → WordsSay (parts_in f).cells (parties_of f) s
  say_words f s k = words_say (parts_in f) (parties_of f) s k.shown.shows

  moment_says : (m : Moment T) → Holds m → MomentSays m
  moment_says m h =
      let is = h.is in
      let kept = h.kept in
      let known = kept.sound.streams in
      let same : m.parts ≡ parts_in h.world_state = ap (λ (k : Moment T). k.parts) is.moment in
      record {
        world = view_of h.world_state;
        is = is.moment;
        stands = is.stands;
        begun = all_begin m.configuration.now m.configuration.under_way known.known;
        owed = owed_at m.name_state m.configuration kept;
        words = subst (λ (p : Parts T Waiter). WordsSay p.cells (parties_of h.world_state) m.configuration) (sym same) (say_words h.world_state m.configuration is.stands);
        few = h.few;
      }

  holds_first : (f : WorldState T) (s : Configuration T Waiter) → StandsIn f s → Holds (moment_of f s)
  holds_first f s k = record { world_state = f; is = record { moment = refl; stands = k }; kept = k.kept; few = few_in f s k }

  -- ---- the call

  begin_says : (m : Moment T) (p : PartyId) (c : Call T) (e : Entry T) (n : Moment T) → LeadsBy m (Step.Begin p c) e n → BeginSays m p c e n
  begin_says m p c e n l =
      let b = l.made.next.0 in
      record {
        mark = ap (λ (g : ChannelEntry T). g.mark) b.entry;
        reply = ap (λ (g : ChannelEntry T). g.reply) b.entry;
        woken = l.made.next.1;
        parts = l.touches;
        now = b.now;
        at_first = b.at;
        under_way = b.under_way;
        name_state = l.made.name_state;
      }

  work_says : (m : Moment T) (p : PartyId) (e : Entry T) (n : Moment T) → WorldInvariant m.name_state m.configuration → LeadsBy m (Step.Step p) e n → WorkSays m p e n
  work_says m p e n k l =
      let s = l.made.next in
      let after : ActiveCall T Waiter = does s.mine s.at_now e.mark m.configuration.now n.configuration.now in
      let f : ChannelEntry T = record { mark = e.mark; reply = e.reply; kept = l.made.kept } in
      record {
        before = s.before;
        call = s.mine;
        behind = s.behind;
        under_way = s.there;
        party = s.whose;
        at_now = s.at_now;
        after = after;
        is = refl;
        goes_on = s.left;
        work = record {
          tries = tries_at m.name_state m.configuration s.before s.mine s.behind k s.there;
          effect = step_marked m.configuration p.0 f e.woken.items n.configuration s;
          touches = l.touches;
          wakes = s.named;
        };
        left = l.made.kept;
        ends = may_end after e.reply l.made.kept s.finishes;
        name_state = l.made.name_state;
        in_time = s.quick;
        nearer = l.nearer;
        late = λ all gives. late_gives m.configuration p.0 f e.woken.items n.configuration s k.sound all gives;
      }

  -- ---- a step

  call_says : (m : Moment T) (x : Step T) (e : Entry T) (n : Moment T) → WorldInvariant m.name_state m.configuration → LeadsBy m x e n → CallSays m x e n
  call_says m (Step.Begin p c) e n k l = begin_says m p c e n l
  call_says m (Step.Step p) e n k l = work_says m p e n k l

  ends_over : (m : Moment T) (x : Step T) (e : Entry T) (n : Moment T) → WorldInvariant m.name_state m.configuration → LeadsBy m x e n → Replies SaysTheEnd e.reply
      → Spent n.configuration.now
  ends_over m (Step.Begin p c) e n k l says =
      let b = l.made.next.0 in
      let silent : e.reply ≡ None = ap (λ (g : ChannelEntry T). g.reply) b.entry in
      absurd (subst (λ (r : Option (Reply T)). Replies SaysTheEnd r) silent says)
  ends_over m (Step.Step p) e n k l says =
      let f : ChannelEntry T = record { mark = e.mark; reply = e.reply; kept = l.made.kept } in
      says_over m.configuration p.0 f e.woken.items n.configuration l.made.next k.sound says

  step_says : (m : Moment T) (x : Step T) (e : Entry T) (n : Moment T) → WorldInvariant m.name_state m.configuration → LeadsBy m x e n → StepSays m x e n
  step_says m x e n k l =
      let y : ChannelStep T Waiter = channel_step m.name_state.name_table x in
      let f : ChannelEntry T = record { mark = e.mark; reply = e.reply; kept = l.made.kept } in
      record {
        accepted = l.made.not_refused;
        call = call_says m x e n k l;
        blocks = l.blocks;
        closed = λ shut. stays_closed m.configuration y f e.woken.items n.configuration l.made.next shut;
        over = λ over. stays_over m.configuration y f e.woken.items n.configuration l.made.next over;
        the_end = ends_over m x e n k l;
        after = moment_says n l.holds;
      }

  -- ---- a run

  pub headline : (steps left : List (Step T)) (old : WorldState T) (trace : List (Entry T)) (stopped : Option Stopped) (new : WorldState T)
      → RanTo steps left old trace new → StopsAt (name_state_of new) left (length trace) stopped
      → (s : Configuration T Waiter) → StandsIn old s → Headline steps left (view_of old) trace stopped (view_of new) s
  headline steps left old trace stopped new ran stops s k =
      let r = ran s k in
      let start : Moment T = moment_of old s in
      let run = r.run in
      let moments = run.moments in
      let says = each_says LeadsBy (λ (m : Moment T). WorldInvariant m.name_state m.configuration) StepSays
      (λ m x e n l kept. (step_says m x e n kept l, l.holds.kept)) start r.made trace moments k.kept run.each in
      let sums = all_add start r.made trace moments k.kept run.each in
      record {
        made = r.made;
        to = r.last;
        first = r.first;
        stands = r.stands;
        at_first = moment_says start (holds_first old s k);
        run = record { moments = moments; each = says; ends = run.ends };
        accounts = subst (λ (n : Moment T). AddUp s (all_taken s trace moments) (all_brought s r.made trace moments) n.configuration) run.ends sums;
        after_the_end = nothing_comes steps left start r.made trace moments r.first k.kept run.each says;
        ended_before = λ over. ended_before steps left start r.made trace moments r.first k.kept run.each says over;
        ends_soon = all_in_a_row start r.made trace moments k.kept (few_in old s k) run.each;
        stops = stops;
      }

  -- in front of the list a call ends as soon as from its first moment on
  pub ends_in_front : (steps left : List (Step T)) (old : WorldView T) (trace : List (Entry T)) (stopped : Option Stopped) (new : WorldView T)
      (s : Configuration T Waiter) → Headline steps left old trace stopped new s → EndInFront s steps trace
  ends_in_front steps left old trace stopped new s h = in_front steps left s h.made trace h.run.moments h.first h.ends_soon

  -- the number of messages
  pub counted : (steps left : List (Step T)) (old : WorldState T) (trace : List (Entry T)) (new : WorldState T) → RanTo steps left old trace new
      → Stands old → messages_in new + left_in trace ≡ messages_in old + accepted_in trace
  counted steps left old trace new ran before =
      let r = ran before.configuration before.stands in
      let here = r.stands.shown.messages in
      let there = before.stands.shown.messages in
      let numbers = r.numbers in
      omega (arith, here, there, numbers)
