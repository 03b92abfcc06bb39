-- One poll of settling: what the channel did is an answer of the model.
use Rattle.std.specs.Prelude.{◌≡◌, ◌≤◌, ◌+◌, ◌-◌, ◌∷◌}
use Rattle.channel_world.proofs.Lemmas.{arith, ℕ, suc, List, [], length, Option, true, refl, sym, ap, subst, ◌∙◌, Key, Channel, WaitLists, listeners, Reply, WaitList, Sends, Receives, Streams, Closings, Outcome, Alone, none_under_way, no_agents, asks, parts_in, name_state_of, HasPositions, Shown, IsQuiet, Stands, WorldInvariant, name_state_alone, BringsWithin, WakesAtMost, accepted_by, brings, held_of, NameState, PollsAlone, WorldState, Answer, KeysHeld, AwakeIn, is_among, untold, Answers, poll_of, State, Waiter, AreUntold, PollsAnswer, state_at, IsWorld, RestIsAWorld, Configuration, Polls, at_rest, at_rest_is}

-- a list shows a line of as many names as wait on it
as_many : (held : KeysHeld) (es : List (Key × Option Waiter)) (ws : List Waiter) → AreUntold held es ws → length es ≡ length ws
as_many held [] [] h = refl
as_many held (e ∷ es) (w ∷ ws) h = ap suc (as_many held es ws h.1)
as_many held es ws h = absurd h

module _ {T : Type 0} (f : WorldState T) (kept : Stands f) (quiet : IsQuiet f) where
  -- as many stand untold in a line as wait on its list, where no call is under way
  pub as_many_wait : RestIsAWorld T → (line : WaitList)
      → length (listeners line (parts_in f).wait_lists).waiting ≡ length (untold line (at_rest f).waiting)
  as_many_wait rests line =
      let k = kept.stands in
      let s = kept.configuration in
      subst (λ (r : WaitLists Waiter). length (listeners line r).waiting ≡ length (untold line (at_rest f).waiting))
      (ap (λ (c : Channel T Waiter). c.wait_lists) k.shown.shows.now)
      (subst (λ (x : State T). length (listeners line s.now.wait_lists).waiting ≡ length (untold line x.waiting))
      (sym (at_rest_is f s k.shown quiet)) (shown s (rests (name_state_of f) s k.kept (none_under_way f s quiet k.shown)) line))
    where
      shown : (s : Configuration T Waiter) → IsWorld (name_state_of f) s → (l : WaitList)
          → length (listeners l s.now.wait_lists).waiting ≡ length (untold l (state_at (name_state_of f) s).waiting)
      shown s world Sends = let own = world.shows.lines Sends in as_many (held_of f.name_table) _ _ own.untold
      shown s world Receives = let own = world.shows.lines Receives in as_many (held_of f.name_table) _ _ own.untold
      shown s world Streams = let own = world.shows.lines Streams in as_many (held_of f.name_table) _ _ own.untold
      shown s world Closings = let own = world.shows.lines Closings in as_many (held_of f.name_table) _ _ own.untold

  -- nobody is left asleep where no call is under way
  pub awake_at_rest : RestIsAWorld T → AwakeIn (at_rest f)
  awake_at_rest rests =
      let k = kept.stands in
      let s = kept.configuration in
      let world = rests (name_state_of f) s k.kept (none_under_way f s quiet k.shown) in
      subst (λ (x : State T). AwakeIn x) (sym (at_rest_is f s k.shown quiet)) world.awake

  module _ (answer : PollsAnswer T) (w : Waiter) (there : is_among w (at_rest f).waiting.woken ≡ true) where
    -- whatever the poll does alone, the model allows
    allowed : (s t : Configuration T Waiter) (o : Outcome T Waiter) → Shown f s → WorldInvariant (name_state_of f) s
        → Alone (asks f.name_table (poll_of w)) s.now o → t.now ≡ o.channel
        → Answers (at_rest f) (poll_of w) (record { after = state_at (name_state_alone (name_state_of f) (poll_of w) o) t; reply = o.reply; woken = o.woken })
    allowed s t o sh k alone now =
        let nobody = no_agents f quiet in
        let a = answer (name_state_of f) s t w o k nobody (none_under_way f s quiet sh) there alone now in
        subst (λ (x : State T). Answers x (poll_of w)
        (record { after = state_at (name_state_alone (name_state_of f) (poll_of w) o) t; reply = o.reply; woken = o.woken }))
        (sym (at_rest_is f s sh quiet)) a

    -- it wakes no more than there is room for
    pub poll_wakes_few : (n room : ℕ) → ((a : Answer T) → Answers (at_rest f) (poll_of w) a → n + length a.woken ≤ room)
        → WakesAtMost (room - n) (poll_of w) f
    poll_wakes_few n room fits s o sh k alone =
        let most = fits _ (allowed s (record s { now = o.channel }) o sh k alone refl) in omega (arith, most)

    -- and brings in no message for which there is no position
    pub poll_brings_within : ((a : Answer T) → Answers (at_rest f) (poll_of w) a → HasPositions (accepted_by (brings f.name_table (poll_of w)) a.reply) f)
        → BringsWithin (poll_of w) f
    poll_brings_within fits s o sh k alone = fits _ (allowed s (record s { now = o.channel }) o sh k alone refl)

    pub poll_answers : (g : WorldState T) (before : List Waiter) (x : Reply T) (after : List Waiter) → IsQuiet g
        → PollsAlone w f before x after g → Polls w (at_rest f) before x after (at_rest g)
    poll_answers g before x after still p =
        let k = kept.stands in
        let d = p.called kept.configuration k.shown k.kept in
        let a = allowed kept.configuration d.after d.outcome k.shown k.kept d.alone d.now in
        let same : at_rest g ≡ state_at (name_state_alone (name_state_of f) (poll_of w) d.outcome) d.after =
        at_rest_is g d.after d.shown still ∙ ap (λ (b : NameState T). state_at b d.after) d.name_state in
        record { woken = p.woken; names = p.names; answers = rw (same, d.reply, d.woken) a }
