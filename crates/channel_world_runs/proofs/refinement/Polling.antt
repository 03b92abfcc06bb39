-- Polls that wait.
use Rattle.std.specs.Prelude.{◌≡◌, ◌⊎◌}
use Rattle.channel_world_runs.proofs.Lemmas.{false_from_ne_true, Bool, true, false, Option, None, Some, refl, inl, inr, kind_of, Key, ListenError, Channel, listens, registers, listeners, Reply, Outcome, Where, answers, line_at, Waiting, is_among, untold, gone, standing, AwakeIn, State, with_waiting, Waiter, WaitList, decided, KeysHeld, with_held, Refines, list_of, leaving as keeping, shows_again, Nowhere, keyless_nowhere, away_holds_none}
use Rattle.channel_calls.specs.Parts.{waits}
use Rattle.channel_world_runs.proofs.refinement.Departing.{streams_are}
use Rattle.channel_world_runs.proofs.refinement.Told.{not_both}
use Rattle.channel_world_runs.proofs.refinement.Pending.{Waited, away_unheld, away_told, stays, listens_so}

pub where_true : (b : Bool) (A B : Type 0) → b ≡ true → Where b A B → A
where_true true A B e x = x
where_true false A B e x = cc e

pub where_false : (b : Bool) (A B : Type 0) → b ≡ false → Where b A B → B
where_false true A B e x = cc e
where_false false A B e x = x

-- a wait on the list of a line, as every kind of poll has it
module _ {T : Type 0} (line : WaitList) (pends : Reply T) (refuses : ListenError → Reply T) (message : Option T) (w : Waiter) where
  abbrev pub ListensAs : Channel T Waiter → Outcome T Waiter → Type 0
  ListensAs c o =
      ((key : Key) × (kind_of (listeners (list_of line) c.wait_lists) key ≡ None)
      × (o ≡ answers pends (keeping (Some key) message) (registers (list_of line) key w (listens (list_of line) key c).channel).channel))
      ⊎ ((error : ListenError) × (o ≡ answers (refuses error) (keeping None message) c))

  abbrev pub WaitsAs : Option Key → Channel T Waiter → Outcome T Waiter → Type 0
  WaitsAs None c o = ListensAs c o
  WaitsAs (Some key) c o =
      Where (waits key (listeners (list_of line) c.wait_lists)) (o ≡ answers pends (keeping (Some key) message) (registers (list_of line) key w c).channel)
      (ListensAs (registers (list_of line) key w c).channel o)

  -- how a wait ends: it stands in its line, or it was not let listen and is gone from it
  abbrev pub WaitEnds : KeysHeld → State T → Outcome T Waiter → Type 0
  WaitEnds held s o =
      ((key : Key) × (d : Channel T Waiter) × (o ≡ answers pends (keeping (Some key) message) d) × Refines (with_held w (Some key) held) d (with_waiting (standing line w s.waiting) s))
      ⊎ ((error : ListenError) × (d : Channel T Waiter) × (o ≡ answers (refuses error) (keeping None message) d) × (is_among w (untold line s.waiting) ≡ false)
      × Refines (with_held w None held) d (with_waiting (gone w s.waiting) s))

  module _ (held : KeysHeld) (c : Channel T Waiter) (s : State T) (h : Refines held c s) (awake : AwakeIn s) (k : line_at s.names w ≡ Some line) where
    pub shown : (key : Option Key) (m : Waiting) (d : Channel T Waiter) → d.queue ≡ c.queue → Waited (line_at s.names) held s.channel.closed w c.wait_lists d.wait_lists key m → Refines (with_held w key held) d (with_waiting m s)
    shown key m d e g = shows_again h d (with_held w key held) (with_waiting m s) refl e g.senders g.receivers g.lines g.keys

    listened_ends : (b : Channel T Waiter) (o : Outcome T Waiter) → b.queue ≡ c.queue → is_among w (untold line s.waiting) ≡ false
        → Waited (line_at s.names) held s.channel.closed w c.wait_lists b.wait_lists None (gone w s.waiting) → ListensAs b o → WaitEnds held s o
    listened_ends b o e u g (inl (key, none, f)) =
        inl (
          key,
          (registers (list_of line) key w (listens (list_of line) key b).channel).channel,
          f,
          shown (Some key) (standing line w s.waiting) (registers (list_of line) key w (listens (list_of line) key b).channel).channel e
              (listens_so (line_at s.names) held s.channel.closed (streams_are s.names) line w k s.waiting awake.placed h.keys awake.opened c.wait_lists h.lines b.wait_lists key u none g),
        )
    listened_ends b o e u g (inr (error, f)) = inr (error, b, f, u, shown None (gone w s.waiting) b e g)

    -- one that was told stands untold nowhere
    told_not_untold : is_among w s.waiting.woken ≡ true → is_among w (untold line s.waiting) ≡ false
    told_not_untold t = false_from_ne_true (is_among w (untold line s.waiting)) (λ u. not_both (line_at s.names) line w s.waiting awake.placed u t)

    pub wait_ends : (key : Option Key) (o : Outcome T Waiter) → held w ≡ key → WaitsAs key c o → WaitEnds held s o
    wait_ends None o e x =
        let away : Nowhere w s.waiting = keyless_nowhere (line_at s.names) held s.channel.closed c.wait_lists s.waiting line w k e awake.placed h.lines in
        listened_ends c o refl (away.lines line) (away_unheld (line_at s.names) held s.channel.closed (streams_are s.names) line w k s.waiting awake.placed h.keys awake.opened c.wait_lists h.lines e) x
    wait_ends (Some key) o e x = elim (decided (is_among w s.waiting.woken)) [
      | inl t ↦
          let used = away_told (line_at s.names) held s.channel.closed (streams_are s.names) line w k s.waiting awake.placed h.keys awake.opened c.wait_lists h.lines key e t in
          listened_ends (registers (list_of line) key w c).channel o refl (told_not_untold t) used.1 (where_false (waits key (listeners (list_of line) c.wait_lists)) _ _ used.0 x)
      | inr t ↦ elim (decided (is_among w (untold line s.waiting))) [
        | inl u ↦
            let stayed = stays (line_at s.names) held s.channel.closed (streams_are s.names) line w k s.waiting awake.placed h.keys awake.opened c.wait_lists h.lines key e t u in
            inl (
              key,
              (registers (list_of line) key w c).channel,
              where_true (waits key (listeners (list_of line) c.wait_lists)) _ _ stayed.0 x,
              shown (Some key) (standing line w s.waiting) (registers (list_of line) key w c).channel refl stayed.1,
            )
        | inr u ↦ absurd (away_holds_none (line_at s.names) held line w s.waiting key k awake.placed h.keys e u t)
      ]
    ]
