-- What a step on lists and counts does to each of the four lists: nothing, or what its work does to the one that it touches.
use Rattle.std.proofs.Common.{◌≡◌, ℕ, ◌+◌, ◌-◌, Bool, true, false, if◌then◌else◌, List, [], Option, None, Some, ◌⊎◌, ⊎_elim, inl, inr, refl, sym, ap, ◌∙◌, subst}
use Rattle.channel_steps.proofs.every_run.Words.{Phase, kind_of, listened, registration, removed, Key, up, down, Channel, Effect, untouched, on_line, on_count, leaves, Turned, Worked, Listeners, listeners, count, is_raised, told_one, told_more, told_all, waits, line_of, again, pends_by, Mark, Reply, Ending, ListenerRef, WaitList, Sends, Receives, Streams, Closings, Side, Senders, Stage, ListStep, TellReceive, TellStreams, TellSend, TellSends, TellAll, Insert, Register, Leave, Lower, Raise}

module _ {T W : Type 0} where
  -- what a work does to this list, from l to l'
  abbrev pub Touched : ListStep T W → Option (Reply T) → Stage (Phase T) T W → WaitList → Listeners W → Listeners W → Type 0
  Touched (TellReceive x) r s line l l' = (line ≡ Receives) × (l' ≡ told_one l)
  Touched (TellStreams x) r s line l l' = (line ≡ Streams) × (l' ≡ told_all l)
  Touched (TellSend x) r s line l l' = (line ≡ Sends) × (l' ≡ told_one l)
  Touched (TellSends n x) r s line l l' = (line ≡ Sends) × (l' ≡ told_more n l)
  Touched (TellAll at closer) r s line l l' = (line ≡ at) × (l' ≡ told_all l)
  Touched (Insert w task) r s line l l' = (line ≡ line_of w) × (key : Key) × (kind_of l key ≡ None) × (l' ≡ listened key l) × Turned (again w (Some key) task) r s
  Touched (Register w key task) r s line l l' = (line ≡ line_of w) × (l' ≡ registration key task l) × Turned (if waits key l then pends_by w key else again w None task) r s
  Touched (Leave x) r s line l l' = (h : ListenerRef) × (line ≡ h.line) × (l' ≡ removed h.key true l)
  Touched w r s line l l' = ⊥

  -- that it tells nobody of this list
  abbrev pub TellsOthers : ListStep T W → WaitList → Type 0
  TellsOthers (TellReceive x) line = line ≡ Receives → ⊥
  TellsOthers (TellStreams x) line = line ≡ Streams → ⊥
  TellsOthers (TellSend x) line = line ≡ Sends → ⊥
  TellsOthers (TellSends n x) line = line ≡ Sends → ⊥
  TellsOthers (TellAll at closer) line = line ≡ at → ⊥
  TellsOthers w line = Unit {0}

  abbrev pub Same : WaitList → Channel T W → Effect T W → Type 0
  Same line c e = listeners line e.channel.wait_lists ≡ listeners line c.wait_lists

  -- ---- a section on one list, or a step on a count

  same_as : (line : WaitList) (c : Channel T W) (e f : Effect T W) → e ≡ f → Same line c f → Same line c e
  same_as line c e f is h = ap (λ (z : Effect T W). listeners line z.channel.wait_lists) is ∙ h

  on_lines : (line at : WaitList) (l : Listeners W) (names : List W) (c : Channel T W)
      → (Same line c (on_line at l names c) × (line ≡ at → ⊥)) ⊎ ((line ≡ at) × (listeners line (let e : Effect T W = on_line at l names c in e.channel.wait_lists) ≡ l))
  on_lines Sends Sends l names c = inr (refl, refl)
  on_lines Receives Receives l names c = inr (refl, refl)
  on_lines Streams Streams l names c = inr (refl, refl)
  on_lines Closings Closings l names c = inr (refl, refl)
  on_lines line at l names c = inl (refl, λ e. absurd cc)

  on_counts : (line : WaitList) (side : Side) (n : ℕ) (m : Mark) (c : Channel T W) → Same line c (on_count side n m c)
  on_counts Sends Senders n m c = refl
  on_counts Receives Senders n m c = refl
  on_counts Streams Senders n m c = refl
  on_counts Closings Senders n m c = refl
  on_counts line side n m c = refl

  on_raise : (line : WaitList) (b : Bool) (side : Side) (n : ℕ) (c : Channel T W) → Same line c (if b then on_count side (n + 1) (up side) c else untouched c)
  on_raise line true side n c = on_counts line side (n + 1) (up side) c
  on_raise line false side n c = refl

  -- the list at is what f makes of it
  module _ (line at : WaitList) (f : Listeners W → Listeners W) (names : List W) (c : Channel T W) (e : Effect T W) (is : e ≡ on_line at (f (listeners at c.wait_lists)) names c) where
    abbrev IsMade : Type 0
    IsMade = (line ≡ at) × (listeners line e.channel.wait_lists ≡ f (listeners line c.wait_lists))

    made : (Same line c e × (line ≡ at → ⊥)) ⊎ IsMade
    made =
        ⊎_elim
        (λ h. inl (same_as line c e (on_line at (f (listeners at c.wait_lists)) names c) is h.0, h.1))
        (λ h. inr (h.0, ap (λ (z : Effect T W). listeners line z.channel.wait_lists) is ∙ (h.1 ∙ ap (λ (z : WaitList). f (listeners z c.wait_lists)) (sym h.0))))
        (on_lines line at (f (listeners at c.wait_lists)) names c)

    -- and with what else is said of that list
    made_with : (P : Listeners W → Type 0) → P (listeners at c.wait_lists) → Same line c e ⊎ (IsMade × P (listeners line c.wait_lists))
    made_with P h = ⊎_elim (λ k. inl k.0) (λ k. inr (k, subst (λ (z : WaitList). P (listeners z c.wait_lists)) (sym k.0) h)) made

  -- ---- any of them

  module _ (line : WaitList) (c : Channel T W) (e : Effect T W) (r : Option (Reply T)) (s : Stage (Phase T) T W) where
    abbrev pub Section : ListStep T W → Type 0
    Section w = (Same line c e × TellsOthers w line) ⊎ Touched w r s line (listeners line c.wait_lists) (listeners line e.channel.wait_lists)

    left : (x : Ending T) (o : Option ListenerRef) → e ≡ leaves o c → Section (Leave x)
    left x None g = inl (same_as line c e (untouched c) g refl, tt)
    left x (Some h) g = ⊎_elim (λ k. inl (k.0, tt)) (λ k. inr (h, k.0, k.1)) (made line h.line (λ l. removed h.key true l) _ c e g)

    pub section : (w : ListStep T W) → Worked c w e r s → Section w
    section (TellReceive x) g = made line Receives (λ l. told_one l) _ c e g.0
    section (TellStreams x) g = made line Streams (λ l. told_all l) _ c e g.0
    section (TellSend x) g = made line Sends (λ l. told_one l) _ c e g.0
    section (TellSends n x) g = made line Sends (λ l. told_more n l) _ c e g.0
    section (TellAll at closer) g = made line at (λ l. told_all l) _ c e g.0
    section (Insert w task) (inl g) =
        ⊎_elim (λ h. inl (h, tt)) (λ h. inr (h.0.0, g.0, h.1, h.0.1, g.3))
        (made_with line (line_of w) (λ l. listened g.0 l) [] c e g.2 (λ l. kind_of l g.0 ≡ None) g.1)
    section (Insert w task) (inr g) = inl (same_as line c e (untouched c) g.1 refl, tt)
    section (Register w key task) g =
        ⊎_elim (λ h. inl (h, tt)) (λ h. inr (h.0.0, h.0.1, h.1))
        (made_with line (line_of w) (λ l. registration key task l) [] c e g.0 (λ l. Turned (if waits key l then pends_by w key else again w None task) r s) g.1)
    section (Leave x) g = left x x.held g.0
    section (Lower side key) g = inl (same_as line c e _ g.0 (on_counts line side (count side c.wait_lists - 1) (down side) c), tt)
    section (Raise side n making) g = inl (same_as line c e _ g.0 (on_raise line (is_raised side n c.wait_lists) side n c), tt)
    section w g = inl (same_as line c e (untouched c) g.0 refl, tt)
