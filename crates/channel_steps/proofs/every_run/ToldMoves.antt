-- What a step does to those of a list that were told.
use Rattle.std.proofs.Common.{⊎_elim, ◌≡◌, ℕ, ◌+◌, ◌≤◌, Bool, true, false, if◌then◌else◌, length, Option, None, ◌⊎◌, inl, inr, refl, sym, ap, subst, arith}
use Rattle.channel_steps.proofs.every_run.Words.{Phase, registration, Key, Channel, Effect, Turned, Worked, Moves, Listeners, listeners, waits, line_of, again, pends_by, Reply, WaitList, Sends, Receives, Streams, Stage, Trying, Working, Finished, Waiting, ListStep, TellReceive, TellStreams, TellSend, TellSends, TellAll, Insert, Register, Leave, AnyTold, told_of, IsIn}
use Rattle.channel_steps.proofs.every_run.Sections.{Touched, TellsOthers, Section, section}
use Rattle.channel_steps.proofs.every_run.ToldFacts.{any_told_one, any_told_more, any_told_all, any_after_removal, any_registration, told_one_counts, told_more_counts, removed_counts, registered_counts}

abbrev pub is_receives : WaitList → ℕ
is_receives Receives = 1
is_receives line = 0

abbrev pub of_sends : ℕ → WaitList → ℕ
of_sends n Sends = n
of_sends n line = 0

abbrev pub is_sends : WaitList → ℕ
is_sends Sends = 1
is_sends line = 0

and_at : {A B C : Type 0} → A → B ⊎ C → B ⊎ (A × C)
and_at a (inl h) = inl h
and_at a (inr h) = inr (a, h)

module _ {W : Type 0} where
  -- as of the list that a work makes
  kept_to : {A : Type 0} → (b : Bool) (l l' k : Listeners W) → l' ≡ k → (AnyTold b k.told → AnyTold b l.told ⊎ A) → AnyTold b l'.told → AnyTold b l.told ⊎ A
  kept_to b l l' k is f h = f (subst (λ (z : Listeners W). AnyTold b z.told) is h)

module _ {T W : Type 0} where
  -- ---- how they were told

  -- a call at this stage tells one of this list so
  abbrev pub Tells : WaitList → Bool → Stage (Phase T) T W → Type 0
  Tells line b (Working (TellReceive x)) = (line ≡ Receives) × (true ≡ b)
  Tells line b (Working (TellStreams x)) = (line ≡ Streams) × (false ≡ b)
  Tells line b (Working (TellSend x)) = (line ≡ Sends) × (true ≡ b)
  Tells line b (Working (TellSends n x)) = (line ≡ Sends) × (true ≡ b)
  Tells line b (Working (TellAll at closer)) = (line ≡ at) × (false ≡ b)
  Tells line b at = ⊥

  module _ (line : WaitList) (b : Bool) where
    -- one that is told so now was told so before, or the call tells it so
    abbrev Keeps : Stage (Phase T) T W → Listeners W → Listeners W → Type 0
    Keeps at l l' = AnyTold b l'.told → AnyTold b l.told ⊎ Tells line b at

    touched_told : (w : ListStep T W) (r : Option (Reply T)) (s : Stage (Phase T) T W) (l l' : Listeners W) → Touched w r s line l l' → Keeps (Working w) l l'
    touched_told (TellReceive x) r s l l' (at, is) h = kept_to b l l' _ is (λ k. and_at at (any_told_one b l k)) h
    touched_told (TellStreams x) r s l l' (at, is) h = kept_to b l l' _ is (λ k. and_at at (any_told_all b l k)) h
    touched_told (TellSend x) r s l l' (at, is) h = kept_to b l l' _ is (λ k. and_at at (any_told_one b l k)) h
    touched_told (TellSends n x) r s l l' (at, is) h = kept_to b l l' _ is (λ k. and_at at (any_told_more b n l k)) h
    touched_told (TellAll to closer) r s l l' (at, is) h = kept_to b l l' _ is (λ k. and_at at (any_told_all b l k)) h
    touched_told (Insert w task) r s l l' (at, key, new, is, turned) h = kept_to b l l' _ is (λ k. inl k) h
    touched_told (Register w key task) r s l l' (at, is, turned) h = kept_to b l l' _ is (λ k. inl (any_registration b key task l k)) h
    touched_told (Leave x) r s l l' (o, at, is) h = kept_to b l l' _ is (λ k. inl (any_after_removal b o.key l k)) h
    touched_told w r s l l' none h = absurd none

    pub moved_told : (c : Channel T W) (at : Stage (Phase T) T W) (e : Effect T W) (r : Option (Reply T))
        (s : Stage (Phase T) T W) → Moves c at e r s
        → AnyTold b (told_of line e.channel) → AnyTold b (told_of line c) ⊎ Tells line b at
    moved_told c (Trying f purpose) e r s g h = inl (subst (λ (z : Effect T W). AnyTold b (told_of line z.channel)) g.effect h)
    moved_told c (Working w) e r s g h =
        ⊎_elim (λ same. inl (subst (λ (z : Listeners W). AnyTold b z.told) same.0 h))
        (λ made. touched_told w r s (listeners line c.wait_lists) (listeners line e.channel.wait_lists) made h) (section line c e r s w g)
    moved_told c (Finished kept) e r s g h = inl (subst (λ (z : Effect T W). AnyTold b (told_of line z.channel)) g.0 h)

  -- ---- how many are told

  -- how many of this list the work tells one at a time
  abbrev pub tells_now : ListStep T W → WaitList → ℕ
  tells_now (TellReceive x) line = is_receives line
  tells_now (TellSend x) line = is_sends line
  tells_now (TellSends n x) line = of_sends n line
  tells_now w line = 0

  -- the poll found its listener told, and tries again without it
  abbrev pub AsksAnew : WaitList → ListStep T W → Option (Reply T) → Stage (Phase T) T W → Type 0
  AsksAnew line (Register v key task) r s = (line ≡ line_of v) × Turned (again v None task) r s
  AsksAnew line w r s = ⊥

  none_told : (w : ListStep T W) (line : WaitList) → TellsOthers w line → tells_now w line ≡ 0
  none_told (TellReceive x) Receives others = absurd (others refl)
  none_told (TellReceive x) line others = refl
  none_told (TellSend x) Sends others = absurd (others refl)
  none_told (TellSend x) line others = refl
  none_told (TellSends n x) Sends others = absurd (others refl)
  none_told (TellSends n x) line others = refl
  none_told w line others = refl

  module _ (key : Key) (r : Option (Reply T)) (s : Stage (Phase T) T W) (line : WaitList) where
    -- where this one waits still: as many more are told as the work tells, or one fewer and its poll tries again; or one was
    -- told by the default
    abbrev pub Counts : ListStep T W → Listeners W → Listeners W → Type 0
    Counts w l l' =
        IsIn key l'.waiting
        → (length l.told + tells_now w line ≤ length l'.told)
        ⊎ ((AsksAnew line w r s × (length l.told ≤ length l'.told + 1)) ⊎ AnyTold false l.told)

    -- as of the list that the work makes
    counts_to : (w : ListStep T W) (l l' k : Listeners W) → l' ≡ k → Counts w l k → Counts w l l'
    counts_to w l l' k is f h = subst (λ (z : Listeners W). Counts w l z) (sym is) f h

    -- as many more are told as the work tells
    tells : (w : ListStep T W) (l k : Listeners W) (n : ℕ) → (IsIn key k.waiting → length k.told ≡ length l.told + n) → tells_now w line ≡ n → Counts w l k
    tells w l k n f told h = let more = f h in inl (omega (arith, more, told))

    registers : (w : Waiting T) (own : Key) (task : W) (l : Listeners W) → line ≡ line_of w
        → Turned (if waits own l then pends_by w own else again w None task) r s
        → (length l.told ≤ length (registration own task l).told)
        ⊎ ((waits own l ≡ false) × (length l.told ≤ length (registration own task l).told + 1))
        → Counts (Register w own task) l (registration own task l)
    registers w own task l at turned (inl n) h = inl (omega (arith, n))
    registers w own task l at turned (inr (found, n)) h =
        inr (inl ((at, subst (λ (b : Bool). Turned (if b then pends_by w own else again w None task) r s) found turned), omega (arith, n)))

    touched_counts : (w : ListStep T W) (l l' : Listeners W) → Touched w r s line l l' → Counts w l l'
    touched_counts (TellReceive x) l l' (at, is) = counts_to (TellReceive x) l l' _ is (tells (TellReceive x) l _ 1 (told_one_counts key l) (ap is_receives at))
    touched_counts (TellStreams x) l l' (at, is) = counts_to (TellStreams x) l l' _ is (λ h. absurd h)
    touched_counts (TellSend x) l l' (at, is) = counts_to (TellSend x) l l' _ is (tells (TellSend x) l _ 1 (told_one_counts key l) (ap is_sends at))
    touched_counts (TellSends n x) l l' (at, is) = counts_to (TellSends n x) l l' _ is (tells (TellSends n x) l _ n (told_more_counts n key l) (ap (λ (z : WaitList). of_sends n z) at))
    touched_counts (TellAll to closer) l l' (at, is) = counts_to (TellAll to closer) l l' _ is (λ h. absurd h)
    touched_counts (Insert w task) l l' (at, own, new, is, turned) = counts_to (Insert w task) l l' _ is (λ h. inl (omega arith))
    touched_counts (Register w own task) l l' (at, is, turned) = counts_to (Register w own task) l l' _ is (registers w own task l at turned (registered_counts own task l))
    touched_counts (Leave x) l l' (o, at, is) = counts_to (Leave x) l l' _ is (λ h. ⊎_elim (λ n. inl (omega (arith, n))) (λ d. inr (inr d)) (removed_counts o.key key l h))
    touched_counts w l l' none = absurd none

    pub worked_counts : (c : Channel T W) (w : ListStep T W) (e : Effect T W) → Worked c w e r s → Counts w (listeners line c.wait_lists) (listeners line e.channel.wait_lists)
    worked_counts c w e g = by (section line c e r s w g)
      where
        by : Section line c e r s w → Counts w (listeners line c.wait_lists) (listeners line e.channel.wait_lists)
        by (inl (same, others)) h = let told = none_told w line others in let kept = ap (λ (z : Listeners W). length z.told) same in inl (omega (arith, told, kept))
        by (inr made) h = touched_counts w (listeners line c.wait_lists) (listeners line e.channel.wait_lists) made h
