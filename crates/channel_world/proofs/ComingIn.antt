-- How many messages come in while a settling goes on: no more than places are free, and than are freed by who takes a message.
use Rattle.std.specs.Prelude.{◌≡◌, ◌⊎◌, ◌≤◌, ◌+◌, ◌-◌, ◌==◌, ◌∷◌, ◌++◌, if◌then◌else◌}
use Rattle.channel_world.proofs.Lemmas.{arith, nat_lt, ℕ, suc, min, List, [], length, Bool, true, false, Option, None, Some, IfSome, inl, inr, refl, sym, ap, subst, ◌∙◌, length-append, option_map_or, slice_get, eqb-false, ltb-false, ltb-true, WaitList, Sends, Receives, Streams, Answer, first, found_in, AwakeIn, Kind, ModelChannel, is_full, is_line, line_at, Answers, poll_of, State, Waiter, Open, Filled, Shut, count_all, first_there, decided, came_in, most_in, most_accepted, on, count_more, count_on}
use Rattle.channel_world_model.proofs.Settle.{one_if}
use Rattle.channel_world.proofs.Short.{Comes, Does, Left, LeftOrStood, Stays, Takes, polled_as}

-- ---- numbers

-- as `most_in`, by what the channel is
abbrev bound : Bool → Option ℕ → ℕ → ℕ → ℕ → ℕ
bound closed capacity held sends takers = if closed then 0 else option_map_or (λ c. min sends ((c - held) + takers)) capacity sends

fewer_in : (b : Bool) (cap : Option ℕ) (h n m n' m' : ℕ) → n' ≤ n → m' ≤ m → bound b cap h n' m' ≤ bound b cap h n m
fewer_in true cap h n m n' m' sends takers = omega arith
fewer_in false None h n m n' m' sends takers = sends
fewer_in false (Some c) h n m n' m' sends takers = omega (arith, sends, takers)

-- one is taken, and one that takes it leaves
one_taken : (b : Bool) (cap : Option ℕ) (h g n m n' m' : ℕ) → h ≡ suc g → n' ≤ n → suc m' ≤ m → bound b cap g n' m' ≤ bound b cap h n m
one_taken true cap h g n m n' m' held sends takers = omega arith
one_taken false None h g n m n' m' held sends takers = sends
one_taken false (Some c) h g n m n' m' held sends takers = omega (arith, held, sends, takers)

-- one comes in where a place is free, and its send leaves
one_came : (cap : Option ℕ) (h g n m n' m' : ℕ) → IfSome cap (λ c. suc h ≤ c) → g ≡ h + 1 → suc n' ≤ n → m' ≤ m
    → 1 + bound false cap g n' m' ≤ bound false cap h n m
one_came None h g n m n' m' fits held sends takers = omega (arith, sends)
one_came (Some c) h g n m n' m' fits held sends takers = omega (arith, fits, held, sends, takers)

-- ---- the channel

opens : (b f : Bool) → (if b then Shut else (if f then Filled else Open)) ≡ Open → (b ≡ false) × (f ≡ false)
opens true f e = cc e
opens false true e = cc e
opens false false e = (refl, refl)

-- where no more is held than fits, and it isn't full, one more does
one_fits : (cap : Option ℕ) (h : ℕ) → IfSome cap (λ c. h ≤ c) → option_map_or (λ c. h == c) cap false ≡ false → IfSome cap (λ c. suc h ≤ c)
one_fits None h within e = tt
one_fits (Some c) h within e = below h c within (λ same. eqb-false h c e same)
  where
    below : (h c : ℕ) → h ≤ c → (h ≡ c → ⊥) → suc h ≤ c
    below h c le apart = elim (decided (nat_lt h c)) [
      | inl t ↦ let less = ltb-true h c t in omega (arith, less)
      | inr f ↦ absurd (apart (let more = ltb-false h c f in omega (arith, le, more)))
    ]

module _ {T : Type 0} where
  taken : (xs : List T) (b : Bool) (m : T) (ms : List T) → found_in xs b ≡ first m ms → length xs ≡ suc (length ms)
  taken [] true m ms e = cc e
  taken [] false m ms e = cc e
  taken (x ∷ xs) b m ms e = let same : xs ≡ ms = cc e in ap (λ (l : List T). suc (length l)) same

  -- of an open channel with a bound
  pub bounded_in : (c : ModelChannel T) (sends takers most : ℕ) → c.closed ≡ false → c.capacity ≡ Some most
      → most_in c sends takers ≡ min sends ((most - length c.messages) + takers)
  bounded_in c sends takers most is_open bound = rw (is_open, bound) refl

  -- no more is held than fits
  abbrev pub HoldsWithin : State T → Type 0
  HoldsWithin s = IfSome s.channel.capacity (λ capacity. length s.channel.messages ≤ capacity)

  -- how many are pending whose operation belongs to this line
  of_line : WaitList → State T → ℕ
  of_line line s = count_all (on (line_at s.names) line) s.waiting

  -- how many messages come in while it goes on
  pub still_in : State T → ℕ
  still_in s = most_in s.channel (of_line Sends s) (of_line Receives s + of_line Streams s)

  pub still_within : (s : State T) → AwakeIn s → still_in s ≤ most_accepted s
  unfolding still_in of_line
  still_within s awake =
      let k = line_at s.names in
      let sends = count_on k s.waiting awake.placed Sends in
      let receives = count_on k s.waiting awake.placed Receives in
      let streams = count_on k s.waiting awake.placed Streams in
      fewer_in s.channel.closed s.channel.capacity (length s.channel.messages) _ _ _ _ sends (omega (arith, receives, streams))

  -- ---- one poll

  module _ (s : State T) (awake : AwakeIn s) (holds : HoldsWithin s) (w : Waiter) (a : Answer T) (front : slice_get s.waiting.woken 0 ≡ Some w)
      (answers : Answers s (poll_of w) a) where
    abbrev k : Kind
    k = line_at s.names

    -- those of a line whom the poll leaves
    abbrev those : WaitList → ℕ
    those line = count_all (on k line) a.after.waiting

    own_line : (line : WaitList) → k w ≡ Some line → is_line line (Some line) ≡ true → one_if (is_line line (k w)) ≡ 1
    own_line line own same = ap (λ (o : Option WaitList). one_if (is_line line o)) own ∙ ap (λ (b : Bool). one_if b) same

    came_so : (line : WaitList) → k w ≡ Some line → Comes s line w a
        → came_in a.reply + most_in a.after.channel (those Sends) (those Receives + those Streams) ≤ still_in s
    unfolding still_in of_line
    came_so line own c =
        let free = opens s.channel.closed (is_full s.channel) c.fits in
        let mine = own_line Sends (own ∙ ap (λ (l : WaitList). Some l) c.line_is) refl in
        let left = c.left in
        let sends = left.fewer (on k Sends) in
        let receives = left.fewer (on k Receives) in
        let streams = left.fewer (on k Streams) in
        let one = c.came in
        let most = one_came s.channel.capacity (length s.channel.messages) (length (s.channel.messages ++ c.message ∷ [])) _ _ (those Sends)
        (those Receives + those Streams) (one_fits s.channel.capacity (length s.channel.messages) holds free.1)
        (length-append s.channel.messages (c.message ∷ [])) (omega (arith, sends, mine)) (omega (arith, receives, streams)) in
        let so = subst (λ (b : Bool). 1 + bound b s.channel.capacity (length (s.channel.messages ++ c.message ∷ [])) (those Sends) (those Receives + those Streams)
        ≤ bound b s.channel.capacity (length s.channel.messages) (count_all (on k Sends) s.waiting) (count_all (on k Receives) s.waiting + count_all (on k Streams) s.waiting))
        (sym free.0) most in
        let there = subst (λ (d : ModelChannel T). 1 + most_in d (those Sends) (those Receives + those Streams)
        ≤ most_in s.channel (count_all (on k Sends) s.waiting) (count_all (on k Receives) s.waiting + count_all (on k Streams) s.waiting))
        (sym c.channel) so in
        omega (arith, one, there)

    takers_less : (line : WaitList) → k w ≡ Some line → (line ≡ Receives) ⊎ (line ≡ Streams) → Left w line s.waiting a.after.waiting a.woken
        → suc (those Receives + those Streams) ≤ count_all (on k Receives) s.waiting + count_all (on k Streams) s.waiting
    takers_less line own (inl e) left =
        let mine = own_line Receives (own ∙ ap (λ (l : WaitList). Some l) e) refl in
        let receives = left.fewer (on k Receives) in
        let streams = left.fewer (on k Streams) in
        omega (arith, mine, receives, streams)
    takers_less line own (inr e) left =
        let mine = own_line Streams (own ∙ ap (λ (l : WaitList). Some l) e) refl in
        let receives = left.fewer (on k Receives) in
        let streams = left.fewer (on k Streams) in
        omega (arith, mine, receives, streams)

    took_so : (line : WaitList) → k w ≡ Some line → Takes s line w a
        → came_in a.reply + most_in a.after.channel (those Sends) (those Receives + those Streams) ≤ still_in s
    unfolding still_in of_line
    took_so line own c =
        let left = c.left in
        let none = c.came in
        let sends = left.fewer (on k Sends) in
        let most = one_taken s.channel.closed s.channel.capacity (length s.channel.messages) (length c.rest) _ _ (those Sends)
        (those Receives + those Streams) (taken s.channel.messages s.channel.closed c.message c.rest c.there)
        (omega (arith, sends)) (takers_less line own c.line_is left) in
        let there = subst (λ (d : ModelChannel T). most_in d (those Sends) (those Receives + those Streams)
        ≤ most_in s.channel (count_all (on k Sends) s.waiting) (count_all (on k Receives) s.waiting + count_all (on k Streams) s.waiting))
        (sym c.channel) most in
        omega (arith, none, there)

    no_more_of : (line : WaitList) (of : WaitList) → LeftOrStood w line s.waiting a.after.waiting a.woken → those of ≤ count_all (on k of) s.waiting
    no_more_of line of (inl left) = let fewer = left.fewer (on k of) in omega (arith, fewer)
    no_more_of line of (inr stood_so) = stood_so.same (on k of)

    stayed_so : (line : WaitList) → LeftOrStood w line s.waiting a.after.waiting a.woken → Stays s a
        → came_in a.reply + most_in a.after.channel (those Sends) (those Receives + those Streams) ≤ still_in s
    unfolding still_in of_line
    stayed_so line lors c =
        let none = c.came in
        let sends = no_more_of line Sends lors in
        let receives = no_more_of line Receives lors in
        let streams = no_more_of line Streams lors in
        let most = fewer_in s.channel.closed s.channel.capacity (length s.channel.messages) _ _ (those Sends) (those Receives + those Streams)
        sends (omega (arith, receives, streams)) in
        let there = subst (λ (d : ModelChannel T). most_in d (those Sends) (those Receives + those Streams)
        ≤ most_in s.channel (count_all (on k Sends) s.waiting) (count_all (on k Receives) s.waiting + count_all (on k Streams) s.waiting))
        (sym c.channel) most in
        omega (arith, none, there)

    does_so : (line : WaitList) → k w ≡ Some line → LeftOrStood w line s.waiting a.after.waiting a.woken → Does s line w a
        → came_in a.reply + most_in a.after.channel (those Sends) (those Receives + those Streams) ≤ still_in s
    does_so line own lors (inl c) = came_so line own c
    does_so line own lors (inr (inl c)) = took_so line own c
    does_so line own lors (inr (inr c)) = stayed_so line lors c

    -- what a poll of the first of those that are woken brings in, with what comes in after it, is no more than what came in from before it
    pub still_less : came_in a.reply + still_in a.after ≤ still_in s
    unfolding still_in of_line
    still_less =
        let p = polled_as s awake w a (first_there w s.waiting.woken front) answers in
        let so = p.so in
        let most = does_so p.line p.own so.0 so.2 in
        let more : (line : WaitList) → of_line line a.after ≤ those line =
        λ line. count_more (on (line_at a.after.names) line) (on k line) (λ v e. so.1 line v e) a.after.waiting in
        let sends = more Sends in
        let receives = more Receives in
        let streams = more Streams in
        let fewer = fewer_in a.after.channel.closed a.after.channel.capacity (length a.after.channel.messages) (those Sends)
        (those Receives + those Streams) (of_line Sends a.after) (of_line Receives a.after + of_line Streams a.after) sends
        (omega (arith, receives, streams)) in
        omega (arith, most, fewer)
