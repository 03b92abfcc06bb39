-- The positions that a settling needs: one for each message that comes in.
use Rattle.std.specs.Prelude.{◌≡◌, ◌≤◌, ◌+◌, ◌∷◌}
use Rattle.channel_world.proofs.Lemmas.{arith, ℕ, Bool, true, false, Some, IfSome, List, [], length, slice_get, inl, inr, subst, ◌∙◌, Reply, HasPositions, IsQuiet, Stands, accepted_by, brings, came_in, WorldState, Answer, AwakeIn, is_among, Answers, poll_of, Waiter, Polls, at_rest, holds_what_fits}
use Rattle.channel_world.proofs.ComingIn.{still_in, still_less, HoldsWithin}
use Rattle.channel_world.proofs.NumberFacts.{messages_at_rest}

at_most_came : {T : Type 0} (b : Bool) (x : Reply T) → accepted_by b x ≤ came_in x
at_most_came true x = omega arith
at_most_came false x = omega arith

pub nobody_there : (ws : List Waiter) (w : Waiter) → length ws ≡ 0 → is_among w ws ≡ true → ⊥
nobody_there [] w e there = absurd (let no : false ≡ true = there in cc)
nobody_there (v ∷ ws) w e there = omega (arith, e)

module _ {T : Type 0} where
  pub fewer_positions : (f : WorldState T) (n m : ℕ) → n ≤ m → HasPositions m f → HasPositions n f
  fewer_positions f n m less (inl one) = inl one
  fewer_positions f n m less (inr left) = inr (omega (arith, less, left))

  -- with no call under way no more messages are held than fit
  holds_at_rest : (f : WorldState T) → Stands f → IsQuiet f → HoldsWithin (at_rest f)
  holds_at_rest f k quiet =
      subst (λ n. IfSome (at_rest f).channel.capacity (λ most. n ≤ most)) (messages_at_rest f k quiet) (holds_what_fits f k)

  module _ (f : WorldState T) (k : Stands f) (quiet : IsQuiet f) (awake : AwakeIn (at_rest f)) (w : Waiter)
      (front : slice_get (at_rest f).waiting.woken 0 ≡ Some w) where
    -- however the poll of the first of those that are woken is answered, there is a position for what it brings in
    pub one_position : HasPositions (still_in (at_rest f)) f → (a : Answer T) → Answers (at_rest f) (poll_of w) a
        → HasPositions (accepted_by (brings f.name_table (poll_of w)) a.reply) f
    one_position left a says =
        let fewer = still_less (at_rest f) awake (holds_at_rest f k quiet) w a front says in
        let most = at_most_came (brings f.name_table (poll_of w)) a.reply in
        fewer_positions f _ _ (omega (arith, fewer, most)) left

    -- and after it there are still positions for what comes in then
    pub positions_on : (g : WorldState T) (before : List Waiter) (x : Reply T) (after : List Waiter) → Polls w (at_rest f) before x after (at_rest g)
        → g.has_one_place ≡ f.has_one_place → g.accepted ≤ f.accepted + accepted_by (brings f.name_table (poll_of w)) x
        → HasPositions (still_in (at_rest f)) f → HasPositions (still_in (at_rest g)) g
    positions_on g before x after polls place accepted (inl one) = inl (place ∙ one)
    positions_on g before x after polls place accepted (inr left) =
        let a : Answer T = record { after = at_rest g; reply = x; woken = polls.woken } in
        let fewer = still_less (at_rest f) awake (holds_at_rest f k quiet) w a front polls.answers in
        let most = at_most_came (brings f.name_table (poll_of w)) x in
        inr (omega (arith, left, fewer, most, accepted))
