-- What follows of a configuration that is shown: that its messages are balanced, how large its queue is, and that it has a position more.
use Rattle.std.specs.Prelude.{◌≡◌, ◌⊎◌}
use Rattle.channel_world_runs.proofs.Words.{eqb-true, arith, ℕ, true, false, List, Option, None, Some, inl, inr, sym, ap, ◌∙◌, subst, shows, capacity_of, Queue, IsInRange, Parts, Channel, Waiter, Configuration, all_seats, IsBalanced, Represents, Party, parts_in, observation_of, AreCounted, HasOnePlace, Shown, is_one_place, WorldState}
use Rattle.channel_steps.specs.solo.Run as queue

module _ {T : Type 0} where
  pub balanced_in : (parts : Parts T Waiter) (parties : List (Party T Waiter)) (s : Configuration T Waiter) → Represents parts parties s
      → IsBalanced s.now.queue
  balanced_in parts parties s sh =
      subst (λ (q : Queue T). IsBalanced q) (sym (ap (λ (c : Channel T Waiter). c.queue) sh.now)) sh.balanced

  -- its queue has the capacity of its form
  pub capacity_is : (f : WorldState T) (s : Configuration T Waiter) → Shown f s → s.now.queue.capacity ≡ capacity_of (parts_in f).cells.form
  capacity_is f s sh =
      let shown = shows (parts_in f).cells sh.shows.queue (all_seats sh.shows.witnesses) (_, sh.shows.fits) in
      ap (λ (c : Channel T Waiter). c.queue.capacity) sh.shows.now ∙ shown.limit

  -- what shows one place has one place alone
  pub one_place : (f : WorldState T) (s : Configuration T Waiter) → Shown f s → (observation_of f).capacity ≡ Some 1 → HasOnePlace f
  one_place f s sh e = sh.place ∙ ap (λ (cap : Option ℕ). is_one_place cap) (capacity_is f s sh ∙ e)

  -- one place alone is one slot
  pub one_slot : (f : WorldState T) (s : Configuration T Waiter) → Shown f s → HasOnePlace f → s.now.queue.capacity ≡ Some 1
  one_slot f s sh one = by s.now.queue.capacity (sym sh.place ∙ one) where
    by : (cap : Option ℕ) → is_one_place cap ≡ true → cap ≡ Some 1
    by None e = absurd (let no : false ≡ true = e in cc)
    by (Some n) e = let same : n ≡ 1 = eqb-true n 1 e in ap (λ (k : ℕ). Some k) same

  -- a queue that is shown has a position more
  pub has_position : (f : WorldState T) (s : Configuration T Waiter) → Shown f s → queue.HasNextPosition s.now.queue
  has_position f s sh = by sh.positions where
    by : HasOnePlace f ⊎ AreCounted f s → queue.HasNextPosition s.now.queue
    by (inl one) = inl (one_slot f s sh one)
    by (inr k) = let accepted = k.accepted in let within = k.within in inr (omega (arith, accepted, within))

  pub in_range : (q : Queue T) → queue.HasNextPosition q → IsInRange q
  in_range q (inl one) = inl one
  in_range q (inr low) = inr (omega (arith, low))
