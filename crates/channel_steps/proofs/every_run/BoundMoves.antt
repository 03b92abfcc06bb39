-- What a step does to the number of messages, to the capacity and to the flag.
use Rattle.std.proofs.Common.{arith, ◌≡◌, ℕ, ◌+◌, ◌≤◌, ◌==◌, true, false, List, [], ◌∷◌, length, drop, Option, Some, refl, sym, ap, ◌∙◌, subst, length-append}
use Rattle.std.proofs.lemmas.Bool.Decides.{nat_tests}
use Rattle.channel_steps.proofs.every_run.Words.{Queue, Phase, is_filled, is_full_at, IsOpen, message, marked, is_displaced, QueueAsk, QueueMark, Nothing, Channel, Effect, Moves, Mark, Reply, Stage, IsWithinBound, IsStill, after, mark_of_queue}
use Rattle.concurrent_queue.specs.Queue as queue
use Rattle.concurrent_queue.specs.declared.call.QueueMark.TheVariants.{Append, Take, TakeDisplaced, Replace, Close}
use Rattle.channel_calls.specs.declared.mark.Mark.TheVariants as mark
use Rattle.channel_steps.proofs.QueueFacts.{Says, moves_by, same_capacity, one_message, one_fewer}

room_left : (n c : ℕ) → (n == c) ≡ false → n ≤ c → n + 1 ≤ c
room_left n c t h = grind (arith, nat_tests)

module _ {T : Type 0} where
  no_longer : (xs : List T) → length (drop 1 xs) ≤ length xs
  no_longer [] = omega arith
  no_longer (x ∷ xs) = omega arith

  fits_after : (a : QueueAsk T) (s : queue.Stage T) (m : QueueMark) (q : Queue T) (most : ℕ) → Says a s m q → q.capacity ≡ Some most → length q.items ≤ most
      → length (marked a (is_displaced s) m q).items ≤ most
  fits_after a b Nothing q most says limit h = h
  fits_after a b Append q most says limit h =
      let k = length-append q.items (message a) in
      let one = one_message a in
      let room = room_left (length q.items) most (subst (λ (o : Option ℕ). is_full_at o q.items ≡ false) limit says.1) h in
      omega (arith, k, one, room)
  fits_after a b Take q most says limit h = let k = no_longer q.items in omega (arith, k, h)
  fits_after a b TakeDisplaced q most says limit h = let k = no_longer q.items in omega (arith, k, h)
  fits_after a b Replace q most says limit h =
      let k = length-append (drop 1 q.items) (message a) in
      let one = one_message a in
      let n = one_fewer q says.1.0 says.1.1 in
      omega (arith, k, one, n, h)
  fits_after a b Close q most says limit h = h

module _ {T W : Type 0} where
  -- what a mark of the channel says of the moment before it
  abbrev pub SaysOf : Mark → Channel T W → Type 0
  SaysOf mark.Replace c = is_filled c.queue ≡ true
  SaysOf mark.TakeDisplaced c = is_filled c.queue ≡ true
  SaysOf mark.Close c = IsOpen c.queue
  SaysOf m c = Unit {0}

  -- the flag after a step with this mark
  abbrev pub FlagOf : Mark → Channel T W → Channel T W → Type 0
  FlagOf mark.Close c d = d.queue.closed ≡ true
  FlagOf m c d = d.queue.closed ≡ c.queue.closed

  -- what a step with this mark does
  pub record Bounded (c d : Channel T W) (m : Mark) : Type 0 where
    pub capacity : d.queue.capacity ≡ c.queue.capacity
    pub fits : IsWithinBound c → IsWithinBound d
    pub says : SaysOf m c
    pub flag : FlagOf m c d

  queue_bounded : (c d : Channel T W) (f : Phase T) (m : QueueMark) → d.queue ≡ after f m c.queue → Says f.ask f.stage m c.queue → Bounded c d (mark_of_queue m)
  queue_bounded c d f m e says = record {
    capacity = ap (λ (q : Queue T). q.capacity) e ∙ same_capacity c.queue f.ask (is_displaced f.stage) m;
    fits = λ h most limit.
        let before : c.queue.capacity ≡ Some most = sym (ap (λ (q : Queue T). q.capacity) e ∙ same_capacity c.queue f.ask (is_displaced f.stage) m) ∙ limit in
        subst (λ (q : Queue T). length q.items ≤ most) (sym e) (fits_after f.ask f.stage m c.queue most says before (h most before));
    says = of m says;
    flag = by m e;
  } where
    of : (n : QueueMark) → Says f.ask f.stage n c.queue → SaysOf (mark_of_queue n) c
    of TakeDisplaced h = h.1
    of Replace h = h.2
    of Close h = h
    of w h = tt

    by : (n : QueueMark) → d.queue ≡ after f n c.queue → FlagOf (mark_of_queue n) c d
    by Nothing is = ap (λ (q : Queue T). q.closed) is
    by w is = ap (λ (q : Queue T). q.closed) is

  still_bounded : (c d : Channel T W) (m : Mark) → d.queue ≡ c.queue → IsStill m → Bounded c d m
  still_bounded c d m e still = record {
    capacity = ap (λ (q : Queue T). q.capacity) e;
    fits = λ h. subst (λ (q : Queue T). (most : ℕ) → q.capacity ≡ Some most → length q.items ≤ most) (sym e) h;
    says = of m still;
    flag = by m still;
  } where
    of : (n : Mark) → IsStill n → SaysOf n c
    of mark.Replace h = absurd h
    of mark.TakeDisplaced h = absurd h
    of mark.Close h = absurd h
    of n h = tt

    by : (n : Mark) → IsStill n → FlagOf n c d
    by mark.Close h = absurd h
    by n h = ap (λ (q : Queue T). q.closed) e

  pub moves_bounded : (c : Channel T W) (at : Stage (Phase T) T W) (e : Effect T W) (r : Option (Reply T)) (s : Stage (Phase T) T W) → Moves c at e r s → Bounded c e.channel e.mark
  moves_bounded c at e r s h =
      moves_by c at (λ m q. (d : Channel T W) → d.queue ≡ q → Bounded c d m) (λ f y m is says d same. queue_bounded c d f m same says)
      (λ m still d same. still_bounded c d m same still) e r s h e.channel refl
