-- A ring that was just made is open and empty, and each of its slots waits for its first message.
use Rattle.std.proofs.Common.{◌≡◌, ℕ, zero, suc, ◌+◌, ◌*◌, ◌/◌, ◌<◌, ◌≤◌, ⊎_elim, false, nat_lt, [], ◌∷◌, ◌++◌, length, None, Some, slice_get, refl, sym, ap, ◌∙◌, subst, arith, length-append}
use Rattle.std.proofs.lemmas.Nat.{div-mul-add}
use Rattle.std.proofs.Math.Nat.{mod-eq_of_lt}
use Rattle.std.proofs.lemmas.Bool.{cases_lt, false≢true}
use Rattle.std.proofs.lemmas.Bool.Decides.{nat_tests}
use Rattle.concurrent_queue.specs.machine.Positions.{pos}
use Rattle.concurrent_queue.specs.Queue.{opened}
use Rattle.concurrent_queue.specs.machine.RingState.{Ring, SoundRing}
use Rattle.concurrent_queue.specs.machine.RingCalls.{Duty, hold, bring, IsDuty, owed}
use Rattle.concurrent_queue.specs.machine.RingMade.{numbers_below, vacant_slots, empty_ring}
use Rattle.concurrent_queue.specs.machine.RingMeans.{Denotes, RingMeans}
use Rattle.concurrent_queue.proofs.RingShape.{IsMark}
use Rattle.concurrent_queue.proofs.RingSound.{get_before, get_end}

pub next_number : (n : ℕ) → numbers_below n ++ n ∷ [] ≡ numbers_below (n + 1)
next_number n = let e : n + 1 ≡ suc n = omega arith in rw e refl

pub next_slot : {T : Type 0} (n : ℕ) → vacant_slots {T = T} n ++ None ∷ [] ≡ vacant_slots (n + 1)
next_slot n = let e : n + 1 ≡ suc n = omega arith in rw e refl

numbers_long : (n : ℕ) → length (numbers_below n) ≡ n
numbers_long zero = refl
numbers_long (suc n) = omega (arith, length-append (numbers_below n) (n ∷ []), numbers_long n)

slots_long : (T : Type 0) (n : ℕ) → length (vacant_slots {T = T} n) ≡ n
slots_long T zero = refl
slots_long T (suc n) = omega (arith, length-append (vacant_slots {T = T} n) (None ∷ []), slots_long T n)

number_at : (n i : ℕ) → i < n → slice_get (numbers_below n) i ≡ Some i
number_at zero i h = absurd (omega arith)
number_at (suc n) i h = ⊎_elim
    (λ (g : i < n). get_before (numbers_below n) n i (let l = numbers_long n in omega arith) ∙ number_at n i g)
    (λ (g : n ≤ i). let e : i ≡ n = omega arith in
    subst (λ (j : ℕ). slice_get (numbers_below n ++ n ∷ []) j ≡ Some j) (sym e)
    (subst (λ (j : ℕ). slice_get (numbers_below n ++ n ∷ []) j ≡ Some n) (numbers_long n) (get_end (numbers_below n) n)))
    (cases_lt i n)

slot_at : (T : Type 0) (n i : ℕ) → i < n → slice_get (vacant_slots {T = T} n) i ≡ Some None
slot_at T zero i h = absurd (omega arith)
slot_at T (suc n) i h = ⊎_elim
    (λ (g : i < n). get_before (vacant_slots n) None i (let l = slots_long T n in omega arith) ∙ slot_at T n i g)
    (λ (g : n ≤ i). let e : i ≡ n = omega arith in
    subst (λ (j : ℕ). slice_get (vacant_slots {T = T} n ++ None ∷ []) j ≡ Some None) (sym e)
    (subst (λ (j : ℕ). slice_get (vacant_slots {T = T} n ++ None ∷ []) j ≡ Some None) (slots_long T n) (get_end (vacant_slots n) None)))
    (cases_lt i n)

module _ (T : Type 0) (cap m : ℕ) (two : 2 ≤ cap) (k : IsMark cap m) where
  new_ring : Ring T
  new_ring = record { all = []; head = 0; tail = 0; closed = false; coming = false; at = λ i. record { round = i; written = false; slot = None } }

  first_pos : (i : ℕ) → i < cap → pos cap (2 * m) i ≡ i
  unfolding pos
  first_pos i h =
      let e : 0 * cap + i ≡ i = omega arith in
      let d : i / cap ≡ 0 = subst (λ (j : ℕ). j / cap ≡ 0) e (div-mul-add 0 cap i h) in
      rw (d, mod-eq_of_lt h) (omega arith)

  new_sound : SoundRing cap new_ring
  unfolding new_ring
  new_sound = record {
    all = refl;
    order = omega arith;
    room = omega arith;
    index = λ i h. mod-eq_of_lt h;
    free = λ i h w g. (refl, omega arith);
    filling = λ i h w g. absurd (omega arith);
    full = λ i h w g. absurd (false≢true w);
    used = λ i h w g. absurd (omega arith);
    coming = λ h. absurd (false≢true h);
  }

  new_denotes : Denotes cap m (empty_ring cap) new_ring
  unfolding new_ring
  new_denotes =
      let z = first_pos 0 (omega arith) in
      record {
        head = sym z;
        tail = omega arith;
        stamps = λ i h. number_at cap i h ∙ ap Some (let e = first_pos i h in omega arith);
        slots = λ i h. slot_at T cap i h;
      }

  nothing_owed : (y : Duty) → IsDuty cap y → 0 ≡ owed new_ring y
  unfolding new_ring
  nothing_owed (hold i) h = (let e : nat_lt i 0 ≡ false = grind (arith, nat_tests) in rw e refl)
  nothing_owed bring h = refl

  pub ring_opened : RingMeans {T = T} cap m (empty_ring cap) (opened (Some cap)) []
  unfolding new_ring
  ring_opened = record {
    ring = new_ring;
    calls = [];
    positions = refl;
    denotes = new_denotes;
    sound = new_sound;
    shown = record { items = refl; closed = refl; coming = refl; accepted = refl; removed = refl; capacity = refl };
    owners = nothing_owed;
    knows = tt;
  }
