-- The operations of the fast paths of a push and of a pop on a ring are those of its machine, whatever they are answered.
use Rattle.std.proofs.Common.{◌≡◌, ℕ, suc, ◌+◌, ◌-◌, ◌*◌, ◌%◌, ◌^◌, ◌==◌, ◌<◌, ◌≤◌, ◌&&◌, true, false, nat_le, if◌then◌else◌, None, Some, Result, Ok, Err, is_err, refl, sym, subst, arith}
use Rattle.std.proofs.lemmas.Bool.Decides.{nat_tests}
use Rattle.concurrent_queue.specs.Deeds.{Deed, loaded, stored, exchanged, did_put, did_take}
use Rattle.concurrent_queue.specs.machine.FastPath.{IsStep, PushesOnEnd, PopsOnEnd}
use Rattle.concurrent_queue.specs.machine.RingWords.{index, is_marked, unmarked, next_word, finishes, stays}
use Rattle.concurrent_queue.specs.machine.RingMoves.{RingMakes, after_tail, after_stamp, after_look, after_pop_tail}
use Rattle.concurrent_queue.specs.declared.bounded.RingAction.TheVariants as act
use Rattle.concurrent_queue.specs.declared.bounded.WhenFull.TheVariants.{Refuse}
use Rattle.concurrent_queue.specs.declared.call.QueueMark.TheVariants.{Nothing, Append, Take}
use Rattle.concurrent_queue.specs.declared.call.QueueReply.TheVariants as reply
use Rattle.concurrent_queue.specs.declared.call.Stepped.{Stepped}
use Rattle.concurrent_queue.specs.declared.cells.Slot.TheVariants.{At}
use Rattle.concurrent_queue.specs.declared.cells.Word.{Word}
use Rattle.concurrent_queue.specs.declared.cells.Word.TheVariants.{Head, Tail, Stamp}
use Rattle.concurrent_queue.specs.declared.error.PopError.{PopError}
use Rattle.concurrent_queue.specs.declared.error.PopError.TheVariants as pop_error
use Rattle.concurrent_queue.specs.declared.error.PushError.{PushError}
use Rattle.concurrent_queue.specs.declared.error.PushError.TheVariants as push_error

same : (m n : ℕ) → m ≡ n → (m == n) ≡ true
same m n e = grind (arith, nat_tests, e)

other : (m n : ℕ) → (m ≡ n → ⊥) → (m == n) ≡ false
other m n e = grind (arith, nat_tests, e)

-- ---- chains of steps of any machine, over any states

module _ {T A S : Type 0} (Step : S → A → S → Stepped A T → Type 0) where
  pub pushes_after : (c : S) (a : A) (x : S) (y : A) (d : S) (r : Result (Result Unit (PushError T)) A) → IsStep Step c a x y → PushesOnEnd Step x y r d → PushesOnEnd Step c a r d
  pushes_after c a x y d (Ok r) s (n, (x1, y1, z1, m1, path, last)) = (suc n, (x1, y1, z1, m1, (x, y, s, path), last))
  pushes_after c a x y d (Err b) s (n, path) = (suc n, (x, y, s, path))

  pub pops_after : (c : S) (a : A) (x : S) (y : A) (d : S) (r : Result (Result T PopError) A) → IsStep Step c a x y → PopsOnEnd Step x y r d → PopsOnEnd Step c a r d
  pops_after c a x y d (Ok r) s (n, (x1, y1, z1, m1, path, last)) = (suc n, (x1, y1, z1, m1, (x, y, s, path), last))
  pops_after c a x y d (Err b) s (n, path) = (suc n, (x, y, s, path))

  pub pops_stand : (c : S) (a : A) → PopsOnEnd Step c a (Err a) c
  pops_stand c a = (0, (refl, refl))

  pub pushes_stand : (c : S) (a : A) → PushesOnEnd Step c a (Err a) c
  pushes_stand c a = (0, (refl, refl))

-- ---- a pop from a ring

module _ {T S : Type 0} (did : Deed T → S → S → Type 0) (cap m : ℕ) (s t : S) (h : ℕ) where
  pub head_loaded : did (loaded Head h) s t → IsStep (RingMakes cap m did) s act.Pop t (act.PopStamp h)
  head_loaded deed = (Nothing, (h, deed, refl))

  module _ (at : Word) (named : at ≡ Stamp (index m h)) (x : ℕ) (deed : did (loaded at x) s t) where
    there : did (loaded (Stamp (index m h)) x) s t
    there = subst (λ (w : Word). did (loaded w x) s t) named deed

    pub message_in : x ≡ (h + 1) % 2 ^ 64 → IsStep (RingMakes cap m did) s (act.PopStamp h) t (act.PopSwap h)
    message_in e = let f : (x == (h + 1) % 2 ^ 64) ≡ true = same _ _ e in let g : stays {T = T} (act.PopSwap h) ≡ after_look cap m h x = rw f refl in (Nothing, (x, there, g))

    pub still_free : (x ≡ (h + 1) % 2 ^ 64 → ⊥) → x ≡ h → IsStep (RingMakes cap m did) s (act.PopStamp h) t (act.PopTail h)
    still_free e e1 =
        let f : (x == (h + 1) % 2 ^ 64) ≡ false = other _ _ e in
        let f1 : (x == h) ≡ true = same _ _ e1 in
        let g : stays {T = T} (act.PopTail h) ≡ after_look cap m h x = rw (f, f1) refl in
        (Nothing, (x, there, g))

    pub of_another_lap : (x ≡ (h + 1) % 2 ^ 64 → ⊥) → (x ≡ h → ⊥) → IsStep (RingMakes cap m did) s (act.PopStamp h) t act.Pop
    of_another_lap e e1 =
        let f : (x == (h + 1) % 2 ^ 64) ≡ false = other _ _ e in
        let f1 : (x == h) ≡ false = other _ _ e1 in
        let g : stays {T = T} act.Pop ≡ after_look cap m h x = rw (f, f1) refl in
        (Nothing, (x, there, g))

  module _ (next : ℕ) (goes : next ≡ next_word cap m h) where
    pub head_won : (o : Result ℕ ℕ) → is_err o ≡ false → did (exchanged Head h next o) s t → IsStep (RingMakes cap m did) s (act.PopSwap h) t (act.PopTake h)
    head_won (Ok w) e deed = let d : did (exchanged Head h (next_word cap m h) (Ok w)) s t = subst (λ (n : ℕ). did (exchanged Head h n (Ok w)) s t) goes deed in (Take, (Ok w, d, refl))
    head_won (Err w) e deed = absurd cc

    pub head_lost : (o : Result ℕ ℕ) → is_err o ≡ true → did (exchanged Head h next o) s t → IsStep (RingMakes cap m did) s (act.PopSwap h) t act.Pop
    head_lost (Ok w) e deed = absurd cc
    head_lost (Err w) e deed = let d : did (exchanged Head h (next_word cap m h) (Err w)) s t = subst (λ (n : ℕ). did (exchanged Head h n (Err w)) s t) goes deed in (Nothing, (Err w, d, refl))

  module _ (i : ℕ) (lies : i ≡ index m h) where
    pub message_out : (v : T) → did (did_take (At i) (Some v)) s t → IsStep (RingMakes cap m did) s (act.PopTake h) t (act.PopStore h v)
    message_out v deed = let d : did (did_take (At (index m h)) (Some v)) s t = subst (λ (n : ℕ). did (did_take (At n) (Some v)) s t) lies deed in (Nothing, (Some v, d, refl))

    pub not_yet : did (did_take (At i) None) s t → IsStep (RingMakes cap m did) s (act.PopTake h) t (act.PopTake h)
    not_yet deed = let d : did (did_take (At (index m h)) None) s t = subst (λ (n : ℕ). did (did_take (At n) None) s t) lies deed in (Nothing, (None, d, refl))

  pub pop_ends : (at : Word) → at ≡ Stamp (index m h) → (lap : ℕ) → lap ≡ 2 * m → (v : T) → did (stored at ((h + lap) % 2 ^ 64)) s t → PopsOnEnd (RingMakes cap m did) s (act.PopStore h v) (Ok (Ok v)) t
  pop_ends at named lap long v deed =
      let d1 : did (stored (Stamp (index m h)) ((h + lap) % 2 ^ 64)) s t = subst (λ (w : Word). did (stored w ((h + lap) % 2 ^ 64)) s t) named deed in
      let d2 : did (stored (Stamp (index m h)) ((h + 2 * m) % 2 ^ 64)) s t = subst (λ (n : ℕ). did (stored (Stamp (index m h)) ((h + n) % 2 ^ 64)) s t) long d1 in
      (0, (s, act.PopStore h v, act.Finished, Nothing, (refl, refl), (d2, refl)))

  -- the tail says of a pop that there is nothing
  module _ (w : ℕ) (deed : did (loaded Tail w) s t) (at_head : unmarked m w ≡ h) where
    pub pop_shut : is_marked m w ≡ true → PopsOnEnd (RingMakes cap m did) s (act.PopTail h) (Ok (Err pop_error.Closed)) t
    pop_shut e =
        let f : (unmarked m w == h) ≡ true = same _ _ at_head in
        let g : finishes {T = T} (reply.Pop (Err pop_error.Closed)) ≡ after_pop_tail cap m h w = rw (f, e) refl in
        (0, (s, act.PopTail h, act.Finished, Nothing, (refl, refl), (w, deed, g)))

    pub pop_nothing : is_marked m w ≡ false → PopsOnEnd (RingMakes cap m did) s (act.PopTail h) (Ok (Err pop_error.Empty)) t
    pop_nothing e =
        let f : (unmarked m w == h) ≡ true = same _ _ at_head in
        let g : finishes {T = T} (reply.Pop (Err pop_error.Empty)) ≡ after_pop_tail cap m h w = rw (f, e) refl in
        (0, (s, act.PopTail h, act.Finished, Nothing, (refl, refl), (w, deed, g)))

-- ---- a push into a ring

pub lap_small : (m lap : ℕ) → lap ≡ 2 * m → m < 2 ^ 60 → lap < 2 ^ 64
lap_small m lap long small = grind (arith, nat_tests, long, small)

far : (m t lap : ℕ) → lap ≡ 2 * m → 18446744073709551615 - lap < t → nat_le (2 ^ 64 - 2 * m) t ≡ true
far m t lap long beyond = grind (arith, nat_tests, long, beyond)

near : (m t lap : ℕ) → lap ≡ 2 * m → lap < 2 ^ 64 → t ≤ 18446744073709551615 - lap → nat_le (2 ^ 64 - 2 * m) t ≡ false
near m t lap long small beyond = grind (arith, nat_tests, long, small, beyond)

module _ {T S : Type 0} (did : Deed T → S → S → Type 0) (cap m : ℕ) (s t : S) (v : T) (p : ℕ) where
  module _ (deed : did (loaded Tail p) s t) where
    pub tail_marked : is_marked m p ≡ true → PushesOnEnd (RingMakes cap m did) s (act.Push Refuse v) (Ok (Err (push_error.Closed v))) t
    tail_marked e = let g : finishes (reply.Push (Err (push_error.Closed v))) ≡ after_tail cap m Refuse v p = rw e refl in (0, (s, act.Push Refuse v, act.Finished, Nothing, (refl, refl), (p, deed, g)))

    module _ (lap : ℕ) (long : lap ≡ 2 * m) (unmarked_ : is_marked m p ≡ false) where
      pub positions_end : 18446744073709551615 - lap < p → IsStep (RingMakes cap m did) s (act.Push Refuse v) t (act.PushShut Refuse v)
      positions_end e = let f : nat_le (2 ^ 64 - 2 * m) p ≡ true = far m p lap long e in let g : stays (act.PushShut Refuse v) ≡ after_tail cap m Refuse v p = rw (unmarked_, f) refl in (Nothing, (p, deed, g))

      pub tail_loaded : lap < 2 ^ 64 → p ≤ 18446744073709551615 - lap → IsStep (RingMakes cap m did) s (act.Push Refuse v) t (act.PushStamp Refuse v p)
      tail_loaded small e = let f : nat_le (2 ^ 64 - 2 * m) p ≡ false = near m p lap long small e in let g : stays (act.PushStamp Refuse v p) ≡ after_tail cap m Refuse v p = rw (unmarked_, f) refl in (Nothing, (p, deed, g))

  module _ (at : Word) (named : at ≡ Stamp (index m p)) (x : ℕ) (deed : did (loaded at x) s t) where
    stamp_is : did (loaded (Stamp (index m p)) x) s t
    stamp_is = subst (λ (w : Word). did (loaded w x) s t) named deed

    pub slot_free : x ≡ p → IsStep (RingMakes cap m did) s (act.PushStamp Refuse v p) t (act.PushSwap Refuse v p)
    slot_free e = let f : (x == p) ≡ true = same _ _ e in let g : stays (act.PushSwap Refuse v p) ≡ after_stamp cap m Refuse v p x = rw f refl in (Nothing, (x, stamp_is, g))

    module _ (not_free : x ≡ p → ⊥) (lap : ℕ) (long : lap ≡ 2 * m) where
      not_p : (x == p) ≡ false
      not_p = other _ _ not_free

      pub lap_before : lap ≤ p → x ≡ p - lap + 1 → IsStep (RingMakes cap m did) s (act.PushStamp Refuse v p) t (act.PushHead v (p - lap))
      lap_before more e =
          let f : (nat_le (2 * m) p && x == p - 2 * m + 1) ≡ true = subst (λ (n : ℕ). (nat_le n p && x == p - n + 1) ≡ true) long (grind (arith, nat_tests, more, e)) in
          let g : stays (act.PushHead v (p - 2 * m)) ≡ after_stamp cap m Refuse v p x = rw (not_p, f) refl in
          let h : stays (act.PushHead v (p - lap)) ≡ after_stamp cap m Refuse v p x = subst (λ (n : ℕ). stays (act.PushHead v (p - n)) ≡ after_stamp cap m Refuse v p x) (sym long) g in
          (Nothing, (x, stamp_is, h))

      again : (nat_le lap p && x == p - lap + 1) ≡ false → IsStep (RingMakes cap m did) s (act.PushStamp Refuse v p) t (act.Push Refuse v)
      again e =
          let f : (nat_le (2 * m) p && x == p - 2 * m + 1) ≡ false = subst (λ (n : ℕ). (nat_le n p && x == p - n + 1) ≡ false) long e in
          let g : stays (act.Push Refuse v) ≡ after_stamp cap m Refuse v p x = rw (not_p, f) refl in
          (Nothing, (x, stamp_is, g))

      pub other_stamp : (x ≡ p - lap + 1 → ⊥) → IsStep (RingMakes cap m did) s (act.PushStamp Refuse v p) t (act.Push Refuse v)
      other_stamp e = again (grind (arith, nat_tests, e))

      pub first_lap : p < lap → IsStep (RingMakes cap m did) s (act.PushStamp Refuse v p) t (act.Push Refuse v)
      first_lap e = again (grind (arith, nat_tests, e))

  module _ (next : ℕ) (goes : next ≡ next_word cap m p) where
    pub place_won : (o : Result ℕ ℕ) → is_err o ≡ false → did (exchanged Tail p next o) s t → IsStep (RingMakes cap m did) s (act.PushSwap Refuse v p) t (act.PushPut Refuse v p)
    place_won (Ok w) e deed = let d : did (exchanged Tail p (next_word cap m p) (Ok w)) s t = subst (λ (n : ℕ). did (exchanged Tail p n (Ok w)) s t) goes deed in (Append, (Ok w, d, refl))
    place_won (Err w) e deed = absurd cc

    pub place_lost : (o : Result ℕ ℕ) → is_err o ≡ true → did (exchanged Tail p next o) s t → IsStep (RingMakes cap m did) s (act.PushSwap Refuse v p) t (act.Push Refuse v)
    place_lost (Ok w) e deed = absurd cc
    place_lost (Err w) e deed = let d : did (exchanged Tail p (next_word cap m p) (Err w)) s t = subst (λ (n : ℕ). did (exchanged Tail p n (Err w)) s t) goes deed in (Nothing, (Err w, d, refl))

  module _ (i : ℕ) (lies : i ≡ index m p) where
    pub message_put : (u : Unit {0}) → did (did_put (At i) v (Ok u)) s t → IsStep (RingMakes cap m did) s (act.PushPut Refuse v p) t (act.PushStore Refuse p)
    message_put u deed = let d : did (did_put (At (index m p)) v (Ok u)) s t = subst (λ (n : ℕ). did (did_put (At n) v (Ok u)) s t) lies deed in (Nothing, (Ok u, d, refl))

    pub slot_not_yet : (b : T) → did (did_put (At i) v (Err b)) s t → IsStep (RingMakes cap m did) s (act.PushPut Refuse v p) t (act.PushPut Refuse b p)
    slot_not_yet b deed = let d : did (did_put (At (index m p)) v (Err b)) s t = subst (λ (n : ℕ). did (did_put (At n) v (Err b)) s t) lies deed in (Nothing, (Err b, d, refl))

  pub push_ends : (at : Word) → at ≡ Stamp (index m p) → did (stored at ((p + 1) % 2 ^ 64)) s t → PushesOnEnd (RingMakes cap m did) s (act.PushStore Refuse p) (Ok (Ok tt)) t
  push_ends at named deed =
      let d : did (stored (Stamp (index m p)) ((p + 1) % 2 ^ 64)) s t = subst (λ (w : Word). did (stored w ((p + 1) % 2 ^ 64)) s t) named deed in
      (0, (s, act.PushStore Refuse p, act.Finished, Nothing, (refl, refl), (d, refl)))

  -- p is the position that the head would have
  module _ (w : ℕ) (deed : did (loaded Head w) s t) where
    pub full : w ≡ p → PushesOnEnd (RingMakes cap m did) s (act.PushHead v p) (Ok (Err (push_error.Full v))) t
    full e =
        let f : (w == p) ≡ true = same _ _ e in
        let g : finishes (reply.Push (Err (push_error.Full v))) ≡ (if w == p then finishes (reply.Push (Err (push_error.Full v))) else stays (act.Push Refuse v)) = rw f refl in
        (0, (s, act.PushHead v p, act.Finished, Nothing, (refl, refl), (w, deed, g)))

    pub not_full : (w ≡ p → ⊥) → IsStep (RingMakes cap m did) s (act.PushHead v p) t (act.Push Refuse v)
    not_full e =
        let f : (w == p) ≡ false = other _ _ e in
        let g : stays (act.Push Refuse v) ≡ (if w == p then finishes (reply.Push (Err (push_error.Full v))) else stays (act.Push Refuse v)) = rw f refl in
        (Nothing, (w, deed, g))
