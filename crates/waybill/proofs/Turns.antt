-- One more message, packed or unpacked.
use Rattle.std.proofs.Common.{◌≡◌, ◌∙◌, ℕ, suc, ◌+◌, ◌<◌, ◌≤◌, ◌==◌, Bool, true, List, [], ◌∷◌, ◌++◌, length, refl, sym, subst, ap, arith}
use Rattle.std.specs.Prelude.{slice_index, slice_set}
use Rattle.std.proofs.lemmas.List.{map-append, append-nil, length-append, length-set, get_or-set_other}
use Rattle.std.proofs.lemmas.Grind.{get_or-set_at}
use Rattle.waybill.specs.Accounts.{Account, account, after_sent, after_received}
use Rattle.std.proofs.lemmas.List.Elements.{filter-append}
use mathlib.Core.Logic.{dite}
use native.Mathlib.Decide.{ℕ_discrete}
use Rattle.waybill.specs.Order.{message, numbered, of_sender, values, RisesFrom, place_after, IsRising, IsGapless}
use Rattle.waybill.specs.declared.numbered.Numbered.{Numbered}
use Rattle.waybill.proofs.Order.{kept, left_out}

module _ {T : Type 0} where
  pub numbered_more : (s n : ℕ) (xs : List T) (x : T) → numbered s n (xs ++ x ∷ []) ≡ numbered s n xs ++ message s (n + length xs) x ∷ []
  numbered_more s n [] x = ap (λ (k : ℕ). message s k x ∷ []) (omega arith)
  numbered_more s n (y ∷ ys) x = ap (λ l. message s n y ∷ l) (numbered_more s (suc n) ys x ∙ ap (λ (k : ℕ). numbered s (suc n) ys ++ message s k x ∷ []) (omega arith))

  pub values_numbered : (s n : ℕ) (xs : List T) → values (numbered s n xs) ≡ xs
  values_numbered s n [] = refl
  values_numbered s n (x ∷ xs) = ap (λ l. x ∷ l) (values_numbered s (suc n) xs)

  pub values_more : (ms : List (Numbered T)) (m : Numbered T) → values (ms ++ m ∷ []) ≡ values ms ++ m.value ∷ []
  values_more ms m = map-append (λ (k : Numbered T). k.value) ms (m ∷ [])

  -- the next message of a source is in its place
  pub packed : (s : ℕ) (ms : List (Numbered T)) (n : ℕ) (x : T) → ms ≡ numbered s 0 (values ms) → n ≡ length (values ms)
      → ms ++ message s n x ∷ [] ≡ numbered s 0 (values (ms ++ message s n x ∷ []))
  packed s ms n x is count =
      ap (λ l. l ++ message s n x ∷ []) is ∙ (ap (λ (k : ℕ). numbered s 0 (values ms) ++ message s k x ∷ []) (let e : n ≡ 0 + length (values ms) = omega arith in e)
      ∙ (sym (numbered_more s 0 (values ms) x) ∙ ap (numbered s 0) (sym (values_more ms (message s n x)))))

  -- ---- of one sender

  of_more : (s : ℕ) (ms : List (Numbered T)) (m : Numbered T) → m.sender ≡ s → of_sender s (ms ++ m ∷ []) ≡ of_sender s ms ++ m ∷ []
  of_more s ms m e = filter-append (λ (k : Numbered T). k.sender == s) ms (m ∷ []) ∙ ap (λ l. of_sender s ms ++ l) (kept s m [] e)

  of_no_more : (s : ℕ) (ms : List (Numbered T)) (m : Numbered T) → (m.sender ≡ s → ⊥) → of_sender s (ms ++ m ∷ []) ≡ of_sender s ms
  of_no_more s ms m e = filter-append (λ (k : Numbered T). k.sender == s) ms (m ∷ []) ∙ (ap (λ l. of_sender s ms ++ l) (left_out s m [] e) ∙ append-nil (of_sender s ms))

  place_more : (n : ℕ) (ms : List (Numbered T)) (m : Numbered T) → place_after n (ms ++ m ∷ []) ≡ m.number + 1
  place_more n [] m = refl
  place_more n (k ∷ ks) m = place_more (k.number + 1) ks m

  rises_more : (n : ℕ) (ms : List (Numbered T)) (m : Numbered T) → RisesFrom n ms → place_after n ms ≤ m.number → RisesFrom n (ms ++ m ∷ [])
  rises_more n [] m r le = (le, tt)
  rises_more n (k ∷ ks) m r le = (r.0, rises_more (k.number + 1) ks m r.1 le)

  place_numbered : (s n : ℕ) (xs : List T) → place_after n (numbered s n xs) ≡ n + length xs
  place_numbered s n [] = omega arith
  place_numbered s n (x ∷ xs) = ap (λ (k : ℕ). place_after k (numbered s (suc n) xs)) (let e : n + 1 ≡ suc n = omega arith in e) ∙ (place_numbered s (suc n) xs ∙ (let e : suc n + length xs ≡ n + suc (length xs) = omega arith in e))

  -- ---- of a sink

  module _ (ms : List (Numbered T)) (m : Numbered T) where
    pub place_there : (k : ℕ) → m.sender ≡ k → place_after 0 (of_sender k (ms ++ m ∷ [])) ≡ m.number + 1
    place_there k e = ap (place_after 0) (of_more k ms m e) ∙ place_more 0 (of_sender k ms) m

    pub place_elsewhere : (k : ℕ) → (m.sender ≡ k → ⊥) → place_after 0 (of_sender k (ms ++ m ∷ [])) ≡ place_after 0 (of_sender k ms)
    place_elsewhere k e = ap (place_after 0) (of_no_more k ms m e)

    pub rises : IsRising ms → place_after 0 (of_sender m.sender ms) ≤ m.number → IsRising (ms ++ m ∷ [])
    rises r le s = dite (ℕ_discrete m.sender s)
        (λ e. subst (RisesFrom 0) (sym (of_more s ms m e)) (rises_more 0 (of_sender s ms) m (r s) (subst (λ (k : ℕ). place_after 0 (of_sender k ms) ≤ m.number) e le)))
        (λ e. subst (RisesFrom 0) (sym (of_no_more s ms m e)) (r s))

    pub gapless : IsGapless ms → m.number ≡ place_after 0 (of_sender m.sender ms) → IsGapless (ms ++ m ∷ [])
    gapless g is s = dite (ℕ_discrete m.sender s)
        (λ e.
        let mine = of_sender s ms in let xs = values mine in
        let there : m.number ≡ length xs = subst (λ (k : ℕ). m.number ≡ place_after 0 (of_sender k ms)) e is ∙ (ap (place_after 0) (g s) ∙ (place_numbered s 0 xs ∙ (let f : 0 + length xs ≡ length xs = omega arith in f))) in
        let it : m ≡ message s m.number m.value = ap (λ (k : ℕ). message k m.number m.value) e in
        let more : mine ++ m ∷ [] ≡ numbered s 0 (values (mine ++ m ∷ [])) = subst (λ (k : Numbered T). mine ++ k ∷ [] ≡ numbered s 0 (values (mine ++ k ∷ []))) (sym it) (packed s mine m.number m.value (g s) there) in
        subst (λ (l : List (Numbered T)). l ≡ numbered s 0 (values l)) (sym (of_more s ms m e)) more)
        (λ e. subst (λ (l : List (Numbered T)). l ≡ numbered s 0 (values l)) (sym (of_no_more s ms m e)) (g s))

module _ {T : Type 0} where
  -- the pass of a source after one more
  pub packed_pass : (s : ℕ) (p q : Account (Numbered T)) (n : ℕ) (x : T) → p ≡ account 1 (numbered s 0 (values p.sent)) [] [] → n ≡ length (values p.sent) → q ≡ after_sent p (message s n x)
      → (q ≡ account 1 (numbered s 0 (values q.sent)) [] []) × (n + 1 ≡ length (values q.sent))
  packed_pass s p q n x is count e =
      let ms = p.sent in
      let more = ms ++ message s n x ∷ [] in
      let q_is : q ≡ account 1 more [] [] = e ∙ (λ i. account (ap (λ a. a.parts) is i) more (ap (λ a. a.received) is i) (ap (λ a. a.returned) is i)) in
      let sent_is : q.sent ≡ more = ap (λ a. a.sent) q_is in
      let in_place = packed s ms n x (ap (λ a. a.sent) is) count in
      let longer : length (values more) ≡ length (values ms) + 1 = ap length (values_more ms (message s n x)) ∙ length-append (values ms) (x ∷ []) in (
        q_is ∙ ap (λ l. account 1 l [] []) (in_place ∙ ap (λ l. numbered s 0 (values l)) (sym sent_is)),
        (let f : length (values q.sent) ≡ length (values more) = ap (λ l. length (values l)) sent_is in omega arith),
      )

  -- the pass of a sink after one more
  pub unpacked_pass : (p q : Account (Numbered T)) (m : Numbered T) → p ≡ account 1 [] p.received [] → q ≡ after_received p m → q ≡ account 1 [] (p.received ++ m ∷ []) []
  unpacked_pass p q m is e = e ∙ (λ i. account (ap (λ a. a.parts) is i) (ap (λ a. a.sent) is i) (p.received ++ m ∷ []) (ap (λ a. a.returned) is i))

  -- the places of a sink after one more
  pub unpacked_places : (places : List ℕ) (ms : List (Numbered T)) (m : Numbered T) → ((k : ℕ) → k < length places → slice_index places k ≡ place_after 0 (of_sender k ms)) → m.sender < length places
      → (k : ℕ) → k < length (slice_set places m.sender (m.number + 1)) → slice_index (slice_set places m.sender (m.number + 1)) k ≡ place_after 0 (of_sender k (ms ++ m ∷ []))
  unpacked_places places ms m known inside k lt = dite (ℕ_discrete m.sender k)
      (λ e. get_or-set_at places m.sender k (m.number + 1) 0 (sym e) inside ∙ sym (place_there ms m k e))
      (λ e. get_or-set_other places m.sender k (m.number + 1) 0 (λ f. e (sym f)) ∙ (known k (subst (λ n. k < n) (length-set places m.sender (m.number + 1)) lt) ∙ sym (place_elsewhere ms m k e)))

  abbrev IsKept : Bool → List ℕ → Account (Numbered T) → Type 0
  IsKept sole places q =
      (q ≡ account 1 [] q.received []) × ((k : ℕ) → k < length places → slice_index places k ≡ place_after 0 (of_sender k q.received)) × IsRising q.received × (sole ≡ true → IsGapless q.received)

  pub unpacked : (sole : Bool) (places : List ℕ) (p q : Account (Numbered T)) (m : Numbered T) → IsKept sole places p → m.sender < length places
      → slice_index places m.sender ≤ m.number → (sole ≡ true → m.number ≡ slice_index places m.sender) → q ≡ after_received p m → IsKept sole (slice_set places m.sender (m.number + 1)) q
  unpacked sole places p q m kept_so_far inside late only e =
      let ms = p.received in
      let q_is = unpacked_pass p q m kept_so_far.0 e in
      let got : q.received ≡ ms ++ m ∷ [] = ap (λ a. a.received) q_is in
      let awaited : slice_index places m.sender ≡ place_after 0 (of_sender m.sender ms) = kept_so_far.1 m.sender inside in
      let places2 = slice_set places m.sender (m.number + 1) in (
        q_is ∙ ap (λ l. account 1 [] l []) (sym got),
        subst (λ l. (k : ℕ) → k < length places2 → slice_index places2 k ≡ place_after 0 (of_sender k l)) (sym got) (unpacked_places places ms m kept_so_far.1 inside),
        subst IsRising (sym got) (rises ms m kept_so_far.2 (subst (λ n. n ≤ m.number) awaited late)),
        (λ is. subst IsGapless (sym got) (gapless ms m (kept_so_far.3 is) (only is ∙ awaited))),
      )
