-- Numbered messages that were all sent come in their sender's order, as far as their places rise.
use Rattle.std.proofs.Common.{◌≡◌, ◌⊎◌, ◌∙◌, ℕ, suc, ◌+◌, ◌<◌, ◌≤◌, ◌==◌, true, false, List, [], ◌∷◌, ◌++◌, length, take, ⊎_elim, inl, inr, refl, sym, subst, ap, ap₂, arith, cond}
use Rattle.std.proofs.lemmas.Bool.Decides.{nat_tests}
use Rattle.std.specs.Prelude.{All}
use Rattle.std.specs.List.{AllByRecursion}
use Rattle.std.proofs.lemmas.List.{length-map, append_assoc, append-nil}
use Rattle.std.proofs.lemmas.List.Elements.{All-from_recursion, recursion_from_All, filter-append}
use Rattle.std.proofs.lemmas.List.Sorted.{All-permutation}
use mathlib.Core.Logic.{dite}
use native.Mathlib.Decide.{ℕ_discrete}
use Rattle.waybill.specs.Accounts.{IsPartOf}
use Rattle.waybill.specs.Order.{message, numbered, all_numbered, of_sender, values, RisesFrom, IsRising, IsGapless, IsInOrderOf, OfEach, AreBeginnings, AreInOrder}
use Rattle.waybill.specs.declared.numbered.Numbered.{Numbered}
use Rattle.waybill.proofs.Parts.{part_first, part_second, part_of_part}

same : (m n : ℕ) → m ≡ n → (m == n) ≡ true
same m n e = grind (arith, nat_tests, e)

other : (m n : ℕ) → (m ≡ n → ⊥) → (m == n) ≡ false
other m n e = grind (arith, nat_tests, e)

-- ---- facts of each element

module _ {X : Type 0} where
  weaker : (P Q : X → Type 0) → ((x : X) → P x → Q x) → (xs : List X) → AllByRecursion P xs → AllByRecursion Q xs
  weaker P Q f [] h = tt
  weaker P Q f (x ∷ xs) h = (f x h.0, weaker P Q f xs h.1)

  left : (P : X → Type 0) (xs ys : List X) → AllByRecursion P (xs ++ ys) → AllByRecursion P xs
  left P [] ys h = tt
  left P (x ∷ xs) ys h = (h.0, left P xs ys h.1)

module _ {T : Type 0} where
  -- it is one of these messages of this sender
  abbrev IsOneOf : ℕ → ℕ → List T → Numbered T → Type 0
  IsOneOf s n [] m = ⊥
  IsOneOf s n (y ∷ ys) m = (m ≡ message s n y) ⊎ IsOneOf s (suc n) ys m

  bound : (s n : ℕ) (ys : List T) (m : Numbered T) → IsOneOf s n ys m → n ≤ m.number
  bound s n [] m h = absurd h
  bound s n (y ∷ ys) m h =
      ⊎_elim (λ (e : m ≡ message s n y). let f : m.number ≡ n = ap (λ k. k.number) e in omega arith) (λ r. let b = bound s (suc n) ys m r in omega arith) h

  later : (s n : ℕ) (y : T) (ys : List T) (m : Numbered T) → n < m.number → IsOneOf s n (y ∷ ys) m → IsOneOf s (suc n) ys m
  later s n y ys m lt h = ⊎_elim (λ (e : m ≡ message s n y). let f : m.number ≡ n = ap (λ k. k.number) e in absurd (omega arith)) (λ r. r) h

  lower : (j k : ℕ) (ms : List (Numbered T)) → j ≤ k → RisesFrom k ms → RisesFrom j ms
  lower j k [] le h = tt
  lower j k (m ∷ ms) le h = let low = h.0 in (omega arith, h.1)

  all_later : (s n : ℕ) (y : T) (ys : List T) (ms : List (Numbered T)) → AllByRecursion (IsOneOf s n (y ∷ ys)) ms → RisesFrom (suc n) ms → AllByRecursion (IsOneOf s (suc n) ys) ms
  all_later s n y ys [] h r = tt
  all_later s n y ys (m ∷ ms) h r = let low = r.0 in (later s n y ys m (omega arith) h.0, all_later s n y ys ms h.1 (lower (suc n) (m.number + 1) ms (omega arith) r.1))

  in_order : (s n : ℕ) (ys : List T) (ms : List (Numbered T)) → AllByRecursion (IsOneOf s n ys) ms → RisesFrom n ms → IsInOrderOf (values ms) ys
  in_order s n [] [] h r = refl
  in_order s n [] (m ∷ ms) h r = absurd h.0
  in_order s n (y ∷ ys) [] h r = inl (in_order s (suc n) ys [] tt tt)
  in_order s n (y ∷ ys) (m ∷ ms) h r =
      let low = r.0 in
      let rest : AllByRecursion (IsOneOf s (suc n) ys) ms = all_later s n y ys ms h.1 (lower (suc n) (m.number + 1) ms (omega arith) r.1) in
      ⊎_elim
      (λ (e : m ≡ message s n y).
      inr (values ms, ap (λ (k : Numbered T). k.value ∷ values ms) e, in_order s (suc n) ys ms rest (lower (suc n) (m.number + 1) ms (omega arith) r.1)))
      (λ t. let b = bound s (suc n) ys m t in inl (in_order s (suc n) ys (m ∷ ms) (t, rest) (b, r.1)))
      h.0

  numbered_rises : (s n : ℕ) (xs : List T) → RisesFrom n (numbered s n xs)
  numbered_rises s n [] = tt
  numbered_rises s n (x ∷ xs) = (omega arith, lower (n + 1) (suc n) (numbered s (suc n) xs) (omega arith) (numbered_rises s (suc n) xs))

  begins : (s n : ℕ) (xs ys : List T) → AllByRecursion (IsOneOf s n ys) (numbered s n xs) → xs ≡ take (length xs) ys
  begins s n [] ys h = refl
  begins s n (x ∷ xs) [] h = absurd h.0
  begins s n (x ∷ xs) (y ∷ ys) h =
      let same_value : x ≡ y = ⊎_elim (λ (e : message s n x ≡ message s n y). ap (λ k. k.value) e) (λ t. let b = bound s (suc n) ys (message s n x) t in absurd (omega arith)) h.0 in
      ap₂ (λ z zs. z ∷ zs) same_value (begins s (suc n) xs ys (all_later s n y ys (numbered s (suc n) xs) h.1 (numbered_rises s (suc n) xs)))

  -- ---- from what was sent to what one party got

  abbrev Fits : ℕ → List T → Numbered T → Type 0
  Fits s ys m = m.sender ≡ s → IsOneOf s 0 ys m

  numbered_all : (s n : ℕ) (ys : List T) → AllByRecursion (IsOneOf s n ys) (numbered s n ys)
  numbered_all s n [] = tt
  numbered_all s n (y ∷ ys) = (inl refl, weaker (IsOneOf s (suc n) ys) (IsOneOf s n (y ∷ ys)) (λ m t. inr t) (numbered s (suc n) ys) (numbered_all s (suc n) ys))

  pub kept : (s : ℕ) (m : Numbered T) (ms : List (Numbered T)) → m.sender ≡ s → of_sender s (m ∷ ms) ≡ m ∷ of_sender s ms
  kept s m ms e = ap (λ b. cond b (m ∷ of_sender s ms) (of_sender s ms)) (same m.sender s e)

  pub left_out : (s : ℕ) (m : Numbered T) (ms : List (Numbered T)) → (m.sender ≡ s → ⊥) → of_sender s (m ∷ ms) ≡ of_sender s ms
  left_out s m ms e = ap (λ b. cond b (m ∷ of_sender s ms) (of_sender s ms)) (other m.sender s e)

  all_fit : (s : ℕ) (ys : List T) (ms : List (Numbered T)) → AllByRecursion (IsOneOf s 0 ys) (of_sender s ms) → AllByRecursion (Fits s ys) ms
  all_fit s ys [] h = tt
  all_fit s ys (m ∷ ms) h = dite (ℕ_discrete m.sender s)
      (λ e. let g = subst (AllByRecursion (IsOneOf s 0 ys)) (kept s m ms e) h in ((λ _. g.0), all_fit s ys ms g.1))
      (λ e. ((λ is. absurd (e is)), all_fit s ys ms (subst (AllByRecursion (IsOneOf s 0 ys)) (left_out s m ms e) h)))

  of_fitting : (s : ℕ) (ys : List T) (ms : List (Numbered T)) → AllByRecursion (Fits s ys) ms → AllByRecursion (IsOneOf s 0 ys) (of_sender s ms)
  of_fitting s ys [] h = tt
  of_fitting s ys (m ∷ ms) h = dite (ℕ_discrete m.sender s)
      (λ e. subst (AllByRecursion (IsOneOf s 0 ys)) (sym (kept s m ms e)) (h.0 e, of_fitting s ys ms h.1))
      (λ e. subst (AllByRecursion (IsOneOf s 0 ys)) (sym (left_out s m ms e)) (of_fitting s ys ms h.1))

  all_sent : (s : ℕ) (sent got : List (Numbered T)) (ys : List T) → IsPartOf got sent → of_sender s sent ≡ numbered s 0 ys → AllByRecursion (IsOneOf s 0 ys) (of_sender s got)
  all_sent s sent got ys part is =
      let fit = all_fit s ys sent (subst (AllByRecursion (IsOneOf s 0 ys)) (sym is) (numbered_all s 0 ys)) in
      let all : All (Fits s ys) (got ++ part.0) = All-permutation (Fits s ys) sent (got ++ part.0) part.1 (All-from_recursion (Fits s ys) sent fit) in
      of_fitting s ys got (left (Fits s ys) got part.0 (recursion_from_All (Fits s ys) (got ++ part.0) all))

  -- what came of a sender, with rising places, is in its order
  pub come_in_order : (s : ℕ) (sent got : List (Numbered T)) (ys : List T) → IsPartOf got sent → of_sender s sent ≡ numbered s 0 ys → RisesFrom 0 (of_sender s got)
      → IsInOrderOf (values (of_sender s got)) ys
  come_in_order s sent got ys part is rises = in_order s 0 ys (of_sender s got) (all_sent s sent got ys part is) rises

  -- what came of a sender, one place after the other, is a beginning of what it sent
  pub come_first : (s : ℕ) (sent got : List (Numbered T)) (ys : List T) → IsPartOf got sent → of_sender s sent ≡ numbered s 0 ys
      → of_sender s got ≡ numbered s 0 (values (of_sender s got)) → values (of_sender s got) ≡ take (length (of_sender s got)) ys
  come_first s sent got ys part is gapless = let xs = values (of_sender s got) in
      begins s 0 xs ys (subst (AllByRecursion (IsOneOf s 0 ys)) gapless (all_sent s sent got ys part is)) ∙ ap (λ n. take n ys) (length-map (of_sender s got) (λ (m : Numbered T). m.value))

  -- ---- whose messages they are

  pub of_its_own : (s n : ℕ) (xs : List T) → of_sender s (numbered s n xs) ≡ numbered s n xs
  of_its_own s n [] = refl
  of_its_own s n (x ∷ xs) = kept s (message s n x) (numbered s (suc n) xs) refl ∙ ap (λ ms. message s n x ∷ ms) (of_its_own s (suc n) xs)

  pub of_another : (s r n : ℕ) (xs : List T) → (r ≡ s → ⊥) → of_sender s (numbered r n xs) ≡ []
  of_another s r n [] e = refl
  of_another s r n (x ∷ xs) e = left_out s (message r n x) (numbered r (suc n) xs) e ∙ of_another s r (suc n) xs e

  -- ---- of all senders

  of_both : (s : ℕ) (ms ns : List (Numbered T)) → of_sender s (ms ++ ns) ≡ of_sender s ms ++ of_sender s ns
  of_both s ms ns = filter-append (λ (m : Numbered T). m.sender == s) ms ns

  of_later : (r s : ℕ) (all : List (List T)) → r < s → of_sender r (all_numbered s all) ≡ []
  of_later r s [] lt = refl
  of_later r s (xs ∷ all) lt =
      of_both r (numbered s 0 xs) (all_numbered (suc s) all) ∙ ap₂ (λ ms ns. ms ++ ns) (of_another r s 0 xs (λ e. omega arith)) (of_later r (suc s) all (omega arith))

  -- what is so of a sender that sent these, is so of each one
  of_each : (P : ℕ → List T → Type 0) (s : ℕ) (all : List (List T)) (before sent : List (Numbered T)) → sent ≡ before ++ all_numbered s all
      → ((k : ℕ) → s ≤ k → of_sender k before ≡ []) → ((k : ℕ) (xs : List T) → of_sender k sent ≡ numbered k 0 xs → P k xs) → OfEach P s all
  of_each P s [] before sent is none so = tt
  of_each P s (xs ∷ all) before sent is none so =
      let mine = numbered s 0 xs in
      let rest = all_numbered (suc s) all in
      let its_own : of_sender s (mine ++ rest) ≡ mine = of_both s mine rest ∙ (ap₂ (λ ms ns. ms ++ ns) (of_its_own s 0 xs) (of_later s (suc s) all (omega arith)) ∙ append-nil mine) in
      let here : of_sender s sent ≡ mine = ap (of_sender s) is ∙ (of_both s before (mine ++ rest) ∙ ap₂ (λ ms ns. ms ++ ns) (none s (omega arith)) its_own) in
      let none_later = λ (k : ℕ) (le : suc s ≤ k). of_both k before mine ∙ ap₂ (λ ms ns. ms ++ ns) (none k (omega arith)) (of_another k s 0 xs (λ e. omega arith)) in
      (so s xs here, of_each P (suc s) all (before ++ mine) sent (is ∙ sym (append_assoc before mine rest)) none_later so)

  -- the only receiver got a beginning of what each sender sent
  pub are_beginnings : (sent received got : List (Numbered T)) (all : List (List T)) → IsPartOf received sent → received ≡ got → sent ≡ all_numbered 0 all → IsGapless got → AreBeginnings got all
  are_beginnings sent received got all part mine is gapless =
      let its_part : IsPartOf got sent = subst (λ ms. IsPartOf ms sent) mine part in
      of_each (λ s xs. values (of_sender s got) ≡ take (length (of_sender s got)) xs) 0 all [] sent is (λ k le. refl) (λ s xs mine. come_first s sent got xs its_part mine (gapless s))

  -- each receiver got what each sender sent in that one's order
  pub are_in_order : (sent received before got after : List (Numbered T)) (all : List (List T)) → IsPartOf received sent → received ≡ before ++ (got ++ after) → sent ≡ all_numbered 0 all → IsRising got → AreInOrder got all
  are_in_order sent received before got after all part mine is rises =
      let here : IsPartOf got (before ++ (got ++ after)) = part_of_part got (got ++ after) (before ++ (got ++ after)) (part_first got after) (part_second before (got ++ after)) in
      let its_part : IsPartOf got sent = part_of_part got (before ++ (got ++ after)) sent here (subst (λ ms. IsPartOf ms sent) mine part) in
      of_each (λ s xs. IsInOrderOf (values (of_sender s got)) xs) 0 all [] sent is (λ k le. refl) (λ s xs mine. come_in_order s sent got xs its_part mine (rises s))
