-- Parts of lists: what clients join of what several passes know.
use Rattle.std.proofs.Common.{◌≡◌, ◌∙◌, ℕ, ◌+◌, List, [], ◌∷◌, ◌++◌, length, refl, ap, sym, subst, arith}
use Rattle.std.specs.Prelude.{IsPermutation, map, sum}
use Rattle.std.proofs.lemmas.List.{append_assoc, append-nil, length-append, length-map, map-append}
use Rattle.std.proofs.lemmas.List.Sorted.{IsPermutation-append_comm, IsPermutation-map, length_permutation, sum_by-IsPermutation}
use Rattle.std.proofs.lemmas.List.Sums.{sum_by-append}
use Rattle.waybill.specs.Accounts.{IsPartOf}
use Rattle.waybill.proofs.Bags.{as_is, then, before}

module _ {X : Type 0} where
  no_rest : (xs : List X) → length xs ≡ 0 → xs ≡ []
  no_rest [] e = refl
  no_rest (x ∷ xs) e = absurd (omega arith)

  -- a list is part of itself, and of any longer one
  pub part_first : (xs ys : List X) → IsPartOf xs (xs ++ ys)
  part_first xs ys = (ys, as_is refl)

  pub part_second : (xs ys : List X) → IsPartOf ys (xs ++ ys)
  part_second xs ys = (xs, IsPermutation-append_comm xs ys)

  pub part_as : {xs us ys vs : List X} → xs ≡ us → ys ≡ vs → IsPartOf xs ys → IsPartOf us vs
  part_as {xs} {us} {ys} {vs} first second part = subst (λ l. IsPartOf l vs) first (subst (λ l. IsPartOf xs l) second part)

  -- a part of a part is a part
  pub part_of_part : (xs ys zs : List X) → IsPartOf xs ys → IsPartOf ys zs → IsPartOf xs zs
  part_of_part xs ys zs p q = (p.0 ++ q.0, then q.1 (then (before q.0 p.1) (as_is (append_assoc xs p.0 q.0))))

  -- a part that is as long is the whole, in some order
  pub part_whole : (xs ys : List X) → IsPartOf xs ys → length xs ≡ length ys → IsPermutation ys xs
  part_whole xs ys p same =
      let count = length_permutation ys (xs ++ p.0) p.1 in
      let none : p.0 ≡ [] = no_rest p.0 (omega (arith, length-append xs p.0)) in
      then p.1 (as_is (ap (λ u. xs ++ u) none ∙ append-nil xs))

-- what is made of a part is part of what is made of the whole
pub part_map : {X Y : Type 0} (f : X → Y) (xs ys : List X) → IsPartOf xs ys → IsPartOf (map f xs) (map f ys)
part_map f xs ys p = (map f p.0, then (IsPermutation-map f ys (xs ++ p.0) p.1) (as_is (map-append f xs p.0)))

-- what workers gave is made of what they took, and that was part of all jobs: so what came of it is part of what is made of all jobs,
-- and where as many came, it is one for each
pub made : {X Y : Type 0} (f : X → Y) (taken sent all : List X) (came gave got : List Y) → IsPartOf taken sent → IsPartOf came gave → sent ≡ all → gave ≡ map f taken → came ≡ got
    → IsPartOf got (map f all) × (length got ≡ length all → IsPermutation (map f all) got)
made f taken sent all came gave got jobs results sent_is gave_is came_is =
    let part = part_of_part got (map f taken) (map f all) (part_as came_is gave_is results) (part_map f taken all (part_as refl sent_is jobs)) in
    (part, (λ same. part_whole got (map f all) part (same ∙ sym (length-map all f))))

-- the same of two workers
pub made_by_two : {X Y : Type 0} (f : X → Y) (taken sent all one two : List X) (came gave got : List Y) → IsPartOf taken sent → IsPartOf came gave → sent ≡ all → taken ≡ one ++ two → gave ≡ map f one ++ map f two → came ≡ got
    → IsPartOf got (map f all) × (length got ≡ length all → IsPermutation (map f all) got)
made_by_two f taken sent all one two came gave got jobs results sent_is taken_is gave_is came_is =
    made f taken sent all came gave got jobs results sent_is (gave_is ∙ (sym (map-append f one two) ∙ ap (map f) (sym taken_is))) came_is

-- where as many came as were sent, so is the sum: of what two sent, and what two counted and added up
pub same_sums : (sent received a b c d : List ℕ) (k l m n : ℕ) → (length received ≡ length sent → IsPermutation sent received) → sent ≡ a ++ b → received ≡ c ++ d
    → k ≡ length c → l ≡ length d → m ≡ sum c → n ≡ sum d → k + l ≡ length a + length b → m + n ≡ sum a + sum b
same_sums sent received a b c d k l m n settled sent_is received_is count_c count_d sum_c sum_d same =
    let long : length received ≡ length c + length d = ap length received_is ∙ length-append c d in
    let longer : length sent ≡ length a + length b = ap length sent_is ∙ length-append a b in
    let all : sum received ≡ sum sent = sum_by-IsPermutation (λ x. x) sent received (settled (omega arith)) in
    let came : sum received ≡ sum c + sum d = ap sum received_is ∙ sum_by-append (λ x. x) c d in
    let went : sum sent ≡ sum a + sum b = ap sum sent_is ∙ sum_by-append (λ x. x) a b in omega arith
