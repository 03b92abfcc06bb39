-- Each move keeps the rule.
use Rattle.std.proofs.Common.{◌≡◌, ℕ, zero, suc, ◌+◌, ◌-◌, ◌<◌, ◌≤◌, List, [], ◌∷◌, ◌++◌, length, set, sym, refl, ap, ◌∙◌, subst, ⊎_elim, arith}
use Rattle.std.specs.Prelude.{IsPermutation, flat_map}
use Rattle.std.proofs.lemmas.List.{append_assoc, append-nil}
use Rattle.std.proofs.lemmas.List.Sorted.{IsPermutation-append_comm}
use mathlib.Core.Option.{some, some-ne-none, some-injective}
use lib.ListN.{get_elem?}
use Rattle.atomic_table.specs.Table.{State, Me, step, keeps, Allows, Splits, Joins}
use Rattle.atomic_table.proofs.Lists.{at_set, at_snoc, set_again}
use Rattle.waybill.specs.declared.rule.Hand.{Hand}
use Rattle.waybill.specs.Accounts.{all_parts, IsPartOf, IsBalanced}
use Rattle.waybill.specs.Hands.{hand, waybill, total, with_sent, with_received, with_returned, became, IdleIsEmpty, Balanced, learned}
use Rattle.waybill.proofs.Parts.{part_whole}
use Rattle.waybill.proofs.Bags.{as_is, back, then, beside, after, before, interchange, exchange_last, others, piece, piece_set, pieces_snoc, taken_in}

-- ---- numbers of each

total_set : {V : Type 0} (f : V → ℕ) (vs : List V) (i : ℕ) (v w : V) → get_elem? vs i ≡ some v → total f (set vs i w) + f v ≡ total f vs + f w
total_set f [] i v w e = absurd (some-ne-none v (sym e))
total_set f (x ∷ xs) zero v w e = let same : f x ≡ f v = ap f (some-injective x v e) in omega arith
total_set f (x ∷ xs) (suc i) v w e = let t = total_set f xs i v w e in omega arith

total_snoc : {V : Type 0} (f : V → ℕ) (vs : List V) (v : V) → total f (vs ++ v ∷ []) ≡ total f vs + f v
total_snoc f [] v = omega arith
total_snoc f (x ∷ xs) v = let t = total_snoc f xs v in omega arith

module _ {T : Type 0} where
  abbrev Empty : Hand T → Type 0
  Empty v = v.parts ≡ 0 → (v.sent ≡ []) × (v.received ≡ []) × (v.returned ≡ [])

  idle_set : (vs : List (Hand T)) (i : ℕ) (w : Hand T) → Empty w → IdleIsEmpty vs → IdleIsEmpty (set vs i w)
  idle_set vs i w new old j u at none =
      ⊎_elim (λ (t : (j ≡ i) × (w ≡ u)). subst Empty t.1 new none) (λ t. old j u t.1 none) (at_set vs i j w u at)

  idle_snoc : (vs : List (Hand T)) (w : Hand T) → Empty w → IdleIsEmpty vs → IdleIsEmpty (vs ++ w ∷ [])
  idle_snoc vs w new old j u at none = ⊎_elim (λ a. old j u a none) (λ (e : w ≡ u). subst Empty e new none) (at_snoc vs w u j at)

  -- ---- the moves

  abbrev Holds : State (Unit {0}) (Hand T) → Type 0
  Holds s = Balanced s.views

  abbrev brought : Hand T → List T
  brought v = v.sent

  -- what two views have for one, and a new list besides
  cut_pieces : (f : Hand T → List T) (vs : List (Hand T)) (i : ℕ) (v l r : Hand T) (new : List T) → get_elem? vs i ≡ some v
      → IsPermutation (f l ++ f r) (f v ++ new) → IsPermutation (flat_map f (set vs i l ++ r ∷ [])) (flat_map f vs ++ new)
  cut_pieces f vs i v l r new at p =
      let rest = flat_map f (others vs i) in
      then (as_is (pieces_snoc f (set vs i l) r)) (then (before (f r) (piece_set f vs i v l at)) (then (exchange_last (f l) rest (f r))
      (then (before rest p) (then (exchange_last (f v) new rest) (before new (back (piece f vs i v at)))))))

  -- a view is cut in two, of which each has something of what was there
  cuts : (id : ℕ) (v l r : Hand T) (new : List T) → Empty l → Empty r → (l.parts + r.parts ≡ v.parts)
      → IsPermutation (brought l ++ brought r) (brought v ++ new) → IsPermutation (became l ++ became r) (became v ++ new) → Splits Holds id v l r
  cuts id v l r new left right parts sent gone s b at =
      let vs : List (Hand T) = s.views in
      let was = b.whole in
      record {
        whole = let f : Hand T → ℕ = λ v. v.parts in omega (arith, total_set f vs id v l at, total_snoc f (set vs id l) r);
        even = then (cut_pieces brought vs id v l r new at sent) (then (before new b.even) (back (cut_pieces became vs id v l r new at gone)));
        idle = idle_snoc (set vs id l) r right (idle_set vs id l left b.idle);
      }

  pub sends : (id : ℕ) (v : Hand T) (xs : List T) → 0 < v.parts → Splits Holds id v (with_sent v xs) (waybill xs)
  sends id v xs some_part = cuts id v (with_sent v xs) (waybill xs) xs (λ none. absurd (omega arith)) (λ _. (refl, refl, refl)) (omega arith)
      (as_is (append-nil (v.sent ++ xs))) (as_is refl)

  pub halves : (id : ℕ) (v : Hand T) → 1 < v.parts → Splits Holds id v (hand (v.parts - 1) v.sent v.received v.returned v.carried) (hand 1 [] [] [] [])
  halves id v parts = cuts id v (hand (v.parts - 1) v.sent v.received v.returned v.carried) (hand 1 [] [] [] []) [] (λ none. absurd (omega arith)) (λ none. absurd (omega arith)) (omega arith)
      (as_is refl) (as_is refl)

  -- a seat is taken into another: that one has all that both had, and nothing is left
  joins : (id : ℕ) (v : Hand T) (other : ℕ) (w both : Hand T) → 0 < v.parts → both.parts ≡ v.parts + w.parts
      → IsPermutation (brought both) (brought v ++ brought w) → IsPermutation (became both) (became v ++ became w)
      → Joins Holds id v other w both (hand 0 [] [] [] [])
  joins id v other w both some_part parts sent gone s b at apart there =
      let vs : List (Hand T) = s.views in let spent : Hand T = hand 0 [] [] [] [] in
      let was = b.whole in
      let there_first : get_elem? vs other ≡ some w = ⊎_elim (λ (t : (other ≡ id) × (both ≡ w)). absurd (apart t.0)) (λ t. t.1) (at_set vs id other both w there) in
      record {
        whole = let f : Hand T → ℕ = λ v. v.parts in omega (arith, total_set f vs id v both at, total_set f (set vs id both) other w spent there);
        even = then (taken_in brought vs id other v w both spent sent refl (λ e. apart (sym e)) at there_first)
            (then b.even (back (taken_in became vs id other v w both spent gone refl (λ e. apart (sym e)) at there_first)));
        idle = idle_set (set vs id both) other spent (λ _. (refl, refl, refl)) (idle_set vs id both (λ none. absurd (omega arith)) b.idle);
      }

  -- three lists and three lists, each with its own
  shuffled : (a b c d e f : List T) → IsPermutation ((a ++ d) ++ ((b ++ e) ++ (c ++ f))) ((a ++ (b ++ c)) ++ (d ++ (e ++ f)))
  shuffled a b c d e f = then (after (a ++ d) (interchange b e c f)) (interchange a d (b ++ c) (e ++ f))

  pub receives : (id : ℕ) (v : Hand T) (other : ℕ) (w : Hand T) → 0 < v.parts → Joins Holds id v other w (with_received v w) (hand 0 [] [] [] [])
  receives id v other w some_part = joins id v other w (with_received v w) some_part refl (as_is refl)
      (then (as_is (append_assoc (v.received ++ w.received) w.carried ((v.returned ++ w.returned) ++ v.carried)))
      (then (after (v.received ++ w.received) (then (IsPermutation-append_comm w.carried ((v.returned ++ w.returned) ++ v.carried)) (as_is (append_assoc (v.returned ++ w.returned) v.carried w.carried))))
      (shuffled v.received v.returned v.carried w.received w.returned w.carried)))

  pub returns : (id : ℕ) (v : Hand T) (other : ℕ) (w : Hand T) → 0 < v.parts → Joins Holds id v other w (with_returned v w) (hand 0 [] [] [] [])
  returns id v other w some_part = joins id v other w (with_returned v w) some_part refl (as_is refl)
      (then (after (v.received ++ w.received) (then (as_is (append_assoc (v.returned ++ w.returned) w.carried v.carried)) (after (v.returned ++ w.returned) (IsPermutation-append_comm w.carried v.carried))))
      (shuffled v.received v.returned v.carried w.received w.returned w.carried))

  -- ---- a look at the whole

  abbrev parts_of : Hand T → ℕ
  parts_of v = v.parts

  -- where nobody has a part, nothing that stands on parts is here
  none_here : (f : Hand T → List T) (vs : List (Hand T)) → ((i : ℕ) (u : Hand T) → get_elem? vs i ≡ some u → u.parts ≡ 0 → f u ≡ []) → total parts_of vs ≡ 0 → flat_map f vs ≡ []
  none_here f [] rests e = refl
  none_here f (x ∷ xs) rests e = let here : f x ≡ [] = rests 0 x refl (omega arith) in let more : flat_map f xs ≡ [] = none_here f xs (λ i. rests (suc i)) (omega arith) in
      ap (λ u. u ++ flat_map f xs) here ∙ more

  least : (xs : List (Hand T)) (i : ℕ) (v : Hand T) → get_elem? xs i ≡ some v → v.parts ≤ total parts_of xs
  least [] i v at = absurd (some-ne-none v (sym at))
  least (x ∷ xs) zero v at = let count : x.parts ≡ v.parts = ap parts_of (some-injective x v at) in omega arith
  least (x ∷ xs) (suc i) v at = let l = least xs i v at in omega arith

  -- where all parts are one's, so is all that stands on them
  all_mine : (f : Hand T → List T) (vs : List (Hand T)) (i : ℕ) (v : Hand T) → get_elem? vs i ≡ some v → ((j : ℕ) (u : Hand T) → get_elem? vs j ≡ some u → u.parts ≡ 0 → f u ≡ [])
      → total parts_of vs ≡ v.parts → flat_map f vs ≡ f v
  all_mine f [] i v at rests e = absurd (some-ne-none v (sym at))
  all_mine f (x ∷ xs) zero v at rests e = let is = some-injective x v at in let count : x.parts ≡ v.parts = ap parts_of is in
      let more : flat_map f xs ≡ [] = none_here f xs (λ j. rests (suc j)) (omega arith) in ap (λ u. f x ++ u) more ∙ (append-nil (f x) ∙ ap f is)
  all_mine f (x ∷ xs) (suc i) v at rests e = let low = least xs i v at in let nobody : x.parts ≡ 0 = omega arith in let here : f x ≡ [] = rests 0 x refl nobody in
      ap (λ u. u ++ flat_map f xs) here ∙ all_mine f xs i v at (λ j. rests (suc j)) (omega arith)

  abbrev received_of : Hand T → List T
  received_of v = v.received

  abbrev returned_of : Hand T → List T
  returned_of v = v.returned

  abbrev carried_of : Hand T → List T
  carried_of v = v.carried

  apart : (vs : List (Hand T)) → IsPermutation (flat_map became vs) (flat_map received_of vs ++ (flat_map returned_of vs ++ flat_map carried_of vs))
  apart [] = as_is refl
  apart (v ∷ vs) = then (after (became v) (apart vs)) (back (shuffled v.received v.returned v.carried (flat_map received_of vs) (flat_map returned_of vs) (flat_map carried_of vs)))

  balanced : (vs : List (Hand T)) (id : ℕ) (v : Hand T) → Balanced vs → get_elem? vs id ≡ some v → v.parts ≡ all_parts → IsBalanced v.sent v.received v.returned
  balanced vs id v b at whole =
      let all : total parts_of vs ≡ v.parts = b.whole ∙ sym whole in
      let sent = all_mine brought vs id v at (λ j u a none. (b.idle j u a none).0) all in
      let received = all_mine received_of vs id v at (λ j u a none. (b.idle j u a none).1) all in
      let returned = all_mine returned_of vs id v at (λ j u a none. (b.idle j u a none).2) all in
      let way = flat_map carried_of vs in
      (way, then (as_is (sym sent)) (then b.even (then (apart vs) (beside (as_is received) (beside (as_is returned) (as_is {xs = way} refl))))))

  pub part_of : (sent received returned : List T) → IsBalanced sent received returned → IsPartOf received sent
  part_of sent received returned b = (returned ++ b.0, b.1)

  pub settles : (sent received returned : List T) → IsBalanced sent received returned → length received ≡ length sent → IsPermutation sent received
  settles sent received returned b same = part_whole received sent (part_of sent received returned b) same

  pub looks : (slots id k : ℕ) (me : Me (Unit {0}) (Hand T)) → Allows Holds slots id me k (λ n. n) (λ n m. learned (step slots k 0 0 mathlib.Core.Option.none) me n m)
  looks slots id k me s b wide at small = (
    me.0,
    keeps,
    tt,
    subst Balanced (sym (set_again s.views id me.0 at)) b,
    (refl, balanced s.views id me.0 b at),
  )
