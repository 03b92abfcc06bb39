-- How seats come, part and join, and how the rows begin.
use Rattle.std.proofs.Common.{◌≡◌, ◌≢◌, ℕ, zero, suc, ◌+◌, ◌<◌, ◌≤◌, ◌^◌, ◌⊎◌, inl, inr, ⊎_elim, Bool, ◌||◌, true, false, true≢false, List, [], ◌∷◌, ◌++◌, map, length, set, refl, sym, ap, ◌∙◌, subst, arith}
use mathlib.Core.Option.{some, some-injective, some-ne-none}
use lib.ListN.{get_elem?, length-map}
use denote.RawPtr.{Ptr}
use Rattle.atomic_table.proofs.Lists.{at_set, at_map, set_else}
use Rattle.atomic_blocks.specs.Cells as cells
use Rattle.atomic_blocks.specs.Cells.{Cell, row, row_at, cell_in, word_of, Lies}
use Rattle.growing_table.specs.State as plain
use Rattle.growing_table.specs.State.{State, Me, state}
use Rattle.growing_table.specs.Laid.{Rows, KitState, word, places, plain_words, plain_blocks, Knows, Grown, client, sight, maker, novice}
use Rattle.growing_table.specs.Told.{with_client, new_seat, joined, made_by, over}
use Rattle.growing_table.specs.declared.sight.Sight.{Sight}
use Rattle.growing_table.proofs.Plain as facts
use Rattle.growing_table.proofs.Stays.{was, places_at}

at_end : {A : Type 0} (l : List A) (a b : A) (j : ℕ) → get_elem? (l ++ a ∷ []) j ≡ some b → (get_elem? l j ≡ some b) ⊎ ((j ≡ length l) × (a ≡ b))
at_end [] a b zero e = inr (refl, some-injective a b e)
at_end [] a b (suc j) e = absurd (some-ne-none b (sym e))
at_end (x ∷ xs) a b zero e = inl e
at_end (x ∷ xs) a b (suc j) e = ⊎_elim inl (λ t. inr (ap suc t.0, t.1)) (at_end xs a b j e)

no_list : (p : Ptr) → [] ≡ p ∷ [] → ⊥
no_list p e = absurd (let x : ℕ = length (p ∷ []) in let z : 0 ≡ x = ap (λ (l : List Ptr). length l) e in omega arith)

not_true : false ≡ true → ⊥
not_true e = true≢false (sym e)

made_of : (a b : Bool) (x y n : ℕ) → (a ≡ true → x + 2 ≡ n) → (b ≡ true → y + 2 ≡ n) → (a || b) ≡ true → made_by a x y + 2 ≡ n
made_of true b x y n f h e = f refl
made_of false true x y n f h e = h refl
made_of false false x y n f h e = absurd (not_true e)

one_of : (a b : Bool) → (a || b) ≡ true → (a ≡ true) ⊎ (b ≡ true)
one_of true b e = inl refl
one_of false true e = inr refl
one_of false false e = absurd (not_true e)

module _ {S V : Type 0} (wide n : ℕ) (root top : Ptr) (holds : State S V → Type 0) where
  abbrev G : KitState S V → Type 0
  G = Grown wide n root top holds

  -- a view that says no more of the rows
  knows_as : (rows : Rows S) (v : Sight V) → Knows n rows v → (w : V) (at : ℕ) (mk : Bool) → (mk ≡ true → v.maker ≡ true) → Knows n rows (sight w v.cells at v.chart.places mk v.made [])
  knows_as rows v know w at mk f = record { sized = know.sized; charted = know.charted; whole = λ e. know.whole (f e); planned = λ _ p is. absurd (no_list p is) }

  beside : (s : KitState S V) → G s → Lies s.rows 1 top 0
  beside s g = (g.laid.top_at, let e = g.laid.top_long in omega arith)

  -- ---- a new seat
  pub enters : (i : ℕ) (first : V) (then : ℕ → V → Type 0) → i < wide → plain.Enters holds i then → cells.Enters G 0 root i (λ (r : ℕ) (u : Sight V). (u.cells ≡ n) × (u.maker ≡ false) × then r u.client)
  enters i first then inside law s g = let rows : Rows S = s.rows in let near : i < length (row rows 0).cells = subst (λ (x : ℕ). i < x) (sym g.laid.root_long) inside in
      let found = facts.own_found rows i in let long : length (plain_words rows) ≡ length (row rows 0).cells = length-map (row rows 0).cells word in (
        (g.laid.root_at, near),
        λ small. let r = law (state (plain_words rows) (plain_blocks n rows) (map client s.views)) g.agreed (subst (λ (y : ℕ). i < y) (sym long) near) (subst (λ (y : ℕ). y < 18446744073709551616) (sym found) small) in
            let u : Sight V = novice n (places rows) r.0 in (
              u,
              record {
                laid = g.laid;
                knows = λ j x e. ⊎_elim
                    (λ (t : get_elem? s.views j ≡ some x). g.knows j x t)
                    (λ (t : (j ≡ length s.views) × (u ≡ x)). subst (Knows n rows) t.1 record { sized = λ _. refl; charted = places_at rows; whole = λ e'. absurd (not_true e'); planned = λ _ p is. absurd (no_list p is) })
                    (at_end s.views u x j e);
                single = λ j k x y e e' a a'. ⊎_elim
                    (λ (t : get_elem? s.views j ≡ some x). ⊎_elim
                    (λ (t' : get_elem? s.views k ≡ some y). g.single j k x y t t' a a')
                    (λ (t' : (k ≡ length s.views) × (u ≡ y)). absurd (not_true (ap (λ (z : Sight V). z.maker) t'.1 ∙ a')))
                    (at_end s.views u y k e'))
                    (λ (t : (j ≡ length s.views) × (u ≡ x)). absurd (not_true (ap (λ (z : Sight V). z.maker) t.1 ∙ a)))
                    (at_end s.views u x j e);
                agreed = subst (λ (vs : List V). holds (state (plain_words rows) (plain_blocks n rows) vs)) (sym (facts.map_more client s.views (u ∷ []))) r.1;
              },
              (refl, refl, subst (λ (y : ℕ). then y r.0) found r.2),
            ),
      )

  -- ---- a seat parts
  module _ (id : ℕ) (v : Sight V) (lw rw : V) where
    parted : (s : KitState S V) → G s → get_elem? s.views id ≡ some v → (a b : Sight V) → a.client ≡ lw → b.client ≡ rw → Knows n s.rows a → Knows n s.rows b
        → ((j k : ℕ) (x y : Sight V) → get_elem? (set s.views id a ++ b ∷ []) j ≡ some x → get_elem? (set s.views id a ++ b ∷ []) k ≡ some y → x.maker ≡ true → y.maker ≡ true → j ≡ k)
        → plain.Splits holds id v.client lw rw → G record { rows = s.rows; views = set s.views id a ++ b ∷ [] }
    parted s g here a b ea eb ka kb single law = record {
      laid = g.laid;
      knows = λ j x e. ⊎_elim
          (λ (t : get_elem? (set s.views id a) j ≡ some x). ⊎_elim
          (λ (t' : (j ≡ id) × (a ≡ x)). subst (Knows n s.rows) t'.1 ka)
          (λ (t' : (j ≢ id) × (get_elem? s.views j ≡ some x)). g.knows j x t'.1)
          (at_set s.views id j a x t))
          (λ (t : (j ≡ length (set s.views id a)) × (b ≡ x)). subst (Knows n s.rows) t.1 kb)
          (at_end (set s.views id a) b x j e);
      single = single;
      agreed = subst (λ (vs : List V). holds (state (plain_words s.rows) (plain_blocks n s.rows) vs))
          (sym (facts.map_more client (set s.views id a) (b ∷ []) ∙ (λ i. (facts.map_set client s.views id a ∙ ap (set (map client s.views) id) ea) i ++ eb i ∷ [])))
          (law (state (plain_words s.rows) (plain_blocks n s.rows) (map client s.views)) g.agreed (at_map client s.views id v here));
    }

    -- the old seat makes the blocks, if it did
    pub parts : plain.Splits holds id v.client lw rw → cells.Splits G 1 top id v (with_client v v.maker lw) (new_seat v false rw)
    parts law s g here = let a : Sight V = with_client v v.maker lw in let b : Sight V = new_seat v false rw in let know = g.knows id v here in (
      beside s g,
      parted s g here a b refl refl (knows_as s.rows v know lw v.at v.maker (λ e. e)) (knows_as s.rows v know rw 0 false (λ e. absurd (not_true e)))
          (λ j k x y e e' m m'. ⊎_elim
          (λ (t : get_elem? (set s.views id a) j ≡ some x). ⊎_elim
          (λ (t' : get_elem? (set s.views id a) k ≡ some y). let o = was s.views id v a here refl j x t in let o' = was s.views id v a here refl k y t' in g.single j k o.0 o'.0 o.1 o'.1 (o.2 ∙ m) (o'.2 ∙ m'))
          (λ (t' : (k ≡ length (set s.views id a)) × (b ≡ y)). absurd (not_true (ap (λ (z : Sight V). z.maker) t'.1 ∙ m')))
          (at_end (set s.views id a) b y k e'))
          (λ (t : (j ≡ length (set s.views id a)) × (b ≡ x)). absurd (not_true (ap (λ (z : Sight V). z.maker) t.1 ∙ m)))
          (at_end (set s.views id a) b x j e))
          law,
    )

    -- the new seat does
    pub hands : plain.Splits holds id v.client lw rw → cells.Splits G 1 top id v (with_client v false lw) (new_seat v v.maker rw)
    hands law s g here = let a : Sight V = with_client v false lw in let b : Sight V = new_seat v v.maker rw in let know = g.knows id v here in let l : ℕ = length (set s.views id a) in
        let others : (j : ℕ) (x : Sight V) → get_elem? (set s.views id a) j ≡ some x → x.maker ≡ true → (j ≢ id) × (get_elem? s.views j ≡ some x) = (λ j x e m. ⊎_elim
        (λ (t : (j ≡ id) × (a ≡ x)). absurd (not_true (ap (λ (z : Sight V). z.maker) t.1 ∙ m)))
        (λ (t : (j ≢ id) × (get_elem? s.views j ≡ some x)). t)
        (at_set s.views id j a x e)) in (
          beside s g,
          parted s g here a b refl refl (knows_as s.rows v know lw v.at false (λ e. absurd (not_true e))) (knows_as s.rows v know rw 0 v.maker (λ e. e))
              (λ j k x y e e' m m'. ⊎_elim
              (λ (t : get_elem? (set s.views id a) j ≡ some x). let o = others j x t m in ⊎_elim
              (λ (t' : get_elem? (set s.views id a) k ≡ some y). let o' = others k y t' m' in g.single j k x y o.1 o'.1 m m')
              (λ (t' : (k ≡ l) × (b ≡ y)). absurd (o.0 (g.single j id x v o.1 here m (ap (λ (z : Sight V). z.maker) t'.1 ∙ m'))))
              (at_end (set s.views id a) b y k e'))
              (λ (t : (j ≡ l) × (b ≡ x)). ⊎_elim
              (λ (t' : get_elem? (set s.views id a) k ≡ some y). let o' = others k y t' m' in absurd (o'.0 (g.single k id y v o'.1 here m' (ap (λ (z : Sight V). z.maker) t.1 ∙ m))))
              (λ (t' : (k ≡ l) × (b ≡ y)). t.0 ∙ sym t'.0)
              (at_end (set s.views id a) b y k e'))
              (at_end (set s.views id a) b x j e))
              law,
        )

  -- ---- a seat takes in another
  pub joins : (id : ℕ) (v : Sight V) (other : ℕ) (w : Sight V) (x y : V) → v.cells ≡ n → plain.Joins holds id v.client other w.client x y → cells.Joins G 1 top id v other w (joined v w x) (over y)
  joins id v other w x y sized law s g = (
    beside s g,
    λ here apart there. let a : Sight V = joined v w x in let b : Sight V = over y in let vs : List (Sight V) = set s.views id a in
        let there' : get_elem? s.views other ≡ some w = sym (set_else s.views id other a apart) ∙ there in let know = g.knows id v here in let know' = g.knows other w there' in
        let others : (j : ℕ) (z : Sight V) → get_elem? (set vs other b) j ≡ some z → z.maker ≡ true → (j ≢ other) × (((j ≡ id) × (a ≡ z)) ⊎ ((j ≢ id) × (get_elem? s.views j ≡ some z))) = (λ j z e m. ⊎_elim
        (λ (t : (j ≡ other) × (b ≡ z)). absurd (not_true (ap (λ (q : Sight V). q.maker) t.1 ∙ m)))
        (λ (t : (j ≢ other) × (get_elem? vs j ≡ some z)). (t.0, at_set s.views id j a z t.1))
        (at_set vs other j b z e)) in
        let alone : (j : ℕ) (z : Sight V) → j ≢ other → j ≢ id → get_elem? s.views j ≡ some z → z.maker ≡ true → a.maker ≡ true → ⊥ = (λ j z no no' e m m'. ⊎_elim
        (λ (h : v.maker ≡ true). no' (g.single j id z v e here m h)) (λ (h : w.maker ≡ true). no (g.single j other z w e there' m h)) (one_of v.maker w.maker m')) in
        record {
          laid = g.laid;
          knows = λ j z e. ⊎_elim
              (λ (t : (j ≡ other) × (b ≡ z)). subst (Knows n s.rows) t.1 record { sized = λ h. absurd (omega arith); charted = λ k p e'. absurd (some-ne-none p (sym e')); whole = λ e'. absurd (not_true e'); planned = λ _ p is. absurd (no_list p is) })
              (λ (t : (j ≢ other) × (get_elem? vs j ≡ some z)). ⊎_elim
              (λ (t' : (j ≡ id) × (a ≡ z)). subst (Knows n s.rows) t'.1 record { sized = know.sized; charted = know.charted; whole = made_of v.maker w.maker v.made w.made (length s.rows) know.whole know'.whole; planned = λ _ p is. absurd (no_list p is) })
              (λ (t' : (j ≢ id) × (get_elem? s.views j ≡ some z)). g.knows j z t'.1)
              (at_set s.views id j a z t.1))
              (at_set vs other j b z e);
          single = λ j k z z' e e' m m'. let o = others j z e m in let o' = others k z' e' m' in ⊎_elim
              (λ (t : (j ≡ id) × (a ≡ z)). ⊎_elim
              (λ (t' : (k ≡ id) × (a ≡ z')). t.0 ∙ sym t'.0)
              (λ (t' : (k ≢ id) × (get_elem? s.views k ≡ some z')). absurd (alone k z' o'.0 t'.0 t'.1 m' (ap (λ (q : Sight V). q.maker) t.1 ∙ m)))
              o'.1)
              (λ (t : (j ≢ id) × (get_elem? s.views j ≡ some z)). ⊎_elim
              (λ (t' : (k ≡ id) × (a ≡ z')). absurd (alone j z o.0 t.0 t.1 m (ap (λ (q : Sight V). q.maker) t'.1 ∙ m')))
              (λ (t' : (k ≢ id) × (get_elem? s.views k ≡ some z')). g.single j k z z' t.1 t'.1 m m')
              o'.1)
              o.1;
          agreed = subst (λ (us : List V). holds (state (plain_words s.rows) (plain_blocks n s.rows) us)) (sym (facts.map_set client vs other b ∙ ap (λ (us : List V). set us other y) (facts.map_set client s.views id a)))
              (law (state (plain_words s.rows) (plain_blocks n s.rows) (map client s.views)) g.agreed (at_map client s.views id v here) apart
              (sym (ap (λ (us : List V). get_elem? us other) (facts.map_set client s.views id a)) ∙ at_map client vs other w there));
        },
  )

-- ---- the rows begin
pub begins : {S V : Type 0} (wide n : ℕ) (p q : Ptr) (holds : State S V → Type 0) (cs ds : List (Cell S)) (first : V) → (wide ≤ 2 ^ 39) × (n ≤ 2 ^ 39) → length cs ≡ wide → length ds ≡ 64 → (cell_in ds 0).word ≡ 0
    → holds (state (map word cs) [] (first ∷ [])) → Grown wide n p q holds record { rows = row_at p cs ∷ row_at q ds ∷ []; views = maker n [] 0 first ∷ [] }
begins wide n p q holds cs ds first small long long' none good = record {
  laid = record {
    tall = omega arith;
    few = omega arith;
    small = small;
    root_at = refl;
    root_long = long;
    top_at = refl;
    top_long = long';
    counted = ap (λ (x : ℕ). x + 2) none;
    entered = λ k d j h is. absurd (omega arith);
  };
  knows = knows;
  single = single;
  agreed = good;
}
  where
    knows : (j : ℕ) (v : Sight _) → get_elem? (maker n [] 0 first ∷ []) j ≡ some v → Knows n (row_at p cs ∷ row_at q ds ∷ []) v
    knows zero v e = subst (Knows n (row_at p cs ∷ row_at q ds ∷ [])) (some-injective (maker n [] 0 first) v e)
        record { sized = λ _. refl; charted = λ k r e'. absurd (some-ne-none r (sym e')); whole = λ _. refl; planned = λ _ r is. absurd (no_list r is) }
    knows (suc j) v e = absurd (some-ne-none v (sym e))

    single : (j k : ℕ) (v w : Sight _) → get_elem? (maker n [] 0 first ∷ []) j ≡ some v → get_elem? (maker n [] 0 first ∷ []) k ≡ some w → v.maker ≡ true → w.maker ≡ true → j ≡ k
    single zero zero v w e e' m m' = refl
    single zero (suc k) v w e e' m m' = absurd (some-ne-none w (sym e'))
    single (suc j) k v w e e' m m' = absurd (some-ne-none v (sym e))
