-- Each step on the word of a lock keeps the rule.
use Rattle.std.proofs.Common.{◌≡◌, ◌≢◌, ◌⊎◌, ℕ, zero, suc, ◌+◌, ◌*◌, ◌<◌, ◌≤◌, eqb, inl, inr, ⊎_elim, List, [], ◌∷◌, ◌++◌, length, map, replicate, take, get_or, set, sym, refl, ap, ◌∙◌, subst, arith, length-set, get_or-set_other, get_or-set_same}
use Rattle.std.proofs.lemmas.List.{get_or-replicate, length-map, length-replicate}
use Rattle.std.proofs.Math.Seq.{take-nil}
use Rattle.std.specs.Prelude.{Option, Some, None}
use mathlib.Core.Option as home
use mathlib.Core.Option.{none, some, some-ne-none, some-injective}
use mathlib.Core.Logic.{dite}
use native.Mathlib.Decide.{ℕ_discrete}
use lib.ListN.{get_elem?}
use prog.Atomic.{either}
use Rattle.atomic_table.specs.Table.{State, step, Act, Valid, rest, carried_after, stepped, keeps, takes, gives, Allows, Enters, opening}
use Rattle.atomic_table.proofs.Lists.{at_set, at_snoc, at_longer, set_here, set_else, set_again, exchanged}
use Rattle.keyed_lock.specs.declared.rule.Turn.{Turn}
use Rattle.keyed_lock.specs.Locked.{AreLocks, IsFree, IsTaken, KeepsFrom, Seated, Took, turn, waits, holds, sits, takes_it, gives_it}

-- the lock whose value a seat with this view has
number : Option ℕ → ℕ
number (Some x) = x
number None = 0

module _ {K : Type 0} where
  same_lock : (k : K) (i q : ℕ) → turn k (Some i) ≡ turn k (Some q) → i ≡ q
  unfolding number
  same_lock k i q e = ap (λ (t : Turn K). number t.has) e

  is_idle : (k : K) (q : ℕ) → turn k None ≢ turn k (Some q)
  is_idle k q e = none_some (ap (λ (t : Turn K). t.has) e)
    where
      none_some : None ≢ Some q
      none_some e = absurd (cc)

  -- of the locks, a seat with this view has the value of i at most
  abbrev Only : K → ℕ → Turn K → Type 0
  Only k i v = (v.about ≡ k) × ((q : ℕ) → q ≢ i → v ≢ turn k (Some q))

  only_idle : (k : K) (i : ℕ) → Only k i (turn k None)
  only_idle k i = (refl, λ q apart. is_idle k q)

  only_it : (k : K) (i : ℕ) → Only k i (turn k (Some i))
  only_it k i = (refl, λ q apart e. apart (sym (same_lock k i q e)))

set_there : {A : Type 0} → (l : List A) (i : ℕ) (a b : A) → get_elem? l i ≡ some a → get_elem? (set l i b) i ≡ some b
set_there [] i a b e = absurd (some-ne-none a (sym e))
set_there (x ∷ xs) zero a b e = refl
set_there (x ∷ xs) (suc i) a b e = set_there xs i a b e

module _ {X K : Type 0} (keep : K → ℕ → X → Type 0) (k : K) where
  abbrev St : Type 0
  St = State (Option X) (Turn K)

  abbrev Homes : Type 0
  Homes = List (home.Option (Option X))

  abbrev Free : St → ℕ → Type 0
  Free = IsFree keep k

  abbrev Out : St → ℕ → Type 0
  Out = IsTaken keep k

  -- lock i changes, and its new state is as it should be
  changed : (s : St) (i n id : ℕ) (hs : Homes) (v w : Turn K) → AreLocks keep k s → get_elem? s.views id ≡ some v → Only k i v → Only k i w
      → length hs ≡ length s.homes → ((q : ℕ) → q ≢ i → get_elem? hs q ≡ get_elem? s.homes q)
      → (let t : St = record { words = set s.words (16 * i) n; homes = hs; views = set s.views id w } in Free t i ⊎ Out t i → AreLocks keep k t)
  changed s i n id hs v w r at was is long others here = record {
    wide = let a = r.wide in let b = length-set s.words (16 * i) n in omega (arith, a, b, long);
    keyed = λ j u e. ⊎_elim
        (λ (t : (j ≡ id) × (w ≡ u)). ap (λ (x : Turn K). x.about) (sym t.1) ∙ is.0)
        (λ (t : (j ≢ id) × (get_elem? s.views j ≡ some u)). r.keyed j u t.1)
        (at_set s.views id j w u e);
    each = λ q h. dite (ℕ_discrete q i)
        (λ same. subst (λ (m : ℕ). Free after m ⊎ Out after m) (sym same) here)
        (λ apart. beside q apart (r.each q (subst (λ (m : ℕ). q < m) long h)));
  }
    where
      after : St
      after = record { words = set s.words (16 * i) n; homes = hs; views = set s.views id w }

      beside : (q : ℕ) → q ≢ i → Free s q ⊎ Out s q → Free after q ⊎ Out after q
      beside q apart was_so =
          let word : get_or (set s.words (16 * i) n) (16 * q) 0 ≡ get_or s.words (16 * q) 0 = get_or-set_other s.words (16 * i) (16 * q) n 0 (λ e. apart (omega arith)) in
          let view : (j : ℕ) → get_elem? (set s.views id w) j ≡ some (turn k (Some q)) → get_elem? s.views j ≡ some (turn k (Some q)) =
          λ j e. ⊎_elim (λ (t : (j ≡ id) × (w ≡ turn k (Some q))). absurd (is.1 q apart t.1)) (λ (t : (j ≢ id) × (get_elem? s.views j ≡ some (turn k (Some q)))). t.1) (at_set s.views id j w (turn k (Some q)) e) in
          ⊎_elim
          (λ (f : Free s q). inl (word ∙ f.0, (f.1.0, others q apart ∙ f.1.1, f.1.2), λ j e. f.2 j (view j e)))
          (λ (x : Out s q). inr (
            x.0,
            subst (λ (m : ℕ). 0 < m) (sym word) x.1,
            subst (λ (m : ℕ). m ≤ 2) (sym word) x.2,
            others q apart ∙ x.3,
            set_else s.views id x.0 w (λ e. was.1 q apart (some-injective v (turn k (Some q)) (sym at ∙ (ap (get_elem? s.views) (sym e) ∙ x.4)))) ∙ x.4,
            λ j e. x.5 j (view j e),
          ))
          was_so

  pub sat : (slots word : ℕ) → Enters (AreLocks keep k) slots word (λ n w. sits {X = X} (step slots word 0 0 none) (turn k None, []) n (w, []))
  sat slots word s r wide small = (
    turn k None,
    record {
      wide = r.wide;
      keyed = λ j u e. ⊎_elim (r.keyed j u) (λ (t : turn k None ≡ u). ap (λ (x : Turn K). x.about) (sym t)) (at_snoc s.views (turn k None) u j e);
      each = λ i h. ⊎_elim
          (λ (f : Free s i). inl (f.0, f.1, λ j e. ⊎_elim (f.2 j) (is_idle k i) (at_snoc s.views (turn k None) (turn k (Some i)) j e)))
          (λ (x : Out s i). inr (
            x.0,
            x.1,
            x.2,
            x.3,
            at_longer s.views (turn k None ∷ []) x.0 (turn k (Some i)) x.4,
            λ j e. ⊎_elim (x.5 j) (λ z. absurd (is_idle k i z)) (at_snoc s.views (turn k None) (turn k (Some i)) j e),
          ))
          (r.each i h);
    },
    refl,
  )

  -- ---- the value is taken, if it is at home; the word is 1 or 2 after that

  abbrev Marks : (ℕ → ℕ) → Type 0
  Marks f = (n : ℕ) → n ≤ 2 → (0 < f n) × (f n ≤ 2)

  module _ (slots id i first second : ℕ) (f : ℕ → ℕ) (marks : Marks f) where
    abbrev Told : ℕ → Seated X K → Type 0
    Told = takes_it keep (step slots (16 * i) first second none) (waits k)

    abbrev Goes : St → Type 0
    Goes s =
        (w : Turn K) × (a : Act (Option X)) × Valid s.homes [] a × AreLocks keep k (stepped s (16 * i) (f (get_or s.words (16 * i) 0)) id [] w a)
        × Told (get_or s.words (16 * i) 0) (w, carried_after [] a)

    hits : (s : St) → AreLocks keep k s → i < length s.homes → get_elem? s.views id ≡ some (turn k None) → Free s i → Goes s
    hits s r near at free =
        let n : ℕ = get_or s.words (16 * i) 0 in
        let m = marks n (omega (arith, free.0)) in
        let there : 16 * i < length s.words = let a = r.wide in omega arith in
        let word : get_or (set s.words (16 * i) (f n)) (16 * i) 0 ≡ f n = get_or-set_same s.words (16 * i) (f n) 0 there in (
          turn k (Some i),
          takes i (Some free.1.0),
          free.1.1,
          changed s i (f n) id (set s.homes i none) (turn k None) (turn k (Some i)) r at (only_idle k i) (only_it k i) (length-set s.homes i none) (λ q apart. set_else s.homes i q none apart) (inr (
            id,
            subst (λ (y : ℕ). 0 < y) (sym word) m.0,
            subst (λ (y : ℕ). y ≤ 2) (sym word) m.1,
            set_here s.homes i none near,
            set_there s.views id (turn k None) (turn k (Some i)) at,
            λ j e. ⊎_elim (λ (t : (j ≡ id) × (turn k (Some i) ≡ turn k (Some i))). t.0) (λ (t : (j ≢ id) × (get_elem? s.views j ≡ some (turn k (Some i)))). absurd (free.2 j t.1)) (at_set s.views id j (turn k (Some i)) (turn k (Some i)) e),
          )),
          λ q e. let same : i ≡ q = omega arith in
              subst (λ (p : ℕ). (n ≡ 0 → (x : X) × keep k p x × ((turn k (Some i), (i, Some free.1.0) ∷ []) ≡ holds k p (Some x))) × (n ≢ 0 → (turn k (Some i), (i, Some free.1.0) ∷ []) ≡ waits k)) same
              ((λ _. (free.1.0, free.1.2, refl)), λ miss. absurd (miss free.0)),
        )

    misses : (s : St) → AreLocks keep k s → i < length s.homes → get_elem? s.views id ≡ some (turn k None) → Out s i → Goes s
    misses s r near at out =
        let n : ℕ = get_or s.words (16 * i) 0 in
        let m = marks n out.2 in
        let there : 16 * i < length s.words = let a = r.wide in omega arith in
        let word : get_or (set s.words (16 * i) (f n)) (16 * i) 0 ≡ f n = get_or-set_same s.words (16 * i) (f n) 0 there in
        let views = set_again s.views id (turn k None) at in (
          turn k None,
          keeps,
          tt,
          changed s i (f n) id s.homes (turn k None) (turn k None) r at (only_idle k i) (only_idle k i) refl (λ q apart. refl) (inr (
            out.0,
            subst (λ (y : ℕ). 0 < y) (sym word) m.0,
            subst (λ (y : ℕ). y ≤ 2) (sym word) m.1,
            out.3,
            subst (λ (l : List (Turn K)). get_elem? l out.0 ≡ some (turn k (Some i))) (sym views) out.4,
            subst (λ (l : List (Turn K)). (j : ℕ) → get_elem? l j ≡ some (turn k (Some i)) → j ≡ out.0) (sym views) out.5,
          )),
          λ q e. ((λ hit. absurd (omega (arith, out.1, hit))), λ _. refl),
        )

    pub takes_so : (me : Seated X K) → i < slots → me ≡ waits k → Allows (AreLocks keep k) slots id me (16 * i) f (takes_it keep (step slots (16 * i) first second none) me)
    takes_so me near e =
        subst (λ (m : Seated X K). Allows (AreLocks keep k) slots id m (16 * i) f (takes_it keep (step slots (16 * i) first second none) m)) (sym e)
        (λ s r wide at small. let here : i < length s.homes = omega arith in ⊎_elim (hits s r here at) (misses s r here at) (r.each i here))

  -- a compare-exchange from 0 to 1, and a swap to 2
  pub marks_one : Marks (λ n. either (eqb n 0) 1 n)
  marks_one n small = exchanged n 0 1 (λ (m : ℕ). (0 < m) × (m ≤ 2)) (λ _. (omega arith, omega arith)) (λ other. (omega arith, small))

  pub marks_two : Marks (λ _. 2)
  marks_two n small = (omega arith, omega arith)

  -- ---- it is given back

  pub gives_so : (slots id i : ℕ) (me : Seated X K) (x : X) → i < slots → keep k i x → me ≡ holds k i (Some x)
      → Allows (AreLocks keep k) slots id me (16 * i) (λ _. 0) (gives_it (step slots (16 * i) 0 0 none) me)
  gives_so slots id i me x near kept e =
      subst (λ (m : Seated X K). Allows (AreLocks keep k) slots id m (16 * i) (λ _. 0) (gives_it (step slots (16 * i) 0 0 none) m)) (sym e)
      (λ s r wide at small.
      let here : i < length s.homes = omega arith in
      let there : 16 * i < length s.words = let a = r.wide in omega arith in (
        turn k None,
        gives,
        tt,
        changed s i 0 id (set s.homes i (some (Some x))) (turn k (Some i)) (turn k None) r at (only_it k i) (only_idle k i) (length-set s.homes i (some (Some x))) (λ q apart. set_else s.homes i q (some (Some x)) apart) (inl (
          get_or-set_same s.words (16 * i) 0 0 there,
          (x, set_here s.homes i (some (Some x)) here, kept),
          λ j f. ⊎_elim (λ (t : (j ≡ id) × (turn k None ≡ turn k (Some i))). is_idle k i t.1)
              (λ (t : (j ≢ id) × (get_elem? s.views j ≡ some (turn k (Some i)))). ⊎_elim (λ (z : Free s i). z.2 j t.1) (λ (z : Out s i). t.0 (z.5 j t.1 ∙ sym (z.5 id at))) (r.each i here))
              (at_set s.views id j (turn k None) (turn k (Some i)) f),
        )),
        refl,
      ))

  -- ---- the locks as they are made

  kept_at : (xs : List X) (keep_it : ℕ → X → Type 0) (from i n : ℕ) → KeepsFrom keep_it from xs → i < length xs → n ≡ from + i
      → (x : X) × (get_elem? (map some (map Some xs)) i ≡ some (some (Some x))) × keep_it n x
  kept_at [] keep_it from i n all h e = absurd (omega arith)
  kept_at (x ∷ xs) keep_it from zero n all h e = (x, refl, subst (λ (m : ℕ). keep_it m x) (omega arith) all.0)
  kept_at (x ∷ xs) keep_it from (suc i) n all h e = kept_at xs keep_it (suc from) i n all.1 (omega arith) (omega arith)

  pub opens : (xs : List X) (n : ℕ) (words : List ℕ) (slots : List (Option X)) → words ≡ replicate n 0 → slots ≡ map Some xs → 16 * length slots ≤ n → KeepsFrom (keep k) 0 xs
      → AreLocks keep k (opening words slots (turn k None))
  opens xs n words slots zeros full long all =
      let long : 16 * length xs ≤ n = omega (arith, long, ap length full ∙ length-map xs Some) in
      subst (λ (l : List ℕ). AreLocks keep k (opening l slots (turn k None))) (sym zeros)
      (subst (λ (l : List (Option X)). AreLocks keep k (opening (replicate n 0) l (turn k None))) (sym full) record {
        wide = omega (arith, count, length-replicate {A = ℕ} n 0, long);
        keyed = only_first;
        each = λ i h.
            let near : i < length xs = omega (arith, count, h) in
            inl (get_or-replicate n (16 * i) 0 0 (omega arith), kept_at xs (keep k) 0 i i all near (omega arith), nobody i);
      })
    where
      count : length (map some (map Some xs)) ≡ length xs
      count = length-map (map Some xs) some ∙ length-map xs Some

      only_first : (j : ℕ) (v : Turn K) → get_elem? (turn k None ∷ []) j ≡ some v → v.about ≡ k
      only_first zero v e = ap (λ (t : Turn K). t.about) (sym (some-injective (turn k None) v e))
      only_first (suc j) v e = absurd (some-ne-none v (sym e))

      nobody : (i j : ℕ) → get_elem? (turn k None ∷ []) j ≢ some (turn k (Some i))
      nobody i zero e = is_idle k i (some-injective _ _ e)
      nobody i (suc j) e = absurd (some-ne-none (turn k (Some i)) (sym e))

pub zeros : (count room : ℕ) (old items words : List ℕ) → old ≡ [] → items ≡ take count old ++ replicate room 0 → words ≡ items → words ≡ replicate room 0
zeros count room old items words empty filled same =
    same ∙ filled ∙ ap (λ (l : List ℕ). take count l ++ replicate room 0) empty ∙ ap (λ (l : List ℕ). l ++ replicate room 0) (take-nil count)

-- ---- what a thread has that tried to take the value

module _ {X K : Type 0} (keep : K → ℕ → X → Type 0) (slots i first second found : ℕ) (k : K) (me after : Seated X K) (is : me ≡ waits k) (told : takes_it keep (step slots (16 * i) first second none) me found after) where
  -- it found 0, so the slot is with its seat
  pub has_it : found ≡ 0 → (x : Option X) × (after.1 ≡ (i, x) ∷ rest after.1)
  has_it won =
      let y = (told i refl).0 won in
      (Some y.0, ap (λ (m : Seated X K). m.1) y.2 ∙ ap (λ (l : List (ℕ × Option X)). (i, Some y.0) ∷ l) (ap (λ (m : Seated X K). rest m.1) (sym y.2)))

  -- and what lay there keeps the fact
  pub took_it : found ≡ 0 → (last : Seated X K) (r : Option X) → after.1 ≡ (i, r) ∷ rest after.1 → last ≡ (after.0, (i, None) ∷ rest after.1) → Took keep k i r last
  took_it won last r was then =
      let y = (told i refl).0 won in
      let same_key : me.0.about ≡ k = ap (λ (m : Seated X K). m.0.about) is in
      let same : r ≡ Some y.0 = ap (λ (z : ℕ × Option X). z.1) (ap (λ (m : List (ℕ × Option X)). first_of (i, r) m) (sym was ∙ ap (λ (m : Seated X K). m.1) y.2)) in
      subst (λ (z : Option X). Took keep k i z last) (sym same) (
        subst (λ (j : K). keep j i y.0) same_key y.1,
        then ∙ ap (λ (m : Seated X K). (m.0, (i, None) ∷ rest m.1)) y.2 ∙ ap (λ (j : K). holds j i None) same_key,
      )
    where
      first_of : ℕ × Option X → List (ℕ × Option X) → ℕ × Option X
      first_of z [] = z
      first_of z (w ∷ ws) = w

  pub took_nothing : found ≢ 0 → after ≡ waits k
  took_nothing lost = (told i refl).1 lost ∙ is
