-- An operation on a counting word keeps the rule.
use Rattle.std.proofs.Common.{◌≡◌, ◌≢◌, ℕ, ◌+◌, ◌-◌, ◌<◌, ◌%◌, ◌^◌, ◌==◌, inl, inr, Bool, true, false, List, length, set, if◌then◌else◌, refl, sym, ap, ◌∙◌, subst, arith, get_or-set_other, get_or-set_same}
use Rattle.std.specs.Prelude.{Option, slice_index}
use mathlib.Core.Option as home
use mathlib.Core.Logic.{dite}
use native.Mathlib.Decide.{ℕ_discrete}
use Rattle.concurrent_queue.specs.declared.history.rule.View.{View}
use lib.ListN.{get_elem?}
use prog.Atomic.{either}
use Rattle.atomic_table.specs.Table.{step, Act, Valid, stepped, carried_after, keeps, Allows}
use Rattle.concurrent_queue.specs.Bridge.{Event}
use Rattle.concurrent_queue.specs.Contents.{Contents}
use Rattle.concurrent_queue.specs.declared.cells.QueueForm.{QueueForm}
use Rattle.concurrent_queue.specs.history.Keeps.{HistoryOf, KeepsHistory, Tally, counted_after, count_of, with_count}
use Rattle.concurrent_queue.specs.history.Shared as rule
use Rattle.concurrent_queue.specs.history.Shared.{TableState, Seated, slots_of, stamps_of, words_of, contents, going_on, flag_at, flag_in, offset_of, count_at, count_in, tally_in, counter_at, IsKept, IsRuled}
use Rattle.concurrent_queue.specs.declared.history.rule.Counter.{Counter}
use Rattle.concurrent_queue.specs.declared.history.rule.Counter.TheVariants.{First, Second, Third, Fourth, Fifth, Sixth}
use Rattle.concurrent_queue.specs.declared.history.rule.CountStep.{CountStep}
use Rattle.concurrent_queue.specs.declared.history.rule.CountStep.TheVariants.{Read, Lower, Raise, Set}
use Rattle.concurrent_queue.proofs.HistorySteps as steps
use Rattle.concurrent_queue.proofs.HistoryWords as words
use Rattle.concurrent_queue.proofs.HistoryWords.{IsSpare}

offset_small : (which : Counter) → offset_of which < 32
offset_small First = omega arith
offset_small Second = omega arith
offset_small Third = omega arith
offset_small Fourth = omega arith
offset_small Fifth = omega arith
offset_small Sixth = omega arith

-- the table has these words
pub count_there : (form : QueueForm) (which : Counter) (k : ℕ) → k ≡ slots_of form + words_of form → count_at form which < k
count_there form which k e =
    let n : ℕ = slots_of form in
    let m : ℕ = stamps_of form in
    let o : ℕ = offset_of which in
    let small : o < 32 = offset_small which in
    let e' : k ≡ n + (32 + m) = e in
    let z : n + o < k = omega arith in z

-- where one lies says which it is
which_at : (which : Counter) → counter_at (offset_of which) ≡ which
which_at First = refl
which_at Second = refl
which_at Third = refl
which_at Fourth = refl
which_at Fifth = refl
which_at Sixth = refl

pub which_there : (form : QueueForm) (slots : ℕ) (which : Counter) → slots ≡ slots_of form → counter_at (count_at form which - slots) ≡ which
which_there form slots which e =
    let n : ℕ = slots_of form in
    let o : ℕ = offset_of which in
    let e' : slots ≡ n = e in
    let z : n + o - slots ≡ o = omega arith in ap counter_at z ∙ which_at which

pub either_if : (b : Bool) (x y : ℕ) → either b x y ≡ (if b then x else y)
either_if true x y = refl
either_if false x y = refl

module _ {T A : Type 0} {moves : QueueForm → A → Event T → A → Type 0} {enters : QueueForm → A → Type 0} {turns : QueueForm → A → A → Type 0} {counts : QueueForm → A → A → Counter → CountStep → ℕ → Type 0} {both : A → A → A} {left : A → A} {parts : QueueForm → A → A → A → Type 0} {opened : A} {counted : ℕ} {is_history : HistoryOf T A} (laws : KeepsHistory moves enters turns counts both left parts opened counted is_history) (admits : Type 0) (form : QueueForm) where
  abbrev S : Type 0
  S = TableState T A

  abbrev M : Type 0
  M = Seated T A

  abbrev R : S → Type 0
  R = IsRuled is_history admits form

  other_stays : (ws : List ℕ) (x y : Counter) (z : ℕ) → offset_of y ≢ offset_of x → slice_index (set ws (count_at form x) z) (count_at form y) ≡ slice_index ws (count_at form y)
  other_stays ws x y z apart =
      get_or-set_other ws (count_at form x) (count_at form y) z 0
      (λ q. apart (let n : ℕ = slots_of form in let a : ℕ = offset_of x in let b : ℕ = offset_of y in let q' : n + b ≡ n + a = q in let r : b ≡ a = omega arith in r))

  -- what the counts are after it
  pub changed : (ws : List ℕ) (which : Counter) (z : ℕ) → count_at form which < length ws → tally_in form (set ws (count_at form which) z) ≡ with_count which z (tally_in form ws)
  changed ws First z inside = λ k. record {
    first = get_or-set_same ws (count_at form First) z 0 inside k;
    second = other_stays ws First Second z (λ e. omega arith) k;
    third = other_stays ws First Third z (λ e. omega arith) k;
    fourth = other_stays ws First Fourth z (λ e. omega arith) k;
    fifth = other_stays ws First Fifth z (λ e. omega arith) k;
    sixth = other_stays ws First Sixth z (λ e. omega arith) k;
  }
  changed ws Second z inside = λ k. record {
    first = other_stays ws Second First z (λ e. omega arith) k;
    second = get_or-set_same ws (count_at form Second) z 0 inside k;
    third = other_stays ws Second Third z (λ e. omega arith) k;
    fourth = other_stays ws Second Fourth z (λ e. omega arith) k;
    fifth = other_stays ws Second Fifth z (λ e. omega arith) k;
    sixth = other_stays ws Second Sixth z (λ e. omega arith) k;
  }
  changed ws Third z inside = λ k. record {
    first = other_stays ws Third First z (λ e. omega arith) k;
    second = other_stays ws Third Second z (λ e. omega arith) k;
    third = get_or-set_same ws (count_at form Third) z 0 inside k;
    fourth = other_stays ws Third Fourth z (λ e. omega arith) k;
    fifth = other_stays ws Third Fifth z (λ e. omega arith) k;
    sixth = other_stays ws Third Sixth z (λ e. omega arith) k;
  }
  changed ws Fourth z inside = λ k. record {
    first = other_stays ws Fourth First z (λ e. omega arith) k;
    second = other_stays ws Fourth Second z (λ e. omega arith) k;
    third = other_stays ws Fourth Third z (λ e. omega arith) k;
    fourth = get_or-set_same ws (count_at form Fourth) z 0 inside k;
    fifth = other_stays ws Fourth Fifth z (λ e. omega arith) k;
    sixth = other_stays ws Fourth Sixth z (λ e. omega arith) k;
  }
  changed ws Fifth z inside = λ k. record {
    first = other_stays ws Fifth First z (λ e. omega arith) k;
    second = other_stays ws Fifth Second z (λ e. omega arith) k;
    third = other_stays ws Fifth Third z (λ e. omega arith) k;
    fourth = other_stays ws Fifth Fourth z (λ e. omega arith) k;
    fifth = get_or-set_same ws (count_at form Fifth) z 0 inside k;
    sixth = other_stays ws Fifth Sixth z (λ e. omega arith) k;
  }
  changed ws Sixth z inside = λ k. record {
    first = other_stays ws Sixth First z (λ e. omega arith) k;
    second = other_stays ws Sixth Second z (λ e. omega arith) k;
    third = other_stays ws Sixth Third z (λ e. omega arith) k;
    fourth = other_stays ws Sixth Fourth z (λ e. omega arith) k;
    fifth = other_stays ws Sixth Fifth z (λ e. omega arith) k;
    sixth = get_or-set_same ws (count_at form Sixth) z 0 inside k;
  }

  cells_stay : (ws : List ℕ) (values : List (Option T)) (which : Counter) (z : ℕ) → contents form (set ws (count_at form which) z) values ≡ contents form ws values
  cells_stay ws values which z = words.spare_apart form ws values z (offset_of which) (count_at form which) (words.count_spare which) refl

  flag_apart : (which : Counter) → flag_at form ≢ count_at form which
  flag_apart which q = let n : ℕ = slots_of form in let o : ℕ = offset_of which in let q' : n + 24 ≡ n + o = q in steps.count_no_flag laws admits form which (omega arith)

  guard_apart : (which : Counter) (i : ℕ) → i < slots_of form → i ≢ count_at form which
  guard_apart which i h q = let n : ℕ = slots_of form in let o : ℕ = offset_of which in let h' : i < n = h in let q' : i ≡ n + o = q in absurd (omega arith)

  pub count_is : (ws : List ℕ) (which : Counter) → count_of which (tally_in form ws) ≡ count_in form ws which
  count_is ws First = refl
  count_is ws Second = refl
  count_is ws Third = refl
  count_is ws Fourth = refl
  count_is ws Fifth = refl
  count_is ws Sixth = refl

  module _ (slots id k : ℕ) (me : M) (which : Counter) (fit : slots ≡ slots_of form) (is : k ≡ count_at form which) (live : me.0.spent ≡ false) where
    abbrev Counts : CountStep → ℕ → A → Type 0
    Counts op n a = counts me.0.form me.0.state a which op n

    abbrev Tells : CountStep → ℕ → M → Type 0
    Tells op n m = counts me.0.form me.0.state m.0.state (counter_at (k - slots)) op n × (m ≡ (going_on me.0 m.0.state, me.1))

    -- what a machine's operation on a count leaves is under the rule
    after_count : (s : S) (op : CountStep) (z : ℕ) (a : A) → R s → get_elem? s.views id ≡ home.some me.0 → slice_index s.words k < 18446744073709551616 → z ≡ counted_after op (slice_index s.words k)
        → Counts op (slice_index s.words k) a → R record { words = set s.words k z; homes = s.homes; views = set s.views id (going_on me.0 a) }
    after_count s op z a r at small does made_so =
        let n : ℕ = slice_index s.words k in
        let v = going_on me.0 a in
        let at_k : n ≡ count_of which (tally_in form s.words) = ap (slice_index s.words) is ∙ sym (count_is s.words which) in
        let flag : slice_index (set s.words k z) (flag_at form) ≡ flag_in form s = get_or-set_other s.words k (flag_at form) z 0 (λ q. flag_apart which (q ∙ is)) in
        steps.kept laws admits form s id k z me.0 v r at (λ z. z) refl (inl refl) refl live
        (λ i h. get_or-set_other s.words k i z 0 (λ q. guard_apart which i (subst (λ (m : ℕ). i < m) r.slots h) (q ∙ is)))
        (λ e. sym flag ∙ e) (λ strange e. r.seated.admitted id me.0 at strange (sym flag ∙ e))
        (λ zero q.
        let c : Contents T = contents form s.words q.values in
        let there : set s.words (count_at form which) z ≡ set s.words k z = ap (λ (j : ℕ). set s.words j z) (sym is) in
        let after = changed s.words which z (count_there form which (length s.words) r.words) ∙ ap (λ (x : ℕ). with_count which x (tally_in form s.words)) (does ∙ ap (counted_after op) at_k) in
        let made = laws.counts_on form s.views c (tally_in form s.words) id me.0 v which op q.history at
        (subst (λ (x : ℕ). counts form me.0.state a which op x) at_k (steps.of_form laws admits form s id me.0 (λ (o : QueueForm). counts o me.0.state a which op n) r at made_so))
        (subst (λ (x : ℕ). x < 2 ^ 64) at_k small) in
        subst (λ (ws : List ℕ). is_history form (set s.views id v) (contents form ws q.values) (tally_in form ws)) there
        (subst (λ (d : Contents T). is_history form (set s.views id v) d (tally_in form (set s.words (count_at form which) z))) (sym (cells_stay s.words q.values which z))
        (subst (λ (t : Tally). is_history form (set s.views id v) c t) (sym after) made)))

    -- AN OPERATION ON A COUNT, whichever
    counted_so : (op : CountStep) (f : ℕ → ℕ) → ((n : ℕ) → f n ≡ counted_after op n) → ((n : ℕ) → (a : A) × Counts op n a) → Allows R slots id me k f (Tells op)
    counted_so op f does fits s r wide at small =
        let n : ℕ = slice_index s.words k in
        let b = fits n in (
          going_on me.0 b.0,
          keeps,
          tt,
          after_count s op (f n) b.0 r at small (does n) b.1,
          (subst (λ (o : Counter). counts me.0.form me.0.state b.0 o op n) (sym (ap (λ (j : ℕ). counter_at (j - slots)) is ∙ which_there form slots which fit)) b.1, refl),
        )

    pub reads_so : ((n : ℕ) → (a : A) × Counts Read n a) → Allows R slots id me k (λ n. n) (rule.count_reads counts (step slots k 0 0 home.none) me)
    reads_so fits = counted_so Read (λ n. n) (λ n. refl) fits

    pub lowers_so : ((n : ℕ) → (a : A) × Counts Lower n a) → Allows R slots id me k (λ n. (n + (2 ^ 64 - 1)) % 2 ^ 64) (rule.count_lowers counts (step slots k 1 0 home.none) me)
    lowers_so fits = counted_so Lower (λ n. (n + (2 ^ 64 - 1)) % 2 ^ 64) (λ n. refl) fits

    pub raises_so : (from : ℕ) → ((n : ℕ) → (a : A) × Counts (Raise from) n a) → Allows R slots id me k (λ n. either (n == from) (from + 1) n) (rule.count_raises counts (step slots k from (from + 1) home.none) me)
    raises_so from fits = counted_so (Raise from) (λ n. either (n == from) (from + 1) n) (λ n. either_if (n == from) (from + 1) n) fits

    -- a count is set, in a step that leads the party as a relation says
    pub sets_so : (value : ℕ) (to : A → A → Type 0) → (a : A) × ((n : ℕ) → Counts (Set value) n a) × to me.0.state a → Allows R slots id me k (λ _. value) (λ _. rule.count_sets to (step slots k value 0 home.none) me value)
    sets_so value to (a, go, so) s r wide at small = (
      going_on me.0 a,
      keeps,
      tt,
      after_count s (Set value) value a r at small refl (go (slice_index s.words k)),
      (so, refl),
    )

    abbrev Passed : (A → A → Type 0) → S → ℕ → Type 0
    Passed to s z = (w : View T A) × (a : Act (Option T)) × Valid s.homes me.1 a × R (stepped s k z id me.1 w a) × rule.count_passes to (step slots k 0 0 home.none) me (slice_index s.words k) (w, carried_after me.1 a)

    -- where it is 0 the step leads the party so, and elsewhere nowhere
    pub passes_so : (to : A → A → Type 0) → (a : A) × Counts Read 0 a × to me.0.state a → Allows R slots id me k (λ n. n) (rule.count_passes to (step slots k 0 0 home.none) me)
    passes_so to (a, go, so) s r wide at small = dite (ℕ_discrete (slice_index s.words k) 0)
        (λ none. (
          going_on me.0 a,
          keeps,
          tt,
          after_count s Read (slice_index s.words k) a r at small refl (subst (λ (n : ℕ). Counts Read n a) (sym none) go),
          ((λ zero. (so, refl)), λ some. absurd (some none)),
        ))
        (λ some. (me.0, keeps, tt, steps.missed laws admits form s id k me r at, ((λ none. absurd (some none)), λ _. refl)))
