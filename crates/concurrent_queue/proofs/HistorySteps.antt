-- Each kind of step on cells keeps the rule: one lemma for all operations on a word, one for an operation that leaves all cells as they
-- are, three for a slot, and those of foreign calls.
use Rattle.std.proofs.Common.{◌≡◌, ◌≢◌, ℕ, zero, suc, ◌+◌, ◌-◌, ◌<◌, ◌≤◌, eqb, inl, inr, ⊎_elim, Bool, true, false, List, [], ◌∷◌, length, map, get_or, set, refl, sym, ap, ◌∙◌, subst, arith, eq-eqb, ne_eqb, length-set, get_or-set_other, get_or-set_same, ◌%◌, ◌^◌}
use Rattle.std.proofs.lemmas.List.{map-set, set-get_or}
use Rattle.std.specs.Prelude.{Option, None, Some, Result, Ok, Err, MatchResult, slice_index, slice_index_or, slice_get, if◌then◌else◌, bit_and, bit_or}
use mathlib.Core.Option as home
use mathlib.Core.Option.{some-injective, some-ne-none}
use mathlib.Core.Logic.{dite}
use native.Mathlib.Decide.{ℕ_discrete}
use lib.ListN.{get_elem?}
use prog.Atomic.{either}
use Rattle.atomic_table.specs.Table.{step, Act, Valid, put_back, carried_after, stepped, keeps, takes, gives, Allows}
use Rattle.atomic_table.proofs.Lists as lists
use Rattle.atomic_table.proofs.Lists.{at_set, at_map, set_again}
use Rattle.concurrent_queue.specs.Bridge.{Event, does, HasCells}
use Rattle.concurrent_queue.specs.Contents.{Contents, read, write, is_vacant}
use Rattle.concurrent_queue.specs.Deeds as deed
use Rattle.concurrent_queue.specs.Deeds.{Deed}
use Rattle.concurrent_queue.specs.Effects.{Does}
use Rattle.concurrent_queue.specs.Places.{place_of, index_of}
use Rattle.concurrent_queue.specs.machine.Guarded.{IsGuarded}
use Rattle.concurrent_queue.specs.declared.cells.QueueForm.{QueueForm}
use Rattle.concurrent_queue.specs.declared.cells.Slot.TheVariants.{At}
use Rattle.concurrent_queue.specs.declared.cells.Word.{Word}
use Rattle.concurrent_queue.specs.history.Keeps.{HistoryOf, KeepsHistory, Tally}
use Rattle.concurrent_queue.specs.history.Shared as rule
use Rattle.concurrent_queue.specs.history.Shared.{TableState, Seated, slots_of, stamps_of, words_of, own_word, IsOwn, answer, contents, LeavesAll, going_on, holding, slot_in, slot_out, guarded, flag_at, flag_in, offset_of, count_at, tally_in, IsKept, IsRuled, Made}
use Rattle.concurrent_queue.specs.declared.history.rule.Counter.{Counter}
use Rattle.concurrent_queue.specs.declared.history.rule.Counter.TheVariants.{First, Second, Third, Fourth, Fifth, Sixth}
use Rattle.concurrent_queue.specs.declared.history.rule.CountStep.{CountStep}
use Rattle.concurrent_queue.specs.declared.history.rule.View.{View}
use Rattle.concurrent_queue.proofs.Guarding as guards
use Rattle.concurrent_queue.proofs.HistorySeats as seats
use Rattle.concurrent_queue.proofs.HistorySeats.{IsNamed, ListsNoMore}
use Rattle.concurrent_queue.proofs.HistoryWords as words
use Rattle.concurrent_queue.proofs.HistoryWords.{IsSpare, count_spare}

or_pair : {X : Type 0} → X → Option X → X
or_pair d (Some x) = x
or_pair d None = d

same_some : {X : Type 0} (x y : X) → Some x ≡ Some y → x ≡ y
unfolding or_pair
same_some x y e = ap (or_pair x) e

none_some : {X : Type 0} (x : X) → None ≢ Some x
none_some x e = absurd (cc)

none_there : {X : Type 0} (x : X) → home.none ≢ home.some x
none_there x e = some-ne-none x (sym e)

get_is : {X : Type 0} (l : List X) (i : ℕ) (d : X) → i < length l → slice_get l i ≡ Some (slice_index_or l i d)
get_is [] i d h = absurd (omega arith)
get_is (x ∷ xs) zero d h = refl
get_is (x ∷ xs) (suc i) d h = get_is xs i d (omega arith)

-- the table has the flag, and a guard for each slot
pub flag_there : (form : QueueForm) (slots k : ℕ) → slots ≡ slots_of form → k ≡ slots_of form + words_of form → (slots + 24 ≡ flag_at form) × (slots + 24 < k)
flag_there form slots k s e =
    let n : ℕ = slots_of form in
    let m : ℕ = stamps_of form in
    let s' : slots ≡ n = s in
    let e' : k ≡ n + (32 + m) = e in
    let a : slots + 24 ≡ n + 24 = omega arith in
    let b : slots + 24 < k = omega arith in (a, b)

-- it has a word
pub word_there : (form : QueueForm) (k : ℕ) → k ≡ slots_of form + words_of form → 0 < k
word_there form k e = let n : ℕ = slots_of form in let m : ℕ = stamps_of form in let e' : k ≡ n + (32 + m) = e in let z : 0 < k = omega arith in z

pub guard_there : (form : QueueForm) (i slots k : ℕ) → slots ≡ slots_of form → k ≡ slots_of form + words_of form → i < slots → i < k
guard_there form i slots k s e h =
    let n : ℕ = slots_of form in
    let m : ℕ = stamps_of form in
    let s' : slots ≡ n = s in
    let e' : k ≡ n + (32 + m) = e in omega arith

-- the slot that was found, as it was read
head_of : {T : Type 0} → Option T → List (ℕ × Option T) → Option T
head_of d [] = d
head_of d (x ∷ xs) = x.1

pub same_found : {T : Type 0} (i : ℕ) (x y : Option T) (c l : List (ℕ × Option T)) → l ≡ (i, x) ∷ [] → l ≡ (i, y) ∷ c → y ≡ x
unfolding head_of
same_found i x y c l e f = ap (head_of x) (sym f ∙ e)

module _ {T A : Type 0} {moves : QueueForm → A → Event T → A → Type 0} {enters : QueueForm → A → Type 0} {turns : QueueForm → A → A → Type 0} {counts : QueueForm → A → A → Counter → CountStep → ℕ → Type 0} {both : A → A → A} {left : A → A} {parts : QueueForm → A → A → A → Type 0} {opened : A} {counted : ℕ} {is_history : HistoryOf T A} (laws : KeepsHistory moves enters turns counts both left parts opened counted is_history) (admits : Type 0) (form : QueueForm) where
  abbrev S : Type 0
  S = TableState T A

  abbrev M : Type 0
  M = Seated T A

  abbrev R : S → Type 0
  R = IsRuled is_history admits form

  abbrev K : S → Type 0
  K = IsKept is_history form

  -- the history, by the words of the table
  abbrev H : List (View T A) → List ℕ → List (Option T) → Type 0
  H views ws values = is_history form views (contents form ws values) (tally_in form ws)

  abbrev Unflagged : S → Type 0
  Unflagged s = admits → flag_in form s ≡ 0

  pub views_same : (vs : List (View T A)) (id : ℕ) (v w : View T A) → get_elem? vs id ≡ home.some v → slot_out w ≡ slot_out v → map slot_out (set vs id w) ≡ map slot_out vs
  views_same vs id v w at e = map-set slot_out vs id w ∙ (ap (λ (o : Option ℕ). set (map slot_out vs) id o) e ∙ set_again (map slot_out vs) id (slot_out v) (at_map slot_out vs id v at))

  -- the flag and the counts are where no other word is written
  spare_stays : (ws : List ℕ) (k z j : ℕ) → k ≢ slots_of form + j → slice_index (set ws k z) (slots_of form + j) ≡ slice_index ws (slots_of form + j)
  spare_stays ws k z j apart = get_or-set_other ws k (slots_of form + j) z 0 (λ e. apart (sym e))

  guard_apart : (i j : ℕ) → i < slots_of form → i ≢ slots_of form + j
  guard_apart i j h e = let n : ℕ = slots_of form in let h' : i < n = h in let e' : i ≡ n + j = e in absurd (omega arith)

  counts_stay : (views : List (View T A)) (c : Contents T) (ws ws' : List ℕ) → tally_in form ws' ≡ tally_in form ws
      → is_history form views c (tally_in form ws) → is_history form views c (tally_in form ws')
  counts_stay views c ws ws' e h = subst (λ (t : Tally). is_history form views c t) (sym e) h

  -- a word is written that is no count
  pub tally_stays : (ws : List ℕ) (k z : ℕ) → ((which : Counter) → k ≢ count_at form which) → tally_in form (set ws k z) ≡ tally_in form ws
  tally_stays ws k z apart = λ i. record {
    first = stays First i;
    second = stays Second i;
    third = stays Third i;
    fourth = stays Fourth i;
    fifth = stays Fifth i;
    sixth = stays Sixth i;
  }
    where
      stays : (which : Counter) → slice_index (set ws k z) (count_at form which) ≡ slice_index ws (count_at form which)
      stays which = get_or-set_other ws k (count_at form which) z 0 (λ e. apart which (sym e))

  -- a guard is written, or the flag
  guard_set : (views : List (View T A)) (ws : List ℕ) (values : List (Option T)) (i z : ℕ) → i < slots_of form → H views ws values → H views (set ws i z) values
  guard_set views ws values i z inside h =
      counts_stay views (contents form (set ws i z) values) ws (set ws i z) (tally_stays ws i z (λ which. guard_apart i (offset_of which) inside))
      (subst (λ (c : Contents T). is_history form views c (tally_in form ws)) (sym (words.guards_apart form ws values z i inside)) h)

  -- a word is written that is no guard, or one as it was, and the seat holds what it held; the flag is not lowered
  pub kept : (s : S) (id k z : ℕ) (v w : View T A) (r : R s) → get_elem? s.views id ≡ home.some v → (IsNamed id v → IsNamed id w) → w.form ≡ v.form → ListsNoMore w v → w.held ≡ v.held → v.spent ≡ false
      → ((i : ℕ) → i < length s.homes → get_or (set s.words k z) i 0 ≡ get_or s.words i 0)
      → (slice_index (set s.words k z) (flag_at form) ≡ 0 → flag_in form s ≡ 0) → (w.foreign ≡ true → slice_index (set s.words k z) (flag_at form) ≢ 0)
      → (Unflagged s → (q : K s) → H (set s.views id w) (set s.words k z) q.values)
      → R record { words = set s.words k z; homes = s.homes; views = set s.views id w }
  kept s id k z v w r at who kind over holds live guard lowered mine h = record {
    has = r.has;
    slots = r.slots;
    words = length-set s.words k z ∙ r.words;
    guards = subst (λ (vs : List (Option ℕ)). IsGuarded {T = T} record { words = set s.words k z; homes = s.homes; views = vs }) (sym (views_same s.views id v w at (ap slot_in holds)))
        (guards.keeps (guarded s) (set s.words k z) (length-set s.words k z) guard r.guards);
    seated = seats.seats_step form (flag_in form s) (slice_index (set s.words k z) (flag_at form)) s.views id v w at who kind over live (λ n e. n (lowered e)) mine r.seated;
    kept = λ zero.
        let q = r.kept (λ a. lowered (zero a)) in
        record {
          values = q.values;
          count = q.count;
          at_home = q.at_home;
          away = λ j u i x e held. ⊎_elim
              (λ (t : (j ≡ id) × (w ≡ u)). q.away id v i x at (sym holds ∙ (ap (λ (y : View T A). y.held) t.1 ∙ held)))
              (λ (t : (j ≢ id) × (get_elem? s.views j ≡ home.some u)). q.away j u i x t.1 held)
              (at_set s.views id j w u e);
          history = h (λ a. lowered (zero a)) q;
        };
  }

  -- a word is read, and the seat's view changes
  pub by_read : (s : S) (id k : ℕ) (v w : View T A) (r : R s) → get_elem? s.views id ≡ home.some v → (IsNamed id v → IsNamed id w) → w.form ≡ v.form → ListsNoMore w v → w.held ≡ v.held → v.spent ≡ false → w.foreign ≡ v.foreign
      → ((q : K s) → H (set s.views id w) s.words q.values) → R record { words = set s.words k (slice_index s.words k); homes = s.homes; views = set s.views id w }
  by_read s id k v w r at who kind over holds live strange h =
      let same : set s.words k (slice_index s.words k) ≡ s.words = set-get_or s.words k 0 in
      let flag = ap (λ (ws : List ℕ). slice_index ws (flag_at form)) same in
      kept s id k (slice_index s.words k) v w r at who kind over holds live
      (λ i h. ap (λ (ws : List ℕ). get_or ws i 0) same)
      (λ e. sym flag ∙ e) (λ is e. r.seated.admitted id v at (sym strange ∙ is) (sym flag ∙ e))
      (λ zero q. subst (λ (ws : List ℕ). H (set s.views id w) ws q.values) (sym same) (h q))

  -- what a seat's machine does is of the table's form
  pub of_form : (s : S) (id : ℕ) (v : View T A) (P : QueueForm → Type 0) → R s → get_elem? s.views id ≡ home.some v → P v.form → P form
  of_form s id v P r at m = subst P (r.seated.named id v at).1 m

  -- its machine makes an operation on the cells
  made : (s : S) (id : ℕ) (v : View T A) (a : A) (d : Deed T) (e : Contents T) (r : R s) (q : K s) → get_elem? s.views id ≡ home.some v → Does d (contents form s.words q.values) e → moves v.form v.state (does (Some d)) a
      → is_history form (set s.views id (going_on v a)) e (tally_in form s.words)
  made s id v a d e r q at done go =
      laws.more form s.views (contents form s.words q.values) e (tally_in form s.words) id v (going_on v a) d q.history at done
      (of_form s id v (λ (f : QueueForm). moves f v.state (does (Some d)) a) r at go)

  -- AN OPERATION ON A WORD, whichever: it is enough that cells with this word answer it so, and that the machine makes it
  by_word : (slots id k : ℕ) (me : M) (w : Word) (f : ℕ → ℕ) (d : ℕ → Deed T) → IsOwn form w → k ≡ slots_of form + index_of (place_of w) → me.0.spent ≡ false
      → ((c e : Contents T) → e ≡ write c w (f (read c w)) → Does (d (read c w)) c e)
      → ((n : ℕ) → (a : A) × moves me.0.form me.0.state (does (Some (d n))) a)
      → Allows R slots id me k f (λ n m. Made moves (d n) me m)
  by_word slots id k me w f d own is live effect fits s r wide at small =
      let n : ℕ = slice_index s.words k in
      let b = fits n in
      let v = going_on me.0 b.0 in
      let apart = words.behind_guards form w k own is in
      let same = spare_stays s.words k (f n) 24 (apart.1 24 (inl refl)) in (
        v,
        keeps,
        tt,
        kept s id k (f n) me.0 v r at (λ z. z) refl (inl refl) refl live
            (λ i h. get_or-set_other s.words k i (f n) 0 (λ q. let m : ℕ = slots_of form in let l : ℕ = length s.homes in let far : m ≤ k = apart.0 in let same : l ≡ m = r.slots in let h' : i < l = h in let q' : i ≡ k = q in absurd (omega arith)))
            (λ e. sym same ∙ e) (λ strange e. r.seated.admitted id me.0 at strange (sym same ∙ e))
            (λ zero q.
            let c = contents form s.words q.values in
            let there : read c w ≡ n = words.found form s.words q.values w own ∙ ap (slice_index s.words) (sym is) in
            let e : contents form (set s.words k (f n)) q.values ≡ write c w (f (read c w)) =
            subst (λ (j : ℕ). contents form (set s.words j (f n)) q.values ≡ write c w (f n)) (sym is) (words.written form s.words q.values (f n) w own r.words)
            ∙ ap (λ (x : ℕ). write c w (f x)) (sym there) in
            let done : Does (d n) c (contents form (set s.words k (f n)) q.values) = subst (λ (x : ℕ). Does (d x) c (contents form (set s.words k (f n)) q.values)) there (effect c _ e) in
            counts_stay (set s.views id v) (contents form (set s.words k (f n)) q.values) s.words (set s.words k (f n)) (tally_stays s.words k (f n) (λ which. apart.1 (offset_of which) (count_spare which)))
            (made s id me.0 b.0 (d n) _ r q at done b.1)),
        (b.1, refl),
      )

  -- an operation that leaves all cells as they are, in a load
  pub happens_so : (slots id k : ℕ) (me : M) (d : Deed T) → me.0.spent ≡ false → LeavesAll form d → ((a : A) × moves me.0.form me.0.state (does (Some d)) a) → Allows R slots id me k (λ n. n) (rule.makes moves d (step slots k 0 0 home.none) me)
  happens_so slots id k me d live quiet fits s r wide at small = (
    going_on me.0 fits.0,
    keeps,
    tt,
    by_read s id k me.0 (going_on me.0 fits.0) r at (λ z. z) refl (inl refl) refl live refl
        (λ q. let c = contents form s.words q.values in made s id me.0 fits.0 d c r q at (quiet c (words.sized form s.words q.values r.words q.count)) fits.1),
    (fits.1, refl),
  )

  -- nothing is done, and the seat stays as it was
  pub missed : (s : S) (id i : ℕ) (me : M) → R s → get_elem? s.views id ≡ home.some me.0 → R (stepped s i (slice_index s.words i) id me.1 me.0 keeps)
  missed s id i me r at =
      subst (λ (ws : List ℕ). R record { words = ws; homes = s.homes; views = set s.views id me.0 }) (sym (set-get_or s.words i 0))
      (subst (λ (vs : List (View T A)). R record { words = s.words; homes = s.homes; views = vs }) (sym (set_again s.views id me.0 at)) r)

  -- the flag is read, and with it the history
  pub looks_so : (slots id k : ℕ) (me : M) → k ≡ flag_at form → me.0.spent ≡ false → me.0.nameless ≡ false → Allows R slots id me k (λ n. n) (rule.looks is_history admits (step slots k 0 0 home.none) me)
  looks_so slots id k me is live named s r wide at small =
      let n = r.seated.named id me.0 at in
      let mine : get_elem? s.views me.0.who ≡ home.some me.0 = ap (get_elem? s.views) (n.0 named) ∙ at in
      let stood = r.seated.joined.stood id me.0 at in (
        me.0,
        keeps,
        tt,
        missed s id k me r at,
        (
          refl,
          λ zero.
              let q = r.kept (λ a. ap (slice_index s.words) (sym is) ∙ zero a) in (
                s.views,
                contents form s.words q.values,
                tally_in form s.words,
                subst (λ (f : QueueForm). is_history f s.views (contents form s.words q.values) (tally_in form s.words)) (sym n.1) q.history,
                mine,
                subst (λ (f : QueueForm). HasCells f) (sym n.1) r.has,
                stood,
                (seats.unlisted s.views me.0.who me.0 mine live me.0.over stood, r.seated.joined.once id me.0 at),
              ),
        ),
      )

  -- ---- the operations on a word

  module _ (slots id k : ℕ) (me : M) (w : Word) (fit : slots ≡ slots_of form) (own : IsOwn form w) (is : k ≡ slots_of form + index_of (place_of w)) (live : me.0.spent ≡ false) where
    abbrev Fits : (ℕ → Deed T) → Type 0
    Fits d = (n : ℕ) → (a : A) × moves me.0.form me.0.state (does (Some (d n))) a

    abbrev OnWord : (ℕ → ℕ) → (Word → ℕ → Deed T) → Type 0
    OnWord f d = Allows R slots id me k f (λ n m. Made moves (d (own_word (k - slots)) n) me m)

    on : (f : ℕ → ℕ) (d : Word → ℕ → Deed T) → ((c e : Contents T) → e ≡ write c w (f (read c w)) → Does (d w (read c w)) c e) → Fits (d w) → OnWord f d
    on f d effect fits =
        subst (λ (u : Word). Allows R slots id me k f (λ n m. Made moves (d u n) me m)) (sym (words.named_behind form slots k w fit is own))
        (by_word slots id k me w f (d w) own is live effect fits)

    pub loads_so : Fits (deed.loaded w) → Allows R slots id me k (λ n. n) (rule.loads moves (step slots k 0 0 home.none) me)
    loads_so fits = on (λ n. n) deed.loaded (λ c e h. (refl, h ∙ words.write_same form w own c)) fits

    pub stores_so : (x : ℕ) → ((a : A) × moves me.0.form me.0.state (does (Some (deed.stored w x))) a) → Allows R slots id me k (λ _. x) (λ _. rule.stores moves (step slots k x 0 home.none) me x)
    stores_so x fits = on (λ _. x) (λ u n. deed.stored u x) (λ c e h. h) (λ n. fits)

    pub adds_so : (x : ℕ) → Fits (deed.added w x) → Allows R slots id me k (λ n. (n + x) % 2 ^ 64) (rule.adds moves (step slots k x 0 home.none) me)
    adds_so x fits = on (λ n. (n + x) % 2 ^ 64) (λ u n. deed.added u x n) (λ c e h. (refl, h)) fits

    pub sets_so : (x : ℕ) → Fits (deed.bits_set w x) → Allows R slots id me k (λ n. bit_or n x) (rule.sets_bits moves (step slots k x 0 home.none) me)
    sets_so x fits = on (λ n. bit_or n x) (λ u n. deed.bits_set u x n) (λ c e h. (refl, h)) fits

    pub keeps_so : (x : ℕ) → Fits (deed.bits_kept w x) → Allows R slots id me k (λ n. bit_and n x) (rule.keeps_bits moves (step slots k x 0 home.none) me)
    keeps_so x fits = on (λ n. bit_and n x) (λ u n. deed.bits_kept u x n) (λ c e h. (refl, h)) fits

    abbrev Answers : ℕ → ℕ → Contents T → Contents T → Bool → Type 0
    Answers old new c e b = e ≡ write c w (either b new (read c w)) → MatchResult (if b then Ok (read c w) else Err (read c w)) (λ v. (v ≡ old) × (read c w ≡ old) × (e ≡ write c w new)) (λ v. (v ≡ read c w) × (¬ (v ≡ old)) × (e ≡ c))

    exchange_does : (old new : ℕ) (c e : Contents T) → e ≡ write c w (either (eqb (read c w) old) new (read c w)) → Does (deed.exchanged w old new (answer (read c w) old)) c e
    exchange_does old new c e = dite (ℕ_discrete (read c w) old)
        (λ q. subst (Answers old new c e) (sym (eq-eqb (read c w) old q)) (λ h. (q, q, h)))
        (λ ne. subst (Answers old new c e) (sym (ne_eqb (read c w) old ne)) (λ h. (refl, ne, h ∙ words.write_same form w own c)))

    pub exchanges_so : (old new : ℕ) → Fits (λ n. deed.exchanged w old new (answer n old)) → Allows R slots id me k (λ n. either (eqb n old) new n) (rule.exchanges moves (step slots k old new home.none) me)
    exchanges_so old new fits = on (λ n. either (eqb n old) new n) (λ u n. deed.exchanged u old new (answer n old)) (exchange_does old new) fits

  -- ---- a slot

  abbrev Goes : S → ℕ → ℕ → M → (ℕ → M → Type 0) → ℕ → Type 0
  Goes s id i me tells z =
      (w : View T A) × (a : Act (Option T)) × Valid s.homes me.1 a × R (stepped s i z id me.1 w a) × tells (slice_index s.words i) (w, carried_after me.1 a)

  -- a guard is won by a seat whose view then is this: the history, if there is one, has the slot at y from now on
  won : (s : S) (id i : ℕ) (me : M) (w : View T A) (x y : Option T) (r : R s) → i < slots_of form → get_elem? s.views id ≡ home.some me.0 → me.0.held ≡ None → me.0.spent ≡ false → slice_index s.words i ≡ 0
      → (IsNamed id me.0 → IsNamed id w) → w.form ≡ me.0.form → ListsNoMore w me.0 → w.foreign ≡ me.0.foreign → w.held ≡ Some (i, y)
      → (Unflagged s → (q : K s) → H (set s.views id w) s.words (set q.values i y))
      → R (stepped s i 1 id me.1 w (takes i x))
  won s id i me w x y r inside at idle live free who kind over strange holds told =
      let in_homes : i < length s.homes = subst (λ (m : ℕ). i < m) (sym r.slots) inside in
      let out : slot_out me.0 ≡ None = ap slot_in idle in
      let idle_at : get_elem? (map slot_out s.views) id ≡ home.some None = at_map slot_out s.views id me.0 at ∙ ap (λ (o : Option ℕ). home.some o) out in
      let nobody = (guards.is_free (guarded s) i in_homes free r.guards).2 in
      let same = spare_stays s.words i 1 24 (guard_apart i 24 inside) in
      record {
        has = r.has;
        slots = length-set s.homes i home.none ∙ r.slots;
        words = length-set s.words i 1 ∙ r.words;
        guards = subst (λ (vs : List (Option ℕ)). IsGuarded {T = T} record { words = set s.words i 1; homes = set s.homes i home.none; views = vs })
            (ap (λ (o : Option ℕ). set (map slot_out s.views) id o) (sym (ap slot_in holds)) ∙ sym (map-set slot_out s.views id w))
            (guards.wins (guarded s) id i in_homes idle_at free r.guards);
        seated = seats.seats_step form (flag_in form s) (slice_index (set s.words i 1) (flag_at form)) s.views id me.0 w at who kind over live (λ n e. n (sym same ∙ e)) (λ is e. r.seated.admitted id me.0 at (sym strange ∙ is) (sym same ∙ e)) r.seated;
        kept = λ zero.
            let clear : Unflagged s = (λ a. sym same ∙ zero a) in
            let q = r.kept clear in
            record {
              values = set q.values i y;
              count = length-set q.values i y ∙ q.count;
              at_home = λ j z f. ⊎_elim
                  (λ (t : (j ≡ i) × (home.none ≡ home.some z)). absurd (none_there z t.1))
                  (λ (t : (j ≢ i) × (get_elem? s.homes j ≡ home.some (home.some z))). get_or-set_other q.values i j y None t.0 ∙ q.at_home j z t.1)
                  (at_set s.homes i j home.none (home.some z) f);
              away = λ j v l z f held. ⊎_elim
                  (λ (t : (j ≡ id) × (w ≡ v)).
                  let there : (i, y) ≡ (l, z) = same_some (i, y) (l, z) (sym holds ∙ (ap (λ (u : View T A). u.held) t.1 ∙ held)) in
                  subst (λ (k : ℕ). slice_index_or (set q.values i y) k None ≡ z) (ap (λ (p : ℕ × Option T). p.0) there)
                  (get_or-set_same q.values i y None (subst (λ (m : ℕ). i < m) (sym q.count) inside) ∙ ap (λ (p : ℕ × Option T). p.1) there))
                  (λ (t : (j ≢ id) × (get_elem? s.views j ≡ home.some v)).
                  let other : l ≢ i = (λ k. nobody j (at_map slot_out s.views j v t.1 ∙ ap (λ (o : Option ℕ). home.some o) (ap slot_in held ∙ ap (λ (m : ℕ). Some m) k))) in
                  get_or-set_other q.values i l y None other ∙ q.away j v l z t.1 held)
                  (at_set s.views id j w v f);
              history = guard_set (set s.views id w) s.words (set q.values i y) i 1 inside (told clear q);
            };
      }

  -- its machine does this to the slot
  won_by : (s : S) (id i : ℕ) (me : M) (x y : Option T) (d : Deed T) (a : A) (r : R s) → i < slots_of form → get_elem? s.views id ≡ home.some me.0 → me.0.held ≡ None → me.0.spent ≡ false → slice_index s.words i ≡ 0
      → ((q : K s) → Does d (contents form s.words q.values) (contents form s.words (set q.values i y))) → moves me.0.form me.0.state (does (Some d)) a
      → R (stepped s i 1 id me.1 (holding (going_on me.0 a) (Some (i, y))) (takes i x))
  won_by s id i me x y d a r inside at idle live free done go =
      let w = holding (going_on me.0 a) (Some (i, y)) in
      won s id i me w x y r inside at idle live free (λ z. z) refl (inl refl) refl refl
      (λ zero q.
      laws.more form s.views (contents form s.words q.values) (contents form s.words (set q.values i y)) (tally_in form s.words) id me.0 w d q.history at (done q)
      (of_form s id me.0 (λ (f : QueueForm). moves f me.0.state (does (Some d)) a) r at go))

  pub takes_so : (slots id i : ℕ) (me : M) → slots ≡ slots_of form → i < slots → me.0.held ≡ None → me.0.spent ≡ false → ((o : Option T) → (a : A) × moves me.0.form me.0.state (does (Some (deed.did_take (At i) o))) a)
      → Allows R slots id me i (λ y. either (eqb y 0) 1 y) (rule.takes moves (step slots i 0 1 home.none) me)
  takes_so slots id i me fit near idle live fits s r wide at small =
      lists.exchanged (slice_index s.words i) 0 1 (Goes s id i me (rule.takes moves (step slots i 0 1 home.none) me))
      (λ hit.
      let inside : i < slots_of form = subst (λ (m : ℕ). i < m) fit near in
      let f = (guards.is_free (guarded s) i (subst (λ (m : ℕ). i < m) (sym r.slots) inside) hit r.guards).1 in
      let x : Option T = f.0 in
      let b = fits x in (
        holding (going_on me.0 b.0) (Some (i, None)),
        takes i x,
        f.1,
        won_by s id i me x None (deed.did_take (At i) x) b.0 r inside at idle live hit (λ q. (sym (q.at_home i x f.1), refl)) b.1,
        ((λ _. (x, (b.1, refl))), λ miss. absurd (miss hit)),
      ))
      (λ miss. (me.0, keeps, tt, missed s id i me r at, ((λ hit. absurd (miss hit)), λ _. refl)))

  vacant : (values : List (Option T)) (i : ℕ) (x : Option T) → i < length values → slice_index_or values i None ≡ x → is_vacant (slice_get values i) ≡ is_vacant (Some x)
  vacant values i x inside e = ap is_vacant (get_is values i None inside ∙ ap (λ (o : Option T). Some o) e)

  pub puts_so : (slots id i : ℕ) (me : M) (v : T) → slots ≡ slots_of form → i < slots → me.0.held ≡ None → me.0.spent ≡ false → ((o : Result Unit T) → (a : A) × moves me.0.form me.0.state (does (Some (deed.did_put (At i) v o))) a)
      → Allows R slots id me i (λ y. either (eqb y 0) 1 y) (rule.puts moves (step slots i 0 1 (home.some (Some v))) me)
  puts_so slots id i me v fit near idle live fits s r wide at small =
      lists.exchanged (slice_index s.words i) 0 1 (Goes s id i me (rule.puts moves (step slots i 0 1 (home.some (Some v))) me))
      (λ hit.
      let inside : i < slots_of form = subst (λ (m : ℕ). i < m) fit near in
      let f = (guards.is_free (guarded s) i (subst (λ (m : ℕ). i < m) (sym r.slots) inside) hit r.guards).1 in
      brought s r at inside hit f.0 f.1)
      (λ miss. (me.0, keeps, tt, missed s id i me r at, ((λ hit. absurd (miss hit)), λ _. refl)))
    where
      brought : (s : S) (r : R s) → get_elem? s.views id ≡ home.some me.0 → i < slots_of form → slice_index s.words i ≡ 0 → (x : Option T) → get_elem? s.homes i ≡ home.some (home.some x)
          → Goes s id i me (rule.puts moves (step slots i 0 1 (home.some (Some v))) me) 1
      brought s r at inside hit None there =
          let b = fits (Ok tt) in (
            holding (going_on me.0 b.0) (Some (i, Some v)),
            takes i None,
            there,
            won_by s id i me None (Some v) (deed.did_put (At i) v (Ok tt)) b.0 r inside at idle live hit
                (λ q. (vacant q.values i None (subst (λ (m : ℕ). i < m) (sym q.count) inside) (q.at_home i None there), refl)) b.1,
            ((λ _. (None, (b.1, refl))), λ miss. absurd (miss hit)),
          )
      brought s r at inside hit (Some y) there =
          let b = fits (Err v) in (
            holding (going_on me.0 b.0) (Some (i, Some y)),
            takes i (Some y),
            there,
            won_by s id i me (Some y) (Some y) (deed.did_put (At i) v (Err v)) b.0 r inside at idle live hit
                (λ q.
                let has : slice_index_or q.values i None ≡ Some y = q.at_home i (Some y) there in
                let same : set q.values i (Some y) ≡ q.values = subst (λ (o : Option T). set q.values i o ≡ q.values) has (set-get_or q.values i None) in
                (vacant q.values i (Some y) (subst (λ (m : ℕ). i < m) (sym q.count) inside) has, refl, ap (contents form s.words) same)) b.1,
            ((λ _. (Some y, (b.1, refl))), λ miss. absurd (miss hit)),
          )

  -- the slot goes home, where the history, if there is one, has what lies in it then
  returned : (slots id i : ℕ) (me : M) (y : Option T) (c : List (ℕ × Option T)) → slots ≡ slots_of form → i < slots → me.1 ≡ (i, y) ∷ c → slot_out me.0 ≡ Some i → me.0.spent ≡ false
      → ((s : S) → get_elem? s.views id ≡ home.some me.0 → (r : R s) → Unflagged s → (q : K s) → slice_index_or q.values i None ≡ y)
      → Allows R slots id me i (λ _. 0) (λ _. rule.gives (step slots i 0 0 home.none) me 0)
  returned slots id i me y c fit near has out live lies s r wide at small =
      let w = holding me.0 None in
      let inside : i < slots_of form = subst (λ (m : ℕ). i < m) fit near in
      let in_homes : i < length s.homes = subst (λ (m : ℕ). i < m) (sym r.slots) inside in
      let mine : get_elem? (map slot_out s.views) id ≡ home.some (Some i) = at_map slot_out s.views id me.0 at ∙ ap (λ (o : Option ℕ). home.some o) out in
      let same = spare_stays s.words i 0 24 (guard_apart i 24 inside) in
      let kept_so : R record { words = set s.words i 0; homes = set s.homes i (home.some y); views = set s.views id w } =
      record {
        has = r.has;
        slots = length-set s.homes i (home.some y) ∙ r.slots;
        words = length-set s.words i 0 ∙ r.words;
        guards = subst (λ (vs : List (Option ℕ)). IsGuarded {T = T} record { words = set s.words i 0; homes = set s.homes i (home.some y); views = vs }) (sym (map-set slot_out s.views id w))
            (guards.gives (guarded s) id i y in_homes mine r.guards);
        seated = seats.seats_step form (flag_in form s) (slice_index (set s.words i 0) (flag_at form)) s.views id me.0 w at (λ z. z) refl (inl refl) live (λ n e. n (sym same ∙ e)) (λ is e. r.seated.admitted id me.0 at is (sym same ∙ e)) r.seated;
        kept = λ zero.
            let clear : Unflagged s = (λ a. sym same ∙ zero a) in
            let q = r.kept clear in
            let there : slice_index_or q.values i None ≡ y = lies s at r clear q in
            record {
              values = q.values;
              count = q.count;
              at_home = λ j z f. ⊎_elim
                  (λ (t : (j ≡ i) × (home.some y ≡ home.some z)). ap (λ (k : ℕ). slice_index_or q.values k None) t.0 ∙ (there ∙ some-injective y z t.1))
                  (λ (t : (j ≢ i) × (get_elem? s.homes j ≡ home.some (home.some z))). q.at_home j z t.1)
                  (at_set s.homes i j (home.some y) (home.some z) f);
              away = λ j v l z f held. ⊎_elim
                  (λ (t : (j ≡ id) × (w ≡ v)). absurd (none_some (l, z) (ap (λ (u : View T A). u.held) t.1 ∙ held)))
                  (λ (t : (j ≢ id) × (get_elem? s.views j ≡ home.some v)). q.away j v l z t.1 held)
                  (at_set s.views id j w v f);
              history = guard_set (set s.views id w) s.words q.values i 0 inside
                  (laws.same form s.views (contents form s.words q.values) (tally_in form s.words) id me.0 w q.history at refl);
            };
      } in (
        w,
        gives,
        tt,
        subst (λ (hs : List (home.Option (Option T))). R record { words = set s.words i 0; homes = hs; views = set s.views id w }) (ap (put_back s.homes) (sym has)) kept_so,
        refl,
      )

  pub gives_so : (slots id i : ℕ) (me : M) (y : Option T) (c : List (ℕ × Option T)) → slots ≡ slots_of form → i < slots → me.1 ≡ (i, y) ∷ c → me.0.held ≡ Some (i, y) → me.0.spent ≡ false
      → Allows R slots id me i (λ _. 0) (λ _. rule.gives (step slots i 0 0 home.none) me 0)
  gives_so slots id i me y c fit near has holds live = returned slots id i me y c fit near has (ap slot_in holds) live (λ s at r zero q. q.away id me.0 i y at holds)

  -- ---- foreign calls

  pub count_no_flag : (which : Counter) → 24 ≢ offset_of which
  count_no_flag First e = absurd (omega arith)
  count_no_flag Second e = absurd (omega arith)
  count_no_flag Third e = absurd (omega arith)
  count_no_flag Fourth e = absurd (omega arith)
  count_no_flag Fifth e = absurd (omega arith)
  count_no_flag Sixth e = absurd (omega arith)

  module _ (may : admits) where
    -- one is admitted
    pub turns_so : (slots id k : ℕ) (me : M) → k ≡ flag_at form → me.0.spent ≡ false → Allows R slots id me k (λ _. 1) (λ _. rule.turns_foreign (step slots k 1 0 home.none) me 1)
    turns_so slots id k me is live s r wide at small =
        let w : View T A = record me.0 { foreign = true } in
        let n : ℕ = slots_of form in
        let m : ℕ = stamps_of form in
        let l : ℕ = length s.words in
        let is' : k ≡ n + 24 = is in
        let long : l ≡ n + (32 + m) = r.words in
        let inside : k < l = omega arith in
        let one : slice_index (set s.words k 1) (flag_at form) ≡ 1 = ap (slice_index (set s.words k 1)) (sym is) ∙ get_or-set_same s.words k 1 0 inside in
        let never : slice_index (set s.words k 1) (flag_at form) ≢ 0 = (λ e. let x : ℕ = slice_index (set s.words k 1) (flag_at form) in let o : x ≡ 1 = one in let e' : x ≡ 0 = e in absurd (omega arith)) in (
          w,
          keeps,
          tt,
          kept s id k 1 me.0 w r at (λ z. z) refl (inl refl) refl live
              (λ i h. get_or-set_other s.words k i 1 0 (λ q. let p : ℕ = length s.homes in let e : p ≡ n = r.slots in let h' : i < p = h in let q' : i ≡ k = q in absurd (omega arith)))
              (λ e. absurd (never e)) (λ _ e. never e)
              (λ zero q.
              let c = contents form s.words q.values in
              let off : (j : ℕ) → 24 ≢ j → k ≢ slots_of form + j = (λ j ne e. ne (let e' : k ≡ n + j = e in omega arith)) in
              counts_stay (set s.views id w) (contents form (set s.words k 1) q.values) s.words (set s.words k 1) (tally_stays s.words k 1 (λ which. off (offset_of which) (count_no_flag which)))
              (subst (λ (d : Contents T). is_history form (set s.views id w) d (tally_in form s.words)) (sym (words.spare_apart form s.words q.values 1 24 k (inl refl) is))
              (laws.same form s.views c (tally_in form s.words) id me.0 w q.history at refl))),
          refl,
        )

    module _ (slots id : ℕ) (me : M) (strange : me.0.foreign ≡ true) (live : me.0.spent ≡ false) where
      -- the history is nobody's concern any more
      over : (s : S) → R s → get_elem? s.views id ≡ home.some me.0 → Unflagged s → ⊥
      over s r at none = r.seated.admitted id me.0 at strange (none may)

      -- any operation on a word of the queue
      pub passes_so : (k : ℕ) (f : ℕ → ℕ) → slots_of form ≤ k → ((j : ℕ) → IsSpare j → k ≢ slots_of form + j) → Allows R slots id me k f (λ _ m. m ≡ me)
      passes_so k f behind apart s r wide at small =
          let z : ℕ = f (slice_index s.words k) in
          let same = spare_stays s.words k z 24 (apart 24 (inl refl)) in (
            me.0,
            keeps,
            tt,
            kept s id k z me.0 me.0 r at (λ z. z) refl (inl refl) refl live
                (λ i h. get_or-set_other s.words k i z 0 (λ q. let n : ℕ = slots_of form in let l : ℕ = length s.homes in let e : l ≡ n = r.slots in let h' : i < l = h in let b : n ≤ k = behind in let q' : i ≡ k = q in absurd (omega arith)))
                (λ e. sym same ∙ e) (λ _ e. over s r at (λ _. sym same ∙ e)) (λ zero q. absurd (over s r at zero)),
            refl,
          )

      -- a slot is won
      pub wins_so : (i : ℕ) → slots ≡ slots_of form → i < slots → me.0.held ≡ None → Allows R slots id me i (λ y. either (eqb y 0) 1 y) (rule.wins (step slots i 0 1 home.none) me)
      wins_so i fit near idle s r wide at small =
          lists.exchanged (slice_index s.words i) 0 1 (Goes s id i me (rule.wins (step slots i 0 1 home.none) me))
          (λ hit.
          let inside : i < slots_of form = subst (λ (m : ℕ). i < m) fit near in
          let f = (guards.is_free (guarded s) i (subst (λ (m : ℕ). i < m) (sym r.slots) inside) hit r.guards).1 in
          let x : Option T = f.0 in (
            holding me.0 (Some (i, x)),
            takes i x,
            f.1,
            won s id i me (holding me.0 (Some (i, x))) x x r inside at idle live hit (λ z. z) refl (inl refl) refl refl (λ zero q. absurd (over s r at zero)),
            ((λ _. (x, refl)), λ miss. absurd (miss hit)),
          ))
          (λ miss. (me.0, keeps, tt, missed s id i me r at, ((λ hit. absurd (miss hit)), λ _. refl)))

      -- and given back
      pub returns_so : (i : ℕ) (y : Option T) (c : List (ℕ × Option T)) → slots ≡ slots_of form → i < slots → me.1 ≡ (i, y) ∷ c → slot_out me.0 ≡ Some i → Allows R slots id me i (λ _. 0) (λ _. rule.gives (step slots i 0 0 home.none) me 0)
      returns_so i y c fit near has out = returned slots id i me y c fit near has out live (λ s at r zero q. absurd (over s r at zero))

  -- ---- what a put has in hand

  module _ (i : ℕ) (v : T) where
    abbrev Given : Option T → M → M → Type 0
    Given x m m' = rule.PutOn moves i v x m m'

    pub put_carries : (x : Option T) (m m' : M) → Given x m m' → m'.1 ≡ (i, x) ∷ m.1
    put_carries None m m' h = ap (λ (n : M). n.1) h.1
    put_carries (Some y) m m' h = ap (λ (n : M). n.1) h.1

    pub put_live : (x : Option T) (m m' : M) → Given x m m' → m'.0.spent ≡ m.0.spent
    put_live None m m' h = ap (λ (n : M). n.0.spent) h.1
    put_live (Some y) m m' h = ap (λ (n : M). n.0.spent) h.1

    pub put_in : (x : Option T) (m m' : M) → Given x m m' → x ≡ None → (m'.0.held ≡ Some (i, Some v)) × moves m.0.form m.0.state (does (Some (deed.did_put (At i) v (Ok tt)))) m'.0.state
    put_in None m m' h e = (ap (λ (n : M). n.0.held) h.1, h.0)
    put_in (Some y) m m' h e = absurd (none_some y (sym e))

    pub put_refused : (y : T) (x : Option T) (m m' : M) → Given x m m' → x ≡ Some y → (m'.0.held ≡ Some (i, Some y)) × moves m.0.form m.0.state (does (Some (deed.did_put (At i) v (Err v)))) m'.0.state
    put_refused y None m m' h e = absurd (none_some y e)
    put_refused y (Some z) m m' h e = (ap (λ (n : M). n.0.held) h.1 ∙ ap (λ (o : Option T). Some (i, o)) e, h.0)

  -- ---- what an operation on a word has told

  pub told : (slots k : ℕ) (w : Word) → slots ≡ slots_of form → k ≡ slots_of form + index_of (place_of w) → IsOwn form w → (d : Word → Deed T) (m m' : M) → Made moves (d (own_word (k - slots))) m m'
      → moves m.0.form m.0.state (does (Some (d w))) m'.0.state
  told slots k w fit is own d m m' h = subst (λ (u : Word). moves m.0.form m.0.state (does (Some (d u))) m'.0.state) (words.named_behind form slots k w fit is own) h.0
