-- The laws of a machine's history, which the rule of the table asks for: a new table has one, and each kind of step keeps it. They speak
-- of views, cells and counts, and of no table.
use Rattle.std.specs.Prelude.{◌≡◌, ◌≢◌, ℕ, ◌+◌, ◌-◌, ◌<◌, ◌%◌, ◌^◌, ◌==◌, List, [], ◌∷◌, ◌++◌, slice_set, Some, if◌then◌else◌}
use mathlib.Core.Option.{some}
use lib.ListN.{get_elem?}
use Rattle.concurrent_queue.specs.Bridge.{Event, does, HasCells}
use Rattle.concurrent_queue.specs.Contents.{Contents}
use Rattle.concurrent_queue.specs.Deeds.{Deed}
use Rattle.concurrent_queue.specs.Effects.{Does}
use Rattle.concurrent_queue.specs.Made.{new_cells}
use Rattle.concurrent_queue.specs.declared.cells.QueueForm.{QueueForm}
use Rattle.concurrent_queue.specs.declared.history.rule.Counter.{Counter}
use Rattle.concurrent_queue.specs.declared.history.rule.Counter.TheVariants.{First, Second, Third, Fourth, Fifth, Sixth}
use Rattle.concurrent_queue.specs.declared.history.rule.CountStep.{CountStep}
use Rattle.concurrent_queue.specs.declared.history.rule.CountStep.TheVariants.{Read, Lower, Raise, Set}
use Rattle.concurrent_queue.specs.declared.history.rule.View.{View}

-- what an operation leaves in a counting word that held this number
abbrev pub counted_after : CountStep → ℕ → ℕ
counted_after Read n = n
counted_after Lower n = (n + (2 ^ 64 - 1)) % 2 ^ 64
counted_after (Raise k) n = if n == k then k + 1 else n
counted_after (Set k) n = k

-- what the counting words hold
pub record Tally : Type 0 where
  pub first : ℕ
  pub second : ℕ
  pub third : ℕ
  pub fourth : ℕ
  pub fifth : ℕ
  pub sixth : ℕ

abbrev pub count_of : Counter → Tally → ℕ
count_of First t = t.first
count_of Second t = t.second
count_of Third t = t.third
count_of Fourth t = t.fourth
count_of Fifth t = t.fifth
count_of Sixth t = t.sixth

abbrev pub with_count : Counter → ℕ → Tally → Tally
with_count First n t = record t { first = n }
with_count Second n t = record t { second = n }
with_count Third n t = record t { third = n }
with_count Fourth n t = record t { fourth = n }
with_count Fifth n t = record t { fifth = n }
with_count Sixth n t = record t { sixth = n }

-- the first two hold the same, and the others 0
abbrev pub opening_tally : ℕ → Tally
opening_tally n = record { first = n; second = n; third = 0; fourth = 0; fifth = 0; sixth = 0 }

-- what is said of all views, and of what the cells and the counting words hold
abbrev pub HistoryOf : Type 0 → Type 0 → Type 1
HistoryOf T A = QueueForm → List (View T A) → Contents T → Tally → Type 0

module _ {T A : Type 0} (moves : QueueForm → A → Event T → A → Type 0) (enters : QueueForm → A → Type 0) (turns : QueueForm → A → A → Type 0) (counts : QueueForm → A → A → Counter → CountStep → ℕ → Type 0) (both : A → A → A) (left : A → A) (parts : QueueForm → A → A → A → Type 0) (opened : A) (counted : ℕ) (history : HistoryOf T A) where
  pub record KeepsHistory : Type 0 where
    -- a new table has one, with one view
    pub opens : (form : QueueForm) (v : View T A) → HasCells form → v.state ≡ opened → history form (v ∷ []) (new_cells form) (opening_tally counted)
    -- a view changes, and not its party's state
    pub same : (form : QueueForm) (views : List (View T A)) (c : Contents T) (t : Tally) (p : ℕ) (v w : View T A)
        → history form views c t → get_elem? views p ≡ some v → w.state ≡ v.state → history form (slice_set views p w) c t
    -- a new party comes
    pub arrives : (form : QueueForm) (views : List (View T A)) (c : Contents T) (t : Tally) (w : View T A)
        → history form views c t → enters form w.state → history form (views ++ w ∷ []) c t
    -- an operation on a cell
    pub more : (form : QueueForm) (views : List (View T A)) (c d : Contents T) (t : Tally) (p : ℕ) (v w : View T A) (o : Deed T)
        → history form views c t → get_elem? views p ≡ some v → Does o c d → moves form v.state (does (Some o)) w.state → history form (slice_set views p w) d t
    -- a step that touches nothing
    pub turned : (form : QueueForm) (views : List (View T A)) (c : Contents T) (t : Tally) (p : ℕ) (v w : View T A)
        → history form views c t → get_elem? views p ≡ some v → turns form v.state w.state → history form (slice_set views p w) c t
    -- an operation on a count
    pub counts_on : (form : QueueForm) (views : List (View T A)) (c : Contents T) (t : Tally) (p : ℕ) (v w : View T A) (which : Counter) (op : CountStep)
        → history form views c t → get_elem? views p ≡ some v → counts form v.state w.state which op (count_of which t) → count_of which t < 2 ^ 64
        → history form (slice_set views p w) c (with_count which (counted_after op (count_of which t)) t)
    -- a party takes in what another has
    pub joined : (form : QueueForm) (views : List (View T A)) (c : Contents T) (t : Tally) (p q : ℕ) (v w v' w' : View T A)
        → history form views c t → get_elem? views p ≡ some v → get_elem? views q ≡ some w → q ≢ p → v'.state ≡ both v.state w.state → w'.state ≡ left w.state
        → history form (slice_set (slice_set views p v') q w') c t
    -- some of what a party has goes to a new one
    pub parted : (form : QueueForm) (views : List (View T A)) (c : Contents T) (t : Tally) (p : ℕ) (v v' w : View T A)
        → history form views c t → get_elem? views p ≡ some v → parts form v.state v'.state w.state
        → history form (slice_set views p v' ++ w ∷ []) c t
