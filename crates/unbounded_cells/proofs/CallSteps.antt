-- Between what a call's operation requires and ensures, and the lemmas on steps of its seat.
use Rattle.std.proofs.Common.{◌≡◌, ◌⊎◌, inl, inr, ℕ, ◌+◌, ◌<◌, ◌≤◌, ◌%◌, ◌^◌, ◌==◌, Bool, true, false, List, refl, sym, ap, ◌∙◌, subst}
use Rattle.std.specs.Int.{bit_at}
use Rattle.std.specs.Prelude.{Option, None, Some, Ok, Err, Result, MatchBool, bit_and, bit_or}
use Rattle.growing_table.specs.State.{Me, me, Spot, own, within, count, step, Allows}
use prog.Atomic.{either}
use Rattle.concurrent_queue.specs.Bridge.{Event, does}
use Rattle.concurrent_queue.specs.Contents.{Contents}
use Rattle.concurrent_queue.specs.Deeds.{Deed, loaded, stored, exchanged, added, bits_set, bits_kept, did_put, did_take}
use Rattle.concurrent_queue.specs.declared.cells.QueueForm.{QueueForm}
use Rattle.concurrent_queue.specs.declared.cells.QueueForm.TheVariants.{Unbounded}
use Rattle.concurrent_queue.specs.declared.cells.Slot.{Slot}
use Rattle.concurrent_queue.specs.declared.cells.Slot.TheVariants.{In}
use Rattle.concurrent_queue.specs.declared.cells.Word.{Word}
use Rattle.concurrent_queue.specs.declared.cells.Word.TheVariants as word
use Rattle.concurrent_queue.specs.declared.history.rule.Counter.{Counter}
use Rattle.concurrent_queue.specs.declared.history.rule.CountStep.{CountStep}
use Rattle.concurrent_queue.specs.declared.history.rule.View.{View}
use Rattle.concurrent_queue.specs.history.Keeps.{HistoryOf, KeepsHistory, Tally}
use Rattle.concurrent_queue.specs.history.OnCells.{IsRefused}
use Rattle.concurrent_queue.specs.history.Shared.{answer}
use Rattle.unbounded_cells.specs.Laws.{deed_block, word_is_no_flag, KeepsBlocks}
use Rattle.unbounded_cells.specs.Rule.{TableState, IsRuled}
use Rattle.unbounded_cells.specs.Slots.{holds, Won, TakesAt, PutOn, PutsAt, takes, puts, gives}
use Rattle.unbounded_cells.specs.Told as told
use Rattle.unbounded_cells.specs.Told.{on_with}
use Rattle.unbounded_cells.specs.Words.{IsWhole, spot_of, word_at, LeavesAll, loads, stores, exchanges, adds, sets_bits, keeps_bits, reads_flag, sets_flag, happens, misses}
use Rattle.unbounded_cells.specs.declared.rule.BlockView.{BlockView}
use Rattle.unbounded_cells.proofs.SlotSteps as slots
use Rattle.unbounded_cells.proofs.WordSteps as words

-- where a word lies says which it is
word_there : (w : Word) → IsWhole w → word_at (spot_of w) ≡ w
word_there word.State h = refl
word_there word.Head h = refl
word_there word.Tail h = refl
word_there word.HeadBlock h = refl
word_there word.TailBlock h = refl
word_there (word.Next b) h = refl
word_there (word.Reads b) h = refl
word_there (word.Stamp i) h = absurd h
word_there (word.Written b i) h = absurd h

some_is : (x y : ℕ) → Some x ≡ Some y → x ≡ y
some_is x y e = cc

module _ {T A : Type 0} {moves : QueueForm → A → Event T → A → Type 0} {enters : QueueForm → A → Type 0} {turns : QueueForm → A → A → Type 0} {counts : QueueForm → A → A → Counter → CountStep → ℕ → Type 0} {both : A → A → A} {left : A → A} {parts : QueueForm → A → A → A → Type 0} {opened : A} {counted : ℕ} {is_history : HistoryOf T A} (laws : KeepsHistory moves enters turns counts both left parts opened counted is_history)
    {sized : ℕ → List (View T A) → Contents T → Tally → Type 0} (machine : KeepsBlocks moves is_history sized) (admits : Type 0) where
  abbrev Ruled : TableState T A → Type 0
  Ruled = IsRuled moves is_history sized admits

  abbrev Seat : Type 0
  Seat = Me (Option T) (BlockView T A)

  -- the seat is what it was when the call's operation began
  module _ (id : ℕ) (m₀ m : Seat) (same : m ≡ m₀) (form : m₀.view.party.form ≡ Unbounded) (live : m₀.view.party.spent ≡ false) where
    abbrev May : Deed T → Type 0
    May d = (a : A) × moves m₀.view.party.form m₀.view.party.state (does (Some d)) a

    abbrev Fits : (ℕ → Deed T) → Type 0
    Fits d = (n : ℕ) → May (d n)

    now : (d : Deed T) → May d → (a : A) × moves Unbounded m.view.party.state (does (Some d)) a
    now d b = (b.0, subst (λ (o : Seat). moves Unbounded o.view.party.state (does (Some d)) b.0) (sym same) (subst (λ (f : QueueForm). moves f m₀.view.party.state (does (Some d)) b.0) form b.1))

    lives : m.view.party.spent ≡ false
    lives = ap (λ (o : Seat). o.view.party.spent) same ∙ live

    pub told_so : (d : Deed T) (m' : Seat) → told.Does moves d m m' → moves m₀.view.party.form m₀.view.party.state (does (Some d)) m'.view.party.state
    told_so d m' h = subst (λ (f : QueueForm). moves f m₀.view.party.state (does (Some d)) m'.view.party.state) (sym form) (subst (λ (o : Seat). moves Unbounded o.view.party.state (does (Some d)) m'.view.party.state) same h.0)

    pub happens_here : (k : ℕ) (d : Deed T) → LeavesAll d → May d → Allows Ruled id m (own k) (λ n. n) (happens moves d (step (own k) 0 0) m)
    happens_here k d leaves fits = words.happens_at laws machine admits id k m d lives leaves (now d fits)

    under_name : (n j : ℕ) → n ≡ j → (x : ℕ) (d : Deed T) (m' : Seat) → (x ≤ n → told.Does moves d m m') × (n < x → m' ≡ m) → (x ≤ j → told.Does moves d m m') × (j < x → m' ≡ m)
    under_name n j is x d m' h = subst (λ (i : ℕ). (x ≤ i → told.Does moves d m m') × (i < x → m' ≡ m)) is h

    pub misses_here : (n : ℕ) (d : Deed T) → deed_block d ≡ Some n → May d → Allows Ruled id m count (λ n. n) (misses moves d (step count 0 0) m)
    misses_here n d on fits s r at has small =
        let g = words.absent_so laws machine admits id n m d lives on (now d fits) s r at has small in
        (g.0, g.1, g.2, g.3, λ j e. under_name n j (some_is n j (sym on ∙ e)) _ d _ g.4)

    -- one of the table's words
    module _ (w : Word) (is : IsWhole w) (x : Spot) (at : spot_of w ≡ x) where
      here : word_at x ≡ w
      here = ap word_at (sym at) ∙ word_there w is

      placed : (d : Word → ℕ → Deed T) (f : ℕ → ℕ) → Allows Ruled id m (spot_of w) f (λ n m'. told.Does moves (d w n) m m') → Allows Ruled id m x f (λ n m'. told.Does moves (d (word_at x) n) m m')
      placed d f h = subst (λ (u : Word). Allows Ruled id m x f (λ n m'. told.Does moves (d u n) m m')) (sym here) (subst (λ (y : Spot). Allows Ruled id m y f (λ n m'. told.Does moves (d w n) m m')) at h)

      pub made_here : (d : Word → Deed T) (m' : Seat) → told.Does moves (d (word_at x)) m m' → moves m₀.view.party.form m₀.view.party.state (does (Some (d w))) m'.view.party.state
      made_here d m' h = told_so (d w) m' (subst (λ (u : Word). told.Does moves (d u) m m') here h)

      pub loads_here : Fits (loaded w) → Allows Ruled id m x (λ n. n) (loads moves (step x 0 0) m)
      loads_here fits = placed loaded (λ n. n) (words.loads_so laws machine admits id m w is lives (λ n. now (loaded w n) (fits n)))

      pub stores_here : (v : ℕ) → May (stored w v) → Allows Ruled id m x (λ _. v) (λ _. stores moves (step x v 0) m v)
      stores_here v fits = placed (λ u _. stored u v) (λ _. v) (words.stores_so laws machine admits id m w is lives v (now (stored w v) fits))

      pub exchanges_here : (old new : ℕ) → Fits (λ n. exchanged w old new (answer n old)) → Allows Ruled id m x (λ n. either (n == old) new n) (exchanges moves (step x old new) m)
      exchanges_here old new fits = placed (λ u n. exchanged u old new (answer n old)) (λ n. either (n == old) new n) (words.exchanges_so laws machine admits id m w is lives old new (λ n. now (exchanged w old new (answer n old)) (fits n)))

      pub adds_here : (v : ℕ) → Fits (added w v) → Allows Ruled id m x (λ n. (n + v) % 2 ^ 64) (adds moves (step x v 0) m)
      adds_here v fits = placed (λ u. added u v) (λ n. (n + v) % 2 ^ 64) (words.adds_so laws machine admits id m w is lives v (λ n. now (added w v n) (fits n)))

      pub sets_here : (v : ℕ) → Fits (bits_set w v) → Allows Ruled id m x (λ n. bit_or n v) (sets_bits moves (step x v 0) m)
      sets_here v fits = placed (λ u. bits_set u v) (λ n. bit_or n v) (words.sets_so laws machine admits id m w is lives v (λ n. now (bits_set w v n) (fits n)))

      pub keeps_here : (v : ℕ) → Fits (bits_kept w v) → Allows Ruled id m x (λ n. bit_and n v) (keeps_bits moves (step x v 0) m)
      keeps_here v fits = placed (λ u. bits_kept u v) (λ n. bit_and n v) (words.keeps_so laws machine admits id m w is lives v (λ n. now (bits_kept w v n) (fits n)))

    -- a flag
    module _ (n i : ℕ) (near : i < 31) where
      pub flag_read : (j : ℕ) → j ≡ i → Fits (loaded (word.Written n i)) → Allows Ruled id m (within n 33) (λ x. x) (reads_flag moves j (step (within n 33) 0 0) m)
      flag_read j is fits = subst (λ (k : ℕ). Allows Ruled id m (within n 33) (λ x. x) (reads_flag moves k (step (within n 33) 0 0) m)) (sym is)
          (words.reads_flag laws machine admits id n i m near lives (λ x. now (loaded (word.Written n i) x) (fits x)))

      pub flag_set : (j z : ℕ) → j ≡ i → z ≡ 2 ^ i → May (stored (word.Written n i) 1) → Allows Ruled id m (within n 33) (λ x. bit_or x z) (sets_flag moves j (step (within n 33) z 0) m)
      flag_set j z is bits fits = subst (λ (k : ℕ). Allows Ruled id m (within n 33) (λ x. bit_or x z) (sets_flag moves k (step (within n 33) z 0) m)) (sym is)
          (subst (λ (y : ℕ). Allows Ruled id m (within n 33) (λ x. bit_or x y) (sets_flag moves i (step (within n 33) y 0) m)) (sym bits)
          (words.sets_flag laws machine admits id n i m near lives (now (stored (word.Written n i) 1) fits)))

    -- a machine makes no other operation on a flag than to read it, or to set it
    module _ (n i : ℕ) where
      pub no_exchange : (old new : ℕ) → Fits (λ x. exchanged (word.Written n i) old new (answer x old)) → ⊥
      no_exchange old new fits = machine.flags m.view.party (exchanged (word.Written n i) old new (answer 0 old)) (now _ (fits 0))

      pub no_add : (v : ℕ) → Fits (added (word.Written n i) v) → ⊥
      no_add v fits = machine.flags m.view.party (added (word.Written n i) v 0) (now _ (fits 0))

      pub no_set : (v : ℕ) → Fits (bits_set (word.Written n i) v) → ⊥
      no_set v fits = machine.flags m.view.party (bits_set (word.Written n i) v 0) (now _ (fits 0))

      pub no_keep : (v : ℕ) → Fits (bits_kept (word.Written n i) v) → ⊥
      no_keep v fits = machine.flags m.view.party (bits_kept (word.Written n i) v 0) (now _ (fits 0))

      pub only_one : (v : ℕ) → May (stored (word.Written n i) v) → v ≡ 1
      only_one v fits = machine.flags m.view.party (stored (word.Written n i) v) (now _ fits)

    -- ---- a slot

    module _ (n i : ℕ) (near : i < 31) (idle : m₀.view.held ≡ None) where
      free : m.view.held ≡ None
      free = ap (λ (o : Seat). o.view.held) same ∙ idle

      pub takes_here : ((o : Option T) → May (did_take (In n i) o)) → Allows Ruled id m (within n i) (λ y. either (y == 0) 1 y) (takes moves (step (within n i) 0 1) m)
      takes_here fits = slots.takes_so laws machine admits id n i m near free lives (λ o. now (did_take (In n i) o) (fits o))

      pub puts_here : (v : T) → ((o : Result Unit T) → May (did_put (In n i) v o)) → Allows Ruled id m (within n i) (λ y. either (y == 0) 1 y) (puts moves (Some v) (step (within n i) 0 1) m)
      puts_here v fits = slots.puts_so laws machine admits id n i m v near free lives (λ o. now (did_put (In n i) v o) (fits o))

      pub puts_by : (v : T) (o : Option T) → o ≡ Some v → ((r : Result Unit T) → (a : A) × moves Unbounded m₀.view.party.state (does (Some (did_put (In n i) v r))) a) → Allows Ruled id m (within n i) (λ y. either (y == 0) 1 y) (puts moves o (step (within n i) 0 1) m)
      puts_by v o is fits = subst (λ (z : Option T). Allows Ruled id m (within n i) (λ y. either (y == 0) 1 y) (puts moves z (step (within n i) 0 1) m)) (sym is)
          (puts_here v (λ r. let b = fits r in (b.0, subst (λ (f : QueueForm). moves f m₀.view.party.state (does (Some (did_put (In n i) v r))) b.0) (sym form) b.1)))

  pub gives_here : (id n i : ℕ) (m : Seat) (y : Option T) (z : ℕ) → i < 31 → m.view.held ≡ Some (n, i, y) → m.hand ≡ Some (n, i, y) → m.view.party.spent ≡ false → Allows Ruled id m (within n i) (λ _. 0) (λ _. gives (step (within n i) 0 0) m z)
  gives_here id n i m y z near held hand live = slots.gives_so laws machine admits id n i m y near held hand live

-- ---- what was done to a slot whose guard was won, by what was found there

module _ {T A : Type 0} (moves : QueueForm → A → Event T → A → Type 0) where
  abbrev Seats : Type 0
  Seats = Me (Option T) (BlockView T A)

  pub unbounded_now : (f : QueueForm) → f ≡ Unbounded → (s : A) (d : Deed T) → ((a : A) × moves f s (does (Some d)) a) → (a : A) × moves Unbounded s (does (Some d)) a
  unbounded_now f is s d b = (b.0, subst (λ (o : QueueForm). moves o s (does (Some d)) b.0) is b.1)

  -- what may be made and was made of a word or slot, under its other name and by the seat as it is now
  module _ {X : Type 0} (m₀ m : Seats) (same : m ≡ m₀) (x y : X) (at : x ≡ y) (d : X → Deed T) where
    pub may_there : ((a : A) × moves m₀.view.party.form m₀.view.party.state (does (Some (d x))) a) → (a : A) × moves m.view.party.form m.view.party.state (does (Some (d y))) a
    may_there b = (b.0, subst (λ (o : Seats). moves o.view.party.form o.view.party.state (does (Some (d y))) b.0) (sym same) (subst (λ (z : X). moves m₀.view.party.form m₀.view.party.state (does (Some (d z))) b.0) at b.1))

    pub made_there : (b : A) → moves m.view.party.form m.view.party.state (does (Some (d y))) b → moves m₀.view.party.form m₀.view.party.state (does (Some (d x))) b
    made_there b h = subst (λ (z : X). moves m₀.view.party.form m₀.view.party.state (does (Some (d z))) b) (sym at) (subst (λ (o : Seats). moves o.view.party.form o.view.party.state (does (Some (d y))) b) same h)

  value_of : Option (ℕ × ℕ × Option T) → Option T
  value_of (Some t) = t.2
  value_of None = None

  same_value : (n i : ℕ) (x y : Option T) → ◌≡◌ {A = Option (ℕ × ℕ × Option T)} (Some (n, i, x)) (Some (n, i, y)) → x ≡ y
  unfolding value_of
  same_value n i x y e = ap value_of e

  some_none : (y : T) → Some y ≡ None → ⊥
  some_none y e = absurd cc

  some_same : (x y : T) → Some x ≡ Some y → x ≡ y
  some_same x y e = cc

  pub written_twice : (n i : ℕ) (m₁ : Seats) (y z : Option T) (m₂ m₃ : Seats) → m₂ ≡ me m₁.view (Some (n, i, y)) → m₃ ≡ me m₂.view (Some (n, i, z)) → m₃ ≡ me m₁.view (Some (n, i, z))
  written_twice n i m₁ y z m₂ m₃ e f = f ∙ ap (λ (m : Seats). me m.view (Some (n, i, z))) e

  module _ (n i : ℕ) (m₀ m₁ : Seats) where
    -- the seat after the slot was written, and after it was given back
    abbrev Written : Option T → Seats → Seats → Type 0
    Written y m₂ m₃ = (m₂ ≡ me m₁.view (Some (n, i, y))) × (m₃ ≡ me (holds m₂.view None) None)

    state_after : (y : Option T) (m₂ m₃ : Seats) → Written y m₂ m₃ → m₃.view.party.state ≡ m₁.view.party.state
    state_after y m₂ m₃ (a, b) = ap (λ (o : Seats). o.view.party.state) b ∙ ap (λ (o : Seats). o.view.party.state) a

    went : (y : Option T) (m₂ m₃ : Seats) (d : Deed T) → m₀.view.party.form ≡ Unbounded → Written y m₂ m₃ → moves Unbounded m₀.view.party.state (does (Some d)) m₁.view.party.state → moves m₀.view.party.form m₀.view.party.state (does (Some d)) m₃.view.party.state
    went y m₂ m₃ d form w made = subst (λ (a : A). moves m₀.view.party.form m₀.view.party.state (does (Some d)) a) (sym (state_after y m₂ m₃ w)) (subst (λ (f : QueueForm). moves f m₀.view.party.state (does (Some d)) m₁.view.party.state) (sym form) made)

    -- the seat is what it was, but for where its machine has gone on
    abbrev GivenBack : Seats → Type 0
    GivenBack m₃ = m₃ ≡ me (holds (on_with m₀.view m₁.view.party.state) None) None

    back_so : (x y z : Option T) (m₂ m₃ : Seats) → m₁ ≡ me (holds (on_with m₀.view m₁.view.party.state) (Some (n, i, y))) (Some (n, i, x)) → Written z m₂ m₃ → GivenBack m₃
    back_so x y z m₂ m₃ e w = w.1 ∙ (ap (λ (o : Seats). me (holds o.view None) None) w.0 ∙ ap (λ (o : Seats). me (holds o.view None) None) e)

    -- a message was taken out
    module _ (x : Option T) (won : Won moves n i x None (did_take (In n i) x) m₀ m₁) where
      pub take_held : m₁.view.held ≡ Some (n, i, None)
      take_held = ap (λ (o : Seats). o.view.held) won.1

      pub take_live : m₁.view.party.spent ≡ m₀.view.party.spent
      take_live = ap (λ (o : Seats). o.view.party.spent) won.1

      pub take_gives : (z : Option T) (m₂ m₃ : Seats) → Written z m₂ m₃ → GivenBack m₃
      take_gives z m₂ m₃ w = back_so x None z m₂ m₃ won.1 w

      pub taken_so : (found : Option T) (m₂ m₃ : Seats) → m₀.view.party.form ≡ Unbounded → m₁.hand ≡ Some (n, i, found) → Written None m₂ m₃ → moves m₀.view.party.form m₀.view.party.state (does (Some (did_take (In n i) found))) m₃.view.party.state
      taken_so found m₂ m₃ form hand w =
          subst (λ (o : Option T). moves m₀.view.party.form m₀.view.party.state (does (Some (did_take (In n i) o))) m₃.view.party.state) (same_value n i x found (sym (ap (λ (o : Seats). o.hand) won.1) ∙ hand))
          (went None m₂ m₃ (did_take (In n i) x) form w won.0)

    -- one was put in, or the slot was full
    module _ (v : T) where
      pub put_live : (x : Option T) → PutOn moves n i v x m₀ m₁ → m₁.view.party.spent ≡ m₀.view.party.spent
      put_live None h = ap (λ (o : Seats). o.view.party.spent) h.1
      put_live (Some y) h = ap (λ (o : Seats). o.view.party.spent) h.1

      pub put_gives : (x z : Option T) (m₂ m₃ : Seats) → PutOn moves n i v x m₀ m₁ → Written z m₂ m₃ → GivenBack m₃
      put_gives None z m₂ m₃ h w = back_so None (Some v) z m₂ m₃ h.1 w
      put_gives (Some y) z m₂ m₃ h w = back_so (Some y) (Some y) z m₂ m₃ h.1 w

      pub put_carries : (x : Option T) → PutOn moves n i v x m₀ m₁ → m₁.hand ≡ Some (n, i, x)
      put_carries None h = ap (λ (o : Seats). o.hand) h.1
      put_carries (Some y) h = ap (λ (o : Seats). o.hand) h.1

      pub put_in : (x : Option T) → PutOn moves n i v x m₀ m₁ → m₁.hand ≡ Some (n, i, None) → (m₁.view.held ≡ Some (n, i, Some v)) × moves Unbounded m₀.view.party.state (does (Some (did_put (In n i) v (Ok tt)))) m₁.view.party.state
      put_in None h hand = (ap (λ (o : Seats). o.view.held) h.1, h.0)
      put_in (Some y) h hand = absurd (some_none y (same_value n i (Some y) None (sym (ap (λ (o : Seats). o.hand) h.1) ∙ hand)))

      pub put_back : (y : T) (x : Option T) → PutOn moves n i v x m₀ m₁ → m₁.hand ≡ Some (n, i, Some y) → (m₁.view.held ≡ Some (n, i, Some y)) × moves Unbounded m₀.view.party.state (does (Some (did_put (In n i) v (Err v)))) m₁.view.party.state
      put_back y None h hand = absurd (some_none y (same_value n i (Some y) None (sym hand ∙ ap (λ (o : Seats). o.hand) h.1)))
      put_back y (Some z) h hand = (ap (λ (o : Seats). o.view.held) h.1 ∙ ap (λ (o : Option T). Some (n, i, o)) (same_value n i (Some z) (Some y) (sym (ap (λ (o : Seats). o.hand) h.1) ∙ hand)), h.0)

      pub put_so : (x : Option T) (m₂ m₃ : Seats) → m₀.view.party.form ≡ Unbounded → PutOn moves n i v x m₀ m₁ → m₁.hand ≡ Some (n, i, None) → Written (Some v) m₂ m₃ → moves m₀.view.party.form m₀.view.party.state (does (Some (did_put (In n i) v (Ok tt)))) m₃.view.party.state
      put_so x m₂ m₃ form h hand w = went (Some v) m₂ m₃ (did_put (In n i) v (Ok tt)) form w (put_in x h hand).1

      pub refused_so : (y : T) (x : Option T) (m₂ m₃ : Seats) → m₀.view.party.form ≡ Unbounded → PutOn moves n i v x m₀ m₁ → m₁.hand ≡ Some (n, i, Some y) → Written (Some y) m₂ m₃ → moves m₀.view.party.form m₀.view.party.state (does (Some (did_put (In n i) v (Err v)))) m₃.view.party.state
      refused_so y x m₂ m₃ form h hand w = went (Some y) m₂ m₃ (did_put (In n i) v (Err v)) form w (put_back y x h hand).1

-- ---- a message that was returned

module _ {T A : Type 0} (moves : QueueForm → A → Event T → A → Type 0) (m₀ m : Me (Option T) (BlockView T A)) (at : Slot) (x back : T) where
  pub put_refused : (full : Bool) → back ≡ x → MatchBool full (moves m₀.view.party.form m₀.view.party.state (does (Some (did_put at x (Err x)))) m.view.party.state) (m ≡ m₀)
      → moves m₀.view.party.form m₀.view.party.state (does (Some (did_put at x (Err back)))) m.view.party.state ⊎ (IsRefused (did_put at x (Err back)) × (m.view.party.state ≡ m₀.view.party.state))
  put_refused true same h = inl (subst (λ (z : T). moves m₀.view.party.form m₀.view.party.state (does (Some (did_put at x (Err z)))) m.view.party.state) (sym same) h)
  put_refused false same h = inr (ap Err same, ap (λ (o : Me (Option T) (BlockView T A)). o.view.party.state) h)
