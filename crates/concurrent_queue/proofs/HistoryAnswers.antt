-- What an operation was answered, as `Cells` says it.
use Rattle.std.proofs.Common.{◌≡◌, ◌≢◌, ◌⊎◌, ℕ, inl, inr, refl, sym, ap, subst, eq-eqb, ne_eqb}
use Rattle.std.specs.Prelude.{Bool, true, false, MatchBool, Some, Result, Ok, Err}
use Rattle.concurrent_queue.specs.Bridge.{Event, does}
use Rattle.concurrent_queue.specs.Deeds.{exchanged, did_put}
use Rattle.concurrent_queue.specs.declared.cells.QueueForm.{QueueForm}
use Rattle.concurrent_queue.specs.declared.cells.Slot.{Slot}
use Rattle.concurrent_queue.specs.declared.cells.Word.{Word}
use Rattle.concurrent_queue.specs.history.OnCells.{IsRefused}
use Rattle.concurrent_queue.specs.history.Shared.{Seated, answer}

module _ {T A : Type 0} (moves : QueueForm → A → Event T → A → Type 0) (form : QueueForm) (s t : A) (w : Word) (x y n : ℕ) where
  pub exchange_won : n ≡ x → moves form s (does (Some (exchanged w x y (answer n x)))) t → moves form s (does (Some (exchanged w x y (Ok n)))) t
  exchange_won hit h = subst (λ (o : Result ℕ ℕ). moves form s (does (Some (exchanged w x y o))) t) (rw (eq-eqb n x hit) refl) h

  pub exchange_lost : n ≢ x → moves form s (does (Some (exchanged w x y (answer n x)))) t → moves form s (does (Some (exchanged w x y (Err n)))) t
  exchange_lost miss h = subst (λ (o : Result ℕ ℕ). moves form s (does (Some (exchanged w x y o))) t) (rw (ne_eqb n x miss) refl) h

-- ---- a message that was returned

module _ {T A : Type 0} (moves : QueueForm → A → Event T → A → Type 0) (s t : Seated T A) (at : Slot) (x back : T) where
  pub put_refused : (full : Bool) → back ≡ x → MatchBool full (moves s.0.form s.0.state (does (Some (did_put at x (Err x)))) t.0.state) (t ≡ s)
      → moves s.0.form s.0.state (does (Some (did_put at x (Err back)))) t.0.state ⊎ (IsRefused (did_put at x (Err back)) × (t.0.state ≡ s.0.state))
  put_refused true same h = inl (subst (λ (z : T). moves s.0.form s.0.state (does (Some (did_put at x (Err z)))) t.0.state) (sym same) h)
  put_refused false same h = inr (ap Err same, ap (λ (m : Seated T A). m.0.state) h)
