-- What an operation does to cells whose contents are known: the relation `did` of the cells of one owner.
use Rattle.std.specs.Prelude.{◌≡◌, ℕ, Option, ◌+◌, ◌%◌, ◌^◌, bit_and, bit_or, None, Ok, Err, MatchResult, refl}
use Rattle.std.proofs.Common.{ap, ◌∙◌}
use Rattle.concurrent_queue.specs.declared.cells.QueueForm.{QueueForm}
use Rattle.concurrent_queue.specs.declared.cells.Word.{Word}
use Rattle.concurrent_queue.specs.declared.cells.Word.TheVariants.{State, Head, Tail, Stamp, HeadBlock, TailBlock, Next, Reads, Written}
use Rattle.concurrent_queue.specs.declared.cells.Slot.{Slot}
use Rattle.concurrent_queue.specs.declared.cells.Slot.TheVariants.{At, In}
use Rattle.concurrent_queue.specs.Contents.{Contents, read, write, slot_at, write_slot, PutGives, SpareGives, with_retired}
use Rattle.concurrent_queue.specs.Deeds.{Deed, loaded, stored, exchanged, added, bits_set, bits_kept, did_put, did_take, spared, retired}

module _ {T : Type 0} where
  abbrev pub Does : Deed T → Contents T → Contents T → Type 0
  Does (loaded w x) c d = (x ≡ read c w) × (d ≡ c)
  Does (stored w x) c d = d ≡ write c w x
  Does (exchanged w x y o) c d =
      MatchResult o (λ v. (v ≡ x) × (read c w ≡ x) × (d ≡ write c w y)) (λ v. (v ≡ read c w) × (¬ (v ≡ x)) × (d ≡ c))
  Does (added w x o) c d = (o ≡ read c w) × (d ≡ write c w ((read c w + x) % 2 ^ 64))
  Does (bits_set w x o) c d = (o ≡ read c w) × (d ≡ write c w (bit_or (read c w) x))
  Does (bits_kept w x o) c d = (o ≡ read c w) × (d ≡ write c w (bit_and (read c w) x))
  Does (did_put at v o) c d = PutGives c at v o d
  Does (did_take at o) c d = (o ≡ slot_at c at) × (d ≡ write_slot c at None)
  Does (spared o) c d = SpareGives c o d
  Does (retired b) c d = d ≡ with_retired c b

  -- ---- no operation makes contents of one form into those of another

  abbrev form_in : Contents T → QueueForm
  form_in c = c.form

  written_form : (c : Contents T) (w : Word) (x : ℕ) → form_in (write c w x) ≡ form_in c
  written_form c State x = refl
  written_form c Head x = refl
  written_form c Tail x = refl
  written_form c (Stamp i) x = refl
  written_form c HeadBlock x = refl
  written_form c TailBlock x = refl
  written_form c (Next b) x = refl
  written_form c (Reads b) x = refl
  written_form c (Written b i) x = refl

  filled_form : (c : Contents T) (at : Slot) (o : Option T) → form_in (write_slot c at o) ≡ form_in c
  filled_form c (At i) o = refl
  filled_form c (In b i) o = refl

  pub does_keep_form : (d : Deed T) (c e : Contents T) → Does d c e → e.form ≡ c.form
  does_keep_form (loaded w x) c e h = ap form_in h.1
  does_keep_form (stored w x) c e h = ap form_in h ∙ written_form c w x
  does_keep_form (exchanged w x y (Ok v)) c e h = ap form_in h.2 ∙ written_form c w y
  does_keep_form (exchanged w x y (Err v)) c e h = ap form_in h.2
  does_keep_form (added w x o) c e h = ap form_in h.1 ∙ written_form c w _
  does_keep_form (bits_set w x o) c e h = ap form_in h.1 ∙ written_form c w _
  does_keep_form (bits_kept w x o) c e h = ap form_in h.1 ∙ written_form c w _
  does_keep_form (did_put at v (Ok u)) c e h = ap form_in h.1 ∙ filled_form c at _
  does_keep_form (did_put at v (Err w)) c e h = ap form_in h.2
  does_keep_form (did_take at o) c e h = ap form_in h.1 ∙ filled_form c at None
  does_keep_form (spared (Ok b)) c e h = ap form_in h.1
  does_keep_form (spared (Err r)) c e h = ap form_in h.1
  does_keep_form (retired b) c e h = ap form_in h
