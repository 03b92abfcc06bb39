-- What is known of the code's stage of a call by what is known of the stage without its cells.
use Rattle.std.proofs.Common.{◌≡◌, ap}
use Rattle.channel_steps.proofs.Words.{Phase, QueueCall, phase, Purpose, Returned, Stage, Trying, Working, Finished, ListStep}

module _ {T W : Type 0} (f : Phase T) where
  pub phase_try : (g : Phase T) (y : Purpose T W) (s : Stage (QueueCall T) T W) → phase f s ≡ Trying g y → (call : QueueCall T) × (s ≡ Trying call y) × (f ≡ g)
  phase_try g y (Trying call z) e =
      let same : z ≡ y = (let e' : (let s : Stage (Phase T) T W = Trying f z in s) ≡ Trying g y = e in cc) in
      let one : f ≡ g = (let e' : (let s : Stage (Phase T) T W = Trying f z in s) ≡ Trying g y = e in cc) in
      (call, ap (λ (w : Purpose T W). let s : Stage (QueueCall T) T W = Trying call w in s) same, one)
  phase_try g y (Working w) e = absurd (let no : (let s : Stage (Phase T) T W = Working w in s) ≡ Trying g y = e in cc)
  phase_try g y (Finished kept) e = absurd (let no : (let s : Stage (Phase T) T W = Finished kept in s) ≡ Trying g y = e in cc)

  pub phase_work : (w : ListStep T W) (s : Stage (QueueCall T) T W) → phase f s ≡ Working w → s ≡ Working w
  phase_work w (Trying call z) e = absurd (let no : (let s : Stage (Phase T) T W = Trying f z in s) ≡ Working w = e in cc)
  phase_work w (Working v) e = let same : v ≡ w = (let e' : (let s : Stage (Phase T) T W = Working v in s) ≡ Working w = e in cc) in ap (λ (z : ListStep T W). let s : Stage (QueueCall T) T W = Working z in s) same
  phase_work w (Finished kept) e = absurd (let no : (let s : Stage (Phase T) T W = Finished kept in s) ≡ Working w = e in cc)

  pub phase_end : (kept : Returned T) (s : Stage (QueueCall T) T W) → phase f s ≡ Finished kept → s ≡ Finished kept
  phase_end kept (Trying call z) e = absurd (let no : (let s : Stage (Phase T) T W = Trying f z in s) ≡ Finished kept = e in cc)
  phase_end kept (Working w) e = absurd (let no : (let s : Stage (Phase T) T W = Working w in s) ≡ Finished kept = e in cc)
  phase_end kept (Finished k) e = let same : k ≡ kept = (let e' : (let s : Stage (Phase T) T W = Finished k in s) ≡ Finished kept = e in cc) in ap (λ (z : Returned T). let s : Stage (QueueCall T) T W = Finished z in s) same
