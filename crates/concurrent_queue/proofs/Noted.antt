-- A step of a call over cells of any kind, as its operation with its answer and what follows it.
use Rattle.std.proofs.Common.{ℕ, ◌==◌, Bool, true, false, [], ◌∷◌, Option, None, Some, refl}
use Rattle.concurrent_queue.specs.Bridge.{Along}
use Rattle.concurrent_queue.specs.Deeds.{Deed, Notes, Move, loads, stores, exchanges, adds, sets_bits, keeps_bits, puts, takes, spares, retires, rests, Makes, loaded, stored, exchanged, added, bits_set, bits_kept, did_put, did_take, spared, retired}
use Rattle.concurrent_queue.specs.Walked.{MakesBlocks, MakesBounded, MakesFirst, StateMakes}
use Rattle.concurrent_queue.specs.machine.BlocksMakes.{blocks_moves}
use Rattle.concurrent_queue.specs.machine.BlocksWords.{begin}
use Rattle.concurrent_queue.specs.machine.Dispatch.{ring_cap}
use Rattle.concurrent_queue.specs.machine.RingMoves.{ring_moves}
use Rattle.concurrent_queue.specs.machine.RingWords.{cap_of, ring_mark, ring_start}
use Rattle.concurrent_queue.specs.machine.Single.{single_moves, start}
use Rattle.concurrent_queue.specs.declared.call.QueueAsk.{QueueAsk}
use Rattle.concurrent_queue.specs.declared.call.Stepped.{Stepped}
use Rattle.concurrent_queue.specs.declared.cells.QueueForm.{QueueForm}
use Rattle.concurrent_queue.specs.declared.cells.QueueForm.TheVariants.{Bounded, Unbounded}
use Rattle.concurrent_queue.specs.declared.queue_call.CallState.{CallState}
use Rattle.concurrent_queue.specs.declared.queue_call.CallState.TheVariants.{Asked, Single, Ring, Blocks, Finished}
use Rattle.concurrent_queue.specs.declared.unbounded.action.UnboundedCall.{UnboundedCall}

module _ {T S : Type 0} (did : Deed T → S → S → Type 0) where
  abbrev Noted : {A : Type 0} → Move T A → S → A → S → Type 0
  Noted m s r t = (o : Option (Deed T)) × Makes Notes m None r o × Along did (o ∷ []) s t

  note : {A : Type 0} (m : Move T A) (s : S) (r : A) (t : S) → Makes did m s r t → Noted m s r t
  note (loads w k) s r t (x, h, e) = (Some (loaded w x), (x, refl, e), (t, h, refl))
  note (stores w x a) s r t (h, e) = (Some (stored w x), (refl, e), (t, h, refl))
  note (exchanges w x y k) s r t (o, h, e) = (Some (exchanged w x y o), (o, refl, e), (t, h, refl))
  note (adds w x k) s r t (o, h, e) = (Some (added w x o), (o, refl, e), (t, h, refl))
  note (sets_bits w x k) s r t (o, h, e) = (Some (bits_set w x o), (o, refl, e), (t, h, refl))
  note (keeps_bits w x k) s r t (o, h, e) = (Some (bits_kept w x o), (o, refl, e), (t, h, refl))
  note (puts at v k) s r t (o, h, e) = (Some (did_put at v o), (o, refl, e), (t, h, refl))
  note (takes at k) s r t (o, h, e) = (Some (did_take at o), (o, refl, e), (t, h, refl))
  note (spares k) s r t (o, h, e) = (Some (spared o), (o, refl, e), (t, h, refl))
  note (retires b a) s r t (h, e) = (Some (retired b), (refl, e), (t, h, refl))
  note (rests a) s r t (same, e) = (None, (refl, e), same)

  abbrev pub NotedAt : QueueForm → S → CallState T → S → Stepped (CallState T) T → Type 0
  NotedAt form s at t r = (o : Option (Deed T)) × StateMakes Notes form None at o r × Along did (o ∷ []) s t

  note_bounded : (b : Bool) (cap : ℕ) (s : S) (a : QueueAsk T) (t : S) (r : Stepped (CallState T) T) → MakesBounded did b cap s a t r → (o : Option (Deed T)) × MakesBounded Notes b cap None a o r × Along did (o ∷ []) s t
  note_bounded true cap s a t r (x, h, e) = let n = note (single_moves (start a)) s x t h in (n.0, (x, n.1, e), n.2)
  note_bounded false cap s a t r (x, h, e) = let n = note (ring_moves cap (ring_mark cap) (ring_start a)) s x t h in (n.0, (x, n.1, e), n.2)

  note_blocks : (s : S) (a : UnboundedCall T) (t : S) (r : Stepped (CallState T) T) → MakesBlocks did s a t r → (o : Option (Deed T)) × MakesBlocks Notes None a o r × Along did (o ∷ []) s t
  note_blocks s a t r (x, (p, h, f), e) = let n = note (blocks_moves a.action) s p t h in (n.0, (x, (p, n.1, f), e), n.2)

  note_first : (form : QueueForm) (s : S) (a : QueueAsk T) (t : S) (r : Stepped (CallState T) T) → MakesFirst did form s a t r → (o : Option (Deed T)) × MakesFirst Notes form None a o r × Along did (o ∷ []) s t
  note_first (Bounded cap) s a t r h = note_bounded (cap == 1) (cap_of cap) s a t r h
  note_first Unbounded s a t r h = note_blocks s (begin a) t r h

  pub note_state : (form : QueueForm) (s : S) (at : CallState T) (t : S) (r : Stepped (CallState T) T) → StateMakes did form s at t r → NotedAt form s at t r
  note_state form s (Asked a) t r h = note_first form s a t r h
  note_state form s (Single a) t r (x, h, e) = let n = note (single_moves a) s x t h in (n.0, (x, n.1, e), n.2)
  note_state form s (Ring a) t r (x, h, e) = let n = note (ring_moves (ring_cap form) (ring_mark (ring_cap form)) a) s x t h in (n.0, (x, n.1, e), n.2)
  note_state form s (Blocks a) t r h = note_blocks s a t r h
  note_state form s Finished t r (same, e) = (None, (refl, e), same)
