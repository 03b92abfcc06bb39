-- Cells that know where the call stands whose cells they are, as a view of a shared table's rule does, keep what `Cells` asks. It is
-- proved here, and not beside the other proofs, since the laws of an impl can cite no proof of their own crate.
use Rattle.std.specs.Prelude.{◌≡◌, ℕ, ◌==◌, Bool, true, false, Option, None, Some, refl}
use Rattle.std.proofs.Common.{sym, ap, ◌∙◌, subst}
use Rattle.concurrent_queue.specs.Deeds.{Deed, Notes, Move, loads, stores, exchanges, adds, sets_bits, keeps_bits, puts, takes, spares, retires, rests, Makes}
use Rattle.concurrent_queue.specs.Stands.{Next, MayGoOn, GoesOn}
use Rattle.concurrent_queue.specs.Walked.{first_bounded, first_of, standing, MakesBlocks, MakesBounded, MakesFirst, StateMakes, CallMakes}
use Rattle.concurrent_queue.specs.machine.BlocksMakes.{blocks_moves}
use Rattle.concurrent_queue.specs.machine.BlocksWords.{answered, begin}
use Rattle.concurrent_queue.specs.machine.Dispatch.{ring_cap, in_single, in_ring, in_blocks, ended}
use Rattle.concurrent_queue.specs.machine.RingMoves.{ring_moves}
use Rattle.concurrent_queue.specs.machine.RingWords.{cap_of, ring_mark, ring_start}
use Rattle.concurrent_queue.specs.machine.Single.{single_moves, start}
use Rattle.concurrent_queue.specs.declared.call.QueueAsk.{QueueAsk}
use Rattle.concurrent_queue.specs.declared.call.QueueReply.{QueueReply}
use Rattle.concurrent_queue.specs.declared.call.Stepped.{Stepped}
use Rattle.concurrent_queue.specs.declared.cells.QueueForm.{QueueForm}
use Rattle.concurrent_queue.specs.declared.cells.QueueForm.TheVariants.{Bounded, Unbounded}
use Rattle.concurrent_queue.specs.declared.queue_call.CallState.{CallState}
use Rattle.concurrent_queue.specs.declared.queue_call.CallState.TheVariants.{Asked, Single, Ring, Blocks, Finished}
use Rattle.concurrent_queue.specs.declared.queue_call.QueueCall.{QueueCall}
use Rattle.concurrent_queue.specs.declared.unbounded.action.UnboundedCall.{UnboundedCall}

module _ {T : Type 0} where
  one_made : {A : Type 0} (m : Move T A) (r s : A) (o : Option (Deed T)) → Makes Notes m None r o → Makes Notes m None s o → s ≡ r
  one_made (loads w k) r s o (x, n, e) (y, g, f) = cc
  one_made (stores w x a) r s o (n, e) (g, f) = cc
  one_made (exchanges w x y k) r s o (z, n, e) (u, g, f) = cc
  one_made (adds w x k) r s o (z, n, e) (u, g, f) = cc
  one_made (sets_bits w x k) r s o (z, n, e) (u, g, f) = cc
  one_made (keeps_bits w x k) r s o (z, n, e) (u, g, f) = cc
  one_made (puts at v k) r s o (z, n, e) (u, g, f) = cc
  one_made (takes at k) r s o (z, n, e) (u, g, f) = cc
  one_made (spares k) r s o (z, n, e) (u, g, f) = cc
  one_made (retires b a) r s o (n, e) (g, f) = cc
  one_made (rests a) r s o (n, e) (g, f) = cc

  one_bounded : (b : Bool) (cap : ℕ) (a : QueueAsk T) (o : Option (Deed T)) (r s : Stepped (CallState T) T) → MakesBounded Notes b cap None a o r → MakesBounded Notes b cap None a o s → s ≡ r
  one_bounded true cap a o r s (x, h, e) (y, g, f) = f ∙ ap in_single (one_made (single_moves (start a)) x y o h g) ∙ sym e
  one_bounded false cap a o r s (x, h, e) (y, g, f) = f ∙ ap in_ring (one_made (ring_moves cap (ring_mark cap) (ring_start a)) x y o h g) ∙ sym e

  one_blocks : (a : UnboundedCall T) (o : Option (Deed T)) (r s : Stepped (CallState T) T) → MakesBlocks Notes None a o r → MakesBlocks Notes None a o s → s ≡ r
  one_blocks a o r s (x, (p, h, i), e) (y, (q, g, j), f) =
      f ∙ ap in_blocks (j ∙ ap (answered a.displacing) (one_made (blocks_moves a.action) p q o h g) ∙ sym i) ∙ sym e

  one_first : (form : QueueForm) (a : QueueAsk T) (o : Option (Deed T)) (r s : Stepped (CallState T) T) → MakesFirst Notes form None a o r → MakesFirst Notes form None a o s → s ≡ r
  one_first (Bounded cap) a o r s h g = one_bounded (cap == 1) (cap_of cap) a o r s h g
  one_first Unbounded a o r s h g = one_blocks (begin a) o r s h g

  -- a step is the only one with its operation
  pub one_state : (form : QueueForm) (at : CallState T) (o : Option (Deed T)) (r s : Stepped (CallState T) T) → StateMakes Notes form None at o r → StateMakes Notes form None at o s → s ≡ r
  one_state form (Asked a) o r s h g = one_first form a o r s h g
  one_state form (Single a) o r s (x, h, e) (y, g, f) = f ∙ ap in_single (one_made (single_moves a) x y o h g) ∙ sym e
  one_state form (Ring a) o r s (x, h, e) (y, g, f) = f ∙ ap in_ring (one_made (ring_moves (ring_cap form) (ring_mark (ring_cap form)) a) x y o h g) ∙ sym e
  one_state form (Blocks a) o r s h g = one_blocks a o r s h g
  one_state form Finished o r s (n, e) (g, f) = f ∙ sym e

  -- what a call does that has made no step is what it does at its first action
  bounded_asked : (b : Bool) (cap : ℕ) (a : QueueAsk T) (o : Option (Deed T)) (r : Stepped (CallState T) T) → StateMakes Notes (Bounded cap) None (first_bounded b a) o r → MakesBounded Notes b (cap_of cap) None a o r
  bounded_asked true cap a o r h = h
  bounded_asked false cap a o r h = h

  first_asked : (form : QueueForm) (a : QueueAsk T) (o : Option (Deed T)) (r : Stepped (CallState T) T) → StateMakes Notes form None (first_of form a) o r → MakesFirst Notes form None a o r
  first_asked (Bounded cap) a o r h = bounded_asked (cap == 1) cap a o r h
  first_asked Unbounded a o r h = h

  as_asked : (form : QueueForm) (at : CallState T) (o : Option (Deed T)) (r : Stepped (CallState T) T) → StateMakes Notes form None (standing form at) o r → StateMakes Notes form None at o r
  as_asked form (Asked a) o r h = first_asked form a o r h
  as_asked form (Single a) o r h = h
  as_asked form (Ring a) o r h = h
  as_asked form (Blocks a) o r h = h
  as_asked form Finished o r h = h

  -- a call that has made a step stands at the action that the step left
  module _ (form : QueueForm) (r : Stepped (CallState T) T) where
    abbrev Still : Type 0
    Still = standing form r.action ≡ r.action

    by_step : (x : Stepped (CallState T) T) → r ≡ x → standing form x.action ≡ x.action → Still
    by_step x e h = subst (λ (z : Stepped (CallState T) T). standing form z.action ≡ z.action) (sym e) h

    bounded_still : (b : Bool) (cap : ℕ) (a : QueueAsk T) (o : Option (Deed T)) → MakesBounded Notes b cap None a o r → Still
    bounded_still true cap a o (x, n, e) = by_step (in_single x) e refl
    bounded_still false cap a o (x, n, e) = by_step (in_ring x) e refl

    first_still : (of : QueueForm) (a : QueueAsk T) (o : Option (Deed T)) → MakesFirst Notes of None a o r → Still
    first_still (Bounded cap) a o h = bounded_still (cap == 1) (cap_of cap) a o h
    first_still Unbounded a o (x, n, e) = by_step (in_blocks x) e refl

    still : (at : CallState T) (o : Option (Deed T)) → StateMakes Notes form None at o r → Still
    still (Asked a) o h = first_still form a o h
    still (Single a) o (x, n, e) = by_step (in_single x) e refl
    still (Ring a) o (x, n, e) = by_step (in_ring x) e refl
    still (Blocks a) o (x, n, e) = by_step (in_blocks x) e refl
    still Finished o (n, e) = by_step ended e refl

  -- the operation is the call's next one, which leads it there
  abbrev pub Moves : QueueForm → QueueCall T → Deed T → QueueCall T → Type 0
  Moves form call d next = (answer : Option (QueueReply T)) × CallMakes Notes form None call (Some d) next answer

  moved_on : (form : QueueForm) (call : QueueCall T) (d : Deed T) (next : QueueCall T) (r : Stepped (CallState T) T) → Moves form call d next → Next form (standing form call.state) d r → standing form next.state ≡ r.action
  moved_on form call d next r (answer, made) n =
      let x : Stepped (CallState T) T = record { action = next.state; mark = next.mark; reply = answer } in
      let so : StateMakes Notes form None call.state (Some d) r = as_asked form call.state (Some d) r n in
      let one : next.state ≡ r.action = sym (ap (λ (z : Stepped (CallState T) T). z.action) (one_state form call.state (Some d) x r made so)) in
      ap (λ (z : CallState T). standing form z) one ∙ still form r call.state (Some d) so

module _ {T S : Type 0} (form_of : S → QueueForm) (at : S → QueueCall T) where
  abbrev pub StandsAt : CallState T → S → Type 0
  StandsAt b s = standing (form_of s) (at s).state ≡ b

  -- where each operation that leads the call on may be made
  pub tracked_may : (may : Deed T → S → Type 0) → ((s : S) (d : Deed T) (next : QueueCall T) → Moves (form_of s) (at s) d next → may d s) → MayGoOn StandsAt form_of may
  tracked_may may goes b s d r e n =
      let so = subst (λ (x : CallState T). Next (form_of s) x d r) (sym e) n in
      goes s d (record { state = r.action; mark = r.mark }) (r.reply, as_asked (form_of s) (at s).state (Some d) r so)

  -- where each operation that is done leads the call on, and keeps the form
  pub tracked_goes : (did : Deed T → S → S → Type 0) → ((s t : S) (d : Deed T) → did d s t → Moves (form_of s) (at s) d (at t)) → ((s t : S) (d : Deed T) → did d s t → form_of t ≡ form_of s) → GoesOn StandsAt form_of did
  tracked_goes did goes keeps b s t d r e made n =
      ap (λ (f : QueueForm). standing f (at t).state) (keeps s t d made)
      ∙ moved_on (form_of s) (at s) d (at t) r (goes s t d made) (subst (λ (x : CallState T). Next (form_of s) x d r) (sym e) n)

-- of the calls themselves: whoever may make just what a call makes next, and does so, keeps what `Cells` asks
abbrev pub CallsKeepWhatCellsAsk : Type 0 → Type 0
CallsKeepWhatCellsAsk T =
    (form : QueueForm)
    → MayGoOn (StandsAt (λ (call : QueueCall T). form) (λ (call : QueueCall T). call)) (λ (call : QueueCall T). form) (λ (d : Deed T) (call : QueueCall T). (next : QueueCall T) × Moves form call d next)
    × GoesOn (StandsAt (λ (call : QueueCall T). form) (λ (call : QueueCall T). call)) (λ (call : QueueCall T). form) (λ (d : Deed T) (call next : QueueCall T). Moves form call d next)
