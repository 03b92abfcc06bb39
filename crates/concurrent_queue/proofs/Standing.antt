-- Where a call stands after steps of its machine, over cells that ask each operation to be the next one.
use Rattle.std.proofs.Common.{◌≡◌, ℕ, zero, suc, ◌==◌, Bool, true, false, [], ◌∷◌, Option, None, Some, refl, sym, ap, ◌∙◌, subst}
use Rattle.concurrent_queue.specs.Bridge.{Along}
use Rattle.concurrent_queue.specs.Deeds.{Deed, Notes, Ready, Move, loads, stores, exchanges, adds, sets_bits, keeps_bits, puts, takes, spares, retires, rests, Makes, loaded, stored, exchanged, added, bits_set, bits_kept, did_put, did_take, spared, retired}
use Rattle.concurrent_queue.specs.Stands.{Next, MayGoOn, GoesOn, IsMeasured, BoundedReady, FirstReady, StateReady}
use Rattle.concurrent_queue.specs.Walked.{first_bounded, first_of, standing, MakesSingle, MakesRing, MakesBlocks, MakesBounded, MakesFirst, StateMakes, CallMakes}
use Rattle.concurrent_queue.specs.machine.BlocksMakes.{BlocksMakes, ActionMakes, blocks_moves}
use Rattle.concurrent_queue.specs.machine.BlocksWords.{begin, answered, reply_of}
use Rattle.concurrent_queue.specs.machine.Dispatch.{ring_cap, in_single, in_ring, in_blocks}
use Rattle.concurrent_queue.specs.machine.FastPath.{IsStep, Leads, plainly}
use Rattle.concurrent_queue.specs.machine.RingMoves.{RingMakes, ring_moves}
use Rattle.concurrent_queue.specs.machine.RingWords.{cap_of, ring_mark, ring_start}
use Rattle.concurrent_queue.specs.machine.Single.{SingleMakes, single_moves, start}
use Rattle.concurrent_queue.specs.declared.call.QueueAsk.{QueueAsk}
use Rattle.concurrent_queue.specs.declared.call.Stepped.{Stepped}
use Rattle.concurrent_queue.specs.declared.cells.QueueForm.{QueueForm}
use Rattle.concurrent_queue.specs.declared.cells.QueueForm.TheVariants.{Bounded, Unbounded}
use Rattle.concurrent_queue.specs.declared.queue_call.CallState.{CallState}
use Rattle.concurrent_queue.specs.declared.queue_call.CallState.TheVariants.{Asked, Single, Ring, Blocks, Finished}
use Rattle.concurrent_queue.specs.declared.queue_call.QueueCall.{QueueCall}
use Rattle.concurrent_queue.specs.declared.single.SingleAction.{SingleAction}
use Rattle.concurrent_queue.specs.declared.bounded.RingAction.{RingAction}
use Rattle.concurrent_queue.specs.declared.unbounded.action.UnboundedAction.{UnboundedAction}
use Rattle.concurrent_queue.specs.declared.unbounded.action.UnboundedCall.{UnboundedCall}
use Rattle.concurrent_queue.specs.declared.unbounded.ending.Ending.{Ending}
use Rattle.concurrent_queue.proofs.Noted.{note_state}
use Rattle.concurrent_queue.proofs.Walks.{step_keeps, leads_keep}
use Rattle.concurrent_queue.proofs.Resting.{single_rests, ring_rests, blocks_rests}

-- ---- the first action of a call in the form of its queue

module _ {T : Type 0} (P : CallState T → Type 0) (form : QueueForm) (a : QueueAsk T) where
  pub first_single : form ≡ Bounded 1 → P (first_of form a) → P (Single (start a))
  first_single one h = subst (λ (f : QueueForm). P (first_of f a)) one h

  pub first_ring : (capacity : ℕ) → form ≡ Bounded capacity → (capacity == 1) ≡ false → P (first_of form a) → P (Ring (ring_start a))
  first_ring capacity many more h = subst (λ (b : Bool). P (first_bounded b a)) more (subst (λ (f : QueueForm). P (first_of f a)) many h)

  pub first_blocks : form ≡ Unbounded → P (first_of form a) → P (Blocks (begin a))
  first_blocks none h = subst (λ (f : QueueForm). P (first_of f a)) none h

-- ---- what comes next may be made, whatever it answers

module _ {T S : Type 0} (may : Deed T → S → Type 0) where
  any_answer : {A : Type 0} (m : Move T A) (s : S) → ((d : Deed T) (r : A) → Makes Notes m None r (Some d) → may d s) → Ready may m s
  any_answer (loads w k) s go = λ x. go (loaded w x) (k x) (x, refl, refl)
  any_answer (stores w x a) s go = go (stored w x) a (refl, refl)
  any_answer (exchanges w x y k) s go = λ o. go (exchanged w x y o) (k o) (o, refl, refl)
  any_answer (adds w x k) s go = λ o. go (added w x o) (k o) (o, refl, refl)
  any_answer (sets_bits w x k) s go = λ o. go (bits_set w x o) (k o) (o, refl, refl)
  any_answer (keeps_bits w x k) s go = λ o. go (bits_kept w x o) (k o) (o, refl, refl)
  any_answer (puts at v k) s go = λ o. go (did_put at v o) (k o) (o, refl, refl)
  any_answer (takes at k) s go = λ o. go (did_take at o) (k o) (o, refl, refl)
  any_answer (spares k) s go = λ o. go (spared o) (k o) (o, refl, refl)
  any_answer (retires b a) s go = go (retired b) a (refl, refl)
  any_answer (rests a) s go = tt

  module _ (stands : CallState T → S → Type 0) (form_of : S → QueueForm) (ready : MayGoOn stands form_of may) (s : S) where
    pub single_ready : (a : SingleAction T) → stands (Single a) s → Ready may (single_moves a) s
    single_ready a h = any_answer (single_moves a) s (λ d x n. ready (Single a) s d (in_single x) h (x, n, refl))

    ring_next : (a : RingAction T) → stands (Ring a) s → Ready may (ring_moves (ring_cap (form_of s)) (ring_mark (ring_cap (form_of s))) a) s
    ring_next a h = any_answer (ring_moves (ring_cap (form_of s)) (ring_mark (ring_cap (form_of s))) a) s (λ d x n. ready (Ring a) s d (in_ring x) h (x, n, refl))

    pub ring_ready : (cap m : ℕ) (a : RingAction T) → stands (Ring a) s × IsMeasured cap m (form_of s) → Ready may (ring_moves cap m a) s
    ring_ready cap m a (h, (same, marked)) =
        subst (λ (k : ℕ). Ready may (ring_moves k m a) s) (sym same) (subst (λ (k : ℕ). Ready may (ring_moves (ring_cap (form_of s)) k a) s) (sym marked) (ring_next a h))

    pub blocks_ready : (a : UnboundedCall T) → stands (Blocks a) s → Ready may (blocks_moves a.action) s
    blocks_ready a h = any_answer (blocks_moves a.action) s (λ d p n. ready (Blocks a) s d (in_blocks (answered a.displacing p)) h (answered a.displacing p, (p, n, refl), refl))

    bounded_ready : (b : Bool) (cap : ℕ) (a : QueueAsk T) → form_of s ≡ Bounded cap → stands (first_bounded b a) s → BoundedReady may b (cap_of cap) a s
    bounded_ready true cap a e h = single_ready (start a) h
    bounded_ready false cap a e h = subst (λ (f : QueueForm). Ready may (ring_moves (ring_cap f) (ring_mark (ring_cap f)) (ring_start a)) s) e (ring_next (ring_start a) h)

    first_ready : (form : QueueForm) (a : QueueAsk T) → form_of s ≡ form → stands (first_of form a) s → FirstReady may form a s
    first_ready (Bounded cap) a e h = bounded_ready (cap == 1) cap a e h
    first_ready Unbounded a e h = blocks_ready (begin a) h

    -- a call that is at an action may make it
    pub state_ready : (at : CallState T) → stands (standing (form_of s) at) s → StateReady may (form_of s) at s
    state_ready (Asked a) h = first_ready (form_of s) a refl h
    state_ready (Single a) h = single_ready a h
    state_ready (Ring a) h = ring_next a h
    state_ready (Blocks a) h = blocks_ready a h
    state_ready Finished h = tt

-- ---- where a step leads

no_end : {T : Type 0} (b : Bool) (x : Option (Ending T)) → reply_of b x ≡ None → x ≡ None
no_end b None e = refl
no_end b (Some y) e = absurd cc

-- a step that answers nothing, and is no operation, leaves the action as it was
module _ {T : Type 0} (form : QueueForm) where
  abbrev Rests : CallState T → Stepped (CallState T) T → Type 0
  Rests at r = StateMakes Notes form None at None r → r.action ≡ at

  single_rest : (a : SingleAction T) (x : Stepped (SingleAction T) T) → x.reply ≡ None → Rests (Single a) (in_single x)
  single_rest a x none (y, n, e) = ap (λ z. z.action) e ∙ ap Single (single_rests a y n (sym (ap (λ z. z.reply) e) ∙ none))

  ring_rest : (a : RingAction T) (x : Stepped (RingAction T) T) → x.reply ≡ None → Rests (Ring a) (in_ring x)
  ring_rest a x none (y, n, e) = ap (λ z. z.action) e ∙ ap Ring (ring_rests (ring_cap form) (ring_mark (ring_cap form)) a y n (sym (ap (λ z. z.reply) e) ∙ none))

  blocks_rest : (a : UnboundedCall T) (x : Stepped (UnboundedCall T) T) → x.reply ≡ None → Rests (Blocks a) (in_blocks x)
  blocks_rest a x none (y, (p, n, f), e) =
      let over : reply_of a.displacing p.ending ≡ None = sym (ap (λ z. z.reply) f) ∙ (sym (ap (λ z. z.reply) e) ∙ none) in
      let same : p.action ≡ a.action = blocks_rests a.action p n (no_end a.displacing p.ending over) in
      ap (λ z. z.action) e ∙ (ap (λ z. Blocks z.action) f ∙ ap (λ w. Blocks (record { displacing = a.displacing; action = w })) same)

  -- a call's first action is where it stands
  bounded_twice : (b : Bool) (a : QueueAsk T) → standing form (first_bounded b a) ≡ first_bounded b a
  bounded_twice true a = refl
  bounded_twice false a = refl

first_twice : {T : Type 0} (form : QueueForm) (a : QueueAsk T) → standing form (first_of form a) ≡ first_of form a
first_twice (Bounded cap) a = bounded_twice (Bounded cap) (cap == 1) a
first_twice Unbounded a = refl

twice : {T : Type 0} (form : QueueForm) (at : CallState T) → standing form (standing form at) ≡ standing form at
twice form (Asked a) = first_twice form a
twice form (Single a) = refl
twice form (Ring a) = refl
twice form (Blocks a) = refl
twice form Finished = refl

module _ {T S : Type 0} (did : Deed T → S → S → Type 0) (stands : CallState T → S → Type 0) (form_of : S → QueueForm) (keeps_form : (d : Deed T) (s t : S) → did d s t → form_of t ≡ form_of s)
    (leads : GoesOn stands form_of did) where
  noted_on : (form : QueueForm) (at : CallState T) (s t : S) (r : Stepped (CallState T) T) (o : Option (Deed T)) → form_of s ≡ form → stands at s → StateMakes Notes form None at o r → Along did (o ∷ []) s t
      → (StateMakes Notes form None at None r → r.action ≡ at) → stands r.action t
  noted_on form at s t r None e h n same rest = subst (λ (u : S). stands r.action u) (sym same) (subst (λ (x : CallState T). stands x s) (sym (rest n)) h)
  noted_on form at s t r (Some d) e h n (m, made, same) rest =
      subst (λ (u : S). stands r.action u) (sym same) (leads at s m d r h made (subst (λ (f : QueueForm). Next f at d r) (sym e) n))

  on : (form : QueueForm) (at : CallState T) (s t : S) (r : Stepped (CallState T) T) → form_of s ≡ form → stands at s → StateMakes did form s at t r → (StateMakes Notes form None at None r → r.action ≡ at) → stands r.action t
  on form at s t r e h made rest = let n = note_state did form s at t r made in noted_on form at s t r (n.0) e h (n.1) (n.2) rest

  -- ---- by the machine of each form

  single_goes : (form : QueueForm) (a : SingleAction T) (s t : S) (x : Stepped (SingleAction T) T) → form_of s ≡ form → stands (Single a) s → SingleMakes did s a t x → x.reply ≡ None → stands (Single x.action) t
  single_goes form a s t x e h made none = on form (Single a) s t (in_single x) e h (x, made, refl) (single_rest form a x none)

  ring_goes : (form : QueueForm) (a : RingAction T) (s t : S) (x : Stepped (RingAction T) T) → form_of s ≡ form → stands (Ring a) s → RingMakes (ring_cap form) (ring_mark (ring_cap form)) did s a t x → x.reply ≡ None → stands (Ring x.action) t
  ring_goes form a s t x e h made none = on form (Ring a) s t (in_ring x) e h (x, made, refl) (ring_rest form a x none)

  blocks_goes : (form : QueueForm) (a : UnboundedCall T) (s t : S) (x : Stepped (UnboundedCall T) T) → form_of s ≡ form → stands (Blocks a) s → BlocksMakes did s a t x → x.reply ≡ None → stands (Blocks x.action) t
  blocks_goes form a s t x e h made none = on form (Blocks a) s t (in_blocks x) e h (x, made, refl) (blocks_rest form a x none)

  pub single_on : (s t : S) (a b : SingleAction T) → stands (Single a) s → IsStep (SingleMakes did) s a t b → stands (Single b) t
  single_on s t a b h (k, made) = single_goes (form_of s) a s t (record { action = b; mark = k; reply = None }) refl h made refl

  -- of a ring of these measures
  abbrev pub AtRing : ℕ → ℕ → RingAction T → S → Type 0
  AtRing cap m a s = stands (Ring a) s × IsMeasured cap m (form_of s)

  pub ring_on : (cap m : ℕ) (s t : S) (a b : RingAction T) → AtRing cap m a s → IsStep (RingMakes cap m did) s a t b → AtRing cap m b t
  ring_on cap m s t a b (h, (same, marked)) (k, made) =
      let f = form_of s in
      let x : Stepped (RingAction T) T = record { action = b; mark = k; reply = None } in
      let made_so : RingMakes (ring_cap f) (ring_mark (ring_cap f)) did s a t x =
      subst (λ (n : ℕ). RingMakes n (ring_mark (ring_cap f)) did s a t x) same (subst (λ (n : ℕ). RingMakes cap n did s a t x) marked made) in
      let kept = step_keeps did form_of keeps_form f s (Ring a) t (in_ring x) (x, made_so, refl) in
      (ring_goes f a s t x refl h made_so refl, subst (λ (g : QueueForm). IsMeasured cap m g) (sym kept) (same, marked))

  pub blocks_on : (s t : S) (a b : UnboundedAction T) → stands (Blocks (plainly a)) s → IsStep (ActionMakes did) s a t b → stands (Blocks (plainly b)) t
  blocks_on s t a b h (k, made) = blocks_goes (form_of s) (plainly a) s t (record { action = plainly b; mark = k; reply = None }) refl h made refl

  -- ---- in the words of all calls

  module _ (form : QueueForm) (s t : S) (r : Stepped (CallState T) T) (e : form_of s ≡ form) (none : r.reply ≡ None) where
    abbrev StandsOn : Type 0
    StandsOn = stands (standing form r.action) t

    single_state : (a : SingleAction T) → stands (Single a) s → MakesSingle did s a t r → StandsOn
    single_state a h (x, made, f) = subst (λ z. stands (standing form z.action) t) (sym f) (single_goes form a s t x e h made (sym (ap (λ z. z.reply) f) ∙ none))

    ring_state : (a : RingAction T) → stands (Ring a) s → MakesRing did (ring_cap form) s a t r → StandsOn
    ring_state a h (x, made, f) = subst (λ z. stands (standing form z.action) t) (sym f) (ring_goes form a s t x e h made (sym (ap (λ z. z.reply) f) ∙ none))

    blocks_state : (a : UnboundedCall T) → stands (Blocks a) s → MakesBlocks did s a t r → StandsOn
    blocks_state a h (x, made, f) = subst (λ z. stands (standing form z.action) t) (sym f) (blocks_goes form a s t x e h made (sym (ap (λ z. z.reply) f) ∙ none))

  bounded_state : (b : Bool) (cap : ℕ) (a : QueueAsk T) (s t : S) (r : Stepped (CallState T) T) → form_of s ≡ Bounded cap → stands (first_bounded b a) s → MakesBounded did b (cap_of cap) s a t r → r.reply ≡ None → stands (standing (Bounded cap) r.action) t
  bounded_state true cap a s t r e h made none = single_state (Bounded cap) s t r e none (start a) h made
  bounded_state false cap a s t r e h made none = ring_state (Bounded cap) s t r e none (ring_start a) h made

  first_state : (form : QueueForm) (a : QueueAsk T) (s t : S) (r : Stepped (CallState T) T) → form_of s ≡ form → stands (first_of form a) s → MakesFirst did form s a t r → r.reply ≡ None → stands (standing form r.action) t
  first_state (Bounded cap) a s t r e h made none = bounded_state (cap == 1) cap a s t r e h made none
  first_state Unbounded a s t r e h made none = blocks_state Unbounded s t r e none (begin a) h made

  -- A STEP that answers nothing leaves a call where its machine goes
  pub state_goes : (form : QueueForm) (at : CallState T) (s t : S) (r : Stepped (CallState T) T) → form_of s ≡ form → stands (standing form at) s → StateMakes did form s at t r → r.reply ≡ None → stands (standing form r.action) t
  state_goes form (Asked a) s t r e h made none = first_state form a s t r e h made none
  state_goes form (Single a) s t r e h made none = single_state form s t r e none a h made
  state_goes form (Ring a) s t r e h made none = ring_state form s t r e none a h made
  state_goes form (Blocks a) s t r e h made none = blocks_state form s t r e none a h made
  state_goes form Finished s t r e h (same, f) none = subst (λ z. stands (standing form z.action) t) (sym f) (subst (λ (u : S). stands Finished u) (sym same) h)

  led : (form : QueueForm) (n : ℕ) (s : S) (at : CallState T) (t : S) (b : CallState T) → form_of s ≡ form → stands (standing form at) s → Leads (StateMakes did form) n s at t b → stands (standing form b) t
  led form zero s at t b e h (same, f) = subst (λ (x : CallState T). stands (standing form x) t) (sym f) (subst (λ (u : S). stands (standing form at) u) (sym same) h)
  led form (suc n) s at t b e h (x, y, (k, step), path) =
      let r : Stepped (CallState T) T = record { action = y; mark = k; reply = None } in
      led form n x y t b (step_keeps did form_of keeps_form form s at x r step ∙ e) (state_goes form at s x r e h step refl) path

  -- so do the steps of a fast path, up to where the call that they leave stands
  pub led_on : (form : QueueForm) (s : S) (at : CallState T) (t : S) (b : CallState T) → form_of s ≡ form → stands (standing form at) s → (n : ℕ) × Leads (StateMakes did form) n s (standing form at) t (standing form b) → stands (standing (form_of t) b) t
  led_on form s at t b e h (n, path) =
      let kept : form_of t ≡ form = leads_keep did form_of keeps_form form n s (standing form at) t (standing form b) path ∙ e in
      subst (λ (f : QueueForm). stands (standing f b) t) (sym kept)
      (subst (λ (x : CallState T). stands x t) (twice form b) (led form n s (standing form at) t (standing form b) e (subst (λ (x : CallState T). stands x s) (sym (twice form at)) h) path))

  -- one step of a call, as `QueueCall::step` says it
  pub step_on : (call : QueueCall T) (s t : S) (next : QueueCall T) → stands (standing (form_of s) call.state) s → CallMakes did (form_of s) s call t next None → stands (standing (form_of t) next.state) t
  step_on call s t next h made =
      let r : Stepped (CallState T) T = record { action = next.state; mark = next.mark; reply = None } in
      let kept = step_keeps did form_of keeps_form (form_of s) s call.state t r made in
      subst (λ (f : QueueForm). stands (standing f next.state) t) (sym kept) (state_goes (form_of s) call.state s t r refl h made refl)
