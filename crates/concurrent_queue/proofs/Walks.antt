-- Chains of steps of a call over cells of any kind.
use Rattle.std.proofs.Common.{◌≡◌, ℕ, zero, suc, ◌==◌, Bool, true, false, None, Some, refl, sym, subst, ap, ◌∙◌}
use Rattle.concurrent_queue.specs.Deeds.{Deed, Move, loads, stores, exchanges, adds, sets_bits, keeps_bits, puts, takes, spares, retires, rests, Makes, loaded, stored, exchanged, added, bits_set, bits_kept, did_put, did_take, spared, retired}
use Rattle.concurrent_queue.specs.machine.FastPath.{IsStep, Leads, Ends, plainly}
use Rattle.concurrent_queue.specs.machine.Single.{SingleMakes, single_moves, start}
use Rattle.concurrent_queue.specs.machine.RingWords.{cap_of, ring_mark, ring_start}
use Rattle.concurrent_queue.specs.machine.RingMoves.{RingMakes, ring_moves}
use Rattle.concurrent_queue.specs.machine.BlocksWords.{begin}
use Rattle.concurrent_queue.specs.machine.BlocksMakes.{ActionMakes, blocks_moves}
use Rattle.concurrent_queue.specs.machine.Dispatch.{ring_cap}
use Rattle.concurrent_queue.specs.Walked.{first_bounded, first_of, standing, MakesBlocks, MakesBounded, MakesFirst, StateMakes, CallMakes, WalkedFrom, Walked}
use Rattle.concurrent_queue.specs.declared.call.QueueAsk.{QueueAsk}
use Rattle.concurrent_queue.specs.declared.call.QueueReply.{QueueReply}
use Rattle.concurrent_queue.specs.declared.call.Stepped.{Stepped}
use Rattle.concurrent_queue.specs.declared.cells.QueueForm.{QueueForm}
use Rattle.concurrent_queue.specs.declared.cells.QueueForm.TheVariants.{Bounded, Unbounded}
use Rattle.concurrent_queue.specs.declared.single.SingleAction.{SingleAction}
use Rattle.concurrent_queue.specs.declared.bounded.RingAction.{RingAction}
use Rattle.concurrent_queue.specs.declared.unbounded.action.UnboundedAction.{UnboundedAction}
use Rattle.concurrent_queue.specs.declared.unbounded.action.UnboundedCall.{UnboundedCall}
use Rattle.concurrent_queue.specs.declared.queue_call.CallState.{CallState}
use Rattle.concurrent_queue.specs.declared.queue_call.QueueCall.{QueueCall}
use Rattle.concurrent_queue.specs.declared.queue_call.CallState.TheVariants.{Asked, Single, Ring, Blocks, Finished}

-- ---- any machine

module _ {T A S : Type 0} (Step : S → A → S → Stepped A T → Type 0) where
  -- one more step behind others
  pub leads_on : (n : ℕ) (c : S) (a : A) (x : S) (y : A) (d : S) (b : A) → Leads Step n c a x y → IsStep Step x y d b → Leads Step (suc n) c a d b
  leads_on zero c a x y d b (e, f) s = (d, b, subst (λ (z : S). IsStep Step z a d b) e (subst (λ (z : A). IsStep Step x z d b) f s), (refl, refl))
  leads_on (suc n) c a x y d b (x1, y1, s1, path) s = (x1, y1, s1, leads_on n x1 y1 x y d b path s)

  -- steps behind which others end
  pub ends_after : (n : ℕ) (c : S) (a : A) (x : S) (y : A) (d : S) (r : QueueReply T) → Leads Step n c a x y → ((k : ℕ) × Ends Step k x y d r) → (k : ℕ) × Ends Step k c a d r
  ends_after zero c a x y d r (e, f) (k, h) = (k, subst (λ (z : S). Ends Step k z a d r) e (subst (λ (z : A). Ends Step k x z d r) f h))
  ends_after (suc n) c a x y d r (x1, y1, s1, path) h =
      let more = ends_after n x1 y1 x y d r path h in
      (suc (more.0), (more.1.0, more.1.1, more.1.2, more.1.3, (x1, y1, s1, more.1.4), more.1.5))

-- one machine's steps are another's
module _ {T A B S : Type 0} (Step : S → A → S → Stepped A T → Type 0) (Wide : S → B → S → Stepped B T → Type 0) (at : A → B)
    (widens : (s : S) (a : A) (t : S) (x : Stepped A T) → Step s a t x → Wide s (at a) t (record { action = at x.action; mark = x.mark; reply = x.reply })) where
  pub leads_wide : (n : ℕ) (s : S) (a : A) (t : S) (b : A) → Leads Step n s a t b → Leads Wide n s (at a) t (at b)
  leads_wide zero s a t b (e, f) = (e, ap at f)
  leads_wide (suc n) s a t b (x, y, (m, step), path) =
      (x, at y, (m, widens s a x (record { action = y; mark = m; reply = None }) step), leads_wide n x y t b path)

  pub ends_wide : (n : ℕ) (s : S) (a : A) (t : S) (r : QueueReply T) → Ends Step n s a t r → Ends Wide n s (at a) t r
  ends_wide n s a t r (x, y, z, m, path, last) =
      (x, at y, at z, m, leads_wide n s a x y path, widens x y t (record { action = z; mark = m; reply = Some r }) last)

-- what is done by the one relation is done by the other as it is seen
module _ {T S R : Type 0} (did : Deed T → S → S → Type 0) (seen : Deed T → R → R → Type 0) (view : S → R) (shows : (d : Deed T) (s t : S) → did d s t → seen d (view s) (view t)) where
  makes_seen : {A : Type 0} (m : Move T A) (s : S) (r : A) (t : S) → Makes did m s r t → Makes seen m (view s) r (view t)
  makes_seen (loads w k) s r t (x, d, e) = (x, shows (loaded w x) s t d, e)
  makes_seen (stores w x a) s r t (d, e) = (shows (stored w x) s t d, e)
  makes_seen (exchanges w x y k) s r t (o, d, e) = (o, shows (exchanged w x y o) s t d, e)
  makes_seen (adds w x k) s r t (o, d, e) = (o, shows (added w x o) s t d, e)
  makes_seen (sets_bits w x k) s r t (o, d, e) = (o, shows (bits_set w x o) s t d, e)
  makes_seen (keeps_bits w x k) s r t (o, d, e) = (o, shows (bits_kept w x o) s t d, e)
  makes_seen (puts at v k) s r t (o, d, e) = (o, shows (did_put at v o) s t d, e)
  makes_seen (takes at k) s r t (o, d, e) = (o, shows (did_take at o) s t d, e)
  makes_seen (spares k) s r t (o, d, e) = (o, shows (spared o) s t d, e)
  makes_seen (retires b a) s r t (d, e) = (shows (retired b) s t d, e)
  makes_seen (rests a) s r t (same, e) = (ap view same, e)

  bounded_seen : (b : Bool) (cap : ℕ) (s : S) (a : QueueAsk T) (t : S) (r : Stepped (CallState T) T) → MakesBounded did b cap s a t r → MakesBounded seen b cap (view s) a (view t) r
  bounded_seen true cap s a t r (x, h, e) = (x, makes_seen (single_moves (start a)) s x t h, e)
  bounded_seen false cap s a t r (x, h, e) = (x, makes_seen (ring_moves cap (ring_mark cap) (ring_start a)) s x t h, e)

  blocks_seen : (s : S) (a : UnboundedCall T) (t : S) (r : Stepped (CallState T) T) → MakesBlocks did s a t r → MakesBlocks seen (view s) a (view t) r
  blocks_seen s a t r (x, (p, h, f), e) = (x, (p, makes_seen (blocks_moves a.action) s p t h, f), e)

  first_seen : (form : QueueForm) (s : S) (a : QueueAsk T) (t : S) (r : Stepped (CallState T) T) → MakesFirst did form s a t r → MakesFirst seen form (view s) a (view t) r
  first_seen (Bounded cap) s a t r h = bounded_seen (cap == 1) (cap_of cap) s a t r h
  first_seen Unbounded s a t r h = blocks_seen s (begin a) t r h

  pub state_seen : (form : QueueForm) (s : S) (at : CallState T) (t : S) (r : Stepped (CallState T) T) → StateMakes did form s at t r → StateMakes seen form (view s) at (view t) r
  state_seen form s (Asked a) t r h = first_seen form s a t r h
  state_seen form s (Single a) t r (x, h, e) = (x, makes_seen (single_moves a) s x t h, e)
  state_seen form s (Ring a) t r (x, h, e) = (x, makes_seen (ring_moves (ring_cap form) (ring_mark (ring_cap form)) a) s x t h, e)
  state_seen form s (Blocks a) t r h = blocks_seen s a t r h
  state_seen form s Finished t r (same, e) = (ap view same, e)

  pub leads_seen : (form : QueueForm) (n : ℕ) (s : S) (a : CallState T) (t : S) (b : CallState T) → Leads (StateMakes did form) n s a t b → Leads (StateMakes seen form) n (view s) a (view t) b
  leads_seen form zero s a t b (e, f) = (ap view e, f)
  leads_seen form (suc n) s a t b (x, y, (m, step), path) = (view x, y, (m, state_seen form s a x (record { action = y; mark = m; reply = None }) step), leads_seen form n x y t b path)

  pub walked_seen : (form : QueueForm) (s : S) (a : CallState T) (t : S) (r : QueueReply T) → WalkedFrom did form a s r t → WalkedFrom seen form a (view s) r (view t)
  walked_seen form s a t r (n, (x, y, z, m, path, last)) =
      (n, (view x, y, z, m, leads_seen form n s a x y path, state_seen form x y t (record { action = z; mark = m; reply = Some r }) last))

-- ---- calls of a queue

module _ {T S : Type 0} (did : Deed T → S → S → Type 0) where
  -- no step changes what no deed changes
  module _ {F : Type 0} (of : S → F) (keeps : (d : Deed T) (s t : S) → did d s t → of t ≡ of s) where
    abbrev kept : Deed T → F → F → Type 0
    kept d f g = g ≡ f

    moved_keeps : {A : Type 0} (m : Move T A) (f g : F) (r : A) → Makes kept m f r g → g ≡ f
    moved_keeps (loads w k) f g r (x, d, e) = d
    moved_keeps (stores w x a) f g r (d, e) = d
    moved_keeps (exchanges w x y k) f g r (o, d, e) = d
    moved_keeps (adds w x k) f g r (o, d, e) = d
    moved_keeps (sets_bits w x k) f g r (o, d, e) = d
    moved_keeps (keeps_bits w x k) f g r (o, d, e) = d
    moved_keeps (puts at v k) f g r (o, d, e) = d
    moved_keeps (takes at k) f g r (o, d, e) = d
    moved_keeps (spares k) f g r (o, d, e) = d
    moved_keeps (retires b a) f g r (d, e) = d
    moved_keeps (rests a) f g r (same, e) = same

    bounded_keeps : (b : Bool) (cap : ℕ) (f : F) (a : QueueAsk T) (g : F) (r : Stepped (CallState T) T) → MakesBounded kept b cap f a g r → g ≡ f
    bounded_keeps true cap f a g r (x, h, e) = moved_keeps (single_moves (start a)) f g x h
    bounded_keeps false cap f a g r (x, h, e) = moved_keeps (ring_moves cap (ring_mark cap) (ring_start a)) f g x h

    blocks_keeps : (f : F) (a : UnboundedCall T) (g : F) (r : Stepped (CallState T) T) → MakesBlocks kept f a g r → g ≡ f
    blocks_keeps f a g r (x, (p, h, e1), e) = moved_keeps (blocks_moves a.action) f g p h

    state_keeps : (form : QueueForm) (f : F) (at : CallState T) (g : F) (r : Stepped (CallState T) T) → StateMakes kept form f at g r → g ≡ f
    state_keeps (Bounded cap) f (Asked a) g r h = bounded_keeps (cap == 1) (cap_of cap) f a g r h
    state_keeps Unbounded f (Asked a) g r h = blocks_keeps f (begin a) g r h
    state_keeps form f (Single a) g r (x, h, e) = moved_keeps (single_moves a) f g x h
    state_keeps form f (Ring a) g r (x, h, e) = moved_keeps (ring_moves (ring_cap form) (ring_mark (ring_cap form)) a) f g x h
    state_keeps form f (Blocks a) g r h = blocks_keeps f a g r h
    state_keeps form f Finished g r (same, e) = same

    pub step_keeps : (form : QueueForm) (s : S) (at : CallState T) (t : S) (r : Stepped (CallState T) T) → StateMakes did form s at t r → of t ≡ of s
    step_keeps form s at t r h = state_keeps form (of s) at (of t) r (state_seen did kept of keeps form s at t r h)

    pub leads_keep : (form : QueueForm) (n : ℕ) (s : S) (a : CallState T) (t : S) (b : CallState T) → Leads (StateMakes did form) n s a t b → of t ≡ of s
    leads_keep form zero s a t b (e, f) = ap of e
    leads_keep form (suc n) s a t b (x, y, (m, step), path) =
        leads_keep form n x y t b path ∙ step_keeps form s a x (record { action = y; mark = m; reply = None }) step

  -- a call that has made no step stands at its first action
  bounded_first : (b : Bool) (cap : ℕ) (s : S) (a : QueueAsk T) (t : S) (r : Stepped (CallState T) T) → StateMakes did (Bounded cap) s (first_bounded b a) t r → MakesBounded did b (cap_of cap) s a t r
  bounded_first true cap s a t r h = h
  bounded_first false cap s a t r h = h

  makes_first : (form : QueueForm) (s : S) (a : QueueAsk T) (t : S) (r : Stepped (CallState T) T) → StateMakes did form s (first_of form a) t r → StateMakes did form s (Asked a) t r
  makes_first (Bounded cap) s a t r h = bounded_first (cap == 1) cap s a t r h
  makes_first Unbounded s a t r h = h

  walked_asking : (form : QueueForm) (s : S) (a : QueueAsk T) (t : S) (r : QueueReply T) → WalkedFrom did form (first_of form a) s r t → WalkedFrom did form (Asked a) s r t
  walked_asking form s a t r (zero, (x, y, z, m, (e, f), last)) =
      let end : Stepped (CallState T) T = record { action = z; mark = m; reply = Some r } in
      let from : StateMakes did form s (first_of form a) t end = subst (λ (u : S). StateMakes did form u (first_of form a) t end) e (subst (λ (u : CallState T). StateMakes did form x u t end) f last) in
      (zero, (s, Asked a, z, m, (refl, refl), makes_first form s a t end from))
  walked_asking form s a t r (suc n, (x, y, z, m, (x1, y1, (m1, step), path), last)) =
      (suc n, (x, y, z, m, (x1, y1, (m1, makes_first form s a x1 (record { action = y1; mark = m1; reply = None }) step), path), last))

  pub walked_standing : (form : QueueForm) (s : S) (at : CallState T) (t : S) (r : QueueReply T) → WalkedFrom did form (standing form at) s r t → WalkedFrom did form at s r t
  walked_standing form s (Asked a) t r h = walked_asking form s a t r h
  walked_standing form s (Single a) t r h = h
  walked_standing form s (Ring a) t r h = h
  walked_standing form s (Blocks a) t r h = h
  walked_standing form s Finished t r h = h

  first_bounded_of : (b : Bool) (cap : ℕ) (s : S) (a : QueueAsk T) (t : S) (r : Stepped (CallState T) T) → MakesBounded did b (cap_of cap) s a t r → StateMakes did (Bounded cap) s (first_bounded b a) t r
  first_bounded_of true cap s a t r h = h
  first_bounded_of false cap s a t r h = h

  first_makes : (form : QueueForm) (s : S) (a : QueueAsk T) (t : S) (r : Stepped (CallState T) T) → StateMakes did form s (Asked a) t r → StateMakes did form s (first_of form a) t r
  first_makes (Bounded cap) s a t r h = first_bounded_of (cap == 1) cap s a t r h
  first_makes Unbounded s a t r h = h

  asked_walked : (form : QueueForm) (s : S) (a : QueueAsk T) (t : S) (r : QueueReply T) → WalkedFrom did form (Asked a) s r t → WalkedFrom did form (first_of form a) s r t
  asked_walked form s a t r (zero, (x, y, z, m, (e, f), last)) =
      let end : Stepped (CallState T) T = record { action = z; mark = m; reply = Some r } in
      let from : StateMakes did form s (Asked a) t end = subst (λ (u : S). StateMakes did form u (Asked a) t end) e (subst (λ (u : CallState T). StateMakes did form x u t end) f last) in
      (zero, (s, first_of form a, z, m, (refl, refl), first_makes form s a t end from))
  asked_walked form s a t r (suc n, (x, y, z, m, (x1, y1, (m1, step), path), last)) =
      (suc n, (x, y, z, m, (x1, y1, (m1, first_makes form s a x1 (record { action = y1; mark = m1; reply = None }) step), path), last))

  standing_walked : (form : QueueForm) (s : S) (at : CallState T) (t : S) (r : QueueReply T) → WalkedFrom did form at s r t → WalkedFrom did form (standing form at) s r t
  standing_walked form s (Asked a) t r h = asked_walked form s a t r h
  standing_walked form s (Single a) t r h = h
  standing_walked form s (Ring a) t r h = h
  standing_walked form s (Blocks a) t r h = h
  standing_walked form s Finished t r h = h

  -- what straight code leaves is walked on, over cells of the same form
  pub walked_on : (form now : QueueForm) (n : ℕ) (s : S) (a : CallState T) (x : S) (b : CallState T) (t : S) (r : QueueReply T) → now ≡ form → Leads (StateMakes did form) n s a x (standing form b) → WalkedFrom did now b x r t → WalkedFrom did form a s r t
  walked_on form now n s a x b t r same path rest =
      ends_after (StateMakes did form) n s a x (standing form b) t r path (standing_walked form x b t r (subst (λ (f : QueueForm). WalkedFrom did f b x r t) same rest))

  -- one step that ends a call, or two
  pub walked_one : (form : QueueForm) (s : S) (call : QueueCall T) (t : S) (last : QueueCall T) (r : QueueReply T) → CallMakes did form s call t last (Some r) → Walked did form call s r t
  walked_one form s call t last r h = (0, (s, call.state, last.state, last.mark, (refl, refl), h))

  pub walked_two : (form now : QueueForm) (s : S) (call : QueueCall T) (x : S) (next : QueueCall T) (t : S) (last : QueueCall T) (r : QueueReply T)
      → now ≡ form → CallMakes did form s call x next None → CallMakes did now x next t last (Some r) → Walked did form call s r t
  walked_two form now s call x next t last r same h h1 =
      (1, (x, next.state, last.state, last.mark, (x, next.state, (next.mark, h), (refl, refl)), subst (λ (f : QueueForm). CallMakes did f x next t last (Some r)) same h1))

  -- ---- what straight code makes of a form's actions

  single_wide : (form : QueueForm) (s : S) (a : SingleAction T) (t : S) (x : Stepped (SingleAction T) T) → SingleMakes did s a t x → StateMakes did form s (Single a) t (record { action = Single x.action; mark = x.mark; reply = x.reply })
  single_wide form s a t x h = (x, h, refl)

  ring_wide : (form : QueueForm) (s : S) (a : RingAction T) (t : S) (x : Stepped (RingAction T) T) → RingMakes (ring_cap form) (ring_mark (ring_cap form)) did s a t x → StateMakes did form s (Ring a) t (record { action = Ring x.action; mark = x.mark; reply = x.reply })
  ring_wide form s a t x h = (x, h, refl)

  abbrev at_blocks : UnboundedAction T → CallState T
  at_blocks a = Blocks (plainly a)

  blocks_wide : (form : QueueForm) (s : S) (a : UnboundedAction T) (t : S) (x : Stepped (UnboundedAction T) T) → ActionMakes did s a t x → StateMakes did form s (at_blocks a) t (record { action = at_blocks x.action; mark = x.mark; reply = x.reply })
  blocks_wide form s a t x h = (record { action = plainly x.action; mark = x.mark; reply = x.reply }, h, refl)

  module _ (form : QueueForm) (s t : S) (a : QueueAsk T) where
    module _ (one : form ≡ Bounded 1) where
      pub single_walked : (r : QueueReply T) → ((n : ℕ) × Ends (SingleMakes did) n s (start a) t r) → WalkedFrom did form (first_of form a) s r t
      single_walked r (n, h) = subst (λ (f : QueueForm). WalkedFrom did f (first_of f a) s r t) (sym one) (n, ends_wide (SingleMakes did) (StateMakes did (Bounded 1)) Single (single_wide (Bounded 1)) n s (start a) t r h)

      pub single_left : (b : SingleAction T) (at : CallState T) → at ≡ Single b → ((n : ℕ) × Leads (SingleMakes did) n s (start a) t b) → (n : ℕ) × Leads (StateMakes did form) n s (first_of form a) t (standing form at)
      single_left b at same (n, h) =
          subst (λ (f : QueueForm). (n : ℕ) × Leads (StateMakes did f) n s (first_of f a) t (standing f at)) (sym one)
          (subst (λ (u : CallState T). (n : ℕ) × Leads (StateMakes did (Bounded 1)) n s (Single (start a)) t (standing (Bounded 1) u)) (sym same)
          (n, leads_wide (SingleMakes did) (StateMakes did (Bounded 1)) Single (single_wide (Bounded 1)) n s (start a) t b h))

    module _ (capacity cap m : ℕ) (many : form ≡ Bounded capacity) (more : (capacity == 1) ≡ false) (same : cap ≡ cap_of capacity) (marked : m ≡ ring_mark (cap_of capacity)) where
      abbrev Measured : ℕ → ℕ → S → RingAction T → S → Stepped (RingAction T) T → Type 0
      Measured k l = RingMakes k l did

      in_form : (P : QueueForm → CallState T → Type 0) → P (Bounded capacity) (Ring (ring_start a)) → P form (first_of form a)
      in_form P h = subst (λ (f : QueueForm). P f (first_of f a)) (sym many) (subst (λ (b : Bool). P (Bounded capacity) (first_bounded b a)) (sym more) h)

      pub ring_walked : (r : QueueReply T) → ((n : ℕ) × Ends (RingMakes cap m did) n s (ring_start a) t r) → WalkedFrom did form (first_of form a) s r t
      ring_walked r went =
          let P : ℕ → ℕ → Type 0 = λ k l. (n : ℕ) × Ends (Measured k l) n s (ring_start a) t r in
          let made : P (cap_of capacity) (ring_mark (cap_of capacity)) = subst (λ (k : ℕ). P k (ring_mark (cap_of capacity))) same (subst (P cap) marked went) in
          in_form (λ f at. WalkedFrom did f at s r t) (made.0, ends_wide (Measured (cap_of capacity) (ring_mark (cap_of capacity))) (StateMakes did (Bounded capacity)) Ring (ring_wide (Bounded capacity)) (made.0) s (ring_start a) t r (made.1))

      pub ring_left : (b : RingAction T) (at : CallState T) → at ≡ Ring b → ((n : ℕ) × Leads (RingMakes cap m did) n s (ring_start a) t b) → (n : ℕ) × Leads (StateMakes did form) n s (first_of form a) t (standing form at)
      ring_left b at stands went =
          let P : ℕ → ℕ → Type 0 = λ k l. (n : ℕ) × Leads (Measured k l) n s (ring_start a) t b in
          let made : P (cap_of capacity) (ring_mark (cap_of capacity)) = subst (λ (k : ℕ). P k (ring_mark (cap_of capacity))) same (subst (P cap) marked went) in
          in_form (λ f from. (n : ℕ) × Leads (StateMakes did f) n s from t (standing f at))
          (subst (λ (u : CallState T). (n : ℕ) × Leads (StateMakes did (Bounded capacity)) n s (Ring (ring_start a)) t (standing (Bounded capacity) u)) (sym stands)
          (made.0, leads_wide (Measured (cap_of capacity) (ring_mark (cap_of capacity))) (StateMakes did (Bounded capacity)) Ring (ring_wide (Bounded capacity)) (made.0) s (ring_start a) t b (made.1)))

    module _ (unbound : form ≡ Unbounded) (first : UnboundedAction T) (begins : begin a ≡ plainly first) where
      pub blocks_walked : (r : QueueReply T) → ((n : ℕ) × Ends (ActionMakes did) n s first t r) → WalkedFrom did form (first_of form a) s r t
      blocks_walked r (n, h) =
          subst (λ (f : QueueForm). WalkedFrom did f (first_of f a) s r t) (sym unbound)
          (subst (λ (u : UnboundedCall T). WalkedFrom did Unbounded (Blocks u) s r t) (sym begins)
          (n, ends_wide (ActionMakes did) (StateMakes did Unbounded) at_blocks (blocks_wide Unbounded) n s first t r h))

      pub blocks_left : (b : UnboundedAction T) (at : CallState T) → at ≡ Blocks (plainly b) → ((n : ℕ) × Leads (ActionMakes did) n s first t b) → (n : ℕ) × Leads (StateMakes did form) n s (first_of form a) t (standing form at)
      blocks_left b at same (n, h) =
          subst (λ (f : QueueForm). (n : ℕ) × Leads (StateMakes did f) n s (first_of f a) t (standing f at)) (sym unbound)
          (subst (λ (u : UnboundedCall T). (n : ℕ) × Leads (StateMakes did Unbounded) n s (Blocks u) t (standing Unbounded at)) (sym begins)
          (subst (λ (u : CallState T). (n : ℕ) × Leads (StateMakes did Unbounded) n s (at_blocks first) t (standing Unbounded u)) (sym same)
          (n, leads_wide (ActionMakes did) (StateMakes did Unbounded) at_blocks (blocks_wide Unbounded) n s first t b h)))
