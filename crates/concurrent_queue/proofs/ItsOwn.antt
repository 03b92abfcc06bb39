-- What a party is about to touch wherever a merge of calls has come.
use Rattle.std.proofs.Common.{◌≡◌, ℕ, zero, suc, List, [], ◌∷◌, Option, Some, slice_get, subst}
use Rattle.concurrent_queue.specs.Contents.{Contents}
use Rattle.concurrent_queue.specs.Step.{ActiveQueueCall}
use Rattle.concurrent_queue.specs.Touched.{on_slot, touched_block, next_target, TouchesItsOwn, EachTouchesItsOwn}
use Rattle.concurrent_queue.specs.machine.Places.{Each}
use Rattle.concurrent_queue.specs.declared.cells.QueueForm.{QueueForm}
use Rattle.concurrent_queue.specs.declared.queue_call.QueueCall.{QueueCall}
use Rattle.concurrent_queue.proofs.Among.{parties_are_among_others}
use Rattle.concurrent_queue.proofs.BlocksTouched.{touched_blocks_are_in_use, blocks_are_given_back_alone}
use Rattle.concurrent_queue.proofs.SlotsTouched.{slots_are_as_expected, slots_are_touched_alone}

-- what holds of each holds of the one at a place
each_get : {A : Type 0} (P : A → Type 0) (xs : List A) (k : ℕ) (x : A) → Each P xs → slice_get xs k ≡ Some x → P x
each_get P [] k x all e = absurd cc
each_get P (y ∷ ys) zero x all e = (let same : y ≡ x = cc in subst P same all.0)
each_get P (y ∷ ys) (suc k) x all e = each_get P ys k x all.1 e

module _ {T : Type 0} where
  -- the same of a queue of this form
  own_at : (form : QueueForm) (c : Contents T) (at : ℕ → Option (QueueCall T)) (p : ℕ) (call : QueueCall T) → c.form ≡ form → TouchesItsOwn c.form c at p call → TouchesItsOwn form c at p call
  own_at form c at p call is h = subst (λ (f : QueueForm). TouchesItsOwn f c at p call) is h

  pub each_touches_its_own : EachTouchesItsOwn T
  each_touches_its_own form events last at led p call is =
      let h = parties_are_among_others form events last at led p call is in
      let others = h.0 in
      let among = h.2 in
      own_at form last at p call h.1 (record {
        slot = λ q other s apart e mine theirs.
            let o = h.3 q other apart e in
            each_get (λ (x : ActiveQueueCall T). next_target last.form x.call ≡ on_slot s → ⊥) others o.0 _ (slots_are_touched_alone last call others s among mine) o.2 theirs;
        expected = slots_are_as_expected last call others among;
        block = λ b e. touched_blocks_are_in_use last call others b among e;
        given_back = λ q other b apart e mine theirs.
            let o = h.3 q other apart e in
            each_get (λ (x : ActiveQueueCall T). touched_block (next_target last.form x.call) ≡ Some b → ⊥) others o.0 _ (blocks_are_given_back_alone last call others b among mine) o.2 theirs;
      })
