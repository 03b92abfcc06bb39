use Rattle.std.proofs.Common.{◌≡◌, ◌+◌, ◌++◌, ℕ, replicate, refl, sym, ap, ◌∙◌}
use Rattle.concurrent_queue.specs.machine.RingMade.{numbers_below}
use Rattle.concurrent_queue.specs.declared.cells.QueueForm.{QueueForm}
use Rattle.concurrent_queue.specs.declared.cells.QueueForm.TheVariants.{Bounded}
use Rattle.concurrent_queue.specs.history.Shared.{slots_of, words_of, counts_set}
use Rattle.concurrent_queue.proofs.HistoryOpening.{first_words, first_long, opens}
use Rattle.concurrent_queue.proofs.history.table.RuledTable.new.Goals as goal

pub vacant-requires : goal.vacant-requires
vacant-requires g c =
    let is : c.as_slice.result.now ≡ first_words c.args.capacity c.args.counted =
    c.as_slice.ensures.value ∙ (c.in_ok-words.ensures ∙ ap (λ (n : ℕ). counts_set c.args.capacity c.args.counted (replicate (c.args.capacity + 32) 0 ++ numbers_below n)) c.stamps_for-stamps.ensures) in
    opens g.P.Machine.keeps g.P.Machine.admits (Bounded c.args.capacity) c.args.capacity c.args.counted c.as_slice.result.now refl c.requires.capacity c.requires.counted is

pub invariant_of-result : goal.invariant_of-result
invariant_of-result g c =
    let is : c.as_slice.result.now ≡ first_words c.args.capacity c.args.counted =
    c.as_slice.ensures.value ∙ (c.in_ok-words.ensures ∙ ap (λ (n : ℕ). counts_set c.args.capacity c.args.counted (replicate (c.args.capacity + 32) 0 ++ numbers_below n)) c.stamps_for-stamps.ensures) in
    let e = c.in_ok-table.ensures in
    record {
      bounded = e.5 ∙ sym (ap (λ (n : ℕ). Bounded n) e.1);
      slots = e.1 ∙ sym (ap (λ (f : QueueForm). slots_of f) e.5);
      words = e.0 ∙ (first_long c.args.capacity c.args.counted c.as_slice.result.now is ∙ sym (ap (λ (f : QueueForm). slots_of f + words_of f) e.5));
    }
