use Rattle.std.proofs.Common.{rules, ◌∙◌, sym, subst, ◌≡◌, ◌≤◌}
use Rattle.std.specs.Prelude.{slice_index}
use Rattle.std.proofs.lemmas.List.{get_or_default}
use Rattle.waybill.proofs.Turns.{unpacked}
use Rattle.waybill.proofs.sink.Sink.unpack.Goals as goal

pub invariant_of-self : goal.invariant_of-self
invariant_of-self g c =
    let m = c.parcel.inside.value in
    let turn = c.is_in_turn.ensures.yes (search rules) in
    let awaited : slice_index c.self.inside.places.items m.sender ≡ c.index.result.now = get_or_default c.self.inside.places.items m.sender 0 c.index.result.now (search rules) ∙ sym c.index.ensures in
    unpacked _ _ _ _ m c.self.invariant (search rules) (subst (λ n. n ≤ m.number) (sym awaited) turn.0) (λ sole. turn.1 sole ∙ sym awaited) (search rules)
