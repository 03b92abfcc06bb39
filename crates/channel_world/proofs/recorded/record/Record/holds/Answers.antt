-- From the entry at the receipt's place.
use Rattle.std.specs.Prelude.{◌≡◌}
use Rattle.channel_world.proofs.Words.{◌∙◌, ap, refl, length, slice_get, Some, None, slice_get_read, slice_get_past, RecordView}
use Rattle.channel_world.proofs.recorded.record.Record.holds.Goals as goal

pub returns-in-Some : goal.returns-in-Some
returns-in-Some g c =
    let l = c.in-Some.ensures.lookup in
    let same : c.deref.result.now ≡ c.args.self.now.entries = c.deref.ensures.value ∙ ap (λ (v : RecordView g.row.T.Denot). v.entries) c.self.view_is in
    let there : slice_get c.deref.result.now c.args.receipt.now.place ≡ Some c.in-Some.entry.now =
    slice_get_read c.deref.result.now (length c.deref.result.now) c.args.receipt.now.place c.in-Some.entry.now refl l.3.0 l.1 in
    rw (← same, there) c.eq.ensures

pub returns-in-None : goal.returns-in-None
returns-in-None g c =
    let l = c.in-None.ensures.lookup in
    let same : c.deref.result.now ≡ c.args.self.now.entries = c.deref.ensures.value ∙ ap (λ (v : RecordView g.row.T.Denot). v.entries) c.self.view_is in
    let none : slice_get c.deref.result.now c.args.receipt.now.place ≡ None = slice_get_past c.deref.result.now c.args.receipt.now.place l.3 in
    rw (← same, none) refl
