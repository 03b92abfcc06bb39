use Rattle.std.proofs.Common.{inl, inr, sym, ◌∙◌, subst}
use Rattle.channel_calls.specs.Blocks.{Asked, Slept, Looks, AnswersAtFirst, Listens, SleepsOn}
use Rattle.channel_calls.specs.Deeds.{Done}
use Rattle.channel_calls.specs.declared.blocked.Blocked.{Blocked}
use Rattle.channel_calls.proofs.blocking.blocks.Goals as goal

pub returns-in-Ok-clause-deeds : goal.returns-in-Ok-clause-deeds
returns-in-Ok-clause-deeds g c =
    let told = c.in-Ok.ensures.looks in
    (told.0, told.1, told.2, inl told.3)

pub returns-in-Ok-begins-clause-deeds : goal.returns-in-Ok-begins-clause-deeds
returns-in-Ok-begins-clause-deeds g c =
    let did = Done g.C.ChannelCells.did g.S.Wakes.wakes in
    let told = c.in-Err.ensures.looks in
    let start : g.row.C.Denot × g.row.S.Denot = (c.args.cells.now, c.args.sink.now) in
    let here : g.row.C.Denot × g.row.S.Denot = (c.looks.new.cells, c.looks.new.sink) in
    let end : g.row.C.Denot × g.row.S.Denot = (c.begins.new.cells, c.begins.new.sink) in
    let given = c.in-Ok-begins.given in
    let looked = subst (λ (x : g.row.C.Denot × g.row.S.Denot). Looks did told.0 c.args.call start x) (sym told.3) told.2 in
    (told.0, here, looked, inl (subst (λ (b : Blocked g.row.T.Denot). AnswersAtFirst did b here given.reply given.kept end) c.in-Err.ensures.same c.in-Ok-begins.ensures.begins))

pub returns-in-Err-begins-clause-deeds : goal.returns-in-Err-begins-clause-deeds
returns-in-Err-begins-clause-deeds g c =
    let did = Done g.C.ChannelCells.did g.S.Wakes.wakes in
    let asked = Asked {S = g.row.S.Denot} g.C.Sleeps.parked in
    let slept = Slept {S = g.row.S.Denot} g.C.Sleeps.slept in
    let told = c.in-Err.ensures.looks in
    let key = c.in-Err-begins.key in
    let start : g.row.C.Denot × g.row.S.Denot = (c.args.cells.now, c.args.sink.now) in
    let here : g.row.C.Denot × g.row.S.Denot = (c.looks.new.cells, c.looks.new.sink) in
    let listens : g.row.C.Denot × g.row.S.Denot = (c.begins.new.cells, c.begins.new.sink) in
    let end : g.row.C.Denot × g.row.S.Denot = (c.sleeps.new.cells, c.sleeps.new.sink) in
    let given = c.sleeps.result in
    let looked = subst (λ (x : g.row.C.Denot × g.row.S.Denot). Looks did told.0 c.args.call start x) (sym told.3) told.2 in
    let begun = subst (λ (b : Blocked g.row.T.Denot). Listens did b here key listens) c.in-Err.ensures.same c.in-Err-begins.ensures.begins in
    let sleeps = subst (λ (b : Blocked g.row.T.Denot). SleepsOn did asked slept b key listens given.reply given.kept end) (c.in-Err-begins.ensures.same ∙ c.in-Err.ensures.same) c.sleeps.ensures.sleeps in
    (told.0, here, looked, inr (key, listens, begun, sleeps))
