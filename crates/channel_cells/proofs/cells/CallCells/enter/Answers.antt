use Rattle.std.proofs.Common.{◌≡◌, ◌∙◌, ap, subst}
use Rattle.channel_calls.specs.declared.stage.WaitList.{WaitList}
use Rattle.channel_history.proofs.CallSections.{taken_in_so}
use Rattle.channel_history.specs.CallSections.{LiesAlone}
use Rattle.channel_cells.proofs.Sections.{line_there}
use Rattle.channel_cells.proofs.cells.CallCells.enter.Goals as goal
use Rattle.channel_cells.specs.Lists.{line_at}

pub returns-clause-inside : goal.returns-clause-inside
returns-clause-inside g c =
    let x = c.take-seated.result.0 in
    let is : line_at c.index_of.result ≡ c.args.line = ap (λ n. line_at n) c.index_of.ensures.index ∙ line_there c.args.line in
    let lies : LiesAlone c.args.line x.list.value.lists x.seat.seat.me.0.state = subst (λ (line : WaitList). LiesAlone line x.list.value.lists x.seat.seat.me.0.state) is c.take-seated.ensures.keeps.1 in
    let inside = taken_in_so c.args.line x.list.value.lists c.args.self.now.queue.seat.seat.me.0.state x.seat.seat.me.0.state lies in
    (inside.0, c.take_in.ensures.made ∙ inside.1, inside.2)
