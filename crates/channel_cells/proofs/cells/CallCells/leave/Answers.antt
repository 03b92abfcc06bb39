use Rattle.std.proofs.Common.{◌≡◌, ◌∙◌, refl, sym, ap, subst}
use Rattle.channel_calls.specs.declared.stage.WaitList.{WaitList}
use Rattle.channel_history.proofs.CallSections.{lists_part, lies_alone}
use Rattle.channel_history.specs.CallSections.{LiesAlone, lists_alone}
use Rattle.channel_history.specs.declared.party.Standing.{Standing}
use Rattle.channel_cells.proofs.Sections.{line_there}
use Rattle.channel_cells.proofs.cells.CallCells.leave.Goals as goal
use Rattle.channel_cells.specs.Lists.{line_at}

pub part-seat-requires-clause-parts : goal.part-seat-requires-clause-parts
part-seat-requires-clause-parts g c = let p = c.args.self.now.queue.seat.seat.me.0 in lists_part p.form p.state

pub part-seat-requires-clause-rests : goal.part-seat-requires-clause-rests
part-seat-requires-clause-rests g c = refl

pub give-requires : goal.give-requires
give-requires g c =
    let lists = c.args.section.list.value.lists in
    let s = c.args.self.now.queue.seat.seat.me.0.state in
    let is : line_at c.args.section.taken.1 ≡ c.args.line = ap (λ n. line_at n) c.requires.taken.1 ∙ line_there c.args.line in
    let goes = c.part-seat.ensures.goes in
    let alone : LiesAlone c.args.line lists (lists_alone s) = lies_alone c.args.line lists s c.requires.inside in (
      goes.3 ∙ (c.args.self.now.same ∙ sym (ap (λ t. t.table.shared.table_id) c.requires.taken.0)),
      subst (λ (line : WaitList). LiesAlone line lists c.part-seat.result.seat.me.0.state) (sym is)
          (subst (λ (x : Standing g.row.T.Denot g.row.W.Denot). LiesAlone c.args.line lists x) (sym goes.0) alone),
    )

pub returns-clause-outside : goal.returns-clause-outside
returns-clause-outside g c = c.part-seat.ensures.stays
