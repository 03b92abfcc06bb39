use Rattle.std.proofs.Common.{ap, sym}
use Rattle.channel_history.specs.Machine.{new_list}
use Rattle.channel_history.specs.declared.party.Standing.{Standing}
use Rattle.channel_cells.proofs.Opening.{list_parts}
use Rattle.channel_cells.proofs.channel.opening.part_list.Goals as goal

pub part-apart-requires-clause-parts : goal.part-apart-requires-clause-parts
part-apart-requires-clause-parts g c =
    let s = c.args.seat.now.seat.me.0 in
    list_parts s.form c.args.line s.state c.requires.last

pub returns-clause-list : goal.returns-clause-list
returns-clause-list g c =
    let list = c.requires.empty in
    (new_list, ap (λ (x : Standing g.row.T.Denot g.row.W.Denot). x.own) c.part-apart.ensures.goes.0, λ i. record { told = sym list.0 i; waiting = sym list.1 i })
