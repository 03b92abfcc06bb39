use Rattle.std.proofs.Common.{rules, ◌≡◌, subst}
use Rattle.atomic_table.specs.Seated.{TableId}
use Rattle.channel_cells.specs.Channel.{id_of, seat_table, standing_of}
use Rattle.async_channel.specs.Called.{HasSent}
use Rattle.async_channel.proofs.witnessed.sends.Witnessed+T+R+OfSenders.send_blocking.Goals as goal

pub returns-clause-called : goal.returns-clause-called
returns-clause-called g c =
    let same : id_of c.self.inside.channel.now.table ≡ seat_table c.args.witness = search rules in
    subst (λ (t : TableId). HasSent t (standing_of c.args.witness) c.args.message c.send_blocking.result.0 c.send_blocking.result.1) same c.send_blocking.ensures.called
