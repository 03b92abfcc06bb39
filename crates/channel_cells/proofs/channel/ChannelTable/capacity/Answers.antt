use Rattle.std.proofs.Common.{◌∙◌, ap, sym}
use Rattle.std.specs.Prelude.{Some}
use Rattle.concurrent_queue.specs.Replies.{room_of}
use Rattle.concurrent_queue.proofs.FitsFacts.{cap_same}
use Rattle.channel_cells.proofs.channel.ChannelTable.capacity.Goals as goal

pub returns : goal.returns
returns g c =
    let channel = c.args.self.now in
    sym (ap (λ f. room_of f) channel.bounded.0 ∙ ap (λ n. Some n) (cap_same channel.capacity channel.bounded.1))
