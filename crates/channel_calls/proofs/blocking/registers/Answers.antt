use Rattle.std.proofs.Common.{subst}
use Rattle.channel_calls.specs.Asks.{first}
use Rattle.channel_calls.specs.Blocks.{waiting_of, poll_woken}
use Rattle.channel_calls.specs.Deeds.{Done}
use Rattle.channel_calls.specs.Replies.{ReplyAllowed, MayPoll}
use Rattle.channel_calls.specs.Walks.{WalkedFrom}
use Rattle.channel_calls.specs.declared.ask.ChannelAsk.{ChannelAsk}
use Rattle.channel_calls.proofs.BlockedPolls as polls
use Rattle.channel_calls.proofs.Listed.{walked_from}
use Rattle.channel_calls.proofs.blocking.registers.Given.{Over}
use Rattle.channel_calls.proofs.blocking.registers.Goals as goal

-- the call that was made is the poll that asks its listener first
walked : (g : Over) (c : goal.After-still g)
    → WalkedFrom (Done g.C.ChannelCells.did g.S.Wakes.wakes) (first (poll_woken c.args.call c.args.key c.args.task)) (c.args.cells.now, c.args.sink.now)
    c.make.result.reply c.make.result.kept (c.make.new.cells, c.make.new.sink)
walked g c =
    subst (λ (a : ChannelAsk g.row.T.Denot g.row.W.Denot). WalkedFrom (Done g.C.ChannelCells.did g.S.Wakes.wakes) (first a) (c.args.cells.now, c.args.sink.now)
    c.make.result.reply c.make.result.kept (c.make.new.cells, c.make.new.sink)) c.poll_woken.ensures c.make.ensures.deeds

told : (g : Over) (c : goal.After-still g) → polls.Says c.args.call c.make.result c.still.result
told g c =
    let given = c.make.result in
    let may : MayPoll (waiting_of c.args.call) given.reply given.kept.message =
    polls.woken_may g.row.W.Denot c.requires.form.0 c.args.call c.args.key c.args.task given.reply given.kept.message
    (subst (λ (a : ChannelAsk g.row.T.Denot g.row.W.Denot). ReplyAllowed c.requires.form.0 a given.reply given.kept.message) c.poll_woken.ensures (c.make.ensures.answers c.requires.form.0 c.requires.form.1))
    in
    c.still.ensures.waits c.args.call may
    (walked_from (Done g.C.ChannelCells.did g.S.Wakes.wakes) (first (poll_woken c.args.call c.args.key c.args.task)) (c.args.cells.now, c.args.sink.now)
    given.reply given.kept (c.make.new.cells, c.make.new.sink) (polls.woken_fair g.row.W.Denot c.args.call c.args.key c.args.task) (walked g c))

pub returns-clause-registers : goal.returns-clause-registers
returns-clause-registers g c =
    polls.still_walked (Done g.C.ChannelCells.did g.S.Wakes.wakes) c.args.call (first (poll_woken c.args.call c.args.key c.args.task)) (c.args.cells.now, c.args.sink.now)
    c.make.result (c.make.new.cells, c.make.new.sink) c.still.result (told g c) (walked g c)

pub returns-clause-same : goal.returns-clause-same
returns-clause-same g c = polls.still_same c.args.call c.make.result c.still.result (told g c)

pub returns-clause-over : goal.returns-clause-over
returns-clause-over g c = polls.still_over c.args.call c.make.result c.still.result (told g c)

pub make-requires : goal.make-requires
make-requires g c = record { stands = λ at begins. g.met.C.Sleeps.free.0 at _ }
