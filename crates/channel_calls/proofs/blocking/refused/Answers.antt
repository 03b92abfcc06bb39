use Rattle.std.proofs.Common.{◌≡◌, Option, Some, ◌∙◌, ap, subst}
use Rattle.event_listener.specs.declared.error.ListenError.TheVariants as listen_error
use Rattle.channel_calls.specs.Asks.{first}
use Rattle.channel_calls.specs.Blocks.{waiting_of}
use Rattle.channel_calls.specs.Deeds.{Done}
use Rattle.channel_calls.specs.Turns.{line_of, message_of, refused_reply}
use Rattle.channel_calls.specs.Walks.{WalkedFrom}
use Rattle.channel_calls.specs.declared.ask.ChannelAsk.{ChannelAsk}
use Rattle.channel_calls.specs.declared.ask.ChannelAsk.TheVariants as ask
use Rattle.channel_calls.specs.declared.stage.WaitList.{WaitList}
use Rattle.channel_calls.specs.declared.stage.Waiting.{Waiting}
use Rattle.channel_calls.proofs.BlockedPolls as polls
use Rattle.channel_calls.proofs.Listed.{walked_from}
use Rattle.channel_calls.proofs.blocking.refused.Given.{Over}
use Rattle.channel_calls.proofs.blocking.refused.Goals as goal

line_is : (g : Over) (c : goal.After-make g) → c.line-line.result ≡ line_of (waiting_of c.args.call)
line_is g c = c.line-line.ensures

message_is : (g : Over) (c : goal.After-make g) → c.message-message.result ≡ message_of (waiting_of c.args.call)
message_is g c = c.message-message.ensures ∙ ap (λ (w : Waiting g.row.T.Denot). message_of w) c.waiting.ensures

pub returns-clause-leaves : goal.returns-clause-leaves
returns-clause-leaves g c =
    let did = Done g.C.ChannelCells.did g.S.Wakes.wakes in
    let start : g.row.C.Denot × g.row.S.Denot = (c.args.cells.now, c.args.sink.now) in
    let end : g.row.C.Denot × g.row.S.Denot = (c.make.new.cells, c.make.new.sink) in
    subst (λ (line : WaitList). let a : ChannelAsk g.row.T.Denot g.row.W.Denot = ask.RefusePoll line (message_of (waiting_of c.args.call)) (Some c.args.key) in WalkedFrom did (first a) start c.make.result.reply c.make.result.kept end) (line_is g c)
    (subst (λ (m : Option g.row.T.Denot). let a : ChannelAsk g.row.T.Denot g.row.W.Denot = ask.RefusePoll c.line-line.result m (Some c.args.key) in WalkedFrom did (first a) start c.make.result.reply c.make.result.kept end) (message_is g c)
    c.make.ensures.deeds)

pub returns-clause-over : goal.returns-clause-over
returns-clause-over g c =
    let did = Done g.C.ChannelCells.did g.S.Wakes.wakes in
    let start : g.row.C.Denot × g.row.S.Denot = (c.args.cells.now, c.args.sink.now) in
    let end : g.row.C.Denot × g.row.S.Denot = (c.make.new.cells, c.make.new.sink) in
    let may = c.make.ensures.answers c.requires.form.0 c.requires.form.1 in
    let leave : ChannelAsk g.row.T.Denot g.row.W.Denot = ask.RefusePoll (line_of (waiting_of c.args.call)) (message_of (waiting_of c.args.call)) (Some c.args.key) in
    polls.refused_over c.args.call c.make.result (may.0 ∙ ap (λ (l : WaitList). refused_reply l listen_error.NoMemory) (line_is g c)) (may.1 ∙ message_is g c)
    (walked_from did (first leave) start c.make.result.reply c.make.result.kept end (polls.leaves_fair g.row.W.Denot c.args.call c.args.key) (returns-clause-leaves g c))

pub make-requires : goal.make-requires
make-requires g c = record { stands = λ at begins. g.met.C.Sleeps.free.0 at _ }
