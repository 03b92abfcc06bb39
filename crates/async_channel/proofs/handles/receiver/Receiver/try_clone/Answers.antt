use Rattle.std.proofs.Common.{rules, ◌≡◌, Ok, Err}
use Rattle.channel_calls.specs.declared.stage.Side.TheVariants as side
use Rattle.async_channel.specs.Handles.{handle_of}
use Rattle.async_channel.proofs.Cloned.{cloned, not_cloned}
use Rattle.async_channel.proofs.handles.receiver.Receiver.try_clone.Goals as goal

pub returns-in-Ok-clause-walked : goal.returns-in-Ok-clause-walked
returns-in-Ok-clause-walked g c =
    let same : handle_of c.self.inside.counted.link ≡ c.args.self.now.channel = search rules in
    let is : c.one_more.result ≡ Ok c.in-Ok.counted = search rules in
    cloned g.S.Trace-2.did g.S.Trace-1.shown g.S.Trace-1.entered g.S.Trace-1.called side.Receivers _ (handle_of c.self.inside.counted.link) c.args.self.now.channel same c.one_more.result c.in-Ok.counted _ is c.one_more.ensures.walked

pub returns-in-Err-clause-walked : goal.returns-in-Err-clause-walked
returns-in-Err-clause-walked g c =
    let same : handle_of c.self.inside.counted.link ≡ c.args.self.now.channel = search rules in
    let is : c.one_more.result ≡ Err c.in-Err.error = search rules in
    not_cloned g.S.Trace-2.did g.S.Trace-1.shown g.S.Trace-1.entered g.S.Trace-1.called side.Receivers _ (handle_of c.self.inside.counted.link) c.args.self.now.channel same c.one_more.result c.in-Err.error is c.one_more.ensures.walked
