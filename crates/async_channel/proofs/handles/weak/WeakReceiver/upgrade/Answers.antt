use Rattle.std.proofs.Common.{rules, ◌≡◌, None, Some, Ok, Err}
use Rattle.channel_calls.specs.declared.stage.Side.TheVariants as side
use Rattle.async_channel.specs.Handles.{handle_of}
use Rattle.async_channel.proofs.Cloned.{upgraded, nobody, not_upgraded}
use Rattle.async_channel.proofs.handles.weak.WeakReceiver.upgrade.Goals as goal

pub returns-in-Ok-Some-clause-walked : goal.returns-in-Ok-Some-clause-walked
returns-in-Ok-Some-clause-walked g c =
    let same : handle_of c.self.inside.link ≡ c.args.self.now = search rules in
    let is : c.upgraded.result ≡ Ok (Some c.in-Ok-Some.counted) = search rules in
    upgraded g.S.Trace-2.did g.S.Trace-1.shown g.S.Trace-1.entered g.S.Trace-1.called side.Receivers _ (handle_of c.self.inside.link) c.args.self.now same c.upgraded.result c.in-Ok-Some.counted _ is c.upgraded.ensures.walked

pub returns-in-Ok-None-clause-walked : goal.returns-in-Ok-None-clause-walked
returns-in-Ok-None-clause-walked g c =
    let same : handle_of c.self.inside.link ≡ c.args.self.now = search rules in
    let is : c.upgraded.result ≡ Ok None = search rules in
    nobody g.S.Trace-2.did g.S.Trace-1.shown g.S.Trace-1.entered g.S.Trace-1.called side.Receivers _ (handle_of c.self.inside.link) c.args.self.now same c.upgraded.result is c.upgraded.ensures.walked

pub returns-in-Err-clause-walked : goal.returns-in-Err-clause-walked
returns-in-Err-clause-walked g c =
    let same : handle_of c.self.inside.link ≡ c.args.self.now = search rules in
    let is : c.upgraded.result ≡ Err c.in-Err.error = search rules in
    not_upgraded g.S.Trace-2.did g.S.Trace-1.shown g.S.Trace-1.entered g.S.Trace-1.called side.Receivers _ (handle_of c.self.inside.link) c.args.self.now same c.upgraded.result c.in-Err.error is c.upgraded.ensures.walked
