use Rattle.std.proofs.Common.{rules, ◌≡◌, None, Some, refl}
use Rattle.channel_calls.specs.declared.stage.WaitList.TheVariants as line
use Rattle.channel_cells.specs.Channel.{id_of}
use Rattle.async_channel.specs.Handles.{channel_of}
use Rattle.async_channel.specs.Parties.{party_of}
use Rattle.async_channel.proofs.Forms.{with_bound, without}
use Rattle.async_channel.proofs.Parties.{given_up_of}
use Rattle.async_channel.proofs.Traces.{left_of}
use Rattle.async_channel.proofs.handles.closed.Closed.give_up.Goals as goal

pub returns-in-Bounded : goal.returns-in-Bounded
returns-in-Bounded g c =
    let table : c.args.self.channel.table ≡ Some (id_of c.deref.result.now.table) = search rules in
    let stood : party_of c.replace-waits.result.seat ≡ c.args.self.party = search rules in
    let key : c.replace-waits.result.key ≡ c.args.self.key = search rules in
    record { made = with_bound _ _ c.args.self.channel.table (id_of c.deref.result.now.table) table (given_up_of g.S.Trace-1.called _ _ _ line.Closings None None _ _ None c.give_up-left.result.0 c.give_up-left.result.1 stood refl key c.give_up-left.ensures.message c.answer.ensures.told c.give_up-left.ensures.called) }

pub returns : goal.returns
returns g c =
    let same : channel_of c.deref-in-Unbounded.result.now ≡ c.args.self.channel = search rules in
    let none : c.args.self.channel.table ≡ None = search rules in
    let key : c.replace-waits.result.key ≡ c.args.self.key = search rules in
    record { made = without _ _ c.args.self.channel.table none (_, _, left_of g.S.Trace-2.did g.S.Trace-1.shown g.S.Trace-1.entered _ _ _ _ _ same line.Closings None None c.replace-waits.result.key c.args.self.key refl key c.leave.ensures.walked) }
