use Rattle.std.proofs.Common.{◌≡◌, rules}
use Rattle.futures.specs.declared.task.Poll.TheVariants.{Ready}
use Rattle.channel_calls.specs.declared.reply.Reply.TheVariants.{RecvPoll}
use Rattle.channel_calls.proofs.BlockedPolls.{received_left}
use Rattle.channel_calls.proofs.blocking.taken.Goals as goal

pub returns-clause-left : goal.returns-clause-left
returns-clause-left g c =
    let is : c.args.given.reply ≡ RecvPoll (Ready c.in-RecvPoll-Ready.answer) = search rules in
    received_left c.args.given (Ready c.in-RecvPoll-Ready.answer) is c.requires.over
