use Rattle.std.proofs.Common.{◌∙◌, sym}
use Rattle.channel_calls.specs.declared.blocked.Blocked.TheVariants.{Send}
use Rattle.channel_calls.proofs.BlockedPolls.{left_of}
use Rattle.channel_calls.proofs.blocking.sent.Goals as goal

pub returns-clause-left : goal.returns-clause-left
returns-clause-left g c =
    let over = c.requires.over in
    c.answered.ensures.left ∙ sym (left_of (Send over.0) c.args.given over.1)
