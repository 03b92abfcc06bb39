-- A call that takes no several messages lists none.
use Rattle.channel_world.proofs.Lemmas.{sym, lists_nothing}
use Rattle.channel_world.proofs.recorded.copies.most_listed.Goals as goal

pub returns-in_default : goal.returns-in_default
returns-in_default g c = sym (lists_nothing c.args.call.now c.in_default.not-RecvMany)
