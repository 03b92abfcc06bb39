use Rattle.async_channel.proofs.Parties.{given_up_so}
use Rattle.async_channel.proofs.with_bound.Bounded.let_go.Goals as goal

pub returns-then-is_some : goal.returns-then-is_some
returns-then-is_some g c = λ some. given_up_so g.S.Trace-1.called _ _ _ c.give_up-none.result.0 c.give_up-none.result.1 c.give_up-none.ensures.message c.tell.ensures c.give_up-none.ensures.called
