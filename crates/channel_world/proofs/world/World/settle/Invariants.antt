use Rattle.std.specs.Prelude.{◌≡◌, ◌≤◌, ◌-◌}
use Rattle.channel_world.proofs.Lemmas.{true, vec_len, vec_capacity, is_among, Waiter, polls_replied, polls_in, most_polls, NoneLackedMemory, LeadsOn}
use Rattle.channel_world.proofs.ComingIn.{still_in}
use Rattle.channel_world.proofs.SettleFacts.{Goes}
use Rattle.channel_world.specs.View.{at_rest, HasPositions, IsQuiet}
use Rattle.channel_world.proofs.world.World.settle.Given as goal

abbrev pub invariant-loop-names : goal.invariant-loop-names
invariant-loop-names g l = record {
  goes : Goes (at_rest l.fn.self) (at_rest l.self) (polls_in l.polls.items) l.names.items;
  quiet : IsQuiet l.self;
  ample : NoneLackedMemory l.polls.items;
  leads : LeadsOn l.fn.self (polls_replied l.polls.items) l.self;
  names : most_polls (at_rest l.fn.self) ≤ vec_capacity l.names;
  polls : vec_capacity l.polls ≡ most_polls (at_rest l.fn.self);
  places : (name : Waiter) → is_among name (at_rest l.self).waiting.woken ≡ true → HasPositions (still_in (at_rest l.self)) l.self;
}

abbrev pub decreases-loop-names : goal.decreases-loop-names
decreases-loop-names g l = most_polls (at_rest l.fn.self) - vec_len l.polls
