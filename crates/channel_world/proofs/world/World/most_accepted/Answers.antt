-- From the numbers of those that are pending on each line, and of the places that are free.
use Rattle.std.specs.Prelude.{◌≡◌, ◌+◌}
use Rattle.channel_world.proofs.Lemmas.{arith, ◌∙◌, length, false, Some, sym, Sends, Receives, Streams, pending_on, at_rest, world_state_of}
use Rattle.channel_world.proofs.ComingIn.{bounded_in}
use Rattle.channel_world.proofs.NumberFacts.{messages_at_rest}
use Rattle.channel_world.proofs.world.World.most_accepted.Goals as goal

pub returns : goal.returns
returns g c =
    let f = world_state_of c.args.self.now in
    let s = at_rest f in
    let k = c.keeps_names.ensures.stands in
    let held : c.messages.result ≡ length s.channel.messages = c.messages.ensures ∙ messages_at_rest f k c.requires.quiet in
    let is_open : s.channel.closed ≡ false = sym c.is_closed.ensures ∙ c.if-is_closed.false in
    let bound : s.channel.capacity ≡ Some c.in-Some.capacity = sym c.capacity.ensures ∙ c.in-Some.is in
    let all = bounded_in s.channel (pending_on Sends s) (pending_on Receives s + pending_on Streams s) c.in-Some.capacity is_open bound in
    let sends : c.in_ok-sends.sends ≡ pending_on Sends s = c.in_ok-sends.ensures in
    let receives : c.in_ok-receives.receives ≡ pending_on Receives s = c.in_ok-receives.ensures in
    let streams : c.in_ok-streams.streams ≡ pending_on Streams s = c.in_ok-streams.ensures in
    let takers = c.in_ok-checked_add.ensures.1 in
    let places = c.in_ok-places.ensures.1 in
    omega (arith, all, sends, receives, streams, takers, places, held, c.saturating_sub-free.ensures, c.min.ensures)
