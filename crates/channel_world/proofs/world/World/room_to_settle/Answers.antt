-- There are positions, wherever room is taken.
use Rattle.channel_world.proofs.Words.{Option, None, Some}
use Rattle.std.specs.Prelude.{OnSome}
use Rattle.channel_world.proofs.world.World.room_to_settle.Goals as goal

wherever : {A P : Type 0} (o : Option A) → P → OnSome o P
wherever None p = tt
wherever (Some x) p = p

pub returns-then-has_positions_to_settle-clause-places : goal.returns-then-has_positions_to_settle-clause-places
returns-then-has_positions_to_settle-clause-places g c =
    wherever c.take_room.result (c.has_positions_to_settle.ensures.enough c.if-has_positions_to_settle.true)
