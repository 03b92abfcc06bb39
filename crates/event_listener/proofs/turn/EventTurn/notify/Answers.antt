use Rattle.event_listener.proofs.turn.EventTurn.notify.Goals as goal

pub returns : goal.returns
returns g c = let told = c.notify.ensures in (told.0, (c.value.result.now, c.notify.new.self, told.1))
