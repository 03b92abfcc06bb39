-- What contracts see of a listener's place.
use Rattle.std.specs.Arc.{arc_value}
use Rattle.event_listener.specs.declared.place.Place.{Place}
use Rattle.event_listener.specs.Homes.{seal_of}
use Rattle.event_listener.specs.Listening.{Listening}
use Rattle.event_listener.specs.Sections.{cell_of}

abbrev pub seen : {T L : Type 0} → Place T L → Listening
seen place = record { event = place.event; list = seal_of (arc_value place.home); cell = cell_of (arc_value place.cell); key = place.listed.key }
