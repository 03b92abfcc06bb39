-- Waits that did not begin.
use Rattle.event_listener.specs.declared.listener.WaitError.{WaitError}
use Rattle.event_listener.specs.declared.listener.WaitError.TheVariants.{NoMemory, NeverInserted}

-- the listener that is returned
abbrev pub listener_of : {L : Type 0} → WaitError L → L
listener_of (NoMemory listener) = listener
listener_of (NeverInserted listener) = listener
