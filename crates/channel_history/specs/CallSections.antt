-- A section of a call on a list, as its cells make it: the list's seat is taken into the call's, the event is made, and the seat leaves.
use Rattle.std.specs.Prelude.{◌≡◌, Bool, true, false, [], ◌∷◌, Option}
use Rattle.concurrent_queue.specs.declared.cells.QueueForm.{QueueForm}
use Rattle.event_listener.specs.Lists.{ListView, registration}
use Rattle.event_listener.specs.declared.key.Key.{Key}
use Rattle.channel_calls.specs.Deeds.{Deed, registered}
use Rattle.channel_calls.specs.Parts.{Listeners, Registers}
use Rattle.channel_calls.specs.declared.stage.WaitList.{WaitList}
use Rattle.channel_history.specs.Cells.{Did}
use Rattle.channel_history.specs.Machine.{both, with_list, NobodyWaits, IsSection}
use Rattle.channel_history.specs.Party.{nothing, fresh, with_own}
use Rattle.channel_history.specs.declared.party.Standing.{Standing}

module _ {T W : Type 0} where
  -- with a seat at this standing lies one list, of this kind, which holds this; and nothing else does
  abbrev pub HoldsList : WaitList → Listeners W → Standing T W → Type 0
  HoldsList line lists s = (l : ListView Unit W) × (s.own.lists ≡ (line, l) ∷ []) × (l.lists ≡ lists)

  abbrev pub LiesAlone : WaitList → Listeners W → Standing T W → Type 0
  LiesAlone line lists s = (l : ListView Unit W) × (s.own ≡ record nothing { lists = (line, l) ∷ [] }) × (l.lists ≡ lists)

  -- the seat of a list that holds this was taken in
  abbrev pub IsInside : WaitList → Listeners W → Standing T W → Standing T W → Type 0
  IsInside line lists s t = (l : ListView Unit W) × (t ≡ both s (with_list line l)) × (l.lists ≡ lists)

  -- a seat but for the lists that lie with it, and a new one with these
  abbrev pub without_lists : Standing T W → Standing T W
  without_lists s = with_own (record s.own { lists = [] }) s

  abbrev pub lists_alone : Standing T W → Standing T W
  lists_alone s = with_own (record nothing { lists = s.own.lists }) fresh

  -- this deed is done in a section on this list, whose seat was taken in, and leaves these on it
  abbrev pub SectionTo : QueueForm → WaitList → Deed T W → Listeners W → Standing T W → Standing T W → Type 0
  SectionTo form line d lists u v =
      (t : Standing T W) × (k : ListView Unit W) × Did form d (without_lists u) t × (v ≡ both t (with_list line k)) × (k.lists ≡ lists)

  -- the same of a deed that follows from what the list held before
  abbrev pub AnsweredTo : QueueForm → WaitList → (Listeners W → Deed T W) → Listeners W → Standing T W → Standing T W → Type 0
  AnsweredTo form line deed lists u v = (l : ListView Unit W) × (u.own.lists ≡ (line, l) ∷ []) × SectionTo form line (deed l.lists) lists u v

  -- the same of a registration, whose answer the list knows
  abbrev pub RegisteredTo : QueueForm → WaitList → Key → W → Standing T W → Standing T W → Type 0
  RegisteredTo form line key task u v =
      (l : ListView Unit W) × (u.own.lists ≡ (line, l) ∷ []) × (o : Option W) × Registers l.lists key task o
      × SectionTo form line (registered line key task o) (registration key task l.lists) u v

  -- a section leads the party there: the list held the one and holds the other, and whether nobody waits on it before and after is known
  abbrev pub IsSectionOf : QueueForm → WaitList → Listeners W → Listeners W → Standing T W → Standing T W → Type 0
  IsSectionOf form line before after u v = (l : ListView Unit W) × (k : ListView Unit W) × IsSection form line l k u v × (l.lists ≡ before) × (k.lists ≡ after)

  abbrev pub MayTurn : QueueForm → WaitList → Bool → Bool → Standing T W → Standing T W → Type 0
  MayTurn form line before after u v =
      (l : ListView Unit W) × (k : ListView Unit W) × IsSection form line l k u v
      × (before ≡ true → NobodyWaits l) × (before ≡ false → NobodyWaits l → ⊥) × (after ≡ true → NobodyWaits k)
