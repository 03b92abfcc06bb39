-- A section on a list, and an operation on a count, of a call that goes by the view of its seat. The list lies with the seat meanwhile.
use Rattle.std.specs.Prelude.{◌≡◌, [], ◌∷◌}
use Rattle.concurrent_queue.specs.declared.cells.QueueForm.{QueueForm}
use Rattle.event_listener.specs.Lists.{ListView}
use Rattle.channel_calls.specs.Deeds.{Deed, inserted, registered, taken_off, told, counted, lowered, raised}
use Rattle.channel_calls.specs.declared.stage.WaitList.{WaitList}
use Rattle.channel_steps.specs.every_run.Bridge.{on_wait_lists}
use Rattle.channel_history.specs.Cells.{May, Did}
use Rattle.channel_history.specs.Keeps.{Leaves}
use Rattle.channel_history.specs.Party.{nothing, both, with_own, Makes}
use Rattle.channel_history.specs.declared.party.Belongings.{Belongings}
use Rattle.channel_history.specs.declared.party.Standing.{Standing}

module _ {W : Type 0} where
  -- what lies with the seat of a list behind its lock
  abbrev pub just_list : WaitList → ListView Unit W → Belongings W
  just_list line l = record nothing { lists = (line, l) ∷ [] }

module _ {T W : Type 0} where
  -- the same, with this list at hand and no other
  abbrev pub holding : WaitList → ListView Unit W → Standing T W → Standing T W
  holding line l s = with_own (record { lists = (line, l) ∷ []; handles = s.own.handles; listeners = s.own.listeners }) s

  -- a section on this list
  abbrev pub IsOnList : WaitList → Deed T W → Type 0
  IsOnList line (inserted other o) = other ≡ line
  IsOnList line (registered other key task o) = other ≡ line
  IsOnList line (taken_off other key names) = other ≡ line
  IsOnList line (told other telling names) = other ≡ line
  IsOnList line d = ⊥

  -- an operation on a count
  abbrev pub IsOnCount : Deed T W → Type 0
  IsOnCount (counted side n) = Unit {0}
  IsOnCount (lowered side n) = Unit {0}
  IsOnCount (raised side n b) = Unit {0}
  IsOnCount d = ⊥

  abbrev pub Section : QueueForm → WaitList → Deed T W → Standing T W → Standing T W → Type 0
  Section form line d s t = IsOnList line d × Did form d s t

  abbrev pub CountOperation : QueueForm → Deed T W → Standing T W → Standing T W → Type 0
  CountOperation form d s t = IsOnCount d × Did form d s t

-- where a section or an operation on a count may be done, it leads the view on; and it is the next act of its party, by which its seat
-- gets and loses just what the deed leaves: as the laws ask that such acts keep a history
pub record SectionsAct (T W : Type 0) : Type 0 where
  pub section_goes : (form : QueueForm) (line : WaitList) (d : Deed T W) (s : Standing T W) → IsOnList line d → May form d s → (t : Standing T W) × Section form line d s t
  pub section_acts : (form : QueueForm) (line : WaitList) (l k : ListView Unit W) (d : Deed T W) (s t : Standing T W) → Section form line d s t
      → Makes form (holding line l s) (on_wait_lists d) (holding line k t) × Leaves d (holding line l s) (holding line k t)
  pub count_goes : (form : QueueForm) (d : Deed T W) (s : Standing T W) → IsOnCount d → May form d s → (t : Standing T W) × CountOperation form d s t
  pub count_acts : (form : QueueForm) (d : Deed T W) (s t : Standing T W) → CountOperation form d s t
      → Makes form s (on_wait_lists d) t × (t.own.lists ≡ s.own.lists) × Leaves d s t
  -- the list joins the seat of the call before the section, and leaves it after
  pub taken_in : (line : WaitList) (l : ListView Unit W) (s : Standing T W) → s.own.lists ≡ [] → with_own (both s.own (just_list line l)) s ≡ holding line l s
  pub put_back : (form : QueueForm) (line : WaitList) (k : ListView Unit W) (d : Deed T W) (s t : Standing T W) → Section form line d s t
      → let held = holding line k t in (held.own ≡ both t.own (just_list line k)) × (with_own t.own held ≡ t)
