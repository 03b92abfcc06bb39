-- The laws lead to a history with a call in it.
use Rattle.std.proofs.Common.{◌≡◌, List, [], ◌∷◌, ◌++◌, true, refl}
use Rattle.std.specs.Prelude.{None, Some}
use Rattle.event_listener.specs.Lists.{ListView}
use Rattle.channel_calls.specs.Parts.{nobody_listens}
use Rattle.concurrent_queue.specs.Made.{new_cells}
use Rattle.concurrent_queue.specs.declared.cells.QueueForm.{QueueForm}
use Rattle.channel_calls.specs.Deeds.{counted, raised, lowered}
use Rattle.channel_calls.specs.Turns.{nothing_kept}
use Rattle.channel_calls.specs.declared.ask.ChannelAsk.TheVariants.{HandleCount, CloneHandle, DropSender}
use Rattle.channel_calls.specs.declared.mark.Mark.TheVariants.{Nothing, SenderUp, SenderDown}
use Rattle.channel_calls.specs.declared.reply.Reply.TheVariants as reply
use Rattle.channel_calls.specs.declared.stage.ListStep.{ListStep}
use Rattle.channel_calls.specs.declared.stage.ListStep.TheVariants.{Count, Load, Raise, Lower}
use Rattle.channel_calls.specs.declared.stage.Making.TheVariants.{Clone}
use Rattle.channel_calls.specs.declared.stage.Side.TheVariants.{Senders}
use Rattle.channel_calls.specs.declared.stage.Stage.TheVariants.{Working, Finished}
use Rattle.channel_steps.specs.every_run.Bridge.{on_wait_lists}
use Rattle.channel_history.specs.History.{IsChannelHistory}
use Rattle.channel_history.specs.Keeps.{opening, DeedsDo}
use Rattle.channel_history.specs.Party.{nothing, fresh, Begins, Makes}
use Rattle.channel_history.specs.Row.{has_counted, has_cloned, has_dropped, OneSenderIsCounted, ASenderIsClonedAndDropped}
use Rattle.channel_history.specs.Steps.{PartiesGoOn}
use Rattle.channel_history.specs.declared.party.Standing.{Standing}
use Rattle.channel_history.proofs.Deeds.{deeds_do}
use Rattle.channel_history.proofs.Steps.{parties_go_on}
use Rattle.channel_history.proofs.Handles.{count_operations_keep}
use Rattle.channel_history.proofs.Keeping.{opens_well, arrivals_keep, beginnings_keep}

module _ {T W : Type 0} (form : QueueForm) where
  abbrev Asks : Standing T W
  Asks = record { asked = HandleCount Senders ∷ []; stage = Some (Working (Count Senders)); given = []; own = nothing }

  begun : Begins form fresh (HandleCount Senders) Asks
  begun = let on : PartiesGoOn T W = parties_go_on T W in on.begins form fresh (HandleCount Senders) (Working (Count Senders)) refl (refl, refl)

  loaded : Makes form Asks (on_wait_lists (counted Senders 1)) has_counted
  loaded =
      let on : PartiesGoOn T W = parties_go_on T W in
      on.makes form Asks has_counted (on_wait_lists (counted Senders 1))
      (Working (Count Senders), Nothing, Finished nothing_kept, Some (reply.Count 1), refl, (1, refl, (refl, (refl, refl))), refl)

pub one_sender_is_counted : (T W : Type 0) → OneSenderIsCounted T W
one_sender_is_counted T W form l none =
    let deeds : DeedsDo T W = deeds_do T W in
    count_operations_keep T W form (opening l ++ Asks form ∷ []) (new_cells form) 1 1 1 1 1 (Asks form) has_counted (counted Senders 1)
    (arrivals_keep T W form (opening l) (new_cells form) 1 1 (Asks form) (HandleCount Senders) (opens_well T W form l none) (begun form) refl)
    refl (loaded form) refl (refl, refl) ((deeds.reads 1 1).0)

-- ---- a sender is cloned, and dropped

module _ {T W : Type 0} (form : QueueForm) where
  abbrev on : PartiesGoOn T W
  on = parties_go_on T W

  abbrev Clones : ListStep T W → Standing T W
  Clones w = record { asked = CloneHandle Senders ∷ []; stage = Some (Working w); given = []; own = nothing }

  abbrev Drops : Standing T W
  Drops = record {
    asked = CloneHandle Senders ∷ DropSender ∷ [];
    stage = Some (Working (Lower Senders None));
    given = record { reply = reply.Made; kept = nothing_kept } ∷ [];
    own = record nothing { handles = Senders ∷ [] };
  }

  clone_begun : Begins form fresh (CloneHandle Senders) (Clones (Load Senders Clone))
  clone_begun = on.begins form fresh (CloneHandle Senders) (Working (Load Senders Clone)) refl (refl, refl)

  read : Makes form (Clones (Load Senders Clone)) (on_wait_lists (counted Senders 1)) (Clones (Raise Senders 1 Clone))
  read =
      on.makes form (Clones (Load Senders Clone)) (Clones (Raise Senders 1 Clone)) (on_wait_lists (counted Senders 1))
      (Working (Load Senders Clone), Nothing, Working (Raise Senders 1 Clone), None, refl, (1, refl, (refl, (refl, refl))), refl)

  has_raised : Makes form (Clones (Raise Senders 1 Clone)) (on_wait_lists (raised Senders 1 true)) has_cloned
  has_raised =
      on.leaves form (Clones (Raise Senders 1 Clone)) (record has_cloned { own = nothing }) (on_wait_lists (raised Senders 1 true)) (record nothing { handles = Senders ∷ [] })
      (on.makes form (Clones (Raise Senders 1 Clone)) (record has_cloned { own = nothing }) (on_wait_lists (raised Senders 1 true))
      (Working (Raise Senders 1 Clone), SenderUp, Finished nothing_kept, Some reply.Made, refl, (true, refl, (refl, (refl, refl))), refl))

  drop_begun : Begins form has_cloned DropSender Drops
  drop_begun = on.begins form has_cloned DropSender (Working (Lower Senders None)) refl (refl, refl)

  has_lowered : Makes form Drops (on_wait_lists (lowered Senders 2)) has_dropped
  has_lowered =
      on.leaves form Drops (record has_dropped { own = record nothing { handles = Senders ∷ [] } }) (on_wait_lists (lowered Senders 2)) nothing
      (on.makes form Drops (record has_dropped { own = record nothing { handles = Senders ∷ [] } }) (on_wait_lists (lowered Senders 2))
      (Working (Lower Senders None), SenderDown, Finished nothing_kept, Some reply.Unit, refl, (2, refl, (refl, (refl, refl))), refl))

  module _ (l : ListView Unit W) (none : l.lists ≡ nobody_listens) where
    abbrev deeds : DeedsDo T W
    deeds = deeds_do T W

    abbrev With : Standing T W → List (Standing T W)
    With s = opening l ++ s ∷ []

    has_begun : IsChannelHistory form (With (Clones (Load Senders Clone))) (new_cells form) 1 1
    has_begun = arrivals_keep T W form (opening l) (new_cells form) 1 1 (Clones (Load Senders Clone)) (CloneHandle Senders) (opens_well T W form l none) clone_begun refl

    has_read : IsChannelHistory form (With (Clones (Raise Senders 1 Clone))) (new_cells form) 1 1
    has_read =
        count_operations_keep T W form (With (Clones (Load Senders Clone))) (new_cells form) 1 1 1 1 1 (Clones (Load Senders Clone)) (Clones (Raise Senders 1 Clone)) (counted Senders 1)
        has_begun refl read refl (refl, refl) ((deeds.reads 1 1).0)

    cloned : IsChannelHistory form (With has_cloned) (new_cells form) 2 1
    cloned =
        count_operations_keep T W form (With (Clones (Raise Senders 1 Clone))) (new_cells form) 1 1 2 1 1 (Clones (Raise Senders 1 Clone)) has_cloned (raised Senders 1 true)
        has_read refl has_raised refl (refl, refl) (deeds.raises 1 1 refl)

    drops : IsChannelHistory form (With Drops) (new_cells form) 2 1
    drops = beginnings_keep T W form (With has_cloned) (new_cells form) 2 1 1 has_cloned Drops DropSender cloned refl drop_begun refl

    dropped : IsChannelHistory form (With has_dropped) (new_cells form) 1 1
    dropped =
        count_operations_keep T W form (With Drops) (new_cells form) 2 1 1 1 1 Drops has_dropped (lowered Senders 2)
        drops refl has_lowered refl (refl, refl) ((deeds.lowers 2 1).0)

pub a_sender_is_cloned_and_dropped : (T W : Type 0) → ASenderIsClonedAndDropped T W
a_sender_is_cloned_and_dropped T W = record { cloned = λ form l none. cloned form l none; dropped = λ form l none. dropped form l none }
