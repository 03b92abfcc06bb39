-- Which calls are refused, and why: the first of five reasons that there is. A name that the call uses is not live; what lives under it is
-- of the wrong kind; the operation, or the stream, is being polled; a handle that it takes whole is borrowed; its new name was taken
-- before. Room for memory is another matter: see `Run`.
use Rattle.std.specs.Prelude.{◌||◌, if◌then◌else◌}
use Rattle.channel_world_model.specs.Words.{ℕ, nat_lt, Bool, true, false, not, Option, None, Some, option_or, Call, Handle, HandleId, HandleKind, Waiter, Op, Stream, Plan, Through, ThroughBoth, Makes, Polls, GivesUp, Asks, Drops, Mints, Strong, Weak, Any, WorldRefusal, UnknownName, WrongKind, OpUnderWay, Borrowed, NameTaken, Operation}
use Rattle.std.specs.Bool.{then_some}
use Rattle.channel_world_model.specs.Names.{Names, at, is_taken}
use Rattle.channel_world_model.specs.Plan.{plan_of}
use Rattle.channel_world_model.specs.State.{State}
use Rattle.channel_world_model.specs.declared.plan.Plan.TheVariants.{Streams}
use Rattle.channel_world_model.specs.declared.plan.Wanted.{Wanted}
use Rattle.channel_world_model.specs.declared.plan.Wanted.TheVariants.{Sender, Receiver}

-- whose poll is under way, and which handles calls under way use
pub record UnderWay : Type 0 where
  pub polled : Waiter → Bool
  pub used : HandleId → Bool

-- no call is under way
abbrev pub nobody_under_way : UnderWay
nobody_under_way = record { polled = λ w. false; used = λ handle. false }

-- ---- kinds

-- whether a handle of this kind is such a one as is wanted
abbrev pub handle_fits : Wanted → HandleKind → Bool
handle_fits Sender HandleKind.Sender = true
handle_fits Receiver HandleKind.Receiver = true
handle_fits Strong HandleKind.Sender = true
handle_fits Strong HandleKind.Receiver = true
handle_fits Weak HandleKind.WeakSender = true
handle_fits Weak HandleKind.WeakReceiver = true
handle_fits Any kind = true
handle_fits wanted kind = false

-- two senders or two receivers
abbrev pub are_alike : HandleKind → HandleKind → Bool
are_alike HandleKind.Sender HandleKind.Sender = true
are_alike HandleKind.Receiver HandleKind.Receiver = true
are_alike a b = false

-- ---- what a call needs of what lives under a name, if anything does, and the first thing that it lacks

-- to go through a handle: that it lives, is such a one as is wanted, and is not being polled as a stream
abbrev pub unfit_handle : Bool → Wanted → Option Handle → Option WorldRefusal
unfit_handle is_polled wanted None = Some UnknownName
unfit_handle is_polled wanted (Some h) = if not (handle_fits wanted h.kind) then Some WrongKind else then_some is_polled OpUnderWay

-- to go through two: that they live, are two senders or two receivers, and that neither is being polled as a stream
abbrev pub unlike_handles : Bool → Option Handle → Option Handle → Option WorldRefusal
unlike_handles is_polled (Some a) (Some b) = if not (are_alike a.kind b.kind) then Some WrongKind else then_some is_polled OpUnderWay
unlike_handles is_polled a b = Some UnknownName

-- to take a handle whole: that no operation borrows it, and no call under way uses it
abbrev pub borrowed_handle : Bool → Option Handle → Option WorldRefusal
borrowed_handle is_used None = None
borrowed_handle is_used (Some h) = then_some (nat_lt 0 h.borrowers || is_used) Borrowed

-- to poll an operation, or give it up: that it lives, and is not being polled
abbrev pub unfit_operation : {T : Type 0} → Bool → Option (Operation T) → Option WorldRefusal
unfit_operation is_polled None = Some UnknownName
unfit_operation is_polled (Some operation) = then_some is_polled OpUnderWay

-- to ask whether a send has finished: that the operation lives, and is a send
abbrev pub unfit_send : {T : Type 0} → Option (Operation T) → Option WorldRefusal
unfit_send None = Some UnknownName
unfit_send (Some (Operation.Send handle msg)) = None
unfit_send (Some operation) = Some WrongKind

-- ---- calls

module _ {T : Type 0} (u : UnderWay) (names : Names T) where
  -- why a call doesn't go through a handle of which this is wanted
  abbrev pub through_refusal : Wanted → HandleId → Option WorldRefusal
  through_refusal wanted handle = unfit_handle (u.polled (Stream handle)) wanted (at handle.0 names.handles)

  -- why it doesn't take one whole, for good or to poll it as a stream
  abbrev pub taking_refusal : Wanted → HandleId → Option WorldRefusal
  taking_refusal wanted handle = option_or (through_refusal wanted handle) (borrowed_handle (u.used handle) (at handle.0 names.handles))

  -- why a call of this plan is not begun
  abbrev pub planned_refusal : Plan → Option WorldRefusal
  planned_refusal (Through wanted handle) = through_refusal wanted handle
  planned_refusal (ThroughBoth a b) = unlike_handles (u.polled (Stream a) || u.polled (Stream b)) (at a.0 names.handles) (at b.0 names.handles)
  planned_refusal (Makes wanted handle op kind) = option_or (through_refusal wanted handle) (then_some (is_taken op.0 names.operations) NameTaken)
  planned_refusal (Polls op) = unfit_operation (u.polled (Op op)) (at op.0 names.operations)
  planned_refusal (GivesUp op) = unfit_operation (u.polled (Op op)) (at op.0 names.operations)
  planned_refusal (Asks op) = unfit_send (at op.0 names.operations)
  planned_refusal (Streams receiver) = taking_refusal Receiver receiver
  planned_refusal (Drops handle) = taking_refusal Any handle
  planned_refusal (Mints wanted from new kinship) = option_or (through_refusal wanted from) (then_some (is_taken new.0 names.handles) NameTaken)

  -- why a call is not begun beside these under way
  abbrev pub refusal_beside : Call T → Option WorldRefusal
  refusal_beside c = planned_refusal (plan_of c)

-- why a call is refused if none is under way
abbrev pub refusal : {T : Type 0} → State T → Call T → Option WorldRefusal
refusal s c = refusal_beside nobody_under_way s.names c

-- the number by which a script names a refusal
abbrev pub refusal_number : WorldRefusal → ℕ
refusal_number WorldRefusal.Busy = 1
refusal_number WorldRefusal.Idle = 2
refusal_number WorldRefusal.UnknownName = 3
refusal_number WorldRefusal.NameTaken = 4
refusal_number WorldRefusal.OpUnderWay = 5
refusal_number WorldRefusal.Borrowed = 6
refusal_number WorldRefusal.WrongKind = 7
refusal_number WorldRefusal.NoMemory = 8
