-- What a call does to the names, whatever it asks of the channel. Each call is turned into a plan once, here.
use Rattle.channel_world_model.specs.Words.{Call, HandleKind, Plan, Through, ThroughBoth, Makes, Polls, GivesUp, Asks, Drops, Mints, Strong, Weak, Any, OperationKind}
use Rattle.channel_world_model.specs.Answer.{weak_of, strong_of}
use Rattle.channel_world_model.specs.declared.plan.Kinship.{Kinship}
use Rattle.channel_world_model.specs.declared.plan.Plan.TheVariants.{Streams}
use Rattle.channel_world_model.specs.declared.plan.Wanted.TheVariants.{Sender, Receiver}

-- the kind of a handle that is made from one of this kind
abbrev pub kin : Kinship → HandleKind → HandleKind
kin Kinship.Own k = k
kin Kinship.Weak k = weak_of k
kin Kinship.Strong k = strong_of k

-- the plan of a call
abbrev pub plan_of : {T : Type 0} → Call T → Plan
plan_of (Call.NewSend op sender msg) = Makes Sender sender op OperationKind.Send
plan_of (Call.NewRecv op receiver) = Makes Receiver receiver op OperationKind.Receive
plan_of (Call.NewClosed op sender) = Makes Sender sender op OperationKind.Closing
plan_of (Call.Poll op) = Polls op
plan_of (Call.PollRefused op) = Polls op
plan_of (Call.GiveUp op) = GivesUp op
plan_of (Call.SendIsTerminated op) = Asks op
plan_of (Call.PollNext receiver) = Streams receiver
plan_of (Call.StreamIsTerminated receiver) = Through Receiver receiver
plan_of (Call.TrySend sender msg) = Through Sender sender
plan_of (Call.ForceSend sender msg) = Through Sender sender
plan_of (Call.TryRecv receiver) = Through Receiver receiver
plan_of (Call.RecvMany receiver limit) = Through Receiver receiver
plan_of (Call.Close handle) = Through Strong handle
plan_of (Call.Drop handle) = Drops handle
plan_of (Call.TryClone handle new) = Mints Any handle new Kinship.Own
plan_of (Call.Downgrade handle new) = Mints Strong handle new Kinship.Weak
plan_of (Call.Upgrade weak new) = Mints Weak weak new Kinship.Strong
plan_of (Call.SameChannel a b) = ThroughBoth a b
plan_of (Call.IsClosed handle) = Through Strong handle
plan_of (Call.IsEmpty handle) = Through Strong handle
plan_of (Call.IsFull handle) = Through Strong handle
plan_of (Call.Len handle) = Through Strong handle
plan_of (Call.Capacity handle) = Through Strong handle
plan_of (Call.SenderCount handle) = Through Strong handle
plan_of (Call.ReceiverCount handle) = Through Strong handle
