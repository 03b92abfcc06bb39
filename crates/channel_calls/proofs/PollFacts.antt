-- The answers of polls are of their own kind.
use Rattle.std.proofs.Common.{◌≡◌, Option, None, Some, Result, refl, sym, ap, subst}
use Rattle.event_listener.specs.declared.key.Key.{Key}
use Rattle.event_listener.specs.declared.error.ListenError.{ListenError}
use Rattle.concurrent_queue.specs.declared.cells.QueueForm.{QueueForm}
use Rattle.futures.specs.declared.task.Poll.{Poll}
use Rattle.futures.specs.declared.task.Poll.TheVariants.{Pending}
use Rattle.channel_calls.specs.declared.error.RecvError.{RecvError}
use Rattle.channel_calls.specs.declared.error.Refused.{Refused}
use Rattle.channel_calls.specs.declared.error.SendError.{SendError}
use Rattle.channel_calls.specs.Calls.{SendsOn, send_ask, recv_ask, closed_ask, next_ask}
use Rattle.channel_calls.specs.Replies.{MayPoll, ReplyAllowed}
use Rattle.channel_calls.specs.declared.reply.Reply.{Reply}
use Rattle.channel_calls.specs.declared.reply.Reply.TheVariants as reply
use Rattle.channel_calls.specs.declared.stage.WaitList.{WaitList}
use Rattle.channel_calls.specs.declared.stage.WaitList.TheVariants.{Sends, Receives, Streams, Closings}
use Rattle.channel_calls.specs.declared.stage.Waiting.TheVariants as waiting

module _ {T : Type 0} where
  -- a reply of the kind of this operation
  abbrev pub IsPollOf : WaitList → Reply T → Type 0
  IsPollOf Sends r = (p : Poll (Result Unit (Refused (SendError T) Unit))) × (r ≡ reply.SendPoll p)
  IsPollOf Receives r = (p : Poll (Result T (Refused RecvError Unit))) × (r ≡ reply.RecvPoll p)
  IsPollOf Streams r = (p : Poll (Option (Result T ListenError))) × (r ≡ reply.Next p)
  IsPollOf Closings r = (p : Poll (Result Unit ListenError)) × (r ≡ reply.ClosedPoll p)

  abbrev as_send : Reply T → Poll (Result Unit (Refused (SendError T) Unit))
  as_send (reply.SendPoll p) = p
  as_send _ = Pending

  sends : (v : T) (r : Reply T) (m : Option T) → MayPoll (waiting.Send v) r m → IsPollOf Sends r
  sends v (reply.SendPoll p) m h = (p, refl)
  sends v _ m h = absurd h

  receives : (r : Reply T) (m : Option T) → MayPoll waiting.Receive r m → IsPollOf Receives r
  receives (reply.RecvPoll p) m h = (p, refl)
  receives _ m h = absurd h

  streams : (r : Reply T) (m : Option T) → MayPoll waiting.Stream r m → IsPollOf Streams r
  streams (reply.Next p) m h = (p, refl)
  streams _ m h = absurd h

  closings : (r : Reply T) (m : Option T) → MayPoll waiting.Closing r m → IsPollOf Closings r
  closings (reply.ClosedPoll p) m h = (p, refl)
  closings _ m h = absurd h

module _ {T W : Type 0} (f : QueueForm) (key : Option Key) where
  pub send_polled : (m : Option T) (task : Option W) (r : Reply T) (left : Option T) → ReplyAllowed f (send_ask m key task) r left → IsPollOf Sends r
  send_polled m None r left h = (_, h.0)
  send_polled None (Some task) r left h = (_, h.0)
  send_polled (Some w) (Some task) r left h = sends w r left h

  pub recv_polled : (task : Option W) (r : Reply T) (left : Option T) → ReplyAllowed f (recv_ask key task) r left → IsPollOf {T = T} Receives r
  recv_polled None r left h = (_, h.0)
  recv_polled (Some task) r left h = receives r left h

  pub closed_polled : (task : Option W) (r : Reply T) (left : Option T) → ReplyAllowed f (closed_ask key task) r left → IsPollOf {T = T} Closings r
  closed_polled None r left h = (_, h.0)
  closed_polled (Some task) r left h = closings r left h

  pub next_polled : (task : Option W) (r : Reply T) (left : Option T) → ReplyAllowed f (next_ask key task) r left → IsPollOf {T = T} Streams r
  next_polled None r left h = (_, h.0)
  next_polled (Some task) r left h = streams r left h

  -- and what is left of a send's message
  keeps : (m : Option T) (task : Option W) (left : Option T) (p : Poll (Result Unit (Refused (SendError T) Unit))) → ReplyAllowed f (send_ask m key task) (reply.SendPoll p) left → SendsOn m p left
  keeps None None left p h = subst (λ (q : Poll (Result Unit (Refused (SendError T) Unit))). SendsOn None q left) (sym (ap (λ (x : Reply T). as_send x) h.0)) h.1
  keeps (Some v) None left p h = subst (λ (q : Poll (Result Unit (Refused (SendError T) Unit))). SendsOn (Some v) q left) (sym (ap (λ (x : Reply T). as_send x) h.0)) h.1
  keeps None (Some task) left p h = subst (λ (q : Poll (Result Unit (Refused (SendError T) Unit))). SendsOn None q left) (sym (ap (λ (x : Reply T). as_send x) h.0)) h.1
  keeps (Some v) (Some task) left p h = h

  pub sends_on : (m : Option T) (task : Option W) (r : Reply T) (left : Option T) (p : Poll (Result Unit (Refused (SendError T) Unit))) → r ≡ reply.SendPoll p → ReplyAllowed f (send_ask m key task) r left → SendsOn m p left
  sends_on m task r left p e h = keeps m task left p (subst (λ (x : Reply T). ReplyAllowed f (send_ask m key task) x left) e h)
