-- Reply lines.
use Rattle.std.specs.Prelude.{ℕ, zero, suc, List, [], ◌∷◌, ◌++◌, length, Bool, true, false, None, Some, Ok, Err, codes}
use Rattle.std.specs.List.{flat_map, join_by}
use Rattle.std.specs.Fmt.{decimal}
use Rattle.channel_calls.specs.declared.reply.Reply.{Reply}
use Rattle.channel_world_language.specs.Table.{Table, waiter_name}
use Rattle.channel_world_model.specs.declared.name.Waiter.{Waiter}
use Rattle.channel_calls.specs.declared.error.Refused.TheVariants.{Plain, NoMemory, SerialsUsedUp}
use Rattle.channel_world_model.specs.declared.refusal.WorldRefusal.{WorldRefusal}
use Rattle.channel_world_model.specs.Refusal.{refusal_number}
use Rattle.futures.specs.declared.task.Poll.TheVariants.{Ready, Pending}
use Rattle.channel_calls.specs.declared.error.TrySendError.{TrySendError}
use Rattle.channel_calls.specs.declared.error.TryRecvError.{TryRecvError}

abbrev pub yes_or_no : Bool → List ℕ
yes_or_no true = codes "true"
yes_or_no false = codes "false"

-- of closing, of a question, and of what makes or ends a handle or an operation; a reply that wants memory or serials has no
-- text, since it ends the script
abbrev pub short_text : Reply ℕ → List ℕ
short_text (Reply.Closed b) = yes_or_no b
short_text (Reply.Flag b) = yes_or_no b
short_text (Reply.Count n) = decimal n
short_text (Reply.Cap None) = codes "none"
short_text (Reply.Cap (Some n)) = decimal n
short_text Reply.Made = codes "ok"
short_text Reply.NotMade = codes "none"
short_text Reply.TooMany = codes "too many"
short_text (Reply.GivenUp m) = codes "ok"
short_text Reply.Unit = codes "ok"
short_text wanting = []

-- messages in order, each after a space
abbrev pub several_text : List ℕ → List ℕ
several_text ms = codes "ok" ++ flat_map (λ m. 32 ∷ decimal m) ms

abbrev pub reply_text : Reply ℕ → List ℕ
reply_text (Reply.TrySend (Ok u)) = codes "ok"
reply_text (Reply.TrySend (Err (Plain (TrySendError.Full m)))) = codes "full " ++ decimal m
reply_text (Reply.TrySend (Err (Plain (TrySendError.Closed m)))) = codes "closed " ++ decimal m
reply_text (Reply.ForceSend (Ok None)) = codes "ok"
reply_text (Reply.ForceSend (Ok (Some m))) = codes "ok displaced " ++ decimal m
reply_text (Reply.ForceSend (Err (Plain e))) = codes "closed " ++ decimal e.0
reply_text (Reply.TryRecv (Ok m)) = codes "ok " ++ decimal m
reply_text (Reply.TryRecv (Err TryRecvError.Empty)) = codes "empty"
reply_text (Reply.TryRecv (Err TryRecvError.Closed)) = codes "closed"
reply_text (Reply.RecvMany (Ok ms)) = several_text ms
reply_text (Reply.RecvMany (Err (Plain TryRecvError.Empty))) = codes "empty"
reply_text (Reply.RecvMany (Err (Plain TryRecvError.Closed))) = codes "closed"
reply_text (Reply.SendPoll Pending) = codes "pending"
reply_text (Reply.SendPoll (Ready (Ok u))) = codes "ok"
reply_text (Reply.SendPoll (Ready (Err (Plain e)))) = codes "closed " ++ decimal e.0
reply_text (Reply.RecvPoll Pending) = codes "pending"
reply_text (Reply.RecvPoll (Ready (Ok m))) = codes "ok " ++ decimal m
reply_text (Reply.RecvPoll (Ready (Err (Plain e)))) = codes "closed"
reply_text (Reply.ClosedPoll Pending) = codes "pending"
reply_text (Reply.ClosedPoll (Ready (Ok u))) = codes "ready"
reply_text (Reply.Next Pending) = codes "pending"
reply_text (Reply.Next (Ready None)) = codes "none"
reply_text (Reply.Next (Ready (Some (Ok m)))) = codes "some " ++ decimal m
reply_text r = short_text r

-- the names that a call woke, after its reply
abbrev pub wakes_text : Table → List Waiter → List ℕ
wakes_text table [] = []
wakes_text table (w ∷ ws) = codes " wakes" ++ flat_map (λ v. 32 ∷ waiter_name table v) (w ∷ ws)

abbrev pub refused_text : WorldRefusal → List ℕ
refused_text w = codes "refused " ++ decimal (refusal_number w)

-- one poll of a settling, and all of them
abbrev pub poll_text : Table → Waiter × Reply ℕ → List ℕ
poll_text table p = waiter_name table p.0 ++ 32 ∷ reply_text p.1

-- the polls: a colon before the first, a comma before each other
abbrev pub parted : Table → List (Waiter × Reply ℕ) → List ℕ
parted table [] = []
parted table (p ∷ ps) = codes ": " ++ join_by (poll_text table) (codes ", ") (p ∷ ps)

abbrev pub settle_text : Table → List (Waiter × Reply ℕ) → List ℕ
settle_text table ps = codes "polls " ++ decimal (length ps) ++ parted table ps

-- what stands before the k-th poll
abbrev pub part_before : ℕ → List ℕ
part_before zero = codes ": "
part_before (suc k) = codes ", "

-- a reply says that memory or serials were refused
abbrev pub wants_growth : Reply ℕ → Bool
wants_growth (Reply.TrySend (Err (NoMemory m))) = true
wants_growth (Reply.TrySend (Err (SerialsUsedUp m))) = true
wants_growth (Reply.ForceSend (Err (NoMemory m))) = true
wants_growth (Reply.ForceSend (Err (SerialsUsedUp m))) = true
wants_growth (Reply.RecvMany (Err (NoMemory u))) = true
wants_growth (Reply.RecvMany (Err (SerialsUsedUp u))) = true
wants_growth (Reply.SendPoll (Ready (Err (NoMemory u)))) = true
wants_growth (Reply.SendPoll (Ready (Err (SerialsUsedUp u)))) = true
wants_growth (Reply.RecvPoll (Ready (Err (NoMemory u)))) = true
wants_growth (Reply.RecvPoll (Ready (Err (SerialsUsedUp u)))) = true
wants_growth (Reply.ClosedPoll (Ready (Err e))) = true
wants_growth (Reply.Next (Ready (Some (Err e)))) = true
wants_growth r = false
