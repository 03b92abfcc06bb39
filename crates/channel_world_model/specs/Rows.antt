-- Worked rows of calls, one at a time, with ample memory.
use Rattle.std.specs.Prelude.{◌≡◌, ◌∷◌}
use Rattle.channel_world_model.specs.Words.{ℕ, List, [], true, None, Some, Ok, Err, refl, Call, Reply, Waiter, Op, Stream, OpId, HandleId, Plain, NoMemory, Ready, Pending, TrySendError, TryRecvError, WorldRefusal}
use Rattle.channel_world_model.specs.State.{start}
use Rattle.channel_world_model.specs.Refusal.{refusal}
use Rattle.channel_world_model.specs.Settling.{replies, state_after, settling_polls}

abbrev op : ℕ → OpId
op n = record { 0 = n }

abbrev handle : ℕ → HandleId
handle n = record { 0 = n }

abbrev s : HandleId
s = handle 0

abbrev r : HandleId
r = handle 1

-- a reply that wakes nobody
abbrev alone : Reply ℕ → Reply ℕ × List Waiter
alone x = (x, [])

abbrev handle_made : Reply ℕ × List Waiter
handle_made = alone Reply.Made

abbrev sent : Reply ℕ
sent = Reply.TrySend (Ok tt)

abbrev full : ℕ → Reply ℕ × List Waiter
full m = alone (Reply.TrySend (Err (Plain (TrySendError.Full m))))

abbrev got : ℕ → Reply ℕ
got m = Reply.RecvPoll (Ready (Ok m))

abbrev none_yet : Reply ℕ × List Waiter
none_yet = alone (Reply.RecvPoll Pending)

abbrev no_place : Reply ℕ × List Waiter
no_place = alone (Reply.SendPoll Pending)

abbrev send_over : Reply ℕ
send_over = Reply.SendPoll (Ready (Ok tt))

abbrev polling : ℕ → Call ℕ
polling n = Call.Poll (op n)

abbrev took : List ℕ → Reply ℕ
took ms = Reply.RecvMany (Ok ms)

abbrev many : ℕ → Call ℕ
many n = Call.RecvMany r n

pub several_taken_at_once_tell_as_many : replies (start (Some 2)) (Call.TrySend s 1 ∷ Call.NewSend (op 0) s 2 ∷ Call.NewSend (op 1) s 3 ∷ Call.NewSend (op 2) s 4 ∷ polling 0 ∷ polling 1 ∷ polling 2 ∷ many 9 ∷ Call.Close s ∷ many 0 ∷ many 9 ∷ [])
    ≡ alone sent ∷ handle_made ∷ handle_made ∷ handle_made ∷ alone send_over ∷ no_place ∷ no_place ∷ (took (1 ∷ 2 ∷ []), Op (op 1) ∷ Op (op 2) ∷ []) ∷ alone (Reply.Closed true) ∷ alone (took []) ∷ alone (Reply.RecvMany (Err (Plain TryRecvError.Closed))) ∷ []
several_taken_at_once_tell_as_many = refl

pub as_many_are_told_as_were_taken : replies (start (Some 1)) (Call.TrySend s 1 ∷ Call.NewSend (op 0) s 2 ∷ Call.NewSend (op 1) s 3 ∷ polling 0 ∷ polling 1 ∷ many 2 ∷ [])
    ≡ alone sent ∷ handle_made ∷ handle_made ∷ no_place ∷ no_place ∷ (took (1 ∷ []), Op (op 0) ∷ []) ∷ []
as_many_are_told_as_were_taken = refl

pub one_place_filled_and_emptied : replies (start (Some 1)) (Call.NewSend (op 0) s 10 ∷ polling 0 ∷ Call.TrySend s 20 ∷ Call.NewRecv (op 1) r ∷ polling 1 ∷ Call.TryRecv r ∷ [])
    ≡ handle_made ∷ alone send_over ∷ full 20 ∷ handle_made ∷ alone (got 10) ∷ alone (Reply.TryRecv (Err TryRecvError.Empty)) ∷ []
one_place_filled_and_emptied = refl

pub forced_send_displaces_the_oldest : replies (start (Some 3)) (Call.NewSend (op 0) s 1 ∷ Call.NewSend (op 1) s 2 ∷ polling 0 ∷ polling 1 ∷ Call.ForceSend s 3 ∷ Call.ForceSend s 4 ∷ Call.TryRecv r ∷ Call.TryRecv r ∷ Call.TryRecv r ∷ [])
    ≡ handle_made ∷ handle_made ∷ alone send_over ∷ alone send_over ∷ alone (Reply.ForceSend (Ok None)) ∷ alone (Reply.ForceSend (Ok (Some 1))) ∷ alone (Reply.TryRecv (Ok 2)) ∷ alone (Reply.TryRecv (Ok 3)) ∷ alone (Reply.TryRecv (Ok 4)) ∷ []
forced_send_displaces_the_oldest = refl

pub sends_after_the_last_receiver_find_it_closed : replies (start (Some 100)) (Call.NewSend (op 1) s 1 ∷ polling 1 ∷ Call.NewSend (op 2) s 2 ∷ polling 2 ∷ Call.NewSend (op 3) s 3 ∷ polling 3 ∷ Call.Drop r ∷ Call.NewSend (op 4) s 4 ∷ polling 4 ∷ Call.TrySend s 5 ∷ [])
    ≡ handle_made ∷ alone send_over ∷ handle_made ∷ alone send_over ∷ handle_made ∷ alone send_over ∷ alone Reply.Unit ∷ handle_made ∷ alone (Reply.SendPoll (Ready (Err (Plain (record { 0 = 4 }))))) ∷ alone (Reply.TrySend (Err (Plain (TrySendError.Closed 5)))) ∷ []
sends_after_the_last_receiver_find_it_closed = refl

pub told_receive_given_up_passes_on : replies (start (Some 1)) (Call.NewRecv (op 1) r ∷ Call.NewRecv (op 2) r ∷ polling 1 ∷ polling 2 ∷ Call.TrySend s 10 ∷ Call.TrySend s 20 ∷ Call.GiveUp (op 1) ∷ polling 2 ∷ [])
    ≡ handle_made ∷ handle_made ∷ none_yet ∷ none_yet ∷ (sent, Op (op 1) ∷ []) ∷ full 20 ∷ (Reply.GivenUp None, Op (op 2) ∷ []) ∷ alone (got 10) ∷ []
told_receive_given_up_passes_on = refl

pub sends_wait_in_turn : replies (start (Some 1)) (Call.TrySend s 1 ∷ Call.NewSend (op 1) s 2 ∷ Call.NewSend (op 2) s 3 ∷ polling 1 ∷ polling 2 ∷ Call.TryRecv r ∷ polling 1 ∷ Call.TryRecv r ∷ polling 2 ∷ Call.TryRecv r ∷ [])
    ≡ alone sent ∷ handle_made ∷ handle_made ∷ no_place ∷ no_place ∷ (Reply.TryRecv (Ok 1), Op (op 1) ∷ []) ∷ (send_over, Op (op 2) ∷ []) ∷ alone (Reply.TryRecv (Ok 2)) ∷ alone send_over ∷ alone (Reply.TryRecv (Ok 3)) ∷ []
sends_wait_in_turn = refl

pub closing_wakes_line_by_line : replies (start None) (Call.TryClone r (handle 2) ∷ Call.NewRecv (op 1) r ∷ Call.NewClosed (op 2) s ∷ polling 1 ∷ Call.PollNext (handle 2) ∷ polling 2 ∷ Call.Close s ∷ polling 1 ∷ Call.PollNext (handle 2) ∷ polling 2 ∷ [])
    ≡ handle_made ∷ handle_made ∷ handle_made ∷ none_yet ∷ alone (Reply.Next Pending) ∷ alone (Reply.ClosedPoll Pending) ∷ (Reply.Closed true, Op (op 1) ∷ Stream (handle 2) ∷ Op (op 2) ∷ [])
    ∷ alone (Reply.RecvPoll (Ready (Err (Plain (record {}))))) ∷ alone (Reply.Next (Ready None)) ∷ alone (Reply.ClosedPoll (Ready (Ok tt))) ∷ []
closing_wakes_line_by_line = refl

pub message_wakes_a_receive_and_all_streams : replies (start None) (Call.TryClone r (handle 2) ∷ Call.NewRecv (op 1) r ∷ Call.PollNext (handle 2) ∷ polling 1 ∷ Call.TrySend s 7 ∷ Call.PollNext (handle 2) ∷ polling 1 ∷ Call.TrySend s 8 ∷ polling 1 ∷ [])
    ≡ handle_made ∷ handle_made ∷ alone (Reply.Next Pending) ∷ none_yet ∷ (sent, Op (op 1) ∷ Stream (handle 2) ∷ []) ∷ alone (Reply.Next (Ready (Some (Ok 7)))) ∷ none_yet ∷ (sent, Op (op 1) ∷ []) ∷ alone (got 8) ∷ []
message_wakes_a_receive_and_all_streams = refl

abbrev three_pending : List (Call ℕ)
three_pending = Call.NewRecv (op 1) r ∷ Call.NewRecv (op 2) r ∷ Call.NewRecv (op 3) r ∷ polling 1 ∷ polling 2 ∷ polling 3 ∷ Call.TrySend s 9 ∷ []

pub settling_polls_whom_its_polls_wake : settling_polls 6 (state_after (start (Some 1)) three_pending) ≡ (Op (op 1), got 9) ∷ (Op (op 2), Reply.RecvPoll Pending) ∷ []
settling_polls_whom_its_polls_wake = refl

pub closed_channel_gives_no_handle : replies (start {T = ℕ} None) (Call.Downgrade s (handle 2) ∷ Call.Close s ∷ Call.Upgrade (handle 2) (handle 3) ∷ []) ≡ handle_made ∷ alone (Reply.Closed true) ∷ alone Reply.NotMade ∷ []
closed_channel_gives_no_handle = refl

pub name_of_a_handle_not_made_is_taken : refusal (state_after (start {T = ℕ} None) (Call.Downgrade s (handle 2) ∷ Call.Close s ∷ Call.Upgrade (handle 2) (handle 3) ∷ [])) (Call.TryClone s (handle 3)) ≡ Some WorldRefusal.NameTaken
name_of_a_handle_not_made_is_taken = refl

pub taking_tells_before_leaving : replies (start (Some 1)) (Call.NewRecv (op 1) r ∷ Call.NewRecv (op 2) r ∷ Call.NewSend (op 3) s 2 ∷ polling 1 ∷ polling 2 ∷ Call.TrySend s 1 ∷ polling 3 ∷ polling 1 ∷ [])
    ≡ handle_made ∷ handle_made ∷ handle_made ∷ none_yet ∷ none_yet ∷ (sent, Op (op 1) ∷ []) ∷ no_place ∷ (got 1, Op (op 3) ∷ Op (op 2) ∷ []) ∷ []
taking_tells_before_leaving = refl

pub untold_one_keeps_its_place : replies (start (Some 1)) (Call.TrySend s 1 ∷ Call.NewSend (op 1) s 2 ∷ Call.NewSend (op 2) s 3 ∷ polling 1 ∷ polling 2 ∷ polling 1 ∷ Call.TryRecv r ∷ [])
    ≡ alone sent ∷ handle_made ∷ handle_made ∷ no_place ∷ no_place ∷ no_place ∷ (Reply.TryRecv (Ok 1), Op (op 1) ∷ []) ∷ []
untold_one_keeps_its_place = refl

pub second_taking_tells_one_more : replies (start (Some 2)) (Call.TrySend s 1 ∷ Call.TrySend s 2 ∷ Call.NewSend (op 1) s 3 ∷ Call.NewSend (op 2) s 4 ∷ polling 1 ∷ polling 2 ∷ Call.TryRecv r ∷ Call.TryRecv r ∷ [])
    ≡ alone sent ∷ alone sent ∷ handle_made ∷ handle_made ∷ no_place ∷ no_place ∷ (Reply.TryRecv (Ok 1), Op (op 1) ∷ []) ∷ (Reply.TryRecv (Ok 2), Op (op 2) ∷ []) ∷ []
second_taking_tells_one_more = refl

pub told_send_given_up_passes_on : replies (start (Some 1)) (Call.TrySend s 1 ∷ Call.NewSend (op 1) s 2 ∷ Call.NewSend (op 2) s 3 ∷ polling 1 ∷ polling 2 ∷ Call.TryRecv r ∷ Call.GiveUp (op 1) ∷ polling 2 ∷ [])
    ≡ alone sent ∷ handle_made ∷ handle_made ∷ no_place ∷ no_place ∷ (Reply.TryRecv (Ok 1), Op (op 1) ∷ []) ∷ (Reply.GivenUp (Some 2), Op (op 2) ∷ []) ∷ alone send_over ∷ []
told_send_given_up_passes_on = refl

pub untold_receive_takes_the_message : replies (start None) (Call.NewRecv (op 1) r ∷ Call.NewRecv (op 2) r ∷ Call.NewRecv (op 3) r ∷ polling 1 ∷ polling 2 ∷ polling 3 ∷ Call.TrySend s 1 ∷ polling 2 ∷ polling 1 ∷ Call.TrySend s 2 ∷ Call.GiveUp (op 3) ∷ polling 1 ∷ polling 1 ∷ [])
    ≡ handle_made ∷ handle_made ∷ handle_made ∷ none_yet ∷ none_yet ∷ none_yet ∷ (sent, Op (op 1) ∷ []) ∷ alone (got 1) ∷ none_yet ∷ (sent, Op (op 3) ∷ []) ∷ (Reply.GivenUp None, Op (op 1) ∷ []) ∷ alone (got 2) ∷ none_yet ∷ []
untold_receive_takes_the_message = refl

pub refused_poll_passes_its_notice_on : replies (start (Some 1)) (Call.NewRecv (op 1) r ∷ Call.NewRecv (op 2) r ∷ polling 1 ∷ polling 2 ∷ Call.TrySend s 9 ∷ Call.PollRefused (op 1) ∷ polling 2 ∷ [])
    ≡ handle_made ∷ handle_made ∷ none_yet ∷ none_yet ∷ (sent, Op (op 1) ∷ []) ∷ (Reply.RecvPoll (Ready (Err (NoMemory tt))), Op (op 2) ∷ []) ∷ alone (got 9) ∷ []
refused_poll_passes_its_notice_on = refl

pub refused_poll_keeps_its_message : replies (start (Some 1)) (Call.TrySend s 1 ∷ Call.NewSend (op 1) s 2 ∷ polling 1 ∷ Call.PollRefused (op 1) ∷ Call.TryRecv r ∷ polling 1 ∷ Call.TryRecv r ∷ [])
    ≡ alone sent ∷ handle_made ∷ no_place ∷ alone (Reply.SendPoll (Ready (Err (NoMemory tt)))) ∷ alone (Reply.TryRecv (Ok 1)) ∷ alone send_over ∷ alone (Reply.TryRecv (Ok 2)) ∷ []
refused_poll_keeps_its_message = refl

pub last_receiver_leaves_after_its_closing : replies (start {T = ℕ} None) (Call.NewClosed (op 1) s ∷ polling 1 ∷ Call.PollNext r ∷ Call.Drop r ∷ []) ≡ handle_made ∷ alone (Reply.ClosedPoll Pending) ∷ alone (Reply.Next Pending) ∷ (Reply.Unit, Stream r ∷ Op (op 1) ∷ []) ∷ []
last_receiver_leaves_after_its_closing = refl

pub displacing_tells_no_send : replies (start (Some 1)) (Call.NewRecv (op 1) r ∷ Call.NewRecv (op 2) r ∷ polling 1 ∷ polling 2 ∷ Call.TrySend s 1 ∷ Call.NewSend (op 3) s 2 ∷ polling 3 ∷ Call.ForceSend s 3 ∷ Call.TryRecv r ∷ [])
    ≡ handle_made ∷ handle_made ∷ none_yet ∷ none_yet ∷ (sent, Op (op 1) ∷ []) ∷ handle_made ∷ no_place ∷ (Reply.ForceSend (Ok (Some 1)), Op (op 2) ∷ []) ∷ (Reply.TryRecv (Ok 3), Op (op 3) ∷ []) ∷ []
displacing_tells_no_send = refl
