-- Worked scripts of what can be read today, computed.
use Rattle.std.specs.Prelude.{◌≡◌, ◌∷◌, ◌++◌}
use Rattle.channel_world.specs.Words.{ℕ, List, [], codes, refl, repeat, Language, today}
use Rattle.std.specs.Fmt.{digits}
use Rattle.channel_world.specs.Script.{script_in, script}
use Rattle.channel_world.specs.Output.{text_of_lines, last_lines, status_of, text_of_script}

-- the lines that are written for these lines, and the status
abbrev pub ran : Language → List (List ℕ) → List (List ℕ) × ℕ
ran language lines =
    let s = script_in language (text_of_lines lines) in
    (s.replies ++ last_lines s.end, status_of s.end)

pub stored_run : ran today (codes "bounded 1" ∷ codes "try_send s 10" ∷ codes "try_send s 20" ∷ codes "try_recv r" ∷ codes "try_recv r" ∷ codes "close s" ∷ codes "try_send s 30" ∷ codes "try_recv r" ∷ [])
    ≡ (codes "ok" ∷ codes "ok" ∷ codes "full 20" ∷ codes "ok 10" ∷ codes "empty" ∷ codes "true" ∷ codes "closed 30" ∷ codes "closed" ∷ [], 0)
unfolding digits
stored_run = refl

pub no_capacity : ran today (codes "bounded 0" ∷ [])
    ≡ (codes "capacity must be positive" ∷ [], 3)
unfolding digits
no_capacity = refl

pub no_lines : ran today ([])
    ≡ ([], 0)
unfolding digits
no_lines = refl

pub leading_zero : ran today (codes "bounded 1" ∷ codes "try_send s 01" ∷ [])
    ≡ (codes "ok" ∷ codes "line 2: can't be read" ∷ [], 2)
unfolding digits
leading_zero = refl

pub wrong_kind_and_unknown_names : ran today (codes "bounded 2" ∷ codes "try_recv s" ∷ codes "try_send x 1" ∷ codes "close q" ∷ [])
    ≡ (codes "ok" ∷ codes "refused 7" ∷ codes "refused 3" ∷ codes "refused 3" ∷ [], 0)
unfolding digits
wrong_kind_and_unknown_names = refl

pub one_word_missing : ran today (codes "bounded 1" ∷ codes "try_send s" ∷ [])
    ≡ (codes "ok" ∷ codes "line 2: can't be read" ∷ [], 2)
unfolding digits
one_word_missing = refl

pub capacity_past_all_memory : ran today (codes "bounded 288230376151711745" ∷ [])
    ≡ (codes "want of memory" ∷ [], 4)
unfolding digits
capacity_past_all_memory = refl

pub capacity_of_all_ones : ran today (codes "bounded 18446744073709551615" ∷ [])
    ≡ (codes "want of memory" ∷ [], 4)
unfolding digits
capacity_of_all_ones = refl

pub capacity_of_two_zeros : ran today (codes "bounded 00" ∷ [])
    ≡ (codes "line 1: can't be read" ∷ [], 2)
unfolding digits
capacity_of_two_zeros = refl

pub closing_wakes_a_receive : ran today (codes "bounded 1" ∷ codes "recv a r" ∷ codes "poll a" ∷ codes "drop r" ∷ codes "try_recv x" ∷ codes "close s" ∷ [])
    ≡ (codes "ok" ∷ codes "ok" ∷ codes "pending" ∷ codes "refused 6" ∷ codes "refused 3" ∷ codes "true wakes a" ∷ [], 0)
unfolding digits
closing_wakes_a_receive = refl

pub last_sender_dropped : ran today (codes "unbounded" ∷ codes "recv a r" ∷ codes "poll a" ∷ codes "drop s" ∷ codes "poll a" ∷ codes "try_send s 1" ∷ [])
    ≡ (codes "ok" ∷ codes "ok" ∷ codes "pending" ∷ codes "ok wakes a" ∷ codes "closed" ∷ codes "refused 3" ∷ [], 0)
unfolding digits
last_sender_dropped = refl

pub sends_in_order_of_arrival : ran today (codes "bounded 1" ∷ codes "try_send s 1" ∷ codes "send a s 2" ∷ codes "send b s 3" ∷ codes "poll a" ∷ codes "poll b" ∷ codes "try_recv r" ∷ codes "poll a" ∷ codes "try_recv r" ∷ codes "poll b" ∷ codes "try_recv r" ∷ [])
    ≡ (codes "ok" ∷ codes "ok" ∷ codes "ok" ∷ codes "ok" ∷ codes "pending" ∷ codes "pending" ∷ codes "ok 1 wakes a" ∷ codes "ok wakes b" ∷ codes "ok 2" ∷ codes "ok" ∷ codes "ok 3" ∷ [], 0)
unfolding digits
sends_in_order_of_arrival = refl

pub told_receive_wakes_send_and_receive : ran today (codes "bounded 1" ∷ codes "recv a r" ∷ codes "recv b r" ∷ codes "send c s 2" ∷ codes "poll a" ∷ codes "poll b" ∷ codes "try_send s 1" ∷ codes "poll c" ∷ codes "poll a" ∷ [])
    ≡ (codes "ok" ∷ codes "ok" ∷ codes "ok" ∷ codes "ok" ∷ codes "pending" ∷ codes "pending" ∷ codes "ok wakes a" ∷ codes "pending" ∷ codes "ok 1 wakes c b" ∷ [], 0)
unfolding digits
told_receive_wakes_send_and_receive = refl

pub empty_second_line : ran today (codes "bounded 1" ∷ codes "" ∷ [])
    ≡ (codes "ok" ∷ codes "line 2: can't be read" ∷ [], 2)
unfolding digits
empty_second_line = refl

pub empty_first_line : ran today (codes "" ∷ [])
    ≡ (codes "line 1: can't be read" ∷ [], 2)
unfolding digits
empty_first_line = refl

pub opened_twice : ran today (codes "bounded 1" ∷ codes "bounded 1" ∷ [])
    ≡ (codes "ok" ∷ codes "line 2: can't be read" ∷ [], 2)
unfolding digits
opened_twice = refl

pub message_past_all_numbers : ran today (codes "bounded 1" ∷ codes "try_send s 18446744073709551616" ∷ [])
    ≡ (codes "ok" ∷ codes "line 2: can't be read" ∷ [], 2)
unfolding digits
message_past_all_numbers = refl

pub greatest_message : ran today (codes "bounded 1" ∷ codes "try_send s 18446744073709551615" ∷ codes "try_recv r" ∷ [])
    ≡ (codes "ok" ∷ codes "ok" ∷ codes "ok 18446744073709551615" ∷ [], 0)
unfolding digits
greatest_message = refl

pub settling_three_receives : ran today (codes "bounded 1" ∷ codes "recv a r" ∷ codes "recv b r" ∷ codes "recv c r" ∷ codes "poll a" ∷ codes "poll b" ∷ codes "poll c" ∷ codes "try_send s 9" ∷ codes "settle" ∷ codes "len r" ∷ codes "settle" ∷ [])
    ≡ (codes "ok" ∷ codes "ok" ∷ codes "ok" ∷ codes "ok" ∷ codes "pending" ∷ codes "pending" ∷ codes "pending" ∷ codes "ok wakes a" ∷ codes "polls 2: a ok 9, b pending" ∷ codes "0" ∷ codes "polls 0" ∷ [], 0)
unfolding digits
settling_three_receives = refl

pub settling_after_a_closing : ran today (codes "bounded 1" ∷ codes "clone q r" ∷ codes "closed e s" ∷ codes "try_send s 1" ∷ codes "send a s 2" ∷ codes "send b s 3" ∷ codes "poll a" ∷ codes "poll b" ∷ codes "try_recv r" ∷ codes "recv c r" ∷ codes "poll e" ∷ codes "next q" ∷ codes "poll c" ∷ codes "close r" ∷ codes "settle" ∷ codes "settle" ∷ [])
    ≡ (codes "ok" ∷ codes "ok" ∷ codes "ok" ∷ codes "ok" ∷ codes "ok" ∷ codes "ok" ∷ codes "pending" ∷ codes "pending" ∷ codes "ok 1 wakes a" ∷ codes "ok" ∷ codes "pending" ∷ codes "pending" ∷ codes "pending" ∷ codes "true wakes b c q e" ∷ codes "polls 5: a closed 2, b closed 3, c closed, q none, e ready" ∷ codes "polls 0" ∷ [], 0)
unfolding digits
settling_after_a_closing = refl

pub nobody_woken_to_settle : ran today (codes "bounded 1" ∷ codes "recv a r" ∷ codes "poll a" ∷ codes "settle" ∷ [])
    ≡ (codes "ok" ∷ codes "ok" ∷ codes "pending" ∷ codes "polls 0" ∷ [], 0)
unfolding digits
nobody_woken_to_settle = refl

pub settle_takes_no_name : ran today (codes "bounded 1" ∷ codes "settle s" ∷ [])
    ≡ (codes "ok" ∷ codes "line 2: can't be read" ∷ [], 2)
unfolding digits
settle_takes_no_name = refl

pub receiver_of_an_open_channel_is_not_terminated : ran today (codes "unbounded" ∷ codes "is_terminated r" ∷ codes "is_terminated s" ∷ [])
    ≡ (codes "ok" ∷ codes "false" ∷ codes "refused 7" ∷ [], 0)
unfolding digits
receiver_of_an_open_channel_is_not_terminated = refl

pub untold_receive_takes_the_message : ran today (codes "unbounded" ∷ codes "recv a r" ∷ codes "recv b r" ∷ codes "recv c r" ∷ codes "poll a" ∷ codes "poll b" ∷ codes "poll c" ∷ codes "try_send s 1" ∷ codes "poll b" ∷ codes "poll a" ∷ codes "try_send s 2" ∷ codes "drop c" ∷ codes "poll a" ∷ codes "poll a" ∷ [])
    ≡ (codes "ok" ∷ codes "ok" ∷ codes "ok" ∷ codes "ok" ∷ codes "pending" ∷ codes "pending" ∷ codes "pending" ∷ codes "ok wakes a" ∷ codes "ok 1" ∷ codes "pending" ∷ codes "ok wakes c" ∷ codes "ok wakes a" ∷ codes "ok 2" ∷ codes "pending" ∷ [], 0)
unfolding digits
untold_receive_takes_the_message = refl

pub finished_ones_polled_again : ran today (codes "bounded 1" ∷ codes "send a s 1" ∷ codes "poll a" ∷ codes "poll a" ∷ codes "is_terminated a" ∷ codes "drop s" ∷ codes "recv b r" ∷ codes "poll b" ∷ codes "poll b" ∷ codes "poll b" ∷ codes "drop a" ∷ codes "drop s" ∷ codes "poll b" ∷ [])
    ≡ (codes "ok" ∷ codes "ok" ∷ codes "ok" ∷ codes "pending" ∷ codes "true" ∷ codes "refused 6" ∷ codes "ok" ∷ codes "ok 1" ∷ codes "pending" ∷ codes "pending" ∷ codes "ok" ∷ codes "ok wakes b" ∷ codes "closed" ∷ [], 0)
unfolding digits
finished_ones_polled_again = refl

pub told_send_given_up : ran today (codes "bounded 1" ∷ codes "try_send s 1" ∷ codes "send a s 2" ∷ codes "send b s 3" ∷ codes "poll a" ∷ codes "poll b" ∷ codes "try_recv r" ∷ codes "drop a" ∷ codes "poll b" ∷ [])
    ≡ (codes "ok" ∷ codes "ok" ∷ codes "ok" ∷ codes "ok" ∷ codes "pending" ∷ codes "pending" ∷ codes "ok 1 wakes a" ∷ codes "ok wakes b" ∷ codes "ok" ∷ [], 0)
unfolding digits
told_send_given_up = refl

pub untold_send_polled_keeps_its_place : ran today (codes "bounded 1" ∷ codes "try_send s 1" ∷ codes "send a s 2" ∷ codes "send b s 3" ∷ codes "poll a" ∷ codes "poll b" ∷ codes "poll a" ∷ codes "try_recv r" ∷ [])
    ≡ (codes "ok" ∷ codes "ok" ∷ codes "ok" ∷ codes "ok" ∷ codes "pending" ∷ codes "pending" ∷ codes "pending" ∷ codes "ok 1 wakes a" ∷ [], 0)
unfolding digits
untold_send_polled_keeps_its_place = refl

pub taking_beside_a_told_send_tells_one_more : ran today (codes "bounded 2" ∷ codes "try_send s 1" ∷ codes "try_send s 2" ∷ codes "send a s 3" ∷ codes "send b s 4" ∷ codes "poll a" ∷ codes "poll b" ∷ codes "try_recv r" ∷ codes "try_recv r" ∷ [])
    ≡ (codes "ok" ∷ codes "ok" ∷ codes "ok" ∷ codes "ok" ∷ codes "ok" ∷ codes "pending" ∷ codes "pending" ∷ codes "ok 1 wakes a" ∷ codes "ok 2 wakes b" ∷ [], 0)
unfolding digits
taking_beside_a_told_send_tells_one_more = refl

pub questions_of_a_channel_of_two : ran today (codes "bounded 2" ∷ codes "capacity r" ∷ codes "len s" ∷ codes "is_empty r" ∷ codes "is_full s" ∷ codes "is_closed s" ∷ codes "try_send s 1" ∷ codes "try_send s 2" ∷ codes "len r" ∷ codes "is_empty s" ∷ codes "is_full r" ∷ codes "same_channel s s" ∷ codes "same_channel s r" ∷ codes "close r" ∷ codes "is_closed r" ∷ codes "is_terminated r" ∷ codes "recv_many r 5" ∷ codes "is_terminated r" ∷ [])
    ≡ (codes "ok" ∷ codes "2" ∷ codes "0" ∷ codes "true" ∷ codes "false" ∷ codes "false" ∷ codes "ok" ∷ codes "ok" ∷ codes "2" ∷ codes "false" ∷ codes "true" ∷ codes "true" ∷ codes "refused 7" ∷ codes "true" ∷ codes "true" ∷ codes "false" ∷ codes "ok 1 2" ∷ codes "true" ∷ [], 0)
unfolding digits
questions_of_a_channel_of_two = refl

pub questions_of_a_channel_without_a_bound : ran today (codes "unbounded" ∷ codes "capacity s" ∷ codes "try_send s 1" ∷ codes "is_full r" ∷ codes "len r" ∷ codes "sender_count r" ∷ codes "receiver_count s" ∷ [])
    ≡ (codes "ok" ∷ codes "none" ∷ codes "ok" ∷ codes "false" ∷ codes "1" ∷ codes "1" ∷ codes "1" ∷ [], 0)
unfolding digits
questions_of_a_channel_without_a_bound = refl

pub a_closed_channel_gives_no_more_handles : ran today (codes "unbounded" ∷ codes "downgrade w s" ∷ codes "close s" ∷ codes "upgrade t w" ∷ codes "upgrade t w" ∷ codes "sender_count t" ∷ codes "sender_count s" ∷ [])
    ≡ (codes "ok" ∷ codes "ok" ∷ codes "true" ∷ codes "none" ∷ codes "refused 4" ∷ codes "refused 3" ∷ codes "1" ∷ [], 0)
unfolding digits
a_closed_channel_gives_no_more_handles = refl

pub a_clone_of_a_weak_handle_upgrades : ran today (codes "unbounded" ∷ codes "downgrade w r" ∷ codes "clone v w" ∷ codes "upgrade t v" ∷ codes "receiver_count t" ∷ [])
    ≡ (codes "ok" ∷ codes "ok" ∷ codes "ok" ∷ codes "ok" ∷ codes "2" ∷ [], 0)
unfolding digits
a_clone_of_a_weak_handle_upgrades = refl

-- ---- as bytes

pub text_of_bytes : text_of_script (script (codes "bounded 1" ++ 10 ∷ codes "try_recv r")) ≡ codes "ok" ++ 10 ∷ codes "empty" ++ 10 ∷ []
text_of_bytes = refl

pub no_bytes : text_of_script (script []) ≡ []
no_bytes = refl

pub carriage_return : text_of_script (script (codes "unbounded" ++ 13 ∷ 10 ∷ [])) ≡ codes "line 1: can't be read" ++ 10 ∷ []
unfolding digits
carriage_return = refl

pub byte_past_ascii : text_of_script (script (codes "unbounded" ++ 10 ∷ 255 ∷ [])) ≡ codes "ok" ++ 10 ∷ codes "line 2: can't be read" ++ 10 ∷ []
unfolding digits
byte_past_ascii = refl

pub line_of_201_bytes : text_of_script (script (codes "unbounded" ++ 10 ∷ repeat 201 (97 ∷ []))) ≡ codes "ok" ++ 10 ∷ codes "line 2: can't be read" ++ 10 ∷ []
unfolding digits
line_of_201_bytes = refl
