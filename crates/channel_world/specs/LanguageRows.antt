-- More worked scripts, computed.
use Rattle.std.specs.Prelude.{◌≡◌, ◌∷◌}
use Rattle.channel_world.specs.Words.{[], codes, refl, today}
use Rattle.std.specs.Fmt.{digits}
use Rattle.channel_world.specs.ScriptRows.{ran}

pub settling_polls_a_borrowed_stream : ran today (codes "unbounded" ∷ codes "next r" ∷ codes "recv a r" ∷ codes "try_send s 1" ∷ codes "next r" ∷ codes "settle" ∷ codes "next r" ∷ [])
    ≡ (codes "ok" ∷ codes "pending" ∷ codes "ok" ∷ codes "ok wakes r" ∷ codes "refused 6" ∷ codes "polls 1: r some 1" ∷ codes "refused 6" ∷ [], 0)
unfolding digits
settling_polls_a_borrowed_stream = refl

pub last_receiver_dropped_with_its_stream_pending : ran today (codes "unbounded" ∷ codes "send a s 1" ∷ codes "closed c s" ∷ codes "poll c" ∷ codes "next r" ∷ codes "drop r" ∷ codes "poll a" ∷ codes "poll c" ∷ [])
    ≡ (codes "ok" ∷ codes "ok" ∷ codes "ok" ∷ codes "pending" ∷ codes "pending" ∷ codes "ok wakes r c" ∷ codes "closed 1" ∷ codes "ready" ∷ [], 0)
unfolding digits
last_receiver_dropped_with_its_stream_pending = refl

pub receiver_dropped_after_a_closing : ran today (codes "unbounded" ∷ codes "next r" ∷ codes "close s" ∷ codes "drop r" ∷ [])
    ≡ (codes "ok" ∷ codes "pending" ∷ codes "true wakes r" ∷ codes "ok" ∷ [], 0)
unfolding digits
receiver_dropped_after_a_closing = refl

pub displacing_tells_no_send : ran today (codes "bounded 1" ∷ codes "recv a r" ∷ codes "recv b r" ∷ codes "poll a" ∷ codes "poll b" ∷ codes "try_send s 1" ∷ codes "send c s 2" ∷ codes "poll c" ∷ codes "force_send s 3" ∷ codes "try_recv r" ∷ [])
    ≡ (codes "ok" ∷ codes "ok" ∷ codes "ok" ∷ codes "pending" ∷ codes "pending" ∷ codes "ok wakes a" ∷ codes "ok" ∷ codes "pending" ∷ codes "ok displaced 1 wakes b" ∷ codes "ok 3 wakes c" ∷ [], 0)
unfolding digits
displacing_tells_no_send = refl

pub one_name_space : ran today (codes "unbounded" ∷ codes "recv a r" ∷ codes "clone a r" ∷ codes "send s s 1" ∷ codes "poll s" ∷ codes "try_send a 1" ∷ codes "same_channel x a" ∷ codes "send a x 1" ∷ codes "send a r 1" ∷ codes "recv z z" ∷ codes "same_channel s r" ∷ codes "next s" ∷ codes "drop r" ∷ codes "send r a 1" ∷ codes "drop a" ∷ codes "poll a" ∷ codes "recv a r" ∷ [])
    ≡ (codes "ok" ∷ codes "ok" ∷ codes "refused 4" ∷ codes "refused 4" ∷ codes "refused 7" ∷ codes "refused 7" ∷ codes "refused 3" ∷ codes "refused 3" ∷ codes "refused 7" ∷ codes "refused 3" ∷ codes "refused 7" ∷ codes "refused 7" ∷ codes "refused 6" ∷ codes "refused 7" ∷ codes "ok" ∷ codes "refused 3" ∷ codes "refused 4" ∷ [], 0)
unfolding digits
one_name_space = refl

pub told_one_keeps_its_place_in_the_order_of_wakes : ran today (codes "bounded 2" ∷ codes "recv a r" ∷ codes "next r" ∷ codes "drop a" ∷ codes "next r" ∷ codes "recv b r" ∷ codes "poll b" ∷ codes "try_send s 1" ∷ codes "try_send s 2" ∷ codes "close s" ∷ codes "settle" ∷ [])
    ≡ (codes "ok" ∷ codes "ok" ∷ codes "refused 6" ∷ codes "ok" ∷ codes "pending" ∷ codes "ok" ∷ codes "pending" ∷ codes "ok wakes b r" ∷ codes "ok" ∷ codes "true" ∷ codes "polls 2: b ok 1, r some 2" ∷ [], 0)
unfolding digits
told_one_keeps_its_place_in_the_order_of_wakes = refl

pub told_streams_dropped : ran today (codes "unbounded" ∷ codes "clone p r" ∷ codes "clone q r" ∷ codes "next r" ∷ codes "next p" ∷ codes "next q" ∷ codes "try_send s 1" ∷ codes "try_recv r" ∷ codes "next q" ∷ codes "drop r" ∷ codes "drop p" ∷ codes "drop q" ∷ [])
    ≡ (codes "ok" ∷ codes "ok" ∷ codes "ok" ∷ codes "pending" ∷ codes "pending" ∷ codes "pending" ∷ codes "ok wakes r p q" ∷ codes "ok 1" ∷ codes "pending" ∷ codes "ok" ∷ codes "ok wakes q" ∷ codes "ok" ∷ [], 0)
unfolding digits
told_streams_dropped = refl

pub told_send_accepted : ran today (codes "bounded 1" ∷ codes "clone q r" ∷ codes "try_send s 1" ∷ codes "send a s 2" ∷ codes "send b s 3" ∷ codes "poll a" ∷ codes "poll b" ∷ codes "try_recv r" ∷ codes "recv c r" ∷ codes "poll c" ∷ codes "next q" ∷ codes "poll a" ∷ [])
    ≡ (codes "ok" ∷ codes "ok" ∷ codes "ok" ∷ codes "ok" ∷ codes "ok" ∷ codes "pending" ∷ codes "pending" ∷ codes "ok 1 wakes a" ∷ codes "ok" ∷ codes "pending" ∷ codes "pending" ∷ codes "ok wakes c q b" ∷ [], 0)
unfolding digits
told_send_accepted = refl

pub closing_tells_all_lines : ran today (codes "bounded 1" ∷ codes "clone q r" ∷ codes "closed e s" ∷ codes "try_send s 1" ∷ codes "send a s 2" ∷ codes "send b s 3" ∷ codes "poll a" ∷ codes "poll b" ∷ codes "try_recv r" ∷ codes "recv c r" ∷ codes "poll e" ∷ codes "next q" ∷ codes "poll c" ∷ codes "close r" ∷ codes "poll b" ∷ codes "poll a" ∷ [])
    ≡ (codes "ok" ∷ codes "ok" ∷ codes "ok" ∷ codes "ok" ∷ codes "ok" ∷ codes "ok" ∷ codes "pending" ∷ codes "pending" ∷ codes "ok 1 wakes a" ∷ codes "ok" ∷ codes "pending" ∷ codes "pending" ∷ codes "pending" ∷ codes "true wakes b c q e" ∷ codes "closed 3" ∷ codes "closed 2" ∷ [], 0)
unfolding digits
closing_tells_all_lines = refl

pub refused_name_stays_free : ran today (codes "unbounded" ∷ codes "recv t s" ∷ codes "recv t r" ∷ codes "downgrade w s" ∷ codes "close r" ∷ codes "upgrade u w" ∷ codes "clone u r" ∷ codes "drop u" ∷ codes "len u" ∷ [])
    ≡ (codes "ok" ∷ codes "refused 7" ∷ codes "ok" ∷ codes "ok" ∷ codes "true" ∷ codes "none" ∷ codes "refused 4" ∷ codes "refused 3" ∷ codes "refused 3" ∷ [], 0)
unfolding digits
refused_name_stays_free = refl

pub untold_one_polled_keeps_its_place : ran today (codes "unbounded" ∷ codes "clone q r" ∷ codes "recv a r" ∷ codes "recv b r" ∷ codes "poll a" ∷ codes "poll b" ∷ codes "poll a" ∷ codes "next r" ∷ codes "next q" ∷ codes "drop a" ∷ codes "drop b" ∷ codes "recv c q" ∷ codes "recv d q" ∷ codes "poll c" ∷ codes "poll d" ∷ codes "poll c" ∷ codes "next r" ∷ codes "next q" ∷ codes "clone p r" ∷ codes "next p" ∷ codes "next r" ∷ codes "try_send s 1" ∷ [])
    ≡ (codes "ok" ∷ codes "ok" ∷ codes "ok" ∷ codes "ok" ∷ codes "pending" ∷ codes "pending" ∷ codes "pending" ∷ codes "refused 6" ∷ codes "pending" ∷ codes "ok" ∷ codes "ok" ∷ codes "ok" ∷ codes "ok" ∷ codes "pending" ∷ codes "pending" ∷ codes "pending" ∷ codes "pending" ∷ codes "refused 6" ∷ codes "ok" ∷ codes "pending" ∷ codes "pending" ∷ codes "ok wakes c q r p" ∷ [], 0)
unfolding digits
untold_one_polled_keeps_its_place = refl

pub closed_before_full : ran today (codes "bounded 1" ∷ codes "try_send s 1" ∷ codes "close s" ∷ codes "try_send s 2" ∷ codes "force_send s 3" ∷ codes "send a s 4" ∷ codes "is_terminated a" ∷ codes "poll a" ∷ codes "is_terminated a" ∷ codes "is_terminated r" ∷ codes "try_recv r" ∷ codes "is_terminated r" ∷ [])
    ≡ (codes "ok" ∷ codes "ok" ∷ codes "true" ∷ codes "closed 2" ∷ codes "closed 3" ∷ codes "ok" ∷ codes "false" ∷ codes "closed 4" ∷ codes "true" ∷ codes "false" ∷ codes "ok 1" ∷ codes "true" ∷ [], 0)
unfolding digits
closed_before_full = refl

pub upgrades_count : ran today (codes "unbounded" ∷ codes "downgrade w r" ∷ codes "downgrade v s" ∷ codes "upgrade u w" ∷ codes "upgrade t v" ∷ codes "receiver_count s" ∷ codes "sender_count r" ∷ codes "drop w" ∷ codes "drop v" ∷ codes "receiver_count s" ∷ codes "sender_count r" ∷ codes "drop r" ∷ codes "is_closed s" ∷ codes "drop u" ∷ codes "is_closed s" ∷ [])
    ≡ (codes "ok" ∷ codes "ok" ∷ codes "ok" ∷ codes "ok" ∷ codes "ok" ∷ codes "2" ∷ codes "2" ∷ codes "ok" ∷ codes "ok" ∷ codes "2" ∷ codes "2" ∷ codes "ok" ∷ codes "false" ∷ codes "ok" ∷ codes "true" ∷ [], 0)
unfolding digits
upgrades_count = refl

pub settling_wakes_and_polls_twice : ran today (codes "unbounded" ∷ codes "clone q r" ∷ codes "recv a r" ∷ codes "recv b r" ∷ codes "poll a" ∷ codes "poll b" ∷ codes "next q" ∷ codes "send c s 7" ∷ codes "poll c" ∷ codes "send d s 8" ∷ codes "settle" ∷ codes "poll d" ∷ codes "settle" ∷ [])
    ≡ (codes "ok" ∷ codes "ok" ∷ codes "ok" ∷ codes "ok" ∷ codes "pending" ∷ codes "pending" ∷ codes "pending" ∷ codes "ok" ∷ codes "ok wakes a q" ∷ codes "ok" ∷ codes "polls 3: a ok 7, q pending, b pending" ∷ codes "ok wakes b q" ∷ codes "polls 2: b ok 8, q pending" ∷ [], 0)
unfolding digits
settling_wakes_and_polls_twice = refl

pub settling_reaches_its_bound : ran today (codes "bounded 1" ∷ codes "recv b r" ∷ codes "poll b" ∷ codes "try_send s 1" ∷ codes "send c s 2" ∷ codes "poll c" ∷ codes "try_recv r" ∷ codes "settle" ∷ [])
    ≡ (codes "ok" ∷ codes "ok" ∷ codes "pending" ∷ codes "ok wakes b" ∷ codes "ok" ∷ codes "pending" ∷ codes "ok 1 wakes c" ∷ codes "polls 3: b pending, c ok, b ok 2" ∷ [], 0)
unfolding digits
settling_reaches_its_bound = refl

pub settling_polls_a_stream_twice : ran today (codes "bounded 1" ∷ codes "clone q r" ∷ codes "recv b r" ∷ codes "poll b" ∷ codes "next q" ∷ codes "try_send s 1" ∷ codes "send c s 2" ∷ codes "poll c" ∷ codes "settle" ∷ [])
    ≡ (codes "ok" ∷ codes "ok" ∷ codes "ok" ∷ codes "pending" ∷ codes "pending" ∷ codes "ok wakes b q" ∷ codes "ok" ∷ codes "pending" ∷ codes "polls 4: b ok 1, q pending, c ok, q some 2" ∷ [], 0)
unfolding digits
settling_polls_a_stream_twice = refl

pub stream_has_not_ended_beside_a_message : ran today (codes "unbounded" ∷ codes "try_send s 1" ∷ codes "close r" ∷ codes "is_terminated r" ∷ codes "try_recv r" ∷ codes "is_terminated r" ∷ [])
    ≡ (codes "ok" ∷ codes "ok" ∷ codes "true" ∷ codes "false" ∷ codes "ok 1" ∷ codes "true" ∷ [], 0)
unfolding digits
stream_has_not_ended_beside_a_message = refl

pub several_at_once_tell_as_many_sends : ran today (codes "bounded 3" ∷ codes "try_send s 1" ∷ codes "try_send s 2" ∷ codes "try_send s 3" ∷ codes "send a s 4" ∷ codes "send b s 5" ∷ codes "send c s 6" ∷ codes "poll a" ∷ codes "poll b" ∷ codes "poll c" ∷ codes "recv_many r 2" ∷ codes "poll a" ∷ codes "poll b" ∷ codes "poll c" ∷ codes "recv_many r 10" ∷ codes "poll c" ∷ codes "recv_many r 10" ∷ codes "recv_many r 10" ∷ codes "close s" ∷ codes "recv_many r 1" ∷ codes "recv_many r 0" ∷ [])
    ≡ (codes "ok" ∷ codes "ok" ∷ codes "ok" ∷ codes "ok" ∷ codes "ok" ∷ codes "ok" ∷ codes "ok" ∷ codes "pending" ∷ codes "pending" ∷ codes "pending" ∷ codes "ok 1 2 wakes a b" ∷ codes "ok wakes c" ∷ codes "ok" ∷ codes "pending" ∷ codes "ok 3 4 5 wakes c" ∷ codes "ok" ∷ codes "ok 6" ∷ codes "empty" ∷ codes "true" ∷ codes "closed" ∷ codes "ok" ∷ [], 0)
unfolding digits
several_at_once_tell_as_many_sends = refl
