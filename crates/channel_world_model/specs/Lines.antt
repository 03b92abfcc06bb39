-- Which names wait, in four lines, and which of them were told.
use Rattle.std.specs.Prelude.{◌==◌, ◌&&◌, ◌∷◌, ◌++◌, if◌then◌else◌}
use Rattle.channel_world_model.specs.Words.{ℕ, zero, suc, List, [], take, drop, Bool, true, false, not, list_any, filter, Waiter, Op, Stream, WaitList, Sends, Receives, Streams, Closings, News, Nothing, Message, Room, Closing, NextIn}

-- The untold of each line in order of arrival; and the told of all lines in the order in which they were woken. A told
-- one is a pending one that was woken, so the told of a line are those of `woken` that belong to it, and they stand in
-- front of its untold.
pub record Waiting : Type 0 where
  pub sends : List Waiter
  pub receives : List Waiter
  pub streams : List Waiter
  pub closings : List Waiter
  pub woken : List Waiter

abbrev pub nobody : Waiting
nobody = record { sends = []; receives = []; streams = []; closings = []; woken = [] }

abbrev pub same_waiter : Waiter → Waiter → Bool
same_waiter (Op a) (Op b) = a.0 == b.0
same_waiter (Stream a) (Stream b) = a.0 == b.0
same_waiter (Op a) (Stream b) = false
same_waiter (Stream a) (Op b) = false

abbrev pub is_among : Waiter → List Waiter → Bool
is_among w ws = list_any (same_waiter w) ws

abbrev pub is_stream : Waiter → Bool
is_stream (Op a) = false
is_stream (Stream a) = true

-- the untold of a line
abbrev pub untold : WaitList → Waiting → List Waiter
untold Sends l = l.sends
untold Receives l = l.receives
untold Streams l = l.streams
untold Closings l = l.closings

abbrev pub with_untold : WaitList → List Waiter → Waiting → Waiting
with_untold Sends ws l = record l { sends = ws }
with_untold Receives ws l = record l { receives = ws }
with_untold Streams ws l = record l { streams = ws }
with_untold Closings ws l = record l { closings = ws }

-- The names that news are told to, in order: a message tells one more receive, then all streams; room tells one more send; a
-- closing tells all, line by line.
abbrev pub told_by : News → Waiting → List Waiter
told_by Nothing l = []
told_by Message l = take 1 l.receives ++ l.streams
told_by Room l = take 1 l.sends
told_by Closing l = l.sends ++ l.receives ++ l.streams ++ l.closings
told_by (NextIn line) l = take 1 (untold line l)

-- those that are still untold
abbrev pub untold_after : News → Waiting → Waiting
untold_after Nothing l = l
untold_after Message l = record l { receives = drop 1 l.receives; streams = [] }
untold_after Room l = record l { sends = drop 1 l.sends }
untold_after Closing l = record l { sends = []; receives = []; streams = []; closings = [] }
untold_after (NextIn line) l = with_untold line (drop 1 (untold line l)) l

-- each one told is woken, after all that were woken before
abbrev pub after_news : News → Waiting → Waiting
after_news news l = record (untold_after news l) { woken = l.woken ++ told_by news l }

abbrev pub without_waiter : Waiter → List Waiter → List Waiter
without_waiter w ws = filter (λ v. not (same_waiter w v)) ws

-- w stands nowhere any more
abbrev pub gone : Waiter → Waiting → Waiting
gone w l = record {
  sends = without_waiter w l.sends;
  receives = without_waiter w l.receives;
  streams = without_waiter w l.streams;
  closings = without_waiter w l.closings;
  woken = without_waiter w l.woken;
}

-- What one that leaves passes on: a told send or receive tells one more of its line, a told stream tells one more only
-- where no other stream is told, and a told wait for the closing tells nobody.
abbrev pub passed_on : WaitList → Waiter → Waiting → News
passed_on Sends w l = if is_among w l.woken then NextIn Sends else Nothing
passed_on Receives w l = if is_among w l.woken then NextIn Receives else Nothing
passed_on Streams w l =
    if is_among w l.woken && not (list_any is_stream (without_waiter w l.woken)) then NextIn Streams else Nothing
passed_on Closings w l = Nothing

-- news are told, and then w leaves its line and passes on what it was told
abbrev pub left_after : News → WaitList → Waiter → Waiting → Waiting
left_after news line w l = let told = after_news news l in after_news (passed_on line w told) (gone w told)

-- the names that are told by that, in order
abbrev pub told_after : News → WaitList → Waiter → Waiting → List Waiter
told_after news line w l = let told = after_news news l in told_by news l ++ told_by (passed_on line w told) (gone w told)

-- So many places became free at once: as many more sends are told, one after another.
abbrev pub after_rooms : ℕ → Waiting → Waiting
after_rooms zero l = l
after_rooms (suc n) l = after_rooms n (after_news Room l)

-- the names that are told by that, in order
abbrev pub told_by_rooms : ℕ → Waiting → List Waiter
told_by_rooms zero l = []
told_by_rooms (suc n) l = told_by Room l ++ told_by_rooms n (after_news Room l)

-- w stands at the end of its line, and nowhere else
abbrev pub at_end : WaitList → Waiter → Waiting → Waiting
at_end line w l = let left = gone w l in with_untold line (untold line left ++ w ∷ []) left

-- a poll that ends pending: in its old place if it was untold, at the end, untold, if it is new or was told
abbrev pub standing : WaitList → Waiter → Waiting → Waiting
standing line w l = if is_among w (untold line l) then l else at_end line w l

-- all of a line are told
abbrev pub all_told : WaitList → Waiting → Waiting
all_told line l = record (with_untold line [] l) { woken = l.woken ++ untold line l }
