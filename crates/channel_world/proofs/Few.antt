-- How many names a call wakes at most.
use Rattle.std.specs.Prelude.{◌≡◌, ◌≤◌, ◌+◌, ◌∷◌, ◌++◌, ◌&&◌, ◌==◌, if◌then◌else◌}
use Rattle.channel_world.proofs.Words.{arith, ℕ, List, [], length, take, drop, zero, suc, Bool, true, false, not, refl, length-append, list_any, WaitList, Sends, Receives, Streams, Answer, strong_handles, dropped, drop_one, Waiting, told_by, after_news, told_by_rooms, gone, passed_on, told_after, is_among, is_stream, without_waiter, waits_in, Answers, State, Call, HandleId, HandleKind, Sender, Receiver, Waiter, Op, Stream, News, Message, Room, Closing, NextIn, few_passed, first_one, Shape, shape_of, untold_count, most_woken}
use Rattle.channel_world_model.specs.declared.news.News.TheVariants.{Nothing}
use Rattle.channel_world_model.proofs.Shapes as shape

-- ---- lists

-- news that are no closing
few_message : (l : Waiting) → length (told_by Message l) ≤ 1 + length l.streams
few_message l = let e = length-append (take 1 l.receives) l.streams in let f = first_one l.receives in omega (arith, e, f)

closing_all : (l : Waiting) → length (told_by Closing l) ≤ untold_count l
closing_all l =
    let a = length-append (l.sends ++ l.receives ++ l.streams) l.closings in
    let b = length-append (l.sends ++ l.receives) l.streams in
    let c = length-append l.sends l.receives in
    omega (arith, a, b, c)

few_closing : (b : Bool) (l : Waiting) → length (told_by (if b then Closing else Nothing) l) ≤ untold_count l
few_closing true l = closing_all l
few_closing false l = omega arith

-- a stream that leaves a channel that it closes tells nobody more
none_after_closing : (b : Bool) (w : Waiter) (l : Waiting) → length (told_by (if b then NextIn Streams else Nothing) (gone w (after_news Closing l))) ≤ 0
none_after_closing true w l = omega arith
none_after_closing false w l = omega arith

few_left_closing : (b : Bool) (w : Waiter) (l : Waiting) → length (told_after (if b then Closing else Nothing) Streams w l) ≤ untold_count l
few_left_closing true w l =
    let told = after_news Closing l in
    let joined = length-append (told_by Closing l) (told_by (passed_on Streams w told) (gone w told)) in
    let all = closing_all l in
    let none = none_after_closing (is_among w told.woken && not (list_any is_stream (without_waiter w told.woken))) w l in
    omega (arith, joined, all, none)
few_left_closing false w l = next (is_among w (after_news Nothing l).woken && not (list_any is_stream (without_waiter w (after_news Nothing l).woken))) where
  left : length (take 1 (without_waiter w l.streams)) ≤ length l.streams
  left = let a = first_one (without_waiter w l.streams) in shorter l.streams where
    shorter : (ws : List Waiter) → length (take 1 (without_waiter w ws)) ≤ length ws
    shorter [] = omega arith
    shorter (v ∷ ws) = let b = first_one (without_waiter w (v ∷ ws)) in omega (arith, b)

  next : (b : Bool) → length (told_by (if b then NextIn Streams else Nothing) (gone w (after_news Nothing l))) ≤ untold_count l
  next true = let a = left in omega (arith, a)
  next false = omega arith

-- one send for each message, of those that wait
few_rooms : (n : ℕ) (l : Waiting) → length (told_by_rooms n l) ≤ length l.sends
few_rooms zero l = omega arith
few_rooms (suc n) l =
    let rest = few_rooms n (after_news Room l) in
    let one = shared l.sends in
    let e = length-append (told_by Room l) (told_by_rooms n (after_news Room l)) in
    omega (arith, rest, one, e)
  where
    shared : (ws : List Waiter) → length (take 1 ws) + length (drop 1 ws) ≡ length ws
    shared [] = refl
    shared (w ∷ ws) = omega arith

module _ {T : Type 0} (s : State T) where
  few_drop : (handle : HandleId) (kind : HandleKind) → length (drop_one (dropped s handle) handle kind).woken ≤ untold_count s.waiting
  few_drop handle Sender = few_closing ((strong_handles Sender s.channel == 1) && not s.channel.closed) s.waiting
  few_drop handle Receiver = few_left_closing ((strong_handles Receiver s.channel == 1) && not s.channel.closed) (Stream handle) s.waiting
  few_drop handle kind = omega arith

  -- one that leaves its line tells one beside the news
  few_leaving : (news : News) (line : WaitList) (w : Waiter) → length (told_after news line w s.waiting) ≤ length (told_by news s.waiting) + 1
  few_leaving news line w =
      let told = after_news news s.waiting in
      let f = few_passed line w told (gone w told) in
      let e = length-append (told_by news s.waiting) (told_by (passed_on line w told) (gone w told)) in
      omega (arith, f, e)

  few_shape : {c : Call T} {a : Answer T} → Shape s c a → length a.woken ≤ most_woken c s.waiting
  few_shape (shape.tries sender m e) = let f = few_message s.waiting in omega (arith, f)
  few_shape (shape.forces sender m room) = let f = few_message s.waiting in omega (arith, f)
  few_shape (shape.displaces sender m oldest rest e) = let f = few_message s.waiting in omega (arith, f)
  few_shape (shape.sends op handle m there e) = let f = few_message s.waiting in let l = few_leaving Message Sends (Op op) in omega (arith, f, l)
  few_shape (shape.fails op handle m there) = let l = few_leaving Nothing Sends (Op op) in omega (arith, l)
  few_shape (shape.takes receiver m rest e) = let f = first_one s.waiting.sends in omega (arith, f)
  few_shape (shape.several receiver limit m ms rest e few) = few_rooms (length (m ∷ ms)) s.waiting
  few_shape (shape.receives op m rest own e) = let f = first_one s.waiting.sends in let l = few_leaving Room Receives (Op op) in omega (arith, f, l)
  few_shape (shape.streams receiver m rest e) = let f = first_one (gone (Stream receiver) s.waiting).sends in omega (arith, f)
  few_shape (shape.leaves op line r own h) = let l = few_leaving Nothing line (Op op) in omega (arith, l)
  few_shape (shape.refuses op line r own h) = let l = few_leaving Nothing line (Op op) in omega (arith, l)
  few_shape (shape.gives_up op x there) = let l = few_leaving Nothing (waits_in x) (Op op) in omega (arith, l)
  few_shape (shape.shuts handle e) = closing_all s.waiting
  few_shape (shape.drops handle h there) = few_drop handle h.kind
  few_shape x = omega arith

-- no call wakes more than there is room for
pub few_woken : {T : Type 0} (s : State T) (c : Call T) (a : Answer T) → Answers s c a → length a.woken ≤ most_woken c s.waiting
few_woken s c a e = few_shape s (shape_of s c a e)
