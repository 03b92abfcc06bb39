-- How few polls a settling makes: each brings the end nearer by one, where each that is pending counts for those that it wakes as it
-- leaves. Only a send whose message is accepted wakes streams.
use Rattle.std.specs.Prelude.{◌≡◌, ◌⊎◌, ◌≤◌, ◌+◌, ◌∷◌}
use Rattle.channel_world.proofs.Lemmas.{arith, ℕ, suc, nat_eq, List, [], length, take, drop, Bool, true, false, Option, None, Some, Ok, inl, inr, refl, sym, ap, subst, ◌∙◌, length-append, slice_get, Reply, WaitList, Sends, Receives, Streams, Closings, Answer, space_of, first, found, AwakeIn, Kind, Placed, appended, with_messages, is_line, line_at, line_of_operation, Waiting, is_among, untold, told_by, after_news, gone, passed_on, left_after, told_after, standing, Names, at, with_operation_changed, Answers, poll_of, SettlesTo, State, Call, HandleId, OpId, Operation, Waiter, Op, Stream, News, Message, Room, Open, found_name, no_line, poll_awake, set_elsewhere, set_here, Shape, shape_of, count_all, count_news, count_gone, count_gone_one, count_end, few_passed, first_one, first_there, front_stays, not_untold, woken_next, decided, none_left, came_in, Ready, SettlingIsShort, most_polls, pending_on, on, weight, no_more, by_one, by_send, by_receive, by_stream, count_on, all_streams, fewer_kinds}
use Rattle.channel_world_model.specs.declared.news.News.TheVariants.{Nothing}
use Rattle.channel_world_model.proofs.Shapes.{brings}
use Rattle.channel_world_model.proofs.Shapes as shape
use Rattle.channel_world_model.proofs.Settle.{one_if}

-- ---- one poll

-- whom one of this line wakes at most as it leaves, beside so many streams
abbrev most_told : WaitList → ℕ → ℕ
most_told Sends n = 2 + n
most_told Receives n = 2
most_told Streams n = 1
most_told Closings n = 0

-- one of this line left: of each sort one fewer is pending if it is of it, and no more else
pub record Left (w : Waiter) (line : WaitList) (l m : Waiting) (names : List Waiter) : Type 0 where
  pub fewer : (p : Waiter → Bool) → count_all p m + one_if (p w) ≤ count_all p l
  pub few : length names ≤ most_told line (length l.streams)

-- it stands: of no sort more are pending, and nobody was woken
pub record Stood (l m : Waiting) (names : List Waiter) : Type 0 where
  pub same : (p : Waiter → Bool) → count_all p m ≤ count_all p l
  pub none : names ≡ []

abbrev pub LeftOrStood : Waiter → WaitList → Waiting → Waiting → List Waiter → Type 0
LeftOrStood w line l m names = Left w line l m names ⊎ Stood l m names

module _ (k : Kind) (w : Waiter) (l : Waiting) (placed : Placed k l) (e : is_among w l.woken ≡ true) where
  fewer_left : (news : News) (line : WaitList) (p : Waiter → Bool) → count_all p (left_after news line w l) + one_if (p w) ≤ count_all p l
  fewer_left news line p =
      let told = after_news news l in
      let one = count_gone_one p w told (front_stays w l.woken (told_by news l) e) in
      let passed = count_news p (passed_on line w told) (gone w told) in
      let first = count_news p news l in
      omega (arith, one, passed, first)

  -- it tells nothing new
  few_passed_on : (line : WaitList) → length (told_after Nothing line w l) ≤ most_told line (length l.streams)
  few_passed_on Sends = let f = few_passed Sends w (after_news Nothing l) (gone w (after_news Nothing l)) in omega (arith, f)
  few_passed_on Receives = let f = few_passed Receives w (after_news Nothing l) (gone w (after_news Nothing l)) in omega (arith, f)
  few_passed_on Streams = let f = few_passed Streams w (after_news Nothing l) (gone w (after_news Nothing l)) in omega (arith, f)
  few_passed_on Closings = omega arith

  leaves : (line : WaitList) → LeftOrStood w line l (left_after Nothing line w l) (told_after Nothing line w l)
  leaves line = inl (record { fewer = fewer_left Nothing line; few = few_passed_on line })

  -- a send's message is accepted
  accepted : Left w Sends l (left_after Message Sends w l) (told_after Message Sends w l)
  accepted =
      let told = after_news Message l in
      let all = length-append (told_by Message l) (told_by (passed_on Sends w told) (gone w told)) in
      let both = length-append (take 1 l.receives) l.streams in
      let one = first_one l.receives in
      let passed = few_passed Sends w told (gone w told) in
      record { fewer = fewer_left Message Sends; few = omega (arith, all, both, one, passed) }

  -- a receive takes a message
  takes : Left w Receives l (left_after Room Receives w l) (told_after Room Receives w l)
  takes =
      let told = after_news Room l in
      let all = length-append (told_by Room l) (told_by (passed_on Receives w told) (gone w told)) in
      let one = first_one l.sends in
      let passed = few_passed Receives w told (gone w told) in
      record { fewer = fewer_left Room Receives; few = omega (arith, all, one, passed) }

  -- a stream takes one
  gives : Left w Streams l (after_news Room (gone w l)) (told_by Room (gone w l))
  gives = record {
    fewer = λ p. let one = count_gone_one p w l e in let same = count_news p Room (gone w l) in omega (arith, one, same);
    few = first_one (gone w l).sends;
  }

  is_gone : (line : WaitList) → LeftOrStood w line l (gone w l) []
  is_gone line = inl (record { fewer = λ p. count_gone_one p w l e; few = omega arith })

  stood : (line other : WaitList) → LeftOrStood w line l (standing other w l) []
  stood line other = rw (not_untold k other w l placed e) (inr (record {
    same = λ p. let end = count_end p other w l in let one = count_gone_one p w l e in omega (arith, end, one);
    none = refl;
  }))

  stood_again : LeftOrStood w Streams l (standing Streams w (gone w l)) []
  stood_again =
      let off : is_among w (untold Streams (gone w l)) ≡ false = none_left w l.streams in
      rw off (inr (record {
        same = λ p. let end = count_end p Streams w (gone w l) in
            let one = count_gone_one p w l e in
            let more = count_gone p w (gone w l) in
            omega (arith, end, one, more);
        none = refl;
      }))

module _ (k : Kind) (w : Waiter) (l m : Waiting) (names : List Waiter) (streams : length l.streams ≤ count_all (on k Streams) l)
    (woken : length m.woken + 1 ≡ length l.woken + length names) where
  nearer_left : (line : WaitList) → k w ≡ Some line → Left w line l m names → suc (weight k m) ≤ weight k l
  nearer_left Sends own x =
      let one : one_if (is_line Sends (k w)) ≡ 1 = ap (λ (o : Option WaitList). one_if (is_line Sends o)) own in
      let s = x.fewer (on k Sends) in
      let r = x.fewer (on k Receives) in
      let n = x.fewer (on k Streams) in
      let few = x.few in
      by_send _ _ _ _ _ _ _ _ (length names) woken (omega (arith, few, streams)) (omega (arith, s, one)) (omega (arith, r)) (omega (arith, n))
  nearer_left Receives own x =
      let one : one_if (is_line Receives (k w)) ≡ 1 = ap (λ (o : Option WaitList). one_if (is_line Receives o)) own in
      let s = x.fewer (on k Sends) in
      let r = x.fewer (on k Receives) in
      let n = x.fewer (on k Streams) in
      by_receive _ _ _ _ _ _ _ _ (length names) woken x.few (omega (arith, s)) (omega (arith, r, one)) (omega (arith, n))
  nearer_left Streams own x =
      let one : one_if (is_line Streams (k w)) ≡ 1 = ap (λ (o : Option WaitList). one_if (is_line Streams o)) own in
      let s = x.fewer (on k Sends) in
      let r = x.fewer (on k Receives) in
      let n = x.fewer (on k Streams) in
      by_stream _ _ _ _ _ _ _ _ (length names) woken x.few (omega (arith, s)) (omega (arith, r)) (omega (arith, n, one))
  nearer_left Closings own x =
      let s = x.fewer (on k Sends) in
      let r = x.fewer (on k Receives) in
      let n = x.fewer (on k Streams) in
      let few = x.few in
      by_one _ _ _ _ _ _ _ _ (omega (arith, woken, few)) (omega (arith, s)) (omega (arith, r)) (omega (arith, n))

  nearer : (line : WaitList) → k w ≡ Some line → LeftOrStood w line l m names → suc (weight k m) ≤ weight k l
  nearer line own (inl x) = nearer_left line own x
  nearer line own (inr x) =
      let none = ap (λ (ws : List Waiter). length ws) x.none in
      by_one _ _ _ _ _ _ _ _ (omega (arith, woken, none)) (x.same (on k Sends)) (x.same (on k Receives)) (x.same (on k Streams))

one_fewer : (w : Waiter) (ws : List Waiter) → slice_get ws 0 ≡ Some w → length (drop 1 ws) + 1 ≡ length ws
one_fewer w [] e = cc e
one_fewer w (v ∷ ws) e = omega arith

-- ---- the answers of a poll

module _ {T : Type 0} where
  module _ (s : State T) where
    -- who belongs to a line after it belonged to it before
    abbrev pub KeepsLines : Names T → Type 0
    KeepsLines names = (line : WaitList) (v : Waiter) → is_line line (line_at names v) ≡ true → is_line line (line_at s.names v) ≡ true

    -- a send left, and its message came in where a place was free
    pub record Comes (line : WaitList) (w : Waiter) (a : Answer T) : Type 0 where
      pub line_is : line ≡ Sends
      pub left : Left w line s.waiting a.after.waiting a.woken
      pub came : came_in a.reply ≡ 1
      pub fits : space_of s.channel ≡ Open
      pub message : T
      pub channel : a.after.channel ≡ appended s.channel message

    -- one that takes a message left with the oldest
    pub record Takes (line : WaitList) (w : Waiter) (a : Answer T) : Type 0 where
      pub line_is : (line ≡ Receives) ⊎ (line ≡ Streams)
      pub left : Left w line s.waiting a.after.waiting a.woken
      pub came : came_in a.reply ≡ 0
      pub message : T
      pub rest : List T
      pub there : found s.channel ≡ first message rest
      pub channel : a.after.channel ≡ with_messages s.channel rest

    -- the channel is as it was
    pub record Stays (a : Answer T) : Type 0 where
      pub came : came_in a.reply ≡ 0
      pub channel : a.after.channel ≡ s.channel

    abbrev pub Does : WaitList → Waiter → Answer T → Type 0
    Does line w a = Comes line w a ⊎ Takes line w a ⊎ Stays a

    -- so a poll of one of this line leaves those that wait, the names, and the channel
    abbrev pub Polled : WaitList → Waiter → Answer T → Type 0
    Polled line w a = LeftOrStood w line s.waiting a.after.waiting a.woken × KeepsLines a.after.names × Does line w a

    stays : (line : WaitList) (w : Waiter) (a : Answer T) → came_in a.reply ≡ 0 → a.after.channel ≡ s.channel → Does line w a
    stays line w a came same = inr (inr (record { came = came; channel = same }))

    kept : KeepsLines s.names
    kept line v e = e

    finishes : (op : OpId) (handle : HandleId) (x : Operation T) → at op.0 s.names.operations ≡ Some x
        → KeepsLines (with_operation_changed op (Operation.Send handle None) s.names)
    finishes op handle x there line (Stream r) e = e
    finishes op handle x there line (Op other) e =
        let named = found_name op.0 s.names.operations x there in
        elim (decided (nat_eq op.0 other.0)) [
          | inl t ↦
              let here = ap (λ (o : Option (Operation T)). is_line line (line_of_operation o))
              (set_here op.0 other.0 (Some (Operation.Send handle None)) s.names.operations named t) in
              absurd (let no : false ≡ true = sym here ∙ e in cc)
          | inr t ↦
              sym (ap (λ (o : Option (Operation T)). is_line line (line_of_operation o))
              (set_elsewhere op.0 other.0 (Some (Operation.Send handle None)) s.names.operations named t)) ∙ e
        ]

    -- one of a line was polled
    pub record PolledAs (w : Waiter) (a : Answer T) : Type 0 where
      pub line : WaitList
      pub own : line_at s.names w ≡ Some line
      pub so : Polled line w a

    -- a reply that says nothing of it brought nothing in
    none_came : (r : Reply T) → brings r ≡ false → came_in r ≡ 0
    none_came (Reply.TrySend (Ok u)) e = cc e
    none_came (Reply.ForceSend (Ok d)) e = cc e
    none_came (Reply.SendPoll (Ready (Ok u))) e = cc e
    none_came r e = refl

    abbrev AsPolled : Call T → Answer T → Type 0
    AsPolled (Call.Poll op) a = is_among (Op op) s.waiting.woken ≡ true → PolledAs (Op op) a
    AsPolled (Call.PollNext receiver) a = is_among (Stream receiver) s.waiting.woken ≡ true → PolledAs (Stream receiver) a
    AsPolled c a = Unit {0}

    module _ (awake : AwakeIn s) where
      abbrev k : Kind
      k = line_at s.names

      as_polled : {c : Call T} {a : Answer T} → Shape s c a → AsPolled c a
      as_polled (shape.says (Call.Poll op) r rests h) = λ e. no_line (k (Op op)) (awake.placed.wakes (Op op) e) rests
      as_polled (shape.says (Call.PollNext receiver) r rests h) =
          λ e. let off = not_untold k Streams (Stream receiver) s.waiting awake.placed e in cc (rests, off)
      as_polled (shape.sends op handle m there fits) = λ e.
          let left = accepted k (Op op) s.waiting awake.placed e in
          record {
            line = Sends;
            own = ap line_of_operation there;
            so = (inl left, finishes op handle _ there, inl (record { line_is = refl; left = left; came = refl; fits = fits; message = m; channel = refl }));
          }
      as_polled (shape.fails op handle m there) = λ e. record {
        line = Sends;
        own = ap line_of_operation there;
        so = (leaves k (Op op) s.waiting awake.placed e Sends, finishes op handle _ there, stays Sends (Op op) _ refl refl);
      }
      as_polled (shape.receives op m rest own there) = λ e.
          let left = takes k (Op op) s.waiting awake.placed e in
          record {
            line = Receives;
            own = own;
            so = (inl left, kept, inr (inl (record { line_is = inl refl; left = left; came = refl; message = m; rest = rest; there = there; channel = refl })));
          }
      as_polled (shape.streams receiver m rest there) = λ e.
          let left = gives k (Stream receiver) s.waiting awake.placed e in
          record {
            line = Streams;
            own = refl;
            so = (inl left, kept, inr (inl (record { line_is = inr refl; left = left; came = refl; message = m; rest = rest; there = there; channel = refl })));
          }
      as_polled (shape.stands op line r own o i h) = λ e. record {
        line = line;
        own = own;
        so = (stood k (Op op) s.waiting awake.placed e line line, kept, stays line (Op op) _ (none_came r h.2) refl);
      }
      as_polled (shape.restands receiver none o) = λ e. record {
        line = Streams;
        own = refl;
        so = (stood_again k (Stream receiver) s.waiting awake.placed e, kept, stays Streams (Stream receiver) _ refl refl);
      }
      as_polled (shape.leaves op line r own h) = λ e. record {
        line = line;
        own = own;
        so = (leaves k (Op op) s.waiting awake.placed e line, kept, stays line (Op op) _ (none_came r h.2) refl);
      }
      as_polled (shape.goes (Op op) line r own i h) = λ e. record {
        line = line;
        own = own;
        so = (is_gone k (Op op) s.waiting awake.placed e line, kept, stays line (Op op) _ (none_came r h.2) refl);
      }
      as_polled (shape.goes (Stream receiver) line r own i h) = λ e. record {
        line = line;
        own = own;
        so = (is_gone k (Stream receiver) s.waiting awake.placed e line, kept, stays line (Stream receiver) _ (none_came r h.2) refl);
      }
      as_polled (shape.makes (Call.Poll op) new kind mint h) = absurd mint
      as_polled (shape.makes (Call.PollNext receiver) new kind mint h) = absurd mint
      as_polled (shape.spends (Call.Poll op) new r mint h) = absurd mint
      as_polled (shape.spends (Call.PollNext receiver) new r mint h) = absurd mint
      as_polled x = tt

      -- however the poll of one that is woken is answered
      pub polled_as : (w : Waiter) (a : Answer T) → is_among w s.waiting.woken ≡ true → Answers s (poll_of w) a → PolledAs w a
      polled_as (Op op) a e answers = as_polled (shape_of s (Call.Poll op) a answers) e
      polled_as (Stream receiver) a e answers = as_polled (shape_of s (Call.PollNext receiver) a answers) e

  -- ---- settling

  -- how many polls are to come at most
  pub weight_of : State T → ℕ
  weight_of s = weight (line_at s.names) s.waiting

  -- one of each that is woken
  pub woken_within : (s : State T) → length s.waiting.woken ≤ weight_of s
  unfolding weight_of
  woken_within s = omega arith

  -- each poll of the first of those that are woken brings the end nearer by one
  pub shorter : (s : State T) → AwakeIn s → (w : Waiter) (a : Answer T) → slice_get s.waiting.woken 0 ≡ Some w → Answers s (poll_of w) a
      → suc (weight_of a.after) ≤ weight_of s
  unfolding weight_of
  shorter s awake w a front answers =
      let k = line_at s.names in
      let p = polled_as s awake w a (first_there w s.waiting.woken front) answers in
      let next = ap (λ (ws : List Waiter). length ws) (woken_next s awake w a front answers) ∙ length-append (drop 1 s.waiting.woken) a.woken in
      let one = one_fewer w s.waiting.woken front in
      let near = nearer k w s.waiting a.after.waiting a.woken (all_streams k s.waiting awake.placed) (omega (arith, next, one)) p.line p.own p.so.0 in
      let fewer = fewer_kinds k (line_at a.after.names) a.after.waiting p.so.1 in
      omega (arith, near, fewer)

  pub within : (s : State T) → AwakeIn s → weight_of s ≤ most_polls s
  unfolding weight_of
  within s awake =
      let on_line = count_on (line_at s.names) s.waiting awake.placed in
      no_more (length s.waiting.woken) _ (pending_on Sends s) _ (pending_on Receives s) _ (pending_on Streams s) (on_line Sends) (on_line Receives)
      (on_line Streams)

  polled_short : (s t : State T) (ps : List (Waiter × Reply T)) → AwakeIn s → SettlesTo s ps t → length ps + weight_of t ≤ weight_of s
  polled_short s t [] awake same = subst (λ (x : State T). 0 + weight_of x ≤ weight_of s) (sym same) (omega arith)
  polled_short s t (p ∷ ps) awake (front, (mid, names, answers, more)) =
      let a : Answer T = record { after = mid; reply = p.1; woken = names } in
      let near = shorter s awake p.0 a front answers in
      let rest = polled_short mid t ps (poll_awake s p.0 a awake answers) more in
      omega (arith, near, rest)

  pub settling_is_short : SettlingIsShort T
  settling_is_short s t ps awake settles =
      let polls = polled_short s t ps awake settles in
      let few = within s awake in
      omega (arith, polls, few)
