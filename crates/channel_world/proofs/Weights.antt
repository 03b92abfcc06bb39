-- How many polls of a settling are to come at most, where so many of each sort are pending.
use Rattle.std.specs.Prelude.{◌≡◌, ◌≤◌, ◌+◌, ◌*◌, ◌∷◌}
use Rattle.channel_world.proofs.Words.{arith, ℕ, suc, List, [], length, Bool, true, false, Option, Some, inl, inr, refl, ap, ◌∙◌, suc-mul, mul-le-mul, filter, count_by-le-length, length-filter, WaitList, Sends, Receives, Streams, Closings, Kind, Placed, count_of, is_line, Waiting, same_waiter, is_among, untold, Waiter, line_refl, among_self, or_right, count_all, decided}

-- whether a name belongs to the line
abbrev pub on : Kind → WaitList → Waiter → Bool
on k line = λ w. is_line line (k w)

-- how many polls are to come at most, where so many are woken and so many sends, receives and streams are pending
abbrev pub to_come : ℕ → ℕ → ℕ → ℕ → ℕ
to_come woken sends receives streams = woken + (sends * (streams + 2) + 2 * receives + streams)

abbrev pub weight : Kind → Waiting → ℕ
weight k l = to_come (length l.woken) (count_all (on k Sends) l) (count_all (on k Receives) l) (count_all (on k Streams) l)

pub no_more : (a s t r q n m : ℕ) → s ≤ t → r ≤ q → n ≤ m → to_come a s r n ≤ to_come a t q m
no_more a s t r q n m sends receives streams =
    let each : n + 2 ≤ m + 2 = omega (arith, streams) in
    let product = mul-le-mul sends each in
    omega (arith, product, receives, streams)

-- one fewer is woken
pub by_one : (a b s t r q n m : ℕ) → suc a ≤ b → s ≤ t → r ≤ q → n ≤ m → suc (to_come a s r n) ≤ to_come b t q m
by_one a b s t r q n m woken sends receives streams =
    let rest = no_more a s t r q n m sends receives streams in omega (arith, woken, rest)

-- a send left, and woke no more than two and all streams
pub by_send : (a b s t r q n m names : ℕ) → a + 1 ≡ b + names → names ≤ 2 + m → suc s ≤ t → r ≤ q → n ≤ m → suc (to_come a s r n) ≤ to_come b t q m
by_send a b s t r q n m names woken few sends receives streams =
    let rest = no_more a s s r q n m (omega arith) receives streams in
    let all : m + 2 ≤ m + 2 = omega arith in
    let product = mul-le-mul sends all in
    let one = suc-mul s (m + 2) in
    omega (arith, woken, few, rest, product, one)

-- a receive left, and woke two at most
pub by_receive : (a b s t r q n m names : ℕ) → a + 1 ≡ b + names → names ≤ 2 → s ≤ t → suc r ≤ q → n ≤ m → suc (to_come a s r n) ≤ to_come b t q m
by_receive a b s t r q n m names woken few sends receives streams =
    let rest = no_more a s t (suc r) q n m sends receives streams in omega (arith, woken, few, rest)

-- a stream left, and woke one at most
pub by_stream : (a b s t r q n m names : ℕ) → a + 1 ≡ b + names → names ≤ 1 → s ≤ t → r ≤ q → suc n ≤ m → suc (to_come a s r n) ≤ to_come b t q m
by_stream a b s t r q n m names woken few sends receives streams =
    let fewer : n ≤ m = omega (arith, streams) in
    let each : n + 2 ≤ m + 2 = omega (arith, streams) in
    let product = mul-le-mul sends each in
    omega (arith, woken, few, product, receives, streams)

-- ---- the names of a line

all_on : (k : Kind) (line : WaitList) (ws : List Waiter) → ((w : Waiter) → is_among w ws ≡ true → k w ≡ Some line) → length ws ≤ length (filter (on k line) ws)
all_on k line [] h = omega arith
all_on k line (v ∷ ws) h =
    let own : is_line line (k v) ≡ true = ap (λ (o : Option WaitList). is_line line o) (h v (among_self v ws)) ∙ line_refl line in
    let rest = all_on k line ws (λ w e. h w (or_right (same_waiter w v) (is_among w ws) e)) in
    rw own (omega (arith, rest))

none_on : (k : Kind) (line other : WaitList) (ws : List Waiter) → is_line line (Some other) ≡ false
    → ((w : Waiter) → is_among w ws ≡ true → k w ≡ Some other) → length (filter (on k line) ws) ≡ 0
none_on k line other [] apart h = refl
none_on k line other (v ∷ ws) apart h =
    let off : is_line line (k v) ≡ false = ap (λ (o : Option WaitList). is_line line o) (h v (among_self v ws)) ∙ apart in
    rw off (none_on k line other ws apart (λ w e. h w (or_right (same_waiter w v) (is_among w ws) e)))

filtered : (p : Waiter → Bool) (ws : List Waiter) → length (filter p ws) ≤ length ws
filtered p ws = let same = length-filter p ws in let few = count_by-le-length p ws in omega (arith, same, few)

module _ (k : Kind) (l : Waiting) (placed : Placed k l) where
  -- those of a line who are pending stand untold in it, or were woken
  pub count_on : (line : WaitList) → count_all (on k line) l ≤ length (untold line l) + count_of k line l.woken
  count_on Sends =
      let a = filtered (on k Sends) l.sends in
      let b = none_on k Sends Receives l.receives refl (placed.lines Receives) in
      let c = none_on k Sends Streams l.streams refl (placed.lines Streams) in
      let d = none_on k Sends Closings l.closings refl (placed.lines Closings) in
      omega (arith, a, b, c, d)
  count_on Receives =
      let a = none_on k Receives Sends l.sends refl (placed.lines Sends) in
      let b = filtered (on k Receives) l.receives in
      let c = none_on k Receives Streams l.streams refl (placed.lines Streams) in
      let d = none_on k Receives Closings l.closings refl (placed.lines Closings) in
      omega (arith, a, b, c, d)
  count_on Streams =
      let a = none_on k Streams Sends l.sends refl (placed.lines Sends) in
      let b = none_on k Streams Receives l.receives refl (placed.lines Receives) in
      let c = filtered (on k Streams) l.streams in
      let d = none_on k Streams Closings l.closings refl (placed.lines Closings) in
      omega (arith, a, b, c, d)
  count_on Closings =
      let a = none_on k Closings Sends l.sends refl (placed.lines Sends) in
      let b = none_on k Closings Receives l.receives refl (placed.lines Receives) in
      let c = none_on k Closings Streams l.streams refl (placed.lines Streams) in
      let d = filtered (on k Closings) l.closings in
      omega (arith, a, b, c, d)

  pub all_streams : length l.streams ≤ count_all (on k Streams) l
  all_streams = let all = all_on k Streams l.streams (placed.lines Streams) in omega (arith, all)

-- where fewer names belong to lines no more polls are to come
module _ (p q : Waiter → Bool) (h : (w : Waiter) → p w ≡ true → q w ≡ true) where
  filter_more : (ws : List Waiter) → length (filter p ws) ≤ length (filter q ws)
  filter_more [] = omega arith
  filter_more (v ∷ ws) =
      let rest = filter_more ws in
      elim (decided (p v)) [
        | inl t ↦ let also = h v t in rw (t, also) (omega (arith, rest))
        | inr t ↦ elim (decided (q v)) [ inl u ↦ rw (t, u) (omega (arith, rest)) | inr u ↦ rw (t, u) rest ]
      ]

  pub count_more : (l : Waiting) → count_all p l ≤ count_all q l
  count_more l =
      let a = filter_more l.sends in
      let b = filter_more l.receives in
      let c = filter_more l.streams in
      let d = filter_more l.closings in
      let e = filter_more l.woken in
      omega (arith, a, b, c, d, e)

pub fewer_kinds : (k j : Kind) (l : Waiting) → ((line : WaitList) (w : Waiter) → is_line line (j w) ≡ true → is_line line (k w) ≡ true) → weight j l ≤ weight k l
fewer_kinds k j l h =
    no_more (length l.woken) _ _ _ _ _ _ (count_more (on j Sends) (on k Sends) (h Sends) l) (count_more (on j Receives) (on k Receives) (h Receives) l)
    (count_more (on j Streams) (on k Streams) (h Streams) l)
