-- Records that grow, the calls of seats, and the two laws of every record.
use Rattle.std.specs.Prelude.{◌≡◌, ◌+◌, ◌-◌, ◌*◌, ◌^◌, ◌≤◌, ◌∷◌, ◌++◌}
use Rattle.channel_world.proofs.Words.{arith, ℕ, zero, suc, List, [], length, Option, None, refl, sym, subst, ap, ◌∙◌, add-one, append_assoc, append-nil, Reply, AwakeIn, removed_by, brought_by_call, sends_after, NobodyIsLeft, refusal, Answers, State, start, Call, Waiter, Kept, step_good, opened_kept, MadeAsSaid, Replays, IsHistory, SeatView, amount_of, call_weight, calls_of, numbers_of, sum_below, RecordingView, IsRecording, Receipt}
use Rattle.channel_world.specs.RecordLaws.{removed_in_record, accepted_in_record, accepted_after}

-- ---- seats

pub calls_snoc : (ss : List SeatView) (s : SeatView) → calls_of (ss ++ s ∷ []) ≡ calls_of ss + s.calls
calls_snoc [] s = omega arith
calls_snoc (x ∷ ss) s = let h = calls_snoc ss s in omega (arith, h)

pub numbers_snoc : (ss : List SeatView) (s : SeatView) → numbers_of (ss ++ s ∷ []) ≡ numbers_of ss + s.number
numbers_snoc [] s = omega arith
numbers_snoc (x ∷ ss) s = let h = numbers_snoc ss s in omega (arith, h)

pub none_counted : (ss : List SeatView) → length ss ≡ 0 → amount_of (numbers_of ss) (calls_of ss) ≡ 0
none_counted [] e = refl
none_counted (x ∷ ss) e = absurd (omega (arith, e))

-- one seat more has the next number
pub sum_next : (n : ℕ) → sum_below (n + 1) ≡ n + sum_below n
sum_next n = ap (λ (m : ℕ). sum_below m) (add-one n)

-- the numbers of so many seats are less than a call weighs
pub sum_is_small : (n : ℕ) → n ≤ 2 ^ 32 → sum_below n ≤ (2 ^ 32 - 1) * n
sum_is_small zero few = omega arith
sum_is_small (suc n) few = let h = sum_is_small n (omega (arith, few)) in omega (arith, few, h)

-- so a total tells both: the numbers of as many seats as were made, none of more than a word of 32 bits, and their calls
pub told_apart : (made numbers calls count : ℕ) → made ≤ 2 ^ 32 → numbers ≤ (2 ^ 32 - 1) * made
    → amount_of numbers calls ≡ amount_of (sum_below made) count → (numbers ≡ sum_below made) × (count ≡ calls)
told_apart made numbers calls count most small e =
    let sum = sum_is_small made most in
    let same : count ≡ calls = omega (arith, most, small, sum, e) in
    (omega (arith, e, same), same)

module _ {T : Type 0} where
  -- ---- one entry more

  pub replays_more : (place : ℕ) (s mid t : State T) (rs : List (Receipt T)) (r : Receipt T) → Replays place s rs mid → r.place ≡ place + length rs → MadeAsSaid mid r t
      → Replays place s (rs ++ r ∷ []) t
  replays_more place s mid t [] r same at made = (t, omega (arith, at), subst (λ (x : State T). MadeAsSaid x r t) same made, refl)
  replays_more place s mid t (x ∷ rs) r (next, here, first, more) at made =
      (next, here, first, replays_more (place + 1) next mid t rs r more (omega (arith, at)) made)

  -- a recording in which nothing was changed, whatever room its list has now
  pub same_view : (v : RecordingView T) (t : State T) (rs : List (Receipt T)) → t ≡ v.state → rs ≡ v.entries → record v { state = t; entries = rs } ≡ v
  same_view v t rs same kept = λ i. record v { state = same i; entries = kept i }

  pub still_recording : (v : RecordingView T) (t : State T) (rs : List (Receipt T)) (count count' total parts amount all : ℕ) → IsRecording v count total parts amount all
      → t ≡ v.state → rs ≡ v.entries → count' ≡ count → IsRecording (record v { state = t; entries = rs }) count' total parts amount all
  still_recording v t rs count count' total parts amount all i same kept as_long =
      subst (λ (n : ℕ). IsRecording (record v { state = t; entries = rs }) n total parts amount all) (sym as_long)
      (subst (λ (x : RecordingView T). IsRecording x count total parts amount all) (sym (same_view v t rs same kept)) i)

  pub one_recorded : (v : RecordingView T) (t : State T) (r : Receipt T) (count count' total total' parts amount all : ℕ) → IsRecording v count total parts amount all
      → r.place ≡ length v.entries → MadeAsSaid v.state r t → count' ≡ count + 1 → total' ≡ total + call_weight
      → IsRecording (record v { state = t; entries = v.entries ++ r ∷ [] }) count' total' parts amount all
  one_recorded v t r count count' total total' parts amount all i at made longer counted =
      let before = i.counted in
      record {
        replays = replays_more 0 (start v.capacity) v.state t v.entries r i.replays (omega (arith, at)) made;
        counted = omega (arith, before, longer, counted);
        idle = i.idle;
        parts_left = i.parts_left;
        one_each = i.one_each;
        numbered = i.numbered;
        kept = i.kept;
      }

  -- the entry of a call that was made says how
  pub made_so : (s t : State T) (c : Call T) (place seat : ℕ) (reply : Reply T) (woken names : List Waiter) → refusal s c ≡ None
      → Answers s c (record { after = t; reply = reply; woken = woken }) → names ≡ woken
      → MadeAsSaid s (record { place = place; seat = seat; call = c; reply = reply; woken = names }) t
  made_so s t c place seat reply woken names fine does same =
      (fine, subst (λ (ws : List Waiter). Answers s c (record { after = t; reply = reply; woken = ws })) (sym same) does)

  -- ---- the laws

  pub record RecordKept (sends : List (ℕ × T)) (s : State T) (rs : List (Receipt T)) (t : State T) : Type 0 where
    pub awake : AwakeIn t
    pub account : removed_in_record rs ++ t.channel.messages ≡ s.channel.messages ++ accepted_after sends rs

  pub record_kept : (place : ℕ) (sends : List (ℕ × T)) (s : State T) (rs : List (Receipt T)) (t : State T) → Kept sends s → Replays place s rs t → RecordKept sends s rs t
  record_kept place sends s [] t kept same = record {
    awake = subst (λ (x : State T). AwakeIn x) (sym same) kept.awake;
    account = ap (λ (x : State T). x.channel.messages) same ∙ sym (append-nil s.channel.messages);
  }
  record_kept place sends s (r ∷ rs) t kept (mid, here, made, more) =
      let g = step_good sends s kept.awake kept.keeps r.call (record { after = mid; reply = r.reply; woken = r.woken }) made.0 made.1 in
      let on = record_kept (place + 1) (sends_after sends r.call) mid rs t (record { awake = g.awake; keeps = g.keeps }) more in
      record {
        awake = on.awake;
        account =
            append_assoc (removed_by r.reply) (removed_in_record rs) t.channel.messages
            ∙ (ap (λ (ms : List T). removed_by r.reply ++ ms) on.account
            ∙ (sym (append_assoc (removed_by r.reply) mid.channel.messages (accepted_after (sends_after sends r.call) rs))
            ∙ (ap (λ (ms : List T). ms ++ accepted_after (sends_after sends r.call) rs) g.account
            ∙ append_assoc s.channel.messages (brought_by_call sends r.call r.reply) (accepted_after (sends_after sends r.call) rs))));
      }

  history_kept : (capacity : Option ℕ) (rs : List (Receipt T)) (h : IsHistory capacity rs) → RecordKept [] (start capacity) rs h.last
  history_kept capacity rs h = record_kept 0 [] (start capacity) rs h.last (opened_kept capacity) h.replays

  pub in_order : (capacity : Option ℕ) (rs : List (Receipt T)) (h : IsHistory capacity rs) → removed_in_record rs ++ h.last.channel.messages ≡ accepted_in_record rs
  in_order capacity rs h = (history_kept capacity rs h).account

  pub nobody_left : (capacity : Option ℕ) (rs : List (Receipt T)) (h : IsHistory capacity rs) → NobodyIsLeft h.last
  nobody_left capacity rs h =
      let a = (history_kept capacity rs h).awake in
      record { receives = a.receives; sends = a.sends; unbounded = a.unbounded; streams = a.streams; opened = a.opened }
