-- Runs of calls, and notifications that hand out tags from a list.
use Rattle.std.proofs.Common.{◌≡◌, ℕ, ◌<◌, ◌≤◌, nat_lt, Bool, true, false, List, [], ◌∷◌, ◌++◌, length, take, Option, Some, None, Result, Ok, Err, MatchResult, if◌then◌else◌, refl, sym, ap, subst, ◌∙◌, arith, append_assoc, length-append, append-nil}
use Rattle.std.proofs.lemmas.List.{take_all}
use Rattle.std.proofs.Math.Seq.{take-append_seam}
use Rattle.std.proofs.lemmas.Bool.Decides.{nat_tests}
use Rattle.event_listener.specs.declared.error.NoMemory.{NoMemory}
use Rattle.event_listener.specs.declared.error.NotifyError.{NotifyError}
use Rattle.event_listener.specs.declared.run.Tags.{Tags}
use Rattle.event_listener.specs.declared.run.ListCall.{ListCall}
use Rattle.event_listener.specs.declared.run.ListReply.{ListReply}
use Rattle.event_listener.specs.Lists.{Lists, ListView, notified, moved, tasks_of, told_by}
use Rattle.event_listener.specs.Notices.{Draws, IsAnswer, Notifies, Woken}
use Rattle.event_listener.specs.Runs.{Makes, Runs, Ends, tags_given, tags_answer}

pub lt-no : (a b : ℕ) → b ≤ a → nat_lt a b ≡ false
lt-no a b h = grind (arith, nat_tests)

pub lt-yes : (a b : ℕ) → a < b → nat_lt a b ≡ true
lt-yes a b h = grind (arith, nat_tests)

module _ {T : Type 0} where
  abbrev pub HandsOut : Tags T → Result T NoMemory → Tags T → Type 0
  HandsOut n r m = MatchResult r (λ t. n.tags.items ≡ t ∷ m.tags.items) (λ e. n.tags.items ≡ [])

  drawn-items : (n : Tags T) (ts : List T) (rest : Tags T) → Draws HandsOut n ts rest → n.tags.items ≡ ts ++ rest.tags.items
  drawn-items n [] rest e = ap (λ (m : Tags T). m.tags.items) (sym e)
  drawn-items n (t ∷ ts) rest d = d.1 ∙ ap (λ (xs : List T). t ∷ xs) (drawn-items d.0 ts rest d.2)

  -- which tags were drawn, and the answer
  pub tags-known : (items ts : List T) (many : ℕ) (rest : Tags T) (r : Result ℕ NotifyError) → items ≡ ts ++ rest.tags.items → IsAnswer HandsOut many (length ts) rest r
      → (ts ≡ take many items) × (r ≡ (if nat_lt (length items) many then Err (record { told = length items }) else Ok many)) × (told_by r ≡ length ts)
  tags-known items ts many rest (Ok r) e a =
      let q : many ≡ length ts = sym a.1 in
      let h : many ≤ length items = rw (e, length-append ts rest.tags.items) (omega (arith, a.1)) in (
        rw (q, e) (sym (take-append_seam ts rest.tags.items)),
        rw (lt-no (length items) many h, a.0) refl,
        a.0 ∙ q,
      )
  tags-known items ts many rest (Err x) e a =
      let none : rest.tags.items ≡ [] = a.4 in
      let whole : items ≡ ts = e ∙ ap (λ (xs : List T). ts ++ xs) none ∙ append-nil ts in (
        rw whole (sym (take_all many ts (omega (arith, a.1)))),
        rw (whole, lt-yes (length ts) many a.1) (ap (λ (n : ℕ). Err (record { told = n })) a.0),
        a.0,
      )

module _ {T W : Type 0} where
  pub ends_in_front : (calls : List (ListCall T W)) (why : NoMemory) → true ≡ nat_lt 0 (length calls) → Ends calls (Some why)
  ends_in_front [] why h = absurd (cc h)
  ends_in_front (c ∷ cs) why h = refl

  pub ends_empty : (calls : List (ListCall T W)) → length calls ≤ 0 → Ends calls None
  ends_empty [] h = refl
  ends_empty (c ∷ cs) h = absurd (omega (arith, h))

module _ {T W S : Type 0} (wakes : S → W → S → Type 0) where
  -- what a notification with these tags did
  pub record HandedOut (additional : Bool) (count : ℕ) (tags : List T) (old new : Lists T W) (sink now : S) (r : Result ℕ NotifyError) : Type 0 where
    pub answer : r ≡ tags_answer additional count tags old
    pub lists : new ≡ notified additional (tags_given additional count tags old) old
    pub woken : Woken wakes sink (tasks_of (take (length (tags_given additional count tags old)) old.waiting)) now
    pub told : told_by r ≡ length (tags_given additional count tags old)

  pub handed-out : (additional : Bool) (count : ℕ) (n : Tags T) (old new : Lists T W) (sink now : S) (r : Result ℕ NotifyError)
      → Notifies HandsOut additional (moved additional count old) n old new wakes sink now r → HandedOut additional count n.tags.items old new sink now r
  handed-out additional count n old new sink now r h =
      let k = tags-known n.tags.items h.tags (moved additional count old) h.rest r (drawn-items n h.tags h.rest h.drawn) h.answer in
      record {
        answer = k.1;
        lists = subst (λ (ts : List T). new ≡ notified additional ts old) k.0 h.lists;
        woken = subst (λ (ts : List T). Woken wakes sink (tasks_of (take (length ts) old.waiting)) now) k.0 h.woken;
        told = k.2 ∙ ap (λ (ts : List T). length ts) k.0;
      }

  -- what follows from here on follows, after what was replied, from the start
  pub record GoesOn (all : List (ListCall T W)) (first : ListView T W) (first_sink : S) (done : List (ListReply T)) (calls : List (ListCall T W)) (now : ListView T W) (sink : S) : Type 0 where
    pub on : (rs : List (ListReply T)) (stopped : Option NoMemory) (rest : List (ListCall T W)) (new : ListView T W) (new_sink : S) → Runs wakes done calls rs stopped rest now sink new new_sink → Runs wakes [] all (done ++ rs) stopped rest first first_sink new new_sink

  pub goes_on : {all calls : List (ListCall T W)} {first now mid : ListView T W} {first_sink sink mid_sink : S} {done : List (ListReply T)} (c : ListCall T W) (r : ListReply T)
      → GoesOn all first first_sink done (c ∷ calls) now sink → Makes wakes done c r now sink mid mid_sink → GoesOn all first first_sink (done ++ r ∷ []) calls mid mid_sink
  goes_on {all} {calls} {first} {now} {mid} {first_sink} {sink} {mid_sink} {done} c r g m =
      record { on = λ rs stopped rest new new_sink h. rw append_assoc (g.on (r ∷ rs) stopped rest new new_sink (mid, mid_sink, m, h)) }

  pub goes_on_by : {all calls rest : List (ListCall T W)} {first now mid : ListView T W} {first_sink sink mid_sink : S} {done done' : List (ListReply T)} (c : ListCall T W) (r : ListReply T)
      → GoesOn all first first_sink done calls now sink → calls ≡ c ∷ rest → Makes wakes done c r now sink mid mid_sink → done' ≡ done ++ r ∷ [] → GoesOn all first first_sink done' rest mid mid_sink
  goes_on_by {all} {calls} {rest} {first} {now} {mid} {first_sink} {sink} {mid_sink} {done} {done'} c r g e m d =
      subst (λ (rs : List (ListReply T)). GoesOn all first first_sink rs rest mid mid_sink) (sym d)
      (goes_on c r (subst (λ (cs : List (ListCall T W)). GoesOn all first first_sink done cs now sink) e g) m)

  pub run_ends : {all calls : List (ListCall T W)} {first now : ListView T W} {first_sink sink : S} {done done' : List (ListReply T)} (stopped : Option NoMemory)
      → GoesOn all first first_sink done calls now sink → Ends calls stopped → done' ≡ done → Runs wakes [] all done' stopped calls first first_sink now sink
  run_ends {all} {calls} {first} {now} {first_sink} {sink} {done} {done'} stopped g h d =
      rw (d, ← append-nil done) (g.on [] stopped calls now sink (refl, h, refl, refl))
