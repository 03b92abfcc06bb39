-- A record grows by a call, and keeps room for the end of each listener.
use Rattle.std.proofs.Common.{◌≡◌, ℕ, zero, suc, ◌+◌, ◌≤◌, ◌<◌, nat_lt, ◌==◌, Bool, true, false, cond, List, [], ◌∷◌, ◌++◌, length, take, drop, Option, Some, None, is_some, Result, Ok, Err, IfOk, if◌then◌else◌, refl, sym, ap, subst, ◌∙◌, arith, length-append, length-take-le, take_all}
use Rattle.std.proofs.lemmas.Map.{length-set_value}
use Rattle.std.proofs.lemmas.Bool.Decides.{nat_tests}
use Rattle.std.specs.Map.{lookup, remove_entry}
use Rattle.event_listener.specs.declared.key.Key.{Key}
use Rattle.event_listener.specs.declared.error.UnknownListener.{UnknownListener}
use Rattle.event_listener.specs.declared.error.NotifyError.{NotifyError}
use Rattle.event_listener.specs.declared.recorded.RecordedCall.{RecordedCall}
use Rattle.event_listener.specs.Lists.{Lists, Notice, same_key, told_as, waits_as, kind_of, listened, without, with_task, told_with, notified, moved, told_by, registration, register_answer, polled, poll_answer, removed, remove_answer}
use Rattle.event_listener.specs.Replay.{total_of, after, added, IsAnswered, Replays, IsKept, RecordView, nobody, found, recorded}

module _ {K X : Type 0} (test : K → Bool) where
  remove_entry-length : (es : List (K × X)) → length (remove_entry test es) ≤ length es
  remove_entry-length [] = omega arith
  remove_entry-length (e ∷ es) = at (test e.0) (remove_entry-length es)
    where
      at : (b : Bool) → length (remove_entry test es) ≤ length es → length (cond b es (e ∷ remove_entry test es)) ≤ length (e ∷ es)
      at true h = omega arith
      at false h = omega (arith, h)

  remove_entry-found : (es : List (K × X)) → is_some (lookup test es) ≡ true → length (remove_entry test es) + 1 ≡ length es
  remove_entry-found [] h = absurd (cc)
  remove_entry-found (e ∷ es) h = at (test e.0) (remove_entry-found es) h
    where
      at : (b : Bool) → (is_some (lookup test es) ≡ true → length (remove_entry test es) + 1 ≡ length es) → is_some (cond b (Some e.1) (lookup test es)) ≡ true → length (cond b es (e ∷ remove_entry test es)) + 1 ≡ length (e ∷ es)
      at true f i = omega arith
      at false f i = let r = f i in omega (arith, r)

abbrev kind_by : Bool → Bool → Option Bool
kind_by t w = if t then Some true else (if w then Some false else None)

kind-told : (t w : Bool) → kind_by t w ≡ Some true → t ≡ true
kind-told true w h = refl
kind-told false true h = absurd (cc)
kind-told false false h = absurd (cc)

kind-waits : (t w : Bool) → kind_by t w ≡ Some false → (t ≡ false) × (w ≡ true)
kind-waits true w h = absurd (cc)
kind-waits false true h = (refl, refl)
kind-waits false false h = absurd (cc)

kind-none : (t w told : Bool) → kind_by t w ≡ Some told → t ≡ false → w ≡ true
kind-none true w told h f = absurd (cc)
kind-none false true told h f = refl
kind-none false false told h f = absurd (cc)

-- a removal that answers took a listed one off
removal-known : (kind : Option Bool) (told : Bool) (answer : Result Bool UnknownListener) → (elim kind [ Some b ↦ Ok b | None ↦ Err (record {}) ]) ≡ answer → answer ≡ Ok told → kind ≡ Some told
removal-known (Some b) told answer e h = cc
removal-known None told answer e h = absurd (cc)

-- a poll that answers with a tag took a told one off
poll-told : {T : Type 0} (o : Option (Notice T)) (w : Bool) (tag : T) (answer : Result (Option T) UnknownListener) → (elim o [ Some notice ↦ Ok (Some notice.tag) | None ↦ (if w then Ok None else Err (record {})) ]) ≡ answer → answer ≡ Ok (Some tag) → is_some o ≡ true
poll-told (Some n) w tag answer e h = refl
poll-told None true tag answer e h = absurd (cc)
poll-told None false tag answer e h = absurd (cc)

-- a notification with n tags tells no more than it would move, and somebody where it has a tag and somebody to tell
pub told-given : (n many : ℕ) → told_by (if nat_lt n many then Err (record { told = n }) else Ok many) ≤ many
told-given n many = at (nat_lt n many) refl
  where
    at : (b : Bool) → nat_lt n many ≡ b → told_by (if b then Err (record { told = n }) else Ok many) ≤ many
    at true e = grind (arith, nat_tests)
    at false e = omega arith

-- as many were told as tags were given
pub told-tags : {T : Type 0} (many : ℕ) (ts : List T) → told_by (if nat_lt (length ts) many then Err (record { told = length ts }) else Ok many) ≡ length (take many ts)
told-tags many ts = at (nat_lt (length ts) many) refl
  where
    at : (b : Bool) → nat_lt (length ts) many ≡ b → told_by (if b then Err (record { told = length ts }) else Ok many) ≡ length (take many ts)
    at true e = let less : length ts < many = grind (arith, nat_tests) in sym (ap length (take_all many ts (omega (arith, less))))
    at false e = let enough : many ≤ length ts = grind (arith, nat_tests) in sym (length-take-le many ts enough)

pub some-told : (n many : ℕ) → 0 < n → 0 < many → 0 < told_by (if nat_lt n many then Err (record { told = n }) else Ok many)
some-told n many tags waiting = at (nat_lt n many)
  where
    at : (b : Bool) → 0 < told_by (if b then Err (record { told = n }) else Ok many)
    at true = tags
    at false = waiting

-- where somebody was told, nothing is owed for nobody
pub told-somebody : (P : Type 0) (told : ℕ) → 0 < told → told ≡ 0 → P
told-somebody P told some none = absurd (let n : 0 < 0 = rw none at some in omega (arith, n))

-- a notification that ran out of no tags told as many as it moves
pub ok-moved : {T W : Type 0} (n : ℕ) (a b : Bool) (k m : ℕ) (lists : Lists T W) → a ≡ b → k ≡ m → IfOk {E = NotifyError} (if nat_lt n (moved a k lists) then Err (record { told = n }) else Ok (moved a k lists)) (λ told. told ≡ moved b m lists)
ok-moved n a b k m lists kind size = rw (sym kind) (rw (sym size) (at (nat_lt n (moved a k lists))))
  where
    at : (x : Bool) → IfOk {E = NotifyError} (if x then Err (record { told = n }) else Ok (moved a k lists)) (λ told. told ≡ moved a k lists)
    at true = tt
    at false = refl

pub some-left : (n : ℕ) → (n == 0) ≡ false → 0 < n
some-left zero e = absurd (cc)
some-left (suc n) e = omega arith

none-of : {X : Type 0} (o : Option X) → is_some o ≡ false → o ≡ None
none-of None h = refl
none-of (Some x) h = absurd (cc)

module _ {T W : Type 0} where
  pub Replays-more : (first last new : Lists T W) (serials end next : ℕ) (calls : List (RecordedCall T W)) (call : RecordedCall T W) → Replays first serials calls last end → IsAnswered call end last → new ≡ after call last → next ≡ added call end → Replays first serials (calls ++ call ∷ []) new next
  Replays-more first last new serials end next [] call r answered made grown =
      (subst (λ (x : Lists T W × ℕ). IsAnswered call x.1 x.0) (λ i. (r.0 i, r.1 i)) answered, (made ∙ ap (after call) r.0, grown ∙ ap (added call) r.1))
  Replays-more first last new serials end next (c ∷ calls) call r answered made grown =
      (r.0, Replays-more (after c first) last new (added c serials) end next calls call r.1 answered made grown)

  -- the record with this call at its end
  pub kept : (calls : List (RecordedCall T W)) (count capacity : ℕ) (lists : Lists T W) (serials : ℕ) → IsKept calls count capacity lists serials
      → (call : RecordedCall T W) (calls' : List (RecordedCall T W)) (count' capacity' : ℕ) (new : Lists T W) (next : ℕ)
      → IsAnswered call serials lists → new ≡ after call lists → next ≡ added call serials → calls' ≡ calls ++ call ∷ [] → count' + total_of new ≤ capacity'
      → IsKept calls' count' capacity' new next
  kept calls count capacity lists serials h call calls' count' capacity' new next answered made more grown room =
      record { replays = rw grown (Replays-more nobody lists new 0 serials next calls call h.replays answered made more); room = room }

  -- a record and lists that have both gone on by this call
  pub is-recorded : (call : RecordedCall T W) (old : RecordView T W) (calls : List (RecordedCall T W)) (lists : Lists T W) (serials : ℕ) → lists ≡ after call old.lists → serials ≡ added call old.serials → calls ≡ old.calls ++ call ∷ [] → (let new : RecordView T W = record { calls = calls; lists = lists; serials = serials } in new) ≡ recorded call old
  is-recorded call old calls lists serials made more grown = rw (made, more, grown) refl

  pub total-listened : (key : Key) (lists : Lists T W) → total_of (listened key lists) ≡ total_of lists + 1
  total-listened key lists = rw (length-append lists.waiting ((key, None) ∷ [])) (omega arith)

  pub total-told : (key : Key) (lists : Lists T W) → is_some (told_as lists key) ≡ true → total_of (without key lists) + 1 ≤ total_of lists
  total-told key lists h =
      let t = remove_entry-found (same_key key) lists.told h in
      let w = remove_entry-length (same_key key) lists.waiting in
      omega (arith, t, w)

  pub total-waiting : (key : Key) (lists : Lists T W) → is_some (waits_as lists key) ≡ true → total_of (without key lists) + 1 ≤ total_of lists
  total-waiting key lists h =
      let t = remove_entry-length (same_key key) lists.told in
      let w = remove_entry-found (same_key key) lists.waiting h in
      omega (arith, t, w)

  pub total-with_task : (key : Key) (task : W) (lists : Lists T W) → total_of (with_task key task lists) ≡ total_of lists
  total-with_task key task lists = ap (λ (n : ℕ). length lists.told + n) (length-set_value (same_key key) lists.waiting (Some task))

  told_with-length : (additional : Bool) (ws : List (Key × Option W)) (ts : List T) → length (told_with additional (take (length ts) ws) ts) + length (drop (length ts) ws) ≡ length ws
  told_with-length additional [] [] = omega arith
  told_with-length additional [] (t ∷ ts) = omega arith
  told_with-length additional (w ∷ ws) [] = omega arith
  told_with-length additional (w ∷ ws) (t ∷ ts) = let h = told_with-length additional ws ts in omega (arith, h)

  pub total-notified : (additional : Bool) (ts : List T) (lists : Lists T W) → total_of (notified additional ts lists) ≡ total_of lists
  total-notified additional ts lists =
      let h = told_with-length additional lists.waiting ts in
      let l = length-append lists.told (told_with additional (take (length ts) lists.waiting) ts) in
      omega (arith, h, l)

  pub gone-polled : (key : Key) (lists : Lists T W) (tag : T) → poll_answer key lists ≡ Ok (Some tag) → total_of (polled key lists) + 1 ≤ total_of lists
  gone-polled key lists tag h =
      let t = poll-told (told_as lists key) (is_some (waits_as lists key)) tag (poll_answer key lists) refl h in
      rw t (total-told key lists t)

  pub gone-registered : (key : Key) (task : W) (lists : Lists T W) → kind_of lists key ≡ Some true → total_of (registration key task lists) + 1 ≤ total_of lists
  gone-registered key task lists h =
      let t = kind-told (is_some (told_as lists key)) (is_some (waits_as lists key)) h in
      rw t (total-told key lists t)

  pub same-registered : (key : Key) (task : W) (lists : Lists T W) → kind_of lists key ≡ Some false → total_of (registration key task lists) ≡ total_of lists
  same-registered key task lists h =
      let k = kind-waits (is_some (told_as lists key)) (is_some (waits_as lists key)) h in
      rw (k.0, k.1) (total-with_task key task lists)

  pub waits-answer : (key : Key) (lists : Lists T W) → kind_of lists key ≡ Some false → register_answer key lists ≡ Ok (found None)
  waits-answer key lists h =
      let k = kind-waits (is_some (told_as lists key)) (is_some (waits_as lists key)) h in
      let n = none-of (told_as lists key) k.0 in
      rw (n, register_answer, k.1) refl

  gone-removed-by : (key : Key) (pass_on : Bool) (lists : Lists T W) (told : Bool) (o : Option (Notice T)) → told_as lists key ≡ o → kind_of lists key ≡ Some told → total_of (removed key pass_on lists) + 1 ≤ total_of lists
  gone-removed-by key true lists told (Some n) e h =
      let t = total-told key lists (ap is_some e) in
      let p = total-notified n.additional (take (moved n.additional 1 (without key lists)) (n.tag ∷ [])) (without key lists) in
      rw (e, removed) (omega (arith, t, p))
  gone-removed-by key false lists told (Some n) e h = rw (e, removed) (total-told key lists (ap is_some e))
  gone-removed-by key true lists told None e h =
      let w = kind-none (is_some (told_as lists key)) (is_some (waits_as lists key)) told h (ap is_some e) in
      rw (e, removed, w) (total-waiting key lists w)
  gone-removed-by key false lists told None e h =
      let w = kind-none (is_some (told_as lists key)) (is_some (waits_as lists key)) told h (ap is_some e) in
      rw (e, removed, w) (total-waiting key lists w)

  pub gone-removed : (key : Key) (pass_on : Bool) (lists : Lists T W) (told : Bool) → remove_answer key lists ≡ Ok told → total_of (removed key pass_on lists) + 1 ≤ total_of lists
  gone-removed key pass_on lists told h = gone-removed-by key pass_on lists told (told_as lists key) refl (removal-known (kind_of lists key) told (remove_answer key lists) refl h)
