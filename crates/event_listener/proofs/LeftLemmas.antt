-- A key whose listener has left is never listed again.
use Rattle.std.proofs.Common.{◌≡◌, ℕ, ◌+◌, ◌<◌, nat_eq, ◌==◌, ◌&&◌, Bool, true, false, cond, List, [], ◌∷◌, ◌++◌, length, take, drop, Option, Some, None, is_some, IsSome, if◌then◌else◌, refl, sym, ap, subst, ◌∙◌, arith, append_assoc}
use Rattle.std.proofs.lemmas.Bool.Decides.{nat_tests}
use Rattle.std.proofs.lemmas.Map.Entries.{lookup_tail}
use Rattle.std.specs.Map.{lookup, remove_entry, set_value}
use Rattle.event_listener.specs.declared.key.Key.{Key}
use Rattle.event_listener.specs.Lists.{Lists, ListView, Notice, serial_of, same_key, kind_of, told_as, waits_as, without, with_task, listened, listened_with, notified, told_with, registration}
use Rattle.event_listener.specs.Order.{AllAbove, Ascending, serials_of, IsInOrder, HasLeft}
use Rattle.event_listener.proofs.EntryLemmas.{same_key-self}

other-serial : (a b : ℕ) → a < b → nat_eq a b ≡ false
other-serial a b h = grind (arith, nat_tests)

and-no : (a : Bool) → (a && false) ≡ false
and-no true = refl
and-no false = refl

other-key : (key k : Key) → serial_of key < serial_of k → same_key key k ≡ false
other-key key k h = rw (other-serial key.serial k.serial h) (and-no (key.slot == k.slot))

same-serial : (a b : ℕ) → nat_eq a b ≡ true → a ≡ b
same-serial a b h = grind (arith, nat_tests)

and-right : (a b : Bool) → (a && b) ≡ true → b ≡ true
and-right true b h = h
and-right false b h = absurd (cc)

equal-serial : (key k : Key) → same_key key k ≡ true → serial_of key ≡ serial_of k
equal-serial key k h = same-serial key.serial k.serial (and-right (key.slot == k.slot) (key.serial == k.serial) h)

above-last : (n s : ℕ) (ns : List ℕ) → AllAbove n (ns ++ s ∷ []) → n < s
above-last n s [] h = h.0
above-last n s (m ∷ ms) h = above-last n s ms h.1

ascending-back : (ns ms : List ℕ) → Ascending (ns ++ ms) → Ascending ms
ascending-back [] ms h = h
ascending-back (n ∷ ns) ms h = ascending-back ns ms h.1

module _ {X : Type 0} where
  tail-none : (test : Key → Bool) (e : Key × X) (es : List (Key × X)) → lookup test (e ∷ es) ≡ None → (test e.0 ≡ false) × (lookup test es ≡ None)
  tail-none test e es h = by (test e.0) refl h
    where
      by : (b : Bool) → test e.0 ≡ b → cond b (Some e.1) (lookup test es) ≡ None → (test e.0 ≡ false) × (lookup test es ≡ None)
      by true q n = absurd (cc)
      by false q n = (q, n)

  none-cut : (test other : Key → Bool) (es : List (Key × X)) → lookup test es ≡ None → lookup test (remove_entry other es) ≡ None
  none-cut test other [] h = refl
  none-cut test other (e ∷ es) h =
      let t = tail-none test e es h in
      by t.0 t.1 (other e.0) (none-cut test other es t.1)
    where
      by : test e.0 ≡ false → lookup test es ≡ None → (b : Bool) → lookup test (remove_entry other es) ≡ None → lookup test (cond b es (e ∷ remove_entry other es)) ≡ None
      by miss none true r = none
      by miss none false r = lookup_tail test e (remove_entry other es) miss ∙ r

  none-set : (test other : Key → Bool) (es : List (Key × X)) (w : X) → lookup test es ≡ None → lookup test (set_value other es w) ≡ None
  none-set test other [] w h = refl
  none-set test other (e ∷ es) w h =
      let t = tail-none test e es h in
      by t.0 t.1 (other e.0) (none-set test other es w t.1)
    where
      by : test e.0 ≡ false → lookup test es ≡ None → (b : Bool) → lookup test (set_value other es w) ≡ None → lookup test (cond b ((e.0, w) ∷ es) (e ∷ set_value other es w)) ≡ None
      by miss none true r = lookup_tail test (e.0, w) es miss ∙ none
      by miss none false r = lookup_tail test e (set_value other es w) miss ∙ r

  none-append : (test : Key → Bool) (es ds : List (Key × X)) → lookup test es ≡ None → lookup test ds ≡ None → lookup test (es ++ ds) ≡ None
  none-append test [] ds h k = k
  none-append test (e ∷ es) ds h k =
      let t = tail-none test e es h in
      lookup_tail test e (es ++ ds) t.0 ∙ none-append test es ds t.1 k

  -- where no key before it passes, the last value is found and set
  found-last : (test : Key → Bool) (es : List (Key × X)) (k : Key) (v : X) → test k ≡ true → lookup test es ≡ None → lookup test (es ++ (k, v) ∷ []) ≡ Some v
  found-last test [] k v h n = rw h refl
  found-last test (e ∷ es) k v h n =
      let t = tail-none test e es n in
      lookup_tail test e (es ++ (k, v) ∷ []) t.0 ∙ found-last test es k v h t.1

  set-last : (test : Key → Bool) (es : List (Key × X)) (k : Key) (v w : X) → test k ≡ true → lookup test es ≡ None → set_value test (es ++ (k, v) ∷ []) w ≡ es ++ (k, w) ∷ []
  set-last test [] k v w h n = rw h refl
  set-last test (e ∷ es) k v w h n =
      let t = tail-none test e es n in
      rw t.0 (ap (λ r. e ∷ r) (set-last test es k v w h t.1))

  -- a key of another serial than all of these names none of them
  above-none : (key : Key) (es : List (Key × X)) (ns : List ℕ) → AllAbove (serial_of key) (serials_of es ++ ns) → lookup (same_key key) es ≡ None
  above-none key [] ns h = refl
  above-none key (e ∷ es) ns h = lookup_tail (same_key key) e es (other-key key e.0 h.0) ∙ above-none key es ns h.1

  cut-none : (key : Key) (es : List (Key × X)) (ns : List ℕ) → Ascending (serials_of es ++ ns) → lookup (same_key key) (remove_entry (same_key key) es) ≡ None
  cut-none key [] ns h = refl
  cut-none key (e ∷ es) ns h = by (same_key key e.0) refl (cut-none key es ns h.1)
    where
      by : (b : Bool) → same_key key e.0 ≡ b → lookup (same_key key) (remove_entry (same_key key) es) ≡ None → lookup (same_key key) (cond b es (e ∷ remove_entry (same_key key) es)) ≡ None
      by true q r = above-none key es ns (subst (λ n. AllAbove n (serials_of es ++ ns)) (sym (equal-serial key e.0 q)) h.0)
      by false q r = lookup_tail (same_key key) e (remove_entry (same_key key) es) q ∙ r

  found-given : (key : Key) (es : List (Key × X)) (ns : List ℕ) (next : ℕ) → Ascending (serials_of es ++ (ns ++ next ∷ [])) → IsSome (lookup (same_key key) es) → serial_of key < next
  found-given key [] ns next h f = absurd (cc)
  found-given key (e ∷ es) ns next h f = by (same_key key e.0) refl f (found-given key es ns next h.1)
    where
      by : (b : Bool) → same_key key e.0 ≡ b → IsSome (cond b (Some e.1) (lookup (same_key key) es)) → (IsSome (lookup (same_key key) es) → serial_of key < next) → serial_of key < next
      by true q f r = subst (λ n. n < next) (sym (equal-serial key e.0 q)) (above-last (serial_of e.0) next (serials_of es ++ ns) (subst (AllAbove (serial_of e.0)) (sym (append_assoc (serials_of es) ns (next ∷ []))) h.0))
      by false q f r = r f

module _ {T W : Type 0} where
  none-told_with : (test : Key → Bool) (additional : Bool) (ws : List (Key × Option W)) (ts : List T) → lookup test ws ≡ None → lookup test (told_with additional (take (length ts) ws) ts) ≡ None
  none-told_with test additional [] [] h = refl
  none-told_with test additional (w ∷ ws) [] h = refl
  none-told_with test additional [] (t ∷ ts) h = refl
  none-told_with test additional (w ∷ ws) (t ∷ ts) h =
      let n = tail-none test w ws h in
      lookup_tail test (w.0, record { additional = additional; tag = t }) (told_with additional (take (length ts) ws) ts) n.0 ∙ none-told_with test additional ws ts n.1

  none-rest : (test : Key → Bool) (ws : List (Key × Option W)) (ts : List T) → lookup test ws ≡ None → lookup test (drop (length ts) ws) ≡ None
  none-rest test [] [] h = refl
  none-rest test (w ∷ ws) [] h = h
  none-rest test [] (t ∷ ts) h = refl
  none-rest test (w ∷ ws) (t ∷ ts) h = none-rest test ws ts (tail-none test w ws h).1

  parts-none : (lists : Lists T W) (key : Key) → kind_of lists key ≡ None → (told_as lists key ≡ None) × (waits_as lists key ≡ None)
  parts-none lists key h = by (told_as lists key) (waits_as lists key) h
    where
      by : (x : Option (Notice T)) (y : Option (Option W)) → (if is_some x then Some true else (if is_some y then Some false else None)) ≡ None → (x ≡ None) × (y ≡ None)
      by None None q = (refl, refl)
      by None (Some y) q = absurd (cc)
      by (Some x) y q = absurd (cc)

  none-parts : (lists : Lists T W) (key : Key) → told_as lists key ≡ None → waits_as lists key ≡ None → kind_of lists key ≡ None
  none-parts lists key t w = rw (t, w) refl

  -- a listener that was just added is on the list, and not told
  pub told-listened : (lists : Lists T W) (key : Key) → kind_of lists key ≡ None → told_as (listened key lists) key ≡ None
  told-listened lists key h = (parts-none lists key h).0

  -- registering at a listener that was just added gives it its task, as if it had had it from the beginning
  pub registration-listened : (lists : Lists T W) (key : Key) (task : W) → kind_of lists key ≡ None → registration key task (listened key lists) ≡ listened_with (Some task) key lists
  registration-listened lists key task h =
      let n = parts-none lists key h in
      let f : waits_as (listened key lists) key ≡ Some None = found-last (same_key key) lists.waiting key None (same_key-self key) n.1 in
      rw (n.0, f) (ap (λ (ws : List (Key × Option W)). record lists { waiting = ws }) (set-last (same_key key) lists.waiting key None (Some task) (same_key-self key) n.1))

  none-without : (lists : Lists T W) (key q : Key) → kind_of lists q ≡ None → kind_of (without key lists) q ≡ None
  none-without lists key q h =
      let n = parts-none lists q h in
      none-parts (without key lists) q (none-cut (same_key q) (same_key key) lists.told n.0) (none-cut (same_key q) (same_key key) lists.waiting n.1)

  none-with_task : (lists : Lists T W) (key : Key) (task : W) (q : Key) → kind_of lists q ≡ None → kind_of (with_task key task lists) q ≡ None
  none-with_task lists key task q h =
      let n = parts-none lists q h in
      none-parts (with_task key task lists) q n.0 (none-set (same_key q) (same_key key) lists.waiting (Some task) n.1)

  none-notified : (lists : Lists T W) (additional : Bool) (ts : List T) (q : Key) → kind_of lists q ≡ None → kind_of (notified additional ts lists) q ≡ None
  none-notified lists additional ts q h =
      let n = parts-none lists q h in
      none-parts (notified additional ts lists) q
      (none-append (same_key q) lists.told (told_with additional (take (length ts) lists.waiting) ts) n.0 (none-told_with (same_key q) additional lists.waiting ts n.1))
      (none-rest (same_key q) lists.waiting ts n.1)

  none-listened : (lists : Lists T W) (task : Option W) (key q : Key) → serial_of q < serial_of key → kind_of lists q ≡ None → kind_of (listened_with task key lists) q ≡ None
  none-listened lists task key q lt h =
      let n = parts-none lists q h in
      none-parts (listened_with task key lists) q n.0 (none-append (same_key q) lists.waiting ((key, task) ∷ []) n.1 (lookup_tail (same_key q) (key, task) [] (other-key q key lt)))

  module _ {old new : ListView T W} where
    pub left-kept : new.lists ≡ old.lists → new.serials ≡ old.serials → (q : Key) → HasLeft old q → HasLeft new q
    left-kept l s q h = record { given = rw s h.given; unlisted = rw l h.unlisted }

    pub left-listened : (task : Option W) (key : Key) → new.lists ≡ listened_with task key old.lists → serial_of key ≡ old.serials → new.serials ≡ old.serials + 1 → (q : Key) → HasLeft old q → HasLeft new q
    left-listened task key l k s q h = record {
      given = omega (arith, s, h.given);
      unlisted = rw l (none-listened old.lists task key q (rw k h.given) h.unlisted);
    }

    pub left-without : (key : Key) → new.lists ≡ without key old.lists → new.serials ≡ old.serials → (q : Key) → HasLeft old q → HasLeft new q
    left-without key l s q h = record { given = rw s h.given; unlisted = subst (λ (x : Lists T W). kind_of x q ≡ None) (sym l) (none-without old.lists key q h.unlisted) }

    pub left-with_task : (key : Key) (task : W) → new.lists ≡ with_task key task old.lists → new.serials ≡ old.serials → (q : Key) → HasLeft old q → HasLeft new q
    left-with_task key task l s q h = record { given = rw s h.given; unlisted = subst (λ (x : Lists T W). kind_of x q ≡ None) (sym l) (none-with_task old.lists key task q h.unlisted) }

    pub left-notified : (additional : Bool) (ts : List T) → new.lists ≡ notified additional ts old.lists → new.serials ≡ old.serials → (q : Key) → HasLeft old q → HasLeft new q
    left-notified additional ts l s q h = record { given = rw s h.given; unlisted = subst (λ (x : Lists T W). kind_of x q ≡ None) (sym l) (none-notified old.lists additional ts q h.unlisted) }

  -- the listener of a listed key that is taken off has left
  pub off-list : (old new : ListView T W) (key : Key) → IsInOrder old.lists old.serials → IsSome (kind_of old.lists key) → new.lists ≡ without key old.lists → new.serials ≡ old.serials → HasLeft new key
  off-list old new key o known l s =
      let told = serials_of old.lists.told in
      let waiting = serials_of old.lists.waiting in
      let whole : Ascending (told ++ (waiting ++ old.serials ∷ [])) = subst Ascending (append_assoc told waiting (old.serials ∷ [])) o in
      let back : Ascending (waiting ++ old.serials ∷ []) = ascending-back told (waiting ++ old.serials ∷ []) whole in
      record {
        given = rw s (by (told_as old.lists key) (waits_as old.lists key) known (found-given key old.lists.told waiting old.serials whole) (found-given key old.lists.waiting [] old.serials back));
        unlisted = subst (λ (x : Lists T W). kind_of x key ≡ None) (sym l)
            (none-parts (without key old.lists) key (cut-none key old.lists.told (waiting ++ old.serials ∷ []) whole) (cut-none key old.lists.waiting (old.serials ∷ []) back));
      }
    where
      by : (x : Option (Notice T)) (y : Option (Option W)) → IsSome (if is_some x then Some true else (if is_some y then Some false else None)) → (IsSome x → serial_of key < old.serials) → (IsSome y → serial_of key < old.serials) → serial_of key < old.serials
      by (Some x) y k f g = f refl
      by None (Some y) k f g = g refl
      by None None k f g = absurd (cc)
