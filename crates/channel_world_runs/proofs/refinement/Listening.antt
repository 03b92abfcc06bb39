-- One who comes to wait stands at the end of its line.
use Rattle.std.specs.Prelude.{◌≡◌, ◌≤◌, ◌+◌, ◌∷◌, ◌++◌, if◌then◌else◌}
use Rattle.channel_world_runs.proofs.Lemmas.{ShowsUntold, with_held, AreUntold, AreTold, ShowsLines, KeysFit, list_of, arith, List, [], Bool, true, false, cond, Option, None, Some, is_some, refl, sym, ap, subst, ◌∙◌, inl, inr, lookup, set_value, kind_of, told_as, waits_as, same_key, listened, registration, Key, Listeners, WaitLists, listeners, with_listeners, Waiting, same_waiter, is_among, untold, with_untold, Kind, Placed, times, times_in, same_line, Waiter, WaitList, Sends, Receives, Streams, Closings, same_refl, same_sound, decided, count_append, KeysHeld, kind_none, among_of_line, among_its_line, same_self, OnlyHolder, told_found, untold_found, zip_append, replaced, unmoved, Nowhere, same_of, away_holds_none, with_other, with_own, rekeyed_lines}
use Rattle.channel_world_runs.specs.refinement.Refines.{of_line}

-- ---- lines and lists

pub own_list : (line : WaitList) (x : Listeners Waiter) (a : WaitLists Waiter) → listeners (list_of line) (with_listeners (list_of line) x a) ≡ x
own_list Sends x a = refl
own_list line x a = refl

pub twice : (line : WaitList) (x y : Listeners Waiter) (a : WaitLists Waiter) → with_listeners (list_of line) y (with_listeners (list_of line) x a) ≡ with_listeners (list_of line) y a
twice Sends x y a = refl
twice line x y a = refl

with_own_line : (line : WaitList) (ws : List Waiter) (m : Waiting) → untold line (with_untold line ws m) ≡ ws
with_own_line Sends ws m = refl
with_own_line line ws m = refl

with_other_line : (line other : WaitList) (ws : List Waiter) (m : Waiting) → same_line other line ≡ false → untold other (with_untold line ws m) ≡ untold other m
with_other_line Sends Sends ws m e = cc e
with_other_line Receives Receives ws m e = cc e
with_other_line Streams Streams ws m e = cc e
with_other_line Closings Closings ws m e = cc e
with_other_line line other ws m e = refl

with_same_woken : (line : WaitList) (ws : List Waiter) (m : Waiting) → (with_untold line ws m).woken ≡ m.woken
with_same_woken Sends ws m = refl
with_same_woken line ws m = refl

-- w at the end of a line
abbrev pub at_last : WaitList → Waiter → Waiting → Waiting
at_last line w m = with_untold line (untold line m ++ w ∷ []) m

times_last : (line : WaitList) (v w : Waiter) (m : Waiting) → times_in v (at_last line w m) ≡ times_in v m + times v (w ∷ [])
times_last Sends v w m = omega (arith, count_append (same_waiter v) m.sends (w ∷ []))
times_last Receives v w m = omega (arith, count_append (same_waiter v) m.receives (w ∷ []))
times_last Streams v w m = omega (arith, count_append (same_waiter v) m.streams (w ∷ []))
times_last Closings v w m = omega (arith, count_append (same_waiter v) m.closings (w ∷ []))

times_itself : (w : Waiter) → times w (w ∷ []) ≡ 1
times_itself w = rw (same_refl w) refl

-- ---- a new entry

pub second_of : (told waits : Bool) (p q r : Listeners Waiter) → told ≡ false → waits ≡ true → (if told then p else (if waits then q else r)) ≡ q
second_of told waits p q r e f = rw (e, f) refl

module _ (key : Key) (w : Waiter) where
  found_at : (b : Bool) (x : Option Waiter) (o : Option (Option Waiter)) → is_some o ≡ true → is_some (cond b (Some x) o) ≡ true
  found_at true x o h = refl
  found_at false x o h = h

  found_last : (es : List (Key × Option Waiter)) → is_some (lookup (same_key key) (es ++ (key, None) ∷ [])) ≡ true
  found_last [] = rw (same_self key) refl
  found_last (e ∷ es) = found_at (same_key key e.0) e.1 _ (found_last es)

  set_last : (es : List (Key × Option Waiter)) → is_some (lookup (same_key key) es) ≡ false → set_value (same_key key) (es ++ (key, None) ∷ []) (Some w) ≡ es ++ (key, Some w) ∷ []
  set_last [] e = rw (same_self key) refl
  set_last (f ∷ es) e = elim (decided (same_key key f.0)) [
    | inl t ↦ cc (rw t at e)
    | inr t ↦ rw t (ap (λ (xs : List (Key × Option Waiter)). f ∷ xs) (set_last es (rw t at e)))
  ]

  -- a list with one more, which keeps its task
  abbrev pub joined : Listeners Waiter → Listeners Waiter
  joined x = record { told = x.told; waiting = x.waiting ++ (key, Some w) ∷ [] }

  pub registered : (x : Listeners Waiter) → kind_of x key ≡ None → registration key w (listened key x) ≡ joined x
  registered x none =
      let off = kind_none (is_some (told_as x key)) (is_some (waits_as x key)) none in
      second_of (is_some (told_as (listened key x) key)) (is_some (waits_as (listened key x) key)) _ _ _ off.0 (found_last x.waiting)
      ∙ ap (λ (es : List (Key × Option Waiter)). let l : Listeners Waiter = record { told = x.told; waiting = es } in l) (set_last x.waiting off.1)

module _ (kind : Kind) (held : KeysHeld) (closed : Bool) (a : WaitLists Waiter) (m : Waiting) (line : WaitList) (w : Waiter) (key : Key) (k : kind w ≡ Some line) (placed : Placed kind m) (keys : KeysFit kind held m)
    (nowhere : Nowhere w m) (none : kind_of (listeners (list_of line) a) key ≡ None) (h : ShowsLines kind held closed a m) where
  off : (is_some (told_as (listeners (list_of line) a) key) ≡ false) × (is_some (waits_as (listeners (list_of line) a) key) ≡ false)
  off = kind_none (is_some (told_as (listeners (list_of line) a) key)) (is_some (waits_as (listeners (list_of line) a) key)) none

  -- nobody of the line holds a key that isn't listed
  unheld : (v : Waiter) → kind v ≡ Some line → held v ≡ Some key → ⊥
  unheld v kv e =
      elim (decided (is_among v (untold line m))) [
        | inl t ↦
            let only : OnlyHolder held key v (untold line m) = λ u f g. keys.apart line u v key (placed.lines line u f) kv g e in
            let found = untold_found held key v e (listeners (list_of line) a).waiting (untold line m) only (h line).untold t in
            cc (sym off.1 ∙ ap (λ (o : Option (Option Waiter)). is_some o) found)
        | inr t ↦ elim (decided (is_among v m.woken)) [
          | inl r ↦
              let only : OnlyHolder held key v (of_line kind line m.woken) = λ u f g. keys.apart line u v key (among_of_line kind line u m.woken f).1 kv g e in
              let found = told_found held key v e closed line (listeners (list_of line) a).told (of_line kind line m.woken) only (h line).told (among_its_line kind line v m.woken kv ∙ r) in
              cc (sym off.0 ∙ ap (λ (o : Option _). is_some o) found.1)
          | inr r ↦
              away_holds_none kind held line v m key kv placed keys e t r
        ]
      ]

  pub joins_keys : KeysFit kind (with_held w (Some key) held) (at_last line w m)
  joins_keys = record {
    holds = λ v other e. elim (decided (same_waiter w v)) [
      | inl t ↦ let one : times v (w ∷ []) ≡ 1 = subst (λ (x : Waiter). times x (w ∷ []) ≡ 1) (same_sound w v t) (times_itself w) in omega (arith, one, times_last line v w m)
      | inr t ↦ let one : 1 ≤ times_in v m = keys.holds v other (sym (with_other w v (Some key) held t) ∙ e) in omega (arith, one, times_last line v w m)
    ];
    apart = λ own u v other k1 k2 e1 e2. elim (decided (same_waiter w u)) [
      | inl t ↦ elim (decided (same_waiter w v)) [
        | inl r ↦ sym (same_sound w u t) ∙ same_sound w v r
        | inr r ↦
            let there : held v ≡ Some other = sym (with_other w v (Some key) held r) ∙ e2 in
            let here : Some key ≡ Some other = sym (with_own w u (Some key) held t) ∙ e1 in
            let lines = same_of own line (sym k1 ∙ ap (λ (x : Waiter). kind x) (sym (same_sound w u t)) ∙ k) in
            absurd (unheld v (k2 ∙ ap (λ (x : WaitList). Some x) lines) (there ∙ sym here))
      ]
      | inr t ↦ elim (decided (same_waiter w v)) [
        | inl r ↦
            let there : held u ≡ Some other = sym (with_other w u (Some key) held t) ∙ e1 in
            let here : Some key ≡ Some other = sym (with_own w v (Some key) held r) ∙ e2 in
            let lines = same_of own line (sym k2 ∙ ap (λ (x : Waiter). kind x) (sym (same_sound w v r)) ∙ k) in
            absurd (unheld u (k1 ∙ ap (λ (x : WaitList). Some x) lines) (there ∙ sym here))
        | inr r ↦ keys.apart own u v other k1 k2 (sym (with_other w u (Some key) held t) ∙ e1) (sym (with_other w v (Some key) held r) ∙ e2)
      ]
    ];
  }

  pub joins_lines : ShowsLines kind (with_held w (Some key) held) closed (with_listeners (list_of line) (joined key w (listeners (list_of line) a)) a) (at_last line w m)
  joins_lines =
      let x : Listeners Waiter = listeners (list_of line) a in
      let new : KeysHeld = with_held w (Some key) held in
      let g : ShowsLines kind new closed a m = rekeyed_lines kind held closed a m w (Some key) nowhere h in
      replaced kind new closed line (joined key w x) a (at_last line w m)
      (record {
        untold = subst (λ (ws : List Waiter). AreUntold new (x.waiting ++ (key, Some w) ∷ []) ws) (sym (with_own_line line (untold line m ++ w ∷ []) m))
            (zip_append (ShowsUntold new) x.waiting ((key, Some w) ∷ []) (untold line m) (w ∷ []) (g line).untold ((with_own w w (Some key) held (same_refl w), refl), tt));
        told = subst (λ (ws : List Waiter). AreTold new closed line x.told (of_line kind line ws)) (sym (with_same_woken line (untold line m ++ w ∷ []) m)) (g line).told;
      })
      (λ other apart. unmoved kind new closed other (listeners (list_of other) a) m (at_last line w m) (with_other_line line other (untold line m ++ w ∷ []) m apart)
      (ap (λ (ws : List Waiter). of_line kind other ws) (with_same_woken line (untold line m ++ w ∷ []) m)) (g other))

  -- the wait lists of one that listened and was registered
  pub joins_wait_lists : (b : WaitLists Waiter) → b ≡ with_listeners (list_of line) (listened key (listeners (list_of line) a)) a
      → with_listeners (list_of line) (registration key w (listeners (list_of line) b)) b ≡ with_listeners (list_of line) (joined key w (listeners (list_of line) a)) a
  joins_wait_lists b e =
      let x : Listeners Waiter = listeners (list_of line) a in
      ap (λ (r : WaitLists Waiter). with_listeners (list_of line) (registration key w (listeners (list_of line) r)) r) e
      ∙ twice line (listened key x) (registration key w (listeners (list_of line) (with_listeners (list_of line) (listened key x) a))) a
      ∙ ap (λ (l : Listeners Waiter). with_listeners (list_of line) (registration key w l) a) (own_list line (listened key x) a)
      ∙ ap (λ (l : Listeners Waiter). with_listeners (list_of line) l a) (registered key w x none)
