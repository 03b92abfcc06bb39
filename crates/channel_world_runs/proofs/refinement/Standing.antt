-- Who stands in the lines once one is gone, and what that is to the keys.
use Rattle.std.specs.Prelude.{◌≡◌, ◌≤◌, ◌∷◌}
use Rattle.channel_world_runs.proofs.Words.{false_from_ne_true, arith, ℕ, List, [], length, Bool, true, false, cond, Option, None, Some, IsSome, refl, sym, ap, subst, ◌∙◌, inl, inr, filter, Key, WaitLists, listeners, Waiting, same_waiter, is_among, untold, gone, Kind, times, times_in, Placed, is_line, Waiter, WaitList, Sends, Receives, Streams, Closings, same_sound, decided, without_absent, none_left, untold_gone, among_self, or_right, absent_counts, KeysHeld, with_held, AreTold, ShowsLines, KeysFit, list_of}
use Rattle.channel_world_runs.specs.refinement.Refines.{of_line}
use Rattle.channel_world_runs.proofs.refinement.Names.{among_of_line, among_its_line}
use Rattle.channel_world_runs.proofs.refinement.Entries.{times_other, untold_kept, told_kept, untold_holds, told_holds}

-- ---- nowhere

pub record Nowhere (w : Waiter) (l : Waiting) : Type 0 where
  pub lines : (line : WaitList) → is_among w (untold line l) ≡ false
  pub woken : is_among w l.woken ≡ false

pub nowhere_times : (w : Waiter) (l : Waiting) → Nowhere w l → times_in w l ≡ 0
nowhere_times w l n =
    omega (
      arith,
      absent_counts w l.sends (n.lines Sends),
      absent_counts w l.receives (n.lines Receives),
      absent_counts w l.streams (n.lines Streams),
      absent_counts w l.closings (n.lines Closings),
      absent_counts w l.woken n.woken,
    )

pub gone_nowhere : (w : Waiter) (l : Waiting) → Nowhere w l → gone w l ≡ l
gone_nowhere w l n = λ i. record {
  sends = without_absent w l.sends (n.lines Sends) i;
  receives = without_absent w l.receives (n.lines Receives) i;
  streams = without_absent w l.streams (n.lines Streams) i;
  closings = without_absent w l.closings (n.lines Closings) i;
  woken = without_absent w l.woken n.woken i;
}

pub nowhere_gone : (w : Waiter) (l : Waiting) → Nowhere w (gone w l)
nowhere_gone w l = record {
  lines = λ line. ap (λ (ws : List Waiter). is_among w ws) (untold_gone line w l) ∙ none_left w (untold line l);
  woken = none_left w l.woken;
}

-- one that belongs to no line
pub kindless_nowhere : (kind : Kind) (w : Waiter) (l : Waiting) → kind w ≡ None → Placed kind l → Nowhere w l
kindless_nowhere kind w l k p = record {
  lines = λ line. false_from_ne_true (is_among w (untold line l)) (λ t. cc (sym k ∙ p.lines line w t));
  woken = false_from_ne_true (is_among w l.woken) (λ t. cc (subst (λ (o : Option WaitList). IsSome o) k (p.wakes w t)));
}

-- one that holds no key
pub keyless_nowhere : (kind : Kind) (held : KeysHeld) (closed : Bool) (a : WaitLists Waiter) (l : Waiting) (own : WaitList) (w : Waiter) → kind w ≡ Some own → held w ≡ None → Placed kind l
    → ShowsLines kind held closed a l → Nowhere w l
keyless_nowhere kind held closed a l own w k none p h = record {
  lines = λ line. false_from_ne_true (is_among w (untold line l)) (λ t.
      let one = untold_holds held w (listeners (list_of line) a).waiting (untold line l) (h line).untold t in cc (sym none ∙ one.1));
  woken = false_from_ne_true (is_among w l.woken) (λ t.
      let one = told_holds held closed own w (listeners (list_of own) a).told (of_line kind own l.woken) (h own).told (among_its_line kind own w l.woken k ∙ t) in
      cc (sym none ∙ one.1));
}

-- one that is nowhere holds none
pub nowhere_keyless : (kind : Kind) (held : KeysHeld) (w : Waiter) (l : Waiting) → Nowhere w l → KeysFit kind held l → held w ≡ None
nowhere_keyless kind held w l n keys = at_key (held w) refl where
  at_key : (o : Option Key) → held w ≡ o → held w ≡ None
  at_key None e = e
  at_key (Some key) e = absurd (let one : 1 ≤ times_in w l = keys.holds w key e in omega (arith, one, nowhere_times w l n))

pub same_of : (x y : WaitList) → Some x ≡ Some y → x ≡ y
same_of x y e = cc e

-- one that stands neither in its line nor among the woken stands nowhere
pub away_from : (kind : Kind) (line : WaitList) (w : Waiter) (l : Waiting) → kind w ≡ Some line → Placed kind l → is_among w (untold line l) ≡ false → is_among w l.woken ≡ false → Nowhere w l
away_from kind line w l k placed u t = record {
  lines = λ other. false_from_ne_true (is_among w (untold other l)) (λ v.
      let lines = same_of other line (sym (placed.lines other w v) ∙ k) in cc (sym u ∙ subst (λ (y : WaitList). is_among w (untold y l) ≡ true) lines v));
  woken = t;
}

-- so it holds no key
pub away_holds_none : (kind : Kind) (held : KeysHeld) (line : WaitList) (w : Waiter) (l : Waiting) (key : Key) → kind w ≡ Some line → Placed kind l → KeysFit kind held l → held w ≡ Some key
    → is_among w (untold line l) ≡ false → is_among w l.woken ≡ false → ⊥
away_holds_none kind held line w l key k placed keys e u t = omega (arith, keys.holds w key e, nowhere_times w l (away_from kind line w l k placed u t))

-- ---- how often the others stand

pub times_gone_other : (v w : Waiter) (l : Waiting) → same_waiter w v ≡ false → times_in v (gone w l) ≡ times_in v l
times_gone_other v w l off =
    omega (arith, times_other v w l.sends off, times_other v w l.receives off, times_other v w l.streams off, times_other v w l.closings off, times_other v w l.woken off)

more_of_line : (b c : Bool) (m n : ℕ) → m ≤ n → (x : Waiter) (xs ys : List Waiter) → length xs ≡ m → length ys ≡ n → length (cond b (x ∷ xs) xs) ≤ length (cond b (x ∷ ys) ys)
more_of_line true c m n h x xs ys e f = omega (arith, h, e, f)
more_of_line false c m n h x xs ys e f = omega (arith, h, e, f)

fewer : (b : Bool) (x : Waiter) (xs ys : List Waiter) → length xs ≤ length ys → length xs ≤ length (cond b (x ∷ ys) ys)
fewer true x xs ys h = omega (arith, h)
fewer false x xs ys h = h

pub times_of_line : (kind : Kind) (line : WaitList) (w : Waiter) (ws : List Waiter) → times w (of_line kind line ws) ≤ times w ws
times_of_line kind line w [] = omega arith
times_of_line kind line w (v ∷ vs) = elim (decided (is_line line (kind v))) [
  | inl h ↦ rw h (more_of_line (same_waiter w v) true _ _ (times_of_line kind line w vs) v (filter (same_waiter w) (of_line kind line vs)) (filter (same_waiter w) vs) refl refl)
  | inr h ↦ rw h (fewer (same_waiter w v) v (filter (same_waiter w) (of_line kind line vs)) (filter (same_waiter w) vs) (times_of_line kind line w vs))
]

pub times_untold : (line : WaitList) (w : Waiter) (l : Waiting) → times w (untold line l) ≤ times_in w l
times_untold Sends w l = omega arith
times_untold line w l = omega arith

-- ---- another key, another kind

pub with_other : (w v : Waiter) (key : Option Key) (held : KeysHeld) → same_waiter w v ≡ false → with_held w key held v ≡ held v
with_other w v key held off = rw off refl

pub with_own : (w v : Waiter) (key : Option Key) (held : KeysHeld) → same_waiter w v ≡ true → with_held w key held v ≡ key
with_own w v key held same = rw same refl

pub apart_from : (w v : Waiter) (ws : List Waiter) → is_among w ws ≡ false → is_among v ws ≡ true → same_waiter w v ≡ false
apart_from w v ws off e = false_from_ne_true (same_waiter w v) (λ t. cc (sym off ∙ subst (λ (x : Waiter). is_among x ws ≡ true) (sym (same_sound w v t)) e))

pub rekeyed_lines : (kind : Kind) (held : KeysHeld) (closed : Bool) (a : WaitLists Waiter) (l : Waiting) (w : Waiter) (key : Option Key) → Nowhere w l
    → ShowsLines kind held closed a l → ShowsLines kind (with_held w key held) closed a l
rekeyed_lines kind held closed a l w key n h line = record {
  untold = untold_kept held (with_held w key held) _ _ (h line).untold (λ v e. with_other w v key held (apart_from w v (untold line l) (n.lines line) e));
  told = told_kept held (with_held w key held) closed line _ _ (h line).told
      (λ v e. with_other w v key held (apart_from w v l.woken n.woken (among_of_line kind line v l.woken e).0));
}

-- one that is gone holds nothing
pub keys_gone : (kind : Kind) (held : KeysHeld) (w : Waiter) (l : Waiting) → KeysFit kind held l → KeysFit kind (with_held w None held) (gone w l)
keys_gone kind held w l h = record {
  holds = λ v key e. elim (decided (same_waiter w v)) [
    | inl t ↦ cc (sym (with_own w v None held t) ∙ e)
    | inr t ↦ let one : 1 ≤ times_in v l = h.holds v key (sym (with_other w v None held t) ∙ e) in omega (arith, one, times_gone_other v w l t)
  ];
  apart = λ line u v key k1 k2 e1 e2. elim (decided (same_waiter w u)) [
    | inl t ↦ cc (sym (with_own w u None held t) ∙ e1)
    | inr t ↦ elim (decided (same_waiter w v)) [
      | inl r ↦ cc (sym (with_own w v None held r) ∙ e2)
      | inr r ↦ h.apart line u v key k1 k2 (sym (with_other w u None held t) ∙ e1) (sym (with_other w v None held r) ∙ e2)
    ]
  ];
}

-- kinds that differ only at one that is nowhere
pub of_line_by : (kind other : Kind) (line : WaitList) (ws : List Waiter) → ((v : Waiter) → is_among v ws ≡ true → other v ≡ kind v) → of_line other line ws ≡ of_line kind line ws
of_line_by kind other line [] same = refl
of_line_by kind other line (x ∷ xs) same =
    let on = of_line_by kind other line xs (λ v e. same v (or_right (same_waiter v x) (is_among v xs) e)) in
    rw (same x (among_self x xs)) (ap (λ (ys : List Waiter). cond (is_line line (kind x)) (x ∷ ys) ys) on)

pub rekinded_lines : (kind other : Kind) (held : KeysHeld) (closed : Bool) (a : WaitLists Waiter) (l : Waiting) (w : Waiter) → Nowhere w l → ((v : Waiter) → same_waiter w v ≡ false → other v ≡ kind v)
    → ShowsLines kind held closed a l → ShowsLines other held closed a l
rekinded_lines kind other held closed a l w n same h line = record {
  untold = (h line).untold;
  told = subst (λ (ws : List Waiter). AreTold held closed line (listeners (list_of line) a).told ws) (sym (of_line_by kind other line l.woken (λ v e. same v (apart_from w v l.woken n.woken e)))) (h line).told;
}

pub rekinded_keys : (kind other : Kind) (held : KeysHeld) (l : Waiting) (w : Waiter) → held w ≡ None → ((v : Waiter) → same_waiter w v ≡ false → other v ≡ kind v)
    → KeysFit kind held l → KeysFit other held l
rekinded_keys kind other held l w none same h = record {
  holds = h.holds;
  apart = λ line u v key k1 k2 e1 e2. elim (decided (same_waiter w u)) [
    | inl t ↦ cc (sym none ∙ ap (λ (x : Waiter). held x) (same_sound w u t) ∙ e1)
    | inr t ↦ elim (decided (same_waiter w v)) [
      | inl r ↦ cc (sym none ∙ ap (λ (x : Waiter). held x) (same_sound w v r) ∙ e2)
      | inr r ↦ h.apart line u v key (sym (same u t) ∙ k1) (sym (same v r) ∙ k2) e1 e2
    ]
  ];
}
