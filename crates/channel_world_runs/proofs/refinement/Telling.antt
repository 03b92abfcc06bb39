-- Telling: the lists of a channel go on to show the lines of a state.
use Rattle.std.specs.Prelude.{◌≡◌, ◌∷◌, ◌++◌}
use Rattle.channel_world_runs.proofs.Words.{AreUntold, AreToldInTurn, AreTold, IsToldSo, ShowsLine, ShowsLines, list_of, arith, ℕ, min, List, [], length, take, drop, map, Bool, true, false, Option, Some, refl, sym, ap, subst, ◌∙◌, inl, inr, append_assoc, append-nil, Notice, told_with, tasks_of, notified, Key, Listeners, WaitLists, listeners, with_listeners, told_one, told_one_wakes, told_all, told_all_wakes, Waiting, is_among, untold, after_news, all_told, Kind, same_line, Waiter, Nothing, Message, Closing, NextIn, WaitList, Sends, Receives, Streams, Closings, decided, among_take, among_drop, line_sound, KeysHeld}
use Rattle.channel_world_runs.specs.refinement.Refines.{of_line}
use Rattle.channel_world_runs.proofs.refinement.Names.{AllOf, of_line_append, of_own_line, of_other_line}
use Rattle.channel_world_runs.proofs.refinement.Entries.{tasks_are, untold_rest, untold_first, told_then, just_told}

-- ---- whom news leave

-- each untold name is of its line
abbrev pub Lined : Kind → Waiting → Type 0
Lined kind l = (line : WaitList) → AllOf kind line (untold line l)

pub next_own : (line : WaitList) (l : Waiting) → untold line (after_news (NextIn line) l) ≡ drop 1 (untold line l)
next_own Sends l = refl
next_own line l = refl

pub next_other : (line other : WaitList) (l : Waiting) → same_line other line ≡ false → untold other (after_news (NextIn line) l) ≡ untold other l
next_other Sends Sends l e = cc e
next_other Receives Receives l e = cc e
next_other Streams Streams l e = cc e
next_other Closings Closings l e = cc e
next_other line other l e = refl

pub all_own : (line : WaitList) (l : Waiting) → untold line (all_told line l) ≡ []
all_own Sends l = refl
all_own line l = refl

pub all_other : (line other : WaitList) (l : Waiting) → same_line other line ≡ false → untold other (all_told line l) ≡ untold other l
all_other Sends Sends l e = cc e
all_other Receives Receives l e = cc e
all_other Streams Streams l e = cc e
all_other Closings Closings l e = cc e
all_other line other l e = refl

pub lined_all : (kind : Kind) (line : WaitList) (l : Waiting) → Lined kind l → Lined kind (all_told line l)
lined_all kind line l h other w e = elim (decided (same_line other line)) [
  | inr off ↦ h other w (subst (λ (ws : List Waiter). is_among w ws ≡ true) (all_other line other l off) e)
  | inl same ↦ cc (subst (λ (ws : List Waiter). is_among w ws ≡ true) (ap (λ (x : WaitList). untold x (all_told line l)) (line_sound other line same) ∙ all_own line l) e)
]

pub lined_next : (kind : Kind) (line : WaitList) (l : Waiting) → Lined kind l → Lined kind (after_news (NextIn line) l)
lined_next kind line l h other w e = elim (decided (same_line other line)) [
  | inr off ↦ h other w (subst (λ (ws : List Waiter). is_among w ws ≡ true) (next_other line other l off) e)
  | inl same ↦
      let lines = line_sound other line same in
      let own : is_among w (untold line (after_news (NextIn line) l)) ≡ true = subst (λ (x : WaitList). is_among w (untold x (after_news (NextIn line) l)) ≡ true) lines e in
      subst (λ (x : WaitList). kind w ≡ Some x) (sym lines) (h line w (among_drop w (untold line l) (subst (λ (ws : List Waiter). is_among w ws ≡ true) (next_own line l) own)))
]

as_many : (es : List (Key × Option Waiter)) → length (map (λ (w : Key × Option Waiter). let t : Unit {0} = tt in t) es) ≡ length es
as_many [] = refl
as_many (e ∷ es) = let on = as_many es in omega (arith, on)

-- ---- one list of four

module _ (kind : Kind) (held : KeysHeld) (closed : Bool) where
  pub replaced : (line : WaitList) (new : Listeners Waiter) (wait_lists : WaitLists Waiter) (l : Waiting) → ShowsLine kind held closed line new l
      → ((other : WaitList) → same_line other line ≡ false → ShowsLine kind held closed other (listeners (list_of other) wait_lists) l)
      → ShowsLines kind held closed (with_listeners (list_of line) new wait_lists) l
  replaced Sends new wait_lists l own others Sends = own
  replaced Receives new wait_lists l own others Receives = own
  replaced Streams new wait_lists l own others Streams = own
  replaced Closings new wait_lists l own others Closings = own
  replaced line new wait_lists l own others other = others other refl

  pub unmoved : (other : WaitList) (x : Listeners Waiter) (l m : Waiting) → untold other m ≡ untold other l → of_line kind other m.woken ≡ of_line kind other l.woken
      → ShowsLine kind held closed other x l → ShowsLine kind held closed other x m
  unmoved other x l m e f h = record {
    untold = subst (λ (ws : List Waiter). AreUntold held x.waiting ws) (sym e) h.untold;
    told = subst (λ (ws : List Waiter). AreTold held closed other x.told ws) (sym f) h.told;
  }

  -- where nothing is told
  pub quiet_line : (line : WaitList) (x : Listeners Waiter) (l : Waiting) → ShowsLine kind held closed line x l → ShowsLine kind held closed line x (after_news Nothing l)
  quiet_line line x l h = unmoved line x l (after_news Nothing l) (same line) (ap (λ (ws : List Waiter). of_line kind line ws) (append-nil l.woken)) h
    where
      same : (line : WaitList) → untold line (after_news Nothing l) ≡ untold line l
      same Sends = refl
      same line = refl

  -- names of another line that were woken are none of this one
  pub others_woken : (line other : WaitList) → same_line other line ≡ false → (woken names : List Waiter) → AllOf kind line names → of_line kind other (woken ++ names) ≡ of_line kind other woken
  others_woken line other off woken names h =
      of_line_append kind other woken names ∙ ap (λ (ws : List Waiter). of_line kind other woken ++ ws) (of_other_line kind line other off names h) ∙ append-nil (of_line kind other woken)

  own_woken : (line : WaitList) (woken names : List Waiter) → AllOf kind line names → of_line kind line (woken ++ names) ≡ of_line kind line woken ++ names
  own_woken line woken names h = of_line_append kind line woken names ∙ ap (λ (ws : List Waiter). of_line kind line woken ++ ws) (of_own_line kind line names h)

  all_of_first : (line : WaitList) (ws : List Waiter) → AllOf kind line ws → AllOf kind line (take 1 ws)
  all_of_first line ws h = λ w e. h w (among_take w ws e)

  -- ---- one is told

  first_told : (a : Bool) (tag : Unit {0}) (n : ℕ) (es : List (Key × Option Waiter)) → n ≡ min 1 (length es)
      → told_with a (take (length (take n (tag ∷ []))) es) (take n (tag ∷ [])) ≡ told_with a (take 1 es) (tag ∷ [])
  first_told a tag n [] e = let none : n ≡ 0 = omega (arith, e) in rw none refl
  first_told a tag n (x ∷ es) e = let one : n ≡ 1 = omega (arith, e) in rw one refl

  first_dropped : (tag : Unit {0}) (n : ℕ) (es : List (Key × Option Waiter)) → n ≡ min 1 (length es) → drop (length (take n (tag ∷ []))) es ≡ drop 1 es
  first_dropped tag n [] e = let none : n ≡ 0 = omega (arith, e) in rw none refl
  first_dropped tag n (x ∷ es) e = let one : n ≡ 1 = omega (arith, e) in rw one refl

  pub first_tasks : (n : ℕ) (es : List (Key × Option Waiter)) → n ≡ min 1 (length es) → tasks_of (take n es) ≡ tasks_of (take 1 es)
  first_tasks n [] e = let none : n ≡ 0 = omega (arith, e) in rw none refl
  first_tasks n (x ∷ es) e = let one : n ≡ 1 = omega (arith, e) in rw one refl

  first_are_told : (line : WaitList) (a : Bool) (tag : Unit {0}) → (closed ≡ false → IsToldSo line a) → (es : List (Key × Option Waiter)) (ws : List Waiter) → AreUntold held es ws
      → AreToldInTurn held closed line (told_with a (take 1 es) (tag ∷ [])) (take 1 ws)
  first_are_told line a tag so [] [] h = tt
  first_are_told line a tag so (e ∷ es) (w ∷ ws) h = ((h.0.0, so), tt)
  first_are_told line a tag so es ws h = absurd h

  -- by a notification of this kind
  pub next_line : (line : WaitList) (a : Bool) (tag : Unit {0}) (n : ℕ) (x : Listeners Waiter) (l : Waiting) → n ≡ min 1 (length x.waiting) → (closed ≡ false → IsToldSo line a) → AllOf kind line (untold line l)
      → ShowsLine kind held closed line x l → ShowsLine kind held closed line (notified a (take n (tag ∷ [])) x) (after_news (NextIn line) l)
  next_line line a tag n x l e so all h =
      let here = first_are_told line a tag so x.waiting (untold line l) h.untold in
      let told = told_then held closed line x.told (told_with a (take 1 x.waiting) (tag ∷ [])) (of_line kind line l.woken) (take 1 (untold line l)) h.told here in
      record {
        untold =
            subst (λ (ws : List Waiter). AreUntold held (drop (length (take n (tag ∷ []))) x.waiting) ws) (sym (next_own line l))
            (subst (λ (es : List (Key × Option Waiter)). AreUntold held es (drop 1 (untold line l))) (sym (first_dropped tag n x.waiting e)) (untold_rest held x.waiting (untold line l) h.untold));
        told =
            subst (λ (ws : List Waiter). AreTold held closed line (x.told ++ told_with a (take (length (take n (tag ∷ []))) x.waiting) (take n (tag ∷ []))) ws)
            (sym (own_woken line l.woken (take 1 (untold line l)) (all_of_first line (untold line l) all)))
            (subst (λ (es : List (Key × Notice Unit)). AreTold held closed line (x.told ++ es) (of_line kind line l.woken ++ take 1 (untold line l))) (sym (first_told a tag n x.waiting e)) told);
      }

  pub next_others : (line other : WaitList) (wait_lists : WaitLists Waiter) (l : Waiting) → Lined kind l → ShowsLines kind held closed wait_lists l → same_line other line ≡ false
      → ShowsLine kind held closed other (listeners (list_of other) wait_lists) (after_news (NextIn line) l)
  next_others line other wait_lists l lined h off =
      unmoved other (listeners (list_of other) wait_lists) l (after_news (NextIn line) l) (next_other line other l off)
      (others_woken line other off l.woken (take 1 (untold line l)) (all_of_first line (untold line l) (lined line))) (h other)

  -- the next of a line is told as one more
  pub one_told : (line : WaitList) (wait_lists : WaitLists Waiter) (l : Waiting) → Lined kind l → (closed ≡ false → IsToldSo line true) → ShowsLines kind held closed wait_lists l
      → ShowsLines kind held closed (with_listeners (list_of line) (told_one (listeners (list_of line) wait_lists)) wait_lists) (after_news (NextIn line) l)
  one_told line wait_lists l lined so h =
      let x : Listeners Waiter = listeners (list_of line) wait_lists in
      replaced line (told_one x) wait_lists (after_news (NextIn line) l) (next_line line true tt (min 1 (length x.waiting)) x l refl so (lined line) (h line))
      (λ other off. next_others line other wait_lists l lined h off)

  pub one_woken : (line : WaitList) (x : Listeners Waiter) (l : Waiting) → ShowsLine kind held closed line x l → told_one_wakes x ≡ take 1 (untold line l)
  one_woken line x l h =
      first_tasks (min 1 (length x.waiting)) x.waiting refl ∙ tasks_are held (take 1 x.waiting) (take 1 (untold line l)) (untold_first held x.waiting (untold line l) h.untold)

  -- ---- all of a line are told

  pub all_line : (line : WaitList) (x : Listeners Waiter) (l : Waiting) → (closed ≡ false → IsToldSo line false) → AllOf kind line (untold line l)
      → ShowsLine kind held closed line x l → ShowsLine kind held closed line (told_all x) (all_told line l)
  all_line line x l so all h =
      let tags : List (Unit {0}) = map (λ (w : Key × Option Waiter). let t : Unit {0} = tt in t) x.waiting in
      let here = just_told held closed line false so x.waiting tags (untold line l) (as_many x.waiting) h.untold in
      let told = told_then held closed line x.told (told_with false x.waiting tags) (of_line kind line l.woken) (untold line l) h.told here in
      record {
        untold = subst (λ (ws : List Waiter). AreUntold held [] ws) (sym (all_own line l)) tt;
        told = subst (λ (ws : List Waiter). AreTold held closed line (told_all x).told ws) (sym (own_woken line l.woken (untold line l) all)) told;
      }

  pub all_are_told : (line : WaitList) (wait_lists : WaitLists Waiter) (l : Waiting) → Lined kind l → (closed ≡ false → IsToldSo line false) → ShowsLines kind held closed wait_lists l
      → ShowsLines kind held closed (with_listeners (list_of line) (told_all (listeners (list_of line) wait_lists)) wait_lists) (all_told line l)
  all_are_told line wait_lists l lined so h =
      let x : Listeners Waiter = listeners (list_of line) wait_lists in
      replaced line (told_all x) wait_lists (all_told line l) (all_line line x l so (lined line) (h line))
      (λ other off. unmoved other (listeners (list_of other) wait_lists) l (all_told line l) (all_other line other l off) (others_woken line other off l.woken (untold line l) (lined line)) (h other))

  pub all_woken : (line : WaitList) (x : Listeners Waiter) (l : Waiting) → ShowsLine kind held closed line x l → told_all_wakes x ≡ untold line l
  all_woken line x l h = tasks_are held x.waiting (untold line l) h.untold

-- ---- news, section by section

pub message_is : (l : Waiting) → all_told Streams (after_news (NextIn Receives) l) ≡ after_news Message l
message_is l =
    ap (λ (ws : List Waiter). let m : Waiting = record { sends = l.sends; receives = drop 1 l.receives; streams = []; closings = l.closings; woken = ws } in m)
    (append_assoc l.woken (take 1 l.receives) l.streams)

pub closing_is : (l : Waiting) → all_told Closings (all_told Streams (all_told Receives (all_told Sends l))) ≡ after_news Closing l
closing_is l =
    ap (λ (ws : List Waiter). let m : Waiting = record { sends = []; receives = []; streams = []; closings = []; woken = ws } in m)
    (ap (λ (ws : List Waiter). ws ++ l.streams ++ l.closings) (append_assoc l.woken l.sends l.receives)
    ∙ ap (λ (ws : List Waiter). ws ++ l.closings) (append_assoc l.woken (l.sends ++ l.receives) l.streams)
    ∙ append_assoc l.woken (l.sends ++ l.receives ++ l.streams) l.closings)
