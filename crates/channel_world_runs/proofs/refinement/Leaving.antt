-- One who leaves a list, and passes on the notification that it was told, leaves its line so.
use Rattle.std.specs.Prelude.{◌≡◌, ◌⊎◌, ◌≤◌, ◌-◌, ◌∷◌, if◌then◌else◌}
use Rattle.channel_world_runs.proofs.Lemmas.{AreUntold, AreTold, IsToldSo, ShowsLine, ShowsLines, KeysFit, list_of, false_from_ne_true, arith, ℕ, min, List, [], length, take, Bool, true, false, not, Option, None, Some, is_some, refl, sym, ap, subst, ◌∙◌, inl, inr, append-nil, list_any, Key, Listeners, WaitLists, listeners, with_listeners, Waiting, is_among, is_stream, untold, told_by, after_news, gone, passed_on, Kind, Placed, times, same_line, Waiter, News, Nothing, NextIn, WaitList, Sends, Receives, Streams, Closings, decided, or_false, without_absent, untold_gone, line_refl, placed_gone, empty_gone, KeysHeld, among_take, Notice, notified, moved, passed, passed_wakes, told_as, waits_as, removed, removed_wakes, unlisted, quiet_line, Lined, replaced, unmoved, first_tasks, next_line, next_other, others_woken, AllOf, among_of_line, among_its_line, not_of_line, of_line_without, tasks_are, untold_first, none_untold, OnlyHolder, untold_without, some_told, none_told, told_without, told_found, told_missed, untold_found, untold_missed, times_of_line, times_untold}
use Rattle.channel_world_runs.specs.refinement.Refines.{of_line}

-- streams, and they alone, belong to the line of streams
abbrev pub StreamsAreStreams : Kind → Type 0
StreamsAreStreams kind = (w : Waiter) → (is_stream w ≡ true → kind w ≡ Some Streams) × (kind w ≡ Some Streams → is_stream w ≡ true)

-- ---- what a removal does, by what is listed

module _ (key : Key) (l : Listeners Waiter) where
  abbrev removed_by : Option (Notice (Unit {0})) → Bool → Listeners Waiter
  removed_by o waits = elim o [ Some notice ↦ passed notice (unlisted key l) | None ↦ (if waits then unlisted key l else l) ]

  abbrev wakes_by : Option (Notice (Unit {0})) → List Waiter
  wakes_by o = elim o [ Some notice ↦ passed_wakes notice (unlisted key l) | None ↦ [] ]

  removed_is : (o : Option (Notice (Unit {0}))) (waits : Bool) → told_as l key ≡ o → is_some (waits_as l key) ≡ waits → removed key true l ≡ removed_by o waits
  removed_is o waits e f =
      ap (λ (p : Option (Notice (Unit {0}))). removed_by p (is_some (waits_as l key))) e ∙ ap (λ (b : Bool). removed_by o b) f

  wakes_are : (o : Option (Notice (Unit {0}))) → told_as l key ≡ o → removed_wakes key true l ≡ wakes_by o
  wakes_are o e = ap (λ (p : Option (Notice (Unit {0}))). wakes_by p) e

-- a list that was left and then told news
record Left (kind : Kind) (held : KeysHeld) (closed : Bool) (line : WaitList) (x : Listeners Waiter) (names : List Waiter) (news : News) (m : Waiting) : Type 0 where
  own : ShowsLine kind held closed line x (after_news news m)
  wakes : names ≡ told_by news m
  quiet : (news ≡ Nothing) ⊎ (news ≡ NextIn line)

module _ (kind : Kind) (held : KeysHeld) (closed : Bool) where
  -- ---- a notification that is passed on

  none_moved : (line : WaitList) (n : Notice (Unit {0})) (y : Listeners Waiter) (m : Waiting) → moved n.additional 1 y ≡ 0 → ShowsLine kind held closed line y m
      → Left kind held closed line (passed n y) (passed_wakes n y) Nothing m
  none_moved line n y m e h = record {
    own = subst (λ (k : ℕ). ShowsLine kind held closed line (notified n.additional (take k (n.tag ∷ [])) y) (after_news Nothing m)) (sym e) still;
    wakes = rw e refl;
    quiet = inl refl;
  } where
    still : ShowsLine kind held closed line (notified n.additional [] y) (after_news Nothing m)
    still =
        quiet_line kind held closed line (notified n.additional [] y) m
        (record { untold = h.untold; told = subst (λ (es : List (Key × Notice (Unit {0}))). AreTold held closed line es (of_line kind line m.woken)) (sym (append-nil y.told)) h.told })

  one_moved : (line : WaitList) (n : Notice (Unit {0})) (y : Listeners Waiter) (m : Waiting) → moved n.additional 1 y ≡ min 1 (length y.waiting) → (closed ≡ false → IsToldSo line n.additional)
      → AllOf kind line (untold line m) → ShowsLine kind held closed line y m → Left kind held closed line (passed n y) (passed_wakes n y) (NextIn line) m
  one_moved line n y m e so all h = record {
    own = next_line kind held closed line n.additional n.tag (moved n.additional 1 y) y m e so all h;
    wakes =
        first_tasks kind held closed (moved n.additional 1 y) y.waiting e
        ∙ tasks_are held (take 1 y.waiting) (take 1 (untold line m)) (untold_first held y.waiting (untold line m) h.untold);
    quiet = inr refl;
  }

  open_or_shut : (b : Bool) → (b ≡ false) ⊎ (b ≡ true)
  open_or_shut true = inr refl
  open_or_shut false = inl refl

  nobody_moved : (a : Bool) (t : ℕ) (ws : List (Key × Option Waiter)) → ws ≡ [] → min (if a then 1 else 1 - t) (length ws) ≡ 0
  nobody_moved a t ws e = rw e (omega arith)

  nobody_first : (ws : List (Key × Option Waiter)) → ws ≡ [] → min 1 (length ws) ≡ 0
  nobody_first ws e = rw e (omega arith)

  -- how a told one of this line passes its notification on, once it is gone
  abbrev pub heir : WaitList → Waiting → News
  heir Sends m = NextIn Sends
  heir Receives m = NextIn Receives
  heir Streams m = if not (list_any is_stream m.woken) then NextIn Streams else Nothing
  heir Closings m = Nothing

  none_waits : (line : WaitList) (y : Listeners Waiter) (m : Waiting) → ShowsLine kind held closed line y m → untold line m ≡ [] → y.waiting ≡ []
  none_waits line y m h e = none_untold held y.waiting (untold line m) h.untold e

  none_as_first : (line : WaitList) (n : Notice (Unit {0})) (y : Listeners Waiter) (m : Waiting) → untold line m ≡ [] → ShowsLine kind held closed line y m → moved n.additional 1 y ≡ min 1 (length y.waiting)
  none_as_first line n y m e h =
      let none = none_waits line y m h e in nobody_moved n.additional (length y.told) y.waiting none ∙ sym (nobody_first y.waiting none)

  no_stream : StreamsAreStreams kind → (ws : List Waiter) → list_any is_stream ws ≡ false → length (of_line kind Streams ws) ≡ 0
  no_stream streams [] e = refl
  no_stream streams (w ∷ ws) e =
      let off = or_false (is_stream w) (list_any is_stream ws) e in
      absent w (kind w) refl off.0 (no_stream streams ws off.1)
    where
      absent : (w : Waiter) (o : Option WaitList) → kind w ≡ o → is_stream w ≡ false → length (of_line kind Streams ws) ≡ 0 → length (of_line kind Streams (w ∷ ws)) ≡ 0
      absent w (Some Streams) k f h = cc (sym ((streams w).1 k) ∙ f)
      absent w o k f h = rw k h

  some_stream : StreamsAreStreams kind → (ws : List Waiter) → list_any is_stream ws ≡ true → 1 ≤ length (of_line kind Streams ws)
  some_stream streams [] e = cc e
  some_stream streams (w ∷ ws) e = elim (decided (is_stream w)) [
    | inl t ↦ rw ((streams w).0 t) (omega arith)
    | inr t ↦ at_kind (kind w) refl (some_stream streams ws (rw t at e))
  ] where
    at_kind : (o : Option WaitList) → kind w ≡ o → 1 ≤ length (of_line kind Streams ws) → 1 ≤ length (of_line kind Streams (w ∷ ws))
    at_kind (Some Streams) k h = rw k (omega (arith, h))
    at_kind o k h = rw k h

  passes : StreamsAreStreams kind → (line : WaitList) (n : Notice (Unit {0})) (y : Listeners Waiter) (m : Waiting) → (closed ≡ false → IsToldSo line n.additional) → (closed ≡ true → untold line m ≡ [])
      → AllOf kind line (untold line m) → ShowsLine kind held closed line y m → Left kind held closed line (passed n y) (passed_wakes n y) (heir line m) m
  passes streams Closings n y m so shut all h = elim (open_or_shut closed) [
    | inl o ↦ absurd (so o)
    | inr c ↦ none_moved Closings n y m (nobody_moved n.additional (length y.told) y.waiting (none_waits Closings y m h (shut c))) h
  ]
  passes streams Streams n y m so shut all h = elim (decided (list_any is_stream m.woken)) [
    | inl t ↦ rw t (none_moved Streams n y m (elim (open_or_shut closed) [
      | inl o ↦
          let many : 1 ≤ length y.told = some_told held closed Streams y.told (of_line kind Streams m.woken) h.told (some_stream streams m.woken t) in
          rw (so o) (omega (arith, many))
      | inr c ↦ nobody_moved n.additional (length y.told) y.waiting (none_waits Streams y m h (shut c))
    ]) h)
    | inr t ↦ rw t (one_moved Streams n y m (elim (open_or_shut closed) [
      | inl o ↦
          let none : length y.told ≡ 0 = none_told held closed Streams y.told (of_line kind Streams m.woken) h.told (no_stream streams m.woken t) in
          rw (so o, none) refl
      | inr c ↦ none_as_first Streams n y m (shut c) h
    ]) so all h)
  ]
  passes streams line n y m so shut all h = elim (open_or_shut closed) [
    | inl o ↦ one_moved line n y m (rw (so o) refl) so all h
    | inr c ↦ one_moved line n y m (none_as_first line n y m (shut c) h) so all h
  ]

  -- ---- one that leaves

  module _ (streams : StreamsAreStreams kind) (a : WaitLists Waiter) (l : Waiting) (own : WaitList) (w : Waiter) (key : Key) (k : kind w ≡ Some own) (holds : held w ≡ Some key)
      (placed : Placed kind l) (keys : KeysFit kind held l) (shut : closed ≡ true → (line : WaitList) → untold line l ≡ []) (h : ShowsLines kind held closed a l) where
    abbrev pub x : Listeners Waiter
    x = listeners (list_of own) a

    only_untold : OnlyHolder held key w (untold own l)
    only_untold = λ v e f. keys.apart own v w key (placed.lines own v e) k f holds

    only_told : OnlyHolder held key w (of_line kind own l.woken)
    only_told = λ v e f. keys.apart own v w key (among_of_line kind own v l.woken e).1 k f holds

    once_untold : times w (untold own l) ≤ 1
    once_untold = omega (arith, times_untold own w l, placed.once w)

    once_told : times w (of_line kind own l.woken) ≤ 1
    once_told = omega (arith, times_of_line kind own w l.woken, placed.once w)

    -- its list without it
    pub own_gone : ShowsLine kind held closed own (unlisted key x) (gone w l)
    own_gone = record {
      untold = subst (λ (ws : List Waiter). AreUntold held (unlisted key x).waiting ws) (sym (untold_gone own w l)) (untold_without held key w holds x.waiting (untold own l) only_untold once_untold (h own).untold);
      told = subst (λ (ws : List Waiter). AreTold held closed own (unlisted key x).told ws) (sym (of_line_without kind own w l.woken))
          (told_without held key w holds closed own x.told (of_line kind own l.woken) only_told once_told (h own).told);
    }

    not_in : (other : WaitList) → same_line other own ≡ false → is_among w (untold other l) ≡ false
    not_in other off = false_from_ne_true (is_among w (untold other l)) (λ t.
        let same : Some other ≡ Some own = sym (placed.lines other w t) ∙ k in
        let lines : other ≡ own = cc same in
        cc (sym (subst (λ (z : WaitList). same_line other z ≡ true) lines (line_refl other)) ∙ off))

    -- the other lists
    pub other_gone : (other : WaitList) → same_line other own ≡ false → ShowsLine kind held closed other (listeners (list_of other) a) (gone w l)
    other_gone other off =
        unmoved kind held closed other (listeners (list_of other) a) l (gone w l) (untold_gone other w l ∙ without_absent w (untold other l) (not_in other off))
        (of_line_without kind other w l.woken ∙ without_absent w (of_line kind other l.woken) (not_of_line kind own other w l.woken k off)) (h other)

    lined_gone : Lined kind (gone w l)
    lined_gone = (placed_gone kind w l placed).lines

    shut_gone : closed ≡ true → untold own (gone w l) ≡ []
    shut_gone c = empty_gone own w l (shut c own)

    passed_told : (line : WaitList) → is_among w l.woken ≡ true → passed_on line w l ≡ heir line (gone w l)
    passed_told Closings t = refl
    passed_told line t = rw t refl

    passed_untold : (line : WaitList) → is_among w l.woken ≡ false → passed_on line w l ≡ Nothing
    passed_untold Closings t = refl
    passed_untold line t = rw t refl

    relisted : (y : Listeners Waiter) (names : List Waiter) (news : News) → removed key true x ≡ y → removed_wakes key true x ≡ names → Left kind held closed own y names news (gone w l)
        → Left kind held closed own (removed key true x) (removed_wakes key true x) news (gone w l)
    relisted y names news e f g = record {
      own = subst (λ (z : Listeners Waiter). ShowsLine kind held closed own z (after_news news (gone w l))) (sym e) g.own;
      wakes = f ∙ g.wakes;
      quiet = g.quiet;
    }

    after_told : is_among w l.woken ≡ true → Left kind held closed own (removed key true x) (removed_wakes key true x) (passed_on own w l) (gone w l)
    after_told t =
        let found = told_found held key w holds closed own x.told (of_line kind own l.woken) only_told (h own).told (among_its_line kind own w l.woken k ∙ t) in
        let here : Left kind held closed own (passed found.0 (unlisted key x)) (passed_wakes found.0 (unlisted key x)) (heir own (gone w l)) (gone w l) =
        passes streams own found.0 (unlisted key x) (gone w l) found.2 shut_gone (lined_gone own) own_gone in
        let named = subst (λ (news : News). Left kind held closed own (passed found.0 (unlisted key x)) (passed_wakes found.0 (unlisted key x)) news (gone w l)) (sym (passed_told own t)) here in
        relisted (passed found.0 (unlisted key x)) (passed_wakes found.0 (unlisted key x)) (passed_on own w l)
        (removed_is key x (Some found.0) (is_some (waits_as x key)) found.1 refl) (wakes_are key x (Some found.0) found.1) named

    still_gone : (y : Listeners Waiter) → ShowsLine kind held closed own y (gone w l) → Left kind held closed own y [] Nothing (gone w l)
    still_gone y g = record {
      own = quiet_line kind held closed own y (gone w l) g;
      wakes = refl;
      quiet = inl refl;
    }

    after_untold : is_among w l.woken ≡ false → Left kind held closed own (removed key true x) (removed_wakes key true x) (passed_on own w l) (gone w l)
    after_untold t =
        let missed = told_missed held key w holds closed own x.told (of_line kind own l.woken) only_told (h own).told (among_its_line kind own w l.woken k ∙ t) in
        subst (λ (news : News). Left kind held closed own (removed key true x) (removed_wakes key true x) news (gone w l)) (sym (passed_untold own t))
        (elim (decided (is_among w (untold own l))) [
          | inl u ↦ let found = untold_found held key w holds x.waiting (untold own l) only_untold (h own).untold u in
              relisted (unlisted key x) [] Nothing (removed_is key x None true missed (ap (λ (o : Option (Option Waiter)). is_some o) found)) (wakes_are key x None missed) (still_gone (unlisted key x) own_gone)
          | inr u ↦ let none = untold_missed held key w holds x.waiting (untold own l) only_untold (h own).untold u in
              relisted x [] Nothing (removed_is key x None false missed (ap (λ (o : Option (Option Waiter)). is_some o) none)) (wakes_are key x None missed) (still_gone x (unmoved kind held closed own x l (gone w l) (untold_gone own w l ∙ without_absent w (untold own l) u)
              (of_line_without kind own w l.woken ∙ without_absent w (of_line kind own l.woken) (among_its_line kind own w l.woken k ∙ t)) (h own)))
        ])

    left : Left kind held closed own (removed key true x) (removed_wakes key true x) (passed_on own w l) (gone w l)
    left = elim (decided (is_among w l.woken)) [
      | inl t ↦ after_told t
      | inr t ↦ after_untold t
    ]

    pub leave_wakes : removed_wakes key true x ≡ told_by (passed_on own w l) (gone w l)
    leave_wakes = left.wakes

    abbrev pub b : WaitLists Waiter
    b = with_listeners (list_of own) (removed key true x) a

    others_by : (news : News) → (news ≡ Nothing) ⊎ (news ≡ NextIn own) → (other : WaitList) → same_line other own ≡ false → ShowsLine kind held closed other (listeners (list_of other) a) (after_news news (gone w l))
    others_by news (inl e) other off =
        subst (λ (z : News). ShowsLine kind held closed other (listeners (list_of other) a) (after_news z (gone w l))) (sym e)
        (quiet_line kind held closed other (listeners (list_of other) a) (gone w l) (other_gone other off))
    others_by news (inr e) other off =
        subst (λ (z : News). ShowsLine kind held closed other (listeners (list_of other) a) (after_news z (gone w l))) (sym e)
        (unmoved kind held closed other (listeners (list_of other) a) (gone w l) (after_news (NextIn own) (gone w l)) (next_other own other (gone w l) off)
        (others_woken kind held closed own other off (gone w l).woken (take 1 (untold own (gone w l))) (λ v f. lined_gone own v (among_take v (untold own (gone w l)) f))) (other_gone other off))

    pub leave_lines : ShowsLines kind held closed b (after_news (passed_on own w l) (gone w l))
    leave_lines = replaced kind held closed own (removed key true x) a (after_news (passed_on own w l) (gone w l)) left.own (λ other off. others_by (passed_on own w l) left.quiet other off)
