-- A channel at rest shows a state of the model: on each list, those that hold its listeners, and the woken in their order.
use Rattle.std.specs.Prelude.{if◌then◌else◌, ◌≡◌, ◌≤◌, ◌+◌, ◌++◌, ◌⊎◌}
use Rattle.channel_world_runs.proofs.Lemmas.{among_counts, absent_counts, is_line, line_at, count_of, free_places, line_refl, decided, ℕ, true, false, List, [], length, Option, None, Some, IsSome, inl, inr, refl, sym, ap, ◌∙◌, subst, arith, keys_of, Notice, Key, ListenerRef, WaitList, Sends, Receives, Streams, Closings, told_of, count_append, Kind, Enough, times, times_in, Placed, AwakeIn, Waiting, same_waiter, is_among, untold, State, Waiter, ActiveCall, Configuration, IsAmong, waits, status, holding, keys, IsListed, Holder, named, calling, AnyOf, HoldsIn, Owned, WorldInvariant, names_of, held_of, NameState, state_at, IsWorld, RestIsAWorld, WokenSound, ShowsLine, ShowsLines, KeysFit, Refines, AreUntold, AreSame, listeners, total, HoldsListener, AnswersClosed, counts_for_receives, MessagesAreFew, counts_for_sends, HasPlaces, PlacesAreFew, WakeInvariant, AnswersFor, Shut, IsMarked, tasks_are, among_left, among_right, none_parts, same_held, Pends, line_is, holds_it, pends, among_of_line, among_its_line, times_of_line, among_is, is_there}
use Rattle.channel_steps.specs.every_run.Waits.{Any, Waits}
use Rattle.channel_world_runs.proofs.OwnerWokenLists.{key_of_entry}
use Rattle.channel_world_runs.specs.refinement.Refines.{of_line}
use Rattle.channel_world_runs.proofs.refinement.Calls.{calls_over}
use Rattle.channel_world_runs.proofs.NoLonger.{no_longer}
use Rattle.channel_world_runs.proofs.OwnerSteps.{named_is}
use Rattle.channel_world_runs.proofs.rest.Lists.{same_entry, all_keys, Stand, named_all, stand_join, stand_length, stand_none, stand_once, stand_there, some_waits, stand_kind, are_untold, are_told}
use Rattle.channel_world_runs.proofs.rest.Names.{on}
use Rattle.channel_world_runs.proofs.rest.Woken.{none_twice_times, by_lines}

fits : (capacity : Option ℕ) (m t : ℕ) → HasPlaces capacity (m + t + 0) → free_places capacity m ≤ t
fits None m t h = absurd h
fits (Some c) m t h = omega (arith, h)

module _ {T : Type 0} (b : NameState T) (s : Configuration T Waiter) (kept : WorldInvariant b s) (rest : s.under_way ≡ []) where
  abbrev owned : Owned b s
  owned = kept.owned

  marks : WokenSound b s
  marks = kept.woken

  abbrev sound : WakeInvariant s
  sound = kept.sound

  abbrev kind : Kind
  kind = line_at (names_of b.name_table)

  abbrev told : WaitList → List (Key × Notice Unit)
  told line = told_of line s.now

  abbrev waiting : WaitList → List (Key × Option Waiter)
  waiting line = (listeners line s.now.wait_lists).waiting

  -- ---- who holds what

  abbrev Has : WaitList → Key → Waiter → Type 0
  Has line key w = status b.name_table w ≡ waits (on line key)

  holder : (line : WaitList) (key : Key) → IsListed (on line key) s.now → (w : Waiter) × Has line key w
  holder line key i = let held = owned.held (on line key) i in by held.0 held.1
    where
      by : (x : Holder) → HoldsIn (status b.name_table) s.under_way x (on line key) → (w : Waiter) × Has line key w
      by (named w) h = (w, h)
      by (calling party) h =
          absurd (subst (λ (us : List (ActiveCall T Waiter)). AnyOf (λ u. (u.party ≡ party) × (holding u.at ≡ Some (on line key)))
          us) rest h)

  one_name : (line : WaitList) (key : Key) (v w : Waiter) → Has line key v → Has line key w → v ≡ w
  one_name line key v w h g = named_is v w (owned.alone (named v) (named w) (on line key) h g)

  one_key : (line : WaitList) (w : Waiter) (j k : Key) → Has line j w → Has line k w → j ≡ k
  one_key line w j k h g = ap (λ x. x.key) (same_held (on line j) (on line k) (sym h ∙ g))

  of_its_line : (line : WaitList) (key : Key) (w : Waiter) → Has line key w → kind w ≡ Some line
  of_its_line line key w h = line_is b.name_table w (on line key) h

  its_key : (line : WaitList) (key : Key) (w : Waiter) → Has line key w → held_of b.name_table w ≡ Some key
  its_key line key w h = holds_it b.name_table w (on line key) h

  told_names : (line : WaitList) → (ws : List Waiter) × Stand (Has line) (keys_of (told line)) ws
  told_names line = named_all (Has line) (keys_of (told line))
      (λ key i. holder line key (among_left key (keys_of (told line)) (keys_of (waiting line)) i))

  waiting_names : (line : WaitList) → (ws : List Waiter) × Stand (Has line) (keys_of (waiting line)) ws
  waiting_names line = named_all (Has line) (keys_of (waiting line))
      (λ key i. holder line key (among_right key (keys_of (told line)) (keys_of (waiting line)) i))

  abbrev D : WaitList → List Waiter
  D line = (told_names line).0

  abbrev U : WaitList → List Waiter
  U line = (waiting_names line).0

  all_names : (line : WaitList) → Stand (Has line) (keys (listeners line s.now.wait_lists)) (D line ++ U line)
  all_names line = stand_join (Has line) (keys_of (told line)) (keys_of (waiting line)) (D line) (U line) (told_names line).1
      (waiting_names line).1

  -- ---- the state

  abbrev state : State T
  state = state_at b s

  abbrev who : Waiting
  who = state.waiting

  -- each that holds a waiting listener waits for its own name
  his_task : (line : WaitList) (e : Key × Option Waiter) (w : Waiter) → IsAmong e (waiting line) → Has line e.0 w → e.1 ≡ Some w
  his_task line e w i p = by (marks.stands w (on line e.0) p)
    where
      by : IsMarked w who.woken (on line e.0) s.now → e.1 ≡ Some w
      by (inl m) =
          let parts = none_parts (keys_of (told line)) (keys_of (waiting line)) (owned.once line) in
          absurd (parts.apart e.0 m.1 (key_of_entry e (waiting line) i))
      by (inr m) =
          let parts = none_parts (keys_of (told line)) (keys_of (waiting line)) (owned.once line) in
          let same : e ≡ (e.0, Some w) = same_entry e (e.0, Some w) (waiting line) parts.right refl i m.1 in
          ap (λ (x : Key × Option Waiter). x.1) same

  are_waiting : (line : WaitList) → AreUntold (held_of b.name_table) (waiting line) (U line)
  are_waiting line =
      are_untold (Has line) (held_of b.name_table) (its_key line) (waiting line) (U line) (his_task line) (waiting_names line).1

  untold_are : (line : WaitList) → untold line who ≡ U line
  untold_are Sends = tasks_are (held_of b.name_table) (waiting Sends) (U Sends) (are_waiting Sends)
  untold_are line = tasks_are (held_of b.name_table) (waiting line) (U line) (are_waiting line)

  once_woken : (w : Waiter) (line : WaitList) → times w (of_line kind line who.woken) ≤ 1
  once_woken w line =
      let all = none_twice_times w who.woken marks.once in omega (arith, all, times_of_line kind line w who.woken)

  once_told : (w : Waiter) (line : WaitList) → times w (D line) ≤ 1
  once_told w line =
      let parts = none_parts (keys_of (told line)) (keys_of (waiting line)) (owned.once line) in
      stand_once (Has line) (keys_of (told line)) (D line) w parts.left (one_key line w) (told_names line).1

  -- each that was woken is pending
  is_woken : (w : Waiter) → is_among w who.woken ≡ true → (h : ListenerRef) × (status b.name_table w ≡ waits h)
  is_woken w i = marks.pending w (among_is w who.woken i)

  -- and told
  is_told : (w : Waiter) (line : WaitList) → is_among w (of_line kind line who.woken) ≡ true → 1 ≤ times w (D line)
  is_told w line i =
      let among = among_of_line kind line w who.woken i in
      let h = is_woken w among.0 in
      let same : Some h.0.line ≡ Some line = sym (line_is b.name_table w h.0 h.1) ∙ among.1 in
      let there : h.0.line ≡ line = ap (λ (o : Option WaitList). elim o [ None ↦ line | Some l ↦ l ]) same in
      let has : Has line h.0.key w = h.1 ∙ ap (λ (l : WaitList). waits (on l h.0.key)) there in
      stand_there (Has line) (keys_of (told line)) (D line) w h.0.key (λ v g. one_name line h.0.key v w g has) (told_names line).1
      (marked_told line h.0.key among.0 (marks.stands w (on line h.0.key) has))
    where
      marked_told : (line : WaitList) (key : Key) → is_among w who.woken ≡ true → IsMarked w who.woken (on line key) s.now
          → IsAmong key (keys_of (told line))
      marked_told line key among (inl m) = m.1
      marked_told line key among (inr m) = absurd (m.0 (among_is w who.woken among))

  -- and each that is told was woken
  not_told : (w : Waiter) (line : WaitList) → is_among w (of_line kind line who.woken) ≡ false → times w (D line) ≡ 0
  not_told w line out = stand_none (Has line) (keys_of (told line)) (D line) w (told_names line).1
      (λ key i p. by key i p (marks.stands w (on line key) p))
    where
      by : (key : Key) → IsAmong key (keys_of (told line)) → Has line key w → IsMarked w who.woken (on line key) s.now → ⊥
      by key i p (inl m) =
          cc (sym out ∙ (among_its_line kind line w who.woken (of_its_line line key w p) ∙ is_there w who.woken m.0))
      by key i p (inr m) =
          let parts = none_parts (keys_of (told line)) (keys_of (waiting line)) (owned.once line) in
          parts.apart key i (key_of_entry (key, Some w) (waiting line) m.1)

  -- on each list those that were told are just those that were woken
  told_are : (line : WaitList) → AreSame (D line) (of_line kind line who.woken)
  told_are line w = elim (decided (is_among w (of_line kind line who.woken))) [
    | inl t ↦ omega (arith, is_told w line t, once_told w line, once_woken w line, among_counts w (of_line kind line who.woken) t)
    | inr f ↦ omega (arith, not_told w line f, absent_counts w (of_line kind line who.woken) f)
  ]

  -- ---- the lines

  shows_line : (line : WaitList) → ShowsLine kind (held_of b.name_table) s.now.queue.closed line (listeners line s.now.wait_lists) who
  shows_line line =
      record {
        untold = subst (λ (ws : List Waiter). AreUntold (held_of b.name_table) (waiting line) ws) (sym (untold_are line))
            (are_waiting line);
        told = (
          D line,
          are_told (Has line) (held_of b.name_table) (its_key line) s.now.queue.closed line (told line) (D line)
              (sound.tellings.while_open line) (told_names line).1,
          told_are line,
        );
      }

  shows_lines : ShowsLines kind (held_of b.name_table) s.now.queue.closed s.now.wait_lists who
  shows_lines Sends = shows_line Sends
  shows_lines line = shows_line line

  -- ---- how often a name stands

  abbrev often : Waiter → WaitList → ℕ
  often w line = times w (U line) + times w (D line)

  both_lists : (w : Waiter) (line : WaitList) → times w (D line ++ U line) ≡ times w (D line) + times w (U line)
  both_lists w line = count_append (same_waiter w) (D line) (U line)

  once : (w : Waiter) (line : WaitList) → often w line ≤ 1
  once w line =
      let one : times w (D line ++ U line) ≤ 1 = stand_once (Has line) (keys (listeners line s.now.wait_lists)) (D line ++ U line)
      w (owned.once line) (one_key line w) (all_names line) in
      let split = both_lists w line in
      omega (arith, one, split)

  never : (w : Waiter) (line : WaitList) → (kind w ≡ Some line → ⊥) → often w line ≡ 0
  never w line other =
      let first = stand_none (Has line) (keys_of (waiting line)) (U line) w (waiting_names line).1
      (λ key i h. other (of_its_line line key w h)) in
      let second = stand_none (Has line) (keys_of (told line)) (D line) w (told_names line).1
      (λ key i h. other (of_its_line line key w h)) in
      omega (arith, first, second)

  there : (w : Waiter) (line : WaitList) (key : Key) → Has line key w → 1 ≤ often w line
  there w line key h =
      let one : 1 ≤ times w (D line ++ U line) = stand_there (Has line) (keys (listeners line s.now.wait_lists))
      (D line ++ U line) w key (λ v g. one_name line key v w g h) (all_names line)
      (owned.listed (named w) (on line key) h) in
      let split = both_lists w line in
      omega (arith, one, split)

  -- one that was woken belongs to a line
  wakes : (w : Waiter) → is_among w who.woken ≡ true → IsSome (kind w)
  wakes w i = let h = is_woken w i in subst (λ (o : Option WaitList). IsSome o) (sym (line_is b.name_table w h.0 h.1)) refl

  -- each list has the names of its line as often as they stand there
  times_woken : (w : Waiter) (line : WaitList) → times w (of_line kind line who.woken) ≡ times w (D line)
  times_woken w line = sym (told_are line w)

  times_untold : (w : Waiter) (line : WaitList) → times w (untold line who) ≡ times w (U line)
  times_untold w line = ap (λ (ws : List Waiter). times w ws) (untold_are line)

  in_all : (w : Waiter) → times_in w who ≡ often w Sends + often w Receives + often w Streams + often w Closings
  in_all w = omega (
    arith,
    by_lines kind w who.woken wakes,
    times_woken w Sends,
    times_woken w Receives,
    times_woken w Streams,
    times_woken w Closings,
    times_untold w Sends,
    times_untold w Receives,
    times_untold w Streams,
    times_untold w Closings,
  )

  abbrev one_in : WaitList → Option WaitList → ℕ
  one_in line o = if is_line line o then 1 else 0

  within : (w : Waiter) (line : WaitList) → often w line ≤ one_in line (kind w)
  within w line = elim (decided (is_line line (kind w))) [
    | inl t ↦ rw t (once w line)
    | inr t ↦
        let none : often w line ≡ 0 = never w line (λ e. cc (sym (line_refl line) ∙ (sym (ap (is_line line) e) ∙ t))) in
        rw t (omega (arith, none))
  ]

  at_most_once : (w : Waiter) → times_in w who ≤ 1
  at_most_once w =
      omega (arith, in_all w, within w Sends, within w Receives, within w Streams, within w Closings, of_one (kind w))
    where
      of_one : (o : Option WaitList) → one_in Sends o + one_in Receives o + one_in Streams o + one_in Closings o ≤ 1
      of_one None = omega arith
      of_one (Some Sends) = omega arith
      of_one (Some line) = omega arith

  stands : (w : Waiter) (line : WaitList) → 1 ≤ often w line → 1 ≤ times_in w who
  stands w Sends h = let all = in_all w in omega (arith, all, h)
  stands w line h = let all = in_all w in omega (arith, all, h)

  -- ---- the keys

  has : (w : Waiter) (key : Key) → held_of b.name_table w ≡ Some key → (line : WaitList) × Has line key w
  has w key e = by (pends b.name_table w key e)
    where
      by : Pends (status b.name_table w) key → (line : WaitList) × Has line key w
      by (inl bad) = absurd (owned.none_amiss w bad)
      by (inr h) = h

  keys_fit : KeysFit kind (held_of b.name_table) who
  keys_fit = record { holds = holds; apart = apart }
    where
      holds : (w : Waiter) (key : Key) → held_of b.name_table w ≡ Some key → 1 ≤ times_in w who
      holds w key e = let h = has w key e in stands w h.0 (there w h.0 key h.1)

      on_its_line : (line : WaitList) (w : Waiter) (key : Key) → kind w ≡ Some line → held_of b.name_table w ≡ Some key → Has line key w
      on_its_line line w key k e =
          let h = has w key e in
          let same : Some h.0 ≡ Some line = sym (of_its_line h.0 key w h.1) ∙ k in
          let is : h.0 ≡ line = ap (λ (o : Option WaitList). elim o [ None ↦ line | Some l ↦ l ]) same in
          subst (λ (l : WaitList). Has l key w) is h.1

      apart : (line : WaitList) (v w : Waiter) (key : Key) → kind v ≡ Some line → kind w ≡ Some line → held_of b.name_table v ≡ Some key
          → held_of b.name_table w ≡ Some key → v ≡ w
      apart line v w key k l e f = one_name line key v w (on_its_line line v key k e) (on_its_line line w key l f)

  shows : Refines (held_of b.name_table) s.now state
  shows = record {
    messages = refl;
    closed = refl;
    capacity = refl;
    senders = refl;
    receivers = refl;
    lines = shows_lines;
    keys = keys_fit;
  }

  -- ---- nobody is asleep

  abbrev many : ℕ
  many = length s.now.queue.items

  told_many : (line : WaitList) → length (told line) ≤ count_of kind line who.woken
  told_many line =
      let names : length (D line) ≡ length (told line) =
      stand_length (Has line) (keys_of (told line)) (D line) (told_names line).1 ∙ all_keys (told line) in
      let fewer : length (D line) ≤ count_of kind line who.woken = no_longer (D line) (of_line kind line who.woken) (λ w. once_told w line)
      (λ w i. omega (arith, told_are line w, among_counts w (D line) i)) in
      omega (arith, names, fewer)

  nobody_or : (line : WaitList) → (U line ≡ []) ⊎ ((key : Key) × Waits line key s.now)
  nobody_or line = some_waits (Has line) (waiting line) (U line) (waiting_names line).1

  owed : {X : Type 0} (P : ActiveCall T Waiter → Type 0) → X ⊎ Any P [] → X
  owed P (inl h) = h
  owed P (inr h) = absurd h

  receives_owed : (key : Key) → Waits Receives key s.now → MessagesAreFew s.now 0
  receives_owed key i =
      owed (λ u. HoldsListener Receives key u.at)
      (subst (λ (us : List (ActiveCall T Waiter)). MessagesAreFew s.now (total counts_for_receives us) ⊎ Any
      (λ u. HoldsListener Receives key u.at) us) rest (sound.receives.owed key i))

  sends_owed : (key : Key) → Waits Sends key s.now → PlacesAreFew s.now 0
  sends_owed key i =
      owed (λ u. HoldsListener Sends key u.at)
      (subst (λ (us : List (ActiveCall T Waiter)). PlacesAreFew s.now (total counts_for_sends us) ⊎ Any
      (λ u. HoldsListener Sends key u.at) us) rest (sound.sends.owed key i))

  streams_owed : (key : Key) → Waits Streams key s.now → s.now.queue.items ≡ []
  streams_owed key i =
      owed (AnswersFor key)
      (subst (λ (us : List (ActiveCall T Waiter)). (s.now.queue.items ≡ []) ⊎ Any (AnswersFor key) us) rest
      (sound.streams.owed key i))

  closing_owed : (line : WaitList) (key : Key) → Shut s.now → Waits line key s.now → ⊥
  closing_owed line key shut i =
      subst (λ (us : List (ActiveCall T Waiter)). Any (AnswersClosed line key) us) rest (sound.closing.owed line key shut i)

  receives_awake : Enough kind Receives many who
  receives_awake = by (nobody_or Receives)
    where
      by : (U Receives ≡ []) ⊎ ((key : Key) × Waits Receives key s.now) → Enough kind Receives many who
      by (inl none) = inl (untold_are Receives ∙ none)
      by (inr some) =
          let few : many ≤ length (told Receives) + 0 = receives_owed some.0 some.1 in
          let woken = told_many Receives in
          inr (omega (arith, few, woken))

  sends_awake : s.now.queue.closed ≡ false → Enough kind Sends (free_places s.now.queue.capacity many) who
  sends_awake opened = by (nobody_or Sends)
    where
      enough : PlacesAreFew s.now 0 → free_places s.now.queue.capacity many ≤ length (told Sends)
      enough (inl shut) = absurd (let never : true ≡ false = sym shut ∙ opened in cc)
      enough (inr few) = fits s.now.queue.capacity many (length (told Sends)) few

      by : (U Sends ≡ []) ⊎ ((key : Key) × Waits Sends key s.now)
          → Enough kind Sends (free_places s.now.queue.capacity many) who
      by (inl none) = inl (untold_are Sends ∙ none)
      by (inr some) =
          let few = enough (sends_owed some.0 some.1) in
          let woken = told_many Sends in
          inr (omega (arith, few, woken))

  unbounded : s.now.queue.capacity ≡ None → who.sends ≡ []
  unbounded bare = untold_are Sends ∙ by (nobody_or Sends)
    where
      never_owed : (key : Key) → Waits Sends key s.now → PlacesAreFew s.now 0 → ⊥
      never_owed key i (inl shut) = closing_owed Sends key shut i
      never_owed key i (inr few) = subst (λ (c : Option ℕ). HasPlaces c (many + length (told Sends) + 0)) bare few

      by : (U Sends ≡ []) ⊎ ((key : Key) × Waits Sends key s.now) → U Sends ≡ []
      by (inl none) = none
      by (inr some) = absurd (never_owed some.0 some.1 (sends_owed some.0 some.1))

  streams_awake : (who.streams ≡ []) ⊎ (many ≡ 0)
  streams_awake = by (nobody_or Streams)
    where
      by : (U Streams ≡ []) ⊎ ((key : Key) × Waits Streams key s.now) → (who.streams ≡ []) ⊎ (many ≡ 0)
      by (inl none) = inl (untold_are Streams ∙ none)
      by (inr some) = inr (ap (λ (ms : List T). length ms) (streams_owed some.0 some.1))

  opened : s.now.queue.closed ≡ true → (line : WaitList) → untold line who ≡ []
  opened shut line = untold_are line ∙ by (nobody_or line)
    where
      by : (U line ≡ []) ⊎ ((key : Key) × Waits line key s.now) → U line ≡ []
      by (inl none) = none
      by (inr some) = absurd (closing_owed line some.0 shut some.1)

  placed : Placed kind who
  placed = record { lines = lines; wakes = wakes; once = at_most_once }
    where
      lines : (line : WaitList) (w : Waiter) → is_among w (untold line who) ≡ true → kind w ≡ Some line
      lines line w i =
          stand_kind (Has line) kind line (of_its_line line) (keys_of (waiting line)) (U line) w (waiting_names line).1
          (ap (λ (ws : List Waiter). is_among w ws) (sym (untold_are line)) ∙ i)

  awake : AwakeIn state
  awake = record {
    placed = placed;
    receives = receives_awake;
    sends = sends_awake;
    unbounded = unbounded;
    streams =
        streams_awake;
    opened = opened;
  }

  pub at_rest : IsWorld b s
  at_rest = record {
    shows = shows;
    awake = awake;
    calls = λ c o fine alone. calls_over T c (held_of b.name_table) s.now state o fine shows awake alone;
  }

pub rest_is_a_world : (T : Type 0) → RestIsAWorld T
rest_is_a_world T b s kept rest = at_rest b s kept rest
