-- A poll that finds nothing: it stays where it waits, or comes to wait, or was not let listen.
use Rattle.std.specs.Prelude.{◌≡◌, if◌then◌else◌}
use Rattle.channel_world_runs.proofs.Lemmas.{List, [], Bool, true, false, not, Option, None, Some, is_some, refl, sym, ap, subst, ◌∙◌, set_value_same, Key, Listeners, WaitLists, listeners, with_listeners, Waiting, same_waiter, is_among, untold, gone, standing, Kind, Placed, Waiter, WaitList, Sends, same_sound, placed_gone, KeysHeld, with_held, ShowsLines, KeysFit, list_of, kind_of, told_as, waits_as, same_key, listened, registration, with_task, Notice, unlisted, among_of_line, among_its_line, OnlyHolder, told_found, told_missed, untold_found, replaced, Nowhere, gone_nowhere, nowhere_gone, keyless_nowhere, rekeyed_lines, keys_gone}
use Rattle.channel_calls.specs.Parts.{waits}
use Rattle.channel_world_runs.specs.refinement.Refines.{of_line}
use Rattle.channel_world_runs.proofs.refinement.Departing.{same_senders, same_receivers}
use Rattle.channel_world_runs.proofs.refinement.Leaving.{StreamsAreStreams, own_gone, other_gone}
use Rattle.channel_world_runs.proofs.refinement.Listening.{second_of, joins_keys, joins_lines, joins_wait_lists, joined, at_last}

-- ---- keys held

if_twice : (b : Bool) (x y z : Option Key) → (if b then x else (if b then y else z)) ≡ (if b then x else z)
if_twice true x y z = refl
if_twice false x y z = refl

pub held_twice : (w : Waiter) (x y : Option Key) (held : KeysHeld) → with_held w x (with_held w y held) ≡ with_held w x held
held_twice w x y held = λ i v. if_twice (same_waiter w v) x y (held v) i

if_same : (b : Bool) (x z : Option Key) → (b ≡ true → x ≡ z) → (if b then x else z) ≡ z
if_same true x z h = h refl
if_same false x z h = refl

pub held_same : (w : Waiter) (x : Option Key) (held : KeysHeld) → held w ≡ x → with_held w x held ≡ held
held_same w x held e = λ i v. if_same (same_waiter w v) x (held v) (λ t. sym e ∙ ap (λ (u : Waiter). held u) (same_sound w v t)) i

same_list : (line : WaitList) (a : WaitLists Waiter) → with_listeners (list_of line) (listeners (list_of line) a) a ≡ a
same_list Sends a = refl
same_list line a = refl

-- the wait lists b that show m after the wait lists a, with w holding this key
pub record Waited (kind : Kind) (held : KeysHeld) (closed : Bool) (w : Waiter) (a b : WaitLists Waiter) (key : Option Key) (m : Waiting) : Type 0 where
  pub senders : b.senders ≡ a.senders
  pub receivers : b.receivers ≡ a.receivers
  pub lines : ShowsLines kind (with_held w key held) closed b m
  pub keys : KeysFit kind (with_held w key held) m

-- ---- what a list says of a key

waits_by : (told waiting : Bool) → told ≡ false → waiting ≡ true → (elim (if told then Some true else (if waiting then Some false else None)) [ Some b ↦ not b | None ↦ false ]) ≡ true
waits_by told waiting e f = rw (e, f) refl

told_by : (told waiting : Bool) → told ≡ true → (elim (if told then Some true else (if waiting then Some false else None)) [ Some b ↦ not b | None ↦ false ]) ≡ false
told_by told waiting e = rw e refl

first_of : (told waiting : Bool) (p q r : Listeners Waiter) → told ≡ true → (if told then p else (if waiting then q else r)) ≡ p
first_of told waiting p q r e = rw e refl

module _ (kind : Kind) (held : KeysHeld) (closed : Bool) (streams : StreamsAreStreams kind) (line : WaitList) (w : Waiter) (k : kind w ≡ Some line) (l : Waiting) (placed : Placed kind l) (keys : KeysFit kind held l)
    (shut : closed ≡ true → (line : WaitList) → untold line l ≡ []) (a : WaitLists Waiter) (h : ShowsLines kind held closed a l) where
  -- ---- one that stands nowhere

  -- where it held nothing
  pub away_unheld : held w ≡ None → Waited kind held closed w a a None (gone w l)
  away_unheld e =
      let n : Nowhere w l = keyless_nowhere kind held closed a l line w k e placed h in
      record {
        senders = refl;
        receivers = refl;
        lines = subst (λ (m : Waiting). ShowsLines kind (with_held w None held) closed a m) (sym (gone_nowhere w l n)) (rekeyed_lines kind held closed a l w None n h);
        keys = keys_gone kind held w l keys;
      }

  -- where it was told, and that was used up
  pub away_told : (key : Key) → held w ≡ Some key → is_among w l.woken ≡ true
      → (waits key (listeners (list_of line) a) ≡ false) × Waited kind held closed w a (with_listeners (list_of line) (registration key w (listeners (list_of line) a)) a) None (gone w l)
  away_told key e t =
      let x : Listeners Waiter = listeners (list_of line) a in
      let only : OnlyHolder held key w (of_line kind line l.woken) = λ v f g. keys.apart line v w key (among_of_line kind line v l.woken f).1 k g e in
      let found = told_found held key w e closed line x.told (of_line kind line l.woken) only (h line).told (among_its_line kind line w l.woken k ∙ t) in
      let told : is_some (told_as x key) ≡ true = ap (λ (o : Option (Notice (Unit {0}))). is_some o) found.1 in
      let used : registration key w x ≡ unlisted key x = first_of (is_some (told_as x key)) (is_some (waits_as x key)) _ _ _ told in
      let shown : ShowsLines kind held closed (with_listeners (list_of line) (unlisted key x) a) (gone w l) =
      replaced kind held closed line (unlisted key x) a (gone w l) (own_gone kind held closed streams a l line w key k e placed keys shut h)
      (λ other off. other_gone kind held closed streams a l line w key k e placed keys shut h other off) in (
        told_by (is_some (told_as x key)) (is_some (waits_as x key)) told,
        record {
          senders = same_senders line (registration key w x) a;
          receivers = same_receivers line (registration key w x) a;
          lines = rekeyed_lines kind held closed _ (gone w l) w None (nowhere_gone w l)
              (subst (λ (y : Listeners Waiter). ShowsLines kind held closed (with_listeners (list_of line) y a) (gone w l)) (sym used) shown);
          keys = keys_gone kind held w l keys;
        },
      )

  -- ---- one that stays

  pub stays : (key : Key) → held w ≡ Some key → is_among w l.woken ≡ false → is_among w (untold line l) ≡ true
      → (waits key (listeners (list_of line) a) ≡ true) × Waited kind held closed w a (with_listeners (list_of line) (registration key w (listeners (list_of line) a)) a) (Some key) (standing line w l)
  stays key e t u =
      let x : Listeners Waiter = listeners (list_of line) a in
      let only_told : OnlyHolder held key w (of_line kind line l.woken) = λ v f g. keys.apart line v w key (among_of_line kind line v l.woken f).1 k g e in
      let only : OnlyHolder held key w (untold line l) = λ v f g. keys.apart line v w key (placed.lines line v f) k g e in
      let missed = told_missed held key w e closed line x.told (of_line kind line l.woken) only_told (h line).told (among_its_line kind line w l.woken k ∙ t) in
      let found = untold_found held key w e x.waiting (untold line l) only (h line).untold u in
      let untold_is : is_some (told_as x key) ≡ false = ap (λ (o : Option (Notice (Unit {0}))). is_some o) missed in
      let waits_is : is_some (waits_as x key) ≡ true = ap (λ (o : Option (Option Waiter)). is_some o) found in
      let same_task : with_task key w x ≡ x =
      ap (λ (es : List (Key × Option Waiter)). let y : Listeners Waiter = record { told = x.told; waiting = es } in y) (set_value_same (same_key key) x.waiting (Some w) found) in
      let same : registration key w x ≡ x = second_of (is_some (told_as x key)) (is_some (waits_as x key)) _ _ _ untold_is waits_is ∙ same_task in
      let wait_lists : with_listeners (list_of line) (registration key w x) a ≡ a = ap (λ (y : Listeners Waiter). with_listeners (list_of line) y a) same ∙ same_list line a in
      let stood : standing line w l ≡ l = rw u refl in (
        waits_by (is_some (told_as x key)) (is_some (waits_as x key)) untold_is waits_is,
        record {
          senders = same_senders line (registration key w x) a;
          receivers = same_receivers line (registration key w x) a;
          lines =
              subst (λ (m : Waiting). ShowsLines kind (with_held w (Some key) held) closed (with_listeners (list_of line) (registration key w x) a) m) (sym stood)
              (subst (λ (b : WaitLists Waiter). ShowsLines kind (with_held w (Some key) held) closed b l) (sym wait_lists) (subst (λ (g : KeysHeld). ShowsLines kind g closed a l) (sym (held_same w (Some key) held e)) h));
          keys = subst (λ (m : Waiting). KeysFit kind (with_held w (Some key) held) m) (sym stood) (subst (λ (g : KeysHeld). KeysFit kind g l) (sym (held_same w (Some key) held e)) keys);
        },
      )

  -- ---- one that comes

  pub comes : (b : WaitLists Waiter) (key : Key) → is_among w (untold line l) ≡ false → kind_of (listeners (list_of line) b) key ≡ None → Waited kind held closed w a b None (gone w l)
      → (d : WaitLists Waiter) → d ≡ with_listeners (list_of line) (joined key w (listeners (list_of line) b)) b → Waited kind held closed w a d (Some key) (standing line w l)
  comes b key u none g d e =
      let here = joins_lines kind (with_held w None held) closed b (gone w l) line w key k (placed_gone kind w l placed) g.keys (nowhere_gone w l) none g.lines in
      let fit = joins_keys kind (with_held w None held) closed b (gone w l) line w key k (placed_gone kind w l placed) g.keys (nowhere_gone w l) none g.lines in
      let stood : standing line w l ≡ at_last line w (gone w l) = rw u refl in
      let lines : ShowsLines kind (with_held w (Some key) held) closed d (at_last line w (gone w l)) =
      subst (λ (r : WaitLists Waiter). ShowsLines kind (with_held w (Some key) held) closed r (at_last line w (gone w l))) (sym e)
      (subst (λ (f : KeysHeld). ShowsLines kind f closed (with_listeners (list_of line) (joined key w (listeners (list_of line) b)) b) (at_last line w (gone w l))) (held_twice w (Some key) None held) here) in
      let keyed : KeysFit kind (with_held w (Some key) held) (at_last line w (gone w l)) = subst (λ (f : KeysHeld). KeysFit kind f (at_last line w (gone w l))) (held_twice w (Some key) None held) fit in
      record {
        senders = ap (λ (r : WaitLists Waiter). r.senders) e ∙ same_senders line (joined key w (listeners (list_of line) b)) b ∙ g.senders;
        receivers = ap (λ (r : WaitLists Waiter). r.receivers) e ∙ same_receivers line (joined key w (listeners (list_of line) b)) b ∙ g.receivers;
        lines = subst (λ (m : Waiting). ShowsLines kind (with_held w (Some key) held) closed d m) (sym stood) lines;
        keys = subst (λ (m : Waiting). KeysFit kind (with_held w (Some key) held) m) (sym stood) keyed;
      }

  -- by listening and registering
  pub listens_so : (b : WaitLists Waiter) (key : Key) → is_among w (untold line l) ≡ false → kind_of (listeners (list_of line) b) key ≡ None → Waited kind held closed w a b None (gone w l)
      → Waited kind held closed w a
      (with_listeners (list_of line) (registration key w (listeners (list_of line) (with_listeners (list_of line) (listened key (listeners (list_of line) b)) b))) (with_listeners (list_of line) (listened key (listeners (list_of line) b)) b))
      (Some key) (standing line w l)
  listens_so b key u none g =
      comes b key u none g _
      (joins_wait_lists kind (with_held w None held) closed b (gone w l) line w key k (placed_gone kind w l placed) g.keys (nowhere_gone w l) none g.lines (with_listeners (list_of line) (listened key (listeners (list_of line) b)) b) refl)
