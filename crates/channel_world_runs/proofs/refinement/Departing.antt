-- A call that is over drops the listener that its operation held.
use Rattle.std.specs.Prelude.{◌≡◌, ◌⊎◌}
use Rattle.channel_world_runs.proofs.Lemmas.{false_from_ne_true, arith, List, [], Bool, true, false, Option, None, Some, refl, sym, subst, ◌∙◌, inl, inr, Key, Channel, leaves, Listeners, WaitLists, with_listeners, held_on, Waiting, is_among, is_stream, untold, told_by, after_news, gone, passed_on, Kind, Placed, times_in, Operation, Names, at, line_at, line_of_operation, Waiter, Op, Stream, News, Nothing, WaitList, Sends, Streams, Closings, among_counts, times_news, times_gone_self, KeysHeld, with_held, ShowsLines, KeysFit, list_of, Nowhere, gone_nowhere, kindless_nowhere, keyless_nowhere, nowhere_keyless, times_untold, rekeyed_lines, keys_gone}
use Rattle.channel_world_runs.proofs.refinement.News.{nothing_lines, keys_news}
use Rattle.channel_world_runs.proofs.refinement.Leaving.{StreamsAreStreams, leave_lines, leave_wakes}

pub times_nowhere : (w : Waiter) (l : Waiting) → times_in w l ≡ 0 → Nowhere w l
times_nowhere w l e = record {
  lines = λ line. false_from_ne_true (is_among w (untold line l)) (λ t. omega (arith, e, among_counts w (untold line l) t, times_untold line w l));
  woken = false_from_ne_true (is_among w l.woken) (λ t. omega (arith, e, among_counts w l.woken t));
}

pub nowhere_after : (news : News) (w : Waiter) (l : Waiting) → Nowhere w (after_news news (gone w l))
nowhere_after news w l = times_nowhere w (after_news news (gone w l)) (times_news news w (gone w l) ∙ times_gone_self w l)

pub passes_nothing : (line : WaitList) (w : Waiter) (l : Waiting) → is_among w l.woken ≡ false → passed_on line w l ≡ Nothing
passes_nothing Closings w l e = refl
passes_nothing line w l e = rw e refl

-- of the kinds of names
pub streams_are : {T : Type 0} → (names : Names T) → StreamsAreStreams (line_at names)
streams_are names (Stream r) = (λ e. refl, λ e. refl)
streams_are {T} names (Op op) = (λ e. cc e, λ e. never (at op.0 names.operations) e) where
  never : (o : Option (Operation T)) → line_of_operation o ≡ Some Streams → is_stream (Op op) ≡ true
  never (Some (Operation.Send h (Some m))) e = cc e
  never o e = cc e

pub same_senders : (line : WaitList) (x : Listeners Waiter) (a : WaitLists Waiter) → (with_listeners (list_of line) x a).senders ≡ a.senders
same_senders Sends x a = refl
same_senders line x a = refl

pub same_receivers : (line : WaitList) (x : Listeners Waiter) (a : WaitLists Waiter) → (with_listeners (list_of line) x a).receivers ≡ a.receivers
same_receivers Sends x a = refl
same_receivers line x a = refl

-- the channel d that the leaving of w makes of c, and the names woken by it
pub record Departed {T : Type 0} (kind : Kind) (held : KeysHeld) (closed : Bool) (line : WaitList) (w : Waiter) (l : Waiting) (c d : Channel T Waiter) (names : List Waiter) : Type 0 where
  pub queue : d.queue ≡ c.queue
  pub senders : d.wait_lists.senders ≡ c.wait_lists.senders
  pub receivers : d.wait_lists.receivers ≡ c.wait_lists.receivers
  pub lines : ShowsLines kind (with_held w None held) closed d.wait_lists (after_news (passed_on line w l) (gone w l))
  pub keys : KeysFit kind (with_held w None held) (after_news (passed_on line w l) (gone w l))
  pub wakes : names ≡ told_by (passed_on line w l) (gone w l)

module _ {T : Type 0} (kind : Kind) (held : KeysHeld) (closed : Bool) (streams : StreamsAreStreams kind) (line : WaitList) (w : Waiter) (k : (kind w ≡ Some line) ⊎ (kind w ≡ None)) (l : Waiting)
    (placed : Placed kind l) (keys : KeysFit kind held l) (shut : closed ≡ true → (line : WaitList) → untold line l ≡ []) (c : Channel T Waiter) (h : ShowsLines kind held closed c.wait_lists l) where
  keys_after : KeysFit kind (with_held w None held) (after_news (passed_on line w l) (gone w l))
  keys_after = keys_news kind (with_held w None held) (passed_on line w l) (gone w l) (keys_gone kind held w l keys)

  nowhere_before : held w ≡ None → Nowhere w l
  nowhere_before e = elim k [
    | inl own ↦ keyless_nowhere kind held closed c.wait_lists l line w own e placed h
    | inr none ↦ kindless_nowhere kind w l none placed
  ]

  own_kind : (key : Key) → held w ≡ Some key → kind w ≡ Some line
  own_kind key e = elim k [
    | inl own ↦ own
    | inr none ↦ cc (sym (nowhere_keyless kind held w l (kindless_nowhere kind w l none placed) keys) ∙ e)
  ]

  unheld : (n : Nowhere w l) → ShowsLines kind (with_held w None held) closed c.wait_lists (after_news (passed_on line w l) (gone w l))
  unheld n =
      subst (λ (news : News). ShowsLines kind (with_held w None held) closed c.wait_lists (after_news news (gone w l))) (sym (passes_nothing line w l n.woken))
      (nothing_lines kind (with_held w None held) closed c.wait_lists (gone w l)
      (subst (λ (m : Waiting). ShowsLines kind (with_held w None held) closed c.wait_lists m) (sym (gone_nowhere w l n)) (rekeyed_lines kind held closed c.wait_lists l w None n h)))

  nobody_told : (n : Nowhere w l) → [] ≡ told_by (passed_on line w l) (gone w l)
  nobody_told n = subst (λ (news : News). [] ≡ told_by news (gone w l)) (sym (passes_nothing line w l n.woken)) refl

  pub departed : (o : Option Key) → held w ≡ o → Departed kind held closed line w l c (leaves (held_on (list_of line) o) c).channel (leaves (held_on (list_of line) o) c).woken
  departed None e = record {
    queue = refl;
    senders = refl;
    receivers = refl;
    lines = unheld (nowhere_before e);
    keys = keys_after;
    wakes = nobody_told (nowhere_before e);
  }
  departed (Some key) e = record {
    queue = refl;
    senders = same_senders line _ c.wait_lists;
    receivers = same_receivers line _ c.wait_lists;
    lines = rekeyed_lines kind held closed _ _ w None (nowhere_after (passed_on line w l) w l) (leave_lines kind held closed streams c.wait_lists l line w key (own_kind key e) e placed keys shut h);
    keys = keys_after;
    wakes = leave_wakes kind held closed streams c.wait_lists l line w key (own_kind key e) e placed keys shut h;
  }
