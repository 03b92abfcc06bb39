-- Two waits for the closing that one closing tells, merged; with one task, and two names.
use Rattle.std.proofs.Common.{◌≡◌, ℕ, ◌==◌, Bool, true, false, List, [], ◌∷◌, None, Some, Ok, inl, refl, subst}
use Rattle.concurrent_queue.specs.declared.call.QueueAsk.TheVariants as ask
use Rattle.concurrent_queue.specs.declared.call.QueueMark.TheVariants as queue_mark
use Rattle.concurrent_queue.specs.declared.call.QueueReply.TheVariants as queue_reply
use Rattle.channel_steps.proofs.every_run.Words.{Bounded, QueueAsk, QueueMark, Asked, Single, QueueCall, Key, Pending, Parts, Listeners, new_wait_lists, with_listeners, leaving, nothing_kept, Sends, Receives, Streams, Closings, Trying, Working, Finished, TellAll, Insert, Register, State, set_state, finishes, loaded, bits_set, Acts, own, opened_parts, InOneOrder, WakesFor, task_of, first_key, second_key, waits_once, one_close, two_are_told, parts_of_two, pends_on, has_closed, given_to_three, TwoWaitsMerge, OneTaskHasTwoNames}
use Rattle.concurrent_queue.specs.declared.single.SingleAction.TheVariants as slot
use Rattle.concurrent_queue.proofs.Callers.{is_same}
use Rattle.concurrent_queue.proofs.FitsFacts.{starts}
use Rattle.channel_calls.specs.declared.mark.Mark.TheVariants as mark
use Rattle.channel_calls.specs.declared.reply.Reply.TheVariants as reply
use Rattle.channel_calls.specs.declared.stage.Purpose.TheVariants as purpose
use Rattle.channel_calls.specs.declared.stage.Closer.TheVariants as closer
use Rattle.channel_calls.specs.declared.stage.Waiting.TheVariants as waiting

module _ {T : Type 0} where
  abbrev new_call : QueueAsk T → QueueCall T
  new_call a = record { state = Asked a; mark = queue_mark.Nothing }

  abbrev over : QueueMark → QueueCall T
  over m = record { state = Single slot.Finished; mark = m }

module _ (T W : Type 0) where
  -- a wait
  polled : (key : Key) (task : W) → Acts {T = T} {W = W} (Bounded 1) None (own 1 (waits_once 1 key task)) (pends_on key)
  polled key task =
      let asking : QueueCall T = new_call ask.IsClosed in
      let begun = starts ask.IsClosed queue_mark.Nothing in (
        Trying asking (purpose.Poll Closings None task),
        (asking, begun, refl, refl, refl),
        (
          mark.Nothing,
          Working (Insert waiting.Closing task),
          None,
          (over queue_mark.Nothing, Some (queue_reply.Flag false), (Some (loaded State 0), (finishes (queue_reply.Flag false), (0, refl, refl), refl), refl), refl, (refl, refl)),
          (
            mark.Nothing,
            Trying asking (purpose.Poll Closings (Some key) task),
            None,
            (Ok key, refl, (refl, (asking, begun, refl, refl, refl))),
            (
              mark.Nothing,
              Working (Register waiting.Closing key task),
              None,
              (over queue_mark.Nothing, Some (queue_reply.Flag false), (Some (loaded State 0), (finishes (queue_reply.Flag false), (0, refl, refl), refl), refl), refl, (refl, refl)),
              (mark.Nothing, Finished (leaving (Some key) None), Some (reply.ClosedPoll Pending), (None, refl, (refl, (refl, refl))), ([], refl, refl)),
            ),
          ),
        ),
      )

  -- the closing
  closed : (woken : List W) → Acts {T = T} {W = W} (Bounded 1) None (own 3 (one_close 3 woken)) has_closed
  closed woken =
      let asking : QueueCall T = new_call ask.Close in (
        Trying asking (purpose.Close closer.Call),
        (asking, starts ask.Close queue_mark.Nothing, refl, refl, refl),
        (
          mark.Close,
          Working (TellAll Sends closer.Call),
          None,
          (
            over queue_mark.Close,
            Some (queue_reply.Close true),
            (Some (bits_set State 4 0), (record { action = slot.Finished; mark = queue_mark.Close; reply = Some (queue_reply.Close true) }, (0, refl, refl), refl), refl),
            refl,
            (refl, refl),
          ),
          (
            mark.Nothing,
            Working (TellAll Receives closer.Call),
            None,
            ([], refl, (refl, (refl, refl))),
            (
              mark.Nothing,
              Working (TellAll Streams closer.Call),
              None,
              ([], refl, (refl, (refl, refl))),
              (
                mark.Nothing,
                Working (TellAll Closings closer.Call),
                None,
                ([], refl, (refl, (refl, refl))),
                (mark.Nothing, Finished nothing_kept, Some (reply.Closed true), (woken, refl, (refl, (refl, refl))), ([], refl, refl)),
              ),
            ),
          ),
        ),
      )

  module _ (one other : W) where
    each : (p : ℕ) (a b c : Bool) → (1 == p) ≡ a → (2 == p) ≡ b → (3 == p) ≡ c → Acts {T = T} {W = W} (Bounded 1) None (own p (two_are_told one other)) (given_to_three p)
    each p true b c e f g = subst (λ (n : ℕ). Acts {T = T} {W = W} (Bounded 1) None (own n (two_are_told one other)) (given_to_three n)) (is_same 1 p e) (polled first_key one)
    each p false true c e f g = subst (λ (n : ℕ). Acts {T = T} {W = W} (Bounded 1) None (own n (two_are_told one other)) (given_to_three n)) (is_same 2 p f) (polled second_key other)
    each p false false true e f g = subst (λ (n : ℕ). Acts {T = T} {W = W} (Bounded 1) None (own n (two_are_told one other)) (given_to_three n)) (is_same 3 p g) (closed (one ∷ other ∷ []))
    each p false false false e f g = rw (e, f, g) refl

    abbrev new : Parts T W
    new = opened_parts (Bounded 1)

    abbrev listening : Listeners W → Parts T W
    listening l = record { cells = new.cells; wait_lists = with_listeners Closings l new_wait_lists }

    abbrev closing : Listeners W → Parts T W
    closing l = record { cells = set_state new.cells 4; wait_lists = with_listeners Closings l new_wait_lists }

    abbrev both_wait : Listeners W
    both_wait = record { told = []; waiting = (first_key, Some one) ∷ (second_key, Some other) ∷ [] }

    in_turn : {S : Type 0} (wakes : S → W → S → Type 0) (sink middle woken : S) → wakes sink one middle → wakes middle other woken
        → InOneOrder {T = T} wakes (two_are_told one other) (new, sink) (parts_of_two, woken)
    in_turn wakes sink middle woken wake wake_other =
        let at : Parts T W → Parts T W × _ = λ p. (p, sink) in
        let came : Parts T W × _ = at (listening (record { told = []; waiting = (first_key, None) ∷ [] })) in
        let waits : Parts T W × _ = at (listening (record { told = []; waiting = (first_key, Some one) ∷ [] })) in
        let both_came : Parts T W × _ = at (listening (record { told = []; waiting = (first_key, Some one) ∷ (second_key, None) ∷ [] })) in
        let all_wait : Parts T W × _ = at (listening both_wait) in
        let shut : Parts T W × _ = at (closing both_wait) in (
          at new,
          refl,
          (
            at new,
            ((refl, refl), refl, refl),
            (
              came,
              ((refl, refl), refl),
              (
                came,
                ((refl, refl), refl, refl),
                (
                  waits,
                  ((refl, refl), refl),
                  (
                    waits,
                    refl,
                    (
                      waits,
                      ((refl, refl), refl, refl),
                      (
                        both_came,
                        ((refl, refl), refl),
                        (
                          both_came,
                          ((refl, refl), refl, refl),
                          (
                            all_wait,
                            ((refl, refl), refl),
                            (
                              all_wait,
                              refl,
                              (
                                shut,
                                ((refl, refl), refl, refl),
                                (shut, ((refl, refl), refl), (shut, ((refl, refl), refl), (shut, ((refl, refl), refl), ((parts_of_two, woken), ((refl, refl), (middle, wake, (woken, wake_other, refl))), refl)))),
                              ),
                            ),
                          ),
                        ),
                      ),
                    ),
                  ),
                ),
              ),
            ),
          ),
        )

pub two_waits_merge : (T W S : Type 0) (wakes : S → W → S → Type 0) → TwoWaitsMerge T W S wakes
two_waits_merge T W S wakes one other sink middle woken wake wake_other =
    (inl refl, λ p. each T W one other p (1 == p) (2 == p) (3 == p) refl refl refl, in_turn T W one other wakes sink middle woken wake wake_other)

pub one_task_has_two_names : (T W V S : Type 0) (wakes : S → W → S → Type 0) → OneTaskHasTwoNames T W V S wakes
one_task_has_two_names T W V S wakes task one other sink middle woken wake wake_other =
    let m = two_waits_merge T (W × V) S (WakesFor task_of wakes) (task, one) (task, other) sink middle woken wake wake_other in (
      record {
        behind = two_are_told (task, one) (task, other);
        events_are = refl;
        asks_are = refl;
        parts = parts_of_two;
        parts_are = refl;
        acts = m.1;
        in_one_order = m.2;
      },
      refl,
    )
