-- Sections are calls of `List`, one after another.
use Rattle.std.proofs.Common.{◌≡◌, Bool, true, false, List, [], ◌∷◌, ◌++◌, Option, Some, None, Result, Ok, Err, is_some, if◌then◌else◌, refl, ap, subst, ◌∙◌}
use Rattle.event_listener.specs.declared.key.Key.{Key}
use Rattle.event_listener.specs.declared.error.UnknownListener.{UnknownListener}
use Rattle.event_listener.specs.declared.run.ListCall.{ListCall}
use Rattle.event_listener.specs.declared.run.ListReply.{ListReply}
use Rattle.event_listener.specs.declared.waking.Task.{Task}
use Rattle.event_listener.specs.Lists.{ListView, Notice, told_as, waits_as, register_answer, poll_answer, remove_answer}
use Rattle.event_listener.specs.Runs.{Makes as MakesInRun, Runs}
use Rattle.event_listener.specs.SectionRuns.{Run, Calls, IsMade, AreMade, IsSpelled, AreSpelled, RunsAreCalls, tag_asked, was_told}
use Rattle.event_listener.specs.Sections.{Section, Call, Makes, OnList, Looks, wakes_at_once, inserts, registers, asks, takes_off, tells, listens, polls, arms, parks, looks, leaves, removes, notifies, counts_told, counts_all}

told_so : (told waits : Bool)
    → told ≡ was_told (elim (if told then Some true else (if waits then Some false else None)) as (λ _. Result Bool UnknownListener) [ Some b ↦ Ok b | None ↦ Err (record {}) ])
told_so true waits = refl
told_so false true = refl
told_so false false = refl

module _ {T : Type 0} where
  asked_so : (found : Option (Notice T)) (waits : Bool)
      → elim found as (λ _. Option T) [ Some notice ↦ Some notice.tag | None ↦ None ]
      ≡ tag_asked (elim found as (λ _. Result (Option T) UnknownListener) [ Some notice ↦ Ok (Some notice.tag) | None ↦ (if waits then Ok None else Err (record {})) ])
  asked_so (Some notice) waits = refl
  asked_so None true = refl
  asked_so None false = refl

  tag_so : (found : Option (Notice T)) → is_some (elim found as (λ _. Option T) [ Some notice ↦ Some notice.tag | None ↦ None ]) ≡ is_some found
  tag_so (Some notice) = refl
  tag_so None = refl

  -- the calls of a section
  record Made (section : Section T) (before after : ListView T Task) : Type 0 where
    calls : List (Call T)
    is_made : IsMade section calls
    made : Calls calls before after

  polled_so : (key : Key) (tag : Option T) (before after : ListView T Task) → Looks key tag before after
      → (calls : List (Call T)) × ((answer : Result (Option T) UnknownListener) × (calls ≡ asks key answer ∷ []) × (tag ≡ tag_asked answer)) × Calls calls before after
  polled_so key tag before after d =
      let answer = poll_answer key before.lists in (
        asks key answer ∷ [],
        (answer, refl, d.0 ∙ asked_so (told_as before.lists key) (is_some (waits_as before.lists key))),
        (after, d.1, refl),
      )

  made_by : (section : Section T) (before after : ListView T Task) → OnList section before after → Made section before after
  made_by (listens cell (Ok key)) before after (between, task, added, wakes, registered) = record {
    calls = inserts (Ok key) ∷ registers key task (register_answer key between.lists) ∷ [];
    is_made = (task, wakes, register_answer key between.lists, refl);
    made = (between, added, (after, registered, refl));
  }
  made_by (listens cell (Err error)) before after d = record { calls = inserts (Err error) ∷ []; is_made = refl; made = (after, d, refl) }
  made_by (polls key cell waker tag) before after d = let p = polled_so key tag before after d in record { calls = p.0; is_made = p.1; made = p.2 }
  made_by (arms key cell tag) before after d = let p = polled_so key tag before after d in record { calls = p.0; is_made = p.1; made = p.2 }
  made_by (parks key parker tag) before after (tagged, task, wakes, d) = record {
    calls = registers key task (register_answer key before.lists) ∷ [];
    is_made = (task, wakes, register_answer key before.lists, refl, tagged);
    made = (after, d, refl);
  }
  made_by (looks key parker tag) before after d = let p = polled_so key tag before after d in record { calls = p.0; is_made = p.1; made = p.2 }
  made_by (leaves key timeout tag) before after (tagged, d) =
      let told = told_as before.lists key in
      record {
        calls = takes_off key false (remove_answer key before.lists) ∷ [];
        is_made = (remove_answer key before.lists, refl, ap (λ t. is_some t) tagged ∙ tag_so told ∙ told_so (is_some told) (is_some (waits_as before.lists key)));
        made = (after, d, refl);
      }
  made_by (removes key pass_on told) before after (answered, d) = record {
    calls = takes_off key pass_on (remove_answer key before.lists) ∷ [];
    is_made = (remove_answer key before.lists, refl, answered ∙ told_so (is_some (told_as before.lists key)) (is_some (waits_as before.lists key)));
    made = (after, d, refl);
  }
  made_by (notifies additional size tags result) before after (answered, d) =
      record { calls = tells additional size tags result ∷ []; is_made = refl; made = (after, d, refl) }
  made_by (counts_told told) before after d = record { calls = []; is_made = refl; made = d.1 }
  made_by (counts_all all) before after d = record { calls = []; is_made = refl; made = d.1 }

  joined : (first rest : List (Call T)) (before between after : ListView T Task) → Calls first before between → Calls rest between after → Calls (first ++ rest) before after
  joined [] rest before between after a b = subst (λ (view : ListView T Task). Calls rest view after) a b
  joined (call ∷ first) rest before between after (mid, made, more) b = (mid, made, joined first rest mid between after more b)

  all_made : (sections : List (Section T)) (before after : ListView T Task) → Run sections before after
      → (calls : List (Call T)) × AreMade sections calls × Calls calls before after
  all_made [] before after run = ([], refl, run)
  all_made (section ∷ sections) before after (between, d, run) =
      let one = made_by section before between d in
      let more = all_made sections between after run in
      (one.calls ++ more.0, (one.calls, more.0, refl, one.is_made, more.1), joined one.calls more.0 before between after one.made more.2)

  -- whatever was replied before
  step : (call : Call T) (c : ListCall T Task) (r : ListReply T) (done : List (ListReply T)) (before after : ListView T Task)
      → IsSpelled call c r → Makes call before after → MakesInRun wakes_at_once done c r before tt after tt
  step (inserts result) c r done before after s made = rw (s.0, s.1) (result, refl, made, refl)
  step (registers key task answer) c r done before after s made = rw (s.0, s.1) made
  step (asks key answer) c r done before after s made = rw (s.0, s.1) made
  step (takes_off key pass_on answer) c r done before after s made = rw (s.0, s.1) made
  step (tells additional size tags result) c r done before after (handed, items, s, t) made = rw (s, t, items) made

  run_of : (calls : List (Call T)) (cs : List (ListCall T Task)) (rs : List (ListReply T)) (done : List (ListReply T)) (before after : ListView T Task)
      → AreSpelled calls cs rs → Calls calls before after → Runs wakes_at_once done cs rs None [] before tt after tt
  run_of [] [] [] done before after s made = (refl, refl, made, refl)
  run_of [] [] (r ∷ rs) done before after s made = absurd s
  run_of [] (c ∷ cs) rs done before after s made = absurd s
  run_of (call ∷ calls) [] rs done before after s made = absurd s
  run_of (call ∷ calls) (c ∷ cs) [] done before after s made = absurd s
  run_of (call ∷ calls) (c ∷ cs) (r ∷ rs) done before after s (between, made, more) =
      (between, tt, step call c r done before between s.0 made, run_of calls cs rs (done ++ r ∷ []) between after s.1 more)

pub runs_are_calls : {T : Type 0} → RunsAreCalls T
runs_are_calls sections before after run =
    let found = all_made sections before after run in
    (found.0, found.1, found.2, λ cs rs spelled. run_of found.0 cs rs [] before after spelled found.2)
