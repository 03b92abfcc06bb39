-- Sections on one list, in the one order that its lock gives.
use Rattle.std.specs.Prelude.{◌≡◌, Bool, false, List, [], ◌∷◌, ◌++◌, Option, None, is_some, Result, Ok, Err}
use Rattle.event_listener.specs.Lists.{ListView}
use Rattle.event_listener.specs.Order.{IsInOrder}
use Rattle.event_listener.specs.Runs.{Runs}
use Rattle.event_listener.specs.Sections.{Section, Call, Makes, OnList, WakesCell, WakesParker, tag_given, wakes_at_once, inserts, registers, asks, takes_off, tells, listens, polls, arms, parks, looks, leaves, removes, notifies, counts_told, counts_all}
use Rattle.event_listener.specs.declared.calls.Registered.{Registered}
use Rattle.event_listener.specs.declared.error.UnknownListener.{UnknownListener}
use Rattle.event_listener.specs.declared.key.Key.{Key}
use Rattle.event_listener.specs.declared.run.ListCall.{ListCall}
use Rattle.event_listener.specs.declared.run.ListCall.TheVariants as call
use Rattle.event_listener.specs.declared.run.ListReply.{ListReply}
use Rattle.event_listener.specs.declared.run.ListReply.TheVariants as reply
use Rattle.event_listener.specs.declared.run.Target.TheVariants as target
use Rattle.event_listener.specs.declared.waking.Task.{Task}

-- the tag that a poll gives
abbrev pub tag_asked : {T : Type 0} → Result (Option T) UnknownListener → Option T
tag_asked (Ok tag) = tag
tag_asked (Err error) = None

-- whether a removal found the listener told
abbrev pub was_told : Result Bool UnknownListener → Bool
was_told (Ok told) = told
was_told (Err error) = false

module _ {T : Type 0} where
  -- these sections, one after another, lead from the one list to the other, each by its calls of `List` and with its own answer
  abbrev pub Run : List (Section T) → ListView T Task → ListView T Task → Type 0
  Run [] before after = after ≡ before
  Run (section ∷ sections) before after = (between : ListView T Task) × OnList section before between × Run sections between after

  -- these calls of `List`, one after another, do
  abbrev pub Calls : List (Call T) → ListView T Task → ListView T Task → Type 0
  Calls [] before after = after ≡ before
  Calls (call ∷ calls) before after = (between : ListView T Task) × Makes call before between × Calls calls between after

  -- a section that looks at a listener polls it, and has its tag
  abbrev Asks : Key → Option T → List (Call T) → Type 0
  Asks key tag calls = (answer : Result (Option T) UnknownListener) × (calls ≡ asks key answer ∷ []) × (tag ≡ tag_asked answer)

  -- the calls that a section makes, whose answers give its own
  abbrev pub IsMade : Section T → List (Call T) → Type 0
  IsMade (listens cell (Ok key)) calls =
      (task : Task) × WakesCell cell task × (answer : Result (Registered T) UnknownListener) × (calls ≡ inserts (Ok key) ∷ registers key task answer ∷ [])
  IsMade (listens cell (Err error)) calls = calls ≡ inserts (Err error) ∷ []
  IsMade (polls key cell waker tag) calls = Asks key tag calls
  IsMade (arms key cell tag) calls = Asks key tag calls
  IsMade (parks key parker tag) calls =
      (task : Task) × WakesParker parker task × (answer : Result (Registered T) UnknownListener) × (calls ≡ registers key task answer ∷ []) × (tag ≡ tag_given answer)
  IsMade (looks key parker tag) calls = Asks key tag calls
  IsMade (leaves key timeout tag) calls =
      (answer : Result Bool UnknownListener) × (calls ≡ takes_off key false answer ∷ []) × (is_some tag ≡ was_told answer)
  IsMade (removes key pass_on told) calls =
      (answer : Result Bool UnknownListener) × (calls ≡ takes_off key pass_on answer ∷ []) × (told ≡ was_told answer)
  IsMade (notifies additional size tags result) calls = calls ≡ tells additional size tags result ∷ []
  IsMade (counts_told told) calls = calls ≡ []
  IsMade (counts_all all) calls = calls ≡ []

  abbrev pub AreMade : List (Section T) → List (Call T) → Type 0
  AreMade [] calls = calls ≡ []
  AreMade (section ∷ sections) calls =
      (first : List (Call T)) × (rest : List (Call T)) × (calls ≡ first ++ rest) × IsMade section first × AreMade sections rest

  -- this is the call, and its reply, as `List::run` takes and gives them
  abbrev pub IsSpelled : Call T → ListCall T Task → ListReply T → Type 0
  IsSpelled (inserts result) c r = (c ≡ call.Insert) × (r ≡ reply.Insert result)
  IsSpelled (registers key task answer) c r = (c ≡ call.Register (target.Key key) task) × (r ≡ reply.Register answer)
  IsSpelled (asks key answer) c r = (c ≡ call.Poll (target.Key key)) × (r ≡ reply.Poll answer)
  IsSpelled (takes_off key pass_on answer) c r = (c ≡ call.Remove (target.Key key) pass_on) × (r ≡ reply.Remove answer)
  IsSpelled (tells additional size tags result) c r =
      (handed : _) × (handed.items ≡ tags) × (c ≡ call.Notify size additional handed) × (r ≡ reply.Notify result)

  abbrev pub AreSpelled : List (Call T) → List (ListCall T Task) → List (ListReply T) → Type 0
  AreSpelled [] [] [] = Unit {0}
  AreSpelled (call ∷ calls) (c ∷ cs) (r ∷ rs) = IsSpelled call c r × AreSpelled calls cs rs
  AreSpelled calls cs rs = ⊥

-- The sections of one event, in the one order that its lock gives, are calls of `List` one after another, and so a run of `List::run`, whose
-- replies give their answers.
abbrev pub RunsAreCalls : Type 0 → Type 0
RunsAreCalls T =
    (sections : List (Section T)) (before : ListView T Task) (after : ListView T Task) → Run sections before after
    → (calls : List (Call T)) × AreMade sections calls × Calls calls before after
    × ((cs : List (ListCall T Task)) (rs : List (ListReply T)) → AreSpelled calls cs rs → Runs wakes_at_once [] cs rs None [] before tt after tt)

-- After any sections the told listeners are the first in the order of listening, both lists keep that order, and no key stands twice.
abbrev pub RunsKeepTheOrder : Type 0 → Type 0
RunsKeepTheOrder T =
    (sections : List (Section T)) (before : ListView T Task) (after : ListView T Task)
    → IsInOrder before.lists before.serials → Run sections before after → IsInOrder after.lists after.serials
