-- What the calls of a list do in a section.
use Rattle.std.proofs.Common.{◌≡◌, ℕ, ◌+◌, ◌*◌, ◌≤◌, Bool, List, [], ◌∷◌, length, Some, None, Result, Ok, Err, IfOk, OnOk, IfErr, OnErr, refl, sym, ap, subst, ◌∙◌, arith}
use Rattle.std.proofs.lemmas.List.{take_all}
use Rattle.event_listener.specs.declared.error.ListenError.{ListenError}
use Rattle.event_listener.specs.declared.error.NoMemory.{NoMemory}
use Rattle.event_listener.specs.declared.error.NotifyError.{NotifyError}
use Rattle.event_listener.specs.declared.key.Key.{Key}
use Rattle.event_listener.specs.declared.run.ListReply.TheVariants as reply
use Rattle.event_listener.specs.declared.waking.Task.{Task}
use Rattle.event_listener.specs.Lists.{ListView, IsListenRefusal, kind_of, listened, listened_with, moved, notified, serial_of, told_by}
use Rattle.event_listener.specs.Notices.{IsAnswer, Woken}
use Rattle.event_listener.specs.Runs.{tags_given, tags_answer}
use Rattle.event_listener.specs.Sections.{OnList, Tells, Makes, WakesCell, listens, tells, wakes_at_once}
use Rattle.event_listener.proofs.LeftLemmas.{registration-listened, told-listened}
use Rattle.event_listener.proofs.RunLemmas.{lt-no, lt-yes}

-- whoever is woken, nothing is said of the sink
pub woken_at_once : (tasks : List Task) → Woken wakes_at_once tt tasks tt
woken_at_once [] = refl
woken_at_once (task ∷ tasks) = (tt, tt, woken_at_once tasks)

module _ {N T : Type 0} (gives : N → Result T NoMemory → N → Type 0) where
  -- a notification answers by how many tags it drew
  pub answers_so : (many : ℕ) (tags : List T) (rest : N) (r : Result ℕ NotifyError) → IsAnswer gives many (length tags) rest r → Tells many tags r
  answers_so many tags rest (Ok told) a = a
  answers_so many tags rest (Err e) a = (a.0, a.1)

module _ {T : Type 0} where
  within : (many : ℕ) (tags : List T) (r : Result ℕ NotifyError) → Tells many tags r → (length tags ≤ many) × (told_by r ≡ length tags)
  within many tags (Ok told) a = (omega (arith, a.1), a.0 ∙ sym a.1)
  within many tags (Err e) a = (omega (arith, a.1), a.0)

  module _ (additional : Bool) (size : ℕ) (before after : ListView T Task) (tags : List T) where
    answer_so : (r : Result ℕ NotifyError) → Tells (moved additional size before.lists) tags r → r ≡ tags_answer additional size tags before.lists
    answer_so (Ok told) a = rw (lt-no (length tags) (moved additional size before.lists) (omega (arith, a.1))) (ap (λ n. Ok n) a.0)
    answer_so (Err e) a = rw (lt-yes (length tags) (moved additional size before.lists) a.1) (ap (λ n. Err (record { told = n })) a.0)

    -- a notification that told by these tags made the call that a run makes with them
    pub tells_so : (r : Result ℕ NotifyError) → Tells (moved additional size before.lists) tags r → after.lists ≡ notified additional tags before.lists
        → after.serials ≡ before.serials → after.room ≡ before.room → after.visits ≤ 5 * told_by r → Makes (tells additional size tags r) before after
    tells_so r a lists serials room visits =
        let w = within (moved additional size before.lists) tags r a in
        let given : tags_given additional size tags before.lists ≡ tags = take_all (moved additional size before.lists) tags w.0 in (
          ap (λ n. reply.Notify n) (answer_so r a),
          record { lists_are = lists ∙ ap (λ ts. notified additional ts before.lists) (sym given); serials_are = serials; room_is = room },
          rw given (subst (λ n. after.visits ≤ 5 * n) w.1 visits),
          woken_at_once _,
        )

  -- a listener that was added with its task was added, and then registered with it; or nobody was added
  pub added_with : (before after : ListView T Task) (task : Task) (cell : ℕ) → WakesCell cell task → (result : Result Key ListenError)
      → IfOk result (λ key. after.lists ≡ listened_with (Some task) key before.lists) → IfOk result (λ key. serial_of key ≡ before.serials)
      → OnOk result (after.serials ≡ before.serials + 1) → IfOk result (λ key. kind_of before.lists key ≡ None) → OnOk result (before.room ≤ after.room + 1)
      → after.visits ≤ 5 → OnErr result (after.lists ≡ before.lists) → OnErr result (after.serials ≡ before.serials) → OnErr result (before.room ≤ after.room)
      → IfErr result (λ e. IsListenRefusal before e) → OnList {T = T} (listens cell result) before after
  added_with before after task cell wakes (Ok key) lists serial serials unknown room visits same same_serials kept why = (
    record after { lists = listened key before.lists },
    task,
    record {
      added = record { lists_are = refl; unknown = unknown; serial_is = serial; serials_are = serials; room_is = room };
      refused = tt;
      visits = visits;
    },
    wakes,
    (
      refl,
      record {
        lists_are = lists ∙ sym (registration-listened before.lists key task unknown);
        serials_are = refl;
        room_is = rw (told-listened before.lists key unknown) refl;
      },
      visits,
      refl,
    ),
  )
  added_with before after task cell wakes (Err error) lists serial serials unknown room visits same same_serials kept why =
      record { added = tt; refused = record { why = why; lists_are = same; serials_are = same_serials; room_is = kept }; visits = visits }
