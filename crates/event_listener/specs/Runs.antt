-- Lists of calls of a list, made one after another.
use Rattle.std.specs.Prelude.{◌≡◌, ℕ, ◌+◌, ◌*◌, ◌≤◌, nat_lt, Bool, false, if◌then◌else◌, List, [], ◌∷◌, ◌++◌, length, take, Option, Some, None, is_some, IsSome, Result, Ok, Err, IfOk, OnOk, IfErr, IsOk, slice_get}
use Rattle.event_listener.specs.declared.key.Key.{Key}
use Rattle.event_listener.specs.declared.error.NoMemory.{NoMemory}
use Rattle.event_listener.specs.declared.error.ListenError.{ListenError}
use Rattle.event_listener.specs.declared.error.NotifyError.{NotifyError}
use Rattle.event_listener.specs.declared.error.UnknownListener.{UnknownListener}
use Rattle.event_listener.specs.declared.run.Target.{Target}
use Rattle.event_listener.specs.declared.run.Target.TheVariants as target
use Rattle.event_listener.specs.declared.run.ListCall.{ListCall}
use Rattle.event_listener.specs.declared.run.ListCall.TheVariants as call
use Rattle.event_listener.specs.declared.run.ListReply.{ListReply}
use Rattle.event_listener.specs.declared.run.ListReply.TheVariants as reply
use Rattle.event_listener.specs.Lists.{Lists, ListView, serial_of, kind_of, told_as, listened, notified, moved, tasks_of, registration, register_answer, polled, poll_answer, removed, remove_answer, removed_wakes, IsListenRefusal}
use Rattle.event_listener.specs.Notices.{Woken}

-- the key that a call replied, if it inserted a listener
abbrev pub inserted_key : {T : Type 0} → ListReply T → Option Key
inserted_key (reply.Insert result) = elim result [ Ok key ↦ Some key | Err e ↦ None ]
inserted_key (reply.Register result) = None
inserted_key (reply.Poll result) = None
inserted_key (reply.Remove result) = None
inserted_key (reply.Notify result) = None
inserted_key (reply.Reserve result) = None

-- the listener that a call names, after these replies: a key, or what the call at a place of the run inserted
abbrev pub key_named : {T : Type 0} → Target → List (ListReply T) → Option Key
key_named (target.Key key) done = Some key
key_named (target.Place place) done = elim (slice_get done place) [ Some r ↦ inserted_key r | None ↦ None ]

-- what is answered about a key, if there is one
abbrev pub about : {A : Type 0} → Option Key → (Key → Result A UnknownListener) → Result A UnknownListener
about None answer = Err (record {})
about (Some key) answer = answer key

-- what a call with a key makes of a value, if there is a key
abbrev pub made_at : {A : Type 0} → Option Key → (Key → A → A) → A → A
made_at None change value = value
made_at (Some key) change value = change key value

module _ {T W : Type 0} where
  -- the tags that a notification with these tags hands out
  abbrev pub tags_given : Bool → ℕ → List T → Lists T W → List T
  tags_given additional count tags lists = take (moved additional count lists) tags

  -- all were told, or as many as there are tags
  abbrev pub tags_answer : Bool → ℕ → List T → Lists T W → Result ℕ NotifyError
  tags_answer additional count tags lists =
      if nat_lt (length tags) (moved additional count lists) then Err (record { told = length tags }) else Ok (moved additional count lists)

  -- the room once the listener of this key was taken off, if it was told
  abbrev pub room_polled : Lists T W → Key → ℕ → ℕ
  room_polled lists key room = if is_some (told_as lists key) then room + 1 else room

  -- the room once the listener of this key was taken off
  abbrev pub room_removed : Lists T W → Key → ℕ → ℕ
  room_removed lists key room = if is_some (kind_of lists key) then room + 1 else room

  abbrev pub wakes_at : Option Key → Bool → Lists T W → List W
  wakes_at None pass_on lists = []
  wakes_at (Some key) pass_on lists = removed_wakes key pass_on lists

  -- a call left these lists and this room, and gave no serial
  pub record Leaves (old new : ListView T W) (lists : Lists T W) (room : ℕ) : Type 0 where
    pub lists_are : new.lists ≡ lists
    pub serials_are : new.serials ≡ old.serials
    pub room_is : new.room ≡ room

  -- a new listener waits last, with the next serial
  pub record Adds (old new : ListView T W) (key : Key) : Type 0 where
    pub lists_are : new.lists ≡ listened key old.lists
    pub unknown : kind_of old.lists key ≡ None
    pub serial_is : serial_of key ≡ old.serials
    pub serials_are : new.serials ≡ old.serials + 1
    pub room_is : old.room ≤ new.room + 1

  -- nobody was added
  pub record Refuses (old new : ListView T W) (error : ListenError) : Type 0 where
    pub why : IsListenRefusal old error
    pub lists_are : new.lists ≡ old.lists
    pub serials_are : new.serials ≡ old.serials
    pub room_is : old.room ≤ new.room

  -- an insertion
  pub record Inserts (old new : ListView T W) (result : Result Key ListenError) : Type 0 where
    pub added : IfOk result (Adds old new)
    pub refused : IfErr result (Refuses old new)
    pub visits : new.visits ≤ 5

  -- room was made, or memory refused; no listener changed
  pub record Reserves (old new : ListView T W) (extra : ℕ) (result : Result (Unit {0}) NoMemory) : Type 0 where
    pub lists_are : new.lists ≡ old.lists
    pub serials_are : new.serials ≡ old.serials
    pub kept_room : old.room ≤ new.room
    pub room : OnOk result (extra ≤ new.room)
    pub succeeds : extra ≤ old.room → IsOk result
    pub visits : new.visits ≡ old.visits

  -- a run ends where no call is left, or where the room for a reply was refused
  abbrev pub Ends : List (ListCall T W) → Option NoMemory → Type 0
  Ends [] stopped = stopped ≡ None
  Ends (c ∷ cs) stopped = IsSome stopped

  module _ {S : Type 0} (wakes : S → W → S → Type 0) where
    -- registering at a listener: it is answered, leaves where it was told, and else keeps the task
    abbrev pub Registers : Option Key → W → ListReply T → ListView T W → S → ListView T W → S → Type 0
    Registers key task answer old sink new sink' =
        (answer ≡ reply.Register (about key (λ k. register_answer k old.lists)))
        × Leaves old new (made_at key (λ k lists. registration k task lists) old.lists) (made_at key (room_polled old.lists) old.room)
        × (new.visits ≤ 5) × (sink' ≡ sink)

    -- polling a listener: it is answered, and leaves where it was told
    abbrev pub Polls : Option Key → ListReply T → ListView T W → S → ListView T W → S → Type 0
    Polls key answer old sink new sink' =
        (answer ≡ reply.Poll (about key (λ k. poll_answer k old.lists)))
        × Leaves old new (made_at key polled old.lists) (made_at key (room_polled old.lists) old.room)
        × (new.visits ≡ old.visits) × (sink' ≡ sink)

    -- taking a listener off, which may pass its notification on
    abbrev pub Removes : Option Key → Bool → ListReply T → ListView T W → S → ListView T W → S → Type 0
    Removes key pass_on answer old sink new sink' =
        (answer ≡ reply.Remove (about key (λ k. remove_answer k old.lists)))
        × Leaves old new (made_at key (λ k lists. removed k pass_on lists) old.lists) (made_at key (room_removed old.lists) old.room)
        × (pass_on ≡ false → new.visits ≤ 5)
        × Woken wakes sink (wakes_at key pass_on old.lists) sink'

    -- a notification with these tags, each for one listener
    abbrev pub Notifies : ℕ → Bool → List T → ListReply T → ListView T W → S → ListView T W → S → Type 0
    Notifies count additional tags answer old sink new sink' =
        let given = tags_given additional count tags old.lists in
        (answer ≡ reply.Notify (tags_answer additional count tags old.lists))
        × Leaves old new (notified additional given old.lists) old.room
        × (new.visits ≤ 5 * length given)
        × Woken wakes sink (tasks_of (take (length given) old.lists.waiting)) sink'

    -- after these replies this call answers so, and goes from one list and sink to another
    abbrev pub Makes : List (ListReply T) → ListCall T W → ListReply T → ListView T W → S → ListView T W → S → Type 0
    Makes done call.Insert answer old sink new sink' =
        (result : Result Key ListenError) × (answer ≡ reply.Insert result) × Inserts old new result × (sink' ≡ sink)
    Makes done (call.Register listener task) answer old sink new sink' = Registers (key_named listener done) task answer old sink new sink'
    Makes done (call.Poll listener) answer old sink new sink' = Polls (key_named listener done) answer old sink new sink'
    Makes done (call.Remove listener pass_on) answer old sink new sink' = Removes (key_named listener done) pass_on answer old sink new sink'
    Makes done (call.Notify count additional tags) answer old sink new sink' = Notifies count additional tags.items answer old sink new sink'
    Makes done (call.Reserve extra) answer old sink new sink' =
        (result : Result (Unit {0}) NoMemory) × (answer ≡ reply.Reserve result) × Reserves old new extra result × (sink' ≡ sink)

    -- After the replies `done` the calls give these further replies one by one, and leave the calls `rest` unmade.
    abbrev pub Runs : List (ListReply T) → List (ListCall T W) → List (ListReply T) → Option NoMemory → List (ListCall T W) → ListView T W → S → ListView T W → S → Type 0
    Runs done calls [] stopped rest old sink new sink' = (rest ≡ calls) × Ends calls stopped × (new ≡ old) × (sink' ≡ sink)
    Runs done [] (r ∷ rs) stopped rest old sink new sink' = ⊥
    Runs done (c ∷ cs) (r ∷ rs) stopped rest old sink new sink' =
        (mid : ListView T W) × (mid_sink : S) × Makes done c r old sink mid mid_sink × Runs (done ++ r ∷ []) cs rs stopped rest mid mid_sink new sink'
