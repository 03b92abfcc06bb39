-- The names that a command uses, and those that its call uses: a call of a world is refused for an unknown name where a name of its
-- command was given to what lives no more. So each name is looked for once.
use Rattle.std.specs.Prelude.{◌≡◌, ◌∷◌, ◌&&◌}
use Rattle.channel_world.proofs.Words.{ℕ, length, [], Bool, true, false, Option, None, Some, Ok, Err, is_some, option_and_then, refl, ◌∙◌, list_all, option_map, option_map_or, Names, at, nobody_under_way, unlike_handles, refusal_beside, refusal, Call, Handle, HandleId, WorldRefusal, used, lives, is_known, is_given_before, handle_of, of_handle, call_of, Command, settle, Table, named_in, Name, ScriptScene, why_refused, checked}
use Rattle.channel_world_language.specs.Asked.{sending_call, making_call, question_call, doing_call}
use Rattle.channel_world_language.specs.Command.{message, recv_many, send, new, one, same_channel}
use Rattle.channel_world_language.specs.declared.command.Doing.{Doing}
use Rattle.channel_world_language.specs.declared.command.Making.{Making}
use Rattle.channel_world_language.specs.declared.command.Question.{Question}
use Rattle.channel_world_language.specs.declared.command.Sending.{Sending}
use Rattle.channel_world_language.specs.declared.table.Named.{Named}

-- nothing lives under the name
gone : {X : Type 0} (o : Option X) → (is_some o && true) ≡ false → o ≡ None
gone None e = refl
gone (Some x) e = cc e

-- nor under one of two
one_gone : (a b : Option Handle) → (is_some a && (is_some b && true)) ≡ false → unlike_handles false a b ≡ Some WorldRefusal.UnknownName
one_gone None b e = refl
one_gone (Some x) None e = refl
one_gone (Some x) (Some y) e = cc e

module _ (names : Names ℕ) where
  -- the call is refused for an unknown name
  abbrev IsUnknown : Call ℕ → Type 0
  IsUnknown c = refusal_beside nobody_under_way names c ≡ Some WorldRefusal.UnknownName

  -- so is a call by a handle that lives no more
  abbrev ByHandle : (HandleId → Call ℕ) → Type 0
  ByHandle f = (h : HandleId) → at h.0 names.handles ≡ None → IsUnknown (f h)

  module _ (t : Table) (name : Name) (c : Call ℕ) where
    -- where the name was given to what lives no more
    abbrev Unknown : Type 0
    Unknown = list_all (is_known names t) (name ∷ []) ≡ false → IsUnknown c

    abbrev UnknownOf : Option Named → Type 0
    UnknownOf o = (option_map_or (lives names) o false && true) ≡ false → IsUnknown c

    by_handle : (f : HandleId → Call ℕ) → ByHandle f → Some c ≡ of_handle t name f → Unknown
    by_handle f unknown e = by (named_in t name) e where
      by : (o : Option Named) → Some c ≡ option_map f (option_and_then handle_of o) → UnknownOf o
      by None e off = cc e
      by (Some (Named.Handle h)) e off = let is : c ≡ f h = cc e in rw is (unknown h (gone (at h.0 names.handles) off))
      by (Some (Named.Op op)) e off = cc e

    by_name : (call_by : Named → Option (Call ℕ)) → ((named : Named) → Some c ≡ call_by named → (lives names named && true) ≡ false → IsUnknown c)
        → Some c ≡ option_and_then call_by (named_in t name) → Unknown
    by_name call_by unknown e = by (named_in t name) e where
      by : (o : Option Named) → Some c ≡ option_and_then call_by o → UnknownOf o
      by None e off = cc e
      by (Some named) e off = unknown named e off

  sent_by_handle : (how : Sending) (m : ℕ) → ByHandle (λ h. sending_call how h m)
  sent_by_handle Sending.Try m h e = rw e refl
  sent_by_handle Sending.Force m h e = rw e refl

  made_by_handle : (what : Making) (n : ℕ) → ByHandle (making_call what n)
  made_by_handle Making.Recv n h e = rw e refl
  made_by_handle what n h e = rw e refl

  asked_by_handle : (q : Question) → ByHandle (question_call q)
  asked_by_handle Question.IsClosed h e = rw e refl
  asked_by_handle question h e = rw e refl

  done_by_name : (what : Doing) (named : Named) (c : Call ℕ) → Some c ≡ doing_call what named → (lives names named && true) ≡ false → IsUnknown c
  done_by_name Doing.TryRecv (Named.Handle h) c e off = let is : c ≡ Call.TryRecv h = cc e in rw (is, gone (at h.0 names.handles) off) refl
  done_by_name Doing.Next (Named.Handle h) c e off = let is : c ≡ Call.PollNext h = cc e in rw (is, gone (at h.0 names.handles) off) refl
  done_by_name Doing.Poll (Named.Op op) c e off = let is : c ≡ Call.Poll op = cc e in rw (is, gone (at op.0 names.operations) off) refl
  done_by_name Doing.Drop (Named.Handle h) c e off = let is : c ≡ Call.Drop h = cc e in rw (is, gone (at h.0 names.handles) off) refl
  done_by_name Doing.Drop (Named.Op op) c e off = let is : c ≡ Call.GiveUp op = cc e in rw (is, gone (at op.0 names.operations) off) refl
  done_by_name Doing.Close (Named.Handle h) c e off = let is : c ≡ Call.Close h = cc e in rw (is, gone (at h.0 names.handles) off) refl
  done_by_name Doing.IsTerminated (Named.Handle h) c e off = let is : c ≡ Call.StreamIsTerminated h = cc e in rw (is, gone (at h.0 names.handles) off) refl
  done_by_name Doing.IsTerminated (Named.Op op) c e off = let is : c ≡ Call.SendIsTerminated op = cc e in rw (is, gone (at op.0 names.operations) off) refl
  done_by_name (Doing.Ask question) (Named.Handle h) c e off =
      let is : c ≡ question_call question h = cc e in rw is (asked_by_handle question h (gone (at h.0 names.handles) off))
  done_by_name what named c e off = cc e

  by_both : (t : Table) (a b : Name) (c : Call ℕ) → Some c ≡ call_of t (same_channel a b) → list_all (is_known names t) (a ∷ b ∷ []) ≡ false → IsUnknown c
  by_both t a b c e = by (named_in t a) (named_in t b) e where
    by : (o p : Option Named)
        → Some c ≡ option_and_then (λ x. option_map (λ y. Call.SameChannel x y) (option_and_then handle_of p)) (option_and_then handle_of o)
        → (option_map_or (lives names) o false && (option_map_or (lives names) p false && true)) ≡ false → IsUnknown c
    by None p e off = cc e
    by (Some (Named.Op op)) p e off = cc e
    by (Some (Named.Handle x)) None e off = cc e
    by (Some (Named.Handle x)) (Some (Named.Op op)) e off = cc e
    by (Some (Named.Handle x)) (Some (Named.Handle y)) e off =
        let is : c ≡ Call.SameChannel x y = cc e in rw is (one_gone (at x.0 names.handles) (at y.0 names.handles) off)

  -- a command that has a call has one that is refused so where a name of it was given to what lives no more
  unknown : (t : Table) (command : Command) (c : Call ℕ) → Some c ≡ call_of t command → list_all (is_known names t) (used command) ≡ false → IsUnknown c
  unknown t (message how s m) c e = by_handle t s c (λ h. sending_call how h m) (sent_by_handle how m) e
  unknown t (recv_many r n) c e = by_handle t r c (λ h. Call.RecvMany h n) (λ h e. rw e refl) e
  unknown t (send o s m) c e = by_handle t s c (λ h. Call.NewSend (record { 0 = length t }) h m) (λ h e. rw e refl) e
  unknown t (new what n h) c e = by_handle t h c (making_call what (length t)) (made_by_handle what (length t)) e
  unknown t (one what x) c e = by_name t x c (doing_call what) (λ named. done_by_name what named c) e
  unknown t (same_channel a b) c e = by_both t a b c e
  unknown t settle c e = cc e

module _ (scene : ScriptScene) (command : Command) where
  -- a command that has a call is refused where the world refuses that call, or where it gives a name that was given before
  checked_by_call : (c : Call ℕ) → Some c ≡ call_of scene.table command
      → checked scene command ≡ option_map_or (λ w. Err w) (why_refused scene command c) (Ok c)
  checked_by_call c e = by (list_all (is_known scene.state.names scene.table) (used command)) refl where
    by : (b : Bool) → list_all (is_known scene.state.names scene.table) (used command) ≡ b
        → checked scene command ≡ option_map_or (λ w. Err w) (why_refused scene command c) (Ok c)
    by true known = rw (known, ← e) refl
    by false off = rw (off, unknown scene.state.names scene.table command c e off) refl

  pub world_refuses : (c : Call ℕ) (w : WorldRefusal) → Some c ≡ call_of scene.table command → Some w ≡ refusal scene.state c
      → checked scene command ≡ Err w
  world_refuses c w e refused = checked_by_call c e ∙ rw (← refused) refl

  pub name_is_taken : (c : Call ℕ) → Some c ≡ call_of scene.table command → refusal scene.state c ≡ None
      → is_given_before scene.table command ≡ true → checked scene command ≡ Err WorldRefusal.NameTaken
  name_is_taken c e fine before = checked_by_call c e ∙ rw (fine, before) refl

  pub nothing_refuses : (c : Call ℕ) → Some c ≡ call_of scene.table command → refusal scene.state c ≡ None
      → is_given_before scene.table command ≡ false → checked scene command ≡ Ok c
  nothing_refuses c e fine fresh = checked_by_call c e ∙ rw (fine, fresh) refl
