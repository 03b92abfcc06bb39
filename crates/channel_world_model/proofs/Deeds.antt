-- What one call does to a channel and to the number of its handles.
use Rattle.std.specs.Prelude.{◌≡◌, ◌⊎◌, ◌+◌, ◌∷◌, ◌++◌}
use Rattle.channel_world_model.proofs.Words.{arith, ℕ, List, [], length, false, Some, refl, ap, inl, length-append, says_closed, appended, with_messages, live_of, at, with_new, without_name, State, Call, Answer, space_of, shut, drop_one, dropped, strong_handles, with_strong_handles, without_one, Answers, Open, HandleId, HandleKind, Sender, Handle, borrowed_by}
use Rattle.channel_world_model.proofs.Lacking.{found_first}
use Rattle.channel_world_model.proofs.Shapes.{Shape, shape_of}
use Rattle.channel_world_model.proofs.Shapes as shape
use Rattle.channel_world_model.proofs.Live.{lent_alike, back_alike}

module _ {T : Type 0} where
  -- as many handles of either side live
  abbrev pub Alike : State T → Answer T → Type 0
  Alike s a = (side : HandleKind) → live_of side a.after.names.handles ≡ live_of side s.names.handles

  -- what becomes of the channel, by shapes
  pub data Deed (s : State T) (a : Answer T) : Type 0 where
    stays : a.after.channel ≡ s.channel → Alike s a → says_closed a.reply ≡ false → Deed s a
    grows : (m : T) → (space_of s.channel ≡ Open) ⊎ (s.channel.messages ≡ []) → a.after.channel ≡ appended s.channel m → Alike s a → says_closed a.reply ≡ false → Deed s a
    holds : (ms : List T) → (n : ℕ) → length ms + n ≡ length s.channel.messages → a.after.channel ≡ with_messages s.channel ms → Alike s a → says_closed a.reply ≡ false → Deed s a
    shuts : s.channel.closed ≡ false → a.after.channel ≡ shut s.channel → Alike s a → Deed s a
    adds : (name : ℕ) (kind : HandleKind) → a.after.channel ≡ with_strong_handles kind (strong_handles kind s.channel + 1) s.channel
        → a.after.names.handles ≡ with_new name (record { kind = kind; borrowers = 0 }) s.names.handles → says_closed a.reply ≡ false → Deed s a
    drops : (name : ℕ) (h : Handle) (kind : HandleKind) → at name s.names.handles ≡ Some h → h.kind ≡ kind → a.after.channel ≡ without_one kind s.channel
        → a.after.names.handles ≡ without_name name s.names.handles → says_closed a.reply ≡ false → Deed s a

  module _ (s : State T) where
    one_less : (m : T) (rest : List T) → s.channel.messages ≡ m ∷ rest → length rest + 1 ≡ length s.channel.messages
    one_less m rest e = let h : length s.channel.messages ≡ length (m ∷ rest) = ap (λ (ms : List T). length ms) e in omega (arith, h)

    several_less : (ms rest : List T) → ms ++ rest ≡ s.channel.messages → length rest + length ms ≡ length s.channel.messages
    several_less ms rest e =
        let l : length (ms ++ rest) ≡ length s.channel.messages = ap (λ (xs : List T). length xs) e in
        omega (arith, l, length-append ms rest)

    drop_kind : (handle : HandleId) (h : Handle) (kind : HandleKind) → at handle.0 s.names.handles ≡ Some h → h.kind ≡ kind → Deed s (drop_one (dropped s handle) handle kind)
    drop_kind handle h Sender there e = drops handle.0 h Sender there e refl refl refl
    drop_kind handle h kind there e = drops handle.0 h kind there e refl refl refl

    deed : {c : Call T} {a : Answer T} → Shape s c a → Deed s a
    deed (shape.says c r rests h) = stays refl (λ side. refl) h.0
    deed (shape.tries sender m e) = grows m (inl e) refl (λ side. refl) refl
    deed (shape.forces sender m room) = grows m room refl (λ side. refl) refl
    deed (shape.displaces sender m oldest rest e) =
        holds (rest ++ m ∷ []) 0 (omega (arith, length-append rest (m ∷ []), one_less oldest rest e)) refl (λ side. refl) refl
    deed (shape.sends op handle m there e) = grows m (inl e) refl (λ side. refl) refl
    deed (shape.fails op handle m there) = stays refl (λ side. refl) refl
    deed (shape.takes receiver m rest e) = holds rest 1 (one_less m rest e) refl (λ side. refl) refl
    deed (shape.several receiver limit m ms rest e few) = holds rest (length (m ∷ ms)) (several_less (m ∷ ms) rest e) refl (λ side. refl) refl
    deed (shape.receives op m rest own e) = holds rest 1 (one_less m rest (found_first s.channel.messages s.channel.closed m rest e)) refl (λ side. refl) refl
    deed (shape.streams receiver m rest e) = holds rest 1 (one_less m rest (found_first s.channel.messages s.channel.closed m rest e)) refl (λ side. refl) refl
    deed (shape.stands op line r own o i h) = stays refl (λ side. refl) h.0
    deed (shape.restands receiver e o) = stays refl (λ side. refl) refl
    deed (shape.leaves op line r own h) = stays refl (λ side. refl) h.0
    deed (shape.refuses op line r own h) = stays refl (λ side. refl) h.0
    deed (shape.goes w line r own i h) = stays refl (λ side. refl) h.0
    deed (shape.new_send op sender m) = stays refl (λ side. lent_alike side sender s.names.handles) refl
    deed (shape.new_receive op receiver) = stays refl (λ side. lent_alike side receiver s.names.handles) refl
    deed (shape.new_closing op sender) = stays refl (λ side. lent_alike side sender s.names.handles) refl
    deed (shape.gives_up op x there) = stays refl (λ side. back_alike side (borrowed_by x) s.names.handles) refl
    deed (shape.shuts handle e) = shuts e refl (λ side. refl)
    deed (shape.drops handle h there) = drop_kind handle h h.kind there refl
    deed (shape.makes c new kind mint h) = adds new.0 kind refl refl h.0
    deed (shape.spends c new r mint h) = stays refl (λ side. refl) h.0

    -- an accepted call, however it is answered
    pub deed_of : (c : Call T) (a : Answer T) → Answers s c a → Deed s a
    deed_of c a e = deed (shape_of s c a e)
