-- Names in lists, those of one line among them, and how often a name stands.
use Rattle.std.specs.Prelude.{◌≡◌, ◌∷◌, ◌++◌}
use Rattle.channel_world_runs.proofs.Words.{false_from_ne_true, List, [], true, false, Option, None, Some, refl, sym, ap, subst, ◌∙◌, inl, inr, filter-append, same_waiter, is_among, without_waiter, Kind, same_line, is_line, Waiter, WaitList, same_sound, decided, or_true, among_self, or_right, line_refl, line_sound}
use Rattle.channel_world_runs.specs.refinement.Refines.{of_line}

-- one that stands among those of a line is of it
pub among_of_line : (kind : Kind) (line : WaitList) (w : Waiter) (ws : List Waiter) → is_among w (of_line kind line ws) ≡ true → (is_among w ws ≡ true) × (kind w ≡ Some line)
among_of_line kind line w [] e = cc e
among_of_line kind line w (v ∷ vs) e = elim (decided (is_line line (kind v))) [
  | inr t ↦ let on = among_of_line kind line w vs (rw t at e) in (or_right (same_waiter w v) (is_among w vs) on.0, on.1)
  | inl t ↦ elim (or_true (same_waiter w v) (is_among w (of_line kind line vs)) (rw t at e)) [
    | inl s ↦ (rw s refl, ap (λ (x : Waiter). kind x) (same_sound w v s) ∙ named (kind v) t)
    | inr r ↦ let on = among_of_line kind line w vs r in (or_right (same_waiter w v) (is_among w vs) on.0, on.1)
  ]
] where
  named : (o : Option WaitList) → is_line line o ≡ true → o ≡ Some line
  named None h = cc h
  named (Some x) h = ap (λ (y : WaitList). Some y) (sym (line_sound line x h))

-- one of the line stands among them where it stands at all
pub among_its_line : (kind : Kind) (line : WaitList) (w : Waiter) (ws : List Waiter) → kind w ≡ Some line → is_among w (of_line kind line ws) ≡ is_among w ws
among_its_line kind line w [] k = refl
among_its_line kind line w (v ∷ vs) k = elim (decided (same_waiter w v)) [
  | inl t ↦
      let here : is_line line (kind v) ≡ true = subst (λ (x : Waiter). is_line line (kind x) ≡ true) (same_sound w v t) (rw k (line_refl line)) in
      rw (here, t) refl
  | inr t ↦ elim (decided (is_line line (kind v))) [
    | inl h ↦ rw (h, t) (among_its_line kind line w vs k)
    | inr h ↦ rw (h, t) (among_its_line kind line w vs k)
  ]
]

-- to take one out, and to keep those of a line, in either order
pub of_line_without : (kind : Kind) (line : WaitList) (w : Waiter) (ws : List Waiter) → of_line kind line (without_waiter w ws) ≡ without_waiter w (of_line kind line ws)
of_line_without kind line w [] = refl
of_line_without kind line w (v ∷ vs) = elim (decided (same_waiter w v)) [
  | inl t ↦ elim (decided (is_line line (kind v))) [
    | inl h ↦ rw (t, h) (rw t (of_line_without kind line w vs))
    | inr h ↦ rw (t, h) (of_line_without kind line w vs)
  ]
  | inr t ↦ elim (decided (is_line line (kind v))) [
    | inl h ↦ rw (t, h) (rw t (ap (λ (xs : List Waiter). v ∷ xs) (of_line_without kind line w vs)))
    | inr h ↦ rw (t, h) (of_line_without kind line w vs)
  ]
]

pub of_line_append : (kind : Kind) (line : WaitList) (xs ys : List Waiter) → of_line kind line (xs ++ ys) ≡ of_line kind line xs ++ of_line kind line ys
of_line_append kind line xs ys = filter-append (λ (w : Waiter). is_line line (kind w)) xs ys

-- all of one line
abbrev pub AllOf : Kind → WaitList → List Waiter → Type 0
AllOf kind line ws = (w : Waiter) → is_among w ws ≡ true → kind w ≡ Some line

pub all_rest : (kind : Kind) (line : WaitList) (x : Waiter) (xs : List Waiter) → AllOf kind line (x ∷ xs) → AllOf kind line xs
all_rest kind line x xs h = λ w e. h w (or_right (same_waiter w x) (is_among w xs) e)

pub of_own_line : (kind : Kind) (line : WaitList) (ws : List Waiter) → AllOf kind line ws → of_line kind line ws ≡ ws
of_own_line kind line [] h = refl
of_own_line kind line (x ∷ xs) h =
    let here : is_line line (kind x) ≡ true = rw (h x (among_self x xs)) (line_refl line) in
    rw here (ap (λ (ys : List Waiter). x ∷ ys) (of_own_line kind line xs (all_rest kind line x xs h)))

pub of_other_line : (kind : Kind) (line other : WaitList) → same_line other line ≡ false → (ws : List Waiter) → AllOf kind line ws → of_line kind other ws ≡ []
of_other_line kind line other off [] h = refl
of_other_line kind line other off (x ∷ xs) h =
    let here : is_line other (kind x) ≡ false = rw (h x (among_self x xs)) off in
    rw here (of_other_line kind line other off xs (all_rest kind line x xs h))

-- a name of another kind is not of the line
pub not_of_line : (kind : Kind) (line other : WaitList) (w : Waiter) (ws : List Waiter) → kind w ≡ Some line → same_line other line ≡ false → is_among w (of_line kind other ws) ≡ false
not_of_line kind line other w ws k off = false_from_ne_true (is_among w (of_line kind other ws)) (λ t.
    let same : Some other ≡ Some line = sym (among_of_line kind other w ws t).1 ∙ k in
    let lines : other ≡ line = cc same in
    cc (sym (subst (λ (x : WaitList). same_line other x ≡ true) lines (line_refl other)) ∙ off))
