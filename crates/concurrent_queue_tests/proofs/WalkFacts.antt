-- A walk over a queue of one owner: what was given, and what is left.
use Rattle.std.proofs.Common.{◌≡◌, ℕ, suc, ◌+◌, ◌<◌, ◌≤◌, List, [], ◌∷◌, ◌++◌, length, sym, ap, ◌∙◌, arith, append-nil}
use mathlib.Core.List.{append_assoc}
use Rattle.concurrent_queue.specs.Alone.{Held, with_items}

module _ {T : Type 0} where
  -- the message that leaves comes to the end of what was given
  pub next_given : (given given' left left' all : List T) (m : T) → given ++ left ≡ all → left ≡ m ∷ left' → given' ≡ given ++ m ∷ [] → given' ++ left' ≡ all
  next_given given given' left left' all m so_far takes pushed =
      ap (λ (xs : List T). xs ++ left') pushed ∙ append_assoc given (m ∷ []) left' ∙ ap (λ (xs : List T). given ++ xs) (sym takes) ∙ so_far

  -- at the end all was given
  pub all_given : (given left all : List T) → given ++ left ≡ all → left ≡ [] → given ≡ all
  all_given given left all so_far none = sym (append-nil given) ∙ ap (λ (xs : List T). given ++ xs) (sym none) ∙ so_far

  -- nothing but the messages is changed
  pub still : (first now after : Held T) → now ≡ with_items first now.items → after ≡ with_items now after.items → after ≡ with_items first after.items
  still first now after before takes = takes ∙ ap (λ (m : Held T). with_items m after.items) before

  pub emptied : (first now after : Held T) → now ≡ with_items first now.items → now.items ≡ [] → after ≡ now → after ≡ with_items first []
  emptied first now after before none same = same ∙ before ∙ ap (λ (xs : List T). with_items first xs) none

  -- there is room for each message that is left
  pub has_room : (n cap : ℕ) (left left' : List T) (m : T) → n + length left ≤ cap → left ≡ m ∷ left' → n < cap
  has_room n cap left left' m fits takes = let e : length left ≡ suc (length left') = ap length takes in omega arith

  pub keeps_room : (n n' cap : ℕ) (left left' : List T) (m : T) → n + length left ≤ cap → left ≡ m ∷ left' → n' ≡ n + 1 → n' + length left' ≤ cap
  keeps_room n n' cap left left' m fits takes more = let e : length left ≡ suc (length left') = ap length takes in omega arith

  -- a walk comes nearer to its end
  pub nearer : (left left' : List T) (m : T) → left ≡ m ∷ left' → length left' < length left
  nearer left left' m takes = let e : length left ≡ suc (length left') = ap length takes in omega arith
