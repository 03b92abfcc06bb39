-- Messages that have their sender's number and their place among what that one sent.
use Rattle.std.specs.Prelude.{◌≡◌, ◌⊎◌, ℕ, suc, ◌+◌, ◌≤◌, ◌==◌, List, [], ◌∷◌, ◌++◌, filter, map, length, take}
use Rattle.waybill.specs.declared.numbered.Numbered.{Numbered}

module _ {T : Type 0} where
  abbrev pub message : ℕ → ℕ → T → Numbered T
  message s n x = record { sender = s; number = n; value = x }

  -- these messages of this sender, with places from a number on
  abbrev pub numbered : ℕ → ℕ → List T → List (Numbered T)
  numbered s n [] = []
  numbered s n (x ∷ xs) = message s n x ∷ numbered s (suc n) xs

  -- the messages of this sender, in the order of the list
  abbrev pub of_sender : ℕ → List (Numbered T) → List (Numbered T)
  of_sender s ms = filter (λ m. m.sender == s) ms

  abbrev pub values : List (Numbered T) → List T
  values ms = map (λ m. m.value) ms

  -- their places rise, from a number on
  abbrev pub RisesFrom : ℕ → List (Numbered T) → Type 0
  RisesFrom n [] = Unit {0}
  RisesFrom n (m ∷ ms) = (n ≤ m.number) × RisesFrom (m.number + 1) ms

  -- the place after the last of them, or this one if there is none
  abbrev pub place_after : ℕ → List (Numbered T) → ℕ
  place_after n [] = n
  place_after n (m ∷ ms) = place_after (m.number + 1) ms

  -- of each sender, each message has a later place than those that came before it
  abbrev pub IsRising : List (Numbered T) → Type 0
  IsRising ms = (s : ℕ) → RisesFrom 0 (of_sender s ms)

  -- of each sender, the messages are its first ones, each in its place
  abbrev pub IsGapless : List (Numbered T) → Type 0
  IsGapless ms = (s : ℕ) → of_sender s ms ≡ numbered s 0 (values (of_sender s ms))

  -- what all senders sent, each by its number, from a number on
  abbrev pub all_numbered : ℕ → List (List T) → List (Numbered T)
  all_numbered s [] = []
  all_numbered s (xs ∷ all) = numbered s 0 xs ++ all_numbered (suc s) all

  -- so much is said of each sender and what it sent, from a number on
  abbrev pub OfEach : (ℕ → List T → Type 0) → ℕ → List (List T) → Type 0
  OfEach P s [] = Unit {0}
  OfEach P s (xs ∷ all) = P s xs × OfEach P (suc s) all

  -- the first list is the second without some of its messages, in the same order
  abbrev pub IsInOrderOf : List T → List T → Type 0
  IsInOrderOf xs [] = xs ≡ []
  IsInOrderOf xs (y ∷ ys) = IsInOrderOf xs ys ⊎ ((rest : List T) × (xs ≡ y ∷ rest) × IsInOrderOf rest ys)

  -- of each sender, what came is a beginning of what that one sent
  abbrev pub AreBeginnings : List (Numbered T) → List (List T) → Type 0
  AreBeginnings got sent = OfEach (λ s xs. values (of_sender s got) ≡ take (length (of_sender s got)) xs) 0 sent

  -- of each sender, what came is in that one's order
  abbrev pub AreInOrder : List (Numbered T) → List (List T) → Type 0
  AreInOrder got sent = OfEach (λ s xs. IsInOrderOf (values (of_sender s got)) xs) 0 sent
