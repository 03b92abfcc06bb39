-- What a pass says: which messages its holder sent, received and took back. Words for clients.
use Rattle.std.specs.Prelude.{ℕ, ◌+◌, ◌-◌, List, [], ◌∷◌, ◌++◌, IsPermutation}

-- how many parts of the right to know the whole there are: each pass but the first has one
abbrev pub all_parts : ℕ
all_parts = 4294967296

-- what the holder of a pass did
pub record Account (T : Type 0) : Type 0 where
  pub parts : ℕ
  pub sent : List T
  pub received : List T
  pub returned : List T

module _ {T : Type 0} where
  abbrev pub account : ℕ → List T → List T → List T → Account T
  account parts sent received returned = record { parts = parts; sent = sent; received = received; returned = returned }

  -- a pass with so many parts whose holder did nothing yet
  abbrev pub fresh : ℕ → Account T
  fresh parts = account parts [] [] []

  -- one part less
  abbrev pub parted : Account T → Account T
  parted a = account (a.parts - 1) a.sent a.received a.returned

  -- after a message was sent
  abbrev pub after_sent : Account T → T → Account T
  after_sent a x = account a.parts (a.sent ++ x ∷ []) a.received a.returned

  -- after these were sent
  abbrev pub after_all_sent : Account T → List T → Account T
  after_all_sent a xs = account a.parts (a.sent ++ xs) a.received a.returned

  -- after one was received
  abbrev pub after_received : Account T → T → Account T
  after_received a x = account a.parts a.sent (a.received ++ x ∷ []) a.returned

  -- after one was taken back
  abbrev pub after_returned : Account T → T → Account T
  after_returned a x = account a.parts a.sent a.received (a.returned ++ x ∷ [])

  -- what both did
  abbrev pub joined : Account T → Account T → Account T
  joined a b = account (a.parts + b.parts) (a.sent ++ b.sent) (a.received ++ b.received) (a.returned ++ b.returned)

  -- the second list is, in some order, the first one and a rest: each message is in the first at most as often as in the second
  abbrev pub IsPartOf : List T → List T → Type 0
  IsPartOf xs ys = (rest : List T) × IsPermutation ys (xs ++ rest)

  -- what was sent is, in some order, what was received, what was taken back, and what never came
  abbrev pub IsBalanced : List T → List T → List T → Type 0
  IsBalanced sent received returned = (never_came : List T) × IsPermutation sent (received ++ (returned ++ never_came))
