-- What the seats of passes and waybills know, and the rule over all of them.
use Rattle.std.specs.Prelude.{◌≡◌, ℕ, ◌+◌, List, [], ◌∷◌, ◌++◌, flat_map, IsPermutation}
use mathlib.Core.Option.{some}
use lib.ListN.{get_elem?}
use Rattle.atomic_table.specs.Table.{Me, Step}
use Rattle.atomic_table.specs.Seated.{TableId}
use Rattle.waybill.specs.Accounts.{all_parts, IsBalanced}
use Rattle.waybill.specs.declared.rule.Hand.{Hand}

abbrev pub no_table : TableId
no_table = record { words = 0; slots = 0; views_name = 0; atom = 0; block = 0; offset = 0; slot_names = [] }

-- a number of each, added up
abbrev pub total : {V : Type 0} → (V → ℕ) → List V → ℕ
total f [] = 0
total f (v ∷ vs) = f v + total f vs

module _ {T : Type 0} where
  abbrev pub hand : ℕ → List T → List T → List T → List T → Hand T
  hand parts sent received returned carried = record { parts = parts; sent = sent; received = received; returned = returned; carried = carried }

  -- a waybill for these messages
  abbrev pub waybill : List T → Hand T
  waybill xs = hand 0 [] [] [] xs

  -- a pass after these were sent
  abbrev pub with_sent : Hand T → List T → Hand T
  with_sent v xs = hand v.parts (v.sent ++ xs) v.received v.returned v.carried

  -- a pass after it took another seat in: what that one carried is received
  abbrev pub with_received : Hand T → Hand T → Hand T
  with_received v w = hand (v.parts + w.parts) (v.sent ++ w.sent) ((v.received ++ w.received) ++ w.carried) (v.returned ++ w.returned) v.carried

  -- the same where what that one carried is taken back
  abbrev pub with_returned : Hand T → Hand T → Hand T
  with_returned v w = hand (v.parts + w.parts) (v.sent ++ w.sent) (v.received ++ w.received) ((v.returned ++ w.returned) ++ w.carried) v.carried

  -- what became of messages: they were received, taken back, or are on their way
  abbrev pub became : Hand T → List T
  became v = v.received ++ (v.returned ++ v.carried)

  -- a seat with no part has sent, received and taken back nothing
  abbrev pub IdleIsEmpty : List (Hand T) → Type 0
  IdleIsEmpty views =
      (i : ℕ) (v : Hand T) → get_elem? views i ≡ some v → v.parts ≡ 0 → (v.sent ≡ []) × (v.received ≡ []) × (v.returned ≡ [])

  -- something became of each message that was sent, and of no other
  pub record Balanced (views : List (Hand T)) : Type 0 where
    pub whole : total (λ (v : Hand T). v.parts) views ≡ all_parts
    pub even : IsPermutation (flat_map (λ (v : Hand T). v.sent) views) (flat_map became views)
    pub idle : IdleIsEmpty views

  -- a pass that has every part has learned that its lists balance
  abbrev pub learned : Step (Unit {0}) → Me (Unit {0}) (Hand T) → ℕ → Me (Unit {0}) (Hand T) → Type 0
  learned st m found m' = (m' ≡ m) × (m.0.parts ≡ all_parts → IsBalanced m.0.sent m.0.received m.0.returned)
