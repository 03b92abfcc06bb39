-- How many messages a reply lists at most.
use Rattle.std.specs.Prelude.{◌≡◌, ◌≤◌}
use Rattle.channel_world.proofs.Words.{arith, ℕ, List, [], length, Ok, refl, ap, Reply, Answer, drop_one, dropped, removed_by, Answers, State, Call, HandleId, HandleKind, Sender, Shape, shape_of}
use Rattle.channel_world_model.proofs.Shapes as shape
use Rattle.channel_world.specs.Listed.{listed, most_listed}

module _ {T : Type 0} where
  -- a reply that took nothing out lists nothing
  none_listed : (r : Reply T) → removed_by r ≡ [] → length (listed r) ≡ 0
  none_listed (Reply.RecvMany (Ok ms)) e = ap (λ (xs : List T). length xs) e
  none_listed r e = refl

  none_dropped : (s : State T) (handle : HandleId) (kind : HandleKind) → length (listed (drop_one s handle kind).reply) ≤ 0
  none_dropped s handle Sender = omega arith
  none_dropped s handle kind = omega arith

  few_shape : {s : State T} {c : Call T} {a : Answer T} → Shape s c a → length (listed a.reply) ≤ most_listed c
  few_shape (shape.says c r rests h) = let none = none_listed r h.1 in omega (arith, none)
  few_shape (shape.several receiver limit m ms rest e few) = few
  few_shape (shape.stands op line r own o i h) = let none = none_listed r h.1 in omega (arith, none)
  few_shape (shape.leaves op line r own h) = let none = none_listed r h.1 in omega (arith, none)
  few_shape (shape.refuses op line r own h) = let none = none_listed r h.1 in omega (arith, none)
  few_shape (shape.goes w line r own i h) = let none = none_listed r h.1 in omega (arith, none)
  few_shape (shape.spends c new r mint h) = let none = none_listed r h.1 in omega (arith, none)
  few_shape {s = s} (shape.drops handle h there) = none_dropped (dropped s handle) handle h.kind
  few_shape x = omega arith

  -- no reply lists more than there is room for
  pub few_listed : (s : State T) (c : Call T) (a : Answer T) → Answers s c a → length (listed a.reply) ≤ most_listed c
  few_listed s c a e = few_shape (shape_of s c a e)

  -- a call that takes no several messages
  pub lists_nothing : (c : Call T) → ((h : HandleId) (n : ℕ) → c ≡ Call.RecvMany h n → ⊥) → most_listed c ≡ 0
  lists_nothing (Call.RecvMany receiver limit) many = absurd (many receiver limit refl)
  lists_nothing c many = refl
