-- How many tasks a list of listeners has.
use Rattle.std.specs.Prelude.{◌≡◌, ◌≤◌, ◌+◌, ◌∷◌}
use Rattle.channel_world.proofs.Words.{arith, refl, sym, subst, ◌∙◌, ℕ, List, [], length, Option, None, Some, IfSome, SomeIff, Waiting, Call, HandleId, most_woken, Key}
use Rattle.event_listener.specs.Lists.{tasks_of}

-- no more than there are listeners
pub few_tasks : {W : Type 0} (es : List (Key × Option W)) → length (tasks_of es) ≤ length es
few_tasks [] = omega arith
few_tasks ((k, None) ∷ es) = let h = few_tasks es in omega (arith, h)
few_tasks ((k, Some w) ∷ es) = let h = few_tasks es in omega (arith, h)

-- a call that closes nothing, and takes no several messages
pub closes_nothing : {T : Type 0} (c : Call T) (l : Waiting) → ((h : HandleId) → c ≡ Call.Close h → ⊥) → ((h : HandleId) → c ≡ Call.Drop h → ⊥) → ((h : HandleId) (n : ℕ) → c ≡ Call.RecvMany h n → ⊥) → most_woken c l ≡ 2 + length l.streams
closes_nothing (Call.RecvMany receiver limit) l close drop many = absurd (many receiver limit refl)
closes_nothing (Call.Close handle) l close drop many = absurd (close handle refl)
closes_nothing (Call.Drop handle) l close drop many = absurd (drop handle refl)
closes_nothing c l close drop many = refl

-- a number that is there is no less than what it is said to be
pub no_less : (P : Type 0) (r : Option ℕ) (least n : ℕ) → SomeIff r P n → least ≤ n → IfSome r (λ m. least ≤ m)
no_less P None least n e le = tt
no_less P (Some m) least n e le = subst (λ (k : ℕ). least ≤ k) (sym e.1) le

-- and what it is said to be
pub just_it : (P : Type 0) (r : Option ℕ) (so n : ℕ) → SomeIff r P n → n ≡ so → IfSome r (λ m. m ≡ so)
just_it P None so n e same = tt
just_it P (Some m) so n e same = e.1 ∙ same
