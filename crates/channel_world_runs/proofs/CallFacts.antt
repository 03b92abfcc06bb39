-- What is read off the calls under way.
use Rattle.std.specs.Prelude.{◌≡◌, ◌||◌, ◌∷◌}
use Rattle.channel_world_runs.proofs.Words.{ℕ, Bool, nat_eq, List, [], map, slice_get, slice_set, Option, Some, refl, ap, ◌∙◌, list_any, remove, map-set, Reply, get-map, map-after, set-same, Agent, agent_of, is_at_work, CallUnderWay}

-- what is read off none is none
pub none_read : {A B : Type 0} (f : A → B) (xs : List A) → map f xs ≡ [] → xs ≡ []
none_read f [] e = refl
none_read f (x ∷ xs) e = absurd cc

module _ {T : Type 0} where
  -- one that is at work has a call
  pub at_work_read : (calls : List (CallUnderWay T)) (p : ℕ) → list_any (λ (c : CallUnderWay T). nat_eq c.party.id p) calls ≡ is_at_work p (map agent_of calls)
  at_work_read [] p = refl
  at_work_read (c ∷ cs) p = ap (λ (b : Bool). nat_eq c.party.id p || b) (at_work_read cs p)

  -- a step leaves to a call what it has to write back
  pub agents_kept : (calls : List (CallUnderWay T)) (k : ℕ) (c d : CallUnderWay T) → slice_get calls k ≡ Some c → agent_of d ≡ agent_of c
      → map agent_of (slice_set calls k d) ≡ map agent_of calls
  agents_kept calls k c d there same =
      map-set agent_of calls k d
      ∙ (ap (λ (a : Agent T). slice_set (map agent_of calls) k a) same ∙ set-same (map agent_of calls) k (agent_of c) (get-map agent_of calls k c there))

  -- a party whose call has answered is no longer at work
  pub agents_left : (calls : List (CallUnderWay T)) (k : ℕ) (c : CallUnderWay T) (r : Reply T) → map agent_of (remove calls k) ≡ remove (map agent_of calls) k
  agents_left calls k c r = let answer : Option (Reply T) = Some r in map-after agent_of calls k c answer
