-- One call of an unbounded queue among all that are under way, by the numbers of items and the ordinals of blocks.
use Rattle.std.proofs.Common.{ℕ, ◌+◌, ◌≤◌, List, ◌∷◌, ◌++◌, map, sym, ap, subst, arith}
use Rattle.concurrent_queue.specs.Contents.{Contents}
use Rattle.concurrent_queue.specs.Queue.{Queue, Phase}
use Rattle.concurrent_queue.specs.Step.{ActiveQueueCall, seat, AreAt, FitsBy, IsAtBlocks}
use Rattle.concurrent_queue.specs.machine.BlocksCalls.{KnowsBlocks, owes}
use Rattle.concurrent_queue.specs.machine.BlocksDenotes.{Denotes, act_of}
use Rattle.concurrent_queue.specs.machine.BlocksForm.{seat_of, IsFit, UnboundedMeans}
use Rattle.concurrent_queue.specs.machine.BlocksMoves.{BlocksSeat, BlocksMeans, owners}
use Rattle.concurrent_queue.specs.machine.BlocksState.{Blocks, SoundBlocks, Duty, owed}
use Rattle.concurrent_queue.specs.machine.Places.{Place, Each}
use Rattle.concurrent_queue.specs.declared.queue_call.QueueCall.{QueueCall}
use Rattle.concurrent_queue.specs.declared.unbounded.action.UnboundedCall.{UnboundedCall}
use Rattle.concurrent_queue.proofs.BlocksFacts.{mine_of, seats_without}
use Rattle.concurrent_queue.proofs.BlocksTheorem.{seat_at, its_owners, knows, Each-out}
use Rattle.concurrent_queue.proofs.Places.{each_at, each_others}
use Rattle.concurrent_queue.proofs.StepFacts.{part, join}

-- what it knows and owes, and what the others do
pub record IsAmid {T : Type 0} (c : Contents T) (q : Queue T) (call : QueueCall T) (others : List (ActiveQueueCall T)) : Type 0 where
  pub blocks : Blocks T
  pub denotes : Denotes c blocks
  pub sound : SoundBlocks blocks q.items
  pub mine : Place (UnboundedCall T) T
  pub theirs : List (Place (UnboundedCall T) T)
  pub stands : IsAtBlocks call.state mine.action
  pub stand : AreAt IsAtBlocks others theirs
  pub fit : IsFit mine
  pub all_fit : Each IsFit theirs
  pub knows : KnowsBlocks blocks (act_of mine.action.action) mine.phase
  pub all_know : Each (λ (s : BlocksSeat T). KnowsBlocks blocks s.act s.phase) (map seat_of theirs)
  pub most : (d : Duty) → owners d (map seat_of theirs) + owes (act_of mine.action.action) d ≤ owed blocks d

pub amid : {T : Type 0} (chain : List ℕ) (c : Contents T) (q : Queue T) (l r : List (ActiveQueueCall T)) (call : QueueCall T) (p : Phase T)
    → FitsBy IsAtBlocks (UnboundedMeans chain c q) (l ++ seat call p ∷ r) → IsAmid c q call (l ++ r)
amid {T} chain c q l r call p (places, at, means) =
    let s = part IsAtBlocks l r (seat call p) places at in
    let m : UnboundedMeans chain c q (s.left ++ s.mine ∷ s.right) = subst (λ (ps : List (Place (UnboundedCall T) T)). UnboundedMeans chain c q ps) s.there means in
    let a = act_of s.mine.action.action in
    let among : BlocksMeans m.0 q (map seat_of s.left ++ seat_at a s.mine.phase ∷ map seat_of s.right) = mine_of chain c q s.left s.right s.mine.action s.mine.phase m in
    record {
      blocks = m.0;
      denotes = m.1;
      sound = among.stands.sound;
      mine = s.mine;
      theirs = s.left ++ s.right;
      stands = s.stands;
      stand = join IsAtBlocks l r s.left s.right s.lefts s.rights;
      fit = each_at IsFit s.left s.right s.mine m.3;
      all_fit = each_others IsFit s.left s.right s.mine m.3;
      knows = knows m.0 q (map seat_of s.left) (map seat_of s.right) a s.mine.phase among;
      all_know =
          subst (λ (ss : List (BlocksSeat T)). Each (λ (x : BlocksSeat T). KnowsBlocks m.0 x.act x.phase) ss) (sym (seats_without s.left s.right))
          (Each-out (λ (x : BlocksSeat T). KnowsBlocks m.0 x.act x.phase) (map seat_of s.left) (map seat_of s.right) (seat_at a s.mine.phase) among.seats);
      most = λ d.
          let h = its_owners m.0 q (map seat_of s.left) (map seat_of s.right) a s.mine.phase among d in
          let f = ap (λ (ss : List (BlocksSeat T)). owners d ss) (seats_without s.left s.right) in
          omega arith;
    }
