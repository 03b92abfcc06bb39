-- An unbounded queue at its start.
use Rattle.std.proofs.Common.{◌≡◌, false, [], None, refl, inr, arith}
use Rattle.std.proofs.lemmas.Bool.{false≢true}
use Rattle.std.proofs.lemmas.Bool.Decides.{nat_tests}
use Rattle.concurrent_queue.specs.machine.BlocksState.{Blocks, unmade, Duty, fill, take, count, retire, link, turn_tail, turn_head, start, keep, owed}
use Rattle.concurrent_queue.specs.machine.BlocksMoves.{BlocksMeans}
use Rattle.concurrent_queue.specs.Queue.{Queue}
use Rattle.concurrent_queue.proofs.BlocksSteps.{taken_none}

abbrev pub first_blocks : {T : Type 0} → Blocks T
first_blocks = record {
  all = [];
  head = 0;
  head_turns = false;
  tail = 0;
  tail_turns = false;
  closed = false;
  first = 0;
  last = 0;
  num = λ k. 0;
  spot = λ b. unmade;
  cell = λ n. record { written = false; slot = None };
  block = λ k. record { linked = false; reads = 0; retired = false };
}

abbrev pub unbounded_queue : {T : Type 0} → Queue T
unbounded_queue = record { items = []; closed = false; coming = false; accepted = 0; removed = 0; capacity = None }

none_owed : (T : Type 0) (d : Duty) → 0 ≡ owed (first_blocks {T = T}) d
none_owed T (fill n) = grind (arith, nat_tests)
none_owed T (take n) = grind (arith, nat_tests)
none_owed T (count k) = let q = taken_none 0 k (omega arith) in omega (arith, q)
none_owed T (retire k) = refl
none_owed T (link k) = grind (arith, nat_tests)
none_owed T turn_tail = refl
none_owed T turn_head = refl
none_owed T start = refl
none_owed T (keep b) = refl

pub starts_well : {T : Type 0} → BlocksMeans (first_blocks {T = T}) unbounded_queue []
starts_well {T} = record {
  stands = record {
    sound = record {
      all = refl;
      items = refl;
      order = omega arith;
      fresh = λ n h. (refl, refl);
      full = λ n w h. absurd (false≢true w);
      last = λ o. inr (refl, refl);
      first = λ o. inr (refl, refl);
      inside = omega arith;
      reach = omega arith;
      paged = λ o. absurd (false≢true o);
      turned = λ o. absurd (false≢true o);
      unlinked = λ k h. refl;
      linked = λ k w. absurd (false≢true w);
      reads = λ k. omega arith;
      done = λ n z. absurd (omega arith);
      retired = λ k w. absurd (false≢true w);
      live = λ k h f. absurd (omega arith);
    };
    closed = refl;
    accepted = refl;
    removed = refl;
    coming = refl;
    capacity = refl;
  };
  owners = λ d. none_owed T d;
  seats = tt;
}
