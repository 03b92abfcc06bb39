-- A step of the only call under way, from how its stage moves.
use Rattle.std.proofs.Common.{◌≡◌, ℕ, List, [], ◌∷◌, ◌++◌, Option, None, Some, refl, sym, append-nil}
use Rattle.channel_steps.proofs.Words.{Phase, Channel, Effect, Moves, Mark, Reply, Returned, Stage, Finished, ActiveCall, Configuration, does, gone_by, came_by, unless_ended, Known, IsBalanced, MayFinish, Steps}
use Rattle.channel_steps.proofs.OwnFacts.{names_of, moves_held, own_finishes, own_in_time}

module _ {T W : Type 0} where
  -- the configuration after a step of the call u, which leaves these blocks, where no other is under way
  abbrev pub after_lone : Configuration T W → ActiveCall T W → Stage (Phase T) T W → Mark → Option (Reply T) → List ℕ → Channel T W → Configuration T W
  after_lone s u at m r blocks d =
      record {
        now = d;
        blocks = blocks;
        under_way = unless_ended (does u at m s.now d) r;
        gone = s.gone ++ gone_by m s.now.queue.items;
        came = s.came ++ came_by m u.ask;
      }

  module _ (s : Configuration T W) (u : ActiveCall T W) (only : s.under_way ≡ u ∷ []) (known : Known s.now u) (bal : IsBalanced s.now.queue)
      (m : Mark) (names : List W) (blocks : List ℕ) (d : Channel T W) (at : Stage (Phase T) T W) where
    abbrev effect : Effect T W
    effect = record { channel = d; mark = m; woken = names }

    lone : (r : Option (Reply T)) (left : Option (Returned T)) → MayFinish (does u at m s.now d) r left → Moves s.now u.at effect r at
        → Steps s u.party (record { mark = m; reply = r; kept = left }) names (after_lone s u at m r blocks d)
    lone r left ends moves =
        record {
          before = [];
          mine = u;
          behind = [];
          at_now = at;
          there = only;
          whose = refl;
          moves = moves;
          left = sym (append-nil (unless_ended (does u at m s.now d) r));
          named = names_of s.now u.at effect r at moves;
          finishes = ends;
          quick = own_in_time s.now u bal known m d names at r moves;
          gone = refl;
          came = refl;
          held = moves_held s.now u.ask u.at u.marks u.seen effect r at known.stands moves;
        }

    -- one that does not answer
    pub lone_goes : Moves s.now u.at effect None at
        → Steps s u.party (record { mark = m; reply = None; kept = None }) names (after_lone s u at m None blocks d)
    lone_goes moves = lone None None refl moves

    -- one that answers, and leaves this to its operation
    pub lone_ends : (y : Reply T) (left : Returned T) → ((kept : Returned T) → at ≡ Finished kept → left ≡ kept)
        → Moves s.now u.at effect (Some y) at
        → Steps s u.party (record { mark = m; reply = Some y; kept = Some left }) names (after_lone s u at m (Some y) blocks d)
    lone_ends y left same moves = lone (Some y) (Some left) (own_finishes s.now u bal known m d names at y left same moves) moves
