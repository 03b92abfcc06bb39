-- What is left of a seat that took the lock of the spare list, went on, and gave the lock back.
use Rattle.std.proofs.Common.{◌≡◌, Bool, true, false, ◌||◌, refl, sym, ap, ◌∙◌}
use Rattle.std.specs.Prelude.{Option, None}
use Rattle.std.specs.declared.alloc.Global.{Global}
use Rattle.growing_table.specs.State.{Me, me}
use Rattle.growing_table.specs.Seats.{me_of, makes_blocks, Sits, IsSame, Follows}
use Rattle.growing_table.specs.declared.seat.GrowingSeat.{GrowingSeat}
use Rattle.growing_table.specs.declared.seat.Place.{Place}
use Rattle.growing_table.specs.declared.table.GrowingTable.{GrowingTable}
use Rattle.concurrent_queue.specs.Bridge.{Event}
use Rattle.concurrent_queue.specs.declared.cells.QueueForm.{QueueForm}
use Rattle.concurrent_queue.specs.declared.cells.QueueForm.TheVariants.{Unbounded}
use Rattle.concurrent_queue.specs.declared.history.rule.View.{View}
use Rattle.concurrent_queue.specs.history.Shared.{going_on}
use Rattle.unbounded_cells.specs.SeatTold.{without_lock}
use Rattle.unbounded_cells.specs.Seated.{party_of, HasNoSlot, HasNoLock, KnowsPlace}
use Rattle.unbounded_cells.specs.SpareTold.{GoesOn, IsLocked}
use Rattle.unbounded_cells.specs.Told.{on_with}
use Rattle.unbounded_cells.specs.declared.rule.BlockView.{BlockView}

neither : (x y : Bool) → y ≡ false → (x || y) ≡ x
neither true y e = refl
neither false y e = e

module _ {T A : Type 0} where
  pub same_then : (a b c : GrowingSeat T (BlockView T A) Global) → IsSame a b → IsSame b c → IsSame a c
  same_then a b c f g = (g.0 ∙ f.0, g.1 ∙ f.1, g.2 ∙ f.2, g.3 ∙ f.3, λ k p e. g.4 k p (f.4 k p e))

  pub sits_same : {P : Type 0} → (t : GrowingTable T (BlockView T A) (Unit {0}) P Global) (a b : GrowingSeat T (BlockView T A) Global) → IsSame a b → Sits t a → Sits t b
  sits_same t a b f h = (f.0 ∙ h.0, f.1 ∙ h.1, f.3 ∙ h.2)

  pub knows_same : (a b : GrowingSeat T (BlockView T A) Global) (last : Option (Place T)) → IsSame a b → KnowsPlace a last → KnowsPlace b last
  knows_same a b last f h place at = f.4 _ _ (h place at)

  -- the seat's party has gone on, and nothing else of it has changed
  pub record WentOn (a b : GrowingSeat T (BlockView T A) Global) : Type 0 where
    pub same : IsSame a b
    pub party : party_of b ≡ going_on (party_of a) (party_of b).state
    pub held : (me_of b).view.held ≡ (me_of a).view.held
    pub hand : (me_of b).hand ≡ (me_of a).hand
    pub keeper : (me_of b).view.keeper ≡ (me_of a).view.keeper
    pub maker : makes_blocks b ≡ makes_blocks a

  went_by : (a b : GrowingSeat T (BlockView T A) Global) (x : A) → IsSame a b → makes_blocks b ≡ makes_blocks a → me_of b ≡ me (on_with (me_of a).view x) (me_of a).hand → WentOn a b
  went_by a b x f made e = record {
    same = f;
    party = ap (λ (y : Me (Option T) (BlockView T A)). y.view.party) e ∙ ap (going_on (party_of a)) (sym (ap (λ (y : Me (Option T) (BlockView T A)). y.view.party.state) e));
    held = ap (λ (y : Me (Option T) (BlockView T A)). y.view.held) e;
    hand = ap (λ (y : Me (Option T) (BlockView T A)). y.hand) e;
    keeper = ap (λ (y : Me (Option T) (BlockView T A)). y.view.keeper) e;
    maker = made;
  }

  -- from there
  module _ (a b : GrowingSeat T (BlockView T A) Global) (w : WentOn a b) where
    pub free_now : HasNoSlot a → HasNoSlot b
    free_now h = (w.hand ∙ h.0, w.held ∙ h.1)

    pub unlocked_now : HasNoLock a → HasNoLock b
    unlocked_now h = (w.keeper ∙ h.0, w.maker ∙ h.1)

    pub formed_now : (party_of a).form ≡ Unbounded → (party_of b).form ≡ Unbounded
    formed_now h = ap (λ (p : View T A). p.form) w.party ∙ h

    pub live_now : (party_of a).spent ≡ false → (party_of b).spent ≡ false
    live_now h = ap (λ (p : View T A). p.spent) w.party ∙ h

    pub named_now : (party_of a).nameless ≡ false → (party_of b).nameless ≡ false
    named_now h = ap (λ (p : View T A). p.nameless) w.party ∙ h

  -- by a step at which its machine goes on, and by one at which it takes something in
  pub went_to : (a b : GrowingSeat T (BlockView T A) Global) (x : A) → Follows a b → me_of b ≡ me (on_with (me_of a).view x) (me_of a).hand → WentOn a b
  went_to a b x f e = went_by a b x f.0 f.1 e

  pub took_in : (a b c : GrowingSeat T (BlockView T A) Global) (x : A) → HasNoLock c → IsSame a b → makes_blocks b ≡ (makes_blocks a || makes_blocks c) → me_of b ≡ me (on_with (me_of a).view x) (me_of a).hand → WentOn a b
  took_in a b c x other f made e = went_by a b x f (made ∙ neither (makes_blocks a) (makes_blocks c) other.1) e

  -- a round: the lock is taken, the party goes on, and the lock is given back
  pub round : (a b c d : GrowingSeat T (BlockView T A) Global) → HasNoLock a → IsSame a b → IsLocked (me_of a) (me_of b) → IsSame b c → GoesOn (me_of b) (me_of c) → IsSame c d → makes_blocks d ≡ false
      → me_of d ≡ me (without_lock (me_of c).view) (me_of c).hand → WentOn a d
  round a b c d free f l g goes h maker u = record {
    same = same_then a c d (same_then a b c f g) h;
    party = ap (λ (y : Me (Option T) (BlockView T A)). y.view.party) u
        ∙ (goes.0 ∙ (ap (λ (p : View T A). going_on p (party_of c).state) (ap (λ (y : Me (Option T) (BlockView T A)). y.view.party) l.1) ∙ ap (going_on (party_of a)) (sym (ap (λ (y : Me (Option T) (BlockView T A)). y.view.party.state) u))));
    held = ap (λ (y : Me (Option T) (BlockView T A)). y.view.held) u ∙ (goes.1 ∙ ap (λ (y : Me (Option T) (BlockView T A)). y.view.held) l.1);
    hand = ap (λ (y : Me (Option T) (BlockView T A)). y.hand) u ∙ (goes.3 ∙ ap (λ (y : Me (Option T) (BlockView T A)). y.hand) l.1);
    keeper = ap (λ (y : Me (Option T) (BlockView T A)). y.view.keeper) u ∙ sym free.0;
    maker = maker ∙ sym free.1;
  }

  -- the state at which the seat was before, and is after it
  pub state_locked : (a b : GrowingSeat T (BlockView T A) Global) → IsLocked (me_of a) (me_of b) → (party_of b).state ≡ (party_of a).state
  state_locked a b l = ap (λ (y : Me (Option T) (BlockView T A)). y.view.party.state) l.1
