-- A world with no call under way is the state that its channel shows; one that was just opened is the start.
use Rattle.std.specs.Prelude.{◌≡◌, ◌∷◌}
use Rattle.channel_world.proofs.Words.{refl, ap, WorldState, WorldView, view_of, ℕ, List, [], map, Option, sym, subst, ◌∙◌, Queue, FitsAt, shows, Channel, parts_in, name_state_of, Shown, IsJustOpened, IsQuiet, NameState, CallUnderWay, start, Waiter, state_at, new_configuration, Configuration, ActiveCallWitness, all_seats, at_rest}

-- ---- what is inside a view, for the proofs of this crate alone

module _ {T : Type 0} where
  -- it is read off the equation, since no file but the view's own can name it
  abbrev pub opened : (w : WorldView T) → (f : WorldState T) × (view_of f ≡ w)
  opened w = (_, refl)

  abbrev pub world_state_of : WorldView T → WorldState T
  world_state_of w = (opened w).0

  -- what is shown so is what is inside
  pub inside_is : (f : WorldState T) (w : WorldView T) → view_of f ≡ w → f ≡ world_state_of w
  inside_is f w e = ap (λ (v : WorldView T). world_state_of v) e

module _ {T : Type 0} where
  -- in each configuration that it shows
  pub at_rest_is : (f : WorldState T) (s : Configuration T Waiter) → Shown f s → IsQuiet f → at_rest f ≡ state_at (name_state_of f) s
  at_rest_is f s sh quiet =
      let parts = parts_in f in
      let q : Queue T = sh.shows.queue in
      let none = nobody sh.shows.witnesses (sym sh.shows.parties_are ∙ ap (map (λ (c : CallUnderWay T). c.party)) quiet) in
      let fits : FitsAt s.blocks parts.cells q [] =
      subst (λ (xs : List (ActiveCallWitness T Waiter)). FitsAt s.blocks parts.cells q (all_seats xs)) none sh.shows.fits in
      let shown = shows parts.cells q [] (s.blocks, fits) in
      let held = sym (shown.at_rest refl).0 in
      let limit = sym shown.limit in
      let before = at_rest f in
      (λ i. record before { channel = record before.channel { messages = held i; capacity = limit i; closed = shown.flag i } })
      ∙ ap (λ (x : Channel T Waiter). state_at (name_state_of f) (record s { now = x })) (sym sh.shows.now)
    where
      nobody : (xs : List (ActiveCallWitness T Waiter)) → map (λ (x : ActiveCallWitness T Waiter). x.party) xs ≡ [] → xs ≡ []
      nobody [] e = refl
      nobody (x ∷ xs) e = absurd cc

  pub opened_is : (f : WorldState T) (capacity : Option ℕ) → IsJustOpened capacity f → IsQuiet f → at_rest f ≡ start capacity
  opened_is f capacity o quiet =
      at_rest_is f (new_configuration capacity) o.stands.shown quiet
      ∙ ap (λ (b : NameState T). state_at b (new_configuration capacity)) o.name_state
