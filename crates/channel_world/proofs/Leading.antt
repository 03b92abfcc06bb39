-- What leads on, with one more reply and with none.
use Rattle.std.specs.Prelude.{◌≡◌, ◌≤◌, ◌∷◌, ◌++◌}
use Rattle.channel_world.proofs.Words.{ℕ, Option, None, Some, IfSome, length, refl, sym, ap, ◌∙◌, subst, capacity_of, Queue, shows, Channel, parts_in, messages_in, Stands, WorldState, Waiter, all_seats, List, [], map, append-nil, Reply, leads_on, replied_in, polls_replied, Settled}
use Rattle.channel_world_runs.specs.WorldState.{LeadsOn}
use Rattle.channel_world_model.specs.declared.run.Done.{Done}

-- ---- a world holds no more than fits

if_some : (P : ℕ → Type 0) (o : Option ℕ) → ((n : ℕ) → o ≡ Some n → P n) → IfSome o P
if_some P None h = tt
if_some P (Some n) h = h n refl

module _ {T : Type 0} where
  pub holds_what_fits : (w : WorldState T) → Stands w → IfSome (capacity_of (parts_in w).cells.form) (λ most. messages_in w ≤ most)
  holds_what_fits w k =
      let sh = k.stands.shown in
      let q : Queue T = sh.shows.queue in
      let shown = shows (parts_in w).cells q (all_seats sh.shows.witnesses) (_, sh.shows.fits) in
      let held : messages_in w ≡ length q.items = sh.messages ∙ ap (λ (c : Channel T Waiter). length c.queue.items) sh.shows.now in
      if_some (λ most. messages_in w ≤ most) (capacity_of (parts_in w).cells.form)
      (λ most e. subst (λ (n : ℕ). n ≤ most) (sym held) (shown.within most (shown.limit ∙ e)))

map_more : {A B : Type 0} (f : A → B) (xs : List A) (x : A) → map f (xs ++ x ∷ []) ≡ map f xs ++ f x ∷ []
map_more f [] x = refl
map_more {B} f (y ∷ xs) x = ap (λ (ys : List B). f y ∷ ys) (map_more f xs x)

module _ {T : Type 0} where
  -- the same calls were made
  pub leads_same : (f g : WorldState T) (ds es : List (Done T)) → es ≡ ds → LeadsOn f (replied_in ds) g → LeadsOn f (replied_in es) g
  leads_same f g ds es is leads = subst (λ (xs : List (Done T)). LeadsOn f (replied_in xs) g) (sym is) leads

  -- one more was made
  pub leads_answered : (f g h : WorldState T) (ds es : List (Done T)) (d : Done T) → es ≡ ds ++ d ∷ [] → LeadsOn f (replied_in ds) g
      → LeadsOn g (d.reply ∷ []) h → LeadsOn f (replied_in es) h
  leads_answered f g h ds es d is first second =
      leads_same f h (ds ++ d ∷ []) es is
      (subst (λ (rs : List (Reply T)). LeadsOn f rs h) (sym (map_more (λ (x : Done T). x.reply) ds d))
      (leads_on f g h (replied_in ds) (d.reply ∷ []) first second))

  -- none was
  pub leads_still : (f g h : WorldState T) (ds es : List (Done T)) → es ≡ ds → LeadsOn f (replied_in ds) g → LeadsOn g [] h
      → LeadsOn f (replied_in es) h
  leads_still f g h ds es is first second =
      leads_same f h ds es is
      (subst (λ (rs : List (Reply T)). LeadsOn f rs h) (append-nil (replied_in ds)) (leads_on f g h (replied_in ds) [] first second))

  -- one more was polled
  pub leads_polled : (f g h : WorldState T) (ps qs : List (Settled T)) (p : Settled T) → qs ≡ ps ++ p ∷ [] → LeadsOn f (polls_replied ps) g
      → LeadsOn g (p.reply ∷ []) h → LeadsOn f (polls_replied qs) h
  leads_polled f g h ps qs p is first second =
      subst (λ (xs : List (Settled T)). LeadsOn f (polls_replied xs) h) (sym is)
      (subst (λ (rs : List (Reply T)). LeadsOn f rs h) (sym (map_more (λ (x : Settled T). x.reply) ps p))
      (leads_on f g h (polls_replied ps) (p.reply ∷ []) first second))
