-- What is said of the views alone, where one changes, one comes, or one is joined into another.
use Rattle.std.proofs.Common.{◌≡◌, ◌≢◌, ℕ, ◌⊎◌, inl, inr, ⊎_elim, true, false, List, [], ◌∷◌, ◌++◌, length, set, refl, sym, ap, ◌∙◌, subst}
use mathlib.Core.Option.{some, some-injective}
use lib.ListN.{get_elem?}
use Rattle.atomic_table.proofs.Lists.{at_set, at_longer, set_else}
use Rattle.concurrent_queue.specs.declared.cells.QueueForm.{QueueForm}
use Rattle.concurrent_queue.specs.history.Joined.{Lists, EachOnce, HasStood, AllStood, IsJoined}
use Rattle.concurrent_queue.specs.history.Shared.{AreSeated, both_views, spent_view}
use Rattle.concurrent_queue.specs.declared.history.rule.View.{View}
use Rattle.concurrent_queue.proofs.Guarding.{set_there}
use Rattle.concurrent_queue.specs.history.QueueKeeps.{at_end}

pub false_true : false ≢ true
false_true e = absurd (cc)

module _ {A : Type 0} where
  lists_parts : (p : ℕ) (l m : List (ℕ × A)) → Lists p (l ++ m) → Lists p l ⊎ Lists p m
  lists_parts p [] m h = inr h
  lists_parts p (x ∷ xs) m (inl e) = inl (inl e)
  lists_parts p (x ∷ xs) m (inr h) = ⊎_elim (λ t. inl (inr t)) (λ t. inr t) (lists_parts p xs m h)

  once_both : (l m : List (ℕ × A)) → EachOnce l → EachOnce m → ((p : ℕ) → Lists p l → Lists p m → ⊥) → EachOnce (l ++ m)
  once_both [] m a b apart = b
  once_both (x ∷ xs) m a b apart = (
    λ h. ⊎_elim (λ (t : Lists x.0 xs). a.0 t) (λ (t : Lists x.0 m). apart x.0 (inl refl) t) (lists_parts x.0 xs m h),
    once_both xs m a.1 b (λ p h g. apart p (inr h) g),
  )

module _ {T A : Type 0} where
  stood_both : (vs : List (View T A)) (l m : List (ℕ × A)) → AllStood vs l → AllStood vs m → AllStood vs (l ++ m)
  stood_both vs [] m a b = b
  stood_both vs (x ∷ xs) m a b = (a.0, stood_both vs xs m a.1 b)

  stood_still : (vs ws : List (View T A)) → ((x : ℕ × A) → HasStood vs x → HasStood ws x) → (l : List (ℕ × A)) → AllStood vs l → AllStood ws l
  stood_still vs ws go [] a = tt
  stood_still vs ws go (x ∷ xs) a = (go x a.0, stood_still vs ws go xs a.1)

  -- one that is listed is spent
  listed_spent : (vs : List (View T A)) (p : ℕ) (l : List (ℕ × A)) → AllStood vs l → Lists p l → (u : View T A) × (get_elem? vs p ≡ some u) × (u.spent ≡ true)
  listed_spent vs p [] a h = absurd h
  listed_spent vs p (x ∷ xs) a (inl e) = (a.0.0, subst (λ (q : ℕ). get_elem? vs q ≡ some a.0.0) e a.0.1, a.0.3)
  listed_spent vs p (x ∷ xs) a (inr h) = listed_spent vs p xs a.1 h

  -- so who acts is not listed
  pub unlisted : (vs : List (View T A)) (id : ℕ) (v : View T A) → get_elem? vs id ≡ some v → v.spent ≡ false → (l : List (ℕ × A)) → AllStood vs l → Lists id l → ⊥
  unlisted vs id v at live l a h =
      let s = listed_spent vs id l a h in
      let same : v ≡ s.0 = some-injective v s.0 (sym at ∙ s.1) in
      false_true (sym live ∙ (ap (λ (u : View T A). u.spent) same ∙ s.2))

  acts_apart : (vs : List (View T A)) (id : ℕ) (v : View T A) → get_elem? vs id ≡ some v → v.spent ≡ false → (x : ℕ × A) → HasStood vs x → x.0 ≢ id
  acts_apart vs id v at live x h e = unlisted vs id v at live (x ∷ []) (h, tt) (inl e)

  -- ---- a view changes, and lists whom it listed, or nobody

  abbrev pub ListsNoMore : View T A → View T A → Type 0
  ListsNoMore w v = (w.over ≡ v.over) ⊎ (w.over ≡ [])

  no_more_lists : (u o : View T A) (p : ℕ) → ListsNoMore u o → Lists p u.over → Lists p o.over
  no_more_lists u o p (inl e) h = subst (λ (l : List (ℕ × A)). Lists p l) e h
  no_more_lists u o p (inr e) h = absurd (subst (λ (l : List (ℕ × A)). Lists p l) e h)

  no_more_stood : (vs : List (View T A)) (u o : View T A) → ListsNoMore u o → AllStood vs o.over → AllStood vs u.over
  no_more_stood vs u o (inl e) h = subst (λ (l : List (ℕ × A)). AllStood vs l) (sym e) h
  no_more_stood vs u o (inr e) h = subst (λ (l : List (ℕ × A)). AllStood vs l) (sym e) tt

  no_more_once : (u o : View T A) → ListsNoMore u o → EachOnce o.over → EachOnce u.over
  no_more_once u o (inl e) h = subst (λ (l : List (ℕ × A)). EachOnce l) (sym e) h
  no_more_once u o (inr e) h = subst (λ (l : List (ℕ × A)). EachOnce l) (sym e) tt

  module _ (vs : List (View T A)) (id : ℕ) (v w : View T A) (at : get_elem? vs id ≡ some v) where
    was : ListsNoMore w v → (j : ℕ) (u : View T A) → get_elem? (set vs id w) j ≡ some u → (o : View T A) × (get_elem? vs j ≡ some o) × ListsNoMore u o
    was same j u e = ⊎_elim
        (λ (t : (j ≡ id) × (w ≡ u)). (v, ap (get_elem? vs) t.0 ∙ at, subst (λ (y : View T A). ListsNoMore y v) t.1 same))
        (λ (t : (j ≢ id) × (get_elem? vs j ≡ some u)). (u, t.1, inl refl))
        (at_set vs id j w u e)

    stays : v.spent ≡ false → (x : ℕ × A) → HasStood vs x → HasStood (set vs id w) x
    stays live x h = (h.0, set_else vs id x.0 w (acts_apart vs id v at live x h) ∙ h.1, h.2, h.3)

    joined_set : ListsNoMore w v → v.spent ≡ false → IsJoined vs → IsJoined (set vs id w)
    joined_set same live r = record {
      stood = λ j u e.
          let o = was same j u e in
          no_more_stood (set vs id w) u o.0 o.2 (stood_still vs (set vs id w) (stays live) o.0.over (r.stood j o.0 o.1));
      once = λ j u e. let o = was same j u e in no_more_once u o.0 o.2 (r.once j o.0 o.1);
      apart = λ j k u y p e f h g.
          let o = was same j u e in
          let q = was same k y f in
          r.apart j k o.0 q.0 p o.1 q.1 (no_more_lists u o.0 p o.2 h) (no_more_lists y q.0 p q.2 g);
    }

  -- ---- a view more, which lists nobody

  joined_more : (vs : List (View T A)) (w : View T A) → w.over ≡ [] → IsJoined vs → IsJoined (vs ++ w ∷ [])
  joined_more vs w none r = record {
    stood = λ j u e. ⊎_elim
        (λ (t : (j ≡ length vs) × (w ≡ u)). subst (λ (l : List (ℕ × A)). AllStood (vs ++ w ∷ []) l) (sym (lists_none u t.1)) tt)
        (λ (t : get_elem? vs j ≡ some u). stood_still vs (vs ++ w ∷ []) (λ x h. (h.0, at_longer vs (w ∷ []) x.0 h.0 h.1, h.2, h.3)) u.over (r.stood j u t))
        (at_end vs w u j e);
    once = λ j u e. ⊎_elim
        (λ (t : (j ≡ length vs) × (w ≡ u)). subst (λ (l : List (ℕ × A)). EachOnce l) (sym (lists_none u t.1)) tt)
        (λ (t : get_elem? vs j ≡ some u). r.once j u t)
        (at_end vs w u j e);
    apart = λ j k u y p e f h g. ⊎_elim
        (λ (t : (j ≡ length vs) × (w ≡ u)). absurd (subst (λ (l : List (ℕ × A)). Lists p l) (lists_none u t.1) h))
        (λ (t : get_elem? vs j ≡ some u). ⊎_elim
        (λ (z : (k ≡ length vs) × (w ≡ y)). absurd (subst (λ (l : List (ℕ × A)). Lists p l) (lists_none y z.1) g))
        (λ (z : get_elem? vs k ≡ some y). r.apart j k u y p t z h g)
        (at_end vs w y k f))
        (at_end vs w u j e);
  }
    where
      lists_none : (u : View T A) → w ≡ u → u.over ≡ []
      lists_none u e = ap (λ (y : View T A). y.over) (sym e) ∙ none

  -- ---- one party is joined into another's view

  module _ (vs : List (View T A)) (id other : ℕ) (v w : View T A) (at : get_elem? vs id ≡ some v) (there : get_elem? vs other ≡ some w) (two : other ≢ id) (live : v.spent ≡ false) (still : w.spent ≡ false) (who : w.who ≡ other) where
    abbrev both : View T A
    both = both_views v w

    abbrev after : List (View T A)
    after = set (set vs id both) other (spent_view w)

    at_mid : get_elem? (set vs id both) other ≡ some w
    at_mid = set_else vs id other both two ∙ there

    at_last : get_elem? after other ≡ some (spent_view w)
    at_last = set_there (set vs id both) other w (spent_view w) at_mid

    -- a view of the table after it
    abbrev Came : ℕ → View T A → Type 0
    Came j u = ((j ≡ id) × (u ≡ both)) ⊎ (((j ≡ other) × (u ≡ spent_view w)) ⊎ ((j ≢ id) × (j ≢ other) × (get_elem? vs j ≡ some u)))

    came : (j : ℕ) (u : View T A) → get_elem? after j ≡ some u → Came j u
    came j u e = ⊎_elim
        (λ (t : (j ≡ other) × (spent_view w ≡ u)). inr (inl (t.0, sym t.1)))
        (λ (t : (j ≢ other) × (get_elem? (set vs id both) j ≡ some u)). ⊎_elim
        (λ (z : (j ≡ id) × (both ≡ u)). inl (z.0, sym z.1))
        (λ (z : (j ≢ id) × (get_elem? vs j ≡ some u)). inr (inr (z.0, t.0, z.1)))
        (at_set vs id j both u t.1))
        (at_set (set vs id both) other j (spent_view w) u e)

    remains : (x : ℕ × A) → HasStood vs x → HasStood after x
    remains x h =
        (h.0, set_else (set vs id both) other x.0 (spent_view w) (acts_apart vs other w there still x h) ∙ (set_else vs id x.0 both (acts_apart vs id v at live x h) ∙ h.1), h.2, h.3)

    itself : HasStood after (w.who, w.state)
    itself = (spent_view w, ap (get_elem? after) who ∙ at_last, refl, refl)

    module _ (r : IsJoined vs) where
      both_stood : AllStood after both.over
      both_stood = stood_both after v.over ((w.who, w.state) ∷ w.over) (stood_still vs after remains v.over (r.stood id v at)) (itself, stood_still vs after remains w.over (r.stood other w there))

      out_of : (l : List (ℕ × A)) → AllStood vs l → Lists w.who l → ⊥
      out_of l a h = unlisted vs other w there still l a (subst (λ (p : ℕ). Lists p l) who h)

      no_both : (p : ℕ) → Lists p v.over → Lists p ((w.who, w.state) ∷ w.over) → ⊥
      no_both p h (inl e) = out_of v.over (r.stood id v at) (subst (λ (q : ℕ). Lists q v.over) (sym e) h)
      no_both p h (inr g) = two (sym (r.apart id other v w p at there h g))

      both_once : EachOnce both.over
      both_once = once_both v.over ((w.who, w.state) ∷ w.over) (r.once id v at) (out_of w.over (r.stood other w there), r.once other w there) no_both

      -- nobody is listed by both and by a third
      third : (p k : ℕ) (u : View T A) → get_elem? vs k ≡ some u → k ≢ id → k ≢ other → Lists p u.over → Lists p both.over → ⊥
      third p k u e far apart g h = ⊎_elim
          (λ (t : Lists p v.over). far (r.apart k id u v p e at g t))
          (λ (t : Lists p ((w.who, w.state) ∷ w.over)). ⊎_elim
          (λ (q : w.who ≡ p). out_of u.over (r.stood k u e) (subst (λ (x : ℕ). Lists x u.over) (sym q) g))
          (λ (q : Lists p w.over). apart (r.apart k other u w p e there g q))
          t)
          (lists_parts p v.over ((w.who, w.state) ∷ w.over) h)

      listed : (p : ℕ) (u y : View T A) → u ≡ y → Lists p u.over → Lists p y.over
      listed p u y e h = subst (λ (z : View T A). Lists p z.over) e h

      alone : (j k : ℕ) (u y : View T A) (p : ℕ) → Came j u → Came k y → Lists p u.over → Lists p y.over → j ≡ k
      alone j k u y p (inl a) (inl b) h g = a.0 ∙ sym b.0
      alone j k u y p (inl a) (inr (inl b)) h g = absurd (listed p y (spent_view w) b.1 g)
      alone j k u y p (inl a) (inr (inr b)) h g = absurd (third p k y b.2 b.0 b.1 g (listed p u both a.1 h))
      alone j k u y p (inr (inl a)) b h g = absurd (listed p u (spent_view w) a.1 h)
      alone j k u y p (inr (inr a)) (inl b) h g = absurd (third p j u a.2 a.0 a.1 h (listed p y both b.1 g))
      alone j k u y p (inr (inr a)) (inr (inl b)) h g = absurd (listed p y (spent_view w) b.1 g)
      alone j k u y p (inr (inr a)) (inr (inr b)) h g = r.apart j k u y p a.2 b.2 h g

      stands_after : (j : ℕ) (u : View T A) → Came j u → AllStood after u.over
      stands_after j u (inl a) = subst (λ (z : View T A). AllStood after z.over) (sym a.1) both_stood
      stands_after j u (inr (inl a)) = subst (λ (z : View T A). AllStood after z.over) (sym a.1) tt
      stands_after j u (inr (inr a)) = stood_still vs after remains u.over (r.stood j u a.2)

      once_after : (j : ℕ) (u : View T A) → Came j u → EachOnce u.over
      once_after j u (inl a) = subst (λ (z : View T A). EachOnce z.over) (sym a.1) both_once
      once_after j u (inr (inl a)) = subst (λ (z : View T A). EachOnce z.over) (sym a.1) tt
      once_after j u (inr (inr a)) = r.once j u a.2

      pub joined_join : IsJoined after
      joined_join = record {
        stood = λ j u e. stands_after j u (came j u e);
        once = λ j u e. once_after j u (came j u e);
        apart = λ j k u y p e f h g. alone j k u y p (came j u e) (came k y f) h g;
      }

module _ {T A : Type 0} where
  -- the view says this number, if it says one
  abbrev pub IsNamed : ℕ → View T A → Type 0
  IsNamed j v = v.nameless ≡ false → v.who ≡ j

module _ {T A : Type 0} (form : QueueForm) where
  -- ---- all that is said of the views

  abbrev Named : List (View T A) → Type 0
  Named vs = (j : ℕ) (v : View T A) → get_elem? vs j ≡ some v → IsNamed j v × (v.form ≡ form)

  named_set : (vs : List (View T A)) (id : ℕ) (v w : View T A) → get_elem? vs id ≡ some v → (IsNamed id v → IsNamed id w) → w.form ≡ v.form → Named vs → Named (set vs id w)
  named_set vs id v w at who kind all j u e = ⊎_elim
      (λ (t : (j ≡ id) × (w ≡ u)).
      let n = all id v at in
      (subst (λ (k : ℕ). IsNamed k u) (sym t.0) (subst (λ (y : View T A). IsNamed id y) t.1 (who n.0)), ap (λ (y : View T A). y.form) (sym t.1) ∙ (kind ∙ n.1)))
      (λ (t : (j ≢ id) × (get_elem? vs j ≡ some u)). all j u t.1)
      (at_set vs id j w u e)

  -- a view changes where its seat steps, and the flag is raised or stays
  pub seats_step : (f f' : ℕ) (vs : List (View T A)) (id : ℕ) (v w : View T A) → get_elem? vs id ≡ some v → (IsNamed id v → IsNamed id w) → w.form ≡ v.form → ListsNoMore w v → v.spent ≡ false → (f ≢ 0 → f' ≢ 0) → (w.foreign ≡ true → f' ≢ 0)
      → AreSeated form f vs → AreSeated form f' (set vs id w)
  seats_step f f' vs id v w at who kind over live raised mine r = record {
    named = named_set vs id v w at who kind r.named;
    admitted = λ j u e is. ⊎_elim
        (λ (t : (j ≡ id) × (w ≡ u)). mine (ap (λ (y : View T A). y.foreign) t.1 ∙ is))
        (λ (t : (j ≢ id) × (get_elem? vs j ≡ some u)). raised (r.admitted j u t.1 is))
        (at_set vs id j w u e);
    joined = joined_set vs id v w at over live r.joined;
  }

  -- a seat more
  pub seats_more : (f : ℕ) (vs : List (View T A)) (w : View T A) → IsNamed (length vs) w → w.form ≡ form → w.over ≡ [] → (w.foreign ≡ true → f ≢ 0) → AreSeated form f vs → AreSeated form f (vs ++ w ∷ [])
  seats_more f vs w who kind over mine r = record {
    named = λ j u e. ⊎_elim
        (λ (t : (j ≡ length vs) × (w ≡ u)). (subst (λ (k : ℕ). IsNamed k u) (sym t.0) (subst (λ (y : View T A). IsNamed (length vs) y) t.1 who), ap (λ (y : View T A). y.form) (sym t.1) ∙ kind))
        (λ (t : get_elem? vs j ≡ some u). r.named j u t)
        (at_end vs w u j e);
    admitted = λ j u e is. ⊎_elim
        (λ (t : (j ≡ length vs) × (w ≡ u)). mine (ap (λ (y : View T A). y.foreign) t.1 ∙ is))
        (λ (t : get_elem? vs j ≡ some u). r.admitted j u t is)
        (at_end vs w u j e);
    joined = joined_more vs w over r.joined;
  }

  -- one is joined into another
  pub seats_join : (f : ℕ) (vs : List (View T A)) (id other : ℕ) (v w : View T A) → get_elem? vs id ≡ some v → get_elem? vs other ≡ some w → other ≢ id → v.spent ≡ false → w.spent ≡ false → w.nameless ≡ false → AreSeated form f vs
      → AreSeated form f (set (set vs id (both_views v w)) other (spent_view w))
  seats_join f vs id other v w at there two live still name r =
      let mid : get_elem? (set vs id (both_views v w)) other ≡ some w = set_else vs id other (both_views v w) two ∙ there in
      record {
        named = named_set (set vs id (both_views v w)) other w (spent_view w) mid (λ k. k) refl (named_set vs id v (both_views v w) at (λ k. k) refl r.named);
        admitted = λ j u e is. ⊎_elim
            (λ (t : (j ≡ other) × (spent_view w ≡ u)). r.admitted other w there (ap (λ (y : View T A). y.foreign) t.1 ∙ is))
            (λ (t : (j ≢ other) × (get_elem? (set vs id (both_views v w)) j ≡ some u)). ⊎_elim
            (λ (z : (j ≡ id) × (both_views v w ≡ u)). r.admitted id v at (ap (λ (y : View T A). y.foreign) z.1 ∙ is))
            (λ (z : (j ≢ id) × (get_elem? vs j ≡ some u)). r.admitted j u z.1 is)
            (at_set vs id j (both_views v w) u t.1))
            (at_set (set vs id (both_views v w)) other j (spent_view w) u e);
        joined = joined_join vs id other v w at there two live still ((r.named other w there).0 name) r.joined;
      }
