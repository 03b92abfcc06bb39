-- The names of those that listen on one list, in its order.
use Rattle.std.specs.Prelude.{◌≡◌, ◌≤◌, ◌∷◌, ◌++◌, ◌⊎◌}
use Rattle.channel_world_runs.proofs.Lemmas.{AllZip, Bool, true, false, List, [], length, Option, Some, inl, inr, refl, sym, ap, ◌∙◌, subst, arith, keys_of, Notice, Key, WaitList, Sends, MayBeTold, EachTold, IsIn, absent_counts, same_refl, same_sound, decided, or_true, KeysHeld, Kind, times, same_waiter, is_among, Waiter, IsAmong, NoneTwice, AreUntold, IsToldSo, AreToldInTurn, AllZip-long, zip_append}
use Rattle.channel_world_runs.proofs.OwnerWokenLists.{key_of_entry}

-- ---- keys

module _ {X : Type 0} where
  -- no two entries have the same key
  pub same_entry : (e f : Key × X) (es : List (Key × X)) → NoneTwice (keys_of es) → e.0 ≡ f.0 → IsAmong e es → IsAmong f es
      → e ≡ f
  same_entry e f [] once k i j = absurd i
  same_entry e f (x ∷ es) once k (inl a) (inl b) = sym a ∙ b
  same_entry e f (x ∷ es) once k (inl a) (inr j) =
      absurd (once.0 (subst (λ (y : Key). IsAmong y (keys_of es)) (sym (ap (λ (z : Key × X). z.0) a ∙ k)) (key_of_entry f es j)))
  same_entry e f (x ∷ es) once k (inr i) (inl b) =
      absurd (once.0 (subst (λ (y : Key). IsAmong y (keys_of es)) (k ∙ sym (ap (λ (z : Key × X). z.0) b)) (key_of_entry e es i)))
  same_entry e f (x ∷ es) once k (inr i) (inr j) = same_entry e f es once.1 k i j

  pub all_keys : (es : List (Key × X)) → length (keys_of es) ≡ length es
  all_keys [] = refl
  all_keys (e ∷ es) = let h = all_keys es in omega (arith, h)

-- ---- names beside keys

module _ (Has : Key → Waiter → Type 0) where
  -- each of these keys is had by the name at the same place
  abbrev pub Stand : List Key → List Waiter → Type 0
  Stand ks ws = AllZip Has ks ws

  pub named_all : (ks : List Key) → ((key : Key) → IsAmong key ks → (w : Waiter) × Has key w)
      → (ws : List Waiter) × Stand ks ws
  named_all [] f = ([], tt)
  named_all (k ∷ ks) f =
      let one = f k (inl refl) in
      let more = named_all ks (λ key i. f key (inr i)) in
      (one.0 ∷ more.0, (one.1, more.1))

  pub stand_join : (ks ls : List Key) (vs ws : List Waiter) → Stand ks vs → Stand ls ws → Stand (ks ++ ls) (vs ++ ws)
  stand_join ks ls vs ws h g = zip_append Has ks ls vs ws h g

  pub stand_length : (ks : List Key) (ws : List Waiter) → Stand ks ws → length ws ≡ length ks
  stand_length ks ws h = AllZip-long Has ks ws h

  -- each that is among them has one of the keys
  pub stand_key : (ks : List Key) (ws : List Waiter) (w : Waiter) → Stand ks ws → is_among w ws ≡ true
      → (key : Key) × IsAmong key ks × Has key w
  stand_key [] [] w h e = absurd (let no : false ≡ true = e in cc)
  stand_key (k ∷ ks) (v ∷ ws) w h e = by (or_true (same_waiter w v) (is_among w ws) e) (stand_key ks ws w h.1)
    where
      by : (same_waiter w v ≡ true) ⊎ (is_among w ws ≡ true)
          → (is_among w ws ≡ true → (key : Key) × IsAmong key ks × Has key w)
          → (key : Key) × IsAmong key (k ∷ ks) × Has key w
      by (inl same) on = (k, inl refl, subst (λ (x : Waiter). Has k x) (sym (same_sound w v same)) h.0)
      by (inr i) on = let more = on i in (more.0, inr more.1, more.2)
  stand_key ks ws w h e = absurd h

  pub stand_none : (ks : List Key) (ws : List Waiter) (w : Waiter) → Stand ks ws
      → ((key : Key) → IsAmong key ks → Has key w → ⊥) → times w ws ≡ 0
  stand_none ks ws w h none = by (decided (is_among w ws))
    where
      by : (is_among w ws ≡ true) ⊎ (is_among w ws ≡ false) → times w ws ≡ 0
      by (inl i) = let found = stand_key ks ws w h i in absurd (none found.0 found.1 found.2)
      by (inr out) = absent_counts w ws out

  -- a name has one key alone: so it stands no more than once
  pub stand_once : (ks : List Key) (ws : List Waiter) (w : Waiter) → NoneTwice ks → ((j k : Key) → Has j w → Has k w → j ≡ k)
      → Stand ks ws → times w ws ≤ 1
  stand_once [] [] w once apart h = omega arith
  stand_once (k ∷ ks) (v ∷ ws) w once apart h = by (decided (same_waiter w v)) (stand_once ks ws w once.1 apart h.1)
    where
      by : (same_waiter w v ≡ true) ⊎ (same_waiter w v ≡ false) → times w ws ≤ 1 → times w (v ∷ ws) ≤ 1
      by (inl same) on =
          let mine : Has k w = subst (λ (x : Waiter). Has k x) (sym (same_sound w v same)) h.0 in
          let none : times w ws ≡ 0 =
          stand_none ks ws w h.1 (λ key i g. once.0 (subst (λ (x : Key). IsAmong x ks) (apart key k g mine) i)) in
          rw same (omega (arith, none))
      by (inr other) on = rw other on
  stand_once ks ws w once apart h = absurd h

  -- a key is had by one name alone: so that name stands there
  pub stand_there : (ks : List Key) (ws : List Waiter) (w : Waiter) (key : Key) → ((v : Waiter) → Has key v → v ≡ w)
      → Stand ks ws → IsAmong key ks → 1 ≤ times w ws
  stand_there [] [] w key alone h i = absurd i
  stand_there [] (v ∷ ws) w key alone h i = absurd h
  stand_there (k ∷ ks) [] w key alone h i = absurd h
  stand_there (k ∷ ks) (v ∷ ws) w key alone h i = by (decided (same_waiter w v)) i (stand_there ks ws w key alone h.1)
    where
      by : (same_waiter w v ≡ true) ⊎ (same_waiter w v ≡ false) → IsAmong key (k ∷ ks) → (IsAmong key ks → 1 ≤ times w ws)
          → 1 ≤ times w (v ∷ ws)
      by (inl same) j on = rw same (omega arith)
      by (inr other) (inl e) on =
          let is : v ≡ w = alone v (subst (λ (x : Key). Has x v) e h.0) in
          absurd (let never : true ≡ false = sym (same_refl w) ∙ (ap (λ (x : Waiter). same_waiter w x) (sym is) ∙ other) in
          cc)
      by (inr other) (inr j) on = rw other (on j)

  -- nobody stands there, or somebody waits
  pub some_waits : {X : Type 0} (es : List (Key × Option X)) (ws : List Waiter) → Stand (keys_of es) ws
      → (ws ≡ []) ⊎ ((key : Key) × IsIn key es)
  some_waits [] [] h = inl refl
  some_waits (e ∷ es) (w ∷ ws) h = inr (e.0, inl refl)
  some_waits es ws h = absurd h

  -- ---- lines

  module _ (kind : Kind) (line : WaitList) (of : (key : Key) (w : Waiter) → Has key w → kind w ≡ Some line) where
    pub stand_kind : (ks : List Key) (ws : List Waiter) (w : Waiter) → Stand ks ws → is_among w ws ≡ true → kind w ≡ Some line
    stand_kind ks ws w h e = let found = stand_key ks ws w h e in of found.0 w found.2

  -- ---- what they show

  module _ (held : KeysHeld) (holds : (key : Key) (w : Waiter) → Has key w → held w ≡ Some key) where
    pub are_untold : (es : List (Key × Option Waiter)) (ws : List Waiter)
        → ((e : Key × Option Waiter) (w : Waiter) → IsAmong e es → Has e.0 w → e.1 ≡ Some w) → Stand (keys_of es) ws
        → AreUntold held es ws
    are_untold [] [] task h = tt
    are_untold (e ∷ es) (w ∷ ws) task h =
        ((holds e.0 w h.0, task e w (inl refl) h.0), are_untold es ws (λ f v i. task f v (inr i)) h.1)
    are_untold es ws task h = absurd h

    told_so : (line : WaitList) (additional : Bool) → MayBeTold line additional → IsToldSo line additional
    told_so Sends additional h = h
    told_so line additional h = h

    pub are_told : (closed : Bool) (line : WaitList) (es : List (Key × Notice Unit)) (ws : List Waiter)
        → (closed ≡ false → EachTold (MayBeTold line) es) → Stand (keys_of es) ws → AreToldInTurn held closed line es ws
    are_told closed line [] [] so h = tt
    are_told closed line (e ∷ es) (w ∷ ws) so h = (
      (holds e.0 w h.0, λ opened. let all = so opened in told_so line e.1.additional all.0),
      are_told closed line es ws (λ opened. let all = so opened in all.1) h.1,
    )
    are_told closed line es ws so h = absurd h
