-- Those at work after a step of one of them.
use Rattle.std.proofs.Common.{◌≡◌, ℕ, zero, suc, List, [], ◌∷◌, map, slice_get, slice_set, Option, None, Some, option_map, refl, sym, ap, ◌∙◌}
use Rattle.std.specs.List.{remove}
use Rattle.std.proofs.lemmas.List.{map-set}
use Rattle.std.proofs.lemmas.Option.{slice_get-map}
use Rattle.channel_steps.proofs.Words.{Reply, after_step, unless_answered}

pub remove-set : {A : Type 0} (xs : List A) (k : ℕ) (x : A) → remove (slice_set xs k x) k ≡ remove xs k
remove-set [] k x = refl
remove-set (y ∷ ys) zero x = refl
remove-set (y ∷ ys) (suc k) x = ap (λ zs. y ∷ zs) (remove-set ys k x)

map-remove : {A B : Type 0} (g : A → B) (xs : List A) (k : ℕ) → map g (remove xs k) ≡ remove (map g xs) k
map-remove g [] zero = refl
map-remove g [] (suc k) = refl
map-remove g (x ∷ xs) zero = refl
map-remove g (x ∷ xs) (suc k) = ap (λ zs. g x ∷ zs) (map-remove g xs k)

pub set-same : {A : Type 0} (xs : List A) (k : ℕ) (x : A) → slice_get xs k ≡ Some x → slice_set xs k x ≡ xs
set-same [] k x there = refl
set-same (y ∷ ys) zero x there = let same : y ≡ x = cc in ap (λ z. z ∷ ys) (sym same)
set-same (y ∷ ys) (suc k) x there = ap (λ zs. y ∷ zs) (set-same ys k x there)

-- the k-th stands there by what is read off it, and once it was set
pub get-map : {A B : Type 0} (g : A → B) (xs : List A) (k : ℕ) (x : A) → slice_get xs k ≡ Some x → slice_get (map g xs) k ≡ Some (g x)
get-map g xs k x there = slice_get-map g xs k ∙ ap (λ o. option_map g o) there

pub get-set : {A : Type 0} (xs : List A) (k : ℕ) (x y : A) → slice_get xs k ≡ Some y → slice_get (slice_set xs k x) k ≡ Some x
get-set [] k x y there = absurd cc
get-set (z ∷ zs) zero x y there = refl
get-set (z ∷ zs) (suc k) x y there = get-set zs k x y there

module _ {T : Type 0} where
  -- the code sets the place, and takes it out then
  pub after-set : {A : Type 0} (xs : List A) (k : ℕ) (x : A) (r : Option (Reply T)) → unless_answered k r (slice_set xs k x) ≡ after_step xs k x r
  after-set xs k x None = refl
  after-set xs k x (Some r) = remove-set xs k x

  pub after-same : {A : Type 0} (xs : List A) (k : ℕ) (x : A) (r : Option (Reply T)) → slice_get xs k ≡ Some x → after_step xs k x r ≡ unless_answered k r xs
  after-same xs k x None there = set-same xs k x there
  after-same xs k x (Some r) there = refl

  pub map-after : {A B : Type 0} (g : A → B) (xs : List A) (k : ℕ) (x : A) (r : Option (Reply T)) → map g (after_step xs k x r) ≡ after_step (map g xs) k (g x) r
  map-after g xs k x None = map-set g xs k x
  map-after g xs k x (Some r) = map-remove g xs k
