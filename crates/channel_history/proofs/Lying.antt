-- What lies with the seats together stays what it was where one seat's view says of it what it said, and where it goes from seat to seat.
use Rattle.std.proofs.Common.{◌≡◌, ◌≢◌, ℕ, List, [], ◌∷◌, ◌++◌, refl, sym, ap, ◌∙◌, subst, arith}
use Rattle.std.specs.Prelude.{slice_set}
use Rattle.concurrent_queue.specs.machine.Places.{Each}
use Rattle.channel_calls.specs.Parts.{Listeners}
use Rattle.channel_calls.specs.declared.stage.WaitList.{WaitList}
use Rattle.channel_history.specs.History.{total, lists_of, handles_of, listeners_of, among, AllAre, LieWithSeats}
use Rattle.channel_history.specs.Keeps.{IsAt}
use Rattle.channel_history.specs.Party.{nothing, both, fresh, with_own}
use Rattle.channel_history.specs.declared.party.Belongings.{Belongings}
use Rattle.channel_history.specs.declared.party.Standing.{Standing}
use Rattle.channel_history.proofs.Seats.{set_else}
use Rattle.channel_history.proofs.Together.{total_on, total_set, each_at, each_set, each_on, each_before, each_behind}

-- of two together it is what it is of each
abbrev pub Adds : {W X : Type 0} → (Belongings W → List X) → Type 0
Adds {W} of = ((a b : Belongings W) → of (both a b) ≡ of a ++ of b) × (of nothing ≡ [])

module _ {T W : Type 0} (views views' : List (Standing T W)) where
  abbrev pub KeepsNumbers : Type 1
  KeepsNumbers = (X : Type 0) (of : Belongings W → List X) → Adds of → (weigh : X → ℕ) → among of weigh views' ≡ among of weigh views

  abbrev pub KeepsEach : Type 1
  KeepsEach = (X : Type 0) (of : Belongings W → List X) → Adds of → (P : X → Type 0) → AllAre of P views → AllAre of P views'

  pub lie_still : KeepsNumbers → KeepsEach → (f : WaitList → Listeners W) (n m : ℕ) → LieWithSeats views f n m → LieWithSeats views' f n m
  lie_still numbers each f n m h = record {
    lists = λ line. numbers _ lists_of ((λ x y. refl), refl) _ ∙ h.lists line;
    true_lists = each _ lists_of ((λ x y. refl), refl) _ h.true_lists;
    handles = λ side. numbers _ handles_of ((λ x y. refl), refl) _ ∙ h.handles side;
    listed = λ line key. numbers _ listeners_of ((λ x y. refl), refl) _ ∙ h.listed line key;
    once = h.once;
  }

module _ {T W : Type 0} where
  -- what a party's weight is, and what is said of it
  abbrev weight : {X : Type 0} → (Belongings W → List X) → (X → ℕ) → Standing T W → ℕ
  weight of weigh s = total weigh (of s.own)

  abbrev AllOf : {X : Type 0} → (Belongings W → List X) → (X → Type 0) → Standing T W → Type 0
  AllOf of P s = Each P (of s.own)

  -- a seat keeps what it has
  pub kept_each : (views : List (Standing T W)) (p : ℕ) (v w : Standing T W) → IsAt views p v → w.own ≡ v.own → KeepsEach views (slice_set views p w)
  kept_each views p v w there same X of adds P h = each_set (AllOf of P) views p w h (subst (λ (o : Belongings W). Each P (of o)) (sym same) (each_at (AllOf of P) views p v there h))

  pub lie_kept : (views : List (Standing T W)) (p : ℕ) (v w : Standing T W) → IsAt views p v → w.own ≡ v.own → (f : WaitList → Listeners W) (n m : ℕ) → LieWithSeats views f n m
      → LieWithSeats (slice_set views p w) f n m
  lie_kept views p v w there same =
      lie_still views (slice_set views p w)
      (λ X of adds weigh. let set = total_set (weight of weigh) views p v w there in let e = ap (λ (o : Belongings W). total weigh (of o)) same in omega (arith, set, e))
      (kept_each views p v w there same)

  -- a seat comes with nothing
  pub new_each : (views : List (Standing T W)) (w : Standing T W) → w.own ≡ nothing → KeepsEach views (views ++ w ∷ [])
  new_each views w none X of adds P h = each_on (AllOf of P) views (w ∷ []) h (subst (λ (o : Belongings W). Each P (of o)) (sym none) (subst (λ (l : List X). Each P l) (sym adds.1) tt), tt)

  pub lie_with_new : (views : List (Standing T W)) (w : Standing T W) → w.own ≡ nothing → (f : WaitList → Listeners W) (n m : ℕ) → LieWithSeats views f n m → LieWithSeats (views ++ w ∷ []) f n m
  lie_with_new views w none =
      lie_still views (views ++ w ∷ [])
      (λ X of adds weigh.
      let on = total_on (weight of weigh) views (w ∷ []) in
      let e = ap (λ (o : Belongings W). total weigh (of o)) none ∙ ap (λ (l : List X). total weigh l) adds.1 in omega (arith, on, e))
      (new_each views w none)

  -- what one seat has goes to another
  module _ (views : List (Standing T W)) (p q : ℕ) (v w : Standing T W) (at_p : IsAt views p v) (at_q : IsAt views q w) (apart : q ≢ p) where
    abbrev Both : Standing T W
    Both = with_own (both v.own w.own) v

    abbrev Spent : Standing T W
    Spent = with_own nothing w

    abbrev First : List (Standing T W)
    First = slice_set views p Both

    pub joined_each : KeepsEach views (slice_set First q Spent)
    joined_each X of adds P h =
        each_set (AllOf of P) First q Spent
        (each_set (AllOf of P) views p Both h
        (subst (λ (l : List X). Each P l) (sym (adds.0 v.own w.own)) (each_on P (of v.own) (of w.own) (each_at (AllOf of P) views p v at_p h) (each_at (AllOf of P) views q w at_q h))))
        (subst (λ (l : List X). Each P l) (sym adds.1) tt)

    pub lie_joined : (f : WaitList → Listeners W) (n m : ℕ) → LieWithSeats views f n m → LieWithSeats (slice_set First q Spent) f n m
    lie_joined =
        lie_still views (slice_set First q Spent)
        (λ X of adds weigh.
        let first = total_set (weight of weigh) views p v Both at_p in
        let last = total_set (weight of weigh) First q w Spent (set_else views p q Both apart ∙ at_q) in
        let sum = ap (λ (l : List X). total weigh l) (adds.0 v.own w.own) ∙ total_on weigh (of v.own) (of w.own) in
        let none = ap (λ (l : List X). total weigh l) adds.1 in
        omega (arith, first, last, sum, none))
        joined_each

  -- some of what a seat has goes to a new one
  module _ (views : List (Standing T W)) (p : ℕ) (v : Standing T W) (stays goes : Belongings W) (at_p : IsAt views p v) (cut : v.own ≡ both stays goes) where
    abbrev Left : List (Standing T W)
    Left = slice_set views p (with_own stays v)

    abbrev Gone : Standing T W
    Gone = with_own goes fresh

    pub split_each : KeepsEach views (Left ++ Gone ∷ [])
    split_each X of adds P h =
        let had : Each P (of stays ++ of goes) =
        subst (λ (l : List X). Each P l) (adds.0 stays goes) (subst (λ (o : Belongings W). Each P (of o)) cut (each_at (AllOf of P) views p v at_p h)) in
        each_on (AllOf of P) Left (Gone ∷ [])
        (each_set (AllOf of P) views p (with_own stays v) h (each_before P (of stays) (of goes) had))
        (each_behind P (of stays) (of goes) had, tt)

    pub lie_split : (f : WaitList → Listeners W) (n m : ℕ) → LieWithSeats views f n m → LieWithSeats (Left ++ Gone ∷ []) f n m
    lie_split =
        lie_still views (Left ++ Gone ∷ [])
        (λ X of adds weigh.
        let first = total_set (weight of weigh) views p v (with_own stays v) at_p in
        let last = total_on (weight of weigh) Left (Gone ∷ []) in
        let sum = ap (λ (o : Belongings W). total weigh (of o)) cut ∙ ap (λ (l : List X). total weigh l) (adds.0 stays goes) ∙ total_on weigh (of stays) (of goes) in
        omega (arith, first, last, sum))
        split_each
