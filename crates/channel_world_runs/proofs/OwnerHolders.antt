-- Listeners on lists, and who holds them, after one of these passed from one to another, came or went.
use Rattle.std.specs.Prelude.{◌≡◌, ◌⊎◌}
use Rattle.channel_world_runs.proofs.Lemmas.{List, Option, None, Some, inl, inr, sym, ◌∙◌, Channel, ListenerRef, Holder, IsListed, NoneListedTwice, IsGone}
use Rattle.channel_world_runs.proofs.OwnerMoves.{Lists}

module _ {T W : Type 0} where
  -- who holds what, on these lists
  pub record Accounted (holds : Holder → ListenerRef → Type 0) (c : Channel T W) : Type 0 where
    pub once : NoneListedTwice c
    pub listed : (x : Holder) (h : ListenerRef) → holds x h → IsListed h c
    pub held : (h : ListenerRef) → IsListed h c → (x : Holder) × holds x h
    pub alone : (x y : Holder) (h : ListenerRef) → holds x h → holds y h → x ≡ y

-- one gives what it had, or nothing, and another, or itself, has this then, or nothing
pub record Passes (holds holds' : Holder → ListenerRef → Type 0) (had has : Option ListenerRef) (giver taker : Holder) : Type 0 where
  pub back : (x : Holder) (h : ListenerRef) → holds' x h → (holds x h × (x ≡ giver → ⊥)) ⊎ ((x ≡ taker) × (has ≡ Some h))
  pub forth : (x : Holder) (h : ListenerRef) → holds x h → holds' x h ⊎ ((x ≡ giver) × (had ≡ Some h))
  pub old : (h : ListenerRef) → had ≡ Some h → holds giver h
  pub new : (h : ListenerRef) → has ≡ Some h → holds' taker h

module _ {T W : Type 0} (c d : Channel T W) (names : List W) (had has : Option ListenerRef) (holds holds' : Holder → ListenerRef → Type 0) (giver taker : Holder)
    (lists : Lists c.wait_lists d.wait_lists names had has) (how : (has ≡ had) ⊎ ((had ≡ None) ⊎ (has ≡ None))) (pass : Passes holds holds' had has giver taker) (a : Accounted holds c) where
  nothing : (h : ListenerRef) (o : Option ListenerRef) → o ≡ Some h → o ≡ None → ⊥
  nothing h o e f = absurd (let never : Some h ≡ None = sym e ∙ f in cc)

  -- what is in hand still, or came in hand
  listed_new : (h : ListenerRef) → has ≡ Some h → (has ≡ had) ⊎ ((had ≡ None) ⊎ (has ≡ None)) → IsListed h d
  listed_new h e (inl same) = by ((lists h.line).gone h.key (a.listed giver h (pass.old h (sym same ∙ e))))
    where
      by : IsListed h d ⊎ IsGone had has (Some h) → IsListed h d
      by (inl i) = i
      by (inr g) = absurd (nothing h has e g.1)
  listed_new h e (inr (inl none)) = (lists h.line).there h.key e none
  listed_new h e (inr (inr none)) = absurd (nothing h has e none)

  listed_after : (x : Holder) (h : ListenerRef) → holds' x h → IsListed h d
  listed_after x h i = by (pass.back x h i)
    where
      stays : holds x h → (x ≡ giver → ⊥) → IsListed h d ⊎ IsGone had has (Some h) → IsListed h d
      stays j other (inl k) = k
      stays j other (inr g) = absurd (other (a.alone x giver h j (pass.old h g.0)))

      by : (holds x h × (x ≡ giver → ⊥)) ⊎ ((x ≡ taker) × (has ≡ Some h)) → IsListed h d
      by (inl j) = stays j.0 j.1 ((lists h.line).gone h.key (a.listed x h j.0))
      by (inr j) = listed_new h j.1 how

  abbrev HeldBy : ListenerRef → Type 0
  HeldBy h = (x : Holder) × holds' x h

  held_after : (h : ListenerRef) → IsListed h d → HeldBy h
  held_after h i = by ((lists h.line).come (a.once h.line) h.key i)
    where
      same_hand : (IsGone had has (Some h) → ⊥) → had ≡ Some h → (has ≡ had) ⊎ ((had ≡ None) ⊎ (has ≡ None)) → HeldBy h
      same_hand not e (inl same) = (taker, pass.new h (same ∙ e))
      same_hand not e (inr (inl none)) = absurd (nothing h had e none)
      same_hand not e (inr (inr none)) = absurd (not (e, none))

      stays : (IsGone had has (Some h) → ⊥) → (x : Holder) → holds' x h ⊎ ((x ≡ giver) × (had ≡ Some h)) → HeldBy h
      stays not x (inl j) = (x, j)
      stays not x (inr j) = same_hand not j.1 how

      by : (IsListed h c × (IsGone had has (Some h) → ⊥)) ⊎ ((has ≡ Some h) × (had ≡ None) × (IsListed h c → ⊥)) → HeldBy h
      by (inl j) = let before = a.held h j.0 in stays j.1 before.0 (pass.forth before.0 h before.1)
      by (inr j) = (taker, pass.new h j.0)

  -- another than the giver doesn't hold what is in hand
  not_both : (x : Holder) (h : ListenerRef) → holds x h → (x ≡ giver → ⊥) → has ≡ Some h → holds' taker h → (has ≡ had) ⊎ ((had ≡ None) ⊎ (has ≡ None)) → ⊥
  not_both x h i other e n (inl same) = other (a.alone x giver h i (pass.old h (sym same ∙ e)))
  not_both x h i other e n (inr (inl none)) = by ((lists h.line).come (a.once h.line) h.key (listed_after taker h n))
    where
      by : (IsListed h c × (IsGone had has (Some h) → ⊥)) ⊎ ((has ≡ Some h) × (had ≡ None) × (IsListed h c → ⊥)) → ⊥
      by (inl j) = (lists h.line).fresh h.key e none j.0
      by (inr j) = j.2 (a.listed x h i)
  not_both x h i other e n (inr (inr none)) = nothing h has e none

  alone_after : (x y : Holder) (h : ListenerRef) → holds' x h → holds' y h → x ≡ y
  alone_after x y h i j = by (pass.back x h i) (pass.back y h j)
    where
      by : (holds x h × (x ≡ giver → ⊥)) ⊎ ((x ≡ taker) × (has ≡ Some h)) → (holds y h × (y ≡ giver → ⊥)) ⊎ ((y ≡ taker) × (has ≡ Some h)) → x ≡ y
      by (inl u) (inl v) = a.alone x y h u.0 v.0
      by (inl u) (inr v) = absurd (not_both x h u.0 u.1 v.1 (pass.new h v.1) how)
      by (inr u) (inl v) = absurd (not_both y h v.0 v.1 u.1 (pass.new h u.1) how)
      by (inr u) (inr v) = u.0 ∙ sym v.0

  pub accounted : Accounted holds' d
  accounted = record { once = λ line. (lists line).once (a.once line); listed = listed_after; held = held_after; alone = alone_after }
