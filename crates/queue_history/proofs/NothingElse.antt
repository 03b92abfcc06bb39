-- Where as many messages were counted as some parties have, nothing else is there.
use Rattle.std.proofs.Common.{◌≡◌, ◌⊎◌, inl, inr, ℕ, ◌+◌, ◌≤◌, ◌==◌, Bool, true, false, List, [], ◌∷◌, ◌++◌, length, if◌then◌else◌, refl, sym, ap, ◌∙◌, subst, arith, length-append}
use Rattle.concurrent_queue.specs.declared.call.QueueAsk.{QueueAsk}
use Rattle.concurrent_queue.specs.declared.call.QueueReply.{QueueReply}
use Rattle.concurrent_queue.proofs.Callers.{is_same}
use Rattle.queue_history.specs.Accounted.{brought_by, taken_by, pushed, popped, of_party, HasBrought, HasTaken}
use Rattle.concurrent_queue.specs.history.Joined.{Lists, EachOnce}
use Rattle.queue_history.specs.Concluded.{IsLike, AllStand, pushed_count, popped_count, AreOf, NothingElse}
use Rattle.concurrent_queue.specs.declared.history.party.Standing.{Standing}

-- ---- how often a party is among some

abbrev one_if : Bool → ℕ
one_if true = 1
one_if false = 0

module _ {A : Type 0} where
  abbrev times : ℕ → List (ℕ × A) → ℕ
  times q [] = 0
  times q (p ∷ ps) = one_if (q == p.0) + times q ps

  none_here : (q : ℕ) (p : ℕ × A) (ps : List (ℕ × A)) → (Lists q (p ∷ ps) → ⊥) → (b : Bool) → (q == p.0) ≡ b → times q ps ≡ 0 → times q (p ∷ ps) ≡ 0
  none_here q p ps none true e rest = absurd (none (inl (sym (is_same q p.0 e))))
  none_here q p ps none false e rest = (let first : one_if (q == p.0) ≡ 0 = ap one_if e in omega (arith, rest, first))

  absent : (q : ℕ) (ps : List (ℕ × A)) → (Lists q ps → ⊥) → times q ps ≡ 0
  absent q [] none = refl
  absent q (p ∷ ps) none = none_here q p ps none (q == p.0) refl (absent q ps (λ h. none (inr h)))

  -- once, or not at all
  abbrev OnceOrNot : ℕ → List (ℕ × A) → Type 0
  OnceOrNot q ps = ((times q ps ≡ 1) × Lists q ps) ⊎ (times q ps ≡ 0)

  once_here : (q : ℕ) (p : ℕ × A) (ps : List (ℕ × A)) → (Lists p.0 ps → ⊥) → (b : Bool) → (q == p.0) ≡ b → OnceOrNot q ps → OnceOrNot q (p ∷ ps)
  once_here q p ps none true e rest =
      let here : times q ps ≡ 0 = absent q ps (λ h. none (subst (λ (n : ℕ). Lists n ps) (is_same q p.0 e) h)) in
      let first : one_if (q == p.0) ≡ 1 = ap one_if e in
      inl (omega (arith, here, first), inl (sym (is_same q p.0 e)))
  once_here q p ps none false e (inl h) = (let first : one_if (q == p.0) ≡ 0 = ap one_if e in let n = h.0 in inl (omega (arith, n, first), inr h.1))
  once_here q p ps none false e (inr h) = (let first : one_if (q == p.0) ≡ 0 = ap one_if e in inr (omega (arith, h, first)))

  once : (q : ℕ) (ps : List (ℕ × A)) → EachOnce ps → OnceOrNot q ps
  once q [] each = inr refl
  once q (p ∷ ps) each = once_here q p ps each.0 (q == p.0) refl (once q ps each.1)

-- ---- how many of some messages are of some parties

two_sums : (a i b c j d : ℕ) → a ≡ i + b → c ≡ j + d → a + c ≡ (i + j) + (b + d)
two_sums a i b c j d e f = omega (arith, e, f)

module _ {T : Type 0} where
  abbrev share : List (ℕ × T) → List (ℕ × Standing T) → ℕ
  share xs [] = 0
  share xs (p ∷ ps) = length (of_party p.0 xs) + share xs ps

  nothing_shared : (ps : List (ℕ × Standing T)) → share [] ps ≡ 0
  nothing_shared [] = refl
  nothing_shared (p ∷ ps) = (let n = nothing_shared ps in omega (arith, n))

  one_more : (b : Bool) (v : T) (vs : List T) → length (if b then v ∷ vs else vs) ≡ one_if b + length vs
  one_more true v vs = omega arith
  one_more false v vs = omega arith

  share_more : (x : ℕ × T) (xs : List (ℕ × T)) (ps : List (ℕ × Standing T)) → share (x ∷ xs) ps ≡ times x.0 ps + share xs ps
  share_more x xs [] = omega arith
  share_more x xs (p ∷ ps) =
      two_sums (length (of_party p.0 (x ∷ xs))) (one_if (x.0 == p.0)) (length (of_party p.0 xs)) (share (x ∷ xs) ps) (times x.0 ps) (share xs ps) (one_more (x.0 == p.0) x.1 (of_party p.0 xs)) (share_more x xs ps)

  abbrev Shares : List (ℕ × Standing T) → List (ℕ × T) → Type 0
  Shares ps xs = (share xs ps ≤ length xs) × (share xs ps ≡ length xs → AreOf ps xs)

  one_shares : (x : ℕ × T) (xs : List (ℕ × T)) (ps : List (ℕ × Standing T)) → OnceOrNot x.0 ps → Shares ps xs → Shares ps (x ∷ xs)
  one_shares x xs ps (inl h) rest =
      let all = share_more x xs ps in
      let n = h.0 in
      let m = rest.0 in
      (omega (arith, all, n, m), λ e. (h.1, rest.1 (omega (arith, all, n, e))))
  one_shares x xs ps (inr n) rest =
      let all = share_more x xs ps in
      let m = rest.0 in
      (omega (arith, all, n, m), λ e. absurd (omega (arith, all, n, m, e)))

  shares : (ps : List (ℕ × Standing T)) (xs : List (ℕ × T)) → EachOnce ps → Shares ps xs
  shares ps [] each = (let n = nothing_shared ps in omega (arith, n), λ e. tt)
  shares ps (x ∷ xs) each = one_shares x xs ps (once x.0 ps each) (shares ps xs each)

  longer : (own l more : List T) → own ≡ l ++ more → length l ≤ length own
  longer own l more e = (let n : length own ≡ length l + length more = ap (λ (x : List T). length x) e ∙ length-append l more in omega (arith, n))

  -- parties that have asked and were answered the same have pushed and popped the same
  pub same_pushed : (s t : Standing T) → IsLike s t → pushed s ≡ pushed t
  same_pushed s t (asked, replies) = ap (λ (l : List (QueueAsk T)). brought_by l s.replies) asked ∙ ap (λ (l : List (QueueReply T)). brought_by t.asked l) replies

  pub same_popped : (s t : Standing T) → IsLike s t → popped s ≡ popped t
  same_popped s t (asked, replies) = ap (λ (l : List (QueueReply T)). taken_by l) replies

  module _ (at : ℕ → Standing T) (xs : List (ℕ × T)) where
    pushed_least : (ps : List (ℕ × Standing T)) → AllStand at ps → ((p : ℕ) → HasBrought (at p) (of_party p xs)) → pushed_count ps ≤ share xs ps
    pushed_least [] stand h = omega arith
    pushed_least (p ∷ ps) (here, stand) h =
        let mine = h p.0 in
        let n = longer (of_party p.0 xs) (pushed p.1) mine.0 (mine.1 ∙ ap (λ (l : List T). l ++ mine.0) (same_pushed (at p.0) p.1 here)) in
        let rest = pushed_least ps stand h in
        omega (arith, n, rest)

    popped_least : (ps : List (ℕ × Standing T)) → AllStand at ps → ((p : ℕ) → HasTaken (at p) (of_party p xs)) → popped_count ps ≤ share xs ps
    popped_least [] stand h = omega arith
    popped_least (p ∷ ps) (here, stand) h =
        let mine = h p.0 in
        let n = longer (of_party p.0 xs) (popped p.1) mine.0 (mine.1 ∙ ap (λ (l : List T). l ++ mine.0) (same_popped (at p.0) p.1 here)) in
        let rest = popped_least ps stand h in
        omega (arith, n, rest)

  all_shared : (n : ℕ) (xs : List (ℕ × T)) (ps : List (ℕ × Standing T)) → EachOnce ps → n ≤ share xs ps → length xs ≡ n → AreOf ps xs
  all_shared n xs ps each least e = (let s = shares ps xs each in let most = s.0 in s.1 (omega (arith, least, most, e)))

pub nothing_else : (T : Type 0) → NothingElse T
nothing_else T form at c a ps stand each = (
  λ e. all_shared (pushed_count ps) a.accepted ps each (pushed_least at a.accepted ps stand a.each_brought) e,
  λ e. all_shared (popped_count ps) a.gone ps each (popped_least at a.gone ps stand a.each_took) e,
)
