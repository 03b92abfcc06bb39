-- Where a word lies says which word it is.
use Rattle.std.proofs.Common.{◌≡◌, ℕ, zero, suc, ◌+◌, ◌-◌, ◌<◌, ◌^◌, Bool, true, false, if◌then◌else◌, nat_lt, Option, None, Some, refl, sym, ap, ◌∙◌, arith}
use Rattle.std.proofs.Math.Pow.{pow-lt}
use Rattle.std.proofs.lemmas.Bool.Decides.{nat_tests}
use Rattle.concurrent_queue.specs.Places.{place_of, table_of, index_of, offset_of, OwnPlaces, OwnFlags}
use Rattle.concurrent_queue.specs.declared.cells.Word.{Word}
use Rattle.concurrent_queue.specs.declared.cells.Word.TheVariants.{State, Head, Tail, Stamp, HeadBlock, TailBlock, Next, Reads, Written}

-- the word that lies there
few : ℕ → Word
few zero = State
few (suc zero) = Head
few (suc (suc zero)) = HeadBlock
few n = if nat_lt n 17 then Tail else TailBlock

named : Option ℕ → ℕ → ℕ → Word
named None n i = if nat_lt n 32 then few n else Stamp (n - 32)
named (Some b) zero i = Next b
named (Some b) (suc zero) i = Reads b
named (Some b) n i = Written b i

back : (w : Word) → named (table_of (place_of w)) (index_of (place_of w)) (offset_of (place_of w)) ≡ w
unfolding named few
back State = refl
back Head = refl
back HeadBlock = refl
back Tail = refl
back TailBlock = refl
back (Stamp i) =
    let far : nat_lt (32 + i) 32 ≡ false = grind (arith, nat_tests) in
    let same : 32 + i - 32 ≡ i = omega arith in
    ap (λ (b : Bool). if b then few (32 + i) else Stamp (32 + i - 32)) far ∙ ap (λ (j : ℕ). Stamp j) same
back (Next b) = refl
back (Reads b) = refl
back (Written b i) = refl

pub own_places : OwnPlaces
own_places v w t n i =
    sym (back v)
    ∙ ap (λ (x : Option ℕ). named x (index_of (place_of v)) (offset_of (place_of v))) t
    ∙ ap (λ (x : ℕ). named (table_of (place_of w)) x (offset_of (place_of v))) n
    ∙ ap (λ (x : ℕ). named (table_of (place_of w)) (index_of (place_of w)) x) i
    ∙ back w

in_order : (i j : ℕ) (b c : Bool) → nat_lt i j ≡ b → nat_lt j i ≡ c → 2 ^ i ≡ 2 ^ j → i ≡ j
in_order i j true c p q e = let h : i < j = grind (arith, nat_tests) in let l = pow-lt {i = i} {j = j} h in absurd (omega arith)
in_order i j false true p q e = let h : j < i = grind (arith, nat_tests) in let l = pow-lt {i = j} {j = i} h in absurd (omega arith)
in_order i j false false p q e = grind (arith, nat_tests)

pub own_flags : OwnFlags
own_flags i j e = in_order i j (nat_lt i j) (nat_lt j i) refl refl e
