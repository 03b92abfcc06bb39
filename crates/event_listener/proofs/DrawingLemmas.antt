-- Tags that were drawn before anybody was told.
use Rattle.std.proofs.Common.{◌≡◌, ℕ, ◌≤◌, nat_lt, Bool, true, false, List, length, Result, Ok, Err, if◌then◌else◌, inl, inr, refl, sym, subst, arith}
use Rattle.std.proofs.lemmas.Bool.Decides.{nat_tests}
use Rattle.event_listener.specs.declared.error.NoMemory.{NoMemory}
use Rattle.event_listener.specs.declared.error.NotifyError.{NotifyError}
use Rattle.event_listener.specs.Drawing.{IsAll, DrawsFirst}
use Rattle.event_listener.specs.Notices.{IsAnswer}
use Rattle.event_listener.specs.Telling.{Tells}

module _ {N T : Type 0} (gives : N → Result T NoMemory → N → Type 0) where
  answered : (many told : ℕ) (rest : N) → IsAll gives many told rest → (b : Bool) → nat_lt told many ≡ b
      → IsAnswer gives many told rest (if b then Err (record { told = told }) else Ok many)
  answered many told rest (inl same) true e = absurd (grind (arith, nat_tests))
  answered many told rest (inr (less, error, after, refused)) true e = (refl, less, error, after, refused)
  answered many told rest (inl same) false e = (refl, same)
  answered many told rest (inr (less, error, after, refused)) false e = absurd (grind (arith, nat_tests))

  -- what is told of them
  pub tells_them : (size : N → ℕ) (many : ℕ) (n : N) (ts : List T) (result : Result ℕ NotifyError) → many ≤ size n → DrawsFirst gives many n ts
      → result ≡ (if nat_lt (length ts) many then Err (record { told = length ts }) else Ok many) → Tells size gives n result
  tells_them size many n ts result most d is =
      record {
        many = many;
        at_most = most;
        tags = ts;
        rest = d.rest;
        drawn = d.drawn;
        answer = subst (λ (r : Result ℕ NotifyError). IsAnswer gives many (length ts) d.rest r) (sym is)
            (answered many (length ts) d.rest d.all (nat_lt (length ts) many) refl);
      }
