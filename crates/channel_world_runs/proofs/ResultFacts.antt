-- Results of which it is known whether they are values.
use Rattle.std.specs.Prelude.{◌≡◌}
use Rattle.channel_world_runs.proofs.Words.{true, false, Option, None, Some, Result, Ok, Err, is_err, IfSome, IfOk, OnOk, subst, sym, ok_or}
use Rattle.std.specs.Result.{result_ok}

-- what is made of an option by `ok_or`
pub ok_where_some : {A E : Type 0} (P Q : A → Type 0) (o : Option A) (e : E) (r : Result A E) → r ≡ ok_or o e
    → ((x : A) → P x → Q x) → IfSome o P → IfOk r Q
ok_where_some {A} {E} P Q o e r is so held = subst (λ (x : Result A E). IfOk x Q) (sym is) (by o held) where
  by : (o : Option A) → IfSome o P → IfOk (ok_or o e) Q
  by None held = tt
  by (Some x) held = so x held

-- the value of one that has it
pub value_is : {A E : Type 0} (P : A → Type 0) (r : Result A E) (x : A) → Some x ≡ result_ok r → IfOk r P → P x
value_is P (Ok y) x is held = let same : y ≡ x = cc in subst P same held
value_is P (Err e) x is held = absurd (let no : Some x ≡ None = is in cc)

-- one that is no error
pub on_ok : {A E : Type 0} (P : Type 0) (r : Result A E) → false ≡ is_err r → OnOk r P → P
on_ok P (Ok x) is held = held
on_ok P (Err e) is held = absurd (let no : false ≡ true = is in cc)
