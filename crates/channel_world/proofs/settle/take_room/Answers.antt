-- What was asked for is there.
use Rattle.std.specs.Prelude.{◌≡◌}
use Rattle.channel_world.proofs.Words.{arith, Some, subst, Result, Ok, Err, IfOk, OnOk, result_ok}
use Rattle.channel_world.proofs.settle.take_room.Goals as goal

given : {A E : Type 0} (P : A → Type 0) (r : Result A E) (x : A) → Some x ≡ result_ok r → IfOk r P → P x
given P (Ok y) x e p = let it : y ≡ x = cc e in subst P it p
given P (Err f) x e p = absurd (cc e)

granted : {A E P : Type 0} (r : Result A E) (x : A) → Some x ≡ result_ok r → OnOk r P → P
granted (Ok y) x e p = p
granted (Err f) x e p = absurd (cc e)

pub returns-clause-polls : goal.returns-clause-polls
returns-clause-polls g c = given _ c.with_capacity.result c.in_ok-polls.polls c.in_ok-polls.ensures.value c.with_capacity.ensures.items

pub returns-clause-room : goal.returns-clause-room
returns-clause-room g c =
    let room = granted c.reserve.result c.in_ok-ok.field-0 c.in_ok-ok.ensures.value c.reserve.ensures.ok in
    omega (arith, room)

pub returns-clause-answers : goal.returns-clause-answers
returns-clause-answers g c = given _ c.with_capacity.result c.in_ok-polls.polls c.in_ok-polls.ensures.value c.with_capacity.ensures.exact
