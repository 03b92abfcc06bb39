use Rattle.std.proofs.Common.{arith, rules, ◌≡◌, ◌^◌, ◌+◌, ◌*◌, ◌-◌, ◌≤◌, ◌∙◌, sym, get_or, drop, ap, true}
use Rattle.std.proofs.lemmas.List.{drop_all}
use Rattle.channel_world_language.specs.Words.{value_after, is_plain_decimal}
use Rattle.channel_world_language.proofs.WordLemmas.{too_large, accepted, next_digit}
use Rattle.channel_world_language.proofs.words.number.Goals as goal

pub returns-in_err-tenfold : goal.returns-in_err-tenfold
returns-in_err-tenfold c =
    let here = c.loop-digit.digit-index in
    let digit = get_or c.args.digits.now here 0 in
    let past : 2 ^ 64 ≤ 10 * c.loop-digit.value + (digit - 48) = omega (arith, c.in_err-tenfold.ensures) in
    c.from_residual.ensures
    ∙ sym (too_large c.args.digits.now (drop (here + 1) c.args.digits.now) (10 * c.loop-digit.value + (digit - 48))
    (c.loop-digit.invariant.value ∙ next_digit c.loop-digit.value here c.args.digits.now c.loop-digit-test.true) past)

pub returns-in_err-value : goal.returns-in_err-value
returns-in_err-value c =
    let here = c.loop-digit.digit-index in
    let digit = get_or c.args.digits.now here 0 in
    let past : 2 ^ 64 ≤ 10 * c.loop-digit.value + (digit - 48) =
    omega (arith, c.in_err-value.ensures, c.in_ok-tenfold.ensures.1, c.from.ensures, c.saturating_sub.ensures) in
    c.from_residual-in_err-value.ensures
    ∙ sym (too_large c.args.digits.now (drop (here + 1) c.args.digits.now) (10 * c.loop-digit.value + (digit - 48))
    (c.loop-digit.invariant.value ∙ next_digit c.loop-digit.value here c.args.digits.now c.loop-digit-test.true) past)

pub returns : goal.returns
returns c =
    let plain : true ≡ is_plain_decimal c.args.digits.now = search rules in
    accepted c.args.digits.now c.loop-digit.value plain
    (c.loop-digit.invariant.value ∙ ap (value_after c.loop-digit.value) (drop_all c.loop-digit.digit-index c.args.digits.now (omega arith))) c.loop-digit.invariant.fits
