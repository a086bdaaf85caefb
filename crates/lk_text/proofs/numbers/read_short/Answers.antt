use Rattle.std.proofs.Common.{◌≤◌, ◌<◌, ◌^◌, ◌∙◌, arith, length, take, length-take, get_or, sym}
use Rattle.lk_model.specs.Texts.NumberWords.{digits_value}
use Rattle.std.proofs.lemmas.Str.Parse.{digits_value_short}
use Rattle.lk_text.proofs.Shortest.{own, digit_most}
use Rattle.lk_text.proofs.numbers.read_short.Goals as goal

pub overflow_mul-value : goal.overflow_mul-value
overflow_mul-value c =
    let short : length (take c.loop-digit.digit-index c.args.digits.now) ≤ 17 = omega (arith, length-take c.loop-digit.digit-index c.args.digits.now, c.loop-digit-test.true, c.requires) in
    let small : digits_value (take c.loop-digit.digit-index c.args.digits.now) < 10 ^ 17 = digits_value_short own _ 17 c.loop-digit.invariant.digits short in
    omega (arith, small, c.loop-digit.invariant.value)

pub overflow_add-value : goal.overflow_add-value
overflow_add-value c =
    let short : length (take c.loop-digit.digit-index c.args.digits.now) ≤ 17 = omega (arith, length-take c.loop-digit.digit-index c.args.digits.now, c.loop-digit-test.true, c.requires) in
    let small : digits_value (take c.loop-digit.digit-index c.args.digits.now) < 10 ^ 17 = digits_value_short own _ 17 c.loop-digit.invariant.digits short in
    omega (arith, small, c.loop-digit.invariant.value, c.from.ensures, digit_most (get_or c.args.digits.now c.loop-digit.digit-index 0) (sym c.is_ascii_digit.ensures.value ∙ c.if-not-is_ascii_digit.false))
