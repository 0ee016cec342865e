use Rattle.std.proofs.Common.{◌+◌, ◌*◌, ◌<◌, drop, get_or, arith}
use Rattle.std.specs.Char.{digit_value, is_ascii_digit}
use Rattle.std.specs.Str.Parse.{digits_value, digits_value_after}
use Rattle.std.proofs.lemmas.List.{at_drop_more}
use Rattle.std.proofs.lemmas.List.Sums.{AllPass-from_list_all}
use Rattle.text_lexer.specs.declared.limits.TheConstants.{LARGEST_NUMBER}
use Rattle.text_lexer.proofs.Runs.{digit_value-digit, digits_value_after-least}
use Rattle.text_lexer.proofs.number.value_of.Goals as goal

-- the digits that are left write no less than the number so far
pub returns-then-value-largest-clause-none : goal.returns-then-value-largest-clause-none
returns-then-value-largest-clause-none c =
    let l = c.loop-digit in
    let digits = c.args.digits.now in
    let digit = get_or digits l.digit-index 0 in
    let is_digit = AllPass-from_list_all is_ascii_digit digits c.requires l.digit-index 0 c.loop-digit-test.true in
    let more = at_drop_more (digits_value_after 10 l.value) digits l.digit-index 0 c.loop-digit-test.true in
    let least = digits_value_after-least (l.value * 10 + digit_value digit) (drop (l.digit-index + 1) digits) in
    let above : LARGEST_NUMBER < digits_value 10 digits = omega (arith, more, least, digit_value-digit digit is_digit, l.invariant.rest, c.from.ensures, c.from-largest.ensures) in
    λ _. above
