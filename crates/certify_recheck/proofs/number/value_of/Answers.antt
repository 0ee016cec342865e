use Rattle.std.proofs.Common.{◌+◌, drop, get_or, sym, ◌∙◌}
use Rattle.std.specs.Str.Parse.{digits_value_after}
use Rattle.std.proofs.lemmas.List.{at_drop_more}
use Rattle.certify_recheck.proofs.Digits.{too_large}
use Rattle.certify_recheck.proofs.number.value_of.Goals as goal

-- the digits that are left write no less than the number so far
pub returns-then-value-ge-NUMBERS_END : goal.returns-then-value-ge-NUMBERS_END
returns-then-value-ge-NUMBERS_END c =
    let l = c.loop-digit in
    let digits = c.args.digits.now in
    let digit = get_or digits l.digit-index 0 in
    let more = at_drop_more (digits_value_after 10 l.value) digits l.digit-index 0 c.loop-digit-test.true in
    too_large l.value digit digits (drop (l.digit-index + 1) digits) _ (sym more ∙ l.invariant.rest)
    (sym c.is_ascii_digit.ensures.value ∙ c.if-not-is_ascii_digit.false) (rw (← c.from.ensures) c.if-value-ge-NUMBERS_END.true)
