use Rattle.std.proofs.Common.{length, slice_range, subst, ◌≤◌}
use Rattle.std.proofs.lemmas.Result.{IfOk-weaker}
use Rattle.std.specs.Str.{IsUtf8}
use Rattle.text_lexer.specs.Lexeme.{IsWithinLimits}
use Rattle.text_lexer.specs.Literal.{IsLiteral}
use Rattle.text_lexer.specs.declared.limits.TheConstants.{MOST_TEXT_BYTES}
use Rattle.text_lexer.specs.declared.token.TokenKind.TheVariants.{Text}
use Rattle.text_lexer.proofs.Values.{literal_limit, literal_utf8}
use Rattle.text_lexer.proofs.literal.text_of.Goals as goal

pub returns-clause-limit : goal.returns-clause-limit
returns-clause-limit c =
    let bytes = slice_range c.args.text.now c.args.token.at c.args.token.end in
    let limits : IsWithinLimits Text bytes = subst (λ kind. IsWithinLimits kind bytes) c.requires.literal c.requires.lexeme.limits in
    IfOk-weaker c.unescape.result (λ value. IsLiteral c.bytes_of.result.now value.items) (λ value. length value.items ≤ MOST_TEXT_BYTES)
    (λ value h. literal_limit bytes value.items limits (rw c.bytes_of.ensures at h)) c.unescape.ensures

pub returns-clause-utf8 : goal.returns-clause-utf8
returns-clause-utf8 c utf8 =
    IfOk-weaker c.unescape.result (λ value. IsLiteral c.bytes_of.result.now value.items) (λ value. IsUtf8 value.items)
    (λ value h. literal_utf8 c.args.text.now c.args.token.at c.args.token.end value.items utf8 (rw c.bytes_of.ensures at h)) c.unescape.ensures
