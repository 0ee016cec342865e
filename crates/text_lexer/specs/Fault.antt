-- The answers to what stands in the way of a token.
use Rattle.std.specs.Prelude.{ℕ}
use Rattle.text_lexer.specs.declared.lex_err.Cause.{Cause}
use Rattle.text_lexer.specs.declared.lex_err.Cause.TheVariants as c
use Rattle.text_lexer.specs.declared.lex_err.LexErr.{LexErr}
use Rattle.text_lexer.specs.declared.lex_err.LexErr.TheVariants.{BadByte, BadNumber, Unfinished, TooManyNameBytes, TooManyTextBytes}

-- the answer to this cause at this offset
abbrev pub refusal_of : Cause → ℕ → LexErr
refusal_of c.BadByte at = BadByte at
refusal_of c.BadNumber at = BadNumber at
refusal_of c.Unfinished at = Unfinished at
refusal_of c.TooManyNameBytes at = TooManyNameBytes at
refusal_of c.TooManyTextBytes at = TooManyTextBytes at
