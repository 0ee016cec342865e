use Rattle.std.proofs.Common.{[], refl, subst}
use Rattle.text_lexer.specs.Lexeme.{IsWithinLimits}
use Rattle.text_lexer.proofs.OneValue.{literal_only}
use Rattle.text_lexer.proofs.Values.{literal_limit, literal_utf8}
use Rattle.text_lexer.proofs.laws.literals_are_texts.Goals as goal

pub returns-clause-one : goal.returns-clause-one
returns-clause-one c bytes value other h k = (literal_only bytes bytes value other [] [] h k refl).1

pub returns-clause-text : goal.returns-clause-text
returns-clause-text c text token value utf8 h = literal_utf8 text token.at token.end value utf8 h

pub returns-clause-short : goal.returns-clause-short
returns-clause-short c lexeme value is kind h =
    literal_limit lexeme.bytes value (subst (λ k. IsWithinLimits k lexeme.bytes) kind is.limits) h
