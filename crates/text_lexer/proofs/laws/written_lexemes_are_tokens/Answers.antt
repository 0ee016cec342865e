use Rattle.text_lexer.proofs.WrittenTexts.{written_lexemes, written_lexes}
use Rattle.text_lexer.proofs.laws.written_lexemes_are_tokens.Goals as goal

pub returns-clause-lexes : goal.returns-clause-lexes
returns-clause-lexes c end parts apart all blank = written_lexes end blank parts apart all

pub returns-clause-lexemes : goal.returns-clause-lexemes
returns-clause-lexemes c end parts = written_lexemes end parts
