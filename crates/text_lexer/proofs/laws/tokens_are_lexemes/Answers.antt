use Rattle.text_lexer.proofs.TokenLists.{each_lexeme}
use Rattle.text_lexer.proofs.laws.tokens_are_lexemes.Goals as goal

pub returns : goal.returns
returns c = each_lexeme
