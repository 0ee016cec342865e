use Rattle.text_lexer.proofs.TokenLists.{one_list}
use Rattle.text_lexer.proofs.laws.one_token_list.Goals as goal

pub returns : goal.returns
returns c = one_list
