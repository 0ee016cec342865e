use Rattle.text_lexer.proofs.TokenLists.{tokens_in, tokens_ordered}
use Rattle.text_lexer.proofs.laws.tokens_in_order.Goals as goal

pub returns-clause-in_text : goal.returns-clause-in_text
returns-clause-in_text c = tokens_in

pub returns-clause-in_order : goal.returns-clause-in_order
returns-clause-in_order c = tokens_ordered
