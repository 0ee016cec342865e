use Rattle.text_lexer.proofs.OneAnswer.{answered, one_refusal, tokens_or_refusal}
use Rattle.text_lexer.proofs.laws.one_answer.Goals as goal

pub returns-clause-tokens : goal.returns-clause-tokens
returns-clause-tokens c = tokens_or_refusal

pub returns-clause-refusal : goal.returns-clause-refusal
returns-clause-refusal c = one_refusal

pub returns-clause-some : goal.returns-clause-some
returns-clause-some c = answered
