use Rattle.text_parse.proofs.GrammarTexts.{script_text}
use Rattle.text_parse.proofs.laws.one_script_text.Goals as goal

pub returns-clause-some : goal.returns-clause-some
returns-clause-some c = script_text.some

pub returns-clause-one : goal.returns-clause-one
returns-clause-one c = script_text.one

pub returns-clause-tree : goal.returns-clause-tree
returns-clause-tree c = script_text.tree

pub returns-clause-refusal : goal.returns-clause-refusal
returns-clause-refusal c = script_text.refusal
