use Rattle.text_parse.proofs.GrammarTexts.{spec_text}
use Rattle.text_parse.proofs.laws.one_spec_text.Goals as goal

pub returns-clause-some : goal.returns-clause-some
returns-clause-some c = spec_text.some

pub returns-clause-one : goal.returns-clause-one
returns-clause-one c = spec_text.one

pub returns-clause-tree : goal.returns-clause-tree
returns-clause-tree c = spec_text.tree

pub returns-clause-refusal : goal.returns-clause-refusal
returns-clause-refusal c = spec_text.refusal
