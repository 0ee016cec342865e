use Rattle.std.proofs.Common.{◌∙◌, sym}
use Rattle.decide_search.proofs.TextLists.{same_when}
use Rattle.decide_search.proofs.sides.is_same_text.Goals as goal

pub returns-clause-no : goal.returns-clause-no
returns-clause-no c = λ no. same_when c.args.a.now c.args.b.now (sym c.eq.ensures ∙ no)
