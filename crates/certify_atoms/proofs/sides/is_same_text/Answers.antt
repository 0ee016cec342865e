use Rattle.std.proofs.Common.{◌∙◌, sym}
use Rattle.certify_atoms.proofs.TextLists.{same_when}
use Rattle.certify_atoms.proofs.sides.is_same_text.Goals as goal

pub returns-clause-no : goal.returns-clause-no
returns-clause-no c = λ no. same_when c.args.a.now c.args.b.now (sym c.eq.ensures ∙ no)
