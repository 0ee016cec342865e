use Rattle.certify_atoms.proofs.TextLists.{keeps_both}
use Rattle.certify_atoms.proofs.texts.add_values.Goals as goal

pub returns : goal.returns
returns c = keeps_both _ _ _ c.in_ok-add_value.ensures c.in_ok-add_value-2.ensures
