use Rattle.certify_clauses.proofs.Refuting.{trees_refute}
use Rattle.certify_clauses.proofs.laws.lawful_trees_refute.Goals as goal

pub returns : goal.returns
returns c = trees_refute
