use Rattle.std.proofs.Common.{refl, ap}
use Rattle.form_formula.specs.Trees.{less}
use Rattle.duty_writer.proofs.Putting.{two_put, atom_put, ap2}
use Rattle.duty_writer.proofs.nodes.put_less.Goals as goal

pub returns : goal.returns
returns c =
    let both = two_put _ _ _ _ _ _ _ c.in_ok-t.ensures c.in_ok-u.ensures in
    atom_put _ _ _ _ _ _ _ _ _ both.2 (ap2 less both.0 both.1) refl c.in_ok-id.ensures.made c.signed.ensures
