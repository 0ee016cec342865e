use Rattle.std.proofs.Common.{refl, ap}
use Rattle.form_formula.specs.Trees.{present}
use Rattle.duty_writer.proofs.Putting.{atom_put}
use Rattle.duty_writer.proofs.nodes.put_present.Goals as goal

pub returns : goal.returns
returns c =
    let one = c.in_ok-t.ensures in
    atom_put _ _ _ _ _ _ _ _ _ one.kept (ap (present c.args.f) one.means) refl c.in_ok-id.ensures.made c.signed.ensures
