use Rattle.std.proofs.Common.{refl, ap, w64}
use Rattle.std.proofs.lemmas.Int.{to_z-of_z}
use Rattle.form_formula.specs.Trees.{num}
use Rattle.duty_writer.proofs.Putting.{put_ok}
use Rattle.duty_writer.proofs.nodes.put_num.Goals as goal

pub returns : goal.returns
returns c = put_ok _ _ _ (num c.args.n) _ _ refl (ap num (to_z-of_z w64 c.args.n c.ranges.n)) refl c.mk_num.ensures.made
