use Rattle.certify_clauses.specs.InMemory.{problem_in}
use Rattle.certify_scripts.proofs.PartLaws.{part_passes, within_more}
use Rattle.certify_scripts.proofs.parts.recheck_over.Goals as goal

pub returns-in-Ok : goal.returns-in-Ok
returns-in-Ok c = (
  part_passes c.args.text.now c.args.from (problem_in c.args.c.now) c.args.number c.in-Ok.to c.in-Ok.ensures.ok,
  within_more c.args.text.now c.args.from c.in-Ok.to c.requires.within c.in-Ok.ensures.within c.in-Ok.ensures.few,
)
