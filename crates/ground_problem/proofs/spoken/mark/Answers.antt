use Rattle.ground_problem.proofs.CheckLaws.{set_cases, set_here, set_kept}
use Rattle.ground_problem.proofs.spoken.mark.Goals as goal

pub returns-clause-only : goal.returns-clause-only
returns-clause-only c = λ k at. set_cases c.args.marks.now.items c.args.id k at

pub returns-clause-kept : goal.returns-clause-kept
returns-clause-kept c = λ k at. set_kept c.args.marks.now.items c.args.id k at

pub returns-clause-marked : goal.returns-clause-marked
returns-clause-marked c = λ lt. set_here c.args.marks.now.items c.args.id lt
