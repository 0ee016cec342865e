use Rattle.std.proofs.Common.{ap}
use Rattle.ground_terms.specs.Nodes.{term_part}
use Rattle.ground_instances.specs.declared.input.Value.TheVariants.{Term}
use Rattle.ground_problem.specs.Inputs.{IsOfRange, IsPlainRange}
use Rattle.ground_problem.specs.Telling.{told_so_far}
use Rattle.ground_problem.proofs.CheckLaws.{plain_term, some_as}
use Rattle.ground_problem.proofs.checks.Check.term_range.Goals as goal

pub returns-in-Field : goal.returns-in-Field
returns-in-Field c =
    let s = c.args.self in
    let terms = s.terms.now in
    let v = told_so_far terms s.telling.now in
    let found = c.requires.others c.args.id (c.standing.ensures.other c.in-Other.is) in
    some_as (IsPlainRange s.signature.now c.in-Field.h) (IsOfRange s.signature.now v s.arena.now terms (Term c.args.id))
    (plain_term s.signature.now v s.arena.now terms c.args.id c.in-Field.h _ found.0 (ap term_part c.in-Field.ensures.means) found.1) c.plain_range.result c.plain_range.ensures
