use Rattle.std.proofs.lemmas.List.Elements.{All-contains}
use Rattle.solve_solver.specs.Clauses.{IsWithin}
use Rattle.solve_solver.specs.Learned.{learned_list}
use Rattle.solve_solver.proofs.LearnedClauses.{clause_of-there}
use Rattle.solve_solver.proofs.watches.look_at.Goals as goal

pub look_into-requires-in-Some-clause-clause-within : goal.look_into-requires-in-Some-clause-clause-within
look_into-requires-in-Some-clause-clause-within c =
    let learned = c.args.learned.now in
    All-contains (IsWithin c.args.trail.now.vars) (learned_list learned) c.in-Some-clause.clause.now c.requires.learned_within
    (clause_of-there learned c.in-Learned.slot c.in-Some-clause.clause.now c.in-Some-clause.ensures)
