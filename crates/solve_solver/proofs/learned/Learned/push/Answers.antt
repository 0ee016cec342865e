use Rattle.std.proofs.Common.{◌≡◌, ◌⊎◌, [], subst, sym}
use Rattle.solve_solver.specs.Learned.{LearnedView, learned_list}
use Rattle.solve_solver.proofs.LearnedClauses.{among_pushed, kept_or_none}
use Rattle.solve_solver.proofs.learned.Learned.push.Goals as goal

pub returns-clause-among : goal.returns-clause-among
returns-clause-among c =
    let old = learned_list c.args.self.now in
    let kept = c.self.inside.clauses.list in
    let list = subst (λ (v : LearnedView). (learned_list v ≡ old) ⊎ (learned_list v ≡ [])) (sym c.self.view_is) c.make_room.ensures.list in
    rw c.push_within.ensures.list (among_pushed old kept c.args.clause.now (kept_or_none old kept list))
