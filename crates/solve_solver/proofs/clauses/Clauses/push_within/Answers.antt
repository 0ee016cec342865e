use Rattle.std.proofs.Common.{◌≡◌, ◌++◌, length, ap, arith}
use Rattle.solve_solver.specs.Clauses.{ClausesView}
use Rattle.solve_solver.proofs.Parts.{parts_push}
use Rattle.solve_solver.proofs.clauses.Clauses.push_within.Goals as goal

pub returns-clause-list : goal.returns-clause-list
returns-clause-list c =
    let items = c.extend_within.ensures.items in
    let start : c.len-start.result ≡ length c.self.inside.literals.items = omega (arith, c.self.inside.literals.ok.0) in
    let end : c.len-end.result ≡ length (c.self.inside.literals.items ++ c.args.clause.now) = omega (arith, c.extend_within.new.list.ok.0, ap length items) in
    let list = ap (λ (v : ClausesView). v.list) c.self.view_is in
    rw (← list, c.push_within.ensures.items, items) (parts_push c.self.inside.literals.items c.args.clause.now c.self.inside.spans.items _ c.self.invariant start end)
