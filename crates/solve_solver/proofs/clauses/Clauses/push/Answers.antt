use Rattle.std.proofs.Common.{rules, ◌≡◌, ◌++◌, length, ap, ◌∙◌, arith, ap}
use Rattle.solve_solver.specs.Clauses.{parts}
use Rattle.solve_solver.proofs.Parts.{parts-append, parts_push}
use Rattle.solve_solver.proofs.clauses.Clauses.push.Goals as goal

pub returns-in_err-push-clause-err : goal.returns-in_err-push-clause-err
returns-in_err-push-clause-err c =
    let items = c.in_ok-extend_from_slice.ensures.items in
    let spans = c.in_err-push.ensures.items in
    let same : parts c.extend_from_slice.new.self.items c.push.new.self.items ≡ c.args.self.now.list = rw (items, spans) (parts-append c.self.inside.literals.items c.args.clause.now c.self.inside.spans.items c.self.invariant ∙ ap (λ v. v.list) c.self.view_is) in
    search rules

pub returns-clause-ok : goal.returns-clause-ok
returns-clause-ok c =
    let items = c.in_ok-extend_from_slice.ensures.items in
    let start : c.len-start.result ≡ length c.self.inside.literals.items = omega (arith, c.self.inside.literals.ok.0) in
    let end : c.len-end.result ≡ length (c.self.inside.literals.items ++ c.args.clause.now) = omega (arith, c.extend_from_slice.new.self.ok.0, ap length items) in
    rw (← ap (λ v. v.list) c.self.view_is, c.in_ok-push.ensures.items, items) (parts_push c.self.inside.literals.items c.args.clause.now c.self.inside.spans.items _ c.self.invariant start end)
