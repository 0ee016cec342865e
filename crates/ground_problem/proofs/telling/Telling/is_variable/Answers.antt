use Rattle.std.proofs.Common.{Contains, sym}
use Rattle.ground_terms.specs.Nodes.{list_of}
use Rattle.ground_terms.specs.declared.part.Variable.{Variable}
use Rattle.ground_terms.specs.Standing.{terms_at}
use Rattle.ground_problem.proofs.TellingLaws.{variable_formed}
use Rattle.ground_problem.proofs.telling.Telling.is_variable.Goals as goal

pub returns-then-is_at : goal.returns-then-is_at
returns-then-is_at c = λ yes f same.
    let s = c.args.source in
    let v : Variable = c.variable-item.result in
    let found = c.is_at.ensures c.if-is_at.true in
    let there : Contains s.variables.now v = (c.loop-variable.variable-index, c.loop-variable-test.true, sym c.variable-item.is) in
    variable_formed s.signature.now s.variables.now f v (terms_at s.terms.now c.args.self.now.named.items) c.args.number c.args.sort (list_of s.terms.now c.args.list) there same found.0 found.1 found.2 found.3
