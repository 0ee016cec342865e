use Rattle.std.proofs.Common.{◌≡◌, List, [], ◌∷◌, ◌++◌, ◌∙◌, map, ap, pos, Vec, Global, arith}
use Rattle.std.proofs.lemmas.Int.{ints}
use Rattle.std.proofs.lemmas.List.{map_push}
use Rattle.solve_solver.specs.declared.literal.PLit.{PLit}
use Rattle.solve_bench.proofs.Spelling.{spelled_ended}
use Rattle.solve_bench.proofs.formula.take_number.Goals as goal

pub returns-then-number-eq0-clause-spelled : goal.returns-then-number-eq0-clause-spelled
returns-then-number-eq0-clause-spelled c =
    let items_of : Vec PLit Global → List PLit = λ v. v.items in
    let old = c.args.clauses.now.items in
    let pushed =
    ap (map items_of) c.in_ok-push.ensures.items
    ∙ map_push items_of old c.replace-clause.result
    ∙ ap (λ v. map items_of old ++ items_of v ∷ []) c.replace-clause.ensures.value in
    let none = ap items_of c.replace-clause.ensures.after ∙ c.new.ensures.items in
    let zero : c.args.number ≡ pos 0 = omega (arith, ints, c.if-number-eq0.true) in
    spelled_ended (map items_of old) (map items_of c.push.new.self.items) c.args.open_clause.now.items c.replace-clause.new.dest.items c.args.number pushed none zero
