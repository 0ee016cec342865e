use Rattle.std.proofs.Common.{◌-◌, ◌∙◌, length, take, ap, arith}
use Rattle.std.proofs.lemmas.List.{length-take-le}
use Rattle.solve_equality.specs.Equality.{Equalities}
use Rattle.solve_theory.proofs.Undo.{one_less}
use Rattle.solve_equality.proofs.equality.EqualityTheory.undo.Goals as goal

pub undo_one-requires : goal.undo_one-requires
undo_one-requires c =
    let all = c.args.self.now.literals in
    rw c.loop-taken.invariant (omega (arith, length-take-le (length all - c.loop-taken._taken) all (omega arith), c.requires))

pub loop-taken-preserved : goal.loop-taken-preserved
loop-taken-preserved c =
    let start = c.args.self.now in
    c.undo_one.ensures
    ∙ ap (λ (e : Equalities). record e { literals = take (length e.literals - 1) e.literals }) c.loop-taken.invariant
    ∙ ap (λ ls. record start { literals = ls }) (one_less start.literals c.loop-taken._taken (omega (arith, c.requires)))
