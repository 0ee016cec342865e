use Rattle.std.proofs.Common.{List, Vec, Global, subst}
use Rattle.ground_gates.specs.declared.gate.Literal.{Literal}
use Rattle.ground_problem.specs.declared.facts.FactLiteral.{FactLiteral}
use Rattle.ground_problem.specs.Numbers.{AreLiterals}
use Rattle.ground_problem.proofs.NumberLaws.{kept_both, literals_kept, zips_next}
use Rattle.ground_problem.proofs.numbering.Numbering.clauses.Goals as goal

pub loop-clause-preserved : goal.loop-clause-preserved
loop-clause-preserved c =
    let old = c.loop-clause.self in
    let new = c.clause.new.self in
    let R : Vec Literal Global → Vec FactLiteral Global → Type 0 = λ x p. AreLiterals old.facts.keys x.items p.items in
    let S : Vec Literal Global → Vec FactLiteral Global → Type 0 = λ x p. AreLiterals new.facts.keys x.items p.items in
    let Q : List FactLiteral → Type 0 = λ ls. AreLiterals new.facts.keys c.in_ok-literals.literals.items ls in
    let P : Vec FactLiteral Global → Type 0 = λ p. S c.in_ok-literals.literals p in (
      kept_both c.args.self.now old new c.loop-clause.invariant.0 c.in_ok-literals.ensures.kept,
      zips_next R S (λ x p h. literals_kept old new c.in_ok-literals.ensures.kept x.items p.items h) c.loop-clause.clauses.items c.push.new.self.items c.args.facts.now c.loop-clause.clause-index c.clause-item.result
          c.in_ok-literals.literals c.loop-clause-test.true c.loop-clause.invariant.1 (subst P c.clause-item.is (subst Q c.as_slice.ensures.value c.in_ok-literals.ensures.are)) c.in_ok-push.ensures.items,
    )
