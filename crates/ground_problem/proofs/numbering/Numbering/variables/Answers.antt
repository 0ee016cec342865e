use Rattle.ground_problem.specs.Numbers.{IsNumber}
use Rattle.ground_problem.proofs.NumberLaws.{kept_both, number_kept, zips_next}
use Rattle.ground_problem.proofs.numbering.Numbering.variables.Goals as goal

pub loop-fact-preserved : goal.loop-fact-preserved
loop-fact-preserved c =
    let old = c.loop-fact.self in
    let new = c.variable.new.self in (
      kept_both c.args.self.now old new c.loop-fact.invariant.0 c.in_ok-variable.ensures.kept,
      zips_next (IsNumber old.facts.keys) (IsNumber new.facts.keys) (number_kept old new c.in_ok-variable.ensures.kept) c.loop-fact.variables.items c.push.new.self.items c.args.facts.now c.loop-fact.fact-index _
          c.in_ok-variable.variable c.loop-fact-test.true c.loop-fact.invariant.1 c.in_ok-variable.ensures.is c.in_ok-push.ensures.items,
    )
