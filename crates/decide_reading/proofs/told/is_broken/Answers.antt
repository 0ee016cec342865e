use Rattle.std.proofs.Common.{List, All, arith, refl, subst}
use Rattle.std.proofs.lemmas.List.{take_all}
use Rattle.std.proofs.lemmas.List.Elements.{All-more}
use Rattle.ground_problem.specs.declared.facts.FactLiteral.{FactLiteral}
use Rattle.decide_reading.specs.Broken.{IsFalse}
use Rattle.decide_reading.proofs.told.is_broken.Goals as goal

pub loop-literal-preserved : goal.loop-literal-preserved
loop-literal-preserved c =
    All-more (IsFalse c.args.source.terms.now c.args.source.found.now c.args.pairs.now) c.args.clause.now c.loop-literal.literal-index _ c.loop-literal-test.true c.loop-literal.invariant
    (c.if-not-is_false.ensures refl)

pub returns : goal.returns
returns c = λ same.
    let P : List FactLiteral → Type 0 = λ ls. All (IsFalse c.args.source.terms.now c.args.source.found.now c.args.pairs.now) ls in
    subst P (take_all c.loop-literal.literal-index c.args.clause.now (omega arith)) c.loop-literal.invariant
