use Rattle.std.proofs.Common.{refl}
use Rattle.ground_problem.specs.Numbers.{IsLiteralFor}
use Rattle.ground_problem.proofs.NumberLaws.{kept_both, literal_kept, zips_next}
use Rattle.ground_problem.proofs.numbering.Numbering.clause.Goals as goal

pub loop-l-preserved : goal.loop-l-preserved
loop-l-preserved c =
    let old = c.loop-l.self in
    let new = c.variable.new.self in (
      kept_both c.args.self.now old new c.loop-l.invariant.0 c.in_ok-var.ensures.kept,
      zips_next (IsLiteralFor old.facts.keys) (IsLiteralFor new.facts.keys) (literal_kept old new c.in_ok-var.ensures.kept) c.loop-l.literals.items c.push.new.self.items c.args.facts.now c.loop-l.l-index _ _
          c.loop-l-test.true c.loop-l.invariant.1 (c.in_ok-var.ensures.is, refl) c.in_ok-push.ensures.items,
    )
