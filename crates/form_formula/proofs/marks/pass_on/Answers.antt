use Rattle.std.proofs.Common.{arith}
use Rattle.form_formula.proofs.MarkLemmas.{kept_more, passed_on_step}
use Rattle.form_formula.proofs.marks.pass_on.Goals as goal

pub loop-left-preserved : goal.loop-left-preserved
loop-left-preserved c = (
  omega (arith, c.mark_parts.ensures.kept.0),
  kept_more _ _ _ c.loop-left.invariant.1 c.mark_parts.ensures.kept,
  passed_on_step c.args.arena.now c.loop-left.marks c.mark_parts.new.marks c.loop-left.left c.node.result.now c.loop-left-test.true c.node.ensures.node
      c.node.ensures.below c.mark_parts.ensures.kept c.mark_parts.ensures.above c.mark_parts.ensures.passed_on c.loop-left.invariant.2,
)
