use Rattle.std.proofs.Common.{suc, None, arith}
use Rattle.certify_problem.proofs.Lists.{padded_more}
use Rattle.certify_problem.proofs.listed.pad.Goals as goal

pub loop-atoms-preserved : goal.loop-atoms-preserved
loop-atoms-preserved c = record {
  gap = suc c.loop-atoms.invariant.gap;
  whole = padded_more None c.args.atoms.now.items c.loop-atoms.atoms.items c.push.new.self.items c.loop-atoms.invariant.gap c.in_ok-push.ensures.items c.loop-atoms.invariant.whole;
  within = omega arith;
}
