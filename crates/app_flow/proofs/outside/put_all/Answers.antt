use Rattle.std.proofs.Common.{arith}
use Rattle.app_flow.proofs.ToldLemmas.{Appends-more}
use Rattle.app_flow.proofs.outside.put_all.Goals as goal

pub loop-done-preserved : goal.loop-done-preserved
loop-done-preserved g c = record {
  within = omega (arith, c.in_ok-done.ensures.within);
  front = Appends-more _ _ _ _ _ _ c.loop-done.invariant.front c.in_ok-done.ensures.appended;
  never_falls = omega (arith, c.put.ensures.never_falls);
}
