use Rattle.std.proofs.Common.{sym}
use Rattle.std.proofs.lemmas.List.Sums.{fold_more}
use Rattle.form_formula.specs.Trees.{app}
use Rattle.form_formula.specs.Nodes.{term_of}
use Rattle.duty_writer.proofs.Putting.{put_applied}
use Rattle.duty_writer.proofs.nodes.put_chain.Goals as goal

pub loop-f-preserved : goal.loop-f-preserved
loop-f-preserved c =
    put_applied _ _ _ _ _ _ _ _
    (sym (fold_more (λ u f. app f u) (term_of c.args.arena.now c.args.t) c.args.functions.now c.loop-f.f-index 0 c.loop-f-test.true))
    c.loop-f.invariant c.in_ok-at.ensures.made
