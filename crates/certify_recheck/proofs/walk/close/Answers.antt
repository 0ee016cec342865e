use Rattle.std.proofs.Common.{◌++◌, [], ◌∷◌, ap, ◌∙◌}
use Rattle.certify_clauses.specs.declared.literal.Literal.{Literal}
use Rattle.certify_clauses.specs.PathView.{PathView}
use Rattle.certify_clauses.specs.Paths.{pending}
use Rattle.certify_clauses.proofs.Pending.{pending-negative, turned}
use Rattle.certify_recheck.proofs.walk.close.Goals as goal

pub returns-then-last-clause-step : goal.returns-then-last-clause-step
returns-then-last-clause-step g c =
    let left = c.take_back.new.path.literals in
    let new = ap (λ (p : PathView). p.literals) c.in_ok-push.ensures.ok ∙ ap (λ (l : Literal). left ++ l ∷ []) c.opposite.ensures in
    c.loop-last.invariant.left ∙ ap pending c.in-Some.ensures.literals ∙ turned left c.push.new.self.literals c.in-Some.last c.if-last.true new

pub loop-last-preserved : goal.loop-last-preserved
loop-last-preserved g c = record {
  vars = c.in-Some.ensures.vars ∙ c.loop-last.invariant.vars;
  left = c.loop-last.invariant.left ∙ ap pending c.in-Some.ensures.literals ∙ pending-negative c.take_back.new.path.literals c.in-Some.last c.if-last.false;
  ready = c.in-Some.ensures.ready;
}
