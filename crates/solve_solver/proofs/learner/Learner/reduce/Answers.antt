use Rattle.std.proofs.Common.{ap, subst, sym}
use Rattle.std.specs.List.{All, Contains}
use Rattle.std.proofs.lemmas.List.Elements.{All-contains_itself}
use Rattle.solve_solver.specs.Learned.{LearnedView, learned_list}
use Rattle.solve_solver.specs.LearnerView.{LearnerView}
use Rattle.solve_solver.proofs.learner.Learner.reduce.Goals as goal

pub returns-then-is_crowded-clause-fewer : goal.returns-then-is_crowded-clause-fewer
returns-then-is_crowded-clause-fewer g c =
    let held = ap (λ (v : LearnerView _ _). v.learned) c.hold_reasons.ensures in
    let moved = ap (λ (v : LearnerView _ _). v.learned) c.move_reasons.ensures in
    subst (λ (l : LearnedView). All (Contains (learned_list l)) (learned_list c.move_reasons.new.self.learned)) held
    (subst (λ (l : LearnedView). All (Contains (learned_list c.hold_reasons.new.self.learned)) (learned_list l)) (sym moved) c.forget.ensures.fewer)

pub returns-else-is_crowded-clause-fewer : goal.returns-else-is_crowded-clause-fewer
returns-else-is_crowded-clause-fewer g c = All-contains_itself (learned_list c.args.self.now.learned)
