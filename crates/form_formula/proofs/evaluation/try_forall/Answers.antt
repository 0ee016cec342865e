use Rattle.form_formula.proofs.MoveLemmas.{move_forall, move_to}
use Rattle.form_formula.proofs.evaluation.try_forall.Goals as goal

pub returns : goal.returns
returns c s nodes body waits =
    move_to s nodes c.args.waiting.now.frames.items _ _ _ _ _ _ _ c.in_ok-push_choice.ensures.frames c.in_ok-push_choice.ensures.elements
    (move_forall s nodes c.args.waiting.now.frames.items c.args.waiting.now.elements.items c.args.choice waits body c.if-choice.false)
