use Rattle.ground_problem.proofs.CongruenceLaws.{two_added}
use Rattle.ground_problem.proofs.congruence.push_two_variables.Goals as goal

pub returns : goal.returns
returns c =
    two_added c.args.source.arena.now c.args.source.terms.now c.args.x c.args.y _ _ _ _ c.not_so.result _ _ _ _ _ c.in_ok-literals.ensures.items c.not_so.ensures c.in_ok-push_all_apart.ensures c.as_slice.ensures.value
    c.as_slice-2.ensures.value c.same.ensures c.in_ok-push_with.ensures c.in_ok-push_with-2.ensures
