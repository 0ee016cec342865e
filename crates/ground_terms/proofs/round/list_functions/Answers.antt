use Rattle.ground_terms.proofs.Standing.{ones_kept}
use Rattle.ground_terms.proofs.AppliedTerms.{function_listed}
use Rattle.ground_terms.proofs.round.list_functions.Goals as goal

pub list_function-requires : goal.list_function-requires
list_function-requires c = ones_kept c.args.terms.now c.loop-h.terms c.args.current.now c.loop-h.invariant.kept c.requires

pub loop-h-preserved : goal.loop-h-preserved
loop-h-preserved c =
    function_listed c.args.signature.now c.args.current.now c.args.functions.now c.loop-h.h-index _ c.loop-h.terms _ _ _ _ c.requires c.loop-h-test.true c.loop-h.invariant
    c.in_ok-list_function.ensures
