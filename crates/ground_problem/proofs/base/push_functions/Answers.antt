use Rattle.std.proofs.Common.{ap}
use Rattle.std.specs.List.{flat_map}
use Rattle.form_tables.specs.Clauses.{function_clauses}
use Rattle.ground_problem.proofs.Adding.{added_none, added_more, added_whole, added_as}
use Rattle.ground_problem.proofs.base.push_functions.Goals as goal

pub loop-sig-init : goal.loop-sig-init
loop-sig-init c = added_none c.args.source.arena.now c.args.source.terms.now _

pub loop-sig-preserved : goal.loop-sig-preserved
loop-sig-preserved c =
    let s = c.args.source in
    added_more s.arena.now s.terms.now (function_clauses s.signature.now) c.as_slice-sigs.result.now c.loop-sig.sig-index _ _ _ _ c.loop-sig-test.true c.loop-sig.invariant c.in_ok-push_function.ensures

pub returns : goal.returns
returns c =
    let s = c.args.source in
    added_as s.arena.now s.terms.now _ _ (flat_map (function_clauses s.signature.now) c.as_slice-sigs.result.now) (flat_map (function_clauses s.signature.now) s.signature.now.funs)
    (ap (flat_map (function_clauses s.signature.now)) c.as_slice-sigs.ensures)
    (added_whole s.arena.now s.terms.now (function_clauses s.signature.now) c.as_slice-sigs.result.now c.loop-sig.sig-index _ _ c.loop-sig-test.false c.loop-sig.invariant)
