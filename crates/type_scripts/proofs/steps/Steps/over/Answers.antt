use Rattle.std.proofs.Common.{arith, ◌+◌}
use Rattle.std.proofs.lemmas.Result.{err_from_is_err_and}
use Rattle.type_scripts.specs.Running.{run_of}
use Rattle.type_scripts.proofs.Stepped.{steps_at_fault, steps_end, steps_taken}
use Rattle.type_scripts.proofs.steps.Steps.over.Goals as goal

pub returns-in_err-take_up : goal.returns-in_err-take_up
returns-in_err-take_up c =
    let p = err_from_is_err_and c.from_residual-in_err-take_up.result c.from_residual-in_err-take_up.ensures.1 in
    rw (p.1, p.2)
    (λ missing.
    steps_at_fault (run_of c.loop-before.steps) (c.loop-before.before + 1) c.args.commands.now c.loop-before.before c.index-commands-before.result _ _
    c.loop-before-test.true c.index-commands-before.is c.loop-before.invariant (c.in_err-take_up.ensures missing))

pub loop-before-preserved : goal.loop-before-preserved
loop-before-preserved c =
    steps_taken (run_of c.loop-before.steps) (run_of c.take_up.new.self) (c.loop-before.before + 1) _ c.args.commands.now c.loop-before.before
    c.index-commands-before.result _ c.loop-before-test.true c.index-commands-before.is c.loop-before.invariant c.in_ok-take_up.ensures (omega arith)

pub returns : goal.returns
returns c =
    steps_end (run_of c.loop-before.steps) (c.loop-before.before + 1) c.args.commands.now c.loop-before.before _ c.loop-before-test.false c.loop-before.invariant
