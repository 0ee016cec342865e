use Rattle.std.proofs.Common.{◌-◌, refl, arith}
use Rattle.std.proofs.lemmas.Result.{err_from_is_err_and}
use Rattle.type_schema.specs.Views.{init_of}
use Rattle.duty_meaning.specs.Reach.{init_reach}
use Rattle.duty_meaning.specs.Sizes.{size, row, other}
use Rattle.duty_builder.specs.Values.{schema_in, written_upto}
use Rattle.duty_builder.specs.Spending.{use_sizes}
use Rattle.duty_builder.proofs.Costs.{spends_stop, next_use}
use Rattle.duty_builder.proofs.inits.spend_uses.Goals as goal

pub returns-in_err-reached : goal.returns-in_err-reached
returns-in_err-reached c =
    let st = c.args.start.now in
    let s = schema_in st in
    let w = written_upto st c.args.upto in
    let init = init_of c.args.init.now in
    let i = c.loop-number.number in
    let next = next_use s w init i c.args.count (c.args.count - i) refl c.loop-number-test.true in
    let p = err_from_is_err_and c.from_residual.result c.from_residual.ensures.1 in
    spends_stop (size (init_reach s w other init row i 2)) (use_sizes s w init i (c.args.count - i)) (use_sizes s w init 0 c.args.count) c.args.w.now c.loop-number.w c.reached.new.w _ _ _ p.1 p.2
    c.loop-number.invariant (omega (arith, next)) c.in_err-reached.ensures

pub loop-number-preserved : goal.loop-number-preserved
loop-number-preserved c =
    let st = c.args.start.now in
    let s = schema_in st in
    let w = written_upto st c.args.upto in
    let init = init_of c.args.init.now in
    let i = c.loop-number.number in
    let next = next_use s w init i c.args.count (c.args.count - i) refl c.loop-number-test.true in
    omega (arith, next, c.in_ok-reached.ensures.left, c.loop-number.invariant)
