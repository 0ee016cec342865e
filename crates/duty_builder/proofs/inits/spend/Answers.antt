use Rattle.std.proofs.Common.{◌+◌, ap, arith}
use Rattle.std.proofs.lemmas.Result.{err_from_is_err_and}
use Rattle.type_schema.specs.Views.{init_of}
use Rattle.duty_meaning.specs.Sizes.{result_size, init_size_over}
use Rattle.duty_builder.specs.Values.{schema_in, written_upto}
use Rattle.duty_builder.specs.Spending.{use_sizes}
use Rattle.duty_builder.proofs.Costs.{spends_same, spends_stop, spends_later}
use Rattle.duty_builder.proofs.inits.spend.Goals as goal

pub returns-in_err-count : goal.returns-in_err-count
returns-in_err-count c =
    let p = err_from_is_err_and c.from_residual.result c.from_residual.ensures.1 in rw (p.1, p.2) tt

pub returns-in_err-spend_result : goal.returns-in_err-spend_result
returns-in_err-spend_result c =
    let st = c.args.start.now in
    let size = result_size (schema_in st) (written_upto st c.args.upto) c.args.ty (init_of c.args.init.now) in
    let all = init_size_over (schema_in st) (written_upto st c.args.upto) c.args.ty (init_of c.args.init.now) in
    let p = err_from_is_err_and c.from_residual-in_err-spend_result.result c.from_residual-in_err-spend_result.ensures.1 in
    spends_stop size all all c.args.w.now c.args.w.now c.spend_result.new.w _ _ _ p.1 p.2 (omega arith) (omega arith) c.in_err-spend_result.ensures

pub returns : goal.returns
returns c =
    let st = c.args.start.now in
    let s = schema_in st in
    let w = written_upto st c.args.upto in
    let init = init_of c.args.init.now in
    spends_same _ _ c.args.w.now c.spend_uses.new.w c.spend_uses.result (ap (λ n. result_size s w c.args.ty init + use_sizes s w init 0 n) c.in_ok-count.ensures)
    (spends_later (result_size s w c.args.ty init) (use_sizes s w init 0 c.in_ok-count.count) c.args.w.now c.spend_result.new.w c.spend_uses.new.w c.spend_uses.result c.in_ok-spend_result.ensures c.spend_uses.ensures)
