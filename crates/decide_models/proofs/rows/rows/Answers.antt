use Rattle.decide_models.specs.Columns.{row_by}
use Rattle.decide_models.proofs.Steps.{map_goes_on}
use Rattle.decide_models.proofs.rows.rows.Goals as goal

pub loop-place-preserved : goal.loop-place-preserved
loop-place-preserved c =
    let f = row_by c.args.terms.now c.args.source.found.now c.args.told.now c.args.source.all.now c.args.source.defaults.now in
    map_goes_on f c.args.signature.now.funs c.as_slice-sig-items.result.now c.loop-place.place _ _ _ _ c.in_ok-row.row c.as_slice-sig-items.ensures c.in_ok-short.ensures c.loop-place-test.true c.loop-place.invariant c.in_ok-row.ensures c.in_ok-push.ensures.ok
