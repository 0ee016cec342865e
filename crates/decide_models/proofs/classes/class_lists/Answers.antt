use Rattle.std.proofs.Common.{arith}
use Rattle.std.proofs.lemmas.List.FromFn.{map-range_with_len_more}
use Rattle.decide_models.specs.Columns.{classes_at}
use Rattle.decide_models.proofs.classes.class_lists.Goals as goal

pub loop-sort-preserved : goal.loop-sort-preserved
loop-sort-preserved c =
    let f = classes_at c.args.signature.now c.args.terms.now c.args.found.now c.args.named.now in
    let e = map-range_with_len_more f 0 c.loop-sort.sort c.loop-sort.sort (omega arith) in
    grind (arith, c.loop-sort.invariant, c.in_ok-classes.ensures, c.in_ok-push.ensures.ok, e)
