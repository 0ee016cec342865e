use Rattle.std.proofs.Common.{◌+◌, ap}
use Rattle.std.proofs.lemmas.Result.{err_from_is_err_and}
use Rattle.type_schema.specs.SchemaViews.{script_of}
use Rattle.type_schema.specs.Views.{init_of}
use Rattle.form_formula.specs.Trees.{bound, exists}
use Rattle.duty_listing.specs.Uses.{use_data}
use Rattle.duty_writer.specs.Terms.{term_data}
use Rattle.duty_builder.specs.Values.{who_data}
use Rattle.duty_formulas.specs.Parts.{leaked}
use Rattle.duty_formulas.proofs.Joining.{part_made, exists_made, exists_stop}
use Rattle.duty_formulas.proofs.flows.leaked_from_some.Goals as goal

pub returns-in_err-id : goal.returns-in_err-id
returns-in_err-id c =
    let t = script_of c.args.of.now.script.now in
    let s = c.args.spot.now in
    let p = err_from_is_err_and c.from_residual.result c.from_residual.ensures.1 in
    exists_stop _ _ _ _ _ _ _ _
    (ap (λ k. exists k (leaked t s.duty (init_of s.init.now) s.number (use_data s.at) (term_data c.args.row.now) (who_data c.args.who.now) (bound k c.args.above) (c.args.above + 1)))
    c.sort_of-sort.ensures) p.1 p.2
    c.in_err-id.ensures

pub exists-requires : goal.exists-requires
exists-requires c = part_made _ _ _ _ c.in_ok-id.ensures

pub returns : goal.returns
returns c =
    let t = script_of c.args.of.now.script.now in
    let s = c.args.spot.now in
    exists_made _ _ _ _ _ _ _ _
    (ap (λ k. exists k (leaked t s.duty (init_of s.init.now) s.number (use_data s.at) (term_data c.args.row.now) (who_data c.args.who.now) (bound k c.args.above) (c.args.above + 1)))
    c.sort_of-sort.ensures)
    c.in_ok-id.ensures c.exists.ensures
