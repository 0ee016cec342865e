use Rattle.std.proofs.Common.{◌∙◌, ap}
use Rattle.std.proofs.lemmas.Result.{err_from_is_err_and}
use Rattle.type_schema.specs.SchemaViews.{script_of}
use Rattle.form_formula.specs.Trees.{bound, exists}
use Rattle.duty_meaning.specs.Structures.{sort_of}
use Rattle.duty_formulas.specs.Parts.{gained_by_some}
use Rattle.duty_formulas.proofs.Joining.{part_made, exists_made, exists_stop}
use Rattle.duty_formulas.proofs.gains.gain.Goals as goal

pub returns-in_err-id : goal.returns-in_err-id
returns-in_err-id c =
    let t = script_of c.args.of.now.script.now in
    let p = err_from_is_err_and c.from_residual.result c.from_residual.ensures.1 in
    exists_stop _ _ _ _ _ _ _ _
    (ap (λ k. exists k (gained_by_some t c.args.duty (bound k 0))) (c.sort_of-sort.ensures ∙ ap (sort_of t.start) c.model_of_target.ensures)) p.1 p.2
    c.in_err-id.ensures

pub exists-requires : goal.exists-requires
exists-requires c = part_made _ _ _ _ c.in_ok-id.ensures

pub returns : goal.returns
returns c =
    let t = script_of c.args.of.now.script.now in
    exists_made _ _ _ _ _ _ _ _
    (ap (λ k. exists k (gained_by_some t c.args.duty (bound k 0))) (c.sort_of-sort.ensures ∙ ap (sort_of t.start) c.model_of_target.ensures))
    c.in_ok-id.ensures c.exists.ensures
