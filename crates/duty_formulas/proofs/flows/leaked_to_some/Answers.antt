use Rattle.std.proofs.Common.{◌∙◌, ap, sym}
use Rattle.std.proofs.lemmas.Result.{err_from_is_err_and}
use Rattle.type_schema.specs.declared.rights.Kind.{Kind}
use Rattle.type_schema.specs.SchemaViews.{script_of}
use Rattle.type_schema.specs.Views.{init_of}
use Rattle.form_formula.specs.Trees.{bound, exists}
use Rattle.duty_meaning.specs.Duties.{for_some_principal}
use Rattle.duty_meaning.specs.Formulas.{record_at}
use Rattle.duty_listing.specs.Uses.{use_data}
use Rattle.duty_writer.specs.Terms.{term_data}
use Rattle.duty_formulas.specs.Parts.{leaked_from_some}
use Rattle.duty_formulas.proofs.Joining.{makes_as, part_made, exists_made, exists_stop}
use Rattle.duty_formulas.proofs.flows.leaked_to_some.Goals as goal

pub returns-in-Static : goal.returns-in-Static
returns-in-Static c =
    let t = script_of c.args.of.now.script.now in
    let s = c.args.spot.now in
    let go = leaked_from_some t s.duty (init_of s.init.now) s.number (use_data s.at) (term_data c.args.row.now) in
    makes_as _ _ _ _ _ (ap (λ (a : Kind). for_some_principal t a 1 go) (sym c.in-Static.is)) c.leaked_from_some.ensures

pub returns-in_err-id-in-Model : goal.returns-in_err-id-in-Model
returns-in_err-id-in-Model c =
    let t = script_of c.args.of.now.script.now in
    let s = c.args.spot.now in
    let go = leaked_from_some t s.duty (init_of s.init.now) s.number (use_data s.at) (term_data c.args.row.now) in
    let p = err_from_is_err_and c.from_residual.result c.from_residual.ensures.1 in
    exists_stop _ _ _ _ _ _ _ _
    (ap (λ k. exists k (go (record_at c.in-Model.m (bound k 1)) 2)) c.sort_of-sort.ensures ∙ ap (λ (a : Kind). for_some_principal t a 1 go) (sym c.in-Model.is)) p.1 p.2
    c.in_err-id-in-Model.ensures

pub exists-requires : goal.exists-requires
exists-requires c = part_made _ _ _ _ c.in_ok-id-in-Model.ensures

pub returns-in_ok-id-in-Model : goal.returns-in_ok-id-in-Model
returns-in_ok-id-in-Model c =
    let t = script_of c.args.of.now.script.now in
    let s = c.args.spot.now in
    let go = leaked_from_some t s.duty (init_of s.init.now) s.number (use_data s.at) (term_data c.args.row.now) in
    exists_made _ _ _ _ _ _ _ _
    (ap (λ k. exists k (go (record_at c.in-Model.m (bound k 1)) 2)) c.sort_of-sort.ensures ∙ ap (λ (a : Kind). for_some_principal t a 1 go) (sym c.in-Model.is))
    c.in_ok-id-in-Model.ensures c.exists.ensures
