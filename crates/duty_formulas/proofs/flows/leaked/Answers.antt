use Rattle.std.proofs.Common.{true}
use Rattle.std.proofs.lemmas.Result.{err_from_is_err_and}
use Rattle.type_schema.specs.declared.rights.Right.TheVariants.{Read}
use Rattle.type_schema.specs.SchemaViews.{script_of}
use Rattle.type_schema.specs.Views.{init_of}
use Rattle.duty_meaning.specs.Duties.{has_right}
use Rattle.duty_listing.specs.Uses.{use_data}
use Rattle.duty_writer.specs.Terms.{term_data}
use Rattle.duty_builder.specs.Values.{who_data}
use Rattle.duty_formulas.specs.Parts.{denied}
use Rattle.duty_formulas.proofs.Joining.{part_made, part_kept, both_made, first_stop, second_stop}
use Rattle.duty_formulas.proofs.flows.leaked.Goals as goal

pub returns-in_err-may : goal.returns-in_err-may
returns-in_err-may c =
    let t = script_of c.args.of.now.script.now in
    let s = c.args.spot.now in
    let may = has_right t s.duty.command s.duty.target Read (term_data c.args.row.now) (who_data c.args.who.now) true c.args.above in
    let rest = denied t s.duty (init_of s.init.now) s.number (use_data s.at) (term_data c.args.row.now) (who_data c.args.who.now) (term_data c.args.source.now) c.args.above in
    let p = err_from_is_err_and c.from_residual.result c.from_residual.ensures.1 in
    first_stop _ _ may rest _ _ _ p.1 p.2 c.in_err-may.ensures

pub returns-in_err-rest : goal.returns-in_err-rest
returns-in_err-rest c =
    let t = script_of c.args.of.now.script.now in
    let s = c.args.spot.now in
    let may = has_right t s.duty.command s.duty.target Read (term_data c.args.row.now) (who_data c.args.who.now) true c.args.above in
    let rest = denied t s.duty (init_of s.init.now) s.number (use_data s.at) (term_data c.args.row.now) (who_data c.args.who.now) (term_data c.args.source.now) c.args.above in
    let p = err_from_is_err_and c.from_residual-in_err-rest.result c.from_residual-in_err-rest.ensures.1 in
    second_stop _ _ _ may rest _ _ _ _ c.in_ok-may.ensures p.1 p.2 c.in_err-rest.ensures

pub both-requires-clause-left : goal.both-requires-clause-left
both-requires-clause-left c = part_kept _ _ _ _ _ _ _ c.in_ok-may.ensures c.in_ok-rest.ensures

pub both-requires-clause-right : goal.both-requires-clause-right
both-requires-clause-right c = part_made _ _ _ _ c.in_ok-rest.ensures

pub returns : goal.returns
returns c = both_made _ _ _ _ _ _ _ _ _ c.in_ok-may.ensures c.in_ok-rest.ensures c.both.ensures
