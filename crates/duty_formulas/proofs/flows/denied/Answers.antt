use Rattle.std.proofs.Common.{false}
use Rattle.std.proofs.lemmas.Result.{err_from_is_err_and}
use Rattle.type_schema.specs.declared.rights.Right.TheVariants.{Read}
use Rattle.type_schema.specs.declared.rights.Target.TheVariants as on
use Rattle.type_schema.specs.SchemaViews.{script_of}
use Rattle.type_schema.specs.Views.{init_of}
use Rattle.duty_meaning.specs.Reach.{init_reach}
use Rattle.duty_meaning.specs.Duties.{written_at, has_right}
use Rattle.duty_listing.specs.Uses.{use_data}
use Rattle.duty_writer.specs.Terms.{term_data}
use Rattle.duty_builder.specs.Values.{who_data}
use Rattle.duty_formulas.proofs.Joining.{part_made, part_kept, both_made, first_stop, second_stop}
use Rattle.duty_formulas.proofs.flows.denied.Goals as goal

pub returns-in_err-reads : goal.returns-in_err-reads
returns-in_err-reads c =
    let t = script_of c.args.of.now.script.now in
    let s = c.args.spot.now in
    let reads = init_reach t.start (written_at t s.duty.command) (term_data c.args.source.now) (init_of s.init.now) (term_data c.args.row.now) s.number c.args.above in
    let may_not = has_right t s.duty.command (on.Field (use_data s.at).model (use_data s.at).field) Read (term_data c.args.source.now) (who_data c.args.who.now) false c.args.above in
    let p = err_from_is_err_and c.from_residual.result c.from_residual.ensures.1 in
    first_stop _ _ reads may_not _ _ _ p.1 p.2 c.in_err-reads.ensures

pub returns-in_err-may_not : goal.returns-in_err-may_not
returns-in_err-may_not c =
    let t = script_of c.args.of.now.script.now in
    let s = c.args.spot.now in
    let reads = init_reach t.start (written_at t s.duty.command) (term_data c.args.source.now) (init_of s.init.now) (term_data c.args.row.now) s.number c.args.above in
    let may_not = has_right t s.duty.command (on.Field (use_data s.at).model (use_data s.at).field) Read (term_data c.args.source.now) (who_data c.args.who.now) false c.args.above in
    let p = err_from_is_err_and c.from_residual-in_err-may_not.result c.from_residual-in_err-may_not.ensures.1 in
    second_stop _ _ _ reads may_not _ _ _ _ c.in_ok-reads.ensures p.1 p.2 c.in_err-may_not.ensures

pub both-requires-clause-left : goal.both-requires-clause-left
both-requires-clause-left c = part_kept _ _ _ _ _ _ _ c.in_ok-reads.ensures c.in_ok-may_not.ensures

pub both-requires-clause-right : goal.both-requires-clause-right
both-requires-clause-right c = part_made _ _ _ _ c.in_ok-may_not.ensures

pub returns : goal.returns
returns c = both_made _ _ _ _ _ _ _ _ _ c.in_ok-reads.ensures c.in_ok-may_not.ensures c.both.ensures
