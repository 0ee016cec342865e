use Rattle.std.proofs.Common.{ℕ, ◌-◌, Bool, ap, true, false}
use Rattle.std.proofs.lemmas.Result.{err_from_is_err_and}
use Rattle.type_schema.specs.SchemaViews.{script_of}
use Rattle.form_formula.specs.Trees.{both}
use Rattle.duty_meaning.specs.Duties.{has_right}
use Rattle.duty_writer.specs.Terms.{term_data}
use Rattle.duty_builder.specs.Values.{who_data}
use Rattle.duty_formulas.proofs.Joining.{makes_as, made_as, part_made, part_kept, both_made, first_stop, second_stop}
use Rattle.duty_formulas.proofs.gains.gained.Goals as goal

pub returns-in_err-after : goal.returns-in_err-after
returns-in_err-after c =
    let t = script_of c.args.of.now.script.now in
    let d = c.args.duty in
    let Right = λ (n : ℕ) (sign : Bool). has_right t n d.target d.right (term_data c.args.row.now) (who_data c.args.who.now) sign c.args.above in
    let p = err_from_is_err_and c.from_residual.result c.from_residual.ensures.1 in
    first_stop _ _ (Right d.command true) (Right (d.command - 1) false) _ _ _ p.1 p.2 c.in_err-after.ensures

pub returns-in_err-not_before : goal.returns-in_err-not_before
returns-in_err-not_before c =
    let t = script_of c.args.of.now.script.now in
    let d = c.args.duty in
    let Right = λ (n : ℕ) (sign : Bool). has_right t n d.target d.right (term_data c.args.row.now) (who_data c.args.who.now) sign c.args.above in
    let after = Right d.command true in
    let before = c.saturating_sub-before.result in
    let p = err_from_is_err_and c.from_residual-in_err-not_before.result c.from_residual-in_err-not_before.ensures.1 in
    makes_as _ _ (both after (Right before false)) _ _ (ap (λ (n : ℕ). both after (Right n false)) c.saturating_sub-before.ensures)
    (second_stop _ _ _ after (Right before false) _ _ _ _ c.in_ok-after.ensures p.1 p.2 c.in_err-not_before.ensures)

pub both-requires-clause-left : goal.both-requires-clause-left
both-requires-clause-left c = part_kept _ _ _ _ _ _ _ c.in_ok-after.ensures c.in_ok-not_before.ensures

pub both-requires-clause-right : goal.both-requires-clause-right
both-requires-clause-right c = part_made _ _ _ _ c.in_ok-not_before.ensures

pub returns : goal.returns
returns c =
    let t = script_of c.args.of.now.script.now in
    both_made _ _ _ _ _ _ _ _ _ c.in_ok-after.ensures
    (made_as _ _ _ _ _
    (ap (λ (n : ℕ). has_right t n c.args.duty.target c.args.duty.right (term_data c.args.row.now) (who_data c.args.who.now) false c.args.above) c.saturating_sub-before.ensures)
    c.in_ok-not_before.ensures)
    c.both.ensures
