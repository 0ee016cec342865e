use Rattle.std.proofs.Common.{◌∙◌, ap, sym}
use Rattle.duty_meaning.specs.Cases.{is_truth}
use Rattle.duty_builder.specs.Values.{schema_in, source_data}
use Rattle.duty_builder.proofs.Walks.{ok_same, rests}
use Rattle.duty_builder.proofs.truths.is_truth_at.Goals as goal

pub returns-in-Expr : goal.returns-in-Expr
returns-in-Expr c = let st = c.args.start.now in
    ok_same c.first.result _ _ (ap (is_truth (schema_in st)) (rests _ ∙ ap (source_data st) (sym c.in-Expr.is))) c.first.ensures

pub returns-in-Field : goal.returns-in-Field
returns-in-Field c = let st = c.args.start.now in
    ok_same c.first_field.result _ _ (ap (is_truth (schema_in st)) (rests _ ∙ ap (source_data st) (sym c.in-Field.is))) c.first_field.ensures
