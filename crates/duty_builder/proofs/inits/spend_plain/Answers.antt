use Rattle.std.proofs.Common.{Bool, true, ap, sym, ◌∙◌}
use Rattle.std.specs.Prelude.{if◌then◌else◌}
use Rattle.type_schema.specs.Views.{expr_of}
use Rattle.duty_meaning.specs.Cases.{condition_of}
use Rattle.duty_meaning.specs.Formulas.{cases_of}
use Rattle.duty_meaning.specs.Sizes.{size, value_size}
use Rattle.duty_builder.specs.Values.{schema_in, written_in, scene_data, end_formula}
use Rattle.duty_builder.proofs.Walks.{ask_done}
use Rattle.duty_builder.proofs.Costs.{size-cost, made_spent}
use Rattle.duty_builder.proofs.inits.spend_plain.Goals as goal

pub returns-then-is_condition : goal.returns-then-is_condition
returns-then-is_condition c =
    let st = c.args.start.now in
    let s = schema_in st in
    let v = cases_of s (written_in st c.args.scene.now) (scene_data st c.args.scene.now) (expr_of c.args.e.now) in
    made_spent _ _ _ _ _ _ (ap (λ (b : Bool). if b then size (condition_of s v true 2) else value_size s v) (sym c.if-is_condition.true) ∙ sym (c.is_condition.ensures s v)) c.write.ensures

pub returns-else-is_condition : goal.returns-else-is_condition
returns-else-is_condition c =
    let st = c.args.start.now in
    let s = schema_in st in
    let v = cases_of s (written_in st c.args.scene.now) (scene_data st c.args.scene.now) (expr_of c.args.e.now) in
    made_spent _ _ _ _ _ _ (ap size (ask_done 2 (end_formula s 2) v) ∙ (size-cost s v
    ∙ (ap (λ (b : Bool). if b then size (condition_of s v true 2) else value_size s v) (sym c.if-is_condition.false) ∙ sym (c.is_condition.ensures s v)))) c.ask.ensures
