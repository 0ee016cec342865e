use Rattle.std.proofs.Common.{◌∙◌, ap}
use Rattle.type_schema.specs.SchemaViews.{schema_of}
use Rattle.form_formula.specs.Truth.{entry}
use Rattle.check_witness.proofs.source.Source.entry.Goals as goal

pub returns : goal.returns
returns c =
    c.entry_in.ensures
    ∙ ap (λ f. entry c.args.self.now.structure.now f c.args.x) (c.function_of.ensures.of_schema (schema_of c.args.self.now.schema.now) c.args.self.now.same)
