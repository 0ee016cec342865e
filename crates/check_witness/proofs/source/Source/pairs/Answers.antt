use Rattle.std.proofs.Common.{◌∙◌, ap, []}
use Rattle.std.specs.Prelude.{slice_index_or}
use Rattle.type_schema.specs.SchemaViews.{schema_of}
use Rattle.check_witness.proofs.source.Source.pairs.Goals as goal

pub returns : goal.returns
returns c =
    c.pairs_in.ensures
    ∙ ap (λ r. slice_index_or c.args.self.now.structure.now.sets r []) (c.relation_of.ensures.of_schema (schema_of c.args.self.now.schema.now) c.args.self.now.same)
