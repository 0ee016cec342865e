use Rattle.std.proofs.Common.{map, sym}
use Rattle.type_schema.specs.SchemaViews.{model_info_of}
use Rattle.data_judge.proofs.InOrder.{model-apart}
use Rattle.data_judge.proofs.references.table_lost.Goals as goal

pub records_lost-requires : goal.records_lost-requires
records_lost-requires c =
    rw c.as_slice.ensures
    (model-apart (map model_info_of c.args.models.now) c.bytes.result.now (model_info_of c.in-Some.info.now) c.requires (sym c.in-Some.ensures))
