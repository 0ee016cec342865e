use Rattle.std.proofs.Common.{map, sym, subst}
use Rattle.type_schema.specs.SchemaViews.{model_info_of}
use Rattle.data_records.specs.Kept.{IsKept}
use Rattle.data_records.proofs.Tables.{empty-kept}
use Rattle.data_records.proofs.database.Database.empty.Goals as goal

pub invariant_of-result : goal.invariant_of-result
invariant_of-result c = (subst (IsKept 0 0) (sym c.in_ok-tables.ensures) (empty-kept (map model_info_of c.as_slice.result.now)), λ n i g. c.none.ensures n i g _)
