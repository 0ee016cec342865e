use Rattle.std.proofs.Common.{subst, map}
use Rattle.data_records.specs.Namings.{IsIndexed}
use Rattle.data_records.specs.Views.{table_data}
use Rattle.data_records.proofs.database.Database.index_references.Goals as goal

pub invariant_of-self : goal.invariant_of-self
invariant_of-self c = (c.self.invariant.0, subst (λ ts. IsIndexed c.of_tables.result (map table_data ts)) c.as_slice.ensures.value c.of_tables.ensures)
