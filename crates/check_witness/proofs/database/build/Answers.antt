use Rattle.std.proofs.Common.{◌≡◌, sym, subst}
use Rattle.std.specs.Prelude.{IfOk}
use Rattle.type_schema.specs.SchemaViews.{schema_of}
use Rattle.data_records.specs.Kept.{AreGiven}
use Rattle.data_records.specs.Rising.{AreRising}
use Rattle.check_witness.proofs.Kept.{built-rises, built-given}
use Rattle.check_witness.proofs.database.build.Goals as goal

pub of_tables-requires : goal.of_tables-requires
of_tables-requires c = record {
  rising = subst AreRising (sym c.in_ok-tables.ensures) (built-rises (schema_of c.args.s.now) c.args.structure.now);
  given = subst AreGiven (sym c.in_ok-tables.ensures) (built-given (schema_of c.args.s.now) c.args.structure.now);
}

pub returns : goal.returns
returns c = subst (λ ts. IfOk c.of_tables.result (λ d. d ≡ ts)) c.in_ok-tables.ensures c.of_tables.ensures
