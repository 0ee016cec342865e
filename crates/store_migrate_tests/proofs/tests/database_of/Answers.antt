use Rattle.std.proofs.Common.{arith, sym, subst}
use Rattle.type_schema.specs.Schema.{Schema}
use Rattle.type_schema.specs.SchemaViews.{schema_of}
use Rattle.type_schema.specs.Proper.{IsProper}
use Rattle.data_meaning.specs.Database.{HasNoFurtherTables, IsDatabase}
use Rattle.store_migrate.proofs.Tables.{ordered-only}
use Rattle.store_migrate_tests.proofs.tests.database_of.Goals as goal

pub read_database-requires-clause-proper : goal.read_database-requires-clause-proper
read_database-requires-clause-proper c = subst IsProper (sym c.schema_after.ensures) (c.requires.proper 0 (omega arith))

pub returns-clause-over : goal.returns-clause-over
returns-clause-over c = subst (λ (s : Schema). IsDatabase s c.in_ok-database.database) c.schema_after.ensures c.in_ok-database.ensures.database

pub returns-clause-only : goal.returns-clause-only
returns-clause-only c =
    let d = c.in_ok-database.database in
    subst (λ (s : Schema). HasNoFurtherTables s d) c.schema_after.ensures (ordered-only (schema_of c.schema_after.result.now) d c.in_ok-database.ensures.order)
