use Rattle.std.proofs.Common.{sym}
use Rattle.store_migrate_tests.proofs.Schemas.{schema-past, schema-there}
use Rattle.store_migrate_tests.proofs.tests.schema_after.Goals as goal

pub returns-in-Some : goal.returns-in-Some
returns-in-Some c =
    let t = c.args.t.now in
    schema-there t.schemas c.args.k t.start c.in-Some.schema.now (sym c.in-Some.ensures.value)

pub returns-in-None : goal.returns-in-None
returns-in-None c =
    let t = c.args.t.now in
    schema-past t.schemas c.args.k t.start (sym c.in-None.ensures.value)
