use Rattle.type_schema.specs.SchemaViews.{schema_of}
use Rattle.data_meaning.specs.Database.{IsDatabase, IsInOrder}
use Rattle.data_records.specs.Inserted.{empty_of}
use Rattle.store_apply.proofs.EmptyBases.{holds-of-empty, in-order}
use Rattle.store_apply.proofs.first.empty.Goals as goal

pub returns-clause-database : goal.returns-clause-database
returns-clause-database c =
    let s = schema_of c.args.schema.now in
    holds-of-empty (IsDatabase s) (empty_of s) c.empty.result (c.databases_stay.ensures s c.requires.steady.proper).empty c.empty.ensures

pub returns-clause-order : goal.returns-clause-order
returns-clause-order c =
    let s = schema_of c.args.schema.now in
    holds-of-empty (IsInOrder s) (empty_of s) c.empty.result (in-order s) c.empty.ensures
