use Rattle.type_schema.specs.SchemaViews.{schema_of}
use Rattle.store_keeper.proofs.Ordered.{ordered-no-further}
use Rattle.store_keeper.proofs.stored.Stored.new.Goals as goal

pub returns-clause-stored : goal.returns-clause-stored
returns-clause-stored c = record {
  first = c.requires.first;
  last = c.requires.last;
  settled = c.requires.settled;
  database = c.requires.database;
  no_further = ordered-no-further (schema_of c.args.schema) c.args.base c.requires.order;
  order = c.requires.order;
}
