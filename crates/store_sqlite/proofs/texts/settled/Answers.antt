use Rattle.type_schema.specs.SchemaViews.{schema_of}
use Rattle.store_sqlite.proofs.texts.settled.Goals as goal

pub returns : goal.returns
returns c =
    c.renumbered_are_settled.ensures (schema_of c.args.schema.now) (schema_of c.in_ok-anew.anew) c.in_ok-anew.ensures.steady c.in_ok-anew.ensures.told
    c.in_ok-anew.ensures.same_tree c.in_ok-anew.ensures.numbered
