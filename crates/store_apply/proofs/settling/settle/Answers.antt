use Rattle.type_schema.specs.SchemaViews.{schema_of}
use Rattle.store_apply.proofs.settling.settle.Goals as goal

pub wanting-requires : goal.wanting-requires
wanting-requires c = c.in-Err.ensures.memory_alone c.requires.proper c.requires.told c.requires.numbers c.requires.sizes

pub returns-in-Ok-clause-renumbered : goal.returns-in-Ok-clause-renumbered
returns-in-Ok-clause-renumbered c = record {
  numbers = c.in-Ok.ensures.in_order c.requires.proper;
  policies = c.in-Ok.ensures.policies c.requires.proper c.requires.told;
  typed = c.in-Ok.ensures.numbered;
}

pub returns-in-Ok-clause-settled : goal.returns-in-Ok-clause-settled
returns-in-Ok-clause-settled c =
    c.renumbered_are_settled.ensures (schema_of c.args.schema.now) (schema_of c.in-Ok.anew) c.in-Ok.ensures.steady c.in-Ok.ensures.told c.in-Ok.ensures.same_tree
    c.in-Ok.ensures.numbered
