use Rattle.type_schema.specs.SchemaViews.{schema_of}
use Rattle.app_store.proofs.data.base_of_text.Goals as goal

pub returns-in-Err-clause-read : goal.returns-in-Err-clause-read
returns-in-Err-clause-read c = c.refused.ensures (schema_of c.args.s.now) c.args.text.bytes.now c.in-Err.ensures.refused
