use Rattle.data_meaning.proofs.Lookup.{typed}
use Rattle.data_meaning.proofs.field_laws.fields_are_typed.Goals as goal

pub returns : goal.returns
returns c = typed
