use Rattle.std.proofs.Common.{true, ap}
use Rattle.type_schema.specs.Schema.{ModelInfo}
use Rattle.type_commands.proofs.changes.as_principal.Goals as goal

pub returns : goal.returns
returns c = ap (λ (m : ModelInfo). record m { principal = true }) c.in_ok-changed.ensures
