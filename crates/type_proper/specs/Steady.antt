-- Schemas that are proper, and stay so under each command.
use Rattle.std.specs.Prelude.{ℕ, ◌<◌}
use Rattle.std.specs.List.{AllByRecursion}
use Rattle.type_schema.specs.Schema.{FieldInfo, ModelInfo, Added, Schema}
use Rattle.type_schema.specs.Proper.{IsProper}
use Rattle.type_schema.specs.Uses.{Use, init_uses_of}
use Rattle.type_proper.specs.Shown.{PolicyIsShown}

abbrev pub FieldIsShown : FieldInfo → Type 0
FieldIsShown f = PolicyIsShown f.read × PolicyIsShown f.write

abbrev pub ModelIsShown : ModelInfo → Type 0
ModelIsShown m = PolicyIsShown m.create × PolicyIsShown m.delete × AllByRecursion FieldIsShown m.fields

-- an initialiser that reads no field with a number that is free yet
abbrev pub ReadsBelow : ℕ → Added → Type 0
ReadsBelow next a = AllByRecursion (λ (u : Use). u.field < next) (init_uses_of a.init)

-- That a schema is proper does not say so of the schema after a command that removes a model: a policy may take apart an option of which nothing
-- shows that it is of that model. Typing gives no such policy.
pub record IsSteady (s : Schema) : Type 0 where
  pub proper : IsProper s
  pub shown : AllByRecursion ModelIsShown s.models
  pub read : AllByRecursion (ReadsBelow s.next_field) s.added
