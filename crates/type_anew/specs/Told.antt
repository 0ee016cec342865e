-- Policies that are told by the tree that they are written as: they show the type of each option that is taken apart, and their labels are as
-- typing leaves them. So typing that tree gives them, with new numbers. It speaks of no schema, and so outlasts each command.
use Rattle.std.specs.List.{AllByRecursion}
use Rattle.type_schema.specs.Trees.{Policy}
use Rattle.type_schema.specs.Schema.{FieldInfo, ModelInfo, Schema}
use Rattle.type_proper.specs.Shown.{PolicyIsShown}
use Rattle.type_anew.specs.Labels.{PolicyIsLabelled}

abbrev pub PolicyIsTold : Policy → Type 0
PolicyIsTold p = PolicyIsShown p × PolicyIsLabelled p

abbrev pub FieldIsTold : FieldInfo → Type 0
FieldIsTold f = PolicyIsTold f.read × PolicyIsTold f.write

abbrev pub ModelIsTold : ModelInfo → Type 0
ModelIsTold m = PolicyIsTold m.create × PolicyIsTold m.delete × AllByRecursion FieldIsTold m.fields

-- so are the policies of the schema
abbrev pub IsTold : Schema → Type 0
IsTold s = AllByRecursion ModelIsTold s.models
