-- Commands whose literals are values: numbers of 64 bits, and texts.
use Rattle.std.specs.Prelude.{Option, IfSome}
use Rattle.std.specs.List.{AllByRecursion}
use Rattle.type_schema.specs.Trees.{Policy}
use Rattle.type_schema.specs.Schema.{FieldInfo, ModelInfo}
use Rattle.type_schema.specs.Commands.{Command, create_model, delete_model, add_static, remove_static, add_principal, add_field, remove_field, update_field, weaken_field, update_model, weaken_model}
use Rattle.type_typing.specs.WellTyped.{InitHasLiterals, PolicyHasLiterals}

abbrev pub GivenHasLiterals : Option Policy → Type 0
GivenHasLiterals given = IfSome given PolicyHasLiterals

abbrev pub FieldHasLiterals : FieldInfo → Type 0
FieldHasLiterals f = PolicyHasLiterals f.read × PolicyHasLiterals f.write

abbrev pub ModelHasLiterals : ModelInfo → Type 0
ModelHasLiterals m = PolicyHasLiterals m.create × PolicyHasLiterals m.delete × AllByRecursion FieldHasLiterals m.fields

abbrev pub CommandHasLiterals : Command → Type 0
CommandHasLiterals (create_model info) = ModelHasLiterals info
CommandHasLiterals (delete_model m) = Unit {0}
CommandHasLiterals (add_static info) = Unit {0}
CommandHasLiterals (remove_static n) = Unit {0}
CommandHasLiterals (add_principal m) = Unit {0}
CommandHasLiterals (add_field m f init) = FieldHasLiterals f × InitHasLiterals init
CommandHasLiterals (remove_field m f) = Unit {0}
CommandHasLiterals (update_field m f read write) = GivenHasLiterals read × GivenHasLiterals write
CommandHasLiterals (weaken_field m f read write reason) = GivenHasLiterals read × GivenHasLiterals write
CommandHasLiterals (update_model m create delete) = GivenHasLiterals create × GivenHasLiterals delete
CommandHasLiterals (weaken_model m create delete reason) = GivenHasLiterals create × GivenHasLiterals delete
