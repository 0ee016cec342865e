-- What a command has to be so that the schema after it is proper, and stays so.
use Rattle.std.specs.Prelude.{◌≡◌, ℕ, false, Option, Some, None, Ok, IfSome, map}
use Rattle.text_tree.specs.declared.commands.Command as written
use Rattle.type_commands.specs.Resolved.{resolved}
use Rattle.type_proper.specs.Literals.{CommandHasLiterals}
use Rattle.std.specs.List.{AllByRecursion, IsDistinct}
use Rattle.std.specs.Str.{bytes_eq}
use Rattle.type_schema.specs.Trees.{Name, Policy}
use Rattle.type_schema.specs.Schema.{FieldInfo, ModelInfo, Schema, model_of}
use Rattle.type_schema.specs.Typing.{IsPolicy, IsField, IsModel, IsInit}
use Rattle.type_schema.specs.Commands.{Command, create_model, delete_model, add_static, remove_static, add_principal, add_field, remove_field, update_field, weaken_field, update_model, weaken_model, AreNumberedFrom, schema_after}
use Rattle.type_schema.specs.Proper.{names_of}
use Rattle.type_commands.specs.declared.thing.Thing.TheVariants as the
use Rattle.type_commands.specs.Users.{first_user}
use Rattle.type_proper.specs.Shown.{PolicyIsShown}
use Rattle.type_proper.specs.Steady.{FieldIsShown, IsSteady, ModelIsShown}

-- no static and no model has the name
abbrev pub IsNewName : Schema → Name → Type 0
IsNewName s name = AllByRecursion (λ n. bytes_eq n name ≡ false) (names_of s)

-- a policy on records of the model, where it is given
abbrev pub IsGood : Schema → ℕ → Option Policy → Type 0
IsGood s m given = IfSome given (IsPolicy s m) × IfSome given PolicyIsShown

-- What it adds has the next numbers and a name that is new, and is typed with the schema after it; what it removes is used by nothing that stays.
abbrev pub Fits : Schema → Command → Type 0
Fits s (create_model info) =
    (info.number ≡ s.next_model) × AreNumberedFrom s.next_field info.fields × IsNewName s info.name × IsDistinct bytes_eq (map (λ (f : FieldInfo). f.name) info.fields)
    × IsModel (schema_after s (create_model info)) info × ModelIsShown info
Fits s (delete_model m) = first_user s (the.Model m) ≡ None
Fits s (add_static info) = (info.number ≡ s.next_static) × IsNewName s info.name
Fits s (remove_static n) = first_user s (the.Static n) ≡ None
Fits s (add_principal m) = Unit {0}
Fits s (add_field m f init) =
    (f.number ≡ s.next_field)
    × ((info : ModelInfo) → model_of s m ≡ Some info → AllByRecursion (λ n. bytes_eq n f.name ≡ false) (map (λ (g : FieldInfo). g.name) info.fields))
    × IsField (schema_after s (add_field m f init)) m f × FieldIsShown f × IsInit s m f.ty init
Fits s (remove_field m f) = first_user s (the.Field m f) ≡ None
Fits s (update_field m f read write) = IsGood s m read × IsGood s m write
Fits s (weaken_field m f read write reason) = IsGood s m read × IsGood s m write
Fits s (update_model m create delete) = IsGood s m create × IsGood s m delete
Fits s (weaken_model m create delete reason) = IsGood s m create × IsGood s m delete

abbrev pub CommandsKeepSteady : Type 0
CommandsKeepSteady = (s : Schema) (c : Command) → IsSteady s → Fits s c → IsSteady (schema_after s c)

-- a command that typing gives over a steady schema, where its literals are values
abbrev pub ResolvedFit : Type 0
ResolvedFit = (s : Schema) (c : written.Command) (command : Command) → IsSteady s → CommandHasLiterals command → resolved s c ≡ Ok command → Fits s command
