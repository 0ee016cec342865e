-- What the two files are with their names resolved and their types judged, or for which fault they are refused.
use Rattle.std.specs.Prelude.{◌≡◌, ℕ, ◌-◌, List, [], ◌∷◌, take, codes, Ok, Err}
use Rattle.std.specs.List.{concat}
use Rattle.std.specs.Option.{option_map_or}
use Rattle.text_tree.specs.declared.commands.Command as written
use Rattle.text_tree.specs.declared.commands.Command.TheVariants as w
use Rattle.text_tree.specs.declared.commands.Script as written_script
use Rattle.text_tree.specs.declared.models.Spec as written_spec
use Rattle.text_ast.specs.Words.{IsText}
use Rattle.type_schema.specs.declared.rights.Target.TheVariants as on
use Rattle.type_schema.specs.Schema.{FieldInfo, ModelInfo, Schema, model_of, field_of}
use Rattle.type_schema.specs.Script.{Script}
use Rattle.type_typing.specs.declared.type_err.TypeErr.{TypeErr}
use Rattle.type_typing.specs.declared.type_err.TypeErr.TheVariants.{Unknown, Twice, WrongType, NotPrincipal, StillUsed, EmptyReason, Expanded, Crowded, OutOfMemory}
use Rattle.type_typing.specs.declared.type_err.UsedBy.{UsedBy}
use Rattle.type_typing.specs.declared.type_err.UsedBy.TheVariants as by
use Rattle.type_typing.specs.Outcome.{Checked, ◌>>=◌}
use Rattle.type_specs.specs.InTurn.{in_turn}
use Rattle.type_specs.specs.Specs.{typed_spec}
use Rattle.type_commands.specs.declared.script_err.ScriptErr.TheVariants.{Bad}
use Rattle.type_commands.specs.Commands.{typed_command}
use Rattle.type_commands.specs.Scripts.{typed_script}
use Rattle.type_scripts.specs.Counted.{counted}
use Rattle.check_witness.specs.Printed.{right_text}
use Rattle.app_files.specs.declared.fault.Fault.{Fault}
use Rattle.app_files.specs.declared.refusal.Refusal.TheVariants.{SpecTypes, ScriptTypes}
use Rattle.app_files.specs.Stages.{Stage, Judges}

-- ---- the schema before a command

abbrev pub after_command : Schema → written.Command → Checked Schema
after_command s c = typed_command counted s c >>= (λ step. Ok step.0)

-- commands are counted from 1
unfoldable pub schema_before : Schema → written_script.Script → ℕ → Checked Schema
schema_before s script k = in_turn after_command s (take (k - 1) script.commands)

-- ---- what still uses a thing, by names

abbrev pub model_name : Schema → ℕ → List ℕ
model_name s m = option_map_or (λ (info : ModelInfo). info.name) (model_of s m) []

abbrev pub field_name : Schema → ℕ → ℕ → List ℕ
field_name s m f = option_map_or (λ (info : FieldInfo). info.name) (field_of s m f) []

abbrev pub field_user_text : List ℕ → List ℕ → List ℕ → List ℕ
field_user_text model field word = concat (model ∷ codes "." ∷ field ∷ codes " " ∷ word ∷ [])

abbrev pub model_user_text : List ℕ → List ℕ → List ℕ
model_user_text model word = concat (model ∷ codes " " ∷ word ∷ [])

-- `M.f R` for the policy of a right on a field, `M R` for one on a model, `M.f type` for the type of a field
abbrev pub used_by_text : Schema → UsedBy → List ℕ
used_by_text s (by.Policy (on.Field m f) right) = field_user_text (model_name s m) (field_name s m f) (right_text right)
used_by_text s (by.Policy (on.Model m) right) = model_user_text (model_name s m) (right_text right)
used_by_text s (by.FieldType m f) = field_user_text (model_name s m) (field_name s m f) (codes "type")

-- the user that a fault tells of, and nothing where it tells of none
abbrev pub user_of : Schema → TypeErr → List ℕ
user_of s (Unknown at) = []
user_of s (Twice at) = []
user_of s (WrongType at) = []
user_of s (NotPrincipal at) = []
user_of s (StillUsed at used_by) = used_by_text s used_by
user_of s (EmptyReason at) = []
user_of s (Expanded at count) = []
user_of s (Crowded at) = []
user_of s OutOfMemory = []

-- ---- the two stages

-- The specification has this schema; or it is refused for the fault that it has.
abbrev pub TypesSpec : List ℕ → written_spec.Spec → Stage Schema
TypesSpec name spec =
    Judges (λ refusal. (err : TypeErr) × (refusal ≡ SpecTypes name err) × (typed_spec counted spec ≡ Err err))
    (λ s. typed_spec counted spec ≡ Ok s)

-- The script has this fault over the schema: its first bad command, what is wrong with it, and what still uses a thing, by the names
-- that are there before that command.
pub record HasFault (s : Schema) (script : written_script.Script) (fault : Fault) : Type 0 where
  pub refused : typed_script counted s script ≡ Err (Bad fault.command fault.err)
  pub before : Schema
  pub before_is : schema_before s script fault.command ≡ Ok before
  pub user : fault.user ≡ user_of before fault.err

-- The script is this one over the schema; or it is refused for the fault that it has.
abbrev pub TypesScript : List ℕ → Schema → written_script.Script → Stage Script
TypesScript name s script =
    Judges (λ refusal. (fault : Fault) × (refusal ≡ ScriptTypes name fault) × HasFault s script fault)
    (λ t. typed_script counted s script ≡ Ok t)

-- ---- reasons

-- the reason of a command that weakens is a text
abbrev pub HasText : written.Command → Type 0
HasText (w.CreateModel d at) = Unit {0}
HasText (w.DeleteModel model at) = Unit {0}
HasText (w.AddStatic x at) = Unit {0}
HasText (w.RemoveStatic x at) = Unit {0}
HasText (w.AddPrincipal model at) = Unit {0}
HasText (w.AddField model f x init at) = Unit {0}
HasText (w.RemoveField model x at) = Unit {0}
HasText (w.UpdateFieldPolicy model x read write at) = Unit {0}
HasText (w.WeakenFieldPolicy model x read write reason at) = IsText reason.text
HasText (w.UpdatePolicy model create delete at) = Unit {0}
HasText (w.WeakenPolicy model create delete reason at) = IsText reason.text
