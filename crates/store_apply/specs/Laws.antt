-- Which schemas may be settled, and what is stored after a script.
use Rattle.std.specs.Prelude.{◌≡◌, ℕ, Ok, Some}
use Rattle.text_tree.specs.declared.models.Spec.{Spec}
use Rattle.text_tree.specs.declared.commands.Script as written_script
use Rattle.type_schema.specs.declared.rights.Right.{Right}
use Rattle.type_schema.specs.declared.rights.Target.{Target}
use Rattle.type_schema.specs.Trees.{Policy}
use Rattle.type_schema.specs.Schema.{Schema, policy_in}
use Rattle.type_schema.specs.Script.{Script, IsScript, count, schema_at}
use Rattle.type_specs.specs.Specs.{typed_spec}
use Rattle.type_commands.specs.Scripts.{typed_script}
use Rattle.type_proper.specs.Steady.{IsSteady}
use Rattle.type_scripts.specs.Counted.{counted}
use Rattle.type_anew.specs.Policies.{renumbered_principal}
use Rattle.type_anew.specs.RetypedAnew.{renumbered_target}
use Rattle.data_meaning.specs.declared.principals.Principal.{Principal}
use Rattle.data_meaning.specs.Gain.{has_right_at, policy_at}
use Rattle.data_meaning.specs.Meaning.{allows}
use Rattle.data_meaning.specs.Run.{widened}
use Rattle.store_keeper.specs.Stored.{Stored, IsSettled, IsStored}
use Rattle.store_apply.specs.Applied.{IsApplied}
use Rattle.store_apply.specs.Settling.{MaySettle}

-- The schema of a specification may be settled.
abbrev pub SpecsSettle : Type 0
SpecsSettle = (spec : Spec) (s : Schema) → typed_spec counted spec ≡ Ok s → IsSteady s → MaySettle s

-- A script that is typed over a schema starts from it.
abbrev pub ScriptsStart : Type 0
ScriptsStart = (s : Schema) (script : written_script.Script) (t : Script) → typed_script counted s script ≡ Ok t → schema_at t 0 ≡ s

-- The last schema of this script may be settled, where the script is what typing gives over a settled schema.
abbrev pub ScriptSettles : Script → Type 0
ScriptSettles t =
    (s : Schema) (script : written_script.Script) → IsSettled s → typed_script counted s script ≡ Ok t → IsScript t → MaySettle (schema_at t (count t))

-- What a script makes of what is stored is one.
abbrev pub AppliedOne : Type 0
AppliedOne = (s : Stored) (t : Script) (one other : Stored) → IsApplied s t one → IsApplied s t other → one ≡ other

-- A script that starts from the stored schema. What is stored after it has a policy for each right that the last schema of the script has one for. It
-- allows the right on each record whom that schema allows it on the database after the script.
abbrev pub AppliedRights : Type 0
AppliedRights =
    (s : Stored) (t : Script) (after : Stored) → IsStored s → IsScript t → schema_at t 0 ≡ s.schema → MaySettle (schema_at t (count t)) → IsApplied s t after
    → (target : Target) (right : Right) (policy : Policy) → policy_at t (count t) target right ≡ Some policy
    → (later : Policy) × (policy_in after.schema (renumbered_target (schema_at t (count t)) target) right ≡ Some later)
    × ((id : ℕ) (who : Principal) → allows after.base later id (renumbered_principal (schema_at t (count t)) who)
    ≡ has_right_at t (count t) target right (widened t s.base) id who)
