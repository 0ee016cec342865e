-- What a file that was typed is, as the laws on typing ask for it.
use Rattle.std.proofs.Common.{◌≡◌, ℕ, List, sym, subst}
use Rattle.std.specs.Prelude.{Option, Ok}
use Rattle.app_flow.specs.Files.{Files}
use Rattle.app_files.specs.declared.answer.Checked.{Checked}
use Rattle.app_files.specs.Answer.{SpecOf, ScriptOf, Checks}
use Rattle.app_files.specs.Loads.{Fetches}
use Rattle.app_files.specs.Stages.{Then, Stops, Goes}
use Rattle.text_tree.specs.declared.commands.Script as written_script
use Rattle.text_tree.specs.declared.models.Spec as written_spec
use Rattle.type_schema.specs.Schema.{Schema}
use Rattle.type_schema.specs.Script.{Script, IsScript}
use Rattle.type_schema.specs.SchemaViews.{script_of}
use Rattle.type_specs.specs.Specs.{typed_spec}
use Rattle.type_commands.specs.Scripts.{typed_script}
use Rattle.type_scripts.specs.Counted.{counted}

pub spec-typed : (told : Option Files) (name : List ℕ) (s : Schema) → Then (Fetches told name) (SpecOf name) (Ok s) → (spec : written_spec.Spec) × (typed_spec counted spec ≡ Ok s)
spec-typed told name s (Stops w p e) = absurd cc
spec-typed told name s (Goes text fetched (Stops w p e)) = absurd cc
spec-typed told name s (Goes text fetched (Goes spec reads typed)) = (spec, typed)

-- the script that was checked is what typing gives over the schema
pub record IsTypedOver (s : Schema) (t : Script) : Type 0 where
  pub tree : written_script.Script
  pub typed : typed_script counted s tree ≡ Ok t
  pub is_script : IsScript t

pub script-typed : (told : Option Files) (name : List ℕ) (s : Schema) (c : Checked) → Then (Then (Fetches told name) (ScriptOf name s)) Checks (Ok c) → IsTypedOver s (script_of c.script)
script-typed told name s c (Stops w p e) = absurd cc
script-typed told name s c (Goes t (Stops w p e) h) = absurd cc
script-typed told name s c (Goes t (Goes text fetched (Stops w p e)) h) = absurd cc
script-typed told name s c (Goes t (Goes text fetched (Goes tree reads typed)) h) =
    subst (λ (z : Script). IsTypedOver s z) (sym h.script) (record { tree = tree; typed = typed; is_script = h.typed })
