-- The formulas of the obligations of a script that is typed with sizes are small.
use Rattle.std.specs.Prelude.{◌≡◌, ◌≤◌, ◌+◌, ◌*◌, ℕ, Ok, Contains}
use Rattle.text_tree.specs.declared.models.Spec.{Spec}
use Rattle.text_tree.specs.declared.commands.Script as written
use Rattle.type_schema.specs.Schema.{Schema}
use Rattle.type_schema.specs.Script.{Script, IsScript}
use Rattle.type_specs.specs.Sizes.{most_size}
use Rattle.type_specs.specs.Specs.{typed_spec}
use Rattle.type_commands.specs.Scripts.{typed_script}
use Rattle.type_scripts.specs.Counted.{counted}
use Rattle.duty_meaning.specs.declared.duty.Duty.{Duty}
use Rattle.duty_meaning.specs.Duties.{obligations_of, formula_of}
use Rattle.duty_meaning.specs.Sizes.{size}

-- 60,005 nodes
abbrev pub most_formula_nodes : ℕ
most_formula_nodes = 5 + 3 * most_size

abbrev pub TypedFormulasAreSmall : Type 0
TypedFormulasAreSmall =
    (spec : Spec) (s : Schema) (script : written.Script) (t : Script) → typed_spec counted spec ≡ Ok s → typed_script counted s script ≡ Ok t → IsScript t
    → (duty : Duty) → Contains (obligations_of t) duty → size (formula_of t duty) ≤ most_formula_nodes
