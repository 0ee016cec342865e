use Rattle.std.proofs.Common.{◌≡◌, [], drop, map, take}
use Rattle.text_tree.specs.declared.models.FieldDef.{FieldDef}
use Rattle.type_specs.specs.InTurn.{in_turn}
use Rattle.type_specs.specs.NewNames.{with_field_name}
use Rattle.type_specs.proofs.names.fields_differ.Given as goal

abbrev pub invariant-loop-i : goal.invariant-loop-i
invariant-loop-i l =
    in_turn with_field_name [] l.fields
    ≡ in_turn with_field_name (map (λ (f : FieldDef). f.name.name) (take l.i l.fields)) (drop l.i l.fields)
