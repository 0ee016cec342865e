-- What holds no id loses none.
use Rattle.std.proofs.Common.{◌≡◌, ℕ, List, refl}
use Rattle.std.specs.Prelude.{Option, Some, None, option_and_then}
use Rattle.type_schema.specs.Schema.{FieldInfo}
use Rattle.data_meaning.specs.Database.{Database}
use Rattle.data_records.specs.Shape as shape
use Rattle.data_tree.specs.declared.literals.Lit.{out-Lit}
use Rattle.data_tree.specs.declared.tables.FieldLit.{FieldLit}
use Rattle.data_judge.specs.Faults.{field_named}
use Rattle.data_judge.specs.References.{field_lost, layer_lost, value_lost}

pub without_ids : (d : Database) (fields : List FieldInfo) (w : FieldLit) → ((m : ℕ) → layer_lost d m (out-Lit w.value) ≡ None) → field_lost d fields w ≡ None
without_ids d fields w none = of-field (field_named fields w.name.name)
  where
    of-model : (o : Option ℕ) → option_and_then (λ m. layer_lost d m (out-Lit w.value)) o ≡ None
    of-model None = refl
    of-model (Some m) = none m

    of-field : (o : Option FieldInfo) → option_and_then (λ (f : FieldInfo). value_lost d f.ty w.value) o ≡ None
    of-field None = refl
    of-field (Some f) = of-model (shape.model_named f.ty)
