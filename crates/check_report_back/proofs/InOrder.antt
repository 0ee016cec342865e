-- The tables of the database of a structure stand in the order of the models.
use Rattle.std.proofs.Common.{◌≡◌, List, [], ◌∷◌, map, refl, ap}
use Rattle.type_schema.specs.Schema.{ModelInfo, Schema}
use Rattle.type_schema.specs.Proper.{model_numbers}
use Rattle.data_meaning.specs.Database.{Table}
use Rattle.form_formula.specs.declared.structure.Structure.{Structure}
use Rattle.check_witness.specs.Built.{built_table}
use Rattle.check_report_back.specs.Told.{BuiltStandInOrder}

tables : (s : Schema) (st : Structure) (models : List ModelInfo) → map (λ (t : Table). t.model) (map (built_table s st) models) ≡ model_numbers models
tables s st [] = refl
tables s st (m ∷ models) = ap (λ ns. m.number ∷ ns) (tables s st models)

pub in-order : BuiltStandInOrder
in-order s st = tables s st s.models
