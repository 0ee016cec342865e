-- The models of sorts.
use Rattle.std.proofs.Common.{◌≡◌, ℕ, zero, suc, List, [], ◌∷◌, sym, ap}
use Rattle.std.specs.Prelude.{Some, map, slice_get, slice_index_or}
use Rattle.type_schema.specs.declared.schemas.ModelInfo.{ModelInfo}
use Rattle.type_schema.specs.SchemaViews.{model_info_of}
use Rattle.type_schema.specs.Proper.{model_numbers}

pub number_at : (models : List ModelInfo) (k : ℕ) (info : ModelInfo) → slice_get models k ≡ Some info
    → info.number ≡ slice_index_or (model_numbers (map model_info_of models)) k 0
number_at [] k info e = cc
number_at (m ∷ models) zero info e = let same : m ≡ info = cc in ap (λ (i : ModelInfo). i.number) (sym same)
number_at (m ∷ models) (suc k) info e = number_at models k info e
