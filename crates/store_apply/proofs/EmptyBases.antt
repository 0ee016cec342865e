-- A database without records has the tables of the schema's models in their order.
use Rattle.std.proofs.Common.{◌≡◌, List, [], ◌∷◌, map, refl, ap, sym, subst}
use Rattle.std.specs.Prelude.{Result, Ok, Err, IfOk}
use Rattle.type_schema.specs.Schema.{ModelInfo, Schema}
use Rattle.type_schema.specs.Proper.{model_numbers}
use Rattle.data_meaning.specs.Database.{Table, Database, IsInOrder}
use Rattle.data_records.specs.Inserted.{empty_of, empty_table}

models-same : (models : List ModelInfo) → map (λ (t : Table). t.model) (map empty_table models) ≡ model_numbers models
models-same [] = refl
models-same (m ∷ models) = ap (λ ns. m.number ∷ ns) (models-same models)

pub in-order : (s : Schema) → IsInOrder s (empty_of s)
in-order s = models-same s.models

-- what holds of a database holds of an answer that is it
pub holds-of-empty : {E : Type 0} (P : Database → Type 0) (d : Database) (r : Result Database E) → P d → IfOk r (λ e. e ≡ d) → IfOk r P
holds-of-empty P d (Ok e) holds is = subst P (sym is) holds
holds-of-empty P d (Err e) holds is = tt
