-- The numbers of the sorts, functions and set relations of a schema.
use Rattle.std.specs.Prelude.{ℕ, Bool, not, ◌&&◌, ◌==◌, List, map, filter}
use Rattle.type_schema.specs.Schema.{FieldInfo, Schema}
use Rattle.type_schema.specs.Proper.{model_numbers}
use Rattle.duty_meaning.specs.Structures.{before, Place, is_set, functions_of, relations_of}
use Rattle.duty_numbering.specs.declared.spots.Spot.{Spot}

abbrev pub spot_of : Place → Spot
spot_of p = record { model = p.model; field = p.field.number }

abbrev pub place_at : ℕ → FieldInfo → Place
place_at m f = record { model = m; field = f }

-- of several fields those that are functions, and those that are set relations
abbrev pub function_spots : List Place → List Spot
function_spots places = map spot_of (filter (λ (p : Place). not (is_set p.field.ty)) places)

abbrev pub relation_spots : List Place → List Spot
relation_spots places = map spot_of (filter (λ (p : Place). is_set p.field.ty) places)

-- the models that are sorts, and the fields that are functions and set relations, each by its place
pub record Numbers : Type 0 where
  pub models : List ℕ
  pub functions : List Spot
  pub relations : List Spot

abbrev pub numbers_of : Schema → Numbers
numbers_of s = record { models = model_numbers s.models; functions = map spot_of (functions_of s); relations = map spot_of (relations_of s) }

abbrev pub is_spot : ℕ → ℕ → Spot → Bool
is_spot m f spot = (spot.model == m) && (spot.field == f)

abbrev pub sort_number : Numbers → ℕ → ℕ
sort_number n m = before (λ k. k == m) n.models

abbrev pub function_number : Numbers → ℕ → ℕ → ℕ
function_number n m f = before (is_spot m f) n.functions

abbrev pub relation_number : Numbers → ℕ → ℕ → ℕ
relation_number n m f = before (is_spot m f) n.relations
