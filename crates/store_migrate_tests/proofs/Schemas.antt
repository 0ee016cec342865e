-- Schemas along a script, and databases over the first.
use Rattle.std.proofs.Common.{◌≡◌, ℕ, zero, suc, List, [], ◌∷◌, refl, ap, map}
use Rattle.std.specs.Prelude.{Some, None, slice_get, slice_index_or}
use Rattle.type_schema.specs.declared.schemas.Schema as code_schema
use Rattle.type_schema.specs.SchemaViews.{schema_of}

-- the schema at a place, or the other one
pub schema-there : (schemas : List code_schema.Schema) (k : ℕ) (other s : code_schema.Schema) → slice_get schemas k ≡ Some s
    → schema_of s ≡ slice_index_or (map schema_of schemas) k (schema_of other)
schema-there [] k other s here = cc
schema-there (u ∷ schemas) zero other s here = let same : s ≡ u = cc in ap schema_of same
schema-there (u ∷ schemas) (suc k) other s here = schema-there schemas k other s here

pub schema-past : (schemas : List code_schema.Schema) (k : ℕ) (other : code_schema.Schema) → slice_get schemas k ≡ None
    → schema_of other ≡ slice_index_or (map schema_of schemas) k (schema_of other)
schema-past [] k other past = refl
schema-past (u ∷ schemas) zero other past = cc
schema-past (u ∷ schemas) (suc k) other past = schema-past schemas k other past
