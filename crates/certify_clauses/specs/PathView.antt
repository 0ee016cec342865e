-- What a contract sees of a `Path`.
use Rattle.std.specs.Prelude.{◌≡◌, ◌≢◌, ℕ, ◌<◌, Bool, List, length, Option, None, All, AllPairs, slice_index_or}
use Rattle.certify_clauses.specs.declared.literal.Literal.{Literal}
use Rattle.certify_clauses.specs.Paths.{value_on}

-- the literals, the outermost first, each on a variable of its own below `vars`
pub record PathView : Type 0 where
  pub vars : ℕ
  pub literals : List Literal

-- each literal is on a variable of its own, and each variable has the value that the path gives it
pub record IsPath (literals : List Literal) (values : List (Option Bool)) : Type 0 where
  pub below : All (λ l. l.var < length values) literals
  pub once : AllPairs (λ k l. k.var ≢ l.var) literals
  pub values_are : (v : ℕ) → v < length values → slice_index_or values v None ≡ value_on literals v
