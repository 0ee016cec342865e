-- A database with the tables of a schema's models in their order has no further ones.
use Rattle.std.proofs.Common.{◌≡◌, ℕ, Bool, true, false, List, [], ◌∷◌, refl, ap, sym, subst, cond, map}
use Rattle.std.specs.Prelude.{Some, ◌==◌, is_some}
use Rattle.std.specs.List.{AllByRecursion}
use Rattle.std.proofs.lemmas.Bool.{eq-eqb}
use Rattle.type_schema.specs.Schema.{ModelInfo, Schema, model_in}
use Rattle.type_schema.specs.Typing.{HasModel}
use Rattle.type_schema.specs.Proper.{model_numbers}
use Rattle.data_meaning.specs.Database.{Table, Database, HasNoFurtherTables, IsInOrder}

abbrev Has : List ModelInfo → ℕ → Type 0
Has models m = is_some (model_in models m) ≡ true

has-more : (i : ModelInfo) (models : List ModelInfo) (ns : List ℕ) → AllByRecursion (Has models) ns → AllByRecursion (Has (i ∷ models)) ns
has-more i models [] all = tt
has-more i models (n ∷ ns) all =
    let first : Has (i ∷ models) n
    = elim (i.number == n) as (λ (b : Bool). is_some (cond b (Some i) (model_in models n)) ≡ true) [
      | true ↦ refl
      | false ↦ all.0
    ] in
    (first, has-more i models ns all.1)

all-have : (models : List ModelInfo) → AllByRecursion (Has models) (model_numbers models)
all-have [] = tt
all-have (i ∷ models) =
    (ap (λ (b : Bool). is_some (cond b (Some i) (model_in models i.number))) (eq-eqb i.number i.number refl), has-more i models (model_numbers models) (all-have models))

of-models : (P : ℕ → Type 0) (d : Database) → AllByRecursion P (map (λ (t : Table). t.model) d) → AllByRecursion (λ (t : Table). P t.model) d
of-models P [] all = tt
of-models P (t ∷ d) all = (all.0, of-models P d all.1)

pub ordered-no-further : (s : Schema) (d : Database) → IsInOrder s d → HasNoFurtherTables s d
ordered-no-further s d order = of-models (HasModel s) d (subst (AllByRecursion (HasModel s)) (sym order) (all-have s.models))
