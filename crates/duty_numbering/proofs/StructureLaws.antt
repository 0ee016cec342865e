-- The structure of a database, by its parts.
use Rattle.std.proofs.Common.{◌≡◌, ℕ, List, ap, sym, ◌∙◌, map}
use Rattle.std.specs.Prelude.{flat_map, Option}
use Rattle.type_schema.specs.Schema.{Schema}
use Rattle.type_schema.specs.Proper.{model_numbers}
use Rattle.data_meaning.specs.Database.{Database, Record, records_of, ids_of}
use Rattle.form_formula.specs.declared.structure.SVal.{SVal}
use Rattle.form_formula.specs.declared.structure.Structure.{Structure}
use Rattle.duty_meaning.specs.Structures.{places_in, structure_of}
use Rattle.duty_numbering.specs.Elements.{entries_among, pairs_among, sizes_of, tables_at, relations_at}

pub among-whole : {A : Type 0} (F : Database → ℕ → ℕ → List ℕ → List A) (d e : Database) (m n s t : ℕ) (found : List A) (records : List Record)
    → found ≡ F e s t (map (λ (r : Record). r.id) records) → e ≡ d → s ≡ m → t ≡ n → records ≡ records_of d m → found ≡ F d m n (ids_of d m)
among-whole F d e m n s t found records is database source target all =
    is ∙ (ap (λ e. F e s t (map (λ (r : Record). r.id) records)) database
    ∙ (ap (λ s. F d s t (map (λ (r : Record). r.id) records)) source
    ∙ (ap (λ t. F d m t (map (λ (r : Record). r.id) records)) target
    ∙ ap (λ rs. F d m n (map (λ (r : Record). r.id) rs)) all)))

abbrev pub structure : List ℕ → List (List (Option SVal)) → List (List (ℕ × ℕ)) → Structure
structure sizes funs sets = record { sizes = sizes; funs = funs; sets = sets }

pub structure-same : (s : Schema) (d : Database) (sizes : List ℕ) (funs : List (List (Option SVal))) (sets : List (List (ℕ × ℕ)))
    → sizes ≡ sizes_of d (model_numbers s.models) → funs ≡ tables_at d (flat_map places_in s.models) → sets ≡ relations_at d (flat_map places_in s.models)
    → structure sizes funs sets ≡ structure_of s d
structure-same s d sizes funs sets a b c =
    ap (λ xs. structure xs funs sets) a ∙ (ap (λ xs. structure (sizes_of d (model_numbers s.models)) xs sets) b
    ∙ ap (λ xs. structure (sizes_of d (model_numbers s.models)) (tables_at d (flat_map places_in s.models)) xs) c)
