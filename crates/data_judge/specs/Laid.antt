-- Tables with what is written for models, whose records may still have one id.
use Rattle.std.specs.Prelude.{◌≡◌, List, [], ◌∷◌, ◌++◌, map}
use Rattle.std.specs.List.Sorted.{IsNonDecreasing, IsPermutation}
use Rattle.data_tree.specs.declared.tables.TableLit.{TableLit}
use Rattle.type_schema.specs.Schema.{ModelInfo}
use Rattle.data_meaning.specs.Database.{Record, Table}
use Rattle.data_judge.specs.Meaning.{next_for, records_for}

pub record IsLaid (ts : List TableLit) (m : ModelInfo) (t : Table) : Type 0 where
  pub model : t.model ≡ m.number
  pub next : t.next ≡ next_for ts m
  pub records : IsPermutation (records_for ts m) t.records
  pub order : IsNonDecreasing (map (λ (r : Record). r.id) t.records)

-- a table for each model, in their order
abbrev pub AreLaid : List TableLit → List ModelInfo → List Table → Type 0
AreLaid ts [] [] = Unit {0}
AreLaid ts [] (t ∷ d) = ⊥
AreLaid ts (m ∷ models) [] = ⊥
AreLaid ts (m ∷ models) (t ∷ d) = IsLaid ts m t × AreLaid ts models d

-- one for each model behind others
abbrev pub Lays : List TableLit → List ModelInfo → List Table → List Table → Type 0
Lays ts models before after = (d : List Table) × (after ≡ before ++ d) × AreLaid ts models d
