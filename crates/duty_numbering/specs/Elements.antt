-- The parts of the structure of a database, by parts of the schema.
use Rattle.std.specs.Prelude.{ℕ, not, List, map, filter, flat_map, length, Option}
use Rattle.data_meaning.specs.Database.{Database, ids_of, field_at}
use Rattle.data_meaning.specs.Meaning.{set_of}
use Rattle.form_formula.specs.declared.structure.SVal.{SVal}
use Rattle.duty_meaning.specs.Structures.{Place, is_set, element_of, entry_of, entries_of, pairs_of}

-- how many records each of these models has
abbrev pub sizes_of : Database → List ℕ → List ℕ
sizes_of d models = map (λ m. length (ids_of d m)) models

-- of several fields the functions, and the set relations
abbrev pub tables_at : Database → List Place → List (List (Option SVal))
tables_at d places = map (entries_of d) (filter (λ (p : Place). not (is_set p.field.ty)) places)

abbrev pub relations_at : Database → List Place → List (List (ℕ × ℕ))
relations_at d places = map (pairs_of d) (filter (λ (p : Place). is_set p.field.ty) places)

module _ (d : Database) (source target : ℕ) where
  -- what the field holds at these records
  abbrev pub entries_among : ℕ → List ℕ → List (Option SVal)
  entries_among f ids = map (λ id. entry_of d target (field_at d source id f)) ids

  -- a record with each of these
  abbrev pub pairs_from : ℕ → List ℕ → List (ℕ × ℕ)
  pairs_from id others = map (λ other. (element_of d source id, element_of d target other)) others

  -- each of these records with each that is in its set
  abbrev pub pairs_among : ℕ → List ℕ → List (ℕ × ℕ)
  pairs_among f ids = flat_map (λ id. pairs_from id (set_of (field_at d source id f))) ids
