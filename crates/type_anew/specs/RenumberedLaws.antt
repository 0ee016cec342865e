-- What a database numbered anew is, and what policies numbered anew mean on it.
use Rattle.std.specs.Prelude.{◌≡◌, ℕ, Some}
use Rattle.type_schema.specs.declared.types.TTy.{TTy}
use Rattle.type_schema.specs.Trees.{Policy}
use Rattle.type_schema.specs.Schema.{Schema, type_of}
use Rattle.type_schema.specs.Typing.{HasModel, IsPolicy}
use Rattle.type_schema.specs.Proper.{IsProper}
use Rattle.data_meaning.specs.declared.principals.Principal.{Principal}
use Rattle.data_meaning.specs.Database.{Database, has_record, field_at, IsDatabase, HasNoFurtherTables, IsInOrder}
use Rattle.data_meaning.specs.Meaning.{allows}
use Rattle.data_records.specs.Renumbered.{new_field, new_model, renumbered}
use Rattle.type_anew.specs.RenumberedAnew.{IsAnew}
use Rattle.type_anew.specs.Policies.{renumbered_policy, renumbered_principal}

-- It has the same records with the same values under the new numbers, is over the schema numbered anew, and keeps the order of its tables.
pub record IsMovedTo (s anew : Schema) (d : Database) : Type 0 where
  pub records : (m id : ℕ) → HasModel s m → has_record (renumbered s d) (new_model s.models m) id ≡ has_record d m id
  pub fields : (m f id : ℕ) (t : TTy) → type_of s m f ≡ Some t → field_at (renumbered s d) (new_model s.models m) id (new_field s.models m f) ≡ field_at d m id f
  pub database : IsDatabase anew (renumbered s d)
  pub no_further : HasNoFurtherTables anew (renumbered s d)
  pub order : IsInOrder s d → IsInOrder anew (renumbered s d)

abbrev pub DatabasesMove : Type 0
DatabasesMove =
    (s anew : Schema) (d : Database) → IsProper s → IsAnew s anew → IsDatabase s d → HasNoFurtherTables s d → IsMovedTo s anew d

-- A policy of the schema, numbered anew, allows on the database numbered anew whom it allowed before.
abbrev pub PoliciesMeanTheSame : Type 0
PoliciesMeanTheSame =
    (s : Schema) (d : Database) → IsProper s → IsDatabase s d → HasNoFurtherTables s d → (m id : ℕ) (policy : Policy) (who : Principal) → IsPolicy s m policy
    → allows (renumbered s d) (renumbered_policy s policy) id (renumbered_principal s who) ≡ allows d policy id who
