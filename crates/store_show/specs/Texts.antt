-- The text of what is stored: the version, the specification in its canonical spelling, the database, and a line for each note.
use Rattle.std.specs.Prelude.{ℕ, List, [], ◌∷◌, Option, None, Some, codes}
use Rattle.std.specs.Fmt.{decimal}
use Rattle.std.specs.List.{concat, flat_map}
use Rattle.text_print.specs.Marks.{quoted, text_of_marks}
use Rattle.text_print.specs.Models.{spelled_spec}
use Rattle.type_schema.specs.declared.rights.Right.{Right}
use Rattle.type_schema.specs.declared.rights.Right.TheVariants.{Read, Write, Create, Delete}
use Rattle.type_schema.specs.Trees.{Name}
use Rattle.type_schema.specs.Schema.{Schema}
use Rattle.type_anew.specs.Specs.{written_spec}
use Rattle.data_print.specs.Texts.{database_text}
use Rattle.store_keeper.specs.declared.stored.Note.{Note}
use Rattle.store_keeper.specs.Stored.{Stored}

abbrev pub right_text : Right → List ℕ
right_text Read = codes "read"
right_text Write = codes "write"
right_text Create = codes "create"
right_text Delete = codes "delete"

-- what a right was on, by its name at the command
abbrev pub target_text : Name → Option Name → List ℕ
target_text model None = model
target_text model (Some field) = concat (model ∷ codes "." ∷ field ∷ [])

-- the version that the migration made, and the number of the command
abbrev pub when_text : (version command : ℕ) → List ℕ
when_text version command = concat (codes "note " ∷ decimal version ∷ codes " command " ∷ decimal command ∷ codes " " ∷ [])

-- a right that was weakened, on a line of its own
abbrev pub note_text : Note → List ℕ
note_text n =
    concat (when_text n.version n.command ∷ target_text n.model n.field ∷ codes " " ∷ right_text n.right ∷ codes " " ∷ quoted n.reason ∷ codes "\n" ∷ [])

abbrev pub version_text : ℕ → List ℕ
version_text version = concat (codes "version " ∷ decimal version ∷ codes "\n" ∷ [])

-- the schema as the specification that it is written as
abbrev pub schema_text : Schema → List ℕ
schema_text s = text_of_marks (spelled_spec (written_spec s))

-- what `show` prints of what is stored
abbrev pub show_text : Stored → List ℕ
show_text s = concat (version_text s.version ∷ schema_text s.schema ∷ database_text s.schema s.base ∷ flat_map note_text s.notes ∷ [])
