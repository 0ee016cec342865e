-- The notes of a script: one for each right that a command weakens.
use Rattle.std.specs.Prelude.{ℕ, ◌+◌, List, [], ◌∷◌, ◌++◌, Option, None, Some}
use Rattle.std.specs.List.{enumerate_from, flat_map}
use Rattle.type_schema.specs.declared.rights.Right.{Right}
use Rattle.type_schema.specs.declared.rights.Right.TheVariants.{Read, Write, Create, Delete}
use Rattle.type_schema.specs.Trees.{Policy}
use Rattle.type_schema.specs.Schema.{Schema}
use Rattle.type_schema.specs.Commands.{Command, create_model, delete_model, add_static, remove_static, add_principal, add_field, remove_field, update_field, weaken_field, update_model, weaken_model}
use Rattle.type_schema.specs.Script.{Script, schema_at}
use Rattle.type_anew.specs.Names.{names_in}
use Rattle.store_keeper.specs.declared.stored.Note.{Note}

-- the note, where a policy of its right is given
abbrev pub where_given : Option Policy → Note → List Note
where_given None note = []
where_given (Some policy) note = note ∷ []

-- The notes of a command with this number: read before write, and create before delete. The names are those of the schema before the command.
abbrev pub notes_of : Schema → (version number : ℕ) → Command → List Note
notes_of s version number (create_model m) = []
notes_of s version number (delete_model m) = []
notes_of s version number (add_static n) = []
notes_of s version number (remove_static n) = []
notes_of s version number (add_principal m) = []
notes_of s version number (add_field m f init) = []
notes_of s version number (remove_field m f) = []
notes_of s version number (update_field m f read write) = []
notes_of s version number (weaken_field m f read write reason) =
    let note : Right → Note = λ right. record {
      version = version;
      command = number;
      model = (names_in s).model m;
      field = Some ((names_in s).field m f);
      right = right;
      reason = reason;
    } in
    where_given read (note Read) ++ where_given write (note Write)
notes_of s version number (update_model m create delete) = []
notes_of s version number (weaken_model m create delete reason) =
    let note : Right → Note = λ right. record {
      version = version;
      command = number;
      model = (names_in s).model m;
      field = None;
      right = right;
      reason = reason;
    } in
    where_given create (note Create) ++ where_given delete (note Delete)

-- The notes of a script that makes this version: those of each command in turn. Commands are numbered from 1.
abbrev pub new_notes : Script → (version : ℕ) → List Note
new_notes t version =
    flat_map (λ (at : ℕ × Command). notes_of (schema_at t at.0) version (at.0 + 1) at.1) (enumerate_from 0 t.commands)
