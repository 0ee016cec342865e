use Rattle.std.proofs.Common.{◌≡◌, ◌++◌}
use Rattle.type_schema.specs.SchemaViews.{script_of}
use Rattle.store_apply.specs.Notes.{new_notes}
use Rattle.store_apply.proofs.NoteLists.{notes-left}
use Rattle.store_apply.proofs.notes.add_all_notes.Given as goal

-- the notes so far and those of the commands that are left
abbrev pub invariant-loop-at : goal.invariant-loop-at
invariant-loop-at l =
    l.notes.items ++ notes-left (script_of l.t) l.version l.at ≡ l.initial.notes.items ++ new_notes (script_of l.t) l.version
