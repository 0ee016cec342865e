use Rattle.std.proofs.Common.{◌≡◌, ◌++◌, take}
use Rattle.std.specs.List.{flat_map}
use Rattle.store_show.specs.Texts.{note_text}
use Rattle.store_show.proofs.notes.write_notes.Given as goal

abbrev pub invariant-loop-note : goal.invariant-loop-note
invariant-loop-note l = l.out ≡ l.fn.out ++ flat_map note_text (take l.note-index l.notes)
