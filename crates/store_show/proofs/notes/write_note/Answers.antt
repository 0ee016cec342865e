use Rattle.std.proofs.Common.{append_assoc}
use Rattle.store_show.proofs.notes.write_note.Goals as goal

pub returns : goal.returns
returns c =
    simp
    (c.in_ok-put.ensures, c.in_ok-text.ensures, c.bytes.ensures.bytes, c.in_ok-write_right.ensures, c.in_ok-write_target.ensures, c.in_ok-write_when.ensures, append_assoc)
