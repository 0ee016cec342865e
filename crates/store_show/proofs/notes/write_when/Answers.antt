use Rattle.std.proofs.Common.{append_assoc}
use Rattle.store_show.proofs.notes.write_when.Goals as goal

pub returns : goal.returns
returns c =
    simp (c.in_ok-put-3.ensures, c.in_ok-write_decimal-2.ensures, c.from.ensures, c.in_ok-put-2.ensures, c.in_ok-write_decimal.ensures, c.in_ok-put.ensures, append_assoc)
