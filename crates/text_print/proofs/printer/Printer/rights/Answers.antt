use Rattle.std.proofs.Common.{append_assoc}
use Rattle.text_print.proofs.Joined.{text-append}
use Rattle.text_print.proofs.printer.Printer.rights.Goals as goal

pub returns : goal.returns
returns c =
    simp (c.in_ok-put.ensures, c.in_ok-given_rights.ensures, c.in_ok-put-2.ensures, text-append, append_assoc)
