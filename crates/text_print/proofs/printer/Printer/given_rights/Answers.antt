use Rattle.std.proofs.Common.{append_assoc}
use Rattle.text_print.proofs.Joined.{text-append}
use Rattle.text_print.proofs.printer.Printer.given_rights.Goals as goal

pub returns-in_ok-right-in-Some-Some-2 : goal.returns-in_ok-right-in-Some-Some-2
returns-in_ok-right-in-Some-Some-2 c =
    rw (c.in-Some-Some.is-0, c.in-Some-Some.is-1)
    (simp (c.in_ok-right-in-Some-Some.ensures, c.in_ok-put-in-Some-Some.ensures, c.in_ok-right-in-Some-Some-2.ensures, text-append, append_assoc))
