use Rattle.std.proofs.Common.{sym}
use Rattle.std.specs.Prelude.{Some, None}
use Rattle.data_records.proofs.Places.{reference-is}
use Rattle.data_records.proofs.references.reference_from.Goals as goal

pub returns-in-Some : goal.returns-in-Some
returns-in-Some c =
    sym (reference-is c.args.m c.args.id c.args.info.now c.args.from.now (Some c.in-Some.field.now) (sym c.if-is_itself.ensures) (rw c.as_slice.ensures at c.in-Some.ensures))

pub returns-in-None : goal.returns-in-None
returns-in-None c =
    sym (reference-is c.args.m c.args.id c.args.info.now c.args.from.now None (sym c.if-is_itself.ensures) (rw c.as_slice.ensures at c.in-None.ensures))
