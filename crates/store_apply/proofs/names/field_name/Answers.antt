use Rattle.type_anew.proofs.SpecLookups.{field-name}
use Rattle.store_apply.proofs.Lookups.{no-field, no-field-of}
use Rattle.store_apply.proofs.names.field_name.Goals as goal

pub unreachable-requires : goal.unreachable-requires
unreachable-requires c = no-field-of c.args.s.now c.args.m c.args.f (rw c.as_slice.ensures at c.in-None.ensures) c.requires

pub unreachable-requires-in-None-field_among : goal.unreachable-requires-in-None-field_among
unreachable-requires-in-None-field_among c =
    no-field c.args.s.now c.args.m c.args.f c.in-Some.info.now (rw c.as_slice.ensures at c.in-Some.ensures)
    (rw c.as_slice-2.ensures at c.in-None-field_among.ensures) c.requires

pub returns : goal.returns
returns c =
    field-name c.args.s.now c.args.m c.args.f c.in-Some.info.now c.in-Some-field_among.field.now (rw c.as_slice.ensures at c.in-Some.ensures)
    (rw c.as_slice-2.ensures at c.in-Some-field_among.ensures)
