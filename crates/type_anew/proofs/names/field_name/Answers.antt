use Rattle.std.proofs.Common.{◌≡◌, subst}
use Rattle.std.specs.Prelude.{IfOk}
use Rattle.type_anew.specs.Names.{named}
use Rattle.type_anew.proofs.SpecLookups.{field-name}
use Rattle.type_anew.proofs.names.field_name.Goals as goal

pub returns-in-Some-field_among : goal.returns-in-Some-field_among
returns-in-Some-field_among c =
    subst (λ n. IfOk c.named.result (λ x. x ≡ named n))
    (field-name c.args.s.now c.args.m c.args.f c.in-Some.info.now c.in-Some-field_among.info.now (rw c.as_slice.ensures at c.in-Some.ensures)
    (rw c.as_slice-2.ensures at c.in-Some-field_among.ensures))
    c.named.ensures
