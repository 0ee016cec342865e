use Rattle.std.proofs.Common.{◌≡◌, subst}
use Rattle.std.specs.Prelude.{IfOk}
use Rattle.type_anew.specs.Names.{named}
use Rattle.type_anew.proofs.SpecLookups.{static-name}
use Rattle.type_anew.proofs.names.static_name.Goals as goal

pub returns-in-Some : goal.returns-in-Some
returns-in-Some c =
    subst (λ n. IfOk c.named.result (λ x. x ≡ named n))
    (static-name c.args.s.now c.args.n c.in-Some.info.now (rw c.as_slice.ensures at c.in-Some.ensures)) c.named.ensures
