use Rattle.std.specs.Prelude.{None, Some}
use Rattle.type_typing.proofs.Lookups.{principal_is_marked}
use Rattle.type_typing.proofs.names.is_principal.Goals as goal

pub returns-in-Some : goal.returns-in-Some
returns-in-Some c =
    principal_is_marked c.args.schema.now c.args.model (Some c.in-Some.model.now) (rw c.as_slice.ensures at c.in-Some.ensures)

pub returns-in-None : goal.returns-in-None
returns-in-None c = principal_is_marked c.args.schema.now c.args.model None (rw c.as_slice.ensures at c.in-None.ensures)
