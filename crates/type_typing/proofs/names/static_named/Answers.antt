use Rattle.std.specs.Prelude.{None, Some}
use Rattle.type_typing.proofs.Lookups.{static_is_named}
use Rattle.type_typing.proofs.names.static_named.Goals as goal

pub returns-in_err-known : goal.returns-in_err-known
returns-in_err-known c =
    rw c.from_residual.ensures (static_is_named c.args.schema.now c.args.name.now None (rw c.as_slice.ensures at c.in_err-known.ensures))

pub returns : goal.returns
returns c = static_is_named c.args.schema.now c.args.name.now (Some c.in_ok-known.known.now) (rw c.as_slice.ensures at c.in_ok-known.ensures)
