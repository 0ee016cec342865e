use Rattle.std.proofs.Common.{◌≡◌, sym}
use Rattle.type_typing.specs.declared.type_err.TypeErr.TheVariants.{Unknown}
use Rattle.type_typing.proofs.Lookups.{var_found}
use Rattle.type_typing.proofs.vars.var_named.Goals as goal

pub returns-clause-gives : goal.returns-clause-gives
returns-clause-gives c =
    let same : c.in-Ok.depth ≡ c.in-Some.depth = c.in-Ok.ensures.1 in
    let at = rw c.bytes.ensures.bytes at c.in-Some.ensures in
    rw same
    (var_found c.args.vars.now c.args.x.now.name c.in-Some.depth c.in-Some-at.v.now (Unknown c.args.x.now.at) at c.in-Some-at.ensures)

pub returns-clause-exact : goal.returns-clause-exact
returns-clause-exact c =
    let same : c.in-Ok.depth ≡ c.in-Some.depth = c.in-Ok.ensures.1 in
    let at = rw c.bytes.ensures.bytes at c.in-Some.ensures in
    λ few.
    rw same
    (sym (var_found c.args.vars.now c.args.x.now.name c.in-Some.depth c.in-Some-at.v.now (Unknown c.args.x.now.at) at c.in-Some-at.ensures))
