use Rattle.std.proofs.Common.{rules, ◌≡◌, ◌<◌, None, arith, length, ap, reverse}
use Rattle.std.proofs.lemmas.List.{length-reverse}
use Rattle.solve_solver.specs.Trail.{TrailView, value_in}
use Rattle.solve_solver.proofs.Trails.{length-unset}
use Rattle.solve_solver.proofs.trail.Trail.push.Goals as goal

-- a trail on which a variable is not set is shorter than the room for it
pub unreachable-requires : goal.unreachable-requires
unreachable-requires c =
    let fields = c.self.inside in
    let vars = ap (λ (t : TrailView). t.vars) c.self.view_is in
    let within : c.args.entry.literal.var < length fields.values.items = omega (arith, fields.values.ok.0) in
    let unset : value_in (reverse fields.entries.items) c.args.entry.literal.var ≡ None = search rules in
    let short = length-unset _ _ c.args.entry.literal c.self.invariant.is_trail within unset in
    omega (arith, c.in-Err.ensures.full, c.self.invariant.fits, length-reverse fields.entries.items, fields.entries.ok.0)

pub returns-clause-room : goal.returns-clause-room
returns-clause-room c =
    let fields = c.self.inside in
    let vars = ap (λ (t : TrailView). t.vars) c.self.view_is in
    let within : c.args.entry.literal.var < length fields.values.items = omega (arith, fields.values.ok.0) in
    let unset : value_in (reverse fields.entries.items) c.args.entry.literal.var ≡ None = search rules in
    let short = length-unset _ _ c.args.entry.literal c.self.invariant.is_trail within unset in
    let count = ap (λ (t : TrailView). length t.entries) c.self.view_is in
    omega (arith, short, vars, count, fields.values.ok.0)
