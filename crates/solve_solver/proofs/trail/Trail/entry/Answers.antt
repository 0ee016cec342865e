use Rattle.std.proofs.Common.{◌<◌, length, ap, arith}
use Rattle.std.proofs.lemmas.List.{length-reverse}
use Rattle.solve_solver.specs.Trail.{TrailView}
use Rattle.solve_solver.proofs.Trails.{reversed_within}
use Rattle.solve_solver.proofs.trail.Trail.entry.Goals as goal

pub returns : goal.returns
returns c =
    let items = c.self.inside.entries.items in
    let count = ap (λ (v : TrailView). length v.entries) c.self.view_is in
    let vars = ap (λ (v : TrailView). v.vars) c.self.view_is in
    let place : c.args.place < length items = omega (arith, count, c.requires, length-reverse items) in
    let within = reversed_within _ items c.self.invariant.is_trail c.args.place c.index.result.now place in
    rw c.index.ensures (omega (arith, within, vars))
