use Rattle.std.proofs.Common.{rules, ◌≡◌, length, map, ◌∙◌, arith}
use Rattle.solve_solver.specs.Atoms.{atom_at}
use Rattle.solve_solver.proofs.AtomLists.{atoms_kept, atoms_pushed}
use Rattle.solve_solver.proofs.atoms.Atoms.push.Goals as goal

pub returns-in_err-push-3-clause-err : goal.returns-in_err-push-3-clause-err
returns-in_err-push-3-clause-err g c =
    let same : map (atom_at c.push-2.new.self.items) c.push-3.new.self.items ≡ c.args.self.now =
    rw (c.in_ok-push-2.ensures.items, c.in_err-push-3.ensures.items) (atoms_kept c.self.inside.literals.items c.in-Some.pair c.self.inside.places.items c.self.invariant ∙ c.self.view_is) in
    search rules

pub returns-clause-ok : goal.returns-clause-ok
returns-clause-ok g c =
    let place : c.len-place.result ≡ length c.self.inside.literals.items = omega (arith, c.self.inside.literals.ok.0) in
    rw (← c.self.view_is, c.in_ok-push-3.ensures.items, c.in_ok-push-2.ensures.items, place, c.in-Some.is)
    (atoms_pushed c.self.inside.literals.items c.in-Some.pair c.self.inside.places.items c.self.invariant)
