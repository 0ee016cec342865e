use Rattle.std.proofs.Common.{subst, ◌+◌, ◌≤◌, length}
use Rattle.ground_gates.specs.Names.{NamesView}
use Rattle.ground_gates.proofs.NamesLaws.{few_named}
use Rattle.ground_gates.proofs.names.Names.end.Goals as goal

pub returns-clause-few : goal.returns-clause-few
returns-clause-few c =
    let s = c.self.inside in
    let P : NamesView → Type 0 = λ names. length names.owners ≤ names.places + names.input_places in
    subst P c.self.view_is (few_named s.base s.owners.items s.gates.items s.inputs.items c.self.invariant)
