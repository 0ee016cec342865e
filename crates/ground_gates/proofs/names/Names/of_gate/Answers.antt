use Rattle.std.proofs.Common.{subst, ◌∙◌, sym, ap, slice_get, ◌+◌, arith, length}
use Rattle.ground_gates.specs.Names.{NamesView, HasNoName, IsOnlyName}
use Rattle.ground_gates.specs.declared.names.Owner.TheVariants.{Gate}
use Rattle.ground_gates.proofs.NamesLaws.{only_name, no_name, place_room}
use Rattle.ground_gates.proofs.names.Names.of_gate.Goals as goal

pub overflow_add-result : goal.overflow_add-result
overflow_add-result c =
    let s = c.self.inside in
    let at = ap (λ xs. slice_get xs c.args.gate) (sym c.as_slice.ensures.value) ∙ c.in-Some.ensures in
    let room = place_room s.base s.owners.items s.gates.items s.inputs.items c.self.invariant (Gate c.args.gate) c.in-Some.place (c.self.invariant.gate_named c.args.gate c.in-Some.place at) in
    omega (arith, room)

pub returns-in-Some : goal.returns-in-Some
returns-in-Some c =
    let s = c.self.inside in
    let at = ap (λ xs. slice_get xs c.args.gate) (sym c.as_slice.ensures.value) ∙ c.in-Some.ensures in
    let P : NamesView → Type 0 = λ names. IsOnlyName names (Gate c.args.gate) (s.base + c.in-Some.place) in
    subst P c.self.view_is (only_name s.base s.owners.items s.gates.items s.inputs.items c.self.invariant (length s.gates.items) (length s.inputs.items) c.args.gate c.in-Some.place at)

pub returns-in-None : goal.returns-in-None
returns-in-None c =
    let s = c.self.inside in
    let P : NamesView → Type 0 = λ names. HasNoName names (Gate c.args.gate) in
    subst P c.self.view_is
    (no_name s.base s.owners.items s.gates.items s.inputs.items c.self.invariant (length s.gates.items) (length s.inputs.items) c.args.gate
    (λ n e. c.in-None.ensures n (ap (λ xs. slice_get xs c.args.gate) c.as_slice.ensures.value ∙ e)))
