use Rattle.std.proofs.Common.{subst, ◌∙◌, sym, ap, slice_get, ◌+◌, length, refl, arith}
use Rattle.ground_gates.specs.Names.{NamesView, HasNoName, IsNamed}
use Rattle.ground_gates.specs.declared.names.Owner.TheVariants.{Input}
use Rattle.ground_gates.proofs.NamesLaws.{no_input_name, place_room}
use Rattle.ground_gates.proofs.names.Names.of_input.Goals as goal

pub overflow_add-result : goal.overflow_add-result
overflow_add-result c =
    let s = c.self.inside in
    let at = ap (λ xs. slice_get xs c.args.input) (sym c.as_slice.ensures.value) ∙ c.in-Some.ensures in
    let room = place_room s.base s.owners.items s.gates.items s.inputs.items c.self.invariant (Input c.args.input) c.in-Some.place (c.self.invariant.input_named c.args.input c.in-Some.place at) in
    omega (arith, room)

pub returns-in-Some : goal.returns-in-Some
returns-in-Some c =
    let s = c.self.inside in
    let at = ap (λ xs. slice_get xs c.args.input) (sym c.as_slice.ensures.value) ∙ c.in-Some.ensures in
    let P : NamesView → Type 0 = λ names. IsNamed names (Input c.args.input) (s.base + c.in-Some.place) in
    subst P c.self.view_is (c.in-Some.place, refl, c.self.invariant.input_named c.args.input c.in-Some.place at)

pub returns-in-None : goal.returns-in-None
returns-in-None c =
    let s = c.self.inside in
    let P : NamesView → Type 0 = λ names. HasNoName names (Input c.args.input) in
    subst P c.self.view_is
    (no_input_name s.base s.owners.items s.gates.items s.inputs.items c.self.invariant (length s.gates.items) (length s.inputs.items) c.args.input
    (λ n e. c.in-None.ensures n (ap (λ xs. slice_get xs c.args.input) c.as_slice.ensures.value ∙ e)))
