use Rattle.std.proofs.Common.{List, Option, Some, ℕ, subst, sym, ap, arith, ◌+◌, ◌++◌, ◌∷◌, [], ◌≡◌, ◌∙◌, length}
use Rattle.std.proofs.Math.ListN.{set}
use Rattle.ground_gates.specs.declared.names.Owner.{Owner}
use Rattle.ground_gates.specs.declared.names.Owner.TheVariants.{Gate}
use Rattle.ground_gates.specs.Names.{NamesView, AreNames, HasNoName, IsGateNamed}
use Rattle.ground_gates.proofs.NamesLaws.{gate_added, named_before, named_now, length_set}
use Rattle.ground_gates.proofs.names.Names.name_gate.Goals as goal

pub invariant_of-self-2 : goal.invariant_of-self-2
invariant_of-self-2 c =
    let s = c.self.inside in
    let (place, room) = c.in_ok-place.ensures in
    let own : c.in_ok-place.place ≡ length s.owners.items = place ∙ ap (λ n. length n.owners) (sym c.self.view_is) in
    let base : c.args.self.now.base ≡ s.base = ap (λ n. n.base) (sym c.self.view_is) in
    let places : c.args.self.now.places ≡ length s.gates.items = ap (λ n. n.places) (sym c.self.view_is) in
    let N : NamesView → Type 0 = λ names. HasNoName names (Gate c.args.gate) in
    let none = subst N (sym c.self.view_is) c.in_default.ensures in
    let P : List Owner → Type 0 = λ owners. AreNames s.base owners c.note_place.new.table.items s.inputs.items in
    let Q : List (Option ℕ) → Type 0 = λ gates. AreNames s.base (s.owners.items ++ Gate c.args.gate ∷ []) gates s.inputs.items in
    let table : c.note_place.new.table.items ≡ set s.gates.items c.args.gate (Some (length s.owners.items)) = c.note_place.ensures ∙ ap (λ n. set s.gates.items c.args.gate (Some n)) own in
    subst P (sym c.in_ok-push.ensures.items) (subst Q (sym table) (gate_added s.base s.owners.items s.gates.items s.inputs.items c.self.invariant c.args.gate (omega (arith, room, own, base)) (omega (arith, c.requires, places)) none))

pub returns-in-Some : goal.returns-in-Some
returns-in-Some c = named_before c.args.self.now c.args.gate c.in-Some.variable c.in-Some.ensures

pub returns : goal.returns
returns c =
    let s = c.self.inside in
    let (place, room) = c.in_ok-place.ensures in
    let base : s.base ≡ c.args.self.now.base = ap (λ n. n.base) c.self.view_is in
    let places : length c.note_place.new.table.items ≡ c.args.self.now.places = ap length c.note_place.ensures ∙ (length_set s.gates.items c.args.gate (Some c.in_ok-place.place) ∙ ap (λ n. n.places) c.self.view_is) in
    let owners : c.push.new.self.items ≡ c.args.self.now.owners ++ Gate c.args.gate ∷ [] = c.in_ok-push.ensures.items ∙ ap (λ n. n.owners ++ Gate c.args.gate ∷ []) c.self.view_is in
    let new : NamesView = record { base = s.base; owners = c.push.new.self.items; places = length c.note_place.new.table.items; input_places = length s.inputs.items } in
    let P : ℕ → Type 0 = λ x. IsGateNamed c.args.gate c.args.self.now new x in
    let is : c.args.self.now.base + length c.args.self.now.owners ≡ s.base + c.in_ok-place.place = omega (arith, base, place) in
    subst P is (named_now c.args.gate c.args.self.now new base places (ap (λ n. n.input_places) c.self.view_is) owners)
