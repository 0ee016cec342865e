use Rattle.std.proofs.Common.{List, Option, Some, ℕ, subst, sym, ap, arith, ◌++◌, ◌∷◌, [], ◌≡◌, ◌∙◌, length}
use Rattle.std.proofs.Math.ListN.{set}
use Rattle.ground_gates.specs.declared.names.Owner.{Owner}
use Rattle.ground_gates.specs.declared.names.Owner.TheVariants.{Input}
use Rattle.ground_gates.specs.Names.{NamesView, AreNames, HasNoName}
use Rattle.ground_gates.proofs.NamesLaws.{input_added}
use Rattle.ground_gates.proofs.names.Names.add_input.Goals as goal

pub invariant_of-self-2 : goal.invariant_of-self-2
invariant_of-self-2 c =
    let s = c.self.inside in
    let (place, room) = c.in_ok-place.ensures in
    let own : c.in_ok-place.place ≡ length s.owners.items = place ∙ ap (λ n. length n.owners) (sym c.self.view_is) in
    let base : c.args.self.now.base ≡ s.base = ap (λ n. n.base) (sym c.self.view_is) in
    let N : NamesView → Type 0 = λ names. HasNoName names (Input c.args.input) in
    let none = subst N (sym c.self.view_is) c.requires.none in
    let P : List Owner → Type 0 = λ owners. AreNames s.base owners s.gates.items c.note_place.new.table.items in
    let Q : List (Option ℕ) → Type 0 = λ inputs. AreNames s.base (s.owners.items ++ Input c.args.input ∷ []) s.gates.items inputs in
    let table : c.note_place.new.table.items ≡ set s.inputs.items c.args.input (Some (length s.owners.items)) = c.note_place.ensures ∙ ap (λ n. set s.inputs.items c.args.input (Some n)) own in
    subst P (sym c.in_ok-push.ensures.items) (subst Q (sym table) (input_added s.base s.owners.items s.gates.items s.inputs.items c.self.invariant c.args.input (omega (arith, room, own, base)) (omega (arith, c.requires.placed, ap (λ n. n.input_places) c.self.view_is)) none))
