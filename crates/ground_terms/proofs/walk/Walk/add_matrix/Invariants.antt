use Rattle.std.proofs.Common.{◌≡◌, List, ◌++◌, map, take}
use Rattle.form_formula.specs.Nodes.{term_of}
use Rattle.form_terms.specs.Parts.{atom_term}
use Rattle.ground_terms.specs.declared.part.Part.{Part}
use Rattle.ground_terms.specs.Parts.{AreParts, ground_names}
use Rattle.ground_terms.proofs.walk.Walk.add_matrix.Given as goal

abbrev pub invariant-loop-term : goal.invariant-loop-term
invariant-loop-term l =
    (l.self.pending.items ≡ l.initial.self.pending.items) × (l.self.names.items ≡ l.initial.self.names.items) × (l.self.above.items ≡ l.initial.self.above.items)
    × (l.self.number ≡ l.initial.self.number)
    × ((more : List Part) × AreParts l.arena (map (atom_term (ground_names l.initial.self.names.items)) (map (term_of l.arena) (take l.term-index l.term-items))) more
    × (l.self.parts.items ≡ l.initial.self.parts.items ++ more))
