use Rattle.std.proofs.Common.{◌≡◌, ◌+◌, ◌<◌, ◌∙◌, ℕ, List, [], ◌∷◌, ◌++◌, get_or, length, map, take, ap, sym, subst, append_assoc, arith}
use Rattle.std.specs.Prelude.{Option}
use Rattle.std.proofs.lemmas.List.{take_more}
use Rattle.form_formula.specs.declared.node.Node.{Node}
use Rattle.form_formula.specs.Nodes.{term_of}
use Rattle.form_terms.specs.Parts as tree
use Rattle.ground_terms.specs.declared.part.Name.{Name}
use Rattle.ground_terms.specs.declared.part.Part.{Part}
use Rattle.ground_terms.specs.Parts.{AreParts, IsTermPart, ground_names}
use Rattle.ground_terms.specs.Walk.{IsOnePart}
use Rattle.ground_terms.proofs.Standing.{map-append}
use Rattle.ground_terms.proofs.WalkLemmas.{AreParts-append}
use Rattle.ground_terms.proofs.walk.Walk.add_matrix.Goals as goal

-- the parts of the terms so far, and that of one more
HaveParts : List Node → List (Option Name) → List ℕ → List Part → List Part → Type 0
HaveParts nodes names ids old new = (more : List Part) × AreParts nodes (map (tree.atom_term (ground_names names)) (map (term_of nodes) ids)) more × (new ≡ old ++ more)

one_more : (nodes : List Node) (names names_now : List (Option Name)) (ids : List ℕ) (k : ℕ) (begun old new : List Part) → k < length ids → names_now ≡ names → HaveParts nodes names (take k ids) begun old
    → IsOnePart nodes names_now (get_or ids k 0) old new → HaveParts nodes names (take (k + 1) ids) begun new
unfolding HaveParts
one_more nodes names names_now ids k begun old new lt same (more, are, whole) (part, is, e) =
    let own = λ (xs : List ℕ). map (tree.atom_term (ground_names names)) (map (term_of nodes) xs) in
    let split : own (take (k + 1) ids) ≡ own (take k ids) ++ tree.atom_term (ground_names names) (term_of nodes (get_or ids k 0)) ∷ [] =
    ap own (take_more ids k 0 lt)
    ∙ (ap (map (tree.atom_term (ground_names names))) (map-append (term_of nodes) (take k ids) (get_or ids k 0 ∷ []))
    ∙ map-append (tree.atom_term (ground_names names)) (map (term_of nodes) (take k ids)) (term_of nodes (get_or ids k 0) ∷ [])) in
    let Q : List tree.Part → Type 0 = λ ps. AreParts nodes ps (more ++ part ∷ []) in
    let here : IsTermPart nodes names (get_or ids k 0) part = subst (λ (ns : List (Option Name)). IsTermPart nodes ns (get_or ids k 0) part) same is in (
      more ++ part ∷ [],
      subst Q (sym split) (AreParts-append nodes (own (take k ids)) (tree.atom_term (ground_names names) (term_of nodes (get_or ids k 0)) ∷ []) more (part ∷ []) are (here, tt)),
      e ∙ (ap (λ (ps : List Part). ps ++ part ∷ []) whole ∙ append_assoc begun more (part ∷ [])),
    )

pub loop-term-preserved : goal.loop-term-preserved
unfolding HaveParts
loop-term-preserved c =
    let ids : List ℕ = c.deref-term-items.result.now in
    let before = c.loop-term.invariant in
    let now = c.in_ok-add_term.ensures in (
      now.pending ∙ before.0,
      now.names ∙ before.1,
      now.above ∙ before.2,
      now.number ∙ before.3,
      one_more c.args.arena.now c.args.self.now.names.items c.loop-term.self.names.items ids c.loop-term.term-index c.args.self.now.parts.items c.loop-term.self.parts.items c.add_term.new.self.parts.items
          (omega arith) before.1 before.4 now.parts,
    )
