-- A formula that no structure satisfies.
use Rattle.std.proofs.Common.{Bool, refl, List, [], arith}
use Rattle.form_formula.specs.Trees.{Formula}
use Rattle.form_terms.specs.GroundTerms.{GroundTerm, skolem, no_terms, term_and}
use Rattle.form_terms.specs.Reading.{Reads}
use Rattle.form_terms.specs.Examples.{two_sorts, nothing_left, nothing_left_terms}

-- x is there, so is y at x, and y is none
pub not_read : (is_there : GroundTerm → Bool) (holds : List GroundTerm → Formula → Bool)
    → Reads two_sorts is_there holds nothing_left_terms 0 [] no_terms nothing_left → ⊥
not_read is_there holds h =
    let x : GroundTerm = skolem 0 0 no_terms in
    let y : GroundTerm = skolem 2 1 (term_and x no_terms) in
    let some_y = h.1.0 x (2, omega arith, refl) refl h.0.0 in
    h.1.1 y (4, omega arith, refl) refl some_y.0
