-- What the terms of a formula are found from.
use Rattle.std.specs.Prelude.{◌≡◌, List}
use Rattle.std.specs.List.{filter}
use Rattle.form_formula.specs.declared.node.Node.{Node}
use Rattle.form_formula.specs.declared.structure.Signature.{Signature}
use Rattle.form_formula.specs.Trees.{Formula}
use Rattle.form_terms.specs.Listing.{first_terms, functions, is_plain}
use Rattle.form_terms.specs.Parts.{parts_of}
use Rattle.ground_terms.specs.declared.terms.Basis.{Basis}
use Rattle.ground_terms.specs.Parts.{AreThinned}
use Rattle.ground_terms.specs.Standing.{AreTermsAt}

-- the parts of the formula, the functions that it applies, its first terms, and those of them that stay
pub record IsBasis (g : Signature) (f : Formula) (basis : Basis) : Type 0 where
  pub nodes : List Node
  pub parts : AreThinned nodes (parts_of f) basis.parts.items
  pub applied : basis.functions.items ≡ functions g f
  pub first : AreTermsAt basis.arena basis.first.items (first_terms g f)
  pub plain : AreTermsAt basis.arena basis.plain.items (filter (is_plain g f) (first_terms g f))
