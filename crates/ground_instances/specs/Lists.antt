-- Lists of ground terms, by their numbers.
use Rattle.std.specs.Prelude.{◌≡◌, ℕ, List, ◌++◌}
use Rattle.form_terms.specs.GroundTerms.{GroundTerm, list_of}
use Rattle.ground_terms.specs.declared.node.TermNode.{TermNode}
use Rattle.ground_terms.specs.Nodes.{IsList, list_of as list_at, Extends}
use Rattle.ground_terms.specs.Standing.{AreTermsAt}

-- the number is that of a list of these terms, and all nodes are there as before
pub record IsListOf (ts : List GroundTerm) (old new : List TermNode) (list : ℕ) : Type 0 where
  pub kept : Extends old new
  pub fits : IsList new list
  pub are : list_of (list_at new list) ≡ ts

-- of the terms of a list these were found, and those of a shorter list are left
pub record IsDown (nodes : List TermNode) (whole : List GroundTerm) (at : ℕ) (found : List ℕ) : Type 0 where
  pub fits : IsList nodes at
  pub done : List GroundTerm
  pub stand : AreTermsAt nodes found done
  pub rest : done ++ list_of (list_at nodes at) ≡ whole
