-- With which tokens an expression and a set begin.
use Rattle.std.specs.Prelude.{◌≡◌, List, []}
use Rattle.text_ast.specs.Pieces.{Piece}
use Rattle.text_tree.specs.Forms.{Begins}
use Rattle.text_tree.specs.ExprGrammar.{Part, tree_of, rule}

-- The pieces begin an expression or a set before any other that it holds begins.
abbrev pub BeginsItself : Part → List Piece → Type 0
BeginsItself p ls = Begins (λ (q : Part) (x : tree_of q) (ks : List Piece). ⊥) (λ (q : Part) (ks : List Piece). ks ≡ []) (rule p) ls
