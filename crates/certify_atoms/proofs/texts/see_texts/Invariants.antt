use Rattle.std.proofs.Common.{◌≡◌, ℕ, ◌<◌, List, Some, slice_get}
use Rattle.text_ast.specs.Words.{IsText}
use Rattle.certify_atoms.proofs.texts.see_texts.Given as goal

abbrev pub invariant-loop-text : goal.invariant-loop-text
invariant-loop-text l = (k : ℕ) (t : List ℕ) → k < l.text-index → slice_get l.texts k ≡ Some t → IsText t
