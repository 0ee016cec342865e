-- Lists of texts.
use Rattle.std.specs.Prelude.{◌≡◌, ℕ, List, Some, slice_get}
use Rattle.text_ast.specs.Words.{IsText}

-- no text stands twice
abbrev pub StandOnce : List (List ℕ) → Type 0
StandOnce texts = (i j : ℕ) (t : List ℕ) → slice_get texts i ≡ Some t → slice_get texts j ≡ Some t → i ≡ j

abbrev pub KeepsOnce : List (List ℕ) → List (List ℕ) → Type 0
KeepsOnce old new = StandOnce old → StandOnce new

-- each is a text
abbrev pub AllAreTexts : List (List ℕ) → Type 0
AllAreTexts texts = (k : ℕ) (t : List ℕ) → slice_get texts k ≡ Some t → IsText t
