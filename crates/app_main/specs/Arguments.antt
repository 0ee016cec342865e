-- Which words the program's arguments are.
use Rattle.std.specs.Prelude.{◌≡◌, ◌⊎◌, ℕ, List, [], ◌∷◌, All, Any}
use Rattle.text_ast.specs.Words.{IsText}

-- Each argument is a word, where all of them are texts; there is one empty word where one of them is no text.
abbrev pub AreWordsOf : List (List ℕ) → List (List ℕ) → Type 0
AreWordsOf arguments words =
    (All IsText arguments × (words ≡ arguments))
    ⊎ (Any (λ argument. ¬ (IsText argument)) arguments × (words ≡ [] ∷ []))
