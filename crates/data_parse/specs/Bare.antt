-- Literals without a backslash.
use Rattle.std.specs.Prelude.{◌≡◌, ℕ, ◌||◌, ◌==◌, Bool, true, not, List, [], ◌∷◌, ◌++◌}
use Rattle.std.specs.List.{list_all}

-- neither a quote nor a backslash
abbrev pub is_bare : ℕ → Bool
is_bare b = not (b == 34 || b == 92)

-- The literal has these bytes between its quotes, each bare.
abbrev pub IsBareLiteral : List ℕ → List ℕ → Type 0
IsBareLiteral bytes inside = (bytes ≡ 34 ∷ (inside ++ 34 ∷ [])) × (list_all is_bare inside ≡ true)
