-- The words of `serve`.
use Rattle.std.specs.Prelude.{ℕ, Bool, false, List, [], ◌∷◌, codes}
use Rattle.std.specs.Str.{bytes_eq}

-- `serve`
abbrev pub is_serve : List (List ℕ) → Bool
is_serve (word ∷ []) = bytes_eq word (codes "serve")
is_serve _ = false
