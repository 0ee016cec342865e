-- What the words of the command line ask of declared weakenings.
use Rattle.std.specs.Prelude.{ℕ, ◌&&◌, List, [], ◌∷◌, Option, Some, None, codes, if◌then◌else◌}
use Rattle.std.specs.Str.{bytes_eq}
use Rattle.app_files.specs.Words.{Names, is_operand, names_of}

-- `impact SPEC SCRIPT`
abbrev pub impact_of : List (List ℕ) → Option Names
impact_of (word ∷ spec ∷ script ∷ []) =
    if bytes_eq word (codes "impact") && is_operand spec && is_operand script then Some (names_of spec script) else None
impact_of _ = None
