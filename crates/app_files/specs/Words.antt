-- What the words of the command line ask for.
use Rattle.std.specs.Prelude.{◌≡◌, ℕ, ◌+◌, ◌-◌, ◌*◌, leb, Bool, false, not, ◌&&◌, ◌==◌, List, [], ◌∷◌, Option, Some, None, codes, if◌then◌else◌}
use Rattle.std.specs.Str.{bytes_eq}
use Rattle.std.specs.Int.{is_in_range}
use Rattle.app_files.specs.declared.limits.TheConstants.{MOST_GENERATED}

-- a word that names a file: it is not empty and does not begin with `-`
abbrev pub is_operand : List ℕ → Bool
is_operand [] = false
is_operand (b ∷ bytes) = not (b == 45)

-- the names of a specification and a script
pub record Names : Type 0 where
  pub spec : List ℕ
  pub script : List ℕ

abbrev pub names_of : List ℕ → List ℕ → Names
names_of spec script = record { spec = spec; script = script }

-- `check SPEC SCRIPT`
abbrev pub check_of : List (List ℕ) → Option Names
check_of (word ∷ spec ∷ script ∷ []) =
    if bytes_eq word (codes "check") && is_operand spec && is_operand script then Some (record { spec = spec; script = script }) else None
check_of _ = None

-- the number that two digits write
abbrev pub of_digits : ℕ → ℕ → ℕ
of_digits tens ones = 10 * (tens - 48) + (ones - 48)

-- a number from 1 to the most commands of a generated script, in digits without a leading zero
abbrev pub count_of : List ℕ → Option ℕ
count_of (d ∷ []) = if is_in_range 49 57 d then Some (d - 48) else None
count_of (d ∷ e ∷ []) = if is_in_range 49 57 d && is_in_range 48 57 e && leb (of_digits d e) MOST_GENERATED then Some (of_digits d e) else None
count_of _ = None

-- `gen N`
abbrev pub gen_of : List (List ℕ) → Option ℕ
gen_of (word ∷ count ∷ []) = if bytes_eq word (codes "gen") then count_of count else None
gen_of _ = None

-- The words are no command.
abbrev pub IsNoCommand : List (List ℕ) → Type 0
IsNoCommand words = (check_of words ≡ None) × (gen_of words ≡ None)
