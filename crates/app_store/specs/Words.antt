-- What the words of the command line ask of the store.
use Rattle.std.specs.Prelude.{ℕ, not, ◌&&◌, List, [], ◌∷◌, Option, Some, None, codes, if◌then◌else◌}
use Rattle.std.specs.Str.{bytes_eq}
use Rattle.app_files.specs.Words.{is_operand}

-- a command over the store, with the names of its files
pub data Command : Type 0 where
  Init : (spec : List ℕ) → (base : Option (List ℕ)) → Command
  Check : (script : List ℕ) → Command
  Apply : (script : List ℕ) → Command
  Show : Command

-- `show`
abbrev pub of_no_file : (word : List ℕ) → Option Command
of_no_file word = if bytes_eq word (codes "show") then Some Show else None

-- `init SPEC`, `check SCRIPT` and `apply SCRIPT`
abbrev pub of_one_file : (word name : List ℕ) → Option Command
of_one_file word name =
    if not (is_operand name) then None
    else if bytes_eq word (codes "init") then Some (Init name None)
    else if bytes_eq word (codes "check") then Some (Check name)
    else if bytes_eq word (codes "apply") then Some (Apply name)
    else None

-- `init SPEC DATA`
abbrev pub of_two_files : (word spec base : List ℕ) → Option Command
of_two_files word spec base = if bytes_eq word (codes "init") && is_operand spec && is_operand base then Some (Init spec (Some base)) else None

-- the command over the store that the words are, if they are one
abbrev pub command_of : List (List ℕ) → Option Command
command_of (word ∷ []) = of_no_file word
command_of (word ∷ name ∷ []) = of_one_file word name
command_of (word ∷ spec ∷ base ∷ []) = of_two_files word spec base
command_of _ = None
