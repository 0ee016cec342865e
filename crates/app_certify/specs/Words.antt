-- What the words of the command line ask for certificates.
use Rattle.std.specs.Prelude.{ℕ, ◌&&◌, List, [], ◌∷◌, Option, Some, None, codes, if◌then◌else◌}
use Rattle.std.specs.Str.{bytes_eq}
use Rattle.app_files.specs.Words.{Names, is_operand, names_of}

-- a command on certificates, with the names of its files
pub data Command : Type 0 where
  Prove : (names : Names) → Command
  Recheck : (names : Names) → (cert : List ℕ) → Command

-- `prove SPEC SCRIPT`
abbrev pub of_two_files : (word spec script : List ℕ) → Option Command
of_two_files word spec script =
    if bytes_eq word (codes "prove") && is_operand spec && is_operand script then Some (Prove (names_of spec script)) else None

-- `recheck SPEC SCRIPT CERT`
abbrev pub of_three_files : (word spec script cert : List ℕ) → Option Command
of_three_files word spec script cert =
    if bytes_eq word (codes "recheck") && (is_operand spec && is_operand script && is_operand cert) then Some (Recheck (names_of spec script) cert) else None

-- the command on certificates that the words are, if they are one
abbrev pub command_of : List (List ℕ) → Option Command
command_of (word ∷ spec ∷ script ∷ []) = of_two_files word spec script
command_of (word ∷ spec ∷ script ∷ cert ∷ []) = of_three_files word spec script cert
command_of _ = None
