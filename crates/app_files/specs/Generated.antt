-- The files that `gen N` makes in memory and checks.
use Rattle.std.specs.Prelude.{ℕ, List, [], ◌∷◌, codes}
use Rattle.app_flow.specs.Files.{Files}
use Rattle.app_flow.specs.Shelves.{MemFileState, files_of}
use Rattle.app_gen.specs.Generated.{spec_text, script_text, loosened_text}
use Rattle.app_files.specs.Words.{Names}

abbrev pub file : List ℕ → List ℕ → MemFileState
file name text = record { name = name; bytes = text }

abbrev pub spec_name : List ℕ
spec_name = codes "gen.spec"

abbrev pub tightened_name : List ℕ
tightened_name = codes "tightened.scm"

abbrev pub loosened_name : List ℕ
loosened_name = codes "loosened.scm"

-- a specification of so many fields, and two scripts that change the policies of each
abbrev pub generated_files : ℕ → List MemFileState
generated_files n =
    file spec_name (spec_text n) ∷ file tightened_name (script_text n) ∷ file loosened_name (loosened_text n) ∷ []

abbrev pub generated : ℕ → Files
generated n = files_of (generated_files n)

abbrev pub tightened_names : Names
tightened_names = record { spec = spec_name; script = tightened_name }

abbrev pub loosened_names : Names
loosened_names = record { spec = spec_name; script = loosened_name }
