-- What contracts see of the shelves in memory.
use Rattle.std.specs.Prelude.{ℕ, List, Option, Result, Ok, Err, find}
use Rattle.std.specs.Option.{option_map}
use Rattle.std.specs.Str.{bytes_eq}
use Rattle.app_flow.specs.Faults.{next_count}
use Rattle.app_flow.specs.Files.{Files}
use Rattle.app_flow.specs.declared.outside.Found.{Found}
use Rattle.app_flow.specs.declared.outside.ShelfErr.{ShelfErr}
use Rattle.app_flow.specs.declared.outside.ShelfErr.TheVariants.{Failed, OutOfMemory}

-- a file in memory
pub record MemFileState : Type 0 where
  pub name : List ℕ
  pub bytes : List ℕ

-- the map that a list of files makes: a name stands for the first file that has it
abbrev pub files_of : List MemFileState → Files
files_of files name = option_map (λ file. file.bytes) (find (λ file. bytes_eq file.name name) files)

-- a shelf that fails on purpose: its files, which calls fail, the names that were fetched, as long as they are told, and how many calls and
-- faults there were
pub record MemShelfState : Type 0 where
  pub files : List MemFileState
  pub failing : List ℕ
  pub calls : Option (List (List ℕ))
  pub fetches : ℕ
  pub faults : ℕ

-- the count of faults after a fetch
abbrev pub faults_after : Result Found ShelfErr → ℕ → ℕ
faults_after (Ok found) faults = faults
faults_after (Err Failed) faults = next_count faults
faults_after (Err OutOfMemory) faults = faults

-- a shelf that never fails: its files, and the names that were fetched, as long as they are told
pub record SureShelfState : Type 0 where
  pub files : List MemFileState
  pub calls : Option (List (List ℕ))
