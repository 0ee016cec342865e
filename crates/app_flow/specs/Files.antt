-- What a shelf tells of its files, and what a fetch finds among them.
use Rattle.std.specs.Prelude.{◌≡◌, ℕ, ◌<◌, ◌≤◌, List, length, ⊤, Option, None, Some, IsSomeAnd}
use Rattle.app_flow.specs.declared.outside.Found.{Found}
use Rattle.app_flow.specs.declared.outside.Found.TheVariants.{Bytes, Missing, TooLong}

-- a map from names to the bytes of the files, None at a name that no file has
abbrev pub Files : Type 0
Files = List ℕ → Option (List ℕ)

-- what a fetch with this limit finds where a name stands for this file, or for none
abbrev pub IsFound : Option (List ℕ) → ℕ → Found → Type 0
IsFound file limit (Bytes bytes) = file ≡ Some bytes.items
IsFound file limit Missing = file ≡ None
IsFound file limit TooLong = IsSomeAnd file (λ bytes. limit < length bytes)

-- no more than this many bytes were given
abbrev pub IsWithin : ℕ → Found → Type 0
IsWithin limit (Bytes bytes) = length bytes.items ≤ limit
IsWithin limit Missing = ⊤
IsWithin limit TooLong = ⊤
