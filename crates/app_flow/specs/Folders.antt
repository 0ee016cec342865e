-- What a folder tells of the files that it opens.
use Rattle.std.specs.Prelude.{◌≡◌, ℕ, List, ⊤, Option, Some, None, IsSomeAnd, Result, Ok, Err}
use Rattle.std.specs.declared.io.Error.{Error}
use Rattle.std.specs.declared.io.ErrorKind.{ErrorKind}
use Rattle.std.specs.declared.io.ErrorKind.TheVariants.{NotFound, NotADirectory, IsADirectory, OutOfMemory}
use Rattle.std.specs.IoError.{error_kind}
use Rattle.app_flow.specs.declared.outside.ShelfErr.{ShelfErr}
use Rattle.app_flow.specs.declared.outside.ShelfErr.TheVariants as shelf

-- failures that say that a name stands for no file
abbrev pub IsAbsence : ErrorKind → Type 0
IsAbsence NotFound = ⊤
IsAbsence NotADirectory = ⊤
IsAbsence IsADirectory = ⊤
IsAbsence _ = ⊥

-- what opening gives where a name stands for this file, or for none: a reader of the file's bytes, or a failure, of absence only where there is no file
abbrev pub IsOpened : {F : Type 0} → (F → Option (List ℕ)) → Option (List ℕ) → Result F Error → Type 0
IsOpened remaining file (Ok reader) = IsSomeAnd file (λ bytes. remaining reader ≡ Some bytes)
IsOpened remaining file (Err error) = IsAbsence (error_kind error) → file ≡ None

-- what any other failure of the system is to a fetch
abbrev pub fetch_error : ErrorKind → ShelfErr
fetch_error OutOfMemory = shelf.OutOfMemory
fetch_error _ = shelf.Failed
