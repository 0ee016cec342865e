-- What one write of a writer is to a put.
use Rattle.std.specs.Prelude.{ℕ, zero, suc, ◌<◌, ◌≤◌, List, length, take, Option, Result, Ok, Err}
use Rattle.std.specs.declared.io.Error.{Error}
use Rattle.std.specs.declared.io.ErrorKind.{ErrorKind}
use Rattle.std.specs.declared.io.ErrorKind.TheVariants as kind
use Rattle.std.specs.Io.KnownBytes.{Appends, Keeps}
use Rattle.std.specs.IoError.{error_kind}
use Rattle.app_flow.specs.Faults.{next_count}
use Rattle.app_flow.specs.declared.system.Attempt.{Attempt}
use Rattle.app_flow.specs.declared.system.Attempt.TheVariants.{Taken, Interrupted, Failed}

-- a put goes on where a signal came in between, and nowhere else
abbrev pub failure_of : ErrorKind → Attempt
failure_of kind.Interrupted = Interrupted
failure_of _ = Failed

-- a writer that takes nothing fails
abbrev pub attempt_of : Result ℕ Error → Attempt
attempt_of (Ok zero) = Failed
attempt_of (Ok (suc n)) = Taken (suc n)
attempt_of (Err error) = failure_of (error_kind error)

-- the count of faults after a write
abbrev pub faults_behind : Attempt → ℕ → ℕ
faults_behind (Taken n) faults = faults
faults_behind Interrupted faults = faults
faults_behind Failed faults = next_count faults

-- at least one byte was taken and the writer holds the bytes that it took; or it holds what it held
abbrev pub AttemptAppends : Option (List ℕ) → Option (List ℕ) → Attempt → List ℕ → Type 0
AttemptAppends old new (Taken n) piece = (0 < n) × (n ≤ length piece) × Appends old new (take n piece)
AttemptAppends old new Interrupted piece = Keeps old new
AttemptAppends old new Failed piece = Keeps old new
