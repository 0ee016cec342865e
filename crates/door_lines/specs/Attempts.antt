-- What one read of a reader is to a call.
use Rattle.std.specs.Prelude.{◌≡◌, ℕ, ◌<◌, ◌≤◌, List, length, take, Option, Result, Ok, Err}
use Rattle.std.specs.declared.io.Error.{Error}
use Rattle.std.specs.declared.io.ErrorKind.{ErrorKind}
use Rattle.std.specs.declared.io.ErrorKind.TheVariants as kind
use Rattle.std.specs.Io.KnownBytes.{Consumes, IsAtEnd, Keeps}
use Rattle.std.specs.IoError.{error_kind}
use Rattle.app_flow.specs.Faults.{next_count}
use Rattle.door_lines.specs.declared.system.Attempt.{Attempt}
use Rattle.door_lines.specs.declared.system.Attempt.TheVariants.{Came, Interrupted, Failed}

-- a call goes on where a signal came in between, and nowhere else
abbrev pub failure_of : ErrorKind → Attempt
failure_of kind.Interrupted = Interrupted
failure_of _ = Failed

abbrev pub attempt_of : Result ℕ Error → Attempt
attempt_of (Ok n) = Came n
attempt_of (Err error) = failure_of (error_kind error)

-- the count of faults after a read
abbrev pub faults_behind : Attempt → ℕ → ℕ
faults_behind (Came n) faults = faults
faults_behind Interrupted faults = faults
faults_behind Failed faults = next_count faults

-- the bytes that came were taken, none only at the end; or the reader has what it had
abbrev pub AttemptReads : Option (List ℕ) → Option (List ℕ) → Attempt → List ℕ → Type 0
AttemptReads old new (Came n) buf =
    (n ≤ length buf) × Consumes old new (take n buf) × (n ≡ 0 → 0 < length buf → IsAtEnd new)
AttemptReads old new Interrupted buf = Keeps old new
AttemptReads old new Failed buf = Keeps old new
