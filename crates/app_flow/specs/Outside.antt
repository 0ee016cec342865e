-- What a call did to an outside object.
use Rattle.std.specs.Prelude.{◌≡◌, ◌≤◌, ℕ, List, [], Option}
use Rattle.app_flow.specs.Faults.{Rose}
use Rattle.app_flow.specs.Files.{Files}
use Rattle.app_flow.specs.Told.{Appends}

-- A shelf was read: just these names were fetched, in their order, and it is as it was where there are none. It holds what it held, a call
-- failed only where a fault was counted, and the count did not fall.
pub record IsRead {O : Type 0} (told : O → Option Files) (calls : O → Option (List (List ℕ))) (faults : O → ℕ) (old new : O) (names : List (List ℕ)) (failed : Type 0) : Type 0 where
  pub called : Appends (calls old) (calls new) names
  pub silent : names ≡ [] → new ≡ old
  pub kept : told new ≡ told old
  pub counted : failed → Rose (faults old) (faults new)
  pub never_falls : faults old ≤ faults new

-- A sink was written to: it is as it was where nothing was due, a call failed only where a fault was counted, and the
-- count did not fall.
pub record IsWritten {O : Type 0} (faults : O → ℕ) (old new : O) (silent failed : Type 0) : Type 0 where
  pub kept : silent → new ≡ old
  pub counted : failed → Rose (faults old) (faults new)
  pub never_falls : faults old ≤ faults new
