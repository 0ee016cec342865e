-- What the outside tells, and what calls did to a store.
use Rattle.std.specs.Prelude.{◌≡◌, ◌≤◌, ℕ, List, [], Option, Some}
use Rattle.app_flow.specs.Faults.{Rose}
use Rattle.app_flow.specs.Files.{Files}
use Rattle.app_flow.specs.Told.{Appends}
use Rattle.store_keeper.specs.declared.keeper.KeepCall.{KeepCall}
use Rattle.store_keeper.specs.Content.{Content}
use Rattle.store_keeper.specs.Stored.{Stored}

-- the files of the shelf, and what the store holds, where they tell it
pub record Told : Type 0 where
  pub files : Option Files
  pub content : Content

-- what files and a store tell that tell everything
abbrev pub told_all : Files → Option Stored → Told
told_all files held = record { files = Some files; content = Some held }

-- Just these calls were made of a store, in their order, and it is as it was where there are none. A call failed only where a fault was
-- counted, and the count did not fall.
pub record IsKept {K : Type 0} (calls : K → Option (List KeepCall)) (faults : K → ℕ) (old new : K) (made : List KeepCall) (failed : Type 0) : Type 0 where
  pub called : Appends (calls old) (calls new) made
  pub silent : made ≡ [] → new ≡ old
  pub counted : failed → Rose (faults old) (faults new)
  pub never_falls : faults old ≤ faults new
