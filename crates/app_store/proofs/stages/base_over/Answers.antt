use Rattle.std.proofs.Common.{[], ◌∷◌, refl, rules}
use Rattle.app_store.specs.Calls.{Fetch}
use Rattle.app_store.proofs.stages.base_over.Goals as goal

pub returns-in-Some-clause-asked : goal.returns-in-Some-clause-asked
returns-in-Some-clause-asked g c = rw c.in-Some.is (
  Fetch c.in-Some.name.now ∷ [],
  (refl, c.base_of_file.ensures.read),
  refl,
  c.base_of_file.ensures.shelf,
)

pub returns-in_ok-empty-in-None-clause-asked : goal.returns-in_ok-empty-in-None-clause-asked
returns-in_ok-empty-in-None-clause-asked g c = rw c.in-None.is (
  [],
  (refl, c.in_ok-empty-in-None.ensures.empty),
  refl,
  search rules,
)
