-- Where keys first stand in a list.
use Rattle.std.specs.Prelude.{◌≡◌, ℕ, Bool, List}
use Rattle.std.specs.List.{position_from}
use Rattle.indexmap.specs.IndexMap.{IndexMap, get}

-- for each key the first place of a key equal to it
abbrev pub AreFirsts : {K S : Type 0} → (K → K → Bool) → List K → IndexMap K ℕ S → Type 0
AreFirsts eq keys firsts = (k : _) → get eq firsts k ≡ position_from (λ x. eq x k) 0 keys
