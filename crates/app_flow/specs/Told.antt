-- What an object tells of what came to it, as a sink of the bytes that were put into it, and a shelf of the names that were fetched: all of
-- it in order, or nothing, as when it has no room to keep it.
use Rattle.std.specs.Prelude.{◌≡◌, ℕ, List, ◌++◌, take, ⊤, Option, None, Some}

-- what is told afterwards is what was told before and then these
abbrev pub Appends : {A : Type 0} → Option (List A) → Option (List A) → List A → Type 0
Appends old None more = ⊤
Appends None (Some after) more = ⊥
Appends (Some before) (Some after) more = after ≡ before ++ more

-- what is told afterwards is what was told before and then a front of these
abbrev pub AppendsFront : {A : Type 0} → Option (List A) → Option (List A) → List A → Type 0
AppendsFront old new more = (n : ℕ) × Appends old new (take n more)
