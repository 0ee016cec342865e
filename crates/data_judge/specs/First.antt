-- The first that is given of parts in a row.
use Rattle.std.specs.Prelude.{List, [], ◌∷◌, ◌++◌, Option, None}
use Rattle.std.specs.Option.{option_or}

-- what the first part gives that gives something
abbrev pub first_given : {A B : Type 0} → (A → Option B) → List A → Option B
first_given f [] = None
first_given f (x ∷ xs) = option_or (f x) (first_given f xs)

-- the same, where a part is looked at behind what was seen of those before it
abbrev pub first_behind : {S A B : Type 0} → (S → A → Option B) → (S → A → S) → S → List A → Option B
first_behind f see seen [] = None
first_behind f see seen (x ∷ xs) = option_or (f seen x) (first_behind f see (see seen x) xs)

-- one more at the end
abbrev pub pushed : {A : Type 0} → List A → A → List A
pushed xs x = xs ++ x ∷ []
