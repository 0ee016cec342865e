-- Sizes that are counted in turn.
use Rattle.std.specs.Prelude.{ℕ, List, [], ◌∷◌, Ok}
use Rattle.type_typing.specs.Outcome.{Checked, ◌>>=◌}
use Rattle.type_specs.specs.Sizes.{is_small}

-- Each of these sizes takes the next place, as long as there is one: the places that are left, or the first fault.
unfoldable pub counted_at : (sizes places : List ℕ) → Checked (List ℕ)
counted_at [] places = Ok places
counted_at (size ∷ sizes) [] = Ok []
counted_at (size ∷ sizes) (at ∷ places) = is_small size at >>= (λ _. counted_at sizes places)
