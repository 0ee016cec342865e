-- The atoms of variables, as they are kept.
use Rattle.std.specs.Prelude.{ℕ, ◌<◌, List, Option, Some, None, IfSome}
use Rattle.std.specs.List.{slice_get}
use Rattle.std.specs.Coded.{Coded, coded×, coded_list, coded_option}

-- the literals at a place, if there is one
abbrev pub atom_at : {L : Type 0} → List (L × L) → Option ℕ → Option (L × L)
atom_at literals None = None
atom_at literals (Some place) = slice_get literals place

-- the place is below a number, if there is one
abbrev pub IsPlaceIn : ℕ → Option ℕ → Type 0
IsPlaceIn count place = IfSome place (λ k. k < count)

-- a list of atoms is stored as one of options of pairs
abbrev pub atoms_code : {L : Type 0} → Coded L → Coded (List (Option (L × L)))
atoms_code code = coded_list (coded_option (coded× code code))
