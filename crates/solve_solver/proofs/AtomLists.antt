-- Atoms stay as they are where literals are put behind those that there are.
use Rattle.std.proofs.Common.{◌≡◌, ℕ, zero, suc, ◌<◌, All, List, [], ◌∷◌, ◌++◌, Option, Some, None, length, map, refl, ap, ◌∙◌, arith}
use Rattle.std.specs.List.{slice_get}
use Rattle.std.proofs.lemmas.List.{map_push}
use Rattle.std.proofs.lemmas.List.Elements.{All-head, All-tail}
use Rattle.solve_solver.specs.Atoms.{atom_at, IsPlaceIn}

slice_get-front : {X : Type 0} (xs ys : List X) (k : ℕ) → k < length xs → slice_get (xs ++ ys) k ≡ slice_get xs k
slice_get-front [] ys k h = absurd (omega arith)
slice_get-front (x ∷ xs) ys zero h = refl
slice_get-front (x ∷ xs) ys (suc k) h = slice_get-front xs ys k (omega arith)

slice_get-behind : {X : Type 0} (xs : List X) (y : X) → slice_get (xs ++ y ∷ []) (length xs) ≡ Some y
slice_get-behind [] y = refl
slice_get-behind (x ∷ xs) y = slice_get-behind xs y

atom_kept : {L : Type 0} (literals : List (L × L)) (pair : L × L) (place : Option ℕ) → IsPlaceIn (length literals) place → atom_at (literals ++ pair ∷ []) place ≡ atom_at literals place
atom_kept literals pair None h = refl
atom_kept literals pair (Some k) h = slice_get-front literals (pair ∷ []) k h

pub atoms_kept : {L : Type 0} (literals : List (L × L)) (pair : L × L) (places : List (Option ℕ)) → All (IsPlaceIn (length literals)) places
    → map (atom_at (literals ++ pair ∷ [])) places ≡ map (atom_at literals) places
atoms_kept literals pair [] h = refl
atoms_kept literals pair (place ∷ places) h =
    let here = atom_kept literals pair place (All-head (IsPlaceIn (length literals)) place places h) in
    let rest = atoms_kept literals pair places (All-tail (IsPlaceIn (length literals)) place places h) in
    cc

-- one more, whose literals are behind the others
pub atoms_pushed : {L : Type 0} (literals : List (L × L)) (pair : L × L) (places : List (Option ℕ)) → All (IsPlaceIn (length literals)) places
    → map (atom_at (literals ++ pair ∷ [])) (places ++ Some (length literals) ∷ []) ≡ map (atom_at literals) places ++ Some pair ∷ []
atoms_pushed literals pair places h =
    map_push (atom_at (literals ++ pair ∷ [])) places (Some (length literals))
    ∙ ap (λ atoms. atoms ++ atom_at (literals ++ pair ∷ []) (Some (length literals)) ∷ []) (atoms_kept literals pair places h)
    ∙ ap (λ atom. map (atom_at literals) places ++ atom ∷ []) (slice_get-behind literals pair)
