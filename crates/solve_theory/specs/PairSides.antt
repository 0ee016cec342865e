-- How a `Pair` keeps to which of two theories each literal went.
use Rattle.std.specs.Prelude.{◌≡◌, ℕ, suc, ◌<◌, ◌≤◌, ◌-◌, ◌^◌, Bool, List, [], ◌∷◌, length, map, take, slice_index_or}
use Rattle.solve_theory.specs.declared.pair.Side.{Side}
use Rattle.solve_theory.specs.declared.pair.Side.TheVariants.{Left, Right}
use Rattle.solve_theory.specs.Models.{HasModel}

-- there are as many lefts as left literals, and as many rights as right ones
abbrev pub Fit : {L R : Type 0} → List Side → List L → List R → Type 0
Fit [] [] [] = Unit {0}
Fit [] [] (r ∷ rs) = ⊥
Fit [] (l ∷ ls) rs = ⊥
Fit (Left ∷ ss) [] rs = ⊥
Fit (Left ∷ ss) (l ∷ ls) rs = Fit ss ls rs
Fit (Right ∷ ss) ls [] = ⊥
Fit (Right ∷ ss) ls (r ∷ rs) = Fit ss ls rs

-- the positions of the lefts, and of the rights
abbrev pub lefts : List Side → List ℕ
lefts [] = []
lefts (Left ∷ ss) = 0 ∷ map suc (lefts ss)
lefts (Right ∷ ss) = map suc (lefts ss)

abbrev pub rights : List Side → List ℕ
rights [] = []
rights (Left ∷ ss) = map suc (rights ss)
rights (Right ∷ ss) = 0 ∷ map suc (rights ss)

-- without the last literal, which went to one of them, neither theory lacks a model
abbrev pub HadModels : {M L N R : Type 0} → (M → Bool) → (M → L → Bool) → List L → (N → Bool) → (N → R → Bool) → List R → Type 0
HadModels f p ls g q rs = ¬ ¬ HasModel f p (take (length ls - 1) ls) × ¬ ¬ HasModel g q rs

-- what is kept beside the two theories is what their literals make of it
pub record IsSoundPair {M L N R : Type 0} (f : M → Bool) (p : M → L → Bool) (ls : List L) (left_capacity : ℕ) (g : N → Bool) (q : N → R → Bool) (rs : List R) (right_capacity : ℕ)
    (sides : List Side) (left_places right_places : List ℕ) (limit room left_room right_room core_room : ℕ) : Type 0 where
  pub small : limit < 2 ^ 32
  pub fits : length sides ≤ limit
  pub sides_room : limit ≤ room
  pub lefts_room : limit ≤ left_room
  pub rights_room : limit ≤ right_room
  pub core_fits : core_room ≡ limit
  pub left_limit : left_capacity ≡ limit
  pub right_limit : right_capacity ≡ limit
  pub fit : Fit sides ls rs
  pub lefts_are : left_places ≡ lefts sides
  pub rights_are : right_places ≡ rights sides
  pub left_last : 0 < length sides → slice_index_or sides (length sides - 1) Right ≡ Left → HadModels f p ls g q rs
  pub right_last : 0 < length sides → slice_index_or sides (length sides - 1) Left ≡ Right → HadModels g q rs f p ls
