-- Items of a list that is gone through from its end.
use Rattle.std.specs.Prelude.{◌≡◌, ◌==◌, ℕ, ◌<◌, false, List, [], ◌∷◌, length, reverse, slice_index_or}
use Rattle.std.specs.List.{list_any}
use Rattle.form_terms.specs.Listing.{unique}
use Rattle.ground_terms.specs.declared.unique.Keeper.{Keeper}

-- all items that were gone through are marked, and each is kept where it stands last, the last one first
pub record IsKeeper (items : List ℕ) (keeper : Keeper) : Type 0 where
  pub seen : (x : ℕ) → x < length keeper.seen.items → slice_index_or keeper.seen.items x false ≡ list_any (λ y. x == y) items
  pub kept : keeper.kept.items ≡ reverse (unique (λ x y. x == y) items)

-- each is below a number
abbrev pub AreBelow : ℕ → List ℕ → Type 0
AreBelow bound [] = Unit {0}
AreBelow bound (x ∷ xs) = (x < bound) × AreBelow bound xs
