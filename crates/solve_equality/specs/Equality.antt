-- What `Equality` is about: columns of class numbers, and when one meets a literal.
use Rattle.std.specs.Prelude.{ℕ, ◌==◌, Bool, ◌&&◌, ◌||◌, not, List, length, nat_lt, slice_index}
use Rattle.std.specs.List.{list_all}
use Rattle.solve_equality.specs.declared.literal.EqualityLit.{EqualityLit}
use Rattle.solve_equality.specs.declared.literal.EqualityLit.TheVariants.{Same, Differ}

-- the literals asserted so far, how many there can be, how many terms there are, and which of them are pairwise different
pub record Equalities : Type 0 where
  pub literals : List EqualityLit
  pub capacity : ℕ
  pub terms : ℕ
  pub fixed : List ℕ

-- whether the literal speaks of terms that there are
abbrev pub takes_literal : ℕ → EqualityLit → Bool
takes_literal terms (Same a b) = nat_lt a terms && nat_lt b terms
takes_literal terms (Differ a b) = nat_lt a terms && nat_lt b terms

-- whether the column has both terms, with one class number
abbrev pub are_together : List ℕ → ℕ → ℕ → Bool
are_together classes a b = nat_lt a (length classes) && nat_lt b (length classes) && (slice_index classes a == slice_index classes b)

-- whether the column makes the literal true
abbrev pub meets_literal : List ℕ → EqualityLit → Bool
meets_literal classes (Same a b) = are_together classes a b
meets_literal classes (Differ a b) = not (are_together classes a b)

-- whether no two of the fixed terms are together
abbrev pub keeps_apart : List ℕ → List ℕ → Bool
keeps_apart fixed classes = list_all (λ a. list_all (λ b. (a == b) || not (are_together classes a b)) fixed) fixed

-- whether the column has one number for each term, and different ones for the fixed terms
abbrev pub is_classes : ℕ → List ℕ → List ℕ → Bool
is_classes terms fixed classes = (length classes == terms) && keeps_apart fixed classes
