-- Terms in classes.
use Rattle.std.specs.Prelude.{◌≡◌, ℕ, ◌<◌, ◌==◌, Bool, List, Option, Some, None, length, map, slice_index, slice_index_or, slice_set, if◌then◌else◌}
use Rattle.std.specs.Option.{option_or}
use Rattle.std.specs.List.{list_any, range_with_len}
use Rattle.solve_equality.specs.declared.visits.Visit.{Visit}
use Rattle.solve_equality.specs.Visits.{has_visited}

-- the class number of each term, and the fixed term of each class that has one
pub record Parts : Type 0 where
  pub classes : List ℕ
  pub anchors : List (Option ℕ)

abbrev pub class_at : Parts → ℕ → ℕ
class_at parts t = slice_index parts.classes t

abbrev pub anchor_at : Parts → ℕ → Option ℕ
anchor_at parts c = slice_index_or parts.anchors c None

-- whether the term is one of the fixed ones
abbrev pub is_fixed : List ℕ → ℕ → Bool
is_fixed fixed t = list_any (λ f. f == t) fixed

-- each fixed term is the anchor of its own class
abbrev pub first_anchors : ℕ → List ℕ → List (Option ℕ)
first_anchors terms fixed = map (λ t. if is_fixed fixed t then Some t else None) (range_with_len 0 terms)

-- each term in a class of its own, numbered by itself
abbrev pub start : ℕ → List ℕ → Parts
start terms fixed = record { classes = range_with_len 0 terms; anchors = first_anchors terms fixed }

-- the class number once `from` is put into `into`
abbrev pub relabel : ℕ → ℕ → ℕ → ℕ
relabel from into c = if c == from then into else c

-- the classes once `from` is put into `into`
abbrev pub joined : Parts → ℕ → ℕ → Parts
joined parts from into = record {
  classes = map (relabel from into) parts.classes;
  anchors = slice_set parts.anchors into (option_or (anchor_at parts into) (anchor_at parts from));
}

-- the visited terms are those of the class
abbrev pub AreMembers : List ℕ → List Visit → ℕ → Type 0
AreMembers classes visits c = (t : ℕ) → t < length classes → has_visited visits t ≡ (slice_index classes t == c)

-- the visited terms have this class number, the others the one that they had
pub record IsRelabelled (old : List ℕ) (visits : List Visit) (c : ℕ) (new : List ℕ) : Type 0 where
  pub terms : length new ≡ length old
  pub at_term : (t : ℕ) → t < length old → slice_index new t ≡ (if has_visited visits t then c else slice_index old t)
