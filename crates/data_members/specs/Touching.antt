-- The order of cells, and lists that are sets.
use Rattle.std.specs.Prelude.{List, Contains}
use Rattle.std.specs.declared.cmp.Ordering.{Ordering}
use Rattle.std.specs.Ordering.{nat_cmp, ordering_then}
use Rattle.std.specs.List.Sorted.{IsStrictlySortedBy}
use Rattle.data_meaning.specs.declared.cells.Cell.{Cell}

-- by model, id and field
abbrev pub cell_cmp : Cell → Cell → Ordering
cell_cmp x y = ordering_then (ordering_then (nat_cmp x.model y.model) (nat_cmp x.id y.id)) (nat_cmp x.field y.field)

-- The list rises, so that nothing stands in it twice, and holds just what the other list holds.
pub record IsSetOf {A : Type 0} (compare : A → A → Ordering) (set all : List A) : Type 0 where
  pub rising : IsStrictlySortedBy compare set
  pub holds : (x : A) → Contains all x → Contains set x
  pub no_more : (x : A) → Contains set x → Contains all x
