use Rattle.std.proofs.Common.{◌≡◌, ℕ, map, drop}
use Rattle.type_schema.specs.Schema.{Schema}
use Rattle.type_schema.specs.Views.{item_of, items_of}
use Rattle.form_formula.specs.Trees.{Term}
use Rattle.duty_meaning.specs.Formulas.{Scene, Written}
use Rattle.duty_meaning.specs.Reach.{items_reach}
use Rattle.duty_builder.proofs.places.items_place.Given as goal

-- the use is the one of what is left that has the number that is left
abbrev pub invariant-loop-item : goal.invariant-loop-item
invariant-loop-item l =
    (s : Schema) (written : Written) (y : Term) (env : Scene) (above : ℕ)
    → items_reach s written y env (items_of (map item_of (drop l.item-index l.items))) l.left above
    ≡ items_reach s written y env (items_of (map item_of l.items)) l.number above
