use Rattle.std.proofs.Common.{◌≡◌, ℕ, map, drop}
use Rattle.type_schema.specs.Schema.{Schema}
use Rattle.type_schema.specs.Views.{filter_of, filters_of}
use Rattle.form_formula.specs.Trees.{Term}
use Rattle.duty_meaning.specs.Formulas.{Scene, Written}
use Rattle.duty_meaning.specs.Reach.{filters_reach}
use Rattle.duty_builder.proofs.places.filters_place.Given as goal

-- the use is the one of what is left that has the number that is left
abbrev pub invariant-loop-filter : goal.invariant-loop-filter
invariant-loop-filter l =
    (s : Schema) (written : Written) (y : Term) (env : Scene) (above m : ℕ)
    → filters_reach s written y env m (filters_of (map filter_of (drop l.filter-index l.filters))) l.left above
    ≡ filters_reach s written y env m (filters_of (map filter_of l.filters)) l.number above
