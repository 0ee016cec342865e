-- Where the uses of fields stand, and what they read.
use Rattle.std.specs.Prelude.{◌≡◌, ℕ, suc, ◌++◌, [], ◌∷◌, Bool, true, false}
use Rattle.type_schema.specs.Schema.{Schema}
use Rattle.type_schema.specs.Trees.{Expr, SetExpr}
use Rattle.type_schema.specs.Views.{expr_of, set_of}
use Rattle.form_formula.specs.Trees.{Term, Formula, yes, no}
use Rattle.form_formula.specs.Trees as formula
use Rattle.duty_meaning.specs.Structures.{sort_of}
use Rattle.duty_meaning.specs.Cases.{Cases, at_term, at_ends, at_terms, condition_of}
use Rattle.duty_meaning.specs.Formulas.{record_at, Scene, Written, cases_of, is_in, next_variable}
use Rattle.duty_meaning.specs.Reach.{end_is_none, end_is_some, reach, set_reach}
use Rattle.duty_builder.specs.declared.values.Use.{Use}
use Rattle.duty_builder.specs.declared.values.Use.TheVariants.{InExpr, InSet}
use Rattle.duty_builder.specs.declared.places.Place.{Place}
use Rattle.duty_builder.specs.declared.places.Place.TheVariants.{Nowhere, Filter, Access, Within, Where, Taken, Each}
use Rattle.duty_builder.specs.declared.places.Sought.{Sought}
use Rattle.duty_builder.specs.declared.places.Sought.TheVariants.{Found, Left}

module _ (s : Schema) (written : Written) (y : Term) where
  -- that a use reads its field of the record
  abbrev pub use_data : Scene → Use → ℕ → Formula
  use_data env (InExpr e number) above = reach s written y env (expr_of e.now) number above
  use_data env (InSet set number) above = set_reach s written y env (set_of set.now) number above

  -- that the option at an end has no value, or has one, and the use does where it is so
  abbrev pub taken_data : Scene → Bool → Use → ℕ → Cases → Formula
  taken_data env false used above v = end_is_none s (use_data env used above) v
  taken_data env true used above v = end_is_some s (λ x. use_data (env ++ x ∷ []) used above) v

  -- that at some record of the set it does
  abbrev pub each_formula : Scene → SetExpr → ℕ → Use → ℕ → Formula
  each_formula env set n used above =
      formula.exists (sort_of s n)
      (formula.both (is_in s written env set (record_at n (next_variable s written n above)) true (suc above))
      (use_data (env ++ at_term (next_variable s written n above) ∷ []) used (suc above)))

  -- that a use at this place does
  abbrev pub place_data : Scene → Place → ℕ → Formula
  place_data env Nowhere above = no
  place_data env Filter above = yes
  place_data env (Access e) above = at_terms s above (λ t. formula.equal y t) (cases_of s written env (expr_of e.now))
  place_data env (Within used) above = use_data env used above
  place_data env (Where e sign used) above =
      formula.both (condition_of s (cases_of s written env (expr_of e.now)) sign above) (use_data env used above)
  place_data env (Taken e sign used) above = at_ends above (taken_data env sign used above) (cases_of s written env (expr_of e.now))
  place_data env (Each set n used) above = each_formula env (set_of set.now) n used above

  -- and a use that was found, or else is the one of this number in what follows
  abbrev pub sought_data : Scene → Sought → (ℕ → Formula) → ℕ → Formula
  sought_data env (Found place) more above = place_data env place above
  sought_data env (Left number) more above = more number

-- the place of a use of this number in an expression, and in a set
abbrev pub IsIn : Place → Expr → ℕ → Type 0
IsIn place x number =
    (s : Schema) (written : Written) (y : Term) (env : Scene) (above : ℕ) → place_data s written y env place above ≡ reach s written y env x number above

abbrev pub IsInSet : Place → SetExpr → ℕ → Type 0
IsInSet place x number =
    (s : Schema) (written : Written) (y : Term) (env : Scene) (above : ℕ) → place_data s written y env place above ≡ set_reach s written y env x number above

abbrev pub IsPlace : Place → Use → Type 0
IsPlace place used =
    (s : Schema) (written : Written) (y : Term) (env : Scene) (above : ℕ) → place_data s written y env place above ≡ use_data s written y env used above
