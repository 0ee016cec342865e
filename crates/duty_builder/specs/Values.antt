-- What the values of the code stand for, and what is asked of them.
use Rattle.std.specs.Prelude.{◌≡◌, ℕ, suc, ◌+◌, Bool, true, not, List, [], ◌∷◌, ◌++◌, map, take, Option, None, Some, if◌then◌else◌}
use Rattle.type_schema.specs.Schema.{Schema}
use Rattle.type_schema.specs.SchemaViews.{added_of, schema_of}
use Rattle.type_schema.specs.Views.{expr_of, set_of}
use Rattle.form_formula.specs.Trees as tree
use Rattle.type_schema.specs.Trees.{Expr, SetExpr}
use Rattle.duty_meaning.specs.Structures.{sort_of, function_of}
use Rattle.duty_meaning.specs.Sizes.{size, row}
use Rattle.duty_meaning.specs.Cases.{Condition, Cases, at_term, held, truth, among, none, some, choice, continued, at_ends, of_term, at_terms, of_option, chosen, atom, constant, and_if, exists_if, condition_of, has_term, end_holds, end_has, is_truth}
use Rattle.duty_meaning.specs.Formulas as asked
use Rattle.duty_meaning.specs.Formulas.{Written, written_out, field_cases, cases_of, is_in, of_model, next_variable}
use Rattle.duty_writer.specs.Terms.{term_data}
use Rattle.duty_builder.specs.Places.{use_data, taken_data}
use Rattle.duty_builder.specs.declared.values.Who.TheVariants as who
use Rattle.duty_builder.specs.declared.values.Who.{Who}
use Rattle.duty_builder.specs.declared.values.End.{End, Truth', Among', Some'}
use Rattle.duty_builder.specs.declared.values.End.{Term as end_term, Held as end_held, None as end_none}
use Rattle.duty_builder.specs.declared.values.Scene.{Scene, Inner'}
use Rattle.duty_builder.specs.declared.values.Scene.{Start as at_start}
use Rattle.duty_builder.specs.declared.start.Start.{Start}
use Rattle.duty_builder.specs.declared.values.Source.TheVariants as source
use Rattle.duty_builder.specs.declared.values.Source.{Source}
use Rattle.duty_builder.specs.declared.values.Steps.{Steps, Done, Get', Match', Wrap', Just'}
use Rattle.duty_builder.specs.declared.values.Part.{Part}
use Rattle.duty_builder.specs.declared.values.Part.TheVariants as part
use Rattle.duty_builder.specs.declared.values.Goal.{Goal}
use Rattle.duty_builder.specs.declared.values.Goal.TheVariants as goal

abbrev pub who_data : Who → asked.Who
who_data (who.Static n) = asked.static n
who_data (who.Record m t) = asked.record_at m (term_data t.now)
who_data (who.EachKind t) = asked.of_each_kind (term_data t.now)

-- how many added fields are written out
abbrev pub upto_of : Scene → ℕ
upto_of (at_start n) = n
upto_of (Inner' p outer q end) = upto_of outer

-- a formula of the size that the value at an end counts as
abbrev pub end_formula : Schema → ℕ → Cases → tree.Formula
end_formula s above (at_term t) = tree.equal row t
end_formula s above (held m f t) = tree.equal row (tree.app (function_of s m f) t)
end_formula s above (truth c) = tree.exists 0 (c true above)
end_formula s above (among members) = tree.yes
end_formula s above none = tree.yes
end_formula s above (some v) = end_formula s above v
end_formula s above (choice c a b) = tree.yes

module _ (c : Start) where
  -- the schema of start databases
  abbrev pub schema_in : Schema
  schema_in = schema_of c.schema.now

  -- so many added fields, written out
  abbrev pub written_upto : ℕ → Written
  written_upto n = written_out schema_in (take n (map added_of c.added.now))

  abbrev pub written_in : Scene → Written
  written_in scene = written_upto (upto_of scene)

  abbrev mutual
    pub end_data : End → Cases
    end_data (end_term t) = at_term (term_data t.now)
    end_data (end_held m f t) = held m f (term_data t.now)
    end_data (Truth' p scene e) = truth (condition_of schema_in (cases_of schema_in (written_in scene) (scene_data scene) (expr_of e.now)))
    end_data (Among' p scene m set) = among (λ u. is_in schema_in (written_in scene) (scene_data scene) (set_of set.now) (asked.record_at m u))
    end_data end_none = none
    end_data (Some' p end) = some (end_data end)

    pub scene_data : Scene → List Cases
    scene_data (at_start n) = []
    scene_data (Inner' p outer q end) = scene_data outer ++ end_data end ∷ []

  abbrev pub source_data : Source → Cases
  source_data (source.Expr scene e) = cases_of schema_in (written_in scene.now) (scene_data scene.now) (expr_of e.now)
  source_data (source.Field n m f t) = field_cases schema_in (written_upto n) m f (term_data t.now)

  -- what the steps make of an end
  abbrev pub steps_data : Steps → Cases → Cases
  steps_data Done v = v
  steps_data (Get' n m f p next) v =
      continued (steps_data next) (of_term schema_in none (field_cases schema_in (written_upto n) m f) v)
  steps_data (Match' scene a c p next) v =
      continued (steps_data next)
      (of_option schema_in choice (cases_of schema_in (written_in scene.now) (scene_data scene.now) (expr_of a.now))
      (λ x. cases_of schema_in (written_in scene.now) (scene_data scene.now ++ x ∷ []) (expr_of c.now)) v)
  steps_data (Wrap' p next) v = steps_data next (some v)
  steps_data (Just' scene e p next) v =
      steps_data next (if is_truth schema_in v then some (truth (condition_of schema_in (cases_of schema_in (written_in scene.now) (scene_data scene.now) (expr_of e.now)))) else some v)

  -- the formula of a part
  abbrev pub part_data : ℕ → Part → tree.Formula
  part_data above (part.Holds source sign) = condition_of schema_in (source_data source.now) sign above
  part_data above (part.Member scene set who sign) =
      is_in schema_in (written_in scene.now) (scene_data scene.now) (set_of set.now) (who_data who.now) sign above
  part_data above (part.Present sign m f t) = atom sign (tree.present (function_of schema_in m f) (term_data t.now))
  part_data above (part.Reach scene used y) =
      use_data schema_in (written_in scene.now) (term_data y.now) (scene_data scene.now) used.now above

  -- what is asked of a term at an end
  abbrev pub term_goal : Goal → ℕ → tree.Term → tree.Formula
  term_goal (goal.Holds sign) above t = tree.no
  term_goal (goal.Has sign u) above t = tree.no
  term_goal (goal.Equal sign u) above t = atom sign (tree.equal (term_data u.now) t)
  term_goal (goal.Below sign u) above t = atom sign (tree.less (term_data u.now) t)
  term_goal (goal.EqualTo sign w) above t = at_terms schema_in above (λ u. atom sign (tree.equal t u)) (source_data w.now)
  term_goal (goal.LessThan sign w) above t = at_terms schema_in above (λ u. atom sign (tree.less t u)) (source_data w.now)
  term_goal (goal.Within sign scene m set) above t =
      is_in schema_in (written_in scene.now) (scene_data scene.now) (set_of set.now) (asked.record_at m t) sign above
  term_goal (goal.Is sign m q) above t = of_model m (who_data q.now) (λ u sign above. atom sign (tree.equal u t)) sign above
  term_goal (goal.In sign w) above t = has_term schema_in (source_data w.now) t sign above
  term_goal (goal.Chosen sign scene a c q) above t = tree.no
  term_goal (goal.Taken sign scene used y) above t = tree.no
  term_goal goal.Cost above t = tree.no

  abbrev pub goal_data : Goal → ℕ → Cases → tree.Formula
  goal_data (goal.Holds sign) above v = end_holds schema_in sign above v
  goal_data (goal.Has sign u) above v = end_has schema_in (term_data u.now) sign above v
  goal_data (goal.Equal sign u) above v = of_term schema_in tree.no (term_goal (goal.Equal sign u) above) v
  goal_data (goal.Below sign u) above v = of_term schema_in tree.no (term_goal (goal.Below sign u) above) v
  goal_data (goal.EqualTo sign w) above v = of_term schema_in tree.no (term_goal (goal.EqualTo sign w) above) v
  goal_data (goal.LessThan sign w) above v = of_term schema_in tree.no (term_goal (goal.LessThan sign w) above) v
  goal_data (goal.Within sign scene m set) above v = of_term schema_in tree.no (term_goal (goal.Within sign scene m set) above) v
  goal_data (goal.Is sign m q) above v = of_term schema_in tree.no (term_goal (goal.Is sign m q) above) v
  goal_data (goal.In sign w) above v = of_term schema_in tree.no (term_goal (goal.In sign w) above) v
  goal_data (goal.Chosen sign scene a c q) above v =
      of_option schema_in (chosen above) (is_in schema_in (written_in scene.now) (scene_data scene.now) (set_of a.now) (who_data q.now) sign above)
      (λ x. is_in schema_in (written_in scene.now) (scene_data scene.now ++ x ∷ []) (set_of c.now) (who_data q.now) sign above) v
  goal_data (goal.Taken sign scene used y) above v =
      taken_data schema_in (written_in scene.now) (term_data y.now) (scene_data scene.now) sign used.now above v
  goal_data goal.Cost above v = end_formula schema_in above v

  -- the formula that asks so of each end of a value after the steps
  abbrev pub asked_of : ℕ → Steps → Goal → Cases → tree.Formula
  asked_of above steps goal v = at_ends above (goal_data goal above) (continued (steps_data steps) v)

-- the term that a condition on a record of the model is asked of, if there is one
abbrev pub IsAsked : ℕ → Who → Option tree.Term → Type 0
IsAsked m who None = (k : tree.Term → Condition) (sign : Bool) (above : ℕ) → of_model m (who_data who) k sign above ≡ constant (not sign)
IsAsked m who (Some t) = (k : tree.Term → Condition) (sign : Bool) (above : ℕ) → of_model m (who_data who) k sign above ≡ k t sign above

-- what it costs to join formulas to one before them
abbrev pub rest_cost : List tree.Formula → ℕ
rest_cost [] = 0
rest_cost (f ∷ fs) = size f + 1 + rest_cost fs

module _ (s : Schema) (written : Written) (env : List Cases) where
  -- that who is asked about is the record that an expression gives at some record of a set
  abbrev pub mapped_formula : SetExpr → ℕ → ℕ → Expr → asked.Who → Condition
  mapped_formula set n m e q sign above =
      exists_if sign (sort_of s n) (and_if sign (is_in s written env set (asked.record_at n (next_variable s written n above)) sign (suc above))
      (at_terms s (suc above) (λ t. of_model m q (λ u sign above. atom sign (tree.equal u t)) sign (suc above))
      (cases_of s written (env ++ at_term (next_variable s written n above) ∷ []) e)))

  -- that who is asked about is in a set at some record of another set
  abbrev pub flat_formula : SetExpr → ℕ → SetExpr → asked.Who → Condition
  flat_formula set n body q sign above =
      exists_if sign (sort_of s n) (and_if sign (is_in s written env set (asked.record_at n (next_variable s written n above)) sign (suc above))
      (is_in s written (env ++ at_term (next_variable s written n above) ∷ []) body q sign (suc above)))
