-- The formulas of conditions and policies tell what they mean on a database.
use Rattle.std.specs.Prelude.{◌≡◌, ℕ, Bool, true, List, [], ◌∷◌, length}
use Rattle.type_schema.specs.declared.types.TBase.TheVariants as base
use Rattle.type_schema.specs.declared.types.TTy.TheVariants.{Plain}
use Rattle.type_schema.specs.Trees.{Expr, Policy}
use Rattle.type_schema.specs.Schema.{Schema}
use Rattle.type_schema.specs.Typing.{IsExpr, IsPolicy}
use Rattle.data_meaning.specs.declared.principals.Principal.{Principal}
use Rattle.data_meaning.specs.declared.principals.Principal.TheVariants.{Static, Rec}
use Rattle.data_meaning.specs.Values.{Id}
use Rattle.data_meaning.specs.Database.{Database, has_record, is_there, IsDatabase}
use Rattle.data_meaning.specs.Meaning.{same_truth, truth_of, value_of, allows}
use Rattle.form_formula.specs.Trees.{bound}
use Rattle.form_formula.specs.Truth.{truth}
use Rattle.duty_meaning.specs.Structures.{sort_of, element_of, structure_of}
use Rattle.duty_meaning.specs.Cases.{at_term, condition_of}
use Rattle.duty_meaning.specs.Formulas.{Who, static, record_at, nothing_written, cases_of, is_allowed}

-- a principal as whom a policy is asked about: a record is the variable below so many quantifiers, and that variable has its element
abbrev pub who_at : Schema → ℕ → Principal → Who
who_at s above (Static n) = static n
who_at s above (Rec m id) = record_at m (bound (sort_of s m) above)

abbrev pub own_element : Database → Principal → List ℕ
own_element d (Static n) = []
own_element d (Rec m id) = element_of d m id ∷ []

-- At a record that is there, the condition of an expression is true where the expression is, and its negation where it is not.
abbrev pub ConditionsAreTrue : Schema → Database → Type 0
ConditionsAreTrue s d =
    (m : ℕ) (x : Expr) → IsExpr s (Plain (base.Id m) ∷ []) (Plain base.Bool) x → (id : ℕ) → has_record d m id ≡ true → (sign : Bool)
    → truth (structure_of s d) (element_of d m id ∷ []) (condition_of s (cases_of s nothing_written (at_term (bound (sort_of s m) 0) ∷ []) x) sign 1)
    ≡ same_truth sign (truth_of (value_of d (Id id ∷ []) x))

-- The formula of a policy is true, at a record and a principal that are there, where it allows the principal, and its negation where it
-- does not.
abbrev pub PoliciesAreTrue : Schema → Database → Type 0
PoliciesAreTrue s d =
    (m : ℕ) (p : Policy) → IsPolicy s m p → (id : ℕ) → has_record d m id ≡ true → (q : Principal) → is_there d q ≡ true → (sign : Bool)
    → truth (structure_of s d) (element_of d m id ∷ own_element d q)
    (is_allowed s nothing_written p (bound (sort_of s m) 0) (who_at s 1 q) sign (length (element_of d m id ∷ own_element d q)))
    ≡ same_truth sign (allows d p id q)

-- on each database over a schema
pub record TellsTheTruth (s : Schema) (d : Database) : Type 0 where
  pub conditions : ConditionsAreTrue s d
  pub policies : PoliciesAreTrue s d

abbrev pub FormulasAreTrue : Type 0
FormulasAreTrue = (s : Schema) (d : Database) → IsDatabase s d → TellsTheTruth s d
