-- Policies of a schema numbered anew, and the rights that they give.
use Rattle.std.specs.Prelude.{◌≡◌, ℕ, Some}
use Rattle.type_schema.specs.declared.rights.Right.{Right}
use Rattle.type_schema.specs.declared.rights.Target.{Target}
use Rattle.type_schema.specs.declared.rights.Target.TheVariants as on
use Rattle.type_schema.specs.Trees.{Policy}
use Rattle.type_schema.specs.Schema.{Schema, policy_in}
use Rattle.data_meaning.specs.declared.principals.Principal.{Principal}
use Rattle.data_meaning.specs.Database.{Database, HasNoFurtherTables, IsDatabase}
use Rattle.data_meaning.specs.Meaning.{allows}
use Rattle.data_records.specs.Renumbered.{new_field, new_model, renumbered}
use Rattle.type_anew.specs.Policies.{renumbered_policy, renumbered_principal}

-- the field or model under its new number
abbrev pub renumbered_target : Schema → Target → Target
renumbered_target s (on.Field m f) = on.Field (new_model s.models m) (new_field s.models m f)
renumbered_target s (on.Model m) = on.Model (new_model s.models m)

-- Each policy of s stands in `anew` with new numbers, for the same right on the same target.
abbrev pub HasPoliciesAnew : (s anew : Schema) → Type 0
HasPoliciesAnew s anew =
    (target : Target) (right : Right) (policy : Policy) → policy_in s target right ≡ Some policy → policy_in anew (renumbered_target s target) right ≡ Some (renumbered_policy s policy)

-- On each database over s, numbered anew, `anew` allows each right on each record whom s allowed it before.
abbrev pub KeepsRights : (s anew : Schema) → Type 0
KeepsRights s anew =
    (d : Database) → IsDatabase s d → HasNoFurtherTables s d → (target : Target) (right : Right) (policy later : Policy) → policy_in s target right ≡ Some policy
    → policy_in anew (renumbered_target s target) right ≡ Some later → (id : ℕ) (who : Principal) → allows (renumbered s d) later id (renumbered_principal s who) ≡ allows d policy id who
