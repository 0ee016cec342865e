-- What an obligation asks of a policy and of an initialiser is no larger than what their sizes count.
use Rattle.std.specs.Prelude.{◌≡◌, ◌≤◌, ℕ, Bool, List, []}
use Rattle.type_schema.specs.Trees.{Policy, to_all, to_none, by_record, Init}
use Rattle.type_schema.specs.Schema.{Added, Schema}
use Rattle.type_schema.specs.Uses.{Use, set_uses_of}
use Rattle.form_formula.specs.Trees.{Term}
use Rattle.duty_meaning.specs.Formulas.{Who, static, record_at, of_each_kind, written_out, is_allowed}
use Rattle.duty_meaning.specs.Reach.{init_reach}
use Rattle.duty_meaning.specs.Sizes.{term_size, size, row, other, policy_size_over}

-- the uses of fields in a policy
abbrev pub policy_uses_of : Policy → List Use
policy_uses_of to_all = []
policy_uses_of to_none = []
policy_uses_of (by_record name set) = set_uses_of set

-- a static principal, or one whose record is a variable
abbrev pub IsOne : Who → Type 0
IsOne (static n) = Unit {0}
IsOne (record_at m t) = term_size t ≡ 1
IsOne (of_each_kind t) = term_size t ≡ 1

-- A policy, asked about any principal on any record and below any quantifiers, is no larger than counted; and so is its negation.
abbrev pub AllowedIsCounted : Type 0
AllowedIsCounted =
    (s : Schema) (added : List Added) (p : Policy) (r : Term) (q : Who) (sign : Bool) (above : ℕ) → term_size r ≡ 1 → IsOne q
    → size (is_allowed s (written_out s added) p r q sign above) ≤ policy_size_over s (written_out s added) p

-- Neither is a use of an initialiser on any two records.
abbrev pub ReachIsCounted : Type 0
ReachIsCounted =
    (s : Schema) (added : List Added) (init : Init) (y r : Term) (number above : ℕ) → term_size y ≡ 1 → term_size r ≡ 1
    → size (init_reach s (written_out s added) y init r number above) ≤ size (init_reach s (written_out s added) other init row number 2)
