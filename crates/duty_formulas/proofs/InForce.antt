-- What a policy that is in force says, as a right at a command.
use Rattle.std.proofs.Common.{◌≡◌, ◌∙◌, ℕ, Bool, not, ap}
use Rattle.std.specs.Prelude.{Option, Some}
use Rattle.std.specs.Option.{option_map_or}
use Rattle.type_schema.specs.declared.rights.Right.{Right}
use Rattle.type_schema.specs.declared.rights.Target.{Target}
use Rattle.type_schema.specs.Trees.{Policy}
use Rattle.type_schema.specs.Schema.{Schema}
use Rattle.type_schema.specs.Script.{Script}
use Rattle.data_meaning.specs.Gain.{policy_at}
use Rattle.form_formula.specs.Trees.{Term}
use Rattle.duty_meaning.specs.Cases.{constant}
use Rattle.duty_meaning.specs.Formulas.{Who, Written, is_allowed}
use Rattle.duty_meaning.specs.Duties.{written_at, has_right}

pub right_same : (t : Script) (k : ℕ) (target : Target) (right : Right) (s : Schema) (written : Written) (policy : Policy) (r : Term) (q : Who) (sign : Bool) (above : ℕ)
    → s ≡ t.start → written ≡ written_at t k → Some policy ≡ policy_at t k target right
    → is_allowed s written policy r q sign above ≡ has_right t k target right r q sign above
right_same t k target right s written policy r q sign above start fields in_force =
    ap (λ (x : Schema). is_allowed x written policy r q sign above) start
    ∙ (ap (λ (x : Written). is_allowed t.start x policy r q sign above) fields
    ∙ ap (λ (x : Option Policy). option_map_or (λ p. is_allowed t.start (written_at t k) p r q sign above) x (constant (not sign))) in_force)
