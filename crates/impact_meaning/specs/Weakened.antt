-- What a declared weakening newly allows.
use Rattle.std.specs.Prelude.{◌≡◌, ◌≤◌, ℕ, ◌-◌, true, false, Option, None}
use Rattle.std.specs.Option.{option_map_or}
use Rattle.type_schema.specs.declared.rights.Right.{Right}
use Rattle.type_schema.specs.declared.rights.Target.{Target}
use Rattle.type_schema.specs.Schema.{model_of_target}
use Rattle.type_schema.specs.Script.{Script, command_at}
use Rattle.data_meaning.specs.declared.principals.Principal.{Principal}
use Rattle.data_meaning.specs.Database.{Database, has_record}
use Rattle.data_meaning.specs.Run.{run_to}
use Rattle.data_meaning.specs.Gain.{IsStart, kind_of, is_principal_at, has_right_at, weakens}
use Rattle.duty_meaning.specs.declared.duty.Duty.{Duty}
use Rattle.check_witness.specs.Witness.{Witness}

-- Command k, counted from 1, weakens the right on the target, and the principal has the right on the record after the command and did not
-- have it before.
pub record WeakAt (t : Script) (k : ℕ) (target : Target) (right : Right) (d : Database) (id : ℕ) (q : Principal) : Type 0 where
  pub start : IsStart t d
  pub counted : 1 ≤ k
  pub weakened : option_map_or (weakens target right) (command_at t (k - 1)) false ≡ true
  pub record_there : has_record (run_to t k d) (model_of_target target) id ≡ true
  pub principal : is_principal_at t k (run_to t k d) q ≡ true
  pub after : has_right_at t k target right d id q ≡ true
  pub before : has_right_at t (k - 1) target right d id q ≡ false

-- The witness shows what the weakening newly allows: it is of the weakening's command, target, right and kind of principals.
pub record IsExampleOf (t : Script) (duty : Duty) (w : Witness) : Type 0 where
  pub command : w.command ≡ duty.command
  pub target : w.target ≡ duty.target
  pub right : w.right ≡ duty.right
  pub kind : kind_of w.who ≡ duty.kind
  pub weak : WeakAt t duty.command duty.target duty.right w.base w.row w.who
  pub no_cell : w.cell ≡ None
