-- The obligations of a script, in their order, and the formula of each.
use Rattle.std.specs.Prelude.{ℕ, ◌+◌, ◌-◌, true, false, not, List, [], ◌++◌, map, flat_map, length, Option, None, Some, slice_get}
use Rattle.std.specs.List.{range_with_len}
use Rattle.std.specs.Option.{option_map_or}
use Rattle.type_schema.specs.declared.rights.Kind.{Kind}
use Rattle.type_schema.specs.declared.rights.Kind.TheVariants as kind
use Rattle.type_schema.specs.declared.rights.Right.{Right}
use Rattle.type_schema.specs.declared.rights.Right.TheVariants.{Read, Write, Create, Delete}
use Rattle.type_schema.specs.declared.rights.Target.{Target}
use Rattle.type_schema.specs.declared.rights.Target.TheVariants as on
use Rattle.type_schema.specs.Trees.{Policy, Init}
use Rattle.type_schema.specs.Schema.{model_of_target}
use Rattle.type_schema.specs.Commands.{Command, create_model, delete_model, add_static, remove_static, add_principal, add_field, remove_field, update_field, weaken_field, update_model, weaken_model}
use Rattle.type_schema.specs.Uses.{Use, init_uses_of}
use Rattle.type_schema.specs.Script.{Script, schema_at, command_at, count}
use Rattle.type_schema.specs.Kinds.{kinds_at}
use Rattle.data_meaning.specs.Gain.{policy_at}
use Rattle.form_formula.specs.Trees.{Term, bound, Formula, no, both, exists}
use Rattle.duty_meaning.specs.declared.duty.Duty.{Duty}
use Rattle.duty_meaning.specs.Structures.{sort_of}
use Rattle.duty_meaning.specs.Cases.{Condition, constant}
use Rattle.duty_meaning.specs.Formulas.{Who, static, record_at, Written, written_out, is_allowed}
use Rattle.duty_meaning.specs.Reach.{init_reach}

-- ---- the list

-- that the right on the target, if it is given, is no gain
abbrev pub gains_at : ℕ → List Kind → Target → Right → Option Policy → List Duty
gains_at k kinds target right None = []
gains_at k kinds target right (Some policy) =
    map (λ a. record { command = k; target = target; right = right; spot = None; kind = a }) kinds

-- that no use of the initialiser leaks
abbrev pub flows_at : ℕ → List Kind → Target → Init → List Duty
flows_at k kinds target init =
    flat_map (λ number. map (λ a. record { command = k; target = target; right = Read; spot = Some number; kind = a }) kinds)
    (range_with_len 1 (length (init_uses_of init)))

-- the obligations of a command
abbrev pub obligations_at : ℕ → List Kind → Command → List Duty
obligations_at k kinds (create_model m) = []
obligations_at k kinds (delete_model m) = []
obligations_at k kinds (add_static n) = []
obligations_at k kinds (remove_static n) = []
obligations_at k kinds (add_principal m) = []
obligations_at k kinds (add_field m f init) = flows_at k kinds (on.Field m f.number) init
obligations_at k kinds (remove_field m f) = []
obligations_at k kinds (update_field m f read write) = gains_at k kinds (on.Field m f) Read read ++ gains_at k kinds (on.Field m f) Write write
obligations_at k kinds (weaken_field m f read write reason) = []
obligations_at k kinds (update_model m create delete) = gains_at k kinds (on.Model m) Create create ++ gains_at k kinds (on.Model m) Delete delete
obligations_at k kinds (weaken_model m create delete reason) = []

-- those of each command, which are counted from 1
abbrev pub obligations_of : Script → List Duty
obligations_of t =
    flat_map (λ k. option_map_or (obligations_at k (kinds_at t k)) (command_at t (k - 1)) []) (range_with_len 1 (count t))

-- ---- the formulas

module _ (t : Script) where
  -- the fields that the script added up to command k, written out
  abbrev pub written_at : ℕ → Written
  written_at k = written_out t.start (schema_at t k).added

  -- whether the policy in force after k commands allows a principal the right on the record that the term is
  abbrev pub has_right : ℕ → Target → Right → Term → Who → Condition
  has_right k target right r q sign above =
      option_map_or (λ policy. is_allowed t.start (written_at k) policy r q sign above) (policy_at t k target right) (constant (not sign))

  -- for some element of the sort of the model, which is the next variable
  abbrev pub for_some : ℕ → ℕ → (Term → Formula) → Formula
  for_some m above k = exists (sort_of t.start m) (k (bound (sort_of t.start m) above))

  -- for some principal of the kind
  abbrev pub for_some_principal : Kind → ℕ → (Who → ℕ → Formula) → Formula
  for_some_principal (kind.Static n) above k = k (static n) above
  for_some_principal (kind.Model m) above k = for_some m above (λ q. k (record_at m q) (above + 1))

  -- After the command some principal of the kind has the right on some record, and before it that principal did not have it.
  abbrev pub gain_formula_of : Duty → Formula
  gain_formula_of duty =
      for_some (model_of_target duty.target) 0 (λ r. for_some_principal duty.kind 1 (λ q above.
      both (has_right duty.command duty.target duty.right r q true above) (has_right (duty.command - 1) duty.target duty.right r q false above)))

  -- some principal of the kind may read the added field on some record, the use reads its field of a record, and the principal may not
  abbrev pub leak_formula : Duty → Init → ℕ → Use → Formula
  leak_formula duty init number at =
      for_some (model_of_target duty.target) 0 (λ r. for_some_principal duty.kind 1 (λ q above. for_some at.model above (λ y.
      both (has_right duty.command duty.target Read r q true (above + 1))
      (both (init_reach t.start (written_at duty.command) y init r number (above + 1))
      (has_right duty.command (on.Field at.model at.field) Read y q false (above + 1))))))

  -- the initialiser of the field that a command adds
  abbrev pub init_in : Command → Option Init
  init_in (create_model m) = None
  init_in (delete_model m) = None
  init_in (add_static n) = None
  init_in (remove_static n) = None
  init_in (add_principal m) = None
  init_in (add_field m f init) = Some init
  init_in (remove_field m f) = None
  init_in (update_field m f read write) = None
  init_in (weaken_field m f read write reason) = None
  init_in (update_model m create delete) = None
  init_in (weaken_model m create delete reason) = None

  -- The use is counted from 1 in the obligation. Where there is no such use, as in no obligation of a script, nothing leaks.
  abbrev pub use_formula : Duty → ℕ → Init → Formula
  use_formula duty spot init = option_map_or (leak_formula duty init (spot - 1)) (slice_get (init_uses_of init) (spot - 1)) no

  abbrev pub added_formula : Duty → ℕ → Command → Formula
  added_formula duty spot c = option_map_or (use_formula duty spot) (init_in c) no

  abbrev pub flow_formula_of : Duty → ℕ → Formula
  flow_formula_of duty spot = option_map_or (added_formula duty spot) (command_at t (duty.command - 1)) no

  -- the formula of an obligation
  abbrev pub formula_of : Duty → Formula
  formula_of duty = option_map_or (flow_formula_of duty) duty.spot (gain_formula_of duty)
