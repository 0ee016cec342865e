-- A flow leak on a database with the tables of the models in their order is a witness on it.
use Rattle.std.proofs.Common.{◌≡◌, ℕ, suc, ◌-◌, ◌<◌, ◌≤◌, true, [], ◌∷◌, sym, ◌∙◌, ap, subst, arith}
use Rattle.std.specs.Prelude.{Some, is_some, Contains}
use Rattle.std.proofs.lemmas.Option.{slice_get_within}
use Rattle.type_schema.specs.declared.rights.Right.TheVariants.{Read}
use Rattle.type_schema.specs.declared.rights.Target.{Target}
use Rattle.type_schema.specs.declared.rights.Target.TheVariants as on
use Rattle.type_schema.specs.Trees.{Init}
use Rattle.type_schema.specs.Schema.{FieldInfo, Schema, model_of, type_of, model_of_target}
use Rattle.type_schema.specs.Typing.{HasModel, IsInit}
use Rattle.type_schema.specs.Commands.{add_field, schema_after, HasField}
use Rattle.type_schema.specs.Uses.{Use}
use Rattle.type_schema.specs.Script.{Script, schema_at, count, IsScript}
use Rattle.data_meaning.specs.declared.principals.Principal.{Principal}
use Rattle.data_meaning.specs.Database.{Database, has_record}
use Rattle.data_meaning.specs.Run.{run_to}
use Rattle.data_meaning.specs.Gain.{has_target, FlowAt}
use Rattle.form_formula.specs.declared.structure.Structure.{Structure}
use Rattle.form_formula.specs.Trees.{bound}
use Rattle.duty_meaning.specs.declared.duty.Duty.{Duty}
use Rattle.duty_meaning.specs.Structures.{sort_of, element_of, structure_of}
use Rattle.duty_meaning.specs.Duties.{written_at}
use Rattle.duty_meaning.specs.Reads.{init_read_by}
use Rattle.duty_meaning.specs.Flows.{cell_of, IsFlowDuty}
use Rattle.duty_meaning.proofs.Flows.{type-stays, model-stays, cell-at}
use Rattle.duty_meaning.proofs.Meanings.{Shows}
use Rattle.duty_meaning.proofs.Running.{shown-at}
use Rattle.duty_meaning.proofs.Shown.{has-field, shows-all, shown-field, shown-model}
use Rattle.duty_meaning.proofs.Sources.{init-there}
use Rattle.duty_meaning.proofs.Truths.{first-is}
use Rattle.check_report_back.specs.Printed.{IsCellOn, LeaksAreWitnesses}
use Rattle.check_report_back.specs.Scripts.{IsCommandOf}
use Rattle.check_report_back.proofs.Gained.{right-there, there-first, who-there}
use Rattle.check_report_back.proofs.UsesThere.{use-typed}

module _ (t : Script) (script : IsScript t) (duty : Duty) (spot m : ℕ) (f : FieldInfo) (init : Init) (at : Use) (of : IsFlowDuty t duty spot m f init at)
    (d : Database) (row : ℕ) (who : Principal) (source : ℕ) (flow : FlowAt t duty.command d row who (cell_of at source))
    (reads : Contains (init_read_by (run_to t duty.command d) init row (spot - 1)) (cell_of at source)) where
  abbrev k : ℕ
  k = duty.command

  abbrev st : Structure
  st = structure_of t.start d

  below : k - 1 < count t
  below = slice_get_within t.commands (k - 1) (add_field m f init) of.adds.command

  pub within : k ≤ count t
  within = omega (arith, below, of.adds.counted)

  added : schema_at t k ≡ schema_after (schema_at t (k - 1)) (add_field m f init)
  added =
      let number : suc (k - 1) ≡ k = omega (arith, of.adds.counted) in
      ap (schema_at t) (sym number) ∙ script.steps (k - 1) (add_field m f init) of.adds.command

  asks : HasModel (schema_at t (k - 1)) m × (f.number ≡ (schema_at t (k - 1)).next_field) × IsInit (schema_at t (k - 1)) m f.ty init
  asks = script.commands (k - 1) (add_field m f init) of.adds.command

  -- the flow is of the same command
  same-target : on.Field flow.model flow.field.number ≡ duty.target
  same-target =
      let one : Some (add_field m f init) ≡ Some (add_field flow.model flow.field flow.init) = sym of.adds.command ∙ flow.adds.command in
      let model : flow.model ≡ m = cc in
      let field : flow.field ≡ f = cc in
      ap (λ i. on.Field i flow.field.number) model ∙ ap (λ (g : FieldInfo). on.Field m g.number) field ∙ sym of.target

  pub target-there : has_target (schema_at t k) duty.target ≡ true
  target-there =
      subst (λ (x : Target). has_target (schema_at t k) x ≡ true) same-target (right-there (schema_at t k) (on.Field flow.model flow.field.number) Read _ flow.reads)

  pub row-there : has_record d (model_of_target duty.target) row ≡ true
  row-there = subst (λ (x : Target). has_record d (model_of_target x) row ≡ true) same-target (there-first t k d flow.model row flow.record_there)

  -- ---- the cell

  -- what the schema before the command says of the database after it
  earlier-shown : Shows t.start (schema_at t (k - 1)) (written_at t k) st d (run_to t k d)
  earlier-shown =
      let now = run_to t k d in
      let shown = shown-at t script d flow.start k within in
      shows-all t.start st d (schema_at t (k - 1)) (written_at t k) now
      (λ n g ty h. shown-field t.start st d (schema_at t k) (written_at t k) now shown n g ty
      (ap (λ (s : Schema). type_of s n g) added ∙ type-stays (schema_at t (k - 1)) m f init n g ty h))
      (λ n h. shown-model t.start st d (schema_at t k) (written_at t k) now shown n
      (ap (λ (s : Schema). is_some (model_of s n)) added ∙ model-stays (schema_at t (k - 1)) m f init n h))

  pub source-there : has_record d at.model source ≡ true
  source-there =
      let own : has_record d m row ≡ true = subst (λ (x : Target). has_record d (model_of_target x) row ≡ true) of.target row-there in
      init-there t.start (schema_at t (k - 1)) (written_at t k) st d (run_to t k d) earlier-shown at source m f.ty init asks.2
      (element_of d m row ∷ []) row (bound (sort_of t.start m) 0) (first-is t.start st d m row (sort_of t.start m) [] own)
      (spot - 1) (cell-at at source (init_read_by (run_to t k d) init row (spot - 1)) reads)

  pub field-there : HasField (schema_at t k) at.model at.field
  field-there =
      let typed = use-typed (schema_at t (k - 1)) m f.ty init asks.2 (spot - 1) at of.used in
      let stays = type-stays (schema_at t (k - 1)) m f init at.model at.field typed.0 typed.1 in
      let field = has-field (schema_at t k) at.model at.field typed.0 (ap (λ (s : Schema). type_of s at.model at.field) added ∙ stays) in
      ap is_some field.1

pub leaks-are : LeaksAreWitnesses
leaks-are t script duty spot m f init at of w order command target source cell flow reads = record {
  command = subst (IsCommandOf t) (sym command) record { first = of.adds.counted; last = within t script duty spot m f init at of w.base w.row w.who source flow reads };
  target =
      subst (λ (n : ℕ). has_target (schema_at t n) w.target ≡ true) (sym command)
      (subst (λ (x : Target). has_target (schema_at t duty.command) x ≡ true) (sym target) (target-there t script duty spot m f init at of w.base w.row w.who source flow reads));
  base = record { database = flow.start.over; order = order };
  row =
      subst (λ (x : Target). has_record w.base (model_of_target x) w.row ≡ true) (sym target)
      (row-there t script duty spot m f init at of w.base w.row w.who source flow reads);
  who = who-there t script duty.command w.base w.who flow.principal;
  cell =
      subst (IsCellOn t w.command w.base) (sym cell) (
        subst (λ (n : ℕ). HasField (schema_at t n) at.model at.field) (sym command) (field-there t script duty spot m f init at of w.base w.row w.who source flow reads),
        source-there t script duty spot m f init at of w.base w.row w.who source flow reads,
      );
}
