use Rattle.std.proofs.Common.{rules, ◌≡◌, ◌≢◌, ℕ, [], ◌∷◌, refl, ap, ◌∙◌, inr}
use Rattle.std.specs.Prelude.{Err}
use Rattle.app_store.proofs.Ran.{kept-none}
use Rattle.check_scripts.specs.Outcomes.{accepted}
use Rattle.check_scripts.specs.Views.{outcome_data}
use Rattle.door_meaning.specs.Migrates.{Applies, Leaves}
use Rattle.door_meaning.specs.Replies.{Reply, Script}
use Rattle.store_keeper.specs.Stored.{stored_of}
use Rattle.store_keeper.specs.declared.stored.Stored as code
use Rattle.store_keeper.specs.declared.keeper.KeepCall.TheVariants.{Replace}
use Rattle.type_schema.specs.SchemaViews.{schema_of}
use Rattle.door_serve.specs.declared.door_err.DoorErr.TheVariants.{OutOfMemory}
use Rattle.door_serve.specs.DoorState.{state_of}
use Rattle.door_serve.specs.Kept.{err_of}
use Rattle.door_serve.specs.Moving.{Kept, Lost, Said, Stopped}
use Rattle.door_serve.proofs.Migrating.{held-stays, keep-failed, keep-fault, later, migrated-as}
use Rattle.door_serve.proofs.door.Door.carry_out.Goals as goal

pub returns-in_default : goal.returns-in_default
returns-in_default g c =
    let st = state_of c.args.self.now in
    let other : (n : ℕ) → outcome_data c.args.checked.now.outcome ≢ accepted n = search rules in
    let left = Leaves other (ap (λ (r : Reply). record { reply = r; state = st }) (c.reported.ensures ∙ ap Script c.in_ok-print_checked.ensures)) in
    record {
      carried = ([], Said c.reported.result left refl refl refl, kept-none g.K.Keeper.calls g.K.Keeper.faults c.args.store.now _ (λ e. cc));
      stored = c.requires.held.stored;
      held = held-stays (g.K.Keeper.told c.args.store.now) st.stored c.requires.held;
      not_read = λ e. cc;
    }

pub returns-in_err-after-clause-carried : goal.returns-in_err-after-clause-carried
returns-in_err-after-clause-carried g c =
    let same : c.from_residual-in_err-after.result ≡ Err OutOfMemory = search rules in
    ([], Stopped refl (inr same) refl, kept-none g.K.Keeper.calls g.K.Keeper.faults c.args.store.now _ (λ e. cc))

pub returns-in_err-report-clause-carried : goal.returns-in_err-report-clause-carried
returns-in_err-report-clause-carried g c =
    let same : c.from_residual-in_err-report.result ≡ Err OutOfMemory = search rules in
    ([], Stopped refl (inr same) refl, kept-none g.K.Keeper.calls g.K.Keeper.faults c.args.store.now _ (λ e. cc))

pub returns-in_err-replace-clause-carried : goal.returns-in_err-replace-clause-carried
returns-in_err-replace-clause-carried g c =
    let same : c.from_residual-in_err-replace.result ≡ Err (err_of c.in_err-replace.field-0.0) = search rules in
    let accepts : outcome_data c.args.checked.now.outcome ≡ accepted c.in-Accepted.duties = search rules in (
      Replace ∷ [],
      Lost _ (Applies c.in-Accepted.duties (stored_of c.in_ok-after.after) accepts c.in_ok-after.ensures.applied refl)
          (later (state_of c.args.self.now).stored (stored_of c.in_ok-after.after) c.in_ok-after.ensures.applied.version) refl (keep-failed _ c.in_err-replace.field-0.0 same) refl,
      record {
        called = c.replace.ensures.called;
        silent = λ none. absurd cc;
        counted = λ fault. let failed = keep-fault _ c.in_err-replace.field-0.0 same fault in c.in_err-replace.ensures.counted (ap (λ e. Err e) failed);
        never_falls = c.replace.ensures.never_falls;
      },
    )

pub returns-clause-carried : goal.returns-clause-carried
returns-clause-carried g c =
    let st = state_of c.args.self.now in
    let accepts : outcome_data c.args.checked.now.outcome ≡ accepted c.in-Accepted.duties = search rules in (
      Replace ∷ [],
      Kept c.reported-2.result
          (migrated-as st c.args.checked.now c.in-Accepted.duties (stored_of c.in_ok-after.after) _ _ (schema_of c.last_schema.result.now) accepts c.in_ok-after.ensures.applied
          (c.reported-2.ensures ∙ ap Script c.in_ok-report.ensures) (ap stored_of c.move_to.ensures.stored) c.last_schema.ensures c.move_to.ensures.sessions)
          (later st.stored (stored_of c.move_to.new.self.stored) (ap (λ (s : code.Stored). s.version) c.move_to.ensures.stored ∙ c.in_ok-after.ensures.applied.version)) refl refl,
      record {
        called = c.replace.ensures.called;
        silent = λ none. absurd cc;
        counted = λ fault. absurd cc;
        never_falls = c.replace.ensures.never_falls;
      },
    )
