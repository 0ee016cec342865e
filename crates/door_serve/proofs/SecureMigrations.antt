-- Scripts that a migration carries out are secure.
use Rattle.std.proofs.Common.{◌≡◌, ◌<◌, ◌∙◌, ℕ, List, Option, ap, map, sym, subst, inl, inr}
use Rattle.std.specs.Prelude.{◌⊎◌, Ok}
use Rattle.app_files.specs.declared.answer.Checked.{Checked}
use Rattle.app_files.specs.Answer.{Checks, ScriptOf}
use Rattle.app_files.specs.Loads.{Fetches}
use Rattle.app_files.specs.Stages.{Goes, Stopped, Stops, Then, Went}
use Rattle.app_flow.specs.Files.{Files}
use Rattle.check_scripts.specs.Outcomes.{IsOutcome, accepted}
use Rattle.check_scripts.specs.Sound.{AcceptedAreSecure}
use Rattle.door_meaning.specs.Migrates.{Applies, IsMigrated, Leaves, Ran, last_schema, moved_session}
use Rattle.door_meaning.specs.Migrates as migrates
use Rattle.door_meaning.specs.Sessions.{Outcome}
use Rattle.door_meaning.specs.State.{AllStale, State}
use Rattle.store_apply.specs.Applied.{IsApplied}
use Rattle.store_keeper.specs.Stored.{Stored, last_version}
use Rattle.type_schema.specs.Script.{Script, count, schema_at}
use Rattle.door_serve.specs.Laws.{MigratesSecurely, MigrationsAreSecure}
use Rattle.door_serve.proofs.NeverAhead.{moved-stale}

module _ (law : AcceptedAreSecure) where
  over-held : (files : Option Files) (st : State) (name : List ℕ) (checked : Checked) (outcome : Outcome) → st.stored.version < last_version
      → Then (Then (Fetches files name) (ScriptOf name st.stored.schema)) Checks (Ok checked) → IsMigrated st checked outcome → (outcome.state ≡ st) ⊎ MigratesSecurely files st name outcome.state
  over-held files st name checked outcome rises asks (Leaves other e) = inl (ap (λ (o : Outcome). o.state) e)
  over-held files st name checked outcome rises (Stops s p e) (Applies n after accepts applied is) = absurd cc
  over-held files st name checked outcome rises (Goes t asks found) (Applies n after accepts applied is) =
      let outcome_is : IsOutcome t (accepted n) = subst (IsOutcome t) accepts found.outcome in
      let safe = law t found.typed n outcome_is in
      let kept : outcome.state.stored ≡ after = ap (λ (o : Outcome). o.state.stored) is in
      let moved : outcome.state.sessions ≡ map (moved_session (schema_at t (count t))) st.sessions
      = ap (λ (o : Outcome). o.state.sessions) is ∙ ap (λ (z : Script). map (moved_session (schema_at z (count z))) st.sessions) found.script in
      inr (record {
        script = t;
        asks = asks;
        rises = rises;
        step_secure = safe.0;
        secure = safe.1;
        applied = subst (IsApplied st.stored t) (sym kept) (subst (λ (z : Script). IsApplied st.stored z after) found.script applied);
        sessions = moved;
        stale = λ none_ahead.
            subst (λ (o : State). AllStale o) (sym (ap (λ (o : Outcome). o.state) is))
            (moved-stale (last_schema checked) st.stored.version after.version applied.version st.sessions none_ahead);
      })

  pub secure-migrations : MigrationsAreSecure
  secure-migrations files st name calls outcome (migrates.Stopped reason text stops is_text e) = inl (ap (λ (o : Outcome). o.state) e)
  secure-migrations files st name calls outcome (Ran (Stopped s p e)) = absurd cc
  secure-migrations files st name calls outcome (Ran (Went held before after first (Stopped s p e) split)) = absurd cc
  secure-migrations files st name calls outcome (Ran (Went held before after first (Went checked b a checks made more) split)) =
      over-held files st name checked outcome first.1.1
      (subst (λ (z : Stored). Then (Then (Fetches files name) (ScriptOf name z.schema)) Checks (Ok checked)) first.1.0 checks.1) made.1
