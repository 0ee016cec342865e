-- What `impact` may answer, and what it then prints.
use Rattle.std.specs.Prelude.{◌≡◌, ℕ, List, Option, Result, Ok, Err}
use Rattle.app_flow.specs.Files.{Files}
use Rattle.type_schema.specs.Script.{IsScript, Script}
use Rattle.type_schema.specs.SchemaViews.{script_of}
use Rattle.impact_effects.specs.Effects.{AreEffects}
use Rattle.app_files.specs.Answer.{Asks, refusal_status, refusal_text}
use Rattle.app_files.specs.Stages.{Inside, Judges, Next, Part, Stage}
use Rattle.app_files.specs.Words.{Names}
use Rattle.app_files.specs.declared.status.Status.{Status}
use Rattle.app_files.specs.declared.status.Status.TheVariants as status
use Rattle.app_files.specs.declared.stop.Stop.{Stop}
use Rattle.app_files.specs.declared.stop.Stop.TheVariants.{Refused}
use Rattle.app_impact.specs.Report.{impact_text}
use Rattle.app_impact.specs.declared.answer.Impact.{Impact}
use Rattle.app_impact.specs.declared.answer.ImpactAnswer.{ImpactAnswer}
use Rattle.app_impact.specs.declared.answer.ImpactAnswer.TheVariants as answer

-- ---- the stages, in their order

-- These are the effects of the script.
pub record IsFound (t : Script) (found : Impact) : Type 0 where
  pub script : script_of found.script ≡ t
  pub typed : IsScript t
  pub effects : AreEffects t found.effects

-- The weakenings of the script are looked at.
abbrev pub Finds : Script → Stage Impact
Finds t = Judges (λ r. ⊥) (IsFound t)

-- The files ask for a script, as for a check, and its weakenings are looked at.
abbrev pub FindsFiles : Option Files → Names → Part (List ℕ) Impact
FindsFiles told names = Next (Asks told names) (λ t. Inside (Finds t))

-- ---- the answers

-- how the stages end with an answer
abbrev pub end_of : ImpactAnswer → Result Impact Stop
end_of (answer.Found found) = Ok found
end_of (answer.Refused r) = Err (Refused r)

abbrev pub IsAnswer : Option Files → Names → List (List ℕ) → ImpactAnswer → Type 0
IsAnswer told names calls a = FindsFiles told names calls (end_of a)

abbrev pub status_of : ImpactAnswer → Status
status_of (answer.Found found) = status.Done
status_of (answer.Refused r) = refusal_status r

abbrev pub text_of : ImpactAnswer → List ℕ
text_of (answer.Found found) = impact_text (script_of found.script) found.effects
text_of (answer.Refused r) = refusal_text r
