-- What the program may answer to its words, and what it then prints.
use Rattle.std.specs.Prelude.{◌≡◌, ◌⊎◌, ℕ, List, ◌∷◌, [], ◌==◌, suc, take, Option, Some, None, Result, Ok, Err, codes}
use Rattle.std.specs.Fmt.{decimal}
use Rattle.std.specs.List.{concat, position}
use Rattle.std.specs.Option.{option_map_or}
use Rattle.app_flow.specs.Files.{Files}
use Rattle.text_tree.specs.Grammar.{spec_form, script_form}
use Rattle.type_schema.specs.Schema.{Schema}
use Rattle.type_schema.specs.Script.{Script, IsScript}
use Rattle.type_schema.specs.SchemaViews.{script_of}
use Rattle.check_scripts.specs.Outcomes.{Outcome, accepted, leak, undecided, too_large, IsOutcome}
use Rattle.check_witness.specs.Printed.{witness_text}
use Rattle.check_report.specs.Reports.{undecided_text, too_large_text}
use Rattle.check_scripts.specs.Views.{outcome_data}
use Rattle.app_files.specs.declared.answer.Answer.{Answer}
use Rattle.app_files.specs.declared.answer.Answer.TheVariants as answer
use Rattle.app_files.specs.declared.answer.Checked.{Checked}
use Rattle.app_files.specs.declared.answer.Generated.{Generated}
use Rattle.app_files.specs.declared.refusal.Refusal.{Refusal}
use Rattle.app_files.specs.declared.refusal.Refusal.TheVariants as refusal
use Rattle.app_files.specs.declared.status.Status.{Status}
use Rattle.app_files.specs.declared.status.Status.TheVariants as status
use Rattle.app_files.specs.declared.stop.Stop.{Stop}
use Rattle.app_files.specs.declared.stop.Stop.TheVariants.{Refused}
use Rattle.app_files.specs.Generated.{generated, tightened_names, loosened_names}
use Rattle.app_files.specs.Loads.{Fetches, Reads}
use Rattle.app_files.specs.Report.{usage_text, missing_text, too_long_text, syntax_text, spec_types_text, script_types_text, accepted_text}
use Rattle.app_files.specs.Stages.{Stage, Then, Judges, Passes, Gives, Part, Inside, Calling, Next, InMemory}
use Rattle.app_files.specs.Typed.{TypesSpec, TypesScript}
use Rattle.app_files.specs.Words.{Names, check_of, gen_of, IsNoCommand}

-- ---- the stages, in their order

-- The text of that name is a specification: it is read, and then typed.
abbrev pub SpecOf : List ℕ → List ℕ → Stage Schema
SpecOf name text = Then (Reads spec_form name text) (TypesSpec name)

-- The text of that name is a script over the schema: it is read, and then typed.
abbrev pub ScriptOf : List ℕ → Schema → List ℕ → Stage Script
ScriptOf name s text = Then (Reads script_form name text) (TypesScript name s)

-- The texts ask for this script: the one is a specification, and then the other is a script over its schema.
abbrev pub AsksTexts : Names → List ℕ → List ℕ → Stage Script
AsksTexts names spec script = Then (SpecOf names.spec spec) (λ s. ScriptOf names.script s script)

-- The files ask for this script: the one is fetched and is a specification, and only then the other is fetched and is a script over its
-- schema. The calls are the names that are fetched.
abbrev pub Asks : Option Files → Names → Part (List ℕ) Script
Asks told names =
    Next (Calling names.spec (Then (Fetches told names.spec) (SpecOf names.spec)))
    (λ s. Calling names.script (Then (Fetches told names.script) (ScriptOf names.script s)))

-- the names that are fetched where the script is asked for
abbrev pub both_files : Names → List (List ℕ)
both_files names = names.spec ∷ names.script ∷ []

-- The script is well typed, and comes to this outcome.
pub record IsChecked (t : Script) (checked : Checked) : Type 0 where
  pub script : script_of checked.script ≡ t
  pub typed : IsScript t
  pub outcome : IsOutcome t (outcome_data checked.outcome)

-- The script is checked.
abbrev pub Checks : Script → Stage Checked
Checks t = Judges (λ r. ⊥) (IsChecked t)

-- The script of the text over the schema is checked.
abbrev pub ChecksText : List ℕ → Schema → List ℕ → Stage Checked
ChecksText name s text = Then (ScriptOf name s text) Checks

-- The script of the texts is checked.
abbrev pub ChecksTexts : Names → List ℕ → List ℕ → Stage Checked
ChecksTexts names spec script = Then (AsksTexts names spec script) Checks

-- The script of the files is checked.
abbrev pub ChecksFiles : Option Files → Names → Part (List ℕ) Checked
ChecksFiles told names = Next (Asks told names) (λ t. Inside (Checks t))

-- The two scripts that `gen N` makes are checked, one after the other, over files in memory.
abbrev pub Generates : ℕ → Stage Generated
Generates n =
    Then (InMemory (ChecksFiles (Some (generated n)) tightened_names))
    (λ tightened. Then (InMemory (ChecksFiles (Some (generated n)) loosened_names))
    (λ loosened. Passes (record { commands = n; tightened = tightened; loosened = loosened })))

-- What the words come to, and the names that are fetched for it: a script is checked, or the two that are generated are; or they are
-- refused.
pub data Runs (told : Option Files) (words calls : List (List ℕ)) (end : Result Answer Stop) : Type 0 where
  Checking : (names : Names) → check_of words ≡ Some names → Gives answer.Checked (ChecksFiles told names calls) end → Runs told words calls end
  Generating : (n : ℕ) → gen_of words ≡ Some n → calls ≡ [] → Gives answer.Generated (Generates n) end → Runs told words calls end
  NoCommand : IsNoCommand words → calls ≡ [] → end ≡ Err (Refused refusal.Usage) → Runs told words calls end

-- ---- the answers

-- how the stages end with an answer
abbrev pub end_of : Answer → Result Answer Stop
end_of (answer.Checked checked) = Ok (answer.Checked checked)
end_of (answer.Generated made) = Ok (answer.Generated made)
end_of (answer.Refused r) = Err (Refused r)

-- The words are answered so, and these names are fetched for it.
abbrev pub IsAnswer : Option Files → List (List ℕ) → List (List ℕ) → Answer → Type 0
IsAnswer told words calls a = Runs told words calls (end_of a)

abbrev pub refusal_status : Refusal → Status
refusal_status refusal.Usage = status.Usage
refusal_status (refusal.Missing name) = status.Missing
refusal_status (refusal.TooLong name) = status.TooLong
refusal_status (refusal.Text name err) = status.TextRefused
refusal_status (refusal.SpecTypes name err) = status.TypesRefused
refusal_status (refusal.ScriptTypes name fault) = status.TypesRefused

abbrev pub outcome_status : Outcome → Status
outcome_status (accepted n) = status.Done
outcome_status (leak w) = status.Leak
outcome_status (undecided duty cycle) = status.Undecided
outcome_status (too_large duty terms nodes) = status.TooLarge

abbrev pub status_of : Answer → Status
status_of (answer.Checked checked) = outcome_status (outcome_data checked.outcome)
status_of (answer.Generated made) = status.Done
status_of (answer.Refused r) = refusal_status r

abbrev pub refusal_text : Refusal → List ℕ
refusal_text refusal.Usage = usage_text
refusal_text (refusal.Missing name) = missing_text name
refusal_text (refusal.TooLong name) = too_long_text name
refusal_text (refusal.Text name err) = syntax_text name err
refusal_text (refusal.SpecTypes name err) = spec_types_text name err
refusal_text (refusal.ScriptTypes name fault) = script_types_text name fault

abbrev pub outcome_text : Script → Outcome → List ℕ
outcome_text t (accepted n) = accepted_text n
outcome_text t (leak w) = witness_text t w
outcome_text t (undecided duty cycle) = undecided_text t duty cycle
outcome_text t (too_large duty terms nodes) = too_large_text t duty terms nodes

abbrev pub checked_text : Checked → List ℕ
checked_text checked = outcome_text (script_of checked.script) (outcome_data checked.outcome)

-- the text up to the end of its first line
abbrev pub first_line : List ℕ → List ℕ
first_line text = option_map_or (λ at. take (suc at) text) (position (λ b. b == 10) text) text

-- how many obligations are accepted, or the first line of the report
abbrev pub found_text : List ℕ → Outcome → List ℕ
found_text text (accepted n) = concat (codes "obligations " ∷ decimal n ∷ codes " accepted\n" ∷ [])
found_text text (leak w) = first_line text
found_text text (undecided duty cycle) = first_line text
found_text text (too_large duty terms nodes) = first_line text

-- a line on each of the two scripts
abbrev pub generated_text : Generated → List ℕ
generated_text made =
    concat (codes "gen " ∷ decimal made.commands ∷ codes " commands " ∷ decimal made.commands ∷ codes " "
    ∷ found_text (checked_text made.tightened) (outcome_data made.tightened.outcome)
    ∷ codes "loosened " ∷ first_line (checked_text made.loosened) ∷ [])

abbrev pub text_of : Answer → List ℕ
text_of (answer.Checked checked) = checked_text checked
text_of (answer.Generated made) = generated_text made
text_of (answer.Refused r) = refusal_text r

-- ---- the statuses of answers to the same words on the same files

-- The statuses are one; or one is that of a leak where the other is that of no decision. A formula that is not stratified may be true on
-- some database and not be decided, so that both are answers.
abbrev pub AreAlike : Status → Status → Type 0
AreAlike a b = (a ≡ b) ⊎ ((a ≡ status.Leak) × (b ≡ status.Undecided)) ⊎ ((a ≡ status.Undecided) × (b ≡ status.Leak))
