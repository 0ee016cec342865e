-- What a call comes to that goes through stages.
use Rattle.std.proofs.Common.{◌≡◌, ℕ, List, [], ◌∷◌, refl, ap, ◌∙◌, subst}
use Rattle.std.specs.Prelude.{Option, Result, Ok, Err}
use Rattle.app_flow.specs.Files.{Files}
use Rattle.type_schema.specs.Schema.{Schema}
use Rattle.type_schema.specs.Script.{Script}
use Rattle.app_files.specs.declared.answer.Checked.{Checked}
use Rattle.app_files.specs.declared.stop.Stop.{Stop}
use Rattle.app_files.specs.declared.stop.Stop.TheVariants.{ReadFault}
use Rattle.app_files.specs.Answer.{SpecOf, ScriptOf, AsksTexts, both_files, Checks, ChecksFiles}
use Rattle.app_files.specs.Loads.{Fetches}
use Rattle.app_files.specs.Stages.{Stage, Then, Stops, Goes, ComesTo, Stopped, Went}
use Rattle.app_files.specs.Words.{Names}
pub use Rattle.app_files.proofs.Then.{comes-stopped, comes-behind, then-join, then-cut, stopped-too}

-- ---- faults

-- The stage meets no fault.
abbrev pub IsQuiet : {A : Type 0} → Stage A → Type 0
IsQuiet stage = stage (Err ReadFault) → ⊥

then-quiet : {A B : Type 0} (first : Stage A) (second : A → Stage B) → IsQuiet first → ((x : A) → IsQuiet (second x)) → IsQuiet (Then first second)
then-quiet first second one two (Stops s p e) =
    let same : s ≡ ReadFault = cc in
    one (subst (λ (z : Stop). first (Err z)) same p)
then-quiet first second one two (Goes x p h) = two x h

pub spec-quiet : (name text : List ℕ) → IsQuiet (SpecOf name text)
spec-quiet name text = then-quiet _ _ (λ h. h) (λ spec h. h)

pub script-quiet : (name : List ℕ) (s : Schema) (text : List ℕ) → IsQuiet (ScriptOf name s text)
script-quiet name s text = then-quiet _ _ (λ h. h) (λ script h. h)

pub texts-quiet : (names : Names) (spec script : List ℕ) → IsQuiet (AsksTexts names spec script)
texts-quiet names spec script = then-quiet _ _ (spec-quiet names.spec spec) (λ s. script-quiet names.script s script)

pub comes-quiet : {A C : Type 0} (stage : Stage A) (seen : C → A) (r : Result C Stop) → IsQuiet stage → ComesTo stage seen r → r ≡ Err ReadFault → ⊥
comes-quiet stage seen (Ok x) quiet h e = cc
comes-quiet stage seen (Err s) quiet h e =
    let same : s ≡ ReadFault = cc in
    quiet (subst (λ (z : Stop). stage (Err z)) same h)

pub checked-quiet : (asks : Stage Script) (r : Result Checked Stop) → IsQuiet asks → Then asks Checks r → r ≡ Err ReadFault → ⊥
checked-quiet asks r quiet h e = then-quiet asks Checks quiet (λ t never. never) (subst (λ (z : Result Checked Stop). Then asks Checks z) e h)

-- ---- files

pub files-cut : (told : Option Files) (names : Names) (r : Result Checked Stop) (s : Stop) → Then (Fetches told names.spec) (SpecOf names.spec) (Err s) → r ≡ Err s → ChecksFiles told names (names.spec ∷ []) r
files-cut told names r s p e = Stopped s (Stopped s (refl, p) refl) e

pub files-checked : (told : Option Files) (names : Names) (r : Result Checked Stop) (s : Schema) → Then (Fetches told names.spec) (SpecOf names.spec) (Ok s)
    → Then (Then (Fetches told names.script) (ScriptOf names.script s)) Checks r → ChecksFiles told names (both_files names) r
files-checked told names r s p (Stops t q e) = Stopped t (Went s (names.spec ∷ []) (names.script ∷ []) (refl, p) (refl, q) refl) e
files-checked told names r s p (Goes t q h) = Went t (both_files names) [] (Went s (names.spec ∷ []) (names.script ∷ []) (refl, p) (refl, q) refl) (refl, h) refl
