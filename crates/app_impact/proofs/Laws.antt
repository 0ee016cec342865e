-- What the end of `impact` says of the script.
use Rattle.std.proofs.Common.{◌≡◌, ◌≢◌, inl, inr, ℕ, List, [], ◌∷◌, refl, sym, ◌∙◌, subst}
use Rattle.std.specs.Prelude.{Option, Some, Result, Ok, Err}
use Rattle.app_flow.specs.Files.{Files}
use Rattle.app_flow.specs.Outside.{IsRead, IsWritten}
use Rattle.app_flow.specs.Told.{Appends}
use Rattle.type_schema.specs.Schema.{Schema}
use Rattle.type_schema.specs.Script.{Script}
use Rattle.type_schema.specs.SchemaViews.{script_of}
use Rattle.app_files.specs.Answer.{Asks, ScriptOf, SpecOf, both_files, refusal_status}
use Rattle.app_files.specs.Ends.{IsSilent, Whole, Cut}
use Rattle.app_files.specs.Loads.{Fetches}
use Rattle.app_files.specs.Stages.{Then, Stopped, Went}
use Rattle.app_files.specs.Words.{Names}
use Rattle.app_files.specs.declared.refusal.Refusal.{Refusal}
use Rattle.app_files.specs.declared.refusal.Refusal.TheVariants as refusal
use Rattle.app_files.specs.declared.status.Status.{Status}
use Rattle.app_files.specs.declared.status.Status.TheVariants as exit
use Rattle.app_files.specs.declared.stop.Stop.{Stop}
use Rattle.app_files.specs.declared.stop.Stop.TheVariants as stop
use Rattle.app_files.proofs.Headline.{if-some, not-done, whole}
use Rattle.app_files.proofs.OneStatus.{asks-one}
use Rattle.app_impact.specs.Answer.{Finds, FindsFiles, IsFound, end_of, status_of, text_of}
use Rattle.app_impact.specs.Ends.{Answered, ImpactEnds, NoMemory, NoReport, Report, Unread}
use Rattle.app_impact.specs.Headline.{ImpactHeadline, IsFaulty, IsTold}
use Rattle.app_impact.specs.Report.{impact_text}
use Rattle.app_impact.specs.Run.{IsImpactRun}
use Rattle.app_impact.specs.declared.answer.Impact.{Impact}
use Rattle.app_impact.specs.declared.answer.ImpactAnswer.{ImpactAnswer}
use Rattle.app_impact.specs.declared.answer.ImpactAnswer.TheVariants as answer
use Rattle.app_impact.proofs.Told.{told_all, told_true}

-- ---- the stages, one after another

module _ (told : Option Files) (names : Names) (r : Result Impact Stop) where
  pub spec_cut : (s : Stop) → Then (Fetches told names.spec) (SpecOf names.spec) (Err s) → r ≡ Err s → FindsFiles told names (names.spec ∷ []) r
  spec_cut s p e = Stopped s (Stopped s (refl, p) refl) e

  pub script_cut : (schema : Schema) (s : Stop) → Then (Fetches told names.spec) (SpecOf names.spec) (Ok schema) → Then (Fetches told names.script) (ScriptOf names.script schema) (Err s) → r ≡ Err s
      → FindsFiles told names (both_files names) r
  script_cut schema s p q e = Stopped s (Went schema (names.spec ∷ []) (names.script ∷ []) (refl, p) (refl, q) refl) e

  pub all_files : (schema : Schema) (t : Script) → Then (Fetches told names.spec) (SpecOf names.spec) (Ok schema) → Then (Fetches told names.script) (ScriptOf names.script schema) (Ok t)
      → Finds t r → FindsFiles told names (both_files names) r
  all_files schema t p q h = Went t (both_files names) [] (Went schema (names.spec ∷ []) (names.script ∷ []) (refl, p) (refl, q) refl) (refl, h) refl

-- ---- ends

module _ (told : Option Files) (names : Names) (before after : Option (List ℕ)) (status : Status) where
  faulty : status ≢ exit.Done → IsFaulty status → ImpactHeadline told names before after status
  faulty not_done fault = record { done = λ e. absurd (not_done e); decided = if-some told _ (λ files is t asks. inr fault) }

  cut : status ≡ exit.WriteFault → ImpactHeadline told names before after status
  cut e = faulty (λ d. let no : exit.WriteFault ≡ exit.Done = sym e ∙ d in cc) (inr (inl e))

  no_memory : status ≡ exit.OutOfMemory → ImpactHeadline told names before after status
  no_memory e = faulty (λ d. let no : exit.OutOfMemory ≡ exit.Done = sym e ∙ d in cc) (inr (inr e))

  unread : status ≡ exit.ReadFault → ImpactHeadline told names before after status
  unread e = faulty (λ d. let no : exit.ReadFault ≡ exit.Done = sym e ∙ d in cc) (inl e)

  told_of : (calls : List (List ℕ)) (t : Script) (c : Impact) → Asks told names calls (Ok t) → IsFound t c → Appends before after (impact_text (script_of c.script) c.effects) → IsTold told names before after
  told_of calls t c asked is put = record {
    script = t;
    asks = whole told names calls t asked;
    effects = c.effects;
    effects_of = is.effects;
    weakenings = told_all t is.typed c.effects is.effects;
    true_of = told_true t is.typed c.effects is.effects;
    put = subst (λ (z : Script). Appends before after (impact_text z c.effects)) is.script put;
  }

  of_found : (calls : List (List ℕ)) (c : Impact) → FindsFiles told names calls (Ok c) → status ≡ exit.Done → Appends before after (impact_text (script_of c.script) c.effects)
      → ImpactHeadline told names before after status
  of_found calls c (Stopped s p d) e put = absurd cc
  of_found calls c (Went t front back asked (none, is) split) e put =
      record { done = λ _. told_of front t c asked is put; decided = if-some told _ (λ files known u asks. inl e) }

  none-asked : (calls others : List (List ℕ)) (r : Refusal) (u : Script) (files : Files) → told ≡ Some files → FindsFiles told names calls (Err (stop.Refused r)) → Asks (Some files) names others (Ok u) → ⊥
  none-asked calls others r u files is (Went t front back asked (none, refused) split) other = refused
  none-asked calls others r u files is (Stopped s asked e) other =
      let refused : s ≡ stop.Refused r = cc in
      let here = subst (λ (z : Stop). Asks told names calls (Err z)) refused asked in
      let there = subst (λ (o : Option Files). Asks o names calls (Err (stop.Refused r))) is here in
      let differ = asks-one files names calls others (Err (stop.Refused r)) (Ok u) tt tt there other in
      cc

  of_refused : (calls : List (List ℕ)) (r : Refusal) → FindsFiles told names calls (Err (stop.Refused r)) → status ≡ refusal_status r → ImpactHeadline told names before after status
  of_refused calls r h e = record {
    done = λ d. absurd (not-done told names before after status r (sym e ∙ d));
    decided = if-some told _ (λ files known u asks. absurd (none-asked calls (both_files names) r u files known h asks));
  }

  of_answer : (calls : List (List ℕ)) (a : ImpactAnswer) → FindsFiles told names calls (end_of a) → status ≡ status_of a → Appends before after (text_of a) → ImpactHeadline told names before after status
  of_answer calls (answer.Found c) h e put = of_found calls c h e put
  of_answer calls (answer.Refused r) h e put = of_refused calls r h e

  headline : (calls : List (List ℕ)) → ImpactEnds told names calls before after status → ImpactHeadline told names before after status
  headline calls (Answered a h (Report (Whole e put))) = of_answer calls a h e put
  headline calls (Answered a h (Report (Cut e front))) = cut e
  headline calls (Answered a h (NoReport e)) = no_memory e
  headline calls (Unread e h) = unread e
  headline calls (NoMemory e h) = no_memory e

  -- ---- the store is not called

  refusal_kept : (r : Refusal) → refusal_status r ≢ exit.StoreFault
  refusal_kept refusal.Usage e = cc
  refusal_kept (refusal.Missing name) e = cc
  refusal_kept (refusal.TooLong name) e = cc
  refusal_kept (refusal.Text name err) e = cc
  refusal_kept (refusal.SpecTypes name err) e = cc
  refusal_kept (refusal.ScriptTypes name fault) e = cc

  answer_kept : (a : ImpactAnswer) → status_of a ≢ exit.StoreFault
  answer_kept (answer.Found c) e = cc
  answer_kept (answer.Refused r) e = refusal_kept r e

  kept : (calls : List (List ℕ)) → ImpactEnds told names calls before after status → status ≢ exit.StoreFault
  kept calls (Answered a h (Report (Whole e put))) d = answer_kept a (sym e ∙ d)
  kept calls (Answered a h (Report (Cut e front))) d = cc
  kept calls (Answered a h (NoReport e)) d = cc
  kept calls (Unread e h) d = cc
  kept calls (NoMemory e h) d = cc

module _ {F W : Type 0} (files : F → Option Files) (fetched : F → Option (List (List ℕ))) (unread_ : F → ℕ) (told : W → Option (List ℕ)) (unwritten : W → ℕ) where
  -- an end with what was done to the objects is a run
  pub impact_run : (names : Names) (shelf shelf_after : F) (out out_after : W) (status : Status) (calls : List (List ℕ)) → ImpactEnds (files shelf) names calls (told out) (told out_after) status
      → IsRead files fetched unread_ shelf shelf_after calls (status ≡ exit.ReadFault) → IsWritten unwritten out out_after (IsSilent status) (status ≡ exit.WriteFault)
      → IsImpactRun files fetched unread_ told unwritten names shelf shelf_after out out_after status
  impact_run names shelf shelf_after out out_after status calls ends read written = record {
    calls = calls;
    ends = ends;
    headline = headline (files shelf) names (told out) (told out_after) status calls ends;
    read = read;
    written = written;
    not_kept = kept (files shelf) names (told out) (told out_after) status calls ends;
  }
