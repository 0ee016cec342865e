-- What the end of `prove` says of the script.
use Rattle.std.proofs.Common.{◌≡◌, ◌≢◌, ◌≤◌, inl, inr, ℕ, List, refl, ap, sym, ◌∙◌, subst}
use Rattle.std.specs.Prelude.{Option, Ok, Err}
use Rattle.app_flow.specs.Files.{Files}
use Rattle.app_flow.specs.Outside.{IsRead, IsWritten}
use Rattle.type_schema.specs.Script.{Script}
use Rattle.type_schema.specs.SchemaViews.{script_of}
use Rattle.data_meaning.specs.Secure.{IsStepSecure}
use Rattle.check_scripts.specs.Outcomes.{Outcome, accepted}
use Rattle.check_scripts.specs.Views.{outcome_data}
use Rattle.check_scripts.specs.declared.outcome.Outcome as code
use Rattle.check_scripts.specs.declared.outcome.Outcome.TheVariants.{Accepted, Leak, Undecided, TooLarge}
use Rattle.certify_proving.specs.Proved.{IsFault, IsProved}
use Rattle.certify_proving.specs.declared.fault.ProveErr.{ProveErr}
use Rattle.certify_proving.specs.declared.fault.ProveErr.TheVariants as err
use Rattle.certify_proving.specs.declared.fault.ProveErr.TheVariants.{NotRefuted}
use Rattle.app_files.specs.Answer.{Asks, ChecksFiles, IsChecked, both_files, outcome_status}
use Rattle.app_files.specs.Ends.{IsPut, IsSilent, Report, NoReport, Whole, Cut}
use Rattle.app_files.specs.Headline.{Accepts, Headline, Verdict}
use Rattle.app_files.specs.Stages.{Stopped, Went}
use Rattle.app_files.specs.Words.{Names}
use Rattle.app_files.specs.declared.answer.Answer.TheVariants as answer
use Rattle.app_files.specs.declared.answer.Checked.{Checked}
use Rattle.app_files.specs.declared.refusal.Refusal.{Refusal}
use Rattle.app_files.specs.declared.status.Status.{Status}
use Rattle.app_files.specs.declared.status.Status.TheVariants as exit
use Rattle.app_files.specs.declared.stop.Stop.TheVariants as stop
use Rattle.app_files.proofs.Headline.{cut, found, if-some, no_memory, not-done, one-script, refused, unread, verdict, whole}
use Rattle.app_certify.specs.Headline.{ProveHeadline}
use Rattle.app_certify.specs.Proved as proof
use Rattle.app_certify.specs.Proved.{IsProof, IsReportedAs, ProveEnds, fault_status, Proved, Found, Judged, Refused, Unread, NoMemory}
use Rattle.app_certify.proofs.Statuses.{prove_kept}
use Rattle.app_certify.specs.Run.{IsProveRun}

-- ---- certificates that were not written to their end

module _ (t : Script) {O : Type 0} (told : O → Option (List ℕ)) (faults : O → ℕ) (old new : O) where
  pub failed : (e : ProveErr) → IsFault t told faults old new e → IsProof t (told old) (told new) (fault_status e)
  failed (NotRefuted duty) h = proof.Open refl duty h
  failed err.WriteFault h = proof.Cut refl h.1
  failed err.OutOfMemory (inl same) = proof.Left refl (inl (ap told same))
  failed err.OutOfMemory (inr left) = proof.Left refl (inr left)

  pub not_read : (e : ProveErr) → fault_status e ≢ exit.ReadFault
  not_read (NotRefuted duty) d = cc
  not_read err.WriteFault d = cc
  not_read err.OutOfMemory d = cc

  pub failed_written : (e : ProveErr) → IsFault t told faults old new e → faults old ≤ faults new → IsWritten faults old new (fault_status e ≡ exit.ReadFault) (fault_status e ≡ exit.WriteFault)
  failed_written (NotRefuted duty) h falls = record { kept = λ d. absurd cc; counted = λ d. absurd cc; never_falls = falls }
  failed_written err.WriteFault h falls = record { kept = λ d. absurd cc; counted = λ d. h.0; never_falls = falls }
  failed_written err.OutOfMemory h falls = record { kept = λ d. absurd cc; counted = λ d. absurd cc; never_falls = falls }

-- ---- scripts that were checked

-- what was checked is a checked script
pub checked_of : (told : Option Files) (names : Names) (calls : List (List ℕ)) (c : Checked) → ChecksFiles told names calls (Ok c) → IsChecked (script_of c.script) c
checked_of told names calls c (Stopped s p d) = absurd cc
checked_of told names calls c (Went t front back asked (none, is) split) = subst (λ (z : Script). IsChecked z c) (sym is.script) is

-- another outcome is no acceptance
pub never_accepted : (o : code.Outcome) → ((n : ℕ) → o ≡ Accepted n → ⊥) → (n : ℕ) → outcome_data o ≢ accepted n
never_accepted (Accepted m) never n e = never m refl
never_accepted (Leak w) never n e = cc
never_accepted (Undecided duty cycle) never n e = cc
never_accepted (TooLarge duty terms nodes) never n e = cc

-- silent in fewer cases
pub less_silent : {O : Type 0} (faults : O → ℕ) (old new : O) (status : Status) → IsWritten faults old new (IsSilent status) (status ≡ exit.WriteFault) → IsWritten faults old new (status ≡ exit.ReadFault) (status ≡ exit.WriteFault)
less_silent faults old new status h = record { kept = λ e. h.kept (inl e); counted = h.counted; never_falls = h.never_falls }

module _ (told : Option Files) (names : Names) (before after : Option (List ℕ)) (status : Status) where
  -- with another status nothing is said of a certificate
  other : Headline told names before after status → status ≢ exit.Done → ProveHeadline told names before after status
  other checks not_done = record { checks = checks; proved = λ d. absurd (not_done d) }

  cut_off : status ≡ exit.WriteFault → ProveHeadline told names before after status
  cut_off e = other (cut told names before after status e) (λ d. let no : exit.WriteFault ≡ exit.Done = sym e ∙ d in cc)

  without_memory : status ≡ exit.OutOfMemory → ProveHeadline told names before after status
  without_memory e = other (no_memory told names before after status e) (λ d. let no : exit.OutOfMemory ≡ exit.Done = sym e ∙ d in cc)

  read_fault : status ≡ exit.ReadFault → ProveHeadline told names before after status
  read_fault e = other (unread told names before after status e) (λ d. let no : exit.ReadFault ≡ exit.Done = sym e ∙ d in cc)

  -- an accepted script is secure, and so much is said of its certificate
  proved : (calls : List (List ℕ)) (t : Script) (n : ℕ) → Asks told names calls (Ok t) → Verdict t (accepted n) → status ≡ exit.Done → IsProved t before after → ProveHeadline told names before after status
  proved calls t n asked v e h = record {
    checks = record {
      secure = λ _. (t, whole told names calls t asked, v.0, v.1);
      leak = λ d. absurd (let no : exit.Done ≡ exit.Leak = sym e ∙ d in cc);
      decided =
          if-some told _ (λ files is u asks decidable.
          Accepts e (subst (λ (z : Script). IsStepSecure z) (one-script told names before after status calls (both_files names) t u files is asked asks) v.0));
    };
    proved = λ _. (t, whole told names calls t asked, h);
  }

  of_proof : (calls : List (List ℕ)) (t : Script) (n : ℕ) → Asks told names calls (Ok t) → Verdict t (accepted n) → IsProof t before after status → ProveHeadline told names before after status
  of_proof calls t n asked v (proof.Whole e h) = proved calls t n asked v e h
  of_proof calls t n asked v (proof.Cut e h) = cut_off e
  of_proof calls t n asked v (proof.Left e h) = without_memory e
  of_proof calls t n asked v (proof.Open e duty h) = without_memory e

  not_accepted : (o : Outcome) → ((n : ℕ) → o ≢ accepted n) → outcome_status o ≢ exit.Done
  not_accepted (accepted n) never d = never n refl
  not_accepted o never d = cc

  of_found : (calls : List (List ℕ)) (c : Checked) → ChecksFiles told names calls (Ok c) → ((n : ℕ) → outcome_data c.outcome ≢ accepted n) → IsPut (answer.Checked c) before after status → ProveHeadline told names before after status
  of_found calls c h never (Report (Whole e put)) = other (found told names before after status calls c h e put) (λ d. not_accepted (outcome_data c.outcome) never (sym e ∙ d))
  of_found calls c h never (Report (Cut e put)) = cut_off e
  of_found calls c h never (NoReport e) = without_memory e

  of_checked : (calls : List (List ℕ)) (c : Checked) → ChecksFiles told names calls (Ok c) → IsReportedAs c before after status → ProveHeadline told names before after status
  of_checked calls c (Stopped s p d) h = absurd cc
  of_checked calls c (Went t front back asked (none, is) split) (Found never put) = of_found calls c (Went t front back asked (none, is) split) never put
  of_checked calls c (Went t front back asked (none, is) split) (Proved n e p) =
      of_proof front t n asked (subst (λ (o : Outcome). Verdict t o) e (verdict t is.typed (outcome_data c.outcome) is.outcome)) (subst (λ (z : Script). IsProof z before after status) is.script p)

  of_refused : (calls : List (List ℕ)) (r : Refusal) → ChecksFiles told names calls (Err (stop.Refused r)) → IsPut (answer.Refused r) before after status → ProveHeadline told names before after status
  of_refused calls r h (Report (Whole e put)) = other (refused told names before after status calls r h e) (λ d. not-done told names before after status r (sym e ∙ d))
  of_refused calls r h (Report (Cut e put)) = cut_off e
  of_refused calls r h (NoReport e) = without_memory e

  headline : (calls : List (List ℕ)) → ProveEnds told names calls before after status → ProveHeadline told names before after status
  headline calls (Judged c h put) = of_checked calls c h put
  headline calls (Refused r h put) = of_refused calls r h put
  headline calls (Unread e h) = read_fault e
  headline calls (NoMemory e h) = without_memory e

module _ {F W : Type 0} (files : F → Option Files) (fetched : F → Option (List (List ℕ))) (unread_ : F → ℕ) (told : W → Option (List ℕ)) (unwritten : W → ℕ) where
  -- an end with what was done to the objects is a run
  pub prove_run : (names : Names) (shelf shelf_after : F) (out out_after : W) (status : Status) (calls : List (List ℕ)) → ProveEnds (files shelf) names calls (told out) (told out_after) status
      → IsRead files fetched unread_ shelf shelf_after calls (status ≡ exit.ReadFault) → IsWritten unwritten out out_after (status ≡ exit.ReadFault) (status ≡ exit.WriteFault)
      → IsProveRun files fetched unread_ told unwritten names shelf shelf_after out out_after status
  prove_run names shelf shelf_after out out_after status calls ends read written = record {
    calls = calls;
    ends = ends;
    headline = headline (files shelf) names (told out) (told out_after) status calls ends;
    read = read;
    written = written;
    not_kept = prove_kept (told out) (told out_after) status (files shelf) names calls ends;
  }
