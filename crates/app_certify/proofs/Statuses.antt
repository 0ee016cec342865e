-- The store meets no fault where it is not called.
use Rattle.std.proofs.Common.{◌≢◌, ℕ, List, sym, ◌∙◌}
use Rattle.std.specs.Prelude.{Option}
use Rattle.check_scripts.specs.Outcomes.{Outcome, accepted, leak, undecided, too_large}
use Rattle.check_scripts.specs.Views.{outcome_data}
use Rattle.certify_scripts.specs.declared.rechecked.Rechecked.{Rechecked}
use Rattle.certify_scripts.specs.declared.rechecked.Rechecked.TheVariants.{Certified, BadLine, Cyclic, TooLarge}
use Rattle.app_files.specs.Answer.{outcome_status, refusal_status}
use Rattle.app_files.specs.Ends as files
use Rattle.app_files.specs.Ends.{IsReported, Whole, Cut}
use Rattle.app_files.specs.declared.answer.Answer.TheVariants as files_answer
use Rattle.app_files.specs.declared.answer.Checked.{Checked}
use Rattle.app_files.specs.declared.refusal.Refusal.{Refusal}
use Rattle.app_files.specs.declared.refusal.Refusal.TheVariants as refusal
use Rattle.app_files.specs.declared.status.Status.{Status}
use Rattle.app_files.specs.declared.status.Status.TheVariants as exit
use Rattle.app_files.specs.Words.{Names}
use Rattle.app_flow.specs.Files.{Files}
use Rattle.app_certify.specs.Answer.{found_status, status_of}
use Rattle.app_certify.specs.Ends.{Answered, NoMemory, NoReport, RecheckEnds, Report, Unread}
use Rattle.app_certify.specs.Proved as proof
use Rattle.app_certify.specs.Proved.{IsProof, IsReportedAs, ProveEnds}
use Rattle.app_certify.specs.declared.answer.CertifyAnswer.{CertifyAnswer}
use Rattle.app_certify.specs.declared.answer.CertifyAnswer.TheVariants as answer

outcome_kept : (o : Outcome) → outcome_status o ≢ exit.StoreFault
outcome_kept (accepted n) e = cc
outcome_kept (leak w) e = cc
outcome_kept (undecided duty cycle) e = cc
outcome_kept (too_large duty terms nodes) e = cc

refusal_kept : (r : Refusal) → refusal_status r ≢ exit.StoreFault
refusal_kept refusal.Usage e = cc
refusal_kept (refusal.Missing name) e = cc
refusal_kept (refusal.TooLong name) e = cc
refusal_kept (refusal.Text name err) e = cc
refusal_kept (refusal.SpecTypes name err) e = cc
refusal_kept (refusal.ScriptTypes name fault) e = cc

found_kept : (found : Rechecked) → found_status found ≢ exit.StoreFault
found_kept (Certified n) e = cc
found_kept (BadLine line) e = cc
found_kept (Cyclic duty cycle) e = cc
found_kept (TooLarge duty terms nodes) e = cc

answer_kept : (a : CertifyAnswer) → status_of a ≢ exit.StoreFault
answer_kept (answer.Checked c) e = found_kept c.found e
answer_kept (answer.Refused r) e = refusal_kept r e

module _ (before after : Option (List ℕ)) (status : Status) where
  reported_kept : (report : List ℕ) (was : Status) → was ≢ exit.StoreFault → IsReported report was before after status → status ≢ exit.StoreFault
  reported_kept report was never (Whole e put) d = never (sym e ∙ d)
  reported_kept report was never (Cut e put) d = cc

  put_kept : (c : Checked) → files.IsPut (files_answer.Checked c) before after status → status ≢ exit.StoreFault
  put_kept c (files.Report r) d = reported_kept _ _ (outcome_kept (outcome_data c.outcome)) r d
  put_kept c (files.NoReport e) d = cc

  refused_kept : (r : Refusal) → files.IsPut (files_answer.Refused r) before after status → status ≢ exit.StoreFault
  refused_kept r (files.Report h) d = reported_kept _ _ (refusal_kept r) h d
  refused_kept r (files.NoReport e) d = cc

  judged_kept : (c : Checked) → IsReportedAs c before after status → status ≢ exit.StoreFault
  judged_kept c (proof.Proved n is (proof.Whole e h)) d = cc
  judged_kept c (proof.Proved n is (proof.Cut e h)) d = cc
  judged_kept c (proof.Proved n is (proof.Left e h)) d = cc
  judged_kept c (proof.Proved n is (proof.Open e duty h)) d = cc
  judged_kept c (proof.Found never put) d = put_kept c put d

  module _ (told : Option Files) (names : Names) (calls : List (List ℕ)) where
    pub prove_kept : ProveEnds told names calls before after status → status ≢ exit.StoreFault
    prove_kept (proof.Judged c h put) d = judged_kept c put d
    prove_kept (proof.Refused r h put) d = refused_kept r put d
    prove_kept (proof.Unread e h) d = cc
    prove_kept (proof.NoMemory e h) d = cc

    pub recheck_kept : (cert : List ℕ) → RecheckEnds told names cert calls before after status → status ≢ exit.StoreFault
    recheck_kept cert (Answered a h (Report r)) d = reported_kept _ _ (answer_kept a) r d
    recheck_kept cert (Answered a h (NoReport e)) d = cc
    recheck_kept cert (Unread e h) d = cc
    recheck_kept cert (NoMemory e h) d = cc
