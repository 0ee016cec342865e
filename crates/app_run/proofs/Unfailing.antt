-- A run over objects that never fail meets no fault of the store.
use Rattle.std.proofs.Common.{◌≡◌, ◌≢◌, ◌⊎◌, inl, inr, ℕ, Bool, true, false, List, sym, ◌∙◌, arith}
use Rattle.std.specs.Prelude.{Option, Some, None, MatchOption}
use Rattle.check_scripts.specs.Outcomes.{Outcome, accepted, leak, undecided, too_large}
use Rattle.check_scripts.specs.Views.{outcome_data}
use Rattle.app_flow.specs.Faults.{Rose}
use Rattle.app_flow.specs.Files.{Files}
use Rattle.app_certify.specs.Run.{IsCertifyRun}
use Rattle.app_certify.specs.Words.{Command, Prove, Recheck}
use Rattle.app_files.specs.Answer.{outcome_status, refusal_status, status_of}
use Rattle.app_files.specs.Ends.{Answered, Cut, Ends, IsPut, IsReported, NoMemory, NoReport, Report, Unread, Whole}
use Rattle.app_files.specs.declared.answer.Answer.{Answer}
use Rattle.app_files.specs.declared.answer.Answer.TheVariants as answer
use Rattle.app_files.specs.declared.refusal.Refusal.{Refusal}
use Rattle.app_files.specs.declared.refusal.Refusal.TheVariants as refusal
use Rattle.app_files.specs.declared.status.Status.{Status}
use Rattle.app_files.specs.declared.status.Status.TheVariants.{StoreFault}
use Rattle.app_run.specs.Run.{MatchServe}

-- ---- by the form of the words

pub of_match : {X : Type 0} (o : Option X) {A : Type 0} {B : X → Type 0} {P : Type 0} → MatchOption o A B → (A → P) → ((x : X) → B x → P) → P
of_match None h none some = none h
of_match (Some x) h none some = some x h

pub of_serve : (b : Bool) {A B P : Type 0} → MatchServe b A B → (A → P) → (B → P) → P
of_serve true h serves others = serves h
of_serve false h serves others = others h

-- a count that stays at nothing did not rise
pub still : {P : Type 0} → Rose 0 0 → P
still (inl less) = absurd (omega (arith, less))
still (inr e) = cc

-- ---- over files

outcome_kept : (o : Outcome) → outcome_status o ≢ StoreFault
outcome_kept (accepted n) e = cc
outcome_kept (leak w) e = cc
outcome_kept (undecided duty cycle) e = cc
outcome_kept (too_large duty terms nodes) e = cc

refusal_kept : (r : Refusal) → refusal_status r ≢ StoreFault
refusal_kept refusal.Usage e = cc
refusal_kept (refusal.Missing name) e = cc
refusal_kept (refusal.TooLong name) e = cc
refusal_kept (refusal.Text name err) e = cc
refusal_kept (refusal.SpecTypes name err) e = cc
refusal_kept (refusal.ScriptTypes name fault) e = cc

answer_kept : (a : Answer) → status_of a ≢ StoreFault
answer_kept (answer.Checked c) e = outcome_kept (outcome_data c.outcome) e
answer_kept (answer.Generated made) e = cc
answer_kept (answer.Refused r) e = refusal_kept r e

pub files_kept : (files : Option Files) (words calls : List (List ℕ)) (before after : Option (List ℕ)) (status : Status) → Ends files words calls before after status
    → status ≢ StoreFault
files_kept files words calls before after status (Answered a is (Report (Whole e put))) d = answer_kept a (sym e ∙ d)
files_kept files words calls before after status (Answered a is (Report (Cut e put))) d = cc
files_kept files words calls before after status (Answered a is (NoReport e)) d = cc
files_kept files words calls before after status (Unread e is) d = cc
files_kept files words calls before after status (NoMemory e is) d = cc

-- ---- on certificates

pub certify_kept : {F W : Type 0} (files : F → Option Files) (fetched : F → Option (List (List ℕ))) (unread : F → ℕ) (told : W → Option (List ℕ)) (unwritten : W → ℕ)
    (command : Command) (shelf shelf_after : F) (out out_after : W) (status : Status)
    → IsCertifyRun files fetched unread told unwritten command shelf shelf_after out out_after status → status ≢ StoreFault
certify_kept files fetched unread told unwritten (Prove names) shelf shelf_after out out_after status run = run.not_kept
certify_kept files fetched unread told unwritten (Recheck names cert) shelf shelf_after out out_after status run = run.not_kept
