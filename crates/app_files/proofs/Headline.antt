-- What the end of a run says of the script.
use Rattle.std.proofs.Common.{◌≡◌, ◌≢◌, ◌⊎◌, inl, inr, ℕ, List, refl, ap, sym, ◌∙◌, subst}
use Rattle.std.specs.Prelude.{⊤, [], ◌∷◌, Option, Some, None, IfOk, IfSome, MatchOption, Result, Ok, Err}
use Rattle.app_flow.specs.Files.{Files}
use Rattle.app_flow.specs.Outside.{IsRead, IsWritten}
use Rattle.app_flow.specs.Told.{Appends}
use Rattle.type_schema.specs.declared.rights.Right.{Right}
use Rattle.type_schema.specs.declared.rights.Right.TheVariants.{Read}
use Rattle.type_schema.specs.declared.rights.Target.{Target}
use Rattle.type_schema.specs.Script.{Script, IsScript}
use Rattle.type_schema.specs.SchemaViews.{script_of}
use Rattle.check_scripts.specs.Views.{outcome_data}
use Rattle.duty_meaning.specs.declared.duty.Duty.{Duty}
use Rattle.duty_meaning.specs.Flows.{cell_of}
use Rattle.duty_meaning.specs.Gains.{IsGainDuty}
use Rattle.duty_meaning.specs.Listed.{IsUseDuty}
use Rattle.duty_meaning.proofs.Listed.{from-list}
use Rattle.data_meaning.specs.declared.cells.Cell.{Cell}
use Rattle.data_meaning.specs.Gain.{GainAt, AddsAt, FlowAt}
use Rattle.data_meaning.specs.Secure.{IsStepSecure}
use Rattle.check_scripts.specs.FailsBy.{FailsBy, IsGainOf, IsLeakOf}
use Rattle.check_scripts.specs.Outcomes.{Outcome, accepted, leak, undecided, too_large, IsOutcome}
use Rattle.check_scripts.specs.Sound.{IsDecidable, IsSettled, Accepted, Leak}
use Rattle.check_scripts.proofs.Sound.{accepted_are_secure, leaks_are_real, due-listed, decidable_are_settled}
use Rattle.check_witness.specs.Witness.{Witness}
use Rattle.app_files.specs.declared.answer.Answer.{Answer}
use Rattle.app_files.specs.declared.answer.Answer.TheVariants as answer
use Rattle.app_files.specs.declared.answer.Checked.{Checked}
use Rattle.app_files.specs.declared.refusal.Refusal.{Refusal}
use Rattle.app_files.specs.declared.refusal.Refusal.TheVariants as refusal
use Rattle.app_files.specs.declared.status.Status.{Status}
use Rattle.app_files.specs.declared.status.Status.TheVariants as exit
use Rattle.app_files.specs.declared.stop.Stop.{Stop}
use Rattle.app_files.specs.declared.stop.Stop.TheVariants as stop
use Rattle.app_files.specs.Answer.{Asks, both_files, IsChecked, Checks, ChecksFiles, Runs, Checking, Generating, NoCommand, end_of, IsAnswer, refusal_status, outcome_status, status_of, outcome_text, text_of}
use Rattle.app_files.specs.Ends.{IsReported, Whole, Cut, IsPut, Report, NoReport, Ends, Answered, Unread, NoMemory, IsSilent, IsOfUsage}
use Rattle.app_files.specs.Headline.{LeaksCell, IsReal, Verdict, IsJudged, ShowsLeak, IsDecided, Accepts, Leaks, Faults, Headline}
use Rattle.app_files.specs.Run.{IsFilesRun}
use Rattle.app_files.specs.Stages.{Stage, Then, Stops, Goes, Gives, Stopped, Went}
use Rattle.app_files.specs.Words.{Names, check_of, gen_of, IsNoCommand}
use Rattle.app_files.proofs.OneStatus.{asks-one, not-both}

-- ---- witnesses

gain-real : (t : Script) (duty : Duty) (w : Witness) → w.command ≡ duty.command → w.target ≡ duty.target → w.right ≡ duty.right → IsGainOf t duty w → IsReal t w
gain-real t duty w command target right h =
    subst (λ (cell : Option Cell). MatchOption cell (GainAt t w.command w.target w.right w.base w.row w.who) (LeaksCell t w)) (sym h.no_cell)
    (subst (λ (k : ℕ). GainAt t k w.target w.right w.base w.row w.who) (sym command)
    (subst (λ (on : Target). GainAt t duty.command on w.right w.base w.row w.who) (sym target)
    (subst (λ (r : Right). GainAt t duty.command duty.target r w.base w.row w.who) (sym right) h.gain)))

flow-real : (t : Script) (duty : Duty) (w : Witness) (spot : ℕ) → w.command ≡ duty.command → w.target ≡ duty.target → w.right ≡ Read → IsLeakOf t duty w spot → IsReal t w
flow-real t duty w spot command target right h =
    subst (λ (cell : Option Cell). MatchOption cell (GainAt t w.command w.target w.right w.base w.row w.who) (LeaksCell t w)) (sym h.cell)
    (record {
      flow = subst (λ (k : ℕ). FlowAt t k w.base w.row w.who (cell_of h.at h.source)) (sym command) h.flow;
      model = h.model;
      field = h.field;
      init = h.init;
      adds = subst (λ (k : ℕ). AddsAt t k h.model h.field h.init) (sym command) h.duty_is.adds;
      target = target ∙ h.duty_is.target;
      right = right;
    })

fails-real : (t : Script) (duty : Duty) (w : Witness) (spot : Option ℕ) → w.command ≡ duty.command → w.target ≡ duty.target → w.right ≡ duty.right
    → MatchOption spot (IsGainDuty t duty) (IsUseDuty t duty) → MatchOption spot (IsGainOf t duty w) (IsLeakOf t duty w) → IsReal t w
fails-real t duty w None command target right of h = gain-real t duty w command target right h
fails-real t duty w (Some spot) command target right of h = flow-real t duty w spot command target (right ∙ of.right) h

leak-real : (t : Script) → IsScript t → (w : Witness) → IsOutcome t (leak w) → IsReal t w
leak-real t is w h =
    let by = h.over.unsettled.fails in
    fails-real t h.over.duty w h.over.duty.spot by.command by.target by.right (from-list t is h.over.duty (due-listed t h.signature h.over.duty h.over.due)) by.fails

-- ---- settled outcomes

not-undecided : (o : Outcome) → IsSettled o → (duty : Duty) (cycle : List ℕ) → o ≡ undecided duty cycle → ⊥
not-undecided o (Accepted n) duty cycle e = cc
not-undecided o (Leak w) duty cycle e = cc

not-too-large : (o : Outcome) → IsSettled o → (duty : Duty) (terms nodes : ℕ) → o ≡ too_large duty terms nodes → ⊥
not-too-large o (Accepted n) duty terms nodes e = cc
not-too-large o (Leak w) duty terms nodes e = cc

-- ---- outcomes

-- What is found says of the script what its outcome does.
pub verdict : (t : Script) → IsScript t → (o : Outcome) → IsOutcome t o → Verdict t o
verdict t is (accepted n) h = accepted_are_secure t is n h
verdict t is (leak w) h = (h.over.unsettled.tables, leak-real t is w h, leaks_are_real t w h)
verdict t is (undecided duty cycle) h = λ decidable. not-undecided (undecided duty cycle) (decidable_are_settled t decidable (undecided duty cycle) h) duty cycle refl
verdict t is (too_large duty terms nodes) h =
    λ decidable. not-too-large (too_large duty terms nodes) (decidable_are_settled t decidable (too_large duty terms nodes) h) duty terms nodes refl

-- Where a script is checked, it is the one that is asked for.
pub judged : (asks : Stage Script) (c : Checked) → Then asks Checks (Ok c) → IsJudged asks c
judged asks c (Stops s p e) = absurd cc
judged asks c (Goes t asked h) =
    subst (λ (z : Script). asks (Ok z) × Verdict z (outcome_data c.outcome)) (sym h.script) (asked, verdict t h.typed (outcome_data c.outcome) h.outcome)

pub judged-so : (asks : Stage Script) (r : Result Checked Stop) → Then asks Checks r → IfOk r (IsJudged asks)
judged-so asks (Ok c) h = judged asks c h
judged-so asks (Err s) h = tt

-- ---- calls

-- Where the files ask for a script, both were fetched.
pub whole : (told : Option Files) (names : Names) (calls : List (List ℕ)) (t : Script) → Asks told names calls (Ok t) → Asks told names (both_files names) (Ok t)
whole told names calls t (Stopped s p e) = absurd cc
whole told names calls t (Went s before after (one, p) (other, q) split) = Went s (names.spec ∷ []) (names.script ∷ []) (refl, p) (refl, q) refl

-- Where no files are to be checked, nothing is fetched.
pub none-fetched : (told : Option Files) (words calls : List (List ℕ)) (end : Result Answer Stop) → check_of words ≡ None → Runs told words calls end → calls ≡ []
none-fetched told words calls end none (Checking names is gives) = absurd cc
none-fetched told words calls end none (Generating n is still gives) = still
none-fetched told words calls end none (NoCommand neither still e) = still

pub none-called : (told : Option Files) (words calls : List (List ℕ)) (before after : Option (List ℕ)) (status : Status) → check_of words ≡ None → Ends told words calls before after status → calls ≡ []
none-called told words calls before after status none (Answered a is put) = none-fetched told words calls (end_of a) none is
none-called told words calls before after status none (Unread e runs) = none-fetched told words calls (Err stop.ReadFault) none runs
none-called told words calls before after status none (NoMemory e runs) = none-fetched told words calls (Err stop.OutOfMemory) none runs

-- ---- ends

pub if-some : {A : Type 0} (o : Option A) (P : A → Type 0) → ((x : A) → o ≡ Some x → P x) → IfSome o P
if-some None P h = tt
if-some (Some x) P h = h x refl

module _ (told : Option Files) (names : Names) (before after : Option (List ℕ)) (status : Status) where
  -- a fault or want of memory ended the run
  pub faulty : status ≢ exit.Done → status ≢ exit.Leak → (status ≡ exit.ReadFault) ⊎ (status ≡ exit.WriteFault) ⊎ (status ≡ exit.OutOfMemory) → Headline told names before after status
  faulty not_done not_leak fault = record {
    secure = λ e. absurd (not_done e);
    leak = λ e. absurd (not_leak e);
    decided = if-some told _ (λ files is t asked decidable. Faults fault);
  }

  -- the words ask for no other script
  pub one-script : (calls others : List (List ℕ)) (t u : Script) (files : Files) → told ≡ Some files → Asks told names calls (Ok t) → Asks (Some files) names others (Ok u) → t ≡ u
  one-script calls others t u files is asked other =
      let same = asks-one files names calls others (Ok t) (Ok u) tt tt (subst (λ (o : Option Files). Asks o names calls (Ok t)) is asked) other in
      cc

  pub checked : (calls : List (List ℕ)) (t : Script) → Asks told names calls (Ok t) → (o : Outcome) → Verdict t o → status ≡ outcome_status o → Appends before after (outcome_text t o)
      → Headline told names before after status
  checked calls t asked (accepted n) v e put = record {
    secure = λ _. (t, whole told names calls t asked, v.0, v.1);
    leak = λ d. absurd (let no : exit.Done ≡ exit.Leak = sym e ∙ d in cc);
    decided =
        if-some told _ (λ files is u other decidable.
        Accepts e (subst (λ (z : Script). IsStepSecure z) (one-script calls (both_files names) t u files is asked other) v.0));
  }
  checked calls t asked (leak w) v e put = record {
    secure = λ d. absurd (let no : exit.Leak ≡ exit.Done = sym e ∙ d in cc);
    leak = λ _. (t, whole told names calls t asked, record { witness = w; tables = v.0; real = v.1; shown = put });
    decided =
        if-some told _ (λ files is u other decidable.
        Leaks e (subst (λ (z : Script). IsStepSecure z → ⊥) (one-script calls (both_files names) t u files is asked other) v.2));
  }
  checked calls t asked (undecided duty cycle) v e put = record {
    secure = λ d. absurd (let no : exit.Undecided ≡ exit.Done = sym e ∙ d in cc);
    leak = λ d. absurd (let no : exit.Undecided ≡ exit.Leak = sym e ∙ d in cc);
    decided =
        if-some told _ (λ files is u other decidable.
        absurd (v (subst (λ (z : Script). IsDecidable z) (sym (one-script calls (both_files names) t u files is asked other)) decidable)));
  }
  checked calls t asked (too_large duty terms nodes) v e put = record {
    secure = λ d. absurd (let no : exit.TooLarge ≡ exit.Done = sym e ∙ d in cc);
    leak = λ d. absurd (let no : exit.TooLarge ≡ exit.Leak = sym e ∙ d in cc);
    decided =
        if-some told _ (λ files is u other decidable.
        absurd (v (subst (λ (z : Script). IsDecidable z) (sym (one-script calls (both_files names) t u files is asked other)) decidable)));
  }

  pub not-done : (r : Refusal) → refusal_status r ≢ exit.Done
  not-done refusal.Usage e = cc
  not-done (refusal.Missing name) e = cc
  not-done (refusal.TooLong name) e = cc
  not-done (refusal.Text name err) e = cc
  not-done (refusal.SpecTypes name err) e = cc
  not-done (refusal.ScriptTypes name fault) e = cc

  pub not-leak : (r : Refusal) → refusal_status r ≢ exit.Leak
  not-leak refusal.Usage e = cc
  not-leak (refusal.Missing name) e = cc
  not-leak (refusal.TooLong name) e = cc
  not-leak (refusal.Text name err) e = cc
  not-leak (refusal.SpecTypes name err) e = cc
  not-leak (refusal.ScriptTypes name fault) e = cc

  -- where the files are refused they ask for no script
  pub none-asked : (calls others : List (List ℕ)) (r : Refusal) (u : Script) (files : Files) → told ≡ Some files → ChecksFiles told names calls (Err (stop.Refused r)) → Asks (Some files) names others (Ok u) → ⊥
  none-asked calls others r u files is (Went t front back asked (none, refused) split) other = refused
  none-asked calls others r u files is (Stopped s asked e) other =
      let refused : s ≡ stop.Refused r = cc in
      let here = subst (λ (z : Stop). Asks told names calls (Err z)) refused asked in
      let there = subst (λ (o : Option Files). Asks o names calls (Err (stop.Refused r))) is here in
      let differ = asks-one files names calls others (Err (stop.Refused r)) (Ok u) tt tt there other in
      cc

  pub refused : (calls : List (List ℕ)) (r : Refusal) → ChecksFiles told names calls (Err (stop.Refused r)) → status ≡ refusal_status r → Headline told names before after status
  refused calls r is e = record {
    secure = λ d. absurd (not-done r (sym e ∙ d));
    leak = λ d. absurd (not-leak r (sym e ∙ d));
    decided = if-some told _ (λ files known u other decidable. absurd (none-asked calls (both_files names) r u files known is other));
  }

  pub found : (calls : List (List ℕ)) (c : Checked) → ChecksFiles told names calls (Ok c) → status ≡ outcome_status (outcome_data c.outcome) → Appends before after (text_of (answer.Checked c)) → Headline told names before after status
  found calls c (Stopped s p d) e put = absurd cc
  found calls c (Went t front back asked (none, h) split) e put =
      checked front t asked (outcome_data c.outcome) (verdict t h.typed (outcome_data c.outcome) h.outcome) e
      (subst (λ (z : Script). Appends before after (outcome_text z (outcome_data c.outcome))) h.script put)

  pub cut : status ≡ exit.WriteFault → Headline told names before after status
  cut e = faulty (λ d. let no : exit.WriteFault ≡ exit.Done = sym e ∙ d in cc) (λ d. let no : exit.WriteFault ≡ exit.Leak = sym e ∙ d in cc) (inr (inl e))

  pub no_memory : status ≡ exit.OutOfMemory → Headline told names before after status
  no_memory e = faulty (λ d. let no : exit.OutOfMemory ≡ exit.Done = sym e ∙ d in cc) (λ d. let no : exit.OutOfMemory ≡ exit.Leak = sym e ∙ d in cc) (inr (inr e))

  pub unread : status ≡ exit.ReadFault → Headline told names before after status
  unread e = faulty (λ d. let no : exit.ReadFault ≡ exit.Done = sym e ∙ d in cc) (λ d. let no : exit.ReadFault ≡ exit.Leak = sym e ∙ d in cc) (inl e)

  module _ (words : List (List ℕ)) (asked : check_of words ≡ Some names) where
    -- what words of a check come to is what the files do
    of-check : (calls : List (List ℕ)) (end : Result Answer Stop) → Runs told words calls end → Gives answer.Checked (ChecksFiles told names calls) end
    of-check calls end (Checking others are gives) =
        let same : others ≡ names = cc in
        subst (λ (z : Names). Gives answer.Checked (ChecksFiles told z calls) end) same gives
    of-check calls end (Generating n are none gives) = absurd (not-both words names n asked are)
    of-check calls end (NoCommand neither none e) = absurd (let no = neither.0 in cc)

    answered : (calls : List (List ℕ)) (a : Answer) → IsAnswer told words calls a → status ≡ status_of a → Appends before after (text_of a) → Headline told names before after status
    answered calls (answer.Checked c) is e put = of-one (of-check calls (Ok (answer.Checked c)) is)
      where
        of-one : Gives answer.Checked (ChecksFiles told names calls) (Ok (answer.Checked c)) → Headline told names before after status
        of-one (d, same, h) =
            let one : d ≡ c = cc in
            found calls c (subst (λ (z : Checked). ChecksFiles told names calls (Ok z)) one h) e put
    answered calls (answer.Generated g) is e put = absurd (let (d, same, h) = of-check calls (Ok (answer.Generated g)) is in cc)
    answered calls (answer.Refused r) is e put = refused calls r (of-check calls (Err (stop.Refused r)) is) e

    pub headline : (calls : List (List ℕ)) → Ends told words calls before after status → Headline told names before after status
    headline calls (Answered a is (Report (Whole e put))) = answered calls a is e put
    headline calls (Answered a is (Report (Cut e front))) = cut e
    headline calls (Answered a is (NoReport e)) = no_memory e
    headline calls (Unread e runs) = unread e
    headline calls (NoMemory e runs) = no_memory e

-- ---- for the contract of the program

headline-of : (told : Option Files) (words calls : List (List ℕ)) (before after : Option (List ℕ)) (status : Status) → Ends told words calls before after status
    → IfSome (check_of words) (λ names. Headline told names before after status)
headline-of told words calls before after status ends = if-some (check_of words) _ (λ names is. headline told names before after status words is calls ends)

-- what the stages pass on is an answer
pub passed-on : (told : Option Files) (words calls : List (List ℕ)) (a : Answer) → Runs told words calls (Ok a) → IsAnswer told words calls a
passed-on told words calls a (Checking names is (c, same, h)) = subst (λ (z : Answer). IsAnswer told words calls z) (sym same) (Checking names is (c, refl, h))
passed-on told words calls a (Generating n is none (g, same, h)) = subst (λ (z : Answer). IsAnswer told words calls z) (sym same) (Generating n is none (g, refl, h))
passed-on told words calls a (NoCommand neither none e) = absurd cc

usage-answered : (a : Answer) → end_of a ≡ Err (stop.Refused refusal.Usage) → status_of a ≡ exit.Usage
usage-answered (answer.Checked c) e = absurd cc
usage-answered (answer.Generated g) e = absurd cc
usage-answered (answer.Refused r) e =
    let same : r ≡ refusal.Usage = cc in
    ap refusal_status same

usage-of : (told : Option Files) (words calls : List (List ℕ)) (before after : Option (List ℕ)) (status : Status) → IsNoCommand words → Ends told words calls before after status → IsOfUsage status
usage-of told words calls before after status neither (Answered a (Checking names is gives) put) = absurd (let no = neither.0 in cc)
usage-of told words calls before after status neither (Answered a (Generating n is none gives) put) = absurd (let no = neither.1 in cc)
usage-of told words calls before after status neither (Answered a (NoCommand known none e) (Report (Whole is text))) = inl (is ∙ usage-answered a e)
usage-of told words calls before after status neither (Answered a (NoCommand known none e) (Report (Cut is front))) = inr (inl is)
usage-of told words calls before after status neither (Answered a (NoCommand known none e) (NoReport is)) = inr (inr is)
usage-of told words calls before after status neither (Unread is (Checking names named gives)) = absurd (let no = neither.0 in cc)
usage-of told words calls before after status neither (Unread is (Generating n named none gives)) = absurd (let no = neither.1 in cc)
usage-of told words calls before after status neither (Unread is (NoCommand known none e)) = absurd cc
usage-of told words calls before after status neither (NoMemory is runs) = inr (inr is)

module _ {F W : Type 0} (files : F → Option Files) (fetched : F → Option (List (List ℕ))) (unread : F → ℕ) (told : W → Option (List ℕ)) (unwritten : W → ℕ) where
  -- an end with what was done to the objects is a run
  pub run-of : (words : List (List ℕ)) (shelf shelf_after : F) (out out_after : W) (status : Status) (calls : List (List ℕ)) → Ends (files shelf) words calls (told out) (told out_after) status
      → IsRead files fetched unread shelf shelf_after calls (status ≡ exit.ReadFault) → IsWritten unwritten out out_after (IsSilent status) (status ≡ exit.WriteFault)
      → (check_of words ≡ None → status ≢ exit.ReadFault) → IsFilesRun files fetched unread told unwritten words shelf shelf_after out out_after status
  run-of words shelf shelf_after out out_after status calls ends read written not_read = record {
    calls = calls;
    ends = ends;
    headline = headline-of (files shelf) words calls (told out) (told out_after) status ends;
    read = read;
    written = written;
    not_called = λ none. read.silent (none-called (files shelf) words calls (told out) (told out_after) status none ends);
    not_read = not_read;
    usage = λ neither. usage-of (files shelf) words calls (told out) (told out_after) status neither ends;
  }
