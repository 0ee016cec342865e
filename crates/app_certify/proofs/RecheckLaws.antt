-- What the end of `recheck` says of the script.
use Rattle.std.proofs.Common.{◌≡◌, ◌≢◌, ◌≤◌, ◌⊎◌, inl, inr, ℕ, List, [], ◌∷◌, length, refl, sym, ◌∙◌, subst}
use Rattle.std.specs.Prelude.{Option, Some, IfSome, Ok, Err, Result}
use Rattle.app_flow.specs.Files.{Files}
use Rattle.app_flow.specs.Outside.{IsRead, IsWritten}
use Rattle.app_flow.specs.Told.{Appends}
use Rattle.type_schema.specs.Schema.{Schema}
use Rattle.type_schema.specs.Script.{IsScript, Script}
use Rattle.type_schema.specs.SchemaViews.{script_of}
use Rattle.check_scripts.specs.Outcomes.{models_of_cycle, too_large, undecided}
use Rattle.check_scripts.specs.Sound.{IsDecidable}
use Rattle.duty_meaning.specs.Duties.{obligations_of}
use Rattle.certify_scripts.specs.Rechecked.{IsRechecked}
use Rattle.certify_scripts.specs.Sound.{Shows}
use Rattle.certify_scripts.specs.declared.rechecked.Rechecked.{Rechecked}
use Rattle.certify_scripts.specs.declared.rechecked.Rechecked.TheVariants.{Certified, BadLine, Cyclic, TooLarge}
use Rattle.app_files.specs.Answer.{Asks, ScriptOf, SpecOf, both_files, refusal_status}
use Rattle.app_files.specs.Ends.{IsSilent, Whole, Cut}
use Rattle.app_files.specs.Loads.{Fetches, FetchesWithin}
use Rattle.app_files.specs.Stages.{Then, Stops, Goes, Stopped, Went}
use Rattle.app_files.specs.Words.{Names}
use Rattle.app_files.specs.declared.refusal.Refusal.{Refusal}
use Rattle.app_files.specs.declared.refusal.Refusal.TheVariants as refusal
use Rattle.app_files.specs.declared.status.Status.{Status}
use Rattle.app_files.specs.declared.status.Status.TheVariants as exit
use Rattle.app_files.specs.declared.stop.Stop.{Stop}
use Rattle.app_files.specs.declared.stop.Stop.TheVariants as stop
use Rattle.app_files.proofs.Headline.{if-some, not-done, one-script, whole}
use Rattle.app_files.proofs.OneStatus.{asks-one, fetches-one}
use Rattle.app_certify.specs.Answer.{Rechecks, RechecksFile, end_of, found_status, found_text, status_of, text_of}
use Rattle.app_certify.specs.Ends.{Answered, NoMemory, NoReport, RecheckEnds, Report, Unread}
use Rattle.app_certify.specs.Headline.{Certifies, Faults, IsRecheckedBy, IsUnsettledBy, RecheckHeadline, Refuses}
use Rattle.app_certify.proofs.Lists.{Contains-at}
use Rattle.app_certify.proofs.Reached.{cyclic_outcome, large_outcome}
use Rattle.app_certify.proofs.Statuses.{recheck_kept}
use Rattle.app_certify.specs.Run.{IsRecheckRun}
use Rattle.app_certify.specs.declared.answer.CertifyAnswer.{CertifyAnswer}
use Rattle.app_certify.specs.declared.answer.CertifyAnswer.TheVariants as answer
use Rattle.app_certify.specs.declared.answer.CheckedCertificate.{CheckedCertificate}
use Rattle.app_certify.specs.declared.limits.TheConstants.{MOST_CERTIFICATE_BYTES}

-- where each obligation is decidable, each has clauses
settled : (t : Script) (text : List ℕ) (status : Status) (found : Rechecked) → IsDecidable t → IsRechecked t text found → status ≡ found_status found → IsRecheckedBy t text status
settled t text status (Certified n) decidable h e = Certifies e h.signature h.signature_of h.over.1
settled t text status (BadLine line) decidable h e = Refuses e line h
settled t text status (Cyclic duty cycle) decidable h e =
    absurd (h.over.1.not_stratified (decidable h.signature h.signature_of duty (Contains-at (obligations_of t) h.over.0.place duty h.over.0.at)).0)
settled t text status (TooLarge duty terms nodes) decidable h e =
    absurd ((decidable h.signature h.signature_of duty (Contains-at (obligations_of t) h.over.0.place duty h.over.0.at)).1 h.over.1.over_limit)

-- a text that is fetched is the one that is told
one_text : (files : Files) (cert text other : List ℕ) → FetchesWithin MOST_CERTIFICATE_BYTES (Some files) cert (Ok text) → files cert ≡ Some other → text ≡ other
one_text files cert text other (few, is) same = let both : Some text ≡ Some other = sym is ∙ same in cc

-- ---- the stages, one after another

module _ (told : Option Files) (names : Names) (cert : List ℕ) (r : Result CheckedCertificate Stop) where
  pub spec_cut : (s : Stop) → Then (Fetches told names.spec) (SpecOf names.spec) (Err s) → r ≡ Err s → Rechecks told names cert (names.spec ∷ []) r
  spec_cut s p e = Stopped s (Stopped s (refl, p) refl) e

  pub script_cut : (schema : Schema) (s : Stop) → Then (Fetches told names.spec) (SpecOf names.spec) (Ok schema) → Then (Fetches told names.script) (ScriptOf names.script schema) (Err s) → r ≡ Err s
      → Rechecks told names cert (both_files names) r
  script_cut schema s p q e = Stopped s (Went schema (names.spec ∷ []) (names.script ∷ []) (refl, p) (refl, q) refl) e

  pub all_files : (schema : Schema) (t : Script) → Then (Fetches told names.spec) (SpecOf names.spec) (Ok schema) → Then (Fetches told names.script) (ScriptOf names.script schema) (Ok t)
      → RechecksFile told cert t r → Rechecks told names cert (names.spec ∷ names.script ∷ cert ∷ []) r
  all_files schema t p q h = Went t (both_files names) (cert ∷ []) (Went schema (names.spec ∷ []) (names.script ∷ []) (refl, p) (refl, q) refl) (refl, h) refl

module _ (told : Option Files) (names : Names) (cert : List ℕ) (before after : Option (List ℕ)) (status : Status) where
  faulty : status ≢ exit.Done → status ≢ exit.BadCertificate → ((status ≡ exit.Undecided) ⊎ (status ≡ exit.TooLarge) → IsUnsettledBy told names before after status) → (status ≡ exit.ReadFault) ⊎ (status ≡ exit.WriteFault) ⊎ (status ≡ exit.OutOfMemory) → RecheckHeadline told names cert before after status
  faulty not_done not_bad no_outcome fault = record {
    certified = λ e. absurd (not_done e);
    refused = λ e. absurd (not_bad e);
    unsettled = no_outcome;
    decided = if-some told _ (λ files is t text asks fetched few decidable. Faults fault);
  }

  -- another status is none of these
  none_of : (other : Status) → status ≡ other → other ≢ exit.Undecided → other ≢ exit.TooLarge → (status ≡ exit.Undecided) ⊎ (status ≡ exit.TooLarge) → IsUnsettledBy told names before after status
  none_of other e not_undecided not_large (inl d) = absurd (not_undecided (sym e ∙ d))
  none_of other e not_undecided not_large (inr d) = absurd (not_large (sym e ∙ d))

  cut : status ≡ exit.WriteFault → RecheckHeadline told names cert before after status
  cut e = faulty (λ d. let no : exit.WriteFault ≡ exit.Done = sym e ∙ d in cc) (λ d. let no : exit.WriteFault ≡ exit.BadCertificate = sym e ∙ d in cc) (none_of exit.WriteFault e (λ d. cc) (λ d. cc)) (inr (inl e))

  no_memory : status ≡ exit.OutOfMemory → RecheckHeadline told names cert before after status
  no_memory e = faulty (λ d. let no : exit.OutOfMemory ≡ exit.Done = sym e ∙ d in cc) (λ d. let no : exit.OutOfMemory ≡ exit.BadCertificate = sym e ∙ d in cc) (none_of exit.OutOfMemory e (λ d. cc) (λ d. cc)) (inr (inr e))

  unread : status ≡ exit.ReadFault → RecheckHeadline told names cert before after status
  unread e = faulty (λ d. let no : exit.ReadFault ≡ exit.Done = sym e ∙ d in cc) (λ d. let no : exit.ReadFault ≡ exit.BadCertificate = sym e ∙ d in cc) (none_of exit.ReadFault e (λ d. cc) (λ d. cc)) (inl e)

  -- ---- a text that was checked

  module _ (calls : List (List ℕ)) (t : Script) (asked : Asks told names calls (Ok t)) (text : List ℕ) (fetched : FetchesWithin MOST_CERTIFICATE_BYTES told cert (Ok text)) where
    -- what is asked for by files that are told is this
    same_asked : (found : Rechecked) → IsRechecked t text found → status ≡ found_status found
        → IfSome told (λ files. (u : Script) (other : List ℕ) → Asks (Some files) names (both_files names) (Ok u) → files cert ≡ Some other → length other ≤ MOST_CERTIFICATE_BYTES → IsDecidable u → IsRecheckedBy u other status)
    same_asked found h e =
        if-some told _ (λ files is u other asks here few decidable.
        let script : t ≡ u = one-script told names before after status calls (both_files names) t u files is asked asks in
        let bytes : text ≡ other = one_text files cert text other (subst (λ (o : Option Files). FetchesWithin MOST_CERTIFICATE_BYTES o cert (Ok text)) is fetched) here in
        settled u other status found decidable (subst (λ (z : Script). IsRechecked z other found) script (subst (λ xs. IsRechecked t xs found) bytes h)) e)

    checked : IsScript t → (found : Rechecked) → IsRechecked t text found → Shows t found → status ≡ found_status found → Appends before after (found_text t cert found) → RecheckHeadline told names cert before after status
    checked typed (Certified n) h shows e put = record {
      certified = λ _. record {
        script = t;
        asks = whole told names calls t asked;
        text = text;
        fetches = fetched;
        signature = h.signature;
        signature_of = h.signature_of;
        certificate = h.over.1;
        shown = shows;
        put = subst (λ k. Appends before after (found_text t cert (Certified k))) h.over.0 put;
      };
      refused = λ d. absurd (let no : exit.Done ≡ exit.BadCertificate = sym e ∙ d in cc);
      unsettled = none_of exit.Done e (λ d. cc) (λ d. cc);
      decided = same_asked (Certified n) h e;
    }
    checked typed (BadLine line) h shows e put = record {
      certified = λ d. absurd (let no : exit.BadCertificate ≡ exit.Done = sym e ∙ d in cc);
      refused = λ _. record {
        script = t;
        asks = whole told names calls t asked;
        text = text;
        fetches = fetched;
        line = line;
        bad = h;
        put = put;
      };
      unsettled = none_of exit.BadCertificate e (λ d. cc) (λ d. cc);
      decided = same_asked (BadLine line) h e;
    }
    checked typed (Cyclic duty cycle) h shows e put = record {
      certified = λ d. absurd (let no : exit.Undecided ≡ exit.Done = sym e ∙ d in cc);
      refused = λ d. absurd (let no : exit.Undecided ≡ exit.BadCertificate = sym e ∙ d in cc);
      unsettled = λ _. record {
        script = t;
        asks = whole told names calls t asked;
        outcome = undecided duty (models_of_cycle t cycle);
        is = cyclic_outcome t typed h.signature h.signature_of text duty h.over.0 cycle h.over.1;
        status_is = e;
        put = put;
      };
      decided = same_asked (Cyclic duty cycle) h e;
    }
    checked typed (TooLarge duty terms nodes) h shows e put = record {
      certified = λ d. absurd (let no : exit.TooLarge ≡ exit.Done = sym e ∙ d in cc);
      refused = λ d. absurd (let no : exit.TooLarge ≡ exit.BadCertificate = sym e ∙ d in cc);
      unsettled = λ _. record {
        script = t;
        asks = whole told names calls t asked;
        outcome = too_large duty terms nodes;
        is = large_outcome t typed h.signature h.signature_of text duty h.over.0 terms nodes h.over.1;
        status_is = e;
        put = put;
      };
      decided = same_asked (TooLarge duty terms nodes) h e;
    }

  of_checked : (calls : List (List ℕ)) (c : CheckedCertificate) → Rechecks told names cert calls (Ok c) → status ≡ found_status c.found → Appends before after (found_text (script_of c.script) c.cert c.found)
      → RecheckHeadline told names cert before after status
  of_checked calls c (Stopped s p d) e put = absurd cc
  of_checked calls c (Went t front back asked (one, Stops s p d) split) e put = absurd cc
  of_checked calls c (Went t front back asked (one, Goes text fetched is) split) e put =
      checked front t asked text fetched is.typed c.found is.found is.shows e
      (subst (λ xs. Appends before after (found_text t xs c.found)) is.name (subst (λ (z : Script). Appends before after (found_text z c.cert c.found)) is.script put))

  -- ---- files that are refused

  not-bad : (r : Refusal) → refusal_status r ≢ exit.BadCertificate
  not-bad refusal.Usage e = cc
  not-bad (refusal.Missing name) e = cc
  not-bad (refusal.TooLong name) e = cc
  not-bad (refusal.Text name err) e = cc
  not-bad (refusal.SpecTypes name err) e = cc
  not-bad (refusal.ScriptTypes name fault) e = cc

  not-undecided : (r : Refusal) → refusal_status r ≢ exit.Undecided
  not-undecided refusal.Usage e = cc
  not-undecided (refusal.Missing name) e = cc
  not-undecided (refusal.TooLong name) e = cc
  not-undecided (refusal.Text name err) e = cc
  not-undecided (refusal.SpecTypes name err) e = cc
  not-undecided (refusal.ScriptTypes name fault) e = cc

  not-large : (r : Refusal) → refusal_status r ≢ exit.TooLarge
  not-large refusal.Usage e = cc
  not-large (refusal.Missing name) e = cc
  not-large (refusal.TooLong name) e = cc
  not-large (refusal.Text name err) e = cc
  not-large (refusal.SpecTypes name err) e = cc
  not-large (refusal.ScriptTypes name fault) e = cc

  -- a file that is there and within the limit is not refused
  not_refused : (files : Files) (r : Refusal) (t : Script) (text : List ℕ) → files cert ≡ Some text → length text ≤ MOST_CERTIFICATE_BYTES → RechecksFile (Some files) cert t (Err (stop.Refused r)) → ⊥
  not_refused files r t text here few (Stops s p d) =
      let same : s ≡ stop.Refused r = cc in
      let refused = subst (λ (z : Stop). FetchesWithin MOST_CERTIFICATE_BYTES (Some files) cert (Err z)) same p in
      let whole : FetchesWithin MOST_CERTIFICATE_BYTES (Some files) cert (Ok text) = (few, here) in
      let differ = fetches-one MOST_CERTIFICATE_BYTES files cert (Ok text) (Err (stop.Refused r)) tt tt whole refused in
      cc
  not_refused files r t text here few (Goes other p h) = h

  none-asked : (calls others : List (List ℕ)) (r : Refusal) (u : Script) (text : List ℕ) (files : Files) → told ≡ Some files → Rechecks told names cert calls (Err (stop.Refused r)) → Asks (Some files) names others (Ok u)
      → files cert ≡ Some text → length text ≤ MOST_CERTIFICATE_BYTES → ⊥
  none-asked calls others r u text files is (Went t front back asked (one, refused) split) other here few =
      not_refused files r t text here few (subst (λ (o : Option Files). RechecksFile o cert t (Err (stop.Refused r))) is refused)
  none-asked calls others r u text files is (Stopped s asked e) other here few =
      let refused : s ≡ stop.Refused r = cc in
      let first = subst (λ (z : Stop). Asks told names calls (Err z)) refused asked in
      let there = subst (λ (o : Option Files). Asks o names calls (Err (stop.Refused r))) is first in
      let differ = asks-one files names calls others (Err (stop.Refused r)) (Ok u) tt tt there other in
      cc

  of_refused : (calls : List (List ℕ)) (r : Refusal) → Rechecks told names cert calls (Err (stop.Refused r)) → status ≡ refusal_status r → RecheckHeadline told names cert before after status
  of_refused calls r h e = record {
    certified = λ d. absurd (not-done told names before after status r (sym e ∙ d));
    refused = λ d. absurd (not-bad r (sym e ∙ d));
    unsettled = none_of (refusal_status r) e (not-undecided r) (not-large r);
    decided = if-some told _ (λ files is u text asks here few decidable. absurd (none-asked calls (both_files names) r u text files is h asks here few));
  }

  of_answer : (calls : List (List ℕ)) (a : CertifyAnswer) → Rechecks told names cert calls (end_of a) → status ≡ status_of a → Appends before after (text_of a) → RecheckHeadline told names cert before after status
  of_answer calls (answer.Checked c) h e put = of_checked calls c h e put
  of_answer calls (answer.Refused r) h e put = of_refused calls r h e

  headline : (calls : List (List ℕ)) → RecheckEnds told names cert calls before after status → RecheckHeadline told names cert before after status
  headline calls (Answered a h (Report (Whole e put))) = of_answer calls a h e put
  headline calls (Answered a h (Report (Cut e front))) = cut e
  headline calls (Answered a h (NoReport e)) = no_memory e
  headline calls (Unread e h) = unread e
  headline calls (NoMemory e h) = no_memory e

module _ {F W : Type 0} (files : F → Option Files) (fetched : F → Option (List (List ℕ))) (unread_ : F → ℕ) (told : W → Option (List ℕ)) (unwritten : W → ℕ) where
  -- an end with what was done to the objects is a run
  pub recheck_run : (names : Names) (cert : List ℕ) (shelf shelf_after : F) (out out_after : W) (status : Status) (calls : List (List ℕ)) → RecheckEnds (files shelf) names cert calls (told out) (told out_after) status
      → IsRead files fetched unread_ shelf shelf_after calls (status ≡ exit.ReadFault) → IsWritten unwritten out out_after (IsSilent status) (status ≡ exit.WriteFault)
      → IsRecheckRun files fetched unread_ told unwritten names cert shelf shelf_after out out_after status
  recheck_run names cert shelf shelf_after out out_after status calls ends read written = record {
    calls = calls;
    ends = ends;
    headline = headline (files shelf) names cert (told out) (told out_after) status calls ends;
    read = read;
    written = written;
    not_kept = recheck_kept (told out) (told out_after) status (files shelf) names calls cert ends;
  }
