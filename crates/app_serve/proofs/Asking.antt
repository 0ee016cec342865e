-- A run of `serve`, from what the store holds on.
use Rattle.std.proofs.Common.{◌≡◌, ◌≢◌, ℕ, ◌≤◌, List, [], ◌∷◌, Option, None, Some, refl, ap, sym, ◌∙◌, subst, inl, inr, arith}
use Rattle.std.specs.Prelude.{◌⊎◌, IfSome, Ok, Err}
use Rattle.app_flow.specs.Files.{Files}
use Rattle.app_flow.specs.Outside.{IsWritten}
use Rattle.app_flow.proofs.OutsideLemmas.{read-none}
use Rattle.app_flow.proofs.ToldLemmas.{Appends-none}
use Rattle.app_files.specs.declared.status.Status.{Status}
use Rattle.app_files.specs.declared.status.Status.TheVariants as status
use Rattle.app_files.specs.Ends.{IsReported, IsSilent}
use Rattle.app_files.specs.Stages.{Goes, Stops, Then}
use Rattle.app_store.specs.declared.stop.StoreRefusal.{StoreRefusal}
use Rattle.app_store.specs.declared.stop.StoreStop.{StoreStop}
use Rattle.app_store.specs.declared.stop.StoreStop.TheVariants as why
use Rattle.app_store.specs.Answer.{store_refusal_status}
use Rattle.app_store.specs.Ends.{IsStoppedBy}
use Rattle.app_store.specs.Headline.{IsHeld}
use Rattle.app_store.specs.Report.{store_refusal_text}
use Rattle.app_store.specs.Store.{Loads, Holds}
use Rattle.app_store.specs.Told.{IsKept}
use Rattle.app_store.proofs.Ran.{kept-as, kept-more}
use Rattle.door_lines.proofs.RestLemmas.{consumes_none}
use Rattle.door_meaning.specs.Step.{Stands}
use Rattle.store_keeper.specs.declared.keeper.KeepCall.{KeepCall}
use Rattle.store_keeper.specs.declared.keeper.KeepCall.TheVariants.{Load}
use Rattle.store_keeper.specs.Content.{Content, replaced}
use Rattle.store_keeper.specs.Stored.{IsStored, Stored}
use Rattle.door_serve.proofs.Migrating.{held-stays}
use Rattle.app_serve.specs.Lines.{NoLine}
use Rattle.app_serve.specs.Run.{IsServed, IsServeRun, IsUnserved, NoReport, Reported, Served, Stopped, Unserved}
use Rattle.app_serve.specs.Served.{AreAnswered, AtEnd, IsEnd, NoMemory, Spent, Unfed, Unread, Unstored, Unwritten, door_over}
use Rattle.app_serve.proofs.Serving.{first-of, rose-later}

-- what the store gave, it holds
pub held-of : (content later : Content) (s : Stored) → later ≡ content → IsStored s → Then (Loads content) Holds (Ok s) → IsHeld later s
held-of content later s same is_stored (Stops w p e) = absurd cc
held-of content later s same is_stored (Goes held loads holds) = record {
  told = subst (λ (z : Content). IfSome z (λ h. h ≡ Some s)) (sym same) (told-so content loads.0);
  stored = is_stored;
}
  where
    told-so : (c : Content) → IfSome c (λ h. h ≡ held) → IfSome c (λ h. h ≡ Some s)
    told-so None h = h
    told-so (Some x) h = h ∙ holds

-- a fault of the store comes only where it counted one
pub store-failed : (no_file no_input no_output no_store at_end : Type 0) (took : ℕ) (rest : List ℕ) (end : Status) → IsEnd no_file no_input no_output no_store at_end took rest end → end ≡ status.StoreFault → no_store
store-failed no_file no_input no_output no_store at_end took rest end (AtEnd is ended none less) fault = absurd cc
store-failed no_file no_input no_output no_store at_end took rest end (Spent is all in_line) fault = absurd cc
store-failed no_file no_input no_output no_store at_end took rest end (Unfed is rose in_line) fault = absurd cc
store-failed no_file no_input no_output no_store at_end took rest end (Unread is rose) fault = absurd cc
store-failed no_file no_input no_output no_store at_end took rest end (Unwritten is rose) fault = absurd cc
store-failed no_file no_input no_output no_store at_end took rest end (Unstored is rose) fault = rose
store-failed no_file no_input no_output no_store at_end took rest end (NoMemory is) fault = absurd cc

-- the store counted a fault in a larger part of the run
end-longer : (no_file no_input no_output no_store longer at_end : Type 0) (took : ℕ) (rest : List ℕ) (end : Status) → (no_store → longer) → IsEnd no_file no_input no_output no_store at_end took rest end
    → IsEnd no_file no_input no_output longer at_end took rest end
end-longer no_file no_input no_output no_store longer at_end took rest end more (AtEnd is ended none less) = AtEnd is ended none less
end-longer no_file no_input no_output no_store longer at_end took rest end more (Spent is all in_line) = Spent is all in_line
end-longer no_file no_input no_output no_store longer at_end took rest end more (Unfed is rose in_line) = Unfed is rose in_line
end-longer no_file no_input no_output no_store longer at_end took rest end more (Unread is rose) = Unread is rose
end-longer no_file no_input no_output no_store longer at_end took rest end more (Unwritten is rose) = Unwritten is rose
end-longer no_file no_input no_output no_store longer at_end took rest end more (Unstored is rose) = Unstored is (more rose)
end-longer no_file no_input no_output no_store longer at_end took rest end more (NoMemory is) = NoMemory is

module _ {F S K W : Type 0} (files : F → Option Files) (fetched : F → Option (List (List ℕ))) (unread : F → ℕ) (left : S → Option (List ℕ)) (unfed : S → ℕ) (content : K → Content) (kept : K → Option (List KeepCall)) (unkept : K → ℕ) (told : W → Option (List ℕ)) (unwritten : W → ℕ) where
  -- there was no memory for the first line
  pub not-begun : (shelf : F) (input : S) (store : K) (out : W) (s : Stored) → IsHeld (content store) s → IsServed files fetched unread left unfed content kept unkept told unwritten shelf shelf input input store store out out status.OutOfMemory s
  not-begun shelf input store out s held =
      let answered : AreAnswered (files shelf) s (left input) (left input) [] [] [] [] [] (door_over s) = record { taken = consumes_none (left input); are_lines = NoLine; run = Stands (door_over s) } in
      record {
        bytes = [];
        lines = [];
        rest = [];
        calls = [];
        text = [];
        last = door_over s;
        answered = answered;
        first = first-of (files shelf) s (left input) (left input) [] [] [] [] [] (door_over s) answered;
        whole = λ is. absurd cc;
        stored = held-stays (content store) s held;
        put = λ not. Appends-none (told out);
        cut = λ is. absurd cc;
        end = NoMemory refl;
        more = [];
        few_more = inl refl;
        read = read-none files fetched unread shelf ⊥ (λ h. h);
        fed = (omega arith);
        written = (omega arith);
      }

  module _ (shelf shelf_after : F) (input input_after : S) (first store store_after : K) (out out_after : W) (end : Status) where
    -- the store was asked before
    served-from : (s : Stored) → content store ≡ content first → unkept first ≤ unkept store → unkept store ≤ unkept store_after
        → IsServed files fetched unread left unfed content kept unkept told unwritten shelf shelf_after input input_after store store_after out out_after end s → IsServed files fetched unread left unfed content kept unkept told unwritten shelf shelf_after input input_after first store_after out out_after end s
    served-from s same before after v = record {
      bytes = v.bytes;
      lines = v.lines;
      rest = v.rest;
      calls = v.calls;
      text = v.text;
      last = v.last;
      answered = v.answered;
      first = v.first;
      whole = v.whole;
      stored = v.stored ∙ ap (replaced v.last.stored) same;
      put = v.put;
      cut = v.cut;
      end = end-longer _ _ _ _ _ _ _ _ end (rose-later (unkept first) (unkept store) (unkept store_after) before after) v.end;
      more = v.more;
      few_more = v.few_more;
      read = v.read;
      fed = v.fed;
      written = v.written;
    }

    pub served-run : (s : Stored) (failed : Type 0) (made : List KeepCall) → Then (Loads (content first)) Holds (Ok s) → content store ≡ content first → IsKept kept unkept first store (Load ∷ []) failed
        → IsServed files fetched unread left unfed content kept unkept told unwritten shelf shelf_after input input_after store store_after out out_after end s → IsKept kept unkept store store_after made (end ≡ status.StoreFault)
        → IsServeRun files fetched unread left unfed content kept unkept told unwritten shelf shelf_after input input_after first store_after out out_after end
    served-run s failed made holds same asked v later = record {
      ends = Served s holds (served-from s same asked.never_falls later.never_falls v);
      made = made;
      kept_so = kept-more kept unkept first store store_after (Load ∷ []) made failed (end ≡ status.StoreFault) asked later;
    }

  -- nothing is served
  pub unserved-run : (shelf : F) (input : S) (store store_after : K) (out out_after : W) (end : Status) (reason : StoreStop) (failed : Type 0) → Then (Loads (content store)) Holds (Err reason)
      → content store_after ≡ content store → IsKept kept unkept store store_after (Load ∷ []) failed → (end ≡ status.StoreFault → failed)
      → IsUnserved files fetched unread left unfed content kept unkept told unwritten shelf shelf input input store store_after out out_after end reason → IsServeRun files fetched unread left unfed content kept unkept told unwritten shelf shelf input input store store_after out out_after end
  unserved-run shelf input store store_after out out_after end reason failed holds same asked fault un = record {
    ends = Unserved reason holds un;
    made = [];
    kept_so = kept-as kept unkept store store_after (Load ∷ []) failed (end ≡ status.StoreFault) fault asked;
  }

  -- it was refused, or it stopped
  pub refused-run : (shelf : F) (input : S) (store store_after : K) (out out_after : W) (end : Status) (refusal : StoreRefusal) (failed : Type 0) → Then (Loads (content store)) Holds (Err (why.Refused refusal))
      → content store_after ≡ content store → IsKept kept unkept store store_after (Load ∷ []) failed → end ≢ status.StoreFault
      → IsReported (store_refusal_text refusal) (store_refusal_status refusal) (told out) (told out_after) end ⊎ (end ≡ status.OutOfMemory) → IsWritten unwritten out out_after (IsSilent end) (end ≡ status.WriteFault)
      → IsServeRun files fetched unread left unfed content kept unkept told unwritten shelf shelf input input store store_after out out_after end
  refused-run shelf input store store_after out out_after end refusal failed holds same asked not_kept reported written =
      unserved-run shelf input store store_after out out_after end (why.Refused refusal) failed holds same asked (λ e. absurd (not_kept e))
      (record {
        told_so = (elim reported [
          | inl r ↦ Reported refusal refl r
          | inr m ↦ NoReport refusal refl m
        ]);
        shelf_same = refl;
        input_same = refl;
        content_same = same;
        written = written;
      })

  pub stopped-run : (shelf : F) (input : S) (store store_after : K) (out : W) (end : Status) (reason : StoreStop) (failed : Type 0) → Then (Loads (content store)) Holds (Err reason)
      → content store_after ≡ content store → IsKept kept unkept store store_after (Load ∷ []) failed → (end ≡ status.StoreFault → failed) → end ≢ status.WriteFault → IsStoppedBy reason end
      → IsServeRun files fetched unread left unfed content kept unkept told unwritten shelf shelf input input store store_after out out end
  stopped-run shelf input store store_after out end reason failed holds same asked fault not_cut stopped =
      unserved-run shelf input store store_after out out end reason failed holds same asked fault
      (record {
        told_so = Stopped stopped;
        shelf_same = refl;
        input_same = refl;
        content_same = same;
        written = record { kept = λ silent. refl; counted = λ cut. absurd (not_cut cut); never_falls = (omega arith) };
      })
