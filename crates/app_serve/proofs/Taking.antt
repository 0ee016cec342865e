-- A call for the next line, and the turn that it makes.
use Rattle.std.proofs.Common.{◌≡◌, ◌≢◌, ℕ, zero, suc, ◌<◌, ◌≤◌, Bool, true, false, cond, List, [], ◌∷◌, ◌++◌, length, Option, refl, ap, sym, ◌∙◌, subst, inl, inr, arith}
use Rattle.std.specs.Prelude.{nat_le, slice_range, Result, Ok, Err}
use Rattle.std.specs.List.{flat_map}
use Rattle.std.proofs.lemmas.Bool.Decides.{nat_tests}
use Rattle.std.proofs.lemmas.List.Elements.{All-cons, All-nil}
use Rattle.app_flow.specs.Faults.{Rose}
use Rattle.app_flow.specs.Files.{Files}
use Rattle.app_flow.specs.Outside.{IsRead}
use Rattle.app_flow.proofs.OutsideLemmas.{read-none}
use Rattle.app_store.specs.Calls.{Call, fetched_by}
use Rattle.app_store.specs.Told.{IsKept}
use Rattle.app_store.proofs.Ran.{kept-none}
use Rattle.door_lines.specs.declared.lines.Line as lines
use Rattle.door_lines.specs.declared.lines.Line.TheVariants as found
use Rattle.door_lines.specs.declared.source.FlowErr.{FlowErr}
use Rattle.door_lines.specs.declared.source.FlowErr.TheVariants as flow
use Rattle.door_lines.specs.Lines.{Answers, HasEnded, IsInLine, IsNextLine, IsRest, LineBufState, held}
use Rattle.door_meaning.specs.State.{State}
use Rattle.door_meaning.specs.Step.{Cut, Line, Whole, most_line_bytes}
use Rattle.store_keeper.specs.declared.keeper.KeepCall.{KeepCall}
use Rattle.store_keeper.specs.Content.{Content}
use Rattle.app_serve.specs.declared.serve_err.ServeErr.{ServeErr}
use Rattle.app_serve.specs.declared.service.Turn.{Turn}
use Rattle.app_serve.specs.declared.service.Turn.TheVariants.{Answered, Ended}
use Rattle.app_serve.specs.Ends.{of_flow}
use Rattle.app_serve.specs.Lines.{read_as}
use Rattle.app_serve.specs.Replied.{IsReplied}
use Rattle.app_serve.specs.Turned.{Comes, NoMore, Read, Starved, Turned}

-- ---- how the door reads a line

read-whole : (line : List ℕ) → length line ≤ most_line_bytes → read_as line ≡ Whole line
read-whole line short =
    let test : nat_le (length line) most_line_bytes ≡ true = grind (arith, nat_tests) in
    ap (λ (b : Bool). cond b (Whole line) Cut) test

read-cut : (line : List ℕ) → most_line_bytes < length line → read_as line ≡ Cut
read-cut line long =
    let test : nat_le (length line) most_line_bytes ≡ false = grind (arith, nat_tests) in
    ap (λ (b : Bool). cond b (Whole line) Cut) test

-- ---- a rest that a buffer may have

abbrev pub zeros : ℕ → List ℕ
zeros zero = []
zeros (suc n) = 0 ∷ zeros n

zeros-length : (n : ℕ) → length (zeros n) ≡ n
zeros-length zero = refl
zeros-length (suc n) = let rest = zeros-length n in omega (arith, rest)

zeros-in_line : (n : ℕ) → IsInLine (zeros n)
zeros-in_line zero = All-nil (λ (b : ℕ). b ≢ 10)
zeros-in_line (suc n) = All-cons (λ (b : ℕ). b ≢ 10) 0 (zeros n) (λ e. omega (arith, e)) (zeros-in_line n)

some-rest : (buf : LineBufState) → IsRest buf (zeros buf.dropped ++ held buf)
some-rest buf = record { gone = zeros buf.dropped; glued = refl; size = zeros-length buf.dropped; in_line = zeros-in_line buf.dropped }

-- a line that stands in the room is within the limit
pub short-line : (left behind : Option (List ℕ)) (buf buf_after : LineBufState) (from to : ℕ) (bytes : List ℕ) → IsNextLine left behind buf buf_after (Ok (found.Text from to)) → buf.line_limit ≡ most_line_bytes
    → bytes ≡ slice_range buf_after.room from to → length bytes ≤ most_line_bytes
short-line left behind buf buf_after from to bytes next limit is =
    let a = next.answers (zeros buf.dropped ++ held buf) (some-rest buf) in
    let same : length bytes ≡ length a.0 = ap length (is ∙ a.6) in
    omega (arith, same, a.3, next.limits.line_limit, limit)

module _ {F S K W : Type 0} (files : F → Option Files) (fetched : F → Option (List (List ℕ))) (unread : F → ℕ) (left : S → Option (List ℕ)) (unfed : S → ℕ) (content : K → Content) (kept : K → Option (List KeepCall)) (unkept : K → ℕ) (told : W → Option (List ℕ)) (unwritten : W → ℕ) (shelf : F) (input input_after : S) (store : K) (out : W) (buf buf_after : LineBufState) (st : State) where
  -- nothing was asked of the other objects
  nothing-asked : (line : Result lines.Line FlowErr) → IsNextLine (left input) (left input_after) buf buf_after line → buf_after.taken ≤ buf_after.budget → unfed input ≤ unfed input_after → (result : Result Turn ServeErr)
      → ((came rest : List ℕ) → Answers (HasEnded (left input_after) buf_after) buf_after (rest ++ came) line → Comes files fetched unread left unfed content kept unkept told unwritten shelf shelf input input_after store store out out buf_after st st [] (rest ++ came) result)
      → Turned files fetched unread left unfed content kept unkept told unwritten shelf shelf input input_after store store out out buf buf_after st st result
  nothing-asked line next within fed result comes = record {
    came = next.came;
    consumed = next.consumed;
    counted = next.counted;
    limits = next.limits;
    within = within;
    calls = [];
    made = [];
    comes = λ rest r. comes next.came rest (next.answers rest r);
    read = read-none files fetched unread shelf ⊥ (λ h. h);
    kept_so = kept-none kept unkept store ⊥ (λ h. h);
    fed = fed;
    written = (omega arith);
  }

  pub no-line : IsNextLine (left input) (left input_after) buf buf_after (Ok found.End) → buf_after.taken ≤ buf_after.budget → unfed input ≤ unfed input_after
      → Turned files fetched unread left unfed content kept unkept told unwritten shelf shelf input input_after store store out out buf buf_after st st (Ok Ended)
  no-line next within fed = nothing-asked (Ok found.End) next within fed (Ok Ended) (λ came rest a. NoMore refl a.0 a.1 refl refl refl)

  starved-so : (e : FlowErr) (result : Result Turn ServeErr) → result ≡ Err (of_flow e) → (e ≡ flow.ReadFault → Rose (unfed input) (unfed input_after)) → (bytes : List ℕ) → Answers (HasEnded (left input_after) buf_after) buf_after bytes (Err e)
      → Comes files fetched unread left unfed content kept unkept told unwritten shelf shelf input input_after store store out out buf_after st st [] bytes result
  starved-so flow.ReadFault result is rose bytes a = Starved a.0 (inl (is, rose refl)) refl refl refl
  starved-so flow.Budget result is rose bytes a = Starved a.0 (inr (is, a.1)) refl refl refl
  starved-so (flow.TooLong limit) result is rose bytes a = absurd a
  starved-so flow.OutOfMemory result is rose bytes a = absurd a

  pub starved : (e : FlowErr) (result : Result Turn ServeErr) → IsNextLine (left input) (left input_after) buf buf_after (Err e) → buf_after.taken ≤ buf_after.budget → unfed input ≤ unfed input_after
      → result ≡ Err (of_flow e) → (e ≡ flow.ReadFault → Rose (unfed input) (unfed input_after)) → Turned files fetched unread left unfed content kept unkept told unwritten shelf shelf input input_after store store out out buf buf_after st st result
  starved e result next within fed is rose = nothing-asked (Err e) next within fed result (λ came rest a. starved-so e result is rose (rest ++ came) a)

  -- a line was found, and answered
  module _ (shelf_after : F) (store_after : K) (out_after : W) (after : State) (result : Result Turn ServeErr) where
    abbrev RepliedTo : Line → Type 0
    RepliedTo line =
        (calls : List Call) × (made : List KeepCall)
        × IsReplied (Rose (unread shelf) (unread shelf_after)) (Rose (unwritten out) (unwritten out_after)) (Rose (unkept store) (unkept store_after)) (files shelf) st after line calls (content store) (content store_after) (told out) (told out_after) Answered result
        × IsRead files fetched unread shelf shelf_after (flat_map fetched_by calls) ⊥ × IsKept kept unkept store store_after made ⊥

    replied-as : (calls : List Call) (one other : Line) → one ≡ other
        → IsReplied (Rose (unread shelf) (unread shelf_after)) (Rose (unwritten out) (unwritten out_after)) (Rose (unkept store) (unkept store_after)) (files shelf) st after one calls (content store) (content store_after) (told out) (told out_after) Answered result
        → IsReplied (Rose (unread shelf) (unread shelf_after)) (Rose (unwritten out) (unwritten out_after)) (Rose (unkept store) (unkept store_after)) (files shelf) st after other calls (content store) (content store_after) (told out) (told out_after) Answered result
    replied-as calls one other same replied =
        subst (λ (l : Line). IsReplied (Rose (unread shelf) (unread shelf_after)) (Rose (unwritten out) (unwritten out_after)) (Rose (unkept store) (unkept store_after)) (files shelf) st after l calls (content store) (content store_after) (told out) (told out_after) Answered result) same replied

    pub read-line : (from to : ℕ) (bytes : List ℕ) → IsNextLine (left input) (left input_after) buf buf_after (Ok (found.Text from to)) → buf_after.taken ≤ buf_after.budget → unfed input ≤ unfed input_after
        → bytes ≡ slice_range buf_after.room from to → length bytes ≤ most_line_bytes → RepliedTo (Whole bytes) → unwritten out ≤ unwritten out_after
        → Turned files fetched unread left unfed content kept unkept told unwritten shelf shelf_after input input_after store store_after out out_after buf buf_after st after result
    read-line from to bytes next within fed is short (calls, made, replied, read, keeps) written = record {
      came = next.came;
      consumed = next.consumed;
      counted = next.counted;
      limits = next.limits;
      within = within;
      calls = calls;
      made = made;
      comes = λ rest r.
          let a = next.answers rest r in
          let same : Whole bytes ≡ read_as a.0 = sym (read-whole bytes short) ∙ ap read_as (is ∙ a.6) in
          Read a.0 a.1 a.2 (replied-as calls (Whole bytes) (read_as a.0) same replied);
      read = read;
      kept_so = keeps;
      fed = fed;
      written = written;
    }

    pub read-cut-line : IsNextLine (left input) (left input_after) buf buf_after (Ok found.Cut) → buf.line_limit ≡ most_line_bytes → buf_after.taken ≤ buf_after.budget → unfed input ≤ unfed input_after
        → RepliedTo Cut → unwritten out ≤ unwritten out_after → Turned files fetched unread left unfed content kept unkept told unwritten shelf shelf_after input input_after store store_after out out_after buf buf_after st after result
    read-cut-line next limit within fed (calls, made, replied, read, keeps) written = record {
      came = next.came;
      consumed = next.consumed;
      counted = next.counted;
      limits = next.limits;
      within = within;
      calls = calls;
      made = made;
      comes = λ rest r.
          let a = next.answers rest r in
          let long : most_line_bytes < length a.0 = omega (arith, a.3, next.limits.line_limit, limit) in
          Read a.0 a.1 a.2 (replied-as calls Cut (read_as a.0) (sym (read-cut a.0 long)) replied);
      read = read;
      kept_so = keeps;
      fed = fed;
      written = written;
    }
