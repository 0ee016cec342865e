-- From the turns so far and one more to the turns then, or to the end of the run.
use Rattle.std.proofs.Common.{◌≡◌, ◌≢◌, ℕ, ◌+◌, ◌<◌, ◌-◌, List, [], ◌∷◌, ◌++◌, length, Option, refl, ap, sym, ◌∙◌, subst, inl, inr, append-nil, append_assoc, length-append, arith}
use Rattle.std.specs.Prelude.{◌⊎◌, IfSome, None, Some, Result, Ok, Err}
use Rattle.std.specs.Io.KnownBytes.{Consumes, IsAtEnd}
use Rattle.std.specs.List.{flat_map}
use Rattle.app_flow.specs.Faults.{Rose}
use Rattle.app_flow.specs.Files.{Files}
use Rattle.app_flow.specs.Outside.{IsRead}
use Rattle.app_flow.specs.Told.{Appends, AppendsFront}
use Rattle.app_flow.proofs.OutsideLemmas.{read-more, read-none}
use Rattle.app_flow.proofs.ToldLemmas.{Appends-none, Appends-then}
use Rattle.app_files.specs.declared.status.Status.{Status}
use Rattle.app_files.specs.declared.status.Status.TheVariants as status
use Rattle.app_files.specs.Ends.{IsSilent}
use Rattle.app_store.specs.Calls.{Call, fetched_by}
use Rattle.app_store.specs.Headline.{IsHeld}
use Rattle.app_store.proofs.Ran.{kept-more, kept-none}
use Rattle.door_lines.specs.Lines.{HasEnded, IsFirst, IsInLine, IsRest, LineBufState, held}
use Rattle.door_lines.proofs.RestLemmas.{consumes_none, consumes_then}
use Rattle.door_meaning.specs.Replies.{reply_text}
use Rattle.door_meaning.specs.Sessions.{Outcome}
use Rattle.door_meaning.specs.State.{State}
use Rattle.door_meaning.specs.declared.session.Session.{Session}
use Rattle.door_meaning.specs.Step.{Asked, DoorRun, DoorStep, ItsFile, Line, LineMayFetch, NoFile, Stands, Unasked, most_line_bytes}
use Rattle.door_serve.proofs.Migrating.{held-stays}
use Rattle.store_keeper.specs.declared.keeper.KeepCall.{KeepCall}
use Rattle.store_keeper.specs.Content.{Content, replaced}
use Rattle.store_keeper.specs.Stored.{IsStored, Stored}
use Rattle.app_serve.specs.declared.serve_err.ServeErr.{ServeErr}
use Rattle.app_serve.specs.declared.serve_err.ServeErr.TheVariants as err
use Rattle.app_serve.specs.declared.service.Turn.{Turn}
use Rattle.app_serve.specs.declared.service.Turn.TheVariants.{Answered, Ended}
use Rattle.app_serve.specs.Ends.{status_of}
use Rattle.app_serve.specs.Lines.{NoLine, read_as}
use Rattle.app_serve.specs.Replied.{Cut, Put, Unanswered}
use Rattle.app_serve.specs.Run.{IsServed}
use Rattle.app_serve.specs.Served.{AreAnswered, AtEnd, IsEnd, NoMemory, Spent, Unfed, Unread, Unstored, Unwritten, door_over, most_input_bytes}
use Rattle.app_serve.specs.Turned.{Comes, IsUnderWay, NoMore, Read, Starved, Turned}
use Rattle.app_serve.proofs.Serving.{GoesOn, answered-more, answered-same, fetched-more, first-of, front-then, goes-on, replaced-twice, rose-later, whole-of}

-- how many bytes may still be taken, and how many belong to no line
abbrev pub left-over : LineBufState → ℕ
left-over buf = (buf.budget - buf.taken) + (buf.dropped + length (held buf))

-- what the store holds after its changes
pub held-now : (content now : Content) (s : Stored) → now ≡ replaced s content → IsStored s → IsHeld now s
held-now content now s is is_stored = record { told = subst (λ (z : Content). IfSome z (λ h. h ≡ Some s)) (sym is) (told-so content); stored = is_stored }
  where
    told-so : (c : Content) → IfSome (replaced s c) (λ h. h ≡ Some s)
    told-so None = tt
    told-so (Some held) = refl

-- before the first line
pub under-way-start : {F S K W : Type 0} (files : F → Option Files) (fetched : F → Option (List (List ℕ))) (unread : F → ℕ) (left : S → Option (List ℕ)) (unfed : S → ℕ) (content : K → Content) (kept : K → Option (List KeepCall)) (unkept : K → ℕ) (told : W → Option (List ℕ)) (unwritten : W → ℕ) (shelf : F) (input : S) (store : K) (out : W) (buf : LineBufState) (st : State)
    → st.sessions ≡ [] → IsRest buf [] → buf.taken ≡ 0 → buf.line_limit ≡ most_line_bytes → buf.budget ≡ most_input_bytes → IsHeld (content store) st.stored
    → IsUnderWay files fetched unread left unfed content kept unkept told unwritten shelf shelf input input store store out out st.stored buf st
under-way-start files fetched unread left unfed content kept unkept told unwritten shelf input store out buf st none fresh zero line_limit budget held = record {
  bytes = [];
  lines = [];
  rest = [];
  calls = [];
  text = [];
  made = [];
  answered = record {
    taken = consumes_none (left input);
    are_lines = NoLine;
    run = subst (λ (z : State). DoorRun (files shelf) (door_over st.stored) [] [] [] z) (ap (λ (l : List Session). record { stored = st.stored; sessions = l }) (sym none)) (Stands (door_over st.stored));
  };
  is_rest = fresh;
  count = zero;
  line_limit = line_limit;
  budget = budget;
  within = (omega (arith, zero));
  stored_so = held-stays (content store) st.stored held;
  is_stored = held.stored;
  put = Appends-none (told out);
  read = read-none files fetched unread shelf ⊥ (λ h. h);
  kept_so = kept-none kept unkept store ⊥ (λ h. h);
  fed = (omega arith);
  written = (omega arith);
}

module _ {F S K W : Type 0} (files : F → Option Files) (fetched : F → Option (List (List ℕ))) (unread : F → ℕ) (left : S → Option (List ℕ)) (unfed : S → ℕ) (content : K → Content) (kept : K → Option (List KeepCall)) (unkept : K → ℕ) (told : W → Option (List ℕ)) (unwritten : W → ℕ) (shelf now after : F) (input input_now input_after : S) (store store_now store_after : K) (out out_now out_after : W) (s : Stored) (buf buf_after : LineBufState) (st st_after : State) where
  -- the turns so far, the turn, and what there is then
  abbrev SoFar : Type 0
  SoFar = IsUnderWay files fetched unread left unfed content kept unkept told unwritten shelf now input input_now store store_now out out_now s buf st

  abbrev OneTurn : Result Turn ServeErr → Type 0
  OneTurn result = Turned files fetched unread left unfed content kept unkept told unwritten now after input_now input_after store_now store_after out_now out_after buf buf_after st st_after result

  came-split : (u : SoFar) (result : Result Turn ServeErr) (t : OneTurn result) → buf_after.taken ≡ length (u.bytes ++ (u.rest ++ t.came))
  came-split u result t =
      (let n = length-append (u.bytes ++ u.rest) t.came in
      let same : length ((u.bytes ++ u.rest) ++ t.came) ≡ length (u.bytes ++ (u.rest ++ t.came)) = ap length (append_assoc u.bytes u.rest t.came) in
      omega (arith, t.counted, u.count, n, same))

  all-taken : (u : SoFar) (result : Result Turn ServeErr) (t : OneTurn result) → Consumes (left input) (left input_after) (u.bytes ++ (u.rest ++ t.came))
  all-taken u result t =
      subst (Consumes (left input) (left input_after)) (append_assoc u.bytes u.rest t.came)
      (consumes_then (left input) (left input_now) (left input_after) (u.bytes ++ u.rest) t.came u.answered.taken t.consumed)

  read-all : (u : SoFar) (result : Result Turn ServeErr) (t : OneTurn result) → IsRead files fetched unread shelf after (flat_map fetched_by u.calls ++ flat_map fetched_by t.calls) ⊥
  read-all u result t = read-more files fetched unread shelf now after (flat_map fetched_by u.calls) (flat_map fetched_by t.calls) ⊥ ⊥ u.read t.read

  -- a step over what the shelf holds now is one over what it held
  step-first : (u : SoFar) (line : List ℕ) (calls : List Call) (outcome : Outcome) → DoorStep (files now) st (read_as line) calls outcome → DoorStep (files shelf) st (read_as line) calls outcome
  step-first u line calls outcome step = subst (λ (z : Option Files). DoorStep z st (read_as line) calls outcome) u.read.kept step

  stored-first : (u : SoFar) (later : Stored) → content store_after ≡ replaced later (content store_now) → content store_after ≡ replaced later (content store)
  stored-first u later stored = stored ∙ ap (replaced later) u.stored_so ∙ replaced-twice later st.stored (content store)

  -- ---- a line is answered, and its reply put out

  next-line : (u : SoFar) (t : OneTurn (Ok Answered)) → IsStored st_after.stored → (line : List ℕ) → IsInLine line → GoesOn (left input) buf_after u.bytes u.lines (u.rest ++ t.came) line
      → (outcome : Outcome) → DoorStep (files now) st (read_as line) t.calls outcome → st_after ≡ outcome.state → content store_after ≡ replaced outcome.state.stored (content store_now)
      → Appends (told out_now) (told out_after) (reply_text outcome.reply) → IsUnderWay files fetched unread left unfed content kept unkept told unwritten shelf after input input_after store store_after out out_after s buf_after st_after
  next-line u t is_stored line in_line g outcome step same stored put = record {
    bytes = g.bytes_after;
    lines = u.lines ++ line ∷ [];
    rest = g.rest_after;
    calls = u.calls ++ t.calls;
    text = u.text ++ reply_text outcome.reply;
    made = u.made ++ t.made;
    answered =
        subst (λ (z : State). AreAnswered (files shelf) s (left input) (left input_after) g.bytes_after (u.lines ++ line ∷ []) g.rest_after (u.calls ++ t.calls) (u.text ++ reply_text outcome.reply) z) (sym same)
        (answered-more (files shelf) s (left input) (left input_now) (left input_after) u.bytes u.lines u.rest t.came u.calls u.text st u.answered t.consumed g.bytes_after g.rest_after line g.split g.are_lines t.calls outcome
        (step-first u line t.calls outcome step));
    is_rest = g.is_rest;
    count = came-split u (Ok Answered) t ∙ ap length g.split;
    line_limit = t.limits.line_limit ∙ u.line_limit;
    budget = t.limits.budget ∙ u.budget;
    within = t.within;
    stored_so = stored-first u st_after.stored (stored ∙ ap (λ (z : State). replaced z.stored (content store_now)) (sym same));
    is_stored = is_stored;
    put = Appends-then (told out) (told out_now) (told out_after) u.text (reply_text outcome.reply) u.put put;
    read = subst (λ (names : List (List ℕ)). IsRead files fetched unread shelf after names ⊥) (fetched-more u.calls t.calls) (read-all u (Ok Answered) t);
    kept_so = kept-more kept unkept store store_now store_after u.made t.made ⊥ ⊥ u.kept_so t.kept_so;
    fed = (omega (arith, u.fed, t.fed));
    written = (omega (arith, u.written, t.written));
  }

  goes-then : (u : SoFar) (result : Result Turn ServeErr) (t : OneTurn result) (line : List ℕ) → IsFirst (HasEnded (left input_after) buf_after) buf_after (u.rest ++ t.came) line → IsInLine line
      → GoesOn (left input) buf_after u.bytes u.lines (u.rest ++ t.came) line
  goes-then u result t line first in_line = goes-on (left input) (left input_after) buf_after u.bytes u.lines (u.rest ++ t.came) line (all-taken u result t) u.answered.are_lines first in_line

  next-of : (u : SoFar) (t : OneTurn (Ok Answered)) → IsStored st_after.stored → Comes files fetched unread left unfed content kept unkept told unwritten now after input_now input_after store_now store_after out_now out_after buf_after st st_after t.calls (u.rest ++ t.came) (Ok Answered)
      → IsUnderWay files fetched unread left unfed content kept unkept told unwritten shelf after input input_after store store_after out out_after s buf_after st_after
  next-of u t is_stored (NoMore is ended none silent same told_same) = absurd cc
  next-of u t is_stored (Starved in_line (inl (is, rose)) silent same told_same) = absurd cc
  next-of u t is_stored (Starved in_line (inr (is, spent)) silent same told_same) = absurd cc
  next-of u t is_stored (Read line first in_line (Put outcome step same stored is put)) =
      next-line u t is_stored line in_line (goes-then u (Ok Answered) t line first in_line) outcome step same stored put
  next-of u t is_stored (Read line first in_line (Cut outcome step same stored is rose front)) = absurd cc
  next-of u t is_stored (Read line first in_line (Unanswered may same told_same (inl (is, rose)))) = absurd cc
  next-of u t is_stored (Read line first in_line (Unanswered may same told_same (inr (inl (is, rose))))) = absurd cc
  next-of u t is_stored (Read line first in_line (Unanswered may same told_same (inr (inr is)))) = absurd cc

  pub under-way-next : SoFar → OneTurn (Ok Answered) → IsStored st_after.stored → IsUnderWay files fetched unread left unfed content kept unkept told unwritten shelf after input input_after store store_after out out_after s buf_after st_after
  under-way-next u t is_stored = next-of u t is_stored (t.comes u.rest u.is_rest)

  less-left : (u : SoFar) (t : OneTurn (Ok Answered)) (line : List ℕ) → GoesOn (left input) buf_after u.bytes u.lines (u.rest ++ t.came) line → left-over buf_after < left-over buf
  less-left u t line g =
      let old : length u.rest ≡ buf.dropped + length (held buf) = ap length u.is_rest.glued ∙ length-append u.is_rest.gone (held buf) ∙ ap (λ n. n + length (held buf)) u.is_rest.size in
      let new : length g.rest_after ≡ buf_after.dropped + length (held buf_after) = ap length g.is_rest.glued ∙ length-append g.is_rest.gone (held buf_after) ∙ ap (λ n. n + length (held buf_after)) g.is_rest.size in
      let behind = length-append u.rest t.came in
      omega (arith, old, new, behind, g.shorter, t.counted, t.within, t.limits.budget, u.within)

  less-of : (u : SoFar) (t : OneTurn (Ok Answered)) → Comes files fetched unread left unfed content kept unkept told unwritten now after input_now input_after store_now store_after out_now out_after buf_after st st_after t.calls (u.rest ++ t.came) (Ok Answered) → left-over buf_after < left-over buf
  less-of u t (NoMore is ended none silent same told_same) = absurd cc
  less-of u t (Starved in_line (inl (is, rose)) silent same told_same) = absurd cc
  less-of u t (Starved in_line (inr (is, spent)) silent same told_same) = absurd cc
  less-of u t (Read line first in_line replied) = less-left u t line (goes-then u (Ok Answered) t line first in_line)

  pub under-way-less : SoFar → OneTurn (Ok Answered) → left-over buf_after < left-over buf
  under-way-less u t = less-of u t (t.comes u.rest u.is_rest)

  -- ---- no further line is answered

  abbrev IsEndNow : (took : ℕ) (rest : List ℕ) → Status → Type 0
  IsEndNow took rest status =
      IsEnd (Rose (unread shelf) (unread after)) (Rose (unfed input) (unfed input_after)) (Rose (unwritten out) (unwritten out_after)) (Rose (unkept store) (unkept store_after)) (IsAtEnd (left input_after)) took rest status

  abbrev Over : Status → Type 0
  Over status = IsServed files fetched unread left unfed content kept unkept told unwritten shelf after input input_after store store_after out out_after status s

  stops-here : (u : SoFar) (result : Result Turn ServeErr) (t : OneTurn result) (end : Status) → end ≢ status.WriteFault → content store_after ≡ content store_now → told out_after ≡ told out_now
      → (end ≡ status.Done → ((u.rest ++ t.came) ≡ []) × IsAtEnd (left input_after)) → (flat_map fetched_by t.calls ≡ []) ⊎ (IsSilent end × ((name : List ℕ) × (flat_map fetched_by t.calls ≡ name ∷ [])))
      → IsEndNow (length (u.bytes ++ (u.rest ++ t.came))) (u.rest ++ t.came) end → Over end
  stops-here u result t end not_cut same told_same done few is_end =
      let answered = answered-same (files shelf) s (left input) (left input_now) (left input_after) u.bytes u.lines u.rest t.came u.calls u.text st u.answered t.consumed in
      record {
        bytes = u.bytes;
        lines = u.lines;
        rest = u.rest ++ t.came;
        calls = u.calls;
        text = u.text;
        last = st;
        answered = answered;
        first = first-of (files shelf) s (left input) (left input_after) u.bytes u.lines (u.rest ++ t.came) u.calls u.text st answered;
        whole = λ is. whole-of (files shelf) s (left input) (left input_after) u.bytes u.lines (u.rest ++ t.came) u.calls u.text st answered (done is).0 (done is).1;
        stored = same ∙ u.stored_so;
        put = λ not. subst (λ (z : Option (List ℕ)). Appends (told out) z u.text) (sym told_same) u.put;
        cut = λ is. absurd (not_cut is);
        end = is_end;
        more = flat_map fetched_by t.calls;
        few_more = few;
        read = read-all u result t;
        fed = (omega (arith, u.fed, t.fed));
        written = (omega (arith, u.written, t.written));
      }

  -- the reply to the last line was cut
  cut-here : (u : SoFar) (result : Result Turn ServeErr) (t : OneTurn result) (line : List ℕ) → GoesOn (left input) buf_after u.bytes u.lines (u.rest ++ t.came) line
      → (outcome : Outcome) → DoorStep (files now) st (read_as line) t.calls outcome → content store_after ≡ replaced outcome.state.stored (content store_now)
      → AppendsFront (told out_now) (told out_after) (reply_text outcome.reply) → Rose (unwritten out_now) (unwritten out_after) → Over status.WriteFault
  cut-here u result t line g outcome step stored front rose =
      let answered = answered-more (files shelf) s (left input) (left input_now) (left input_after) u.bytes u.lines u.rest t.came u.calls u.text st u.answered t.consumed g.bytes_after g.rest_after line g.split g.are_lines t.calls outcome
      (step-first u line t.calls outcome step) in
      record {
        bytes = g.bytes_after;
        lines = u.lines ++ line ∷ [];
        rest = g.rest_after;
        calls = u.calls ++ t.calls;
        text = u.text ++ reply_text outcome.reply;
        last = outcome.state;
        answered = answered;
        first = first-of (files shelf) s (left input) (left input_after) g.bytes_after (u.lines ++ line ∷ []) g.rest_after (u.calls ++ t.calls) (u.text ++ reply_text outcome.reply) outcome.state answered;
        whole = λ is. absurd cc;
        stored = stored-first u outcome.state.stored stored;
        put = λ not. absurd (not refl);
        cut = λ is. front-then (told out) (told out_now) (told out_after) u.text (reply_text outcome.reply) u.put front;
        end = Unwritten refl (rose-later (unwritten out) (unwritten out_now) (unwritten out_after) u.written t.written rose);
        more = [];
        few_more = inl refl;
        read = subst (λ (names : List (List ℕ)). IsRead files fetched unread shelf after names ⊥) (fetched-more u.calls t.calls ∙ sym (append-nil (flat_map fetched_by (u.calls ++ t.calls)))) (read-all u result t);
        fed = (omega (arith, u.fed, t.fed));
        written = (omega (arith, u.written, t.written));
      }

  names-none : (calls : List Call) → calls ≡ [] → flat_map fetched_by calls ≡ []
  names-none calls none = ap (flat_map fetched_by) none

  -- the file of the line without a reply
  one-more : (line : Line) (calls : List Call) (end : Status) → LineMayFetch st line calls → IsSilent end → (flat_map fetched_by calls ≡ []) ⊎ (IsSilent end × ((name : List ℕ) × (flat_map fetched_by calls ≡ name ∷ [])))
  one-more line calls end (Unasked none) silent = inl (names-none calls none)
  one-more line calls end (Asked bytes r is of (NoFile none)) silent = inl (names-none calls none)
  one-more line calls end (Asked bytes r is of (ItsFile name at e rises one)) silent = inr (silent, (name, ap (flat_map fetched_by) one))

  pub ended-of : (u : SoFar) (t : OneTurn (Ok Ended)) → Comes files fetched unread left unfed content kept unkept told unwritten now after input_now input_after store_now store_after out_now out_after buf_after st st_after t.calls (u.rest ++ t.came) (Ok Ended) → Over status.Done
  ended-of u t (NoMore is ended none silent same told_same) =
      stops-here u (Ok Ended) t status.Done (λ e. cc) same told_same (λ e. (none, ended.0)) (inl (names-none t.calls silent))
      (AtEnd refl ended.0 none (let n = came-split u (Ok Ended) t in let b : buf_after.budget ≡ most_input_bytes = t.limits.budget ∙ u.budget in omega (arith, n, b, ended.1)))
  ended-of u t (Starved in_line (inl (is, rose)) silent same told_same) = absurd cc
  ended-of u t (Starved in_line (inr (is, spent)) silent same told_same) = absurd cc
  ended-of u t (Read line first in_line (Put outcome step same stored is put)) = absurd cc
  ended-of u t (Read line first in_line (Cut outcome step same stored is rose front)) = absurd cc
  ended-of u t (Read line first in_line (Unanswered may same told_same (inl (is, rose)))) = absurd cc
  ended-of u t (Read line first in_line (Unanswered may same told_same (inr (inl (is, rose))))) = absurd cc
  ended-of u t (Read line first in_line (Unanswered may same told_same (inr (inr is)))) = absurd cc

  -- the input has ended
  pub served-whole : SoFar → OneTurn (Ok Ended) → Over status.Done
  served-whole u t = ended-of u t (t.comes u.rest u.is_rest)

  over-as : (e f : ServeErr) → f ≡ e → Over (status_of e) → Over (status_of f)
  over-as e f same over = subst (λ (z : ServeErr). Over (status_of z)) (sym same) over

  err-same : (e f : ServeErr) (one other : Result Turn ServeErr) → one ≡ Err f → other ≡ Err e → one ≡ other → f ≡ e
  err-same e f one other p q is = cc

  failed-of : (e : ServeErr) (u : SoFar) (t : OneTurn (Err e)) → Comes files fetched unread left unfed content kept unkept told unwritten now after input_now input_after store_now store_after out_now out_after buf_after st st_after t.calls (u.rest ++ t.came) (Err e) → Over (status_of e)
  failed-of e u t (NoMore is ended none silent same told_same) = absurd cc
  failed-of e u t (Starved in_line (inl (is, rose)) silent same told_same) =
      over-as err.ReadFault e (err-same err.ReadFault e (Err e) (Err err.ReadFault) refl refl is)
      (stops-here u (Err e) t status.ReadFault (λ w. cc) same told_same (λ w. absurd cc) (inl (names-none t.calls silent))
      (Unfed refl (rose-later (unfed input) (unfed input_now) (unfed input_after) u.fed t.fed rose) in_line))
  failed-of e u t (Starved in_line (inr (is, spent)) silent same told_same) =
      over-as err.TooLong e (err-same err.TooLong e (Err e) (Err err.TooLong) refl refl is)
      (stops-here u (Err e) t status.TooLong (λ w. cc) same told_same (λ w. absurd cc) (inl (names-none t.calls silent))
      (Spent refl (let n = came-split u (Err e) t in let b : buf_after.budget ≡ most_input_bytes = t.limits.budget ∙ u.budget in sym n ∙ spent ∙ b) in_line))
  failed-of e u t (Read line first in_line (Put outcome step same stored is put)) = absurd cc
  failed-of e u t (Read line first in_line (Cut outcome step same stored is rose front)) =
      over-as err.WriteFault e (err-same err.WriteFault e (Err e) (Err err.WriteFault) refl refl is) (cut-here u (Err e) t line (goes-then u (Err e) t line first in_line) outcome step stored front rose)
  failed-of e u t (Read line first in_line (Unanswered may same told_same (inl (is, rose)))) =
      over-as err.ReadFault e (err-same err.ReadFault e (Err e) (Err err.ReadFault) refl refl is)
      (stops-here u (Err e) t status.ReadFault (λ w. cc) same told_same (λ w. absurd cc) (one-more (read_as line) t.calls status.ReadFault may (inl refl))
      (Unread refl (rose-later (unread shelf) (unread now) (unread after) u.read.never_falls t.read.never_falls rose)))
  failed-of e u t (Read line first in_line (Unanswered may same told_same (inr (inl (is, rose))))) =
      over-as err.StoreFault e (err-same err.StoreFault e (Err e) (Err err.StoreFault) refl refl is)
      (stops-here u (Err e) t status.StoreFault (λ w. cc) same told_same (λ w. absurd cc) (one-more (read_as line) t.calls status.StoreFault may (inr (inl refl)))
      (Unstored refl (rose-later (unkept store) (unkept store_now) (unkept store_after) u.kept_so.never_falls t.kept_so.never_falls rose)))
  failed-of e u t (Read line first in_line (Unanswered may same told_same (inr (inr is)))) =
      over-as err.OutOfMemory e (err-same err.OutOfMemory e (Err e) (Err err.OutOfMemory) refl refl is)
      (stops-here u (Err e) t status.OutOfMemory (λ w. cc) same told_same (λ w. absurd cc) (one-more (read_as line) t.calls status.OutOfMemory may (inr (inr refl))) (NoMemory refl))

  -- a fault, a limit or want of memory ended it
  pub served-failed : (e : ServeErr) → SoFar → OneTurn (Err e) → Over (status_of e)
  served-failed e u t = failed-of e u t (t.comes u.rest u.is_rest)
