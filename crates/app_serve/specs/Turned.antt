-- What one turn of `serve` came to: a line that was read, and answered.
use Rattle.std.specs.Prelude.{◌≡◌, ◌≤◌, ◌⊎◌, ℕ, ◌+◌, List, [], ◌++◌, length, Option, None, Some, Result, Ok, Err}
use Rattle.std.specs.Io.KnownBytes.{Consumes}
use Rattle.std.specs.List.{flat_map}
use Rattle.app_flow.specs.Faults.{Rose}
use Rattle.app_flow.specs.Files.{Files}
use Rattle.app_flow.specs.Outside.{IsRead}
use Rattle.app_flow.specs.Told.{Appends}
use Rattle.app_files.specs.declared.status.Status.{Status}
use Rattle.app_files.specs.declared.status.Status.TheVariants.{Done}
use Rattle.app_store.specs.Calls.{Call, fetched_by}
use Rattle.app_store.specs.Told.{IsKept}
use Rattle.door_lines.specs.Lines.{HasEnded, IsFirst, IsInLine, IsRest, LineBufState, SameLimits}
use Rattle.door_meaning.specs.State.{State}
use Rattle.door_meaning.specs.Step.{Cut, Line, Whole, most_line_bytes}
use Rattle.store_keeper.specs.declared.keeper.KeepCall.{KeepCall}
use Rattle.store_keeper.specs.Content.{Content, replaced}
use Rattle.store_keeper.specs.Stored.{IsStored, Stored}
use Rattle.app_serve.specs.declared.serve_err.ServeErr.{ServeErr}
use Rattle.app_serve.specs.declared.serve_err.ServeErr.TheVariants.{ReadFault, TooLong}
use Rattle.app_serve.specs.declared.service.Turn.{Turn}
use Rattle.app_serve.specs.declared.service.Turn.TheVariants.{Answered, Ended}
use Rattle.app_serve.specs.Ends.{status_of}
use Rattle.app_serve.specs.Lines.{read_as}
use Rattle.app_serve.specs.Replied.{IsReplied}
use Rattle.app_serve.specs.Served.{AreAnswered, most_input_bytes}

-- a line that is not there was too long
abbrev pub line_seen : Option (List ℕ) → Line
line_seen None = Cut
line_seen (Some line) = Whole line

-- the status that the run ends with
abbrev pub status_at : Result (Unit {0}) ServeErr → Status
status_at (Ok done) = Done
status_at (Err err) = status_of err

-- The objects as in `IsServeRun`.
module _ {F S K W : Type 0} (files : F → Option Files) (fetched : F → Option (List (List ℕ))) (unread : F → ℕ) (left : S → Option (List ℕ)) (unfed : S → ℕ) (content : K → Content) (kept : K → Option (List KeepCall)) (unkept : K → ℕ) (told : W → Option (List ℕ)) (unwritten : W → ℕ) (shelf shelf_after : F) (input input_after : S) (store store_after : K) (out out_after : W) where
  -- The bytes that belong to no line yet, with those that came: there is no further line, or none is known to be, or the first one is answered.
  pub data Comes (buf_after : LineBufState) (st after : State) (calls : List Call) (bytes : List ℕ) (result : Result Turn ServeErr) : Type 0 where
    NoMore : result ≡ Ok Ended → HasEnded (left input_after) buf_after → bytes ≡ [] → calls ≡ [] → content store_after ≡ content store → told out_after ≡ told out
        → Comes buf_after st after calls bytes result
    Starved : IsInLine bytes → ((result ≡ Err ReadFault) × Rose (unfed input) (unfed input_after)) ⊎ ((result ≡ Err TooLong) × (buf_after.taken ≡ buf_after.budget))
        → calls ≡ [] → content store_after ≡ content store → told out_after ≡ told out → Comes buf_after st after calls bytes result
    Read : (line : List ℕ) → IsFirst (HasEnded (left input_after) buf_after) buf_after bytes line → IsInLine line
        → IsReplied (Rose (unread shelf) (unread shelf_after)) (Rose (unwritten out) (unwritten out_after)) (Rose (unkept store) (unkept store_after)) (files shelf) st after (read_as line) calls (content store) (content store_after) (told out) (told out_after) Answered result
        → Comes buf_after st after calls bytes result

  pub record Turned (buf buf_after : LineBufState) (st after : State) (result : Result Turn ServeErr) : Type 0 where
    pub came : List ℕ
    pub consumed : Consumes (left input) (left input_after) came
    pub counted : buf_after.taken ≡ buf.taken + length came
    pub limits : SameLimits buf buf_after
    pub within : buf_after.taken ≤ buf_after.budget
    pub calls : List Call
    pub made : List KeepCall
    pub comes : (rest : List ℕ) → IsRest buf rest → Comes buf_after st after calls (rest ++ came) result
    pub read : IsRead files fetched unread shelf shelf_after (flat_map fetched_by calls) ⊥
    pub kept_so : IsKept kept unkept store store_after made ⊥
    pub fed : unfed input ≤ unfed input_after
    pub written : unwritten out ≤ unwritten out_after

  -- Turns so far: the lines are answered, the store holds what the door keeps, and the replies are put out.
  pub record IsUnderWay (s : Stored) (buf : LineBufState) (st : State) : Type 0 where
    pub bytes : List ℕ
    pub lines : List (List ℕ)
    pub rest : List ℕ
    pub calls : List Call
    pub text : List ℕ
    pub made : List KeepCall
    pub answered : AreAnswered (files shelf) s (left input) (left input_after) bytes lines rest calls text st
    pub is_rest : IsRest buf rest
    pub count : buf.taken ≡ length (bytes ++ rest)
    pub line_limit : buf.line_limit ≡ most_line_bytes
    pub budget : buf.budget ≡ most_input_bytes
    pub within : buf.taken ≤ buf.budget
    pub stored_so : content store_after ≡ replaced st.stored (content store)
    pub is_stored : IsStored st.stored
    pub put : Appends (told out) (told out_after) text
    pub read : IsRead files fetched unread shelf shelf_after (flat_map fetched_by calls) ⊥
    pub kept_so : IsKept kept unkept store store_after made ⊥
    pub fed : unfed input ≤ unfed input_after
    pub written : unwritten out ≤ unwritten out_after
