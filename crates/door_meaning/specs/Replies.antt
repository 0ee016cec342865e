-- Replies as plain data, and their texts.
use Rattle.std.specs.Prelude.{ℕ, Bool, true, false, List, [], ◌∷◌, codes}
use Rattle.std.specs.Fmt.{decimal}
use Rattle.std.specs.List.{concat, join_by}
use Rattle.type_schema.specs.declared.rights.Right.{Right}
use Rattle.type_schema.specs.declared.rights.Right.TheVariants as right
use Rattle.data_meaning.specs.Values.{Value}
use Rattle.data_print.specs.Texts.{id_text, value_text}
use Rattle.data_records.specs.Views.{value_data}
use Rattle.door_meaning.specs.declared.reply.Denial.{Denial}
use Rattle.door_meaning.specs.declared.reply.Denial.TheVariants as denial
use Rattle.door_meaning.specs.declared.reply.Fullness.{Fullness}
use Rattle.door_meaning.specs.declared.reply.Fullness.TheVariants as full
use Rattle.door_meaning.specs.declared.reply.Reply as code
use Rattle.door_meaning.specs.declared.reply.Reply.TheVariants as made

-- what a line is answered
pub data Reply : Type 0 where
  Done : Reply
  Version : ℕ → Reply
  Val : Value → Reply
  New : ℕ → Reply
  Ids : List ℕ → Reply
  Quiet : Reply
  Denied : Denial → Reply
  NoRecord : Reply
  Dangling : (field : List ℕ) → (id : ℕ) → Reply
  Referenced : (model : List ℕ) → (id : ℕ) → (field : List ℕ) → Reply
  WrongShape : (field : List ℕ) → Reply
  Stale : (session door : ℕ) → Reply
  NoSession : Reply
  SessionTaken : Reply
  Full : Fullness → Reply
  IdsSpent : Reply
  BadLine : (at : ℕ) → Reply
  Script : List ℕ → Reply
  Unknown : (at : ℕ) → Reply
  NotPrincipal : Reply

-- the plain reply that one of the code stands for
abbrev pub reply_data : code.Reply → Reply
reply_data made.Done = Done
reply_data (made.Version version) = Version version
reply_data (made.Val v) = Val (value_data v)
reply_data (made.New id) = New id
reply_data (made.Ids ids) = Ids ids
reply_data made.Quiet = Quiet
reply_data (made.Denied what) = Denied what
reply_data made.NoRecord = NoRecord
reply_data (made.Dangling field id) = Dangling field id
reply_data (made.Referenced model id field) = Referenced model id field
reply_data (made.WrongShape field) = WrongShape field
reply_data (made.Stale session door) = Stale session door
reply_data made.NoSession = NoSession
reply_data made.SessionTaken = SessionTaken
reply_data (made.Full what) = Full what
reply_data made.IdsSpent = IdsSpent
reply_data (made.BadLine at) = BadLine at
reply_data (made.Script report) = Script report
reply_data (made.Unknown at) = Unknown at
reply_data made.NotPrincipal = NotPrincipal

-- ---- texts, each with its end

abbrev pub right_text : Right → List ℕ
right_text right.Read = codes "read"
right_text right.Write = codes "write"
right_text right.Create = codes "create"
right_text right.Delete = codes "delete"

abbrev pub denial_text : Denial → List ℕ
denial_text (denial.Field name) = name
denial_text (denial.Right r) = right_text r

abbrev pub fullness_text : Fullness → List ℕ
fullness_text full.Records = codes "records"
fullness_text full.Weight = codes "weight"
fullness_text full.Sessions = codes "sessions"

abbrev pub ids_text : List ℕ → List ℕ
ids_text ids = concat (codes "[" ∷ join_by id_text (codes ", ") ids ∷ codes "]" ∷ [])

-- the reply as it is put out; a report has its own end
abbrev pub reply_text : Reply → List ℕ
reply_text Done = codes "ok\n"
reply_text (Version version) = concat (codes "ok version " ∷ decimal version ∷ codes "\n" ∷ [])
reply_text (Val v) = concat (codes "ok " ∷ value_text v ∷ codes "\n" ∷ [])
reply_text (New id) = concat (codes "ok " ∷ id_text id ∷ codes "\n" ∷ [])
reply_text (Ids ids) = concat (codes "ok " ∷ ids_text ids ∷ codes "\n" ∷ [])
reply_text Quiet = []
reply_text (Denied what) = concat (codes "denied " ∷ denial_text what ∷ codes "\n" ∷ [])
reply_text NoRecord = codes "no record\n"
reply_text (Dangling field id) = concat (codes "dangling " ∷ field ∷ codes " " ∷ id_text id ∷ codes "\n" ∷ [])
reply_text (Referenced model id field) = concat (codes "referenced " ∷ model ∷ codes " " ∷ id_text id ∷ codes " " ∷ field ∷ codes "\n" ∷ [])
reply_text (WrongShape field) = concat (codes "wrong shape " ∷ field ∷ codes "\n" ∷ [])
reply_text (Stale session door) = concat (codes "stale " ∷ decimal session ∷ codes " " ∷ decimal door ∷ codes "\n" ∷ [])
reply_text NoSession = codes "no session\n"
reply_text SessionTaken = codes "taken\n"
reply_text (Full what) = concat (codes "full " ∷ fullness_text what ∷ codes "\n" ∷ [])
reply_text IdsSpent = codes "ids spent\n"
reply_text (BadLine at) = concat (codes "bad line " ∷ decimal at ∷ codes "\n" ∷ [])
reply_text (Script report) = report
reply_text (Unknown at) = concat (codes "unknown " ∷ decimal at ∷ codes "\n" ∷ [])
reply_text NotPrincipal = codes "not principal\n"

-- whether the reply may tell of a change of what is stored
abbrev pub tells_change : Reply → Bool
tells_change Done = true
tells_change (Version version) = false
tells_change (Val v) = false
tells_change (New id) = true
tells_change (Ids ids) = false
tells_change Quiet = false
tells_change (Denied what) = false
tells_change NoRecord = false
tells_change (Dangling field id) = false
tells_change (Referenced model id field) = false
tells_change (WrongShape field) = false
tells_change (Stale session door) = false
tells_change NoSession = false
tells_change SessionTaken = false
tells_change (Full what) = false
tells_change IdsSpent = false
tells_change (BadLine at) = false
tells_change (Script report) = true
tells_change (Unknown at) = false
tells_change NotPrincipal = false
