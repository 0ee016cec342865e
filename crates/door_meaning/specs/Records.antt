-- Requests on records: what each asks for over a schema and a database, and then behind a session.
use Rattle.std.specs.Prelude.{ℕ, Bool, not, ◌+◌, ◌-◌, nat_le, nat_lt, List, [], ◌∷◌, Option, None, Some, Result, Ok, Err, if◌then◌else◌}
use Rattle.std.specs.Option.{option_map, option_map_or, option_or}
use Rattle.text_tree.specs.declared.named.Named.{Named}
use Rattle.data_tree.specs.declared.literals.Lit.{Lit}
use Rattle.data_tree.specs.declared.literals.WrittenId.{WrittenId}
use Rattle.data_tree.specs.declared.tables.FieldLit.{FieldLit}
use Rattle.type_schema.specs.declared.rights.Right.TheVariants as right
use Rattle.type_schema.specs.Schema.{FieldInfo, ModelInfo, Schema, field_in}
use Rattle.type_anew.specs.Names.{names_in}
use Rattle.data_meaning.specs.declared.principals.Principal.{Principal}
use Rattle.data_meaning.specs.Values.{Value, last_id}
use Rattle.data_meaning.specs.Database.{Database, field_at, has_record}
use Rattle.data_records.specs.declared.references.Reference.{Reference}
use Rattle.data_records.specs.Changed.{with_field}
use Rattle.data_records.specs.Inserted.{is_there_or_next, next_of, with_row}
use Rattle.data_records.specs.Removed.{first_reference, without_record}
use Rattle.data_records.specs.Room.{most_records, most_weight, record_count, row_weight, total_weight, weight_of}
use Rattle.data_records.specs.Shape.{There, dangling_in}
use Rattle.data_judge.specs.Faults.{field_named}
use Rattle.data_judge.specs.Named.{row_named, value_named}
use Rattle.door_requests.specs.declared.requests.Condition.{Condition}
use Rattle.door_meaning.specs.declared.reply.Denial.TheVariants as denial
use Rattle.door_meaning.specs.declared.reply.Fullness.TheVariants as full
use Rattle.door_meaning.specs.Conditions.{fields_named, found_ids, may, tests_of}
use Rattle.door_meaning.specs.Names.{field_in_at, model_at}
use Rattle.door_meaning.specs.Orders.{finds, goes, stops, unless}
use Rattle.door_meaning.specs.Replies.{Reply, Dangling, Denied, Done, Full, Ids, IdsSpent, New, NoRecord, Referenced, Unknown, Val, WrongShape}
use Rattle.door_meaning.specs.Sessions.{Outcome, live_session}
use Rattle.door_meaning.specs.declared.session.Session.{Session}
use Rattle.door_meaning.specs.State.{State}

-- the database is changed
abbrev pub with_base : Reply → Database → State → Outcome
with_base reply d st = record { reply = reply; state = record st { stored = record st.stored { base = d } } }

abbrev pub unchanged : Reply → State → Outcome
unchanged reply st = record { reply = reply; state = st }

-- ---- `read` and `find`

-- the model and the field that a request names, and the record, which is there
abbrev pub named_field : Schema → Database → (model : Named) → (id : ℕ) → (field : Named) → Result (ModelInfo × FieldInfo) Reply
named_field s d model id field =
    goes (model_at s model) (λ (m : ModelInfo). goes (field_in_at m field) (λ (f : FieldInfo).
    goes (unless (not (has_record d m.number id)) NoRecord) (λ _. Ok (m, f))))

-- what may be read: the model and the field, the record, and then the policy for reading
abbrev pub value_read : Schema → Database → Option Principal → (model : Named) → (id : ℕ) → (field : Named) → Result Value Reply
value_read s d who model id field =
    goes (named_field s d model id field) (λ (v : ModelInfo × FieldInfo).
    goes (unless (not (may d v.1.read id who)) (Denied (denial.Field v.1.name))) (λ _. Ok (field_at d v.0.number id v.1.number)))

-- `read`
abbrev pub read_stage : State → (session model : Named) → WrittenId → (field : Named) → Result Outcome Reply
read_stage st session model id field =
    goes (live_session st session.name) (λ (s : Session). goes (value_read st.stored.schema st.stored.base s.who model id.number field) (λ v.
    Ok (unchanged (Val v) st)))

-- the ids that are found: the model, the fields of the conditions, and then their values; a record is shown only where each of these fields may be read
abbrev pub ids_shown : Schema → Database → Option Principal → (model : Named) → List Condition → Result (List ℕ) Reply
ids_shown s d who model conditions =
    goes (model_at s model) (λ (m : ModelInfo). goes (fields_named m conditions) (λ fields. goes (tests_of fields conditions) (λ tests.
    Ok (found_ids d m.number who tests))))

-- `find`
abbrev pub find_stage : State → (session model : Named) → List Condition → Result Outcome Reply
find_stage st session model conditions =
    goes (live_session st session.name) (λ (s : Session). goes (ids_shown st.stored.schema st.stored.base s.who model conditions) (λ ids.
    Ok (unchanged (Ids ids) st)))

-- ---- `write`

-- a value for a field of a record
pub record Setting : Type 0 where
  pub info : ModelInfo
  pub field : FieldInfo
  pub value : Value

-- what is to be written: as for reading, by the policy for writing; and then the value
abbrev pub named_setting : Schema → Database → Option Principal → (model : Named) → (id : ℕ) → (field : Named) → Lit → Result Setting Reply
named_setting s d who model id field l =
    goes (named_field s d model id field) (λ (v : ModelInfo × FieldInfo). goes (unless (not (may d v.1.write id who)) (Denied (denial.Field v.1.name))) (λ _.
    goes (finds (value_named v.0.number None v.1.ty l) (WrongShape v.1.name)) (λ value. Ok (record { info = v.0; field = v.1; value = value }))))

-- why the field may not hold the value: an id in it names no record, or the weight would rise above the limit
abbrev pub set_refusal : Database → ModelInfo → FieldInfo → (id : ℕ) → Value → Option Reply
set_refusal d m f id v =
    option_or (option_map (λ i. Dangling f.name i) (dangling_in (has_record d) f.ty v))
    (if nat_le (weight_of v) (weight_of (field_at d m.number id f.number) + (most_weight - total_weight d)) then None else Some (Full full.Weight))

-- what may be written
abbrev pub ready_setting : Schema → Database → Option Principal → (model : Named) → (id : ℕ) → (field : Named) → Lit → Result Setting Reply
ready_setting s d who model id field l =
    goes (named_setting s d who model id field l) (λ (set : Setting). goes (stops (set_refusal d set.info set.field id set.value)) (λ _. Ok set))

-- `write`
abbrev pub write_stage : State → (session model : Named) → WrittenId → (field : Named) → Lit → Result Outcome Reply
write_stage st session model id field l =
    let d = st.stored.base in
    goes (live_session st session.name) (λ (s : Session). goes (ready_setting st.stored.schema d s.who model id.number field l) (λ (set : Setting).
    Ok (with_base Done (with_field set.info.number id.number set.field.number set.value d) st)))

-- ---- `create`

-- the values of a record that is to be made, and its id
pub record Making : Type 0 where
  pub info : ModelInfo
  pub row : List Value
  pub id : ℕ

abbrev pub field_name : ModelInfo → ℕ → List ℕ
field_name m f = option_map_or (λ (info : FieldInfo). info.name) (field_in m.fields f) []

-- the first name that is of no field
abbrev pub first_unknown : List FieldInfo → List FieldLit → Option Reply
first_unknown fields [] = None
first_unknown fields (w ∷ ws) = option_map_or (λ (f : FieldInfo). first_unknown fields ws) (field_named fields w.name.name) (Some (Unknown w.name.at))

abbrev pub row_reply : ModelInfo → Result (List Value) ℕ → Result (List Value) Reply
row_reply m (Ok row) = Ok row
row_reply m (Err f) = Err (WrongShape (field_name m f))

-- what is to be made: the model, the names, and the values
abbrev pub named_making : Schema → Database → (model : Named) → List FieldLit → Result Making Reply
named_making s d model ws =
    goes (model_at s model) (λ (m : ModelInfo). goes (stops (first_unknown m.fields ws)) (λ _.
    goes (row_reply m (row_named m.number (next_of d m.number) ws m.fields)) (λ row. Ok (record { info = m; row = row; id = next_of d m.number }))))

-- the first field with an id that names no record, and the first such id in it
abbrev pub first_dangling : There → List FieldInfo → List Value → Option Reply
first_dangling there [] row = None
first_dangling there (f ∷ fields) [] = None
first_dangling there (f ∷ fields) (v ∷ row) =
    option_or (option_map (λ id. Dangling f.name id) (dangling_in there f.ty v)) (first_dangling there fields row)

-- why the record may not be made; it counts as being there
abbrev pub make_refusal : Database → ModelInfo → List Value → Option Reply
make_refusal d m row =
    option_or (first_dangling (is_there_or_next d m.number) m.fields row)
    (if nat_le most_records (record_count d) then Some (Full full.Records)
    else (if not (nat_le (row_weight row) (most_weight - total_weight d)) then Some (Full full.Weight)
    else (if nat_lt last_id (next_of d m.number) then Some IdsSpent else None)))

-- what the database takes
abbrev pub ready_making : Schema → Database → (model : Named) → List FieldLit → Result Making Reply
ready_making s d model ws = goes (named_making s d model ws) (λ (made : Making). goes (stops (make_refusal d made.info made.row)) (λ _. Ok made))

-- whether the principal may make the record: the policy is asked on the database that holds it
abbrev pub is_made_by : Database → Option Principal → Making → Bool
is_made_by d who made = may (with_row made.info made.row d) made.info.create made.id who

-- what may be made: the policy comes last
abbrev pub judged_making : Schema → Database → Option Principal → (model : Named) → List FieldLit → Result Making Reply
judged_making s d who model ws =
    goes (ready_making s d model ws) (λ (made : Making). goes (unless (not (is_made_by d who made)) (Denied (denial.Right right.Create))) (λ _. Ok made))

-- `create`
abbrev pub create_stage : State → (session model : Named) → List FieldLit → Result Outcome Reply
create_stage st session model ws =
    let d = st.stored.base in
    goes (live_session st session.name) (λ (s : Session). goes (judged_making st.stored.schema d s.who model ws) (λ (made : Making).
    Ok (with_base (New made.id) (with_row made.info made.row d) st)))

-- ---- `delete`

abbrev pub referenced : Schema → Reference → Reply
referenced s r = Referenced ((names_in s).model r.model) r.id ((names_in s).field r.model r.field)

-- the model of the record that may be dropped: the record, the policy on the database that holds it, and then what names it
abbrev pub ready_removal : Schema → Database → Option Principal → (model : Named) → (id : ℕ) → Result ModelInfo Reply
ready_removal s d who model id =
    goes (model_at s model) (λ (m : ModelInfo). goes (unless (not (has_record d m.number id)) NoRecord) (λ _.
    goes (unless (not (may d m.delete id who)) (Denied (denial.Right right.Delete))) (λ _.
    goes (stops (option_map (referenced s) (first_reference s d m.number id))) (λ _. Ok m))))

-- `delete`
abbrev pub delete_stage : State → (session model : Named) → WrittenId → Result Outcome Reply
delete_stage st session model id =
    let d = st.stored.base in
    goes (live_session st session.name) (λ (s : Session). goes (ready_removal st.stored.schema d s.who model id.number) (λ (m : ModelInfo).
    Ok (with_base Done (without_record m.number id.number d) st)))
