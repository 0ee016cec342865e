-- What is stored where a record is set, made or dropped.
use Rattle.std.proofs.Common.{◌≡◌, ℕ, Bool, true, false, List, [], ◌∷◌, ◌++◌, Option, None, Some, refl, ap, sym, ◌∙◌, subst, cond, inl, inr, length}
use Rattle.std.specs.Prelude.{◌==◌, is_some}
use Rattle.std.specs.List.{find}
use Rattle.std.specs.Option.{option_map_or}
use Rattle.std.proofs.lemmas.Bool.{eq-eqb}
use Rattle.type_schema.specs.Schema.{FieldInfo, ModelInfo, model_of}
use Rattle.data_meaning.specs.Values.{Value}
use Rattle.data_meaning.specs.Database.{Record, Table, Database, HasTable, has_record, records_of}
use Rattle.data_records.specs.Changed.{IsFitting, with_field}
use Rattle.data_records.specs.Inserted.{IsAdmitted, next_of, with_record, with_row}
use Rattle.data_records.specs.Keeping.{DatabasesStay}
use Rattle.data_records.specs.Rows.{slots_from}
use Rattle.data_records.proofs.Stays.{records-changed}
use Rattle.data_records.proofs.Tables.{any-found}
use Rattle.store_keeper.specs.Changes.{IsNext, IsPutInto, IsSet, MayPut, values_of, with_put}
use Rattle.store_keeper.specs.Stored.{Stored, IsStored}
use Rattle.store_keeper.proofs.Differences.{all-found}
use Rattle.store_keeper.proofs.Putting.{not-next, shaped-length}
use Rattle.store_keeper.proofs.Storing.{put-is, put-stored}
use Rattle.door_meaning.specs.Records.{Making, Setting}
use Rattle.door_judge.specs.Parts.{IsKnown, set_record}
use Rattle.door_serve.specs.Changing.{made_record, record_at}

-- what is stored, with this database
abbrev pub over : Stored → Database → Stored
over s d = record s { base = d }

-- ---- a record that is put

module _ (stay : DatabasesStay) (s : Stored) (is : IsStored s) (info : ModelInfo) (r : Record) (after : Database) (known : model_of s.schema info.number ≡ Some info) (into : IsPutInto info s.base r after) where
  pub put-over : with_put info.number r s ≡ over s after
  put-over = ap (λ (d : Database). over s d) (sym (put-is stay s info r after is known into))

  pub put-over-stored : IsStored (over s after)
  put-over-stored = subst IsStored put-over (put-stored stay s info r after is known into)

-- ---- `write`

module _ (stay : DatabasesStay) (s : Stored) (is : IsStored s) (id : ℕ) (set : Setting) (known : IsKnown s.schema s.base id set) (fits : IsFitting s.base set.info.number id set.field set.value) where
  abbrev pub set_row : Record
  set_row = set_record s.base set.info.number id set.field.number set.value

  abbrev pub set_base : Database
  set_base = with_field set.info.number id set.field.number set.value s.base

  is-set : IsSet set.info s.base set_row set.field set.value
  is-set = record { there = known.there; known = known.field; fits = fits; slots = refl }

  set-into : IsPutInto set.info s.base set_row set_base
  set-into = inr (inr (set.field, set.value, is-set, refl))

  pub may-set : MayPut s set.info set_row
  may-set = record { model = known.model; puttable = inr (inr (set.field, set.value, is-set)) }

  pub set-over : with_put set.info.number set_row s ≡ over s set_base
  set-over = put-over stay s is set.info set_row set_base known.model set-into

  pub set-stored : IsStored (over s set_base)
  set-stored = put-over-stored stay s is set.info set_row set_base known.model set-into

-- ---- `create`

values-from : (fields : List FieldInfo) (row : List Value) → length fields ≡ length row → values_of (slots_from fields row) ≡ row
values-from [] [] e = refl
values-from [] (v ∷ row) e = absurd cc
values-from (f ∷ fields) [] e = absurd cc
values-from (f ∷ fields) (v ∷ row) e = ap (λ (vs : List Value). v ∷ vs) (values-from fields row cc)

found-last : (p : Record → Bool) (xs : List Record) (r : Record) → is_some (find p xs) ≡ false → p r ≡ true → find p (xs ++ r ∷ []) ≡ Some r
found-last p [] r none is = ap (λ (b : Bool). cond b (Some r) None) is
found-last p (x ∷ xs) r none is =
    elim (p x) as (λ (b : Bool). is_some (cond b (Some x) (find p xs)) ≡ false → cond b (Some x) (find p (xs ++ r ∷ [])) ≡ Some r) [
      | true ↦ λ h. cc
      | false ↦ λ h. found-last p xs r h is
    ] none

not-true : (b : Bool) → (b ≡ true → ⊥) → b ≡ false
not-true true never = absurd (never refl)
not-true false never = refl

module _ (stay : DatabasesStay) (s : Stored) (is : IsStored s) (made : Making) (known : model_of s.schema made.info.number ≡ Some made.info) (number : made.id ≡ next_of s.base made.info.number) (admitted : IsAdmitted made.info s.base made.row) where
  abbrev pub made_base : Database
  made_base = with_row made.info made.row s.base

  values : values_of (made_record made).slots ≡ made.row
  values = values-from made.info.fields made.row (shaped-length made.info.fields made.row admitted.shaped)

  is-next : IsNext made.info s.base (made_record made)
  is-next = record {
    next = number;
    slots = ap (slots_from made.info.fields) (sym values);
    admitted = subst (IsAdmitted made.info s.base) (sym values) admitted;
  }

  made-into : IsPutInto made.info s.base (made_record made) made_base
  made-into = inl (is-next, ap (λ row. with_row made.info row s.base) (sym values))

  pub may-make : MayPut s made.info (made_record made)
  may-make = record { model = known; puttable = inl is-next }

  pub made-over : with_put made.info.number (made_record made) s ≡ over s made_base
  made-over = put-over stay s is made.info (made_record made) made_base known made-into

  pub made-stored : IsStored (over s made_base)
  made-stored = put-over-stored stay s is made.info (made_record made) made_base known made-into

  none-yet : has_record s.base made.info.number made.id ≡ false
  none-yet =
      not-true (has_record s.base made.info.number made.id)
      (λ there. let other = not-next s.schema made.info s.base made.id is.database known there in
      let same : (made.id == next_of s.base made.info.number) ≡ true = eq-eqb made.id (next_of s.base made.info.number) number in
      let never : ⊥ = cc in never)

  -- the record is the last of its table
  pub found-made : record_at made_base made.info.number made.id ≡ Some (made_record made)
  found-made =
      let table = all-found (HasTable s.base) (λ (i : ModelInfo). i.number == made.info.number) s.schema.models made.info is.database.tables known in
      let r : Record = record { id = next_of s.base made.info.number; slots = slots_from made.info.fields made.row } in
      let same : made_record made ≡ r = ap (λ (n : ℕ). let x : Record = record { id = n; slots = slots_from made.info.fields made.row } in x) number in
      let id_is = λ (x : Record). x.id == made.id in
      let here : records_of s.base made.info.number ≡ table.0.records = ap (λ o. option_map_or (λ (t : Table). t.records) o []) table.1 in
      let none : is_some (find id_is table.0.records) ≡ false
      = ap (λ rs. is_some (find id_is rs)) (sym here) ∙ sym (any-found made.id (records_of s.base made.info.number)) ∙ none-yet in
      ap (find id_is) (records-changed made.info.number (with_record r) (λ t. refl) s.base table.0 table.1)
      ∙ found-last id_is table.0.records r none (eq-eqb r.id made.id (sym number)) ∙ ap (λ (x : Record). Some x) (sym same)

  pub made-there : has_record made_base made.info.number made.id ≡ true
  made-there = any-found made.id (records_of made_base made.info.number) ∙ ap (λ (o : Option Record). is_some o) found-made
