-- A record that an event does not mark reads alike before and after it.
use Rattle.std.proofs.Common.{◌≡◌, ℕ, true, false, ◌&&◌, ◌||◌, List, refl, ap, sym, ◌∙◌, subst, arith}
use Rattle.std.specs.Prelude.{None, Some, ◌==◌}
use Rattle.std.specs.List.{list_any}
use Rattle.std.specs.Option.{option_map_or}
use Rattle.std.proofs.lemmas.Bool.{eqb-true, false_from_ne_true}
use Rattle.type_schema.specs.Schema.{Added, FieldInfo, ModelInfo, Schema, model_of, field_in}
use Rattle.type_schema.specs.Proper.{IsProper}
use Rattle.type_schema.specs.Script.{Script, count, schema_at, IsScript}
use Rattle.data_meaning.specs.declared.cells.Cell.{Cell}
use Rattle.data_meaning.specs.Values.{Value}
use Rattle.data_meaning.specs.Database.{Record, Database, ids_of, has_record, HasTable, IsDatabase, HasNoFurtherTables}
use Rattle.data_meaning.specs.Run.{run_to, widened}
use Rattle.data_meaning.specs.Agreeing.{IsSameCell}
use Rattle.data_meaning.proofs.Carried.{all-of}
use Rattle.data_meaning.proofs.Finds.{find-holds, find-among}
use Rattle.data_meaning.proofs.Tests.{and-left, and-right, or-left, or-right}
use Rattle.data_records.specs.Changed.{IsFitting, with_field, with_value_in}
use Rattle.data_records.specs.Inserted.{IsAdmitted, next_of, with_record, with_row}
use Rattle.data_records.specs.Removed.{first_reference, without_record, without_record_in}
use Rattle.data_records.specs.Rows.{slots_from}
use Rattle.data_records.proofs.FieldSet.{set-keeps}
use Rattle.data_records.proofs.RowIn.{insert-keeps}
use Rattle.data_records.proofs.RowOut.{remove-keeps}
use Rattle.online_meaning.specs.Deep.{added_at, deep_cells, deep_finds}
use Rattle.online_meaning.specs.Marks.{RecordId, same_record, is_among, same_cell, reads_deeply, finds_deeply, slow_records}
use Rattle.online_meaning.specs.Events.{Event, batch, put, make, erase, switch, Names, IsAccepted, changed_by, marks_of}
use Rattle.online_meaning.specs.Laws.{ReadsAlike, MarksSuffice}
use Rattle.online_meaning.proofs.Agreed.{IsThere, run-stays, there-first, deep-agree}
use Rattle.online_meaning.proofs.Changed.{put-ids, put-field, make-ids, make-has, make-only, make-field, model-there, erase-ids, erase-has, erase-gone, erase-field, only-kept}
use Rattle.online_meaning.proofs.Queues.{not-kept, none-added, slow-model, among-slow}
use Rattle.online_meaning.proofs.Ranges.{every, none-passes}
use Rattle.online_meaning.proofs.Settled.{ids-rise}
use Rattle.online_meaning.proofs.Switches.{adding}
use Rattle.online_meaning.proofs.There.{deep-there}

module _ (t : Script) (is : IsScript t) where
  abbrev s : Schema
  s = schema_at t 0

  proper-first : IsProper s
  proper-first = is.proper 0 (omega arith)

  module _ (d : Database) (over : IsDatabase s d) (only : HasNoFurtherTables s d) where
    -- the record is there, and reads alike
    abbrev Alike : Database → ℕ → Added → ℕ → Type 0
    Alike e k a i = ReadsAlike t d e k a i

    abbrev IsThereAt : Database → ℕ → Added → ℕ → Type 0
    IsThereAt e k a i = has_record (run_to t k (widened t e)) a.model i ≡ true

    abbrev name_of : Added → ℕ → RecordId
    name_of a i = record { model = a.model; id = i }

    -- ---- a value put into a field

    module _ (m id f : ℕ) (v : Value) (field : FieldInfo) (names : Names s m f field) (fit : IsFitting d m id field v) where
      abbrev e : Database
      e = with_field m id f v d

      pub put-over : IsDatabase s e
      put-over =
          let number : field.number ≡ f = eqb-true _ _ (find-holds (λ (u : FieldInfo). u.number == f) names.model.fields field names.there) in
          subst (λ (n : ℕ). IsDatabase s (with_field m id n v d)) number
          (set-keeps s proper-first d over m id names.model field v names.found (ap (field_in names.model.fields) number ∙ names.there) fit)

      pub put-only : HasNoFurtherTables s e
      put-only = only-kept s m (with_value_in id f v) (λ u. refl) d only

      same-there : (n i : ℕ) → has_record e n i ≡ has_record d n i
      same-there n i = ap (list_any (λ j. j == i)) (put-ids d m id f v n)

      put-alike : (k : ℕ) (a : Added) → added_at t k ≡ Some a → (i : ℕ) → IsThereAt e k a i → is_among (name_of a i) (marks_of t (put m id f v) d) ≡ false
          → Alike e k a i
      put-alike k a here i there unmarked =
          let add = adding t k a here in
          let own : RecordId = record { model = a.model; id = i } in
          let cell : Cell = record { model = m; id = id; field = f } in
          let deep = deep_cells t d k a.init i in
          let was = run-stays t e d a.model i (λ h. sym (same-there a.model i) ∙ h) k there in
          let in-d = there-first t d a.model i k was in
          let slow = among-slow t d a.model i (slow-model t k add.within a here) in-d (model-there s d only a.model i in-d) in
          let fails = not-kept (λ q. reads_deeply t d q cell) own (slow_records t d) slow unmarked in
          let clear = none-added t (λ j b. list_any (λ c. same_cell c cell) (deep_cells t d j b.init i)) a.model (count t) fails k add.within a here refl in
          let cells = all-of (λ (c : Cell). same_cell c cell ≡ false) (IsSameCell d e) (λ c other. sym (put-field d m id f v c.model c.id c.field other)) deep
          (none-passes (λ c. same_cell c cell) deep clear) in
          let finds = every (λ n. ids_of d n ≡ ids_of e n) (λ n. sym (put-ids d m id f v n)) (deep_finds t k a.init) in
          let agreed = deep-agree t is d e over only put-over put-only (λ n j h. same-there n j ∙ h) k add.within a.model add.field a.init add.here i was cells finds in
          record { there = was; value = agreed.0; cells = agreed.1 }

    -- ---- a record made

    module _ (m : ℕ) (row : List Value) (info : ModelInfo) (found : model_of s m ≡ Some info) (admitted : IsAdmitted info d row) where
      abbrev pub after-make : Database
      after-make = changed_by s (make m row) d

      pub is-row : after-make ≡ with_row info row d
      is-row = ap (λ o. option_map_or (λ (i : ModelInfo). with_row i row d) o d) found

      pub number : info.number ≡ m
      number = eqb-true _ _ (find-holds (λ (u : ModelInfo). u.number == m) s.models info found)

      pub its-table : HasTable d info
      its-table = find-among (HasTable d) (λ (u : ModelInfo). u.number == m) s.models info over.tables found

      abbrev pub new-row : Record
      new-row = record { id = next_of d info.number; slots = slots_from info.fields row }

      pub row-over : IsDatabase s after-make
      row-over = subst (IsDatabase s) (sym is-row) (insert-keeps s proper-first d over info row (ap (model_of s) number ∙ found) admitted)

      pub row-only : HasNoFurtherTables s after-make
      row-only = subst (HasNoFurtherTables s) (sym is-row) (only-kept s info.number (with_record new-row) (λ u. refl) d only)

      pub row-has : (n i : ℕ) → has_record d n i ≡ true → has_record after-make n i ≡ true
      row-has n i h = subst (λ (u : Database). has_record u n i ≡ true) (sym is-row) (make-has d info.number new-row its-table.0 its-table.1 n i h)

      abbrev made-id : RecordId
      made-id = record { model = m; id = next_of d m }

      row-before : (n i : ℕ) → same_record (record { model = n; id = i }) made-id ≡ false → has_record after-make n i ≡ true → has_record d n i ≡ true
      row-before n i other h =
          make-only d info.number new-row its-table.0 its-table.1 n i (ap (λ (j : ℕ). (n == j) && (i == next_of d j)) number ∙ other)
          (subst (λ (u : Database). has_record u n i ≡ true) is-row h)

      make-alike : (k : ℕ) (a : Added) → added_at t k ≡ Some a → (i : ℕ) → IsThereAt after-make k a i → is_among (name_of a i) (marks_of t (make m row) d) ≡ false
          → Alike after-make k a i
      make-alike k a here i there unmarked =
          let add = adding t k a here in
          let own : RecordId = record { model = a.model; id = i } in
          let in-e = there-first t after-make a.model i k there in
          let slow = among-slow t after-make a.model i (slow-model t k add.within a here) in-e (model-there s after-make row-only a.model i in-e) in
          let fails = not-kept (λ q. same_record q made-id || finds_deeply t q.model m) own (slow_records t after-make) slow unmarked in
          let other = or-left (same_record own made-id) (finds_deeply t a.model m) fails in
          let clear = none-added t (λ j b. list_any (λ n. n == m) (deep_finds t j b.init)) a.model (count t) (or-right (same_record own made-id) (finds_deeply t a.model m) fails)
          k add.within a here refl in
          let was = run-stays t after-make d a.model i (λ h. row-before a.model i other h) k there in
          let cells = all-of (IsThere d) (IsSameCell d after-make)
          (λ c h. subst (λ (u : Database). IsSameCell d u c) (sym is-row) (sym (make-field d info.number new-row its-table.0 its-table.1 c.model c.id c.field h)))
          (deep_cells t d k a.init i) (deep-there t is d over only k add.within a.model add.field a.init add.here i was) in
          let finds = all-of (λ n. (n == m) ≡ false) (λ n. ids_of d n ≡ ids_of after-make n)
          (λ n differs. subst (λ (u : Database). ids_of d n ≡ ids_of u n) (sym is-row)
          (sym (make-ids d info.number new-row its-table.0 its-table.1 n (ap (λ (j : ℕ). n == j) number ∙ differs))))
          (deep_finds t k a.init) (none-passes (λ n. n == m) (deep_finds t k a.init) clear) in
          let agreed = deep-agree t is d after-make over only row-over row-only row-has k add.within a.model add.field a.init add.here i was cells finds in
          record { there = was; value = agreed.0; cells = agreed.1 }

    -- ---- a record erased

    module _ (m id : ℕ) (there-now : has_record d m id ≡ true) (unnamed : first_reference s d m id ≡ None) where
      abbrev pub left : Database
      left = without_record m id d

      pub left-over : IsDatabase s left
      left-over = remove-keeps s proper-first d over m id unnamed

      pub left-only : HasNoFurtherTables s left
      left-only = only-kept s m (without_record_in id) (λ u. refl) d only

      gone : has_record left m id ≡ false
      gone = erase-gone d m id (ids-rise s d over m (model-there s d only m id there-now))

      pub not-it : (n i : ℕ) → has_record left n i ≡ true → n ≡ m → i ≡ id → ⊥
      not-it n i h model same =
          let there : has_record left m id ≡ true
          = subst (λ (j : ℕ). has_record left m j ≡ true) same (subst (λ (k : ℕ). has_record left k i ≡ true) model h) in
          let never : true ≡ false = sym there ∙ gone in
          cc

      erase-alike : (k : ℕ) (a : Added) → added_at t k ≡ Some a → (i : ℕ) → IsThereAt left k a i → is_among (name_of a i) (marks_of t (erase m id) d) ≡ false
          → Alike left k a i
      erase-alike k a here i there unmarked =
          let add = adding t k a here in
          let own : RecordId = record { model = a.model; id = i } in
          let in-e = there-first t left a.model i k there in
          let slow = among-slow t left a.model i (slow-model t k add.within a here) in-e (model-there s left left-only a.model i in-e) in
          let fails = not-kept (λ q. finds_deeply t q.model m) own (slow_records t left) slow unmarked in
          let clear = none-added t (λ j b. list_any (λ n. n == m) (deep_finds t j b.init)) a.model (count t) fails k add.within a here refl in
          let was = run-stays t left d a.model i (λ h. erase-has d m id a.model i h) k there in
          let cells = all-of (IsThere left) (IsSameCell left d)
          (λ c h. erase-field d m id c.model c.id c.field (false_from_ne_true ((c.model == m) && (c.id == id))
          (λ both. not-it c.model c.id h (eqb-true c.model m (and-left _ _ both)) (eqb-true c.id id (and-right (c.model == m) _ both)))))
          (deep_cells t left k a.init i) (deep-there t is left left-over left-only k add.within a.model add.field a.init add.here i there) in
          let finds = all-of (λ n. (n == m) ≡ false) (λ n. ids_of left n ≡ ids_of d n) (λ n other. erase-ids d m id n other)
          (deep_finds t k a.init) (none-passes (λ n. n == m) (deep_finds t k a.init) clear) in
          let agreed = deep-agree t is left d left-over left-only over only (λ n j h. erase-has d m id n j h)
          k add.within a.model add.field a.init add.here i there cells finds in
          record { there = was; value = sym agreed.0; cells = sym agreed.1 }

    pub unmarked-alike : (e : Event) → IsAccepted s d e → (k : ℕ) (a : Added) → added_at t k ≡ Some a → (i : ℕ) → IsThereAt (changed_by s e d) k a i
        → is_among (name_of a i) (marks_of t e d) ≡ false → Alike (changed_by s e d) k a i
    unmarked-alike (batch size) ok k a here i there unmarked = record { there = there; value = refl; cells = refl }
    unmarked-alike (put m id f v) ok k a here i there unmarked = put-alike m id f v ok.0 ok.1 ok.2 k a here i there unmarked
    unmarked-alike (make m row) ok k a here i there unmarked = make-alike m row ok.0 ok.1 ok.2 k a here i there unmarked
    unmarked-alike (erase m id) ok k a here i there unmarked = erase-alike m id ok.0 ok.1 k a here i there unmarked
    unmarked-alike switch ok k a here i there unmarked = record { there = there; value = refl; cells = refl }

    pub event-over : (e : Event) → IsAccepted s d e → IsDatabase s (changed_by s e d)
    event-over (batch size) ok = over
    event-over (put m id f v) ok = put-over m id f v ok.0 ok.1 ok.2
    event-over (make m row) ok = row-over m row ok.0 ok.1 ok.2
    event-over (erase m id) ok = left-over m id ok.0 ok.1
    event-over switch ok = over

    pub event-only : (e : Event) → IsAccepted s d e → HasNoFurtherTables s (changed_by s e d)
    event-only (batch size) ok = only
    event-only (put m id f v) ok = put-only m id f v ok.0 ok.1 ok.2
    event-only (make m row) ok = row-only m row ok.0 ok.1 ok.2
    event-only (erase m id) ok = left-only m id ok.0 ok.1
    event-only switch ok = only

pub unmarked_read_alike : MarksSuffice
unmarked_read_alike t is d over only e ok k a here i there unmarked = unmarked-alike t is d over only e ok k a here i there unmarked
