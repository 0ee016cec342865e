-- What a change of records, or a dropped table, leaves of a database.
use Rattle.std.proofs.Common.{◌≡◌, ℕ, Bool, true, false, not, List, [], ◌∷◌, refl, ap, sym, ◌∙◌, subst}
use Rattle.std.specs.Prelude.{Option, Some, None, map, filter, if◌then◌else◌, ◌==◌}
use Rattle.std.specs.List.{find}
use Rattle.std.specs.Option.{option_map, option_map_or}
use Rattle.std.proofs.lemmas.Bool.{eqb-true, false_from_ne_true}
use Rattle.data_meaning.specs.Values.{Value, Nothing}
use Rattle.data_meaning.specs.Database.{Slot, Record, Table, Database, table_of, records_of, slots_of, ids_of, field_at}
use Rattle.data_meaning.specs.Run.{change_slots}
use Rattle.data_meaning.proofs.Finds.{find-holds, find-map, find-filter, map-none}

-- ---- a change of the records of a model

module _ (m : ℕ) (change : Record → List Slot) where
  abbrev new_record : Record → Record
  new_record r = record r { slots = change r }

  abbrev pub new_table : Table → Table
  new_table t = if t.model == m then record t { records = map new_record t.records } else t

  -- at a table of model n
  abbrev new_at : ℕ → Record → Record
  new_at n r = if n == m then new_record r else r

  same-table-model : (n : ℕ) (t : Table) → ((new_table t).model == n) ≡ (t.model == n)
  same-table-model n t =
      elim (t.model == m) as (λ (b : Bool). ((let u : Table = if b then record t { records = map new_record t.records } else t in u.model) == n) ≡ (t.model == n)) [
        | true ↦ refl
        | false ↦ refl
      ]

  pub table-found : (d : Database) (n : ℕ) (t : Table) → table_of d n ≡ Some t → table_of (change_slots m change d) n ≡ Some (new_table t)
  table-found d n t here = find-map (λ (u : Table). u.model == n) new_table d (same-table-model n) ∙ ap (option_map new_table) here

  own-records : (t : Table) → (new_table t).records ≡ map (new_at t.model) t.records
  own-records t =
      elim (t.model == m) as (λ (b : Bool).
      (let u : Table = if b then record t { records = map new_record t.records } else t in u.records) ≡ map (λ (r : Record). if b then new_record r else r) t.records) [
        | true ↦ refl
        | false ↦ sym (map-none t.records)
      ]

  records-changed : (d : Database) (n : ℕ) → records_of (change_slots m change d) n ≡ map (new_at n) (records_of d n)
  records-changed d n =
      ap (λ o. option_map_or (λ (t : Table). t.records) o []) (find-map (λ (t : Table). t.model == n) new_table d (same-table-model n))
      ∙ (elim (table_of d n) as (λ (o : Option Table). table_of d n ≡ o
      → option_map_or (λ (t : Table). t.records) (option_map new_table o) [] ≡ map (new_at n) (option_map_or (λ (t : Table). t.records) o [])) [
        | None ↦ λ here. refl
        | Some t ↦ λ here.
            let is : t.model ≡ n = eqb-true _ _ (find-holds (λ (u : Table). u.model == n) d t here) in
            subst (λ (k : ℕ). (new_table t).records ≡ map (new_at k) t.records) is (own-records t)
      ] refl)

  same-id : (n k : ℕ) (r : Record) → ((new_at n r).id == k) ≡ (r.id == k)
  same-id n k r =
      elim (n == m) as (λ (b : Bool). ((let u : Record = if b then new_record r else r in u.id) == k) ≡ (r.id == k)) [ true ↦ refl | false ↦ refl ]

  own-id : (n : ℕ) (r : Record) → (new_at n r).id ≡ r.id
  own-id n r = elim (n == m) as (λ (b : Bool). (let u : Record = if b then new_record r else r in u.id) ≡ r.id) [ true ↦ refl | false ↦ refl ]

  same-ids : (n : ℕ) (records : List Record) → map (λ (r : Record). r.id) (map (new_at n) records) ≡ map (λ (r : Record). r.id) records
  same-ids n [] = refl
  same-ids n (r ∷ records) = ap (λ x. x ∷ map (λ (u : Record). u.id) (map (new_at n) records)) (own-id n r) ∙ ap (λ xs. r.id ∷ xs) (same-ids n records)

  pub ids-changed : (d : Database) (n : ℕ) → ids_of (change_slots m change d) n ≡ ids_of d n
  ids-changed d n = ap (map (λ (r : Record). r.id)) (records-changed d n) ∙ same-ids n (records_of d n)

  -- the slots of a record
  pub slots-changed : (d : Database) (n id : ℕ) → slots_of (change_slots m change d) n id
      ≡ option_map_or (λ (r : Record). if n == m then change r else r.slots) (find (λ (r : Record). r.id == id) (records_of d n)) []
  slots-changed d n id =
      ap (λ rs. option_map_or (λ (r : Record). r.slots) (find (λ (r : Record). r.id == id) rs) []) (records-changed d n)
      ∙ ap (λ o. option_map_or (λ (r : Record). r.slots) o []) (find-map (λ (r : Record). r.id == id) (new_at n) (records_of d n) (same-id n id))
      ∙ (elim (find (λ (r : Record). r.id == id) (records_of d n)) as (λ (o : Option Record).
      option_map_or (λ (r : Record). r.slots) (option_map (new_at n) o) [] ≡ option_map_or (λ (r : Record). if n == m then change r else r.slots) o []) [
        | None ↦ refl
        | Some r ↦
            elim (n == m) as (λ (b : Bool). (let u : Record = if b then new_record r else r in u.slots) ≡ (if b then change r else r.slots)) [
              | true ↦ refl
              | false ↦ refl
            ]
      ])

  -- the value of a field that the change leaves as it is
  pub field-kept : (d : Database) (n id g : ℕ)
      → (n ≡ m → (r : Record) → find (λ (slot : Slot). slot.field == g) (change r) ≡ find (λ (slot : Slot). slot.field == g) r.slots)
      → field_at (change_slots m change d) n id g ≡ field_at d n id g
  field-kept d n id g kept =
      let held : List Slot → Value = λ slots. option_map_or (λ (slot : Slot). slot.value) (find (λ (slot : Slot). slot.field == g) slots) Nothing in
      ap (λ rs. held (option_map_or (λ (r : Record). r.slots) (find (λ (r : Record). r.id == id) rs) [])) (records-changed d n)
      ∙ ap (λ o. held (option_map_or (λ (r : Record). r.slots) o [])) (find-map (λ (r : Record). r.id == id) (new_at n) (records_of d n) (same-id n id))
      ∙ (elim (find (λ (r : Record). r.id == id) (records_of d n)) as (λ (o : Option Record).
      held (option_map_or (λ (r : Record). r.slots) (option_map (new_at n) o) []) ≡ held (option_map_or (λ (r : Record). r.slots) o [])) [
        | None ↦ refl
        | Some r ↦
            elim (n == m) as (λ (b : Bool). (n == m) ≡ b → held (let u : Record = if b then new_record r else r in u.slots) ≡ held r.slots) [
              | true ↦ λ same. ap (λ o. option_map_or (λ (slot : Slot). slot.value) o Nothing) (kept (eqb-true n m same) r)
              | false ↦ λ same. refl
            ] refl
      ])

-- ---- a dropped table

abbrev pub without_table : ℕ → Database → Database
without_table m d = filter (λ (t : Table). not (t.model == m)) d

pub table-kept : (d : Database) (m n : ℕ) → (n ≡ m → ⊥) → table_of (without_table m d) n ≡ table_of d n
table-kept d m n other =
    find-filter (λ (t : Table). t.model == n) (λ (t : Table). not (t.model == m)) d (λ t h.
    let is : t.model ≡ n = eqb-true _ _ h in
    let differs : (t.model == m) ≡ false = false_from_ne_true _ (λ same. other (sym is ∙ eqb-true _ _ same)) in
    ap not differs)
