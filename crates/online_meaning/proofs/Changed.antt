-- What a change of a database leaves as it is.
use Rattle.std.proofs.Common.{◌≡◌, ℕ, Bool, true, false, ◌&&◌, ◌||◌, List, [], ◌∷◌, ◌++◌, refl, ap, sym, ◌∙◌, subst, cond, map}
use Rattle.std.specs.Prelude.{Option, None, Some, ◌==◌, if◌then◌else◌}
use Rattle.std.specs.List.{find, list_any, AllByRecursion}
use Rattle.std.specs.List.Sorted.{IsStrictlyIncreasing}
use Rattle.std.specs.Option.{option_map, option_map_or}
use Rattle.std.proofs.lemmas.Bool.{eqb-true, eq-eqb, ne_eqb}
use Rattle.std.proofs.lemmas.Map.Keys.{sorted_from_strictly_increasing}
use Rattle.type_schema.specs.Schema.{Schema}
use Rattle.type_schema.specs.Typing.{HasModel}
use Rattle.data_meaning.specs.Values.{Value, Nothing}
use Rattle.data_meaning.specs.Database.{Slot, Record, Table, Database, table_of, records_of, ids_of, has_record, field_at, HasNoFurtherTables}
use Rattle.data_meaning.proofs.Finds.{find-holds, find-among}
use Rattle.data_meaning.proofs.Tests.{and-last}
use Rattle.data_records.specs.Changed.{change_first, with_slot_value, with_value, with_value_in, with_field}
use Rattle.data_records.specs.Inserted.{change_table, with_record}
use Rattle.data_records.specs.Removed.{without_first, without_record_in, without_record}
use Rattle.data_records.proofs.Changes.{id_is, ids-changed}
use Rattle.data_records.proofs.RowOut.{left-differ}
use Rattle.data_records.proofs.Stays.{models-same, table-changed, records-changed, records-other}

abbrev held-in : List Slot → ℕ → Value
held-in slots f = option_map_or (λ (slot : Slot). slot.value) (find (λ (slot : Slot). slot.field == f) slots) Nothing

abbrev slots-in : List Record → ℕ → List Slot
slots-in rs id = option_map_or (λ (r : Record). r.slots) (find (λ (r : Record). r.id == id) rs) []

abbrev is-id : List Record → ℕ → Bool
is-id rs id = list_any (λ i. i == id) (map (λ (r : Record). r.id) rs)

-- ---- the rows of the changed table

abbrev rows : Option Table → List Record
rows o = option_map_or (λ (t : Table). t.records) o []

module _ (m : ℕ) (g : Table → Table) (keeps : (t : Table) → (g t).model ≡ t.model) (h : List Record → List Record) (does : (t : Table) → (g t).records ≡ h t.records) where
  pub rows-by : h [] ≡ [] → (d : Database) → records_of (change_table m g d) m ≡ h (records_of d m)
  rows-by none d =
      ap rows (table-changed m g keeps d)
      ∙ (elim (table_of d m) as (λ (o : Option Table). rows (option_map g o) ≡ h (rows o)) [ None ↦ sym none | Some t ↦ does t ])

  pub rows-at : (d : Database) (t : Table) → table_of d m ≡ Some t → records_of (change_table m g d) m ≡ h (records_of d m)
  rows-at d t at = records-changed m g keeps d t at ∙ does t ∙ ap h (sym (ap rows at))

  -- what is read of the rows of each model
  pub of-each : {A : Type 0} (look : List Record → A) (d : Database) → records_of (change_table m g d) m ≡ h (records_of d m) → (n : ℕ)
      → ((n == m) ≡ true → look (h (records_of d n)) ≡ look (records_of d n)) → look (records_of (change_table m g d) n) ≡ look (records_of d n)
  of-each look d here n same =
      elim (n == m) as (λ (b : Bool). (n == m) ≡ b → look (records_of (change_table m g d) n) ≡ look (records_of d n)) [
        | true ↦ λ is.
            let model : n ≡ m = eqb-true n m is in
            let own : records_of (change_table m g d) n ≡ h (records_of d n)
            = subst (λ (k : ℕ). records_of (change_table m g d) k ≡ h (records_of d k)) (sym model) here in
            ap look own ∙ same is
        | false ↦ λ other. ap look (records-other m g keeps d n other)
      ] refl

-- ---- a value put into a field

slot-kept : (f g : ℕ) (v : Value) (slots : List Slot) → (g == f) ≡ false → held-in (change_first (λ (slot : Slot). slot.field == f) (with_slot_value v) slots) g ≡ held-in slots g
slot-kept f g v [] other = refl
slot-kept f g v (slot ∷ slots) other =
    elim (slot.field == f) as (λ (b : Bool). (slot.field == f) ≡ b
    → held-in (if b then with_slot_value v slot ∷ slots else slot ∷ change_first (λ (u : Slot). u.field == f) (with_slot_value v) slots) g ≡ held-in (slot ∷ slots) g) [
      | true ↦ λ is.
          let differs : (slot.field == g) ≡ false
          = ne_eqb slot.field g (λ e. let same : (g == f) ≡ true = eq-eqb g f (sym e ∙ eqb-true _ _ is) in let never : true ≡ false = sym same ∙ other in cc) in
          let look : Slot → Bool → Value = λ u b. option_map_or (λ (w : Slot). w.value) (cond b (Some u) (find (λ (w : Slot). w.field == g) slots)) Nothing in
          ap (look (with_slot_value v slot)) differs ∙ sym (ap (look slot) differs)
      | false ↦ λ is.
          elim (slot.field == g) as (λ (b : Bool).
          option_map_or (λ (w : Slot). w.value) (cond b (Some slot) (find (λ (w : Slot). w.field == g) (change_first (λ (u : Slot). u.field == f) (with_slot_value v) slots))) Nothing
          ≡ option_map_or (λ (w : Slot). w.value) (cond b (Some slot) (find (λ (w : Slot). w.field == g) slots)) Nothing) [
            | true ↦ refl
            | false ↦ slot-kept f g v slots other
          ]
    ] refl

value-kept : (id f : ℕ) (v : Value) (i g : ℕ) (rs : List Record) → ((i == id) && (g == f)) ≡ false
    → held-in (slots-in (change_first (id_is id) (with_value f v) rs) i) g ≡ held-in (slots-in rs i) g
value-kept id f v i g [] other = refl
value-kept id f v i g (r ∷ rs) other =
    elim (r.id == id) as (λ (b : Bool). (r.id == id) ≡ b
    → held-in (slots-in (if b then with_value f v r ∷ rs else r ∷ change_first (id_is id) (with_value f v) rs) i) g ≡ held-in (slots-in (r ∷ rs) i) g) [
      | true ↦ λ is.
          elim (r.id == i) as (λ (b : Bool). (r.id == i) ≡ b
          → held-in (option_map_or (λ (u : Record). u.slots) (cond b (Some (with_value f v r)) (find (λ (u : Record). u.id == i) rs)) []) g
          ≡ held-in (option_map_or (λ (u : Record). u.slots) (cond b (Some r) (find (λ (u : Record). u.id == i) rs)) []) g) [
            | true ↦ λ here. slot-kept f g v r.slots (and-last (i == id) (g == f) (eq-eqb i id (sym (eqb-true _ _ here) ∙ eqb-true _ _ is)) other)
            | false ↦ λ there. refl
          ] refl
      | false ↦ λ is.
          elim (r.id == i) as (λ (b : Bool).
          held-in (option_map_or (λ (u : Record). u.slots) (cond b (Some r) (find (λ (u : Record). u.id == i) (change_first (id_is id) (with_value f v) rs))) []) g
          ≡ held-in (option_map_or (λ (u : Record). u.slots) (cond b (Some r) (find (λ (u : Record). u.id == i) rs)) []) g) [
            | true ↦ refl
            | false ↦ value-kept id f v i g rs other
          ]
    ] refl

module _ (d : Database) (m id f : ℕ) (v : Value) where
  put-rows : records_of (with_field m id f v d) m ≡ change_first (id_is id) (with_value f v) (records_of d m)
  put-rows = rows-by m (with_value_in id f v) (λ t. refl) (change_first (id_is id) (with_value f v)) (λ t. refl) refl d

  pub put-ids : (n : ℕ) → ids_of (with_field m id f v d) n ≡ ids_of d n
  put-ids n =
      of-each m (with_value_in id f v) (λ t. refl) (change_first (id_is id) (with_value f v)) (λ t. refl) (map (λ (r : Record). r.id)) d put-rows n
      (λ is. ids-changed id f v (records_of d n))

  pub put-field : (n i g : ℕ) → ((n == m) && (i == id) && (g == f)) ≡ false → field_at (with_field m id f v d) n i g ≡ field_at d n i g
  put-field n i g other =
      of-each m (with_value_in id f v) (λ t. refl) (change_first (id_is id) (with_value f v)) (λ t. refl) (λ rs. held-in (slots-in rs i) g) d put-rows n
      (λ is. value-kept id f v i g (records_of d n) (ap (λ b. b && (i == id) && (g == f)) (sym is) ∙ other))

-- ---- a record more

row-kept : (r : Record) (i g : ℕ) (rs : List Record) → is-id rs i ≡ true → held-in (slots-in (rs ++ r ∷ []) i) g ≡ held-in (slots-in rs i) g
row-kept r i g [] there = cc
row-kept r i g (u ∷ rs) there =
    elim (u.id == i) as (λ (b : Bool). (b || is-id rs i) ≡ true
    → held-in (option_map_or (λ (w : Record). w.slots) (cond b (Some u) (find (λ (w : Record). w.id == i) (rs ++ r ∷ []))) []) g
    ≡ held-in (option_map_or (λ (w : Record). w.slots) (cond b (Some u) (find (λ (w : Record). w.id == i) rs)) []) g) [
      | true ↦ λ h. refl
      | false ↦ λ h. row-kept r i g rs h
    ] there

id-kept : (r : Record) (i : ℕ) (rs : List Record) → is-id rs i ≡ true → is-id (rs ++ r ∷ []) i ≡ true
id-kept r i [] there = cc
id-kept r i (u ∷ rs) there =
    elim (u.id == i) as (λ (b : Bool). (b || is-id rs i) ≡ true → (b || is-id (rs ++ r ∷ []) i) ≡ true) [ true ↦ λ h. refl | false ↦ λ h. id-kept r i rs h ] there

-- the record made is the only one more
id-last : (r : Record) (i : ℕ) (rs : List Record) → is-id (rs ++ r ∷ []) i ≡ true → (r.id == i) ≡ false → is-id rs i ≡ true
id-last r i [] there other = let never : false ≡ true = sym (ap (λ b. b || false) other) ∙ there in cc
id-last r i (u ∷ rs) there other =
    elim (u.id == i) as (λ (b : Bool). (b || is-id (rs ++ r ∷ []) i) ≡ true → (b || is-id rs i) ≡ true) [ true ↦ λ h. refl | false ↦ λ h. id-last r i rs h other ] there

module _ (d : Database) (m : ℕ) (r : Record) (t : Table) (at : table_of d m ≡ Some t) where
  abbrev grown : Database
  grown = change_table m (with_record r) d

  pub make-rows : records_of grown m ≡ records_of d m ++ r ∷ []
  make-rows = rows-at m (with_record r) (λ u. refl) (λ rs. rs ++ r ∷ []) (λ u. refl) d t at

  pub make-ids : (n : ℕ) → (n == m) ≡ false → ids_of grown n ≡ ids_of d n
  make-ids n other = ap (map (λ (u : Record). u.id)) (records-other m (with_record r) (λ u. refl) d n other)

  pub make-has : (n i : ℕ) → has_record d n i ≡ true → has_record grown n i ≡ true
  make-has n i there =
      of-each m (with_record r) (λ u. refl) (λ rs. rs ++ r ∷ []) (λ u. refl) (λ rs. is-id rs i) d make-rows n (λ is. id-kept r i (records_of d n) there ∙ sym there) ∙ there

  pub make-only : (n i : ℕ) → ((n == m) && (i == r.id)) ≡ false → has_record grown n i ≡ true → has_record d n i ≡ true
  make-only n i other there =
      sym (of-each m (with_record r) (λ u. refl) (λ rs. rs ++ r ∷ []) (λ u. refl) (λ rs. is-id rs i) d make-rows n
      (λ is.
      let differs : (r.id == i) ≡ false = ne_eqb r.id i (λ e. let same : (i == r.id) ≡ true = eq-eqb i r.id (sym e) in
      let never : true ≡ false = sym same ∙ and-last (n == m) (i == r.id) is other in cc) in
      let model : n ≡ m = eqb-true n m is in
      let there' : is-id (records_of d n ++ r ∷ []) i ≡ true
      = subst (λ (k : ℕ). is-id (records_of d k ++ r ∷ []) i ≡ true) (sym model)
      (ap (λ rs. is-id rs i) (sym make-rows) ∙ subst (λ (k : ℕ). has_record grown k i ≡ true) model there) in
      there' ∙ sym (id-last r i (records_of d n) there' differs))) ∙ there

  pub make-field : (n i g : ℕ) → has_record d n i ≡ true → field_at grown n i g ≡ field_at d n i g
  make-field n i g there =
      of-each m (with_record r) (λ u. refl) (λ rs. rs ++ r ∷ []) (λ u. refl) (λ rs. held-in (slots-in rs i) g) d make-rows n
      (λ is. row-kept r i g (records_of d n) there)

-- ---- a record less

row-left : (id i g : ℕ) (rs : List Record) → (i == id) ≡ false → held-in (slots-in (without_first (id_is id) rs) i) g ≡ held-in (slots-in rs i) g
row-left id i g [] other = refl
row-left id i g (r ∷ rs) other =
    elim (r.id == id) as (λ (b : Bool). (r.id == id) ≡ b
    → held-in (slots-in (if b then rs else r ∷ without_first (id_is id) rs) i) g ≡ held-in (slots-in (r ∷ rs) i) g) [
      | true ↦ λ is.
          let differs : (r.id == i) ≡ false
          = ne_eqb r.id i (λ e. let same : (i == id) ≡ true = eq-eqb i id (sym e ∙ eqb-true _ _ is) in let never : true ≡ false = sym same ∙ other in cc) in
          sym (ap (λ b. held-in (option_map_or (λ (u : Record). u.slots) (cond b (Some r) (find (λ (u : Record). u.id == i) rs)) []) g) differs)
      | false ↦ λ is.
          elim (r.id == i) as (λ (b : Bool).
          held-in (option_map_or (λ (u : Record). u.slots) (cond b (Some r) (find (λ (u : Record). u.id == i) (without_first (id_is id) rs))) []) g
          ≡ held-in (option_map_or (λ (u : Record). u.slots) (cond b (Some r) (find (λ (u : Record). u.id == i) rs)) []) g) [
            | true ↦ refl
            | false ↦ row-left id i g rs other
          ]
    ] refl

id-left : (id i : ℕ) (rs : List Record) → is-id (without_first (id_is id) rs) i ≡ true → is-id rs i ≡ true
id-left id i [] there = cc
id-left id i (r ∷ rs) there =
    elim (r.id == id) as (λ (b : Bool). is-id (if b then rs else r ∷ without_first (id_is id) rs) i ≡ true → ((r.id == i) || is-id rs i) ≡ true) [
      | true ↦ λ h. elim (r.id == i) as (λ (b : Bool). (b || is-id rs i) ≡ true) [ true ↦ refl | false ↦ h ]
      | false ↦ λ h.
          elim (r.id == i) as (λ (b : Bool). (b || is-id (without_first (id_is id) rs) i) ≡ true → (b || is-id rs i) ≡ true) [ true ↦ λ k. refl | false ↦ λ k. id-left id i rs k ] h
    ] there

id-stays : (id i : ℕ) (rs : List Record) → (i == id) ≡ false → is-id rs i ≡ true → is-id (without_first (id_is id) rs) i ≡ true
id-stays id i [] other there = cc
id-stays id i (r ∷ rs) other there =
    elim (r.id == id) as (λ (b : Bool). (r.id == id) ≡ b → is-id (if b then rs else r ∷ without_first (id_is id) rs) i ≡ true) [
      | true ↦ λ is.
          let differs : (r.id == i) ≡ false
          = ne_eqb r.id i (λ e. let same : (i == id) ≡ true = eq-eqb i id (sym e ∙ eqb-true _ _ is) in let never : true ≡ false = sym same ∙ other in cc) in
          sym (ap (λ b. b || is-id rs i) differs) ∙ there
      | false ↦ λ is.
          elim (r.id == i) as (λ (b : Bool). (b || is-id rs i) ≡ true → (b || is-id (without_first (id_is id) rs) i) ≡ true) [
            | true ↦ λ h. refl
            | false ↦ λ h. id-stays id i rs other h
          ] there
    ] refl

none-is : (id : ℕ) (rs : List Record) → AllByRecursion (λ (r : Record). (r.id == id) ≡ false) rs → is-id rs id ≡ false
none-is id [] all = refl
none-is id (r ∷ rs) all = ap (λ b. b || is-id rs id) all.0 ∙ none-is id rs all.1

-- a record that is there is one of the schema's models
pub model-there : (s : Schema) (d : Database) → HasNoFurtherTables s d → (m id : ℕ) → has_record d m id ≡ true → HasModel s m
model-there s d only m id there = in-table (table_of d m) refl
  where
    in-table : (o : Option Table) → table_of d m ≡ o → HasModel s m
    in-table None at = let none : has_record d m id ≡ false = ap (λ o. is-id (rows o) id) at in let never : true ≡ false = sym there ∙ none in cc
    in-table (Some t) at =
        subst (HasModel s) (eqb-true _ _ (find-holds (λ (u : Table). u.model == m) d t at))
        (find-among (λ (u : Table). HasModel s u.model) (λ (u : Table). u.model == m) d t only at)

module _ (d : Database) (m id : ℕ) where
  abbrev shrunk : Database
  shrunk = without_record m id d

  pub erase-rows : records_of shrunk m ≡ without_first (id_is id) (records_of d m)
  erase-rows = rows-by m (without_record_in id) (λ t. refl) (without_first (id_is id)) (λ t. refl) refl d

  pub erase-ids : (n : ℕ) → (n == m) ≡ false → ids_of shrunk n ≡ ids_of d n
  erase-ids n other = ap (map (λ (u : Record). u.id)) (records-other m (without_record_in id) (λ t. refl) d n other)

  pub erase-has : (n i : ℕ) → has_record shrunk n i ≡ true → has_record d n i ≡ true
  erase-has n i there =
      elim (n == m) as (λ (b : Bool). (n == m) ≡ b → has_record d n i ≡ true) [
        | true ↦ λ is.
            let model : n ≡ m = eqb-true n m is in
            let own : is-id (without_first (id_is id) (records_of d m)) i ≡ true
            = ap (λ rs. is-id rs i) (sym erase-rows) ∙ subst (λ (k : ℕ). has_record shrunk k i ≡ true) model there in
            subst (λ (k : ℕ). has_record d k i ≡ true) (sym model) (id-left id i (records_of d m) own)
        | false ↦ λ other. ap (λ rs. is-id rs i) (sym (records-other m (without_record_in id) (λ t. refl) d n other)) ∙ there
      ] refl

  pub erase-stays : (n i : ℕ) → ((n == m) && (i == id)) ≡ false → has_record d n i ≡ true → has_record shrunk n i ≡ true
  erase-stays n i other there =
      of-each m (without_record_in id) (λ t. refl) (without_first (id_is id)) (λ t. refl) (λ rs. is-id rs i) d erase-rows n
      (λ is. id-stays id i (records_of d n) (and-last (n == m) (i == id) is other) there ∙ sym there) ∙ there

  -- the record is gone
  pub erase-gone : IsStrictlyIncreasing (ids_of d m) → has_record shrunk m id ≡ false
  erase-gone up =
      ap (λ rs. is-id rs id) erase-rows
      ∙ none-is id (without_first (id_is id) (records_of d m)) (left-differ id (records_of d m) (sorted_from_strictly_increasing (ids_of d m) up))

  pub erase-field : (n i g : ℕ) → ((n == m) && (i == id)) ≡ false → field_at shrunk n i g ≡ field_at d n i g
  erase-field n i g other =
      of-each m (without_record_in id) (λ t. refl) (without_first (id_is id)) (λ t. refl) (λ rs. held-in (slots-in rs i) g) d erase-rows n
      (λ is. row-left id i g (records_of d n) (and-last (n == m) (i == id) is other))

-- ---- no further tables come

all-of-map : {A B : Type 0} (P : B → Type 0) (f : A → B) (xs : List A) → AllByRecursion (λ x. P (f x)) xs → AllByRecursion P (map f xs)
all-of-map P f [] all = tt
all-of-map P f (x ∷ xs) all = (all.0, all-of-map P f xs all.1)

all-to-map : {A B : Type 0} (P : B → Type 0) (f : A → B) (xs : List A) → AllByRecursion P (map f xs) → AllByRecursion (λ x. P (f x)) xs
all-to-map P f [] all = tt
all-to-map P f (x ∷ xs) all = (all.0, all-to-map P f xs all.1)

pub only-kept : (s : Schema) (m : ℕ) (g : Table → Table) → ((t : Table) → (g t).model ≡ t.model) → (d : Database) → HasNoFurtherTables s d → HasNoFurtherTables s (change_table m g d)
only-kept s m g keeps d only =
    all-to-map (HasModel s) (λ (t : Table). t.model) (change_table m g d)
    (subst (AllByRecursion (HasModel s)) (sym (models-same m g keeps d)) (all-of-map (HasModel s) (λ (t : Table). t.model) d only))
