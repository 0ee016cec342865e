-- What one command does to the records and the fields of a database.
use Rattle.std.proofs.Common.{◌≡◌, ℕ, ◌<◌, Bool, true, false, not, ◌&&◌, List, [], ◌∷◌, ◌++◌, refl, ap, sym, ◌∙◌, arith, cond, map}
use Rattle.std.specs.Prelude.{Option, None, Some, ◌==◌, filter, is_some, if◌then◌else◌}
use Rattle.std.specs.List.{find, list_any, AllByRecursion}
use Rattle.std.specs.Option.{option_map, option_map_or}
use Rattle.std.proofs.lemmas.Bool.{eqb-true, eq-eqb, ne_eqb}
use Rattle.type_schema.specs.declared.types.TBase.{TBase}
use Rattle.type_schema.specs.declared.types.TBase.TheVariants as base
use Rattle.type_schema.specs.declared.types.TTy.{TTy}
use Rattle.type_schema.specs.declared.types.TTy.TheVariants as ty
use Rattle.type_schema.specs.Trees.{Init}
use Rattle.type_schema.specs.Schema.{FieldInfo, ModelInfo, Schema, model_of}
use Rattle.type_schema.specs.Typing.{HasModel, IsBase, IsType, IsField, IsModel}
use Rattle.type_schema.specs.Proper.{AreProperFields, IsProper}
use Rattle.type_schema.specs.Commands.{Command, create_model, delete_model, add_static, remove_static, add_principal, add_field, remove_field, update_field, weaken_field, update_model, weaken_model, with_field, schema_after}
use Rattle.data_meaning.specs.Values.{Value, Nothing}
use Rattle.data_meaning.specs.Database.{Slot, Record, Table, Database, table_of, records_of, ids_of, has_record, field_at, AreSlots, IsRecordIn, HasTable, IsDatabase}
use Rattle.data_meaning.specs.Run.{change_slots, after_command, after_if_any}
use Rattle.data_meaning.proofs.Carried.{all-behind}
use Rattle.data_meaning.proofs.Changes.{ids-changed, slots-changed, field-kept, without_table, table-kept}
use Rattle.data_meaning.proofs.Finds.{find-holds, find-among, find-map, find-filter, find-none, find-more}
use Rattle.data_meaning.proofs.Lookup.{record-found}
use Rattle.data_meaning.proofs.Meanings.{record-before}
use Rattle.data_meaning.proofs.Tests.{and-left, and-right, and-last}

-- ---- records

ids-gone : (d : Database) (n m : ℕ) → (m == n) ≡ true → ids_of (without_table n d) m ≡ []
ids-gone d n m same =
    ap (λ o. map (λ (r : Record). r.id) (option_map_or (λ (t : Table). t.records) o []))
    (find-none (λ (t : Table). t.model == m) (λ (t : Table). not (t.model == n)) d (λ t is. ap not (eq-eqb _ _ (eqb-true _ _ is ∙ eqb-true _ _ same))))

ids-left : (d : Database) (n m : ℕ) → (m == n) ≡ false → ids_of (without_table n d) m ≡ ids_of d m
ids-left d n m other =
    ap (λ o. map (λ (r : Record). r.id) (option_map_or (λ (t : Table). t.records) o []))
    (table-kept d n m (λ e. let never : true ≡ false = sym (eq-eqb m n e) ∙ other in cc))

-- the same records stay the same
pub ids-same : (o : Option Command) (d e : Database) (m : ℕ) → ids_of d m ≡ ids_of e m → ids_of (after_if_any o d) m ≡ ids_of (after_if_any o e) m
ids-same None d e m h = h
ids-same (Some (create_model info)) d e m h = h
ids-same (Some (delete_model n)) d e m h =
    elim (m == n) as (λ (b : Bool). (m == n) ≡ b → ids_of (without_table n d) m ≡ ids_of (without_table n e) m) [
      | true ↦ λ same. ids-gone d n m same ∙ sym (ids-gone e n m same)
      | false ↦ λ other. ids-left d n m other ∙ h ∙ sym (ids-left e n m other)
    ] refl
ids-same (Some (add_static info)) d e m h = h
ids-same (Some (remove_static n)) d e m h = h
ids-same (Some (add_principal n)) d e m h = h
ids-same (Some (add_field n f init)) d e m h = ids-changed n _ d m ∙ h ∙ sym (ids-changed n _ e m)
ids-same (Some (remove_field n f)) d e m h = ids-changed n _ d m ∙ h ∙ sym (ids-changed n _ e m)
ids-same (Some (update_field n f read write)) d e m h = h
ids-same (Some (weaken_field n f read write reason)) d e m h = h
ids-same (Some (update_model n create delete)) d e m h = h
ids-same (Some (weaken_model n create delete reason)) d e m h = h

-- the record is there in the other database too, if it is in the first
abbrev pub Stays : Database → Database → ℕ → ℕ → Type 0
Stays d e m id = has_record d m id ≡ true → has_record e m id ≡ true

stays-by : (d e d' e' : Database) (m id : ℕ) → ids_of d' m ≡ ids_of d m → ids_of e' m ≡ ids_of e m → Stays d e m id → Stays d' e' m id
stays-by d e d' e' m id same same' stays h =
    ap (list_any (λ i. i == id)) same' ∙ stays (ap (list_any (λ i. i == id)) (sym same) ∙ h)

-- what stays goes on to stay
pub stays-after : (o : Option Command) (d e : Database) (m id : ℕ) → Stays d e m id → Stays (after_if_any o d) (after_if_any o e) m id
stays-after None d e m id h = h
stays-after (Some (create_model info)) d e m id h = h
stays-after (Some (delete_model n)) d e m id h =
    elim (m == n) as (λ (b : Bool). (m == n) ≡ b → Stays (without_table n d) (without_table n e) m id) [
      | true ↦ λ same there. let never : true ≡ false = sym there ∙ ap (list_any (λ i. i == id)) (ids-gone d n m same) in cc
      | false ↦ λ other. stays-by d e (without_table n d) (without_table n e) m id (ids-left d n m other) (ids-left e n m other) h
    ] refl
stays-after (Some (add_static info)) d e m id h = h
stays-after (Some (remove_static n)) d e m id h = h
stays-after (Some (add_principal n)) d e m id h = h
stays-after (Some (add_field n f init)) d e m id h =
    stays-by d e (after_command (add_field n f init) d) (after_command (add_field n f init) e) m id (ids-changed n _ d m) (ids-changed n _ e m) h
stays-after (Some (remove_field n f)) d e m id h =
    stays-by d e (after_command (remove_field n f) d) (after_command (remove_field n f) e) m id (ids-changed n _ d m) (ids-changed n _ e m) h
stays-after (Some (update_field n f read write)) d e m id h = h
stays-after (Some (weaken_field n f read write reason)) d e m id h = h
stays-after (Some (update_model n create delete)) d e m id h = h
stays-after (Some (weaken_model n create delete reason)) d e m id h = h

pub there-before : (o : Option Command) (d : Database) (m id : ℕ) → has_record (after_if_any o d) m id ≡ true → has_record d m id ≡ true
there-before None d m id h = h
there-before (Some c) d m id h = record-before c d m id h

-- ---- fields of a table that is dropped, and a field that is removed

abbrev held-in : List Slot → ℕ → Value
held-in slots f = option_map_or (λ (slot : Slot). slot.value) (find (λ (slot : Slot). slot.field == f) slots) Nothing

abbrev look-up : ℕ → ℕ → Option Table → Value
look-up id f o = held-in (option_map_or (λ (r : Record). r.slots) (find (λ (r : Record). r.id == id) (option_map_or (λ (t : Table). t.records) o [])) []) f

pub field-same-deleted : (n : ℕ) (d e : Database) (m id f : ℕ) → field_at d m id f ≡ field_at e m id f
    → field_at (without_table n d) m id f ≡ field_at (without_table n e) m id f
field-same-deleted n d e m id f h =
    elim (m == n) as (λ (b : Bool). (m == n) ≡ b → field_at (without_table n d) m id f ≡ field_at (without_table n e) m id f) [
      | true ↦ λ same. gone d same ∙ sym (gone e same)
      | false ↦ λ other. left d other ∙ h ∙ sym (left e other)
    ] refl
  where
    gone : (x : Database) → (m == n) ≡ true → field_at (without_table n x) m id f ≡ Nothing
    gone x same = ap (look-up id f) (find-none (λ (t : Table). t.model == m) (λ (t : Table). not (t.model == n)) x (λ t is. ap not (eq-eqb _ _ (eqb-true _ _ is ∙ eqb-true _ _ same))))

    left : (x : Database) → (m == n) ≡ false → field_at (without_table n x) m id f ≡ field_at x m id f
    left x other = ap (look-up id f) (table-kept x n m (λ e. let never : true ≡ false = sym (eq-eqb m n e) ∙ other in cc))

abbrev without-slot : ℕ → Record → List Slot
without-slot g r = filter (λ (slot : Slot). not (slot.field == g)) r.slots

pub field-same-removed : (n g : ℕ) (d e : Database) (m id f : ℕ) → field_at d m id f ≡ field_at e m id f
    → field_at (after_command (remove_field n g) d) m id f ≡ field_at (after_command (remove_field n g) e) m id f
field-same-removed n g d e m id f h =
    elim ((m == n) && (f == g)) as (λ (b : Bool). ((m == n) && (f == g)) ≡ b
    → field_at (after_command (remove_field n g) d) m id f ≡ field_at (after_command (remove_field n g) e) m id f) [
      | true ↦ λ same. gone d same ∙ sym (gone e same)
      | false ↦ λ other. left d other ∙ h ∙ sym (left e other)
    ] refl
  where
    gone : (x : Database) → ((m == n) && (f == g)) ≡ true → field_at (after_command (remove_field n g) x) m id f ≡ Nothing
    gone x same =
        ap (λ slots. held-in slots f) (slots-changed n (without-slot g) x m id)
        ∙ (elim (find (λ (r : Record). r.id == id) (records_of x m)) as (λ (o : Option Record).
        held-in (option_map_or (λ (r : Record). if m == n then without-slot g r else r.slots) o []) f ≡ Nothing) [
          | None ↦ refl
          | Some r ↦
              ap (λ b. held-in (if b then without-slot g r else r.slots) f) (and-left _ _ same)
              ∙ ap (λ o. option_map_or (λ (slot : Slot). slot.value) o Nothing)
              (find-none (λ (slot : Slot). slot.field == f) (λ (slot : Slot). not (slot.field == g)) r.slots
              (λ slot is. ap not (eq-eqb _ _ (eqb-true _ _ is ∙ eqb-true _ _ (and-right (m == n) _ same)))))
        ])

    left : (x : Database) → ((m == n) && (f == g)) ≡ false → field_at (after_command (remove_field n g) x) m id f ≡ field_at x m id f
    left x other =
        field-kept n (without-slot g) x m id f (λ same r.
        find-filter (λ (slot : Slot). slot.field == f) (λ (slot : Slot). not (slot.field == g)) r.slots (λ slot is.
        let differs : (f == g) ≡ false = and-last (m == n) (f == g) (eq-eqb _ _ same) other in
        ap not (ap (λ k. k == g) (eqb-true _ _ is) ∙ differs)))

-- ---- a field that is added

-- another field
pub field-same-beside : (n g : ℕ) (value : Database → ℕ → Value) (d : Database) (m id f : ℕ) → ((n == m) && (g == f)) ≡ false
    → field_at (change_slots n (λ (r : Record). r.slots ++ (record { field = g; value = value d r.id }) ∷ []) d) m id f ≡ field_at d m id f
field-same-beside n g value d m id f other =
    field-kept n (λ (r : Record). r.slots ++ (record { field = g; value = value d r.id }) ∷ []) d m id f (λ same r.
    find-more (λ (slot : Slot). slot.field == f) r.slots (record { field = g; value = value d r.id })
    (and-last (n == m) (g == f) (eq-eqb _ _ (sym same)) other))

find-end : {A : Type 0} (p : A → Bool) (xs : List A) (y : A) → find p xs ≡ None → p y ≡ true → find p (xs ++ y ∷ []) ≡ Some y
find-end p [] y none passes = ap (λ b. cond b (Some y) None) passes
find-end {A} p (x ∷ xs) y none passes =
    elim (p x) as (λ (b : Bool). cond b (Some x) (find p xs) ≡ None → cond b (Some x) (find p (xs ++ y ∷ [])) ≡ Some y) [
      | true ↦ λ h. cc
      | false ↦ λ h. find-end p xs y h passes
    ] none

no-slot : (d : Database) (next : ℕ) (fields : List FieldInfo) (slots : List Slot) → AllByRecursion (λ n. n < next) (map (λ (f : FieldInfo). f.number) fields) → AreSlots d fields slots
    → find (λ (slot : Slot). slot.field == next) slots ≡ None
no-slot d next [] [] below are = refl
no-slot d next [] (slot ∷ slots) below are = absurd are
no-slot d next (f ∷ fields) [] below are = absurd are
no-slot d next (f ∷ fields) (slot ∷ slots) below are =
    let less : f.number < next = below.0 in
    let is : slot.field ≡ f.number = are.0.0 in
    ap (λ b. cond b (Some slot) (find (λ (u : Slot). u.field == next) slots)) (ne_eqb slot.field next (λ e. omega (arith, e, is, less)))
    ∙ no-slot d next fields slots below.1 are.1

-- the field itself
abbrev with-slot : ℕ → (ℕ → Value) → Record → List Slot
with-slot g value r = r.slots ++ (record { field = g; value = value r.id }) ∷ []

pub field-added : (s : Schema) (d : Database) → IsDatabase s d → IsProper s → (n : ℕ) → HasModel s n → (g : ℕ) → g ≡ s.next_field → (value : Database → ℕ → Value) (id : ℕ)
    → has_record d n id ≡ true → field_at (change_slots n (λ (r : Record). r.slots ++ (record { field = g; value = value d r.id }) ∷ []) d) n id g ≡ value d id
field-added s d is proper n has g new value id there = at-model (model_of s n) refl has
  where
    at-model : (o : Option ModelInfo) → model_of s n ≡ o → is_some o ≡ true → field_at (change_slots n (with-slot g (value d)) d) n id g ≡ value d id
    at-model None here e = cc
    at-model (Some i) here e =
        let table = find-among (HasTable d) (λ (u : ModelInfo). u.number == n) s.models i is.tables here in
        let number : i.number ≡ n = eqb-true _ _ (find-holds (λ (u : ModelInfo). u.number == n) s.models i here) in
        let at : table_of d n ≡ Some table.0 = ap (table_of d) (sym number) ∙ table.1 in
        let rows : records_of d n ≡ table.0.records = ap (λ o. option_map_or (λ (u : Table). u.records) o []) at in
        let r = record-found id table.0.records (ap (λ rs. list_any (λ k. k == id) (map (λ (u : Record). u.id) rs)) (sym rows) ∙ there) in
        let inside = find-among (IsRecordIn d i table.0.next) (λ (u : Record). u.id == id) table.0.records r.0 table.2.records r.1 in
        let own : r.0.id ≡ id = eqb-true _ _ (find-holds (λ (u : Record). u.id == id) table.0.records r.0 r.1) in
        let found : find (λ (u : Record). u.id == id) (records_of d n) ≡ Some r.0 = ap (find (λ (u : Record). u.id == id)) rows ∙ r.1 in
        let proper-fields = find-among (AreProperFields s.next_field) (λ (u : ModelInfo). u.number == n) s.models i proper.fields here in
        let none : find (λ (slot : Slot). slot.field == g) r.0.slots ≡ None
        = ap (λ k. find (λ (slot : Slot). slot.field == k) r.0.slots) new ∙ no-slot d s.next_field i.fields r.0.slots proper-fields.numbers.below inside.slots in
        ap (λ slots. held-in slots g) (slots-changed n (with-slot g (value d)) d n id)
        ∙ ap (λ o. held-in (option_map_or (λ (u : Record). if n == n then with-slot g (value d) u else u.slots) o []) g) found
        ∙ ap (λ b. held-in (if b then with-slot g (value d) r.0 else r.0.slots) g) (eq-eqb n n refl)
        ∙ ap (λ o. option_map_or (λ (slot : Slot). slot.value) o Nothing)
        (find-end (λ (slot : Slot). slot.field == g) r.0.slots (record { field = g; value = value d r.0.id }) none (eq-eqb g g refl))
        ∙ ap (value d) own

-- ---- the type of a field that is added

module _ (s : Schema) (n : ℕ) (g : FieldInfo) (init : Init) where
  abbrev after : Schema
  after = schema_after s (add_field n g init)

  abbrev changed : ModelInfo → ModelInfo
  changed i = if i.number == n then with_field g i else i

  same-number : (m : ℕ) (i : ModelInfo) → ((changed i).number == m) ≡ (i.number == m)
  same-number m i = elim (i.number == n) as (λ (b : Bool). ((let u : ModelInfo = if b then with_field g i else i in u.number) == m) ≡ (i.number == m)) [ true ↦ refl | false ↦ refl ]

  model-found : (m : ℕ) → model_of after m ≡ option_map changed (model_of s m)
  model-found m = find-map (λ (i : ModelInfo). i.number == m) changed s.models (same-number m)

  some-before : {A B : Type 0} (f : A → B) (o : Option A) → is_some (option_map f o) ≡ true → is_some o ≡ true
  some-before f None h = cc
  some-before f (Some x) h = refl

  has-before : (m : ℕ) → HasModel after m → HasModel s m
  has-before m has = some-before changed (model_of s m) (ap (λ o. is_some o) (sym (model-found m)) ∙ has)

  base-before : (b : TBase) → IsBase after b → IsBase s b
  base-before base.Bool h = tt
  base-before base.Int h = tt
  base-before base.Text h = tt
  base-before (base.Id m) h = has-before m h

  type-before : (t : TTy) → IsType after t → IsType s t
  type-before (ty.Plain b) h = base-before b h
  type-before (ty.Set m) h = has-before m h
  type-before (ty.Opt b) h = base-before b h

  pub type-added : IsProper after → HasModel s n → IsType s g.ty
  type-added proper has = at-model (model_of s n) refl has
    where
      at-model : (o : Option ModelInfo) → model_of s n ≡ o → is_some o ≡ true → IsType s g.ty
      at-model None here e = cc
      at-model (Some i) here e =
          let own : (i.number == n) ≡ true = find-holds (λ (u : ModelInfo). u.number == n) s.models i here in
          let found : model_of after n ≡ Some (with_field g i)
          = model-found n ∙ ap (option_map changed) here ∙ ap (λ b. Some (if b then with_field g i else i)) own in
          let typed = find-among (IsModel after) (λ (u : ModelInfo). u.number == n) after.models (with_field g i) proper.typed found in
          type-before g.ty (all-behind (IsField after i.number) i.fields (g ∷ []) typed.fields).0.ty
