-- A start database without a record that no other record names is a database over its schema. Models of it may have one name, so it is
-- not a proper schema; their fields have numbers of their own.
use Rattle.std.proofs.Common.{◌≡◌, ℕ, Bool, true, false, ◌&&◌, ◌||◌, List, [], ◌∷◌, refl, ap, sym, ◌∙◌, subst, cond, map}
use Rattle.std.specs.Prelude.{Option, Some, None, ◌==◌, nat_eq, if◌then◌else◌}
use Rattle.std.specs.List.{find, list_any, AllByRecursion, IsDistinct}
use Rattle.std.specs.Option.{option_map, option_map_or}
use Rattle.std.proofs.lemmas.Bool.{eq-eqb}
use Rattle.std.proofs.lemmas.Map.Keys.{IsStrictlyIncreasing-from_sorted, sorted_from_strictly_increasing}
use Rattle.type_schema.specs.declared.types.TBase.{TBase}
use Rattle.type_schema.specs.declared.types.TBase.TheVariants as base
use Rattle.type_schema.specs.declared.types.TTy.{TTy}
use Rattle.type_schema.specs.declared.types.TTy.TheVariants.{Plain, Set, Opt}
use Rattle.type_schema.specs.Schema.{FieldInfo, ModelInfo, Schema}
use Rattle.type_schema.specs.Proper.{field_numbers}
use Rattle.data_meaning.specs.Values.{Value, Nothing, ids_in}
use Rattle.data_meaning.specs.Database.{Slot, Record, Table, Database, table_of, records_of, has_record, AreSlots, IsRecordIn, IsTableOf, HasTable, IsDatabase}
use Rattle.data_records.specs.declared.references.Reference.{Reference}
use Rattle.data_records.specs.Removed.{first_given, first_reference, is_of_model, names, reference_from, without_first, without_record, without_record_in}
use Rattle.data_records.specs.Rising.{ids_by}
use Rattle.data_records.proofs.Changes.{field_is, id_is, rising-without}
use Rattle.data_records.proofs.RowOut.{left-differ}
use Rattle.data_records.proofs.Stays.{Carries, CarriesBase, CarriesType, intact-carried, models-same, table-stays, has-carried}
use Rattle.impact_shrink.proofs.Among.{any-other, given-none, none-passes}

-- the fields of the model have numbers of their own
abbrev pub AreApart : ModelInfo → Type 0
AreApart info = IsDistinct nat_eq (field_numbers info.fields)

abbrev pub value_in : List Slot → ℕ → Value
value_in slots f = option_map_or (λ (slot : Slot). slot.value) (find (field_is f) slots) Nothing

-- ---- slots that do not name the record

module _ (d e : Database) (m id : ℕ) (others : (n i : ℕ) → ((n == m) && (i == id)) ≡ false → has_record d n i ≡ true → has_record e n i ≡ true) where
  carries-ids : (n : ℕ) (ids : List ℕ) → ((n == m) && list_any (λ i. i == id) ids) ≡ false → Carries d e n ids
  carries-ids n [] none = tt
  carries-ids n (i ∷ ids) none =
      let parts = split (n == m) (i == id) (list_any (λ j. j == id) ids) none in
      ((λ there. others n i parts.0 there), carries-ids n ids parts.1)
    where
      split : (a b c : Bool) → (a && (b || c)) ≡ false → ((a && b) ≡ false) × ((a && c) ≡ false)
      split true true c h = cc
      split true false c h = (refl, h)
      split false b c h = (refl, refl)

  carries-base : (b : TBase) (ids : List ℕ) → (is_of_model m (Plain b) && list_any (λ i. i == id) ids) ≡ false → CarriesBase d e b ids
  carries-base base.Bool ids none = tt
  carries-base base.Int ids none = tt
  carries-base base.Text ids none = tt
  carries-base (base.Id n) ids none = carries-ids n ids none

  carries-type : (t : TTy) (ids : List ℕ) → (is_of_model m t && list_any (λ i. i == id) ids) ≡ false → CarriesType d e t ids
  carries-type (Plain b) ids none = carries-base b ids none
  carries-type (Set n) ids none = carries-ids n ids none
  carries-type (Opt b) ids none = carries-base b ids none

  -- none of the fields names the record, by these slots
  abbrev NoneNames : List Slot → List FieldInfo → Type 0
  NoneNames slots fields = AllByRecursion (λ (f : FieldInfo). (is_of_model m f.ty && list_any (λ i. i == id) (ids_in (value_in slots f.number))) ≡ false) fields

  slots-left : (fields : List FieldInfo) (slots : List Slot) → IsDistinct nat_eq (map (λ (f : FieldInfo). f.number) fields) → AreSlots d fields slots → NoneNames slots fields
      → AreSlots e fields slots
  unfolding IsDistinct
  slots-left [] [] apart all none = tt
  slots-left [] (slot ∷ slots) apart all none = absurd all
  slots-left (f ∷ fields) [] apart all none = absurd all
  slots-left (f ∷ fields) (slot ∷ slots) apart all none =
      let here : value_in (slot ∷ slots) f.number ≡ slot.value
      = ap (λ b. option_map_or (λ (u : Slot). u.value) (cond b (Some slot) (find (field_is f.number) slots)) Nothing) (ap (λ n. n == f.number) all.0.0 ∙ same-number f.number) in
      let one : (is_of_model m f.ty && list_any (λ i. i == id) (ids_in slot.value)) ≡ false
      = ap (λ v. is_of_model m f.ty && list_any (λ i. i == id) (ids_in v)) (sym here) ∙ none.0 in (
        (all.0.0, all.0.1, intact-carried d e f.ty slot.value (carries-type f.ty (ids_in slot.value) one) all.0.2),
        slots-left fields slots apart.1 all.1 (later fields apart.0 none.1),
      )
    where
      same-number : (n : ℕ) → (n == n) ≡ true
      same-number n = eq-eqb n n refl

      later : (fs : List FieldInfo) → AllByRecursion (λ n. nat_eq f.number n ≡ false) (map (λ (g : FieldInfo). g.number) fs) → NoneNames (slot ∷ slots) fs → NoneNames slots fs
      later [] differ none' = tt
      later (g ∷ fs) differ none' =
          let past : value_in (slot ∷ slots) g.number ≡ value_in slots g.number
          = ap (λ b. option_map_or (λ (u : Slot). u.value) (cond b (Some slot) (find (field_is g.number) slots)) Nothing) (ap (λ n. n == g.number) all.0.0 ∙ differ.0) in
          (ap (λ v. is_of_model m g.ty && list_any (λ i. i == id) (ids_in v)) (sym past) ∙ none'.0, later fs differ.1 none'.1)

  record-left : (info : ModelInfo) (next : ℕ) → AreApart info → (r : Record) → IsRecordIn d info next r → ((info.number == m) && (r.id == id)) ≡ false
      → reference_from m id info r ≡ None → IsRecordIn e info next r
  record-left info next apart r is other none =
      record { first = is.first; given = is.given; slots = slots-left info.fields r.slots apart is.slots (none-passes (names m id r) info.fields unnamed) }
    where
      make : FieldInfo → Reference
      make f = record { model = info.number; id = r.id; field = f.number }

      no-map : (o : Option FieldInfo) → option_map make o ≡ None → o ≡ None
      no-map None h = refl
      no-map (Some f) h = cc

      unnamed : find (names m id r) info.fields ≡ None
      unnamed = no-map (find (names m id r) info.fields) (subst (λ (b : Bool). (if b then None else option_map make (find (names m id r) info.fields)) ≡ None) other none)

  records-left : (info : ModelInfo) (next : ℕ) → AreApart info → (rs : List Record)
      → AllByRecursion (IsRecordIn d info next) rs → AllByRecursion (λ (r : Record). reference_from m id info r ≡ None) rs
      → AllByRecursion (λ (r : Record). ((info.number == m) && (r.id == id)) ≡ false → IsRecordIn e info next r) rs
  records-left info next apart [] all none = tt
  records-left info next apart (r ∷ rs) all none =
      ((λ other. record-left info next apart r all.0 other none.0), records-left info next apart rs all.1 none.1)

all-given : {A : Type 0} (P Q : A → Type 0) (xs : List A) → AllByRecursion P xs → AllByRecursion (λ x. P x → Q x) xs → AllByRecursion Q xs
all-given P Q [] ps qs = tt
all-given P Q (x ∷ xs) ps qs = (qs.0 ps.0, all-given P Q xs ps.1 qs.1)

all-from : {A : Type 0} (P : A → Type 0) → ((x : A) → P x) → (xs : List A) → AllByRecursion P xs
all-from P each [] = tt
all-from P each (x ∷ xs) = (each x, all-from P each xs)

all-left : {A : Type 0} (P : A → Type 0) (p : A → Bool) (xs : List A) → AllByRecursion P xs → AllByRecursion P (without_first p xs)
all-left P p [] all = tt
all-left P p (x ∷ xs) all = elim (p x) as (λ (b : Bool). AllByRecursion P (if b then xs else x ∷ without_first p xs)) [ true ↦ all.1 | false ↦ (all.0, all-left P p xs all.1) ]

module _ (s : Schema) (fields : AllByRecursion AreApart s.models) (d : Database) (is : IsDatabase s d) (m id : ℕ) (none : first_reference s d m id ≡ None) where
  abbrev g : Table → Table
  g = without_record_in id

  abbrev e : Database
  e = without_record m id d

  keeps : (t : Table) → (g t).model ≡ t.model
  keeps t = refl

  others : (n i : ℕ) → ((n == m) && (i == id)) ≡ false → has_record d n i ≡ true → has_record e n i ≡ true
  others n i other there = has-carried m g keeps d n i
      (λ same t at h. any-other i id (ap (λ b. b && (i == id)) (sym (ap (λ k. k == m) same ∙ eq-eqb m m refl)) ∙ other) t.records h) there

  abbrev Unnamed : ModelInfo → Type 0
  Unnamed info = (first_given (reference_from m id info) (records_of d info.number) ≡ None) × AreApart info

  table-left : (info : ModelInfo) → Unnamed info → HasTable d info → HasTable e info
  table-left info unnamed has =
      table-stays m g keeps d info
      (λ t other at of. record {
        first = of.first;
        last = of.last;
        rising = of.rising;
        records = all-given (λ (r : Record). ((info.number == m) && (r.id == id)) ≡ false) (IsRecordIn e info t.next) t.records
            (all-from (λ (r : Record). ((info.number == m) && (r.id == id)) ≡ false) (λ r. ap (λ b. b && (r.id == id)) other) t.records) (left t at of);
      })
      (λ t here at of.
      let up = sorted_from_strictly_increasing (ids_by t.records) of.rising in
      record {
        first = of.first;
        last = of.last;
        rising = IsStrictlyIncreasing-from_sorted (ids_by (without_first (id_is id) t.records)) (rising-without id t.records up);
        records = all-given (λ (r : Record). ((info.number == m) && (r.id == id)) ≡ false) (IsRecordIn e info t.next) (without_first (id_is id) t.records)
            (differs here (without_first (id_is id) t.records) (left-differ id t.records up))
            (all-left (λ (r : Record). ((info.number == m) && (r.id == id)) ≡ false → IsRecordIn e info t.next r) (id_is id) t.records (left t (ap (table_of d) here ∙ at) of));
      }) has
    where
      left : (t : Table) → table_of d info.number ≡ Some t → IsTableOf d info t
          → AllByRecursion (λ (r : Record). ((info.number == m) && (r.id == id)) ≡ false → IsRecordIn e info t.next r) t.records
      left t at of =
          records-left d e m id others info t.next unnamed.1 t.records of.records
          (given-none (reference_from m id info) t.records
          (ap (first_given (reference_from m id info)) (sym (ap (λ o. option_map_or (λ (u : Table). u.records) o []) at)) ∙ unnamed.0))

      differs : info.number ≡ m → (rs : List Record) → AllByRecursion (λ (r : Record). (r.id == id) ≡ false) rs → AllByRecursion (λ (r : Record). ((info.number == m) && (r.id == id)) ≡ false) rs
      differs here [] all = tt
      differs here (r ∷ rs) all = (ap (λ b. b && (r.id == id)) (ap (λ k. k == m) here ∙ eq-eqb m m refl) ∙ all.0, differs here rs all.1)

  tables-left : (infos : List ModelInfo) → AllByRecursion (λ (i : ModelInfo). first_given (reference_from m id i) (records_of d i.number) ≡ None) infos
      → AllByRecursion AreApart infos → AllByRecursion (HasTable d) infos → AllByRecursion (HasTable e) infos
  tables-left [] unnamed apart all = tt
  tables-left (i ∷ infos) unnamed apart all = (table-left i (unnamed.0, apart.0) all.0, tables-left infos unnamed.1 apart.1 all.1)

  pub stays-whole : IsDatabase s e
  stays-whole = record {
    apart = subst (IsDistinct nat_eq) (sym (models-same m g keeps d)) is.apart;
    tables = tables-left s.models (given-none (λ (i : ModelInfo). first_given (reference_from m id i) (records_of d i.number)) s.models none) fields is.tables;
  }
