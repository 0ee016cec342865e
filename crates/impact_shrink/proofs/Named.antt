-- A database without a record that another record names is no database: an id names no record.
use Rattle.std.proofs.Common.{◌≡◌, ℕ, Bool, true, false, ◌&&◌, ◌||◌, List, [], ◌∷◌, refl, ap, sym, ◌∙◌, subst, cond, map}
use Rattle.std.specs.Prelude.{Some, None, ◌==◌, nat_eq, if◌then◌else◌}
use Rattle.std.specs.List.{find, list_any, AllByRecursion, IsDistinct}
use Rattle.std.specs.Option.{option_map, option_map_or}
use Rattle.std.proofs.lemmas.Bool.{eqb-true, eq-eqb}
use Rattle.type_schema.specs.declared.types.TBase.{TBase}
use Rattle.type_schema.specs.declared.types.TBase.TheVariants as base
use Rattle.type_schema.specs.declared.types.TTy.{TTy}
use Rattle.type_schema.specs.declared.types.TTy.TheVariants.{Plain, Set, Opt}
use Rattle.type_schema.specs.Schema.{FieldInfo, ModelInfo, Schema}
use Rattle.data_meaning.specs.Values.{Value, Nothing, ids_in}
use Rattle.data_meaning.specs.Database.{Slot, Record, Table, Database, table_of, records_of, has_record, AreThere, IsBaseIntact, IsIntact, AreSlots, IsRecordIn, HasTable, IsDatabase}
use Rattle.data_records.specs.declared.references.Reference.{Reference}
use Rattle.data_records.specs.Removed.{first_given, first_reference, is_of_model, names, reference_from, without_first, without_record, without_record_in}
use Rattle.data_records.proofs.Changes.{field_is, id_is}
use Rattle.data_records.proofs.Stays.{table-changed, table-other}
use Rattle.impact_shrink.proofs.Among.{none-found, none-given}
use Rattle.impact_shrink.proofs.Left.{AreApart, value_in}

and-none : (a : Bool) → (a && false) ≡ false
and-none true = refl
and-none false = refl

-- ---- values whose ids name records of a database in which the record is not

module _ (e : Database) (m id : ℕ) (gone : has_record e m id ≡ false) where
  ids-unnamed : (n : ℕ) (ids : List ℕ) → AreThere e n ids → ((n == m) && list_any (λ i. i == id) ids) ≡ false
  ids-unnamed n [] there = and-none (n == m)
  ids-unnamed n (i ∷ ids) there =
      elim (n == m) as (λ (b : Bool). (n == m) ≡ b → (b && list_any (λ j. j == id) ids) ≡ false → (b && ((i == id) || list_any (λ j. j == id) ids)) ≡ false) [
        | true ↦ λ is rest. ap (λ c. c || list_any (λ j. j == id) ids) (other (eqb-true _ _ is)) ∙ rest
        | false ↦ λ is rest. refl
      ] refl (ids-unnamed n ids there.1)
    where
      other : n ≡ m → (i == id) ≡ false
      other same =
          elim (i == id) as (λ (b : Bool). (i == id) ≡ b → b ≡ false) [
            | true ↦ λ is.
                let here : has_record e n i ≡ true = there.0 in
                let so : has_record e m id ≡ true = ap (λ k. has_record e k id) (sym same) ∙ ap (has_record e n) (sym (eqb-true _ _ is)) ∙ here in
                cc
            | false ↦ λ is. refl
          ] refl

  base-unnamed : (b : TBase) (ids : List ℕ) → IsBaseIntact e b ids → (is_of_model m (Plain b) && list_any (λ i. i == id) ids) ≡ false
  base-unnamed base.Bool ids intact = refl
  base-unnamed base.Int ids intact = refl
  base-unnamed base.Text ids intact = refl
  base-unnamed (base.Id n) ids intact = ids-unnamed n ids intact

  value-unnamed : (t : TTy) (v : Value) → IsIntact e t v → (is_of_model m t && list_any (λ i. i == id) (ids_in v)) ≡ false
  value-unnamed (Plain b) v intact = base-unnamed b (ids_in v) intact
  value-unnamed (Set n) v intact = ids-unnamed n (ids_in v) intact
  value-unnamed (Opt b) v intact = base-unnamed b (ids_in v) intact

  abbrev NoneNames : List Slot → List FieldInfo → Type 0
  NoneNames slots fields = AllByRecursion (λ (f : FieldInfo). (is_of_model m f.ty && list_any (λ i. i == id) (ids_in (value_in slots f.number))) ≡ false) fields

  slots-unnamed : (fields : List FieldInfo) (slots : List Slot) → IsDistinct nat_eq (map (λ (f : FieldInfo). f.number) fields) → AreSlots e fields slots → NoneNames slots fields
  unfolding IsDistinct
  slots-unnamed [] slots apart all = tt
  slots-unnamed (f ∷ fields) [] apart all = absurd all
  slots-unnamed (f ∷ fields) (slot ∷ slots) apart all =
      let here : value_in (slot ∷ slots) f.number ≡ slot.value
      = ap (λ b. option_map_or (λ (u : Slot). u.value) (cond b (Some slot) (find (field_is f.number) slots)) Nothing) (ap (λ n. n == f.number) all.0.0 ∙ eq-eqb f.number f.number refl) in (
        ap (λ v. is_of_model m f.ty && list_any (λ i. i == id) (ids_in v)) here ∙ value-unnamed f.ty slot.value all.0.2,
        sooner fields apart.0 (slots-unnamed fields slots apart.1 all.1),
      )
    where
      sooner : (fs : List FieldInfo) → AllByRecursion (λ n. nat_eq f.number n ≡ false) (map (λ (g : FieldInfo). g.number) fs) → NoneNames slots fs → NoneNames (slot ∷ slots) fs
      sooner [] differ none = tt
      sooner (g ∷ fs) differ none =
          let past : value_in (slot ∷ slots) g.number ≡ value_in slots g.number
          = ap (λ b. option_map_or (λ (u : Slot). u.value) (cond b (Some slot) (find (field_is g.number) slots)) Nothing) (ap (λ n. n == g.number) all.0.0 ∙ differ.0) in
          (ap (λ v. is_of_model m g.ty && list_any (λ i. i == id) (ids_in v)) past ∙ none.0, sooner fs differ.1 none.1)

  record-unnamed : (info : ModelInfo) (next : ℕ) → AreApart info → (r : Record) → IsRecordIn e info next r → reference_from m id info r ≡ None
  record-unnamed info next apart r is =
      elim ((info.number == m) && (r.id == id)) as (λ (b : Bool). (if b then None else option_map make (find (names m id r) info.fields)) ≡ None) [
        | true ↦ refl
        | false ↦ ap (option_map make) (none-found (names m id r) info.fields (slots-unnamed info.fields r.slots apart is.slots))
      ]
    where
      make : FieldInfo → Reference
      make f = record { model = info.number; id = r.id; field = f.number }

  records-unnamed : (info : ModelInfo) (next : ℕ) → AreApart info → (rs : List Record) → AllByRecursion (IsRecordIn e info next) rs → AllByRecursion (λ (r : Record). reference_from m id info r ≡ None) rs
  records-unnamed info next apart [] all = tt
  records-unnamed info next apart (r ∷ rs) all = (record-unnamed info next apart r all.0, records-unnamed info next apart rs all.1)

  -- the record that is left out names itself at most
  left-unnamed : (info : ModelInfo) (next : ℕ) → AreApart info → info.number ≡ m → (rs : List Record) → AllByRecursion (IsRecordIn e info next) (without_first (id_is id) rs)
      → AllByRecursion (λ (r : Record). reference_from m id info r ≡ None) rs
  left-unnamed info next apart here [] all = tt
  left-unnamed info next apart here (r ∷ rs) all =
      elim (r.id == id) as (λ (b : Bool). (r.id == id) ≡ b → AllByRecursion (IsRecordIn e info next) (if b then rs else r ∷ without_first (id_is id) rs)
      → AllByRecursion (λ (u : Record). reference_from m id info u ≡ None) (r ∷ rs)) [
        | true ↦ λ is rest. (itself is, records-unnamed info next apart rs rest)
        | false ↦ λ is rest. (record-unnamed info next apart r rest.0, left-unnamed info next apart here rs rest.1)
      ] refl all
    where
      make : FieldInfo → Reference
      make f = record { model = info.number; id = r.id; field = f.number }

      itself : (r.id == id) ≡ true → reference_from m id info r ≡ None
      itself is =
          ap (λ b. if b then None else option_map make (find (names m id r) info.fields))
          (ap (λ b. b && (r.id == id)) (ap (λ k. k == m) here ∙ eq-eqb m m refl) ∙ is)

module _ (s : Schema) (fields : AllByRecursion AreApart s.models) (d : Database) (is : IsDatabase s d) (m id : ℕ) (gone : has_record (without_record m id d) m id ≡ false)
    (left : IsDatabase s (without_record m id d)) where
  abbrev e : Database
  e = without_record m id d

  keeps : (t : Table) → (without_record_in id t).model ≡ t.model
  keeps t = refl

  abbrev Unnamed : ModelInfo → Type 0
  Unnamed info = first_given (reference_from m id info) (records_of d info.number) ≡ None

  table-unnamed : (info : ModelInfo) → AreApart info → HasTable d info → HasTable e info → Unnamed info
  table-unnamed info apart before after =
      let rows : records_of d info.number ≡ before.0.records = ap (λ o. option_map_or (λ (u : Table). u.records) o []) before.1 in
      ap (first_given (reference_from m id info)) rows ∙ none-given (reference_from m id info) before.0.records
      (elim (info.number == m) as (λ (b : Bool). (info.number == m) ≡ b → AllByRecursion (λ (r : Record). reference_from m id info r ≡ None) before.0.records) [
        | true ↦ λ same.
            let here : info.number ≡ m = eqb-true _ _ same in
            let found : table_of d m ≡ Some before.0 = ap (table_of d) (sym here) ∙ before.1 in
            let changed : table_of e m ≡ Some (without_record_in id before.0) = table-changed m (without_record_in id) keeps d ∙ ap (option_map (without_record_in id)) found in
            let this : after.0 ≡ without_record_in id before.0 = let at : table_of e m ≡ Some after.0 = ap (table_of e) (sym here) ∙ after.1 in cc in
            left-unnamed e m id gone info after.0.next apart here before.0.records
            (subst (λ (t : Table). AllByRecursion (IsRecordIn e info after.0.next) t.records) this after.2.records)
        | false ↦ λ other.
            let this : after.0 ≡ before.0 = let at : table_of e info.number ≡ table_of d info.number = table-other m (without_record_in id) keeps d info.number other in cc in
            records-unnamed e m id gone info after.0.next apart before.0.records
            (subst (λ (t : Table). AllByRecursion (IsRecordIn e info after.0.next) t.records) this after.2.records)
      ] refl)

  tables-unnamed : (infos : List ModelInfo) → AllByRecursion AreApart infos → AllByRecursion (HasTable d) infos → AllByRecursion (HasTable e) infos → AllByRecursion Unnamed infos
  tables-unnamed [] apart before after = tt
  tables-unnamed (i ∷ infos) apart before after = (table-unnamed i apart.0 before.0 after.0, tables-unnamed infos apart.1 before.1 after.1)

  pub unnamed-if-whole : first_reference s d m id ≡ None
  unnamed-if-whole =
      none-given (λ (info : ModelInfo). first_given (reference_from m id info) (records_of d info.number)) s.models (tables-unnamed s.models fields is.tables left.tables)
