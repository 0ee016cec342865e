-- A run keeps a database.
use Rattle.std.proofs.Common.{◌≡◌, ℕ, zero, suc, ◌+◌, ◌-◌, ◌<◌, ◌≤◌, Bool, true, false, not, ◌||◌, IsTrue, List, [], ◌∷◌, ◌++◌, refl, ap, sym, ◌∙◌, subst, arith, cond, map, inl, inr}
use Rattle.std.specs.Prelude.{Option, Some, None, filter, ◌==◌, nat_eq, is_some, slice_get, if◌then◌else◌, option_and_then}
use Rattle.std.specs.List.{list_any, AllByRecursion, IsDistinct}
use Rattle.std.specs.List.Sorted.{IsStrictlyIncreasing}
use Rattle.std.specs.Option.{option_map, option_map_or}
use Rattle.std.proofs.lemmas.Bool.{eqb-true, eq-eqb, false_from_ne_true}
use Rattle.std.proofs.lemmas.List.Kept.{IsStrictlyIncreasing-filter}
use Rattle.std.proofs.lemmas.Option.{slice_get_cases, slice_get_within}
use Rattle.type_schema.specs.declared.types.TTy.{TTy}
use Rattle.type_schema.specs.declared.types.TBase.TheVariants as base
use Rattle.type_schema.specs.declared.types.TTy.TheVariants.{Plain, Set}
use Rattle.type_schema.specs.Trees.{Policy, Init, plain, of_set}
use Rattle.type_schema.specs.Schema.{FieldInfo, ModelInfo, Schema, model_of, field_in}
use Rattle.type_schema.specs.Typing.{HasModel, IsType, IsField, IsModel, IsInit}
use Rattle.type_schema.specs.Commands.{Command, create_model, delete_model, add_static, remove_static, add_principal, add_field, remove_field, update_field, weaken_field, update_model, weaken_model, change_model, change_field, with_field, without_field, with_field_policies, with_model_policies, given_or, schema_after, HasField, IsCommand}
use Rattle.type_schema.specs.Proper.{IsProper}
use Rattle.type_schema.specs.Script.{Script, schema_at, command_at, count, closed_field, closed_model, created_by, created, start_of, IsScript}
use Rattle.data_meaning.specs.declared.principals.Principal.TheVariants.{Rec}
use Rattle.data_meaning.specs.Values.{Value, Id, Ids, IsId, IsValueOf, last_id, ids_in}
use Rattle.data_meaning.specs.Database.{Slot, Record, Table, Database, table_of, records_of, ids_of, has_record, AreThere, IsIntact, AreSlots, IsRecordIn, IsTableOf, HasTable, IsDatabase}
use Rattle.data_meaning.specs.Meaning.{member}
use Rattle.data_meaning.specs.Run.{init_value, change_slots, after_command, after_if_any, run_to}
use Rattle.data_meaning.specs.Gain.{IsStart}
use Rattle.data_meaning.specs.Runs.{RunsKeepDatabases}
use Rattle.data_meaning.specs.Sound.{IsHeld}
use Rattle.data_meaning.proofs.Carried.{all-of, all-both, all-front, all-behind, all-append, all-filtered, all-passed, distinct-filtered, names, named-there, Stays, AllStay, all-stay, intact-carried, slots-carried, table-carried, shape, table-shaped, slots-push, slots-without, table-changed}
use Rattle.data_meaning.proofs.Changes.{ids-changed, new_table, table-found, without_table, table-kept}
use Rattle.data_meaning.proofs.Finds.{find-holds, find-among, find-none}
use Rattle.data_meaning.proofs.Kept.{model-kept, model-below}
use Rattle.data_meaning.proofs.Members.{all-there, id-held}
use Rattle.data_meaning.proofs.Soundness.{held}
use Rattle.data_meaning.proofs.Tests.{not-true}

-- ---- models of a schema

-- the model is there by its look-up
found-there : (s : Schema) (m : ℕ) → HasModel s m → (i : ModelInfo) × (model_of s m ≡ Some i) × (i.number ≡ m)
found-there s m has =
    elim (model_of s m) as (λ (o : Option ModelInfo). model_of s m ≡ o → is_some o ≡ true → (i : ModelInfo) × (model_of s m ≡ Some i) × (i.number ≡ m)) [
      | None ↦ λ here e. cc
      | Some i ↦ λ here e. (i, here, eqb-true _ _ (find-holds (λ (u : ModelInfo). u.number == m) s.models i here))
    ] refl has

pub early : (s : Schema) (m : ℕ) → IsProper s → HasModel s m → m < s.next_model
early s m proper has =
    let i = found-there s m has in model-below s m i.0 proper i.1

-- what is there after a command, and is old, was there before
has-before : (s : Schema) (c : Command) (m : ℕ) → IsCommand s c → m < s.next_model → HasModel (schema_after s c) m → HasModel s m
has-before s c m is old has =
    let i = found-there (schema_after s c) m has in
    let number : option_map (λ (u : ModelInfo). u.number) (model_of (schema_after s c) m) ≡ Some m = ap (option_map (λ (u : ModelInfo). u.number)) i.1 ∙ ap (λ n. Some n) i.2 in
    let was = model-kept (λ (u : ModelInfo). u.number) m s c is m old (λ u. refl) (λ u fields. refl) (λ create delete e u. refl) (λ create delete reason e u. refl) number in
    elim (model_of s m) as (λ (o : Option ModelInfo). option_map (λ (u : ModelInfo). u.number) o ≡ Some m → is_some o ≡ true) [
      | None ↦ λ e. cc
      | Some u ↦ λ e. refl
    ] was

-- ---- models that a command changes

module _ (P Q R : ModelInfo → Type 0) (m : ℕ) (change : ModelInfo → ModelInfo) (at : (i : ModelInfo) → i.number ≡ m → P i → R (change i) → Q (change i))
    (other : (i : ModelInfo) → (i.number ≡ m → ⊥) → P i → Q i) where
  all-changed : (models : List ModelInfo) → AllByRecursion P models → AllByRecursion R (change_model m change models) → AllByRecursion Q (change_model m change models)
  all-changed [] all typed = tt
  all-changed (i ∷ models) all typed = (
    elim (i.number == m) as (λ (b : Bool). (i.number == m) ≡ b → R (if b then change i else i) → Q (if b then change i else i)) [
      | true ↦ λ same. at i (eqb-true _ _ same) all.0
      | false ↦ λ differs r. other i (λ same. let never : true ≡ false = sym (eq-eqb i.number m same) ∙ differs in cc) all.0
    ] refl typed.0,
    all-changed models all.1 typed.1,
  )

change-shapes : (f : ℕ) (change : FieldInfo → FieldInfo) → ((g : FieldInfo) → shape (change g) ≡ shape g) → (fields : List FieldInfo) → map shape (change_field f change fields) ≡ map shape fields
change-shapes f change keeps [] = refl
change-shapes f change keeps (g ∷ fields) =
    ap (λ p. p ∷ map shape (change_field f change fields))
    (elim (g.number == f) as (λ (b : Bool). shape (if b then change g else g) ≡ shape g) [ true ↦ keeps g | false ↦ refl ])
    ∙ ap (λ ps. shape g ∷ ps) (change-shapes f change keeps fields)

-- ---- what an initialiser gives

module _ (s : Schema) (d : Database) (is : IsDatabase s d) where
  given-ids : (i : ModelInfo) (next : ℕ) → next ≤ last_id + 1 → (rs : List Record) → AllByRecursion (IsRecordIn d i next) rs → AllByRecursion IsId (map (λ (r : Record). r.id) rs)
  given-ids i next last [] all = tt
  given-ids i next last (r ∷ rs) all = (
    (all.0.first, (let given : r.id < next = all.0.given in omega (arith, given, last))),
    given-ids i next last rs all.1,
  )

  ids-are : (n : ℕ) → HasModel s n → IsStrictlyIncreasing (ids_of d n) × AllByRecursion IsId (ids_of d n)
  ids-are n has =
      let i = found-there s n has in
      let table = find-among (HasTable d) (λ (u : ModelInfo). u.number == n) s.models i.0 is.tables i.1 in
      let at : table_of d n ≡ Some table.0 = ap (table_of d) (sym i.2) ∙ table.1 in
      let same : ids_of d n ≡ map (λ (r : Record). r.id) table.0.records = ap (λ o. map (λ (r : Record). r.id) (option_map_or (λ (u : Table). u.records) o [])) at in
      (subst IsStrictlyIncreasing (sym same) table.2.rising, subst (AllByRecursion IsId) (sym same) (given-ids i.0 table.0.next table.2.last table.0.records table.2.records))

  init-held : (m id : ℕ) → HasModel s m → has_record d m id ≡ true → (ty : TTy) (init : Init) → ((n : ℕ) → ty ≡ Set n → HasModel s n) → IsInit s m ty init
      → IsHeld d ty (init_value d init id)
  init-held m id has there ty (plain e) model typed =
      held s d is e (Plain (base.Id m) ∷ []) (Id id ∷ []) (id-held s d is m id has there, tt) ty typed.1
  init-held m id has there ty (of_set n set) model typed =
      let inside : ℕ → Bool = λ y. member d (Id id ∷ []) set (Rec n y) in
      let ids = ids-are n (model n typed.0) in
      let found = filter inside (ids_of d n) in
      let value : IsValueOf (Set n) (Ids found) = (found, refl, IsStrictlyIncreasing-filter inside (ids_of d n) ids.0, all-filtered IsId inside (ids_of d n) ids.1) in
      let intact : AreThere d n found = all-filtered (λ i. IsTrue (has_record d n i)) inside (ids_of d n) (all-there d n (ids_of d n) (λ i h. h)) in
      subst (λ (k : TTy). IsHeld d k (Ids found)) (sym typed.0) (value, intact)

-- ---- a change of the records of a model

module _ (m : ℕ) (change : Record → List Slot) (d : Database) where
  abbrev changed : Database
  changed = change_slots m change d

  same-models : (ts : Database) → map (λ (t : Table). t.model) (change_slots m change ts) ≡ map (λ (t : Table). t.model) ts
  same-models [] = refl
  same-models (t ∷ ts) =
      ap (λ k. k ∷ map (λ (u : Table). u.model) (change_slots m change ts))
      (elim (t.model == m) as (λ (b : Bool).
      (let u : Table = if b then record t { records = map (λ (r : Record). record r { slots = change r }) t.records } else t in u.model) ≡ t.model) [ true ↦ refl | false ↦ refl ])
      ∙ ap (λ ks. t.model ∷ ks) (same-models ts)

  same-there : (n : ℕ) → Stays d changed n
  same-there n id h = ap (λ ids. list_any (λ i. i == id) ids) (ids-changed m change d n) ∙ h

  table-model : (n : ℕ) (t : Table) → table_of d n ≡ Some t → t.model ≡ n
  table-model n t here = eqb-true _ _ (find-holds (λ (u : Table). u.model == n) d t here)

  other-table : (i : ModelInfo) → (i.number ≡ m → ⊥) → HasTable d i → HasTable changed i
  other-table i other has =
      table-carried d changed i
      (λ t here.
      let differs : (t.model == m) ≡ false = false_from_ne_true _ (λ h. other (sym (table-model i.number t here) ∙ eqb-true _ _ h)) in
      table-found m change d i.number t here
      ∙ ap (λ b. Some (if b then record t { records = map (λ (r : Record). record r { slots = change r }) t.records } else t)) differs)
      (all-stay d changed same-there i.fields) has

  all-mapped : {A B : Type 0} (P : B → Type 0) (g : A → B) (xs : List A) → AllByRecursion P (map g xs) → AllByRecursion (λ x. P (g x)) xs
  all-mapped P g [] all = tt
  all-mapped P g (x ∷ xs) all = (all.0, all-mapped P g xs all.1)

  own-table : (i j : ModelInfo) → i.number ≡ m → j.number ≡ i.number → ((r : Record) → has_record d m r.id ≡ true → AreSlots d i.fields r.slots → AreSlots changed j.fields (change r))
      → HasTable d i → HasTable changed j
  own-table i j number same each has =
      let t = has.0 in
      let u : Table = record t { records = map (λ (r : Record). record r { slots = change r }) t.records } in
      let model : t.model ≡ m = table-model i.number t has.1 ∙ number in
      let here : table_of d m ≡ Some t = ap (table_of d) (sym number) ∙ has.1 in
      let ids : ids_of d m ≡ map (λ (r : Record). r.id) t.records = ap (λ o. map (λ (r : Record). r.id) (option_map_or (λ (w : Table). w.records) o [])) here in
      let there : AreThere d m (map (λ (r : Record). r.id) t.records) = subst (AreThere d m) ids (all-there d m (ids_of d m) (λ id h. h)) in
      let rows = all-of (λ (r : Record). IsTrue (has_record d m r.id)) (λ (r : Record). AreSlots d i.fields r.slots → AreSlots changed j.fields (change r)) (λ r h. each r h) t.records
      (all-mapped (λ id. IsTrue (has_record d m id)) (λ (r : Record). r.id) t.records there) in (
        u,
        ap (table_of changed) same ∙ table-found m change d i.number t has.1 ∙ ap (λ b. Some (if b then u else t)) (eq-eqb t.model m model),
        table-changed d changed i j t change rows has.2,
      )

-- ---- one command

-- a database over the schema, with a table for each model that is to come
record Holds (s : Schema) (Coming : ModelInfo → Type 0) (d : Database) : Type 0 where
  apart : IsDistinct nat_eq (map (λ (t : Table). t.model) d)
  tables : AllByRecursion (HasTable d) s.models
  coming : (i : ModelInfo) → Coming i → HasTable d i

field-model : (s : Schema) (m f : ℕ) → HasField s m f → HasModel s m
field-model s m f has =
    elim (model_of s m) as (λ (o : Option ModelInfo). is_some (option_and_then (λ (i : ModelInfo). field_in i.fields f) o) ≡ true → is_some o ≡ true) [
      | None ↦ λ e. cc
      | Some i ↦ λ e. refl
    ] has

module _ (s : Schema) (d : Database) (Coming Next : ModelInfo → Type 0) (now : Holds s Coming d) (next : (i : ModelInfo) → Next i → Coming i) where
  over : IsDatabase s d
  over = record { apart = now.apart; tables = now.tables }

  -- the database stays, and so do numbers and types
  reshaped : (c : Command) (m : ℕ) (change : ModelInfo → ModelInfo) → IsProper (schema_after s c) → (schema_after s c).models ≡ change_model m change s.models
      → ((i : ModelInfo) → i.number ≡ (change i).number) → ((i : ModelInfo) → map shape i.fields ≡ map shape (change i).fields) → Holds (schema_after s c) Next d
  reshaped c m change proper models number shapes = record {
    apart = now.apart;
    tables = subst (AllByRecursion (HasTable d)) (sym models)
        (all-changed (HasTable d) (HasTable d) (IsModel (schema_after s c)) m change (λ i is has typed. table-shaped d i (change i) (number i) (shapes i) has)
        (λ i other has. has) s.models now.tables (subst (AllByRecursion (IsModel (schema_after s c))) models proper.typed));
    coming = λ i n. now.coming i (next i n);
  }

  created-model : (info : ModelInfo) → Coming info → Holds (schema_after s (create_model info)) Next d
  created-model info made = record {
    apart = now.apart;
    tables = all-append (HasTable d) s.models (info ∷ []) now.tables (now.coming info made, tt);
    coming = λ i n. now.coming i (next i n);
  }

  module _ (proper : IsProper s) where
    deleted : (m : ℕ) → HasModel s m → IsProper (schema_after s (delete_model m)) → ((i : ModelInfo) → Next i → s.next_model ≤ i.number)
        → ((i : ModelInfo) → Next i → AllByRecursion (λ (f : FieldInfo). names f.ty m → ⊥) i.fields) → Holds (schema_after s (delete_model m)) Next (without_table m d)
    deleted m has after new unnamed = record {
      apart = distinct-filtered (λ (t : Table). t.model) (λ (t : Table). not (t.model == m)) d now.apart;
      tables =
          all-both (λ (i : ModelInfo). HasTable d i × IsModel (schema_after s (delete_model m)) i) (λ (i : ModelInfo). not (i.number == m) ≡ true) (HasTable (without_table m d))
          (λ i both passes.
          kept i (λ same. let never : true ≡ false = sym (eq-eqb i.number m same) ∙ not-true _ passes in cc)
          (all-of (IsField (schema_after s (delete_model m)) i.number) (λ (f : FieldInfo). names f.ty m → ⊥)
          (λ f field named. gone (named-there (schema_after s (delete_model m)) f.ty m field.ty named)) i.fields both.1.fields) both.0)
          (filter (λ (i : ModelInfo). not (i.number == m)) s.models)
          (all-both (HasTable d) (IsModel (schema_after s (delete_model m))) (λ (i : ModelInfo). HasTable d i × IsModel (schema_after s (delete_model m)) i) (λ i h k. (h, k))
          (filter (λ (i : ModelInfo). not (i.number == m)) s.models) (all-filtered (HasTable d) (λ (i : ModelInfo). not (i.number == m)) s.models now.tables) after.typed)
          (all-passed (λ (i : ModelInfo). not (i.number == m)) s.models);
      coming = λ i n.
          let old : m < s.next_model = early s m proper has in
          let late : s.next_model ≤ i.number = new i n in
          kept i (λ same. absurd (omega (arith, same, old, late))) (unnamed i n) (now.coming i (next i n));
    }
      where
        gone : HasModel (schema_after s (delete_model m)) m → ⊥
        gone there =
            let none = find-none (λ (i : ModelInfo). i.number == m) (λ (i : ModelInfo). not (i.number == m)) s.models (λ i is. ap not is) in
            let never : true ≡ false = sym there ∙ ap is_some none in
            cc

        stays : (n : ℕ) → (n ≡ m → ⊥) → Stays d (without_table m d) n
        stays n other id h = ap (λ o. list_any (λ i. i == id) (map (λ (r : Record). r.id) (option_map_or (λ (t : Table). t.records) o []))) (table-kept d m n other) ∙ h

        all-others : (fields : List FieldInfo) → AllByRecursion (λ (f : FieldInfo). names f.ty m → ⊥) fields → AllStay d (without_table m d) fields
        all-others fields unnamed =
            all-of (λ (f : FieldInfo). names f.ty m → ⊥) (λ (f : FieldInfo). (n : ℕ) → names f.ty n → Stays d (without_table m d) n)
            (λ f never n named. stays n (λ same. never (subst (names f.ty) same named))) fields unnamed

        kept : (i : ModelInfo) → (i.number ≡ m → ⊥) → AllByRecursion (λ (f : FieldInfo). names f.ty m → ⊥) i.fields → HasTable d i → HasTable (without_table m d) i
        kept i other unnamed has =
            table-carried d (without_table m d) i (λ t here. table-kept d m i.number other ∙ here) (all-others i.fields unnamed) has

    late : (m : ℕ) → HasModel s m → (i : ModelInfo) → s.next_model ≤ i.number → i.number ≡ m → ⊥
    late m has i new same = let old : m < s.next_model = early s m proper has in absurd (omega (arith, same, old, new))

    field-added : (m : ℕ) (f : FieldInfo) (init : Init) → IsCommand s (add_field m f init) → IsProper (schema_after s (add_field m f init))
        → ((i : ModelInfo) → Next i → s.next_model ≤ i.number) → Holds (schema_after s (add_field m f init)) Next (after_command (add_field m f init) d)
    field-added m f init is after new = record {
      apart = subst (IsDistinct nat_eq) (sym (same-models m change d d)) now.apart;
      tables = all-changed (HasTable d) (HasTable e) (IsModel (schema_after s (add_field m f init))) m (with_field f)
          (λ i number has typed. own-table m change d i (with_field f i) number refl
          (λ r there slots. pushed i r there (all-behind (IsField (schema_after s (add_field m f init)) i.number) i.fields (f ∷ []) typed.fields).0.ty slots) has)
          (λ i other has. other-table m change d i other has) s.models now.tables after.typed;
      coming = λ i n. other-table m change d i (late m is.0 i (new i n)) (now.coming i (next i n));
    }
      where
        change : Record → List Slot
        change r = r.slots ++ (record { field = f.number; value = init_value d init r.id }) ∷ []

        e : Database
        e = change_slots m change d

        set-there : IsType (schema_after s (add_field m f init)) f.ty → (n : ℕ) → f.ty ≡ Set n → HasModel s n
        set-there type n same =
            let has : HasModel (schema_after s (add_field m f init)) n = subst (IsType (schema_after s (add_field m f init))) same type in
            has-before s (add_field m f init) n is (early (schema_after s (add_field m f init)) n after has) has

        pushed : (i : ModelInfo) (r : Record) → has_record d m r.id ≡ true → IsType (schema_after s (add_field m f init)) f.ty → AreSlots d i.fields r.slots
            → AreSlots e (i.fields ++ f ∷ []) (change r)
        pushed i r there type slots =
            let one = init-held s d over m r.id is.0 there f.ty init (set-there type) is.2 in
            slots-push e i.fields r.slots f (record { field = f.number; value = init_value d init r.id })
            (slots-carried d e i.fields r.slots (all-stay d e (same-there m change d) i.fields) slots)
            (refl, one.0, intact-carried d e f.ty (init_value d init r.id) (λ n named. same-there m change d n) one.1)

    field-removed : (m f : ℕ) → HasModel s m → IsProper (schema_after s (remove_field m f)) → ((i : ModelInfo) → Next i → s.next_model ≤ i.number)
        → Holds (schema_after s (remove_field m f)) Next (after_command (remove_field m f) d)
    field-removed m f has after new = record {
      apart = subst (IsDistinct nat_eq) (sym (same-models m change d d)) now.apart;
      tables = all-changed (HasTable d) (HasTable e) (IsModel (schema_after s (remove_field m f))) m (without_field f)
          (λ i number table typed. own-table m change d i (without_field f i) number refl
          (λ r there slots. slots-without e f i.fields r.slots (slots-carried d e i.fields r.slots (all-stay d e (same-there m change d) i.fields) slots)) table)
          (λ i other table. other-table m change d i other table) s.models now.tables after.typed;
      coming = λ i n. other-table m change d i (late m has i (new i n)) (now.coming i (next i n));
    }
      where
        change : Record → List Slot
        change r = filter (λ (slot : Slot). not (slot.field == f)) r.slots

        e : Database
        e = change_slots m change d

    step : (c : Command) → IsCommand s c → IsProper (schema_after s c) → ((i : ModelInfo) → c ≡ create_model i → Coming i) → ((i : ModelInfo) → Next i → (schema_after s c).next_model ≤ i.number)
        → ((m : ℕ) → c ≡ delete_model m → (i : ModelInfo) → Next i → AllByRecursion (λ (f : FieldInfo). names f.ty m → ⊥) i.fields)
        → Holds (schema_after s c) Next (after_command c d)
    step (create_model info) is after made new unnamed = created-model info (made info refl)
    step (delete_model m) is after made new unnamed = deleted m is after new (unnamed m refl)
    step (add_static info) is after made new unnamed = record { apart = now.apart; tables = now.tables; coming = λ i n. now.coming i (next i n) }
    step (remove_static n) is after made new unnamed = record { apart = now.apart; tables = now.tables; coming = λ i n. now.coming i (next i n) }
    step (add_principal m) is after made new unnamed =
        reshaped (add_principal m) m (λ (i : ModelInfo). record i { principal = true }) after refl (λ i. refl) (λ i. refl)
    step (add_field m f init) is after made new unnamed = field-added m f init is after new
    step (remove_field m f) is after made new unnamed = field-removed m f (field-model s m f is) after new
    step (update_field m f read write) is after made new unnamed =
        reshaped (update_field m f read write) m (with_field_policies f read write) after refl (λ i. refl)
        (λ i. sym (change-shapes f (λ (g : FieldInfo). record g { read = given_or read g.read; write = given_or write g.write }) (λ g. refl) i.fields))
    step (weaken_field m f read write reason) is after made new unnamed =
        reshaped (weaken_field m f read write reason) m (with_field_policies f read write) after refl (λ i. refl)
        (λ i. sym (change-shapes f (λ (g : FieldInfo). record g { read = given_or read g.read; write = given_or write g.write }) (λ g. refl) i.fields))
    step (update_model m create delete) is after made new unnamed =
        reshaped (update_model m create delete) m (with_model_policies create delete) after refl (λ i. refl) (λ i. refl)
    step (weaken_model m create delete reason) is after made new unnamed =
        reshaped (weaken_model m create delete reason) m (with_model_policies create delete) after refl (λ i. refl) (λ i. refl)

-- ---- numbers of models

pub next-after : (s : Schema) (c : Command) → s.next_model ≤ (schema_after s c).next_model
next-after s (create_model info) = omega arith
next-after s (delete_model n) = omega arith
next-after s (add_static info) = omega arith
next-after s (remove_static n) = omega arith
next-after s (add_principal n) = omega arith
next-after s (add_field n f init) = omega arith
next-after s (remove_field n f) = omega arith
next-after s (update_field n f read write) = omega arith
next-after s (weaken_field n f read write reason) = omega arith
next-after s (update_model n create delete) = omega arith
next-after s (weaken_model n create delete reason) = omega arith

-- ---- the run

module _ (t : Script) (is : IsScript t) where
  pub command-there : (k : ℕ) → k < count t → (c : Command) × (command_at t k ≡ Some c)
  command-there k below =
      elim (slice_get_cases t.commands k).1 [
        | inl found ↦ (found.0, found.2)
        | inr past ↦ absurd (omega (arith, past.0, below))
      ]

  next-rises : (j n : ℕ) → j + n ≤ count t → (schema_at t j).next_model ≤ (schema_at t (j + n)).next_model
  next-rises j zero within = let same : j + 0 ≡ j = omega arith in subst (λ (k : ℕ). (schema_at t j).next_model ≤ (schema_at t k).next_model) (sym same) (omega arith)
  next-rises j (suc n) within =
      let step : j + suc n ≡ suc (j + n) = omega arith in
      let below : j + n < count t = omega (arith, within) in
      let c = command-there (j + n) below in
      let before = next-rises j n (omega (arith, within)) in
      let after = next-after (schema_at t (j + n)) c.0 in
      let up : (schema_at t j).next_model ≤ (schema_after (schema_at t (j + n)) c.0).next_model = omega (arith, before, after) in
      subst (λ (k : ℕ). (schema_at t j).next_model ≤ (schema_at t k).next_model) (sym step)
      (subst (λ (s : Schema). (schema_at t j).next_model ≤ s.next_model) (sym (is.steps (j + n) c.0 c.1)) up)

  pub rises-to : (j k : ℕ) → j ≤ k → k ≤ count t → (schema_at t j).next_model ≤ (schema_at t k).next_model
  rises-to j k up within =
      let same : j + (k - j) ≡ k = omega (arith, up) in
      subst (λ (i : ℕ). (schema_at t j).next_model ≤ (schema_at t i).next_model) same (next-rises j (k - j) (omega (arith, up, within)))

  -- an old model that is there later was there
  was-there : (j n m : ℕ) → j + n ≤ count t → m < (schema_at t j).next_model → HasModel (schema_at t (j + n)) m → HasModel (schema_at t j) m
  was-there j zero m within old has = let same : j + 0 ≡ j = omega arith in subst (λ (k : ℕ). HasModel (schema_at t k) m) same has
  was-there j (suc n) m within old has =
      let step : j + suc n ≡ suc (j + n) = omega arith in
      let below : j + n < count t = omega (arith, within) in
      let c = command-there (j + n) below in
      let rises = next-rises j n (omega (arith, within)) in
      let after : HasModel (schema_after (schema_at t (j + n)) c.0) m
      = subst (λ (s : Schema). HasModel s m) (is.steps (j + n) c.0 c.1) (subst (λ (k : ℕ). HasModel (schema_at t k) m) step has) in
      was-there j n m (omega (arith, within)) old (has-before (schema_at t (j + n)) c.0 m (is.commands (j + n) c.0 c.1) (omega (arith, old, rises)) after)

  -- a command from the k-th on creates the model
  abbrev Comes : ℕ → ModelInfo → Type 0
  Comes k i = (j : ℕ) × (k ≤ j) × (command_at t j ≡ Some (create_model i))

  new-number : (k : ℕ) (i : ModelInfo) → Comes k i → (schema_at t k).next_model ≤ i.number
  new-number k i comes =
      let below : comes.0 < count t = slice_get_within t.commands comes.0 (create_model i) comes.2 in
      let number : i.number ≡ (schema_at t comes.0).next_model = (is.commands comes.0 (create_model i) comes.2).0 in
      let rises = rises-to k comes.0 comes.1 (omega (arith, below)) in
      omega (arith, number, rises)

  -- its fields name no model that was gone by then
  unnamed-later : (k m : ℕ) → m < (schema_at t k).next_model → (HasModel (schema_at t k) m → ⊥) → (i : ModelInfo) → Comes k i → AllByRecursion (λ (f : FieldInfo). names f.ty m → ⊥) i.fields
  unnamed-later k m old gone i comes =
      let j = comes.0 in
      let below : j < count t = slice_get_within t.commands j (create_model i) comes.2 in
      let after = subst IsProper (is.steps j (create_model i) comes.2) (is.proper (suc j) (omega (arith, below))) in
      let model = (all-behind (IsModel (schema_after (schema_at t j) (create_model i))) (schema_at t j).models (i ∷ []) after.typed).0 in
      let same : k + (suc j - k) ≡ suc j = omega (arith, comes.1) in
      all-of (IsField (schema_after (schema_at t j) (create_model i)) i.number) (λ (f : FieldInfo). names f.ty m → ⊥)
      (λ f field named.
      let has : HasModel (schema_at t (suc j)) m
      = subst (λ (s : Schema). HasModel s m) (sym (is.steps j (create_model i) comes.2)) (named-there (schema_after (schema_at t j) (create_model i)) f.ty m field.ty named) in
      gone (was-there k (suc j - k) m (omega (arith, comes.1, below)) old (subst (λ (n : ℕ). HasModel (schema_at t n) m) (sym same) has))) i.fields model.fields

  module _ (d : Database) (start : IsStart t d) where
    -- the tables of models that are created
    created-table : (commands : List Command) (j : ℕ) (i : ModelInfo) → slice_get commands j ≡ Some (create_model i) → AllByRecursion (HasTable d) (created commands) → HasTable d (closed_model i)
    created-table [] j i e all = cc
    created-table (c ∷ commands) zero i e all =
        let same : c ≡ create_model i = cc in
        (subst (λ (x : Command). AllByRecursion (HasTable d) (created_by x ++ created commands)) same all).0
    created-table (c ∷ commands) (suc j) i e all = created-table commands j i e (all-behind (HasTable d) (created_by c) (created commands) all)

    closed-shapes : (fields : List FieldInfo) → map shape (map closed_field fields) ≡ map shape fields
    closed-shapes [] = refl
    closed-shapes (f ∷ fields) = ap (λ ps. shape f ∷ ps) (closed-shapes fields)

    holds : (k : ℕ) → k ≤ count t → Holds (schema_at t k) (Comes k) (run_to t k d)
    holds zero within =
        let first = subst (λ (s : Schema). IsDatabase s d) is.start start.over in
        record {
          apart = first.apart;
          tables = all-front (HasTable d) (schema_at t 0).models (created t.commands) first.tables;
          coming = λ i comes.
              table-shaped d (closed_model i) i refl (closed-shapes i.fields)
              (created-table t.commands comes.0 i comes.2 (all-behind (HasTable d) (schema_at t 0).models (created t.commands) first.tables));
        }
    holds (suc k) within =
        let below : k < count t = omega (arith, within) in
        let c = command-there k below in
        let s = schema_at t k in
        let steps : schema_at t (suc k) ≡ schema_after s c.0 = is.steps k c.0 c.1 in
        let proper = is.proper k (omega (arith, within)) in
        let after : IsProper (schema_after s c.0) = subst IsProper steps (is.proper (suc k) within) in
        let before = holds k (omega (arith, within)) in
        let run : run_to t (suc k) d ≡ after_command c.0 (run_to t k d) = ap (λ o. after_if_any o (run_to t k d)) c.1 in
        let stepped = step s (run_to t k d) (Comes k) (Comes (suc k)) before (λ i comes. (comes.0, omega (arith, comes.1), comes.2)) proper c.0 (is.commands k c.0 c.1) after
        (λ i made. (k, omega arith, c.1 ∙ ap (λ (x : Command). Some x) made))
        (λ i comes. subst (λ (u : Schema). u.next_model ≤ i.number) steps (new-number (suc k) i comes))
        (λ m deletes i comes. unnamed-later (suc k) m (gone-old k m below (c.1 ∙ ap (λ (x : Command). Some x) deletes)) (gone k m below (c.1 ∙ ap (λ (x : Command). Some x) deletes)) i comes) in
        subst (λ (u : Database). Holds (schema_at t (suc k)) (Comes (suc k)) u) (sym run)
        (subst (λ (u : Schema). Holds u (Comes (suc k)) (after_command c.0 (run_to t k d))) (sym steps) stepped)
      where
        gone-old : (k m : ℕ) → k < count t → command_at t k ≡ Some (delete_model m) → m < (schema_at t (suc k)).next_model
        gone-old k m below here =
            let old = early (schema_at t k) m (is.proper k (omega (arith, below))) (is.commands k (delete_model m) here) in
            subst (λ (s : Schema). m < s.next_model) (sym (is.steps k (delete_model m) here)) old

        gone : (k m : ℕ) → k < count t → command_at t k ≡ Some (delete_model m) → HasModel (schema_at t (suc k)) m → ⊥
        gone k m below here there =
            let none = find-none (λ (i : ModelInfo). i.number == m) (λ (i : ModelInfo). not (i.number == m)) (schema_at t k).models (λ i is. ap not is) in
            let has : HasModel (schema_after (schema_at t k) (delete_model m)) m = subst (λ (s : Schema). HasModel s m) (is.steps k (delete_model m) here) there in
            let never : true ≡ false = sym has ∙ ap is_some none in
            cc

pub keeps : RunsKeepDatabases
keeps t is d start k within = let h = holds t is d start k within in record { apart = h.apart; tables = h.tables }
