-- A database numbered anew is over the schema numbered anew.
use Rattle.std.proofs.Common.{◌≡◌, ◌==◌, ℕ, ◌+◌, ◌<◌, ◌≤◌, Bool, true, false, cond, List, [], ◌∷◌, refl, ap, sym, ◌∙◌, subst, arith, length, map}
use Rattle.std.specs.Prelude.{Some, IsTrue, is_some, nat_eq}
use Rattle.std.proofs.Math.Logic.{inl, inr, ⊎_elim}
use Rattle.std.specs.List.{AllByRecursion, IsDistinct}
use Rattle.std.specs.List.Sorted.{IsStrictlyIncreasing}
use Rattle.std.specs.Option.{option_map}
use Rattle.std.proofs.lemmas.Bool.{eqb-true, eq-eqb}
use Rattle.type_schema.specs.declared.types.TBase.{TBase}
use Rattle.type_schema.specs.declared.types.TBase.TheVariants as base
use Rattle.type_schema.specs.declared.types.TTy.{TTy}
use Rattle.type_schema.specs.declared.types.TTy.TheVariants.{Plain, Set, Opt}
use Rattle.type_schema.specs.Schema.{FieldInfo, ModelInfo, Schema, model_in}
use Rattle.type_schema.specs.Typing.{HasModel, IsBase, IsField, IsModel, IsType}
use Rattle.type_schema.specs.Proper.{AreProperFields, model_numbers}
use Rattle.data_meaning.specs.Values.{Value, IsBaseValueOf, IsValueOf, ids_in}
use Rattle.data_meaning.specs.Database.{Slot, Record, Table, Database, table_of, has_record, AreThere, IsBaseIntact, IsIntact, AreSlots, IsRecordIn, IsTableOf, HasTable}
use Rattle.data_meaning.proofs.Finds.{find-holds}
use Rattle.data_records.specs.Renumbered.{new_field, new_model, numbered_by, record_numbered_by, renumbered, renumbered_table}
use Rattle.type_anew.specs.RenumberedAnew.{renumbered_base, renumbered_type, AreFieldsAnew, AreModelsAnew, IsAnew}
use Rattle.type_anew.specs.RenumberedLaws.{DatabasesMove}
use Rattle.type_anew.proofs.Places.{all-there, all-weaken, GetNumbers, models-get, ModelsGet, place-below, same-model}
use Rattle.type_anew.proofs.Lookup.{field-moved, has-moved, ids-same, table-moved}

-- ---- values

base-moved : (models : List ModelInfo) (b : TBase) (v : Value) → IsBaseValueOf b v → IsBaseValueOf (renumbered_base models b) v
base-moved models base.Bool v is = is
base-moved models base.Int v is = is
base-moved models base.Text v is = is
base-moved models (base.Id m) v is = is

value-moved : (models : List ModelInfo) (t : TTy) (v : Value) → IsValueOf t v → IsValueOf (renumbered_type models t) v
value-moved models (Plain b) v is = base-moved models b v is
value-moved models (Set m) v is = is
value-moved models (Opt b) v is = ⊎_elim (λ none. inl none) (λ some. inr (some.0, some.1, base-moved models b some.0 some.2)) is

module _ (s : Schema) (d : Database) where
  there-moved : (m : ℕ) (ids : List ℕ) → HasModel s m → AreThere d m ids → AreThere (renumbered s d) (new_model s.models m) ids
  there-moved m ids has all =
      all-weaken (λ id. IsTrue (has_record d m id)) (λ id. IsTrue (has_record (renumbered s d) (new_model s.models m) id)) (λ id h. has-moved s d m id has ∙ h) ids all

  base-intact : (b : TBase) (ids : List ℕ) → IsBase s b → IsBaseIntact d b ids → IsBaseIntact (renumbered s d) (renumbered_base s.models b) ids
  base-intact base.Bool ids is all = tt
  base-intact base.Int ids is all = tt
  base-intact base.Text ids is all = tt
  base-intact (base.Id m) ids is all = there-moved m ids is all

  intact-moved : (t : TTy) (v : Value) → IsType s t → IsIntact d t v → IsIntact (renumbered s d) (renumbered_type s.models t) v
  intact-moved (Plain b) v is all = base-intact b (ids_in v) is all
  intact-moved (Set m) v is all = there-moved m (ids_in v) is all
  intact-moved (Opt b) v is all = base-intact b (ids_in v) is all

  -- ---- records and tables

  slots-moved : (number : ℕ → ℕ) (k : ℕ) (fields anew : List FieldInfo) (slots : List Slot) → GetNumbers number k fields → AllByRecursion (λ (f : FieldInfo). IsType s f.ty) fields
      → AreFieldsAnew s.models k fields anew → AreSlots d fields slots → AreSlots (renumbered s d) anew (map (numbered_by number) slots)
  slots-moved number k [] [] [] get types is all = tt
  slots-moved number k [] [] (slot ∷ slots) get types is all = absurd all
  slots-moved number k [] (g ∷ anew) slots get types is all = absurd is
  slots-moved number k (f ∷ fields) [] slots get types is all = absurd is
  slots-moved number k (f ∷ fields) (g ∷ anew) [] get types is all = absurd all
  slots-moved number k (f ∷ fields) (g ∷ anew) (slot ∷ slots) get types is all =
      let value = value-moved s.models f.ty slot.value all.0.1 in
      let intact = intact-moved f.ty slot.value types.0 all.0.2 in
      let ty : renumbered_type s.models f.ty ≡ g.ty = sym is.0.2 in (
        (ap number all.0.0 ∙ get.0 ∙ sym is.0.0, subst (λ t. IsValueOf t slot.value) ty value, subst (λ t. IsIntact (renumbered s d) t slot.value) ty intact),
        slots-moved number (k + 1) fields anew slots get.1 types.1 is.1 all.1,
      )

  records-over : (number : ℕ → ℕ) (k next : ℕ) (a b : ModelInfo) (rs : List Record) → GetNumbers number k a.fields → AllByRecursion (λ (f : FieldInfo). IsType s f.ty) a.fields
      → AreFieldsAnew s.models k a.fields b.fields → AllByRecursion (IsRecordIn d a next) rs → AllByRecursion (IsRecordIn (renumbered s d) b next) (map (record_numbered_by number) rs)
  records-over number k next a b [] get types is all = tt
  records-over number k next a b (r ∷ rs) get types is all = (
    record { first = all.0.first; given = all.0.given; slots = slots-moved number k a.fields b.fields r.slots get types is all.0.slots },
    records-over number k next a b rs get types is all.1,
  )

  table-over : (k : ℕ) (a b : ModelInfo) (t : Table) → t.model ≡ a.number → GetNumbers (new_field s.models a.number) k a.fields → AllByRecursion (λ (f : FieldInfo). IsType s f.ty) a.fields
      → AreFieldsAnew s.models k a.fields b.fields → IsTableOf d a t → IsTableOf (renumbered s d) b (renumbered_table s.models t)
  table-over k a b t model get types is table = record {
    first = table.first;
    last = table.last;
    rising = subst IsStrictlyIncreasing (sym (ids-same (new_field s.models t.model) t.records)) table.rising;
    records =
        subst (λ m. AllByRecursion (IsRecordIn (renumbered s d) b t.next) (map (record_numbered_by (new_field s.models m)) t.records)) (sym model)
        (records-over (new_field s.models a.number) k t.next a b t.records get types is table.records);
  }

  tables-over : (n k : ℕ) (models anew : List ModelInfo) → ModelsGet s.models n k models → AllByRecursion (λ (a : ModelInfo). HasModel s a.number) models
      → AllByRecursion (IsModel s) models → AreModelsAnew s.models n k models anew → AllByRecursion (HasTable d) models → AllByRecursion (HasTable (renumbered s d)) anew
  tables-over n k [] [] get has typed is all = tt
  tables-over n k [] (b ∷ anew) get has typed is all = absurd is
  tables-over n k (a ∷ models) [] get has typed is all = absurd is
  tables-over n k (a ∷ models) (b ∷ anew) get has typed is all =
      let t : Table = all.0.0 in
      let at : table_of d a.number ≡ Some t = all.0.1 in
      let model : t.model ≡ a.number = eqb-true t.model a.number (find-holds (λ (u : Table). u.model == a.number) d t at) in
      let number : b.number ≡ new_model s.models a.number = is.0.0 ∙ sym get.0.0 in
      let types = all-weaken (IsField s a.number) (λ (f : FieldInfo). IsType s f.ty) (λ f h. h.ty) a.fields typed.0.fields in (
        (
          renumbered_table s.models t,
          ap (table_of (renumbered s d)) number ∙ table-moved s d a.number has.0 ∙ ap (option_map (renumbered_table s.models)) at,
          table-over k a b t model get.0.1 types is.0.3 all.0.2,
        ),
        tables-over (n + 1) (k + length a.fields) models anew get.1 has.1 typed.1 is.1 all.1,
      )

  -- ---- each table has a model of its own

  apart-one : (m : ℕ) (ts : List Table) → AllByRecursion (λ (t : Table). HasModel s t.model) ts → AllByRecursion (λ n. nat_eq m n ≡ false) (map (λ (t : Table). t.model) ts)
      → AllByRecursion (λ n. nat_eq (new_model s.models m) n ≡ false) (map (λ (t : Table). t.model) (map (renumbered_table s.models) ts))
  apart-one m [] has all = tt
  apart-one m (t ∷ ts) has all = (same-model s.models m t.model has.0 ∙ all.0, apart-one m ts has.1 all.1)

  apart-moved : (ts : List Table) → AllByRecursion (λ (t : Table). HasModel s t.model) ts → IsDistinct nat_eq (map (λ (t : Table). t.model) ts)
      → IsDistinct nat_eq (map (λ (t : Table). t.model) (map (renumbered_table s.models) ts))
  unfolding IsDistinct
  apart-moved [] has all = tt
  apart-moved (t ∷ ts) has all = (apart-one t.model ts has.1 all.0, apart-moved ts has.1 all.1)

-- ---- the tables are those of models

above : (n j : ℕ) → n ≤ j → (n ≡ j → ⊥) → n + 1 ≤ j
above n j low other = omega (arith, other)

anew-there : (all : List ModelInfo) (n k : ℕ) (models anew : List ModelInfo) → AreModelsAnew all n k models anew → (j : ℕ) → n ≤ j → j < n + length models → IsTrue (is_some (model_in anew j))
anew-there all n k [] [] is j low high = absurd (omega arith)
anew-there all n k [] (b ∷ anew) is j low high = absurd is
anew-there all n k (a ∷ models) [] is j low high = absurd is
anew-there all n k (a ∷ models) (b ∷ anew) is j low high =
    at (λ more. anew-there all (n + 1) (k + length a.fields) models anew is.1 j more (omega arith)) (b.number == j) refl
  where
    at : (n + 1 ≤ j → IsTrue (is_some (model_in anew j))) → (c : Bool) → (b.number == j) ≡ c → IsTrue (is_some (cond c (Some b) (model_in anew j)))
    at rest true e = refl
    at rest false e =
        let other : n ≡ j → ⊥ = λ same. let h : (b.number == j) ≡ true = eq-eqb b.number j (is.0.0 ∙ same) in absurd (cc (h, e)) in
        rest (above n j low other)

models-there : (s anew : Schema) → IsAnew s anew → (ts : List Table) → AllByRecursion (λ (t : Table). HasModel s t.model) ts
    → AllByRecursion (λ (t : Table). HasModel anew t.model) (map (renumbered_table s.models) ts)
models-there s anew is [] has = tt
models-there s anew is (t ∷ ts) has =
    let below = place-below (λ (i : ModelInfo). i.number == t.model) s.models has.0 in
    (anew-there s.models 0 0 s.models anew.models is.models (new_model s.models t.model) (omega arith) (omega (arith, below)), models-there s anew is ts has.1)

-- ---- the tables stand in the order of models

order-moved : (all : List ModelInfo) (n k : ℕ) (models anew : List ModelInfo) → ModelsGet all n k models → AreModelsAnew all n k models anew → (ts : List Table)
    → map (λ (t : Table). t.model) ts ≡ model_numbers models → map (λ (t : Table). t.model) (map (renumbered_table all) ts) ≡ model_numbers anew
order-moved all n k [] [] get is [] order = refl
order-moved all n k [] [] get is (t ∷ ts) order = cc
order-moved all n k [] (b ∷ anew) get is ts order = absurd is
order-moved all n k (a ∷ models) [] get is ts order = absurd is
order-moved all n k (a ∷ models) (b ∷ anew) get is [] order = cc
order-moved all n k (a ∷ models) (b ∷ anew) get is (t ∷ ts) order =
    let model : t.model ≡ a.number = cc in
    let rest : map (λ (u : Table). u.model) ts ≡ model_numbers models = cc in
    let number : new_model all t.model ≡ b.number = ap (new_model all) model ∙ get.0.0 ∙ sym is.0.0 in
    ap (λ m. m ∷ map (λ (u : Table). u.model) (map (renumbered_table all) ts)) number
    ∙ ap (λ ms. b.number ∷ ms) (order-moved all (n + 1) (k + length a.fields) models anew get.1 is.1 ts rest)

pub databases-move : DatabasesMove
databases-move s anew d proper is database none =
    let fields = all-weaken (AreProperFields s.next_field) (λ (a : ModelInfo). IsDistinct nat_eq (map (λ (f : FieldInfo). f.number) a.fields)) (λ a are. are.numbers.distinct) s.models proper.fields in
    let get = models-get s.models 0 0 s.models proper.models.distinct fields (λ m has. (omega arith, (λ f. omega arith))) in
    let has = all-there (λ (a : ModelInfo). a.number) s.models in
    record {
      records = λ m id has. has-moved s d m id has;
      fields = λ m f id t e. field-moved s d m f id t e;
      database = record { apart = apart-moved s d d none database.apart; tables = tables-over s d 0 0 s.models anew.models get has proper.typed is.models database.tables };
      no_further = models-there s anew is d none;
      order = λ order. order-moved s.models 0 0 s.models anew.models get is.models d order;
    }
