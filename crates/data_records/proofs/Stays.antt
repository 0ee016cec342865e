-- Changed tables in a database over a schema.
use Rattle.std.proofs.Common.{◌≡◌, ℕ, Bool, true, false, List, [], ◌∷◌, refl, ap, sym, ◌∙◌, subst, cond, map}
use Rattle.std.specs.Prelude.{Option, Some, None, ◌==◌, nat_eq, if◌then◌else◌}
use Rattle.std.specs.List.{find, list_any, AllByRecursion, IsDistinct}
use Rattle.std.specs.Option.{option_map, option_map_or}
use Rattle.std.proofs.lemmas.Bool.{eqb-true, eq-eqb, ne_eqb}
use Rattle.type_schema.specs.declared.types.TBase.{TBase}
use Rattle.type_schema.specs.declared.types.TBase.TheVariants as base
use Rattle.type_schema.specs.declared.types.TTy.{TTy}
use Rattle.type_schema.specs.declared.types.TTy.TheVariants.{Plain, Set, Opt}
use Rattle.type_schema.specs.Schema.{FieldInfo, ModelInfo}
use Rattle.data_meaning.specs.Values.{Value, ids_in}
use Rattle.data_meaning.specs.Database.{Slot, Record, Table, Database, table_of, records_of, ids_of, has_record, AreThere, IsBaseIntact, IsIntact, AreSlots, IsRecordIn, IsTableOf, HasTable}
use Rattle.data_records.specs.Inserted.{change_table}

cond-map : {A B : Type 0} (g : A → B) (b : Bool) (x : A) (o : Option A) → cond b (Some (g x)) (option_map g o) ≡ option_map g (cond b (Some x) o)
cond-map g true x o = refl
cond-map g false x o = refl

-- ---- look-up of tables

module _ (m : ℕ) (g : Table → Table) (keeps : (t : Table) → (g t).model ≡ t.model) where
  pub models-same : (d : Database) → map (λ (t : Table). t.model) (change_table m g d) ≡ map (λ (t : Table). t.model) d
  models-same [] = refl
  models-same (t ∷ d) =
      elim (t.model == m) as (λ (b : Bool). map (λ (u : Table). u.model) (if b then g t ∷ d else t ∷ change_table m g d) ≡ t.model ∷ map (λ (u : Table). u.model) d) [
        | true ↦ ap (λ n. n ∷ map (λ (u : Table). u.model) d) (keeps t)
        | false ↦ ap (λ ns. t.model ∷ ns) (models-same d)
      ]

  pub table-changed : (d : Database) → table_of (change_table m g d) m ≡ option_map g (table_of d m)
  table-changed [] = refl
  table-changed (t ∷ d) =
      elim (t.model == m) as (λ (b : Bool). (t.model == m) ≡ b
      → table_of (if b then g t ∷ d else t ∷ change_table m g d) m ≡ option_map g (cond b (Some t) (table_of d m))) [
        | true ↦ λ is. ap (λ b. cond b (Some (g t)) (table_of d m)) (ap (λ n. n == m) (keeps t) ∙ is)
        | false ↦ λ is. ap (λ b. cond b (Some t) (table_of (change_table m g d) m)) is ∙ table-changed d
      ] refl

  pub table-other : (d : Database) (n : ℕ) → (n == m) ≡ false → table_of (change_table m g d) n ≡ table_of d n
  table-other [] n other = refl
  table-other (t ∷ d) n other =
      elim (t.model == m) as (λ (b : Bool). (t.model == m) ≡ b
      → table_of (if b then g t ∷ d else t ∷ change_table m g d) n ≡ cond (t.model == n) (Some t) (table_of d n)) [
        | true ↦ λ is.
            let here : t.model ≡ m = eqb-true _ _ is in
            let not-here : (t.model == n) ≡ false = differ t.model m n here other in
            ap (λ b. cond b (Some (g t)) (table_of d n)) (ap (λ k. k == n) (keeps t) ∙ not-here) ∙ sym (ap (λ b. cond b (Some t) (table_of d n)) not-here)
        | false ↦ λ is. ap (λ o. cond (t.model == n) (Some t) o) (table-other d n other)
      ] refl
    where
      differ : (k m n : ℕ) → k ≡ m → (n == m) ≡ false → (k == n) ≡ false
      differ k m n here other = ne_eqb k n (λ same. let e : (n == m) ≡ true = eq-eqb n m (sym same ∙ here) in cc)

-- ---- integrity carried over to another database

-- each of these ids of records of the model that names a record of the one database names one of the other
abbrev pub Carries : Database → Database → ℕ → List ℕ → Type 0
Carries d e n ids = AllByRecursion (λ i. has_record d n i ≡ true → has_record e n i ≡ true) ids

abbrev pub CarriesBase : Database → Database → TBase → List ℕ → Type 0
CarriesBase d e base.Bool ids = Unit {0}
CarriesBase d e base.Int ids = Unit {0}
CarriesBase d e base.Text ids = Unit {0}
CarriesBase d e (base.Id n) ids = Carries d e n ids

abbrev pub CarriesType : Database → Database → TTy → List ℕ → Type 0
CarriesType d e (Plain b) ids = CarriesBase d e b ids
CarriesType d e (Set n) ids = Carries d e n ids
CarriesType d e (Opt b) ids = CarriesBase d e b ids

module _ (d e : Database) where
  there-carried : (n : ℕ) (ids : List ℕ) → Carries d e n ids → AreThere d n ids → AreThere e n ids
  there-carried n [] carries all = tt
  there-carried n (i ∷ ids) carries all = (carries.0 all.0, there-carried n ids carries.1 all.1)

  base-carried : (b : TBase) (ids : List ℕ) → CarriesBase d e b ids → IsBaseIntact d b ids → IsBaseIntact e b ids
  base-carried base.Bool ids carries intact = tt
  base-carried base.Int ids carries intact = tt
  base-carried base.Text ids carries intact = tt
  base-carried (base.Id n) ids carries intact = there-carried n ids carries intact

  pub intact-carried : (t : TTy) (v : Value) → CarriesType d e t (ids_in v) → IsIntact d t v → IsIntact e t v
  intact-carried (Plain b) v carries intact = base-carried b (ids_in v) carries intact
  intact-carried (Set n) v carries intact = there-carried n (ids_in v) carries intact
  intact-carried (Opt b) v carries intact = base-carried b (ids_in v) carries intact

  -- ---- where every record that was there is there

  module _ (more : (n i : ℕ) → has_record d n i ≡ true → has_record e n i ≡ true) where
    pub carries-all : (n : ℕ) (ids : List ℕ) → Carries d e n ids
    carries-all n [] = tt
    carries-all n (i ∷ ids) = ((λ h. more n i h), carries-all n ids)

    carries-base : (b : TBase) (ids : List ℕ) → CarriesBase d e b ids
    carries-base base.Bool ids = tt
    carries-base base.Int ids = tt
    carries-base base.Text ids = tt
    carries-base (base.Id n) ids = carries-all n ids

    pub carries-type : (t : TTy) (ids : List ℕ) → CarriesType d e t ids
    carries-type (Plain b) ids = carries-base b ids
    carries-type (Set n) ids = carries-all n ids
    carries-type (Opt b) ids = carries-base b ids

    pub slots-carried : (fields : List FieldInfo) (slots : List Slot) → AreSlots d fields slots → AreSlots e fields slots
    slots-carried [] [] all = tt
    slots-carried [] (slot ∷ slots) all = absurd all
    slots-carried (f ∷ fields) [] all = absurd all
    slots-carried (f ∷ fields) (slot ∷ slots) all =
        ((all.0.0, all.0.1, intact-carried f.ty slot.value (carries-type f.ty (ids_in slot.value)) all.0.2), slots-carried fields slots all.1)

    pub record-carried : (info : ModelInfo) (next : ℕ) (r : Record) → IsRecordIn d info next r → IsRecordIn e info next r
    record-carried info next r is = record { first = is.first; given = is.given; slots = slots-carried info.fields r.slots is.slots }

    pub records-carried : (info : ModelInfo) (next : ℕ) (rs : List Record) → AllByRecursion (IsRecordIn d info next) rs → AllByRecursion (IsRecordIn e info next) rs
    records-carried info next [] all = tt
    records-carried info next (r ∷ rs) all = (record-carried info next r all.0, records-carried info next rs all.1)

    pub table-carried : (info : ModelInfo) (t : Table) → IsTableOf d info t → IsTableOf e info t
    table-carried info t is = record { first = is.first; last = is.last; rising = is.rising; records = records-carried info t.next t.records is.records }

-- ---- the model that is changed

-- where numbers differ, a model with the number is the one that is found
pub only-model : (m : ℕ) (info : ModelInfo) (infos : List ModelInfo) → IsDistinct nat_eq (map (λ (i : ModelInfo). i.number) infos)
    → find (λ (i : ModelInfo). i.number == m) infos ≡ Some info → AllByRecursion (λ (i : ModelInfo). i.number ≡ m → i ≡ info) infos
unfolding IsDistinct
only-model m info [] apart found = tt
only-model m info (i ∷ infos) apart found =
    elim (i.number == m) as (λ (b : Bool). (i.number == m) ≡ b → cond b (Some i) (find (λ (j : ModelInfo). j.number == m) infos) ≡ Some info
    → AllByRecursion (λ (j : ModelInfo). j.number ≡ m → j ≡ info) (i ∷ infos)) [
      | true ↦ λ is here.
          let same : i ≡ info = cc in
          ((λ e. same), others i.number (eqb-true _ _ is) infos apart.0)
      | false ↦ λ is later. ((λ e. let h : (i.number == m) ≡ true = eq-eqb i.number m e in cc), only-model m info infos apart.1 later)
    ] refl found
  where
    others : (n : ℕ) → n ≡ m → (infos : List ModelInfo) → AllByRecursion (λ k. nat_eq n k ≡ false) (map (λ (j : ModelInfo). j.number) infos)
        → AllByRecursion (λ (j : ModelInfo). j.number ≡ m → j ≡ info) infos
    others n is [] all = tt
    others n is (j ∷ infos) all = ((λ e. let h : (n == j.number) ≡ true = eq-eqb n j.number (is ∙ sym e) in cc), others n is infos all.1)

-- ---- a table changed in a database over a schema

module _ (m : ℕ) (g : Table → Table) (keeps : (t : Table) → (g t).model ≡ t.model) (d : Database) where
  -- tables of other models stay tables of them, and the table of the model becomes one
  pub table-stays : (info : ModelInfo)
      → ((t : Table) → (info.number == m) ≡ false → table_of d info.number ≡ Some t → IsTableOf d info t → IsTableOf (change_table m g d) info t)
      → ((t : Table) → info.number ≡ m → table_of d m ≡ Some t → IsTableOf d info t → IsTableOf (change_table m g d) info (g t))
      → HasTable d info → HasTable (change_table m g d) info
  table-stays info other here has =
      elim (info.number == m) as (λ (b : Bool). (info.number == m) ≡ b → HasTable (change_table m g d) info) [
        | true ↦ λ is.
            let same : info.number ≡ m = eqb-true _ _ is in
            let at : table_of d m ≡ Some has.0 = ap (table_of d) (sym same) ∙ has.1 in
            (g has.0, ap (table_of (change_table m g d)) same ∙ table-changed m g keeps d ∙ ap (option_map g) at, here has.0 same at has.2)
        | false ↦ λ is. (has.0, table-other m g keeps d info.number is ∙ has.1, other has.0 is has.1 has.2)
      ] refl

pub all-zipped : {A : Type 0} (P Q R : A → Type 0) → ((x : A) → P x → Q x → R x) → (xs : List A) → AllByRecursion P xs → AllByRecursion Q xs → AllByRecursion R xs
all-zipped P Q R step [] ps qs = tt
all-zipped P Q R step (x ∷ xs) ps qs = (step x ps.0 qs.0, all-zipped P Q R step xs ps.1 qs.1)

pub all-of : {A : Type 0} (P : A → Type 0) → ((x : A) → P x) → (xs : List A) → AllByRecursion P xs
all-of P each [] = tt
all-of P each (x ∷ xs) = (each x, all-of P each xs)

-- ---- which records are there in the changed database

pub has-of-ids : (d e : Database) (n i : ℕ) → ids_of e n ≡ ids_of d n → has_record e n i ≡ has_record d n i
has-of-ids d e n i same = ap (list_any (λ j. j == i)) same

module _ (m : ℕ) (g : Table → Table) (keeps : (t : Table) → (g t).model ≡ t.model) (d : Database) where
  -- the records of the model are those of the changed table
  pub records-changed : (t : Table) → table_of d m ≡ Some t → records_of (change_table m g d) m ≡ (g t).records
  records-changed t at = ap (λ o. option_map_or (λ (u : Table). u.records) o []) (table-changed m g keeps d ∙ ap (option_map g) at)

  pub records-nowhere : table_of d m ≡ None → records_of (change_table m g d) m ≡ []
  records-nowhere at = ap (λ o. option_map_or (λ (u : Table). u.records) o []) (table-changed m g keeps d ∙ ap (option_map g) at)

  pub records-other : (n : ℕ) → (n == m) ≡ false → records_of (change_table m g d) n ≡ records_of d n
  records-other n other = ap (λ o. option_map_or (λ (u : Table). u.records) o []) (table-other m g keeps d n other)

  -- a record that was there is there, if it stands in the changed table
  pub has-carried : (n i : ℕ)
      → (n ≡ m → (t : Table) → table_of d m ≡ Some t → list_any (λ j. j == i) (map (λ (r : Record). r.id) t.records) ≡ true
      → list_any (λ j. j == i) (map (λ (r : Record). r.id) (g t).records) ≡ true)
      → has_record d n i ≡ true → has_record (change_table m g d) n i ≡ true
  has-carried n i step there =
      elim (n == m) as (λ (b : Bool). (n == m) ≡ b → has_record (change_table m g d) n i ≡ true) [
        | true ↦ λ is.
            let same : n ≡ m = eqb-true _ _ is in
            subst (λ k. has_record (change_table m g d) k i ≡ true) (sym same) (in-model same (table_of d m) refl (subst (λ k. has_record d k i ≡ true) same there))
        | false ↦ λ is. ap (λ rs. list_any (λ j. j == i) (map (λ (r : Record). r.id) rs)) (records-other n is) ∙ there
      ] refl
    where
      in-model : n ≡ m → (o : Option Table) → table_of d m ≡ o → has_record d m i ≡ true → has_record (change_table m g d) m i ≡ true
      in-model same None at has =
          let none : has_record d m i ≡ false = ap (λ u. list_any (λ j. j == i) (map (λ (r : Record). r.id) (option_map_or (λ (t : Table). t.records) u []))) at in
          cc
      in-model same (Some t) at has =
          let was : records_of d m ≡ t.records = ap (λ u. option_map_or (λ (v : Table). v.records) u []) at in
          ap (λ rs. list_any (λ j. j == i) (map (λ (r : Record). r.id) rs)) (records-changed t at)
          ∙ step same t at (ap (λ rs. list_any (λ j. j == i) (map (λ (r : Record). r.id) rs)) (sym was) ∙ has)
