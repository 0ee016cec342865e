-- Tables of a database that stay tables of their models on another one.
use Rattle.std.proofs.Common.{◌≡◌, ℕ, Bool, true, false, not, IsTrue, List, [], ◌∷◌, ◌++◌, refl, ap, sym, ◌∙◌, subst, cond, map}
use Rattle.std.specs.Prelude.{Some, filter, ◌==◌, nat_eq}
use Rattle.std.specs.List.{AllByRecursion, IsDistinct}
use Rattle.std.specs.List.Sorted.{IsStrictlyIncreasing}
use Rattle.type_schema.specs.declared.types.TBase.{TBase}
use Rattle.type_schema.specs.declared.types.TBase.TheVariants as base
use Rattle.type_schema.specs.declared.types.TTy.{TTy}
use Rattle.type_schema.specs.declared.types.TTy.TheVariants.{Plain, Set, Opt}
use Rattle.type_schema.specs.Schema.{FieldInfo, ModelInfo, Schema}
use Rattle.type_schema.specs.Typing.{HasModel, IsBase, IsType}
use Rattle.data_meaning.specs.Values.{Value, IsValueOf, ids_in}
use Rattle.data_meaning.specs.Database.{Slot, Record, Table, Database, table_of, has_record, AreThere, IsBaseIntact, IsIntact, AreSlots, IsRecordIn, IsTableOf, HasTable}

-- ---- what holds of each element of a list

pub all-of : {A : Type 0} (P Q : A → Type 0) → ((x : A) → P x → Q x) → (xs : List A) → AllByRecursion P xs → AllByRecursion Q xs
all-of P Q each [] all = tt
all-of P Q each (x ∷ xs) all = (each x all.0, all-of P Q each xs all.1)

pub all-both : {A : Type 0} (P Q R : A → Type 0) → ((x : A) → P x → Q x → R x) → (xs : List A) → AllByRecursion P xs → AllByRecursion Q xs → AllByRecursion R xs
all-both P Q R each [] p q = tt
all-both P Q R each (x ∷ xs) p q = (each x p.0 q.0, all-both P Q R each xs p.1 q.1)

pub all-front : {A : Type 0} (P : A → Type 0) (xs ys : List A) → AllByRecursion P (xs ++ ys) → AllByRecursion P xs
all-front P [] ys all = tt
all-front P (x ∷ xs) ys all = (all.0, all-front P xs ys all.1)

pub all-behind : {A : Type 0} (P : A → Type 0) (xs ys : List A) → AllByRecursion P (xs ++ ys) → AllByRecursion P ys
all-behind P [] ys all = all
all-behind P (x ∷ xs) ys all = all-behind P xs ys all.1

pub all-append : {A : Type 0} (P : A → Type 0) (xs ys : List A) → AllByRecursion P xs → AllByRecursion P ys → AllByRecursion P (xs ++ ys)
all-append P [] ys front behind = behind
all-append P (x ∷ xs) ys front behind = (front.0, all-append P xs ys front.1 behind)

pub all-filtered : {A : Type 0} (P : A → Type 0) (keep : A → Bool) (xs : List A) → AllByRecursion P xs → AllByRecursion P (filter keep xs)
all-filtered P keep [] all = tt
all-filtered {A} P keep (x ∷ xs) all =
    elim (keep x) as (λ (b : Bool). AllByRecursion P (cond b (x ∷ filter keep xs) (filter keep xs))) [
      | true ↦ (all.0, all-filtered P keep xs all.1)
      | false ↦ all-filtered P keep xs all.1
    ]

pub all-passed : {A : Type 0} (keep : A → Bool) (xs : List A) → AllByRecursion (λ x. keep x ≡ true) (filter keep xs)
all-passed keep [] = tt
all-passed {A} keep (x ∷ xs) =
    elim (keep x) as (λ (b : Bool). keep x ≡ b → AllByRecursion (λ y. keep y ≡ true) (cond b (x ∷ filter keep xs) (filter keep xs))) [
      | true ↦ λ passes. (passes, all-passed keep xs)
      | false ↦ λ fails. all-passed keep xs
    ] refl

pub distinct-filtered : {A : Type 0} (key : A → ℕ) (keep : A → Bool) (xs : List A) → IsDistinct nat_eq (map key xs) → IsDistinct nat_eq (map key (filter keep xs))
unfolding IsDistinct
distinct-filtered key keep [] apart = tt
distinct-filtered {A} key keep (x ∷ xs) apart =
    let later = distinct-filtered key keep xs apart.1 in
    elim (keep x) as (λ (b : Bool). IsDistinct nat_eq (map key (cond b (x ∷ filter keep xs) (filter keep xs)))) [
      | true ↦ (others xs apart.0, later)
      | false ↦ later
    ]
  where
    others : (ys : List A) → AllByRecursion (λ k. nat_eq (key x) k ≡ false) (map key ys) → AllByRecursion (λ k. nat_eq (key x) k ≡ false) (map key (filter keep ys))
    others [] all = tt
    others (y ∷ ys) all =
        elim (keep y) as (λ (b : Bool). AllByRecursion (λ k. nat_eq (key x) k ≡ false) (map key (cond b (y ∷ filter keep ys) (filter keep ys)))) [
          | true ↦ (all.0, others ys all.1)
          | false ↦ others ys all.1
        ]

-- ---- the model that a type names

abbrev pub base_names : TBase → ℕ → Type 0
base_names base.Bool n = ⊥
base_names base.Int n = ⊥
base_names base.Text n = ⊥
base_names (base.Id m) n = m ≡ n

-- the ids of the type are those of records of the model
abbrev pub names : TTy → ℕ → Type 0
names (Plain b) n = base_names b n
names (Set m) n = m ≡ n
names (Opt b) n = base_names b n

base-there : (s : Schema) (b : TBase) (n : ℕ) → IsBase s b → base_names b n → HasModel s n
base-there s base.Bool n is named = absurd named
base-there s base.Int n is named = absurd named
base-there s base.Text n is named = absurd named
base-there s (base.Id m) n is named = subst (HasModel s) named is

pub named-there : (s : Schema) (ty : TTy) (n : ℕ) → IsType s ty → names ty n → HasModel s n
named-there s (Plain b) n is named = base-there s b n is named
named-there s (Set m) n is named = subst (HasModel s) named is
named-there s (Opt b) n is named = base-there s b n is named

-- ---- records that stay where they are

module _ (d e : Database) where
  -- the records that a value of the type may name are there too
  abbrev pub Stays : ℕ → Type 0
  Stays n = (id : ℕ) → IsTrue (has_record d n id) → IsTrue (has_record e n id)

  there-carried : (n : ℕ) → Stays n → (ids : List ℕ) → AreThere d n ids → AreThere e n ids
  there-carried n stays [] all = tt
  there-carried n stays (id ∷ ids) all = (stays id all.0, there-carried n stays ids all.1)

  base-carried : (b : TBase) (ids : List ℕ) → ((n : ℕ) → base_names b n → Stays n) → IsBaseIntact d b ids → IsBaseIntact e b ids
  base-carried base.Bool ids stay is = tt
  base-carried base.Int ids stay is = tt
  base-carried base.Text ids stay is = tt
  base-carried (base.Id m) ids stay is = there-carried m (stay m refl) ids is

  pub intact-carried : (ty : TTy) (v : Value) → ((n : ℕ) → names ty n → Stays n) → IsIntact d ty v → IsIntact e ty v
  intact-carried (Plain b) v stay is = base-carried b (ids_in v) stay is
  intact-carried (Set m) v stay is = there-carried m (stay m refl) (ids_in v) is
  intact-carried (Opt b) v stay is = base-carried b (ids_in v) stay is

  abbrev pub AllStay : List FieldInfo → Type 0
  AllStay fields = AllByRecursion (λ (f : FieldInfo). (n : ℕ) → names f.ty n → Stays n) fields

  pub slots-carried : (fields : List FieldInfo) (slots : List Slot) → AllStay fields → AreSlots d fields slots → AreSlots e fields slots
  slots-carried [] [] stay is = tt
  slots-carried [] (slot ∷ slots) stay is = absurd is
  slots-carried (f ∷ fields) [] stay is = absurd is
  slots-carried (f ∷ fields) (slot ∷ slots) stay is =
      ((is.0.0, is.0.1, intact-carried f.ty slot.value stay.0 is.0.2), slots-carried fields slots stay.1 is.1)

  -- where look-up finds the table of the model, it finds the same one there
  pub table-carried : (info : ModelInfo) → ((t : Table) → table_of d info.number ≡ Some t → table_of e info.number ≡ Some t) → AllStay info.fields → HasTable d info → HasTable e info
  table-carried info at stay has = (
    has.0,
    at has.0 has.1,
    record {
      first = has.2.first;
      last = has.2.last;
      rising = has.2.rising;
      records = all-of (IsRecordIn d info has.0.next) (IsRecordIn e info has.0.next)
          (λ r is. record { first = is.first; given = is.given; slots = slots-carried info.fields r.slots stay is.slots }) has.0.records has.2.records;
    },
  )

-- all records stay
pub all-stay : (d e : Database) → ((n : ℕ) → Stays d e n) → (fields : List FieldInfo) → AllStay d e fields
all-stay d e stay [] = tt
all-stay d e stay (f ∷ fields) = (λ n named. stay n, all-stay d e stay fields)

-- ---- models of the same shape

abbrev pub shape : FieldInfo → ℕ × TTy
shape f = (f.number, f.ty)

slots-shaped : (d : Database) (fields others : List FieldInfo) (slots : List Slot) → map shape fields ≡ map shape others → AreSlots d fields slots → AreSlots d others slots
slots-shaped d [] [] slots same is = is
slots-shaped d [] (g ∷ others) slots same is = cc
slots-shaped d (f ∷ fields) [] slots same is = cc
slots-shaped d (f ∷ fields) (g ∷ others) [] same is = absurd is
slots-shaped d (f ∷ fields) (g ∷ others) (slot ∷ slots) same is =
    let head : shape f ≡ shape g = cc in
    let rest : map shape fields ≡ map shape others = cc in (
      subst (λ (p : ℕ × TTy). (slot.field ≡ p.0) × IsValueOf p.1 slot.value × IsIntact d p.1 slot.value) head is.0,
      slots-shaped d fields others slots rest is.1,
    )

-- a model with the number and with fields of the same numbers and types has the same table
pub table-shaped : (d : Database) (info other : ModelInfo) → info.number ≡ other.number → map shape info.fields ≡ map shape other.fields → HasTable d info → HasTable d other
table-shaped d info other number same has = (
  has.0,
  ap (table_of d) (sym number) ∙ has.1,
  record {
    first = has.2.first;
    last = has.2.last;
    rising = has.2.rising;
    records = all-of (IsRecordIn d info has.0.next) (IsRecordIn d other has.0.next)
        (λ r is. record { first = is.first; given = is.given; slots = slots-shaped d info.fields other.fields r.slots same is.slots }) has.0.records has.2.records;
  },
)

-- ---- slots that are added and taken out

pub slots-push : (d : Database) (fields : List FieldInfo) (slots : List Slot) (f : FieldInfo) (slot : Slot) → AreSlots d fields slots
    → (slot.field ≡ f.number) × IsValueOf f.ty slot.value × IsIntact d f.ty slot.value → AreSlots d (fields ++ f ∷ []) (slots ++ slot ∷ [])
slots-push d [] [] f slot is one = (one, tt)
slots-push d [] (x ∷ slots) f slot is one = absurd is
slots-push d (g ∷ fields) [] f slot is one = absurd is
slots-push d (g ∷ fields) (x ∷ slots) f slot is one = (is.0, slots-push d fields slots f slot is.1 one)

pub slots-without : (d : Database) (n : ℕ) (fields : List FieldInfo) (slots : List Slot) → AreSlots d fields slots
    → AreSlots d (filter (λ (g : FieldInfo). not (g.number == n)) fields) (filter (λ (slot : Slot). not (slot.field == n)) slots)
slots-without d n [] [] is = tt
slots-without d n [] (slot ∷ slots) is = absurd is
slots-without d n (f ∷ fields) [] is = absurd is
slots-without d n (f ∷ fields) (slot ∷ slots) is =
    let later = slots-without d n fields slots is.1 in
    let fs = filter (λ (g : FieldInfo). not (g.number == n)) fields in
    let ss = filter (λ (x : Slot). not (x.field == n)) slots in
    subst (λ (b : Bool). AreSlots d (cond (not (f.number == n)) (f ∷ fs) fs) (cond (not b) (slot ∷ ss) ss)) (sym (ap (λ k. k == n) is.0.0))
    (elim (f.number == n) as (λ (b : Bool). AreSlots d (cond (not b) (f ∷ fs) fs) (cond (not b) (slot ∷ ss) ss)) [ true ↦ later | false ↦ (is.0, later) ])

-- the table with other slots in its records
pub table-changed : (d e : Database) (info other : ModelInfo) (t : Table) (change : Record → List Slot)
    → AllByRecursion (λ (r : Record). AreSlots d info.fields r.slots → AreSlots e other.fields (change r)) t.records → IsTableOf d info t
    → IsTableOf e other (record t { records = map (λ (r : Record). record r { slots = change r }) t.records })
table-changed d e info other t change each is = record {
  first = is.first;
  last = is.last;
  rising = subst IsStrictlyIncreasing (sym (same-ids t.records)) is.rising;
  records = rows t.records each is.records;
}
  where
    same-ids : (rs : List Record) → map (λ (r : Record). r.id) (map (λ (r : Record). record r { slots = change r }) rs) ≡ map (λ (r : Record). r.id) rs
    same-ids [] = refl
    same-ids (r ∷ rs) = ap (λ ids. r.id ∷ ids) (same-ids rs)

    rows : (rs : List Record) → AllByRecursion (λ (r : Record). AreSlots d info.fields r.slots → AreSlots e other.fields (change r)) rs → AllByRecursion (IsRecordIn d info t.next) rs
        → AllByRecursion (IsRecordIn e other t.next) (map (λ (r : Record). record r { slots = change r }) rs)
    rows [] each all = tt
    rows (r ∷ rs) each all = (record { first = all.0.first; given = all.0.given; slots = each.0 all.0.slots }, rows rs each.1 all.1)
