-- What is noted of a database, as it changes.
use Rattle.std.proofs.Common.{◌≡◌, ℕ, zero, suc, ◌<◌, ◌+◌, Bool, true, false, ◌&&◌, List, [], ◌∷◌, ◌++◌, refl, ap, sym, ◌∙◌, subst, cond, arith, get_or, length, map, take}
use Rattle.std.specs.Prelude.{Option, None, Some, IfSome, ◌==◌, if◌then◌else◌}
use Rattle.std.specs.List.{AllByRecursion, find}
use Rattle.std.specs.List.Sorted.{IsStrictlyIncreasing}
use Rattle.std.specs.Option.{option_map, option_map_or}
use Rattle.std.proofs.lemmas.Bool.{eqb-true, eq-eqb, ne_eqb}
use Rattle.std.proofs.lemmas.Map.Keys.{sorted_from_strictly_increasing}
use Rattle.data_meaning.specs.Values.{Value, Nothing}
use Rattle.data_meaning.specs.Database.{Slot, Record, Table, Database, table_of, field_at}
use Rattle.data_records.specs.declared.holders.Place.{Place}
use Rattle.data_records.specs.declared.index.Index.{Index}
use Rattle.data_records.specs.declared.record.Record as code_record
use Rattle.data_records.specs.Views.{record_data}
use Rattle.data_records.specs.declared.index.Namings.{Namings}
use Rattle.data_records.specs.Changed.{change_first, with_field, with_slot_value, with_value, with_value_in}
use Rattle.data_records.specs.Inserted.{change_table, with_record}
use Rattle.data_records.specs.Namings.{AreKnown, AreRowsKnown, is_same_place, IsIndexed, IsKnown, IsNotedIn}
use Rattle.data_records.specs.Removed.{without_first, without_record, without_record_in}
use Rattle.data_records.specs.Rising.{AreRising, ids_by}
use Rattle.data_records.specs.TakenBack.{without_last}
use Rattle.data_records.specs.Undone.{last_of, newest, without_newest, without_newest_in}
use Rattle.data_records.proofs.Changes.{field_is, id_is, model_is}
use Rattle.data_records.proofs.Firsts.{found-among, found-passes}
use Rattle.data_records.proofs.RowOut.{left-differ}
use Rattle.data_records.proofs.Stays.{table-changed, table-other}
use Rattle.data_records.proofs.Undone.{last-differ}

-- ---- places

three : (a b c : Bool) → (a && (b && c)) ≡ true → (a ≡ true) × (b ≡ true) × (c ≡ true)
three true true true h = (refl, refl, refl)
three true true false h = cc
three true false c h = cc
three false b c h = cc

pub one-place : (p q : Place) → is_same_place p q ≡ true → p ≡ q
one-place p q h =
    let parts = three (p.model == q.model) (p.field == q.field) (p.named == q.named) h in
    let models : p.model ≡ q.model = eqb-true p.model q.model parts.0 in
    let fields : p.field ≡ q.field = eqb-true p.field q.field parts.1 in
    let nameds : p.named ≡ q.named = eqb-true p.named q.named parts.2 in
    λ i. record { model = models i; field = fields i; named = nameds i }

-- ---- the first that passes, in a changed list

find-changed : {A : Type 0} (p : A → Bool) (h : A → A) → ((x : A) → p (h x) ≡ p x) → (xs : List A) → find p (change_first p h xs) ≡ option_map h (find p xs)
find-changed p h same [] = refl
find-changed {A} p h same (x ∷ xs) =
    elim (p x) as (λ (b : Bool). p x ≡ b → find p (if b then h x ∷ xs else x ∷ change_first p h xs) ≡ option_map h (cond b (Some x) (find p xs))) [
      | true ↦ λ is. ap (λ b. cond b (Some (h x)) (find p xs)) (same x ∙ is)
      | false ↦ λ is. ap (λ b. cond b (Some x) (find p (change_first p h xs))) is ∙ find-changed p h same xs
    ] refl

find-beside : {A : Type 0} (p q : A → Bool) (h : A → A) → ((x : A) → p x ≡ true → q x ≡ false) → ((x : A) → p x ≡ true → q (h x) ≡ false) → (xs : List A)
    → find q (change_first p h xs) ≡ find q xs
find-beside p q h apart apart' [] = refl
find-beside {A} p q h apart apart' (x ∷ xs) =
    elim (p x) as (λ (b : Bool). p x ≡ b → find q (if b then h x ∷ xs else x ∷ change_first p h xs) ≡ cond (q x) (Some x) (find q xs)) [
      | true ↦ λ is. ap (λ b. cond b (Some (h x)) (find q xs)) (apart' x is) ∙ sym (ap (λ b. cond b (Some x) (find q xs)) (apart x is))
      | false ↦ λ is. ap (λ o. cond (q x) (Some x) o) (find-beside p q h apart apart' xs)
    ] refl

find-left : {A : Type 0} (p q : A → Bool) → ((x : A) → p x ≡ true → q x ≡ false) → (xs : List A) → find q (without_first p xs) ≡ find q xs
find-left p q apart [] = refl
find-left {A} p q apart (x ∷ xs) =
    elim (p x) as (λ (b : Bool). p x ≡ b → find q (if b then xs else x ∷ without_first p xs) ≡ cond (q x) (Some x) (find q xs)) [
      | true ↦ λ is. sym (ap (λ b. cond b (Some x) (find q xs)) (apart x is))
      | false ↦ λ is. ap (λ o. cond (q x) (Some x) o) (find-left p q apart xs)
    ] refl

find-front : {A : Type 0} (q : A → Bool) (xs : List A) (x : A) → last_of xs ≡ Some x → q x ≡ false → find q (without_last xs) ≡ find q xs
find-front q [] x is apart = refl
find-front q (y ∷ []) x is apart = let same : y ≡ x = cc in sym (ap (λ b. cond b (Some y) None) (ap q same ∙ apart))
find-front q (y ∷ (z ∷ xs)) x is apart = ap (λ o. cond (q y) (Some y) o) (find-front q (z ∷ xs) x is apart)

find-none : {A : Type 0} (p : A → Bool) (xs : List A) → AllByRecursion (λ x. p x ≡ false) xs → find p xs ≡ None
find-none p [] all = refl
find-none p (x ∷ xs) all = ap (λ b. cond b (Some x) (find p xs)) all.0 ∙ find-none p xs all.1

-- ---- what fields hold

abbrev held_by : List Slot → ℕ → Value
held_by slots g = option_map_or (λ (slot : Slot). slot.value) (find (field_is g) slots) Nothing

abbrev held_in : Option Record → ℕ → Value
held_in o g = held_by (option_map_or (λ (r : Record). r.slots) o []) g

abbrev held_at : Option Table → ℕ → ℕ → Value
held_at o i g = held_in (find (id_is i) (option_map_or (λ (t : Table). t.records) o [])) g

apart-ids : (i id : ℕ) → (i == id) ≡ false → (r : Record) → (r.id == id) ≡ true → (r.id == i) ≡ false
apart-ids i id other r is = ne_eqb r.id i (λ same. let h : (i == id) ≡ true = eq-eqb i id (sym same ∙ eqb-true r.id id is) in cc)

apart-fields : (g f : ℕ) → (g == f) ≡ false → (slot : Slot) → (slot.field == f) ≡ true → (slot.field == g) ≡ false
apart-fields g f other slot is = ne_eqb slot.field g (λ same. let h : (g == f) ≡ true = eq-eqb g f (sym same ∙ eqb-true slot.field f is) in cc)

same-number : (i id : ℕ) → (i ≡ id → ⊥) → (i == id) ≡ false
same-number i id differs = ne_eqb i id differs

module _ (P : ℕ → ℕ → ℕ → Value → Type 0) (nothing : (n i g : ℕ) → P n i g Nothing) where
  abbrev Holds : Database → Type 0
  Holds d = (n i g : ℕ) → P n i g (field_at d n i g)

  -- it is enough to look at the table that is changed
  by-table : (m : ℕ) (h : Table → Table) → ((t : Table) → (h t).model ≡ t.model) → (d : Database)
      → ((n i g : ℕ) → (n == m) ≡ false → P n i g (field_at d n i g))
      → ((t : Table) (i g : ℕ) → table_of d m ≡ Some t → P m i g (held_at (Some (h t)) i g))
      → Holds (change_table m h d)
  by-table m h keeps d others here n i g =
      elim (n == m) as (λ (b : Bool). (n == m) ≡ b → P n i g (field_at (change_table m h d) n i g)) [
        | true ↦ λ is. subst (λ k. P k i g (field_at (change_table m h d) k i g)) (sym (eqb-true n m is))
            (subst (λ o. P m i g (held_at o i g)) (sym (table-changed m h keeps d)) (at (table_of d m) refl))
        | false ↦ λ is. subst (λ o. P n i g (held_at o i g)) (sym (table-other m h keeps d n is)) (others n i g is)
      ] refl
    where
      at : (o : Option Table) → table_of d m ≡ o → P m i g (held_at (option_map h o) i g)
      at None is = nothing m i g
      at (Some t) is = here t i g is

  -- ---- one more record

  module _ (m : ℕ) (r : Record) (new : (g : ℕ) → P m r.id g (held_by r.slots g)) where
    rows-pushed : (i g : ℕ) (rs : List Record) → P m i g (held_in (find (id_is i) rs) g) → P m i g (held_in (find (id_is i) (rs ++ r ∷ [])) g)
    rows-pushed i g [] old =
        elim (r.id == i) as (λ (b : Bool). (r.id == i) ≡ b → P m i g (held_in (cond b (Some r) None) g)) [
          | true ↦ λ is. subst (λ k. P m k g (held_by r.slots g)) (eqb-true r.id i is) (new g)
          | false ↦ λ is. nothing m i g
        ] refl
    rows-pushed i g (u ∷ rs) old =
        elim (u.id == i) as (λ (b : Bool). P m i g (held_in (cond b (Some u) (find (id_is i) rs)) g) → P m i g (held_in (cond b (Some u) (find (id_is i) (rs ++ r ∷ []))) g)) [
          | true ↦ λ h. h
          | false ↦ λ h. rows-pushed i g rs h
        ] old

    pub holds-pushed : (d : Database) → Holds d → Holds (change_table m (with_record r) d)
    holds-pushed d old = by-table m (with_record r) (λ t. refl) d (λ n i g other. old n i g)
        (λ t i g is. rows-pushed i g t.records (subst (λ o. P m i g (held_at o i g)) is (old m i g)))

  -- ---- a value in a field

  module _ (m id f : ℕ) (v : Value) (new : P m id f v) where
    slots-put : (g : ℕ) (slots : List Slot) → ((g ≡ f → ⊥) → P m id g (held_by slots g)) → P m id g (held_by (change_first (field_is f) (with_slot_value v) slots) g)
    slots-put g slots old =
        elim (g == f) as (λ (b : Bool). (g == f) ≡ b → P m id g (held_by (change_first (field_is f) (with_slot_value v) slots) g)) [
          | true ↦ λ is. subst (λ k. P m id k (held_by (change_first (field_is f) (with_slot_value v) slots) k)) (sym (eqb-true g f is))
              (subst (λ o. P m id f (option_map_or (λ (slot : Slot). slot.value) o Nothing)) (sym (find-changed (field_is f) (with_slot_value v) (λ slot. refl) slots)) (at (find (field_is f) slots)))
          | false ↦ λ is.
              subst (λ o. P m id g (option_map_or (λ (slot : Slot). slot.value) o Nothing)) (sym (find-beside (field_is f) (field_is g) (with_slot_value v) (apart-fields g f is) (apart-fields g f is) slots))
              (old (λ same. let h : (g == f) ≡ true = eq-eqb g f same in cc))
        ] refl
      where
        at : (o : Option Slot) → P m id f (option_map_or (λ (slot : Slot). slot.value) (option_map (with_slot_value v) o) Nothing)
        at None = nothing m id f
        at (Some slot) = new

    pub holds-put : (d : Database) → ((n i g : ℕ) → ((n ≡ m) × (i ≡ id) × (g ≡ f) → ⊥) → P n i g (field_at d n i g)) → Holds (with_field m id f v d)
    holds-put d old = by-table m (with_value_in id f v) (λ t. refl) d (λ n i g other. old n i g (λ same. let h : (n == m) ≡ true = eq-eqb n m same.0 in cc))
        (λ t i g is. rows-put i g t.records (λ differs. subst (λ o. P m i g (held_at o i g)) is (old m i g (λ same. differs (same.1, same.2)))))
      where
        rows-put : (i g : ℕ) (rs : List Record) → (((i ≡ id) × (g ≡ f) → ⊥) → P m i g (held_in (find (id_is i) rs) g))
            → P m i g (held_in (find (id_is i) (change_first (id_is id) (with_value f v) rs)) g)
        rows-put i g rs old =
            elim (i == id) as (λ (b : Bool). (i == id) ≡ b → P m i g (held_in (find (id_is i) (change_first (id_is id) (with_value f v) rs)) g)) [
              | true ↦ λ is.
                  let same = eqb-true i id is in
                  subst (λ k. P m k g (held_in (find (id_is k) (change_first (id_is id) (with_value f v) rs)) g)) (sym same)
                  (subst (λ o. P m id g (held_in o g)) (sym (find-changed (id_is id) (with_value f v) (λ r. refl) rs))
                  (at (find (id_is id) rs) (λ differs. subst (λ k. P m k g (held_in (find (id_is k) rs) g)) same (old (λ both. differs both.1)))))
              | false ↦ λ is.
                  subst (λ o. P m i g (held_in o g)) (sym (find-beside (id_is id) (id_is i) (with_value f v) (apart-ids i id is) (apart-ids i id is) rs))
                  (old (λ both. let h : (i == id) ≡ true = eq-eqb i id both.0 in cc))
            ] refl
          where
            at : (o : Option Record) → ((g ≡ f → ⊥) → P m id g (held_in o g)) → P m id g (held_in (option_map (with_value f v) o) g)
            at None kept = nothing m id g
            at (Some r) kept = slots-put g r.slots kept

  -- ---- a record taken out

  module _ (m id : ℕ) (d : Database) (old : (n i g : ℕ) → ((n ≡ m) × (i ≡ id) → ⊥) → P n i g (field_at d n i g)) where
    -- the other records stand where they stood
    holds-left : (h : Table → Table) → ((t : Table) → (h t).model ≡ t.model)
        → ((t : Table) → table_of d m ≡ Some t → find (id_is id) (h t).records ≡ None)
        → ((t : Table) (i : ℕ) → table_of d m ≡ Some t → (i == id) ≡ false → find (id_is i) (h t).records ≡ find (id_is i) t.records)
        → Holds (change_table m h d)
    holds-left h keeps gone same = by-table m h keeps d (λ n i g other. old n i g (λ both. let e : (n == m) ≡ true = eq-eqb n m both.0 in cc)) here
      where
        here : (t : Table) (i g : ℕ) → table_of d m ≡ Some t → P m i g (held_at (Some (h t)) i g)
        here t i g is =
            elim (i == id) as (λ (b : Bool). (i == id) ≡ b → P m i g (held_at (Some (h t)) i g)) [
              | true ↦ λ e. subst (λ k. P m k g (held_at (Some (h t)) k g)) (sym (eqb-true i id e)) (subst (λ o. P m id g (held_in o g)) (sym (gone t is)) (nothing m id g))
              | false ↦ λ e. subst (λ o. P m i g (held_in o g)) (sym (same t i is e))
                  (subst (λ o. P m i g (held_at o i g)) is (old m i g (λ both. let k : (i == id) ≡ true = eq-eqb i id both.1 in cc)))
            ] refl

    pub holds-erased : AreRising d → Holds (without_record m id d)
    holds-erased up = holds-left (without_record_in id) (λ t. refl)
        (λ t is. find-none (id_is id) (without_first (id_is id) t.records) (left-differ id t.records (sorted_from_strictly_increasing (ids_by t.records) (rises t is))))
        (λ t i is other. find-left (id_is id) (id_is i) (apart-ids i id other) t.records)
      where
        rises : (t : Table) → table_of d m ≡ Some t → IsStrictlyIncreasing (ids_by t.records)
        rises t is = found-among (λ (u : Table). IsStrictlyIncreasing (ids_by u.records)) (model_is m) d t up is

    pub holds-back : AreRising d → (r : Record) → newest d m ≡ Some r → r.id ≡ id → Holds (without_newest m d)
    holds-back up r is named = holds-left without_newest_in (λ t. refl)
        (λ t at. find-none (id_is id) (without_last t.records)
        (subst (λ k. AllByRecursion (λ (u : Record). (u.id == k) ≡ false) (without_last t.records)) named
        (last-differ t.records r (sorted_from_strictly_increasing (ids_by t.records) (rises t at)) (lasts t at))))
        (λ t i at other. find-front (id_is i) t.records r (lasts t at) (ne_eqb r.id i (λ same. let e : (i == id) ≡ true = eq-eqb i id (sym same ∙ named) in cc)))
      where
        rises : (t : Table) → table_of d m ≡ Some t → IsStrictlyIncreasing (ids_by t.records)
        rises t at = found-among (λ (u : Table). IsStrictlyIncreasing (ids_by u.records)) (model_is m) d t up at

        lasts : (t : Table) → table_of d m ≡ Some t → last_of t.records ≡ Some r
        lasts t at = ap (λ o. last_of (option_map_or (λ (u : Table). u.records) o [])) (sym at) ∙ is

-- ---- what is noted

pub nothing-known : (x : Index) (m id f : ℕ) → IsKnown x m id f Nothing
nothing-known x m id f = by x.namings
  where
    by : (o : Option Namings) → IsNotedIn o m id f Nothing
    by None = tt
    by (Some s) = tt

pub known-held : (x : Index) (m id : ℕ) (slots : List Slot) → AreKnown x m id slots → (g : ℕ) → IsKnown x m id g (held_by slots g)
known-held x m id slots all g = by (find (field_is g) slots) refl
  where
    by : (o : Option Slot) → find (field_is g) slots ≡ o → IsKnown x m id g (option_map_or (λ (slot : Slot). slot.value) o Nothing)
    by None is = nothing-known x m id g
    by (Some slot) is =
        let number : slot.field ≡ g = eqb-true slot.field g (found-passes (field_is g) slots slot is) in
        subst (λ k. IsKnown x m id k slot.value) number (found-among (λ (s : Slot). IsKnown x m id s.field s.value) (field_is g) slots slot all is)

pub known-all : (x : Index) (d : Database) → AllByRecursion (λ (t : Table). AreRowsKnown x t.model t.records) d → IsIndexed x d
known-all x d all m id f = by-model (table_of d m) refl
  where
    by-row : (rs : List Record) → AreRowsKnown x m rs → (o : Option Record) → find (id_is id) rs ≡ o → IsKnown x m id f (held_in o f)
    by-row rs rows None is = nothing-known x m id f
    by-row rs rows (Some r) is =
        let number : r.id ≡ id = eqb-true r.id id (found-passes (id_is id) rs r is) in
        subst (λ k. IsKnown x m k f (held_by r.slots f)) number
        (known-held x m r.id r.slots (found-among (λ (u : Record). AreKnown x m u.id u.slots) (id_is id) rs r rows is) f)

    by-model : (o : Option Table) → table_of d m ≡ o → IsKnown x m id f (held_at o id f)
    by-model None is = nothing-known x m id f
    by-model (Some t) is =
        let number : t.model ≡ m = eqb-true t.model m (found-passes (model_is m) d t is) in
        let rows = subst (λ k. AreRowsKnown x k t.records) number (found-among (λ (u : Table). AreRowsKnown x u.model u.records) (model_is m) d t all is) in
        by-row t.records rows (find (id_is id) t.records) refl

-- ---- one record, or one table, after the other

module _ {X Y : Type 0} (seen : X → Y) (P Q : Y → Type 0) (more : (y : Y) → P y → Q y) where
  pub all-further : (xs : List X) (k : ℕ) (u : X) → k < length xs → u ≡ get_or xs k u → AllByRecursion P (map seen (take k xs)) → Q (seen u)
      → AllByRecursion Q (map seen (take (k + 1) xs))
  all-further xs k u below is all new = subst (λ n. AllByRecursion Q (map seen (take n xs))) (on k) (further xs k below is all)
    where
      on : (n : ℕ) → suc n ≡ n + 1
      on n = omega arith

      further : (ys : List X) (j : ℕ) → j < length ys → u ≡ get_or ys j u → AllByRecursion P (map seen (take j ys)) → AllByRecursion Q (map seen (take (suc j) ys))
      further [] j below is all = absurd (omega arith)
      further (y ∷ ys) zero below is all = (subst (λ x. Q (seen x)) is new, tt)
      further (y ∷ ys) (suc j) below is all = (more (seen y) all.0, further ys j (omega arith) is all.1)

pub all-known : (x y : Index) (m id : ℕ) → ((n i g : ℕ) (w : Value) → IsKnown x n i g w → IsKnown y n i g w) → (slots : List Slot) → AreKnown x m id slots → AreKnown y m id slots
all-known x y m id kept [] all = tt
all-known x y m id kept (slot ∷ slots) all = (kept m id slot.field slot.value all.0, all-known x y m id kept slots all.1)

pub rows-known : (x y : Index) (m : ℕ) → ((n i g : ℕ) (w : Value) → IsKnown x n i g w → IsKnown y n i g w) → (records : List Record) → AreRowsKnown x m records → AreRowsKnown y m records
rows-known x y m kept [] all = tt
rows-known x y m kept (r ∷ records) all = (all-known x y m r.id kept r.slots all.0, rows-known x y m kept records all.1)

-- ---- a record that was taken out

pub left-out : (m id n i : ℕ) (o : Option code_record.Record) → IfSome o (λ r. r.id ≡ id) → ((n ≡ m) × (i ≡ id) → ⊥) → IfSome o (λ r. (n ≡ m) × (i ≡ r.id) → ⊥)
left-out m id n i None named differs = tt
left-out m id n i (Some r) named differs = λ same. differs (same.0, same.1 ∙ named)

pub taken-named : (o : Option code_record.Record) (r : Record) → option_map record_data o ≡ Some r → IfSome o (λ u. u.id ≡ r.id)
taken-named None r is = tt
taken-named (Some u) r is = let same : record_data u ≡ r = cc in ap (λ (v : Record). v.id) same
