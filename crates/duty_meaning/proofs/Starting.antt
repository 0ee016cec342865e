-- The structure of a database shows what its schema says of it.
use Rattle.std.proofs.Common.{◌≡◌, ℕ, zero, suc, ◌+◌, ◌<◌, Bool, true, false, not, ◌&&◌, ◌||◌, List, [], ◌∷◌, ◌++◌, length, refl, ap, sym, ◌∙◌, subst, arith, cond, inl, inr}
use Rattle.std.specs.Prelude.{Option, Some, None, map, filter, ◌==◌, nat_eq, is_some, slice_get, slice_index, slice_index_or, option_and_then}
use Rattle.std.specs.List.{find, list_any, flat_map}
use Rattle.std.specs.List.Sorted.{IsStrictlyIncreasing}
use Rattle.std.specs.Option.{option_map, option_map_or}
use Rattle.std.proofs.lemmas.Bool.{eqb-true, eq-eqb, false_from_ne_true}
use Rattle.std.proofs.lemmas.List.Folds.{list_any-append}
use Rattle.type_schema.specs.declared.types.TBase.{TBase}
use Rattle.type_schema.specs.declared.types.TBase.TheVariants as base
use Rattle.type_schema.specs.declared.types.TTy.{TTy}
use Rattle.type_schema.specs.declared.types.TTy.TheVariants.{Plain, Set, Opt}
use Rattle.type_schema.specs.Schema.{FieldInfo, ModelInfo, Schema, model_in, field_in, model_of, field_of, type_of}
use Rattle.type_schema.specs.Typing.{HasModel}
use Rattle.type_schema.specs.Proper.{model_numbers}
use Rattle.data_meaning.specs.Values.{Value, Id, Ids, IsBaseValueOf, ids_in}
use Rattle.data_meaning.specs.Database.{Record, Table, Database, table_of, ids_of, field_at, has_record, AreThere, IsBaseIntact, HasTable, IsDatabase}
use Rattle.data_meaning.proofs.Finds.{find-holds, find-among}
use Rattle.data_meaning.proofs.Lookup.{typed}
use Rattle.data_meaning.specs.Meaning.{id_of, set_of, same_truth}
use Rattle.data_meaning.proofs.Agreement.{ap2}
use Rattle.data_meaning.proofs.Kept.{found-field}
use Rattle.form_formula.specs.declared.structure.SVal.{SVal}
use Rattle.form_formula.specs.declared.structure.Structure.{Structure}
use Rattle.form_formula.specs.Trees.{Term, has, present}
use Rattle.form_formula.specs.Truth.{element_of, entry, entry_at, relates, both_pass, size_of}
use Rattle.duty_meaning.specs.Structures.{before, Place, places_in, is_set, functions_of, relations_of, is_place, sort_of, function_of, relation_of, base_target, target_of, entry_of, entries_of, pairs_of, structure_of}
use Rattle.duty_meaning.specs.Structures as structure
use Rattle.duty_meaning.specs.Formulas.{nothing_written}
use Rattle.duty_meaning.proofs.Signed.{atom-truth}
use Rattle.duty_meaning.proofs.Means.{IsPrefix, prefix-itself, truth-of-type, IsEntry, IsTermOf, Means}
use Rattle.duty_meaning.proofs.Ends.{same-element}
use Rattle.duty_meaning.proofs.Meanings.{Shows}

-- ---- what stands where a search ends

found-index : {A B : Type 0} (p : A → Bool) (h : A → B) (xs : List A) (y : A) (z : B) → find p xs ≡ Some y → slice_index_or (map h xs) (before p xs) z ≡ h y
found-index p h [] y z e = cc
found-index {A} {B} p h (x ∷ xs) y z e =
    elim (p x) as (λ (t : Bool). cond t (Some x) (find p xs) ≡ Some y → slice_index_or (h x ∷ map h xs) (cond t 0 (suc (before p xs))) z ≡ h y) [
      | true ↦ λ e. let same : x ≡ y = cc in ap h same
      | false ↦ λ e. found-index p h xs y z e
    ] e

pub find-front : {A : Type 0} (p : A → Bool) (xs ys : List A) (y : A) → find p xs ≡ Some y → find p (xs ++ ys) ≡ Some y
find-front p [] ys y e = cc
find-front {A} p (x ∷ xs) ys y e =
    elim (p x) as (λ (t : Bool). cond t (Some x) (find p xs) ≡ Some y → cond t (Some x) (find p (xs ++ ys)) ≡ Some y) [
      | true ↦ λ e. e
      | false ↦ λ e. find-front p xs ys y e
    ] e

pub find-behind : {A : Type 0} (p : A → Bool) (xs ys : List A) → find p xs ≡ None → find p (xs ++ ys) ≡ find p ys
find-behind p [] ys e = refl
find-behind {A} p (x ∷ xs) ys e =
    elim (p x) as (λ (t : Bool). cond t (Some x) (find p xs) ≡ None → cond t (Some x) (find p (xs ++ ys)) ≡ find p ys) [
      | true ↦ λ e. cc
      | false ↦ λ e. find-behind p xs ys e
    ] e

pub find-kept : {A : Type 0} (p keep : A → Bool) (xs : List A) (y : A) → find p xs ≡ Some y → keep y ≡ true → find p (filter keep xs) ≡ Some y
find-kept p keep [] y e k = cc
find-kept {A} p keep (x ∷ xs) y e k =
    elim (p x) as (λ (t : Bool). p x ≡ t → cond t (Some x) (find p xs) ≡ Some y → find p (cond (keep x) (x ∷ filter keep xs) (filter keep xs)) ≡ Some y) [
      | true ↦ λ here e.
          let same : x ≡ y = cc in
          let kept : keep x ≡ true = ap keep same ∙ k in
          ap (λ t. find p (cond t (x ∷ filter keep xs) (filter keep xs))) kept ∙ ap (λ t. cond t (Some x) (find p (filter keep xs))) here ∙ ap (λ u. Some u) same
      | false ↦ λ here e.
          elim (keep x) as (λ (t : Bool). find p (cond t (x ∷ filter keep xs) (filter keep xs)) ≡ Some y) [
            | true ↦ ap (λ t. cond t (Some x) (find p (filter keep xs))) here ∙ find-kept p keep xs y e k
            | false ↦ find-kept p keep xs y e k
          ]
    ] refl e

-- ---- models and fields by their numbers

pub number-found : (models : List ModelInfo) (m : ℕ) (i : ModelInfo) → model_in models m ≡ Some i → find (λ n. n == m) (model_numbers models) ≡ Some m
number-found [] m i e = cc
number-found (x ∷ models) m i e =
    elim (x.number == m) as (λ (t : Bool). (x.number == m) ≡ t → cond t (Some x) (model_in models m) ≡ Some i
    → cond t (Some x.number) (find (λ n. n == m) (model_numbers models)) ≡ Some m) [
      | true ↦ λ here e. ap (λ n. Some n) (eqb-true _ _ here)
      | false ↦ λ here e. number-found models m i e
    ] refl e

abbrev pub place : ℕ → FieldInfo → Place
place m g = record { model = m; field = g }

field-placed : (n m f : ℕ) (fields : List FieldInfo) (g : FieldInfo) → (n == m) ≡ true → field_in fields f ≡ Some g
    → find (is_place m f) (map (place n) fields) ≡ Some (place n g)
field-placed n m f [] g same e = cc
field-placed n m f (x ∷ fields) g same e =
    ap (λ t. cond (t && (x.number == f)) (Some (place n x)) (find (is_place m f) (map (place n) fields))) same
    ∙ (elim (x.number == f) as (λ (t : Bool). cond t (Some x) (field_in fields f) ≡ Some g
    → cond t (Some (place n x)) (find (is_place m f) (map (place n) fields)) ≡ Some (place n g)) [
      | true ↦ λ e. let it : x ≡ g = cc in ap (λ u. Some (place n u)) it
      | false ↦ λ e. field-placed n m f fields g same e
    ] e)

not-placed : (n m f : ℕ) (fields : List FieldInfo) → (n == m) ≡ false → find (is_place m f) (map (place n) fields) ≡ None
not-placed n m f [] other = refl
not-placed n m f (x ∷ fields) other =
    ap (λ t. cond (t && (x.number == f)) (Some (place n x)) (find (is_place m f) (map (place n) fields))) other ∙ not-placed n m f fields other

model-placed : (models : List ModelInfo) (m f : ℕ) (i : ModelInfo) (g : FieldInfo) → model_in models m ≡ Some i → field_in i.fields f ≡ Some g
    → find (is_place m f) (flat_map places_in models) ≡ Some (place m g)
model-placed [] m f i g e h = cc
model-placed (x ∷ models) m f i g e h =
    elim (x.number == m) as (λ (t : Bool). (x.number == m) ≡ t → cond t (Some x) (model_in models m) ≡ Some i
    → find (is_place m f) (map (place x.number) x.fields ++ flat_map places_in models) ≡ Some (place m g)) [
      | true ↦ λ here e.
          let same : x ≡ i = cc in
          let fields : field_in x.fields f ≡ Some g = ap (λ (u : ModelInfo). field_in u.fields f) same ∙ h in
          find-front (is_place m f) (map (place x.number) x.fields) (flat_map places_in models) (place x.number g) (field-placed x.number m f x.fields g here fields)
          ∙ ap (λ n. Some (place n g)) (eqb-true _ _ here)
      | false ↦ λ here e.
          find-behind (is_place m f) (map (place x.number) x.fields) (flat_map places_in models) (not-placed x.number m f x.fields here)
          ∙ model-placed models m f i g e h
    ] refl e

-- a field that is there, its place among all, and its number
pub record Placed (s : Schema) (m f : ℕ) (t : TTy) : Type 0 where
  pub field : FieldInfo
  pub ty : field.ty ≡ t
  pub number : field.number ≡ f
  pub found : find (is_place m f) (flat_map places_in s.models) ≡ Some (place m field)

pub placed : (s : Schema) (m f : ℕ) (t : TTy) → type_of s m f ≡ Some t → Placed s m f t
placed s m f t h =
    elim (field_of s m f) as (λ (o : Option FieldInfo). field_of s m f ≡ o → option_map (λ (g : FieldInfo). g.ty) o ≡ Some t → Placed s m f t) [
      | None ↦ λ here e. cc
      | Some g ↦ λ here e.
          let there = found-field s m f g here in
          record {
            field = g;
            ty = let same : g.ty ≡ t = cc in same;
            number = eqb-true _ _ (find-holds (λ (u : FieldInfo). u.number == f) there.model.fields g there.field);
            found = model-placed s.models m f there.model g there.found there.field;
          }
    ] refl h

-- ---- ids

id-found : (ids : List ℕ) (id : ℕ) → list_any (λ i. i == id) ids ≡ true → find (λ i. i == id) ids ≡ Some id
id-found [] id h = cc
id-found (x ∷ ids) id h =
    elim (x == id) as (λ (t : Bool). (x == id) ≡ t → (t || list_any (λ i. i == id) ids) ≡ true → cond t (Some x) (find (λ i. i == id) ids) ≡ Some id) [
      | true ↦ λ here e. ap (λ n. Some n) (eqb-true _ _ here)
      | false ↦ λ here e. id-found ids id e
    ] refl h

rises-behind : (i : ℕ) (ids : List ℕ) → IsStrictlyIncreasing (i ∷ ids) → IsStrictlyIncreasing ids
rises-behind i ids up = λ k h.
    let next : suc k + 1 ≡ suc (k + 1) = omega arith in
    let below : suc k + 1 < length (i ∷ ids) = subst (λ (n : ℕ). n < suc (length ids)) (sym next) (omega (arith, h)) in
    subst (λ (n : ℕ). slice_index ids k < slice_index (i ∷ ids) n) next (up (suc k) below)

above-first : (ids : List ℕ) (i : ℕ) → IsStrictlyIncreasing (i ∷ ids) → (k id : ℕ) → slice_get ids k ≡ Some id → i < id
above-first [] i up k id e = cc
above-first (j ∷ ids) i up zero id e =
    let first : i < j = up 0 (omega arith) in
    let same : j ≡ id = cc in
    subst (λ (n : ℕ). i < n) same first
above-first (j ∷ ids) i up (suc k) id e =
    let first : i < j = up 0 (omega arith) in
    let later = above-first ids j (rises-behind i (j ∷ ids) up) k id e in
    omega (arith, first, later)

rising-place : (ids : List ℕ) → IsStrictlyIncreasing ids → (k id : ℕ) → slice_get ids k ≡ Some id → before (λ i. i == id) ids ≡ k
rising-place [] up k id e = cc
rising-place (i ∷ ids) up zero id e =
    let same : i ≡ id = cc in
    ap (λ t. cond t 0 (suc (before (λ j. j == id) ids))) (eq-eqb i id same)
rising-place (i ∷ ids) up (suc k) id e =
    let below = above-first ids i up k id e in
    let differs : (i == id) ≡ false = false_from_ne_true _ (λ h. let same : i ≡ id = eqb-true _ _ h in absurd (omega (arith, same, below))) in
    ap (λ t. cond t 0 (suc (before (λ j. j == id) ids))) differs ∙ ap suc (rising-place ids (rises-behind i ids up) k id e)

-- ---- set relations

any-mapped : {A B : Type 0} (F : B → Bool) (g : A → B) (R : A → Bool) (xs : List A) → ((x : A) → F (g x) ≡ R x) → list_any F (map g xs) ≡ list_any R xs
any-mapped F g R [] h = refl
any-mapped F g R (x ∷ xs) h = ap2 (λ a b. a || b) (h x) (any-mapped F g R xs h)

none-mapped : {A B : Type 0} (F : B → Bool) (g : A → B) (xs : List A) → ((x : A) → F (g x) ≡ false) → list_any F (map g xs) ≡ false
none-mapped F g [] h = refl
none-mapped F g (x ∷ xs) h = ap2 (λ a b. a || b) (h x) (none-mapped F g xs h)

-- pairs that begin with the records of a list, where only those of one count
any-pairs : (F : (ℕ × ℕ) → Bool) (G : ℕ → List (ℕ × ℕ)) (id : ℕ) (found : Bool) (ids : List ℕ)
    → ((x : ℕ) → list_any (λ i. i == x) ids ≡ true → list_any F (G x) ≡ ((x == id) && found))
    → list_any F (flat_map G ids) ≡ (list_any (λ i. i == id) ids && found)
any-pairs F G id found [] h = refl
any-pairs F G id found (x ∷ ids) h =
    list_any-append F (G x) (flat_map G ids)
    ∙ ap2 (λ a b. a || b) (h x (ap (λ t. t || list_any (λ i. i == x) ids) (eq-eqb x x refl)))
    (any-pairs F G id found ids (λ y k. h y (elim (x == y) as (λ (t : Bool). (t || list_any (λ i. i == y) ids) ≡ true) [ true ↦ refl | false ↦ k ])))
    ∙ both-or (x == id) (list_any (λ i. i == id) ids) found
  where
    both-or : (a b c : Bool) → ((a && c) || (b && c)) ≡ ((a || b) && c)
    both-or true true true = refl
    both-or true true false = refl
    both-or true false true = refl
    both-or true false false = refl
    both-or false b c = refl

all-element : (d : Database) (n i : ℕ) (others : List ℕ) → AreThere d n others → has_record d n i ≡ true
    → list_any (λ other. nat_eq (structure.element_of d n other) (structure.element_of d n i)) others ≡ list_any (λ k. k == i) others
all-element d n i [] there h = refl
all-element d n i (x ∷ others) there h =
    ap2 (λ a b. a || b) (same-element (ids_of d n) x i there.0 h) (all-element d n i others there.1 h)

module _ (s : Schema) (d : Database) (is : IsDatabase s d) where
  abbrev st : Structure
  st = structure_of s d

  -- what a field that holds no set has as a function
  function-entry : (m f : ℕ) (t : TTy) (p : Placed s m f t) → is_set t ≡ false → (id : ℕ) → has_record d m id ≡ true
      → entry st (function_of s m f) (structure.element_of d m id) ≡ entry_of d (target_of t) (field_at d m id f)
  function-entry m f t p no_set id there =
      let keeps : not (is_set p.field.ty) ≡ true = ap (λ u. not (is_set u)) p.ty ∙ ap not no_set in
      let found = find-kept (is_place m f) (λ (u : Place). not (is_set u.field.ty)) (flat_map places_in s.models) (place m p.field) p.found keeps in
      ap (λ table. slice_index_or table (structure.element_of d m id) None) (found-index (is_place m f) (entries_of d) (functions_of s) (place m p.field) [] found)
      ∙ found-index (λ i. i == id) (λ i. entry_of d (target_of p.field.ty) (field_at d m i p.field.number)) (ids_of d m) id None (id-found (ids_of d m) id there)
      ∙ ap2 (λ u g. entry_of d (target_of u) (field_at d m id g)) p.ty p.number

  -- that a record is in the set of another
  related : (m f n : ℕ) (p : Placed s m f (Set n)) (id i : ℕ) → has_record d m id ≡ true → has_record d n i ≡ true
      → ((x : ℕ) → has_record d m x ≡ true → AreThere d n (set_of (field_at d m x f)))
      → relates st (relation_of s m f) (structure.element_of d m id) (structure.element_of d n i) ≡ list_any (λ k. k == i) (set_of (field_at d m id f))
  related m f n p id i there other intact =
      let found = find-kept (is_place m f) (λ (u : Place). is_set u.field.ty) (flat_map places_in s.models) (place m p.field) p.found (ap is_set p.ty) in
      let F : (ℕ × ℕ) → Bool = λ pair. (pair.0 == structure.element_of d m id) && (pair.1 == structure.element_of d n i) in
      let G : ℕ → List (ℕ × ℕ) = λ x. map (λ y. (structure.element_of d m x, structure.element_of d n y)) (set_of (field_at d m x f)) in
      let hit : Bool = list_any (λ k. k == i) (set_of (field_at d m id f)) in
      ap (list_any F) (found-index (is_place m f) (pairs_of d) (relations_of s) (place m p.field) [] found)
      ∙ ap2 (λ u g. list_any F (flat_map (λ x. map (λ y. (structure.element_of d m x, structure.element_of d (target_of u) y)) (set_of (field_at d m x g))) (ids_of d m))) p.ty p.number
      ∙ any-pairs F G id hit (ids_of d m) (λ x here.
      elim (x == id) as (λ (t : Bool). (x == id) ≡ t → list_any F (G x) ≡ (t && hit)) [
        | true ↦ λ same.
            any-mapped F (λ y. (structure.element_of d m x, structure.element_of d n y)) (λ y. nat_eq (structure.element_of d n y) (structure.element_of d n i)) (set_of (field_at d m x f))
            (λ y. ap (λ t. t && (structure.element_of d n y == structure.element_of d n i)) (same-element (ids_of d m) x id here there ∙ same))
            ∙ all-element d n i (set_of (field_at d m x f)) (intact x here) other
            ∙ ap (λ k. list_any (λ k. k == i) (set_of (field_at d m k f))) (eqb-true x id same)
        | false ↦ λ same.
            none-mapped F (λ y. (structure.element_of d m x, structure.element_of d n y)) (set_of (field_at d m x f))
            (λ y. ap (λ t. t && (structure.element_of d n y == structure.element_of d n i)) (same-element (ids_of d m) x id here there ∙ same))
      ] refl)
      ∙ ap (λ t. t && hit) there

  entry-shown : (p : TBase) (v : Value) → IsBaseValueOf p v → IsBaseIntact d p (ids_in v) → IsEntry s st d p v (entry_of d (base_target p) v)
  entry-shown base.Bool v h k = (h.0, h.1, ap (entry_of d 0) h.1)
  entry-shown base.Int v h k = (h.0, h.1, ap (entry_of d 0) h.1)
  entry-shown base.Text v h k = (h.0, h.1, ap (entry_of d 0) h.1)
  entry-shown (base.Id m) v h k = (
    h.0,
    h.1,
    (let there : AreThere d m (h.0 ∷ []) = subst (λ (w : Value). AreThere d m (ids_in w)) h.1 k in there.0),
    ap (entry_of d m) h.1,
  )

  -- what a function has at a term that is a record
  at-record : (m : ℕ) (xs : List ℕ) (v : Value) (u : Term) → IsTermOf s st d xs (base.Id m) v u → (g : ℕ) (zs : List ℕ) → IsPrefix xs zs
      → entry_at st zs g u ≡ entry st g (structure.element_of d m (id_of v))
  at-record m xs v u it g zs q =
      let one = it zs q in
      ap (λ o. option_and_then (entry st g) (option_and_then element_of o)) one.3
      ∙ ap (λ i. entry st g (structure.element_of d m i)) (sym (ap id_of one.1))

  shown : (m f : ℕ) (t : TTy) → type_of s m f ≡ Some t → (xs : List ℕ) (v : Value) (u : Term) → IsTermOf s st d xs (base.Id m) v u
      → Means s st d xs t (field_at d m (id_of v) f) (Rattle.duty_meaning.specs.Cases.held m f u)
  shown m f (Plain p) h xs v u it =
      let at = it xs (prefix-itself xs) in
      let there : has_record d m (id_of v) ≡ true = ap (has_record d m) (ap id_of at.1) ∙ at.2 in
      let held = typed s d is m f (id_of v) (Plain p) h there in
      λ zs q.
      subst (λ (o : Option SVal). IsEntry s st d p (field_at d m (id_of v) f) o)
      (sym (at-record m xs v u it (function_of s m f) zs q ∙ function-entry m f (Plain p) (placed s m f (Plain p) h) refl (id_of v) there))
      (entry-shown p (field_at d m (id_of v) f) held.0 held.1)
  shown m f (Set n) h xs v u it =
      let at = it xs (prefix-itself xs) in
      let there : has_record d m (id_of v) ≡ true = ap (has_record d m) (ap id_of at.1) ∙ at.2 in
      let intact : (x : ℕ) → has_record d m x ≡ true → AreThere d n (set_of (field_at d m x f))
      = λ x here.
      let one = typed s d is m f x (Set n) h here in
      let value : field_at d m x f ≡ Ids one.0.0 = one.0.1 in
      subst (λ (w : Value). AreThere d n (set_of w)) (sym value) (subst (λ (w : Value). AreThere d n (ids_in w)) value one.1) in
      λ zs q i w other sign.
      let a = it zs q in
      let c = other zs (prefix-itself zs) in
      let right : c.0 ≡ i = let e : Id i ≡ Id c.0 = c.1 in cc in
      let here : has_record d n i ≡ true = ap (has_record d n) (sym right) ∙ c.2 in
      atom-truth st zs sign (has (relation_of s m f) u w)
      ∙ ap (same_truth sign)
      (ap2 (λ x y. both_pass (relates st (relation_of s m f)) (option_and_then element_of x) (option_and_then element_of y)) a.3 c.3
      ∙ ap2 (λ x y. relates st (relation_of s m f) (structure.element_of d m x) (structure.element_of d n y)) (sym (ap id_of a.1)) right
      ∙ related m f n (placed s m f (Set n) h) (id_of v) i there here intact)
  shown m f (Opt p) h xs v u it =
      let at = it xs (prefix-itself xs) in
      let there : has_record d m (id_of v) ≡ true = ap (has_record d m) (ap id_of at.1) ∙ at.2 in
      let held = typed s d is m f (id_of v) (Opt p) h there in
      let w : Value = field_at d m (id_of v) f in
      let g : ℕ = function_of s m f in
      let entry-is : (zs : List ℕ) → IsPrefix xs zs → entry_at st zs g u ≡ entry_of d (base_target p) w
      = λ zs q. at-record m xs v u it g zs q ∙ function-entry m f (Opt p) (placed s m f (Opt p) h) refl (id_of v) there in
      elim held.0 [
        | inl none ↦ inl (
          none,
          λ zs q sign.
              atom-truth st zs sign (present g u)
              ∙ ap (same_truth sign) (ap is_some (entry-is zs q) ∙ ap (λ x. is_some (entry_of d (base_target p) x)) none),
        )
        | inr some ↦
            let intact : IsBaseIntact d p (ids_in some.0) = subst (λ (x : Value). IsBaseIntact d p (ids_in x)) some.1 held.1 in
            let one = entry-shown p some.0 some.2 intact in
            let same : (zs : List ℕ) → IsPrefix xs zs → entry_at st zs g u ≡ entry_of d (base_target p) some.0
            = λ zs q. entry-is zs q ∙ ap (entry_of d (base_target p)) some.1 in
            inr (
              some.0,
              some.1,
              λ zs q sign. atom-truth st zs sign (present g u) ∙ ap (same_truth sign) (ap is_some (same zs q) ∙ is-entry p some.0 _ one),
              λ zs q. subst (λ (o : Option SVal). IsEntry s st d p some.0 o) (sym (same zs q)) one,
            )
      ]
    where
      is-entry : (p : TBase) (v : Value) (o : Option SVal) → IsEntry s st d p v o → is_some o ≡ true
      is-entry base.Bool v o k = ap is_some k.2
      is-entry base.Int v o k = ap is_some k.2
      is-entry base.Text v o k = ap is_some k.2
      is-entry (base.Id n) v o k = ap is_some k.3

  -- the ids of a model rise
  ids-rise : (m : ℕ) → HasModel s m → IsStrictlyIncreasing (ids_of d m)
  ids-rise m model =
      elim (model_of s m) as (λ (o : Option ModelInfo). model_of s m ≡ o → is_some o ≡ true → IsStrictlyIncreasing (ids_of d m)) [
        | None ↦ λ here e. cc
        | Some i ↦ λ here e.
            let table = find-among (HasTable d) (λ (u : ModelInfo). u.number == m) s.models i is.tables here in
            let number : i.number ≡ m = eqb-true _ _ (find-holds (λ (u : ModelInfo). u.number == m) s.models i here) in
            let at : table_of d m ≡ Some table.0 = ap (table_of d) (sym number) ∙ table.1 in
            subst IsStrictlyIncreasing (ap (λ o. map (λ (r : Record). r.id) (option_map_or (λ (t : Table). t.records) o [])) (sym at)) table.2.rising
      ] refl model

  pub sorted : (m : ℕ) → HasModel s m → size_of st (sort_of s m) ≡ length (ids_of d m)
  sorted m model =
      elim (model_of s m) as (λ (o : Option ModelInfo). model_of s m ≡ o → is_some o ≡ true → size_of st (sort_of s m) ≡ length (ids_of d m)) [
        | None ↦ λ here e. cc
        | Some i ↦ λ here e. found-index (λ n. n == m) (λ n. length (ids_of d n)) (model_numbers s.models) m 0 (number-found s.models m i here)
      ] refl model

  pub shows-itself : Shows s s nothing_written (structure_of s d) d d
  shows-itself = record {
    fields = shown;
    types = λ m f t h u. truth-of-type s m f t h;
    ids = λ m model. refl;
    sizes = sorted;
    elements = λ m model. rising-place (ids_of d m) (ids-rise m model);
  }
