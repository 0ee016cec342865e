-- Records that hold what an equality on references asks.
use Rattle.std.proofs.Common.{◌≡◌, ℕ, zero, suc, ◌<◌, Bool, true, false, ◌&&◌, ◌||◌, cond, List, [], ◌∷◌, refl, ap, sym, ◌∙◌, arith, get_or, length, map}
use Rattle.std.specs.Prelude.{filter, ◌==◌, Option, Some}
use Rattle.std.specs.List.{find, list_all, list_any, AllByRecursion}
use Rattle.std.proofs.lemmas.Bool.{eq-eqb, eqb-true}
use Rattle.text_tree.specs.declared.exprs.CmpOp.TheVariants.{Eq}
use Rattle.text_tree.specs.declared.exprs.FilterOp.TheVariants.{Cmp}
use Rattle.data_meaning.specs.declared.principals.Principal.{Principal}
use Rattle.data_meaning.specs.Database.{Database, Record, field_at, has_record, ids_of, records_of, slots_of}
use Rattle.data_meaning.specs.Meaning.{are_equal}
use Rattle.data_meaning.specs.Values.{Value, Flag, Num, Str, Id, Ids, Nothing, Just}
use Rattle.data_members.proofs.Finds.{found-slots, found-there}
use Rattle.door_meaning.specs.Conditions.{Test, found_ids, is_shown, may, meets, same_value}
use Rattle.data_records.specs.Views.{value_data}
use Rattle.door_judge.specs.declared.conditions.Test as code
use Rattle.door_judge.specs.Tests.{IsEquality, IsNeeded, is_shown_at, is_there_and_shown, meets_all, meets_in, may_read_all, test_data}
use Rattle.door_judge.proofs.Shown.{all-both}

-- ---- a test that all have to pass

same-equal : (v : Value) (id : ℕ) → same_value v (Id id) ≡ are_equal v (Id id)
same-equal (Flag b) id = refl
same-equal (Num n) id = refl
same-equal (Str bytes) id = refl
same-equal (Id i) id = refl
same-equal (Ids ids) id = refl
same-equal Nothing id = refl
same-equal (Just v) id = refl

both-first : (a b : Bool) → (a && b) ≡ true → a ≡ true
both-first true b h = refl
both-first false b h = h

both-second : (a b : Bool) → (a && b) ≡ true → b ≡ true
both-second true b h = h
both-second false b h = absurd (let never : ⊥ = cc in never)

all-at : {A B : Type 0} (p : B → Bool) (f : A → B) (xs : List A) (i : ℕ) (d : A) → i < length xs → list_all p (map f xs) ≡ true → p (f (get_or xs i d)) ≡ true
all-at p f [] i d below all = absurd (omega (arith, below))
all-at p f (x ∷ xs) zero d below all = both-first (p (f x)) (list_all p (map f xs)) all
all-at p f (x ∷ xs) (suc i) d below all = all-at p f xs i d (omega (arith, below)) (both-second (p (f x)) (list_all p (map f xs)) all)

pub needed-at : (tests : List code.Test) (i : ℕ) (t : code.Test) (f id : ℕ) → i < length tests → t ≡ get_or tests i t → IsEquality (test_data t) f id → IsNeeded (map test_data tests) f id
needed-at tests i t f id below at is held all =
    let asks = λ (u : Test). meets u.op (held u.field.number) u.value in
    let n = t.field.now.number in
    let passes : asks (test_data t) ≡ true = ap (λ u. asks (test_data u)) at ∙ all-at asks test_data tests i t below all in
    ap (λ m. are_equal (held m) (Id id)) (sym is.field)
    ∙ sym (same-equal (held n) id) ∙ ap (λ v. meets (Cmp Eq) (held n) v) (sym is.value) ∙ ap (λ o. meets o (held n) (value_data t.value)) (sym is.op) ∙ passes

-- ---- those that are left of few

there-later : (x : ℕ) (all xs : List ℕ) → AllByRecursion (λ u. list_any (λ i. i == u) all ≡ true) xs → AllByRecursion (λ u. list_any (λ i. i == u) (x ∷ all) ≡ true) xs
there-later x all [] there = tt
there-later x all (u ∷ xs) there = (or-true (x == u) (list_any (λ i. i == u) all) there.0, there-later x all xs there.1)
  where
    or-true : (a b : Bool) → b ≡ true → (a || b) ≡ true
    or-true true b h = refl
    or-true false b h = h

all-there : (xs : List ℕ) → AllByRecursion (λ u. list_any (λ i. i == u) xs ≡ true) xs
all-there [] = tt
all-there (x ∷ xs) = (ap (λ b. b || list_any (λ i. i == x) xs) (eq-eqb x x refl), there-later x xs xs (all-there xs))

-- a filter loses nothing that another one keeps
narrowed : (there kept shown : ℕ → Bool) (xs : List ℕ) → AllByRecursion (λ x. there x ≡ true) xs → ((x : ℕ) → shown x ≡ true → kept x ≡ true)
    → filter (λ x. there x && shown x) (filter kept xs) ≡ filter shown xs
narrowed there kept shown [] here keeps = refl
narrowed there kept shown (x ∷ xs) here keeps =
    let rest = narrowed there kept shown xs here.1 keeps in
    let both = λ (y : ℕ). there y && shown y in
    elim (kept x) as (λ (k : Bool). kept x ≡ k → filter both (cond k (x ∷ filter kept xs) (filter kept xs)) ≡ cond (shown x) (x ∷ filter shown xs) (filter shown xs)) [
      | true ↦ λ is. ap (λ t. cond (t && shown x) (x ∷ filter both (filter kept xs)) (filter both (filter kept xs))) here.0 ∙ ap (λ ys. cond (shown x) (x ∷ ys) ys) rest
      | false ↦ λ is. rest ∙ sym (ap (λ b. cond b (x ∷ filter shown xs) (filter shown xs)) (hidden is))
    ] refl
  where
    hidden : kept x ≡ false → shown x ≡ false
    hidden is =
        elim (shown x) as (λ (b : Bool). shown x ≡ b → b ≡ false) [
          | true ↦ λ h. let k = keeps x h in cc
          | false ↦ λ h. refl
        ] refl

module _ (d : Database) (m : ℕ) (who : Option Principal) (tests : List Test) where
  abbrev shown : ℕ → Bool
  shown id = list_all (is_shown d m who id) tests

  -- what is shown passes each test
  shown-passes : (id : ℕ) → shown id ≡ true → list_all (λ (t : Test). meets t.op (field_at d m id t.field.number) t.value) tests ≡ true
  shown-passes id h =
      both-first (list_all (λ (t : Test). meets t.op (field_at d m id t.field.number) t.value) tests) (may_read_all d who tests id)
      (sym (all-both (λ (t : Test). meets t.op (field_at d m id t.field.number) t.value) (λ (t : Test). may d t.field.read id who) tests) ∙ h)

  pub keyed-found : (f key : ℕ) → IsNeeded tests f key
      → filter (λ id. is_there_and_shown d m who tests id) (filter (λ i. are_equal (field_at d m i f) (Id key)) (ids_of d m)) ≡ found_ids d m who tests
  keyed-found f key needed =
      narrowed (has_record d m) (λ i. are_equal (field_at d m i f) (Id key)) shown (ids_of d m) (all-there (ids_of d m)) (λ id h. needed (field_at d m id) (shown-passes id h))

  -- ---- the record of an id

  has-id : (rs : List Record) (id : ℕ) (r : Record) → find (λ (u : Record). u.id == id) rs ≡ Some r → r.id ≡ id
  has-id [] id r is = absurd (let never : ⊥ = cc in never)
  has-id (u ∷ rs) id r is =
      elim (u.id == id) as (λ (b : Bool). (u.id == id) ≡ b → cond b (Some u) (find (λ (v : Record). v.id == id) rs) ≡ Some r → r.id ≡ id) [
        | true ↦ λ e h. let same : u ≡ r = cc in ap (λ (v : Record). v.id) (sym same) ∙ eqb-true u.id id e
        | false ↦ λ e h. has-id rs id r h
      ] refl is

  pub shown-there : (id : ℕ) (r : Record) → find (λ (u : Record). u.id == id) (records_of d m) ≡ Some r → is_shown_at d who tests r ≡ is_there_and_shown d m who tests id
  shown-there id r is =
      ap (λ i. meets_all tests r.slots && may_read_all d who tests i) (has-id (records_of d m) id r is)
      ∙ ap (λ slots. meets_all tests slots && may_read_all d who tests id) (sym (found-slots d m id r is))
      ∙ sym (all-both (meets_in (slots_of d m id)) (λ (t : Test). may d t.field.read id who) tests)
      ∙ ap (λ b. b && shown id) (sym (found-there d m id r is))
