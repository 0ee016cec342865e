-- Records that rise are found where they stand, so those that are shown are those whose ids are.
use Rattle.std.proofs.Common.{◌≡◌, ℕ, Bool, true, false, ◌&&◌, cond, List, [], ◌∷◌, refl, ap, sym, ◌∙◌, arith, map}
use Rattle.std.specs.Prelude.{filter, ◌==◌, Option, Some, option_map}
use Rattle.std.specs.List.{find, list_all, AllByRecursion}
use Rattle.std.specs.List.Sorted.{IsStrictlyIncreasing, IsStrictlySortedBy}
use Rattle.std.specs.Ordering.{nat_cmp}
use Rattle.std.specs.declared.cmp.Ordering.TheVariants.{Less}
use Rattle.std.proofs.lemmas.Bool.{eq-eqb}
use Rattle.std.proofs.lemmas.Bool.Decides.{nat_tests}
use Rattle.std.proofs.lemmas.Map.Keys.{sorted_from_strictly_increasing}
use Rattle.data_meaning.specs.declared.principals.Principal.{Principal}
use Rattle.data_meaning.specs.Database.{Database, Record, records_of, slots_of}
use Rattle.data_members.proofs.Finds.{found-slots}
use Rattle.data_members.proofs.Loops.{ids-seen}
use Rattle.data_records.specs.declared.record.Record as code_record
use Rattle.data_records.specs.Views.{record_data}
use Rattle.data_records.proofs.Searches.{find-seen}
use Rattle.door_meaning.specs.Conditions.{Test, found_ids, is_shown, may}
use Rattle.door_judge.specs.Tests.{is_shown_at, meets_all, meets_in, may_read_all}

abbrev id_is : ℕ → code_record.Record → Bool
id_is id r = r.id == id

abbrev ids_by : List code_record.Record → List ℕ
ids_by rs = map (λ (r : code_record.Record). r.id) rs

differs : (a b : ℕ) → nat_cmp a b ≡ Less → (a == b) ≡ false
differs a b less = grind (arith, nat_tests)

found-later : (r : code_record.Record) (all rs : List code_record.Record) → AllByRecursion (λ id. nat_cmp r.id id ≡ Less) (ids_by rs)
    → AllByRecursion (λ (u : code_record.Record). find (id_is u.id) all ≡ Some u) rs
    → AllByRecursion (λ (u : code_record.Record). find (id_is u.id) (r ∷ all) ≡ Some u) rs
found-later r all [] above found = tt
found-later r all (u ∷ rs) above found = (
  ap (λ b. cond b (Some r) (find (id_is u.id) all)) (differs r.id u.id above.0) ∙ found.0,
  found-later r all rs above.1 found.1,
)

-- each is the first that has its id
each-found : (rs : List code_record.Record) → IsStrictlySortedBy nat_cmp (ids_by rs) → AllByRecursion (λ (r : code_record.Record). find (id_is r.id) rs ≡ Some r) rs
unfolding IsStrictlySortedBy
each-found [] up = tt
each-found (r ∷ rs) up = (
  ap (λ b. cond b (Some r) (find (id_is r.id) rs)) (eq-eqb r.id r.id refl),
  found-later r rs rs up.0 (each-found rs up.1),
)

-- the ids of those that pass one test are those of all ids that pass another
filtered-ids : (p : code_record.Record → Bool) (q : ℕ → Bool) (rs : List code_record.Record) → AllByRecursion (λ (r : code_record.Record). q r.id ≡ p r) rs
    → ids_by (filter p rs) ≡ filter q (ids_by rs)
filtered-ids p q [] same = refl
filtered-ids p q (r ∷ rs) same =
    elim (p r) as (λ (b : Bool). ids_by (cond b (r ∷ filter p rs) (filter p rs)) ≡ cond b (r.id ∷ filter q (ids_by rs)) (filter q (ids_by rs))) [
      | true ↦ ap (λ ns. r.id ∷ ns) (filtered-ids p q rs same.1)
      | false ↦ filtered-ids p q rs same.1
    ]
    ∙ ap (λ b. cond b (r.id ∷ filter q (ids_by rs)) (filter q (ids_by rs))) (sym same.0)

turned : (a b c e : Bool) → (a && b) && (c && e) ≡ (a && c) && (b && e)
turned true true c e = refl
turned true false true e = refl
turned true false false e = refl
turned false b c e = refl

-- both tests pass everywhere where each passes everywhere
pub all-both : {A : Type 0} (p q : A → Bool) (xs : List A) → list_all (λ x. p x && q x) xs ≡ (list_all p xs && list_all q xs)
all-both p q [] = refl
all-both p q (x ∷ xs) = ap (λ b. (p x && q x) && b) (all-both p q xs) ∙ turned (p x) (q x) (list_all p xs) (list_all q xs)

module _ (d : Database) (m : ℕ) (who : Option Principal) (tests : List Test) where
  abbrev shown : code_record.Record → Bool
  shown r = is_shown_at d who tests (record_data r)

  agrees : (all : List code_record.Record) → map record_data all ≡ records_of d m → (r : code_record.Record) → find (id_is r.id) all ≡ Some r
      → list_all (is_shown d m who r.id) tests ≡ shown r
  agrees all same r is =
      let found : find (λ (u : Record). u.id == r.id) (records_of d m) ≡ Some (record_data r)
      = ap (find (λ (u : Record). u.id == r.id)) (sym same) ∙ find-seen (λ (u : Record). u.id == r.id) record_data all ∙ ap (option_map record_data) is in
      all-both (meets_in (slots_of d m r.id)) (λ (t : Test). may d t.field.read r.id who) tests
      ∙ ap (λ slots. meets_all tests slots && may_read_all d who tests r.id) (found-slots d m r.id (record_data r) found)

  all-agree : (all rs : List code_record.Record) → map record_data all ≡ records_of d m → AllByRecursion (λ (r : code_record.Record). find (id_is r.id) all ≡ Some r) rs
      → AllByRecursion (λ (r : code_record.Record). list_all (is_shown d m who r.id) tests ≡ shown r) rs
  all-agree all [] same found = tt
  all-agree all (r ∷ rs) same found = (agrees all same r found.0, all-agree all rs same found.1)

  -- those of all records that are shown
  pub shown-found : (rs : List code_record.Record) → map record_data rs ≡ records_of d m → IsStrictlyIncreasing (ids_by rs)
      → ids_by (filter shown rs) ≡ found_ids d m who tests
  shown-found rs same up =
      filtered-ids shown (λ id. list_all (is_shown d m who id) tests) rs (all-agree rs rs same (each-found rs (sorted_from_strictly_increasing (ids_by rs) up)))
      ∙ ap (filter (λ id. list_all (is_shown d m who id) tests)) (sym (ids-seen rs) ∙ ap (map (λ (r : Record). r.id)) same)
