-- The records of a structure's database rise, and each id was given.
use Rattle.std.proofs.Common.{◌≡◌, ℕ, suc, ◌<◌, List, [], ◌∷◌, map, refl, ap, sym, subst, arith}
use Rattle.std.specs.List.{AllByRecursion, range_with_len}
use Rattle.std.specs.List.Sorted.{IsStrictlyIncreasing}
use Rattle.type_schema.specs.Schema.{ModelInfo, Schema}
use Rattle.data_meaning.specs.Database.{Slot, Record, Table}
use Rattle.form_formula.specs.declared.structure.Structure.{Structure}
use Rattle.form_formula.specs.Truth.{size_of}
use Rattle.duty_meaning.specs.Structures.{sort_of}
use Rattle.data_records.specs.Rising.{AreRising, ids_by}
use Rattle.data_records.specs.Kept.{AreGiven}
use Rattle.check_witness.specs.Built.{built_record, built_table, built}
use Rattle.check_witness.proofs.Lists.{all-map, all-range, range-rises, increases}
use Rattle.check_witness.proofs.Looked.{made-ids}

pub map-twice : {A B C : Type 0} (f : B → C) (g : A → B) (xs : List A) → map f (map g xs) ≡ map (λ x. f (g x)) xs
map-twice f g [] = refl
map-twice f g (x ∷ xs) = ap (λ ys. f (g x) ∷ ys) (map-twice f g xs)

abbrev pub a-record : ℕ → List Slot → Record
a-record i a = record { id = i; slots = a }

abbrev pub a-table : ℕ → ℕ → List Record → Table
a-table m n a = record { model = m; next = n; records = a }

pub record-same : (i j : ℕ) (a b : List Slot) → i ≡ j → a ≡ b → a-record i a ≡ a-record j b
record-same i j a b e f = cc

pub table-same : (m n k : ℕ) (a b : List Record) → n ≡ k → a ≡ b → a-table m n a ≡ a-table m k b
table-same m n k a b e f = cc

module _ (s : Schema) (st : Structure) where
  table-rises : (m : ModelInfo) → IsStrictlyIncreasing (ids_by (built_table s st m).records)
  table-rises m =
      let n = size_of st (sort_of s m.number) in
      subst IsStrictlyIncreasing (sym (made-ids (built_record s st m) (λ x. refl) n 0)) (increases (range_with_len 1 n) (range-rises n 1))

  table-given : (m : ModelInfo) → AllByRecursion (λ (r : Record). r.id < (built_table s st m).next) (built_table s st m).records
  table-given m =
      let n = size_of st (sort_of s m.number) in
      all-map (λ (r : Record). r.id < suc n) (built_record s st m) (range_with_len 0 n)
      (all-range (λ x. suc x < suc n) n 0 (λ x low high. omega (arith, high)))

  rising-all : (models : List ModelInfo) → AreRising (map (built_table s st) models)
  rising-all [] = tt
  rising-all (m ∷ models) = (table-rises m, rising-all models)

  given-all : (models : List ModelInfo) → AreGiven (map (built_table s st) models)
  given-all [] = tt
  given-all (m ∷ models) = (table-given m, given-all models)

  pub built-rises : AreRising (built s st)
  built-rises = rising-all s.models

  pub built-given : AreGiven (built s st)
  built-given = given-all s.models
