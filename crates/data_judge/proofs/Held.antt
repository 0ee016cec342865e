-- Tables that are laid hold what is written, where no part breaks a rule.
use Rattle.std.proofs.Common.{◌≡◌, ℕ, ◌<◌, List, [], ◌∷◌, map, arith}
use Rattle.std.specs.Prelude.{nat_eq, None}
use Rattle.std.specs.List.{AllByRecursion}
use Rattle.std.specs.List.Sorted.{IsPermutation}
use Rattle.std.proofs.lemmas.List.Sorted.{IsPermutation-map, All-permutation}
use Rattle.std.proofs.lemmas.List.Elements.{All-from_recursion, recursion_from_All}
use Rattle.std.proofs.lemmas.Map.Keys.{IsDistinct-IsPermutation, IsStrictlyIncreasing-from_distinct}
use Rattle.type_schema.specs.Schema.{ModelInfo}
use Rattle.data_meaning.specs.Database.{Record, Table}
use Rattle.data_records.specs.Kept.{AreGiven}
use Rattle.data_records.specs.Rising.{AreRising}
use Rattle.data_tree.specs.declared.tables.TableLit.{TableLit}
use Rattle.data_judge.specs.First.{first_behind, pushed}
use Rattle.data_judge.specs.Faults.{table_fault}
use Rattle.data_judge.specs.Laid.{IsLaid, AreLaid}
use Rattle.data_judge.specs.Meaning.{Holds, AreHeld, next_for, records_for}
use Rattle.data_judge.proofs.Sound.{IsClean, clean}

pub same-flips : (a b : ℕ) → nat_eq a b ≡ nat_eq b a
same-flips a b = grind arith

pub all-moved : {A : Type 0} (P : A → Type 0) (xs ys : List A) → IsPermutation xs ys → AllByRecursion P xs → AllByRecursion P ys
all-moved P xs ys moved all = recursion_from_All P ys (All-permutation P xs ys moved (All-from_recursion P xs all))

holds : (ts : List TableLit) (m : ModelInfo) (t : Table) → IsClean ts m → IsLaid ts m t → Holds ts m t
holds ts m t is laid =
    let id = λ (r : Record). r.id in
    record {
      model = laid.model;
      next = laid.next;
      records = laid.records;
      rising = IsStrictlyIncreasing-from_distinct (map id t.records) laid.order
          (IsDistinct-IsPermutation nat_eq same-flips (map id (records_for ts m)) (map id t.records) (IsPermutation-map id (records_for ts m) t.records laid.records) is.apart);
    }

given : (ts : List TableLit) (m : ModelInfo) (t : Table) → IsClean ts m → IsLaid ts m t → AllByRecursion (λ (r : Record). r.id < t.next) t.records
given ts m t is laid =
    rw laid.next (all-moved (λ (r : Record). r.id < next_for ts m) (records_for ts m) t.records laid.records is.given)

module _ (models : List ModelInfo) (ts : List TableLit) (sound : first_behind (table_fault models) pushed [] ts ≡ None) where
  pub held : (ms : List ModelInfo) (d : List Table) → AreLaid ts ms d → AreHeld ts ms d
  held [] [] laid = tt
  held [] (t ∷ d) laid = absurd laid
  held (m ∷ ms) [] laid = absurd laid
  held (m ∷ ms) (t ∷ d) laid = (holds ts m t (clean models ts m sound) laid.0, held ms d laid.1)

  pub all-given : (ms : List ModelInfo) (d : List Table) → AreLaid ts ms d → AreGiven d
  all-given [] [] laid = tt
  all-given [] (t ∷ d) laid = absurd laid
  all-given (m ∷ ms) [] laid = absurd laid
  all-given (m ∷ ms) (t ∷ d) laid = (given ts m t (clean models ts m sound) laid.0, all-given ms d laid.1)

pub all-rising : (ts : List TableLit) (ms : List ModelInfo) (d : List Table) → AreHeld ts ms d → AreRising d
all-rising ts [] [] are = tt
all-rising ts [] (t ∷ d) are = absurd are
all-rising ts (m ∷ ms) [] are = absurd are
all-rising ts (m ∷ ms) (t ∷ d) are = (are.0.rising, all-rising ts ms d are.1)
