-- What a database in memory keeps, it keeps when it is numbered anew.
use Rattle.std.proofs.Common.{◌≡◌, ℕ, ◌<◌, ◌+◌, List, [], ◌∷◌, ◌++◌, refl, ap, sym, ◌∙◌, subst, length, map, take, drop}
use Rattle.std.specs.List.{AllByRecursion, sum_by}
use Rattle.std.specs.List.Sorted.{IsStrictlyIncreasing}
use Rattle.std.proofs.lemmas.List.{length-map}
use Rattle.std.proofs.lemmas.List.Sums.{sum_by-cons}
use Rattle.type_schema.specs.Schema.{ModelInfo}
use Rattle.data_meaning.specs.Database.{Slot, Record, Table, Database}
use Rattle.data_records.specs.Kept.{AreGiven, IsKept}
use Rattle.data_records.specs.Renumbered.{new_field, numbered_by, record_numbered_by, renumbered_table}
use Rattle.data_records.specs.Rising.{AreRising, ids_by}
use Rattle.data_records.specs.Room.{weight_of, record_weight, record_count, total_weight}

module _ (number : ℕ → ℕ) where
  ids-same : (rs : List Record) → ids_by (map (record_numbered_by number) rs) ≡ ids_by rs
  ids-same [] = refl
  ids-same (r ∷ rs) = ap (λ ids. r.id ∷ ids) (ids-same rs)

  given-same : (next : ℕ) (rs : List Record) → AllByRecursion (λ (r : Record). r.id < next) rs → AllByRecursion (λ (r : Record). r.id < next) (map (record_numbered_by number) rs)
  given-same next [] all = tt
  given-same next (r ∷ rs) all = (all.0, given-same next rs all.1)

  slots-weigh : (slots : List Slot) → sum_by (λ (slot : Slot). weight_of slot.value) (map (numbered_by number) slots) ≡ sum_by (λ (slot : Slot). weight_of slot.value) slots
  slots-weigh [] = refl
  slots-weigh (slot ∷ slots) =
      sum_by-cons (λ (slot : Slot). weight_of slot.value) (numbered_by number slot) (map (numbered_by number) slots)
      ∙ ap (λ n. weight_of slot.value + n) (slots-weigh slots)
      ∙ sym (sum_by-cons (λ (slot : Slot). weight_of slot.value) slot slots)

  records-weigh : (rs : List Record) → sum_by record_weight (map (record_numbered_by number) rs) ≡ sum_by record_weight rs
  records-weigh [] = refl
  records-weigh (r ∷ rs) =
      sum_by-cons record_weight (record_numbered_by number r) (map (record_numbered_by number) rs)
      ∙ ap (λ n. n + sum_by record_weight (map (record_numbered_by number) rs)) (slots-weigh r.slots)
      ∙ ap (λ n. record_weight r + n) (records-weigh rs)
      ∙ sym (sum_by-cons record_weight r rs)

module _ (models : List ModelInfo) where
  rising-same : (d : Database) → AreRising d → AreRising (map (renumbered_table models) d)
  rising-same [] all = tt
  rising-same (t ∷ d) all = (subst IsStrictlyIncreasing (sym (ids-same (new_field models t.model) t.records)) all.0, rising-same d all.1)

  are-given : (d : Database) → AreGiven d → AreGiven (map (renumbered_table models) d)
  are-given [] all = tt
  are-given (t ∷ d) all = (given-same (new_field models t.model) t.next t.records all.0, are-given d all.1)

  count-same : (d : Database) → record_count (map (renumbered_table models) d) ≡ record_count d
  count-same [] = refl
  count-same (t ∷ d) =
      sum_by-cons (λ (u : Table). length u.records) (renumbered_table models t) (map (renumbered_table models) d)
      ∙ ap (λ n. n + record_count (map (renumbered_table models) d)) (length-map t.records (record_numbered_by (new_field models t.model)))
      ∙ ap (λ n. length t.records + n) (count-same d)
      ∙ sym (sum_by-cons (λ (u : Table). length u.records) t d)

  weight-same : (d : Database) → total_weight (map (renumbered_table models) d) ≡ total_weight d
  weight-same [] = refl
  weight-same (t ∷ d) =
      sum_by-cons (λ (u : Table). sum_by record_weight u.records) (renumbered_table models t) (map (renumbered_table models) d)
      ∙ ap (λ n. n + total_weight (map (renumbered_table models) d)) (records-weigh (new_field models t.model) t.records)
      ∙ ap (λ n. sum_by record_weight t.records + n) (weight-same d)
      ∙ sym (sum_by-cons (λ (u : Table). sum_by record_weight u.records) t d)

  pub kept-anew : (count weight : ℕ) (d : Database) → IsKept count weight d → IsKept count weight (map (renumbered_table models) d)
  kept-anew count weight d kept = record {
    rising = rising-same d kept.rising;
    given = are-given d kept.given;
    counted = kept.counted ∙ sym (count-same d);
    weighed = kept.weighed ∙ sym (weight-same d);
  }

-- what a slice of the whole list holds is the list
pub whole-again : {A : Type 0} (n : ℕ) (xs ys : List A) → length xs ≡ n → length ys ≡ n → take n (xs ++ drop (length xs) ys) ≡ xs
whole-again {A} n xs ys one other = ap (λ m. take m (xs ++ drop (length xs) ys)) (sym one) ∙ front xs (drop (length xs) ys)
  where
    front : (xs ys : List A) → take (length xs) (xs ++ ys) ≡ xs
    front [] ys = none ys
      where
        none : (ys : List A) → take 0 ys ≡ []
        none [] = refl
        none (y ∷ ys) = refl
    front (x ∷ xs) ys = ap (λ zs. x ∷ zs) (front xs ys)
