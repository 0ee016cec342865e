-- Sums over lists that were made from others.
use Rattle.std.proofs.Common.{◌≡◌, ℕ, ◌+◌, List, [], ◌∷◌, map, length, refl, sym, ◌∙◌, ap}
use Rattle.std.specs.List.{sum_by}
use Rattle.std.proofs.lemmas.List.{length-map}
use Rattle.std.proofs.lemmas.List.Sums.{sum_by-cons}
use Rattle.data_meaning.specs.Database.{Slot, Table}
use Rattle.data_records.specs.declared.record.Record as code_record
use Rattle.data_records.specs.declared.table.Table as code_table
use Rattle.data_records.specs.Views.{value_data, slot_data, record_data, table_data}
use Rattle.data_records.specs.Room.{weight_of, record_weight, record_count, total_weight}

pub sum_by_of_map : {A B : Type 0} (f : B → ℕ) (g : A → B) (xs : List A) → sum_by f (map g xs) ≡ sum_by (λ x. f (g x)) xs
sum_by_of_map f g [] = refl
sum_by_of_map f g (x ∷ xs) =
    sum_by-cons f (g x) (map g xs) ∙ ap (λ n. f (g x) + n) (sum_by_of_map f g xs) ∙ sym (sum_by-cons (λ y. f (g y)) x xs)

pub same_sums : {A : Type 0} (f g : A → ℕ) → ((x : A) → f x ≡ g x) → (xs : List A) → sum_by f xs ≡ sum_by g xs
same_sums f g same [] = refl
same_sums f g same (x ∷ xs) =
    sum_by-cons f x xs ∙ ap (λ n. n + sum_by f xs) (same x) ∙ ap (λ n. g x + n) (same_sums f g same xs) ∙ sym (sum_by-cons g x xs)

abbrev weighed : code_record.Record → ℕ
weighed r = sum_by (λ slot. weight_of (value_data slot.value)) r.slots

record_weighs : (r : code_record.Record) → record_weight (record_data r) ≡ weighed r
record_weighs r = sum_by_of_map (λ (slot : Slot). weight_of slot.value) slot_data r.slots

records_weigh : (rs : List code_record.Record) → sum_by record_weight (map record_data rs) ≡ sum_by weighed rs
records_weigh rs = sum_by_of_map record_weight record_data rs ∙ same_sums (λ (r : code_record.Record). record_weight (record_data r)) weighed record_weighs rs

pub tables_weigh : (ts : List code_table.Table)
    → total_weight (map table_data ts) ≡ sum_by (λ t. sum_by (λ r. sum_by (λ slot. weight_of (value_data slot.value)) r.slots) t.records.items) ts
tables_weigh ts =
    sum_by_of_map (λ (t : Table). sum_by record_weight t.records) table_data ts
    ∙ same_sums (λ (t : code_table.Table). sum_by record_weight (map record_data t.records.items)) (λ (t : code_table.Table). sum_by weighed t.records.items)
    (λ t. records_weigh t.records.items) ts

pub tables_count : (ts : List code_table.Table) → record_count (map table_data ts) ≡ sum_by (λ (t : code_table.Table). length t.records.items) ts
tables_count ts =
    sum_by_of_map (λ (t : Table). length t.records) table_data ts
    ∙ same_sums (λ (t : code_table.Table). length (map record_data t.records.items)) (λ (t : code_table.Table). length t.records.items) (λ t. length-map t.records.items record_data) ts
