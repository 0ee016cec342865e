-- One command: what is added to records, and to tables.
use Rattle.std.proofs.Common.{◌≡◌, ℕ, Bool, true, false, List, [], ◌∷◌, ◌++◌, refl, ap, sym, ◌∙◌, subst, cond, map}
use Rattle.std.specs.Prelude.{Some, Result, Ok, Err, OnOk, ◌==◌, nat_eq, if◌then◌else◌}
use Rattle.std.specs.List.{AllByRecursion, IsDistinct, find}
use Rattle.std.specs.Option.{option_map_or}
use Rattle.std.proofs.lemmas.Bool.{eqb-false, eqb-true, ne_eqb}
use Rattle.data_meaning.specs.Values.{Value}
use Rattle.data_meaning.specs.Database.{Slot, Record, Table, Database, records_of}
use Rattle.data_meaning.specs.Run.{change_slots}
use Rattle.data_records.specs.Moved.{with_slots, with_slots_in, with_new_field}

module _ (m f : ℕ) (value : Record → Value) where
  abbrev more : Record → List Slot
  more r = r.slots ++ (record { field = f; value = value r }) ∷ []

  abbrev new_record : Record → Record
  new_record r = record r { slots = more r }

  abbrev new_table : Table → Table
  new_table t = if t.model == m then record t { records = map new_record t.records } else t

  each-more : (rs : List Record) → with_slots f (map value rs) rs ≡ map new_record rs
  each-more [] = refl
  each-more (r ∷ rs) = ap (λ us. new_record r ∷ us) (each-more rs)

  -- tables of other models
  others-stay : (d : Database) → AllByRecursion (λ k. nat_eq m k ≡ false) (map (λ (t : Table). t.model) d) → change_slots m more d ≡ d
  others-stay [] all = refl
  others-stay (t ∷ d) all =
      let differs : (t.model == m) ≡ false = ne_eqb t.model m (λ same. eqb-false m t.model all.0 (sym same)) in
      ap (λ (b : Bool). (if b then record t { records = map new_record t.records } else t) ∷ change_slots m more d) differs
      ∙ ap (λ us. t ∷ us) (others-stay d all.1)

  -- where no two tables are of one model, the first of the model is the only one
  pub added-to-each : (d : Database) → IsDistinct nat_eq (map (λ (t : Table). t.model) d)
      → with_new_field m f (map value (records_of d m)) d ≡ change_slots m more d
  unfolding IsDistinct
  added-to-each [] apart = refl
  added-to-each (t ∷ d) apart =
      elim (t.model == m) as (λ (b : Bool). (t.model == m) ≡ b
      → (let vs : List Value = map value (option_map_or (λ (u : Table). u.records) (cond b (Some t) (find (λ (u : Table). u.model == m) d)) []) in
      if b then with_slots_in f vs t ∷ d else t ∷ with_new_field m f vs d)
      ≡ (if b then record t { records = map new_record t.records } else t) ∷ change_slots m more d) [
        | true ↦ λ is.
            let same : t.model ≡ m = eqb-true _ _ is in
            let others = subst (λ k. AllByRecursion (λ j. nat_eq k j ≡ false) (map (λ (u : Table). u.model) d)) same apart.0 in
            ap (λ rs. record t { records = rs } ∷ d) (each-more t.records)
            ∙ ap (λ us. record t { records = map new_record t.records } ∷ us) (sym (others-stay d others))
        | false ↦ λ is. ap (λ us. t ∷ us) (added-to-each d apart.1)
      ] refl

pub on-ok-then : {T E P Q : Type 0} (r : Result T E) → (P → Q) → OnOk r P → OnOk r Q
on-ok-then (Ok x) step p = step p
on-ok-then (Err x) step p = tt
