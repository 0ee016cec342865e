-- Trees in which no part breaks a rule write a database.
use Rattle.std.proofs.Common.{◌≡◌, ◌≢◌, sym, ◌⊎◌, inl, inr, ℕ, Bool, true, false, List, [], ◌∷◌, map, refl, ap, subst}
use Rattle.std.specs.Prelude.{Option, None, Some, nat_eq, nat_lt, if◌then◌else◌}
use Rattle.std.specs.List.{AllByRecursion, IsDistinct}
use Rattle.std.specs.List.Sorted.{IsPermutation}
use Rattle.std.proofs.lemmas.List.Sorted.{IsPermutation-refl, IsPermutation-trans, IsPermutation-cons, IsPermutation-middle, IsPermutation-map}
use Rattle.std.proofs.lemmas.Map.Keys.{IsStrictlyIncreasing-from_sorted}
use Rattle.type_schema.specs.Schema.{ModelInfo, Schema}
use Rattle.data_meaning.specs.Database.{Record, Table, Database}
use Rattle.data_records.specs.declared.data_err.Limit.{Limit}
use Rattle.data_tree.specs.declared.tables.TableLit.{TableLit}
use Rattle.data_judge.specs.declared.fault.Fault.{Fault}
use Rattle.data_judge.specs.declared.fault.Refusal.{Refusal}
use Rattle.data_judge.specs.declared.fault.Refusal.TheVariants as refusal
use Rattle.data_judge.specs.declared.limits.Limits.{Limits}
use Rattle.data_judge.specs.First.{first_behind, pushed}
use Rattle.data_judge.specs.Faults.{rule_fault, table_fault}
use Rattle.data_judge.specs.Judged.{IsGiven, IsRefusedFor}
use Rattle.data_judge.specs.Limits.{excess}
use Rattle.data_judge.specs.Meaning.{AreHeld, next_for, records_for, with_number}
use Rattle.data_judge.specs.References.{lost}
use Rattle.data_judge.proofs.Held.{all-moved}
use Rattle.data_judge.proofs.Sets.{Rises, rises-with, sorted}
use Rattle.data_judge.proofs.Sound.{clean}

abbrev id : Record → ℕ
id r = r.id

-- a record at its place
abbrev placed : Record → List Record → List Record
placed r [] = r ∷ []
placed r (x ∷ xs) = if nat_lt r.id x.id then r ∷ x ∷ xs else x ∷ placed r xs

placed-moved : (r : Record) (xs : List Record) → IsPermutation (r ∷ xs) (placed r xs)
placed-moved r [] = IsPermutation-refl (r ∷ [])
placed-moved r (x ∷ xs) =
    elim (nat_lt r.id x.id) as (λ (b : Bool). IsPermutation (r ∷ x ∷ xs) (if b then r ∷ x ∷ xs else x ∷ placed r xs)) [
      | true ↦ IsPermutation-refl (r ∷ x ∷ xs)
      | false ↦ IsPermutation-trans (r ∷ x ∷ xs) (x ∷ r ∷ xs) (x ∷ placed r xs) (IsPermutation-middle (r ∷ []) x xs)
          (IsPermutation-cons x (r ∷ xs) (placed r xs) (placed-moved r xs))
    ]

placed-ids : (r : Record) (xs : List Record) → AllByRecursion (λ k. nat_eq r.id k ≡ false) (map id xs) → map id (placed r xs) ≡ with_number (map id xs) r.id
placed-ids r [] others = refl
placed-ids r (x ∷ xs) others =
    elim (nat_lt r.id x.id) as (λ (b : Bool). nat_lt r.id x.id ≡ b → map id (placed r (x ∷ xs)) ≡ with_number (map id (x ∷ xs)) r.id) [
      | true ↦ λ e. rw e refl
      | false ↦ λ e. rw (e, others.0) (ap (λ ns. x.id ∷ ns) (placed-ids r xs others.1))
    ] refl

record InOrder (xs : List Record) : Type 0 where
  records : List Record
  moved : IsPermutation xs records
  rises : Rises (map id records)

in-order : (xs : List Record) → IsDistinct nat_eq (map id xs) → InOrder xs
unfolding IsDistinct
in-order [] apart = record { records = []; moved = IsPermutation-refl []; rises = tt }
in-order (x ∷ xs) apart =
    let rest = in-order xs apart.1 in
    let others = all-moved (λ k. nat_eq x.id k ≡ false) (map id xs) (map id rest.records) (IsPermutation-map id xs rest.records rest.moved) apart.0 in
    record {
      records = placed x rest.records;
      moved = IsPermutation-trans (x ∷ xs) (x ∷ rest.records) (placed x rest.records) (IsPermutation-cons x xs rest.records rest.moved) (placed-moved x rest.records);
      rises = subst Rises (sym (placed-ids x rest.records others)) (rises-with (map id rest.records) x.id rest.rises);
    }

module _ (models : List ModelInfo) (ts : List TableLit) (sound : first_behind (table_fault models) pushed [] ts ≡ None) where
  some-held : (ms : List ModelInfo) → (d : Database) × AreHeld ts ms d
  some-held [] = ([], tt)
  some-held (m ∷ ms) =
      let rest = some-held ms in
      let o = in-order (records_for ts m) (clean models ts m sound).apart in
      let t : Table = record { model = m.number; next = next_for ts m; records = o.records } in (
        t ∷ rest.0,
        (record { model = refl; next = refl; records = o.moved; rising = IsStrictlyIncreasing-from_sorted (map id o.records) (sorted (map id o.records) o.rises) }, rest.1),
      )

module _ (limits : Limits) (s : Schema) (ts : List TableLit) where
  abbrev pub Judgement : Type 0
  Judgement = ((d : Database) × IsGiven limits s ts d) ⊎ ((r : Refusal) × (r ≢ refusal.OutOfMemory) × IsRefusedFor limits s ts r)

  within : (d : Database) (e : Option Limit) → rule_fault s ts ≡ None → AreHeld ts s.models d → lost s d ts ≡ None → excess limits d ≡ e → Judgement
  within d None sound held found is = inl (d, record { reads = record { writes = record { sound = sound; held = held }; found = found }; within = is })
  within d (Some what) sound held found is = inr (refusal.Full what, (λ e. cc), (d, record { writes = record { sound = sound; held = held }; found = found }, is))

  named : (d : Database) (o : Option ℕ) → rule_fault s ts ≡ None → AreHeld ts s.models d → lost s d ts ≡ o → Judgement
  named d None sound held is = within d (excess limits d) sound held is refl
  named d (Some at) sound held is = inr (refusal.Dangling at, (λ e. cc), (d, record { sound = sound; held = held }, is))

  broken : (o : Option Fault) → rule_fault s ts ≡ o → Judgement
  broken None is = let (d, held) = some-held s.models ts is s.models in named d (lost s d ts) is held refl
  broken (Some f) is = inr (refusal.Broken f, (λ e. cc), is)

  pub some-judgement : Judgement
  some-judgement = broken (rule_fault s ts) refl
