-- What the parts of a witness name is there: it is a witness of the script in the sense in which a text tells it.
use Rattle.std.proofs.Common.{◌≡◌, ℕ, ◌+◌, ◌≤◌, cond, Bool, true, false, ◌||◌, List, [], ◌∷◌, map, refl, sym, ◌∙◌, ap, arith}
use Rattle.std.specs.Prelude.{Option, Some, None, is_some, ◌==◌}
use Rattle.std.specs.List.{list_any, AllByRecursion}
use Rattle.std.specs.Option.{option_map_or}
use Rattle.std.proofs.lemmas.Bool.{eqb-true}
use Rattle.type_schema.specs.declared.rights.Target.{Target}
use Rattle.type_schema.specs.declared.rights.Target.TheVariants as on
use Rattle.type_schema.specs.Schema.{ModelInfo, Schema, model_of, model_in, model_of_target}
use Rattle.type_schema.specs.Typing.{HasModel}
use Rattle.type_schema.specs.Proper.{model_numbers}
use Rattle.type_schema.specs.Script.{Script, schema_at}
use Rattle.data_meaning.specs.declared.principals.Principal.{Principal}
use Rattle.data_meaning.specs.declared.principals.Principal.TheVariants.{Static, Rec}
use Rattle.data_meaning.specs.Values.{last_id, IsId}
use Rattle.data_meaning.specs.Database.{Record, Table, Database, table_of, has_record, IsRecordIn, HasTable}
use Rattle.data_meaning.proofs.Finds.{find-among, find-holds}
use Rattle.data_meaning.specs.declared.cells.Cell.{Cell}
use Rattle.data_meaning.specs.Gain.{has_target}
use Rattle.data_back.specs.Printed.{IsStandard}
use Rattle.data_back.proofs.TablesRead.{some-one}
use Rattle.check_witness.specs.Witness.{Witness}
use Rattle.check_report_back.specs.Told.{IsTargetAt, IsPrincipalIn, IsCellAt, IsWitnessOf}
use Rattle.check_report_back.proofs.WitnessCuts.{some-of}
use Rattle.check_report_back.specs.Printed.{IsPrincipalOn, IsCellOn, IsWitnessOn}

-- the model of a table that is found
model-there : (models : List ModelInfo) (d : Database) (m : ℕ) (t : Table) → map (λ (u : Table). u.model) d ≡ model_numbers models → table_of d m ≡ Some t
    → is_some (model_in models m) ≡ true
model-there models [] m t order e = cc
model-there [] (u ∷ d) m t order e = cc
model-there (i ∷ models) (u ∷ d) m t order e =
    let same : u.model ≡ i.number = cc in
    let rest : map (λ (v : Table). v.model) d ≡ model_numbers models = cc in
    elim (i.number == m) as (λ (b : Bool). (i.number == m) ≡ b → is_some (cond b (Some i) (model_in models m)) ≡ true) [
      | true ↦ λ _. refl
      | false ↦ λ other. model-there models d m t rest (sym (ap (λ b. cond b (Some u) (table_of d m)) (ap (λ n. n == m) same ∙ other)) ∙ e)
    ] refl

any-is : (rows : List Record) (d : Database) (m : ModelInfo) (next id : ℕ) → next ≤ last_id + 1 → AllByRecursion (IsRecordIn d m next) rows
    → list_any (λ i. i == id) (map (λ (r : Record). r.id) rows) ≡ true → IsId id
any-is [] d m next id low all e = cc
any-is (r ∷ rows) d m next id low all e =
    elim (r.id == id) as (λ (b : Bool). (r.id == id) ≡ b → (b || list_any (λ i. i == id) (map (λ (r : Record). r.id) rows)) ≡ true → IsId id) [
      | true ↦ λ here _.
          let same : r.id ≡ id = eqb-true r.id id here in
          let first = all.0.first in
          let given = all.0.given in
          (omega (arith, same, first), omega (arith, same, given, low))
      | false ↦ λ _ later. any-is rows d m next id low all.1 later
    ] refl e

-- a record that is there is one of a model of the schema, with an id
pub record-there : (s : Schema) (d : Database) (m id : ℕ) → IsStandard s d → has_record d m id ≡ true → HasModel s m × IsId id
record-there s d m id is has =
    elim (table_of d m) as (λ (o : Option Table). table_of d m ≡ o
    → list_any (λ i. i == id) (map (λ (r : Record). r.id) (option_map_or (λ (t : Table). t.records) o [])) ≡ true → HasModel s m × IsId id) [
      | None ↦ λ _ h. cc
      | Some t ↦ λ found h.
          let there = model-there s.models d m t is.order found in
          let info = some-of (model_of s m) there in
          let number : info.0.number ≡ m = eqb-true info.0.number m (find-holds (λ (i : ModelInfo). i.number == m) s.models info.0 info.1) in
          let table : HasTable d info.0 = find-among (HasTable d) (λ (i : ModelInfo). i.number == m) s.models info.0 is.database.tables info.1 in
          let one : table.0 ≡ t = some-one (sym table.1 ∙ ap (table_of d) number ∙ found) in
          let rows = ap (λ (u : Table). list_any (λ i. i == id) (map (λ (r : Record). r.id) u.records)) one ∙ h in
          (there, any-is table.0.records d info.0 table.0.next id table.2.last table.2.records rows)
    ] refl has

module _ (t : Script) (d : Database) (is : IsStandard t.start d) where
  target-there : (k : ℕ) (target : Target) (row : ℕ) → has_target (schema_at t k) target ≡ true → has_record d (model_of_target target) row ≡ true → IsTargetAt t k target
  target-there k (on.Field m f) row target there = ((record-there t.start d m row is there).0, target)
  target-there k (on.Model m) row target there = (record-there t.start d m row is there).0

  who-there : (who : Principal) → IsPrincipalOn t d who → IsPrincipalIn t who
  who-there (Static n) there = there
  who-there (Rec m id) there = record-there t.start d m id is there

  cell-there : (k : ℕ) (cell : Option Cell) → IsCellOn t k d cell → IsCellAt t k cell
  cell-there k None there = tt
  cell-there k (Some cell) there =
      let row = record-there t.start d cell.model cell.id is there.1 in (row.0, there.0, row.1)

pub is-witness : (t : Script) (w : Witness) → IsWitnessOn t w → IsWitnessOf t w
is-witness t w is = record {
  command = is.command.last;
  target = target-there t w.base is.base w.command w.target w.row is.target is.row;
  base = is.base.database;
  order = is.base.order;
  row = (record-there t.start w.base (model_of_target w.target) w.row is.base is.row).1;
  who = who-there t w.base is.base w.who is.who;
  cell = cell-there t w.base is.base w.command w.cell is.cell;
}
