-- What is known of a record that an event does not mark stays so.
use Rattle.std.proofs.Common.{◌≡◌, ℕ, zero, suc, Bool, true, false, ◌&&◌, ◌||◌, List, [], ◌∷◌, ◌++◌, refl, ap, ◌∙◌, arith}
use Rattle.std.specs.Prelude.{Option, None, Some, ◌==◌, if◌then◌else◌}
use Rattle.std.specs.List.{list_any}
use Rattle.std.specs.Option.{option_map_or}
use Rattle.std.proofs.lemmas.Bool.{eqb-true}
use Rattle.type_schema.specs.Schema.{Added}
use Rattle.type_schema.specs.Commands.{add_field}
use Rattle.type_schema.specs.Script.{Script, count, schema_at, IsScript}
use Rattle.data_meaning.specs.declared.cells.Cell.{Cell}
use Rattle.data_meaning.specs.Values.{Value}
use Rattle.data_meaning.specs.Database.{Database, has_record, IsDatabase, HasNoFurtherTables}
use Rattle.data_meaning.specs.Run.{init_value, run_to, widened}
use Rattle.online_meaning.specs.Deep.{added_at, deep_cells}
use Rattle.online_meaning.specs.Marks.{RecordId, is_among, same_cell, any_added, slow_records}
use Rattle.online_meaning.specs.Events.{changed_by, marks_of}
use Rattle.online_meaning.specs.Laws.{ReadsAlike}
use Rattle.online_meaning.specs.Known.{added_values, KnowledgeStays}
use Rattle.online_meaning.proofs.Plain.{run-same-ids}
use Rattle.online_meaning.proofs.Switches.{adding}
use Rattle.online_meaning.proofs.Unmarked.{unmarked-alike, event-over, event-only}
use Rattle.online_meaning.proofs.Waits.{slow-is}

-- a slow record is there when a command comes that adds a field to its model
pub slow-there : (t : Script) → IsScript t → (d : Database) → IsDatabase (schema_at t 0) d → HasNoFurtherTables (schema_at t 0) d → (r : RecordId) → is_among r (slow_records t d) ≡ true
    → (k : ℕ) (a : Added) → added_at t k ≡ Some a → a.model ≡ r.model → has_record (run_to t k (widened t d)) a.model r.id ≡ true
slow-there t is d over only r slow k a here model =
    let add = adding t k a here in
    let asked = is.commands k (add_field a.model add.field a.init) add.here in
    let ids = run-same-ids t is d over only k (omega (arith, add.within)) a.model asked.0 in
    ap (λ (is : List ℕ). list_any (λ i. i == r.id) is) ids ∙ (ap (λ (m : ℕ). has_record d m r.id) model ∙ (slow-is t d r slow).1)

module _ (t : Script) (d e : Database) (r : RecordId)
    (alike : (k : ℕ) (a : Added) → added_at t k ≡ Some a → a.model ≡ r.model → ReadsAlike t d e k a r.id) where
  same-cells : (cell : Cell) (n : ℕ)
      → any_added t (λ k a. list_any (λ c. same_cell c cell) (deep_cells t d k a.init r.id)) r.model n ≡ any_added t (λ k a. list_any (λ c. same_cell c cell) (deep_cells t e k a.init r.id)) r.model n
  same-cells cell zero = refl
  same-cells cell (suc n) =
      ap (λ b. b || option_map_or (λ (a : Added). (a.model == r.model) && list_any (λ c. same_cell c cell) (deep_cells t d n a.init r.id)) (added_at t n) false) (same-cells cell n)
      ∙ ap (λ b. any_added t (λ k a. list_any (λ c. same_cell c cell) (deep_cells t e k a.init r.id)) r.model n || b) (last (added_at t n) refl)
    where
      last : (o : Option Added) → added_at t n ≡ o → option_map_or (λ (a : Added). (a.model == r.model) && list_any (λ c. same_cell c cell) (deep_cells t d n a.init r.id)) o false
          ≡ option_map_or (λ (a : Added). (a.model == r.model) && list_any (λ c. same_cell c cell) (deep_cells t e n a.init r.id)) o false
      last None here = refl
      last (Some a) here =
          elim (a.model == r.model) as (λ (b : Bool). (a.model == r.model) ≡ b
          → (b && list_any (λ c. same_cell c cell) (deep_cells t d n a.init r.id)) ≡ (b && list_any (λ c. same_cell c cell) (deep_cells t e n a.init r.id))) [
            | true ↦ λ own. ap (list_any (λ c. same_cell c cell)) (alike n a here (eqb-true a.model r.model own)).cells
            | false ↦ λ other. refl
          ] refl

  same-values : (n : ℕ) → added_values t d r n ≡ added_values t e r n
  same-values zero = refl
  same-values (suc n) =
      ap (λ (vs : List Value). vs ++ option_map_or (λ (a : Added). if a.model == r.model then init_value (run_to t n (widened t d)) a.init r.id ∷ [] else []) (added_at t n) []) (same-values n)
      ∙ ap (λ (vs : List Value). added_values t e r n ++ vs) (last (added_at t n) refl)
    where
      last : (o : Option Added) → added_at t n ≡ o → option_map_or (λ (a : Added). if a.model == r.model then init_value (run_to t n (widened t d)) a.init r.id ∷ [] else []) o []
          ≡ option_map_or (λ (a : Added). if a.model == r.model then init_value (run_to t n (widened t e)) a.init r.id ∷ [] else []) o []
      last None here = refl
      last (Some a) here =
          elim (a.model == r.model) as (λ (b : Bool). (a.model == r.model) ≡ b
          → (if b then init_value (run_to t n (widened t d)) a.init r.id ∷ [] else []) ≡ (if b then init_value (run_to t n (widened t e)) a.init r.id ∷ [] else [])) [
            | true ↦ λ own. ap (λ (v : Value). v ∷ []) (alike n a here (eqb-true a.model r.model own)).value
            | false ↦ λ other. refl
          ] refl

pub knowledge_stays : KnowledgeStays
knowledge_stays t is d over only e ok r slow unmarked reads values known =
    let after = changed_by (schema_at t 0) e d in
    let over' = event-over t is d over only e ok in
    let only' = event-only t is d over only e ok in
    let alike : (k : ℕ) (a : Added) → added_at t k ≡ Some a → a.model ≡ r.model → ReadsAlike t d after k a r.id
    = λ k a here model.
    unmarked-alike t is d over only e ok k a here r.id (slow-there t is after over' only' r slow k a here model)
    (ap (λ (m : ℕ). is_among (record { model = m; id = r.id }) (marks_of t e d)) model ∙ unmarked) in
    record {
      reads = λ cells some cell. known.reads cells some cell ∙ same-cells t d after r alike cell (count t);
      values = λ all some. known.values all some ∙ same-values t d after r alike (count t);
    }
