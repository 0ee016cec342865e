-- Runs from two databases that agree on what an initialiser reads deeply.
use Rattle.std.proofs.Common.{◌≡◌, ℕ, zero, suc, ◌<◌, ◌≤◌, Bool, true, false, ◌&&◌, List, ◌++◌, refl, ap, sym, ◌∙◌, subst, arith}
use Rattle.std.specs.Prelude.{Option, None, Some, ◌==◌, option_and_then, if◌then◌else◌}
use Rattle.std.specs.List.{flat_map}
use Rattle.std.specs.Option.{option_map_or}
use Rattle.std.proofs.lemmas.Bool.{eqb-true}
use Rattle.type_schema.specs.Trees.{Init}
use Rattle.type_schema.specs.Schema.{Added, FieldInfo, Schema}
use Rattle.type_schema.specs.Typing.{HasModel, IsInit}
use Rattle.type_schema.specs.Proper.{IsProper}
use Rattle.type_schema.specs.Commands.{Command, create_model, delete_model, add_static, remove_static, add_principal, add_field, remove_field, update_field, weaken_field, update_model, weaken_model, schema_after}
use Rattle.type_schema.specs.Script.{Script, count, schema_at, command_at, IsScript}
use Rattle.type_schema.specs.Uses.{Use, init_uses_of}
use Rattle.data_meaning.specs.declared.cells.Cell.{Cell}
use Rattle.data_meaning.specs.Values.{Value}
use Rattle.data_meaning.specs.Database.{Database, ids_of, has_record, field_at, IsDatabase, HasNoFurtherTables}
use Rattle.data_meaning.specs.Touched.{init_touched}
use Rattle.data_meaning.specs.Run.{init_value, after_command, after_if_any, run_to, widened}
use Rattle.data_meaning.specs.Agreeing.{IsSameCell, AreSameCells}
use Rattle.data_meaning.proofs.Carried.{all-front, all-behind, all-of, all-both}
use Rattle.data_meaning.proofs.Runs.{keeps}
use Rattle.data_meaning.proofs.Widened.{starts}
use Rattle.data_meaning.proofs.Tests.{and-left, and-right}
use Rattle.online_meaning.specs.Finds.{init_finds_of}
use Rattle.online_meaning.specs.Settled.{HaveSameRecords}
use Rattle.online_meaning.specs.Deep.{added_by, is_field, sources, deep_cells, finds_behind, deep_finds}
use Rattle.online_meaning.proofs.Ranges.{each-of-flat, flat-same}
use Rattle.online_meaning.proofs.Settled.{of-init}
use Rattle.online_meaning.proofs.Touching.{Fits, init-fits}
use Rattle.online_meaning.proofs.Widening.{wide-ids, wide-has, wide-field}
use Rattle.online_meaning.proofs.Commands.{ids-same, Stays, stays-after, there-before, field-same-deleted, field-same-removed, field-same-beside, field-added, type-added}

abbrev pub use_of : Cell → Use
use_of cell = record { model = cell.model; field = cell.field }

abbrev pub cell_in : Database → Cell → Value
cell_in d cell = field_at d cell.model cell.id cell.field

abbrev pub IsThere : Database → Cell → Type 0
IsThere d cell = has_record d cell.model cell.id ≡ true

-- ---- a database goes along a script

module _ (t : Script) (is : IsScript t) (d : Database) (over : IsDatabase (schema_at t 0) d) (only : HasNoFurtherTables (schema_at t 0) d) where
  pub run-over : (k : ℕ) → k ≤ count t → IsDatabase (schema_at t k) (run_to t k (widened t d))
  run-over k within = keeps t is (widened t d) (starts t is d over only) k within

-- a record that stays from one database to another does so along the script
pub run-stays : (t : Script) (d e : Database) (m id : ℕ) → Stays d e m id → (k : ℕ) → Stays (run_to t k (widened t d)) (run_to t k (widened t e)) m id
run-stays t d e m id stays zero h = wide-has t e m id ∙ stays (sym (wide-has t d m id) ∙ h)
run-stays t d e m id stays (suc k) h =
    stays-after (command_at t k) (run_to t k (widened t d)) (run_to t k (widened t e)) m id (run-stays t d e m id stays k) h

-- a record that is there after k commands was there at first
pub there-first : (t : Script) (d : Database) (m id : ℕ) (k : ℕ) → has_record (run_to t k (widened t d)) m id ≡ true → has_record d m id ≡ true
there-first t d m id zero h = sym (wide-has t d m id) ∙ h
there-first t d m id (suc k) h = there-first t d m id k (there-before (command_at t k) (run_to t k (widened t d)) m id h)

-- what a command says of the sources and of the models behind a field
abbrev pub sources_with : Script → Database → ℕ → Option Command → Cell → List Cell
sources_with t d k o cell =
    option_map_or (λ (a : Added).
    if is_field a cell.model cell.field then flat_map (sources t d k) (init_touched (run_to t k (widened t d)) a.init cell.id) else sources t d k cell)
    (option_and_then added_by o) (sources t d k cell)

abbrev finds_with : Script → ℕ → Option Command → Use → List ℕ
finds_with t k o u =
    option_map_or (λ (a : Added).
    if is_field a u.model u.field then init_finds_of a.init ++ flat_map (finds_behind t k) (init_uses_of a.init) else finds_behind t k u)
    (option_and_then added_by o) (finds_behind t k u)

-- ---- two databases, of which the other has at least the records of the first

module _ (t : Script) (is : IsScript t) (d e : Database) (over : IsDatabase (schema_at t 0) d) (only : HasNoFurtherTables (schema_at t 0) d)
    (over' : IsDatabase (schema_at t 0) e) (only' : HasNoFurtherTables (schema_at t 0) e) (more : (m id : ℕ) → Stays d e m id) where
  abbrev D : ℕ → Database
  D k = run_to t k (widened t d)

  abbrev E : ℕ → Database
  E k = run_to t k (widened t e)

  run-more : (k m id : ℕ) → Stays (D k) (E k) m id
  run-more k m id = run-stays t d e m id (more m id) k

  run-ids : (k m : ℕ) → ids_of d m ≡ ids_of e m → ids_of (D k) m ≡ ids_of (E k) m
  run-ids zero m h = wide-ids t d m ∙ h ∙ sym (wide-ids t e m)
  run-ids (suc k) m h = ids-same (command_at t k) (D k) (E k) m (run-ids k m h)

  -- the cell holds the same after k commands, and is made from the same
  abbrev Agrees : ℕ → Cell → Type 0
  Agrees k cell = (cell_in (D k) cell ≡ cell_in (E k) cell) × (sources t d k cell ≡ sources t e k cell)

  abbrev AgreeAt : ℕ → Type 0
  AgreeAt k = (cell : Cell) → IsThere (D k) cell → AreSameCells d e (sources t d k cell) → HaveSameRecords d e (finds_behind t k (use_of cell)) → Agrees k cell

  -- an initialiser
  module _ (k : ℕ) (within : k < count t) (n : ℕ) (g : FieldInfo) (init : Init) (here : command_at t k ≡ Some (add_field n g init)) (before : AgreeAt k) where
    abbrev s : Schema
    s = schema_at t k

    type-is : HasModel s n × (g.number ≡ s.next_field) × IsInit s n g.ty init
    type-is = is.commands k (add_field n g init) here

    after-proper : IsProper (schema_after s (add_field n g init))
    after-proper = subst IsProper (is.steps k (add_field n g init) here) (is.proper (suc k) (omega (arith, within)))

    init-agrees : (id : ℕ) → has_record (D k) n id ≡ true → AreSameCells d e (deep_cells t d k init id) → HaveSameRecords d e (deep_finds t k init)
        → (init_value (D k) init id ≡ init_value (E k) init id) × (deep_cells t d k init id ≡ deep_cells t e k init id)
    init-agrees id there cells finds =
        let in-d = run-over t is d over only k (omega (arith, within)) in
        let in-e = run-over t is e over' only' k (omega (arith, within)) in
        let typed : IsInit s n g.ty init = type-is.2 in
        let U : Use → Type 0 = λ u. HaveSameRecords d e (finds_behind t k u) in
        let used = each-of-flat (λ m. ids_of d m ≡ ids_of e m) (finds_behind t k) (init_uses_of init) (all-behind (λ m. ids_of d m ≡ ids_of e m) (init_finds_of init) _ finds) in
        let touched_here : List Cell = init_touched (D k) init id in
        let fits = init-fits s (D k) in-d U n id type-is.0 there g.ty init typed used in
        let read = each-of-flat (IsSameCell d e) (sources t d k) touched_here cells in
        let agree = all-both (Fits s (D k) in-d U) (λ cell. AreSameCells d e (sources t d k cell)) (Agrees k) (λ cell fit same. before cell fit.0 same fit.1) touched_here fits read in
        let same = all-of (Agrees k) (IsSameCell (D k) (E k)) (λ cell both. both.0) touched_here agree in
        let found = all-of (λ m. ids_of d m ≡ ids_of e m) (λ m. ids_of (D k) m ≡ ids_of (E k) m) (λ m h. run-ids k m h) (init_finds_of init)
        (all-front (λ m. ids_of d m ≡ ids_of e m) (init_finds_of init) _ finds) in
        let law = of-init s (D k) (E k) in-d in-e n id type-is.0 there (run-more k n id there) g.ty init (type-added s n g init after-proper type-is.0) typed same found in (
          law.0,
          flat-same (sources t d k) (sources t e k) touched_here (all-of (Agrees k) (λ cell. sources t d k cell ≡ sources t e k cell) (λ cell both. both.1) touched_here agree)
              ∙ ap (flat_map (sources t e k)) law.1,
        )

  -- one command further
  abbrev AgreesWith : ℕ → Option Command → Cell → Type 0
  AgreesWith k o cell = (cell_in (after_if_any o (D k)) cell ≡ cell_in (after_if_any o (E k)) cell) × (sources_with t d k o cell ≡ sources_with t e k o cell)

  beside : (k : ℕ) (n : ℕ) (g : FieldInfo) (init : Init) (cell : Cell) → ((n == cell.model) && (g.number == cell.field)) ≡ false → Agrees k cell
      → cell_in (after_command (add_field n g init) (D k)) cell ≡ cell_in (after_command (add_field n g init) (E k)) cell
  beside k n g init cell other same =
      field-same-beside n g.number (λ u id. init_value u init id) (D k) cell.model cell.id cell.field other ∙ same.0
      ∙ sym (field-same-beside n g.number (λ u id. init_value u init id) (E k) cell.model cell.id cell.field other)

  own : (k : ℕ) → k < count t → (n : ℕ) (g : FieldInfo) (init : Init) → command_at t k ≡ Some (add_field n g init) → (cell : Cell)
      → ((n == cell.model) && (g.number == cell.field)) ≡ true → IsThere (D k) cell → init_value (D k) init cell.id ≡ init_value (E k) init cell.id
      → cell_in (after_command (add_field n g init) (D k)) cell ≡ cell_in (after_command (add_field n g init) (E k)) cell
  own k within n g init here cell is-own there same =
      let model : n ≡ cell.model = eqb-true _ _ (and-left _ _ is-own) in
      let field : g.number ≡ cell.field = eqb-true _ _ (and-right (n == cell.model) _ is-own) in
      let asked = is.commands k (add_field n g init) here in
      let there' : has_record (D k) n cell.id ≡ true = subst (λ (i : ℕ). has_record (D k) i cell.id ≡ true) (sym model) there in
      let value : (u : Database) → IsDatabase (schema_at t k) u → has_record u n cell.id ≡ true → field_at (after_command (add_field n g init) u) n cell.id g.number ≡ init_value u init cell.id
      = λ u over-u there-u. field-added (schema_at t k) u over-u (is.proper k (omega (arith, within))) n asked.0 g.number asked.1 (λ v id. init_value v init id) cell.id there-u in
      let one = value (D k) (run-over t is d over only k (omega (arith, within))) there' in
      let other = value (E k) (run-over t is e over' only' k (omega (arith, within))) (run-more k n cell.id there') in
      subst (λ (f : ℕ). field_at (after_command (add_field n g init) (D k)) cell.model cell.id f ≡ field_at (after_command (add_field n g init) (E k)) cell.model cell.id f) field
      (subst (λ (m : ℕ). field_at (after_command (add_field n g init) (D k)) m cell.id g.number ≡ field_at (after_command (add_field n g init) (E k)) m cell.id g.number) model
      (one ∙ same ∙ sym other))

  step : (k : ℕ) → k < count t → AgreeAt k → (o : Option Command) → command_at t k ≡ o → (cell : Cell) → IsThere (after_if_any o (D k)) cell
      → AreSameCells d e (sources_with t d k o cell) → HaveSameRecords d e (finds_with t k o (use_of cell)) → AgreesWith k o cell
  step k within before None here cell there cells finds = before cell there cells finds
  step k within before (Some (create_model info)) here cell there cells finds = before cell there cells finds
  step k within before (Some (delete_model n)) here cell there cells finds =
      let one = before cell (there-before (Some (delete_model n)) (D k) cell.model cell.id there) cells finds in
      (field-same-deleted n (D k) (E k) cell.model cell.id cell.field one.0, one.1)
  step k within before (Some (add_static info)) here cell there cells finds = before cell there cells finds
  step k within before (Some (remove_static n)) here cell there cells finds = before cell there cells finds
  step k within before (Some (add_principal n)) here cell there cells finds = before cell there cells finds
  step k within before (Some (add_field n g init)) here cell there cells finds =
      let was = there-before (Some (add_field n g init)) (D k) cell.model cell.id there in
      elim ((n == cell.model) && (g.number == cell.field)) as (λ (b : Bool). ((n == cell.model) && (g.number == cell.field)) ≡ b
      → AreSameCells d e (if b then deep_cells t d k init cell.id else sources t d k cell)
      → HaveSameRecords d e (if b then deep_finds t k init else finds_behind t k (use_of cell))
      → (cell_in (after_command (add_field n g init) (D k)) cell ≡ cell_in (after_command (add_field n g init) (E k)) cell)
      × ((if b then deep_cells t d k init cell.id else sources t d k cell) ≡ (if b then deep_cells t e k init cell.id else sources t e k cell))) [
        | true ↦ λ is-own cs fs.
            let there' : has_record (D k) n cell.id ≡ true = subst (λ (i : ℕ). has_record (D k) i cell.id ≡ true) (sym (eqb-true _ _ (and-left _ _ is-own))) was in
            let both = init-agrees k within n g init here before cell.id there' cs fs in
            (own k within n g init here cell is-own was both.0, both.1)
        | false ↦ λ other cs fs. let both = before cell was cs fs in (beside k n g init cell other both, both.1)
      ] refl cells finds
  step k within before (Some (remove_field n f)) here cell there cells finds =
      let one = before cell (there-before (Some (remove_field n f)) (D k) cell.model cell.id there) cells finds in
      (field-same-removed n f (D k) (E k) cell.model cell.id cell.field one.0, one.1)
  step k within before (Some (update_field n f read write)) here cell there cells finds = before cell there cells finds
  step k within before (Some (weaken_field n f read write reason)) here cell there cells finds = before cell there cells finds
  step k within before (Some (update_model n create delete)) here cell there cells finds = before cell there cells finds
  step k within before (Some (weaken_model n create delete reason)) here cell there cells finds = before cell there cells finds

  pub agree : (k : ℕ) → k ≤ count t → AgreeAt k
  agree zero within cell there cells finds =
      (wide-field t d cell.model cell.id cell.field ∙ cells.0 ∙ sym (wide-field t e cell.model cell.id cell.field), refl)
  agree (suc k) within cell there cells finds =
      step k (omega (arith, within)) (agree k (omega (arith, within))) (command_at t k) refl cell there cells finds

  -- what an initialiser gives at a record, and what it reads deeply there
  pub deep-agree : (k : ℕ) → k < count t → (n : ℕ) (g : FieldInfo) (init : Init) → command_at t k ≡ Some (add_field n g init) → (id : ℕ) → has_record (D k) n id ≡ true
      → AreSameCells d e (deep_cells t d k init id) → HaveSameRecords d e (deep_finds t k init)
      → (init_value (D k) init id ≡ init_value (E k) init id) × (deep_cells t d k init id ≡ deep_cells t e k init id)
  deep-agree k within n g init here id there cells finds = init-agrees k within n g init here (agree k (omega (arith, within))) id there cells finds
