-- What an initialiser reads deeply are cells of records that are there.
use Rattle.std.proofs.Common.{◌≡◌, ℕ, zero, suc, ◌<◌, ◌≤◌, Bool, true, false, ◌&&◌, refl, sym, ◌∙◌, subst, arith}
use Rattle.std.specs.Prelude.{Option, None, Some, ◌==◌, if◌then◌else◌}
use Rattle.std.specs.List.{AllByRecursion}
use Rattle.std.proofs.lemmas.Bool.{eqb-true}
use Rattle.type_schema.specs.Trees.{Init}
use Rattle.type_schema.specs.Schema.{FieldInfo}
use Rattle.type_schema.specs.Commands.{Command, create_model, delete_model, add_static, remove_static, add_principal, add_field, remove_field, update_field, weaken_field, update_model, weaken_model}
use Rattle.type_schema.specs.Script.{Script, count, schema_at, command_at, IsScript}
use Rattle.type_schema.specs.Uses.{Use, init_uses_of}
use Rattle.data_meaning.specs.declared.cells.Cell.{Cell}
use Rattle.data_meaning.specs.Database.{Database, has_record, IsDatabase, HasNoFurtherTables}
use Rattle.data_meaning.specs.Touched.{init_touched}
use Rattle.data_meaning.specs.Run.{after_if_any, run_to, widened}
use Rattle.data_meaning.proofs.Carried.{all-of}
use Rattle.data_meaning.proofs.Tests.{and-left}
use Rattle.online_meaning.specs.Deep.{sources, deep_cells}
use Rattle.online_meaning.proofs.Ranges.{flat-of-each, every}
use Rattle.online_meaning.proofs.Touching.{Fits, init-fits}
use Rattle.online_meaning.proofs.Widening.{wide-has}
use Rattle.online_meaning.proofs.Commands.{there-before}
use Rattle.online_meaning.proofs.Agreed.{IsThere, run-over, sources_with}

module _ (t : Script) (is : IsScript t) (d : Database) (over : IsDatabase (schema_at t 0) d) (only : HasNoFurtherTables (schema_at t 0) d) where
  abbrev D : ℕ → Database
  D k = run_to t k (widened t d)

  abbrev ThereAt : ℕ → Type 0
  ThereAt k = (cell : Cell) → IsThere (D k) cell → AllByRecursion (IsThere d) (sources t d k cell)

  init-there : (k : ℕ) → k < count t → (n : ℕ) (g : FieldInfo) (init : Init) → command_at t k ≡ Some (add_field n g init) → ThereAt k → (id : ℕ)
      → has_record (D k) n id ≡ true → AllByRecursion (IsThere d) (deep_cells t d k init id)
  init-there k within n g init here before id there =
      let asked = is.commands k (add_field n g init) here in
      let U : Use → Type 0 = λ u. Unit {0} in
      let in-d = run-over t is d over only k (omega (arith, within)) in
      let fits = init-fits (schema_at t k) (D k) in-d U n id asked.0 there g.ty init asked.2 (every U (λ u. tt) (init_uses_of init)) in
      flat-of-each (IsThere d) (sources t d k) (init_touched (D k) init id)
      (all-of (Fits (schema_at t k) (D k) in-d U) (λ cell. AllByRecursion (IsThere d) (sources t d k cell)) (λ cell fit. before cell fit.0) (init_touched (D k) init id) fits)

  step : (k : ℕ) → k < count t → ThereAt k → (o : Option Command) → command_at t k ≡ o → (cell : Cell) → IsThere (after_if_any o (D k)) cell
      → AllByRecursion (IsThere d) (sources_with t d k o cell)
  step k within before None here cell there = before cell there
  step k within before (Some (create_model info)) here cell there = before cell there
  step k within before (Some (delete_model n)) here cell there = before cell (there-before (Some (delete_model n)) (D k) cell.model cell.id there)
  step k within before (Some (add_static info)) here cell there = before cell there
  step k within before (Some (remove_static n)) here cell there = before cell there
  step k within before (Some (add_principal n)) here cell there = before cell there
  step k within before (Some (add_field n g init)) here cell there =
      let was = there-before (Some (add_field n g init)) (D k) cell.model cell.id there in
      elim ((n == cell.model) && (g.number == cell.field)) as (λ (b : Bool). ((n == cell.model) && (g.number == cell.field)) ≡ b
      → AllByRecursion (IsThere d) (if b then deep_cells t d k init cell.id else sources t d k cell)) [
        | true ↦ λ own.
            init-there k within n g init here before cell.id (subst (λ (i : ℕ). has_record (D k) i cell.id ≡ true) (sym (eqb-true _ _ (and-left _ _ own))) was)
        | false ↦ λ other. before cell was
      ] refl
  step k within before (Some (remove_field n f)) here cell there = before cell (there-before (Some (remove_field n f)) (D k) cell.model cell.id there)
  step k within before (Some (update_field n f read write)) here cell there = before cell there
  step k within before (Some (weaken_field n f read write reason)) here cell there = before cell there
  step k within before (Some (update_model n create delete)) here cell there = before cell there
  step k within before (Some (weaken_model n create delete reason)) here cell there = before cell there

  pub sources-there : (k : ℕ) → k ≤ count t → ThereAt k
  sources-there zero within cell there = (sym (wide-has t d cell.model cell.id) ∙ there, tt)
  sources-there (suc k) within cell there = step k (omega (arith, within)) (sources-there k (omega (arith, within))) (command_at t k) refl cell there

  pub deep-there : (k : ℕ) → k < count t → (n : ℕ) (g : FieldInfo) (init : Init) → command_at t k ≡ Some (add_field n g init) → (id : ℕ)
      → has_record (D k) n id ≡ true → AllByRecursion (IsThere d) (deep_cells t d k init id)
  deep-there k within n g init here id there = init-there k within n g init here (sources-there k (omega (arith, within))) id there
