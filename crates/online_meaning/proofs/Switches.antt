-- The switch makes what the script means, where what was kept is right.
use Rattle.std.proofs.Common.{◌≡◌, ℕ, zero, suc, ◌<◌, ◌≤◌, Bool, true, false, ◌||◌, List, [], ◌∷◌, ◌++◌, refl, ap, ◌∙◌, subst, cond, map, arith, sym}
use Rattle.std.specs.Prelude.{Option, None, Some, ◌==◌, nat_eq, if◌then◌else◌, option_and_then}
use Rattle.std.specs.List.{list_any, AllByRecursion, IsDistinct}
use Rattle.std.specs.Option.{option_map_or}
use Rattle.std.proofs.lemmas.Bool.{eqb-true, eq-eqb}
use Rattle.std.proofs.lemmas.Option.{slice_get_within}
use Rattle.type_schema.specs.Schema.{Added, FieldInfo}
use Rattle.type_schema.specs.Commands.{Command, create_model, delete_model, add_static, remove_static, add_principal, add_field, remove_field, update_field, weaken_field, update_model, weaken_model}
use Rattle.type_schema.specs.Script.{Script, count, command_at, IsScript}
use Rattle.data_meaning.specs.Values.{Value}
use Rattle.data_meaning.specs.Database.{Slot, Record, Table, Database, table_of, records_of, has_record}
use Rattle.data_meaning.specs.Run.{init_value, change_slots, after_if_any, run_to, widened}
use Rattle.data_meaning.proofs.Agreement.{ap2}
use Rattle.data_meaning.proofs.Carried.{all-of}
use Rattle.online_meaning.specs.Deep.{added_by, added_at}
use Rattle.online_meaning.specs.Rollouts.{Rollout, is_marked, after_kept, switched, IsRight}
use Rattle.online_meaning.proofs.Agreed.{run-over}

-- ---- the command that adds a field

pub record Adding (t : Script) (k : ℕ) (a : Added) : Type 0 where
  pub field : FieldInfo
  pub here : command_at t k ≡ Some (add_field a.model field a.init)
  pub number : a.field ≡ field.number
  pub within : k < count t

pub adding : (t : Script) (k : ℕ) (a : Added) → added_at t k ≡ Some a → Adding t k a
adding t k a h = of (command_at t k) refl h
  where
    of : (o : Option Command) → command_at t k ≡ o → option_and_then added_by o ≡ Some a → Adding t k a
    of None here e = cc
    of (Some (create_model m)) here e = cc
    of (Some (delete_model m)) here e = cc
    of (Some (add_static n)) here e = cc
    of (Some (remove_static n)) here e = cc
    of (Some (add_principal m)) here e = cc
    of (Some (add_field m f init)) here e =
        let it : Added = record { model = m; field = f.number; init = init } in
        let same : it ≡ a = cc in
        record {
          field = f;
          here = here ∙ ap (λ (u : Added). Some (add_field u.model f u.init)) same;
          number = sym (ap (λ (u : Added). u.field) same);
          within = slice_get_within t.commands k (add_field m f init) here;
        }
    of (Some (remove_field m f)) here e = cc
    of (Some (update_field m f read write)) here e = cc
    of (Some (weaken_field m f read write reason)) here e = cc
    of (Some (update_model m create delete)) here e = cc
    of (Some (weaken_model m create delete reason)) here e = cc

-- ---- records that are changed alike

-- where tables are of different models, each is the one that look-up finds
each-own : (d : Database) → IsDistinct nat_eq (map (λ (u : Table). u.model) d) → AllByRecursion (λ (u : Table). table_of d u.model ≡ Some u) d
unfolding IsDistinct
each-own [] apart = tt
each-own (u ∷ d) apart = (
  ap (λ b. cond b (Some u) (table_of d u.model)) (eq-eqb u.model u.model refl),
  later d apart.0 (each-own d apart.1),
)
  where
    later : (ts : Database) → AllByRecursion (λ k. nat_eq u.model k ≡ false) (map (λ (w : Table). w.model) ts) → AllByRecursion (λ (w : Table). table_of d w.model ≡ Some w) ts
        → AllByRecursion (λ (w : Table). table_of (u ∷ d) w.model ≡ Some w) ts
    later [] others found = tt
    later (w ∷ ts) others found = (ap (λ b. cond b (Some u) (table_of d w.model)) others.0 ∙ found.0, later ts others.1 found.1)

abbrev Stands : List Record → Record → Type 0
Stands rs r = list_any (λ i. i == r.id) (map (λ (u : Record). u.id) rs) ≡ true

each-stands : (rs : List Record) → AllByRecursion (Stands rs) rs
each-stands [] = tt
each-stands (r ∷ rs) = (
  ap (λ b. b || list_any (λ i. i == r.id) (map (λ (u : Record). u.id) rs)) (eq-eqb r.id r.id refl),
  all-of (Stands rs) (Stands (r ∷ rs))
      (λ u h. elim (r.id == u.id) as (λ (b : Bool). (b || list_any (λ i. i == u.id) (map (λ (w : Record). w.id) rs)) ≡ true) [ true ↦ refl | false ↦ h ]) rs (each-stands rs),
)

module _ (n : ℕ) (one other : Record → List Slot) where
  abbrev changed-by : (Record → List Slot) → Table → Table
  changed-by change t = if t.model == n then record t { records = map (λ (r : Record). record r { slots = change r }) t.records } else t

  rows-alike : (rs : List Record) → AllByRecursion (λ (r : Record). one r ≡ other r) rs
      → map (λ (r : Record). record r { slots = one r }) rs ≡ map (λ (r : Record). record r { slots = other r }) rs
  rows-alike [] alike = refl
  rows-alike (r ∷ rs) alike =
      ap2 (λ slots us. (record r { slots = slots }) ∷ us) alike.0 (rows-alike rs alike.1)

  tables-alike : (ts : Database) → AllByRecursion (λ (u : Table). (u.model == n) ≡ true → AllByRecursion (λ (r : Record). one r ≡ other r) u.records) ts
      → change_slots n one ts ≡ change_slots n other ts
  tables-alike [] alike = refl
  tables-alike (u ∷ ts) alike =
      ap2 (λ (w : Table) ws. w ∷ ws)
      ((elim (u.model == n) as (λ (b : Bool). (u.model == n) ≡ b
      → (if b then record u { records = map (λ (r : Record). record r { slots = one r }) u.records } else u)
      ≡ (if b then record u { records = map (λ (r : Record). record r { slots = other r }) u.records } else u)) [
        | true ↦ λ is. ap (λ rs. record u { records = rs }) (rows-alike u.records (alike.0 is))
        | false ↦ λ differs. refl
      ]) refl) (tables-alike ts alike.1)

  pub changed-alike : (d : Database) → IsDistinct nat_eq (map (λ (u : Table). u.model) d) → ((r : Record) → has_record d n r.id ≡ true → one r ≡ other r)
      → change_slots n one d ≡ change_slots n other d
  changed-alike d apart alike =
      tables-alike d (all-of (λ (u : Table). table_of d u.model ≡ Some u) (λ (u : Table). (u.model == n) ≡ true → AllByRecursion (λ (r : Record). one r ≡ other r) u.records)
      (λ u found is.
      let at : table_of d n ≡ Some u = subst (λ (m : ℕ). table_of d m ≡ Some u) (eqb-true u.model n is) found in
      let rows : records_of d n ≡ u.records = ap (λ o. option_map_or (λ (w : Table). w.records) o []) at in
      all-of (Stands u.records) (λ (r : Record). one r ≡ other r)
      (λ r stands. alike r (ap (λ rs. list_any (λ i. i == r.id) (map (λ (w : Record). w.id) rs)) rows ∙ stands)) u.records (each-stands u.records)) d (each-own d apart))

-- ---- the switch

module _ (t : Script) (is : IsScript t) (r : Rollout) (right : IsRight t r) where
  abbrev D : ℕ → Database
  D k = run_to t k (widened t r.database)

  one-kept : (k : ℕ) → k ≤ count t → (o : Option Command) → command_at t k ≡ o
      → option_map_or (λ c. after_kept (is_marked r) (r.kept k) c (D k)) o (D k) ≡ after_if_any o (D k)
  one-kept k within None here = refl
  one-kept k within (Some (create_model m)) here = refl
  one-kept k within (Some (delete_model m)) here = refl
  one-kept k within (Some (add_static n)) here = refl
  one-kept k within (Some (remove_static n)) here = refl
  one-kept k within (Some (add_principal m)) here = refl
  one-kept k within (Some (add_field m f init)) here =
      let a : Added = record { model = m; field = f.number; init = init } in
      let adds : added_at t k ≡ Some a = ap (option_and_then added_by) here in
      changed-alike m
      (λ (u : Record). u.slots ++ (record { field = f.number; value = if is_marked r m u.id then init_value (D k) init u.id else r.kept k u.id }) ∷ [])
      (λ (u : Record). u.slots ++ (record { field = f.number; value = init_value (D k) init u.id }) ∷ [])
      (D k) (run-over t is r.database right.over right.only k within).apart
      (λ u there.
      ap (λ (v : Value). u.slots ++ (record { field = f.number; value = v }) ∷ [])
      ((elim (is_marked r m u.id) as (λ (b : Bool). is_marked r m u.id ≡ b → (if b then init_value (D k) init u.id else r.kept k u.id) ≡ init_value (D k) init u.id) [
        | true ↦ λ marked. refl
        | false ↦ λ unmarked. right.ready k a adds u.id there unmarked
      ]) refl))
  one-kept k within (Some (remove_field m f)) here = refl
  one-kept k within (Some (update_field m f read write)) here = refl
  one-kept k within (Some (weaken_field m f read write reason)) here = refl
  one-kept k within (Some (update_model m create delete)) here = refl
  one-kept k within (Some (weaken_model m create delete reason)) here = refl

  pub switch-is : (k : ℕ) → k ≤ count t → switched t r k ≡ D k
  switch-is zero within = refl
  switch-is (suc k) within =
      ap (λ (u : Database). option_map_or (λ c. after_kept (is_marked r) (r.kept k) c u) (command_at t k) u) (switch-is k (omega (arith, within)))
      ∙ one-kept k (omega (arith, within)) (command_at t k) refl
