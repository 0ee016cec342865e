-- Initialisers that use fields of the schema before the script alone.
use Rattle.std.proofs.Common.{◌≡◌, ℕ, zero, suc, ◌<◌, ◌≤◌, Bool, true, false, not, ◌&&◌, ◌||◌, inl, inr, List, [], ◌∷◌, refl, ap, sym, ◌∙◌, subst, arith, map}
use Rattle.std.specs.Prelude.{Option, None, Some, ◌==◌, is_some, if◌then◌else◌}
use Rattle.std.specs.List.{list_any, flat_map}
use Rattle.std.specs.Option.{option_map, option_map_or}
use Rattle.std.proofs.lemmas.Bool.{eqb-true, eq-eqb, ne_eqb, cases_lt}
use Rattle.type_schema.specs.declared.types.TTy.{TTy}
use Rattle.type_schema.specs.Schema.{Added, FieldInfo, ModelInfo, Schema, model_of, type_of}
use Rattle.type_schema.specs.Typing.{HasModel}
use Rattle.type_schema.specs.Commands.{Command, create_model, delete_model, add_static, remove_static, add_principal, add_field, remove_field, update_field, weaken_field, update_model, weaken_model, schema_after, IsCommand}
use Rattle.type_schema.specs.Proper.{IsProper}
use Rattle.type_schema.specs.Script.{Script, count, schema_at, IsScript}
use Rattle.type_schema.specs.Uses.{Use, init_uses_of}
use Rattle.data_meaning.specs.declared.cells.Cell.{Cell}
use Rattle.data_meaning.specs.Database.{Record, Table, Database, ids_of, has_record, field_at, IsDatabase, HasNoFurtherTables}
use Rattle.data_meaning.specs.Touched.{init_touched}
use Rattle.data_meaning.specs.Run.{init_value, after_command, after_if_any, run_to, widened}
use Rattle.data_meaning.proofs.Carried.{all-of}
use Rattle.data_meaning.proofs.Changes.{ids-changed, without_table, table-kept}
use Rattle.data_meaning.proofs.Finds.{find-holds, find-none}
use Rattle.data_meaning.proofs.Kept.{model-kept}
use Rattle.data_meaning.proofs.Policies.{field-kept}
use Rattle.data_meaning.proofs.Runs.{early, command-there, next-after}
use Rattle.online_meaning.specs.Deep.{added_at, sources, deep_cells}
use Rattle.online_meaning.specs.Laws.{AreOldFields, OldFieldsAreRead}
use Rattle.online_meaning.proofs.Agreed.{there-first, run-over}
use Rattle.online_meaning.proofs.Alike.{init-alike}
use Rattle.online_meaning.proofs.Changed.{model-there}
use Rattle.online_meaning.proofs.Commands.{type-added}
use Rattle.online_meaning.proofs.Ranges.{flat-same}
use Rattle.online_meaning.proofs.Lasting.{next-rises, field-lasts}
use Rattle.online_meaning.proofs.Switches.{adding}
use Rattle.online_meaning.proofs.Touching.{Fits, init-fits}
use Rattle.online_meaning.proofs.Widening.{wide-ids, wide-field}

-- ---- models

-- a list without elements
no-ids : (xs : List ℕ) → ((i : ℕ) → list_any (λ j. j == i) xs ≡ true → ⊥) → xs ≡ []
no-ids [] none = refl
no-ids (x ∷ xs) none = absurd (none x (ap (λ b. b || list_any (λ j. j == x) xs) (eq-eqb x x refl)))

found-there : (s : Schema) (m : ℕ) → HasModel s m → (i : ModelInfo) × (model_of s m ≡ Some i) × (i.number ≡ m)
found-there s m has = at (model_of s m) refl has
  where
    at : (o : Option ModelInfo) → model_of s m ≡ o → is_some o ≡ true → (i : ModelInfo) × (model_of s m ≡ Some i) × (i.number ≡ m)
    at None here e = cc
    at (Some i) here e = (i, here, eqb-true _ _ (find-holds (λ (u : ModelInfo). u.number == m) s.models i here))

-- an old model that is there after a command was there before
model-before : (s : Schema) (c : Command) (m : ℕ) → IsCommand s c → m < s.next_model → HasModel (schema_after s c) m → HasModel s m
model-before s c m is old has =
    let i = found-there (schema_after s c) m has in
    let number : option_map (λ (u : ModelInfo). u.number) (model_of (schema_after s c) m) ≡ Some m = ap (option_map (λ (u : ModelInfo). u.number)) i.1 ∙ ap (λ n. Some n) i.2 in
    let was = model-kept (λ (u : ModelInfo). u.number) m s c is m old (λ u. refl) (λ u fields. refl) (λ create delete e u. refl) (λ create delete reason e u. refl) number in
    some-there (model_of s m) was
  where
    some-there : (o : Option ModelInfo) → option_map (λ (u : ModelInfo). u.number) o ≡ Some m → is_some o ≡ true
    some-there None e = cc
    some-there (Some u) e = refl

-- the records of a model that is there after a command
ids-last : (s : Schema) (c : Command) (m : ℕ) → HasModel (schema_after s c) m → (d : Database) → ids_of (after_command c d) m ≡ ids_of d m
ids-last s (create_model info) m has d = refl
ids-last s (delete_model n) m has d =
    elim (m == n) as (λ (b : Bool). (m == n) ≡ b → ids_of (without_table n d) m ≡ ids_of d m) [
      | true ↦ λ same.
          let none : model_of (schema_after s (delete_model n)) m ≡ None
          = find-none (λ (i : ModelInfo). i.number == m) (λ (i : ModelInfo). not (i.number == n)) s.models (λ i is. ap not (eq-eqb _ _ (eqb-true _ _ is ∙ eqb-true m n same))) in
          let never : true ≡ false = sym has ∙ ap (λ o. is_some o) none in
          cc
      | false ↦ λ other.
          ap (λ o. map (λ (r : Record). r.id) (option_map_or (λ (t : Table). t.records) o []))
          (table-kept d n m (λ e. let never : true ≡ false = sym (eq-eqb m n e) ∙ other in cc))
    ] refl
ids-last s (add_static n) m has d = refl
ids-last s (remove_static n) m has d = refl
ids-last s (add_principal n) m has d = refl
ids-last s (add_field n f init) m has d = ids-changed n _ d m
ids-last s (remove_field n f) m has d = ids-changed n _ d m
ids-last s (update_field n f read write) m has d = refl
ids-last s (weaken_field n f read write reason) m has d = refl
ids-last s (update_model n create delete) m has d = refl
ids-last s (weaken_model n create delete reason) m has d = refl

module _ (t : Script) (is : IsScript t) (d : Database) (over : IsDatabase (schema_at t 0) d) (only : HasNoFurtherTables (schema_at t 0) d) where
  abbrev D : ℕ → Database
  D k = run_to t k (widened t d)

  -- ---- numbers

  fields-rise : (j : ℕ) → j ≤ count t → (schema_at t 0).next_field ≤ (schema_at t j).next_field
  fields-rise zero most = omega arith
  fields-rise (suc j) most =
      let c = command-there t is j (omega (arith, most)) in
      let was = fields-rise j (omega (arith, most)) in
      let rises = next-rises (schema_at t j) c.0 in
      let next : (schema_at t (suc j)).next_field ≡ (schema_after (schema_at t j) c.0).next_field = ap (λ (s : Schema). s.next_field) (is.steps j c.0 c.1) in
      omega (arith, was, rises, next)

  models-rise : (j : ℕ) → j ≤ count t → (schema_at t 0).next_model ≤ (schema_at t j).next_model
  models-rise zero most = omega arith
  models-rise (suc j) most =
      let c = command-there t is j (omega (arith, most)) in
      let was = models-rise j (omega (arith, most)) in
      let rises = next-after (schema_at t j) c.0 in
      let next : (schema_at t (suc j)).next_model ≡ (schema_after (schema_at t j) c.0).next_model = ap (λ (s : Schema). s.next_model) (is.steps j c.0 c.1) in
      omega (arith, was, rises, next)

  -- ---- the records of a model that the schema has after j commands

  -- none of a model that the script creates
  no-record : (m : ℕ) → (schema_at t 0).next_model ≤ m → (id : ℕ) → has_record d m id ≡ true → ⊥
  no-record m late id there =
      let old = early (schema_at t 0) m (is.proper 0 (omega arith)) (model-there (schema_at t 0) d only m id there) in
      absurd (omega (arith, late, old))

  pub run-same-ids : (j : ℕ) → j ≤ count t → (m : ℕ) → HasModel (schema_at t j) m → ids_of (D j) m ≡ ids_of d m
  run-same-ids zero most m has = wide-ids t d m
  run-same-ids (suc j) most m has =
      let c = command-there t is j (omega (arith, most)) in
      let has' : HasModel (schema_after (schema_at t j) c.0) m = subst (λ (s : Schema). HasModel s m) (is.steps j c.0 c.1) has in
      let run : D (suc j) ≡ after_command c.0 (D j) = ap (λ o. after_if_any o (D j)) c.1 in
      let rises = models-rise j (omega (arith, most)) in
      elim (cases_lt m (schema_at t j).next_model) [
        | inl old ↦
            ap (λ (u : Database). ids_of u m) run ∙ ids-last (schema_at t j) c.0 m has' (D j)
            ∙ run-same-ids j (omega (arith, most)) m (model-before (schema_at t j) c.0 m (is.commands j c.0 c.1) old has')
        | inr late ↦
            let none = no-record m (omega (arith, late, rises)) in
            no-ids (ids_of (D (suc j)) m) (λ i there. none i (there-first t d m i (suc j) there)) ∙ sym (no-ids (ids_of d m) none)
      ]

  -- ---- the fields of the schema before the script

  run-same-field : (j : ℕ) → j ≤ count t → (m f : ℕ) (ty : TTy) → type_of (schema_at t j) m f ≡ Some ty → f < (schema_at t 0).next_field → (id : ℕ)
      → field_at (D j) m id f ≡ field_at d m id f
  run-same-field zero most m f ty typed old id = wide-field t d m id f
  run-same-field (suc j) most m f ty typed old id =
      let c = command-there t is j (omega (arith, most)) in
      let rises = fields-rise j (omega (arith, most)) in
      let before : f < (schema_at t j).next_field = omega (arith, old, rises) in
      let run : D (suc j) ≡ after_command c.0 (D j) = ap (λ o. after_if_any o (D j)) c.1 in
      let typed' : type_of (schema_after (schema_at t j) c.0) m f ≡ Some ty = ap (λ (s : Schema). type_of s m f) (sym (is.steps j c.0 c.1)) ∙ typed in
      let kept = field-kept (λ (h : FieldInfo). h.ty) ty (schema_at t j) c.0 (is.commands j c.0 c.1) m f before (λ read write e h. refl) (λ read write reason e h. refl) typed' in
      ap (λ (u : Database). field_at u m id f) run
      ∙ field-lasts (schema_at t j) c.0 (is.proper j (omega (arith, most))) (is.commands j c.0 c.1) (D j) m id f ty before typed'
      ∙ run-same-field j (omega (arith, most)) m f ty kept old id

  -- ---- what they are made from

  abbrev IsOld : Use → Type 0
  IsOld u = u.field < (schema_at t 0).next_field

  and-false : (b : Bool) → (b && false) ≡ false
  and-false true = refl
  and-false false = refl

  own-source : (j : ℕ) → j ≤ count t → (cell : Cell) → cell.field < (schema_at t 0).next_field → sources t d j cell ≡ cell ∷ []
  own-source zero most cell old = refl
  own-source (suc j) most cell old =
      let rises = fields-rise j (omega (arith, most)) in
      at rises (added_at t j) refl ∙ own-source j (omega (arith, most)) cell old
    where
      at : (schema_at t 0).next_field ≤ (schema_at t j).next_field → (o : Option Added) → added_at t j ≡ o
          → option_map_or (λ (a : Added).
          if (a.model == cell.model) && (a.field == cell.field) then flat_map (sources t d j) (init_touched (D j) a.init cell.id) else sources t d j cell) o (sources t d j cell)
          ≡ sources t d j cell
      at rises None here = refl
      at rises (Some a) here =
          let add = adding t j a here in
          let asked = is.commands j (add_field a.model add.field a.init) add.here in
          let number : a.field ≡ (schema_at t j).next_field = add.number ∙ asked.1 in
          let differs : (a.field == cell.field) ≡ false = ne_eqb a.field cell.field (λ e. omega (arith, e, number, rises, old)) in
          ap (λ b. if b then flat_map (sources t d j) (init_touched (D j) a.init cell.id) else sources t d j cell)
          (ap (λ b. (a.model == cell.model) && b) differs ∙ and-false (a.model == cell.model))

  each-alone : (xs : List Cell) → flat_map (λ (c : Cell). c ∷ []) xs ≡ xs
  each-alone [] = refl
  each-alone (c ∷ xs) = ap (λ ys. c ∷ ys) (each-alone xs)

  reads-old : (k : ℕ) (a : Added) → added_at t k ≡ Some a → AreOldFields t (init_uses_of a.init) → (id : ℕ) → has_record (D k) a.model id ≡ true
      → (init_value (D k) a.init id ≡ init_value d a.init id) × (deep_cells t d k a.init id ≡ init_touched d a.init id)
  reads-old k a here old id there =
      let add = adding t k a here in
      let most : k ≤ count t = omega (arith, add.within) in
      let s = schema_at t k in
      let asked = is.commands k (add_field a.model add.field a.init) add.here in
      let after = subst IsProper (is.steps k (add_field a.model add.field a.init) add.here) (is.proper (suc k) (omega (arith, add.within))) in
      let type = type-added s a.model add.field a.init after asked.0 in
      let alike = init-alike s (D k) d (run-same-ids k most) IsOld (run-same-field k most) a.model id add.field.ty a.init type asked.2 old in
      let in-d = run-over t is d over only k most in
      let fits = init-fits s (D k) in-d IsOld a.model id asked.0 there add.field.ty a.init asked.2 old in
      let touched_here : List Cell = init_touched (D k) a.init id in
      let alone = flat-same (sources t d k) (λ (c : Cell). c ∷ []) touched_here
      (all-of (Fits s (D k) in-d IsOld) (λ (c : Cell). sources t d k c ≡ c ∷ []) (λ c fit. own-source k most c fit.1) touched_here fits) in
      (alike.0, alone ∙ each-alone touched_here ∙ alike.1)

pub old_read : OldFieldsAreRead
old_read t is d over only k a here old id there = reads-old t is d over only k a here old id there
