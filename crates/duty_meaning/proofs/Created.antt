-- Slots of records, and models that a script creates.
use Rattle.std.proofs.Common.{◌≡◌, ℕ, zero, suc, ◌+◌, ◌-◌, ◌<◌, ◌≤◌, Bool, true, false, not, List, [], ◌∷◌, ◌++◌, length, ◌⊎◌, refl, ap, sym, ◌∙◌, subst, arith, cond, inl, inr}
use Rattle.std.specs.Prelude.{Option, Some, None, map, filter, ◌==◌, is_some, slice_get, option_and_then}
use Rattle.std.specs.List.{find, AllByRecursion}
use Rattle.std.specs.Option.{option_map, option_map_or}
use Rattle.std.proofs.lemmas.Bool.{eqb-true, eq-eqb, false_from_ne_true}
use Rattle.std.proofs.lemmas.Option.{slice_get_cases, slice_get_within, get_or_from_slice_get}
use Rattle.type_schema.specs.declared.types.TTy.{TTy}
use Rattle.type_schema.specs.Schema.{FieldInfo, ModelInfo, Schema, model_in, field_in, model_of, type_of}
use Rattle.type_schema.specs.Typing.{HasModel}
use Rattle.type_schema.specs.Commands.{Command, create_model, delete_model, add_static, remove_static, add_principal, add_field, remove_field, update_field, weaken_field, update_model, weaken_model, with_field, schema_after, AreNumberedFrom, IsCommand}
use Rattle.type_schema.specs.declared.rights.Kind.TheVariants as kind
use Rattle.type_schema.specs.Kinds.{has_kind, is_kind_at}
use Rattle.data_meaning.proofs.Tests.{and-left}
use Rattle.type_schema.specs.Script.{Script, schema_at, command_at, count, closed_field, closed_model, created_by, created, IsScript}
use Rattle.data_meaning.specs.Database.{Slot, Record, Table, Database, table_of, records_of, slots_of, ids_of, AreSlots, IsRecordIn, HasTable, IsDatabase}
use Rattle.data_meaning.proofs.Finds.{find-holds, find-among, find-map, find-last}
use Rattle.data_meaning.specs.Run.{init_value, after_command, after_if_any, run_to, change_slots}
use Rattle.data_meaning.proofs.Changes.{ids-changed, slots-changed, table-kept}
use Rattle.data_meaning.proofs.Kept.{found-field, model-below}
use Rattle.duty_meaning.proofs.Starting.{find-front, find-behind}
use Rattle.duty_meaning.proofs.Shown.{has-field, model-of-field, changed-there, model-there, some-passes}

-- ---- slots

abbrev pub slot_in : ℕ → List Slot → Option Slot
slot_in f slots = find (λ (slot : Slot). slot.field == f) slots

pub slots-kept : (n : ℕ) (change : Record → List Slot) (now : Database) (m id : ℕ) → (m ≡ n → ⊥) → slots_of (change_slots n change now) m id ≡ slots_of now m id
slots-kept n change now m id other =
    let differs : (m == n) ≡ false = false_from_ne_true _ (λ h. other (eqb-true m n h)) in
    slots-changed n change now m id
    ∙ (elim (find (λ (r : Record). r.id == id) (records_of now m)) as (λ (o : Option Record).
    option_map_or (λ (r : Record). cond (m == n) (change r) r.slots) o [] ≡ option_map_or (λ (r : Record). r.slots) o []) [
      | None ↦ refl
      | Some r ↦ ap (λ t. cond t (change r) r.slots) differs
    ])

pub fresh-changed : (n : ℕ) (change : Record → List Slot) (now : Database) (m id f : ℕ) → ((r : Record) → slot_in f r.slots ≡ None → slot_in f (change r) ≡ None)
    → slot_in f (slots_of now m id) ≡ None → slot_in f (slots_of (change_slots n change now) m id) ≡ None
fresh-changed n change now m id f keeps h =
    ap (slot_in f) (slots-changed n change now m id)
    ∙ (elim (find (λ (r : Record). r.id == id) (records_of now m)) as (λ (o : Option Record).
    slot_in f (option_map_or (λ (r : Record). r.slots) o []) ≡ None → slot_in f (option_map_or (λ (r : Record). cond (m == n) (change r) r.slots) o []) ≡ None) [
      | None ↦ λ e. e
      | Some r ↦ λ e. elim (m == n) as (λ (t : Bool). slot_in f (cond t (change r) r.slots) ≡ None) [ true ↦ keeps r e | false ↦ e ]
    ]) h

pub none-filtered : {A : Type 0} (p keep : A → Bool) (xs : List A) → find p xs ≡ None → find p (filter keep xs) ≡ None
none-filtered p keep [] h = h
none-filtered {A} p keep (x ∷ xs) h =
    elim (p x) as (λ (t : Bool). p x ≡ t → cond t (Some x) (find p xs) ≡ None → find p (cond (keep x) (x ∷ filter keep xs) (filter keep xs)) ≡ None) [
      | true ↦ λ here e. cc
      | false ↦ λ here e.
          elim (keep x) as (λ (t : Bool). find p (cond t (x ∷ filter keep xs) (filter keep xs)) ≡ None) [
            | true ↦ ap (λ t. cond t (Some x) (find p (filter keep xs))) here ∙ none-filtered p keep xs e
            | false ↦ none-filtered p keep xs e
          ]
    ] refl h

pub all-mapped : {A B : Type 0} (P : B → Type 0) (g : A → B) (xs : List A) → AllByRecursion P (map g xs) → AllByRecursion (λ x. P (g x)) xs
all-mapped P g [] h = tt
all-mapped P g (x ∷ xs) h = (h.0, all-mapped P g xs h.1)

pub numbered-below : (n : ℕ) (fields : List FieldInfo) (k : ℕ) → AreNumberedFrom n fields → n + length fields ≤ k → AllByRecursion (λ (g : FieldInfo). g.number < k) (map closed_field fields)
numbered-below n [] k h less = tt
numbered-below n (g ∷ fields) k h less = (
  (let number : g.number ≡ n = h.0 in omega (arith, number, less)),
  numbered-below (n + 1) fields k h.1 (omega (arith, less)),
)

-- the slots of a record have numbers of fields
pub slots-none : (d : Database) (n f : ℕ) (fields : List FieldInfo) (slots : List Slot) → AreSlots d fields slots → AllByRecursion (λ (g : FieldInfo). g.number < n) fields → n ≤ f
    → slot_in f slots ≡ None
slots-none d n f [] [] is below above = refl
slots-none d n f [] (slot ∷ slots) is below above = absurd is
slots-none d n f (g ∷ fields) [] is below above = absurd is
slots-none d n f (g ∷ fields) (slot ∷ slots) is below above =
    let number : slot.field ≡ g.number = is.0.0 in
    let less : g.number < n = below.0 in
    let differs : (slot.field == f) ≡ false = false_from_ne_true _ (λ h. let same : slot.field ≡ f = eqb-true _ _ h in absurd (omega (arith, number, same, less, above))) in
    ap (λ t. cond t (Some slot) (slot_in f slots)) differs ∙ slots-none d n f fields slots is.1 below.1 above

pub fresh-model : (b : Schema) (d : Database) → IsDatabase b d → (m : ℕ) (i : ModelInfo) → model_of b m ≡ Some i → (n f id : ℕ) → AllByRecursion (λ (g : FieldInfo). g.number < n) i.fields
    → n ≤ f → slot_in f (slots_of d m id) ≡ None
fresh-model b d is m i here n f id below above =
    let table = find-among (HasTable d) (λ (u : ModelInfo). u.number == m) b.models i is.tables here in
    let number : i.number ≡ m = eqb-true _ _ (find-holds (λ (u : ModelInfo). u.number == m) b.models i here) in
    let at : table_of d m ≡ Some table.0 = ap (table_of d) (sym number) ∙ table.1 in
    ap (λ o. slot_in f (option_map_or (λ (r : Record). r.slots) (find (λ (r : Record). r.id == id) (option_map_or (λ (u : Table). u.records) o [])) [])) at
    ∙ (elim (find (λ (r : Record). r.id == id) table.0.records) as (λ (o : Option Record). find (λ (r : Record). r.id == id) table.0.records ≡ o
    → slot_in f (option_map_or (λ (r : Record). r.slots) o []) ≡ None) [
      | None ↦ λ e. refl
      | Some r ↦ λ e.
          let one = find-among (IsRecordIn d i table.0.next) (λ (u : Record). u.id == id) table.0.records r table.2.records e in
          slots-none d n f i.fields r.slots one.slots below above
    ] refl)

-- no record of a model that is there has a slot of a number that is free
abbrev pub IsFresh : Schema → Database → Type 0
IsFresh s now = (m : ℕ) → HasModel s m → (f id : ℕ) → s.next_field ≤ f → slot_in f (slots_of now m id) ≡ None

-- ---- created models

module _ (t : Script) (is : IsScript t) where
  pub command-there : (k : ℕ) → k < count t → (c : Command) × (command_at t k ≡ Some c)
  command-there k below =
      elim (slice_get_cases t.commands k).1 [
        | inl found ↦ (found.0, found.2)
        | inr past ↦ absurd (omega (arith, past.0, below))
      ]

  pub next-after : (s : Schema) (c : Command) → s.next_model ≤ (schema_after s c).next_model
  next-after s (create_model info) = omega arith
  next-after s (delete_model n) = omega arith
  next-after s (add_static info) = omega arith
  next-after s (remove_static n) = omega arith
  next-after s (add_principal n) = omega arith
  next-after s (add_field n f init) = omega arith
  next-after s (remove_field n f) = omega arith
  next-after s (update_field n f read write) = omega arith
  next-after s (weaken_field n f read write reason) = omega arith
  next-after s (update_model n create delete) = omega arith
  next-after s (weaken_model n create delete reason) = omega arith

  -- from after j commands on
  pub next-rises : (j n : ℕ) → j + n ≤ count t → (schema_at t j).next_model ≤ (schema_at t (j + n)).next_model
  next-rises j zero within = let same : j + 0 ≡ j = omega arith in subst (λ (k : ℕ). (schema_at t j).next_model ≤ (schema_at t k).next_model) (sym same) (omega arith)
  next-rises j (suc n) within =
      let step : j + suc n ≡ suc (j + n) = omega arith in
      let below : j + n < count t = omega (arith, within) in
      let c = command-there (j + n) below in
      let before = next-rises j n (omega (arith, within)) in
      let after = next-after (schema_at t (j + n)) c.0 in
      let up : (schema_at t j).next_model ≤ (schema_after (schema_at t (j + n)) c.0).next_model = omega (arith, before, after) in
      subst (λ (k : ℕ). (schema_at t j).next_model ≤ (schema_at t k).next_model) (sym step)
      (subst (λ (s : Schema). (schema_at t j).next_model ≤ s.next_model) (sym (is.steps (j + n) c.0 c.1)) up)

  pub created-number : (k : ℕ) (info : ModelInfo) → command_at t k ≡ Some (create_model info) → info.number ≡ (schema_at t k).next_model
  created-number k info here = (is.commands k (create_model info) here).0

-- the model that a command creates is the first of its number among those that are created
pub created-found : (commands : List Command) (k : ℕ) (info : ModelInfo) → slice_get commands k ≡ Some (create_model info)
    → ((j : ℕ) (other : ModelInfo) → j < k → slice_get commands j ≡ Some (create_model other) → other.number ≡ info.number → ⊥)
    → model_in (created commands) info.number ≡ Some (closed_model info)
created-found [] k info e first = cc
created-found (c ∷ commands) zero info e first =
    let same : c ≡ create_model info = cc in
    ap (λ (x : Command). model_in (created_by x ++ created commands) info.number) same
    ∙ ap (λ t. cond t (Some (closed_model info)) (model_in (created commands) info.number)) (eq-eqb info.number info.number refl)
created-found (c ∷ commands) (suc k) info e first =
    skipped c (λ other is same. first 0 other (omega arith) (ap (λ (x : Command). Some x) is) same)
    ∙ created-found commands k info e (λ j other less here same. first (suc j) other (omega (arith, less)) here same)
  where
    skipped : (x : Command) → ((other : ModelInfo) → x ≡ create_model other → other.number ≡ info.number → ⊥)
        → model_in (created_by x ++ created commands) info.number ≡ model_in (created commands) info.number
    skipped (create_model other) never =
        ap (λ t. cond t (Some (closed_model other)) (model_in (created commands) info.number)) (false_from_ne_true _ (λ h. never other refl (eqb-true _ _ h)))
    skipped (delete_model n) never = refl
    skipped (add_static n) never = refl
    skipped (remove_static n) never = refl
    skipped (add_principal n) never = refl
    skipped (add_field n f init) never = refl
    skipped (remove_field n f) never = refl
    skipped (update_field n f read write) never = refl
    skipped (weaken_field n f read write reason) never = refl
    skipped (update_model n create delete) never = refl
    skipped (weaken_model n create delete reason) never = refl

pub closed-type : (o : Option FieldInfo) → option_map (λ (g : FieldInfo). g.ty) (option_map closed_field o) ≡ option_map (λ (g : FieldInfo). g.ty) o
closed-type None = refl
closed-type (Some g) = refl

module _ (t : Script) (is : IsScript t) where
  -- in the schema of start databases
  pub created-model : (k : ℕ) (info : ModelInfo) → k < count t → command_at t k ≡ Some (create_model info) → model_of t.start info.number ≡ Some (closed_model info)
  created-model k info below here =
      let number = created-number t is k info here in
      let none : model_in (schema_at t 0).models info.number ≡ None
      = elim (model_of (schema_at t 0) info.number) as (λ (o : Option ModelInfo). model_of (schema_at t 0) info.number ≡ o → o ≡ None) [
        | None ↦ λ e. refl
        | Some i ↦ λ e.
            let early = model-below (schema_at t 0) info.number i (is.proper 0 (omega arith)) e in
            let rises = next-rises t is 0 k (omega (arith, below)) in
            let from : (schema_at t 0).next_model ≤ (schema_at t k).next_model = let same : 0 + k ≡ k = omega arith in subst (λ (n : ℕ). (schema_at t 0).next_model ≤ (schema_at t n).next_model) same rises in
            absurd (omega (arith, early, from, number))
      ] refl in
      ap (λ (s : Schema). model_of s info.number) is.start
      ∙ find-behind (λ (i : ModelInfo). i.number == info.number) (schema_at t 0).models (created t.commands) none
      ∙ created-found t.commands k info here (λ j other less made same.
      let first = created-number t is j other made in
      let c : suc j + (k - suc j) ≡ k = omega (arith, less) in
      let rises = next-rises t is (suc j) (k - suc j) (omega (arith, less, below)) in
      let up : (schema_at t (suc j)).next_model ≤ (schema_at t k).next_model = subst (λ (n : ℕ). (schema_at t (suc j)).next_model ≤ (schema_at t n).next_model) c rises in
      let more : (schema_at t (suc j)).next_model ≡ (schema_at t j).next_model + 1 = ap (λ (s : Schema). s.next_model) (is.steps j (create_model other) made) in
      absurd (omega (arith, first, number, same, up, more)))

  pub created-type : (k : ℕ) (info : ModelInfo) → k < count t → command_at t k ≡ Some (create_model info) → (f : ℕ) (ty : TTy)
      → option_map (λ (g : FieldInfo). g.ty) (field_in info.fields f) ≡ Some ty → type_of t.start info.number f ≡ Some ty
  created-type k info below here f ty h =
      ap (λ o. option_map (λ (g : FieldInfo). g.ty) (option_and_then (λ (i : ModelInfo). field_in i.fields f) o)) (created-model k info below here)
      ∙ ap (option_map (λ (g : FieldInfo). g.ty)) (find-map (λ (g : FieldInfo). g.number == f) closed_field info.fields (λ g. refl))
      ∙ closed-type (field_in info.fields f) ∙ h

  pub created-there : (k : ℕ) (info : ModelInfo) → k < count t → command_at t k ≡ Some (create_model info) → HasModel t.start info.number
  created-there k info below here = ap is_some (created-model k info below here)

  -- what the schema before the script says, that of start databases says
  pub first-type : (m f : ℕ) (ty : TTy) → type_of (schema_at t 0) m f ≡ Some ty → type_of t.start m f ≡ Some ty
  first-type m f ty h =
      let there = has-field (schema_at t 0) m f ty h in
      let found = found-field (schema_at t 0) m f there.0 there.1 in
      let here : model_of t.start m ≡ Some found.model
      = ap (λ (s : Schema). model_of s m) is.start
      ∙ find-front (λ (i : ModelInfo). i.number == m) (schema_at t 0).models (created t.commands) found.model found.found in
      ap (λ o. option_map (λ (g : FieldInfo). g.ty) (option_and_then (λ (i : ModelInfo). field_in i.fields f) o)) (here ∙ sym found.found) ∙ h

  pub first-there : (m : ℕ) → HasModel (schema_at t 0) m → HasModel t.start m
  first-there m h =
      elim (model_of (schema_at t 0) m) as (λ (o : Option ModelInfo). model_of (schema_at t 0) m ≡ o → is_some o ≡ true → HasModel t.start m) [
        | None ↦ λ here e. cc
        | Some i ↦ λ here e.
            ap is_some (ap (λ (s : Schema). model_of s m) is.start
            ∙ find-front (λ (i : ModelInfo). i.number == m) (schema_at t 0).models (created t.commands) i here)
      ] refl h

  -- ---- models that are not created yet

  -- a model that the command's schema does not have keeps its records
  pub record Untouched (d now : Database) (from : ℕ) : Type 0 where
    pub slots : (m id : ℕ) → from ≤ m → slots_of now m id ≡ slots_of d m id
    pub ids : (m : ℕ) → from ≤ m → ids_of now m ≡ ids_of d m

  pub model-early : (k m : ℕ) → k ≤ count t → HasModel (schema_at t k) m → m < (schema_at t k).next_model
  model-early k m within h =
      elim (model_of (schema_at t k) m) as (λ (o : Option ModelInfo). model_of (schema_at t k) m ≡ o → is_some o ≡ true → m < (schema_at t k).next_model) [
        | None ↦ λ here e. cc
        | Some i ↦ λ here e. model-below (schema_at t k) m i (is.proper k within) here
      ] refl h

  module _ (d : Database) where
    pub changed-untouched : (now : Database) (from n : ℕ) (change : Record → List Slot) → n < from → Untouched d now from → Untouched d (change_slots n change now) from
    changed-untouched now from n change early h = record {
      slots = λ m id late. slots-kept n change now m id (λ same. absurd (omega (arith, same, late, early))) ∙ h.slots m id late;
      ids = λ m late. ids-changed n change now m ∙ h.ids m late;
    }

    pub same-untouched : (now : Database) (from more : ℕ) → from ≤ more → Untouched d now from → Untouched d now more
    same-untouched now from more up h = record {
      slots = λ m id late. h.slots m id (omega (arith, up, late));
      ids = λ m late. h.ids m (omega (arith, up, late));
    }

    pub untouched-after : (k : ℕ) → k ≤ count t → (now : Database) → Untouched d now (schema_at t k).next_model
        → (c : Command) → IsCommand (schema_at t k) c → Untouched d (after_command c now) (schema_after (schema_at t k) c).next_model
    untouched-after k within now h (create_model info) e = same-untouched now (schema_at t k).next_model ((schema_at t k).next_model + 1) (omega arith) h
    untouched-after k within now h (delete_model n) e =
        let early = model-early k n within e in
        record {
          slots = λ m id late.
              ap (λ o. option_map_or (λ (r : Record). r.slots) (find (λ (r : Record). r.id == id) (option_map_or (λ (t : Table). t.records) o [])) [])
              (table-kept now n m (λ same. absurd (omega (arith, same, late, early)))) ∙ h.slots m id late;
          ids = λ m late.
              ap (λ o. map (λ (r : Record). r.id) (option_map_or (λ (t : Table). t.records) o []))
              (table-kept now n m (λ same. absurd (omega (arith, same, late, early)))) ∙ h.ids m late;
        }
    untouched-after k within now h (add_static info) e = h
    untouched-after k within now h (remove_static n) e = h
    untouched-after k within now h (add_principal n) e = h
    untouched-after k within now h (add_field n f init) e =
        changed-untouched now (schema_at t k).next_model n (λ (r : Record). r.slots ++ (record { field = f.number; value = init_value now init r.id }) ∷ []) (model-early k n within e.0) h
    untouched-after k within now h (remove_field n f) e =
        changed-untouched now (schema_at t k).next_model n (λ (r : Record). filter (λ (slot : Slot). not (slot.field == f)) r.slots)
        (model-early k n within (model-of-field (schema_at t k) n f e)) h
    untouched-after k within now h (update_field n f read write) e = h
    untouched-after k within now h (weaken_field n f read write reason) e = h
    untouched-after k within now h (update_model n create delete) e = h
    untouched-after k within now h (weaken_model n create delete reason) e = h

    pub run-after : (k : ℕ) (c : Command) → command_at t k ≡ Some c → run_to t (suc k) d ≡ after_command c (run_to t k d)
    run-after k c here = ap (λ o. after_if_any o (run_to t k d)) here

    pub untouched-at : (k : ℕ) → k ≤ count t → Untouched d (run_to t k d) (schema_at t k).next_model
    untouched-at zero within = record { slots = λ m id late. refl; ids = λ m late. refl }
    untouched-at (suc k) within =
        let c = command-there t is k (omega (arith, within)) in
        let early : k ≤ count t = omega (arith, within) in
        let one = untouched-after k early (run_to t k d) (untouched-at k early) c.0 (is.commands k c.0 c.1) in
        subst (λ (s : Schema). Untouched d (run_to t (suc k) d) s.next_model) (sym (is.steps k c.0 c.1))
        (subst (λ (e : Database). Untouched d e (schema_after (schema_at t k) c.0).next_model) (sym (run-after k c.0 c.1)) one)

-- what a schema with one more model says, the schema before it says, or it is said of the new model
pub type-split : (s : Schema) (info : ModelInfo) (m f : ℕ) (ty : TTy) → type_of (schema_after s (create_model info)) m f ≡ Some ty
    → (type_of s m f ≡ Some ty) ⊎ ((info.number ≡ m) × (option_map (λ (g : FieldInfo). g.ty) (field_in info.fields f) ≡ Some ty))
type-split s info m f ty h =
    let of : Option ModelInfo → Option TTy = λ o. option_map (λ (g : FieldInfo). g.ty) (option_and_then (λ (i : ModelInfo). field_in i.fields f) o) in
    elim (model_in (s.models ++ info ∷ []) m) as (λ (o : Option ModelInfo). model_in (s.models ++ info ∷ []) m ≡ o → of o ≡ Some ty
    → (of (model_of s m) ≡ Some ty) ⊎ ((info.number ≡ m) × (option_map (λ (g : FieldInfo). g.ty) (field_in info.fields f) ≡ Some ty))) [
      | None ↦ λ here e. cc
      | Some i ↦ λ here e.
          let number : i.number ≡ m = eqb-true _ _ (find-holds (λ (u : ModelInfo). u.number == m) (s.models ++ info ∷ []) i here) in
          elim (find-last (λ (u : ModelInfo). u.number == m) s.models info i here) [
            | inl before ↦ inl (ap of before ∙ e)
            | inr same ↦ inr (
              ap (λ (u : ModelInfo). u.number) (sym same) ∙ number,
              ap (λ (u : ModelInfo). option_map (λ (g : FieldInfo). g.ty) (field_in u.fields f)) (sym same) ∙ e,
            )
          ]
    ] refl h

pub model-split : (s : Schema) (info : ModelInfo) (m : ℕ) → HasModel (schema_after s (create_model info)) m → (HasModel s m) ⊎ (info.number ≡ m)
model-split s info m h =
    elim (model_in (s.models ++ info ∷ []) m) as (λ (o : Option ModelInfo). model_in (s.models ++ info ∷ []) m ≡ o → is_some o ≡ true → (HasModel s m) ⊎ (info.number ≡ m)) [
      | None ↦ λ here e. cc
      | Some i ↦ λ here e.
          let number : i.number ≡ m = eqb-true _ _ (find-holds (λ (u : ModelInfo). u.number == m) (s.models ++ info ∷ []) i here) in
          elim (find-last (λ (u : ModelInfo). u.number == m) s.models info i here) [
            | inl before ↦ inl (ap is_some before)
            | inr same ↦ inr (ap (λ (u : ModelInfo). u.number) (sym same) ∙ number)
          ]
    ] refl h

-- ---- models of one of the schemas

module _ (t : Script) (is : IsScript t) where
  pub from-before : (k : ℕ) → k < count t → (c : Command) → command_at t k ≡ Some c → (m : ℕ) → HasModel (schema_after (schema_at t k) c) m
      → (HasModel (schema_at t k) m → HasModel t.start m) → HasModel t.start m
  from-before k below (create_model info) here m h before =
      elim (model-split (schema_at t k) info m h) [
        | inl old ↦ before old
        | inr new ↦ subst (λ (n : ℕ). HasModel t.start n) new (created-there t is k info below here)
      ]
  from-before k below (delete_model n) here m h before = before (model-there (schema_at t k) (delete_model n) tt m h)
  from-before k below (add_static info) here m h before = before h
  from-before k below (remove_static n) here m h before = before h
  from-before k below (add_principal n) here m h before = before (model-there (schema_at t k) (add_principal n) tt m h)
  from-before k below (add_field n f init) here m h before = before (changed-there (schema_at t k) n (with_field f) (λ i. refl) m h)
  from-before k below (remove_field n f) here m h before = before (model-there (schema_at t k) (remove_field n f) tt m h)
  from-before k below (update_field n f read write) here m h before = before (model-there (schema_at t k) (update_field n f read write) tt m h)
  from-before k below (weaken_field n f read write reason) here m h before = before (model-there (schema_at t k) (weaken_field n f read write reason) tt m h)
  from-before k below (update_model n create delete) here m h before = before (model-there (schema_at t k) (update_model n create delete) tt m h)
  from-before k below (weaken_model n create delete reason) here m h before = before (model-there (schema_at t k) (weaken_model n create delete reason) tt m h)

  -- a model of one of the schemas is one of the schema of start databases
  pub model-of-start : (k : ℕ) → k ≤ count t → (m : ℕ) → HasModel (schema_at t k) m → HasModel t.start m
  model-of-start zero within m h = first-there t is m h
  model-of-start (suc k) within m h =
      let below : k < count t = omega (arith, within) in
      let c = command-there t is k below in
      from-before k below c.0 c.1 m (subst (λ (s : Schema). HasModel s m) (is.steps k c.0 c.1) h) (model-of-start k (omega (arith, within)) m)

  pub principal-there : (s : Schema) (n : ℕ) → has_kind s (kind.Model n) ≡ true → HasModel s n
  principal-there s n h =
      elim (model_of s n) as (λ (o : Option ModelInfo). option_map_or (λ (i : ModelInfo). i.principal) o false ≡ true → is_some o ≡ true) [
        | None ↦ λ e. cc
        | Some i ↦ λ e. refl
      ] h

  pub kind-model : (n k : ℕ) → is_kind_at t k (kind.Model n) ≡ true → HasModel t.start n
  kind-model n k h =
      let one = some-passes (λ s. has_kind s (kind.Model n)) t.schemas (and-left _ _ h) in
      let same : schema_at t one.0 ≡ one.1 = get_or_from_slice_get t.schemas one.0 one.1 t.start one.2 in
      let number = slice_get_within t.schemas one.0 one.1 one.2 in
      let within : one.0 ≤ count t = omega (arith, number, is.schemas) in
      model-of-start one.0 within n (subst (λ (s : Schema). HasModel s n) (sym same) (principal-there one.1 n one.3))
