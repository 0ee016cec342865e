-- What look-up finds in the database of a structure.
use Rattle.std.proofs.Common.{◌≡◌, ℕ, zero, suc, ◌+◌, ◌<◌, ◌≤◌, Bool, true, false, ◌||◌, List, [], ◌∷◌, length, refl, ap, sym, ◌∙◌, arith, cond, inl, inr}
use Rattle.std.specs.Prelude.{Option, Some, None, map, ◌==◌}
use Rattle.std.specs.List.{find, range_with_len, list_any}
use Rattle.std.specs.Option.{option_map_or}
use Rattle.std.proofs.lemmas.Bool.{eqb-true, eq-eqb, false_from_ne_true}
use Rattle.type_schema.specs.Schema.{FieldInfo, ModelInfo, Schema, model_of, field_in}
use Rattle.type_schema.specs.Proper.{model_numbers}
use Rattle.data_meaning.specs.Values.{Nothing}
use Rattle.data_meaning.specs.Database.{Slot, Record, Table, Database, table_of, records_of, slots_of, ids_of, has_record, field_at}
use Rattle.data_meaning.proofs.Finds.{find-holds}
use Rattle.data_meaning.proofs.Agreement.{ap2}
use Rattle.form_formula.specs.declared.structure.Structure.{Structure}
use Rattle.form_formula.specs.Truth.{size_of, elements}
use Rattle.duty_meaning.specs.Structures.{before, sort_of, element_of}
use Rattle.check_witness.specs.Built.{built_value, built_slot, built_record, built_table, built}
use Rattle.check_witness.proofs.Lists.{map-long, past-end, find-of-map, find-none-of-map, before-none, range-before}
use Rattle.check_witness.proofs.Rising.{In, in-range}

-- ---- records one after another

module _ (make : ℕ → Record) (numbered : (x : ℕ) → (make x).id ≡ suc x) where
  pub made-ids : (n a : ℕ) → map (λ (r : Record). r.id) (map make (range_with_len a n)) ≡ range_with_len (a + 1) n
  made-ids zero a = refl
  made-ids (suc n) a = let next : suc a ≡ a + 1 = omega arith in ap2 (λ i ids. i ∷ ids) (numbered a ∙ next) (made-ids n (a + 1))

  pub made-found : (n a x : ℕ) → a ≤ x → x < a + n → find (λ (r : Record). r.id == suc x) (map make (range_with_len a n)) ≡ Some (make x)
  made-found zero a x low high = absurd (omega (arith, low, high))
  made-found (suc n) a x low high =
      elim (a == x) as (λ (t : Bool). (a == x) ≡ t
      → cond ((make a).id == suc x) (Some (make a)) (find (λ (r : Record). r.id == suc x) (map make (range_with_len (a + 1) n))) ≡ Some (make x)) [
        | true ↦ λ here.
            let same : a ≡ x = eqb-true _ _ here in
            ap (λ t. cond t (Some (make a)) (find (λ (r : Record). r.id == suc x) (map make (range_with_len (a + 1) n)))) (eq-eqb (make a).id (suc x) (numbered a ∙ ap suc same))
            ∙ ap (λ z. Some (make z)) same
        | false ↦ λ here.
            let other : (a ≡ x) → ⊥ = λ same. (let e = eq-eqb a x same in cc) in
            let differs : ((make a).id == suc x) ≡ false = false_from_ne_true _ (λ h.
            let same : (make a).id ≡ suc x = eqb-true _ _ h in
            let number = numbered a in
            let it : a ≡ x = omega (arith, same, number) in
            absurd (other it)) in
            let above : a + 1 ≤ x = grind (arith, other, low) in
            ap (λ t. cond t (Some (make a)) (find (λ (r : Record). r.id == suc x) (map make (range_with_len (a + 1) n)))) differs
            ∙ made-found n (a + 1) x above (omega (arith, high))
      ] refl

-- ---- the database

any-in-range : (ids : List ℕ) (x : ℕ) → In ids x → list_any (λ i. i == x) ids ≡ true
any-in-range [] x i = absurd i
any-in-range (z ∷ ids) x (inl same) = ap (λ t. t || list_any (λ i. i == x) ids) (eq-eqb z x same)
any-in-range (z ∷ ids) x (inr later) =
    elim (z == x) as (λ (t : Bool). (t || list_any (λ i. i == x) ids) ≡ true) [
      | true ↦ refl
      | false ↦ any-in-range ids x later
    ]

module _ (s : Schema) (st : Structure) where
  abbrev d : Database
  d = built s st

  pub table-built : (m : ℕ) (i : ModelInfo) → model_of s m ≡ Some i → table_of d m ≡ Some (built_table s st i)
  table-built m i model = find-of-map (λ (u : ModelInfo). u.number == m) (λ (t : Table). t.model == m) (built_table s st) (λ u. refl) s.models i model

  records-built : (m : ℕ) (i : ModelInfo) → model_of s m ≡ Some i → records_of d m ≡ map (built_record s st i) (elements st (sort_of s m))
  records-built m i model =
      let number : i.number ≡ m = eqb-true _ _ (find-holds (λ (u : ModelInfo). u.number == m) s.models i model) in
      ap (λ o. option_map_or (λ (t : Table). t.records) o []) (table-built m i model)
      ∙ ap (λ n. map (built_record s st i) (elements st (sort_of s n))) number

  ids-there : (m : ℕ) (i : ModelInfo) → model_of s m ≡ Some i → ids_of d m ≡ range_with_len 1 (size_of st (sort_of s m))
  ids-there m i model =
      ap (map (λ (r : Record). r.id)) (records-built m i model) ∙ made-ids (built_record s st i) (λ x. refl) (size_of st (sort_of s m)) 0

  -- a model that is not there has no elements
  no-elements : length st.sizes ≡ length s.models → (m : ℕ) → model_of s m ≡ None → size_of st (sort_of s m) ≡ 0
  no-elements sizes m none =
      let numbers : find (λ n. n == m) (model_numbers s.models) ≡ None = find-none-of-map (λ (u : ModelInfo). u.number == m) (λ n. n == m) (λ (u : ModelInfo). u.number) (λ u. refl) s.models none in
      let past : sort_of s m ≡ length (model_numbers s.models) = before-none (λ n. n == m) (model_numbers s.models) numbers in
      let long : length (model_numbers s.models) ≡ length s.models = map-long (λ (u : ModelInfo). u.number) s.models in
      past-end st.sizes (sort_of s m) 0 (omega (arith, past, long, sizes))

  pub ids-built : length st.sizes ≡ length s.models → (m : ℕ) → ids_of d m ≡ range_with_len 1 (size_of st (sort_of s m))
  ids-built sizes m =
      elim (model_of s m) as (λ (o : Option ModelInfo). model_of s m ≡ o → ids_of d m ≡ range_with_len 1 (size_of st (sort_of s m))) [
        | None ↦ λ none.
            let nothing : table_of d m ≡ None = find-none-of-map (λ (u : ModelInfo). u.number == m) (λ (t : Table). t.model == m) (built_table s st) (λ u. refl) s.models none in
            ap (λ o. map (λ (r : Record). r.id) (option_map_or (λ (t : Table). t.records) o [])) nothing
            ∙ ap (range_with_len 1) (sym (no-elements sizes m none))
        | Some i ↦ λ model. ids-there m i model
      ] refl

  pub element-built : length st.sizes ≡ length s.models → (m x : ℕ) → x < size_of st (sort_of s m) → element_of d m (suc x) ≡ x
  element-built sizes m x below =
      ap (before (λ i. i == suc x)) (ids-built sizes m) ∙ range-before (size_of st (sort_of s m)) 1 x (suc x) below (omega arith)

  pub there-built : length st.sizes ≡ length s.models → (m x : ℕ) → x < size_of st (sort_of s m) → has_record d m (suc x) ≡ true
  there-built sizes m x below =
      ap (list_any (λ i. i == suc x)) (ids-built sizes m)
      ∙ any-in-range (range_with_len 1 (size_of st (sort_of s m))) (suc x) (in-range (size_of st (sort_of s m)) 1 (suc x) (omega arith) (omega (arith, below)))

  pub field-built : (m : ℕ) (i : ModelInfo) (f : FieldInfo) (x : ℕ) → model_of s m ≡ Some i → field_in i.fields f.number ≡ Some f → x < size_of st (sort_of s m)
      → field_at d m (suc x) f.number ≡ built_value s st m f.number f.ty x
  field-built m i f x model field below =
      let number : i.number ≡ m = eqb-true _ _ (find-holds (λ (u : ModelInfo). u.number == m) s.models i model) in
      let found : find (λ (r : Record). r.id == suc x) (records_of d m) ≡ Some (built_record s st i x)
      = ap (find (λ (r : Record). r.id == suc x)) (records-built m i model)
      ∙ made-found (built_record s st i) (λ x. refl) (size_of st (sort_of s m)) 0 x (omega arith) (omega (arith, below)) in
      let slots : slots_of d m (suc x) ≡ map (built_slot s st i x) i.fields = ap (λ o. option_map_or (λ (r : Record). r.slots) o []) found in
      ap (λ (zs : List Slot). option_map_or (λ (slot : Slot). slot.value) (find (λ (slot : Slot). slot.field == f.number) zs) Nothing) slots
      ∙ ap (λ o. option_map_or (λ (slot : Slot). slot.value) o Nothing)
      (find-of-map (λ (g : FieldInfo). g.number == f.number) (λ (slot : Slot). slot.field == f.number) (built_slot s st i x) (λ g. refl) i.fields f field)
      ∙ ap (λ n. built_value s st n f.number f.ty x) number
