-- The structure of a start database shows a field that a command adds.
use Rattle.std.proofs.Common.{◌≡◌, ℕ, ◌<◌, ◌≤◌, ◌⊎◌, Bool, true, false, ◌&&◌, ◌||◌, List, [], ◌∷◌, ◌++◌, refl, ap, sym, ◌∙◌, arith, cond, inl, inr}
use Rattle.std.specs.Prelude.{Option, Some, None, map, filter, fold, ◌==◌, option_and_then, if◌then◌else◌}
use Rattle.std.specs.List.{find, list_any, AllByRecursion}
use Rattle.std.specs.Option.{option_map, option_map_or}
use Rattle.std.proofs.lemmas.Bool.{eqb-true, eq-eqb, false_from_ne_true}
use Rattle.type_schema.specs.declared.types.TBase.TheVariants as base
use Rattle.type_schema.specs.declared.types.TTy.{TTy}
use Rattle.type_schema.specs.declared.types.TTy.TheVariants.{Plain, Set}
use Rattle.type_schema.specs.Trees.{Init, plain, of_set}
use Rattle.type_schema.specs.Schema.{FieldInfo, ModelInfo, Added, Schema, field_in, type_of}
use Rattle.type_schema.specs.Typing.{HasModel, records, IsInit}
use Rattle.type_schema.specs.Commands.{add_field, with_field, schema_after}
use Rattle.type_schema.specs.Proper.{IsProper}
use Rattle.data_meaning.specs.declared.principals.Principal.TheVariants.{Rec}
use Rattle.data_meaning.specs.Values.{Value, Id, Nothing}
use Rattle.data_meaning.specs.Database.{Slot, Record, Database, records_of, slots_of, ids_of, has_record, field_at}
use Rattle.data_meaning.proofs.Finds.{find-holds, find-last}
use Rattle.data_meaning.proofs.Lookup.{record-found}
use Rattle.data_meaning.specs.Meaning.{id_of, same_truth, member}
use Rattle.data_meaning.specs.Run.{init_value, after_command, change_slots}
use Rattle.data_meaning.proofs.Changes.{slots-changed}
use Rattle.data_meaning.proofs.Policies.{model-changed}
use Rattle.form_formula.specs.declared.structure.Structure.{Structure}
use Rattle.form_formula.specs.Trees.{Term}
use Rattle.duty_meaning.specs.Cases.{at_term}
use Rattle.duty_meaning.specs.Formulas.{Written, with_added, written_out, nothing_written, record_at, init_cases}
use Rattle.duty_meaning.proofs.Means.{HasType, IsTermOf, Means, term-more}
use Rattle.duty_meaning.proofs.Meanings.{Shows, typed, means, in-means, id-term, own-there}
use Rattle.duty_meaning.proofs.Starting.{find-behind}

-- ---- what is written out

fold-last : {A B : Type 0} (f : B → A → B) (z : B) (xs : List A) (y : A) → fold f z (xs ++ y ∷ []) ≡ f (fold f z xs) y
fold-last f z [] y = refl
fold-last f z (x ∷ xs) y = fold-last f (f z x) xs y

pub written-more : (b : Schema) (added : List Added) (a : Added) → written_out b (added ++ a ∷ []) ≡ with_added b (written_out b added) a
written-more b added a = fold-last (with_added b) nothing_written added a

and-false : (a b : Bool) → b ≡ false → (a && b) ≡ false
and-false true b e = e
and-false false b e = refl

-- a field that is not the added one stands for what it stood for
pub written-kept : (b : Schema) (w : Written) (a : Added) (m f : ℕ) → (a.field ≡ f → ⊥) → with_added b w a m f ≡ w m f
written-kept b w a m f other =
    let test : ((a.model == m) && (a.field == f)) ≡ false = and-false (a.model == m) (a.field == f) (false_from_ne_true _ (λ h. other (eqb-true _ _ h))) in
    ap (λ t. cond t (Some (init_cases b w a.init)) (w m f)) test

-- and a field whose number is above those of the added ones for nothing
written-above : (b : Schema) (added : List Added) (w : Written) (next m f : ℕ) → AllByRecursion (λ n. n < next) (map (λ (a : Added). a.field) added)
    → next ≤ f → fold (with_added b) w added m f ≡ w m f
written-above b [] w next m f below above = refl
written-above b (a ∷ added) w next m f below above =
    written-above b added (with_added b w a) next m f below.1 above
    ∙ written-kept b w a m f (λ same. let less = below.0 in absurd (omega (arith, same, less, above)))

pub none-written : (b s : Schema) → IsProper s → (m f : ℕ) → s.next_field ≤ f → written_out b s.added m f ≡ None
none-written b s proper m f above = written-above b s.added nothing_written s.next_field m f proper.added.below above

-- ---- what the schema says after the command

pub added-split : (s : Schema) (m0 : ℕ) (g : FieldInfo) (init : Init) (m f : ℕ) (ty : TTy) → type_of (schema_after s (add_field m0 g init)) m f ≡ Some ty
    → (type_of s m f ≡ Some ty) ⊎ ((m0 ≡ m) × (g.number ≡ f) × (g.ty ≡ ty))
added-split s m0 g init m f ty h =
    model-changed m0 (with_field g) (λ i. refl) R s.models m step (inl h)
  where
    of : Option ModelInfo → Option TTy
    of o = option_map (λ (x : FieldInfo). x.ty) (option_and_then (λ (i : ModelInfo). field_in i.fields f) o)

    R : Option ModelInfo → Type 0
    R o = (of o ≡ Some ty) ⊎ ((m0 ≡ m) × (g.number ≡ f) × (g.ty ≡ ty))

    among-fields : (fields : List FieldInfo) → m ≡ m0 → option_map (λ (x : FieldInfo). x.ty) (field_in (fields ++ g ∷ []) f) ≡ Some ty
        → (option_map (λ (x : FieldInfo). x.ty) (field_in fields f) ≡ Some ty) ⊎ ((m0 ≡ m) × (g.number ≡ f) × (g.ty ≡ ty))
    among-fields fields same e =
        elim (field_in (fields ++ g ∷ []) f) as (λ (o : Option FieldInfo). field_in (fields ++ g ∷ []) f ≡ o → option_map (λ (x : FieldInfo). x.ty) o ≡ Some ty
        → (option_map (λ (x : FieldInfo). x.ty) (field_in fields f) ≡ Some ty) ⊎ ((m0 ≡ m) × (g.number ≡ f) × (g.ty ≡ ty))) [
          | None ↦ λ here e. cc
          | Some x ↦ λ here e.
              elim (find-last (λ (u : FieldInfo). u.number == f) fields g x here) [
                | inl before ↦ inl (ap (option_map (λ (x : FieldInfo). x.ty)) before ∙ e)
                | inr is ↦
                    let number : x.number ≡ f = eqb-true _ _ (find-holds (λ (u : FieldInfo). u.number == f) (fields ++ g ∷ []) x here) in
                    let one : x.ty ≡ ty = cc in
                    inr (sym same, ap (λ (u : FieldInfo). u.number) (sym is) ∙ number, ap (λ (u : FieldInfo). u.ty) (sym is) ∙ one)
              ]
        ] refl e

    step : m ≡ m0 → (i : ModelInfo) → R (Some (with_field g i)) → R (Some i)
    step same i r =
        elim r [
          | inl e ↦ among-fields i.fields same e
          | inr c ↦ inr c
        ]

-- ---- what the field holds

abbrev slot_in : ℕ → List Slot → Option Slot
slot_in f slots = find (λ (slot : Slot). slot.field == f) slots

-- the value of the new slot of a record that had none of the number
pub field-new : (m0 : ℕ) (g : FieldInfo) (init : Init) (now : Database) (id : ℕ) → has_record now m0 id ≡ true → slot_in g.number (slots_of now m0 id) ≡ None
    → field_at (after_command (add_field m0 g init) now) m0 id g.number ≡ init_value now init id
field-new m0 g init now id there fresh =
    let change : Record → List Slot = λ r. r.slots ++ (record { field = g.number; value = init_value now init r.id }) ∷ [] in
    let found = record-found id (records_of now m0) there in
    let r : Record = found.0 in
    let same : r.id ≡ id = eqb-true _ _ (find-holds (λ (u : Record). u.id == id) (records_of now m0) r found.1) in
    let own : slot_in g.number r.slots ≡ None
    = ap (λ o. slot_in g.number (option_map_or (λ (u : Record). u.slots) o [])) (sym found.1) ∙ fresh in
    let slots : slots_of (change_slots m0 change now) m0 id ≡ change r
    = slots-changed m0 change now m0 id
    ∙ ap (λ o. option_map_or (λ (u : Record). if m0 == m0 then change u else u.slots) o []) found.1
    ∙ ap (λ t. cond t (change r) r.slots) (eq-eqb m0 m0 refl) in
    ap (λ xs. option_map_or (λ (slot : Slot). slot.value) (slot_in g.number xs) Nothing) slots
    ∙ ap (λ o. option_map_or (λ (slot : Slot). slot.value) o Nothing)
    (find-behind (λ (slot : Slot). slot.field == g.number) r.slots ((record { field = g.number; value = init_value now init r.id }) ∷ []) own
    ∙ ap (λ t. cond t (Some (record { field = g.number; value = init_value now init r.id })) None) (eq-eqb g.number g.number refl))
    ∙ ap (init_value now init) same

-- an id is among those that pass where it passes and is among all
among-filtered : (p : ℕ → Bool) (ids : List ℕ) (i : ℕ) → list_any (λ j. j == i) (filter p ids) ≡ (list_any (λ j. j == i) ids && p i)
among-filtered p [] i = refl
among-filtered p (x ∷ ids) i =
    elim (p x) as (λ (t : Bool). p x ≡ t → list_any (λ j. j == i) (cond t (x ∷ filter p ids) (filter p ids)) ≡ (((x == i) || list_any (λ j. j == i) ids) && p i)) [
      | true ↦ λ here.
          (elim (x == i) as (λ (t : Bool). (x == i) ≡ t → (t || list_any (λ j. j == i) (filter p ids)) ≡ ((t || list_any (λ j. j == i) ids) && p i)) [
            | true ↦ λ is. sym here ∙ ap p (eqb-true x i is)
            | false ↦ λ is. among-filtered p ids i
          ]) refl
      | false ↦ λ here.
          (elim (x == i) as (λ (t : Bool). (x == i) ≡ t → list_any (λ j. j == i) (filter p ids) ≡ ((t || list_any (λ j. j == i) ids) && p i)) [
            | true ↦ λ is.
                let fails : p i ≡ false = ap p (sym (eqb-true x i is)) ∙ here in
                among-filtered p ids i ∙ ap (λ t. list_any (λ j. j == i) ids && t) fails ∙ never (list_any (λ j. j == i) ids) ∙ sym fails
            | false ↦ λ is. among-filtered p ids i
          ]) refl
    ] refl
  where
    never : (a : Bool) → (a && false) ≡ false
    never true = refl
    never false = refl

module _ (b s : Schema) (written : Written) (st : Structure) (d now : Database) (shows : Shows b s written st d now) where
  -- what an initialiser gives at a record
  pub init-means : (m0 : ℕ) (ty : TTy) (init : Init) → IsInit s m0 ty init → ((n : ℕ) → ty ≡ Set n → HasModel s n)
      → (xs : List ℕ) (v : Value) (u : Term) → IsTermOf b st d xs (base.Id m0) v u
      → Means b st d xs ty (init_value now init (id_of v)) (init_cases b written init u)
  init-means m0 ty (plain x) is target xs v u it =
      means b s written st d now shows x (Plain (base.Id m0) ∷ []) (Id (id_of v) ∷ []) (at_term u ∷ []) xs
      ((base.Id m0, refl, refl, id-term b s written st d now shows m0 xs v u it), (base.Id m0, refl, refl), tt) ty is.1
  init-means m0 ty (of_set n set) is target xs v u it = (
    n,
    is.0,
    λ zs q i w other sign.
        let more : IsTermOf b st d zs (base.Id m0) (Id (id_of v)) u
        = term-more b st d xs zs (base.Id m0) (Id (id_of v)) u q (id-term b s written st d now shows m0 xs v u it) in
        let there : list_any (λ j. j == i) (ids_of now n) ≡ true
        = ap (list_any (λ j. j == i)) (shows.ids n (target n is.0)) ∙ own-there b s written st d now shows n zs i w other in
        in-means b s written st d now shows set (Plain (base.Id m0) ∷ []) (Id (id_of v) ∷ []) (at_term u ∷ []) zs
        ((base.Id m0, refl, refl, more), (base.Id m0, refl, refl), tt) (records n) is.1 (Rec n i) (record_at n w) (refl, other) sign
        ∙ ap (same_truth sign)
        (sym (among-filtered (λ y. member now (Id (id_of v) ∷ []) set (Rec n y)) (ids_of now n) i
        ∙ ap (λ t. t && member now (Id (id_of v) ∷ []) set (Rec n i)) there)),
  )

  pub init-typed : (m0 : ℕ) (ty : TTy) (init : Init) → IsInit s m0 ty init → (u : Term) → HasType b ty (init_cases b written init u)
  init-typed m0 ty (plain x) is u = typed b s written shows.types x (Plain (base.Id m0) ∷ []) (at_term u ∷ []) ((base.Id m0, refl, refl), tt) ty is.1
  init-typed m0 ty (of_set n set) is u = (n, is.0)
