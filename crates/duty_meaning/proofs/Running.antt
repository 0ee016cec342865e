-- The structure of a start database shows what the database is after each command.
use Rattle.std.proofs.Common.{◌≡◌, ℕ, zero, suc, ◌+◌, ◌<◌, ◌≤◌, Bool, true, false, not, List, [], ◌∷◌, ◌++◌, length, refl, ap, sym, ◌∙◌, subst, arith, cond, inl, inr}
use Rattle.std.specs.Prelude.{Option, Some, None, filter, ◌==◌, is_some}
use Rattle.std.specs.List.{find, list_any}
use Rattle.std.specs.Option.{option_map, option_map_or}
use Rattle.std.proofs.lemmas.Bool.{eqb-true, eq-eqb, false_from_ne_true}
use Rattle.type_schema.specs.declared.types.TTy.{TTy}
use Rattle.type_schema.specs.declared.types.TTy.TheVariants.{Set}
use Rattle.type_schema.specs.Trees.{Init}
use Rattle.type_schema.specs.Schema.{FieldInfo, ModelInfo, Added, Schema, field_in, model_of, type_of}
use Rattle.type_schema.specs.Typing.{HasModel, IsInit, IsType}
use Rattle.type_schema.specs.Commands.{Command, create_model, delete_model, add_static, remove_static, add_principal, add_field, remove_field, update_field, weaken_field, update_model, weaken_model, with_field, schema_after, AreNumberedFrom}
use Rattle.type_schema.specs.Proper.{AreProperFields, IsProper}
use Rattle.type_schema.specs.Script.{Script, schema_at, command_at, count, closed_model, created, IsScript}
use Rattle.data_meaning.specs.Values.{Value, Nothing}
use Rattle.data_meaning.specs.Database.{Slot, Record, Table, Database, table_of, slots_of, has_record, field_at}
use Rattle.data_meaning.proofs.Finds.{find-among, find-none}
use Rattle.data_meaning.specs.Meaning.{id_of}
use Rattle.data_meaning.specs.Run.{init_value, after_command, run_to}
use Rattle.data_meaning.specs.Gain.{IsStart}
use Rattle.data_meaning.proofs.Changes.{table-kept}
use Rattle.data_meaning.proofs.Kept.{field-typed, field-below}
use Rattle.data_meaning.proofs.Meanings.{agree-added}
use Rattle.data_meaning.proofs.Policies.{numbered-from, both-same}
use Rattle.form_formula.specs.declared.structure.Structure.{Structure}
use Rattle.form_formula.specs.Trees.{Term}
use Rattle.duty_meaning.specs.Structures.{structure_of}
use Rattle.duty_meaning.specs.Cases.{Cases, held}
use Rattle.duty_meaning.specs.Formulas.{Written, nothing_written, field_cases, with_added, written_out, init_cases}
use Rattle.duty_meaning.proofs.Means.{prefix-itself, HasType, Means}
use Rattle.duty_meaning.proofs.Meanings.{Shows}
use Rattle.duty_meaning.proofs.Starting.{find-front, find-behind, shows-itself}
use Rattle.duty_meaning.proofs.Adding.{written-more, written-kept, none-written, added-split, field-new, init-means, init-typed}
use Rattle.duty_meaning.proofs.Shown.{has-field, ShownField, shows-all, shown-field, shown-model, field-moved, written-moved, model-moved, shows-less, agree-itself, AddsNothing, agrees, changed-there, model-there, field-there}
use Rattle.duty_meaning.proofs.Created.{slot_in, fresh-changed, none-filtered, all-mapped, numbered-below, fresh-model, IsFresh, command-there, created-number, created-model, created-type, created-there, first-type, first-there, run-after, untouched-at, type-split, model-split}

-- ---- the walk

module _ (t : Script) (is : IsScript t) (d : Database) (start : IsStart t d) where
  abbrev pub st : Structure
  st = structure_of t.start d

  pub first-shown : Shows t.start t.start nothing_written st d d
  first-shown = shows-itself t.start d start.over

  -- ---- slots

  first-fresh : IsFresh (schema_at t 0) d
  first-fresh m h f id above =
      elim (model_of (schema_at t 0) m) as (λ (o : Option ModelInfo). model_of (schema_at t 0) m ≡ o → is_some o ≡ true → slot_in f (slots_of d m id) ≡ None) [
        | None ↦ λ here e. cc
        | Some i ↦ λ here e.
            let found : model_of t.start m ≡ Some i
            = ap (λ (s : Schema). model_of s m) is.start
            ∙ find-front (λ (i : ModelInfo). i.number == m) (schema_at t 0).models (created t.commands) i here in
            let proper = is.proper 0 (omega arith) in
            let fields = find-among (AreProperFields (schema_at t 0).next_field) (λ (u : ModelInfo). u.number == m) (schema_at t 0).models i proper.fields here in
            fresh-model t.start d start.over m i found (schema_at t 0).next_field f id
            (all-mapped (λ n. n < (schema_at t 0).next_field) (λ (g : FieldInfo). g.number) i.fields fields.numbers.below) above
      ] refl h

  fresh-after : (k : ℕ) → k < count t → (c : Command) → command_at t k ≡ Some c → IsFresh (schema_at t k) (run_to t k d)
      → IsFresh (schema_after (schema_at t k) c) (after_command c (run_to t k d))
  fresh-after k below (create_model info) here fresh m h f id above =
      let number = created-number t is k info here in
      let early : k ≤ count t = omega (arith, below) in
      elim (model-split (schema_at t k) info m h) [
        | inl old ↦ fresh m old f id (omega (arith, above))
        | inr new ↦
            let late : (schema_at t k).next_model ≤ m = omega (arith, number, new) in
            let found : model_of t.start m ≡ Some (closed_model info) = subst (λ (n : ℕ). model_of t.start n ≡ Some (closed_model info)) new (created-model t is k info below here) in
            let untouched = untouched-at t is d k early in
            ap (slot_in f) (untouched.slots m id late)
            ∙ fresh-model t.start d start.over m (closed_model info) found ((schema_at t k).next_field + length info.fields) f id
            (numbered-below (schema_at t k).next_field info.fields ((schema_at t k).next_field + length info.fields) (is.commands k (create_model info) here).1 (omega arith)) above
      ]
  fresh-after k below (delete_model n) here fresh m h f id above =
      let now : Database = run_to t k d in
      elim (m == n) as (λ (b : Bool). (m == n) ≡ b → slot_in f (slots_of (after_command (delete_model n) now) m id) ≡ None) [
        | true ↦ λ same.
            let gone : table_of (after_command (delete_model n) now) m ≡ None
            = find-none (λ (t : Table). t.model == m) (λ (t : Table). not (t.model == n)) now (λ t is. ap not (eq-eqb _ _ (eqb-true _ _ is ∙ eqb-true _ _ same))) in
            ap (λ o. slot_in f (option_map_or (λ (r : Record). r.slots) (find (λ (r : Record). r.id == id) (option_map_or (λ (u : Table). u.records) o [])) [])) gone
        | false ↦ λ other.
            let differs : m ≡ n → ⊥ = λ e. let never : true ≡ false = sym (eq-eqb m n e) ∙ other in cc in
            ap (λ o. slot_in f (option_map_or (λ (r : Record). r.slots) (find (λ (r : Record). r.id == id) (option_map_or (λ (u : Table). u.records) o [])) []))
            (table-kept now n m differs)
            ∙ fresh m (model-there (schema_at t k) (delete_model n) tt m h) f id above
      ] refl
  fresh-after k below (add_static info) here fresh m h f id above = fresh m h f id above
  fresh-after k below (remove_static n) here fresh m h f id above = fresh m h f id above
  fresh-after k below (add_principal n) here fresh m h f id above = fresh m (model-there (schema_at t k) (add_principal n) tt m h) f id above
  fresh-after k below (add_field n g init) here fresh m h f id above =
      let now : Database = run_to t k d in
      let number : g.number ≡ (schema_at t k).next_field = (is.commands k (add_field n g init) here).1 in
      let differs : (g.number == f) ≡ false = false_from_ne_true _ (λ e. let same : g.number ≡ f = eqb-true _ _ e in absurd (omega (arith, same, number, above))) in
      fresh-changed n (λ (r : Record). r.slots ++ (record { field = g.number; value = init_value now init r.id }) ∷ []) now m id f
      (λ r none. find-behind (λ (slot : Slot). slot.field == f) r.slots ((record { field = g.number; value = init_value now init r.id }) ∷ []) none
      ∙ ap (λ t. cond t (Some (record { field = g.number; value = init_value now init r.id })) None) differs)
      (fresh m (changed-there (schema_at t k) n (with_field g) (λ i. refl) m h) f id (omega (arith, above)))
  fresh-after k below (remove_field n g) here fresh m h f id above =
      fresh-changed n (λ (r : Record). filter (λ (slot : Slot). not (slot.field == g)) r.slots) (run_to t k d) m id f
      (λ r none. none-filtered (λ (slot : Slot). slot.field == f) (λ (slot : Slot). not (slot.field == g)) r.slots none)
      (fresh m (model-there (schema_at t k) (remove_field n g) tt m h) f id above)
  fresh-after k below (update_field n g read write) here fresh m h f id above = fresh m (model-there (schema_at t k) (update_field n g read write) tt m h) f id above
  fresh-after k below (weaken_field n g read write reason) here fresh m h f id above = fresh m (model-there (schema_at t k) (weaken_field n g read write reason) tt m h) f id above
  fresh-after k below (update_model n create delete) here fresh m h f id above = fresh m (model-there (schema_at t k) (update_model n create delete) tt m h) f id above
  fresh-after k below (weaken_model n create delete reason) here fresh m h f id above = fresh m (model-there (schema_at t k) (weaken_model n create delete reason) tt m h) f id above

  fresh-at : (k : ℕ) → k ≤ count t → IsFresh (schema_at t k) (run_to t k d)
  fresh-at zero within = first-fresh
  fresh-at (suc k) within =
      let below : k < count t = omega (arith, within) in
      let c = command-there t is k below in
      let one = fresh-after k below c.0 c.1 (fresh-at k (omega (arith, within))) in
      subst (λ (s : Schema). IsFresh s (run_to t (suc k) d)) (sym (is.steps k c.0 c.1))
      (subst (λ (e : Database). IsFresh (schema_after (schema_at t k) c.0) e) (sym (run-after t is d k c.0 c.1)) one)

  -- ---- what is shown

  -- a schema and the database with it, as the script has them after some commands
  abbrev pub ShowsNow : Schema → Database → Type 0
  ShowsNow s now = Shows t.start s (written_out t.start s.added) st d now

  created-shown : (k : ℕ) → k < count t → (info : ModelInfo) → command_at t k ≡ Some (create_model info)
      → ShowsNow (schema_at t k) (run_to t k d) → ShowsNow (schema_after (schema_at t k) (create_model info)) (run_to t k d)
  created-shown k below info here shows =
      let now : Database = run_to t k d in
      let early : k ≤ count t = omega (arith, below) in
      let number = created-number t is k info here in
      let untouched = untouched-at t is d k early in
      let written : Written = written_out t.start (schema_at t k).added in
      shows-all t.start st d (schema_after (schema_at t k) (create_model info)) written now
      (λ m f ty h. elim (type-split (schema_at t k) info m f ty h) [
        | inl old ↦ shown-field t.start st d (schema_at t k) written now shows m f ty old
        | inr new ↦
            let late : (schema_at t k).next_model ≤ m = omega (arith, number, new.0) in
            let typed : type_of t.start m f ≡ Some ty = subst (λ (n : ℕ). type_of t.start n f ≡ Some ty) new.0 (created-type t is k info below here f ty new.1) in
            let above : (schema_at t k).next_field ≤ f = field-late (schema_at t k).next_field info.fields f ty (is.commands k (create_model info) here).1 new.1 in
            written-moved t.start st d nothing_written written now m f ty (sym (none-written t.start (schema_at t k) (is.proper k early) m f above))
            (field-moved t.start st d nothing_written d now m f ty
            (λ id. ap (λ slots. option_map_or (λ (slot : Slot). slot.value) (slot_in f slots) Nothing) (untouched.slots m id late))
            (shown-field t.start st d t.start nothing_written d first-shown m f ty typed))
      ])
      (λ m h. elim (model-split (schema_at t k) info m h) [
        | inl old ↦ shown-model t.start st d (schema_at t k) written now shows m old
        | inr new ↦
            let late : (schema_at t k).next_model ≤ m = omega (arith, number, new) in
            let there : HasModel t.start m = subst (λ (n : ℕ). HasModel t.start n) new (created-there t is k info below here) in
            model-moved t.start st d d now m (untouched.ids m late) (shown-model t.start st d t.start nothing_written d first-shown m there)
      ])
    where
      field-late : (n : ℕ) (fields : List FieldInfo) (f : ℕ) (ty : TTy) → AreNumberedFrom n fields → option_map (λ (g : FieldInfo). g.ty) (field_in fields f) ≡ Some ty → n ≤ f
      field-late n fields f ty numbered h =
          elim (field_in fields f) as (λ (o : Option FieldInfo). field_in fields f ≡ o → option_map (λ (g : FieldInfo). g.ty) o ≡ Some ty → n ≤ f) [
            | None ↦ λ here e. cc
            | Some g ↦ λ here e. numbered-from n fields f g numbered here
          ] refl h

  -- the field that a command adds
  module _ (k : ℕ) (below : k < count t) (m0 : ℕ) (g : FieldInfo) (init : Init) (here : command_at t k ≡ Some (add_field m0 g init))
      (proper : IsProper (schema_after (schema_at t k) (add_field m0 g init))) (shows : ShowsNow (schema_at t k) (run_to t k d)) where
    abbrev s : Schema
    s = schema_at t k

    abbrev now : Database
    now = run_to t k d

    abbrev new : Added
    new = record { model = m0; field = g.number; init = init }

    abbrev before_it : Written
    before_it = written_out t.start s.added

    abbrev with_it : Written
    with_it = with_added t.start before_it new

    early : k ≤ count t
    early = omega (arith, below)

    asks : HasModel s m0 × (g.number ≡ s.next_field) × IsInit s m0 g.ty init
    asks = is.commands k (add_field m0 g init) here

    -- the model of a set that the field holds
    target : (n : ℕ) → g.ty ≡ Set n → type_of (schema_after s (add_field m0 g init)) m0 g.number ≡ Some g.ty → HasModel s n
    target n e typed =
        let there = has-field (schema_after s (add_field m0 g init)) m0 g.number g.ty typed in
        let ty : there.0.ty ≡ Set n = (let one : option_map (λ (x : FieldInfo). x.ty) (Some there.0) ≡ Some g.ty = ap (option_map (λ (x : FieldInfo). x.ty)) (sym there.1) ∙ typed in let two : there.0.ty ≡ g.ty = cc in two ∙ e) in
        let field = field-typed (schema_after s (add_field m0 g init)) m0 g.number there.0 proper.typed there.1 in
        changed-there s m0 (with_field g) (λ i. refl) n (subst (IsType (schema_after s (add_field m0 g init))) ty field.ty)

    new-shown : type_of (schema_after s (add_field m0 g init)) m0 g.number ≡ Some g.ty
        → ShownField t.start st d with_it (after_command (add_field m0 g init) now) m0 g.number g.ty
    new-shown typed =
        let cases : (u : Term) → field_cases t.start with_it m0 g.number u ≡ init_cases t.start before_it init u
        = λ u. ap (λ b. option_map_or (λ (at : Term → Cases). at u) (cond b (Some (init_cases t.start before_it init)) (before_it m0 g.number)) (held m0 g.number u))
        (both-same m0 m0 g.number g.number refl refl) in (
          λ xs v u it.
              let at = it xs (prefix-itself xs) in
              let there : has_record now m0 (id_of v) ≡ true
              = ap (list_any (λ i. i == id_of v)) (shows.ids m0 asks.0) ∙ ap (has_record d m0) (ap id_of at.1) ∙ at.2 in
              let value : field_at (after_command (add_field m0 g init) now) m0 (id_of v) g.number ≡ init_value now init (id_of v)
              = field-new m0 g init now (id_of v) there (fresh-at k early m0 asks.0 g.number (id_of v) (omega (arith, asks.1))) in
              subst (λ (w : Value). Means t.start st d xs g.ty w (field_cases t.start with_it m0 g.number u)) (sym value)
              (subst (λ (c : Cases). Means t.start st d xs g.ty (init_value now init (id_of v)) c) (sym (cases u))
              (init-means t.start s before_it st d now shows m0 g.ty init asks.2 (λ n e. target n e typed) xs v u it)),
          λ u. subst (λ (c : Cases). HasType t.start g.ty c) (sym (cases u)) (init-typed t.start s before_it st d now shows m0 g.ty init asks.2 u),
        )

    added-shown : ShowsNow (schema_after s (add_field m0 g init)) (after_command (add_field m0 g init) now)
    added-shown =
        let later : Schema = schema_after s (add_field m0 g init) in
        let agree = agree-added s m0 g init now (is.proper k early) asks.1 in
        subst (λ (w : Written). Shows t.start later w st d (after_command (add_field m0 g init) now)) (sym (written-more t.start s.added new))
        (shows-all t.start st d later with_it (after_command (add_field m0 g init) now)
        (λ m f ty h. elim (added-split s m0 g init m f ty h) [
          | inl old ↦
              let there = has-field s m f ty old in
              let low : f < s.next_field = field-below s m f there.0 (is.proper k early) there.1 in
              written-moved t.start st d before_it with_it (after_command (add_field m0 g init) now) m f ty
              (sym (written-kept t.start before_it new m f (λ same. absurd (omega (arith, same, asks.1, low)))))
              (field-moved t.start st d before_it now (after_command (add_field m0 g init) now) m f ty (λ id. agree.fields m f id ty old)
              (shown-field t.start st d s before_it now shows m f ty old))
          | inr is_new ↦
              let typed : type_of later m0 g.number ≡ Some g.ty
              = subst (λ (i : ℕ). type_of later i g.number ≡ Some g.ty) (sym is_new.0)
              (subst (λ (i : ℕ). type_of later m i ≡ Some g.ty) (sym is_new.1) (h ∙ ap (λ (x : TTy). Some x) (sym is_new.2))) in
              subst (λ (i : ℕ). ShownField t.start st d with_it (after_command (add_field m0 g init) now) i f ty) is_new.0
              (subst (λ (i : ℕ). ShownField t.start st d with_it (after_command (add_field m0 g init) now) m0 i ty) is_new.1
              (subst (λ (x : TTy). ShownField t.start st d with_it (after_command (add_field m0 g init) now) m0 g.number x) is_new.2 (new-shown typed)))
        ])
        (λ m h.
        let old = changed-there s m0 (with_field g) (λ i. refl) m h in
        model-moved t.start st d now (after_command (add_field m0 g init) now) m (agree.models m old) (shown-model t.start st d s before_it now shows m old)))

  -- a command that adds nothing
  module _ (k : ℕ) (below : k < count t) (c : Command) (here : command_at t k ≡ Some c) (proper : IsProper (schema_after (schema_at t k) c))
      (shows : ShowsNow (schema_at t k) (run_to t k d)) where
    plain-after : (a : AddsNothing c) → Shows t.start (schema_after (schema_at t k) c) (written_out t.start (schema_at t k).added) st d (after_command c (run_to t k d))
    plain-after a =
        shows-less t.start st d (schema_at t k) (schema_after (schema_at t k) c) (written_out t.start (schema_at t k).added) (run_to t k d) (after_command c (run_to t k d)) shows
        (agrees (schema_at t k) c a (run_to t k d)) (field-there (schema_at t k) c a (is.commands k c here) proper) (model-there (schema_at t k) c a)

  shown-after : (k : ℕ) → k < count t → (c : Command) → command_at t k ≡ Some c → IsProper (schema_after (schema_at t k) c)
      → ShowsNow (schema_at t k) (run_to t k d) → ShowsNow (schema_after (schema_at t k) c) (after_command c (run_to t k d))
  shown-after k below (create_model info) here proper shows = created-shown k below info here shows
  shown-after k below (delete_model n) here proper shows = plain-after k below (delete_model n) here proper shows tt
  shown-after k below (add_static info) here proper shows = plain-after k below (add_static info) here proper shows tt
  shown-after k below (remove_static n) here proper shows = plain-after k below (remove_static n) here proper shows tt
  shown-after k below (add_principal n) here proper shows = plain-after k below (add_principal n) here proper shows tt
  shown-after k below (add_field n f init) here proper shows = added-shown k below n f init here proper shows
  shown-after k below (remove_field n f) here proper shows = plain-after k below (remove_field n f) here proper shows tt
  shown-after k below (update_field n f read write) here proper shows = plain-after k below (update_field n f read write) here proper shows tt
  shown-after k below (weaken_field n f read write reason) here proper shows = plain-after k below (weaken_field n f read write reason) here proper shows tt
  shown-after k below (update_model n create delete) here proper shows = plain-after k below (update_model n create delete) here proper shows tt
  shown-after k below (weaken_model n create delete reason) here proper shows = plain-after k below (weaken_model n create delete reason) here proper shows tt

  pub shown-at : (k : ℕ) → k ≤ count t → ShowsNow (schema_at t k) (run_to t k d)
  shown-at zero within =
      subst (λ (added : List Added). Shows t.start (schema_at t 0) (written_out t.start added) st d d) (sym is.nothing_added)
      (shows-less t.start st d t.start (schema_at t 0) nothing_written d d first-shown (agree-itself (schema_at t 0) d) (first-type t is) (first-there t is))
  shown-at (suc k) within =
      let below : k < count t = omega (arith, within) in
      let c = command-there t is k below in
      let before = shown-at k (omega (arith, within)) in
      let proper : IsProper (schema_after (schema_at t k) c.0) = subst IsProper (is.steps k c.0 c.1) (is.proper (suc k) within) in
      let after = shown-after k below c.0 c.1 proper before in
      subst (λ (s : Schema). ShowsNow s (run_to t (suc k) d)) (sym (is.steps k c.0 c.1))
      (subst (λ (e : Database). ShowsNow (schema_after (schema_at t k) c.0) e) (sym (run-after t is d k c.0 c.1)) after)
