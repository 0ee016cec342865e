-- An added field stays until a command removes it.
use Rattle.std.proofs.Common.{◌≡◌, ℕ, zero, suc, ◌<◌, ◌≤◌, true, refl, ap, sym, ◌∙◌, subst, arith, inl, inr}
use Rattle.std.specs.Prelude.{Some, ◌+◌, ◌⊎◌}
use Rattle.type_schema.specs.declared.types.TTy.{TTy}
use Rattle.type_schema.specs.Schema.{Added, FieldInfo, Schema, type_of}
use Rattle.type_schema.specs.Commands.{Command, create_model, delete_model, add_static, remove_static, add_principal, add_field, remove_field, update_field, weaken_field, update_model, weaken_model, schema_after, IsCommand}
use Rattle.type_schema.specs.Proper.{IsProper}
use Rattle.type_schema.specs.Script.{Script, count, schema_at, command_at, IsScript}
use Rattle.data_meaning.specs.Database.{Database, has_record, field_at}
use Rattle.data_meaning.specs.Run.{init_value, after_command, after_if_any, run_to}
use Rattle.data_meaning.specs.Gain.{IsStart}
use Rattle.data_meaning.proofs.Meanings.{agree-added, agree-removed, agree-deleted}
use Rattle.data_meaning.proofs.Policies.{field-kept}
use Rattle.data_meaning.proofs.Runs.{command-there, keeps}
use Rattle.online_meaning.specs.Deep.{added_at}
use Rattle.online_meaning.specs.Laws.{AddedStay}
use Rattle.online_meaning.proofs.Commands.{there-before, field-added}
use Rattle.online_meaning.proofs.Switches.{adding}

pub next-rises : (s : Schema) (c : Command) → s.next_field ≤ (schema_after s c).next_field
next-rises s (create_model info) = omega arith
next-rises s (delete_model m) = omega arith
next-rises s (add_static n) = omega arith
next-rises s (remove_static n) = omega arith
next-rises s (add_principal m) = omega arith
next-rises s (add_field m f init) = omega arith
next-rises s (remove_field m f) = omega arith
next-rises s (update_field m f read write) = omega arith
next-rises s (weaken_field m f read write reason) = omega arith
next-rises s (update_model m create delete) = omega arith
next-rises s (weaken_model m create delete reason) = omega arith

-- what a command leaves of a field that is old and still there
pub field-lasts : (s : Schema) (c : Command) → IsProper s → IsCommand s c → (d : Database) (m id f : ℕ) (ty : TTy) → f < s.next_field
    → type_of (schema_after s c) m f ≡ Some ty → field_at (after_command c d) m id f ≡ field_at d m id f
field-lasts s (create_model info) proper is d m id f ty old typed = refl
field-lasts s (delete_model n) proper is d m id f ty old typed = (agree-deleted s n d).fields m f id ty typed
field-lasts s (add_static n) proper is d m id f ty old typed = refl
field-lasts s (remove_static n) proper is d m id f ty old typed = refl
field-lasts s (add_principal n) proper is d m id f ty old typed = refl
field-lasts s (add_field n g init) proper is d m id f ty old typed =
    (agree-added s n g init d proper is.1).fields m f id ty
    (field-kept (λ (h : FieldInfo). h.ty) ty s (add_field n g init) is m f old (λ read write e h. refl) (λ read write reason e h. refl) typed)
field-lasts s (remove_field n g) proper is d m id f ty old typed = (agree-removed s n g d).fields m f id ty typed
field-lasts s (update_field n g read write) proper is d m id f ty old typed = refl
field-lasts s (weaken_field n g read write reason) proper is d m id f ty old typed = refl
field-lasts s (update_model n create delete) proper is d m id f ty old typed = refl
field-lasts s (weaken_model n create delete reason) proper is d m id f ty old typed = refl

last-or-before : (k n : ℕ) → k < suc n → (k ≡ n) ⊎ (k < n)
last-or-before k n below = grind (arith, below)

module _ (t : Script) (is : IsScript t) (d : Database) (start : IsStart t d) (k : ℕ) (a : Added) (here : added_at t k ≡ Some a) where
  abbrev D : ℕ → Database
  D j = run_to t j d

  field : FieldInfo
  field = (adding t k a here).field

  adds : command_at t k ≡ Some (add_field a.model field a.init)
  unfolding field
  adds = (adding t k a here).here

  number : a.field ≡ field.number
  unfolding field
  number = (adding t k a here).number

  within : k < count t
  within = (adding t k a here).within

  asked : IsCommand (schema_at t k) (add_field a.model field a.init)
  asked = is.commands k (add_field a.model field a.init) adds

  -- the number is taken from then on
  is-old : (j : ℕ) → j ≤ count t → k < j → a.field < (schema_at t j).next_field
  is-old zero most after = absurd (omega (arith, after))
  is-old (suc j) most after =
      let c = command-there t is j (omega (arith, most)) in
      let next : (schema_at t (suc j)).next_field ≡ (schema_after (schema_at t j) c.0).next_field = ap (λ (s : Schema). s.next_field) (is.steps j c.0 c.1) in
      elim (last-or-before k j after) [
        | inl last ↦
            let own : (schema_at t (suc k)).next_field ≡ (schema_at t k).next_field + 1
            = ap (λ (s : Schema). s.next_field) (is.steps k (add_field a.model field a.init) adds) in
            let same : (schema_at t (suc j)).next_field ≡ (schema_at t (suc k)).next_field = ap (λ (i : ℕ). (schema_at t (suc i)).next_field) (sym last) in
            omega (arith, number, asked.1, own, same)
        | inr before ↦
            let was = is-old j (omega (arith, most)) before in
            let rises = next-rises (schema_at t j) c.0 in
            omega (arith, was, rises, next)
      ]

  stays : (j : ℕ) → j ≤ count t → k < j → (ty : TTy) → type_of (schema_at t j) a.model a.field ≡ Some ty → (id : ℕ) → has_record (D j) a.model id ≡ true
      → field_at (D j) a.model id a.field ≡ init_value (D k) a.init id
  stays zero most after ty typed id there = absurd (omega (arith, after))
  stays (suc j) most after ty typed id there =
      let c = command-there t is j (omega (arith, most)) in
      let proper = is.proper j (omega (arith, most)) in
      let run : D (suc j) ≡ after_command c.0 (D j) = ap (λ o. after_if_any o (D j)) c.1 in
      let was = there-before (command_at t j) (D j) a.model id there in
      elim (last-or-before k j after) [
        | inl last ↦
            let own : D (suc j) ≡ after_command (add_field a.model field a.init) (D k)
            = ap (λ (i : ℕ). D (suc i)) (sym last) ∙ ap (λ o. after_if_any o (D k)) adds in
            let there' : has_record (D k) a.model id ≡ true = subst (λ (i : ℕ). has_record (D i) a.model id ≡ true) (sym last) was in
            ap (λ (u : Database). field_at u a.model id a.field) own
            ∙ ap (λ (f : ℕ). field_at (after_command (add_field a.model field a.init) (D k)) a.model id f) number
            ∙ field-added (schema_at t k) (D k) (keeps t is d start k (omega (arith, within))) (is.proper k (omega (arith, within))) a.model asked.0 field.number asked.1
            (λ u i. init_value u a.init i) id there'
        | inr before ↦
            let typed' : type_of (schema_after (schema_at t j) c.0) a.model a.field ≡ Some ty = ap (λ (s : Schema). type_of s a.model a.field) (sym (is.steps j c.0 c.1)) ∙ typed in
            let old = is-old j (omega (arith, most)) before in
            let kept = field-kept (λ (h : FieldInfo). h.ty) ty (schema_at t j) c.0 (is.commands j c.0 c.1) a.model a.field old (λ read write e h. refl) (λ read write reason e h. refl) typed' in
            ap (λ (u : Database). field_at u a.model id a.field) run
            ∙ field-lasts (schema_at t j) c.0 proper (is.commands j c.0 c.1) (D j) a.model id a.field ty old typed'
            ∙ stays j (omega (arith, most)) before ty kept id was
      ]

pub added_stay : AddedStay
added_stay t is d start k a here ty typed id there =
    stays t is d start k a here (count t) (omega arith) (within t is d start k a here) ty typed id there
