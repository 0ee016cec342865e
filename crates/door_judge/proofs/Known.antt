-- What names name in a proper schema is found by its number.
use Rattle.std.proofs.Common.{◌≡◌, ℕ, Bool, true, false, List, [], ◌∷◌, Option, None, Some, refl, ap, ◌∙◌, subst, cond, map}
use Rattle.std.specs.Prelude.{◌==◌, nat_eq, Ok}
use Rattle.std.specs.List.{AllByRecursion, IsDistinct, find}
use Rattle.std.specs.Str.{bytes_eq}
use Rattle.std.proofs.lemmas.Bool.{eq-eqb}
use Rattle.text_tree.specs.declared.named.Named.{Named}
use Rattle.type_schema.specs.Schema.{FieldInfo, ModelInfo, Schema, field_in, model_of}
use Rattle.type_schema.specs.Proper.{IsProper, AreProperFields}
use Rattle.data_judge.specs.Faults.{field_named, model_named}
use Rattle.data_records.proofs.Firsts.{found-among}
use Rattle.door_meaning.specs.Names.{field_in_at, model_at}
use Rattle.door_meaning.specs.Orders.{finds}
use Rattle.door_meaning.specs.Replies.{Reply, Unknown}

-- an element that is found by any test, where no key comes twice
module _ {A : Type 0} (key : A → ℕ) where
  other : (p : A → Bool) (x : A) (xs : List A) (y : A) → AllByRecursion (λ n. nat_eq (key x) n ≡ false) (map key xs) → find p xs ≡ Some y → (key x == key y) ≡ false
  other p x [] y apart found = cc
  other p x (z ∷ xs) y apart found =
      elim (p z) as (λ (b : Bool). cond b (Some z) (find p xs) ≡ Some y → (key x == key y) ≡ false) [
        | true ↦ λ h. let same : z ≡ y = cc in subst (λ (w : A). (key x == key w) ≡ false) same apart.0
        | false ↦ λ h. other p x xs y apart.1 h
      ] found

  pub found-by_key : (p : A → Bool) (xs : List A) (y : A) → IsDistinct nat_eq (map key xs) → find p xs ≡ Some y → find (λ x. key x == key y) xs ≡ Some y
  unfolding IsDistinct
  found-by_key p [] y apart found = cc
  found-by_key p (x ∷ xs) y apart found =
      elim (p x) as (λ (b : Bool). cond b (Some x) (find p xs) ≡ Some y → find (λ z. key z == key y) (x ∷ xs) ≡ Some y) [
        | true ↦ λ h.
            let same : x ≡ y = cc in
            ap (λ (b : Bool). cond b (Some x) (find (λ z. key z == key y) xs)) (ap (λ (w : A). key w == key y) same ∙ eq-eqb (key y) (key y) refl) ∙ ap (λ (w : A). Some w) same
        | false ↦ λ h.
            ap (λ (b : Bool). cond b (Some x) (find (λ z. key z == key y) xs)) (other p x xs y apart.0 h) ∙ found-by_key p xs y apart.1 h
      ] found

-- what is passed on was found
pub found-ok : {A : Type 0} (o : Option A) (reply : Reply) (x : A) → finds o reply ≡ Ok x → o ≡ Some x
found-ok None reply x h = cc
found-ok (Some y) reply x h = cc

module _ (s : Schema) (proper : IsProper s) where
  pub named-model : (model : Named) (info : ModelInfo) → model_at s model ≡ Ok info → model_of s info.number ≡ Some info
  named-model model info is =
      found-by_key (λ (m : ModelInfo). m.number) (λ (m : ModelInfo). bytes_eq m.name model.name) s.models info proper.models.distinct
      (found-ok (model_named s.models model.name) (Unknown model.at) info is)

  pub named-field : (info : ModelInfo) → model_of s info.number ≡ Some info → (field : Named) (f : FieldInfo) → field_in_at info field ≡ Ok f → field_in info.fields f.number ≡ Some f
  named-field info known field f is =
      let proper_fields = found-among (AreProperFields s.next_field) (λ (m : ModelInfo). m.number == info.number) s.models info proper.fields known in
      found-by_key (λ (g : FieldInfo). g.number) (λ (g : FieldInfo). bytes_eq g.name field.name) info.fields f proper_fields.numbers.distinct
      (found-ok (field_named info.fields field.name) (Unknown field.at) f is)
