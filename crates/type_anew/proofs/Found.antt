-- What a proper schema has is found by its name in one that stands beside it.
use Rattle.std.proofs.Common.{◌≡◌, ◌==◌, ℕ, ◌+◌, Bool, true, false, not, cond, List, [], ◌∷◌, map, refl, sym, ap, ◌∙◌, subst, arith}
use Rattle.std.specs.Prelude.{Option, Some, None, IsTrue, is_some, option_and_then}
use Rattle.std.specs.List.{IsDistinct, find, position_or_len}
use Rattle.std.specs.Option.{option_map, option_map_or}
use Rattle.std.specs.Str.{bytes_eq}
use Rattle.type_schema.specs.declared.types.TTy.{TTy}
use Rattle.type_schema.specs.Trees.{Name, Policy}
use Rattle.type_schema.specs.Schema.{StaticInfo, FieldInfo, ModelInfo, Schema, field_in, model_in, model_of, static_of, type_of, is_principal_model}
use Rattle.type_schema.specs.Typing.{HasModel}
use Rattle.type_schema.specs.Proper.{AreProperFields, IsProper}
use Rattle.type_typing.specs.Names.{field_named, model_named, static_named}
use Rattle.type_proper.proofs.Lists.{all-unmap, distinct-back, distinct-front}
use Rattle.type_anew.proofs.Lookups.{found-of}
use Rattle.type_anew.specs.Names.{names_in}
use Rattle.data_records.specs.Renumbered.{new_field, new_model, place_of_field}
use Rattle.type_anew.specs.RenumberedAnew.{AreStaticsAnew, renumbered_type}
use Rattle.type_anew.specs.Policies.{new_static}
use Rattle.type_anew.proofs.Beside.{AreModelsBeside, field-found, field_by_name, FieldFound, IsModelBeside, model-found, model_by_name, model_names, ModelFound, same-name}
use Rattle.type_anew.proofs.Whole.{IsFound}

-- ---- names that differ

abbrev static_names : List StaticInfo → List Name
static_names statics = map (λ (a : StaticInfo). a.name) statics

pub models-differ : (s : Schema) → IsProper s → IsDistinct bytes_eq (model_names s.models)
models-differ s proper = distinct-back bytes_eq (static_names s.statics) (model_names s.models) proper.names

-- ---- the number of a name, where the one list stands beside the other

module _ {A B : Type 0} (number : A → ℕ) (name : A → Name) (number' : B → ℕ) (name' : B → Name) where
  -- these have the names of those, and the numbers from here on
  abbrev pub AreNamed : ℕ → List A → List B → Type 0
  AreNamed n [] [] = Unit {0}
  AreNamed n [] (b ∷ bs) = ⊥
  AreNamed n (a ∷ as') [] = ⊥
  AreNamed n (a ∷ as') (b ∷ bs) = ((number' b ≡ n) × (name' b ≡ name a)) × AreNamed (n + 1) as' bs

  pub number-found : (n : ℕ) (as' : List A) (bs : List B) (k : ℕ) (x : A) → AreNamed n as' bs → IsDistinct bytes_eq (map name as') → find (λ a. number a == k) as' ≡ Some x
      → option_map number' (find (λ b. bytes_eq (name' b) (name x)) bs) ≡ Some (n + position_or_len (λ a. number a == k) as')
  unfolding IsDistinct
  number-found n [] bs k x is apart has = absurd (cc has)
  number-found n (a ∷ as') [] k x is apart has = absurd is
  number-found n (a ∷ as') (b ∷ bs) k x is apart has = at (λ has. number-found (n + 1) as' bs k x is.1 apart.1 has) (number a == k) has
    where
      at : (find (λ a. number a == k) as' ≡ Some x → option_map number' (find (λ b. bytes_eq (name' b) (name x)) bs) ≡ Some ((n + 1) + position_or_len (λ a. number a == k) as'))
          → (c : Bool) → cond c (Some a) (find (λ a. number a == k) as') ≡ Some x
          → option_map number' (cond (bytes_eq (name' b) (name x)) (Some b) (find (λ b. bytes_eq (name' b) (name x)) bs)) ≡ Some (n + cond (not c) (1 + position_or_len (λ a. number a == k) as') 0)
      at rest true has =
          let here : a ≡ x = cc has in
          let there : number' b ≡ n + 0 = omega (arith, is.0.0) in
          ap (λ c. option_map number' (cond c (Some b) (find (λ b. bytes_eq (name' b) (name x)) bs))) (same-name (name' b) (name x) (is.0.1 ∙ ap name here)) ∙ ap Some there
      at rest false has =
          let apart-one : bytes_eq (name a) (name x) ≡ false = found-of (λ z. bytes_eq (name a) (name z) ≡ false) (λ z. number z == k) as' x (all-unmap (λ z. bytes_eq (name a) z ≡ false) name as' apart.0) has in
          let there : (n + 1) + position_or_len (λ a. number a == k) as' ≡ n + (1 + position_or_len (λ a. number a == k) as') = omega arith in
          ap (λ c. option_map number' (cond c (Some b) (find (λ b. bytes_eq (name' b) (name x)) bs))) (ap (λ z. bytes_eq z (name x)) is.0.1 ∙ apart-one) ∙ rest has ∙ ap Some there

-- ---- statics

statics-named : (n : ℕ) (xs ys : List StaticInfo) → AreStaticsAnew n xs ys → AreNamed {A = StaticInfo} {B = StaticInfo} (λ a. a.number) (λ a. a.name) (λ a. a.number) (λ a. a.name) n xs ys
statics-named n [] [] is = tt
statics-named n [] (b ∷ ys) is = absurd is
statics-named n (a ∷ xs) [] is = absurd is
statics-named n (a ∷ xs) (b ∷ ys) is = (is.0, statics-named (n + 1) xs ys is.1)

abbrev number_and_type : FieldInfo → ℕ × TTy
number_and_type f = (f.number, f.ty)

module _ (s t : Schema) (P : Policy → Policy → Type 0) (proper : IsProper s) (models : AreModelsBeside s.models P 0 0 s.models t.models) where
  there : (m : ℕ) (a : ModelInfo) → model_of s m ≡ Some a → ModelFound s.models P (0 + new_model s.models m) 0 m s.models t.models a
  there m a has = model-found s.models P 0 0 s.models t.models m a models (models-differ s proper) has

  -- from none on
  from-none : (n : ℕ) → 0 + n ≡ n
  from-none n = omega arith

  -- what is found beside a model
  pub model-beside : (m : ℕ) (a : ModelInfo) → model_of s m ≡ Some a
      → (b : ModelInfo) × (j : ℕ) × (model_of t (new_model s.models m) ≡ Some b) × IsModelBeside s.models P (0 + new_model s.models m) j a b
  model-beside m a has = let k = there m a has in (k.0, k.1, ap (model_in t.models) (sym (from-none (new_model s.models m))) ∙ k.3, k.4)

  pub model-named-anew : (m : ℕ) → HasModel s m → model_named t ((names_in s).model m) ≡ Some (new_model s.models m)
  unfolding model_named
  model-named-anew m has = out (model_of s m) refl has
    where
      out : (o : Option ModelInfo) → model_of s m ≡ o → IsTrue (is_some o)
          → option_map (λ (i : ModelInfo). i.number) (model_by_name t.models (option_map_or (λ (i : ModelInfo). i.name) o [])) ≡ Some (new_model s.models m)
      out None is has = absurd (cc has)
      out (Some a) is has = let k = there m a is in ap (option_map (λ (i : ModelInfo). i.number)) k.2 ∙ ap Some (k.4.number ∙ from-none (new_model s.models m))

  principal-anew : (m : ℕ) → IsTrue (is_principal_model s m) → IsTrue (is_principal_model t (new_model s.models m))
  principal-anew m is = out (model_of s m) refl is
    where
      out : (o : Option ModelInfo) → model_of s m ≡ o → IsTrue (option_map_or (λ (i : ModelInfo). i.principal) o false) → IsTrue (is_principal_model t (new_model s.models m))
      out None e is = absurd (cc is)
      out (Some a) e is =
          let k = model-beside m a e in
          ap (λ (o : Option ModelInfo). option_map_or (λ (i : ModelInfo). i.principal) o false) k.2 ∙ k.3.principal ∙ is

  -- what is found beside a field of a model
  pub field-beside : (m f : ℕ) (a : ModelInfo) (x : FieldInfo) → model_of s m ≡ Some a → field_in a.fields f ≡ Some x
      → (b : ModelInfo) × (model_of t (new_model s.models m) ≡ Some b) × FieldFound s.models P (new_field s.models m f) b.fields x
  field-beside m f a x has is =
      let k = there m a has in
      let differ = (found-of (AreProperFields s.next_field) (λ (i : ModelInfo). i.number == m) s.models a proper.fields has).names in
      let found = field-found s.models P k.1 a.fields k.0.fields f x k.4.fields differ is in
      let number : k.1 + place_of_field a.fields f ≡ new_field s.models m f = omega (arith, k.5 f) in
      (k.0, ap (model_in t.models) (sym (from-none (new_model s.models m))) ∙ k.3, subst (λ n. FieldFound s.models P n k.0.fields x) number found)

  field-anew : (m f : ℕ) (ty : TTy) → type_of s m f ≡ Some ty → field_named t (new_model s.models m) ((names_in s).field m f) ≡ Some (new_field s.models m f, renumbered_type s.models ty)
  unfolding field_named
  field-anew m f ty is = out (model_of s m) refl is
    where
      pair : TTy → ℕ × TTy
      pair u = (new_field s.models m f, u)

      within : (a : ModelInfo) → model_of s m ≡ Some a → (o : Option FieldInfo) → field_in a.fields f ≡ o → option_map (λ (g : FieldInfo). g.ty) o ≡ Some ty
          → option_and_then (λ (i : ModelInfo). option_map number_and_type (field_by_name i.fields (option_map_or (λ (g : FieldInfo). g.name) o []))) (model_of t (new_model s.models m))
          ≡ Some (pair (renumbered_type s.models ty))
      within a has None found e = absurd (cc e)
      within a has (Some x) found e =
          let k = field-beside m f a x has found in
          let same : x.ty ≡ ty = cc e in
          ap (option_and_then (λ (i : ModelInfo). option_map number_and_type (field_by_name i.fields x.name))) k.1
          ∙ ap (option_map number_and_type) k.2.1
          ∙ ap (λ n. Some (make n k.2.0.ty)) k.2.3.number
          ∙ ap (λ u. Some (pair u)) (k.2.3.ty ∙ ap (renumbered_type s.models) same)
        where
          make : ℕ → TTy → ℕ × TTy
          make n u = (n, u)

      out : (o : Option ModelInfo) → model_of s m ≡ o → option_map (λ (g : FieldInfo). g.ty) (option_and_then (λ (i : ModelInfo). field_in i.fields f) o) ≡ Some ty
          → option_and_then (λ (i : ModelInfo). option_map number_and_type (field_by_name i.fields (option_map_or (λ (g : FieldInfo). g.name) (option_and_then (λ (i : ModelInfo). field_in i.fields f) o) []))) (model_of t (new_model s.models m))
          ≡ Some (pair (renumbered_type s.models ty))
      out None has e = absurd (cc e)
      out (Some a) has e = within a has (field_in a.fields f) refl e

  pub found-anew : AreStaticsAnew 0 s.statics t.statics → IsFound s t (names_in s)
  unfolding static_named
  found-anew statics = record {
    model = model-named-anew;
    field = field-anew;
    static = λ k has. out k (static_of s k) refl has;
    principal = principal-anew;
  }
    where
      out : (k : ℕ) (o : Option StaticInfo) → static_of s k ≡ o → IsTrue (is_some o)
          → option_map (λ (a : StaticInfo). a.number) (find (λ (a : StaticInfo). bytes_eq a.name (option_map_or (λ (a : StaticInfo). a.name) o [])) t.statics) ≡ Some (new_static s k)
      out k None is has = absurd (cc has)
      out k (Some x) is has =
          number-found (λ (a : StaticInfo). a.number) (λ (a : StaticInfo). a.name) (λ (a : StaticInfo). a.number) (λ (a : StaticInfo). a.name) 0 s.statics t.statics k x
          (statics-named 0 s.statics t.statics statics) (distinct-front bytes_eq (static_names s.statics) (model_names s.models) proper.names) is
          ∙ ap Some (from-none (new_static s k))
