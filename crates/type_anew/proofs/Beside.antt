-- Two schemas of which each model and field of the one stands at its place in the other, with types under new numbers: by the name, and by the
-- place, the one is found in the other.
use Rattle.std.proofs.Common.{◌≡◌, ◌==◌, ℕ, ◌+◌, Bool, true, false, not, cond, List, [], ◌∷◌, length, map, sym, ap, ◌∙◌, subst, arith}
use Rattle.std.specs.Prelude.{Option, Some, if◌then◌else◌}
use Rattle.std.specs.List.{IsDistinct, find}
use Rattle.std.specs.Str.{bytes_eq}
use Rattle.std.proofs.lemmas.Bool.{eq-eqb, ne_eqb}
use Rattle.std.proofs.lemmas.Slice.Eq.{bytes_eq-Decides}
use Rattle.type_schema.specs.Trees.{Name, Policy}
use Rattle.type_schema.specs.Schema.{FieldInfo, ModelInfo, field_in, model_in}
use Rattle.type_proper.proofs.Lists.{all-unmap}
use Rattle.type_anew.proofs.Lookups.{found-of}
use Rattle.data_records.specs.Renumbered.{new_field, new_model, place_of_field}
use Rattle.type_anew.specs.RenumberedAnew.{AreFieldsAnew, AreModelsAnew, renumbered_type}

abbrev pub field_names : List FieldInfo → List Name
field_names fields = map (λ (f : FieldInfo). f.name) fields

abbrev pub model_names : List ModelInfo → List Name
model_names models = map (λ (m : ModelInfo). m.name) models

abbrev pub field_by_name : List FieldInfo → Name → Option FieldInfo
field_by_name fields name = find (λ (f : FieldInfo). bytes_eq f.name name) fields

abbrev pub model_by_name : List ModelInfo → Name → Option ModelInfo
model_by_name models name = find (λ (m : ModelInfo). bytes_eq m.name name) models

pub same-name : (x y : Name) → x ≡ y → bytes_eq x y ≡ true
same-name x y e = (bytes_eq-Decides x y).1 e

-- ---- beside one another

-- the models of the one schema, and how a policy of it stands to one of the other
module _ (all : List ModelInfo) (P : Policy → Policy → Type 0) where
  pub record IsFieldBeside (n : ℕ) (f g : FieldInfo) : Type 0 where
    pub number : g.number ≡ n
    pub name : g.name ≡ f.name
    pub ty : g.ty ≡ renumbered_type all f.ty
    pub read : P f.read g.read
    pub write : P f.write g.write

  -- fields, numbered from here on
  abbrev pub AreFieldsBeside : ℕ → List FieldInfo → List FieldInfo → Type 0
  AreFieldsBeside k [] [] = Unit {0}
  AreFieldsBeside k [] (g ∷ gs) = ⊥
  AreFieldsBeside k (f ∷ fs) [] = ⊥
  AreFieldsBeside k (f ∷ fs) (g ∷ gs) = IsFieldBeside k f g × AreFieldsBeside (k + 1) fs gs

  -- a model with this number, and fields from this one on
  pub record IsModelBeside (n k : ℕ) (a b : ModelInfo) : Type 0 where
    pub number : b.number ≡ n
    pub name : b.name ≡ a.name
    pub principal : b.principal ≡ a.principal
    pub create : P a.create b.create
    pub delete : P a.delete b.delete
    pub fields : AreFieldsBeside k a.fields b.fields

  abbrev pub AreModelsBeside : (model field : ℕ) → List ModelInfo → List ModelInfo → Type 0
  AreModelsBeside n k [] [] = Unit {0}
  AreModelsBeside n k [] (b ∷ bs) = ⊥
  AreModelsBeside n k (a ∷ as') [] = ⊥
  AreModelsBeside n k (a ∷ as') (b ∷ bs) = IsModelBeside n k a b × AreModelsBeside (n + 1) (k + length a.fields) as' bs

  -- ---- but for the policies, that is what a schema numbered anew is

  fields-anew : (k : ℕ) (fs gs : List FieldInfo) → AreFieldsBeside k fs gs → AreFieldsAnew all k fs gs
  fields-anew k [] [] is = tt
  fields-anew k [] (g ∷ gs) is = absurd is
  fields-anew k (f ∷ fs) [] is = absurd is
  fields-anew k (f ∷ fs) (g ∷ gs) is = ((is.0.number, is.0.name, is.0.ty), fields-anew (k + 1) fs gs is.1)

  pub models-anew : (n k : ℕ) (as' bs : List ModelInfo) → AreModelsBeside n k as' bs → AreModelsAnew all n k as' bs
  models-anew n k [] [] is = tt
  models-anew n k [] (b ∷ bs) is = absurd is
  models-anew n k (a ∷ as') [] is = absurd is
  models-anew n k (a ∷ as') (b ∷ bs) is =
      ((is.0.number, is.0.name, is.0.principal, fields-anew k a.fields b.fields is.0.fields), models-anew (n + 1) (k + length a.fields) as' bs is.1)

  -- ---- what is found beside a field

  abbrev pub FieldFound : ℕ → List FieldInfo → FieldInfo → Type 0
  FieldFound n gs x = (g : FieldInfo) × (field_by_name gs x.name ≡ Some g) × (field_in gs n ≡ Some g) × IsFieldBeside n x g

  -- behind one with another name and another number
  field-later : (k n : ℕ) (b : FieldInfo) (gs : List FieldInfo) (x : FieldInfo) → bytes_eq b.name x.name ≡ false → b.number ≡ k → (k ≡ n → ⊥) → FieldFound n gs x → FieldFound n (b ∷ gs) x
  field-later k n b gs x name number other found = (
    found.0,
    ap (λ c. cond c (Some b) (field_by_name gs x.name)) name ∙ found.1,
    ap (λ c. cond c (Some b) (field_in gs n)) (ne_eqb b.number n (λ e. other (sym number ∙ e))) ∙ found.2,
    found.3,
  )

  pub field-found : (k : ℕ) (fs gs : List FieldInfo) (f : ℕ) (x : FieldInfo) → AreFieldsBeside k fs gs → IsDistinct bytes_eq (field_names fs) → field_in fs f ≡ Some x
      → FieldFound (k + place_of_field fs f) gs x
  unfolding IsDistinct
  field-found k [] gs f x is apart has = absurd (cc has)
  field-found k (a ∷ fs) [] f x is apart has = absurd is
  field-found k (a ∷ fs) (b ∷ gs) f x is apart has = at (λ has. field-found (k + 1) fs gs f x is.1 apart.1 has) (a.number == f) has
    where
      at : (field_in fs f ≡ Some x → FieldFound ((k + 1) + place_of_field fs f) gs x) → (c : Bool) → cond c (Some a) (field_in fs f) ≡ Some x → FieldFound (k + cond (not c) (1 + place_of_field fs f) 0) (b ∷ gs) x
      at rest true has =
          let here : a ≡ x = cc has in
          let number : k + 0 ≡ k = omega arith in
          let beside : IsFieldBeside (k + 0) a b = subst (λ n. IsFieldBeside n a b) (sym number) is.0 in
          subst (FieldFound (k + 0) (b ∷ gs)) here (
            b,
            ap (λ c. cond c (Some b) (field_by_name gs a.name)) (same-name b.name a.name is.0.name),
            ap (λ c. cond c (Some b) (field_in gs (k + 0))) (eq-eqb b.number (k + 0) beside.number),
            beside,
          )
      at rest false has =
          let there = rest has in
          let number : (k + 1) + place_of_field fs f ≡ k + (1 + place_of_field fs f) = omega arith in
          let apart-one : bytes_eq a.name x.name ≡ false = found-of (λ (g : FieldInfo). bytes_eq a.name g.name ≡ false) (λ (g : FieldInfo). g.number == f) fs x (all-unmap (λ n. bytes_eq a.name n ≡ false) (λ (g : FieldInfo). g.name) fs apart.0) has in
          field-later k (k + (1 + place_of_field fs f)) b gs x (ap (λ n. bytes_eq n x.name) is.0.name ∙ apart-one) is.0.number (λ e. omega (arith, e)) (subst (λ n. FieldFound n gs x) number there)

  -- ---- what is found beside a model

  -- its fields are numbered from j on, where those of the models from it on are from k on
  abbrev pub ModelFound : (n k m : ℕ) → (as' bs : List ModelInfo) → ModelInfo → Type 0
  ModelFound n k m as' bs a =
      (b : ModelInfo) × (j : ℕ) × (model_by_name bs a.name ≡ Some b) × (model_in bs n ≡ Some b) × IsModelBeside n j a b × ((f : ℕ) → k + new_field as' m f ≡ j + place_of_field a.fields f)

  pub model-found : (n k : ℕ) (as' bs : List ModelInfo) (m : ℕ) (x : ModelInfo) → AreModelsBeside n k as' bs → IsDistinct bytes_eq (model_names as') → model_in as' m ≡ Some x
      → ModelFound (n + new_model as' m) k m as' bs x
  unfolding IsDistinct
  model-found n k [] bs m x is apart has = absurd (cc has)
  model-found n k (a ∷ as') [] m x is apart has = absurd is
  model-found n k (a ∷ as') (b ∷ bs) m x is apart has = at (λ has. model-found (n + 1) (k + length a.fields) as' bs m x is.1 apart.1 has) (a.number == m) has
    where
      at : (model_in as' m ≡ Some x → ModelFound ((n + 1) + new_model as' m) (k + length a.fields) m as' bs x) → (c : Bool) → cond c (Some a) (model_in as' m) ≡ Some x
          → (y : ModelInfo) × (j : ℕ) × (model_by_name (b ∷ bs) x.name ≡ Some y) × (model_in (b ∷ bs) (n + cond (not c) (1 + new_model as' m) 0) ≡ Some y)
          × IsModelBeside (n + cond (not c) (1 + new_model as' m) 0) j x y × ((f : ℕ) → k + (if c then place_of_field a.fields f else length a.fields + new_field as' m f) ≡ j + place_of_field x.fields f)
      at rest true has =
          let here : a ≡ x = cc has in
          let number : n + 0 ≡ n = omega arith in
          let beside : IsModelBeside (n + 0) k a b = subst (λ i. IsModelBeside i k a b) (sym number) is.0 in (
            b,
            k,
            ap (λ c. cond c (Some b) (model_by_name bs x.name)) (same-name b.name x.name (is.0.name ∙ ap (λ (i : ModelInfo). i.name) here)),
            ap (λ c. cond c (Some b) (model_in bs (n + 0))) (eq-eqb b.number (n + 0) beside.number),
            subst (λ i. IsModelBeside (n + 0) k i b) here beside,
            λ f. ap (λ (i : ModelInfo). k + place_of_field i.fields f) here,
          )
      at rest false has =
          let there = rest has in
          let number : (n + 1) + new_model as' m ≡ n + (1 + new_model as' m) = omega arith in
          let apart-one : bytes_eq a.name x.name ≡ false = found-of (λ (i : ModelInfo). bytes_eq a.name i.name ≡ false) (λ (i : ModelInfo). i.number == m) as' x (all-unmap (λ i. bytes_eq a.name i ≡ false) (λ (i : ModelInfo). i.name) as' apart.0) has in
          let off : (b.number == n + (1 + new_model as' m)) ≡ false = ne_eqb b.number (n + (1 + new_model as' m)) (λ e. omega (arith, e, is.0.number)) in (
            there.0,
            there.1,
            ap (λ c. cond c (Some b) (model_by_name bs x.name)) (ap (λ i. bytes_eq i x.name) is.0.name ∙ apart-one) ∙ there.2,
            ap (λ c. cond c (Some b) (model_in bs (n + (1 + new_model as' m)))) off ∙ ap (model_in bs) (sym number) ∙ there.3,
            subst (λ i. IsModelBeside i there.1 x there.0) number there.4,
            λ f. omega (arith, there.5 f),
          )
