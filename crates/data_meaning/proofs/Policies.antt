-- The policies that a command leaves as they are.
use Rattle.std.proofs.Common.{◌≡◌, ℕ, ◌+◌, ◌<◌, ◌≤◌, Bool, true, false, not, ◌&&◌, List, [], ◌∷◌, ◌++◌, refl, ap, sym, ◌∙◌, subst, arith, cond}
use Rattle.std.specs.Prelude.{Option, Some, None, filter, if◌then◌else◌, ◌==◌, is_some, option_and_then}
use Rattle.std.proofs.Common.{inl, inr}
use Rattle.std.specs.Option.{option_map}
use Rattle.std.proofs.lemmas.Bool.{eqb-true, eq-eqb, false_from_ne_true}
use Rattle.type_schema.specs.declared.rights.Target.{Target}
use Rattle.type_schema.specs.declared.rights.Target.TheVariants as on
use Rattle.type_schema.specs.Trees.{Policy}
use Rattle.type_schema.specs.Schema.{FieldInfo, ModelInfo, Schema, model_in, field_in, model_of, field_of}
use Rattle.type_schema.specs.Commands.{Command, create_model, delete_model, add_static, remove_static, add_principal, add_field, remove_field, update_field, weaken_field, update_model, weaken_model, given_or, change_model, change_field, with_field, without_field, with_field_policies, with_model_policies, schema_after, AreNumberedFrom, IsCommand}
use Rattle.data_meaning.proofs.Finds.{find-holds, find-map, find-filter, find-none, find-more, find-last}

-- ---- changed fields and models

module _ (f0 : ℕ) (change : FieldInfo → FieldInfo) (keeps : (g : FieldInfo) → (change g).number ≡ g.number) where
  abbrev new_field : FieldInfo → FieldInfo
  new_field g = if g.number == f0 then change g else g

  same-field-test : (f : ℕ) (g : FieldInfo) → ((new_field g).number == f) ≡ (g.number == f)
  same-field-test f g =
      elim (g.number == f0) as (λ (b : Bool). ((let u : FieldInfo = if b then change g else g in u.number) == f) ≡ (g.number == f)) [
        | true ↦ ap (λ n. n == f) (keeps g)
        | false ↦ refl
      ]

  pub field-changed : {A : Type 0} (get : FieldInfo → A) (fields : List FieldInfo) (f : ℕ) → (f ≡ f0 → (g : FieldInfo) → get (change g) ≡ get g)
      → option_map get (field_in (change_field f0 change fields) f) ≡ option_map get (field_in fields f)
  field-changed {A} get fields f same =
      ap (option_map get) (find-map (λ (g : FieldInfo). g.number == f) new_field fields (same-field-test f))
      ∙ (elim (field_in fields f) as (λ (o : Option FieldInfo). field_in fields f ≡ o → option_map get (option_map new_field o) ≡ option_map get o) [
        | None ↦ λ here. refl
        | Some g ↦ λ here.
            let is : g.number ≡ f = eqb-true _ _ (find-holds (λ (u : FieldInfo). u.number == f) fields g here) in
            elim (g.number == f0) as (λ (b : Bool). (g.number == f0) ≡ b → Some (get (if b then change g else g)) ≡ Some (get g)) [
              | true ↦ λ h. ap (λ x. Some x) (same (sym is ∙ eqb-true _ _ h) g)
              | false ↦ λ h. refl
            ] refl
      ] refl)

module _ (m0 : ℕ) (change : ModelInfo → ModelInfo) (keeps : (i : ModelInfo) → (change i).number ≡ i.number) where
  abbrev new_model : ModelInfo → ModelInfo
  new_model i = if i.number == m0 then change i else i

  same-model-test : (m : ℕ) (i : ModelInfo) → ((new_model i).number == m) ≡ (i.number == m)
  same-model-test m i =
      elim (i.number == m0) as (λ (b : Bool). ((let u : ModelInfo = if b then change i else i in u.number) == m) ≡ (i.number == m)) [
        | true ↦ ap (λ n. n == m) (keeps i)
        | false ↦ refl
      ]

  pub model-changed : (R : Option ModelInfo → Type 0) (models : List ModelInfo) (m : ℕ)
      → (m ≡ m0 → (i : ModelInfo) → R (Some (change i)) → R (Some i)) → R (model_in (change_model m0 change models) m) → R (model_in models m)
  model-changed R models m same h =
      let k = subst R (find-map (λ (i : ModelInfo). i.number == m) new_model models (same-model-test m)) h in
      (elim (model_in models m) as (λ (o : Option ModelInfo). model_in models m ≡ o → R (option_map new_model o) → R o) [
        | None ↦ λ here r. r
        | Some i ↦ λ here.
            let is : i.number ≡ m = eqb-true _ _ (find-holds (λ (u : ModelInfo). u.number == m) models i here) in
            elim (i.number == m0) as (λ (b : Bool). (i.number == m0) ≡ b → R (Some (if b then change i else i)) → R (Some i)) [
              | true ↦ λ t r. same (sym is ∙ eqb-true _ _ t) i r
              | false ↦ λ t r. r
            ] refl
      ]) refl k

-- ---- numbers

pub numbered-from : (n : ℕ) (fields : List FieldInfo) (f : ℕ) (g : FieldInfo) → AreNumberedFrom n fields → field_in fields f ≡ Some g → n ≤ f
numbered-from n [] f g numbered h = cc
numbered-from n (x ∷ fields) f g numbered h =
    elim (x.number == f) as (λ (b : Bool). (x.number == f) ≡ b → cond b (Some x) (field_in fields f) ≡ Some g → n ≤ f) [
      | true ↦ λ here e. let is : x.number ≡ f = eqb-true _ _ here in omega (arith, is, numbered.0)
      | false ↦ λ here e. let more : n + 1 ≤ f = numbered-from (n + 1) fields f g numbered.1 e in omega (arith, more)
    ] refl h

-- the target's number was free at no time since
abbrev pub IsOld : Schema → Target → Type 0
IsOld s (on.Field m f) = f < s.next_field
IsOld s (on.Model m) = m < s.next_model

-- ---- what is in force after a command was so before it

pub same-given : (given : Option Policy) (p : Policy) → is_some given ≡ false → given_or given p ≡ p
same-given None p e = refl
same-given (Some q) p e = cc

pub both-same : (m m0 f f0 : ℕ) → m ≡ m0 → f ≡ f0 → ((m == m0) && (f == f0)) ≡ true
both-same m m0 f f0 p q = ap (λ b. b && (f == f0)) (eq-eqb m m0 p) ∙ eq-eqb f f0 q

module _ {A : Type 0} (get : FieldInfo → A) (p : A) (s : Schema) where
  abbrev field_here : ℕ → Option ModelInfo → Type 0
  field_here f o = option_map get (option_and_then (λ (i : ModelInfo). field_in i.fields f) o) ≡ Some p

  -- in the fields of one model
  field-in-kept : (m0 : ℕ) (change : ModelInfo → ModelInfo) → ((i : ModelInfo) → (change i).number ≡ i.number) → (m f : ℕ)
      → (m ≡ m0 → (i : ModelInfo) → option_map get (field_in (change i).fields f) ≡ Some p → option_map get (field_in i.fields f) ≡ Some p)
      → field_here f (model_in (change_model m0 change s.models) m) → field_here f (model_of s m)
  field-in-kept m0 change keeps m f same h = model-changed m0 change keeps (field_here f) s.models m same h

  field-created : (info : ModelInfo) (m f : ℕ) → AreNumberedFrom s.next_field info.fields → f < s.next_field
      → field_here f (model_in (s.models ++ info ∷ []) m) → field_here f (model_of s m)
  field-created info m f numbered old h =
      elim (model_in (s.models ++ info ∷ []) m) as (λ (o : Option ModelInfo). model_in (s.models ++ info ∷ []) m ≡ o → field_here f o → field_here f (model_of s m)) [
        | None ↦ λ here e. cc
        | Some i ↦ λ here e.
            elim (find-last (λ (u : ModelInfo). u.number == m) s.models info i here) [
              | inl before ↦ subst (field_here f) (sym before) e
              | inr is ↦
                  let new : option_map get (field_in info.fields f) ≡ Some p = subst (λ (u : ModelInfo). option_map get (field_in u.fields f) ≡ Some p) is e in
                  (elim (field_in info.fields f) as (λ (o : Option FieldInfo). field_in info.fields f ≡ o → option_map get o ≡ Some p → field_here f (model_of s m)) [
                    | None ↦ λ none e. cc
                    | Some g ↦ λ some e.
                        let late : s.next_field ≤ f = numbered-from s.next_field info.fields f g numbered some in
                        absurd (omega (arith, late, old))
                  ]) refl new
            ]
      ] refl h

  field-of-deleted : (m0 m f : ℕ) → field_here f (model_in (filter (λ (i : ModelInfo). not (i.number == m0)) s.models) m) → field_here f (model_of s m)
  field-of-deleted m0 m f h =
      elim (m == m0) as (λ (b : Bool). (m == m0) ≡ b → field_here f (model_of s m)) [
        | true ↦ λ same.
            let gone = find-none (λ (i : ModelInfo). i.number == m) (λ (i : ModelInfo). not (i.number == m0)) s.models
            (λ i is. ap not (eq-eqb _ _ (eqb-true _ _ is ∙ eqb-true _ _ same))) in
            let never = subst (field_here f) gone h in cc
        | false ↦ λ other.
            let stays = find-filter (λ (i : ModelInfo). i.number == m) (λ (i : ModelInfo). not (i.number == m0)) s.models
            (λ i is. ap not (ap (λ n. n == m0) (eqb-true _ _ is) ∙ other)) in
            subst (field_here f) stays h
      ] refl

  field-added : (fields : List FieldInfo) (new : FieldInfo) (f : ℕ) → (new.number ≡ f → ⊥)
      → option_map get (field_in (fields ++ new ∷ []) f) ≡ Some p → option_map get (field_in fields f) ≡ Some p
  field-added fields new f other h =
      sym (ap (option_map get) (find-more (λ (g : FieldInfo). g.number == f) fields new (false_from_ne_true _ (λ is. other (eqb-true _ _ is))))) ∙ h

  field-removed : (fields : List FieldInfo) (f0 f : ℕ)
      → option_map get (field_in (filter (λ (g : FieldInfo). not (g.number == f0)) fields) f) ≡ Some p → option_map get (field_in fields f) ≡ Some p
  field-removed fields f0 f h =
      elim (f == f0) as (λ (b : Bool). (f == f0) ≡ b → option_map get (field_in fields f) ≡ Some p) [
        | true ↦ λ same.
            let gone = find-none (λ (g : FieldInfo). g.number == f) (λ (g : FieldInfo). not (g.number == f0)) fields
            (λ g is. ap not (eq-eqb _ _ (eqb-true _ _ is ∙ eqb-true _ _ same))) in
            let never = subst (λ (o : Option FieldInfo). option_map get o ≡ Some p) gone h in cc
        | false ↦ λ other.
            let stays = find-filter (λ (g : FieldInfo). g.number == f) (λ (g : FieldInfo). not (g.number == f0)) fields
            (λ g is. ap not (ap (λ n. n == f0) (eqb-true _ _ is) ∙ other)) in
            subst (λ (o : Option FieldInfo). option_map get o ≡ Some p) stays h
      ] refl

  -- `same` is of a command that sets policies of the field
  pub field-kept : (c : Command) → IsCommand s c → (m f : ℕ) → f < s.next_field
      → ((read write : Option Policy) → c ≡ update_field m f read write → (g : FieldInfo) → get (record g { read = given_or read g.read; write = given_or write g.write }) ≡ get g)
      → ((read write : Option Policy) (reason : List ℕ) → c ≡ weaken_field m f read write reason
      → (g : FieldInfo) → get (record g { read = given_or read g.read; write = given_or write g.write }) ≡ get g)
      → option_map get (field_of (schema_after s c) m f) ≡ Some p → option_map get (field_of s m f) ≡ Some p
  field-kept (create_model info) is m f old u w h = field-created info m f is.1 old h
  field-kept (delete_model m0) is m f old u w h = field-of-deleted m0 m f h
  field-kept (add_static info) is m f old u w h = h
  field-kept (remove_static n) is m f old u w h = h
  field-kept (add_principal m0) is m f old u w h = field-in-kept m0 (λ (i : ModelInfo). record i { principal = true }) (λ i. refl) m f (λ e i r. r) h
  field-kept (add_field m0 new init) is m f old u w h =
      field-in-kept m0 (with_field new) (λ i. refl) m f (λ e i r. field-added i.fields new f (λ same. omega (arith, same, is.1, old)) r) h
  field-kept (remove_field m0 f0) is m f old u w h =
      field-in-kept m0 (without_field f0) (λ i. refl) m f (λ e i r. field-removed i.fields f0 f r) h
  field-kept (update_field m0 f0 read write) is m f old u w h =
      field-in-kept m0 (with_field_policies f0 read write) (λ i. refl) m f (λ e i r.
      sym (field-changed f0 (λ (g : FieldInfo). record g { read = given_or read g.read; write = given_or write g.write }) (λ g. refl) get i.fields f
      (λ e2 g. u read write (let x : update_field m0 f0 read write ≡ update_field m f read write = cc in x) g)) ∙ r) h
  field-kept (weaken_field m0 f0 read write reason) is m f old u w h =
      field-in-kept m0 (with_field_policies f0 read write) (λ i. refl) m f (λ e i r.
      sym (field-changed f0 (λ (g : FieldInfo). record g { read = given_or read g.read; write = given_or write g.write }) (λ g. refl) get i.fields f
      (λ e2 g. w read write reason (let x : weaken_field m0 f0 read write reason ≡ weaken_field m f read write reason = cc in x) g)) ∙ r) h
  field-kept (update_model m0 create delete) is m f old u w h = field-in-kept m0 (with_model_policies create delete) (λ i. refl) m f (λ e i r. r) h
  field-kept (weaken_model m0 create delete reason) is m f old u w h = field-in-kept m0 (with_model_policies create delete) (λ i. refl) m f (λ e i r. r) h
