-- The policies in force after each command, and the schemas over which they were counted.
use Rattle.std.proofs.Common.{◌≡◌, ℕ, zero, suc, ◌≤◌, ◌⊎◌, Bool, true, false, not, List, [], ◌∷◌, refl, sym, subst, arith, inl, inr}
use Rattle.std.specs.Prelude.{Option, Some, None, IfSome, ◌==◌, if◌then◌else◌}
use Rattle.std.specs.List.{AllByRecursion}
use Rattle.std.specs.Option.{option_map}
use Rattle.type_schema.specs.declared.rights.Right.{Right}
use Rattle.type_schema.specs.declared.rights.Right.TheVariants.{Read, Write, Create, Delete}
use Rattle.type_schema.specs.declared.rights.Target.{Target}
use Rattle.type_schema.specs.declared.rights.Target.TheVariants as on
use Rattle.type_schema.specs.Trees.{Policy}
use Rattle.type_schema.specs.Schema.{FieldInfo, ModelInfo, Schema, model_of, field_of, policy_in}
use Rattle.type_schema.specs.Commands.{Command, create_model, delete_model, add_static, remove_static, add_principal, add_field, remove_field, update_field, weaken_field, update_model, weaken_model, given_or, change_model, change_field, with_field, without_field, with_field_policies, with_model_policies, schema_after}
use Rattle.type_schema.specs.Script.{Script, schema_at, count, IsScript}
use Rattle.data_meaning.proofs.Finds.{find-among}
use Rattle.data_meaning.specs.Gain.{policy_at}
use Rattle.data_meaning.proofs.Kept.{found-field}
use Rattle.duty_meaning.proofs.Created.{command-there}
use Rattle.type_proper.proofs.Lists.{all-append, all-filter, all-weaken}
use Rattle.type_scripts.specs.Asked.{policy_uses_of}
use Rattle.type_scripts.specs.Small.{PolicyIsBounded, CommandIsBounded, IsBounded}
use Rattle.type_scripts.proofs.Typed.{IsThere, OfField, OfModel, models-weaken, models-together, all-there}

-- ---- policies that a command keeps or gives

module _ (P S : Policy → Type 0) where
  abbrev Either : Policy → Type 0
  Either p = P p ⊎ S p

  abbrev Fields : List FieldInfo → Type 0
  Fields fields = AllByRecursion (OfField Either) fields

  given-is : (given : Option Policy) (p : Policy) → IfSome given S → Either p → Either (given_or given p)
  given-is None p new old = old
  given-is (Some q) p new old = inr new

  new-fields : (fields : List FieldInfo) → AllByRecursion (λ (f : FieldInfo). S f.read × S f.write) fields → Fields fields
  new-fields fields h = all-weaken (λ (f : FieldInfo). S f.read × S f.write) (OfField Either) (λ f own. (inr own.0, inr own.1)) fields h

  models-changed : (m : ℕ) (change : ModelInfo → ModelInfo) → ((i : ModelInfo) → OfModel Either i → OfModel Either (change i)) → (models : List ModelInfo)
      → AllByRecursion (OfModel Either) models → AllByRecursion (OfModel Either) (change_model m change models)
  models-changed m change keeps [] h = tt
  models-changed m change keeps (i ∷ models) h = (
    elim (i.number == m) as (λ (z : Bool). OfModel Either (if z then change i else i)) [
      | true ↦ keeps i h.0
      | false ↦ h.0
    ],
    models-changed m change keeps models h.1,
  )

  fields-changed : (f : ℕ) (read write : Option Policy) → IfSome read S → IfSome write S → (fields : List FieldInfo) → Fields fields
      → Fields (change_field f (λ (g : FieldInfo). record g { read = given_or read g.read; write = given_or write g.write }) fields)
  fields-changed f read write one two [] h = tt
  fields-changed f read write one two (g ∷ fields) h = (
    elim (g.number == f) as (λ (z : Bool). OfField Either (if z then (record g { read = given_or read g.read; write = given_or write g.write }) else g)) [
      | true ↦ (given-is read g.read one h.0.0, given-is write g.write two h.0.1)
      | false ↦ h.0
    ],
    fields-changed f read write one two fields h.1,
  )

module _ (most : ℕ) (s after : Schema) (P : Policy → Type 0) where
  abbrev Small : Policy → Type 0
  Small p = PolicyIsBounded most after p

  abbrev Now : Policy → Type 0
  Now p = P p ⊎ Small p

  pub policies-after : (c : Command) → CommandIsBounded most after c → AllByRecursion (OfModel P) s.models → AllByRecursion (OfModel Now) (schema_after s c).models
  policies-after c small before = by c small (models-weaken P Now (λ p own. inl own) s.models before)
    where
      policies : (m f : ℕ) (read write : Option Policy) → IfSome read Small → IfSome write Small → AllByRecursion (OfModel Now) s.models
          → AllByRecursion (OfModel Now) (change_model m (with_field_policies f read write) s.models)
      policies m f read write one two old =
          models-changed P Small m (with_field_policies f read write) (λ i own. (own.0, own.1, fields-changed P Small f read write one two i.fields own.2)) s.models old

      rights : (m : ℕ) (create delete : Option Policy) → IfSome create Small → IfSome delete Small → AllByRecursion (OfModel Now) s.models
          → AllByRecursion (OfModel Now) (change_model m (with_model_policies create delete) s.models)
      rights m create delete one two old =
          models-changed P Small m (with_model_policies create delete)
          (λ i own. (given-is P Small create i.create one own.0, given-is P Small delete i.delete two own.1, own.2)) s.models old

      by : (c : Command) → CommandIsBounded most after c → AllByRecursion (OfModel Now) s.models → AllByRecursion (OfModel Now) (schema_after s c).models
      by (create_model info) small old = all-append (OfModel Now) s.models (info ∷ []) old ((inr small.0, inr small.1, new-fields P Small info.fields small.2), tt)
      by (delete_model m) small old = all-filter (OfModel Now) (OfModel Now) (λ (info : ModelInfo). not (info.number == m)) (λ i stays own. own) s.models old
      by (add_static info) small old = old
      by (remove_static n) small old = old
      by (add_principal m) small old = models-changed P Small m (λ (info : ModelInfo). record info { principal = true }) (λ i own. own) s.models old
      by (add_field m f init) small old =
          models-changed P Small m (with_field f) (λ i own. (own.0, own.1, all-append (OfField Now) i.fields (f ∷ []) own.2 ((inr small.0.0, inr small.0.1), tt))) s.models old
      by (remove_field m f) small old =
          models-changed P Small m (without_field f) (λ i own. (own.0, own.1, all-filter (OfField Now) (OfField Now) (λ (g : FieldInfo). not (g.number == f)) (λ g stays own. own) i.fields own.2)) s.models old
      by (update_field m f read write) small old = policies m f read write small.0 small.1 old
      by (weaken_field m f read write reason) small old = policies m f read write small.0 small.1 old
      by (update_model m create delete) small old = rights m create delete small.0 small.1 old
      by (weaken_model m create delete reason) small old = rights m create delete small.0 small.1 old

-- ---- policies that are found

module _ (P : Policy → Type 0) (s : Schema) (all : AllByRecursion (OfModel P) s.models) (p : Policy) where
  of-field : (m f : ℕ) (get : FieldInfo → Policy) → ((g : FieldInfo) → OfField P g → P (get g)) → option_map get (field_of s m f) ≡ Some p → P p
  of-field m f get part h =
      elim (field_of s m f) as (λ (o : Option FieldInfo). field_of s m f ≡ o → option_map get o ≡ Some p → P p) [
        | None ↦ λ here e. cc
        | Some g ↦ λ here e.
            let same : get g ≡ p = cc in
            let found = found-field s m f g here in
            let model = find-among (OfModel P) (λ (u : ModelInfo). u.number == m) s.models found.model all found.found in
            subst P same (part g (find-among (OfField P) (λ (u : FieldInfo). u.number == f) found.model.fields g model.2 found.field))
      ] refl h

  of-model : (m : ℕ) (get : ModelInfo → Policy) → ((i : ModelInfo) → OfModel P i → P (get i)) → option_map get (model_of s m) ≡ Some p → P p
  of-model m get part h =
      elim (model_of s m) as (λ (o : Option ModelInfo). model_of s m ≡ o → option_map get o ≡ Some p → P p) [
        | None ↦ λ here e. cc
        | Some i ↦ λ here e. let same : get i ≡ p = cc in subst P same (part i (find-among (OfModel P) (λ (u : ModelInfo). u.number == m) s.models i all here))
      ] refl h

  pub found-policy : (target : Target) (right : Right) → policy_in s target right ≡ Some p → P p
  found-policy (on.Field m f) Read h = of-field m f (λ (g : FieldInfo). g.read) (λ g own. own.0) h
  found-policy (on.Field m f) Write h = of-field m f (λ (g : FieldInfo). g.write) (λ g own. own.1) h
  found-policy (on.Field m f) Create h = cc
  found-policy (on.Field m f) Delete h = cc
  found-policy (on.Model m) Read h = cc
  found-policy (on.Model m) Write h = cc
  found-policy (on.Model m) Create h = of-model m (λ (i : ModelInfo). i.create) (λ i own. own.0) h
  found-policy (on.Model m) Delete h = of-model m (λ (i : ModelInfo). i.delete) (λ i own. own.1) h

-- ---- along a script

module _ (t : Script) (is : IsScript t) (most : ℕ) (small : IsBounded most t) where
  -- the policy was counted over the schema after at most k commands, whose fields it uses
  pub record WasCounted (k : ℕ) (p : Policy) : Type 0 where
    pub at : ℕ
    pub early : at ≤ k
    pub uses : AllByRecursion (IsThere (schema_at t at)) (policy_uses_of p)
    pub within : PolicyIsBounded most (schema_at t at) p

  pub all-counted : (k : ℕ) → k ≤ count t → AllByRecursion (OfModel (WasCounted k)) (schema_at t k).models
  all-counted zero within =
      let s : Schema = schema_at t 0 in
      models-together (PolicyIsBounded most s) (λ p. AllByRecursion (IsThere s) (policy_uses_of p)) (WasCounted 0) (λ p one two. record { at = 0; early = omega arith; uses = two; within = one })
      s.models small.first (all-there s (is.proper 0 within).typed)
  all-counted (suc k) within =
      let s : Schema = schema_at t k in
      let later : Schema = schema_at t (suc k) in
      let c = command-there t is k (omega (arith, within)) in
      let after = policies-after most s later (WasCounted k) c.0 (small.commands k c.0 c.1) (all-counted k (omega (arith, within))) in
      models-together (λ p. WasCounted k p ⊎ PolicyIsBounded most later p) (λ p. AllByRecursion (IsThere later) (policy_uses_of p)) (WasCounted (suc k))
      (λ p one two.
      elim one [
        | inl old ↦ record { at = old.at; early = let less = old.early in omega (arith, less); uses = old.uses; within = old.within }
        | inr new ↦ record { at = suc k; early = omega arith; uses = two; within = new }
      ]) later.models (subst (λ (u : Schema). AllByRecursion (OfModel (λ p. WasCounted k p ⊎ PolicyIsBounded most later p)) u.models) (sym (is.steps k c.0 c.1)) after)
      (all-there later (is.proper (suc k) within).typed)

  pub in-force : (k : ℕ) → k ≤ count t → (target : Target) (right : Right) (p : Policy) → policy_at t k target right ≡ Some p → WasCounted k p
  in-force k within target right p h = found-policy (WasCounted k) (schema_at t k) (all-counted k within) p target right h
