-- What typing gives of the tree of a schema gives the rights that the schema gave.
use Rattle.std.proofs.Common.{◌≡◌, ◌==◌, ℕ, refl, ap, ◌∙◌, subst}
use Rattle.std.specs.Prelude.{Option, Some, None, option_and_then}
use Rattle.std.specs.Option.{option_map}
use Rattle.type_schema.specs.declared.rights.Right.{Right}
use Rattle.type_schema.specs.declared.rights.Right.TheVariants.{Read, Write, Create, Delete}
use Rattle.type_schema.specs.declared.rights.Target.{Target}
use Rattle.type_schema.specs.declared.rights.Target.TheVariants as on
use Rattle.type_schema.specs.Trees.{Policy}
use Rattle.type_schema.specs.Schema.{FieldInfo, ModelInfo, Schema, field_in, field_of, model_of, policy_in}
use Rattle.type_schema.specs.Typing.{IsField, IsModel, IsPolicy, IsTyped}
use Rattle.type_anew.proofs.Lookups.{found-of}
use Rattle.data_meaning.specs.Meaning.{allows}
use Rattle.data_records.specs.Renumbered.{renumbered}
use Rattle.type_anew.specs.Policies.{renumbered_policy, renumbered_principal}
use Rattle.type_anew.proofs.Means.{policy-means}
use Rattle.type_anew.specs.RetypedAnew.{renumbered_target}
use Rattle.type_anew.specs.RetypedLaws.{RightsStay}
use Rattle.type_anew.proofs.AnewSchemas.{policies_come_anew}

-- ---- each policy is one on records of a model

abbrev IsPolicyOfSome : Schema → Policy → Type 0
IsPolicyOfSome s policy = (m : ℕ) × IsPolicy s m policy

module _ (s : Schema) (typed : IsTyped s) where
  model-typed : (m : ℕ) (a : ModelInfo) → model_of s m ≡ Some a → IsModel s a
  model-typed m a is = found-of (IsModel s) (λ (i : ModelInfo). i.number == m) s.models a typed is

  of-model : (which : ModelInfo → Policy) → ((a : ModelInfo) → IsModel s a → IsPolicy s a.number (which a)) → (m : ℕ) (policy : Policy) → option_map which (model_of s m) ≡ Some policy
      → IsPolicyOfSome s policy
  of-model which good m policy e = out (model_of s m) refl e
    where
      out : (o : Option ModelInfo) → model_of s m ≡ o → option_map which o ≡ Some policy → IsPolicyOfSome s policy
      out None is e = absurd (cc e)
      out (Some a) is e =
          let here : which a ≡ policy = cc e in
          subst (IsPolicyOfSome s) here (a.number, good a (model-typed m a is))

  of-field : (which : FieldInfo → Policy) → ((m : ℕ) (f : FieldInfo) → IsField s m f → IsPolicy s m (which f)) → (m f : ℕ) (policy : Policy) → option_map which (field_of s m f) ≡ Some policy
      → IsPolicyOfSome s policy
  of-field which good m f policy e = out (model_of s m) refl e
    where
      within : (a : ModelInfo) → model_of s m ≡ Some a → (o : Option FieldInfo) → field_in a.fields f ≡ o → option_map which o ≡ Some policy → IsPolicyOfSome s policy
      within a has None is e = absurd (cc e)
      within a has (Some x) is e =
          let here : which x ≡ policy = cc e in
          subst (IsPolicyOfSome s) here (a.number, good a.number x (found-of (IsField s a.number) (λ (i : FieldInfo). i.number == f) a.fields x (model-typed m a has).fields is))

      out : (o : Option ModelInfo) → model_of s m ≡ o → option_map which (option_and_then (λ (i : ModelInfo). field_in i.fields f) o) ≡ Some policy → IsPolicyOfSome s policy
      out None is e = absurd (cc e)
      out (Some a) is e = within a is (field_in a.fields f) refl e

  policy-typed : (target : Target) (right : Right) (policy : Policy) → policy_in s target right ≡ Some policy → IsPolicyOfSome s policy
  policy-typed (on.Field m f) Read policy e = of-field (λ (i : FieldInfo). i.read) (λ m x is. is.read) m f policy e
  policy-typed (on.Field m f) Write policy e = of-field (λ (i : FieldInfo). i.write) (λ m x is. is.write) m f policy e
  policy-typed (on.Field m f) Create policy e = absurd (cc e)
  policy-typed (on.Field m f) Delete policy e = absurd (cc e)
  policy-typed (on.Model m) Read policy e = absurd (cc e)
  policy-typed (on.Model m) Write policy e = absurd (cc e)
  policy-typed (on.Model m) Create policy e = of-model (λ (i : ModelInfo). i.create) (λ a is. is.create) m policy e
  policy-typed (on.Model m) Delete policy e = of-model (λ (i : ModelInfo). i.delete) (λ a is. is.delete) m policy e

one-policy : (s : Schema) (o : Option Policy) (later policy : Policy) → o ≡ Some (renumbered_policy s policy) → o ≡ Some later → later ≡ renumbered_policy s policy
one-policy s o later policy one other = cc

pub rights_stay : RightsStay
rights_stay sizes s anew proper told e = λ d is none target right policy later before after id who.
    let moved = policies_come_anew sizes s anew proper told e target right policy before in
    let same : later ≡ renumbered_policy s policy = one-policy s (policy_in anew (renumbered_target s target) right) later policy moved after in
    let typed = policy-typed s proper.typed target right policy before in
    ap (λ (p : Policy). allows (renumbered s d) p id (renumbered_principal s who)) same ∙ policy-means s d typed.0 policy typed.1 id who
