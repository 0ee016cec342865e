use Rattle.std.proofs.Common.{rules, ◌≡◌, ap, sym, ◌∙◌, subst, arith}
use Rattle.std.specs.Prelude.{Ok, Err}
use Rattle.text_tree.specs.declared.models.Spec.{Spec}
use Rattle.text_tree.specs.Stripped.{stripped_spec}
use Rattle.type_schema.specs.SchemaViews.{schema_of}
use Rattle.type_specs.specs.Specs.{typed_spec}
use Rattle.type_scripts.specs.Counted.{counted}
use Rattle.type_anew.specs.Specs.{written_spec}
use Rattle.type_anew.proofs.Refusals.{memory-alone}
use Rattle.type_anew.proofs.anew.renumber.Goals as goal

pub returns-clause-same_tree : goal.returns-clause-same_tree
returns-clause-same_tree c =
    c.specs_come_back.ensures counted c.in_ok-spec.spec (schema_of c.in_ok-anew.anew) c.in_ok-anew.ensures.steady.proper c.in_ok-anew.ensures.typed
    ∙ ap stripped_spec c.in_ok-spec.ensures
    ∙ c.written_is_stripped.ensures (schema_of c.args.s.now)

pub returns-clause-told : goal.returns-clause-told
returns-clause-told c = c.specs_are_told.ensures counted c.in_ok-spec.spec (schema_of c.in_ok-anew.anew) c.in_ok-anew.ensures.typed

pub returns-clause-in_order : goal.returns-clause-in_order
returns-clause-in_order c = λ proper.
    let typed : typed_spec counted (written_spec (schema_of c.args.s.now)) ≡ Ok (schema_of c.in_ok-anew.anew)
    = subst (λ (z : Spec). typed_spec counted z ≡ Ok (schema_of c.in_ok-anew.anew)) c.in_ok-spec.ensures c.in_ok-anew.ensures.typed in
    c.schemas_come_anew.ensures counted (schema_of c.args.s.now) (schema_of c.in_ok-anew.anew) proper typed

pub returns-clause-few : goal.returns-clause-few
returns-clause-few c =
    let typed : typed_spec counted (written_spec (schema_of c.args.s.now)) ≡ Ok (schema_of c.in_ok-anew.anew)
    = subst (λ (z : Spec). typed_spec counted z ≡ Ok (schema_of c.in_ok-anew.anew)) c.in_ok-spec.ensures c.in_ok-anew.ensures.typed in
    let counts = c.counts_stay.ensures counted (schema_of c.args.s.now) (schema_of c.in_ok-anew.anew) typed in
    record { models = omega (arith, counts.0, c.next_numbers_fit.ensures.models); fields = omega (arith, counts.1, c.next_numbers_fit.ensures.fields) }

pub returns-clause-policies : goal.returns-clause-policies
returns-clause-policies c = λ proper told.
    let typed : typed_spec counted (written_spec (schema_of c.args.s.now)) ≡ Ok (schema_of c.in_ok-anew.anew)
    = subst (λ (z : Spec). typed_spec counted z ≡ Ok (schema_of c.in_ok-anew.anew)) c.in_ok-spec.ensures c.in_ok-anew.ensures.typed in
    c.policies_come_anew.ensures counted (schema_of c.args.s.now) (schema_of c.in_ok-anew.anew) proper told typed

pub returns-clause-rights : goal.returns-clause-rights
returns-clause-rights c = λ proper told.
    let typed : typed_spec counted (written_spec (schema_of c.args.s.now)) ≡ Ok (schema_of c.in_ok-anew.anew)
    = subst (λ (z : Spec). typed_spec counted z ≡ Ok (schema_of c.in_ok-anew.anew)) c.in_ok-spec.ensures c.in_ok-anew.ensures.typed in
    c.rights_stay.ensures counted (schema_of c.args.s.now) (schema_of c.in_ok-anew.anew) proper told typed

pub returns-in_err-anew-clause-memory_alone : goal.returns-in_err-anew-clause-memory_alone
returns-in_err-anew-clause-memory_alone c =
    let same : c.from_residual-in_err-anew.result ≡ Err c.in_err-anew.field-0.0 = search rules in
    rw same λ proper told room small.
    let k = c.trees_are_typed.ensures (schema_of c.args.s.now) proper told room small in
    let typed : typed_spec counted c.in_ok-spec.spec ≡ Ok k.0 = subst (λ (z : Spec). typed_spec counted z ≡ Ok k.0) (sym c.in_ok-spec.ensures) k.1 in
    memory-alone (typed_spec counted c.in_ok-spec.spec) c.in_err-anew.field-0.0 k.0 c.in_err-anew.ensures.refused typed
