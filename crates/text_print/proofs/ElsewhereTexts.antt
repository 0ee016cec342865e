-- What pieces spell of policies, specifications and scripts, the same pieces elsewhere spell too, offsets aside.
use Rattle.std.proofs.Common.{ℕ, List, refl, ◌∙◌, ap, Some, None, map, codes}
use Rattle.text_tree.specs.declared.named.Named.{Named}
use Rattle.text_tree.specs.declared.named.Reason.{Reason}
use Rattle.text_tree.specs.declared.policies.Init.TheVariants as init
use Rattle.text_tree.specs.declared.models.Base.TheVariants as base
use Rattle.text_tree.specs.declared.models.Ty.TheVariants as ty
use Rattle.text_tree.specs.declared.models.ModelDef.{ModelDef}
use Rattle.text_tree.specs.declared.models.Spec.{Spec}
use Rattle.text_tree.specs.declared.commands.Command.{Command}
use Rattle.text_tree.specs.declared.commands.Command.TheVariants as command
use Rattle.text_tree.specs.Forms.{Want, Upper, Lower, Literal, token, mapped}
use Rattle.text_tree.specs.LiteralValue.{literal_value}
use Rattle.text_tree.specs.ExprGrammar.{named}
use Rattle.text_tree.specs.Grammar.{policy_form, right, base_form, set_type, plain_type, field_rights, field_form, fields_form, model_head, model_form, static_form, spec_form, rights, field_right_list, model_right_list, reason_form, added_set, added_plain, add_field, remove_field, update_field, weaken_field, update_model, weaken_model, model_command, named_command, command_form, script_form}
use Rattle.text_tree.specs.Stripped.{stripped_command, stripped_model, stripped_name}
use Rattle.text_print.proofs.Canonical.{Same}
use Rattle.text_print.proofs.Chains.{SameBytes}
use Rattle.text_print.proofs.CommandForms.{AsAdded, AsBoth, AsCommand, AsGiven, AsReason, AsScript, AsTail, add_as, made_script, remove_as, update_as, update_model_as, weaken_as, weaken_model_as}
use Rattle.text_print.proofs.Elsewhere.{Both, Steady, behind_steady, between_steady, both_steady, each_steady, either_steady, ended_steady, mapped_steady, nothing_steady, token_steady, within_steady}
use Rattle.text_print.proofs.ElsewhereExprs.{Parts}
use Rattle.text_print.proofs.ExprForms.{name_as}
use Rattle.text_print.proofs.ModelForms.{AsModel, AsSpec, SameHead, model_as}
use Rattle.text_print.proofs.PolicyForms.{AsBase, AsField, AsName, AsPolicy, AsRights, AsType, field_as, fun_as}
use Rattle.text_print.proofs.SetForms.{same_map}
use Rattle.text_print.proofs.SetRanks.{AsSet}
use Rattle.text_print.proofs.Ranks.{AsExpr}
use Rattle.text_print.proofs.Tokens.{Pieces}

-- ---- policies

pub policy_steady : {S : Pieces} → Parts S → Steady S policy_form AsPolicy
unfolding policy_form
policy_steady {S} p =
    either_steady (mapped_steady {R = SameBytes} (λ l m r. refl) (token_steady _)) (either_steady (mapped_steady {R = SameBytes} (λ l m r. refl) (token_steady _))
    (mapped_steady {R = Both SameBytes AsSet} (λ v w r. fun_as w.0 v.0 w.1 v.1 r.0 r.1) (both_steady (token_steady Lower) (behind_steady (within_steady p.set)))))

right_steady : {S : Pieces} → Parts S → (word : List ℕ) → Steady S (right word) AsPolicy
right_steady {S} p word = behind_steady (behind_steady (policy_steady p))

-- ---- types and fields

name_steady : {S : Pieces} {w : Want} → Steady S (mapped named (token w)) AsName
name_steady {S} {w} = mapped_steady {R = SameBytes} (λ l m r. name_as m l r) (token_steady w)

base_steady : {S : Pieces} → Steady S base_form AsBase
unfolding base_form
base_steady {S} =
    either_steady (mapped_steady {R = SameBytes} (λ l m r. refl) (token_steady _)) (either_steady (mapped_steady {R = SameBytes} (λ l m r. refl) (token_steady _))
    (either_steady (mapped_steady {R = SameBytes} (λ l m r. refl) (token_steady _))
    (mapped_steady {R = Both SameBytes AsName} (λ v w r. ap (λ z. base.Id z 0) r.1) (both_steady (token_steady _) (between_steady name_steady)))))

set_type_steady : {S : Pieces} → Steady S set_type AsType
unfolding set_type
set_type_steady {S} =
    mapped_steady {R = Both SameBytes AsName} (λ v w r. ap (λ z. ty.Set z 0) r.1)
    (both_steady (token_steady _) (between_steady (behind_steady (between_steady name_steady))))

plain_type_steady : {S : Pieces} → Steady S plain_type AsType
unfolding plain_type
plain_type_steady {S} =
    either_steady (mapped_steady {R = Both SameBytes AsBase} (λ v w r. ap (λ z. ty.Opt z 0) r.1) (both_steady (token_steady _) (between_steady base_steady)))
    (mapped_steady {R = AsBase} (λ x y r. ap ty.Plain r) base_steady)

field_rights_steady : {S : Pieces} → Parts S → Steady S field_rights AsRights
unfolding field_rights
field_rights_steady {S} p = between_steady (both_steady (right_steady p (codes "read")) (behind_steady (right_steady p (codes "write"))))

field_steady : {S : Pieces} → Parts S → Steady S field_form AsField
unfolding field_form
field_steady {S} p =
    mapped_steady {R = Both SameBytes (Both AsType AsRights)} (λ v w r. field_as w.0 v.0 w.1.0 v.1.0 w.1.1 v.1.1 r.0 r.1.0 r.1.1)
    (both_steady (token_steady Lower) (behind_steady (both_steady (either_steady set_type_steady plain_type_steady) (field_rights_steady p))))

fields_steady : {S : Pieces} → Parts S → Steady S fields_form (Same AsField)
unfolding fields_form
fields_steady {S} p =
    mapped_steady {R = Both (Same AsField) SameBytes} (λ v w r. r.0) (ended_steady (field_steady p) (token_steady _) (token_steady _))

-- ---- specifications

head_steady : {S : Pieces} → Steady S model_head SameHead
unfolding model_head
head_steady {S} =
    either_steady (mapped_steady {R = Both SameBytes SameBytes} (λ v w r. refl) (both_steady (token_steady _) (token_steady _)))
    (mapped_steady {R = SameBytes} (λ l m r. refl) (token_steady _))

model_steady : {S : Pieces} → Parts S → Steady S model_form AsModel
unfolding model_form
model_steady {S} p =
    mapped_steady {R = Both SameHead (Both SameBytes (Both AsPolicy (Both AsPolicy (Same AsField))))}
    (λ v w r. model_as v.0.0 w.0.0 w.1.0 v.1.0 v.1.1.0 w.1.1.0 v.1.1.1.0 w.1.1.1.0 v.1.1.1.1 w.1.1.1.1 v.0.1.at w.0.1.at r.0 r.1.0 r.1.1.0 r.1.1.1.0 r.1.1.1.1)
    (both_steady head_steady (both_steady (token_steady Upper)
    (behind_steady (both_steady (right_steady p (codes "create")) (both_steady (behind_steady (right_steady p (codes "delete"))) (fields_steady p))))))

static_steady : {S : Pieces} → Steady S static_form AsName
unfolding static_form
static_steady {S} = mapped_steady {R = SameBytes} (λ l m r. name_as m l r) (behind_steady (token_steady Upper))

abbrev made_spec : List Named → List ModelDef → Spec
made_spec statics models = record { statics = statics; models = models }

pub spec_steady : {S : Pieces} → Parts S → Steady S spec_form AsSpec
unfolding spec_form
spec_steady {S} p =
    mapped_steady {R = Both (Same AsName) (Same AsModel)}
    (λ v w r. ap (λ z. made_spec z (map stripped_model w.1)) (same_map stripped_name v.0 w.0 r.0)
    ∙ ap (λ z. made_spec (map stripped_name v.0) z) (same_map stripped_model v.1 w.1 r.1))
    (both_steady (each_steady static_steady) (each_steady (model_steady p)))

-- ---- what commands hold

rights_steady : {S : Pieces} → Parts S → (one two : List ℕ) → Steady S (rights one two) AsBoth
rights_steady {S} p one two =
    between_steady (either_steady (mapped_steady {R = Both AsPolicy AsGiven} (λ v w r. (ap Some r.0, r.1))
    (both_steady (right_steady p one) (either_steady (mapped_steady {R = AsPolicy} (λ x y r. ap Some r) (behind_steady (right_steady p two))) (nothing_steady None refl))))
    (mapped_steady {R = AsPolicy} (λ x y r. (refl, ap Some r)) (right_steady p two)))

field_list_steady : {S : Pieces} → Parts S → Steady S field_right_list AsBoth
unfolding field_right_list
field_list_steady {S} p = rights_steady p (codes "read") (codes "write")

model_list_steady : {S : Pieces} → Parts S → Steady S model_right_list AsBoth
unfolding model_right_list
model_list_steady {S} p = rights_steady p (codes "create") (codes "delete")

made_reason : List ℕ → Reason
made_reason bytes = record { text = literal_value bytes; at = 0 }

reason_steady : {S : Pieces} → Steady S reason_form AsReason
unfolding reason_form made_reason
reason_steady {S} = mapped_steady {R = SameBytes} (λ l m r. ap made_reason r) (token_steady Literal)

added_set_steady : {S : Pieces} → Parts S → Steady S added_set AsAdded
unfolding added_set
added_set_steady {S} p =
    mapped_steady {R = Both AsType (Both AsRights (Both SameBytes AsSet))} (λ v w r. ((r.0, r.1.0), r.1.1.0, ap init.OfSet r.1.1.1))
    (both_steady set_type_steady (both_steady (field_rights_steady p) (behind_steady (both_steady (token_steady Lower) (behind_steady (within_steady p.set))))))

added_plain_steady : {S : Pieces} → Parts S → Steady S added_plain AsAdded
unfolding added_plain
added_plain_steady {S} p =
    mapped_steady {R = Both AsType (Both AsRights (Both SameBytes AsExpr))} (λ v w r. ((r.0, r.1.0), r.1.1.0, ap init.Plain r.1.1.1))
    (both_steady plain_type_steady (both_steady (field_rights_steady p) (behind_steady (both_steady (token_steady Lower) (behind_steady (within_steady p.expr))))))

-- ---- commands to a model

add_steady : {S : Pieces} → Parts S → Steady S add_field AsTail
unfolding add_field
add_steady {S} p =
    mapped_steady {R = Both SameBytes AsAdded} (λ v w r. add_as w.0 v.0 w.1 v.1 r.0 r.1)
    (behind_steady (between_steady (both_steady (token_steady Lower) (behind_steady (either_steady (added_set_steady p) (added_plain_steady p))))))

remove_steady : {S : Pieces} → Steady S remove_field AsTail
unfolding remove_field
remove_steady {S} = mapped_steady {R = SameBytes} (λ l m r. remove_as m l r) (behind_steady (between_steady (token_steady Lower)))

update_steady : {S : Pieces} → Parts S → Steady S update_field AsTail
unfolding update_field
update_steady {S} p =
    mapped_steady {R = Both SameBytes AsBoth} (λ v w r. update_as w.0 v.0 w.1 v.1 r.0 r.1)
    (behind_steady (between_steady (both_steady (token_steady Lower) (behind_steady (field_list_steady p)))))

weaken_steady : {S : Pieces} → Parts S → Steady S weaken_field AsTail
unfolding weaken_field
weaken_steady {S} p =
    mapped_steady {R = Both SameBytes (Both AsBoth AsReason)} (λ v w r. weaken_as w.0 v.0 w.1.0 v.1.0 w.1.1 v.1.1 r.0 r.1.0 r.1.1)
    (behind_steady (between_steady (both_steady (token_steady Lower) (both_steady (behind_steady (field_list_steady p)) (behind_steady reason_steady)))))

update_model_steady : {S : Pieces} → Parts S → Steady S update_model AsTail
unfolding update_model
update_model_steady {S} p = mapped_steady {R = AsBoth} (λ v w r. update_model_as w v r) (behind_steady (between_steady (model_list_steady p)))

weaken_model_steady : {S : Pieces} → Parts S → Steady S weaken_model AsTail
unfolding weaken_model
weaken_model_steady {S} p =
    mapped_steady {R = Both AsBoth AsReason} (λ v w r. weaken_model_as w.0 v.0 w.1 v.1 r.0 r.1)
    (behind_steady (between_steady (both_steady (model_list_steady p) (behind_steady reason_steady))))

of_model_steady : {S : Pieces} → Parts S → Steady S model_command AsCommand
unfolding model_command
of_model_steady {S} p =
    mapped_steady {R = Both SameBytes AsTail} (λ v w r. r.1 v.0 w.0 r.0)
    (both_steady (token_steady Upper) (behind_steady (either_steady (add_steady p) (either_steady remove_steady (either_steady (update_steady p)
    (either_steady (weaken_steady p) (either_steady (update_model_steady p) (weaken_model_steady p))))))))

-- ---- scripts

word_steady : {S : Pieces} (word : List ℕ) (make : Named → ℕ → Command)
    → ((x y : Named) (a b : ℕ) → AsName x y → AsCommand (make x a) (make y b)) → Steady S (named_command word make) AsCommand
word_steady {S} word make keeps =
    mapped_steady {R = Both SameBytes SameBytes} (λ v w r. keeps (named v.1) (named w.1) v.0.at w.0.at (name_as w.1 v.1 r.1))
    (both_steady (token_steady _) (between_steady (token_steady Upper)))

command_steady : {S : Pieces} → Parts S → Steady S command_form AsCommand
unfolding command_form
command_steady {S} p =
    either_steady (mapped_steady {R = Both SameBytes AsModel} (λ v w r. ap (λ z. command.CreateModel z 0) r.1) (both_steady (token_steady _) (between_steady (model_steady p))))
    (either_steady (word_steady (codes "DeleteModel") command.DeleteModel (λ x y a b r. ap (λ z. command.DeleteModel z 0) r))
    (either_steady (word_steady (codes "AddStatic") command.AddStatic (λ x y a b r. ap (λ z. command.AddStatic z 0) r))
    (either_steady (word_steady (codes "RemoveStatic") command.RemoveStatic (λ x y a b r. ap (λ z. command.RemoveStatic z 0) r))
    (either_steady (word_steady (codes "AddPrincipal") command.AddPrincipal (λ x y a b r. ap (λ z. command.AddPrincipal z 0) r)) (of_model_steady p)))))

pub script_steady : {S : Pieces} → Parts S → Steady S script_form AsScript
unfolding script_form
script_steady {S} p =
    mapped_steady {R = Same AsCommand} (λ xs ys r. ap made_script (same_map stripped_command xs ys r)) (each_steady (command_steady p))
