-- The tables of the grammar fit its forms: each choice is decided by the next token.
use Rattle.std.proofs.Common.{◌≡◌, List, [], refl, subst, true, false}
use Rattle.text_ast.specs.Words.{is_type_word, is_command_word, is_reserved_lower}
use Rattle.text_tree.specs.Forms.{Form, Want, same_kind, loosened, first, empty, nothing, token, both, either, each, ended, mapped, part, within}
use Rattle.text_tree.specs.ExprGrammar as e
use Rattle.text_tree.specs.ExprGrammar.{Part, Expression, Set, rule, tree_of}
use Rattle.text_tree.specs.Grammar as g
use Rattle.text_tree.specs.Texts.{first_of}
use Rattle.text_grammar.proofs.Tables.{mores, fine}
use Rattle.text_grammar.proofs.FormAgrees.{Limited}
use Rattle.text_grammar.proofs.LevelsAgree.{Fits, Unlimited}
use Rattle.text_grammar.proofs.Covers.{covers, covers_sound}

-- what may go on with an expression and a set
abbrev pub goes_on : Part → List Want
goes_on p = mores first_of (λ q. []) (rule p)

pub limited_loosened : {P : Type 0} {T : P → Type 0} {A : Type 0} (f : Form P T A) → Limited (loosened f)
limited_loosened (nothing x) = tt
limited_loosened (token w) = tt
limited_loosened (both f g) = (limited_loosened f, limited_loosened g)
limited_loosened (either f g) = (limited_loosened f, limited_loosened g)
limited_loosened (each times f) = (tt, limited_loosened f)
limited_loosened (ended times w f g h) = (tt, limited_loosened f, limited_loosened g, limited_loosened h)
limited_loosened (mapped make f) = limited_loosened f
limited_loosened (part p) = tt
limited_loosened (within most f) = limited_loosened f

unlimited_loosened : {P : Type 0} {T : P → Type 0} {A : Type 0} (f : Form P T A) → Unlimited (loosened f)
unlimited_loosened (nothing x) = tt
unlimited_loosened (token w) = tt
unlimited_loosened (both f g) = (unlimited_loosened f, unlimited_loosened g)
unlimited_loosened (either f g) = (unlimited_loosened f, unlimited_loosened g)
unlimited_loosened (each times f) = unlimited_loosened f
unlimited_loosened (ended times w f g h) = (unlimited_loosened f, unlimited_loosened g, unlimited_loosened h)
unlimited_loosened (mapped make f) = unlimited_loosened f
unlimited_loosened (part p) = tt
unlimited_loosened (within most f) = unlimited_loosened f

tight : (p : Part) → loosened (rule p) ≡ rule p
unfolding e.path_root e.path e.flag e.number e.literal e.option e.atom e.unary e.cmp_op e.container e.comparison e.compared e.conjunction e.disjunction e.condition e.if_expr e.scrutinee e.match_expr e.expression e.item_form e.list e.filter_op e.filter_form e.find e.map_step e.flat_step e.steps e.found e.path_steps e.path_chain e.set_term e.set_step e.sum e.if_set e.match_set e.set
tight Expression = refl
tight Set = refl

firsts : (p : Part) → first first_of (rule p) ≡ first_of p
unfolding e.path_root e.path e.flag e.number e.literal e.option e.atom e.unary e.cmp_op e.container e.comparison e.compared e.conjunction e.disjunction e.condition e.if_expr e.scrutinee e.match_expr e.expression e.item_form e.list e.filter_op e.filter_form e.find e.map_step e.flat_step e.steps e.found e.path_steps e.path_chain e.set_term e.set_step e.sum e.if_set e.match_set e.set
firsts Expression = refl
firsts Set = refl

full : (p : Part) → empty (rule p) ≡ false
unfolding e.path_root e.path e.flag e.number e.literal e.option e.atom e.unary e.cmp_op e.container e.comparison e.compared e.conjunction e.disjunction e.condition e.if_expr e.scrutinee e.match_expr e.expression e.item_form e.list e.filter_op e.filter_form e.find e.map_step e.flat_step e.steps e.found e.path_steps e.path_chain e.set_term e.set_step e.sum e.if_set e.match_set e.set
full Expression = refl
full Set = refl

covered : (p : Part) → covers (goes_on p) (mores first_of goes_on (rule p)) ≡ true
unfolding same_kind is_type_word is_command_word is_reserved_lower e.path_root e.path e.flag e.number e.literal e.option e.atom e.unary e.cmp_op e.container e.comparison e.compared e.conjunction e.disjunction e.condition e.if_expr e.scrutinee e.match_expr e.expression e.item_form e.list e.filter_op e.filter_form e.find e.map_step e.flat_step e.steps e.found e.path_steps e.path_chain e.set_term e.set_step e.sum e.if_set e.match_set e.set
covered Expression = refl
covered Set = refl

rule_fine : (p : Part) → fine first_of goes_on (rule p) ≡ true
unfolding same_kind is_type_word is_command_word is_reserved_lower e.path_root e.path e.flag e.number e.literal e.option e.atom e.unary e.cmp_op e.container e.comparison e.compared e.conjunction e.disjunction e.condition e.if_expr e.scrutinee e.match_expr e.expression e.item_form e.list e.filter_op e.filter_form e.find e.map_step e.flat_step e.steps e.found e.path_steps e.path_chain e.set_term e.set_step e.sum e.if_set e.match_set e.set
rule_fine Expression = refl
rule_fine Set = refl

pub fits : Fits rule first_of goes_on
fits = record {
  tight = tight;
  firsts = firsts;
  goes = λ p. covers_sound (goes_on p) (mores first_of goes_on (rule p)) (covered p);
  full = full;
  is_fine = rule_fine;
  limited = λ p. (let L : Form Part tree_of (tree_of p) → Type 0 = λ f. Limited f in subst L (tight p) (limited_loosened (rule p)));
  unlimited = λ p. (let U : Form Part tree_of (tree_of p) → Type 0 = λ f. Unlimited f in subst U (tight p) (unlimited_loosened (rule p)));
}

pub spec_fine : fine first_of goes_on (loosened g.spec_form) ≡ true
unfolding same_kind is_type_word is_command_word is_reserved_lower e.path_root e.path e.flag e.number e.literal e.option e.atom e.unary e.cmp_op e.container e.comparison e.compared e.conjunction e.disjunction e.condition e.if_expr e.scrutinee e.match_expr e.expression e.item_form e.list e.filter_op e.filter_form e.find e.map_step e.flat_step e.steps e.found e.path_steps e.path_chain e.set_term e.set_step e.sum e.if_set e.match_set e.set g.policy_form g.base_form g.set_type g.plain_type g.field_rights g.field_form g.fields_form g.model_head g.model_form g.static_form g.spec_form g.field_right_list g.model_right_list g.reason_form g.added_set g.added_plain g.add_field g.remove_field g.update_field g.weaken_field g.update_model g.weaken_model g.model_command g.command_form g.script_form
spec_fine = refl

pub script_fine : fine first_of goes_on (loosened g.script_form) ≡ true
unfolding same_kind is_type_word is_command_word is_reserved_lower e.path_root e.path e.flag e.number e.literal e.option e.atom e.unary e.cmp_op e.container e.comparison e.compared e.conjunction e.disjunction e.condition e.if_expr e.scrutinee e.match_expr e.expression e.item_form e.list e.filter_op e.filter_form e.find e.map_step e.flat_step e.steps e.found e.path_steps e.path_chain e.set_term e.set_step e.sum e.if_set e.match_set e.set g.policy_form g.base_form g.set_type g.plain_type g.field_rights g.field_form g.fields_form g.model_head g.model_form g.static_form g.spec_form g.field_right_list g.model_right_list g.reason_form g.added_set g.added_plain g.add_field g.remove_field g.update_field g.weaken_field g.update_model g.weaken_model g.model_command g.command_form g.script_form
script_fine = refl

pub spec_loose : loosened (loosened g.spec_form) ≡ loosened g.spec_form
unfolding e.path_root e.path e.flag e.number e.literal e.option e.atom e.unary e.cmp_op e.container e.comparison e.compared e.conjunction e.disjunction e.condition e.if_expr e.scrutinee e.match_expr e.expression e.item_form e.list e.filter_op e.filter_form e.find e.map_step e.flat_step e.steps e.found e.path_steps e.path_chain e.set_term e.set_step e.sum e.if_set e.match_set e.set g.policy_form g.base_form g.set_type g.plain_type g.field_rights g.field_form g.fields_form g.model_head g.model_form g.static_form g.spec_form g.field_right_list g.model_right_list g.reason_form g.added_set g.added_plain g.add_field g.remove_field g.update_field g.weaken_field g.update_model g.weaken_model g.model_command g.command_form g.script_form
spec_loose = refl

pub script_loose : loosened (loosened g.script_form) ≡ loosened g.script_form
unfolding e.path_root e.path e.flag e.number e.literal e.option e.atom e.unary e.cmp_op e.container e.comparison e.compared e.conjunction e.disjunction e.condition e.if_expr e.scrutinee e.match_expr e.expression e.item_form e.list e.filter_op e.filter_form e.find e.map_step e.flat_step e.steps e.found e.path_steps e.path_chain e.set_term e.set_step e.sum e.if_set e.match_set e.set g.policy_form g.base_form g.set_type g.plain_type g.field_rights g.field_form g.fields_form g.model_head g.model_form g.static_form g.spec_form g.field_right_list g.model_right_list g.reason_form g.added_set g.added_plain g.add_field g.remove_field g.update_field g.weaken_field g.update_model g.weaken_model g.model_command g.command_form g.script_form
script_loose = refl

pub spec_fits : fine first_of goes_on g.spec_form ≡ true
unfolding same_kind is_type_word is_command_word is_reserved_lower e.path_root e.path e.flag e.number e.literal e.option e.atom e.unary e.cmp_op e.container e.comparison e.compared e.conjunction e.disjunction e.condition e.if_expr e.scrutinee e.match_expr e.expression e.item_form e.list e.filter_op e.filter_form e.find e.map_step e.flat_step e.steps e.found e.path_steps e.path_chain e.set_term e.set_step e.sum e.if_set e.match_set e.set g.policy_form g.base_form g.set_type g.plain_type g.field_rights g.field_form g.fields_form g.model_head g.model_form g.static_form g.spec_form g.field_right_list g.model_right_list g.reason_form g.added_set g.added_plain g.add_field g.remove_field g.update_field g.weaken_field g.update_model g.weaken_model g.model_command g.command_form g.script_form
spec_fits = refl

pub script_fits : fine first_of goes_on g.script_form ≡ true
unfolding same_kind is_type_word is_command_word is_reserved_lower e.path_root e.path e.flag e.number e.literal e.option e.atom e.unary e.cmp_op e.container e.comparison e.compared e.conjunction e.disjunction e.condition e.if_expr e.scrutinee e.match_expr e.expression e.item_form e.list e.filter_op e.filter_form e.find e.map_step e.flat_step e.steps e.found e.path_steps e.path_chain e.set_term e.set_step e.sum e.if_set e.match_set e.set g.policy_form g.base_form g.set_type g.plain_type g.field_rights g.field_form g.fields_form g.model_head g.model_form g.static_form g.spec_form g.field_right_list g.model_right_list g.reason_form g.added_set g.added_plain g.add_field g.remove_field g.update_field g.weaken_field g.update_model g.weaken_model g.model_command g.command_form g.script_form
script_fits = refl
