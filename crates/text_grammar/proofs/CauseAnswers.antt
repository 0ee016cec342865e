-- What holds of the answers for specifications and scripts.
use Rattle.std.proofs.Common.{◌≡◌, refl, true}
use Rattle.text_tree.specs.ExprGrammar as e
use Rattle.text_tree.specs.Grammar as g
use Rattle.text_grammar.proofs.GrammarFits.{spec_fits, script_fits}
use Rattle.text_grammar.proofs.WholeLists.{limited}
use Rattle.text_grammar.proofs.FormCaught.{counts_parts}
use Rattle.text_grammar.proofs.Refusals.{OneAnswer, one_answer}

spec_limited : limited g.spec_form ≡ true
unfolding e.path_root e.path e.flag e.number e.literal e.option e.atom e.unary e.cmp_op e.container e.comparison e.compared e.conjunction e.disjunction e.condition e.if_expr e.scrutinee e.match_expr e.expression e.item_form e.list e.filter_op e.filter_form e.find e.map_step e.flat_step e.steps e.found e.path_steps e.path_chain e.set_term e.set_step e.sum e.if_set e.match_set e.set g.policy_form g.base_form g.set_type g.plain_type g.field_rights g.field_form g.fields_form g.model_head g.model_form g.static_form g.spec_form g.field_right_list g.model_right_list g.reason_form g.added_set g.added_plain g.add_field g.remove_field g.update_field g.weaken_field g.update_model g.weaken_model g.model_command g.command_form g.script_form
spec_limited = refl

script_limited : limited g.script_form ≡ true
unfolding e.path_root e.path e.flag e.number e.literal e.option e.atom e.unary e.cmp_op e.container e.comparison e.compared e.conjunction e.disjunction e.condition e.if_expr e.scrutinee e.match_expr e.expression e.item_form e.list e.filter_op e.filter_form e.find e.map_step e.flat_step e.steps e.found e.path_steps e.path_chain e.set_term e.set_step e.sum e.if_set e.match_set e.set g.policy_form g.base_form g.set_type g.plain_type g.field_rights g.field_form g.fields_form g.model_head g.model_form g.static_form g.spec_form g.field_right_list g.model_right_list g.reason_form g.added_set g.added_plain g.add_field g.remove_field g.update_field g.weaken_field g.update_model g.weaken_model g.model_command g.command_form g.script_form
script_limited = refl

spec_counts : counts_parts g.spec_form ≡ true
unfolding e.path_root e.path e.flag e.number e.literal e.option e.atom e.unary e.cmp_op e.container e.comparison e.compared e.conjunction e.disjunction e.condition e.if_expr e.scrutinee e.match_expr e.expression e.item_form e.list e.filter_op e.filter_form e.find e.map_step e.flat_step e.steps e.found e.path_steps e.path_chain e.set_term e.set_step e.sum e.if_set e.match_set e.set g.policy_form g.base_form g.set_type g.plain_type g.field_rights g.field_form g.fields_form g.model_head g.model_form g.static_form g.spec_form g.field_right_list g.model_right_list g.reason_form g.added_set g.added_plain g.add_field g.remove_field g.update_field g.weaken_field g.update_model g.weaken_model g.model_command g.command_form g.script_form
spec_counts = refl

script_counts : counts_parts g.script_form ≡ true
unfolding e.path_root e.path e.flag e.number e.literal e.option e.atom e.unary e.cmp_op e.container e.comparison e.compared e.conjunction e.disjunction e.condition e.if_expr e.scrutinee e.match_expr e.expression e.item_form e.list e.filter_op e.filter_form e.find e.map_step e.flat_step e.steps e.found e.path_steps e.path_chain e.set_term e.set_step e.sum e.if_set e.match_set e.set g.policy_form g.base_form g.set_type g.plain_type g.field_rights g.field_form g.fields_form g.model_head g.model_form g.static_form g.spec_form g.field_right_list g.model_right_list g.reason_form g.added_set g.added_plain g.add_field g.remove_field g.update_field g.weaken_field g.update_model g.weaken_model g.model_command g.command_form g.script_form
script_counts = refl

pub spec_answer : OneAnswer g.spec_form
spec_answer = one_answer g.spec_form (record { is_fine = spec_fits; is_limited = spec_limited; counts = spec_counts })

pub script_answer : OneAnswer g.script_form
script_answer = one_answer g.script_form (record { is_fine = script_fits; is_limited = script_limited; counts = script_counts })
