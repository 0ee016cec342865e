-- The worked commands, by evaluation.
use Rattle.std.proofs.Common.{rules}
use Rattle.type_typing.specs.Names.{field_named, model_named, static_named, var_named}
use Rattle.type_typing.specs.Asked.{among_principals, base_of, field_of_record, fits, id_asked, id_of, inner_asked, may_hold, none_of, option_of, same_type, set_of_ids, under}
use Rattle.type_typing.specs.Exprs.{typed_expr, typed_set}
use Rattle.type_typing.specs.Policies.{typed_base, typed_type}
use Rattle.text_tree.specs.declared.exprs.Expr as trees
use Rattle.text_tree.specs.Placed.{expr_at, set_at}
use Rattle.type_specs.specs.NewNames.{fields_differ, is_taken, one_more}
use Rattle.type_specs.specs.Models.{created_model, policy_at, policy_over, typed_field, typed_model, with_names, with_next_field, with_typed}
use Rattle.type_commands.specs.Users.{first_user}
use Rattle.type_commands.specs.Resolved.{added_field, added_static, created, field_count, field_seen, given, init_over, known_field, known_model, known_static, new_principal, reason_given, removed_field, removed_model, removed_static, resolved, unused, updated_field, weakened_field}
use Rattle.type_commands.specs.Commands.{command_is_small, typed_command}
use Rattle.type_commands.specs.Scripts.{steps}
use Rattle.type_commands.specs.Worked.{WorkedCommands}

pub worked : WorkedCommands
unfolding expr_at set_at field_named model_named static_named var_named among_principals base_of field_of_record fits id_asked id_of inner_asked may_hold none_of option_of same_type set_of_ids under typed_expr typed_set typed_base typed_type fields_differ is_taken one_more created_model policy_at policy_over typed_field typed_model with_names with_next_field with_typed first_user added_field added_static created field_count field_seen given init_over known_field known_model known_static new_principal reason_given removed_field removed_model removed_static resolved unused updated_field weakened_field command_is_small typed_command steps
worked = record {
  unknown_model = search (rules, trees.the_lemmas);
  unknown_field = search (rules, trees.the_lemmas);
  another_type = search (rules, trees.the_lemmas);
  not_seen = search (rules, trees.the_lemmas);
  no_principals = search (rules, trees.the_lemmas);
  static_twice = search (rules, trees.the_lemmas);
  shared_names = search (rules, trees.the_lemmas);
  principal_twice = search (rules, trees.the_lemmas);
  field_twice = search (rules, trees.the_lemmas);
  filter_uses = search (rules, trees.the_lemmas);
  own_policy = search (rules, trees.the_lemmas);
  type_uses = search (rules, trees.the_lemmas);
  list_uses = search (rules, trees.the_lemmas);
  no_reason = search (rules, trees.the_lemmas);
  crowded = search (rules, trees.the_lemmas);
  crowded_twice = search (rules, trees.the_lemmas);
  too_large = search (rules, trees.the_lemmas);
  seen_by_policies = search (rules, trees.the_lemmas);
  second_is_bad = search (rules, trees.the_lemmas);
}
