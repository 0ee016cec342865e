-- The worked specifications, by evaluation.
use Rattle.std.proofs.Common.{rules}
use Rattle.type_typing.specs.Names.{field_named, model_named, static_named, var_named}
use Rattle.type_typing.specs.Asked.{among_principals, base_of, field_of_record, fits, id_asked, id_of, inner_asked, may_hold, none_of, option_of, same_type, set_of_ids, under}
use Rattle.type_typing.specs.Exprs.{typed_expr, typed_set}
use Rattle.type_typing.specs.Policies.{typed_base, typed_type}
use Rattle.text_tree.specs.declared.exprs.Expr as trees
use Rattle.type_schema.specs.declared.trees.TExpr as typed_trees
use Rattle.type_specs.specs.NewNames.{fields_differ, is_taken, one_more}
use Rattle.type_specs.specs.Models.{policy_at, policy_over, typed_field, typed_model, with_models, with_names, with_next_field, with_typed}
use Rattle.type_specs.specs.Sizes.{models_are_small}
use Rattle.type_specs.specs.Specs.{resolved_spec, typed_spec, with_static}
use Rattle.type_specs.specs.Worked.{WorkedSpecs}

pub worked : WorkedSpecs
unfolding field_named model_named static_named var_named among_principals base_of field_of_record fits id_asked id_of inner_asked may_hold none_of option_of same_type set_of_ids under typed_expr typed_set typed_base typed_type fields_differ is_taken one_more policy_at policy_over typed_field typed_model with_models with_names with_next_field with_typed models_are_small resolved_spec typed_spec with_static
worked = record {
  numbers = search (rules, trees.the_lemmas, typed_trees.the_lemmas);
  model_of_a_static = search (rules, trees.the_lemmas);
  names_first = search (rules, trees.the_lemmas);
  types_next = search (rules, trees.the_lemmas);
  no_principals = search (rules, trees.the_lemmas);
  number_is_no_record = search (rules, trees.the_lemmas);
  too_large = search (rules, trees.the_lemmas);
}
