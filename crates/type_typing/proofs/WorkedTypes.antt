-- The worked types, by evaluation.
use Rattle.std.proofs.Common.{rules}
use Rattle.type_typing.specs.Names.{field_named, model_named, static_named, var_named}
use Rattle.type_typing.specs.Asked.{among_principals, base_of, field_of_record, fits, id_asked, id_of, inner_asked, may_hold, none_of, option_of, same_type, set_of_ids, under}
use Rattle.type_typing.specs.Exprs.{typed_expr, typed_set}
use Rattle.type_typing.specs.Compared.{alike, compared, left_asked, ordered, signed, tested}
use Rattle.text_tree.specs.declared.exprs.Expr as trees
use Rattle.type_typing.specs.Worked.{WorkedTypes}

pub worked : WorkedTypes
unfolding typed_expr typed_set field_named model_named static_named var_named among_principals base_of field_of_record fits id_asked id_of inner_asked may_hold none_of option_of same_type set_of_ids under alike compared left_asked ordered signed tested
worked = record {
  field_is_found = search (rules, trees.the_lemmas);
  unknown_field = search (rules, trees.the_lemmas);
  another_type = search (rules, trees.the_lemmas);
  unknown_variable = search (rules, trees.the_lemmas);
  none_alone = search (rules, trees.the_lemmas);
  part_of_some = search (rules, trees.the_lemmas);
  unequal = search (rules, trees.the_lemmas);
  order_of_text = search (rules, trees.the_lemmas);
  variable_hides_none = search (rules, trees.the_lemmas);
  principal_is_listed = search (rules, trees.the_lemmas);
  note_is_no_principal = search (rules, trees.the_lemmas);
  static_is_listed = search (rules, trees.the_lemmas);
  static_is_no_record = search (rules, trees.the_lemmas);
  notes_are_no_principals = search (rules, trees.the_lemmas);
  sign_of_filter = search (rules, trees.the_lemmas);
  map_needs_ids = search (rules, trees.the_lemmas);
}
