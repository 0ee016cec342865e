-- The worked texts, by evaluation.
use Rattle.std.proofs.Common.{rules}
use Rattle.data_tree.specs.declared.literals.Lit as lits
use Rattle.data_judge.specs.Worked as spec

pub worked : spec.WorkedData
worked = record {
  two = search (rules, lits.the_lemmas);
  bad_id = search (rules, lits.the_lemmas);
  wrong_shape = search (rules, lits.the_lemmas);
  unknown_field = search (rules, lits.the_lemmas);
  absent_field = search (rules, lits.the_lemmas);
  field_twice = search (rules, lits.the_lemmas);
  record_twice = search (rules, lits.the_lemmas);
  model_twice = search (rules, lits.the_lemmas);
  unknown_model = search (rules, lits.the_lemmas);
  bad_next = search (rules, lits.the_lemmas);
  id_twice = search (rules, lits.the_lemmas);
  no_id = search (rules, lits.the_lemmas);
  option_twice = search (rules, lits.the_lemmas);
  other_option = search (rules, lits.the_lemmas);
  rows = search (rules, lits.the_lemmas);
  set = search (rules, lits.the_lemmas);
  zero = search (rules, lits.the_lemmas);
  zero_lost = search (rules, lits.the_lemmas);
  option_lost = search (rules, lits.the_lemmas);
  none_lost = search (rules, lits.the_lemmas);
}
