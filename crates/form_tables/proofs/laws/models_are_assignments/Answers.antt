use Rattle.form_tables.proofs.Lawful.{elements_same, flags_raised, model_typed, numbers_below, numbers_same, text_same, texts_same}
use Rattle.form_tables.proofs.laws.models_are_assignments.Goals as goal

pub returns-clause-typed : goal.returns-clause-typed
returns-clause-typed c = λ g v texts spare m lawful. model_typed g texts spare m v lawful

pub returns-clause-elements : goal.returns-clause-elements
returns-clause-elements c = λ g v texts spare m t u sort lawful p q. elements_same g texts spare m v lawful t u sort p q

pub returns-clause-texts : goal.returns-clause-texts
returns-clause-texts c = λ g v texts spare m t u lawful a b p q. texts_same g texts spare m v lawful t u a b p q

pub returns-clause-literals : goal.returns-clause-literals
returns-clause-literals c = λ g v texts spare m t w lawful a b p. text_same g texts spare m v lawful t w a p b

pub returns-clause-numbers : goal.returns-clause-numbers
returns-clause-numbers c = λ g v texts spare m x y lawful p q. numbers_same g texts spare m v lawful x y p q

pub returns-clause-order : goal.returns-clause-order
returns-clause-order c = λ g v texts spare m x y lawful p q. numbers_below g texts spare m v lawful x y p q

pub returns-clause-flags : goal.returns-clause-flags
returns-clause-flags c = λ g v texts spare m t lawful kind. flags_raised g texts spare m v lawful t kind
