-- The terms that the terms of the code stand for.
use Rattle.std.specs.Prelude.{fold}
use Rattle.form_formula.specs.Trees as tree
use Rattle.duty_writer.specs.declared.term.Term.{Term, Bound, Num, Str, App', Chain'}

abbrev pub term_data : Term → tree.Term
term_data (Bound sort depth) = tree.bound sort depth
term_data (Num n) = tree.num n
term_data (Str text) = tree.str text.now
term_data (App' f p t) = tree.app f (term_data t)
term_data (Chain' functions p t) = fold (λ u f. tree.app f u) (term_data t) functions.now
