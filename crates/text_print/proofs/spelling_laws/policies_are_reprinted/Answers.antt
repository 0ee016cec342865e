use Rattle.text_tree.specs.ExprGrammar.{Expression, Set}
use Rattle.text_tree.specs.Forms.{part}
use Rattle.text_tree.specs.Grammar.{most_levels, policy_form}
use Rattle.text_tree.specs.Stripped.{stripped_expr, stripped_policy, stripped_set}
use Rattle.text_print.specs.Exprs.{spelled_expr, spelled_set}
use Rattle.text_print.specs.Models.{spelled_policy}
use Rattle.std.proofs.Common.{length}
use Rattle.text_print.proofs.Again.{good_of, reprinted}
use Rattle.text_print.proofs.PolicyForms.{policy_c}
use Rattle.text_print.proofs.Whole.{at_level, knows}
use Rattle.text_print.proofs.spelling_laws.policies_are_reprinted.Goals as goal

pub returns-clause-expressions : goal.returns-clause-expressions
returns-clause-expressions c x ls ks good h of =
    reprinted (part Expression) stripped_expr x (length ls) (spelled_expr x).marks ks ((knows most_levels).expr x ls (good_of ls good) h).1 of

pub returns-clause-sets : goal.returns-clause-sets
returns-clause-sets c x ls ks good h of =
    reprinted (part Set) stripped_set x (length ls) (spelled_set x).marks ks ((knows most_levels).set x ls (good_of ls good) h).1 of

pub returns-clause-policies : goal.returns-clause-policies
returns-clause-policies c x ls ks good h of =
    reprinted policy_form stripped_policy x (length ls) (spelled_policy x) ks (policy_c (at_level most_levels) (knows most_levels) x ls (good_of ls good) h) of
