use Rattle.std.proofs.Common.{refl}
use Rattle.text_tree.specs.Forms.{part}
use Rattle.text_tree.specs.ExprGrammar.{Expression, Set}
use Rattle.text_tree.specs.Grammar.{policy_form, script_form, spec_form}
use Rattle.text_tree.specs.Stripped.{stripped_expr, stripped_policy, stripped_script, stripped_set, stripped_spec}
use Rattle.text_grammar.proofs.GrammarFits.{script_fine, script_loose, spec_fine, spec_loose}
use Rattle.text_print.proofs.Elsewhere.{as_lexemes}
use Rattle.text_print.proofs.ElsewhereExprs.{parts}
use Rattle.text_print.proofs.ElsewhereTexts.{policy_steady, script_steady, spec_steady}
use Rattle.text_print.proofs.OneElsewhere.{one_elsewhere, policy_fine, policy_loose}
use Rattle.text_print.proofs.spelling_laws.one_tree_elsewhere.Goals as goal

pub returns-clause-expressions : goal.returns-clause-expressions
returns-clause-expressions c n m x y ls ks e = one_elsewhere (part Expression) stripped_expr refl refl n m (parts n).expr x y ls ks (as_lexemes ks ls e)

pub returns-clause-sets : goal.returns-clause-sets
returns-clause-sets c n m x y ls ks e = one_elsewhere (part Set) stripped_set refl refl n m (parts n).set x y ls ks (as_lexemes ks ls e)

pub returns-clause-policies : goal.returns-clause-policies
returns-clause-policies c n m x y ls ks e =
    one_elsewhere policy_form stripped_policy policy_fine policy_loose n m (policy_steady (parts n)) x y ls ks (as_lexemes ks ls e)

pub returns-clause-specifications : goal.returns-clause-specifications
returns-clause-specifications c n m x y ls ks e = one_elsewhere spec_form stripped_spec spec_fine spec_loose n m (spec_steady (parts n)) x y ls ks (as_lexemes ks ls e)

pub returns-clause-scripts : goal.returns-clause-scripts
returns-clause-scripts c n m x y ls ks e =
    one_elsewhere script_form stripped_script script_fine script_loose n m (script_steady (parts n)) x y ls ks (as_lexemes ks ls e)
