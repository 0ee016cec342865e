use Rattle.text_tree.specs.Levels.{SpellsPart}
use Rattle.text_tree.specs.ExprGrammar.{rule}
use Rattle.text_print.proofs.Elsewhere.{as_lexemes}
use Rattle.text_print.proofs.ElsewhereExprs.{Parts, parts}
use Rattle.text_print.proofs.ElsewhereTexts.{policy_steady, script_steady, spec_steady}
use Rattle.text_print.proofs.spelling_laws.spelled_elsewhere.Goals as goal

pub returns-clause-expressions : goal.returns-clause-expressions
returns-clause-expressions c n x ls ks e d = let p : Parts (SpellsPart rule n) = parts n in let r = p.expr.loose.go x ls ks (as_lexemes ks ls e) d in (r.value, r.spells, r.is)

pub returns-clause-sets : goal.returns-clause-sets
returns-clause-sets c n x ls ks e d = let p : Parts (SpellsPart rule n) = parts n in let r = p.set.loose.go x ls ks (as_lexemes ks ls e) d in (r.value, r.spells, r.is)

pub returns-clause-policies : goal.returns-clause-policies
returns-clause-policies c n x ls ks e d = let r = (policy_steady (parts n)).loose.go x ls ks (as_lexemes ks ls e) d in (r.value, r.spells, r.is)

pub returns-clause-specifications : goal.returns-clause-specifications
returns-clause-specifications c n x ls ks e d = let r = (spec_steady (parts n)).loose.go x ls ks (as_lexemes ks ls e) d in (r.value, r.spells, r.is)

pub returns-clause-scripts : goal.returns-clause-scripts
returns-clause-scripts c n x ls ks e d = let r = (script_steady (parts n)).loose.go x ls ks (as_lexemes ks ls e) d in (r.value, r.spells, r.is)
