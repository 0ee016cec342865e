use Rattle.std.proofs.Common.{length}
use Rattle.text_tree.specs.Grammar.{most_levels, script_form, spec_form}
use Rattle.text_tree.specs.Stripped.{stripped_script, stripped_spec}
use Rattle.text_print.specs.Commands.{spelled_script}
use Rattle.text_print.specs.Models.{spelled_spec}
use Rattle.text_print.proofs.Again.{good_of, reprinted_whole}
use Rattle.text_print.proofs.CommandForms.{p_script}
use Rattle.text_print.proofs.ModelForms.{p_spec}
use Rattle.text_print.proofs.Whole.{at_level, calm, knows}
use Rattle.text_print.proofs.spelling_laws.texts_are_reprinted.Goals as goal

pub returns-clause-specifications : goal.returns-clause-specifications
returns-clause-specifications c x ls ks good h of =
    let w = p_spec (at_level most_levels) (knows most_levels) (calm most_levels) x ls (good_of ls good) h in
    reprinted_whole spec_form stripped_spec x w.most (spelled_spec x) ks w.canon of

pub returns-clause-scripts : goal.returns-clause-scripts
returns-clause-scripts c x ls ks good h of =
    reprinted_whole script_form stripped_script x (length ls) (spelled_script x) ks (p_script (at_level most_levels) (knows most_levels) (calm most_levels) x ls (good_of ls good) h) of
