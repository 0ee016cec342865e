use Rattle.std.proofs.Common.{List, ℕ, length}
use Rattle.text_ast.specs.Pieces.{pieces_of}
use Rattle.text_tree.specs.declared.commands.Script.{Script}
use Rattle.text_tree.specs.declared.models.Spec.{Spec}
use Rattle.text_tree.specs.declared.policies.Policy.{Policy}
use Rattle.text_tree.specs.Grammar.{most_levels, policy_form, script_form, spec_form}
use Rattle.text_tree.specs.Stripped.{stripped_policy, stripped_script, stripped_spec}
use Rattle.text_tree.specs.Texts.{IsScriptText, IsSpecText, IsTextOf}
use Rattle.text_print.specs.Commands.{spelled_script}
use Rattle.text_print.specs.Marks.{text_of_marks}
use Rattle.text_print.specs.Models.{spelled_policy, spelled_spec}
use Rattle.text_print.proofs.CalmTexts.{neat_policy, neat_script, neat_spec}
use Rattle.text_print.proofs.CommandForms.{p_script}
use Rattle.text_print.specs.Reprinted.{IsPrinted}
use Rattle.text_print.proofs.Equal.{of_equal, one_script, one_spec}
use Rattle.text_print.proofs.ModelForms.{p_spec}
use Rattle.text_print.proofs.Needed.{one_policy}
use Rattle.text_print.proofs.PolicyForms.{p_policy}
use Rattle.text_print.proofs.TextLaw.{good_text, text_again}
use Rattle.text_print.proofs.Whole.{at_level, calm, knows}
use Rattle.text_print.proofs.spelling_laws.printed_texts_spell.Goals as goal

policy_printed : (text : List ℕ) (x : Policy) → IsTextOf policy_form text x → IsPrinted policy_form stripped_policy x (text_of_marks (spelled_policy x))
policy_printed text x (tokens, lexes, spells) =
    text_again policy_form stripped_policy x (length (pieces_of text tokens)) (spelled_policy x)
    (p_policy (at_level most_levels) (knows most_levels) x (pieces_of text tokens) (good_text text tokens lexes) spells) (neat_policy x)

spec_printed : (text : List ℕ) (x : Spec) → IsSpecText text x → IsPrinted spec_form stripped_spec x (text_of_marks (spelled_spec x))
spec_printed text x (tokens, lexes, spells) =
    let w = p_spec (at_level most_levels) (knows most_levels) (calm most_levels) x (pieces_of text tokens) (good_text text tokens lexes) spells in
    text_again spec_form stripped_spec x w.most (spelled_spec x) w.canon (neat_spec x)

script_printed : (text : List ℕ) (x : Script) → IsScriptText text x → IsPrinted script_form stripped_script x (text_of_marks (spelled_script x))
script_printed text x (tokens, lexes, spells) =
    text_again script_form stripped_script x (length (pieces_of text tokens)) (spelled_script x)
    (p_script (at_level most_levels) (knows most_levels) (calm most_levels) x (pieces_of text tokens) (good_text text tokens lexes) spells) (neat_script x)

pub returns-clause-policies : goal.returns-clause-policies
returns-clause-policies c text x y h same = of_equal policy_form stripped_policy spelled_policy x y same (one_policy y x same) (policy_printed text y h)

pub returns-clause-specifications : goal.returns-clause-specifications
returns-clause-specifications c text x y h same = of_equal spec_form stripped_spec spelled_spec x y same (one_spec y x same) (spec_printed text y h)

pub returns-clause-scripts : goal.returns-clause-scripts
returns-clause-scripts c text x y h same = of_equal script_form stripped_script spelled_script x y same (one_script y x same) (script_printed text y h)
