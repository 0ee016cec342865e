-- What holds of the texts of specifications and scripts.
use Rattle.text_tree.specs.Grammar.{spec_form, script_form}
use Rattle.text_grammar.proofs.CauseAnswers.{spec_answer, script_answer}
use Rattle.text_parse.proofs.OneText.{OneText, one_text}

pub spec_text : OneText spec_form
spec_text = one_text spec_form spec_answer

pub script_text : OneText script_form
script_text = one_text script_form script_answer
