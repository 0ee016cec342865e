use Rattle.form_terms.proofs.Completeness.{cut_leading}
use Rattle.form_terms.proofs.CutStructure.{cut_structure}
use Rattle.form_terms.proofs.Whole.{whole_satisfies}
use Rattle.form_terms.proofs.laws.passing_is_whole.Goals as goal

pub returns : goal.returns
returns c = λ g f s choice terms over normal structure closed named pass.
    let leading = cut_leading g f s choice terms structure closed pass.choice over normal pass.holds in
    whole_satisfies g f s choice terms structure pass.choice named
    (record {
      structure = cut_structure g f s choice terms structure pass.choice;
      elements = leading.0;
      true_there = leading.1;
    })
