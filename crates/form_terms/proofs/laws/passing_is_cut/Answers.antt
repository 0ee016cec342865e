use Rattle.form_terms.proofs.Completeness.{cut_true, cut_leading}
use Rattle.form_terms.proofs.CutStructure.{cut_structure}
use Rattle.form_terms.proofs.laws.passing_is_cut.Goals as goal

pub returns-clause-satisfies : goal.returns-clause-satisfies
returns-clause-satisfies c = λ g f s c terms over normal structure closed pass. record {
  structure = cut_structure g f s c terms structure pass.choice;
  true_there = cut_true g f s c terms structure closed pass.choice over normal pass.holds;
}

pub returns-clause-leading : goal.returns-clause-leading
returns-clause-leading c = λ g f s c terms over normal structure closed pass.
    let leading = cut_leading g f s c terms structure closed pass.choice over normal pass.holds in
    record {
      structure = cut_structure g f s c terms structure pass.choice;
      elements = leading.0;
      true_there = leading.1;
    }
