use Rattle.form_terms.proofs.Completeness.{cut_leading}
use Rattle.form_terms.proofs.CutStructure.{cut_structure}
use Rattle.form_terms.proofs.Whole.{whole_satisfies}
use Rattle.form_tables.specs.Made.{made, made_choice}
use Rattle.form_tables.proofs.Closing.{made_passes}
use Rattle.form_tables.proofs.MadeStructure.{made_structure}
use Rattle.form_tables.proofs.Throughout.{throughout}
use Rattle.form_tables.proofs.laws.table_has_structure.Goals as goal

pub returns-clause-structure : goal.returns-clause-structure
returns-clause-structure c = λ g f terms v table over words fits. made_structure g f terms v table over words fits

pub returns-clause-passes : goal.returns-clause-passes
returns-clause-passes c = λ g f terms v table over normal words fits r. made_passes g f terms v over normal words table fits r

pub returns-clause-satisfies : goal.returns-clause-satisfies
returns-clause-satisfies c = λ g f terms v table over normal words fits r closed within.
    let s = made g v table in
    let choice = made_choice g v table in
    let structure = made_structure g f terms v table over words fits in
    let pass = made_passes g f terms v over normal words table fits r in
    let leading = cut_leading g f s choice terms structure closed pass.choice over normal pass.holds in
    whole_satisfies g f s choice terms structure pass.choice (throughout g f terms v table over words fits within)
    (record {
      structure = cut_structure g f s choice terms structure pass.choice;
      elements = leading.0;
      true_there = leading.1;
    })
