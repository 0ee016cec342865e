use Rattle.std.specs.Prelude.{Ok, Err}
use Rattle.app_files.specs.declared.stop.Stop.TheVariants.{Refused}
use Rattle.app_files.proofs.OneStatus.{texts-one}
use Rattle.app_files.proofs.laws.one_script_of_texts.Goals as goal

pub returns-clause-script : goal.returns-clause-script
returns-clause-script c names spec script t u p q =
    let same = texts-one names spec script (Ok t) (Ok u) tt tt p q in
    cc

pub returns-clause-refusal : goal.returns-clause-refusal
returns-clause-refusal c names spec script one other p q =
    let same = texts-one names spec script (Err (Refused one)) (Err (Refused other)) tt tt p q in
    cc

pub returns-clause-apart : goal.returns-clause-apart
returns-clause-apart c names spec script t refusal p q =
    let same = texts-one names spec script (Ok t) (Err (Refused refusal)) tt tt p q in
    cc
