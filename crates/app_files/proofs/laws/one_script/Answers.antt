use Rattle.std.specs.Prelude.{Ok, Err}
use Rattle.app_files.specs.declared.stop.Stop.TheVariants.{Refused}
use Rattle.app_files.proofs.OneStatus.{asks-one}
use Rattle.app_files.proofs.laws.one_script.Goals as goal

pub returns-clause-script : goal.returns-clause-script
returns-clause-script c files names calls others t u p q =
    let same = asks-one files names calls others (Ok t) (Ok u) tt tt p q in
    cc

pub returns-clause-refusal : goal.returns-clause-refusal
returns-clause-refusal c files names calls others one other p q =
    let same = asks-one files names calls others (Err (Refused one)) (Err (Refused other)) tt tt p q in
    cc

pub returns-clause-apart : goal.returns-clause-apart
returns-clause-apart c files names calls others t refusal p q =
    let same = asks-one files names calls others (Ok t) (Err (Refused refusal)) tt tt p q in
    cc
