use Rattle.ground_problem.proofs.AtomsSaid.{reads_said, said_reads, reads_tested, tested_reads}
use Rattle.ground_problem.proofs.laws.readings_agree.Goals as goal

pub returns-clause-reads : goal.returns-clause-reads
returns-clause-reads c = λ g f terms table over. (reads_said g f terms table over, said_reads g f terms table over)

pub returns-clause-tests : goal.returns-clause-tests
returns-clause-tests c = λ g f terms table over. (reads_tested g f terms table over, tested_reads g f terms table over)
