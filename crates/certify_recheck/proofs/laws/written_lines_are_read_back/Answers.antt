use Rattle.certify_recheck.proofs.Writing.{written_lines}
use Rattle.certify_recheck.proofs.laws.written_lines_are_read_back.Goals as goal

pub returns : goal.returns
returns c = written_lines
