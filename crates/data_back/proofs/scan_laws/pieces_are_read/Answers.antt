use Rattle.data_back.proofs.Printed.{pieces-read}
use Rattle.data_back.proofs.scan_laws.pieces_are_read.Goals as goal

pub returns : goal.returns
returns c = pieces-read
