use Rattle.data_read.proofs.Printable.{full, waived, within}
use Rattle.data_read.proofs.spelling_laws.printed_databases_are_read.Goals as goal

pub returns-clause-waived : goal.returns-clause-waived
returns-clause-waived c = waived

pub returns-clause-asked : goal.returns-clause-asked
returns-clause-asked c = within

pub returns-clause-full : goal.returns-clause-full
returns-clause-full c = full
