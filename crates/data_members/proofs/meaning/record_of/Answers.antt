use Rattle.data_members.proofs.Finds.{record-there, record-missing}
use Rattle.data_members.proofs.meaning.record_of.Goals as goal

pub returns-then-n-m-clause-found : goal.returns-then-n-m-clause-found
returns-then-n-m-clause-found c = record-there c.args.database.now c.args.m c.in-Rec.n c.in-Rec.id c.args.who c.in-Rec.is c.if-n-m.true c.get.result c.get.ensures

pub returns-then-n-m-clause-none : goal.returns-then-n-m-clause-none
returns-then-n-m-clause-none c = record-missing c.args.database.now c.args.m c.in-Rec.n c.in-Rec.id c.args.who c.in-Rec.is c.if-n-m.true c.get.result c.get.ensures
