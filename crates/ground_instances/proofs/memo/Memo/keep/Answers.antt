use Rattle.ground_instances.proofs.MemoLaws.{added_to}
use Rattle.ground_instances.proofs.memo.Memo.keep.Goals as goal

pub returns : goal.returns
returns c = added_to c.args.instance c.args.gate c.args.self.now.made.entries c.insert.new.self.entries c.in_ok-insert.ensures.entries
