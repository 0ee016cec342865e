use Rattle.std.proofs.Common.{◌∙◌}
use Rattle.ground_instances.proofs.MemoLaws.{found_in}
use Rattle.ground_instances.proofs.memo.Memo.find.Goals as goal

pub returns : goal.returns
returns c = found_in c.args.instance c.args.self.now.made.entries c.copied.result (c.copied.ensures ∙ c.get.ensures.value)
