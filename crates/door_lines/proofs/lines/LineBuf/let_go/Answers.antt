use Rattle.std.proofs.Common.{refl}
use Rattle.door_lines.proofs.RestLemmas.{let_go_rest}
use Rattle.door_lines.proofs.lines.LineBuf.let_go.Goals as goal

pub returns-clause-rest : goal.returns-clause-rest
returns-clause-rest c = let is = c.self.view_is in let_go_rest c.args.self.now _ c.requires.front c.requires.full c.requires.in_line refl cc
