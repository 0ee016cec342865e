use Rattle.std.proofs.Common.{Ok}
use Rattle.door_lines.proofs.RestLemmas.{untouched}
use Rattle.door_lines.proofs.TurnLemmas.{given_line, placed_of}
use Rattle.door_lines.proofs.lines.LineBuf.find_line.Goals as goal

pub returns-in-Some-clause-gives : goal.returns-in-Some-clause-gives
returns-in-Some-clause-gives g c =
    given_line ⊥ _ _ c.args.self.now c.args.self.now c.first_line.new.self c.in-Some.line (untouched _ c.args.self.now) c.first_line.ensures.same (λ never. absurd never) c.in-Some.ensures.some

pub returns-in-Some-clause-placed : goal.returns-in-Some-clause-placed
returns-in-Some-clause-placed g c =
    placed_of (g.S.Source.told c.args.src.now) (g.S.Source.told c.args.src.now) c.args.self.now c.first_line.new.self (Ok c.in-Some.line)
    (given_line ⊥ _ _ c.args.self.now c.args.self.now c.first_line.new.self c.in-Some.line (untouched _ c.args.self.now) c.first_line.ensures.same (λ never. absurd never) c.in-Some.ensures.some)

pub returns-in-None-clause-placed : goal.returns-in-None-clause-placed
returns-in-None-clause-placed g c = placed_of _ _ _ c.read_on.new.self c.read_on.result c.read_on.ensures.gives
