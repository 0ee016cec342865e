use Rattle.ground_gates.specs.declared.gate.Gate.TheVariants.{Either}
use Rattle.std.proofs.Common.{refl}
use Rattle.ground_instances.proofs.BoardLaws.{gate_grows, means_either}
use Rattle.ground_instances.proofs.board.Board.either.Goals as goal

pub returns-clause-grows : goal.returns-clause-grows
returns-clause-grows c = gate_grows _ _ (Either c.args.a c.args.b) _ refl refl c.in_ok-gate.ensures.made tt

pub returns-clause-means : goal.returns-clause-means
returns-clause-means c = λ nodes p q m n.
    means_either nodes c.args.self.now _ _ p q c.args.a c.args.b (gate_grows _ _ (Either c.args.a c.args.b) _ refl refl c.in_ok-gate.ensures.made tt) c.in_ok-gate.ensures.made m n
