use Rattle.std.proofs.Common.{refl, sym, true, false}
use Rattle.ground_gates.specs.declared.gate.Gate.TheVariants.{Yes, No}
use Rattle.ground_instances.proofs.BoardLaws.{gate_grows, means_yes, means_no, means_same}
use Rattle.ground_instances.proofs.board.Board.constant.Goals as goal

pub returns-then-value-clause-grows : goal.returns-then-value-clause-grows
returns-then-value-clause-grows c = gate_grows _ _ Yes _ refl refl c.in_ok-gate.ensures.made tt

pub returns-then-value-clause-means : goal.returns-then-value-clause-means
returns-then-value-clause-means c = λ nodes.
    means_same nodes _ (λ is_there holds. true) (λ is_there holds. c.args.value) _ (λ i h. sym c.if-value.true) (means_yes nodes c.args.self.now _ _ c.in_ok-gate.ensures.made)

pub returns-clause-grows : goal.returns-clause-grows
returns-clause-grows c = gate_grows _ _ No _ refl refl c.in_ok-gate-2.ensures.made tt

pub returns-clause-means : goal.returns-clause-means
returns-clause-means c = λ nodes.
    means_same nodes _ (λ is_there holds. false) (λ is_there holds. c.args.value) _ (λ i h. sym c.if-value.false) (means_no nodes c.args.self.now _ _ c.in_ok-gate-2.ensures.made)
