use Rattle.ground_gates.specs.declared.gate.Gate.TheVariants.{Input}
use Rattle.std.proofs.Common.{refl, sym, subst}
use Rattle.ground_instances.specs.declared.input.Input.{Input as AnInput}
use Rattle.ground_instances.specs.Inputs.{IsInput}
use Rattle.ground_instances.proofs.BoardLaws.{gate_added, input_within, means_input}
use Rattle.ground_instances.proofs.board.Board.input.Goals as goal

pub returns-clause-grows : goal.returns-clause-grows
returns-clause-grows c =
    let made = c.in_ok-var.ensures.made in
    let P : AnInput → Type 0 = λ i. IsInput c.args.self.now.terms i in
    gate_added _ _ made.more (Input (record { var = c.in_ok-var.var; plus = c.args.plus })) _ refl made.whole (λ j more. subst P (sym (made.only j more)) c.requires) c.in_ok-gate.ensures.made
    (input_within _ _ _ _ made)

pub returns-clause-means : goal.returns-clause-means
returns-clause-means c = λ nodes. means_input nodes c.args.self.now _ c.args.input c.in_ok-var.var c.args.plus _ refl c.in_ok-var.ensures.made c.in_ok-gate.ensures.made c.requires
