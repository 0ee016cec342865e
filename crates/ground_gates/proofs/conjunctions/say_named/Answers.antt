use Rattle.std.proofs.Common.{ap, ◌∙◌, ◌++◌, ◌∷◌, []}
use Rattle.ground_gates.specs.Literals.{is_none}
use Rattle.ground_gates.specs.Said.{clauses_in}
use Rattle.ground_gates.proofs.Conjoined.{says_named}
use Rattle.ground_gates.proofs.conjunctions.say_named.Goals as goal

pub returns : goal.returns
returns c = λ inputs.
    says_named c.args.source.gates.now inputs c.args.source.below c.args.board.now c.name_gate.new.self c.push_literal.new.board c.args.whole c.args.gate c.in_ok-variable.variable
    c.requires.below c.requires.whole c.in_ok-variable.ensures c.in_ok-push_literal.ensures.names
    (c.in_ok-push_literal.ensures.clauses ∙ ap (λ l. clauses_in c.name_gate.new.self ++ (is_none c.args.whole ++ l ∷ []) ∷ []) c.on.ensures)
