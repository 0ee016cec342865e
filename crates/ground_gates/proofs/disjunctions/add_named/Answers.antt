use Rattle.std.proofs.Common.{refl, ap, ◌∙◌, ◌++◌, ◌∷◌, []}
use Rattle.ground_gates.specs.declared.parts.Parts.{Parts}
use Rattle.ground_gates.specs.declared.names.Owner.TheVariants.{Gate}
use Rattle.ground_gates.proofs.Disjoined.{literals_named, named_part}
use Rattle.ground_gates.proofs.disjunctions.add_named.Goals as goal

pub returns-clause-goes : goal.returns-clause-goes
returns-clause-goes c = λ inputs.
    let new : Parts = record { literals = c.push.new.self; inputs = c.args.parts.now.inputs; stack = c.args.parts.now.stack } in
    named_part c.args.source.gates.now inputs c.args.source.below c.args.board.now c.name_gate.new.self c.args.parts.now new c.args.gate c.in_ok-variable.variable
    c.requires.below c.in_ok-variable.ensures (c.in_ok-push.ensures.items ∙ ap (λ l. c.args.parts.now.literals.items ++ l ∷ []) c.on.ensures) refl refl

pub returns-clause-within : goal.returns-clause-within
returns-clause-within c =
    let old = c.args.board.now.names in
    let new = c.name_gate.new.self.names in
    let named = c.in_ok-variable.ensures.named in
    literals_named c.args.source.below old new (Gate c.args.gate) c.in_ok-variable.variable c.args.parts.now.literals.items c.push.new.self.items (named.grows c.args.source.below c.requires.below) named.is
    (c.in_ok-push.ensures.items ∙ ap (λ l. c.args.parts.now.literals.items ++ l ∷ []) c.on.ensures) c.requires.within
