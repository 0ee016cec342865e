use Rattle.std.proofs.Common.{◌++◌, ◌∙◌, ap, sym, refl, map}
use Rattle.ground_gates.specs.Literals.{is_false}
use Rattle.ground_gates.proofs.PartLaws.{no_input, items_at}
use Rattle.ground_gates.proofs.parts.Parts.add_input.Goals as goal

pub returns : goal.returns
returns c =
    let lists = map (λ xs. xs.items) c.args.inputs.now in
    let facts = c.as_slice.ensures.value ∙ (ap (λ xs. xs.items) c.index-inputs-literal.is ∙ sym (items_at c.args.inputs.now c.args.literal.var c.index-inputs-literal.result c.requires)) in
    no_input lists c.args.self.now (record { literals = c.push_negations.new.literals; inputs = c.args.self.now.inputs; stack = c.args.self.now.stack }) c.args.literal c.if-literal.false (c.in_ok-push_negations.ensures ∙ ap (λ xs. c.args.self.now.literals.items ++ map is_false xs) facts) refl refl
