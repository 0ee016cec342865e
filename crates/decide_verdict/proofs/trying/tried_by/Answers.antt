use Rattle.form_formula.specs.Nodes.{formula_of}
use Rattle.decide_verdict.proofs.Judged.{made_tried}
use Rattle.decide_verdict.proofs.trying.tried_by.Goals as goal

pub returns : goal.returns
returns c = λ terms closed over normal h.
    made_tried c.args.signature.now (formula_of c.args.arena.now c.args.id) terms closed c.args.tabled.now _ over normal h (c.in_ok-structure.ensures.structure terms h.table over h.words h.found)
    (c.in_ok-structure.ensures.picks terms h.table over h.words h.found)
