use Rattle.std.proofs.Common.{◌∙◌, List, ℕ, ap}
use Rattle.form_formula.specs.Nodes.{formula_of}
use Rattle.form_terms.specs.GroundTerms.{GroundTerm, GroundTerms, list_of}
use Rattle.ground_terms.specs.Nodes.{list_of as list_at}
use Rattle.ground_terms.specs.Standing.{terms_at}
use Rattle.ground_instances.specs.Instances.{from_list, instance_reading, part_test}
use Rattle.ground_instances.specs.Readings.{reading}
use Rattle.ground_instances.proofs.BoardLaws.{grows_none}
use Rattle.ground_instances.proofs.InstanceLaws.{from_later, from_list-list_of}
use Rattle.ground_instances.proofs.dispatch.make.Goals as goal

pub returns : goal.returns
returns c =
    let s = c.args.source in
    let g = s.signature.now in
    let nodes = s.arena.now in
    let w = c.args.work.now in
    let T = w.board.terms in
    let ts : List GroundTerm = terms_at T s.listed.now in
    let j = c.args.instance in
    let f = formula_of nodes j.node in
    from_later g nodes s.shapes.now s.listed.now w w _ (part_test g T s.listed.now j.number c.as_slice.result.now c.as_slice-2.result.now f) (instance_reading g ts nodes T j) c.in_ok-gate.gate (grows_none w.board)
    (λ i h.
    ap (λ (ids : List ℕ). reading g ts i h j.number (terms_at T ids) (from_list (terms_at T c.as_slice-2.result.now)) f) c.as_slice.ensures.value
    ∙ (ap (λ (us : List GroundTerm). reading g ts i h j.number us (from_list (terms_at T c.as_slice-2.result.now)) f) c.in_ok-variables.ensures.are
    ∙ ap (λ (l : GroundTerms). reading g ts i h j.number (list_of (list_at T j.variables)) l f)
    (ap (λ (ids : List ℕ). from_list (terms_at T ids)) c.as_slice-2.ensures.value ∙ (ap from_list c.in_ok-arguments.ensures.are ∙ from_list-list_of (list_at T j.arguments)))))
    c.in_ok-gate.ensures
