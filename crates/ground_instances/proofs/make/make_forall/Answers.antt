use Rattle.std.proofs.Common.{◌∙◌, List, ℕ, ap}
use Rattle.std.specs.List.{list_all}
use Rattle.form_formula.specs.Nodes.{formula_of}
use Rattle.form_formula.specs.Trees.{forall}
use Rattle.form_terms.specs.GroundTerms.{GroundTerm}
use Rattle.ground_terms.specs.Standing.{terms_at}
use Rattle.ground_instances.specs.Instances.{each_test, one_test, part_test}
use Rattle.ground_instances.specs.Readings.{of_sort}
use Rattle.ground_instances.proofs.BoardLaws.{grows_none}
use Rattle.ground_instances.proofs.InstanceLaws.{from_later}
use Rattle.ground_instances.proofs.make.make_forall.Goals as goal

pub returns : goal.returns
returns c =
    let s = c.args.source in
    let g = s.signature.now in
    let nodes = s.arena.now in
    let w = c.args.work.now in
    let T = w.board.terms in
    let listed : List ℕ = s.listed.now in
    let V : List ℕ = c.args.above.variables.now in
    let A : List ℕ = c.args.above.arguments.now in
    let f = formula_of nodes c.args.a in
    let n : ℕ = c.in_ok-number.number in
    from_later g nodes s.shapes.now listed w w _ (each_test g T listed n V A f c.as_slice.result.now) (part_test g T listed c.args.above.number V A (forall c.args.sort f)) c.in_ok-gate.gate (grows_none w.board)
    (λ i h.
    ap (λ (ids : List ℕ). each_test g T listed n V A f ids i h) c.as_slice.ensures.value
    ∙ (ap (λ (ts : List GroundTerm). list_all (λ t. one_test g T listed n V A f t i h) ts) c.in_ok-choices.ensures.are
    ∙ ap (λ (k : ℕ). list_all (λ t. one_test g T listed k V A f t i h) (of_sort g (terms_at T listed) c.args.sort)) c.in_ok-number.ensures))
    c.in_ok-gate.ensures
