use Rattle.std.proofs.Common.{◌≡◌, ◌∙◌, ◌++◌, ◌∷◌, [], List, ℕ, refl, subst, sym, ap}
use Rattle.form_formula.specs.Nodes.{formula_of}
use Rattle.ground_terms.specs.Standing.{AreOnes}
use Rattle.ground_terms.proofs.Standing.{one_kept}
use Rattle.ground_instances.proofs.MakeLaws.{one_gate, ones_append}
use Rattle.ground_instances.proofs.make.make_one.Goals as goal

pub seek-requires-clause-variables : goal.seek-requires-clause-variables
seek-requires-clause-variables c =
    let w = c.args.work.now in
    let long : c.as_slice.result.now ≡ c.args.above.variables.now ++ c.args.t ∷ [] =
    c.as_slice.ensures.value ∙ (c.in_ok-push.ensures.items ∙ ap (λ (xs : List ℕ). xs ++ c.args.t ∷ []) c.in_ok-variables.ensures.items) in
    let A : List ℕ → Type 0 = λ ids. AreOnes w.board.terms ids in
    subst A (sym long) (ones_append w.board.terms c.args.above.variables.now (c.args.t ∷ []) c.requires.variables (c.requires.term, tt))

pub seek-requires-clause-arguments : goal.seek-requires-clause-arguments
seek-requires-clause-arguments c =
    let w = c.args.work.now in
    let others : c.as_slice-2.result.now ≡ c.args.above.arguments.now ++ c.args.t ∷ [] =
    c.as_slice-2.ensures.value ∙ (c.in_ok-push-2.ensures.items ∙ ap (λ (xs : List ℕ). xs ++ c.args.t ∷ []) c.in_ok-arguments.ensures.items) in
    let A : List ℕ → Type 0 = λ ids. AreOnes w.board.terms ids in
    subst A (sym others) (ones_append w.board.terms c.args.above.arguments.now (c.args.t ∷ []) c.requires.arguments (c.requires.term, tt))

pub input-requires : goal.input-requires
input-requires c = one_kept c.args.work.now.board.terms _ c.args.t c.in_ok-body.ensures.grows.terms c.requires.term

pub join_either-requires-clause-left : goal.join_either-requires-clause-left
join_either-requires-clause-left c = (c.in_ok-absent.ensures.means c.args.source.arena.now).within

pub returns : goal.returns
returns c =
    let s = c.args.source in
    let g = s.signature.now in
    let nodes = s.arena.now in
    let w = c.args.work.now in
    let long : c.as_slice.result.now ≡ c.args.above.variables.now ++ c.args.t ∷ [] =
    c.as_slice.ensures.value ∙ (c.in_ok-push.ensures.items ∙ ap (λ (xs : List ℕ). xs ++ c.args.t ∷ []) c.in_ok-variables.ensures.items) in
    let others : c.as_slice-2.result.now ≡ c.args.above.arguments.now ++ c.args.t ∷ [] =
    c.as_slice-2.ensures.value ∙ (c.in_ok-push-2.ensures.items ∙ ap (λ (xs : List ℕ). xs ++ c.args.t ∷ []) c.in_ok-arguments.ensures.items) in
    let m2 = c.seek.new.self in
    let m3 = record m2 { board = c.input.new.self } in
    one_gate g nodes s.shapes.now s.listed.now w m2 m3 _ c.args.above.variables.now c.args.above.arguments.now c.as_slice.result.now c.as_slice-2.result.now c.args.above.number c.args.t c.in_ok-absent.absent
    (formula_of nodes c.args.a) c.in_ok-body.body c.in_ok-gate.gate c.requires.ready c.requires.variables c.requires.arguments c.requires.term long others c.in_ok-body.ensures c.in_ok-absent.ensures.grows
    (c.in_ok-absent.ensures.means nodes) refl refl c.in_ok-gate.ensures refl refl
