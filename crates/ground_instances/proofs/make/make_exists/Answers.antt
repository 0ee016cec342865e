use Rattle.std.proofs.Common.{◌≡◌, ◌∙◌, ◌++◌, ◌∷◌, [], List, ℕ, refl, subst, sym, ap}
use Rattle.form_formula.specs.Nodes.{formula_of}
use Rattle.form_terms.specs.GroundTerms.{skolem}
use Rattle.ground_terms.specs.Standing.{AreOnes, terms_at}
use Rattle.ground_terms.proofs.Standing.{extends_both, one_kept, ones_kept}
use Rattle.ground_instances.specs.Instances.{from_list}
use Rattle.ground_instances.proofs.BoardLaws.{grows_terms}
use Rattle.ground_instances.proofs.InstanceLaws.{ready_later}
use Rattle.ground_instances.proofs.MakeLaws.{exists_gate, ones_append, skolem_is}
use Rattle.ground_instances.proofs.make.make_exists.Goals as goal

pub seek-requires-clause-variables : goal.seek-requires-clause-variables
seek-requires-clause-variables c =
    let s = c.args.source in
    let g = s.signature.now in
    let nodes = s.arena.now in
    let w = c.args.work.now in
    let listed = c.list_from.new.terms in
    let added = c.add.new.self in
    let made = c.in_ok-t.ensures.made in
    let ext = extends_both w.board.terms listed added c.in_ok-arguments.ensures.kept made.kept in
    let long : c.as_slice.result.now ≡ c.args.above.variables.now ++ c.in_ok-t.t ∷ [] =
    c.as_slice.ensures.value ∙ (c.in_ok-push.ensures.items ∙ ap (λ (xs : List ℕ). xs ++ c.in_ok-t.t ∷ []) c.in_ok-variables.ensures.items) in
    let A : List ℕ → Type 0 = λ ids. AreOnes added ids in
    subst A (sym long) (ones_append added c.args.above.variables.now (c.in_ok-t.t ∷ []) (ones_kept w.board.terms added c.args.above.variables.now ext c.requires.variables) (made.kind, tt))

pub seek-requires-clause-arguments : goal.seek-requires-clause-arguments
seek-requires-clause-arguments c =
    let s = c.args.source in
    let g = s.signature.now in
    let nodes = s.arena.now in
    let w = c.args.work.now in
    let listed = c.list_from.new.terms in
    let added = c.add.new.self in
    let made = c.in_ok-t.ensures.made in
    let ext = extends_both w.board.terms listed added c.in_ok-arguments.ensures.kept made.kept in
    ones_kept w.board.terms added c.args.above.arguments.now ext c.requires.arguments

pub seek-requires-clause-ready : goal.seek-requires-clause-ready
seek-requires-clause-ready c =
    let s = c.args.source in
    let g = s.signature.now in
    let nodes = s.arena.now in
    let w = c.args.work.now in
    let listed = c.list_from.new.terms in
    let added = c.add.new.self in
    let made = c.in_ok-t.ensures.made in
    let ext = extends_both w.board.terms listed added c.in_ok-arguments.ensures.kept made.kept in
    let m1 = record w { board = record w.board { terms = added } } in
    ready_later g nodes s.shapes.now s.listed.now w m1 (grows_terms w.board m1.board ext refl refl) refl refl c.requires.ready

pub input-requires : goal.input-requires
input-requires c = one_kept c.add.new.self _ c.in_ok-t.t c.in_ok-body.ensures.grows.terms c.in_ok-t.ensures.made.kind

pub join_both-requires-clause-left : goal.join_both-requires-clause-left
join_both-requires-clause-left c = (c.in_ok-there.ensures.means c.args.source.arena.now).within

pub returns : goal.returns
returns c =
    let s = c.args.source in
    let g = s.signature.now in
    let nodes = s.arena.now in
    let w = c.args.work.now in
    let listed = c.list_from.new.terms in
    let added = c.add.new.self in
    let made = c.in_ok-t.ensures.made in
    let ext = extends_both w.board.terms listed added c.in_ok-arguments.ensures.kept made.kept in
    let long : c.as_slice.result.now ≡ c.args.above.variables.now ++ c.in_ok-t.t ∷ [] =
    c.as_slice.ensures.value ∙ (c.in_ok-push.ensures.items ∙ ap (λ (xs : List ℕ). xs ++ c.in_ok-t.t ∷ []) c.in_ok-variables.ensures.items) in
    let m1 = record w { board = record w.board { terms = added } } in
    let m2 = c.seek.new.self in
    let m3 = record m2 { board = c.input.new.self } in
    exists_gate g nodes s.shapes.now s.listed.now w m1 m2 m3 _ c.args.above.variables.now c.as_slice.result.now c.args.above.arguments.now c.args.above.number c.in_ok-number_after.field-0 c.in_ok-t.t c.in_ok-there.there
    (skolem c.args.above.number c.args.sort (from_list (terms_at w.board.terms c.args.above.arguments.now))) (formula_of nodes c.args.a) c.in_ok-body.body c.in_ok-gate.gate c.requires.ready c.requires.variables c.requires.arguments
    c.in_ok-number_after.ensures long (grows_terms w.board m1.board ext refl refl) made.kind
    (skolem_is g nodes s.shapes.now s.listed.now w.board.terms listed added c.args.above.arguments.now c.in_ok-arguments.arguments c.args.above.number c.args.sort c.in_ok-t.t c.in_ok-arguments.ensures made)
    c.in_ok-body.ensures c.in_ok-there.ensures.grows (c.in_ok-there.ensures.means nodes) refl refl c.in_ok-gate.ensures refl refl
