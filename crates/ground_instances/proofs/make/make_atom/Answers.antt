use Rattle.std.proofs.Common.{Option, refl, subst}
use Rattle.form_formula.specs.Nodes.{formula_of}
use Rattle.ground_terms.specs.Standing.{terms_at}
use Rattle.ground_instances.specs.declared.input.Input.{Input}
use Rattle.ground_instances.specs.Inputs.{HasInput}
use Rattle.ground_instances.proofs.BoardLaws.{grows_both, grows_terms}
use Rattle.ground_instances.proofs.MakeLaws.{atom_made, other_made}
use Rattle.ground_instances.proofs.make.make_atom.Goals as goal

pub input-requires : goal.input-requires
input-requires c =
    let s = c.args.source in
    let w = c.args.work.now in
    let terms = c.input_of.new.terms in
    let H : Option Input → Type 0 = λ o. HasInput s.arena.now w.board.terms terms (terms_at w.board.terms c.args.above.variables.now) (formula_of s.arena.now c.args.node) o in
    (subst H c.in-Some.is c.in_ok-found.ensures).fits

pub returns-in_ok-gate-in-Some : goal.returns-in_ok-gate-in-Some
returns-in_ok-gate-in-Some c =
    let s = c.args.source in
    let w = c.args.work.now in
    let terms = c.input_of.new.terms in
    let m = record w { board = record w.board { terms = terms } } in
    let H : Option Input → Type 0 = λ o. HasInput s.arena.now w.board.terms terms (terms_at w.board.terms c.args.above.variables.now) (formula_of s.arena.now c.args.node) o in
    let has = subst H c.in-Some.is c.in_ok-found.ensures in
    let gate = c.in_ok-gate-in-Some.ensures in
    atom_made s.signature.now s.arena.now s.shapes.now s.listed.now w m _ c.args.plus c.args.above.variables.now (formula_of s.arena.now c.args.node) c.in-Some.input c.in_ok-gate-in-Some.gate c.requires.ready has
    (grows_both w.board m.board _ (grows_terms w.board m.board has.kept refl refl) gate.grows) refl refl (gate.means s.arena.now)

pub returns-in_ok-gate-in-None : goal.returns-in_ok-gate-in-None
returns-in_ok-gate-in-None c =
    let s = c.args.source in
    let w = c.args.work.now in
    let terms = c.input_of.new.terms in
    let m = record w { board = record w.board { terms = terms } } in
    let H : Option Input → Type 0 = λ o. HasInput s.arena.now w.board.terms terms (terms_at w.board.terms c.args.above.variables.now) (formula_of s.arena.now c.args.node) o in
    let has = subst H c.in-None.is c.in_ok-found.ensures in
    let gate = c.in_ok-gate-in-None.ensures in
    other_made s.signature.now s.arena.now s.shapes.now s.listed.now w m _ c.args.plus c.args.above.variables.now (formula_of s.arena.now c.args.node) c.in_ok-gate-in-None.gate c.requires.ready has
    (grows_both w.board m.board _ (grows_terms w.board m.board has.kept refl refl) gate.grows) refl refl (gate.means s.arena.now)
