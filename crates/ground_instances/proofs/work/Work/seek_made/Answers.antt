use Rattle.std.proofs.Common.{refl}
use Rattle.ground_instances.proofs.BoardLaws.{grows_terms}
use Rattle.ground_instances.proofs.InstanceLaws.{found_gate, missing_gate}
use Rattle.ground_instances.proofs.ShapeLaws.{formula_shape}
use Rattle.ground_instances.proofs.work.Work.seek_made.Goals as goal

pub returns-in-Some : goal.returns-in-Some
returns-in-Some c =
    let s = c.args.source in
    let w = c.args.self.now in
    let n = record w { board = record w.board { terms = c.instance_of.new.terms } } in
    let h = c.in_ok-instance.ensures in
    let shape = formula_shape s.arena.now c.requires.ready.placed s.shapes.now c.requires.ready.shaped c.args.node c.requires.part c.requires.within in
    found_gate s.signature.now s.arena.now s.shapes.now s.listed.now w n _ c.args.node c.args.above.number c.args.above.variables.now c.args.above.arguments.now c.in_ok-instance.instance c.in-Some.gate
    (grows_terms w.board n.board h.kept refl refl) refl refl c.requires.ready shape h c.in-Some.ensures

pub returns-in_ok-push-in-None : goal.returns-in_ok-push-in-None
returns-in_ok-push-in-None c =
    let s = c.args.source in
    let w = c.args.self.now in
    let m = record w { board = record w.board { terms = c.instance_of.new.terms } } in
    let h = c.in_ok-instance.ensures in
    missing_gate s.signature.now s.arena.now s.shapes.now s.listed.now w m _ _ c.args.node c.args.above.number c.args.above.variables.now c.args.above.arguments.now c.in_ok-instance.instance _
    (grows_terms w.board m.board h.kept refl refl) refl refl refl refl c.in_ok-push-in-None.ensures.items c.requires.ready c.requires.part c.requires.within h
