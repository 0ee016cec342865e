use Rattle.std.proofs.Common.{Option, ℕ, refl, subst}
use Rattle.ground_terms.specs.Standing.{terms_at}
use Rattle.ground_instances.specs.Instances.{IsGate, instance_reading}
use Rattle.ground_instances.proofs.BoardLaws.{grows_none}
use Rattle.ground_instances.proofs.WorkLaws.{kept_gate, last_fits, ready_fewer}
use Rattle.ground_instances.proofs.instantiation.step.Goals as goal

pub returns-then-is_some : goal.returns-then-is_some
returns-then-is_some c =
    let s = c.args.source in
    let g = s.signature.now in
    let nodes = s.arena.now in
    let w = c.args.work.now in
    record { ready = ready_fewer g nodes s.shapes.now s.listed.now w _ _ refl refl c.truncate.ensures.items c.requires.ready; grows = grows_none w.board }

pub returns-in-None : goal.returns-in-None
returns-in-None c = record { ready = c.in_ok-made.ensures.ready; grows = c.in_ok-made.ensures.grows }

pub returns-in_ok-keep-in-Some : goal.returns-in_ok-keep-in-Some
returns-in_ok-keep-in-Some c =
    let s = c.args.source in
    let g = s.signature.now in
    let nodes = s.arena.now in
    let w = c.args.work.now in
    let j = c.last_missing-instance.result in
    let G : Option ℕ → Type 0 = λ o. IsGate g nodes s.shapes.now s.listed.now w c.make.new.work (instance_reading g (terms_at w.board.terms s.listed.now) nodes w.board.terms j) o in
    kept_gate g nodes s.shapes.now s.listed.now w c.make.new.work _ j c.in-Some.gate refl c.in_ok-keep-in-Some.ensures refl c.requires.ready (last_fits g nodes s.shapes.now s.listed.now w c.args.root j _ c.requires.root c.requires.ready c.as_slice.ensures.value c.last_missing-instance.ensures) (subst G c.in-Some.is c.in_ok-made.ensures)

pub make-requires-clause-instance : goal.make-requires-clause-instance
make-requires-clause-instance c =
    let s = c.args.source in
    last_fits s.signature.now s.arena.now s.shapes.now s.listed.now c.args.work.now c.args.root _ _ c.requires.root c.requires.ready c.as_slice.ensures.value c.last_missing-instance.ensures
