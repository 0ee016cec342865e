use Rattle.std.proofs.Common.{◌∙◌, ◌++◌, [], ◌∷◌, ap, refl, arith}
use Rattle.solve_order.specs.Conflict.{with_edge}
use Rattle.solve_order.proofs.ConflictLemmas.{IsPath-start, IsPath-step, path_length, IsConflict-path}
use Rattle.solve_order.proofs.search.Search.explain.Goals as goal

pub loop-v-init : goal.loop-v-init
loop-v-init c =
    let s = c.args.self.now in
    let h = c.requires.closed in
    (IsPath-start s.edges.now.literals s.values.now s.goal c.args.frontier.now h.traced c.args.closing c.note.new.positions.items (c.note.ensures.items ∙ ap (λ ps. with_edge ps c.args.closing.via) c.clear.ensures.items) h.within h.settled h.closes, refl)

pub note-requires-in-loop-v : goal.note-requires-in-loop-v
note-requires-in-loop-v c =
    let s = c.args.self.now in
    let inv = c.loop-v.invariant in
    let x = path_length s.edges.now.literals s.values.now s.goal c.args.frontier.now c.requires.closed.traced c.loop-v.v c.loop-v.positions.items inv.0 in
    omega arith

pub loop-v-preserved : goal.loop-v-preserved
loop-v-preserved c =
    let s = c.args.self.now in
    let inv = c.loop-v.invariant in
    (IsPath-step s.edges.now.literals s.values.now s.goal c.args.frontier.now c.requires.closed.traced c.loop-v.v c.loop-v.positions.items inv.0 c.at-reach.result c.note-in-loop-v.new.positions.items c.at-reach.ensures c.loop-v-test.true c.note-in-loop-v.ensures.items, c.note-in-loop-v.ensures.capacity ∙ inv.1)

pub push-requires : goal.push-requires
push-requires c =
    let s = c.args.self.now in
    let inv = c.loop-v.invariant in
    let x = path_length s.edges.now.literals s.values.now s.goal c.args.frontier.now c.requires.closed.traced c.loop-v.v c.loop-v.positions.items inv.0 in
    omega arith

pub returns-clause-conflict : goal.returns-clause-conflict
returns-clause-conflict c =
    let s = c.args.self.now in
    let inv = c.loop-v.invariant in
    IsConflict-path s.edges.now.literals s.values.now s.goal c.args.frontier.now c.requires.closed.traced c.loop-v.v c.loop-v.positions.items inv.0 s.edges.now.variables c.push.new.self.items c.requires.potential.as_long c.loop-v-test.false (c.push.ensures.items ∙ ap (λ n. c.loop-v.positions.items ++ n ∷ []) c.len.ensures.length)
