use Rattle.std.proofs.Common.{List, ℕ, map, ap}
use Rattle.ground_gates.specs.declared.board.Board.{Board}
use Rattle.ground_gates.proofs.EncodedLaws.{all_variables, encoded_first, encoded, placed_first}
use Rattle.ground_gates.proofs.VarsBelow.{placed_later}
use Rattle.ground_gates.proofs.encoding.encode.Goals as goal

pub say_all-requires-clause-placed : goal.say_all-requires-clause-placed
say_all-requires-clause-placed c =
    let start : Board = record { names = c.in_ok-new.field-0; clauses = c.new-2.result } in
    let blank = c.in_ok-new.ensures in
    placed_first c.args.gates.now c.args.inputs.now c.args.base c.args.root start c.requires.there (ap (λ n. n.base) blank) (ap (λ n. n.places) blank) c.len.ensures.len (ap (λ n. n.input_places) blank)
    c.requires.variables

pub say_named_gates-requires-clause-placed : goal.say_named_gates-requires-clause-placed
say_named_gates-requires-clause-placed c =
    let start : Board = record { names = c.in_ok-new.field-0; clauses = c.new-2.result } in
    let blank = c.in_ok-new.ensures in
    placed_later c.args.gates.now (map (λ xs. xs.items) c.args.inputs.now) c.args.root c.args.root start c.say_all.new.board c.in_ok-say_all.ensures.names
    (placed_first c.args.gates.now c.args.inputs.now c.args.base c.args.root start c.requires.there (ap (λ n. n.base) blank) (ap (λ n. n.places) blank) c.len.ensures.len (ap (λ n. n.input_places) blank)
    c.requires.variables)

pub returns : goal.returns
returns c =
    let gates = c.args.gates.now in
    let lists : List (List ℕ) = map (λ xs. xs.items) c.args.inputs.now in
    let start : Board = record { names = c.in_ok-new.field-0; clauses = c.new-2.result } in
    let blank = c.in_ok-new.ensures in
    let first =
    encoded_first gates lists c.args.base c.args.root start c.say_all.new.board (ap (λ n. n.base) blank) (ap (λ n. n.owners) blank) (ap (λ cs. map (λ c. c.items) cs) c.new-2.ensures.items)
    (placed_first gates c.args.inputs.now c.args.base c.args.root start c.requires.there (ap (λ n. n.base) blank) (ap (λ n. n.places) blank) c.len.ensures.len (ap (λ n. n.input_places) blank) c.requires.variables)
    c.in_ok-say_all.ensures in
    let last = c.in_ok-say_named_gates.ensures c.args.base first in
    encoded gates lists c.args.base c.args.root (all_variables c.args.inputs.now c.args.base c.requires.variables) c.say_named_gates.new.board last c.end-end.result c.end-end.ensures.is c.end-end.ensures.few
