use Rattle.std.proofs.Common.{Bool, ℕ, List, true, refl, ap, map, subst, sym, ◌∙◌, ◌||◌}
use Rattle.ground_gates.specs.declared.board.Board.{Board}
use Rattle.ground_gates.specs.declared.parts.Parts.{Parts}
use Rattle.ground_gates.specs.Meaning.{some_part, truth, under}
use Rattle.ground_gates.specs.Said.{Goes, some_of}
use Rattle.ground_gates.specs.declared.gate.Literal.{Literal}
use Rattle.ground_gates.specs.Names.{end_of}
use Rattle.ground_gates.specs.Clauses.{HasVarsBelow, meets_clause}
use Rattle.ground_gates.proofs.VarsBelow.{vars_none}
use Rattle.ground_gates.proofs.Disjoined.{first_parts, only_literals}
use Rattle.ground_gates.proofs.Going.{goes_as, goes_pushed, goes_trans}
use Rattle.ground_gates.proofs.disjunctions.say_either.Goals as goal

pub returns-then-branch : goal.returns-then-branch
returns-then-branch c =
    let t = c.args.source in
    let lists : List (List ℕ) = map (λ xs. xs.items) t.inputs.now in
    let first = c.in_ok-parts.parts in
    let asked : (ℕ → Bool) → Bool = λ w. under c.args.whole w (truth t.gates.now lists w c.args.a || truth t.gates.now lists w c.args.b) in
    let of_first : (ℕ → Bool) → Bool = λ w. some_part t.gates.now lists w first in
    let is = c.in_ok-parts.ensures in
    let same = first_parts t.gates.now lists c.args.whole c.args.a c.args.b first is.literals is.inputs is.stack in
    let P : Bool → Type 0 = λ always. Goes t.gates.now lists t.below c.args.board.now c.take_apart.new.board of_first (some_of t.gates.now lists always c.take_apart.new.parts) in
    goes_as t.gates.now lists t.below c.args.board.now c.take_apart.new.board of_first asked (λ w. true) (λ w. true) same (λ w. refl)
    (subst P c.if-branch.true c.in_ok-take_apart.ensures.goes)

pub returns-then-branch-2 : goal.returns-then-branch-2
returns-then-branch-2 c =
    let t = c.args.source in
    let lists : List (List ℕ) = map (λ xs. xs.items) t.inputs.now in
    let first = c.in_ok-parts.parts in
    let (b0, b1, b2, b3) : Board × Board × Board × Board = (c.args.board.now, c.take_apart.new.board, c.name_rest.new.board, c.settle_all.new.board) in
    let of : Parts → (ℕ → Bool) → Bool = λ p w. some_part t.gates.now lists w p in
    let asked : (ℕ → Bool) → Bool = λ w. under c.args.whole w (truth t.gates.now lists w c.args.a || truth t.gates.now lists w c.args.b) in
    let is = c.in_ok-parts.ensures in
    let same = first_parts t.gates.now lists c.args.whole c.args.a c.args.b first is.literals is.inputs is.stack in
    let (p1, p2, p3) : Parts × Parts × Parts = (c.take_apart.new.parts, c.name_rest.new.parts, c.settle_all.new.parts) in
    let P : Bool → Type 0 = λ always. Goes t.gates.now lists t.below b0 b1 (of first) (some_of t.gates.now lists always p1) in
    let Q : Bool → Type 0 = λ always. Goes t.gates.now lists t.below b2 b3 (of p2) (some_of t.gates.now lists always p3) in
    let step1 = goes_as t.gates.now lists t.below b0 b1 (of first) asked (of p1) (of p1) same (λ w. refl) (subst P c.if-branch.false c.in_ok-take_apart.ensures.goes) in
    let step2 = goes_trans t.gates.now lists t.below b0 b1 b2 asked (of p1) (of p2) step1 c.in_ok-name_rest.ensures.goes in
    goes_trans t.gates.now lists t.below b0 b2 b3 asked (of p2) (λ w. true) step2 (subst Q c.if-branch-2.true c.in_ok-settle_all.ensures.goes)

pub returns : goal.returns
returns c =
    let t = c.args.source in
    let lists : List (List ℕ) = map (λ xs. xs.items) t.inputs.now in
    let first = c.in_ok-parts.parts in
    let (b0, b1, b2, b3) : Board × Board × Board × Board = (c.args.board.now, c.take_apart.new.board, c.name_rest.new.board, c.settle_all.new.board) in
    let of : Parts → (ℕ → Bool) → Bool = λ p w. some_part t.gates.now lists w p in
    let asked : (ℕ → Bool) → Bool = λ w. under c.args.whole w (truth t.gates.now lists w c.args.a || truth t.gates.now lists w c.args.b) in
    let is = c.in_ok-parts.ensures in
    let same = first_parts t.gates.now lists c.args.whole c.args.a c.args.b first is.literals is.inputs is.stack in
    let (p1, p2, p3) : Parts × Parts × Parts = (c.take_apart.new.parts, c.name_rest.new.parts, c.settle_all.new.parts) in
    let P : Bool → Type 0 = λ always. Goes t.gates.now lists t.below b0 b1 (of first) (some_of t.gates.now lists always p1) in
    let Q : Bool → Type 0 = λ always. Goes t.gates.now lists t.below b2 b3 (of p2) (some_of t.gates.now lists always p3) in
    let step1 = goes_as t.gates.now lists t.below b0 b1 (of first) asked (of p1) (of p1) same (λ w. refl) (subst P c.if-branch.false c.in_ok-take_apart.ensures.goes) in
    let step2 = goes_trans t.gates.now lists t.below b0 b1 b2 asked (of p1) (of p2) step1 c.in_ok-name_rest.ensures.goes in
    let step3 = goes_trans t.gates.now lists t.below b0 b2 b3 asked (of p2) (of p3) step2 (subst Q c.if-branch-2.false c.in_ok-settle_all.ensures.goes) in
    goes_trans t.gates.now lists t.below b0 b3 c.push.new.self asked (of p3) (λ w. true) step3
    (goes_pushed t.gates.now lists t.below b3 c.push.new.self c.as_slice.result.now (of p3) c.in_ok-push.ensures
    (let P : List Literal → Type 0 = λ ls. HasVarsBelow (end_of b3.names) ls in subst P (sym c.as_slice.ensures.value) c.in_ok-settle_all.ensures.within)
    (λ w. only_literals t.gates.now lists p3 (c.in_ok-settle_all.ensures.none c.if-branch-2.false) (ap (λ s. s.items) c.in_ok-settle_all.ensures.stack ∙ c.in_ok-name_rest.ensures.none) w ∙ ap (meets_clause w) (sym c.as_slice.ensures.value)))

pub take_apart-requires-clause-within : goal.take_apart-requires-clause-within
take_apart-requires-clause-within c =
    let end = end_of c.args.board.now.names in
    let P : List Literal → Type 0 = λ ls. HasVarsBelow end ls in
    subst P (sym c.in_ok-parts.ensures.literals) (vars_none end c.args.whole c.requires.whole)
