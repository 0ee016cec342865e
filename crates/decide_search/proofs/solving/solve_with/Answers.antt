use Rattle.std.proofs.Common.{◌+◌, All, length, map, arith, subst, sym}
use Rattle.std.proofs.Common.{ℕ, List}
use Rattle.solve_solver.specs.Clauses.{IsWithin}
use Rattle.solve_solver.specs.declared.literal.PLit.{PLit}
use Rattle.decide_search.specs.Sides.{AreTakenBy}
use Rattle.decide_search.proofs.Solved.{plainly, solved_by, ok_too, some_too, each_below}
use Rattle.decide_search.proofs.Taken.{all_within, atoms_long, within_more}
use Rattle.decide_search.proofs.solving.solve_with.Goals as goal

pub search_checked-requires-clause-one_each : goal.search_checked-requires-clause-one_each
search_checked-requires-clause-one_each c =
    omega (arith, atoms_long c.args.reader.signature.now c.args.reader.arena.now c.args.reader.terms.now c.args.reader.words.now c.args.reader.texts.now c.args.ground.vars c.args.ground.facts.now c.args.halves.now c.in_ok-atoms.atoms c.in_ok-atoms.ensures.are, c.in_ok-total.ensures.is)

pub search_checked-requires-clause-taken : goal.search_checked-requires-clause-taken
search_checked-requires-clause-taken c =
    let P : ℕ → Type 0 = λ n. AreTakenBy n (length c.args.reader.texts.now) c.in_ok-atoms.atoms in
    let Q : ℕ → Type 0 = λ n. AreTakenBy c.in_ok-terms.terms n c.in_ok-atoms.atoms in
    subst Q (sym c.in_ok-texts.ensures.is) (subst P (sym c.in_ok-terms.ensures.is) c.in_ok-atoms.ensures.taken)

pub search_checked-requires-clause-within : goal.search_checked-requires-clause-within
search_checked-requires-clause-within c =
    let n = c.args.ground.vars + length c.args.halves.now in
    let P : ℕ → Type 0 = λ n. All (IsWithin n) c.in_ok-clauses.clauses.list in
    subst P (sym c.in_ok-total.ensures.is)
    (all_within (λ v. v.items) c.args.ground.vars n c.args.clauses.items c.args.gates.items (map (λ c. c.items) c.args.links.now) c.in_ok-clauses.clauses.list (omega arith)
    c.in_ok-clauses.ensures c.requires.own c.requires.others c.requires.links)

pub search_checked-requires-clause-first_in : goal.search_checked-requires-clause-first_in
search_checked-requires-clause-first_in c =
    let P : List PLit → Type 0 = λ ls. IsWithin c.in_ok-total.total ls in
    subst P (sym c.as_slice.ensures.value)
    (within_more (length c.args.ground.facts.now) c.in_ok-total.total c.in_ok-values.values.items (omega (arith, c.requires.facts, c.in_ok-total.ensures.is)) c.in_ok-values.ensures)

pub returns-clause-none : goal.returns-clause-none
returns-clause-none c =
    ok_too c.search_checked.result _ _
    (λ found h none. (
      c.in_ok-atoms.atoms,
      plainly c.args.reader.signature.now c.args.reader.arena.now c.args.reader.terms.now c.args.reader.words.now c.args.reader.texts.now c.args.ground.vars
          c.in_ok-terms.terms c.in_ok-texts.texts c.in_ok-total.total c.args.ground.facts.now c.args.halves.now (map (λ c. c.items) c.args.clauses.items)
          (map (λ c. c.items) c.args.gates.items) (map (λ c. c.items) c.args.links.now) c.in_ok-clauses.clauses.list c.in_ok-atoms.atoms
          c.in_ok-terms.ensures.is c.in_ok-texts.ensures.is c.in_ok-total.ensures.is c.in_ok-clauses.ensures c.in_ok-atoms.ensures.are
          (each_below (λ c. c.items) c.args.ground.vars c.args.clauses.items c.requires.own)
          (each_below (λ c. c.items) c.args.ground.vars c.args.gates.items c.requires.others) (h none),
    ))
    c.search_checked.ensures.none

pub returns-clause-some : goal.returns-clause-some
returns-clause-some c =
    ok_too c.search_checked.result _ _
    (λ found h. some_too found _ _
    (λ m k. solved_by c.in_ok-total.total (map (λ c. c.items) c.args.clauses.items) (map (λ c. c.items) c.args.gates.items) (map (λ c. c.items) c.args.links.now) c.in_ok-clauses.clauses.list m c.in_ok-clauses.ensures k) h)
    c.search_checked.ensures.some
