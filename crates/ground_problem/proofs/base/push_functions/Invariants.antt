use Rattle.std.proofs.Common.{map, take}
use Rattle.std.specs.List.{flat_map}
use Rattle.form_tables.specs.Clauses.{function_clauses}
use Rattle.ground_problem.specs.Facts.{AreAdded}
use Rattle.ground_problem.proofs.base.push_functions.Given as goal

abbrev pub invariant-loop-sig : goal.invariant-loop-sig
invariant-loop-sig l =
    AreAdded l.source.arena.now l.source.terms.now (map (λ c. c.items) l.initial.clauses.items) (map (λ c. c.items) l.clauses.items)
    (flat_map (function_clauses l.source.signature.now) (take l.sig-index l.sigs))
