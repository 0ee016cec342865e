use Rattle.std.proofs.Common.{map}
use Rattle.decide_search.proofs.Glue.{all_listed, base_listed}
use Rattle.decide_search.proofs.Solved.{ok_too}
use Rattle.decide_search.proofs.listing.first_clauses.Goals as goal

pub returns-then-branch : goal.returns-then-branch
returns-then-branch c =
    ok_too c.all_clauses.result _ _
    (λ clauses h. all_listed c.args.signature.now c.args.arena.now c.args.spoken.now.made.terms c.args.spoken.now.words (map (λ c. c.items) clauses.items) h)
    c.all_clauses.ensures

pub returns : goal.returns
returns c =
    ok_too c.base_clauses.result _ _
    (λ clauses h. base_listed c.args.signature.now c.args.arena.now c.args.spoken.now.made.terms c.args.spoken.now.words (map (λ c. c.items) clauses.items) h)
    c.base_clauses.ensures
