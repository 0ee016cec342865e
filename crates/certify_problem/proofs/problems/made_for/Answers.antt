use Rattle.std.proofs.Common.{map, subst, sym, List, ℕ}
use Rattle.certify_atoms.specs.Texts.{StandOnce}
use Rattle.certify_problem.proofs.Lists.{ok_too}
use Rattle.certify_problem.proofs.Made.{made_problem}
use Rattle.certify_problem.proofs.problems.made_for.Goals as goal

pub returns : goal.returns
returns c =
    ok_too c.made_with.result _ _
    (λ made h f terms closed is.
    made_problem c.args.signature.now c.args.arena.now f terms closed c.args.spoken.now c.as_slice-own.result.now (map (λ c. c.items) c.in_ok-tables.tables.items) made is c.see_texts.ensures
    (subst (λ (ts : List (List ℕ)). StandOnce ts) (sym c.as_slice-own.ensures.value) c.in_ok-texts.ensures) c.in_ok-tables.ensures h)
    c.made_with.ensures
