use Rattle.std.proofs.Common.{IsTrue, subst, sym, ◌∙◌}
use Rattle.std.proofs.lemmas.Bool.{and_parts}
use Rattle.std.proofs.lemmas.List.Sums.{AllPass-from_list_all}
use Rattle.certify_clauses.specs.Listed.{is_taken}
use Rattle.certify_clauses.proofs.listed.ListedClausesClauses.said_by.Goals as goal

pub returns-else-literal-clause-taken : goal.returns-else-literal-clause-taken
returns-else-literal-clause-taken c =
    let s = c.args.self.now in
    let at = c.in_ok-atom.ensures.lookup in
    let atom = c.in_ok-atom.field-0.now in
    let within = rw (c.deref.ensures.value) at at.3.0 in
    let is = rw (c.deref.ensures.value) at (at.3.1 atom) in
    let taken = AllPass-from_list_all (is_taken s.terms s.numbers) s.atoms.items s.taken c.args.literal.var atom within in
    let both = subst (λ a. IsTrue (is_taken s.terms s.numbers a)) (sym is ∙ c.in_ok-so.was) taken in
    (and_parts _ _ both).1
