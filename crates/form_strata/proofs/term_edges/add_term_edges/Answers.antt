use Rattle.std.proofs.Common.{◌++◌, ◌∙◌, ap, sym, append-nil}
use Rattle.form_formula.specs.Nodes.{term_of}
use Rattle.form_strata.proofs.TermEdgeLemmas.{no_edges}
use Rattle.form_strata.specs.Visits.{free_ones}
use Rattle.form_strata.proofs.term_edges.add_term_edges.Goals as goal

pub returns-else-is_dependent : goal.returns-else-is_dependent
returns-else-is_dependent c =
    sym (ap (λ xs. c.args.edges.now.items ++ xs)
    (no_edges (free_ones c.args.free) c.args.signature.now (term_of c.args.arena.now c.args.id) (sym c.is_dependent.ensures ∙ c.if-is_dependent.false))
    ∙ append-nil c.args.edges.now.items)
