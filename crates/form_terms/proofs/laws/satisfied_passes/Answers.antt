use Rattle.form_terms.proofs.Witnesses.{passes_where_true}
use Rattle.form_terms.specs.Universe.{IsHerbrandTerm, IsShallowTerm}
use Rattle.std.proofs.Common.{Contains}
use Rattle.form_terms.proofs.laws.satisfied_passes.Goals as goal

pub returns-clause-listed : goal.returns-clause-listed
returns-clause-listed c = λ g f s terms h. passes_where_true g f (Contains terms) s h.true_there

pub returns-clause-herbrand : goal.returns-clause-herbrand
returns-clause-herbrand c = λ g f s h. passes_where_true g f (IsHerbrandTerm g f) s h.true_there

pub returns-clause-shallow : goal.returns-clause-shallow
returns-clause-shallow c = λ g f s h. passes_where_true g f (IsShallowTerm g f) s h.true_there
