-- The variables of a formula's clauses are there.
use Rattle.std.proofs.Common.{◌≡◌, ℕ, ◌<◌, List, ◌++◌, Contains, Option, None, Some, IfSome, All, map, slice_get, sym, subst, refl}
use Rattle.std.specs.Option.{option_map}
use Rattle.form_terms.proofs.Kept.{All-from}
use Rattle.form_terms.proofs.Listed.{in_map}
use Rattle.form_tables.specs.Clauses.{base_clauses, congruence_clauses}
use Rattle.ground_gates.specs.declared.gate.Literal.{Literal as GateLiteral}
use Rattle.ground_problem.specs.Facts.{clauses_at, fact_at}
use Rattle.ground_problem.specs.Words.{vocabulary_at}
use Rattle.ground_problem.proofs.Below.{ground_below}
use Rattle.certify_clauses.specs.declared.literal.Literal.{Literal}
use Rattle.certify_atoms.proofs.Items.{item_there}
use Rattle.certify_problem.specs.Problems.{VariablesAreBelow, literal_of}

below_by : (end : ℕ) (o : Option (List GateLiteral)) → ((clause : List GateLiteral) (l : GateLiteral) → o ≡ Some clause → Contains clause l → l.var < end)
    → IfSome (option_map (map literal_of) o) (All (λ (l : Literal). l.var < end))
below_by end None h = tt
below_by end (Some clause) h =
    let P : Literal → Type 0 = λ l. l.var < end in
    All-from P (map literal_of clause) (λ l there. let (k, listed, same) = in_map literal_of clause l there in subst P same (h clause k refl listed))

pub variables_below : VariablesAreBelow
variables_below g f terms c h n =
    let s = h.spoken in
    let v = vocabulary_at s.made.terms s.words in
    let cs = (base_clauses g v ++ congruence_clauses g v) ++ clauses_at h.nodes s.made.terms h.orders in
    let facts = map (fact_at h.nodes s.made.terms) h.facts in
    subst (λ (o : Option (List Literal)). IfSome o (All (λ (l : Literal). l.var < c.vars))) (sym (h.clauses_are n))
    (below_by c.vars (slice_get h.clauses n) (λ clause l e there. ground_below cs h.nodes s.made facts c.vars h.clauses h.ground clause l (item_there h.clauses n clause e) there))
