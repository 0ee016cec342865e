-- What a search found, as a table of ground terms.
use Rattle.std.specs.Prelude.{◌≡◌, ℕ, ◌<◌, List, None, Some, false, slice_get, unwrap_or}
use Rattle.form_formula.specs.declared.structure.Signature.{Signature}
use Rattle.form_formula.specs.declared.structure.SVal.{SVal}
use Rattle.form_terms.specs.GroundTerms.{constant}
use Rattle.ground_terms.specs.declared.node.TermNode.{TermNode}
use Rattle.ground_terms.specs.declared.node.TermNode.TheVariants.{Constant}
use Rattle.ground_terms.specs.Nodes.{term_of, IsOne}
use Rattle.form_tables.specs.Table.{Table}
use Rattle.decide_models.specs.declared.found.Found.{Found}
use Rattle.ground_problem.specs.declared.words.PairNode.{PairNode}

-- the table has what was found: of each numbered term its value, of each pair whether it is related, and of each sort whether it is
-- empty; a constant that has no number is not there
pub record IsFound (g : Signature) (nodes : List TermNode) (pairs : List PairNode) (found : Found) (table : Table) : Type 0 where
  pub values : (id : ℕ) → IsOne nodes id → table.value (term_of nodes id) ≡ unwrap_or (slice_get found.values id) None
  pub constants : (sort : ℕ) (x : SVal) → table.value (constant sort) ≡ Some x → (id : ℕ) × (slice_get nodes id ≡ Some (Constant sort))
  pub related : (k : ℕ) (p : PairNode) → slice_get pairs k ≡ Some p
      → table.has p.relation (term_of nodes p.holder) (term_of nodes p.member) ≡ unwrap_or (slice_get found.related k) false
  pub empty : (sort : ℕ) → sort < g.sorts → table.is_empty sort ≡ unwrap_or (slice_get found.empty sort) false
