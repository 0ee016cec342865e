-- Tables that are the same at terms that are the same, and the clauses that say so.
use Rattle.std.specs.Prelude.{◌≡◌, ℕ, List, Contains}
use Rattle.form_formula.specs.declared.node.Node.{Node}
use Rattle.form_formula.specs.declared.structure.Signature.{Signature}
use Rattle.form_terms.specs.GroundTerms.{GroundTerm, GroundTerms, skolem, field}
use Rattle.ground_terms.specs.declared.node.TermNode.{TermNode}
use Rattle.form_tables.specs.Clauses.{congruence_clauses}
use Rattle.form_tables.specs.Facts.{Clause}
use Rattle.form_tables.specs.Table.{Table, IsSame, AreSame}
use Rattle.form_tables.specs.Vocabulary.{Vocabulary, Pair, told}
use Rattle.ground_problem.specs.Words.{vocabulary_at}
use Rattle.ground_problem.specs.declared.words.Words.{Words}
use Rattle.ground_problem.specs.Facts.{clauses_at}
use Rattle.ground_problem.specs.declared.facts.FactLiteral.{FactLiteral}

-- at terms that are the same, a function has the same or nothing at both, and so has a variable, and a set relation holds of both or of neither
pub record IsCongruent (v : Vocabulary) (table : Table) : Type 0 where
  pub functions : (h : ℕ) (t u : GroundTerm) → Contains (told v) (field h t) → Contains (told v) (field h u) → IsSame table t u
      → table.value (field h t) ≡ table.value (field h u)
  pub variables : (number sort : ℕ) (ts us : GroundTerms) → Contains v.named (skolem number sort ts) → Contains v.named (skolem number sort us)
      → AreSame table ts us → table.value (skolem number sort ts) ≡ table.value (skolem number sort us)
  pub relations : (p q : Pair) → Contains v.pairs p → Contains v.pairs q → p.relation ≡ q.relation → IsSame table p.holder q.holder
      → IsSame table p.member q.member → table.has p.relation p.holder p.member ≡ table.has q.relation q.holder q.member

-- each is a clause of congruence of these words
abbrev pub AreCongruences : Signature → List Node → List TermNode → Words → List (List FactLiteral) → Type 0
AreCongruences g nodes terms w clauses = (c : Clause) → Contains (clauses_at nodes terms clauses) c → Contains (congruence_clauses g (vocabulary_at terms w)) c
