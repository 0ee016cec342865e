-- A table by which a formula is read over ground terms, with what a structure is made of.
use Rattle.std.specs.Prelude.{◌≡◌, ◌≢◌, ℕ, All, Bool, true, false, List, [], ◌++◌, Some, Contains, map, slice_get, unwrap_or}
use Rattle.form_formula.specs.declared.structure.Signature.{Signature}
use Rattle.form_formula.specs.Trees.{Formula}
use Rattle.form_terms.specs.GroundTerms.{GroundTerm, no_terms}
use Rattle.form_terms.specs.Reading.{Reads}
use Rattle.form_tables.specs.Consistent.{IsConsistent}
use Rattle.form_tables.specs.Table.{Table, is_there, holds}
use Rattle.form_tables.specs.Vocabulary.{IsVocabulary, Vocabulary}
use Rattle.decide_models.specs.Found.{IsFound}
use Rattle.ground_problem.specs.Words.{IsWords, vocabulary_at}
use Rattle.form_formula.specs.declared.node.Node.{Node}
use Rattle.ground_terms.specs.declared.node.TermNode.{TermNode}
use Rattle.form_tables.specs.Clauses.{base_clauses, congruence_clauses}
use Rattle.form_tables.specs.Facts.{Clause}
use Rattle.ground_problem.specs.GroundClauses.{AreGroundClauses}
use Rattle.ground_problem.specs.declared.spoken.Spoken.{Spoken}
use Rattle.ground_problem.specs.declared.words.Words.{Words}
use Rattle.ground_problem.specs.Facts.{clauses_at, fact_at}
use Rattle.ground_problem.specs.declared.facts.FactLiteral.{FactLiteral}
use Rattle.ground_problem.specs.declared.facts.FactNode.{FactNode}
use Rattle.ground_problem.specs.declared.ground.GroundClauses.{GroundClauses}
use Rattle.decide_models.specs.declared.found.Found.{Found}
use Rattle.decide_reading.specs.Columns.{AreFound, AreTyped, IsSo}
use Rattle.decide_reading.specs.declared.columns.Columns.{Columns}
use Rattle.decide_reading.specs.Broken.{IsBroken}
use Rattle.decide_reading.specs.Congruent.{AreCongruences, IsCongruent}
use Rattle.decide_search.specs.declared.round.Round.{Round}
use Rattle.decide_search.specs.declared.round.Round.TheVariants as round
use Rattle.decide_search.specs.declared.tabled.Tabled.{Tabled}

-- the numbers are those of a vocabulary of the formula over the terms, which names no more than these where these are said to be closed; and what
-- was found is a consistent table by which the formula is read over them
pub record IsTabled (g : Signature) (f : Formula) (terms : List GroundTerm) (closed : Bool) (t : Tabled) : Type 0 where
  pub numbers : IsWords t.terms t.words
  pub words : IsVocabulary g f terms (vocabulary_at t.terms t.words)
  pub within : closed ≡ true → (u : GroundTerm) → Contains (vocabulary_at t.terms t.words).named u → Contains terms u
  pub table : Table
  pub found : IsFound g t.terms t.words.pairs.items t.found table
  pub consistent : IsConsistent g (vocabulary_at t.terms t.words) table
  pub reads : Reads g (is_there table) (holds table) terms 0 [] no_terms f

-- what was found is a consistent table by which the formula is read over the terms
pub record HasTable (g : Signature) (f : Formula) (terms : List GroundTerm) (s : Spoken) (found : Found) : Type 0 where
  pub table : Table
  pub is_found : IsFound g s.made.terms s.words.pairs.items found table
  pub consistent : IsConsistent g (vocabulary_at s.made.terms s.words) table
  pub reads : Reads g (is_there table) (holds table) terms 0 [] no_terms f

-- the clauses of a table are there, and some of those of congruence
pub record HaveBase (g : Signature) (v : Vocabulary) (cs : List Clause) : Type 0 where
  pub base : (c : Clause) → Contains (base_clauses g v) c → Contains cs c
  pub only : (c : Clause) → Contains cs c → Contains (base_clauses g v ++ congruence_clauses g v) c

-- and so of those that are written by numbers
abbrev pub AreListed : Signature → List Node → List TermNode → Words → List (List FactLiteral) → Type 0
AreListed g nodes terms w clauses = HaveBase g (vocabulary_at terms w) (clauses_at nodes terms clauses)

-- the clauses say that the formula holds, that its table is one, and of congruence some
pub record IsGroundFor (g : Signature) (nodes : List Node) (s : Spoken) (ground : GroundClauses) : Type 0 where
  pub cs : List Clause
  pub listed : HaveBase g (vocabulary_at s.made.terms s.words) cs
  pub clauses : AreGroundClauses (map (fact_at nodes s.made.terms) ground.facts.items) s.made nodes cs ground.end
      (map (λ c. c.items) ground.clauses.items ++ map (λ c. c.items) ground.gates.items)

-- each table that has what was found is the same at terms that are the same
abbrev pub IsFoundCongruent : List TermNode → Words → Found → Type 0
IsFoundCongruent terms w found = (g : Signature) (table : Table) → IsFound g terms w.pairs.items found table → IsCongruent (vocabulary_at terms w) table

-- there are columns by which the facts are as their values, that are typed, and that have what was found
pub record HasColumns (g : Signature) (nodes : List Node) (terms : List TermNode) (w : Words) (facts : List FactNode) (values : List Bool) (found : Found) : Type 0 where
  pub columns : Columns
  pub so : (k : ℕ) (p : FactNode) → slice_get facts k ≡ Some p → IsSo nodes terms w.pairs.items columns p (unwrap_or (slice_get values k) false)
  pub named_typed : AreTyped g terms columns w.named.items
  pub others_typed : AreTyped g terms columns w.others.items
  pub is_found : AreFound terms w.pairs.items columns found

-- clauses of congruence, one at least, each broken by what was found by columns by which the facts are as their values
pub record AreBrokenBy (g : Signature) (nodes : List Node) (terms : List TermNode) (w : Words) (facts : List FactNode) (values : List Bool) (clauses : List (List FactLiteral)) : Type 0 where
  pub found : Found
  pub has : HasColumns g nodes terms w facts values found
  pub congruences : AreCongruences g nodes terms w clauses
  pub broken : All (IsBroken terms found w.pairs.items) clauses
  pub some : clauses ≢ []

-- clauses of congruence, one at least, of which none was listed
pub record AreNewCongruences (g : Signature) (nodes : List Node) (terms : List TermNode) (w : Words) (listed : List Clause) (clauses : List (List FactLiteral)) : Type 0 where
  pub congruences : AreCongruences g nodes terms w clauses
  pub new : (c : Clause) → Contains (clauses_at nodes terms clauses) c → Contains listed c → ⊥
  pub some : clauses ≢ []

-- the one holds of what was found, or the other of clauses
abbrev pub IsRound : (Found → Type 0) → (List (List FactLiteral) → Type 0) → Round → Type 0
IsRound P Q (round.Table found) = P found
IsRound P Q (round.Broken clauses) = Q (map (λ c. c.items) clauses.items)
