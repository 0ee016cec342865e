-- Assignments: what a search finds of the facts of which clauses speak, and the table that it stands for.
use Rattle.std.specs.Prelude.{ℕ, ℤ, Bool, true, false, not, List, [], ◌∷◌, ◌++◌, Option, Some, None, cond, int_lt}
use Rattle.std.specs.List.{list_any}
use Rattle.std.specs.Option.{option_map}
use Rattle.form_formula.specs.declared.structure.SVal.{SVal}
use Rattle.form_formula.specs.declared.structure.SVal.TheVariants.{Num, Str}
use Rattle.form_formula.specs.Trees.{Term, Formula, bound, num, str, app, yes, no, equal, less, has, flag, present, negation, both, either, exists, forall}
use Rattle.form_formula.specs.Truth.{are_equal, both_pass, is_raised, number_of}
use Rattle.form_terms.specs.GroundTerms.{GroundTerm}
use Rattle.form_tables.specs.Vocabulary.{Pair, term_at}
use Rattle.form_tables.specs.Table.{Table}

-- what may be equal or compared: a ground term, a number, a text
pub data Noun : Type 0 where
  term : GroundTerm → Noun
  number : ℤ → Noun
  text : List ℕ → Noun

-- a term is there; two are one element, one number or one text; one number is below another; a truth value is true; a set relation
-- holds of two terms; a sort is empty
pub data Fact : Type 0 where
  there : GroundTerm → Fact
  same : Noun → Noun → Fact
  below : Noun → Noun → Fact
  raised : GroundTerm → Fact
  related : Pair → Fact
  empty : (sort : ℕ) → Fact

-- which terms are there, and what each has if it is; which set relations hold, and which sorts are empty
pub record Assignment : Type 0 where
  pub there : GroundTerm → Bool
  pub value : GroundTerm → SVal
  pub has : ℕ → GroundTerm → GroundTerm → Bool
  pub is_empty : ℕ → Bool

-- a fact, or that it is none
pub record Literal : Type 0 where
  pub fact : Fact
  pub sign : Bool

abbrev pub so : Fact → Literal
so p = record { fact = p; sign = true }

abbrev pub not_so : Fact → Literal
not_so p = record { fact = p; sign = false }

-- one literal of a clause is true at least
abbrev pub Clause : Type 0
Clause = List Literal

-- the literal is true where the facts are
abbrev pub implied : List Fact → Literal → Clause
implied [] l = l ∷ []
implied (p ∷ ps) l = not_so p ∷ implied ps l

-- the terms that have to be there
abbrev pub there_of : Noun → List Fact
there_of (term t) = there t ∷ []
there_of (number n) = []
there_of (text t) = []

abbrev pub facts_of_two : (Noun → Noun → Fact) → Option Noun → Option Noun → Option (List Fact)
facts_of_two fact None y = None
facts_of_two fact (Some x) None = None
facts_of_two fact (Some x) (Some y) = Some (there_of x ++ there_of y ++ fact x y ∷ [])

abbrev pub facts_of_pair : ℕ → Option GroundTerm → Option GroundTerm → Option (List Fact)
facts_of_pair r None u = None
facts_of_pair r (Some t) None = None
facts_of_pair r (Some t) (Some u) = Some (related (record { relation = r; holder = t; member = u }) ∷ [])

module _ (env : List GroundTerm) where
  abbrev pub noun_at : Term → Option Noun
  noun_at (bound sort depth) = option_map term (term_at env (bound sort depth))
  noun_at (num n) = Some (number n)
  noun_at (str t) = Some (text t)
  noun_at (app h t) = option_map term (term_at env (app h t))

  -- the facts that together say that an atom of a formula holds where the variables above are these terms
  abbrev pub facts_at : Formula → Option (List Fact)
  facts_at yes = None
  facts_at no = None
  facts_at (equal t u) = facts_of_two same (noun_at t) (noun_at u)
  facts_at (less t u) = facts_of_two below (noun_at t) (noun_at u)
  facts_at (has r t u) = facts_of_pair r (term_at env t) (term_at env u)
  facts_at (flag h t) = option_map (λ x. there x ∷ raised x ∷ []) (term_at env (app h t))
  facts_at (present h t) = option_map (λ x. there x ∷ []) (term_at env (app h t))
  facts_at (negation a) = None
  facts_at (both a b) = None
  facts_at (either a b) = None
  facts_at (exists sort a) = None
  facts_at (forall sort a) = None

module _ (a : Assignment) where
  -- the table that the assignment stands for
  abbrev pub table_for : Table
  table_for = record {
    value = λ t. cond (a.there t) (Some (a.value t)) None;
    has = a.has;
    is_empty = a.is_empty;
  }

  abbrev pub noun_value : Noun → SVal
  noun_value (term t) = a.value t
  noun_value (number n) = Num n
  noun_value (text t) = Str t

  abbrev pub is_fact : Fact → Bool
  is_fact (there t) = a.there t
  is_fact (same x y) = are_equal (noun_value x) (noun_value y)
  is_fact (below x y) = both_pass int_lt (number_of (noun_value x)) (number_of (noun_value y))
  is_fact (raised t) = is_raised (a.value t)
  is_fact (related p) = a.has p.relation p.holder p.member
  is_fact (empty sort) = a.is_empty sort

  abbrev pub is_literal : Literal → Bool
  is_literal l = cond l.sign (is_fact l.fact) (not (is_fact l.fact))

  abbrev pub is_met : Clause → Bool
  is_met clause = list_any is_literal clause
