-- What was found of numbered terms, pairs and sorts, and the assignment that it stands for.
use Rattle.std.specs.Prelude.{◌≡◌, ℕ, ◌<◌, Bool, false, ◌&&◌, List, Option, None, Some, cond, map, length, pos, unwrap_or, option_and_then, slice_get, int_lt, position, ◌==◌}
use Rattle.std.specs.List.{range_with_len}
use Rattle.form_formula.specs.declared.node.Node.{Node}
use Rattle.form_formula.specs.declared.node.Node.TheVariants as node
use Rattle.form_formula.specs.declared.structure.Range.{Range}
use Rattle.form_formula.specs.declared.structure.Signature.{Signature}
use Rattle.form_formula.specs.declared.structure.SVal.{SVal}
use Rattle.form_formula.specs.declared.structure.SVal.TheVariants.{Rec, Flag, Num, Str}
use Rattle.form_formula.specs.Truth.{are_equal, both_pass, is_raised, number_of}
use Rattle.form_terms.specs.GroundTerms.{GroundTerm}
use Rattle.form_terms.specs.Listing.{is_same_term}
use Rattle.ground_terms.specs.declared.node.TermNode.{TermNode}
use Rattle.ground_terms.specs.Nodes.{TermTree, one, some, trees_of, term_of, IsOne}
use Rattle.form_tables.specs.Facts.{Assignment}
use Rattle.form_tables.specs.Consistent.{range_of, IsOfRange}
use Rattle.ground_instances.specs.declared.input.Value.{Value}
use Rattle.ground_instances.specs.declared.input.Value.TheVariants.{Term, Literal}
use Rattle.ground_problem.specs.declared.words.PairNode.{PairNode}
use Rattle.ground_problem.specs.declared.facts.FactNode.{FactNode}
use Rattle.ground_problem.specs.declared.facts.FactNode.TheVariants.{There, Same, Below, Raised, Related, Empty}
use Rattle.decide_models.specs.declared.found.Found.{Found}
use Rattle.decide_reading.specs.declared.columns.Columns.{Columns}
use Rattle.decide_reading.specs.declared.noun.Noun.{Noun as Read}
use Rattle.decide_reading.specs.declared.noun.Noun.TheVariants as read

-- whether a tree is this term
abbrev pub is_tree_of : GroundTerm → TermTree → Bool
is_tree_of t (one u) = is_same_term t u
is_tree_of t (some us) = false

-- the number of a term, if it has one
abbrev pub number_in : List TermNode → GroundTerm → Option ℕ
number_in terms t = position (is_tree_of t) (trees_of terms)

-- whether a pair is this set relation at these terms
abbrev pub is_pair_of : List TermNode → ℕ → GroundTerm → GroundTerm → PairNode → Bool
is_pair_of terms r t u p = (p.relation == r) && (is_same_term t (term_of terms p.holder) && is_same_term u (term_of terms p.member))

-- the value of a place, and else this one
abbrev pub at_or : {X : Type 0} → List X → Option ℕ → X → X
at_or xs o d = unwrap_or (option_and_then (slice_get xs) o) d

-- what the columns tell of terms, pairs and sorts by their numbers; nothing is there, related or empty that has none
abbrev pub assignment_by : List TermNode → List PairNode → Columns → Assignment
assignment_by terms pairs c = record {
  there = λ t. at_or c.there (number_in terms t) false;
  value = λ t. at_or c.values (number_in terms t) (Flag false);
  has = λ r t u. at_or c.related (position (is_pair_of terms r t u) pairs) false;
  is_empty = λ sort. unwrap_or (slice_get c.empty sort) false;
}

-- the value that a noun in code is
abbrev pub sval_of : Read → SVal
sval_of (read.Rec x) = Rec x
sval_of (read.Flag b) = Flag b
sval_of (read.Num n) = Num n
sval_of (read.Str t) = Str t.now

-- whether two pairs are one
abbrev pub is_same_pair : PairNode → PairNode → Bool
is_same_pair p q = (q.relation == p.relation) && ((p.holder == q.holder) && (p.member == q.member))

abbrev pub value_by : Columns → ℕ → SVal
value_by c id = unwrap_or (slice_get c.values id) (Flag false)

-- what a number or a text of the formula is
abbrev pub literal_by : Option Node → SVal
literal_by None = Num (pos 0)
literal_by (Some (node.Bound sort depth)) = Num (pos 0)
literal_by (Some (node.Num n)) = Num n
literal_by (Some (node.Str t)) = Str t
literal_by (Some (node.App h t)) = Num (pos 0)
literal_by (Some node.Yes) = Num (pos 0)
literal_by (Some node.No) = Num (pos 0)
literal_by (Some (node.Eq s t)) = Num (pos 0)
literal_by (Some (node.Less s t)) = Num (pos 0)
literal_by (Some (node.Has r s t)) = Num (pos 0)
literal_by (Some (node.Flag h t)) = Num (pos 0)
literal_by (Some (node.Present h t)) = Num (pos 0)
literal_by (Some (node.Not a)) = Num (pos 0)
literal_by (Some (node.And a b)) = Num (pos 0)
literal_by (Some (node.Or a b)) = Num (pos 0)
literal_by (Some (node.Exists sort a)) = Num (pos 0)
literal_by (Some (node.Forall sort a)) = Num (pos 0)

abbrev pub noun_by : List Node → Columns → Value → SVal
noun_by nodes c (Term id) = value_by c id
noun_by nodes c (Literal id) = literal_by (slice_get nodes id)

-- whether a fact is one by the columns
abbrev pub fact_by : List Node → List PairNode → Columns → FactNode → Bool
fact_by nodes pairs c (There id) = unwrap_or (slice_get c.there id) false
fact_by nodes pairs c (Same v w) = are_equal (noun_by nodes c v) (noun_by nodes c w)
fact_by nodes pairs c (Below v w) = both_pass int_lt (number_of (noun_by nodes c v)) (number_of (noun_by nodes c w))
fact_by nodes pairs c (Raised id) = is_raised (value_by c id)
fact_by nodes pairs c (Related p) = at_or c.related (position (is_same_pair p) pairs) false
fact_by nodes pairs c (Empty sort) = unwrap_or (slice_get c.empty sort) false

-- a value has the number of a term, or that of a number or a text of the formula
abbrev pub IsNoun : List Node → List TermNode → Value → Type 0
IsNoun nodes terms (Term id) = IsOne terms id
IsNoun nodes terms (Literal id) = id < length nodes

-- what a fact speaks of has numbers
abbrev pub IsFactOf : List Node → List TermNode → FactNode → Type 0
IsFactOf nodes terms (There id) = IsOne terms id
IsFactOf nodes terms (Same v w) = IsNoun nodes terms v × IsNoun nodes terms w
IsFactOf nodes terms (Below v w) = IsNoun nodes terms v × IsNoun nodes terms w
IsFactOf nodes terms (Raised id) = IsOne terms id
IsFactOf nodes terms (Related p) = IsOne terms p.holder × IsOne terms p.member
IsFactOf nodes terms (Empty sort) = Unit {0}

-- what a numbered term has where it is there
abbrev pub entry_by : Columns → ℕ → Option SVal
entry_by c id = cond (unwrap_or (slice_get c.there id) false) (Some (unwrap_or (slice_get c.values id) (Flag false))) None

-- the fact speaks of what has numbers, and is so exactly where the value is true
pub record IsSo (nodes : List Node) (terms : List TermNode) (pairs : List PairNode) (c : Columns) (p : FactNode) (value : Bool) : Type 0 where
  pub proper : IsFactOf nodes terms p
  pub is : value ≡ fact_by nodes pairs c p

-- the related pairs, each by its first place
abbrev pub related_by : List PairNode → Columns → List Bool
related_by pairs c = map (λ p. at_or c.related (position (is_same_pair p) pairs) false) pairs

-- what was found, by numbers
pub record AreFound (terms : List TermNode) (pairs : List PairNode) (c : Columns) (found : Found) : Type 0 where
  pub values : found.values ≡ map (entry_by c) (range_with_len 0 (length terms))
  pub related : found.related ≡ related_by pairs c
  pub empty : found.empty ≡ c.empty

-- what the term of a number has is of its range
pub record IsTypedAt (g : Signature) (terms : List TermNode) (c : Columns) (id : ℕ) : Type 0 where
  pub one : IsOne terms id
  pub typed : (range : Range) → range_of g (term_of terms id) ≡ Some range → IsOfRange range (value_by c id)

-- and so of these numbers
abbrev pub AreTyped : Signature → List TermNode → Columns → List ℕ → Type 0
AreTyped g terms c ids =
    (k id : ℕ) → slice_get ids k ≡ Some id → IsTypedAt g terms c id
