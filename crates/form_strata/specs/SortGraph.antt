-- The sort graph of a formula in normal form (Ge and de Moura 2009; Abadi, Rabinovich and Sagiv 2010).
use Rattle.std.specs.Prelude.{ℕ, Bool, true, false, cond, List, [], ◌∷◌, ◌++◌, map, Option, None, Some, slice_get, slice_index_or, Contains}
use Rattle.form_formula.specs.declared.structure.Range.{Range}
use Rattle.form_formula.specs.declared.structure.Range.TheVariants.{Rec, Flag, Num, Str}
use Rattle.form_formula.specs.declared.structure.FunSig.{FunSig}
use Rattle.form_formula.specs.declared.structure.Signature.{Signature}
use Rattle.form_formula.specs.Trees.{Term, Formula, bound, num, str, app, yes, no, equal, less, has, flag, present, negation, both, either, exists, forall}

-- from the source of a function to the sort that it gives elements of, if it does
abbrev pub range_edge : ℕ → Range → List (ℕ × ℕ)
range_edge from (Rec to) = (from, to) ∷ []
range_edge from Flag = []
range_edge from Num = []
range_edge from Str = []

abbrev pub function_edge : Option FunSig → List (ℕ × ℕ)
function_edge None = []
function_edge (Some sig) = range_edge sig.from sig.to

module _ (dependent : List Bool) where
  -- whether a term holds a dependent variable, where these of the variables above are dependent, the outermost first
  abbrev pub is_dependent : Term → Bool
  is_dependent (bound sort depth) = slice_index_or dependent depth true
  is_dependent (num n) = false
  is_dependent (str t) = false
  is_dependent (app f t) = is_dependent t

  -- an edge for each function that is applied to a term with a dependent variable
  abbrev pub term_edges : Signature → Term → List (ℕ × ℕ)
  term_edges g (bound sort depth) = []
  term_edges g (num n) = []
  term_edges g (str t) = []
  term_edges g (app f t) = cond (is_dependent t) (function_edge (slice_get g.funs f)) [] ++ term_edges g t

-- whether a list has items
abbrev pub has_items : List ℕ → Bool
has_items [] = false
has_items (x ∷ xs) = true

-- the edges of a formula where these of the variables above are dependent, the outermost first, and `forall`s of these sorts stand
-- above: a variable is dependent if it is bound by a `forall`, or by an `exists` below one
abbrev pub edges : Signature → List Bool → List ℕ → Formula → List (ℕ × ℕ)
edges g dependent above yes = []
edges g dependent above no = []
edges g dependent above (equal t u) = term_edges dependent g t ++ term_edges dependent g u
edges g dependent above (less t u) = term_edges dependent g t ++ term_edges dependent g u
edges g dependent above (has r t u) = term_edges dependent g t ++ term_edges dependent g u
edges g dependent above (flag f t) = term_edges dependent g t
edges g dependent above (present f t) = term_edges dependent g t
edges g dependent above (negation a) = edges g dependent above a
edges g dependent above (both a b) = edges g dependent above a ++ edges g dependent above b
edges g dependent above (either a b) = edges g dependent above a ++ edges g dependent above b
edges g dependent above (exists sort a) = map (λ from. (from, sort)) above ++ edges g (dependent ++ has_items above ∷ []) above a
edges g dependent above (forall sort a) = edges g (dependent ++ true ∷ []) (above ++ sort ∷ []) a

-- the edges of a whole formula
abbrev pub edges_of : Signature → Formula → List (ℕ × ℕ)
edges_of g f = edges g [] [] f

module _ (graph : List (ℕ × ℕ)) where
  -- edges lead from a sort through the others, one after another
  abbrev pub IsWalk : ℕ → List ℕ → Type 0
  IsWalk from [] = Unit {0}
  IsWalk from (to ∷ rest) = Contains graph (from, to) × IsWalk to rest

  -- no walk of one edge or more comes back
  abbrev pub IsAcyclic : Type 0
  IsAcyclic = (sort : ℕ) (through : List ℕ) → IsWalk sort (through ++ sort ∷ []) → ⊥

-- the sort graph of the formula has no cycle
abbrev pub IsStratified : Signature → Formula → Type 0
IsStratified g f = IsAcyclic (edges_of g f)
