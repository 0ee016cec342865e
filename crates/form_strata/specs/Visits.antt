-- What a walk comes to, and the edges that are sought there.
use Rattle.std.specs.Prelude.{◌≡◌, ℕ, ◌+◌, ◌≤◌, Bool, false, List, [], ◌∷◌, ◌++◌, map, length, take, drop, replicate, All, Contains, sum_by}
use Rattle.std.specs.List.{flat_map}
use Rattle.form_formula.specs.declared.node.Node.{Node}
use Rattle.form_formula.specs.declared.node.Node.TheVariants as node
use Rattle.form_formula.specs.declared.structure.Signature.{Signature}
use Rattle.form_formula.specs.Trees.{Term, Formula, yes, no, equal, less, has, flag, present, negation, both, either, exists, forall}
use Rattle.form_formula.specs.Nodes.{IsFormula, formula_of, term_of}
use Rattle.form_strata.specs.declared.visit.Above.{Above}
use Rattle.form_strata.specs.declared.visit.Above.TheVariants.{Exists, Forall, From}
use Rattle.form_strata.specs.declared.visit.Visit.{Visit}
use Rattle.form_strata.specs.declared.edges.Walk.{Walk}
use Rattle.form_strata.specs.SortGraph.{term_edges}

-- what is in one list is in the other
abbrev pub IsWithin : List (ℕ × ℕ) → List (ℕ × ℕ) → Type 0
IsWithin xs ys = (e : ℕ × ℕ) → Contains xs e → Contains ys e

-- and the other way round
abbrev pub HaveSame : List (ℕ × ℕ) → List (ℕ × ℕ) → Type 0
HaveSame xs ys = IsWithin xs ys × IsWithin ys xs

-- so many variables are not dependent
abbrev pub free_ones : ℕ → List Bool
free_ones n = replicate n false

-- how many of the variables above are known not to be dependent
abbrev pub free_of : Above → ℕ
free_of (Exists free) = free
free_of (Forall free) = free
free_of (From sort) = 0

-- what stands above the body of an `exists`
abbrev pub below_exists : Above → Above
below_exists (Exists free) = Exists (free + 1)
below_exists (Forall free) = Forall free
below_exists (From sort) = From sort

-- and of a `forall`, below which two kinds of edges are sought
abbrev pub below_forall : Above → ℕ → List Above
below_forall (Exists free) sort = Forall free ∷ From sort ∷ []
below_forall (Forall free) sort = Forall free ∷ From sort ∷ []
below_forall (From from) sort = From from ∷ []

-- the edge to an `exists` from the `forall` from which edges are sought
abbrev pub exists_edges : Above → ℕ → List (ℕ × ℕ)
exists_edges (Exists free) sort = []
exists_edges (Forall free) sort = []
exists_edges (From from) sort = (from, sort) ∷ []

module _ (g : Signature) where
  -- the edges of a term that are sought
  abbrev pub sought_of_term : Above → Term → List (ℕ × ℕ)
  sought_of_term (Exists free) t = term_edges (free_ones free) g t
  sought_of_term (Forall free) t = term_edges (free_ones free) g t
  sought_of_term (From sort) t = []

  -- and of a formula
  abbrev pub sought : Formula → Above → List (ℕ × ℕ)
  sought yes above = []
  sought no above = []
  sought (equal t u) above = sought_of_term above t ++ sought_of_term above u
  sought (less t u) above = sought_of_term above t ++ sought_of_term above u
  sought (has r t u) above = sought_of_term above t ++ sought_of_term above u
  sought (flag f t) above = sought_of_term above t
  sought (present f t) above = sought_of_term above t
  sought (negation a) above = sought a above
  sought (both a b) above = sought a above ++ sought b above
  sought (either a b) above = sought a above ++ sought b above
  sought (exists sort a) above = exists_edges above sort ++ sought a (below_exists above)
  sought (forall sort a) (Exists free) = sought a (Forall free) ++ sought a (From sort)
  sought (forall sort a) (Forall free) = sought a (Forall free) ++ sought a (From sort)
  sought (forall sort a) (From from) = sought a (From from)

  -- the edges that are sought where the walk comes to
  abbrev pub sought_at : List Node → Visit → List (ℕ × ℕ)
  sought_at nodes v = sought (formula_of nodes v.id) v.above

-- where the walk comes to from here
abbrev pub visits_below : Visit → Node → List Visit
visits_below v (node.Bound sort depth) = []
visits_below v (node.Num n) = []
visits_below v (node.Str t) = []
visits_below v (node.App f t) = []
visits_below v node.Yes = []
visits_below v node.No = []
visits_below v (node.Eq s t) = []
visits_below v (node.Less s t) = []
visits_below v (node.Has f s t) = []
visits_below v (node.Flag f t) = []
visits_below v (node.Present f t) = []
visits_below v (node.Not a) = record v { id = a } ∷ []
visits_below v (node.And a b) = record v { id = a } ∷ record v { id = b } ∷ []
visits_below v (node.Or a b) = record v { id = a } ∷ record v { id = b } ∷ []
visits_below v (node.Exists sort a) = record { id = a; above = below_exists v.above } ∷ []
visits_below v (node.Forall sort a) = map (λ above. record { id = a; above = above }) (below_forall v.above sort)

-- the edges of the node by itself
abbrev pub own_edges : Signature → List Node → Above → Node → List (ℕ × ℕ)
own_edges g nodes above (node.Bound sort depth) = []
own_edges g nodes above (node.Num n) = []
own_edges g nodes above (node.Str t) = []
own_edges g nodes above (node.App f t) = []
own_edges g nodes above node.Yes = []
own_edges g nodes above node.No = []
own_edges g nodes above (node.Eq s t) = sought_of_term g above (term_of nodes s) ++ sought_of_term g above (term_of nodes t)
own_edges g nodes above (node.Less s t) = sought_of_term g above (term_of nodes s) ++ sought_of_term g above (term_of nodes t)
own_edges g nodes above (node.Has f s t) = sought_of_term g above (term_of nodes s) ++ sought_of_term g above (term_of nodes t)
own_edges g nodes above (node.Flag f t) = sought_of_term g above (term_of nodes t)
own_edges g nodes above (node.Present f t) = sought_of_term g above (term_of nodes t)
own_edges g nodes above (node.Not a) = []
own_edges g nodes above (node.And a b) = []
own_edges g nodes above (node.Or a b) = []
own_edges g nodes above (node.Exists sort a) = exists_edges above sort
own_edges g nodes above (node.Forall sort a) = []

-- how many steps a formula takes at most
abbrev pub steps_of : Formula → ℕ
steps_of yes = 1
steps_of no = 1
steps_of (equal t u) = 1
steps_of (less t u) = 1
steps_of (has r t u) = 1
steps_of (flag f t) = 1
steps_of (present f t) = 1
steps_of (negation a) = 1 + steps_of a
steps_of (both a b) = 1 + steps_of a + steps_of b
steps_of (either a b) = 1 + steps_of a + steps_of b
steps_of (exists sort a) = 1 + steps_of a
steps_of (forall sort a) = 1 + steps_of a + steps_of a

abbrev pub steps_at : List Node → Visit → ℕ
steps_at nodes v = steps_of (formula_of nodes v.id)

-- those of these visits that are new go last
pub record Meets (visits old new : List Visit) : Type 0 where
  pub more : List Visit
  pub whole : new ≡ old ++ more
  pub all : (v : Visit) → Contains visits v → Contains new v
  pub only : (v : Visit) → Contains more v → Contains visits v
  pub fewer : (size : Visit → ℕ) → sum_by size more ≤ sum_by size visits

-- the walk went on from a node
pub record IsExpansion (g : Signature) (nodes : List Node) (v : Visit) (n : Node) (old new : Walk) : Type 0 where
  pub visits : Meets (visits_below v n) old.visits.keys new.visits.keys
  pub edges : new.edges.items ≡ old.edges.items ++ own_edges g nodes v.above n

-- a visit of a formula below the first one, at which some of these edges are sought
pub record IsVisit (g : Signature) (nodes : List Node) (first : ℕ) (total : List (ℕ × ℕ)) (v : Visit) : Type 0 where
  pub formula : IsFormula nodes v.id
  pub room : free_of v.above + v.id ≤ first
  pub sought : IsWithin (sought_at g nodes v) total

-- the edges of the node by itself are found, and the walk comes to what is below
pub record IsDone (g : Signature) (nodes : List Node) (visits : List Visit) (found : List (ℕ × ℕ)) (v : Visit) : Type 0 where
  pub node : Node
  pub sought : sought_at g nodes v ≡ own_edges g nodes v.above node ++ flat_map (sought_at g nodes) (visits_below v node)
  pub fewer : sum_by (steps_at nodes) (visits_below v node) + 1 ≤ steps_at nodes v
  pub own : IsWithin (own_edges g nodes v.above node) found
  pub met : (u : Visit) → Contains (visits_below v node) u → Contains visits u

-- the first visits are done, and only these edges are found
pub record IsWalkOf (g : Signature) (nodes : List Node) (first : Visit) (total : List (ℕ × ℕ)) (next : ℕ) (w : Walk) : Type 0 where
  pub within : next ≤ length w.visits.keys
  pub begun : Contains w.visits.keys first
  pub visits : All (IsVisit g nodes first.id total) w.visits.keys
  pub done : All (IsDone g nodes w.visits.keys w.edges.items) (take next w.visits.keys)
  pub found : IsWithin w.edges.items total

-- how many steps are left at most
abbrev pub steps_left : List Node → ℕ → Walk → ℕ
steps_left nodes next w = sum_by (steps_at nodes) (drop next w.visits.keys)
