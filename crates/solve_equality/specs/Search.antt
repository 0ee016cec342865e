-- What a search along edges has come to.
use Rattle.std.specs.Prelude.{◌≡◌, ◌≢◌, ℕ, ◌<◌, Bool, true, List, length, take, Option, Some, None, IsSome, All, AllPairs}
use Rattle.solve_equality.specs.declared.visits.Visit.{Visit}
use Rattle.solve_equality.specs.Visits.{has_visited, visit_at}
use Rattle.solve_equality.specs.Edges.{pair_at, mentions, Joins}

-- the visit at a place came by an edge from an earlier one
pub record IsReached (pairs : List (Option (ℕ × ℕ))) (visits : List Visit) (k : ℕ) : Type 0 where
  pub earlier : (visit_at visits k).from < k
  pub via_in : (visit_at visits k).via < length pairs
  pub joined : Joins (pair_at pairs (visit_at visits k).via) (visit_at visits k).term (visit_at visits (visit_at visits k).from).term

-- each visit but the first came by an edge from an earlier one, and no two by the same edge
pub record IsTree (pairs : List (Option (ℕ × ℕ))) (visits : List Visit) : Type 0 where
  pub reached : (k : ℕ) → 0 < k → k < length visits → IsReached pairs visits k
  pub once : (j k : ℕ) → 0 < j → j < k → k < length visits → (visit_at visits j).via ≢ (visit_at visits k).via

-- the test gives the same at both ends of the edge
abbrev pub Agree : (ℕ → Bool) → Option (ℕ × ℕ) → Type 0
Agree f None = Unit {0}
Agree f (Some ends) = f ends.0 ≡ f ends.1

-- no edge leads from a visited term to another
abbrev pub IsClosed : List (Option (ℕ × ℕ)) → List Visit → Type 0
IsClosed pairs visits = (k : ℕ) → k < length pairs → Agree (has_visited visits) (pair_at pairs k)

-- the new visits are the old ones, and then more
abbrev pub Grows : List Visit → List Visit → Type 0
Grows old new = take (length old) new ≡ old

-- both ends of the edge are visited
abbrev pub AreVisited : List Visit → Option (ℕ × ℕ) → Type 0
AreVisited visits None = Unit {0}
AreVisited visits (Some ends) = (has_visited visits ends.0 ≡ true) × (has_visited visits ends.1 ≡ true)

-- each edge at the term has both ends visited
abbrev pub AroundIsVisited : List (Option (ℕ × ℕ)) → List Visit → ℕ → Type 0
AroundIsVisited pairs visits term = (k : ℕ) → k < length pairs → mentions term (pair_at pairs k) ≡ true → AreVisited visits (pair_at pairs k)

-- each test that gives the same at both ends of each edge gives the same at both terms
abbrev pub AreLinked : List (Option (ℕ × ℕ)) → ℕ → ℕ → Type 0
AreLinked pairs s t = (f : ℕ → Bool) → ((k : ℕ) → k < length pairs → Agree f (pair_at pairs k)) → f s ≡ f t

-- each test that gives the same at both ends of each of these edges gives the same at both terms
abbrev pub AreLinkedBy : List (Option (ℕ × ℕ)) → List ℕ → ℕ → ℕ → Type 0
AreLinkedBy pairs path s t = (f : ℕ → Bool) → All (λ k. Agree f (pair_at pairs k)) path → f s ≡ f t

-- numbers of edges, each once, that link two terms
pub record IsPath (pairs : List (Option (ℕ × ℕ))) (path : List ℕ) (s t : ℕ) : Type 0 where
  pub edges : All (λ k. (k < length pairs) × IsSome (pair_at pairs k)) path
  pub once : AllPairs (λ j k. j ≢ k) path
  pub links : AreLinkedBy pairs path s t
