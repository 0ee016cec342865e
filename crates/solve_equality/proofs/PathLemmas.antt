-- Why the way back through a search is a path.
use Rattle.std.proofs.Common.{◌≡◌, ◌≢◌, ℕ, zero, suc, ◌<◌, Bool, true, List, [], ◌∷◌, ◌++◌, length, Option, Some, None, IsSome, sym, ap, ◌∙◌, subst, refl, arith}
use Rattle.std.proofs.Math.Logic.{⊎_elim}
use Rattle.std.specs.List.{All, AllPairs, Contains}
use Rattle.std.proofs.lemmas.Bool.{cases_eq}
use Rattle.std.proofs.lemmas.List.{length_push}
use Rattle.std.proofs.lemmas.List.Elements.{All-push, All-weaker, All-contains, All-contains_itself, Contains-append_left, Contains-push}
use Rattle.std.proofs.lemmas.List.Quantifiers.{all_pairs_push}
use Rattle.solve_equality.specs.declared.visits.Visit.{Visit}
use Rattle.solve_equality.specs.Visits.{has_visited, visit_at}
use Rattle.solve_equality.specs.Edges.{pair_at, Joins}
use Rattle.solve_equality.specs.Search.{IsTree, Agree, IsClosed, AreLinked, AreLinkedBy}
use Rattle.solve_theory.proofs.Distinct.{length-le_from_pairs}

-- a later visit than the one at the place came by the edge
abbrev pub CameLater : List Visit → ℕ → ℕ → Type 0
CameLater visits place edge = (k : ℕ) × (place < k) × (k < length visits) × ((visit_at visits k).via ≡ edge)

pub Agree-joined : (f : ℕ → Bool) (p : Option (ℕ × ℕ)) (s t : ℕ) → Joins p s t → Agree f p → f s ≡ f t
Agree-joined f None s t h e = absurd h
Agree-joined f (Some ends) s t h e =
    ⊎_elim
    (λ x. ap f (sym x.0) ∙ e ∙ ap f x.1)
    (λ x. ap f (sym x.1) ∙ sym e ∙ ap f x.0)
    h

IsSome-joined : (p : Option (ℕ × ℕ)) (s t : ℕ) → Joins p s t → IsSome p
IsSome-joined None s t h = absurd h
IsSome-joined (Some ends) s t h = refl

pub All-front : {X : Type 0} (P : X → Type 0) (xs ys : List X) → All P (xs ++ ys) → All P xs
All-front P xs ys h = All-weaker (Contains xs) P (λ x c. All-contains P (xs ++ ys) x h (Contains-append_left xs ys x c)) xs (All-contains_itself xs)

pub All-last : {X : Type 0} (P : X → Type 0) (xs : List X) (y : X) → All P (xs ++ y ∷ []) → P y
All-last P xs y h = All-contains P (xs ++ y ∷ []) y h (Contains-push xs y)

module _ (pairs : List (Option (ℕ × ℕ))) (visits : List Visit) (tree : IsTree pairs visits) (place : ℕ) (pos : 0 < place) (within : place < length visits) (path : List ℕ) (later : All (CameLater visits place) path) (once : AllPairs (λ j k. j ≢ k) path) where
  pub once_push : AllPairs (λ j k. j ≢ k) (path ++ (visit_at visits place).via ∷ [])
  once_push =
      all_pairs_push (λ (j k : ℕ). j ≢ k) path (visit_at visits place).via once
      (λ i d l e.
      let came = later i d l in
      tree.once place came.0 pos came.1 came.2 (sym (came.3 ∙ e)))

  pub later_push : All (CameLater visits (visit_at visits place).from) (path ++ (visit_at visits place).via ∷ [])
  later_push =
      let r = tree.reached place pos within in
      All-push (CameLater visits (visit_at visits place).from) path (visit_at visits place).via
      (All-weaker (CameLater visits place) (CameLater visits (visit_at visits place).from) (λ edge came. (came.0, omega (arith, came.1, r.earlier), came.2, came.3)) path later)
      (place, r.earlier, within, refl)

  pub links_push : (t : ℕ) → AreLinkedBy pairs path (visit_at visits place).term t → AreLinkedBy pairs (path ++ (visit_at visits place).via ∷ []) (visit_at visits (visit_at visits place).from).term t
  links_push t linked f agrees =
      let r = tree.reached place pos within in
      let P : ℕ → Type 0 = λ k. Agree f (pair_at pairs k) in
      let by_path : f (visit_at visits place).term ≡ f t = linked f (All-front P path ((visit_at visits place).via ∷ []) agrees) in
      let by_edge : Agree f (pair_at pairs (visit_at visits place).via) = All-last P path (visit_at visits place).via agrees in
      sym (Agree-joined f (pair_at pairs (visit_at visits place).via) (visit_at visits place).term (visit_at visits (visit_at visits place).from).term r.joined by_edge) ∙ by_path

  pub has_room : length path < length pairs
  has_room =
      let below : All (λ k. k < length pairs) path = All-weaker (CameLater visits place) (λ k. k < length pairs) (λ edge came. subst (λ k. k < length pairs) came.3 (tree.reached came.0 (omega (arith, came.1)) came.2).via_in) path later in
      omega (arith, length_push path (visit_at visits place).via, length-le_from_pairs (path ++ (visit_at visits place).via ∷ []) (length pairs) once_push (All-push (λ k. k < length pairs) path (visit_at visits place).via below (tree.reached place pos within).via_in))

-- the whole way is a path
pub edges_of_later : (pairs : List (Option (ℕ × ℕ))) (visits : List Visit) (tree : IsTree pairs visits) (path : List ℕ) → All (CameLater visits 0) path → All (λ k. (k < length pairs) × IsSome (pair_at pairs k)) path
edges_of_later pairs visits tree path later =
    All-weaker (CameLater visits 0) (λ k. (k < length pairs) × IsSome (pair_at pairs k))
    (λ edge came.
    let r = tree.reached came.0 came.1 came.2 in
    subst (λ k. (k < length pairs) × IsSome (pair_at pairs k)) came.3 (r.via_in, IsSome-joined (pair_at pairs (visit_at visits came.0).via) _ _ r.joined))
    path
    later

-- a test that gives the same at both ends of each edge gives the same at all that a search came to
tree_same_below : (pairs : List (Option (ℕ × ℕ))) (visits : List Visit) (f : ℕ → Bool) → IsTree pairs visits → ((k : ℕ) → k < length pairs → Agree f (pair_at pairs k))
    → (n k : ℕ) → k < n → k < length visits → f (visit_at visits k).term ≡ f (visit_at visits 0).term
tree_same_below pairs visits f tree agrees zero k below l = absurd (omega arith)
tree_same_below pairs visits f tree agrees (suc n) k below l =
    ⊎_elim
    (λ first. ap (λ j. f (visit_at visits j).term) first)
    (λ later.
    let r = tree.reached k (omega arith) l in
    Agree-joined f (pair_at pairs (visit_at visits k).via) (visit_at visits k).term (visit_at visits (visit_at visits k).from).term r.joined (agrees (visit_at visits k).via r.via_in)
    ∙ tree_same_below pairs visits f tree agrees n (visit_at visits k).from (omega (arith, r.earlier)) (omega (arith, r.earlier)))
    (cases_eq k 0)

pub tree_same : (pairs : List (Option (ℕ × ℕ))) (visits : List Visit) (f : ℕ → Bool) → IsTree pairs visits → ((k : ℕ) → k < length pairs → Agree f (pair_at pairs k))
    → (k : ℕ) → k < length visits → f (visit_at visits k).term ≡ f (visit_at visits 0).term
tree_same pairs visits f tree agrees k l = tree_same_below pairs visits f tree agrees (length visits) k l l
