-- Why a search along edges comes to all that they lead to.
use Rattle.std.proofs.Common.{◌≡◌, ◌≢◌, ℕ, ◌+◌, ◌<◌, ◌≤◌, Bool, true, false, ◌||◌, ◌⊎◌, inl, inr, eqb, List, [], ◌∷◌, ◌++◌, length, take, drop, Option, Some, None, IfSome, sym, ap, ◌∙◌, subst, refl, arith}
use Rattle.std.proofs.Math.Logic.{⊎_elim}
use Rattle.std.proofs.lemmas.Bool.{cases_eq, cases_order, false≢true, or_left, or_right, eq-eqb, eqb-true}
use Rattle.std.proofs.lemmas.List.{length_push, length-take, get_or_append_left, get_or_push, get_or_default, get_or-take, take-append-drop, take-append-le}
use Rattle.std.proofs.lemmas.List.Folds.{list_any_at, list_any-append, Any-from_list_any}
use Rattle.solve_equality.specs.declared.visits.Visit.{Visit}
use Rattle.solve_equality.specs.Visits.{has_visited, visit_at}
use Rattle.solve_equality.specs.Edges.{pair_at, mentions, Joins, IsNewestBelow}
use Rattle.solve_equality.specs.Search.{IsReached, IsTree, Agree, IsClosed, Grows, AreVisited, AroundIsVisited}

-- an edge that is behind where a walk from newer to older ones has come
abbrev pub IsPast : Option ℕ → ℕ → Type 0
IsPast None k = Unit {0}
IsPast (Some next) k = next < k

-- how many edges may still come in such a walk
abbrev pub ahead : Option ℕ → ℕ
ahead None = 0
ahead (Some next) = next + 1

pub same_when : (a b : Bool) → (a ≡ true → b ≡ true) → (b ≡ true → a ≡ true) → a ≡ b
same_when true b f g = sym (f refl)
same_when false true f g = g refl
same_when false false f g = refl

abbrev Pairs : Type 0
Pairs = List (Option (ℕ × ℕ))

-- the term of each visit is visited
pub visited_at : (visits : List Visit) (k : ℕ) → k < length visits → has_visited visits (visit_at visits k).term ≡ true
visited_at visits k l = list_any_at (λ (w : Visit). eqb w.term (visit_at visits k).term) visits k (record { term = 0; via = 0; from = 0 }) l (eq-eqb (visit_at visits k).term (visit_at visits k).term refl)

-- a visited term is that of a visit
pub place_of_visited : (visits : List Visit) (t : ℕ) → has_visited visits t ≡ true → (k : ℕ) × (k < length visits) × ((visit_at visits k).term ≡ t)
place_of_visited visits t e =
    let found = Any-from_list_any (λ (w : Visit). eqb w.term t) visits e in (
      found.0,
      found.2,
      ap (λ (w : Visit). w.term) (get_or_default visits found.0 (record { term = 0; via = 0; from = 0 }) found.1 found.2 ∙ found.3) ∙ eqb-true found.1.term t found.4,
    )

-- what is visited stays so
pub visited_more : (visits more : List Visit) (t : ℕ) → has_visited visits t ≡ true → has_visited (visits ++ more) t ≡ true
visited_more visits more t e = list_any-append (λ (w : Visit). eqb w.term t) visits more ∙ or_left (has_visited visits t) (has_visited more t) e

pub visited_grows : (visits new : List Visit) (t : ℕ) → Grows visits new → has_visited visits t ≡ true → has_visited new t ≡ true
visited_grows visits new t g e =
    let whole = take-append-drop (length visits) new in
    ap (λ vs. has_visited vs t) (sym whole) ∙ visited_more (take (length visits) new) (drop (length visits) new) t (ap (λ vs. has_visited vs t) g ∙ e)

pub visited_push : (visits : List Visit) (v : Visit) → has_visited (visits ++ v ∷ []) v.term ≡ true
visited_push visits v = list_any-append (λ (w : Visit). eqb w.term v.term) visits (v ∷ []) ∙ or_right (has_visited visits v.term) (eqb v.term v.term || false) (or_left (eqb v.term v.term) false (eq-eqb v.term v.term refl))

pub visit_at_push : (visits : List Visit) (v : Visit) (k : ℕ) → k < length visits → visit_at (visits ++ v ∷ []) k ≡ visit_at visits k
visit_at_push visits v k l = get_or_append_left visits (v ∷ []) (record { term = 0; via = 0; from = 0 }) k l

pub visit_at_grows : (visits new : List Visit) (k : ℕ) → Grows visits new → k < length visits → visit_at new k ≡ visit_at visits k
visit_at_grows visits new k g l =
    sym (get_or-take (length visits) new k (record { term = 0; via = 0; from = 0 }) l) ∙ ap (λ (vs : List Visit). visit_at vs k) g

pub length-le_grows : (visits new : List Visit) → Grows visits new → length visits ≤ length new
length-le_grows visits new g = omega (arith, ap length g, length-take (length visits) new)

pub Grows-push : (visits new : List Visit) (v : Visit) → Grows visits new → Grows visits (new ++ v ∷ [])
Grows-push visits new v g = take-append-le (length visits) new (v ∷ []) (length-le_grows visits new g) ∙ g

-- an edge joins a term only to what it has as ends
joined_end : (p : Option (ℕ × ℕ)) (s t u w : ℕ) → Joins p s t → Joins p u w → (u ≡ s) ⊎ (u ≡ t)
joined_end None s t u w h k = absurd h
joined_end (Some ends) s t u w h k =
    ⊎_elim
    (λ e. ⊎_elim (λ f. inl (sym f.0 ∙ e.0)) (λ f. inr (sym f.1 ∙ e.1)) k)
    (λ e. ⊎_elim (λ f. inr (sym f.0 ∙ e.0)) (λ f. inl (sym f.1 ∙ e.1)) k)
    h

IsReached-same : (pairs : Pairs) (visits new : List Visit) (k : ℕ) → visit_at new k ≡ visit_at visits k → visit_at new (visit_at visits k).from ≡ visit_at visits (visit_at visits k).from → IsReached pairs visits k → IsReached pairs new k
IsReached-same pairs visits new k here there r = record {
  earlier = rw here r.earlier;
  via_in = rw here r.via_in;
  joined = rw (here, there) r.joined;
}

module _ (pairs : Pairs) (visits : List Visit) (v : Visit) (tree : IsTree pairs visits) (new : has_visited visits v.term ≡ false) (from_in : v.from < length visits) (via_in : v.via < length pairs) (joined : Joins (pair_at pairs v.via) v.term (visit_at visits v.from).term) where
  -- an edge by which an earlier visit came has both ends visited, so it is another
  another_edge : (j : ℕ) → 0 < j → j < length visits → (visit_at visits j).via ≢ v.via
  another_edge j pos l e =
      let r = tree.reached j pos l in
      let same : Joins (pair_at pairs v.via) (visit_at visits j).term (visit_at visits (visit_at visits j).from).term = rw (← e) r.joined in
      let seen : (k : ℕ) → k < length visits → v.term ≢ (visit_at visits k).term = λ k l' f. false≢true (sym new ∙ ap (λ t. has_visited visits t) f ∙ visited_at visits k l') in
      ⊎_elim (seen j l) (seen (visit_at visits j).from (omega (arith, r.earlier))) (joined_end (pair_at pairs v.via) _ _ v.term _ same joined)

  reached_push : (k : ℕ) → 0 < k → k < length (visits ++ v ∷ []) → IsReached pairs (visits ++ v ∷ []) k
  reached_push k pos l =
      let ws = visits ++ v ∷ [] in
      let last : visit_at ws (length visits) ≡ v = get_or_push visits v (record { term = 0; via = 0; from = 0 }) (length visits) refl in
      ⊎_elim
      (λ e.
      let at_k : visit_at ws k ≡ v = ap (visit_at ws) e ∙ last in
      record {
        earlier = rw at_k (omega arith);
        via_in = rw at_k via_in;
        joined = rw (at_k, visit_at_push visits v v.from from_in) joined;
      })
      (λ e.
      let within : k < length visits = omega (arith, length_push visits v) in
      let r = tree.reached k pos within in
      IsReached-same pairs visits ws k (visit_at_push visits v k within) (visit_at_push visits v (visit_at visits k).from (omega (arith, r.earlier))) r)
      (cases_eq k (length visits))

  once_push : (j k : ℕ) → 0 < j → j < k → k < length (visits ++ v ∷ []) → (visit_at (visits ++ v ∷ []) j).via ≢ (visit_at (visits ++ v ∷ []) k).via
  once_push j k pos lt l =
      let j_in : j < length visits = omega (arith, length_push visits v) in
      let last : visit_at (visits ++ v ∷ []) (length visits) ≡ v = get_or_push visits v (record { term = 0; via = 0; from = 0 }) (length visits) refl in
      ⊎_elim
      (λ e.
      let at_k : visit_at (visits ++ v ∷ []) k ≡ v = ap (visit_at (visits ++ v ∷ [])) e ∙ last in
      rw (visit_at_push visits v j j_in, at_k) (another_edge j pos j_in))
      (λ e.
      let k_in : k < length visits = omega (arith, length_push visits v) in
      rw (visit_at_push visits v j j_in, visit_at_push visits v k k_in) (tree.once j k pos lt k_in))
      (cases_eq k (length visits))

  pub IsTree-push : IsTree pairs (visits ++ v ∷ [])
  IsTree-push = record { reached = reached_push; once = once_push }

-- between an edge at a term and the next older one there is none
none_between : (pairs : Pairs) (term edge : ℕ) (older : Option ℕ) (k : ℕ) → IsNewestBelow pairs term edge older → IsPast older k → k < edge → mentions term (pair_at pairs k) ≡ false
none_between pairs term edge None k h past l = h k l
none_between pairs term edge (Some i) k h past l = h.2 k past l

-- a walk along the edges at a term: once the next one has both ends visited, all that are newer than the one after it have
pub walk_on : (pairs : Pairs) (visits : List Visit) (term edge : ℕ) (older : Option ℕ) → IsNewestBelow pairs term edge older → AreVisited visits (pair_at pairs edge)
    → ((k : ℕ) → k < length pairs → edge < k → mentions term (pair_at pairs k) ≡ true → AreVisited visits (pair_at pairs k))
    → (k : ℕ) → k < length pairs → IsPast older k → mentions term (pair_at pairs k) ≡ true → AreVisited visits (pair_at pairs k)
walk_on pairs visits term edge older newest here done k l past e =
    ⊎_elim
    (λ same. rw same here)
    (λ other. ⊎_elim
    (λ lt. absurd (false≢true (sym (none_between pairs term edge older k newest past lt) ∙ e)))
    (λ gt. done k l gt e)
    other)
    (cases_order k edge)

-- the older edge is one at the term
pub next_at_term : (pairs : Pairs) (term edge : ℕ) (older : Option ℕ) → edge < length pairs → IsNewestBelow pairs term edge older → IfSome older (λ k. (k < length pairs) × (mentions term (pair_at pairs k) ≡ true))
next_at_term pairs term edge None l h = tt
next_at_term pairs term edge (Some i) l h = (omega (arith, h.0), h.1)

pub AreVisited-joined : (visits : List Visit) (p : Option (ℕ × ℕ)) (s t : ℕ) → Joins p s t → has_visited visits s ≡ true → has_visited visits t ≡ true → AreVisited visits p
AreVisited-joined visits None s t h a b = absurd h
AreVisited-joined visits (Some ends) s t h a b =
    ⊎_elim
    (λ e. (ap (λ u. has_visited visits u) e.0 ∙ a, ap (λ u. has_visited visits u) e.1 ∙ b))
    (λ e. (ap (λ u. has_visited visits u) e.0 ∙ b, ap (λ u. has_visited visits u) e.1 ∙ a))
    h

AreVisited-grows : (visits new : List Visit) (p : Option (ℕ × ℕ)) → ((t : ℕ) → has_visited visits t ≡ true → has_visited new t ≡ true) → AreVisited visits p → AreVisited new p
AreVisited-grows visits new None f h = tt
AreVisited-grows visits new (Some ends) f h = (f ends.0 h.0, f ends.1 h.1)

-- a step of the walk, from the visits before it to those after it
pub step : (pairs : Pairs) (visits new : List Visit) (term edge other : ℕ) (next older : Option ℕ) → next ≡ Some edge → IsNewestBelow pairs term edge older → Joins (pair_at pairs edge) other term
    → ((t : ℕ) → has_visited visits t ≡ true → has_visited new t ≡ true) → has_visited visits term ≡ true → has_visited new other ≡ true
    → ((k : ℕ) → k < length pairs → IsPast next k → mentions term (pair_at pairs k) ≡ true → AreVisited visits (pair_at pairs k))
    → (k : ℕ) → k < length pairs → IsPast older k → mentions term (pair_at pairs k) ≡ true → AreVisited new (pair_at pairs k)
step pairs visits new term edge other next older at_edge newest joined kept seen_term seen_other done =
    walk_on pairs new term edge older newest
    (AreVisited-joined new (pair_at pairs edge) other term joined seen_other (kept term seen_term))
    (λ k l lt e. AreVisited-grows visits new (pair_at pairs k) kept (done k l (subst (λ o. IsPast o k) (sym at_edge) lt) e))

-- once each visited term has its edges done, no edge leads further
closed_edge : (visits : List Visit) (p : Option (ℕ × ℕ)) → ((t : ℕ) → has_visited visits t ≡ true → mentions t p ≡ true → AreVisited visits p) → Agree (has_visited visits) p
closed_edge visits None f = tt
closed_edge visits (Some ends) f =
    same_when
    (has_visited visits ends.0)
    (has_visited visits ends.1)
    (λ a. (f ends.0 a (or_left (eqb ends.0 ends.0) (eqb ends.1 ends.0) (eq-eqb ends.0 ends.0 refl))).1)
    (λ b. (f ends.1 b (or_right (eqb ends.0 ends.1) (eqb ends.1 ends.1) (eq-eqb ends.1 ends.1 refl))).0)

pub IsClosed-from_done : (pairs : Pairs) (visits : List Visit) → ((j : ℕ) → j < length visits → AroundIsVisited pairs visits (visit_at visits j).term) → IsClosed pairs visits
IsClosed-from_done pairs visits done k l =
    closed_edge visits (pair_at pairs k)
    (λ t seen e.
    let place = place_of_visited visits t seen in
    done place.0 place.1 k l (ap (λ u. mentions u (pair_at pairs k)) place.2 ∙ e))

-- the edges at a visited term stay done
pub AroundIsVisited-grows : (pairs : Pairs) (visits new : List Visit) (term : ℕ) → Grows visits new → AroundIsVisited pairs visits term → AroundIsVisited pairs new term
AroundIsVisited-grows pairs visits new term g done k l e = AreVisited-grows visits new (pair_at pairs k) (λ t. visited_grows visits new t g) (done k l e)
