-- What a further edge, and the last one taken away, change.
use Rattle.std.proofs.Common.{◌≡◌, ◌≢◌, ℕ, ◌+◌, ◌<◌, ◌≤◌, true, false, eqb, List, [], ◌∷◌, ◌++◌, length, get_or, set, map, Option, Some, None, MatchOption, sym, ap, ◌∙◌, subst, refl, arith}
use borrow.Author.Count.{below_more}
use Rattle.std.proofs.Math.Logic.{⊎_elim}
use Rattle.std.proofs.lemmas.Bool.{cases_eq, false≢true, or_left, or_right, eq-eqb, ne_eqb, or_from}
use Rattle.std.proofs.lemmas.List.{get_or-set_same, get_or-set_other, length-set, length_push, length-map, map_push, get_or_append_left, get_or_push}
use Rattle.solve_equality.specs.declared.edges.Edge.{Edge}
use Rattle.solve_equality.specs.Edges.{pair_at, mentions, IsNewestBelow}
use Rattle.solve_equality.specs.EdgeList.{ends_of, IsSoundEdge, IsSoundEdges}

abbrev Pairs : Type 0
Pairs = List (Option (ℕ × ℕ))

-- the edges of numbers below n decide which is the newest of them
IsNewestBelow-same : (ps qs : Pairs) (t n : ℕ) (o : Option ℕ) → ((k : ℕ) → k < n → pair_at qs k ≡ pair_at ps k) → IsNewestBelow ps t n o → IsNewestBelow qs t n o
IsNewestBelow-same ps qs t n None same h = λ k l. ap (mentions t) (same k l) ∙ h k l
IsNewestBelow-same ps qs t n (Some i) same h =
    (h.0, ap (mentions t) (same i h.0) ∙ h.1, λ k l m. ap (mentions t) (same k m) ∙ h.2 k l m)

-- an edge elsewhere changes nothing at a term
IsNewestBelow-more : (ps : Pairs) (t n : ℕ) (o : Option ℕ) → mentions t (pair_at ps n) ≡ false → IsNewestBelow ps t n o → IsNewestBelow ps t (n + 1) o
IsNewestBelow-more ps t n None away h = below_more (λ k. mentions t (pair_at ps k) ≡ false) n h away
IsNewestBelow-more ps t n (Some i) away h = (
  omega (arith, h.0),
  h.1,
  λ k l m. ⊎_elim (λ e. ap (λ j. mentions t (pair_at ps j)) e ∙ away) (λ e. h.2 k l (omega arith)) (cases_eq k n),
)

IsNewestBelow-less : (ps : Pairs) (t n : ℕ) (o : Option ℕ) → mentions t (pair_at ps n) ≡ false → IsNewestBelow ps t (n + 1) o → IsNewestBelow ps t n o
IsNewestBelow-less ps t n None away h = λ k l. h k (omega arith)
IsNewestBelow-less ps t n (Some i) away h =
    let other : i ≢ n = λ e. false≢true (sym away ∙ ap (λ j. mentions t (pair_at ps j)) (sym e) ∙ h.1) in
    (omega (arith, h.0), h.1, λ k l m. h.2 k l (omega arith))

-- an edge at a term is the newest there
IsNewestBelow-last : (ps : Pairs) (t n : ℕ) → mentions t (pair_at ps n) ≡ true → IsNewestBelow ps t (n + 1) (Some n)
IsNewestBelow-last ps t n here = (omega arith, here, λ k l m. absurd (omega arith))

IsSoundEdge-same : (ps qs : Pairs) (terms more k : ℕ) (e : Edge) → terms ≡ more → ((j : ℕ) → j < k → pair_at qs j ≡ pair_at ps j) → IsSoundEdge ps terms k e → IsSoundEdge qs more k e
IsSoundEdge-same ps qs terms more k e n same h = record {
  left_in = omega (arith, h.left_in);
  right_in = omega (arith, h.right_in);
  apart = h.apart;
  left_older = IsNewestBelow-same ps qs e.left k e.left_older same h.left_older;
  right_older = IsNewestBelow-same ps qs e.right k e.right_older same h.right_older;
}

MatchOption-weaker : {X : Type 0} (o : Option X) (P Q : X → Type 0) → ((x : X) → P x → Q x) → MatchOption o (Unit {0}) P → MatchOption o (Unit {0}) Q
MatchOption-weaker None P Q f h = tt
MatchOption-weaker (Some x) P Q f h = f x h

-- the edges of a longer list
longer_same : (list : List (Option Edge)) (e : Option Edge) (k : ℕ) → k < length list → pair_at (map ends_of (list ++ e ∷ [])) k ≡ pair_at (map ends_of list) k
longer_same list e k l =
    ap (λ ps. get_or ps k None) (map_push ends_of list e)
    ∙ get_or_append_left (map ends_of list) (ends_of e ∷ []) None k (omega (arith, length-map list ends_of))

longer_last : (list : List (Option Edge)) (e : Option Edge) → pair_at (map ends_of (list ++ e ∷ [])) (length list) ≡ ends_of e
longer_last list e =
    ap (λ ps. get_or ps (length list) None) (map_push ends_of list e)
    ∙ get_or_push (map ends_of list) (ends_of e) None (length list) (length-map list ends_of)

-- the newest edges once an edge between l and r is added
linked : List (Option ℕ) → ℕ → ℕ → ℕ → List (Option ℕ)
linked newest l r n = set (set newest l (Some n)) r (Some n)

linked_elsewhere : (newest : List (Option ℕ)) (l r t : ℕ) (x y : Option ℕ) → t ≢ l → t ≢ r → get_or (set (set newest l x) r y) t None ≡ get_or newest t None
linked_elsewhere newest l r t x y p q = get_or-set_other (set newest l x) r t y None q ∙ get_or-set_other newest l t x None p

linked_left : (newest : List (Option ℕ)) (l r : ℕ) (x y : Option ℕ) → l < length newest → l ≢ r → get_or (set (set newest l x) r y) l None ≡ x
linked_left newest l r x y h p = get_or-set_other (set newest l x) r l y None p ∙ get_or-set_same newest l x None h

linked_right : (newest : List (Option ℕ)) (l r : ℕ) (x y : Option ℕ) → r < length newest → get_or (set (set newest l x) r y) r None ≡ y
linked_right newest l r x y h = get_or-set_same (set newest l x) r y None (omega (arith, length-set newest l x))

away_from : (l r t : ℕ) → t ≢ l → t ≢ r → mentions t (Some (l, r)) ≡ false
away_from l r t p q = or_from (eqb l t) (eqb r t) (ne_eqb l t (λ e. p (sym e))) (ne_eqb r t (λ e. q (sym e)))

MatchOption-along : {X : Type 0} (o p : Option X) (P : X → Type 0) → o ≡ p → MatchOption p (Unit {0}) P → MatchOption o (Unit {0}) P
MatchOption-along o p P e h = subst (λ x. MatchOption x (Unit {0}) P) (sym e) h

module _ (list : List (Option Edge)) (newest : List (Option ℕ)) (limit capacity : ℕ) (sound : IsSoundEdges list newest limit capacity) (more : ℕ) (le : capacity ≤ more) (free : length list < limit) where
  -- each edge of the longer list but the last is as sound as it was
  kept_edges : (e : Option Edge) (terms k : ℕ) → length newest ≡ terms → k < length list → MatchOption (get_or (list ++ e ∷ []) k None) (Unit {0}) (IsSoundEdge (map ends_of (list ++ e ∷ [])) terms k)
  kept_edges e terms k same l =
      rw (get_or_append_left list (e ∷ []) None k l)
      (MatchOption-weaker (get_or list k None) (IsSoundEdge (map ends_of list) (length newest) k) (IsSoundEdge (map ends_of (list ++ e ∷ [])) terms k)
      (λ x. IsSoundEdge-same (map ends_of list) (map ends_of (list ++ e ∷ [])) (length newest) terms k x same (λ j m. longer_same list e j (omega arith)))
      (sound.at_edges k l))

  pub IsSoundEdges-push_none : IsSoundEdges (list ++ None ∷ []) newest limit more
  IsSoundEdges-push_none = record {
    small = sound.small;
    room = omega (arith, sound.room);
    fits = omega (arith, length_push list None);
    at_terms = λ t l. rw (length_push list None)
        (IsNewestBelow-more (map ends_of (list ++ None ∷ [])) t (length list) (get_or newest t None)
        (ap (mentions t) (longer_last list None))
        (IsNewestBelow-same (map ends_of list) (map ends_of (list ++ None ∷ [])) t (length list) (get_or newest t None) (longer_same list None) (sound.at_terms t l)));
    at_edges = λ k l.
        ⊎_elim
        (λ e. MatchOption-along (get_or (list ++ None ∷ []) k None) None (IsSoundEdge (map ends_of (list ++ None ∷ [])) (length newest) k)
        (ap (λ j. get_or (list ++ None ∷ []) j None) e ∙ get_or_push list None None (length list) refl)
        tt)
        (λ e. kept_edges None (length newest) k refl (omega (arith, length_push list None)))
        (cases_eq k (length list));
  }

  module _ (l r : ℕ) (l_in : l < length newest) (r_in : r < length newest) (apart : l ≢ r) where
    abbrev edge : Edge
    edge = record { left = l; right = r; left_older = get_or newest l None; right_older = get_or newest r None }

    -- what is newest at a term once the edge is added
    at_terms_some : (t : ℕ) → t < length newest → IsNewestBelow (map ends_of (list ++ Some edge ∷ [])) t (length list + 1) (get_or (set (set newest l (Some (length list))) r (Some (length list))) t None)
    at_terms_some t t_in =
        let ps = map ends_of (list ++ Some edge ∷ []) in
        let m : Option ℕ = Some (length list) in
        ⊎_elim
        (λ e. subst (λ o. IsNewestBelow ps t (length list + 1) o) (sym (ap (λ k. get_or (set (set newest l m) r m) k None) e ∙ linked_left newest l r m m l_in apart))
        (IsNewestBelow-last ps t (length list) (ap (mentions t) (longer_last list (Some edge)) ∙ or_left (eqb l t) (eqb r t) (eq-eqb l t (sym e)))))
        (λ not_l. ⊎_elim
        (λ e. subst (λ o. IsNewestBelow ps t (length list + 1) o) (sym (ap (λ k. get_or (set (set newest l m) r m) k None) e ∙ linked_right newest l r m m r_in))
        (IsNewestBelow-last ps t (length list) (ap (mentions t) (longer_last list (Some edge)) ∙ or_right (eqb l t) (eqb r t) (eq-eqb r t (sym e)))))
        (λ not_r. subst (λ o. IsNewestBelow ps t (length list + 1) o) (sym (linked_elsewhere newest l r t m m not_l not_r))
        (IsNewestBelow-more ps t (length list) (get_or newest t None)
        (ap (mentions t) (longer_last list (Some edge)) ∙ away_from l r t not_l not_r)
        (IsNewestBelow-same (map ends_of list) ps t (length list) (get_or newest t None) (longer_same list (Some edge)) (sound.at_terms t t_in))))
        (cases_eq t r))
        (cases_eq t l)

    edge_sound : IsSoundEdge (map ends_of (list ++ Some edge ∷ [])) (length newest) (length list) edge
    edge_sound = record {
      left_in = l_in;
      right_in = r_in;
      apart = apart;
      left_older = IsNewestBelow-same (map ends_of list) (map ends_of (list ++ Some edge ∷ [])) l (length list) (get_or newest l None) (longer_same list (Some edge)) (sound.at_terms l l_in);
      right_older = IsNewestBelow-same (map ends_of list) (map ends_of (list ++ Some edge ∷ [])) r (length list) (get_or newest r None) (longer_same list (Some edge)) (sound.at_terms r r_in);
    }

    pub IsSoundEdges-push_some : IsSoundEdges (list ++ Some edge ∷ []) (set (set newest l (Some (length list))) r (Some (length list))) limit more
    IsSoundEdges-push_some =
        let m : Option ℕ = Some (length list) in
        let terms : length newest ≡ length (set (set newest l m) r m) = omega (arith, length-set (set newest l m) r m, length-set newest l m) in
        record {
          small = sound.small;
          room = omega (arith, sound.room);
          fits = omega (arith, length_push list (Some edge));
          at_terms = λ t t_in. rw (length_push list (Some edge)) (at_terms_some t (omega arith));
          at_edges = λ k k_in.
              ⊎_elim
              (λ e. MatchOption-along (get_or (list ++ Some edge ∷ []) k None) (Some edge) (IsSoundEdge (map ends_of (list ++ Some edge ∷ [])) (length (set (set newest l m) r m)) k)
              (ap (λ j. get_or (list ++ Some edge ∷ []) j None) e ∙ get_or_push list (Some edge) None (length list) refl)
              (rw (e, ← terms) edge_sound))
              (λ e. kept_edges (Some edge) (length (set (set newest l m) r m)) k terms (omega (arith, length_push list (Some edge))))
              (cases_eq k (length list));
        }

-- the edges of a list without its last are those of a shorter list
module _ (list : List (Option Edge)) (last : Option Edge) (newest : List (Option ℕ)) (limit capacity : ℕ) (sound : IsSoundEdges (list ++ last ∷ []) newest limit capacity) where
  shorter_edges : (terms k : ℕ) → length newest ≡ terms → k < length list → MatchOption (get_or list k None) (Unit {0}) (IsSoundEdge (map ends_of list) terms k)
  shorter_edges terms k same l =
      MatchOption-weaker (get_or list k None) (IsSoundEdge (map ends_of (list ++ last ∷ [])) (length newest) k) (IsSoundEdge (map ends_of list) terms k)
      (λ x. IsSoundEdge-same (map ends_of (list ++ last ∷ [])) (map ends_of list) (length newest) terms k x same (λ j m. sym (longer_same list last j (omega arith))))
      (MatchOption-along (get_or list k None) (get_or (list ++ last ∷ []) k None) (IsSoundEdge (map ends_of (list ++ last ∷ [])) (length newest) k)
      (sym (get_or_append_left list (last ∷ []) None k l))
      (sound.at_edges k (omega (arith, length_push list last))))

  -- what was newest at a term that the last edge is not at
  shorter_term : (t : ℕ) → t < length newest → mentions t (ends_of last) ≡ false → IsNewestBelow (map ends_of list) t (length list) (get_or newest t None)
  shorter_term t l away =
      let ps = map ends_of (list ++ last ∷ []) in
      IsNewestBelow-same ps (map ends_of list) t (length list) (get_or newest t None) (λ k m. sym (longer_same list last k m))
      (IsNewestBelow-less ps t (length list) (get_or newest t None) (ap (mentions t) (longer_last list last) ∙ away)
      (rw (length_push list last) at (sound.at_terms t l)))

module _ (list : List (Option Edge)) (newest : List (Option ℕ)) (limit capacity more : ℕ) (le : capacity ≤ more) where
  pub IsSoundEdges-pop_none : IsSoundEdges (list ++ None ∷ []) newest limit capacity → IsSoundEdges list newest limit more
  IsSoundEdges-pop_none sound = record {
    small = sound.small;
    room = omega (arith, sound.room);
    fits = omega (arith, length_push list None, sound.fits);
    at_terms = λ t l. shorter_term list None newest limit capacity sound t l refl;
    at_edges = λ k l. shorter_edges list None newest limit capacity sound (length newest) k refl l;
  }

  pub IsSoundEdges-pop_some : (e : Edge) → IsSoundEdges (list ++ Some e ∷ []) newest limit capacity → IsSoundEdges list (set (set newest e.left e.left_older) e.right e.right_older) limit more
  IsSoundEdges-pop_some e sound =
      let longer = map ends_of (list ++ Some e ∷ []) in
      let last : IsSoundEdge longer (length newest) (length list) e =
      MatchOption-along (Some e) (get_or (list ++ Some e ∷ []) (length list) None) (IsSoundEdge longer (length newest) (length list))
      (sym (get_or_push list (Some e) None (length list) refl))
      (sound.at_edges (length list) (omega (arith, length_push list (Some e)))) in
      let freed = set (set newest e.left e.left_older) e.right e.right_older in
      let terms : length newest ≡ length freed = omega (arith, length-set (set newest e.left e.left_older) e.right e.right_older, length-set newest e.left e.left_older) in
      let shorten = IsNewestBelow-same longer (map ends_of list) in
      let same : (k : ℕ) → k < length list → pair_at (map ends_of list) k ≡ pair_at longer k = λ k l. sym (longer_same list (Some e) k l) in
      record {
        small = sound.small;
        room = omega (arith, sound.room);
        fits = omega (arith, length_push list (Some e), sound.fits);
        at_terms = λ t l.
            ⊎_elim
            (λ is_left. subst (λ o. IsNewestBelow (map ends_of list) t (length list) o)
            (sym (ap (λ k. get_or freed k None) is_left ∙ linked_left newest e.left e.right e.left_older e.right_older last.left_in last.apart))
            (rw is_left (shorten e.left (length list) e.left_older same last.left_older)))
            (λ not_left. ⊎_elim
            (λ is_right. subst (λ o. IsNewestBelow (map ends_of list) t (length list) o)
            (sym (ap (λ k. get_or freed k None) is_right ∙ linked_right newest e.left e.right e.left_older e.right_older last.right_in))
            (rw is_right (shorten e.right (length list) e.right_older same last.right_older)))
            (λ not_right. subst (λ o. IsNewestBelow (map ends_of list) t (length list) o)
            (sym (linked_elsewhere newest e.left e.right t e.left_older e.right_older not_left not_right))
            (shorter_term list (Some e) newest limit capacity sound t (omega arith) (away_from e.left e.right t not_left not_right)))
            (cases_eq t e.right))
            (cases_eq t e.left);
        at_edges = λ k l. shorter_edges list (Some e) newest limit capacity sound (length freed) k terms l;
      }
