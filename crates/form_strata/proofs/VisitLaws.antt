-- A walk over a formula finds its edges.
use Rattle.std.proofs.Common.{◌≡◌, ℕ, zero, suc, ◌+◌, ◌<◌, ◌≤◌, ◌⊎◌, inl, inr, Bool, true, false, ◌||◌, cond, refl, sym, ◌∙◌, List, [], ◌∷◌, ◌++◌, length, take, drop, get_or, ap, subst, arith, append_assoc, append-nil, length-append, All, Contains}
use Rattle.std.specs.Prelude.{OnOk, Result, nat_eq, sum_by}
use Rattle.std.specs.List.{flat_map, list_any}
use Rattle.std.proofs.lemmas.Bool.{eqb-true, and_parts}
use Rattle.std.proofs.lemmas.List.{get_or_default, take_all, take_more, take-append-le, drop-append-le}
use Rattle.std.proofs.lemmas.List.Elements.{All-append, All-cons, All-contains, All-nil, All-push, All-weaker, Contains-append_cases, Contains-append_left, Contains-append_right, Contains-get_or}
use Rattle.std.proofs.lemmas.List.Sums.{get_or-le-sum_by, sum_by-append, sum_by-drop_more}
use Rattle.std.proofs.lemmas.Result.{on_ok_weaker}
use Rattle.indexmap.specs.IndexSet.{insert_key}
use Rattle.form_formula.specs.declared.node.Node.{Node}
use Rattle.form_formula.specs.declared.node.Node.TheVariants as node
use Rattle.form_formula.specs.declared.structure.Signature.{Signature}
use Rattle.form_formula.specs.Nodes.{IsBelow, IsFormula, IsPlaced, formula_of, formula_part, term_of, tree_of, tree_from, trees_of}
use Rattle.form_strata.specs.declared.visit.Above.{Above}
use Rattle.form_strata.specs.declared.visit.Above.TheVariants.{Exists, Forall, From}
use Rattle.form_strata.specs.declared.visit.Visit.{Visit}
use Rattle.form_strata.specs.declared.edges.Walk.{Walk}
use Rattle.form_strata.specs.Visits.{HaveSame, IsDone, IsExpansion, IsVisit, IsWalkOf, IsWithin, Meets, below_exists, exists_edges, free_of, own_edges, sought, sought_at, sought_of_term, steps_at, steps_left, steps_of, visits_below}
use Rattle.form_strata.specs.contracts.visit.AbovePartialEq.TheImpl as above_eq
use Rattle.form_strata.specs.contracts.visit.VisitPartialEq.TheImpl as visit_eq
use Rattle.form_strata.proofs.Members.{cons_cases, flat_map_in, head_in, in_flat_map, none_in, tail_in}

-- visits that are compared as equal are the same
same_above : (a b : Above) → (above_eq.ghosts).eq a b ≡ true → a ≡ b
same_above (Exists m) (Exists n) e = ap (λ n. Exists n) (eqb-true m n e)
same_above (Exists m) b e = cc
same_above (Forall m) (Forall n) e = ap (λ n. Forall n) (eqb-true m n e)
same_above (Forall m) b e = cc
same_above (From m) (From n) e = ap (λ n. From n) (eqb-true m n e)
same_above (From m) b e = cc

same_visit : (u v : Visit) → (visit_eq.ghosts).eq u v ≡ true → u ≡ v
same_visit u v e =
    let p = and_parts (nat_eq u.id v.id) ((above_eq.ghosts).eq u.above v.above) e in
    let with_id : ℕ → Visit = λ id. record { id = id; above = u.above } in
    let with_above : Above → Visit = λ above. record { id = v.id; above = above } in
    ap with_id (eqb-true u.id v.id p.0) ∙ ap with_above (same_above u.above v.above p.1)

any_in : {X : Type 0} (p : X → Bool) (xs : List X) → list_any p xs ≡ true → (x : X) × Contains xs x × (p x ≡ true)
any_in p [] e = cc
any_in {X} p (x ∷ xs) e =
    let Q : Bool → Type 0 = λ b. (p x ≡ b) → (b || list_any p xs) ≡ true → (y : X) × Contains (x ∷ xs) y × (p y ≡ true) in
    elim (p x) as Q [
      | true ↦ λ h e. (x, head_in x xs, h)
      | false ↦ λ h e. let later = any_in p xs e in (later.0, tail_in x xs later.0 later.1, later.2)
    ] refl e

-- no visits
pub meets_none : (old new : List Visit) → new ≡ old → Meets [] old new
meets_none old new e = record {
  more = [];
  whole = e ∙ sym (append-nil old);
  all = λ v c. none_in v c;
  only = λ v c. c;
  fewer = λ size. omega arith;
}

meets_old : (old : List Visit) (v : Visit) → Contains old v → Meets (v ∷ []) old old
meets_old old v here =
    let P : Visit → Type 0 = λ u. Contains old u in
    record {
      more = [];
      whole = sym (append-nil old);
      all = λ u c. elim (cons_cases v [] u c) [ inl same ↦ subst P same here | inr none ↦ none_in u none ];
      only = λ u c. none_in u c;
      fewer = λ size. omega arith;
    }

meets_new : (old : List Visit) (v : Visit) → Meets (v ∷ []) old (old ++ v ∷ [])
meets_new old v = record {
  more = v ∷ [];
  whole = refl;
  all = λ u c. Contains-append_right old (v ∷ []) u c;
  only = λ u c. c;
  fewer = λ size. omega arith;
}

-- one visit
pub meets_one : (old new : List Visit) (v : Visit) → new ≡ insert_key (visit_eq.ghosts).eq old v → Meets (v ∷ []) old new
meets_one old new v e =
    let there : Bool = list_any ((visit_eq.ghosts).eq v) old in
    let Q : Bool → Type 0 = λ b. (there ≡ b) → Meets (v ∷ []) old (cond b old (old ++ v ∷ [])) in
    let P : List Visit → Type 0 = λ xs. Meets (v ∷ []) old xs in
    let here : there ≡ true → Contains old v =
    λ yes. let found = any_in ((visit_eq.ghosts).eq v) old yes in let C : Visit → Type 0 = λ u. Contains old u in subst C (sym (same_visit v found.0 found.2)) found.1 in
    subst P (sym e) (elim there as Q [ true ↦ λ yes. meets_old old v (here yes) | false ↦ λ no. meets_new old v ] refl)

-- some visits after others
pub meets_both : (xs ys a b d : List Visit) → Meets xs a b → Meets ys b d → Meets (xs ++ ys) a d
meets_both xs ys a b d p q =
    let P : List Visit → Type 0 = λ zs. (v : Visit) → Contains b v → Contains zs v in
    let kept : (v : Visit) → Contains b v → Contains d v = subst P (sym q.whole) (λ v c. Contains-append_left b q.more v c) in
    record {
      more = p.more ++ q.more;
      whole = q.whole ∙ (ap (λ zs. zs ++ q.more) p.whole ∙ append_assoc a p.more q.more);
      all = λ v c. elim (Contains-append_cases xs ys v c) [ inl left ↦ kept v (p.all v left) | inr right ↦ q.all v right ];
      only = λ v c.
          elim (Contains-append_cases p.more q.more v c) [ inl left ↦ Contains-append_left xs ys v (p.only v left) | inr right ↦ Contains-append_right xs ys v (q.only v right) ];
      fewer = λ size. omega (arith, p.fewer size, q.fewer size, sum_by-append size p.more q.more, sum_by-append size xs ys);
    }

module _ (g : Signature) (nodes : List Node) where
  -- what is sought below a node
  one_part : (a : ℕ) (above : Above) → sought g (formula_of nodes a) above ≡ flat_map (sought_at g nodes) (record { id = a; above = above } ∷ [])
  one_part a above = sym (append-nil (sought g (formula_of nodes a) above))

  two_parts : (a b : ℕ) (above : Above)
      → sought g (formula_of nodes a) above ++ sought g (formula_of nodes b) above ≡ flat_map (sought_at g nodes) (record { id = a; above = above } ∷ record { id = b; above = above } ∷ [])
  two_parts a b above = ap (λ es. sought g (formula_of nodes a) above ++ es) (one_part b above)

  forall_parts : (free sort a : ℕ) → sought g (formula_of nodes a) (Forall free) ++ sought g (formula_of nodes a) (From sort)
      ≡ flat_map (sought_at g nodes) (record { id = a; above = Forall free } ∷ record { id = a; above = From sort } ∷ [])
  forall_parts free sort a = ap (λ es. sought g (formula_of nodes a) (Forall free) ++ es) (one_part a (From sort))

  sought_of_node : (id : ℕ) (above : Above) (n : Node)
      → sought g (formula_part (tree_from (trees_of nodes) n)) above
      ≡ own_edges g nodes above n ++ flat_map (sought_at g nodes) (visits_below (record { id = id; above = above }) n)
  sought_of_node id above (node.Bound sort depth) = refl
  sought_of_node id above (node.Num n) = refl
  sought_of_node id above (node.Str t) = refl
  sought_of_node id above (node.App f t) = refl
  sought_of_node id above node.Yes = refl
  sought_of_node id above node.No = refl
  sought_of_node id above (node.Eq s t) = sym (append-nil (sought_of_term g above (term_of nodes s) ++ sought_of_term g above (term_of nodes t)))
  sought_of_node id above (node.Less s t) = sym (append-nil (sought_of_term g above (term_of nodes s) ++ sought_of_term g above (term_of nodes t)))
  sought_of_node id above (node.Has f s t) = sym (append-nil (sought_of_term g above (term_of nodes s) ++ sought_of_term g above (term_of nodes t)))
  sought_of_node id above (node.Flag f t) = sym (append-nil (sought_of_term g above (term_of nodes t)))
  sought_of_node id above (node.Present f t) = sym (append-nil (sought_of_term g above (term_of nodes t)))
  sought_of_node id above (node.Not a) = one_part a above
  sought_of_node id above (node.And a b) = two_parts a b above
  sought_of_node id above (node.Or a b) = two_parts a b above
  sought_of_node id above (node.Exists sort a) = ap (λ es. exists_edges above sort ++ es) (one_part a (below_exists above))
  sought_of_node id (Exists free) (node.Forall sort a) = forall_parts free sort a
  sought_of_node id (Forall free) (node.Forall sort a) = forall_parts free sort a
  sought_of_node id (From from) (node.Forall sort a) = one_part a (From from)

  -- a step takes one from what is left
  fewer_steps : (id : ℕ) (above : Above) (n : Node)
      → sum_by (steps_at nodes) (visits_below (record { id = id; above = above }) n) + 1 ≤ steps_of (formula_part (tree_from (trees_of nodes) n))
  fewer_steps id above (node.Bound sort depth) = omega arith
  fewer_steps id above (node.Num n) = omega arith
  fewer_steps id above (node.Str t) = omega arith
  fewer_steps id above (node.App f t) = omega arith
  fewer_steps id above node.Yes = omega arith
  fewer_steps id above node.No = omega arith
  fewer_steps id above (node.Eq s t) = omega arith
  fewer_steps id above (node.Less s t) = omega arith
  fewer_steps id above (node.Has f s t) = omega arith
  fewer_steps id above (node.Flag f t) = omega arith
  fewer_steps id above (node.Present f t) = omega arith
  fewer_steps id above (node.Not a) = omega arith
  fewer_steps id above (node.And a b) = omega arith
  fewer_steps id above (node.Or a b) = omega arith
  fewer_steps id above (node.Exists sort a) = omega arith
  fewer_steps id (Exists free) (node.Forall sort a) = omega arith
  fewer_steps id (Forall free) (node.Forall sort a) = omega arith
  fewer_steps id (From from) (node.Forall sort a) = omega arith

  -- what is below a node is a formula, with one `exists` more above it at most
  abbrev IsPart : ℕ → Above → Visit → Type 0
  IsPart id above u = IsFormula nodes u.id × (free_of u.above + u.id ≤ free_of above + id)

  part_here : (id a : ℕ) (above : Above) → IsFormula nodes a → a < id → IsPart id above (record { id = a; above = above })
  part_here id a above formula lt = (formula, omega (arith, lt))

  part_exists : (id a : ℕ) (above : Above) → IsFormula nodes a → a < id → IsPart id above (record { id = a; above = below_exists above })
  part_exists id a (Exists free) formula lt = (formula, omega (arith, lt))
  part_exists id a (Forall free) formula lt = (formula, omega (arith, lt))
  part_exists id a (From sort) formula lt = (formula, omega (arith, lt))

  one_fits : (id : ℕ) (above : Above) (u : Visit) → IsPart id above u → All (IsPart id above) (u ∷ [])
  one_fits id above u h = All-cons (IsPart id above) u [] h (All-nil (IsPart id above))

  two_fit : (id : ℕ) (above : Above) (u v : Visit) → IsPart id above u → IsPart id above v → All (IsPart id above) (u ∷ v ∷ [])
  two_fit id above u v h k = All-cons (IsPart id above) u (v ∷ []) h (one_fits id above v k)

  parts_fit : (id : ℕ) (above : Above) (n : Node) → IsPlaced nodes n → IsBelow id n → All (IsPart id above) (visits_below (record { id = id; above = above }) n)
  parts_fit id above (node.Bound sort depth) h k = All-nil (IsPart id above)
  parts_fit id above (node.Num n) h k = All-nil (IsPart id above)
  parts_fit id above (node.Str t) h k = All-nil (IsPart id above)
  parts_fit id above (node.App f t) h k = All-nil (IsPart id above)
  parts_fit id above node.Yes h k = All-nil (IsPart id above)
  parts_fit id above node.No h k = All-nil (IsPart id above)
  parts_fit id above (node.Eq s t) h k = All-nil (IsPart id above)
  parts_fit id above (node.Less s t) h k = All-nil (IsPart id above)
  parts_fit id above (node.Has f s t) h k = All-nil (IsPart id above)
  parts_fit id above (node.Flag f t) h k = All-nil (IsPart id above)
  parts_fit id above (node.Present f t) h k = All-nil (IsPart id above)
  parts_fit id above (node.Not a) h k = one_fits id above (record { id = a; above = above }) (part_here id a above h k)
  parts_fit id above (node.And a b) h k =
      two_fit id above (record { id = a; above = above }) (record { id = b; above = above }) (part_here id a above h.0 k.0) (part_here id b above h.1 k.1)
  parts_fit id above (node.Or a b) h k =
      two_fit id above (record { id = a; above = above }) (record { id = b; above = above }) (part_here id a above h.0 k.0) (part_here id b above h.1 k.1)
  parts_fit id above (node.Exists sort a) h k = one_fits id above (record { id = a; above = below_exists above }) (part_exists id a above h k)
  parts_fit id (Exists free) (node.Forall sort a) h k =
      two_fit id (Exists free) (record { id = a; above = Forall free }) (record { id = a; above = From sort }) (h, omega (arith, k)) (h, omega (arith, k))
  parts_fit id (Forall free) (node.Forall sort a) h k =
      two_fit id (Forall free) (record { id = a; above = Forall free }) (record { id = a; above = From sort }) (h, omega (arith, k)) (h, omega (arith, k))
  parts_fit id (From from) (node.Forall sort a) h k = one_fits id (From from) (record { id = a; above = From from }) (h, omega (arith, k))

  -- what is found stays found
  done_later : (visits more : List Visit) (found own : List (ℕ × ℕ)) (v : Visit) → IsDone g nodes visits found v → IsDone g nodes (visits ++ more) (found ++ own) v
  done_later visits more found own v d = record {
    node = d.node;
    sought = d.sought;
    fewer = d.fewer;
    own = λ e c. Contains-append_left found own e (d.own e c);
    met = λ u c. Contains-append_left visits more u (d.met u c);
  }

  -- a step that adds the edges of two terms
  abbrev pub IsOfTwo : Node → ℕ → ℕ → Type 0
  IsOfTwo n s t = (n ≡ node.Eq s t) ⊎ ((n ≡ node.Less s t) ⊎ ((x : ℕ) × (n ≡ node.Has x s t)))

  pub expanded_twice : {T E : Type 0} (r : Result T E) (v : Visit) (n m : Node) (s t : ℕ) (old mid new : Walk) → n ≡ m → IsOfTwo m s t
      → mid.visits.keys ≡ old.visits.keys → new.visits.keys ≡ mid.visits.keys
      → mid.edges.items ≡ old.edges.items ++ sought_of_term g v.above (term_of nodes s) → OnOk r (new.edges.items ≡ mid.edges.items ++ sought_of_term g v.above (term_of nodes t))
      → OnOk r (IsExpansion g nodes v n old new)
  expanded_twice r v n m s t old mid new same two one other edges later =
      let P : Node → Type 0 = λ n. IsExpansion g nodes v n old new in
      let first : List (ℕ × ℕ) = sought_of_term g v.above (term_of nodes s) in
      let more : List (ℕ × ℕ) = sought_of_term g v.above (term_of nodes t) in
      on_ok_weaker r (λ e.
      let visits = meets_none old.visits.keys new.visits.keys (other ∙ one) in
      let found : new.edges.items ≡ old.edges.items ++ (first ++ more) = e ∙ (ap (λ es. es ++ more) edges ∙ append_assoc old.edges.items first more) in
      elim two [
        | inl eq ↦ subst P (sym (same ∙ eq)) (record { visits = visits; edges = found })
        | inr rest ↦
            elim rest [
              | inl less ↦ subst P (sym (same ∙ less)) (record { visits = visits; edges = found })
              | inr has ↦ subst P (sym (same ∙ has.1)) (record { visits = visits; edges = found })
            ]
      ]) later

  has_sum : (below : List Visit) (u : Visit) → Contains below u → steps_at nodes u ≤ sum_by (steps_at nodes) below
  has_sum below u (k, lt, is) =
      let one = get_or-le-sum_by (steps_at nodes) below k u lt in
      let same : steps_at nodes (get_or below k u) ≡ steps_at nodes u = ap (steps_at nodes) is in omega (arith, one, same)

  -- what is sought at each visit is found at the end
  all_found : (visits : List Visit) (found : List (ℕ × ℕ)) → All (IsDone g nodes visits found) visits → (fuel : ℕ) (v : Visit) → steps_at nodes v ≤ fuel → Contains visits v → IsWithin (sought_at g nodes v) found
  all_found visits found all zero v le c e m = let d = All-contains (IsDone g nodes visits found) visits v all c in absurd (omega (arith, d.fewer, le))
  all_found visits found all (suc fuel) v le c e m =
      let d = All-contains (IsDone g nodes visits found) visits v all c in
      let P : List (ℕ × ℕ) → Type 0 = λ es. Contains es e in
      let below : List Visit = visits_below v d.node in
      elim (Contains-append_cases (own_edges g nodes v.above d.node) (flat_map (sought_at g nodes) below) e (subst P d.sought m)) [
        | inl here ↦ d.own e here
        | inr later ↦
            let at = in_flat_map (sought_at g nodes) below e later in
            all_found visits found all fuel at.0 (omega (arith, d.fewer, le, has_sum below at.0 at.1)) (d.met at.0 at.1) e at.2
      ]

  -- the visit at a place
  pub next_is : (keys slice : List Visit) (next : ℕ) (d : Visit) → slice ≡ keys → next < length keys → get_or keys next (get_or slice next d) ≡ get_or slice next d
  next_is keys slice next d e lt = let P : List Visit → Type 0 = λ xs. get_or keys next (get_or xs next d) ≡ get_or xs next d in subst P (sym e) (get_or_default keys next (get_or keys next d) d lt)

  all_in : {X : Type 0} (P : X → Type 0) (xs : List X) → ((x : X) → Contains xs x → P x) → All P xs
  all_in P xs h = λ k d lt. h (get_or xs k d) (Contains-get_or xs k d lt)

  module _ (first : Visit) (total : List (ℕ × ℕ)) where
    -- the walk begins
    pub walk_begun : (old : List Visit) (w : Walk) → length old ≡ 0 → Meets (first ∷ []) old w.visits.keys → w.edges.items ≡ [] → IsFormula nodes first.id → free_of first.above ≡ 0 → IsWithin (sought_at g nodes first) total
        → IsWalkOf g nodes first total 0 w
    walk_begun old w empty m none formula free within =
        let P : List (ℕ × ℕ) → Type 0 = λ es. IsWithin es total in
        let V : Visit → Type 0 = λ v. IsVisit g nodes first.id total v in
        let here : V first = record { formula = formula; room = omega (arith, free); sought = within } in
        let each : (v : Visit) → Contains w.visits.keys v → V v =
        λ v c.
        let Q : List Visit → Type 0 = λ vs. Contains vs v in
        elim (Contains-append_cases old m.more v (subst Q m.whole c)) [
          | inl before ↦ absurd (omega (arith, empty, before.1))
          | inr new ↦
              elim (cons_cases first [] v (m.only v new)) [
                | inl same ↦ subst V same here
                | inr nothing ↦ none_in v nothing
              ]
        ] in
        record {
          within = omega arith;
          begun = m.all first (head_in first []);
          visits = all_in V w.visits.keys each;
          done = All-nil (IsDone g nodes w.visits.keys w.edges.items);
          found = subst P (sym none) (λ e c. none_in e c);
        }

    -- one step of the walk
    pub walk_step : (next : ℕ) (old new : Walk) (v : Visit) (n : Node) → IsWalkOf g nodes first total next old → next < length old.visits.keys → get_or old.visits.keys next v ≡ v
        → tree_of nodes v.id ≡ tree_from (trees_of nodes) n → IsPlaced nodes n → IsBelow v.id n → IsExpansion g nodes v n old new
        → IsWalkOf g nodes first total (next + 1) new × (steps_left nodes (next + 1) new < steps_left nodes next old)
    walk_step next old new v n h lt is means placed below x =
        let keys : List Visit = old.visits.keys in
        let more : List Visit = x.visits.more in
        let own : List (ℕ × ℕ) = own_edges g nodes v.above n in
        let parts : List Visit = visits_below v n in
        let here = All-contains (IsVisit g nodes first.id total) keys v h.visits (next, lt, is) in
        let is_sought : sought_at g nodes v ≡ own ++ flat_map (sought_at g nodes) parts =
        ap (λ tree. sought g (formula_part tree) v.above) means ∙ sought_of_node v.id v.above n in
        let fewer = fewer_steps v.id v.above n in
        let size : steps_at nodes v ≡ steps_of (formula_part (tree_from (trees_of nodes) n)) = ap (λ tree. steps_of (formula_part tree)) means in
        let to_total : (e : ℕ × ℕ) → Contains (own ++ flat_map (sought_at g nodes) parts) e → Contains total e =
        λ e c. let P : List (ℕ × ℕ) → Type 0 = λ es. Contains es e in here.sought e (subst P (sym is_sought) c) in
        let done : IsDone g nodes (keys ++ more) (old.edges.items ++ own) v = record {
          node = n;
          sought = is_sought;
          fewer = omega (arith, fewer, size);
          own = λ e c. Contains-append_right old.edges.items own e c;
          met = λ u c. let P : List Visit → Type 0 = λ vs. Contains vs u in subst P x.visits.whole (x.visits.all u c);
        } in
        let taken : take (next + 1) (keys ++ more) ≡ take next keys ++ v ∷ [] =
        take-append-le (next + 1) keys more (omega (arith, lt)) ∙ (take_more keys next v lt ∙ ap (λ u. take next keys ++ u ∷ []) is) in
        let D : List Visit → Type 0 = λ vs. All (IsDone g nodes (keys ++ more) (old.edges.items ++ own)) vs in
        let R : List Visit → List (ℕ × ℕ) → Type 0 =
        λ vs es. (next + 1 ≤ length vs) × Contains vs first × All (IsVisit g nodes first.id total) vs × All (IsDone g nodes vs es) (take (next + 1) vs) × IsWithin es total
        × (sum_by (steps_at nodes) (drop (next + 1) vs) < steps_left nodes next old) in
        let rest = drop-append-le (next + 1) keys more (omega (arith, lt)) in
        let rest_steps : sum_by (steps_at nodes) (drop (next + 1) (keys ++ more)) ≡ sum_by (steps_at nodes) (drop (next + 1) keys ++ more) = ap (sum_by (steps_at nodes)) rest in
        let parted = sum_by-append (steps_at nodes) (drop (next + 1) keys) more in
        let before = sum_by-drop_more (steps_at nodes) keys next v lt in
        let same : steps_at nodes (get_or keys next v) ≡ steps_at nodes v = ap (steps_at nodes) is in
        let added = x.visits.fewer (steps_at nodes) in
        let all : R (keys ++ more) (old.edges.items ++ own) = (
          omega (arith, lt, length-append keys more),
          Contains-append_left keys more first h.begun,
          All-append (IsVisit g nodes first.id total) keys more h.visits (all_in (IsVisit g nodes first.id total) more (λ u c.
              let part = All-contains (IsPart v.id v.above) parts u (parts_fit v.id v.above n placed below) (x.visits.only u c) in
              record {
                formula = part.0;
                room = omega (arith, part.1, here.room);
                sought = λ e m. to_total e (Contains-append_right own (flat_map (sought_at g nodes) parts) e (flat_map_in (sought_at g nodes) parts u e (x.visits.only u c) m));
              })),
          subst D (sym taken) (All-push (IsDone g nodes (keys ++ more) (old.edges.items ++ own)) (take next keys) v
              (All-weaker (IsDone g nodes keys old.edges.items) (IsDone g nodes (keys ++ more) (old.edges.items ++ own)) (λ u d. done_later keys more old.edges.items own u d) (take next keys) h.done) done),
          λ e c. elim (Contains-append_cases old.edges.items own e c) [
            | inl old ↦ h.found e old
            | inr now ↦ to_total e (Contains-append_left own (flat_map (sought_at g nodes) parts) e now)
          ],
          omega (arith, rest_steps, parted, before, same, added, fewer, size),
        ) in
        let A : List Visit → Type 0 = λ vs. R vs (old.edges.items ++ own) in
        let B : List (ℕ × ℕ) → Type 0 = λ es. R new.visits.keys es in
        let now = subst B (sym x.edges) (subst A (sym x.visits.whole) all) in
        (record { within = now.0; begun = now.1; visits = now.2; done = now.3; found = now.4 }, now.5)

    -- the walk ends
    pub walk_done : (next : ℕ) (w : Walk) → IsWalkOf g nodes first total next w → length w.visits.keys ≤ next → IsWithin total (sought_at g nodes first) → HaveSame w.edges.items total
    walk_done next w h le within =
        let P : List Visit → Type 0 = λ vs. All (IsDone g nodes w.visits.keys w.edges.items) vs in
        let done = subst P (take_all next w.visits.keys le) h.done in
        (h.found, λ e c. all_found w.visits.keys w.edges.items done (steps_at nodes first) first (omega arith) h.begun e (within e c))
