-- The places in a graph of the edges to each vertex, and what is left of them.
use Rattle.std.proofs.Common.{◌≡◌, ◌≢◌, ℕ, suc, zero, ◌+◌, ◌<◌, ◌⊎◌, inl, inr, refl, sym, ◌∙◌, List, [], ◌∷◌, ◌++◌, length, get_or, map, ap, subst, arith, rules, Option, None, Some, Vec, Global, get_or-set_other, get_or-set_same}
use Rattle.std.specs.Prelude.{All, Contains, MatchOption}
use Rattle.std.proofs.Math.Logic.{⊎_elim}
use Rattle.std.proofs.Math.ListN.{set, length-set}
use Rattle.std.proofs.lemmas.List.{map-set, length-map, get_or-map, get_or_default}
use Rattle.std.proofs.lemmas.List.Elements.{Contains-push, Contains-push_cases, Contains-append_left, Contains-get_or}
use Rattle.std.proofs.lemmas.Bool.{cases_eq}
use Rattle.form_strata.specs.declared.order.Mark.{Mark}
use Rattle.form_strata.specs.declared.order.Mark.TheVariants.{Done}
use Rattle.form_strata.specs.Search.{mark_at, AreEdgesBelow, AreLeft}
use Rattle.form_strata.specs.Places.{edge_at, places_at, AreGrouped}

-- nothing is in an empty list
none_in : (xs : List ℕ) (x : ℕ) → xs ≡ [] → Contains xs x → ⊥
none_in xs x e c = let d = subst (λ (ys : List ℕ). Contains ys x) e c in absurd (omega (arith, d.1))

at_same : (places : List (List ℕ)) (v : ℕ) (xs : List ℕ) → v < length places → places_at (set places v xs) v ≡ xs
at_same places v xs within = rw get_or-set_same refl

at_other : (places : List (List ℕ)) (v u : ℕ) (xs : List ℕ) → u ≢ v → places_at (set places v xs) u ≡ places_at places u
at_other places v u xs apart = rw get_or-set_other refl

-- an empty list more
pub empty_pushed : (vs : List (Vec ℕ Global)) (w : Vec ℕ Global) → w.items ≡ [] → ((v : ℕ) → places_at (map (λ l. l.items) vs) v ≡ [])
    → (v : ℕ) → places_at (map (λ l. l.items) (vs ++ w ∷ [])) v ≡ []
empty_pushed [] w e h zero = e
empty_pushed [] w e h (suc v) = refl
empty_pushed (u ∷ vs) w e h zero = h 0
empty_pushed (u ∷ vs) w e h (suc v) = empty_pushed vs w e (λ k. h (suc k)) v

pub place_pushed : (vs : List (Vec ℕ Global)) (to place : ℕ) (old new : Vec ℕ Global) → to < length vs → old ≡ get_or vs to old → new.items ≡ old.items ++ place ∷ []
    → map (λ l. l.items) (set vs to new) ≡ set (map (λ l. l.items) vs) to (places_at (map (λ l. l.items) vs) to ++ place ∷ [])
place_pushed vs to place old new within is pushed =
    let items : Vec ℕ Global → List ℕ = λ l. l.items in
    let at : places_at (map items vs) to ≡ old.items = get_or-map items vs to old [] within ∙ ap items (sym is) in
    map-set items vs to new ∙ ap (λ xs. set (map items vs) to xs) (pushed ∙ ap (λ xs. xs ++ place ∷ []) (sym at))

-- at first no edge has its place there
pub grouped_start : (graph : List (ℕ × ℕ)) (n : ℕ) (vs : List (Vec ℕ Global)) → length vs ≡ n → ((v : ℕ) → places_at (map (λ l. l.items) vs) v ≡ [])
    → AreGrouped graph (length graph) n (map (λ l. l.items) vs)
grouped_start graph n vs size empty =
    let places : List (List ℕ) = map (λ l. l.items) vs in
    record {
      size = length-map vs (λ (l : Vec ℕ Global). l.items) ∙ size;
      sound = λ k b c. absurd (none_in (places_at places b) k (empty b) c);
      whole = λ k lt. inl lt;
    }

-- an edge leads to a vertex that has a list
pub place_within : (graph : List (ℕ × ℕ)) (n first k : ℕ) (vs : List (Vec ℕ Global)) → AreEdgesBelow graph n → k < length graph
    → AreGrouped graph first n (map (λ l. l.items) vs) → (edge_at graph k).1 < length vs
place_within graph n first k vs below lt h =
    omega (arith, (below (edge_at graph k).0 (edge_at graph k).1 (Contains-get_or graph k (0, 0) lt)).1, h.size, length-map vs (λ (l : Vec ℕ Global). l.items))

-- one edge more has its place in its list
pub grouped_step : (graph : List (ℕ × ℕ)) (n first : ℕ) (places places' : List (List ℕ)) → first < length graph → (edge_at graph first).1 < length places
    → places' ≡ set places (edge_at graph first).1 (places_at places (edge_at graph first).1 ++ first ∷ [])
    → AreGrouped graph (first + 1) n places → AreGrouped graph first n places'
grouped_step graph n first places places' there within f h =
    let to : ℕ = (edge_at graph first).1 in
    let more : List ℕ = places_at places to ++ first ∷ [] in
    let same : places_at places' to ≡ more = ap (λ xs. places_at xs to) f ∙ at_same places to more within in
    let other : (b : ℕ) → b ≢ to → places_at places' b ≡ places_at places b = λ b apart. ap (λ xs. places_at xs b) f ∙ at_other places to b more apart in
    record {
      size = ap length f ∙ (length-set places to more ∙ h.size);
      sound = λ k b c.
          ⊎_elim
          (λ (here : b ≡ to).
          let d : Contains more k = subst (λ (xs : List ℕ). Contains xs k) (ap (λ v. places_at places' v) here ∙ same) c in
          ⊎_elim (λ (early : Contains (places_at places to) k). ((h.sound k to early).0, (h.sound k to early).1 ∙ sym here))
          (λ (last : first ≡ k). (subst (λ (i : ℕ). i < length graph) last there, ap (λ i. (edge_at graph i).1) (sym last) ∙ sym here))
          (Contains-push_cases (places_at places to) first k d))
          (λ (apart : b ≢ to). h.sound k b (subst (λ (xs : List ℕ). Contains xs k) (other b apart) c))
          (cases_eq b to);
      whole = λ k lt.
          ⊎_elim
          (λ (early : k < first + 1).
          ⊎_elim (λ (less : k < first). inl less)
          (λ (last : k ≡ first).
          inr (subst (λ (i : ℕ). Contains (places_at places' (edge_at graph i).1) i) (sym last)
          (subst (λ (xs : List ℕ). Contains xs first) (sym same) (Contains-push (places_at places to) first))))
          (where_is k first early))
          (λ (kept : Contains (places_at places (edge_at graph k).1) k).
          ⊎_elim
          (λ (here : (edge_at graph k).1 ≡ to).
          let d : Contains (places_at places to) k = subst (λ (v : ℕ). Contains (places_at places v) k) here kept in
          inr (subst (λ (v : ℕ). Contains (places_at places' v) k) (sym here)
          (subst (λ (xs : List ℕ). Contains xs k) (sym same) (Contains-append_left (places_at places to) (first ∷ []) k d))))
          (λ (apart : (edge_at graph k).1 ≢ to). inr (subst (λ (xs : List ℕ). Contains xs k) (sym (other (edge_at graph k).1 apart)) kept))
          (cases_eq (edge_at graph k).1 to))
          (h.whole k lt);
    }
  where
    where_is : (i n : ℕ) → i < n + 1 → (i < n) ⊎ (i ≡ n)
    where_is i n h = search (rules, arith)

-- all are left at first
pub left_start : (graph : List (ℕ × ℕ)) (n : ℕ) (marks : List Mark) (places : List (List ℕ)) → length marks ≡ n → AreGrouped graph 0 n places → AreLeft graph marks places
left_start graph n marks places size h = record {
  size = h.size ∙ sym size;
  sound = h.sound;
  whole = λ k lt. ⊎_elim (λ (never : k < 0). absurd (omega (arith, never))) (λ (there : Contains (places_at places (edge_at graph k).1) k). inr there) (h.whole k lt);
}

-- all places in a list are places in the graph
pub places_small : (graph : List (ℕ × ℕ)) (marks : List Mark) (left : List (List ℕ)) (to : ℕ) (xs : List ℕ) → xs ≡ places_at left to → AreLeft graph marks left
    → All (λ k. k < length graph) xs
places_small graph marks left to xs e h k d lt =
    (h.sound (get_or xs k d) to (subst (λ (ys : List ℕ). Contains ys (get_or xs k d)) e (Contains-get_or xs k d lt))).0

-- places of edges from vertices that are done are taken from one list
pub left_taken : (graph : List (ℕ × ℕ)) (marks : List Mark) (left left' : List (List ℕ)) (to : ℕ) (xs : List ℕ) → to < length left → left' ≡ set left to xs
    → ((k : ℕ) → Contains xs k → Contains (places_at left to) k)
    → ((k : ℕ) → Contains (places_at left to) k → (mark_at marks (edge_at graph k).0 ≡ Done) ⊎ Contains xs k)
    → AreLeft graph marks left → AreLeft graph marks left'
left_taken graph marks left left' to xs within f kept taken h =
    let same : places_at left' to ≡ xs = ap (λ ys. places_at ys to) f ∙ at_same left to xs within in
    let other : (b : ℕ) → b ≢ to → places_at left' b ≡ places_at left b = λ b apart. ap (λ ys. places_at ys b) f ∙ at_other left to b xs apart in
    record {
      size = ap length f ∙ (length-set left to xs ∙ h.size);
      sound = λ k b c.
          ⊎_elim
          (λ (here : b ≡ to).
          let s = h.sound k to (kept k (subst (λ (ys : List ℕ). Contains ys k) (ap (λ v. places_at left' v) here ∙ same) c)) in (s.0, s.1 ∙ sym here))
          (λ (apart : b ≢ to). h.sound k b (subst (λ (ys : List ℕ). Contains ys k) (other b apart) c))
          (cases_eq b to);
      whole = λ k lt.
          ⊎_elim (λ (done : mark_at marks (edge_at graph k).0 ≡ Done). inl done)
          (λ (there : Contains (places_at left (edge_at graph k).1) k).
          ⊎_elim
          (λ (here : (edge_at graph k).1 ≡ to).
          ⊎_elim (λ (done : mark_at marks (edge_at graph k).0 ≡ Done). inl done)
          (λ (still : Contains xs k).
          inr (subst (λ (v : ℕ). Contains (places_at left' v) k) (sym here) (subst (λ (ys : List ℕ). Contains ys k) (sym same) still)))
          (taken k (subst (λ (v : ℕ). Contains (places_at left v) k) here there)))
          (λ (apart : (edge_at graph k).1 ≢ to). inr (subst (λ (ys : List ℕ). Contains ys k) (sym (other (edge_at graph k).1 apart)) there))
          (cases_eq (edge_at graph k).1 to))
          (h.whole k lt);
    }

-- what is found in one list is found of the graph
pub left_found : (graph : List (ℕ × ℕ)) (marks : List Mark) (left : List (List ℕ)) (to : ℕ) (xs : List ℕ) (found : Option ℕ)
    → ((k : ℕ) → Contains xs k → Contains (places_at left to) k)
    → ((k : ℕ) → Contains (places_at left to) k → (mark_at marks (edge_at graph k).0 ≡ Done) ⊎ Contains xs k)
    → AreLeft graph marks left → MatchOption found (xs ≡ []) (λ a. (k : ℕ) × Contains xs k × ((edge_at graph k).0 ≡ a) × (mark_at marks a ≢ Done))
    → MatchOption found ((a : ℕ) → Contains graph (a, to) → mark_at marks a ≡ Done) (λ a. Contains graph (a, to) × (mark_at marks a ≢ Done))
left_found graph marks left to xs None kept taken h empty = λ a c.
    let is : edge_at graph c.0 ≡ (a, to) = get_or_default graph c.0 (0, 0) (a, to) c.1 ∙ c.2 in
    let done : mark_at marks (edge_at graph c.0).0 ≡ Done =
    ⊎_elim (λ (done : mark_at marks (edge_at graph c.0).0 ≡ Done). done)
    (λ (there : Contains (places_at left (edge_at graph c.0).1) c.0).
    ⊎_elim (λ (done : mark_at marks (edge_at graph c.0).0 ≡ Done). done) (λ (still : Contains xs c.0). absurd (none_in xs c.0 empty still))
    (taken c.0 (subst (λ (v : ℕ). Contains (places_at left v) c.0) (ap (λ e. e.1) is) there)))
    (h.whole c.0 c.1) in
    subst (λ (v : ℕ). mark_at marks v ≡ Done) (ap (λ e. e.0) is) done
left_found graph marks left to xs (Some a) kept taken h last =
    let s = h.sound last.0 to (kept last.0 last.1) in
    let there : Contains graph (edge_at graph last.0) = Contains-get_or graph last.0 (0, 0) s.0 in
    (subst (λ (e : ℕ × ℕ). Contains graph e) (pair_is (edge_at graph last.0) a to last.2 s.1) there, last.3)
  where
    pair_is : (e : ℕ × ℕ) (a b : ℕ) → e.0 ≡ a → e.1 ≡ b → e ≡ (a, b)
    pair_is e a b p q = ap (λ x. (x, e.1)) p ∙ ap (λ y. (a, y)) q

-- each vertex has a list
pub left_within : (graph : List (ℕ × ℕ)) (marks : List Mark) (vs : List (Vec ℕ Global)) (to : ℕ) → to < length marks → AreLeft graph marks (map (λ l. l.items) vs) → to < length vs
left_within graph marks vs to within h = omega (arith, within, h.size, length-map vs (λ (l : Vec ℕ Global). l.items))

-- the same of a list in a list of lists
module _ (graph : List (ℕ × ℕ)) (marks : List Mark) (vs : List (Vec ℕ Global)) (to : ℕ) (old : Vec ℕ Global) (within : to < length marks) (is : old ≡ get_or vs to old)
    (h : AreLeft graph marks (map (λ l. l.items) vs)) where
  inside : to < length vs
  inside = left_within graph marks vs to within h

  own : old.items ≡ places_at (map (λ l. l.items) vs) to
  own = sym (get_or-map (λ (l : Vec ℕ Global). l.items) vs to old [] inside ∙ ap (λ (l : Vec ℕ Global). l.items) (sym is))

  pub list_small : All (λ k. k < length graph) old.items
  list_small = places_small graph marks (map (λ l. l.items) vs) to old.items own h

  pub list_taken : (new : Vec ℕ Global) → ((k : ℕ) → Contains new.items k → Contains old.items k)
      → ((k : ℕ) → Contains old.items k → (mark_at marks (edge_at graph k).0 ≡ Done) ⊎ Contains new.items k) → AreLeft graph marks (map (λ l. l.items) (set vs to new))
  list_taken new kept taken =
      left_taken graph marks (map (λ l. l.items) vs) (map (λ l. l.items) (set vs to new)) to new.items
      (omega (arith, inside, length-map vs (λ (l : Vec ℕ Global). l.items))) (map-set (λ (l : Vec ℕ Global). l.items) vs to new)
      (λ k c. subst (λ (xs : List ℕ). Contains xs k) own (kept k c)) (λ k c. taken k (subst (λ (xs : List ℕ). Contains xs k) (sym own) c)) h

  pub list_found : (new : Vec ℕ Global) (found : Option ℕ) → ((k : ℕ) → Contains new.items k → Contains old.items k)
      → ((k : ℕ) → Contains old.items k → (mark_at marks (edge_at graph k).0 ≡ Done) ⊎ Contains new.items k)
      → MatchOption found (new.items ≡ []) (λ a. (k : ℕ) × Contains new.items k × ((edge_at graph k).0 ≡ a) × (mark_at marks a ≢ Done))
      → MatchOption found ((a : ℕ) → Contains graph (a, to) → mark_at marks a ≡ Done) (λ a. Contains graph (a, to) × (mark_at marks a ≢ Done))
  list_found new found kept taken last =
      left_found graph marks (map (λ l. l.items) vs) to new.items found (λ k c. subst (λ (xs : List ℕ). Contains xs k) own (kept k c))
      (λ k c. taken k (subst (λ (xs : List ℕ). Contains xs k) (sym own) c)) h last

-- other vertices are done
pub left_marked : (graph : List (ℕ × ℕ)) (marks marks' : List Mark) (left left' : List (List ℕ)) → left' ≡ left → length marks' ≡ length marks
    → ((v : ℕ) → mark_at marks v ≡ Done → mark_at marks' v ≡ Done) → AreLeft graph marks left → AreLeft graph marks' left'
left_marked graph marks marks' left left' e size more h =
    subst (λ (ls : List (List ℕ)). AreLeft graph marks' ls) (sym e)
    (record {
      size = h.size ∙ sym size;
      sound = h.sound;
      whole = λ k lt.
          ⊎_elim (λ (done : mark_at marks (edge_at graph k).0 ≡ Done). inl (more (edge_at graph k).0 done))
          (λ (there : Contains (places_at left (edge_at graph k).1) k). inr there) (h.whole k lt);
    })
