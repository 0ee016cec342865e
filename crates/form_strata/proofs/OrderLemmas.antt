-- The steps of a search for an order.
use Rattle.std.proofs.Common.{◌≡◌, ◌≢◌, ℕ, ◌+◌, ◌<◌, ◌≤◌, ◌⊎◌, inl, inr, Bool, true, false, cond, refl, sym, ◌∙◌, List, [], ◌∷◌, ◌++◌, length, get_or, ap, subst, arith, rules, Option, None, Some, length-append, get_or-set_other, get_or-set_same}
use Rattle.std.specs.Prelude.{All, AllPairs, Contains, MatchOption, sum_by}
use Rattle.std.proofs.Math.Logic.{⊎_elim}
use Rattle.std.proofs.Math.ListN.{set, length-set}
use Rattle.std.proofs.Math.Seq.{get_or-append_seam}
use Rattle.std.proofs.lemmas.List.{get_or_append_left, get_or_default}
use Rattle.std.proofs.lemmas.List.Elements.{All-push, Contains-push, Contains-push_cases, Contains-append_left}
use Rattle.std.proofs.lemmas.Bool.{cases_eq}
use Rattle.std.proofs.lemmas.List.Sums.{sum_by-set}
use Rattle.form_strata.specs.declared.order.Mark.{Mark}
use Rattle.form_strata.specs.declared.order.Mark.TheVariants.{Unseen, Open, Done}
use Rattle.form_strata.specs.declared.order.Search.{Search}
use Rattle.form_strata.specs.Order.{IsBefore, IsOrder, IsCycle}
use Rattle.form_strata.specs.Search.{mark_at, is_done_mark, AreEdgesBelow, AreLeft, LeadsOn, IsPath, IsState, IsSearch, weight, last_of, IsTurn, IsBegun}
use Rattle.form_strata.specs.Places.{edge_at}
use Rattle.form_strata.specs.SortGraph.{IsWalk}
use Rattle.form_strata.proofs.PlaceLemmas.{left_marked}

mark_same : (marks : List Mark) (v : ℕ) (m : Mark) → v < length marks → mark_at (set marks v m) v ≡ m
mark_same marks v m within = rw get_or-set_same refl

mark_other : (marks : List Mark) (v u : ℕ) (m : Mark) → u ≢ v → mark_at (set marks v m) u ≡ mark_at marks u
mark_other marks v u m apart = rw get_or-set_other refl

-- a vertex that nothing else happened to, or this one
same_or_not : (u v : ℕ) → (u ≡ v) ⊎ (u ≢ v)
same_or_not u v = cases_eq u v

-- the last vertex of a path is taken, or one more put
pub path_split : (graph : List (ℕ × ℕ)) (xs : List ℕ) (w : ℕ) → IsPath graph (xs ++ w ∷ []) → IsPath graph xs
path_split graph [] w h = tt
path_split graph (v ∷ []) w h = tt
path_split graph (v ∷ u ∷ xs) w h = (h.0, path_split graph (u ∷ xs) w h.1)

pub path_push : (graph : List (ℕ × ℕ)) (xs : List ℕ) (w : ℕ) → IsPath graph xs → LeadsOn graph xs w → IsPath graph (xs ++ w ∷ [])
path_push graph [] w h k = tt
path_push graph (v ∷ []) w h k = (k, tt)
path_push graph (v ∷ u ∷ xs) w h k = (h.0, path_push graph (u ∷ xs) w h.1 k)

pub leads_on : (graph : List (ℕ × ℕ)) (xs : List ℕ) (v from : ℕ) → Contains graph (from, v) → LeadsOn graph (xs ++ v ∷ []) from
leads_on graph [] v from h = h
leads_on graph (x ∷ []) v from h = h
leads_on graph (x ∷ y ∷ xs) v from h = leads_on graph (y ∷ xs) v from h

pub led_on : (graph : List (ℕ × ℕ)) (xs : List ℕ) (v from : ℕ) → LeadsOn graph (xs ++ v ∷ []) from → Contains graph (from, v)
led_on graph [] v from h = h
led_on graph (x ∷ []) v from h = h
led_on graph (x ∷ y ∷ xs) v from h = led_on graph (y ∷ xs) v from h

-- a path goes on to the vertex before its last one
pub path_leads : (graph : List (ℕ × ℕ)) (xs : List ℕ) (w : ℕ) → IsPath graph (xs ++ w ∷ []) → LeadsOn graph xs w
path_leads graph [] w h = tt
path_leads graph (v ∷ []) w h = h.0
path_leads graph (v ∷ u ∷ xs) w h = path_leads graph (u ∷ xs) w h.1

All_front : (P : ℕ → Type 0) (xs : List ℕ) (y : ℕ) → All P (xs ++ y ∷ []) → All P xs
All_front P xs y h k d lt =
    subst P (get_or_append_left xs (y ∷ []) d k lt) (h k d (omega (arith, length-append xs (y ∷ []))))

-- what stands before in an order does so in a longer one
before_more : (xs : List ℕ) (y a b : ℕ) → IsBefore xs a b → IsBefore (xs ++ y ∷ []) a b
before_more xs y a b h = record {
  first = h.first;
  second = h.second;
  rises = h.rises;
  within = omega (arith, h.within, length-append xs (y ∷ []));
  at_first = get_or_append_left xs (y ∷ []) 0 h.first (omega (arith, h.rises, h.within)) ∙ h.at_first;
  at_second = get_or_append_left xs (y ∷ []) 0 h.second h.within ∙ h.at_second;
}

-- what is there stands before what is put last
before_last : (xs : List ℕ) (a b : ℕ) → Contains xs a → IsBefore (xs ++ b ∷ []) a b
before_last xs a b h = record {
  first = h.0;
  second = length xs;
  rises = h.1;
  within = omega (arith, length-append xs (b ∷ []));
  at_first = get_or_append_left xs (b ∷ []) 0 h.0 h.1 ∙ (get_or_default xs h.0 0 a h.1 ∙ h.2);
  at_second = get_or-append_seam xs b [] 0;
}

once_push : (xs : List ℕ) (y : ℕ) → AllPairs (λ a b. a ≢ b) xs → (Contains xs y → ⊥) → AllPairs (λ a b. a ≢ b) (xs ++ y ∷ [])
once_push xs y h absent i j d lt within e =
    let l = length-append xs (y ∷ []) in
    let left : get_or (xs ++ y ∷ []) i d ≡ get_or xs i d = get_or_append_left xs (y ∷ []) d i (omega arith) in
    ⊎_elim
    (λ (early : j < length xs). h i j d lt early (sym left ∙ (e ∙ get_or_append_left xs (y ∷ []) d j early)))
    (λ (late : j ≡ length xs).
    let last : get_or (xs ++ y ∷ []) j d ≡ y = ap (λ k. get_or (xs ++ y ∷ []) k d) late ∙ get_or-append_seam xs y [] d in
    let within_xs : i < length xs = omega arith in
    absent (i, within_xs, get_or_default xs i y d within_xs ∙ (sym left ∙ (e ∙ last))))
    (where_is j (length xs) (omega (arith, l)))
  where
    where_is : (i n : ℕ) → i < n + 1 → (i < n) ⊎ (i ≡ n)
    where_is i n h = search (rules, arith)

not_done : (m : Mark) → is_done_mark m ≡ false → m ≡ Done → ⊥
not_done Unseen e h = cc
not_done Open e h = cc
not_done Done e h = cc

is_done_then : (m : Mark) → is_done_mark m ≡ true → m ≡ Done
is_done_then Unseen e = cc
is_done_then Open e = cc
is_done_then Done e = refl

-- what a look at the edges to a vertex gives
abbrev pub Found : List (ℕ × ℕ) → List Mark → ℕ → Option ℕ → Type 0
Found graph marks v found =
    MatchOption found ((a : ℕ) → Contains graph (a, v) → mark_at marks a ≡ Done) (λ a. Contains graph (a, v) × (mark_at marks a ≢ Done))

pub found_none : (graph : List (ℕ × ℕ)) (marks : List Mark) (v : ℕ) (found : Option ℕ) → found ≡ None → Found graph marks v found
    → (a : ℕ) → Contains graph (a, v) → mark_at marks a ≡ Done
found_none graph marks v found is h = subst (Found graph marks v) is h

pub found_some : (graph : List (ℕ × ℕ)) (marks : List Mark) (v from : ℕ) (found : Option ℕ) → found ≡ Some from → Found graph marks v found
    → Contains graph (from, v) × (mark_at marks from ≢ Done)
found_some graph marks v from found is h = subst (Found graph marks v) is h

-- the places that are left stay right where a vertex is done, or one that is not done comes on the path
pub left_finished : (graph : List (ℕ × ℕ)) (marks marks' : List Mark) (left left' : List (List ℕ)) (v : ℕ) → v < length marks → left' ≡ left → marks' ≡ set marks v Done
    → AreLeft graph marks left → AreLeft graph marks' left'
left_finished graph marks marks' left left' v within l m h =
    left_marked graph marks marks' left left' l (ap length m ∙ length-set marks v Done) (λ u is. subst (λ (ms : List Mark). mark_at ms u ≡ Done) (sym m) (kept u is)) h
  where
    kept : (u : ℕ) → mark_at marks u ≡ Done → mark_at (set marks v Done) u ≡ Done
    kept u is =
        ⊎_elim (λ (same : u ≡ v). let P : ℕ → Type 0 = λ k. mark_at (set marks v Done) k ≡ Done in subst P (sym same) (mark_same marks v Done within))
        (λ (apart : u ≢ v). mark_other marks v u Done apart ∙ is) (same_or_not u v)

pub left_entered : (graph : List (ℕ × ℕ)) (marks marks' : List Mark) (left left' : List (List ℕ)) (v : ℕ) → (mark_at marks v ≡ Done → ⊥) → left' ≡ left → marks' ≡ set marks v Open
    → AreLeft graph marks left → AreLeft graph marks' left'
left_entered graph marks marks' left left' v fresh l m h =
    left_marked graph marks marks' left left' l (ap length m ∙ length-set marks v Open) (λ u is. subst (λ (ms : List Mark). mark_at ms u ≡ Done) (sym m) (kept u is)) h
  where
    kept : (u : ℕ) → mark_at marks u ≡ Done → mark_at (set marks v Open) u ≡ Done
    kept u is =
        ⊎_elim (λ (same : u ≡ v). let P : ℕ → Type 0 = λ k. mark_at marks k ≡ Done in absurd (fresh (subst P same is)))
        (λ (apart : u ≢ v). mark_other marks v u Open apart ∙ is) (same_or_not u v)

pub fewer_left : (marks : List Mark) (v : ℕ) → v < length marks → sum_by weight (set marks v Done) ≤ sum_by weight marks
fewer_left marks v within = omega (arith, sum_by-set weight marks v Done Unseen within)

pub two_fewer : (marks : List Mark) (v : ℕ) → v < length marks → mark_at marks v ≡ Unseen → sum_by weight (set marks v Open) + 2 ≡ sum_by weight marks
two_fewer marks v within unseen = omega (arith, sum_by-set weight marks v Open Unseen within, ap weight unseen)

unseen_else : (m : Mark) → (m ≡ Done → ⊥) → (m ≡ Open → ⊥) → m ≡ Unseen
unseen_else Unseen p q = refl
unseen_else Open p q = absurd (q refl)
unseen_else Done p q = absurd (p refl)

pub is_unseen : (m : Mark) → (m ≡ Done → ⊥) → (m ≡ Open → ⊥) → m ≡ Unseen
is_unseen m p q = unseen_else m p q

-- no vertex is unseen again
pub seen_kept : (marks : List Mark) (v u : ℕ) (m : Mark) → v < length marks → (m ≡ Unseen → ⊥) → (mark_at marks u ≡ Unseen → ⊥) → mark_at (set marks v m) u ≡ Unseen → ⊥
seen_kept marks v u m within seen was now =
    ⊎_elim
    (λ (same : u ≡ v). let P : ℕ → Type 0 = λ k. mark_at (set marks v m) k ≡ Unseen in seen (sym (mark_same marks v m within) ∙ subst P same now))
    (λ (apart : u ≢ v). was (sym (mark_other marks v u m apart) ∙ now))
    (same_or_not u v)

module _ (graph : List (ℕ × ℕ)) (n : ℕ) (marks : List Mark) (path order : List ℕ) where
  -- a vertex that is done already leaves the path
  pub finish_again : (v : ℕ) → mark_at marks v ≡ Done → IsState graph n marks (path ++ v ∷ []) order → IsState graph n (set marks v Done) path order
  finish_again v is s =
      let within : v < n = let h = s.path_small (length path) 0 (omega (arith, length-append path (v ∷ []))) in
      let P : ℕ → Type 0 = λ x. x < n in subst P (get_or-append_seam path v [] 0) h in
      let inside : v < length marks = omega (arith, s.size) in
      let kept : (u : ℕ) → mark_at (set marks v Done) u ≡ mark_at marks u =
      λ u. ⊎_elim
      (λ (same : u ≡ v). let P : ℕ → Type 0 = λ k. mark_at (set marks v Done) k ≡ mark_at marks k in subst P (sym same) (mark_same marks v Done inside ∙ sym is))
      (λ (apart : u ≢ v). mark_other marks v u Done apart) (same_or_not u v) in
      record {
        size = length-set marks v Done ∙ s.size;
        done = λ u lt h. s.done u lt (sym (kept u) ∙ h);
        ordered = λ u h. kept u ∙ s.ordered u h;
        small = s.small;
        once = s.once;
        forward = s.forward;
        on_path = path_split graph path v s.on_path;
        opened = λ u lt h.
            ⊎_elim (λ (there : Contains path u). there)
            (λ (top : v ≡ u).
            let P : ℕ → Type 0 = λ k. mark_at marks k ≡ Open in
            let open_v : mark_at marks v ≡ Open = subst P (sym top) (sym (kept u) ∙ h) in
            let never : Done ≡ Open = sym is ∙ open_v in cc)
            (Contains-push_cases path v u (s.opened u lt (sym (kept u) ∙ h)));
        path_small = All_front (λ v. v < n) path v s.path_small;
      }

  -- a vertex whose predecessors are all done leaves the path and comes in order
  pub finish_new : (v : ℕ) → AreEdgesBelow graph n → (mark_at marks v ≡ Done → ⊥) → ((a : ℕ) → Contains graph (a, v) → mark_at marks a ≡ Done)
      → IsState graph n marks (path ++ v ∷ []) order → IsState graph n (set marks v Done) path (order ++ v ∷ [])
  finish_new v below fresh preds s =
      let within : v < n = let h = s.path_small (length path) 0 (omega (arith, length-append path (v ∷ []))) in
      let P : ℕ → Type 0 = λ x. x < n in subst P (get_or-append_seam path v [] 0) h in
      let inside : v < length marks = omega (arith, s.size) in
      let here : mark_at (set marks v Done) v ≡ Done = mark_same marks v Done inside in
      record {
        size = length-set marks v Done ∙ s.size;
        done = λ u lt h.
            ⊎_elim
            (λ (same : u ≡ v). let P : ℕ → Type 0 = λ k. Contains (order ++ v ∷ []) k in subst P (sym same) (Contains-push order v))
            (λ (apart : u ≢ v). Contains-append_left order (v ∷ []) u (s.done u lt (sym (mark_other marks v u Done apart) ∙ h)))
            (same_or_not u v);
        ordered = λ u h.
            ⊎_elim
            (λ (same : u ≡ v). let P : ℕ → Type 0 = λ k. mark_at (set marks v Done) k ≡ Done in subst P (sym same) here)
            (λ (apart : u ≢ v).
            mark_other marks v u Done apart
            ∙ s.ordered u (⊎_elim (λ (there : Contains order u). there) (λ (last : v ≡ u). absurd (apart (sym last))) (Contains-push_cases order v u h)))
            (same_or_not u v);
        small = All-push (λ v. v < n) order v s.small within;
        once = once_push order v s.once (λ h. fresh (s.ordered v h));
        forward = λ a b e h.
            ⊎_elim
            (λ (there : Contains order b). before_more order v a b (s.forward a b e there))
            (λ (last : v ≡ b).
            let P : ℕ → Type 0 = λ k. IsBefore (order ++ v ∷ []) a k in
            let E : ℕ → Type 0 = λ k. Contains graph (a, k) in
            let edge : Contains graph (a, v) = subst E (sym last) e in
            subst P last (before_last order a v (s.done a (below a v edge).0 (preds a edge))))
            (Contains-push_cases order v b h);
        on_path = path_split graph path v s.on_path;
        opened = λ u lt h.
            ⊎_elim
            (λ (same : u ≡ v).
            let P : ℕ → Type 0 = λ k. mark_at (set marks v Done) k ≡ Open in
            let never : Done ≡ Open = sym here ∙ subst P same h in cc)
            (λ (apart : u ≢ v).
            ⊎_elim (λ (there : Contains path u). there) (λ (top : v ≡ u). absurd (apart (sym top)))
            (Contains-push_cases path v u (s.opened u lt (sym (mark_other marks v u Done apart) ∙ h))))
            (same_or_not u v);
        path_small = All_front (λ v. v < n) path v s.path_small;
      }

  -- a vertex that was not seen and leads to the last one of the path comes on the path
  pub enter_new : (from : ℕ) → from < n → (mark_at marks from ≡ Done → ⊥) → LeadsOn graph path from → IsState graph n marks path order
      → IsState graph n (set marks from Open) (path ++ from ∷ []) order
  enter_new from within fresh leads s =
      let inside : from < length marks = omega (arith, s.size) in
      let here : mark_at (set marks from Open) from ≡ Open = mark_same marks from Open inside in
      record {
        size = length-set marks from Open ∙ s.size;
        done = λ u lt h.
            ⊎_elim
            (λ (same : u ≡ from).
            let P : ℕ → Type 0 = λ k. mark_at (set marks from Open) k ≡ Done in
            let never : Open ≡ Done = sym here ∙ subst P same h in cc)
            (λ (apart : u ≢ from). s.done u lt (sym (mark_other marks from u Open apart) ∙ h))
            (same_or_not u from);
        ordered = λ u h.
            ⊎_elim
            (λ (same : u ≡ from). let P : ℕ → Type 0 = λ k. mark_at marks k ≡ Done in absurd (fresh (subst P same (s.ordered u h))))
            (λ (apart : u ≢ from). mark_other marks from u Open apart ∙ s.ordered u h)
            (same_or_not u from);
        small = s.small;
        once = s.once;
        forward = s.forward;
        on_path = path_push graph path from s.on_path leads;
        opened = λ u lt h.
            ⊎_elim
            (λ (same : u ≡ from). let P : ℕ → Type 0 = λ k. Contains (path ++ from ∷ []) k in subst P (sym same) (Contains-push path from))
            (λ (apart : u ≢ from). Contains-append_left path (from ∷ []) u (s.opened u lt (sym (mark_other marks from u Open apart) ∙ h)))
            (same_or_not u from);
        path_small = All-push (λ v. v < n) path from s.path_small within;
      }

pub finish_keeps : (graph : List (ℕ × ℕ)) (n : ℕ) (marks marks' : List Mark) (top path path' order order' : List ℕ) (v : ℕ) → AreEdgesBelow graph n
    → ((a : ℕ) → Contains graph (a, v) → mark_at marks a ≡ Done) → top ≡ path ++ v ∷ [] → IsState graph n marks top order
    → marks' ≡ set marks v Done → path' ≡ path → order' ≡ cond (is_done_mark (mark_at marks v)) order (order ++ v ∷ [])
    → IsState graph n marks' path' order'
finish_keeps graph n marks marks' top path path' order order' v below preds e s m p o = go (is_done_mark (mark_at marks v)) refl where
  go : (b : Bool) → is_done_mark (mark_at marks v) ≡ b → IsState graph n marks' path' order'
  go true is =
      let before : IsState graph n marks (path ++ v ∷ []) order = subst (λ (xs : List ℕ). IsState graph n marks xs order) e s in
      let after : IsState graph n (set marks v Done) path order = finish_again graph n marks path order v (is_done_then (mark_at marks v) is) before in
      let same : order' ≡ order = o ∙ ap (λ b. cond b order (order ++ v ∷ [])) is in
      subst (λ (xs : List Mark). IsState graph n xs path' order') (sym m)
      (subst (λ (xs : List ℕ). IsState graph n (set marks v Done) xs order') (sym p) (subst (λ (xs : List ℕ). IsState graph n (set marks v Done) path xs) (sym same) after))
  go false is =
      let before : IsState graph n marks (path ++ v ∷ []) order = subst (λ (xs : List ℕ). IsState graph n marks xs order) e s in
      let after : IsState graph n (set marks v Done) path (order ++ v ∷ []) = finish_new graph n marks path order v below (not_done (mark_at marks v) is) preds before in
      let same : order' ≡ order ++ v ∷ [] = o ∙ ap (λ b. cond b order (order ++ v ∷ [])) is in
      subst (λ (xs : List Mark). IsState graph n xs path' order') (sym m)
      (subst (λ (xs : List ℕ). IsState graph n (set marks v Done) xs order') (sym p) (subst (λ (xs : List ℕ). IsState graph n (set marks v Done) path xs) (sym same) after))

pub top_small : (n : ℕ) (top path : List ℕ) (v : ℕ) → top ≡ path ++ v ∷ [] → All (λ v. v < n) top → v < n
top_small n top path v e all =
    let h = all (length path) 0 (omega (arith, ap length e, length-append path (v ∷ []))) in
    subst (λ (x : ℕ). x < n) (ap (λ xs. get_or xs (length path) 0) e ∙ get_or-append_seam path v [] 0) h

pub state_at : (graph : List (ℕ × ℕ)) (n : ℕ) (marks marks' : List Mark) (path path' order order' : List ℕ) → marks' ≡ marks → path' ≡ path → order' ≡ order
    → IsState graph n marks path order → IsState graph n marks' path' order'
state_at graph n marks marks' path path' order order' m p o s =
    subst (λ (xs : List Mark). IsState graph n xs path' order') (sym m)
    (subst (λ (xs : List ℕ). IsState graph n marks xs order') (sym p) (subst (λ (xs : List ℕ). IsState graph n marks path xs) (sym o) s))

-- the last place of a list is taken, since its edge leads from a vertex that is done
pub place_taken : (graph : List (ℕ × ℕ)) (marks : List Mark) (whole top places : List ℕ) (place : ℕ) → top ≡ places ++ place ∷ [] → mark_at marks (edge_at graph place).0 ≡ Done
    → All (λ k. k < length graph) top × ((k : ℕ) → Contains top k → Contains whole k)
    × ((k : ℕ) → Contains whole k → (mark_at marks (edge_at graph k).0 ≡ Done) ⊎ Contains top k)
    → All (λ k. k < length graph) places × ((k : ℕ) → Contains places k → Contains whole k)
    × ((k : ℕ) → Contains whole k → (mark_at marks (edge_at graph k).0 ≡ Done) ⊎ Contains places k)
place_taken graph marks whole top places place e done h = (
  All_front (λ k. k < length graph) places place (subst (λ (xs : List ℕ). All (λ k. k < length graph) xs) e h.0),
  λ k c. h.1 k (subst (λ (xs : List ℕ). Contains xs k) (sym e) (Contains-append_left places (place ∷ []) k c)),
  λ k c.
      ⊎_elim (λ (is : mark_at marks (edge_at graph k).0 ≡ Done). inl is)
      (λ (there : Contains top k).
      ⊎_elim (λ (early : Contains places k). inr early)
      (λ (last : place ≡ k). inl (subst (λ (i : ℕ). mark_at marks (edge_at graph i).0 ≡ Done) last done))
      (Contains-push_cases places place k (subst (λ (xs : List ℕ). Contains xs k) e there)))
      (h.2 k c),
)

walk_push : (graph : List (ℕ × ℕ)) (from : ℕ) (xs : List ℕ) (v : ℕ) → IsWalk graph from xs → Contains graph (last_of from xs, v) → IsWalk graph from (xs ++ v ∷ [])
walk_push graph from [] v h k = (k, tt)
walk_push graph from (x ∷ xs) v h k = (h.0, walk_push graph x xs v h.1 k)

last_pushed : (from : ℕ) (xs : List ℕ) (v : ℕ) → last_of from (xs ++ v ∷ []) ≡ v
last_pushed from [] v = refl
last_pushed from (x ∷ xs) v = last_pushed x xs v

pub turn_start : (graph : List (ℕ × ℕ)) (from : ℕ) (path : List ℕ) → IsPath graph path → Contains path from → LeadsOn graph path from → IsTurn graph from path (from ∷ [])
turn_start graph from path h c l = record { walked = []; so_far = refl; walk = tt; on_path = h; ahead = c; leads = l }

turn_edge : (graph : List (ℕ × ℕ)) (from v : ℕ) (top path cycle : List ℕ) → top ≡ path ++ v ∷ [] → (t : IsTurn graph from top cycle) → IsWalk graph from (t.walked ++ v ∷ [])
turn_edge graph from v top path cycle e t =
    walk_push graph from t.walked v t.walk (led_on graph path v (last_of from t.walked) (subst (λ (xs : List ℕ). LeadsOn graph xs (last_of from t.walked)) e t.leads))

pub turn_step : (graph : List (ℕ × ℕ)) (from v : ℕ) (top path cycle cycle' : List ℕ) → top ≡ path ++ v ∷ [] → cycle' ≡ cycle ++ v ∷ [] → (v ≡ from → ⊥)
    → IsTurn graph from top cycle → IsTurn graph from path cycle'
turn_step graph from v top path cycle cycle' e f other t =
    let whole : IsPath graph (path ++ v ∷ []) = subst (λ (xs : List ℕ). IsPath graph xs) e t.on_path in
    record {
      walked = t.walked ++ v ∷ [];
      so_far = f ∙ ap (λ xs. xs ++ v ∷ []) t.so_far;
      walk = turn_edge graph from v top path cycle e t;
      on_path = path_split graph path v whole;
      ahead =
          ⊎_elim (λ (there : Contains path from). there) (λ (last : v ≡ from). absurd (other last))
          (Contains-push_cases path v from (subst (λ (xs : List ℕ). Contains xs from) e t.ahead));
      leads = subst (λ (x : ℕ). LeadsOn graph path x) (sym (last_pushed from t.walked v)) (path_leads graph path v whole);
    }

pub turn_end : (graph : List (ℕ × ℕ)) (from v : ℕ) (top path cycle cycle' : List ℕ) → top ≡ path ++ v ∷ [] → cycle' ≡ cycle ++ v ∷ [] → v ≡ from
    → IsTurn graph from top cycle → IsCycle graph cycle'
turn_end graph from v top path cycle cycle' e f same t =
    let is : cycle' ≡ from ∷ (t.walked ++ v ∷ []) = f ∙ ap (λ xs. xs ++ v ∷ []) t.so_far in
    subst (λ (xs : List ℕ). IsCycle graph xs) (sym is)
    (t.walked, ap (λ x. t.walked ++ x ∷ []) same, turn_edge graph from v top path cycle e t)

-- all vertices are done at the end
pub all_done : (graph : List (ℕ × ℕ)) (n : ℕ) (marks : List Mark) (path order : List ℕ) → AreEdgesBelow graph n → IsState graph n marks path order → path ≡ []
    → ((v : ℕ) → v < n → mark_at marks v ≡ Unseen → ⊥) → IsOrder graph n order
all_done graph n marks path order below s empty seen =
    let none : (v : ℕ) → v < n → mark_at marks v ≡ Open → ⊥ =
    λ v lt h. let c = subst (λ (xs : List ℕ). Contains xs v) empty (s.opened v lt h) in absurd (omega (arith, c.1)) in
    let done : (v : ℕ) → v < n → Contains order v =
    λ v lt. s.done v lt (done_else (mark_at marks v) (seen v lt) (none v lt)) in
    record {
      all = done;
      only = s.small;
      once = s.once;
      forward = λ a b e. s.forward a b e (done b (below a b e).1);
    }
  where
    done_else : (m : Mark) → (m ≡ Unseen → ⊥) → (m ≡ Open → ⊥) → m ≡ Done
    done_else Unseen p q = absurd (p refl)
    done_else Open p q = absurd (q refl)
    done_else Done p q = refl

pub begun_new : (graph : List (ℕ × ℕ)) (n : ℕ) (marks marks' : List Mark) (path path' order order' : List ℕ) (start : ℕ) → start < n → (mark_at marks start ≡ Done → ⊥)
    → IsState graph n marks path order → path ≡ [] → marks' ≡ set marks start Open → path' ≡ path ++ start ∷ [] → order' ≡ order
    → IsState graph n marks' path' order' × ((v : ℕ) → (mark_at marks v ≢ Unseen) ⊎ (v ≡ start) → mark_at marks' v ≢ Unseen)
begun_new graph n marks marks' path path' order order' start lt fresh s empty m p o =
    let leads : LeadsOn graph path start = subst (λ (xs : List ℕ). LeadsOn graph xs start) (sym empty) tt in
    let inside : start < length marks = omega (arith, s.size) in
    let never : Open ≡ Unseen → ⊥ = λ e. cc in (
      state_at graph n _ marks' _ path' _ order' m p o (enter_new graph n marks path order start lt fresh leads s),
      λ v was now.
          let now_set : mark_at (set marks start Open) v ≡ Unseen = subst (λ (ms : List Mark). mark_at ms v ≡ Unseen) m now in
          ⊎_elim (λ (seen : mark_at marks v ≢ Unseen). seen_kept marks start v Open inside never seen now_set)
          (λ (here : v ≡ start). never (sym (mark_same marks start Open inside) ∙ subst (λ (k : ℕ). mark_at (set marks start Open) k ≡ Unseen) here now_set)) was,
    )

pub begun_done : (graph : List (ℕ × ℕ)) (n : ℕ) (marks : List Mark) (path order : List ℕ) (start : ℕ) → mark_at marks start ≡ Done
    → IsState graph n marks path order
    → IsState graph n marks path order × ((v : ℕ) → (mark_at marks v ≢ Unseen) ⊎ (v ≡ start) → mark_at marks v ≢ Unseen)
begun_done graph n marks path order start is s =
    let never : Done ≡ Unseen → ⊥ = λ e. cc in (
      s,
      λ v was now.
          ⊎_elim (λ (seen : mark_at marks v ≢ Unseen). seen now)
          (λ (here : v ≡ start). never (sym is ∙ subst (λ (k : ℕ). mark_at marks k ≡ Unseen) here now)) was,
    )

pub begun_at : (graph : List (ℕ × ℕ)) (n start : ℕ) (old new : Search) → IsBegun old start new → IsSearch graph n old → old.path.items ≡ []
    → IsSearch graph n new × ((v : ℕ) → (mark_at old.marks.items v ≢ Unseen) ⊎ (v ≡ start) → mark_at new.marks.items v ≢ Unseen)
begun_at graph n start old new begun s empty =
    let size : length old.marks.items ≡ n = s.state.size in
    subst (λ (k : ℕ). IsSearch graph k new × ((v : ℕ) → (mark_at old.marks.items v ≢ Unseen) ⊎ (v ≡ start) → mark_at new.marks.items v ≢ Unseen)) size
    (begun graph (subst (λ (k : ℕ). IsSearch graph k old) (sym size) s) empty)

pub seen_more : (old new : Search) (start v : ℕ) → ((v : ℕ) → v < start → mark_at old.marks.items v ≢ Unseen)
    → ((v : ℕ) → (mark_at old.marks.items v ≢ Unseen) ⊎ (v ≡ start) → mark_at new.marks.items v ≢ Unseen) → v < start + 1 → mark_at new.marks.items v ≢ Unseen
seen_more old new start v early next lt =
    ⊎_elim (λ (before : v < start). next v (inl (early v before))) (λ (here : v ≡ start). next v (inr here)) (where_is v start lt)
  where
    where_is : (i n : ℕ) → i < n + 1 → (i < n) ⊎ (i ≡ n)
    where_is i n h = search (rules, arith)
