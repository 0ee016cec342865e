-- The formula of a use is over the signature.
use Rattle.std.proofs.Common.{◌≡◌, ℕ, zero, suc, ◌-◌, Bool, true, false, List, [], ◌∷◌, ◌++◌, length, refl, ap, sym, ◌∙◌, subst, inl, inr}
use Rattle.std.specs.Prelude.{Some, slice_get, if◌then◌else◌}
use Rattle.std.proofs.lemmas.Bool.{lt-ltb, le-ltb}
use Rattle.std.proofs.lemmas.List.{append_assoc}
use Rattle.text_tree.specs.declared.exprs.CmpOp.{CmpOp}
use Rattle.text_tree.specs.declared.exprs.CmpOp.TheVariants.{Eq, Ne, Lt, Le, Gt, Ge}
use Rattle.type_schema.specs.declared.types.TBase.TheVariants as base
use Rattle.type_schema.specs.declared.types.TTy.{TTy}
use Rattle.type_schema.specs.declared.types.TTy.TheVariants.{Plain, Set, Opt}
use Rattle.type_schema.specs.Trees.{Expr, flag, num, str, var, nothing, just, get, equal, iff, less, within, negation, both, either, if_expr, match_expr, SetExpr, everyone, nobody, listed, union, minus, find, path, mapped, flat_mapped, if_set, match_set, Items, no_items, static_item, record_item, Filters, no_filters, filter_and, Init, plain, of_set}
use Rattle.type_schema.specs.Schema.{Schema}
use Rattle.type_schema.specs.Typing.{HasModel, Scope, Content, records, IsExpr, IsSet, AreItems, AreFilters, IsInit}
use Rattle.type_schema.specs.Uses.{Use, in_order_of_text, uses_of, set_uses_of, item_uses_of, filter_uses_of, init_uses_of}
use Rattle.form_formula.specs.declared.structure.Range.TheVariants as range
use Rattle.form_formula.specs.declared.structure.Signature.{Signature}
use Rattle.form_formula.specs.Trees.{Term, Formula, bound}
use Rattle.form_formula.specs.Trees as tree
use Rattle.form_formula.specs.Over.{IsOver}
use Rattle.duty_meaning.specs.Structures.{sort_of}
use Rattle.duty_meaning.specs.Cases.{Cases, at_term, at_ends, at_terms, condition_of}
use Rattle.duty_meaning.specs.Formulas.{record_at, Scene, Written, cases_of, is_in}
use Rattle.duty_meaning.specs.Reach.{in_parts, sides, end_is_none, end_is_some, reach, set_reach, items_reach, filters_reach, init_reach}
use Rattle.duty_meaning.proofs.Means.{IsPrefix, prefix-itself, prefix-more, prefix-along}
use Rattle.duty_meaning.proofs.OverCases.{HasTerm, OverCases, ends-over, terms-over, condition-over, OverScene, scene-more, scene-and}
use Rattle.duty_meaning.proofs.OverFormulas.{Speaks, next-over, longer, over, in-over, none-over, some-over}
use Rattle.duty_meaning.proofs.Reached.{get-parts}

module _ (b s : Schema) (written : Written) (g : Signature) (speaks : Speaks b s written g) (used : Use) (y : Term) where
  abbrev IsRead : List ℕ → Type 0
  IsRead xs = HasTerm b g xs (base.Id used.model) y

  parts : (xs : List ℕ) (us vs : List Use) (n : ℕ) → slice_get (us ++ vs) n ≡ Some used → (F G : ℕ → Formula)
      → ((n : ℕ) → slice_get us n ≡ Some used → IsOver g xs (F n)) → ((n : ℕ) → slice_get vs n ≡ Some used → IsOver g xs (G n)) → IsOver g xs (in_parts (length us) F G n)
  parts xs us vs n h F G left right =
      elim (get-parts us vs n used h) [
        | inl one ↦ subst (λ (t : Bool). IsOver g xs (if t then F n else G (n - length us))) (sym (lt-ltb n (length us) one.0)) (left n one.1)
        | inr one ↦ subst (λ (t : Bool). IsOver g xs (if t then F n else G (n - length us))) (sym (le-ltb n (length us) one.0)) (right (n - length us) one.1)
      ]

  both-sides : (xs : List ℕ) (op : CmpOp) (us vs : List Use) (n : ℕ) → slice_get (in_order_of_text op us vs) n ≡ Some used → (F G : ℕ → Formula)
      → ((n : ℕ) → slice_get us n ≡ Some used → IsOver g xs (F n)) → ((n : ℕ) → slice_get vs n ≡ Some used → IsOver g xs (G n))
      → IsOver g xs (sides op (length us) (length vs) F G n)
  both-sides xs Eq us vs n h F G left right = parts xs us vs n h F G left right
  both-sides xs Ne us vs n h F G left right = parts xs us vs n h F G left right
  both-sides xs Lt us vs n h F G left right = parts xs us vs n h F G left right
  both-sides xs Le us vs n h F G left right = parts xs vs us n h G F right left
  both-sides xs Gt us vs n h F G left right = parts xs vs us n h G F right left
  both-sides xs Ge us vs n h F G left right = parts xs us vs n h F G left right

  three : (us vs ws : List Use) (n : ℕ) → slice_get (us ++ vs ++ ws) n ≡ Some used → slice_get (us ++ (vs ++ ws)) n ≡ Some used
  three us vs ws n h = ap (λ l. slice_get l n) (sym (append_assoc us vs ws)) ∙ h

  access : (m f : ℕ) (xs : List ℕ) (c : Cases) → OverCases b g xs (Plain (base.Id m)) c → IsRead xs → (n : ℕ) → slice_get ((record { model = m; field = f }) ∷ []) n ≡ Some used
      → IsOver g xs (at_terms b (length xs) (λ t. tree.equal y t) c)
  access m f xs c h i (suc n) u = cc
  access m f xs c h i zero u =
      let own : Use = record { model = m; field = f } in
      let same : own ≡ used = cc in
      let it : HasTerm b g xs (base.Id m) y = subst (λ (z : Use). HasTerm b g xs (base.Id z.model) y) (sym same) i in
      terms-over b g xs (base.Id m) (λ t. tree.equal y t) refl (λ t at. (range.Rec (sort_of b m), tt, it xs (prefix-itself xs), at xs (prefix-itself xs))) c h

  -- the body of `map` and of `flat_map`
  through : (k : ℕ) (set : SetExpr) (scene : Scene) (scope : Scope) (xs : List ℕ) → OverScene b g xs scope scene → HasModel s k → IsSet s scope (records k) set → IsRead xs → (body : Formula)
      → (OverScene b g (xs ++ sort_of b k ∷ []) (scope ++ Plain (base.Id k) ∷ []) (scene ++ at_term (bound (sort_of b k) (length xs)) ∷ []) → IsRead (xs ++ sort_of b k ∷ [])
      → IsOver g (xs ++ sort_of b k ∷ []) body)
      → IsOver g xs (tree.exists (sort_of b k) (tree.both (is_in b written scene set (record_at k (bound (sort_of b k) (length xs))) true (suc (length xs))) body))
  through k set scene scope xs h model e i body inside =
      let u : Term = bound (sort_of b k) (length xs) in
      let zs : List ℕ = xs ++ sort_of b k ∷ [] in
      let q : IsPrefix xs zs = prefix-more xs (sort_of b k) in
      let more = scene-more b g xs zs scope scene q h in
      let next = next-over b s written g speaks k xs in (
        speaks.sorts k model,
        (
          subst (λ (j : ℕ). IsOver g zs (is_in b written scene set (record_at k u) true j)) (longer b s written g speaks xs (sort_of b k))
              (in-over b s written g speaks set scope scene zs more (records k) e (record_at k u) next true),
          inside (scene-and b g zs scope scene (Plain (base.Id k)) (at_term u) more (base.Id k, refl, refl, next)) (λ ws r. i ws (prefix-along xs zs ws q r)),
        ),
      )

  mutual
    reach-over : (x : Expr) (scope : Scope) (scene : Scene) (xs : List ℕ) → OverScene b g xs scope scene → IsRead xs → (t : TTy) → IsExpr s scope t x
        → (n : ℕ) → slice_get (uses_of x) n ≡ Some used → IsOver g xs (reach b written y scene x n (length xs))
    reach-over (flag z) scope scene xs h i t e n u = cc
    reach-over (num k) scope scene xs h i t e n u = cc
    reach-over (str bytes) scope scene xs h i t e n u = cc
    reach-over (var depth name) scope scene xs h i t e n u = cc
    reach-over nothing scope scene xs h i t e n u = cc
    reach-over (just x) scope scene xs h i t e n u = reach-over x scope scene xs h i (Plain e.0) e.2 n u
    reach-over (get x m f) scope scene xs h i t e n u =
        parts xs (uses_of x) ((record { model = m; field = f }) ∷ []) n u
        (λ n. reach b written y scene x n (length xs)) (λ n. at_terms b (length xs) (λ t. tree.equal y t) (cases_of b written scene x))
        (λ n v. reach-over x scope scene xs h i (Plain (base.Id m)) e.1 n v)
        (λ n v. access m f xs (cases_of b written scene x) (over b s written g speaks x scope scene xs h (Plain (base.Id m)) e.1) i n v)
    reach-over (equal x z op) scope scene xs h i t e n u =
        parts xs (uses_of x) (uses_of z) n u (λ n. reach b written y scene x n (length xs)) (λ n. reach b written y scene z n (length xs))
        (λ n v. reach-over x scope scene xs h i (Plain e.1.0) e.1.2 n v) (λ n v. reach-over z scope scene xs h i (Plain e.1.0) e.1.3 n v)
    reach-over (iff x z op) scope scene xs h i t e n u =
        parts xs (uses_of x) (uses_of z) n u (λ n. reach b written y scene x n (length xs)) (λ n. reach b written y scene z n (length xs))
        (λ n v. reach-over x scope scene xs h i (Plain base.Bool) e.1 n v) (λ n v. reach-over z scope scene xs h i (Plain base.Bool) e.2 n v)
    reach-over (less x z op) scope scene xs h i t e n u =
        both-sides xs op (uses_of x) (uses_of z) n u (λ n. reach b written y scene x n (length xs)) (λ n. reach b written y scene z n (length xs))
        (λ n v. reach-over x scope scene xs h i (Plain base.Int) e.1 n v) (λ n v. reach-over z scope scene xs h i (Plain base.Int) e.2 n v)
    reach-over (within x m set) scope scene xs h i t e n u =
        parts xs (uses_of x) (set_uses_of set) n u (λ n. reach b written y scene x n (length xs)) (λ n. set_reach b written y scene set n (length xs))
        (λ n v. reach-over x scope scene xs h i (Plain (base.Id m)) e.1 n v) (λ n v. set-over set scope scene xs h i (records m) e.2 n v)
    reach-over (negation x) scope scene xs h i t e n u = reach-over x scope scene xs h i (Plain base.Bool) e.1 n u
    reach-over (both x z) scope scene xs h i t e n u =
        parts xs (uses_of x) (uses_of z) n u (λ n. reach b written y scene x n (length xs)) (λ n. reach b written y scene z n (length xs))
        (λ n v. reach-over x scope scene xs h i (Plain base.Bool) e.1 n v) (λ n v. reach-over z scope scene xs h i (Plain base.Bool) e.2 n v)
    reach-over (either x z) scope scene xs h i t e n u =
        parts xs (uses_of x) (uses_of z) n u (λ n. reach b written y scene x n (length xs)) (λ n. reach b written y scene z n (length xs))
        (λ n v. reach-over x scope scene xs h i (Plain base.Bool) e.1 n v) (λ n v. reach-over z scope scene xs h i (Plain base.Bool) e.2 n v)
    reach-over (if_expr c x z) scope scene xs h i t e n u =
        let C = condition_of b (cases_of b written scene c) in
        let test = condition-over b g xs (cases_of b written scene c) (over b s written g speaks c scope scene xs h (Plain base.Bool) e.0) xs (prefix-itself xs) in
        let F : ℕ → Formula = λ n. tree.both (C true (length xs)) (reach b written y scene x n (length xs)) in
        let G : ℕ → Formula = λ n. tree.both (C false (length xs)) (reach b written y scene z n (length xs)) in
        parts xs (uses_of c) (uses_of x ++ uses_of z) n (three (uses_of c) (uses_of x) (uses_of z) n u)
        (λ n. reach b written y scene c n (length xs)) (in_parts (length (uses_of x)) F G)
        (λ n v. reach-over c scope scene xs h i (Plain base.Bool) e.0 n v)
        (λ n v. parts xs (uses_of x) (uses_of z) n v F G (λ n v. (test true, reach-over x scope scene xs h i t e.1 n v)) (λ n v. (test false, reach-over z scope scene xs h i t e.2 n v)))
    reach-over (match_expr x z name c) scope scene xs h i t e n u =
        let F : ℕ → Formula = λ n. at_ends (length xs) (end_is_none b (reach b written y scene z n (length xs))) (cases_of b written scene x) in
        let G : ℕ → Formula = λ n. at_ends (length xs) (end_is_some b (λ v. reach b written y (scene ++ v ∷ []) c n (length xs))) (cases_of b written scene x) in
        let one = over b s written g speaks x scope scene xs h (Opt e.0) e.1 in
        parts xs (uses_of x) (uses_of z ++ uses_of c) n (three (uses_of x) (uses_of z) (uses_of c) n u)
        (λ n. reach b written y scene x n (length xs)) (in_parts (length (uses_of z)) F G)
        (λ n v. reach-over x scope scene xs h i (Opt e.0) e.1 n v)
        (λ n v. parts xs (uses_of z) (uses_of c) n v F G
        (λ n v. ends-over b g xs (Opt e.0) (end_is_none b (reach b written y scene z n (length xs)))
        (λ end at k. none-over b s written g speaks xs e.0 (reach b written y scene z n (length xs)) (reach-over z scope scene xs h i t e.2 n v) end at k) (cases_of b written scene x) one)
        (λ n v. ends-over b g xs (Opt e.0) (end_is_some b (λ v. reach b written y (scene ++ v ∷ []) c n (length xs)))
        (λ end at k. some-over b s written g speaks xs e.0 (λ v. reach b written y (scene ++ v ∷ []) c n (length xs))
        (λ a k. reach-over c (scope ++ Plain e.0 ∷ []) (scene ++ a ∷ []) xs (scene-and b g xs scope scene (Plain e.0) a h k) i t e.3 n v) end at k) (cases_of b written scene x) one))

    set-over : (x : SetExpr) (scope : Scope) (scene : Scene) (xs : List ℕ) → OverScene b g xs scope scene → IsRead xs → (w : Content) → IsSet s scope w x
        → (n : ℕ) → slice_get (set_uses_of x) n ≡ Some used → IsOver g xs (set_reach b written y scene x n (length xs))
    set-over everyone scope scene xs h i w e n u = cc
    set-over nobody scope scene xs h i w e n u = cc
    set-over (listed items) scope scene xs h i w e n u = items-over items scope scene xs h i w e n u
    set-over (union x z) scope scene xs h i w e n u =
        parts xs (set_uses_of x) (set_uses_of z) n u (λ n. set_reach b written y scene x n (length xs)) (λ n. set_reach b written y scene z n (length xs))
        (λ n v. set-over x scope scene xs h i w e.0 n v) (λ n v. set-over z scope scene xs h i w e.1 n v)
    set-over (minus x z) scope scene xs h i w e n u =
        parts xs (set_uses_of x) (set_uses_of z) n u (λ n. set_reach b written y scene x n (length xs)) (λ n. set_reach b written y scene z n (length xs))
        (λ n v. set-over x scope scene xs h i w e.0 n v) (λ n v. set-over z scope scene xs h i w e.1 n v)
    set-over (find m filters) scope scene xs h i w e n u = filters-over filters scope scene xs h i m e.2 n u
    set-over (path m x) scope scene xs h i w e n u = reach-over x scope scene xs h i (Set m) e.1 n u
    set-over (mapped set k name m x) scope scene xs h i w e n u =
        let v : Term = bound (sort_of b k) (length xs) in
        let body : ℕ → Formula = λ n. reach b written y (scene ++ at_term v ∷ []) x n (suc (length xs)) in
        parts xs (set_uses_of set) (uses_of x) n u (λ n. set_reach b written y scene set n (length xs))
        (λ n. tree.exists (sort_of b k) (tree.both (is_in b written scene set (record_at k v) true (suc (length xs))) (body n)))
        (λ n v. set-over set scope scene xs h i (records k) e.2 n v)
        (λ n uses. through k set scene scope xs h e.1 e.2 i (body n)
        (λ inner read. subst (λ (j : ℕ). IsOver g (xs ++ sort_of b k ∷ []) (reach b written y (scene ++ at_term v ∷ []) x n j)) (longer b s written g speaks xs (sort_of b k))
        (reach-over x (scope ++ Plain (base.Id k) ∷ []) (scene ++ at_term v ∷ []) (xs ++ sort_of b k ∷ []) inner read (Plain (base.Id m)) e.3 n uses)))
    set-over (flat_mapped set k name c) scope scene xs h i w e n u =
        let v : Term = bound (sort_of b k) (length xs) in
        let body : ℕ → Formula = λ n. set_reach b written y (scene ++ at_term v ∷ []) c n (suc (length xs)) in
        parts xs (set_uses_of set) (set_uses_of c) n u (λ n. set_reach b written y scene set n (length xs))
        (λ n. tree.exists (sort_of b k) (tree.both (is_in b written scene set (record_at k v) true (suc (length xs))) (body n)))
        (λ n v. set-over set scope scene xs h i (records k) e.1 n v)
        (λ n uses. through k set scene scope xs h e.0 e.1 i (body n)
        (λ inner read. subst (λ (j : ℕ). IsOver g (xs ++ sort_of b k ∷ []) (set_reach b written y (scene ++ at_term v ∷ []) c n j)) (longer b s written g speaks xs (sort_of b k))
        (set-over c (scope ++ Plain (base.Id k) ∷ []) (scene ++ at_term v ∷ []) (xs ++ sort_of b k ∷ []) inner read w e.2 n uses)))
    set-over (if_set c x z) scope scene xs h i w e n u =
        let C = condition_of b (cases_of b written scene c) in
        let test = condition-over b g xs (cases_of b written scene c) (over b s written g speaks c scope scene xs h (Plain base.Bool) e.0) xs (prefix-itself xs) in
        let F : ℕ → Formula = λ n. tree.both (C true (length xs)) (set_reach b written y scene x n (length xs)) in
        let G : ℕ → Formula = λ n. tree.both (C false (length xs)) (set_reach b written y scene z n (length xs)) in
        parts xs (uses_of c) (set_uses_of x ++ set_uses_of z) n (three (uses_of c) (set_uses_of x) (set_uses_of z) n u)
        (λ n. reach b written y scene c n (length xs)) (in_parts (length (set_uses_of x)) F G)
        (λ n v. reach-over c scope scene xs h i (Plain base.Bool) e.0 n v)
        (λ n v. parts xs (set_uses_of x) (set_uses_of z) n v F G (λ n v. (test true, set-over x scope scene xs h i w e.1 n v)) (λ n v. (test false, set-over z scope scene xs h i w e.2 n v)))
    set-over (match_set x z name c) scope scene xs h i w e n u =
        let F : ℕ → Formula = λ n. at_ends (length xs) (end_is_none b (set_reach b written y scene z n (length xs))) (cases_of b written scene x) in
        let G : ℕ → Formula = λ n. at_ends (length xs) (end_is_some b (λ v. set_reach b written y (scene ++ v ∷ []) c n (length xs))) (cases_of b written scene x) in
        let one = over b s written g speaks x scope scene xs h (Opt e.0) e.1 in
        parts xs (uses_of x) (set_uses_of z ++ set_uses_of c) n (three (uses_of x) (set_uses_of z) (set_uses_of c) n u)
        (λ n. reach b written y scene x n (length xs)) (in_parts (length (set_uses_of z)) F G)
        (λ n v. reach-over x scope scene xs h i (Opt e.0) e.1 n v)
        (λ n v. parts xs (set_uses_of z) (set_uses_of c) n v F G
        (λ n v. ends-over b g xs (Opt e.0) (end_is_none b (set_reach b written y scene z n (length xs)))
        (λ end at k. none-over b s written g speaks xs e.0 (set_reach b written y scene z n (length xs)) (set-over z scope scene xs h i w e.2 n v) end at k) (cases_of b written scene x) one)
        (λ n v. ends-over b g xs (Opt e.0) (end_is_some b (λ v. set_reach b written y (scene ++ v ∷ []) c n (length xs)))
        (λ end at k. some-over b s written g speaks xs e.0 (λ v. set_reach b written y (scene ++ v ∷ []) c n (length xs))
        (λ a k. set-over c (scope ++ Plain e.0 ∷ []) (scene ++ a ∷ []) xs (scene-and b g xs scope scene (Plain e.0) a h k) i w e.3 n v) end at k) (cases_of b written scene x) one))

    items-over : (x : Items) (scope : Scope) (scene : Scene) (xs : List ℕ) → OverScene b g xs scope scene → IsRead xs → (w : Content) → AreItems s scope w x
        → (n : ℕ) → slice_get (item_uses_of x) n ≡ Some used → IsOver g xs (items_reach b written y scene x n (length xs))
    items-over no_items scope scene xs h i w e n u = cc
    items-over (static_item k items) scope scene xs h i w e n u = items-over items scope scene xs h i w e.2 n u
    items-over (record_item m x items) scope scene xs h i w e n u =
        parts xs (uses_of x) (item_uses_of items) n u (λ n. reach b written y scene x n (length xs)) (λ n. items_reach b written y scene items n (length xs))
        (λ n v. reach-over x scope scene xs h i (Plain (base.Id m)) e.1 n v) (λ n v. items-over items scope scene xs h i w e.2 n v)

    filters-over : (x : Filters) (scope : Scope) (scene : Scene) (xs : List ℕ) → OverScene b g xs scope scene → IsRead xs → (m : ℕ) → AreFilters s scope m x
        → (n : ℕ) → slice_get (filter_uses_of m x) n ≡ Some used → IsOver g xs (filters_reach b written y scene m x n (length xs))
    filters-over no_filters scope scene xs h i m e n u = cc
    filters-over (filter_and f op x filters) scope scene xs h i m e n u =
        let own : Use = record { model = m; field = f } in
        let G : ℕ → Formula = λ n. filters_reach b written y scene m filters n (length xs) in
        parts xs (uses_of x) (own ∷ filter_uses_of m filters) n u (λ n. reach b written y scene x n (length xs)) (in_parts 1 (λ n. tree.yes) G)
        (λ n v. reach-over x scope scene xs h i e.0.1 e.0.4 n v)
        (λ n v. parts xs (own ∷ []) (filter_uses_of m filters) n v (λ n. tree.yes) G (λ n v. tt) (λ n v. filters-over filters scope scene xs h i m e.1 n v))

  pub init-reach-over : (m : ℕ) (t : TTy) (init : Init) → IsInit s m t init → (xs : List ℕ) (r : Term) → HasTerm b g xs (base.Id m) r → IsRead xs
      → (n : ℕ) → slice_get (init_uses_of init) n ≡ Some used → IsOver g xs (init_reach b written y init r n (length xs))
  init-reach-over m t (plain x) is xs r it i n u = reach-over x (Plain (base.Id m) ∷ []) (at_term r ∷ []) xs ((base.Id m, refl, refl, it), tt) i t is.1 n u
  init-reach-over m t (of_set k set) is xs r it i n u = set-over set (Plain (base.Id m) ∷ []) (at_term r ∷ []) xs ((base.Id m, refl, refl, it), tt) i (records k) is.1 n u
