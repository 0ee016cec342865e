-- The edges of a formula over a signature lead from sorts to sorts.
use Rattle.std.proofs.Common.{◌≡◌, ℕ, suc, zero, ◌<◌, Bool, true, false, ◌&&◌, cond, refl, sym, ◌∙◌, List, [], ◌∷◌, ◌++◌, Option, Some, None, length, get_or, ap, subst, arith}
use Rattle.std.specs.Prelude.{slice_get, map, nat_lt, ◌^◌}
use Rattle.std.specs.List.{list_all}
use Rattle.std.proofs.lemmas.Bool.{and_parts, ltb-true}
use Rattle.std.proofs.lemmas.Option.{same_Some}
use Rattle.form_formula.specs.declared.structure.Range.{Range}
use Rattle.form_formula.specs.declared.structure.Range.TheVariants.{Rec, Flag, Num, Str}
use Rattle.form_formula.specs.declared.structure.FunSig.{FunSig}
use Rattle.form_formula.specs.declared.structure.SetSig.{SetSig}
use Rattle.form_formula.specs.declared.structure.Signature.{Signature}
use Rattle.form_formula.specs.Signature.{has_range}
use Rattle.form_formula.specs.Trees.{Term, Formula, bound, num, str, app, yes, no, equal, less, has, flag, present, negation, both, either, exists, forall}
use Rattle.form_formula.specs.Over.{IsOver}
use Rattle.form_strata.specs.SortGraph.{range_edge, function_edge, is_dependent, term_edges, has_items, edges}
use Rattle.form_strata.specs.Search.{AreEdgesBelow}

abbrev AllBelow : ℕ → List (ℕ × ℕ) → Type 0
AllBelow n [] = Unit {0}
AllBelow n (e ∷ es) = ((e.0 < n) × (e.1 < n)) × AllBelow n es

abbrev SortsBelow : ℕ → List ℕ → Type 0
SortsBelow n [] = Unit {0}
SortsBelow n (x ∷ xs) = (x < n) × SortsBelow n xs

below_append : (n : ℕ) (xs ys : List (ℕ × ℕ)) → AllBelow n xs → AllBelow n ys → AllBelow n (xs ++ ys)
below_append n [] ys h k = k
below_append n (x ∷ xs) ys h k = (h.0, below_append n xs ys h.1 k)

sorts_push : (n : ℕ) (xs : List ℕ) (x : ℕ) → SortsBelow n xs → x < n → SortsBelow n (xs ++ x ∷ [])
sorts_push n [] x h k = (k, tt)
sorts_push n (y ∷ xs) x h k = (h.0, sorts_push n xs x h.1 k)

below_map : (n : ℕ) (xs : List ℕ) (sort : ℕ) → SortsBelow n xs → sort < n → AllBelow n (map (λ from. (from, sort)) xs)
below_map n [] sort h k = tt
below_map n (x ∷ xs) sort h k = ((h.0, k), below_map n xs sort h.1 k)

below_at : (n : ℕ) (xs : List (ℕ × ℕ)) (k : ℕ) (e : ℕ × ℕ) → AllBelow n xs → k < length xs → get_or xs k e ≡ e → (e.0 < n) × (e.1 < n)
below_at n [] k e h lt is = absurd (omega arith)
below_at n (x ∷ xs) zero e h lt is = subst (λ (p : ℕ × ℕ). (p.0 < n) × (p.1 < n)) is h.0
below_at n (x ∷ xs) (suc k) e h lt is = below_at n xs k e h.1 (omega arith) is

passes_at : {A : Type 0} (p : A → Bool) (xs : List A) (i : ℕ) (x : A) → list_all p xs ≡ true → slice_get xs i ≡ Some x → p x ≡ true
passes_at p [] i x h e = cc
passes_at p (y ∷ xs) zero x h e = ap p (sym (same_Some y x e)) ∙ (and_parts (p y) (list_all p xs) h).0
passes_at p (y ∷ xs) (suc i) x h e = passes_at p xs i x (and_parts (p y) (list_all p xs) h).1 e

module _ (g : Signature) where
  functions_fit : list_all (λ (f : FunSig). nat_lt f.from g.sorts && has_range g.sorts f.to) g.funs ≡ true
  functions_fit =
      let small : Bool = nat_lt (length g.funs) (2 ^ 32) && nat_lt (length g.sets) (2 ^ 32) in
      let funs : Bool = list_all (λ (f : FunSig). nat_lt f.from g.sorts && has_range g.sorts f.to) g.funs in
      let sets : Bool = list_all (λ (r : SetSig). nat_lt r.from g.sorts && nat_lt r.to g.sorts) g.sets in
      (and_parts small funs (and_parts (small && funs) sets g.fits).0).1

  range_below : (from : ℕ) (to : Range) → from < g.sorts → has_range g.sorts to ≡ true → AllBelow g.sorts (range_edge from to)
  range_below from (Rec to) h k = ((h, ltb-true to g.sorts k), tt)
  range_below from Flag h k = tt
  range_below from Num h k = tt
  range_below from Str h k = tt

  function_below : (f : ℕ) (o : Option FunSig) → slice_get g.funs f ≡ o → AllBelow g.sorts (function_edge o)
  function_below f None e = tt
  function_below f (Some sig) e =
      let fits = and_parts (nat_lt sig.from g.sorts) (has_range g.sorts sig.to)
      (passes_at (λ (f : FunSig). nat_lt f.from g.sorts && has_range g.sorts f.to) g.funs f sig functions_fit e) in
      range_below sig.from sig.to (ltb-true sig.from g.sorts fits.0) fits.1

  cond_below : (b : Bool) (xs : List (ℕ × ℕ)) → AllBelow g.sorts xs → AllBelow g.sorts (cond b xs [])
  cond_below true xs h = h
  cond_below false xs h = tt

  term_below : (dependent : List Bool) (t : Term) → AllBelow g.sorts (term_edges dependent g t)
  term_below dependent (bound sort depth) = tt
  term_below dependent (num n) = tt
  term_below dependent (str t) = tt
  term_below dependent (app f t) =
      below_append g.sorts (cond (is_dependent dependent t) (function_edge (slice_get g.funs f)) []) (term_edges dependent g t)
      (cond_below (is_dependent dependent t) (function_edge (slice_get g.funs f)) (function_below f (slice_get g.funs f) refl)) (term_below dependent t)

  formula_below : (scope : List ℕ) (dependent : List Bool) (above : List ℕ) (f : Formula) → IsOver g scope f → SortsBelow g.sorts above → AllBelow g.sorts (edges g dependent above f)
  formula_below scope dependent above yes h k = tt
  formula_below scope dependent above no h k = tt
  formula_below scope dependent above (equal t u) h k = below_append g.sorts (term_edges dependent g t) (term_edges dependent g u) (term_below dependent t) (term_below dependent u)
  formula_below scope dependent above (less t u) h k = below_append g.sorts (term_edges dependent g t) (term_edges dependent g u) (term_below dependent t) (term_below dependent u)
  formula_below scope dependent above (has r t u) h k = below_append g.sorts (term_edges dependent g t) (term_edges dependent g u) (term_below dependent t) (term_below dependent u)
  formula_below scope dependent above (flag f t) h k = term_below dependent t
  formula_below scope dependent above (present f t) h k = term_below dependent t
  formula_below scope dependent above (negation a) h k = formula_below scope dependent above a h k
  formula_below scope dependent above (both a b) h k =
      below_append g.sorts (edges g dependent above a) (edges g dependent above b) (formula_below scope dependent above a h.0 k) (formula_below scope dependent above b h.1 k)
  formula_below scope dependent above (either a b) h k =
      below_append g.sorts (edges g dependent above a) (edges g dependent above b) (formula_below scope dependent above a h.0 k) (formula_below scope dependent above b h.1 k)
  formula_below scope dependent above (exists sort a) h k =
      below_append g.sorts (map (λ from. (from, sort)) above) (edges g (dependent ++ has_items above ∷ []) above a) (below_map g.sorts above sort k h.0)
      (formula_below (scope ++ sort ∷ []) (dependent ++ has_items above ∷ []) above a h.1 k)
  formula_below scope dependent above (forall sort a) h k =
      formula_below (scope ++ sort ∷ []) (dependent ++ true ∷ []) (above ++ sort ∷ []) a h.1 (sorts_push g.sorts above sort k h.0)

  pub edges_below : (f : Formula) → IsOver g [] f → AreEdgesBelow (edges g [] [] f) g.sorts
  edges_below f h a b c = below_at g.sorts (edges g [] [] f) c.0 (a, b) (formula_below [] [] [] f h tt) c.1 c.2
