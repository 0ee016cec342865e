-- What rounds of applying add to counts.
use Rattle.std.proofs.Common.{◌≡◌, ℕ, zero, suc, ◌+◌, ◌-◌, ◌*◌, ◌<◌, ◌≤◌, Bool, true, false, cond, refl, sym, ◌∙◌, List, [], ◌∷◌, ◌++◌, Option, Some, None, length, get_or, set, take, ap, subst, arith, add-one, Contains, map}
use Rattle.std.specs.Prelude.{◌==◌}
use Rattle.std.specs.List.{filter, flat_map, range_with_len}
use Rattle.std.proofs.lemmas.Bool.{eqb-true}
use Rattle.std.proofs.lemmas.List.{get_or-set_same, get_or-set_other}
use Rattle.form_formula.specs.declared.node.Node.{Node}
use Rattle.form_formula.specs.declared.structure.Signature.{Signature}
use Rattle.form_formula.specs.Over.{IsOver}
use Rattle.form_formula.specs.Trees.{Formula}
use Rattle.form_terms.specs.Counts.{counted, sum_of, product_of, added_by_source, added_by_function, added_by_variable, count_after, terms_counted}
use Rattle.form_terms.specs.GroundTerms.{source_of, target_of, is_number}
use Rattle.form_terms.specs.Listing.{functions, is_plain, is_skolem, skolem_variables, first_terms, of_sort}
use Rattle.form_terms.specs.Parts.{Variable, parts_of, existential}
use Rattle.form_terms.specs.Universe.{variables_of}
use Rattle.form_terms.proofs.Kept.{nat_same}
use Rattle.form_terms.proofs.Lists.{Contains-head, Contains-tail}
use Rattle.form_terms.proofs.Typed.{source_below, all_typed}
use Rattle.form_terms.proofs.Witnesses.{variable_part}
use Rattle.ground_terms.specs.declared.part.Part.{Part}
use Rattle.ground_terms.specs.declared.part.Part.TheVariants.{Existential, Universal, Named, Dependent, Literal}
use Rattle.ground_terms.specs.declared.terms.Basis.{Basis}
use Rattle.ground_terms.specs.Applying.{of_sort_in}
use Rattle.ground_terms.specs.Basis.{IsBasis}
use Rattle.ground_terms.specs.Codes.{code_variables}
use Rattle.ground_terms.specs.Counting.{IsAlike, count_in, AreCounts, AreRaised, source_count, function_count, variable_count, part_count, functions_count, parts_count, round_count}
use Rattle.ground_terms.specs.Parts.{AreThinned}
use Rattle.ground_terms.specs.Standing.{terms_at}
use Rattle.ground_terms.proofs.Alike.{alike_sum, alike_product, alike_cut, sum_of-append, product_of-append}
use Rattle.ground_terms.proofs.Thinned.{variables_thinned}
use Rattle.ground_terms.proofs.Standing.{map_next}

one_more : (n : ℕ) → IsAlike n (n + 0)
one_more n = let e : n ≡ n + 0 = omega arith in ap counted e

-- nothing was added
pub nothing_raised : (counts : List ℕ) → AreRaised (λ s. 0) counts counts
nothing_raised counts = record { size = refl; raised = λ sort lt. one_more (count_in counts sort) }

-- one count after another
pub raised_both : (p q : ℕ → ℕ) (a b d : List ℕ) → AreRaised p a b → AreRaised q b d → AreRaised (λ s. p s + q s) a d
raised_both p q a b d x y = record {
  size = y.size ∙ x.size;
  raised = λ sort lt.
      let step = y.raised sort (omega (arith, lt, x.size)) in
      let sum = alike_sum (count_in b sort) (q sort) (count_in a sort + p sort) (q sort) (x.raised sort lt) refl in
      let regroup : (count_in a sort + p sort) + q sort ≡ count_in a sort + (p sort + q sort) = omega arith in
      step ∙ (sum ∙ ap counted regroup);
}

pub raised_alike : (p q : ℕ → ℕ) (a b : List ℕ) → ((s : ℕ) → IsAlike (p s) (q s)) → AreRaised p a b → AreRaised q a b
raised_alike p q a b e x = record {
  size = x.size;
  raised = λ sort lt. x.raised sort lt ∙ alike_sum (count_in a sort) (p sort) (count_in a sort) (q sort) refl (e sort);
}

-- one count is raised
pub one_raised : (counts : List ℕ) (place by new : ℕ) → place < length counts → new ≡ counted (count_in counts place + by) → length (set counts place new) ≡ length counts
    → AreRaised (λ s. cond (place == s) by 0) counts (set counts place new)
one_raised counts place by new within is size = record { size = size; raised = λ sort h. at sort (place == sort) refl }
  where
    at : (sort : ℕ) (b : Bool) → (place == sort) ≡ b → IsAlike (count_in (set counts place new) sort) (count_in counts sort + cond b by 0)
    at sort true e =
        let same : place ≡ sort = eqb-true place sort e in
        let P : ℕ → Type 0 = λ k. IsAlike (count_in (set counts place new) k) (count_in counts k + by) in
        subst P same (ap counted (get_or-set_same counts place new 0 within ∙ is) ∙ alike_cut (count_in counts place + by))
    at sort false e =
        ap counted (get_or-set_other counts place sort new 0 (λ h. let no : true ≡ false = sym (nat_same place) ∙ (ap (λ k. place == k) (sym h) ∙ e) in cc))
        ∙ one_more (count_in counts sort)

-- there is no place for it
pub none_raised : (counts : List ℕ) (place by : ℕ) → length counts ≤ place → AreRaised (λ s. cond (place == s) by 0) counts counts
none_raised counts place by beyond = record { size = refl; raised = λ sort h. at sort h (place == sort) refl }
  where
    at : (sort : ℕ) → sort < length counts → (b : Bool) → (place == sort) ≡ b → IsAlike (count_in counts sort) (count_in counts sort + cond b by 0)
    at sort h true e = absurd (omega (arith, h, beyond, eqb-true place sort e))
    at sort h false e = one_more (count_in counts sort)

alike_cond : (b : Bool) (x y : ℕ) → IsAlike x y → IsAlike (cond b x 0) (cond b y 0)
alike_cond true x y e = e
alike_cond false x y e = refl

-- what is added at a place, by an equal amount
pub raised_by : (place x y : ℕ) (a b : List ℕ) → IsAlike x y → AreRaised (λ s. cond (place == s) x 0) a b → AreRaised (λ s. cond (place == s) y 0) a b
raised_by place x y a b e h = raised_alike (λ s. cond (place == s) x 0) (λ s. cond (place == s) y 0) a b (λ s. alike_cond (place == s) x y e) h

-- sums and products of one more
pub sum_next : {A : Type 0} (h : A → ℕ) (xs : List A) (k : ℕ) (d : A) → k < length xs → sum_of (map h (take (k + 1) xs)) ≡ sum_of (map h (take k xs)) + h (get_or xs k d)
sum_next h xs k d lt = omega (arith, ap sum_of (map_next h xs k d lt), sum_of-append (map h (take k xs)) (h (get_or xs k d) ∷ []))

pub product_next : (h : ℕ → ℕ) (xs : List ℕ) (k d : ℕ) → k < length xs → product_of (map h (take (k + 1) xs)) ≡ product_of (map h (take k xs)) * h (get_or xs k d)
product_next h xs k d lt =
    let one : h (get_or xs k d) * 1 ≡ h (get_or xs k d) = omega arith in
    ap product_of (map_next h xs k d lt) ∙ (product_of-append (map h (take k xs)) (h (get_or xs k d) ∷ []) ∙ ap (λ n. product_of (map h (take k xs)) * n) one)

pub sum_more : (xs : List ℕ) (k : ℕ) → k < length xs → sum_of (take (k + 1) xs) ≡ sum_of (take k xs) + get_or xs k 0
sum_more xs k lt = let z : k + 1 ≡ suc k = omega arith in ap (λ n. sum_of (take n xs)) z ∙ by xs k lt
  where
    by : (xs : List ℕ) (k : ℕ) → k < length xs → sum_of (take (suc k) xs) ≡ sum_of (take k xs) + get_or xs k 0
    by [] k lt = absurd (omega arith)
    by (x ∷ xs) zero lt = omega arith
    by (x ∷ xs) (suc k) lt = omega (arith, by xs k (omega arith))

-- one more item that adds
pub raised_next : {A : Type 0} (h : A → ℕ → ℕ) (xs : List A) (i : ℕ) (d : A) (a b e : List ℕ) → i < length xs
    → AreRaised (λ s. sum_of (map (λ y. h y s) (take i xs))) a b → AreRaised (h (get_or xs i d)) b e → AreRaised (λ s. sum_of (map (λ y. h y s) (take (i + 1) xs))) a e
raised_next h xs i d a b e lt p q =
    let both = raised_both (λ s. sum_of (map (λ y. h y s) (take i xs))) (h (get_or xs i d)) a b e p q in
    raised_alike (λ s. sum_of (map (λ y. h y s) (take i xs)) + h (get_or xs i d) s) (λ s. sum_of (map (λ y. h y s) (take (i + 1) xs))) a e
    (λ s. ap counted (sym (sum_next (λ y. h y s) xs i d lt))) both

alike_sums : {A : Type 0} (p q : A → ℕ) (xs : List A) → ((x : A) → Contains xs x → IsAlike (p x) (q x)) → IsAlike (sum_of (map p xs)) (sum_of (map q xs))
alike_sums p q [] e = refl
alike_sums p q (x ∷ xs) e =
    alike_sum (p x) (sum_of (map p xs)) (q x) (sum_of (map q xs)) (e x (Contains-head x xs)) (alike_sums p q xs (λ y c. e y (Contains-tail x xs y c)))

alike_products : (p q : ℕ → ℕ) (xs : List ℕ) → ((x : ℕ) → Contains xs x → IsAlike (p x) (q x)) → IsAlike (product_of (map p xs)) (product_of (map q xs))
alike_products p q [] e = refl
alike_products p q (x ∷ xs) e =
    alike_product (p x) (product_of (map p xs)) (q x) (product_of (map q xs)) (e x (Contains-head x xs)) (alike_products p q xs (λ y c. e y (Contains-tail x xs y c)))

module _ (g : Signature) (f : Formula) where
  -- two counts of the sorts that are counted as the same
  abbrev AreAlike : (ℕ → ℕ) → (ℕ → ℕ) → Type 0
  AreAlike count count' = (s : ℕ) → s < g.sorts → IsAlike (count s) (count' s)

  same_function : (count : ℕ → ℕ) (sort h : ℕ) → function_count count g sort h ≡ added_by_function g f count sort h
  same_function count sort h = ap (λ n. cond (is_number (target_of g h) sort) n 0) (source (source_of g h))
    where
      source : (o : Option ℕ) → source_count count o ≡ added_by_source g f count o
      source None = refl
      source (Some s) = refl

  sums_same : {A : Type 0} (p q : A → ℕ) (xs : List A) → ((x : A) → p x ≡ q x) → sum_of (map p xs) ≡ sum_of (map q xs)
  sums_same p q [] e = refl
  sums_same p q (x ∷ xs) e = let a = e x in let b = sums_same p q xs e in cc

  abbrev of_variable : (ℕ → ℕ) → ℕ → Variable → ℕ
  of_variable count sort v = variable_count count sort v.sort v.above

  -- a variable that is no Skolem variable adds nothing
  same_skolems : (count : ℕ → ℕ) (sort : ℕ) (vs : List Variable) → sum_of (map (of_variable count sort) vs) ≡ sum_of (map (added_by_variable g f count sort) (filter (λ v. is_skolem g f v.above) vs))
  same_skolems count sort [] = refl
  same_skolems count sort (v ∷ vs) =
      one v.above refl ∙ ap (λ n. sum_of (map (added_by_variable g f count sort) (cond (is_skolem g f v.above) (v ∷ []) [])) + n) (same_skolems count sort vs) ∙ sym (split (is_skolem g f v.above))
    where
      rest : List Variable
      rest = filter (λ v. is_skolem g f v.above) vs

      split : (b : Bool) → sum_of (map (added_by_variable g f count sort) (cond b (v ∷ rest) rest)) ≡ sum_of (map (added_by_variable g f count sort) (cond b (v ∷ []) [])) + sum_of (map (added_by_variable g f count sort) rest)
      split true = omega arith
      split false = omega arith

      one : (above : List ℕ) → v.above ≡ above
          → of_variable count sort v + sum_of (map (of_variable count sort) vs) ≡ sum_of (map (added_by_variable g f count sort) (cond (is_skolem g f v.above) (v ∷ []) [])) + sum_of (map (of_variable count sort) vs)
      one [] e =
          ap (λ a. variable_count count sort v.sort a + sum_of (map (of_variable count sort) vs)) e
          ∙ ap (λ a. sum_of (map (added_by_variable g f count sort) (cond (is_skolem g f a) (v ∷ []) [])) + sum_of (map (of_variable count sort) vs)) (sym e)
      one (s ∷ above) e =
          let n : ℕ = cond (v.sort == sort) (product_of (map count v.above)) 0 in
          let here : of_variable count sort v ≡ n = ap (λ a. variable_count count sort v.sort a) e ∙ ap (λ a. cond (v.sort == sort) (product_of (map count a)) 0) (sym e) in
          let there : sum_of (map (added_by_variable g f count sort) (cond (is_skolem g f v.above) (v ∷ []) [])) ≡ n + 0 =
          ap (λ a. sum_of (map (added_by_variable g f count sort) (cond (is_skolem g f a) (v ∷ []) []))) e in
          omega (arith, here, there)

  one_code : (nodes : List Node) (count : ℕ → ℕ) (sort : ℕ) (c : Part) (vs : List Variable) → part_count count sort c + sum_of (map (of_variable count sort) vs) ≡ sum_of (map (of_variable count sort) (code_variables g nodes c ++ vs))
  one_code nodes count sort (Existential w) vs = refl
  one_code nodes count sort (Universal s) vs = omega arith
  one_code nodes count sort (Named id n) vs = omega arith
  one_code nodes count sort (Dependent id) vs = omega arith
  one_code nodes count sort (Literal id) vs = omega arith

  all_codes : (nodes : List Node) (count : ℕ → ℕ) (sort : ℕ) (cs : List Part) → parts_count count cs sort ≡ sum_of (map (of_variable count sort) (flat_map (code_variables g nodes) cs))
  all_codes nodes count sort [] = refl
  all_codes nodes count sort (c ∷ cs) =
      ap (λ n. part_count count sort c + n) (all_codes nodes count sort cs) ∙ one_code nodes count sort c (flat_map (code_variables g nodes) cs)

  variables_counted : (nodes : List Node) (count : ℕ → ℕ) (sort : ℕ) (cs : List Part) → AreThinned nodes (parts_of f) cs → parts_count count cs sort ≡ sum_of (map (of_variable count sort) (variables_of g f))
  variables_counted nodes count sort cs h =
      all_codes nodes count sort cs ∙ ap (λ vs. sum_of (map (of_variable count sort) vs)) (sym (variables_thinned g nodes (parts_of f) cs h))

  -- one round more, by the code's forms
  pub same_round : (nodes : List Node) (cs : List Part) (n sort : ℕ) → AreThinned nodes (parts_of f) cs
      → count_after g f (suc n) sort ≡ length (of_sort g f sort (filter (is_plain g f) (first_terms g f))) + round_count (count_after g f n) g (functions g f) cs sort
  same_round nodes cs n sort h =
      let count : ℕ → ℕ = count_after g f n in
      let fields = sums_same (function_count count g sort) (added_by_function g f count sort) (functions g f) (same_function count sort) in
      let skolems : parts_count count cs sort ≡ sum_of (map (added_by_variable g f count sort) (skolem_variables g f)) =
      variables_counted nodes count sort cs h ∙ same_skolems count sort (variables_of g f) in
      omega (arith, fields, skolems)

  module _ (over : IsOver g [] f) where
    alike_variable : (count count' : ℕ → ℕ) (sort own : ℕ) (above : List ℕ) → AreAlike count count' → ((s : ℕ) → Contains above s → s < g.sorts)
        → IsAlike (variable_count count sort own above) (variable_count count' sort own above)
    alike_variable count count' sort own [] e below = refl
    alike_variable count count' sort own (s ∷ above) e below =
        alike_cond (own == sort) (product_of (map count (s ∷ above))) (product_of (map count' (s ∷ above)))
        (alike_products count count' (s ∷ above) (λ x c. e x (below x c)))

    alike_function : (count count' : ℕ → ℕ) (sort h : ℕ) → AreAlike count count' → IsAlike (function_count count g sort h) (function_count count' g sort h)
    alike_function count count' sort h e =
        alike_cond (is_number (target_of g h) sort) (source_count count (source_of g h)) (source_count count' (source_of g h)) (source (source_of g h) refl)
      where
        source : (o : Option ℕ) → source_of g h ≡ o → IsAlike (source_count count o) (source_count count' o)
        source None s = refl
        source (Some from) s = e from (source_below g h from s)

    pub alike_round : (nodes : List Node) (cs : List Part) (count count' : ℕ → ℕ) (fs : List ℕ) (sort : ℕ) → AreThinned nodes (parts_of f) cs → AreAlike count count'
        → IsAlike (round_count count g fs cs sort) (round_count count' g fs cs sort)
    alike_round nodes cs count count' fs sort h e =
        alike_sum (functions_count count g fs sort) (parts_count count cs sort) (functions_count count' g fs sort) (parts_count count' cs sort)
        (alike_sums (function_count count g sort) (function_count count' g sort) fs (λ k c. alike_function count count' sort k e))
        (ap counted (variables_counted nodes count sort cs h)
        ∙ (alike_sums (of_variable count sort) (of_variable count' sort) (variables_of g f)
        (λ v c. let typed = all_typed g f over (existential v) (variable_part g f v c) in alike_variable count count' sort v.sort v.above e typed.1)
        ∙ ap counted (sym (variables_counted nodes count' sort cs h))))

    -- rounds that begin alike go on alike
    step_alike : (nodes : List Node) (cs : List Part) (n m : ℕ) → AreThinned nodes (parts_of f) cs → AreAlike (count_after g f n) (count_after g f m) → AreAlike (count_after g f (suc n)) (count_after g f (suc m))
    step_alike nodes cs n m h e = λ s lt.
        let own : ℕ = length (of_sort g f s (filter (is_plain g f) (first_terms g f))) in
        ap counted (same_round nodes cs n s h)
        ∙ (alike_sum own (round_count (count_after g f n) g (functions g f) cs s) own (round_count (count_after g f m) g (functions g f) cs s) refl
        (alike_round nodes cs (count_after g f n) (count_after g f m) (functions g f) s h e)
        ∙ ap counted (sym (same_round nodes cs m s h)))

    no_more : (nodes : List Node) (cs : List Part) (n : ℕ) → AreThinned nodes (parts_of f) cs → AreAlike (count_after g f (suc n)) (count_after g f n) → (k : ℕ) → AreAlike (count_after g f (k + n)) (count_after g f n)
    no_more nodes cs n h e zero = λ s lt. let z : 0 + n ≡ n = omega arith in ap (λ m. counted (count_after g f m s)) z
    no_more nodes cs n h e (suc k) = λ s lt.
        let z : suc k + n ≡ suc (k + n) = omega arith in
        ap (λ m. counted (count_after g f m s)) z ∙ (step_alike nodes cs (k + n) n h (no_more nodes cs n h e k) s lt ∙ e s lt)

    module _ (basis : Basis) (is : IsBasis g f basis) where
      -- the first terms
      pub counts_begun : (ids counts : List ℕ) → ids ≡ basis.first.items → AreCounts g.sorts (λ sort. length (of_sort_in g (terms_at basis.arena ids) sort)) counts → AreCounts g.sorts (count_after g f 0) counts
      counts_begun ids counts e h = record {
        size = h.size;
        are = λ s lt. h.are s lt ∙ ap (λ ts. counted (length (of_sort_in g ts s))) (ap (terms_at basis.arena) e ∙ is.first.are);
      }

      -- one more round
      pub counts_on : (ids fs counts counts' plain plain' next : List ℕ) (cs : List Part) (n : ℕ) → ids ≡ basis.plain.items → fs ≡ basis.functions.items → cs ≡ basis.parts.items → counts' ≡ counts → plain' ≡ plain
          → AreCounts g.sorts (λ sort. length (of_sort_in g (terms_at basis.arena ids) sort)) plain → AreCounts g.sorts (count_after g f n) counts
          → AreRaised (round_count (count_in counts') g fs cs) plain' next → AreCounts g.sorts (count_after g f (n + 1)) next
      counts_on ids fs counts counts' plain plain' next cs n a b d e p own h r = record {
        size = r.size ∙ (ap length p ∙ own.size);
        are = λ s lt.
            let stay : ℕ = length (of_sort g f s (filter (is_plain g f) (first_terms g f))) in
            let here : s < length plain' = omega (arith, lt, own.size, ap length p) in
            let kept : IsAlike (count_in plain' s) stay = ap (λ xs. counted (count_in xs s)) p ∙ (own.are s lt ∙ ap (λ ts. counted (length (of_sort_in g ts s))) (ap (terms_at basis.arena) a ∙ is.plain.are)) in
            let round : IsAlike (round_count (count_in counts') g fs cs s) (round_count (count_after g f n) g (functions g f) basis.parts.items s) =
            ap (λ xs. counted (round_count (count_in xs) g fs cs s)) e
            ∙ (ap (λ xs. counted (round_count (count_in counts) g xs cs s)) (b ∙ is.applied)
            ∙ (ap (λ xs. counted (round_count (count_in counts) g (functions g f) xs s)) d
            ∙ alike_round is.nodes basis.parts.items (count_in counts) (count_after g f n) (functions g f) s is.parts h.are)) in
            r.raised s here
            ∙ (alike_sum (count_in plain' s) (round_count (count_in counts') g fs cs s) stay (round_count (count_after g f n) g (functions g f) basis.parts.items s) kept round
            ∙ (ap counted (sym (same_round is.nodes basis.parts.items n s is.parts)) ∙ ap (λ k. counted (count_after g f k s)) (sym (add-one n))));
      }

      -- where a round gives what it began with
      pub counts_settled : (n m : ℕ) (counts next : List ℕ) → n ≤ m → AreCounts g.sorts (count_after g f n) counts → AreCounts g.sorts (count_after g f (n + 1)) next → next ≡ counts → AreCounts g.sorts (count_after g f m) counts
      counts_settled n m counts next le h k e =
          let again : AreAlike (count_after g f (suc n)) (count_after g f n) =
          λ s lt. ap (λ i. counted (count_after g f i s)) (sym (add-one n)) ∙ (sym (k.are s lt) ∙ (ap (λ xs. counted (count_in xs s)) e ∙ h.are s lt)) in
          let sum : (m - n) + n ≡ m = omega (arith, le) in
          record {
            size = h.size;
            are = λ s lt. h.are s lt ∙ (sym (no_more is.nodes basis.parts.items n is.parts again (m - n) s lt) ∙ ap (λ i. counted (count_after g f i s)) sum);
          }

  -- all terms together
  sum_from : (count : ℕ → ℕ) (counts : List ℕ) (a : ℕ) → ((k : ℕ) → k < length counts → IsAlike (count_in counts k) (count (a + k))) → IsAlike (sum_of counts) (sum_of (map count (range_with_len a (length counts))))
  sum_from count [] a e = refl
  sum_from count (n ∷ counts) a e =
      let z : a + 0 ≡ a = omega arith in
      alike_sum n (sum_of counts) (count a) (sum_of (map count (range_with_len (a + 1) (length counts))))
      (e 0 (omega arith) ∙ ap (λ k. counted (count k)) z)
      (sum_from count counts (a + 1) (λ k lt. let y : a + suc k ≡ (a + 1) + k = omega arith in e (suc k) (omega (arith, lt)) ∙ ap (λ i. counted (count i)) y))

  pub total_is : (n : ℕ) (counts : List ℕ) → AreCounts g.sorts (count_after g f n) counts → IsAlike (sum_of counts) (terms_counted g f n)
  total_is n counts h =
      sum_from (count_after g f n) counts 0 (λ k lt. let z : k ≡ 0 + k = omega arith in h.are k (omega (arith, lt, h.size)) ∙ ap (λ i. counted (count_after g f n i)) z)
      ∙ ap (λ m. counted (sum_of (map (count_after g f n) (range_with_len 0 m)))) h.size
