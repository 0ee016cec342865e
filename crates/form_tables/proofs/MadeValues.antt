-- What terms name in the structure of a consistent table.
use Rattle.std.proofs.Common.{◌≡◌, ℕ, ◌+◌, ◌<◌, Bool, true, false, refl, sym, ◌∙◌, List, [], ◌∷◌, Some, None, Option, cond, ap, subst, arith, slice_get, Contains}
use Rattle.std.specs.Prelude.{option_and_then, is_some, not, ◌==◌, slice_index_or, unwrap_or, nat_lt}
use Rattle.std.specs.List.{find, list_any}
use Rattle.std.specs.Option.{option_map}
use Rattle.std.proofs.lemmas.Bool.{and_parts, eqb-true}
use Rattle.std.proofs.lemmas.List.FromFn.{get_or-map-range_with_len}
use Rattle.std.proofs.lemmas.Option.{get_or_from_slice_get}
use Rattle.form_formula.specs.declared.structure.Range.{Range}
use Rattle.form_formula.specs.declared.structure.Range.TheVariants as kinds
use Rattle.form_formula.specs.declared.structure.FunSig.{FunSig}
use Rattle.form_formula.specs.declared.structure.Signature.{Signature}
use Rattle.form_formula.specs.declared.structure.SVal.{SVal}
use Rattle.form_formula.specs.declared.structure.SVal.TheVariants.{Rec}
use Rattle.form_formula.specs.declared.structure.Structure.{Structure}
use Rattle.form_formula.specs.Over.{IsFunction, IsOver}
use Rattle.form_formula.specs.Trees.{Formula}
use Rattle.form_formula.specs.Truth.{element_of, entry, size_of}
use Rattle.form_terms.specs.GroundTerms.{GroundTerm, GroundTerms, constant, skolem, field, no_terms, term_and, sort_of, is_number}
use Rattle.form_terms.specs.Parts.{Variable}
use Rattle.form_terms.specs.Universe.{HaveSorts, HasEach, variables_of}
use Rattle.form_terms.specs.Passing.{Choice, element_named, elements_named}
use Rattle.form_terms.proofs.Lists.{find-any, find-Contains, cond_true}
use Rattle.form_terms.proofs.Kept.{enumerated, list_any-from, nat_same}
use Rattle.form_terms.proofs.CutFacts.{is_the_number, number_is}
use Rattle.form_terms.proofs.Numbers.{variables_once}
use Rattle.form_tables.specs.Vocabulary.{Vocabulary, IsVocabulary, IsValued, IsValuedIn, told}
use Rattle.form_tables.specs.Table.{Table, is_there, IsSame, AreSame}
use Rattle.form_tables.specs.Consistent.{IsConsistent, range_of}
use Rattle.form_tables.specs.Made.{class_of, classes, made_size, place, element, default, made_value, is_at, made_entry, made_function, are_at, is_variable, made, made_choice, value_in}
use Rattle.form_tables.proofs.Positions.{find-front, marked_once, below}
use Rattle.form_tables.proofs.Sound.{told_function, is_some_value}
use Rattle.std.proofs.lemmas.List.Elements.{Contains-append_left}
use Rattle.form_tables.proofs.Classes.{from_class, size_made, IsAt, at_value, at_none, at_there, at_within, is_at_place, one_element, sort_value, sort_below, named_told, place_at, some_size, empty, sorted_range}

elements_step : {A : Type 0} (o : Option ℕ) (xs : Option (List ℕ)) (ys : List ℕ) → option_and_then (λ x. option_map (λ xs. x ∷ xs) xs) o ≡ Some ys
    → ((x : ℕ) (zs : List ℕ) → o ≡ Some x → xs ≡ Some zs → ys ≡ x ∷ zs → A) → A
elements_step None xs ys e then' = cc
elements_step (Some x) None ys e then' = cc
elements_step (Some x) (Some zs) ys e then' = let same : x ∷ zs ≡ ys = cc in then' x zs refl refl (sym same)

module _ (g : Signature) (f : Formula) (terms : List GroundTerm) (v : Vocabulary) (table : Table)
    (over : IsOver g [] f) (words : IsVocabulary g f terms v) (fits : IsConsistent g v table) where
  abbrev new : Structure
  new = made g v table

  abbrev choice : Choice
  choice = made_choice g v table

  abbrev at : GroundTerm → Option ℕ
  at t = element g v table t

  -- the function at a term with this number
  abbrev pub IsFoundAt : ℕ → ℕ → GroundTerm → Type 0
  IsFoundAt h k u = (t : GroundTerm) × (u ≡ field h t) × (table.value t ≡ Some (Rec k))

  pub found_at : (h k : ℕ) (u : GroundTerm) → is_at g v table h k u ≡ true → IsFoundAt h k u
  found_at h k (constant sort) e = cc
  found_at h k (skolem number sort ts) e = cc
  found_at h k (field h' t) e =
      let (a, b) = and_parts (h' == h) (is_number (class_of g v table t) k) e in
      (t, ap (λ h. field h t) (eqb-true h' h a), from_class (table.value t) k (number_is (class_of g v table t) k b))

  at_itself : (h k : ℕ) (t : GroundTerm) → table.value t ≡ Some (Rec k) → is_at g v table h k (field h t) ≡ true
  at_itself h k t e =
      let a = nat_same h in
      let b = is_the_number (class_of g v table t) k (ap (option_and_then element_of) e) in cc

  -- what the function has at an element, by the number of the element
  abbrev pub entry_of : ℕ → FunSig → ℕ → Option SVal
  entry_of h sig k = made_entry g v table sig (find (is_at g v table h k) (told v))

  pub made_row : (h : ℕ) (sig : FunSig) → IsFunction g h sig → slice_index_or new.funs h [] ≡ made_function g v table (h, sig)
  made_row h sig there =
      let start : 0 + h ≡ h = omega arith in
      enumerated (made_function g v table) 0 h g.funs sig [] there ∙ ap (λ h. made_function g v table (h, sig)) start

  pub made_at : (h : ℕ) (sig : FunSig) (x : ℕ) → IsFunction g h sig → x < made_size g v table sig.from
      → entry new h x ≡ entry_of h sig (slice_index_or (classes g v table sig.from) x 0)
  made_at h sig x there less =
      ap (λ row. slice_index_or row x None) (made_row h sig there)
      ∙ get_or-map-range_with_len (λ x. entry_of h sig (slice_index_or (classes g v table sig.from) x 0)) 0 (made_size g v table sig.from) x x None less (omega arith)

  -- a search among all terms finds one that names an element, if such a term passes
  abbrev IsHit : (GroundTerm → Bool) → GroundTerm → Type 0
  IsHit p t = (u : GroundTerm) × Contains (told v) u × (p u ≡ true) × (find p (told v) ≡ Some u) × (Contains v.named t → Contains v.named u)

  hit : (p : GroundTerm → Bool) (t : GroundTerm) → Contains (told v) t → p t ≡ true → IsHit p t
  hit p t there test = choose (list_any p v.named) refl
    where
      choose : (b : Bool) → list_any p v.named ≡ b → IsHit p t
      choose true e =
          let (u, found, passes) = find-any p v.named e in
          let own = find-Contains p v.named u found in
          (u, Contains-append_left v.named v.others u own, passes, find-front p v.named v.others u found, λ here. own)
      choose false e =
          let (u, found, passes) = find-any p (told v) (list_any-from p (told v) t there test) in
          (u, find-Contains p (told v) u found, passes, found, λ here. let yes' = list_any-from p v.named t here test in let no' : true ≡ false = sym yes' ∙ e in cc)

  valued_in : (o : Option ℕ) (t u : GroundTerm) → Contains (told v) u → (Contains v.named t → Contains v.named u) → IsValuedIn g v o t → IsValuedIn g v o u
  valued_in None t u there front h = there
  valued_in (Some sort) t u there front h = front h

  pub named_valued : (t : GroundTerm) → Contains v.named t → IsValued g v t
  named_valued t there =
      let (sort, kind) = words.sorted t there in
      let P : Option ℕ → Type 0 = λ o. IsValuedIn g v o t in
      subst P (sym kind) there

  -- the function at a term that is there, found
  abbrev IsTold : ℕ → FunSig → GroundTerm → ℕ → Type 0
  IsTold h sig t x = (u : GroundTerm) × Contains (told v) (field h u) × IsSame table t u × (IsValued g v (field h t) → IsValued g v (field h u))
      × (entry new h x ≡ option_map (made_value g v table sig.to) (table.value (field h u)))

  told_at : (h : ℕ) (sig : FunSig) (t : GroundTerm) (x : ℕ) → IsFunction g h sig → sort_of g t ≡ Some sig.from → Contains v.named t
      → Contains (told v) (field h t) → IsAt g f terms v table over words fits t sig.from x → IsTold h sig t x
  told_at h sig t x there source named listed place =
      let k : ℕ = place.number in
      let inside : x < size_of new sig.from =
      at_within g f terms v table over words fits t sig.from x named source (at_value g f terms v table over words fits t sig.from k source place.value ∙ ap (λ x. Some x) place.placed) in
      let less : x < made_size g v table sig.from =
      omega (arith, inside, size_made g f terms v table over words fits sig.from (sort_below g f terms v table over words fits t sig.from named source)) in
      let P : ℕ → Type 0 = λ x. slice_get (classes g v table sig.from) x ≡ Some k in
      let stands = subst P place.placed (place_at g f terms v table over words fits sig.from k place.listed) in
      let number : slice_index_or (classes g v table sig.from) x 0 ≡ k = get_or_from_slice_get (classes g v table sig.from) x k 0 stands in
      let value : entry new h x ≡ entry_of h sig k = made_at h sig x there less ∙ ap (entry_of h sig) number in
      let (u, here, passes, found, front) = hit (is_at g v table h k) (field h t) listed (at_itself h k t place.value) in
      let (w, same, w-value) = found_at h k u passes in
      let Q : GroundTerm → Type 0 = λ u. Contains (told v) u in
      let R : GroundTerm → Type 0 = λ u. Contains v.named (field h t) → Contains v.named u in
      let here-w : Contains (told v) (field h w) = subst Q same here in
      let front-w : Contains v.named (field h t) → Contains v.named (field h w) = subst R same front in (
        w,
        here-w,
        (Rec k, place.value, w-value),
        valued_in (sort_of g (field h t)) (field h t) (field h w) here-w front-w,
        value ∙ (ap (made_entry g v table sig) found ∙ ap (λ u. option_map (made_value g v table sig.to) (table.value u)) same),
      )

  some_map : {A B : Type 0} (h : A → B) (o : Option A) → is_some (option_map h o) ≡ is_some o
  some_map h None = refl
  some_map h (Some x) = refl

  none_within : (h : ℕ) (t : GroundTerm) → Contains (told v) (field h t) → table.value t ≡ None → table.value (field h t) ≡ None
  none_within h t there e = choose (table.value (field h t)) refl
    where
      choose : (o : Option SVal) → table.value (field h t) ≡ o → o ≡ None
      choose None p = refl
      choose (Some w) p = let yes' = fits.functions.within h t there (ap is_some p) in let no' : true ≡ false = sym yes' ∙ ap is_some e in cc

  -- what a function has in the structure, at the element that a term names
  module _ (h : ℕ) (t : GroundTerm) (listed : Contains (told v) (field h t)) where
    abbrev IsMadeAt : Option SVal → Type 0
    IsMadeAt o = (is_some o ≡ is_some (table.value (field h t)))
        × ((sig : FunSig) → IsFunction g h sig → IsValued g v (field h t) → o ≡ option_map (made_value g v table sig.to) (table.value (field h t)))

    pub function_made : IsMadeAt (option_and_then (entry new h) (at t))
    function_made =
        let (sig, there, source, named) = told_function g f terms v words h t listed in
        choose sig there source named (table.value t) refl
      where
        same_sig : (sig other : FunSig) → IsFunction g h sig → IsFunction g h other → sig ≡ other
        same_sig sig other p q = let both : Some sig ≡ Some other = sym p ∙ q in cc

        choose : (sig : FunSig) → IsFunction g h sig → sort_of g t ≡ Some sig.from → Contains v.named t → (o : Option SVal) → table.value t ≡ o
            → IsMadeAt (option_and_then (entry new h) (at t))
        choose sig there source named None e =
            let none : option_and_then (entry new h) (at t) ≡ None =
            ap (option_and_then (entry new h)) (at_none g f terms v table over words fits t sig.from source e) in
            let own = none_within h t listed e in (
              ap is_some none ∙ sym (ap is_some own),
              λ other p q. none ∙ sym (ap (option_map (made_value g v table other.to)) own),
            )
        choose sig there source named (Some w) e =
            let (k, w-is) = sort_value g f terms v table over words fits t sig.from w (named_told g f terms v table over words fits t named) source e in
            let x : ℕ = place g v table sig.from k in
            let here : at t ≡ Some x = at_value g f terms v table over words fits t sig.from k source (e ∙ ap (λ w. Some w) w-is) in
            let spot = is_at_place g f terms v table over words fits t sig.from x named source here in
            let (u, u-listed, same, front, value) = told_at h sig t x there source named listed spot in
            let whole : option_and_then (entry new h) (at t) ≡ option_map (made_value g v table sig.to) (table.value (field h u)) =
            ap (option_and_then (entry new h)) here ∙ value in (
              ap is_some whole ∙ (some_map (made_value g v table sig.to) (table.value (field h u)) ∙ sym (fits.functions.alike h t u listed u-listed same)),
              λ other p q.
                  ap (option_and_then (entry new h)) here ∙ (value ∙ (ap (λ sig. option_map (made_value g v table sig.to) (table.value (field h u))) (same_sig sig other there p)
                  ∙ ap (option_map (made_value g v table other.to)) (sym (fits.functions.same h t u q (front q) same)))),
            )

  -- the elements that terms name
  abbrev all_at : GroundTerms → Option (List ℕ)
  all_at no_terms = Some []
  all_at (term_and t ts) = option_and_then (λ x. option_map (λ xs. x ∷ xs) (all_at ts)) (at t)

  are_at_from : (ts : GroundTerms) (xs : List ℕ) → all_at ts ≡ Some xs → are_at g v table xs ts ≡ true
  are_at_from no_terms xs e = let same : [] ≡ xs = cc in let P : List ℕ → Type 0 = λ xs. are_at g v table xs no_terms ≡ true in subst P same refl
  are_at_from (term_and t ts) xs e =
      elements_step (at t) (all_at ts) xs e (λ x zs p q same.
      let a = is_the_number (at t) x p in
      let b = are_at_from ts zs q in
      let whole : are_at g v table (x ∷ zs) (term_and t ts) ≡ true = cc in
      ap (λ xs. are_at g v table xs (term_and t ts)) same ∙ whole)

  from_are_at : (ts : GroundTerms) (xs : List ℕ) → are_at g v table xs ts ≡ true → all_at ts ≡ Some xs
  from_are_at no_terms [] e = refl
  from_are_at no_terms (x ∷ xs) e = cc
  from_are_at (term_and t ts) [] e = cc
  from_are_at (term_and t ts) (x ∷ xs) e =
      let (a, b) = and_parts (is_number (at t) x) (are_at g v table xs ts) e in
      ap (option_and_then (λ x. option_map (λ xs. x ∷ xs) (all_at ts))) (number_is (at t) x a) ∙ ap (option_map (λ xs. x ∷ xs)) (from_are_at ts xs b)

  all_one : (ts us : GroundTerms) (sorts xs : List ℕ) → HaveSorts g ts sorts → HaveSorts g us sorts → HasEach (Contains v.named) ts → HasEach (Contains v.named) us
      → all_at ts ≡ Some xs → all_at us ≡ Some xs → AreSame table ts us
  all_one no_terms no_terms sorts xs a b p q d e = tt
  all_one no_terms (term_and u us) [] xs a b p q d e = absurd b
  all_one no_terms (term_and u us) (s ∷ sorts) xs a b p q d e = absurd a
  all_one (term_and t ts) no_terms [] xs a b p q d e = absurd a
  all_one (term_and t ts) no_terms (s ∷ sorts) xs a b p q d e = absurd b
  all_one (term_and t ts) (term_and u us) [] xs a b p q d e = absurd a
  all_one (term_and t ts) (term_and u us) (s ∷ sorts) xs a b p q d e =
      elements_step (at t) (all_at ts) xs d (λ x zs x-at zs-at same.
      elements_step (at u) (all_at us) xs e (λ y ws y-at ws-at other.
      let both : x ∷ zs ≡ y ∷ ws = sym same ∙ other in
      let one : y ≡ x = cc in
      let rest : ws ≡ zs = cc in (
        one_element g f terms v table over words fits t u s x p.0 q.0 a.0 b.0 x-at (y-at ∙ ap (λ y. Some y) one),
        all_one ts us sorts zs a.1 b.1 p.1 q.1 zs-at (ws-at ∙ ap (λ ws. Some ws) rest),
      )))

  -- the elements of terms that are all there
  all_there : (ts : GroundTerms) (sorts : List ℕ) → HaveSorts g ts sorts → HasEach (Contains v.named) ts → HasEach (λ t. is_there table t ≡ true) ts
      → (xs : List ℕ) × (all_at ts ≡ Some xs)
  all_there no_terms sorts a p e = ([], refl)
  all_there (term_and t ts) [] a p e = absurd a
  all_there (term_and t ts) (s ∷ sorts) a p e =
      let (x, here) = is_some_value (at t) (sym (at_there g f terms v table over words fits t s p.0 a.0) ∙ e.0) in
      let (xs, rest) = all_there ts sorts a.1 p.1 e.1 in
      (x ∷ xs, ap (option_and_then (λ x. option_map (λ xs. x ∷ xs) (all_at ts))) here ∙ ap (option_map (λ xs. x ∷ xs)) rest)

  none_at : (t : GroundTerm) (sort : ℕ) → Contains v.named t → sort_of g t ≡ Some sort → is_there table t ≡ false → at t ≡ None
  none_at t sort named kind e = own (at t) (sym (at_there g f terms v table over words fits t sort named kind) ∙ e)
    where
      own : (o : Option ℕ) → is_some o ≡ false → o ≡ None
      own None e = refl
      own (Some x) e = cc

  -- the variable that a search finds, which is of the same sort and at terms of the same sorts
  abbrev pub IsVariableAt : ℕ → List ℕ → GroundTerm → Type 0
  IsVariableAt number xs u = (sort : ℕ) × (us : GroundTerms) × (u ≡ skolem number sort us) × (all_at us ≡ Some xs)

  pub variable_at : (number : ℕ) (xs : List ℕ) (u : GroundTerm) → is_variable g v table number xs u ≡ true → IsVariableAt number xs u
  variable_at number xs (constant sort) e = cc
  variable_at number xs (field h t) e = cc
  variable_at number xs (skolem n sort us) e =
      let (a, b) = and_parts (n == number) (are_at g v table xs us) e in
      (sort, us, ap (λ n. skolem n sort us) (eqb-true n number a), from_are_at us xs b)

  pub one_variable : (a b : Variable) → Contains (variables_of g f) a → Contains (variables_of g f) b → a.number ≡ b.number → a ≡ b
  one_variable a b p q e = marked_once (λ v. v.number) (variables_of g f) a b (variables_once g f) p q e

  same_variable : (number m n : ℕ) (above above' : List ℕ) → Contains (variables_of g f) (record { number = number; sort = m; above = above })
      → Contains (variables_of g f) (record { number = number; sort = n; above = above' }) → (m ≡ n) × (above ≡ above')
  same_variable number m n above above' p q =
      let first : Variable = record { number = number; sort = m; above = above } in
      let second : Variable = record { number = number; sort = n; above = above' } in
      let one : first ≡ second = one_variable first second p q refl in
      (ap (λ v. v.sort) one, ap (λ v. v.above) one)

  abbrev IsElement : GroundTerm → Type 0
  IsElement t = element_named new choice t ≡ at t

  constant_made : (sort : ℕ) → Contains v.named (constant sort) → choice.constant sort ≡ at (constant sort)
  constant_made sort there = choose (table.is_empty sort) refl
    where
      below' : sort < g.sorts
      below' = sort_below g f terms v table over words fits (constant sort) sort there refl

      known : Some (unwrap_or (at (constant sort)) 0) ≡ at (constant sort) → 0 < size_of new sort → choice.constant sort ≡ at (constant sort)
      known e some = cond_true (nat_lt 0 (size_of new sort)) _ _ (below 0 (size_of new sort) some) ∙ e

      choose : (b : Bool) → table.is_empty sort ≡ b → choice.constant sort ≡ at (constant sort)
      choose true e =
          let none : size_of new sort ≡ 0 = empty g f terms v table over words fits sort below' e in
          let left : choice.constant sort ≡ None = ap (λ n. cond (nat_lt 0 n) (Some (default g v table sort)) None) none in
          left ∙ sym (none_at (constant sort) sort there refl (fits.sorts.constants sort there ∙ ap not e))
      choose false e =
          let (x, here) = is_some_value (at (constant sort))
          (sym (at_there g f terms v table over words fits (constant sort) sort there refl) ∙ (fits.sorts.constants sort there ∙ ap not e)) in
          known (ap (λ o. Some (unwrap_or o 0)) here ∙ sym here) (some_size g f terms v table over words fits sort below' e)

  at_one : (t u : GroundTerm) → t ≡ u → at t ≡ at u
  at_one t u e = ap at e

  one_at : (number sort : ℕ) (us ts : GroundTerms) → table.value (skolem number sort us) ≡ table.value (skolem number sort ts)
      → at (skolem number sort us) ≡ at (skolem number sort ts)
  one_at number sort us ts value = ap (λ o. option_map (place g v table sort) (option_and_then element_of o)) value

  skolem_made : (number sort : ℕ) (ts : GroundTerms) → Contains v.named (skolem number sort ts) → elements_named new choice ts ≡ all_at ts
      → option_and_then (choice.variable number) (elements_named new choice ts) ≡ at (skolem number sort ts)
  skolem_made number sort ts there e = ap (option_and_then (choice.variable number)) e ∙ choose (all_at ts) refl
    where
      choose : (o : Option (List ℕ)) → all_at ts ≡ o → option_and_then (choice.variable number) o ≡ at (skolem number sort ts)
      choose None p = sym (none_at (skolem number sort ts) sort there refl (absent (is_there table (skolem number sort ts)) refl))
        where
          absent : (b : Bool) → is_there table (skolem number sort ts) ≡ b → b ≡ false
          absent false q = refl
          absent true q =
              let (above, variable, sorts, each) = words.formed (skolem number sort ts) there in
              let (xs, all) = all_there ts above sorts each (fits.variables.within number sort ts there q) in
              let no' : Some xs ≡ None = sym all ∙ p in cc
      choose (Some xs) p =
          let (above, variable, sorts, each) = words.formed (skolem number sort ts) there in
          let a = nat_same number in
          let b = are_at_from ts xs p in
          let test : is_variable g v table number xs (skolem number sort ts) ≡ true = cc in
          let (u, found, passes) = find-any (is_variable g v table number xs) v.named (list_any-from (is_variable g v table number xs) v.named (skolem number sort ts) there test) in
          let listed = find-Contains (is_variable g v table number xs) v.named u found in
          let (s, us, u-is, us-at) = variable_at number xs u passes in
          let P : GroundTerm → Type 0 = λ u. Contains v.named u in
          let other : Contains v.named (skolem number s us) = subst P u-is listed in
          let (above', variable', sorts', each') = words.formed (skolem number s us) other in
          let (same, arguments) = same_variable number s sort above' above variable' variable in
          let Q : List ℕ → Type 0 = λ sorts. HaveSorts g us sorts in
          let R : ℕ → Type 0 = λ s. Contains v.named (skolem number s us) in
          let alike = all_one us ts above xs (subst Q arguments sorts') sorts each' each us-at p in
          let value = fits.variables.same number sort us ts (subst R same other) there alike in
          let found-here : at u ≡ at (skolem number sort ts) =
          at_one u (skolem number s us) u-is ∙ (ap (λ s. at (skolem number s us)) same ∙ one_at number sort us ts value) in
          ap (option_and_then at) found ∙ found-here

  field_made : (h : ℕ) (t : GroundTerm) → Contains v.named (field h t) → IsElement t → IsElement (field h t)
  field_made h t there e =
      let (sig, function, source, below') = words.formed (field h t) there in
      let (sort, kind) = words.sorted (field h t) there in
      let (asked, valued) = function_made h t (named_told g f terms v table over words fits (field h t) there) in
      let whole = valued sig function (named_valued (field h t) there) in
      let to : sig.to ≡ kinds.Rec sort = range_is sig sort function kind in
      ap (λ o. option_and_then element_of (option_and_then (entry new h) o)) e ∙ (ap (option_and_then element_of) whole
      ∙ (ap (λ to. option_and_then element_of (option_map (made_value g v table to) (table.value (field h t)))) to ∙ choose sort kind (table.value (field h t)) refl))
    where
      range_is : (sig : FunSig) (sort : ℕ) → IsFunction g h sig → sort_of g (field h t) ≡ Some sort → sig.to ≡ kinds.Rec sort
      range_is sig sort function kind =
          let both : Some sig.to ≡ Some (kinds.Rec sort) = sym (ap (option_map (λ sig. sig.to)) function) ∙ sorted_range g (field h t) sort kind in cc

      choose : (sort : ℕ) → sort_of g (field h t) ≡ Some sort → (o : Option SVal) → table.value (field h t) ≡ o
          → option_and_then element_of (option_map (made_value g v table (kinds.Rec sort)) (table.value (field h t))) ≡ at (field h t)
      choose sort kind None p =
          ap (λ o. option_and_then element_of (option_map (made_value g v table (kinds.Rec sort)) o)) p ∙ sym (at_none g f terms v table over words fits (field h t) sort kind p)
      choose sort kind (Some w) p =
          let (k, w-is) = sort_value g f terms v table over words fits (field h t) sort w (named_told g f terms v table over words fits (field h t) there) kind p in
          let value : table.value (field h t) ≡ Some (Rec k) = p ∙ ap (λ w. Some w) w-is in
          ap (λ o. option_and_then element_of (option_map (made_value g v table (kinds.Rec sort)) o)) value
          ∙ sym (at_value g f terms v table over words fits (field h t) sort k kind value)

  mutual
    -- each term names the element of its number
    pub element_made : (t : GroundTerm) → Contains v.named t → element_named new choice t ≡ at t
    element_made (constant sort) there = constant_made sort there
    element_made (skolem number sort ts) there =
        let (above, variable, sorts, each) = words.formed (skolem number sort ts) there in
        skolem_made number sort ts there (elements_made ts each)
    element_made (field h t) there =
        let (sig, function, source, below') = words.formed (field h t) there in
        field_made h t there (element_made t below')

    elements_made : (ts : GroundTerms) → HasEach (Contains v.named) ts → elements_named new choice ts ≡ all_at ts
    elements_made no_terms h = refl
    elements_made (term_and t ts) h =
        ap (λ o. option_and_then (λ x. option_map (λ xs. x ∷ xs) (elements_named new choice ts)) o) (element_made t h.0)
        ∙ ap (λ xs. option_and_then (λ x. option_map (λ xs. x ∷ xs) xs) (at t)) (elements_made ts h.1)

  -- and what a told function has is as the table tells
  pub asked_made : (h : ℕ) (t : GroundTerm) → Contains (told v) (field h t) → is_some (value_in new choice (field h t)) ≡ is_there table (field h t)
  asked_made h t there =
      let (sig, function, source, below') = told_function g f terms v words h t there in
      ap (λ o. is_some (option_and_then (entry new h) o)) (element_made t below') ∙ (function_made h t there).0

  value_of_element : (n : ℕ) (t : GroundTerm) → Contains v.named t → sort_of g t ≡ Some n
      → option_map (λ x. Rec x) (element_named new choice t) ≡ option_map (made_value g v table (kinds.Rec n)) (table.value t)
  value_of_element n t there kind = ap (option_map (λ x. Rec x)) (element_made t there) ∙ choose (table.value t) refl
    where
      choose : (o : Option SVal) → table.value t ≡ o → option_map (λ x. Rec x) (at t) ≡ option_map (made_value g v table (kinds.Rec n)) o
      choose None e = ap (option_map (λ x. Rec x)) (at_none g f terms v table over words fits t n kind e)
      choose (Some w) e =
          let (k, w-is) = sort_value g f terms v table over words fits t n w (named_told g f terms v table over words fits t there) kind e in
          ap (option_map (λ x. Rec x)) (at_value g f terms v table over words fits t n k kind (e ∙ ap (λ w. Some w) w-is))
          ∙ ap (λ w. Some (made_value g v table (kinds.Rec n) w)) (sym w-is)

  pub value_made : (t : GroundTerm) (range : Range) → IsValued g v t → Contains (told v) t → range_of g t ≡ Some range
      → value_in new choice t ≡ option_map (made_value g v table range) (table.value t)
  value_made (constant n) range valued there kind =
      let same : kinds.Rec n ≡ range = cc in
      value_of_element n (constant n) valued refl ∙ ap (λ range. option_map (made_value g v table range) (table.value (constant n))) same
  value_made (skolem number n ts) range valued there kind =
      let same : kinds.Rec n ≡ range = cc in
      value_of_element n (skolem number n ts) valued refl ∙ ap (λ range. option_map (made_value g v table range) (table.value (skolem number n ts))) same
  value_made (field h t) range valued there kind =
      let (sig, function, source, below') = told_function g f terms v words h t there in
      let both : Some sig.to ≡ Some range = sym (ap (option_map (λ sig. sig.to)) function) ∙ kind in
      let same : sig.to ≡ range = cc in
      ap (option_and_then (entry new h)) (element_made t below') ∙ ((function_made h t there).1 sig function valued
      ∙ ap (λ range. option_map (made_value g v table range) (table.value (field h t))) same)
