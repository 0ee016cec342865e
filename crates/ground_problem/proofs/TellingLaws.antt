-- A vocabulary as it is found.
use Rattle.std.proofs.Common.{◌≡◌, ◌≢◌, ℕ, zero, suc, arith, eqb, ◌+◌, ◌<◌, ◌≤◌, ◌∙◌, sym, refl, ap, subst, true, false, Bool, List, [], ◌∷◌, ◌++◌, length, get_or, drop, map, Some, None, Contains, inl, inr, ◌⊎◌, add-one}
use Rattle.std.specs.Prelude.{slice_get}
use Rattle.std.specs.Option.{option_map}
use Rattle.std.proofs.lemmas.Bool.{eqb-true, eq-eqb}
use Rattle.std.proofs.Math.Seq.{drop-cons}
use Rattle.std.proofs.Math.ListN.{drop_of_length-le}
use Rattle.std.proofs.lemmas.List.Elements.{Contains-append_cases, Contains-append_left, Contains-push}
use Rattle.form_formula.specs.declared.structure.Signature.{Signature}
use Rattle.form_formula.specs.Trees.{Formula}
use Rattle.form_terms.specs.GroundTerms.{GroundTerm, GroundTerms, constant, skolem, field, no_terms, term_and, sort_of}
use Rattle.form_terms.specs.Parts as tree
use Rattle.form_terms.specs.Universe.{HaveSorts, HasEach, variables_of}
use Rattle.form_terms.proofs.Lists.{Contains-cons_cases, Contains-none}
use Rattle.form_terms.proofs.Listed.{to_map}
use Rattle.ground_terms.specs.declared.node.TermNode.{TermNode}
use Rattle.ground_terms.specs.declared.node.TermNode.TheVariants.{Empty, Cons}
use Rattle.ground_terms.specs.Nodes.{IsOne, IsList, IsPlaced, is_one, list_of, list_part, term_of, tree_of, tree_from, trees_of}
use Rattle.ground_terms.specs.declared.part.Variable.{Variable}
use Rattle.ground_terms.specs.Standing.{AreOnes, terms_at}
use Rattle.ground_terms.specs.Variables.{variable_at}
use Rattle.ground_terms.proofs.Standing.{map-append}
use Rattle.form_tables.specs.Vocabulary.{IsFormed, IsOther, only}
use Rattle.ground_problem.specs.declared.telling.Standing.{Standing}
use Rattle.ground_problem.specs.declared.telling.Standing.TheVariants.{Absent, Named, Other}
use Rattle.ground_problem.specs.declared.telling.Telling.{Telling}
use Rattle.ground_problem.specs.Telling.{IsFine, IsStandingOf, IsTelling, named_by, others_by}

-- the terms of a list, those before a place aside, are of sorts and are named; then so are all
pub record IsLeft (g : Signature) (nodes : List TermNode) (named : List GroundTerm) (sorts : List ℕ) (list at k : ℕ) : Type 0 where
  pub fits : IsList nodes at
  pub enough : HaveSorts g (list_of nodes at) (drop k sorts) → HasEach (Contains named) (list_of nodes at)
      → HaveSorts g (list_of nodes list) sorts × HasEach (Contains named) (list_of nodes list)

module _ (g : Signature) (nodes : List TermNode) (named : List GroundTerm) (sorts : List ℕ) (list : ℕ) where
  pub left_begun : IsList nodes list → IsLeft g nodes named sorts list list 0
  left_begun h = record { fits = h; enough = λ a b. (a, b) }

  pub left_on : (at t ts k : ℕ) (d : ℕ) → k < length sorts → IsPlaced nodes (Cons t ts) → tree_of nodes at ≡ tree_from (trees_of nodes) (Cons t ts) → sort_of g (term_of nodes t) ≡ Some (get_or sorts k d)
      → Contains named (term_of nodes t) → IsLeft g nodes named sorts list at k → IsLeft g nodes named sorts list ts (k + 1)
  left_on at t ts k d within placed means kind there h =
      let here : list_of nodes at ≡ term_and (term_of nodes t) (list_of nodes ts) = ap list_part means in
      let down : drop k sorts ≡ get_or sorts k d ∷ drop (k + 1) sorts = drop-cons sorts k d within ∙ ap (λ n. get_or sorts k d ∷ drop n sorts) (sym (add-one k)) in
      let S : GroundTerms → Type 0 = λ us. HaveSorts g us (drop k sorts) in
      let D : List ℕ → Type 0 = λ ss. HaveSorts g (term_and (term_of nodes t) (list_of nodes ts)) ss in
      let E : GroundTerms → Type 0 = λ us. HasEach (Contains named) us in
      record { fits = placed.1; enough = λ a b. h.enough (subst S (sym here) (subst D (sym down) (kind, a))) (subst E (sym here) (there, b)) }

  pub left_done : (at k : ℕ) → length sorts ≤ k → tree_of nodes at ≡ tree_from (trees_of nodes) Empty → IsLeft g nodes named sorts list at k
      → HaveSorts g (list_of nodes list) sorts × HasEach (Contains named) (list_of nodes list)
  left_done at k past means h =
      let here : list_of nodes at ≡ no_terms = ap list_part means in
      let S : GroundTerms → Type 0 = λ us. HaveSorts g us (drop k sorts) in
      let D : List ℕ → Type 0 = λ ss. HaveSorts g no_terms ss in
      let E : GroundTerms → Type 0 = λ us. HasEach (Contains named) us in
      h.enough (subst S (sym here) (subst D (sym (drop_of_length-le sorts past)) tt)) (subst E (sym here) tt)

-- a node of a term
pub one_by : (nodes : List TermNode) (id : ℕ) (n : TermNode) → slice_get nodes id ≡ Some n → is_one n ≡ true → IsOne nodes id
one_by nodes id n e one = ap (λ o. option_map is_one o) e ∙ ap Some one

module _ (g : Signature) (variables : List Variable) (listed : List GroundTerm) (closed : Bool) (nodes : List TermNode) (named : List GroundTerm) (id : ℕ) where
  pub listed_stands : (sort : ℕ) → IsOne nodes id → sort_of g (term_of nodes id) ≡ Some sort → Contains listed (term_of nodes id) → IsStandingOf g variables listed closed nodes named id Named
  listed_stands sort one kind there = (one, record { kind = (sort, kind); formed = λ f e. inl there; within = λ e. there })

  pub formed_stands : (sort : ℕ) → IsOne nodes id → sort_of g (term_of nodes id) ≡ Some sort → closed ≡ false
      → ((f : Formula) → map variable_at variables ≡ variables_of g f → IsFormed g f (only named) (term_of nodes id)) → IsStandingOf g variables listed closed nodes named id Named
  formed_stands sort one kind open' h = (one, record { kind = (sort, kind); formed = λ f e. inr (h f e); within = λ e. let no' : true ≡ false = sym e ∙ open' in cc })

-- what is found later is formed of more terms
module _ (g : Signature) (named more : List GroundTerm) (kept : (t : GroundTerm) → Contains named t → Contains more t) where
  each_more : (ts : GroundTerms) → HasEach (Contains named) ts → HasEach (Contains more) ts
  each_more no_terms h = tt
  each_more (term_and t ts) h = (kept t h.0, each_more ts h.1)

  pub formed_more : (f : Formula) (t : GroundTerm) → IsFormed g f (only named) t → IsFormed g f (only more) t
  formed_more f (constant sort) h = h
  formed_more f (skolem number sort ts) (above, variable, sorts, each) = (above, variable, sorts, each_more ts each)
  formed_more f (field h t) (sig, function, source, there) = (sig, function, source, kept t there)

  pub other_more : (t : GroundTerm) → IsOther g (only named) t → IsOther g (only more) t
  other_more (constant sort) h = h
  other_more (skolem number sort ts) h = h
  other_more (field h t) (sig, function, source, there) = (sig, function, source, kept t there)

  pub fine_more : (variables : List Variable) (listed : List GroundTerm) (closed : Bool) (t : GroundTerm) → IsFine g variables listed closed named t → IsFine g variables listed closed more t
  fine_more variables listed closed t h = record {
    kind = h.kind;
    formed = λ f e. elim (h.formed f e) [ inl there ↦ inl there | inr formed ↦ inr (formed_more f t formed) ];
    within = h.within;
  }

ones_push : (nodes : List TermNode) (ids more : List ℕ) → AreOnes nodes ids → AreOnes nodes more → AreOnes nodes (ids ++ more)
ones_push nodes [] more p q = q
ones_push nodes (id ∷ ids) more p q = (p.0, ones_push nodes ids more p.1 q)

-- of a list that was pushed to
pushed_cases : {A : Type 0} (xs : List A) (y x : A) (k : ℕ) → slice_get (xs ++ y ∷ []) k ≡ Some x → (slice_get xs k ≡ Some x) ⊎ ((k ≡ length xs) × (y ≡ x))
pushed_cases [] y x zero e = inr (refl, cc)
pushed_cases [] y x (suc k) e = cc
pushed_cases (z ∷ xs) y x zero e = inl e
pushed_cases (z ∷ xs) y x (suc k) e =
    elim (pushed_cases xs y x k e) [ inl here ↦ inl here | inr last ↦ inr (ap suc last.0, last.1) ]

pushed_front : {A : Type 0} (xs : List A) (y : A) (k : ℕ) → k < length xs → slice_get (xs ++ y ∷ []) k ≡ slice_get xs k
pushed_front [] y k lt = absurd (omega arith)
pushed_front (x ∷ xs) y zero lt = refl
pushed_front (x ∷ xs) y (suc k) lt = pushed_front xs y k (omega arith)

pushed_last : {A : Type 0} (xs : List A) (y : A) → slice_get (xs ++ y ∷ []) (length xs) ≡ Some y
pushed_last [] y = refl
pushed_last (x ∷ xs) y = pushed_last xs y

-- what holds of the numbers so far, and of one more
pub listed_more : (P : ℕ → Type 0) (old new : List Standing) (s : Standing) (k : ℕ) → k ≡ length old → new ≡ old ++ s ∷ [] → ((id : ℕ) → id < k → P id → slice_get old id ≡ Some Named)
    → (P k → s ≡ Named) → (id : ℕ) → id < k + 1 → P id → slice_get new id ≡ Some Named
listed_more P old new s k size whole before here id lt p =
    ap (λ (xs : List Standing). slice_get xs id) whole ∙ by (eqb id k) refl
  where
    by : (b : Bool) → eqb id k ≡ b → slice_get (old ++ s ∷ []) id ≡ Some Named
    by true e =
        let same : id ≡ k = eqb-true id k e in
        ap (λ (i : ℕ). slice_get (old ++ s ∷ []) i) (same ∙ size) ∙ (pushed_last old s ∙ ap (λ (z : Standing). Some z) (here (subst P same p)))
    by false e =
        let other : id ≢ k = λ same. absurd (let yes = eq-eqb id k same in let no : true ≡ false = sym yes ∙ e in cc) in
        let less : id < length old = omega (arith, lt, other, size) in
        pushed_front old s id less ∙ before id (omega (arith, less, size)) p

module _ (g : Signature) (variables : List Variable) (listed : List GroundTerm) (closed : Bool) (nodes : List TermNode) where
  pub telling_begun : (t : Telling) → t.standings.items ≡ [] → t.named.items ≡ [] → t.others.items ≡ [] → IsTelling g variables listed closed nodes t
  telling_begun t s n o =
      let O : List ℕ → Type 0 = λ ids. AreOnes nodes ids in
      let F : List ℕ → Type 0 = λ ids. (u : GroundTerm) → Contains (terms_at nodes ids) u → IsFine g variables listed closed (terms_at nodes t.named.items) u in
      let G : List ℕ → Type 0 = λ ids. (u : GroundTerm) → Contains (terms_at nodes ids) u → IsOther g (only (terms_at nodes t.named.items)) u in
      record {
        ones = subst O (sym n) tt;
        other_ones = subst O (sym o) tt;
        marked = λ id e. let no' : None ≡ Some Named = ap (λ (xs : List Standing). slice_get xs id) (sym s) ∙ e in cc;
        marked_other = λ id e. let no' : None ≡ Some Other = ap (λ (xs : List Standing). slice_get xs id) (sym s) ∙ e in cc;
        fine = subst F (sym n) (λ u c. Contains-none u c);
        functions = subst G (sym o) (λ u c. Contains-none u c);
      }

  -- one number more
  pub telling_more : (old new : Telling) (s : Standing) (id : ℕ) → id ≡ length old.standings.items → IsStandingOf g variables listed closed nodes (terms_at nodes old.named.items) id s
      → new.standings.items ≡ old.standings.items ++ s ∷ [] → new.named.items ≡ old.named.items ++ named_by s id → new.others.items ≡ old.others.items ++ others_by s id
      → IsTelling g variables listed closed nodes old → IsTelling g variables listed closed nodes new
  telling_more old new s id place stands e n o h =
      let N = terms_at nodes old.named.items in
      let O = terms_at nodes old.others.items in
      let named_is : terms_at nodes new.named.items ≡ N ++ terms_at nodes (named_by s id) = ap (terms_at nodes) n ∙ map-append (term_of nodes) old.named.items (named_by s id) in
      let others_is : terms_at nodes new.others.items ≡ O ++ terms_at nodes (others_by s id) = ap (terms_at nodes) o ∙ map-append (term_of nodes) old.others.items (others_by s id) in
      let kept : (t : GroundTerm) → Contains N t → Contains (terms_at nodes new.named.items) t = λ t c.
      let P : List GroundTerm → Type 0 = λ ts. Contains ts t in
      subst P (sym named_is) (Contains-append_left N (terms_at nodes (named_by s id)) t c) in
      let kept_other : (t : GroundTerm) → Contains O t → Contains (terms_at nodes new.others.items) t = λ t c.
      let P : List GroundTerm → Type 0 = λ ts. Contains ts t in
      subst P (sym others_is) (Contains-append_left O (terms_at nodes (others_by s id)) t c) in
      let A : List ℕ → Type 0 = λ ids. AreOnes nodes ids in
      record {
        ones = subst A (sym n) (ones_push nodes old.named.items (named_by s id) h.ones (new_ones s stands));
        other_ones = subst A (sym o) (ones_push nodes old.others.items (others_by s id) h.other_ones (new_others s stands));
        marked = λ k at.
            elim (pushed_cases old.standings.items s Named k (ap (λ (xs : List Standing). slice_get xs k) (sym e) ∙ at)) [
              | inl before ↦ ((h.marked k before).0, kept (term_of nodes k) (h.marked k before).1)
              | inr last ↦
                  let same : k ≡ id = last.0 ∙ sym place in
                  let Q : Standing → Type 0 = λ s. (IsStandingOf g variables listed closed nodes N id s) × (terms_at nodes new.named.items ≡ N ++ terms_at nodes (named_by s id)) in
                  let q : Q Named = subst Q last.1 (stands, named_is) in
                  let R : ℕ → Type 0 = λ k. IsOne nodes k × Contains (terms_at nodes new.named.items) (term_of nodes k) in
                  let P : List GroundTerm → Type 0 = λ ts. Contains ts (term_of nodes id) in
                  subst R (sym same) (q.0.0, subst P (sym q.1) (Contains-push N (term_of nodes id)))
            ];
        marked_other = λ k at.
            elim (pushed_cases old.standings.items s Other k (ap (λ (xs : List Standing). slice_get xs k) (sym e) ∙ at)) [
              | inl before ↦ ((h.marked_other k before).0, kept_other (term_of nodes k) (h.marked_other k before).1)
              | inr last ↦
                  let same : k ≡ id = last.0 ∙ sym place in
                  let Q : Standing → Type 0 = λ s. (IsStandingOf g variables listed closed nodes N id s) × (terms_at nodes new.others.items ≡ O ++ terms_at nodes (others_by s id)) in
                  let q : Q Other = subst Q last.1 (stands, others_is) in
                  let R : ℕ → Type 0 = λ k. IsOne nodes k × Contains (terms_at nodes new.others.items) (term_of nodes k) in
                  let P : List GroundTerm → Type 0 = λ ts. Contains ts (term_of nodes id) in
                  subst R (sym same) (q.0.0, subst P (sym q.1) (Contains-push O (term_of nodes id)))
            ];
        fine = λ u c.
            let P : List GroundTerm → Type 0 = λ ts. Contains ts u in
            elim (Contains-append_cases N (terms_at nodes (named_by s id)) u (subst P named_is c)) [
              | inl before ↦ fine_more g N (terms_at nodes new.named.items) kept variables listed closed u (h.fine u before)
              | inr last ↦ fine_more g N (terms_at nodes new.named.items) kept variables listed closed u (new_fine s stands u last)
            ];
        functions = λ u c.
            let P : List GroundTerm → Type 0 = λ ts. Contains ts u in
            elim (Contains-append_cases O (terms_at nodes (others_by s id)) u (subst P others_is c)) [
              | inl before ↦ other_more g N (terms_at nodes new.named.items) kept u (h.functions u before)
              | inr last ↦ other_more g N (terms_at nodes new.named.items) kept u (new_function s stands u last)
            ];
      }
    where
      new_ones : (s : Standing) → IsStandingOf g variables listed closed nodes (terms_at nodes old.named.items) id s → AreOnes nodes (named_by s id)
      new_ones Absent h = tt
      new_ones Named h = (h.0, tt)
      new_ones Other h = tt

      new_others : (s : Standing) → IsStandingOf g variables listed closed nodes (terms_at nodes old.named.items) id s → AreOnes nodes (others_by s id)
      new_others Absent h = tt
      new_others Named h = tt
      new_others Other h = (h.0, tt)

      new_fine : (s : Standing) → IsStandingOf g variables listed closed nodes (terms_at nodes old.named.items) id s → (u : GroundTerm) → Contains (terms_at nodes (named_by s id)) u
          → IsFine g variables listed closed (terms_at nodes old.named.items) u
      new_fine Absent h u c = Contains-none u c
      new_fine Named h u c =
          elim (Contains-cons_cases (term_of nodes id) [] u c) [
            | inl e ↦ let P : GroundTerm → Type 0 = λ u. IsFine g variables listed closed (terms_at nodes old.named.items) u in subst P e h.1
            | inr none ↦ Contains-none u none
          ]
      new_fine Other h u c = Contains-none u c

      new_function : (s : Standing) → IsStandingOf g variables listed closed nodes (terms_at nodes old.named.items) id s → (u : GroundTerm) → Contains (terms_at nodes (others_by s id)) u
          → IsOther g (only (terms_at nodes old.named.items)) u
      new_function Absent h u c = Contains-none u c
      new_function Named h u c = Contains-none u c
      new_function Other h u c =
          elim (Contains-cons_cases (term_of nodes id) [] u c) [
            | inl e ↦ let P : GroundTerm → Type 0 = λ u. IsOther g (only (terms_at nodes old.named.items)) u in subst P e h.1
            | inr none ↦ Contains-none u none
          ]

-- a variable at terms of the sorts above it
pub variable_formed : (g : Signature) (variables : List Variable) (f : Formula) (v : Variable) (named : List GroundTerm) (number sort : ℕ) (ts : GroundTerms) → Contains variables v
    → map variable_at variables ≡ variables_of g f → v.number ≡ number → v.sort ≡ sort → HaveSorts g ts v.above → HasEach (Contains named) ts → IsFormed g f (only named) (skolem number sort ts)
variable_formed g variables f v named number sort ts there same n s sorts each =
    let C : List tree.Variable → Type 0 = λ vs. Contains vs (variable_at v) in
    let own : Contains (variables_of g f) (variable_at v) = subst C same (to_map variable_at variables v there) in
    let D : tree.Variable → Type 0 = λ w. Contains (variables_of g f) w in
    let e : variable_at v ≡ record { number = number; sort = sort; above = v.above } = ap (λ n. record { number = n; sort = v.sort; above = v.above }) n ∙ ap (λ s. record { number = number; sort = s; above = v.above }) s in
    (v.above, subst D e own, sorts, each)
