-- The terms that are found are those of the definitions.
use Rattle.std.proofs.Common.{◌≡◌, ℕ, zero, suc, ◌+◌, ◌<◌, Bool, cond, refl, sym, ◌∙◌, List, [], ◌∷◌, ◌++◌, Option, Some, None, ap, subst, arith, append-nil, map}
use Rattle.std.specs.Prelude.{◌==◌}
use Rattle.std.specs.List.{filter, flat_map, range_with_len}
use Rattle.std.specs.Option.{option_to_list}
use Rattle.form_formula.specs.declared.node.Node.{Node}
use Rattle.form_formula.specs.declared.structure.Signature.{Signature}
use Rattle.form_formula.specs.Trees.{Formula}
use Rattle.form_terms.specs.GroundTerms.{GroundTerm, constant, skolem, field, term_and, source_of}
use Rattle.form_terms.specs.Parts.{Variable, parts_of, name_of}
use Rattle.form_terms.specs.Universe.{is_needed}
use Rattle.form_terms.specs.Listing.{unique, is_same_term, own_names, first_terms, functions, is_plain, is_skolem, arguments, of_source, field_terms, skolem_terms, terms_after}
use Rattle.ground_terms.specs.declared.part.Part.{Part}
use Rattle.ground_terms.specs.declared.part.Part.TheVariants.{Existential, Universal, Named, Dependent, Literal}
use Rattle.ground_terms.specs.declared.node.TermNode.{TermNode}
use Rattle.ground_terms.specs.declared.terms.Basis.{Basis}
use Rattle.ground_terms.specs.Basis.{IsBasis}
use Rattle.ground_terms.specs.Parts.{AreThinned}
use Rattle.ground_terms.specs.Standing.{terms_at, AreTermsAt, AreListed}
use Rattle.ground_terms.specs.Codes.{is_marked, code_variables, code_names, code_terms, code_functions}
use Rattle.ground_terms.specs.Needed.{AreNeededAfter}
use Rattle.ground_terms.specs.Applying.{of_source_in, fields_of, choices, skolems_above, code_skolems, is_plain_in, round_terms}
use Rattle.ground_terms.proofs.Thinned.{variables_thinned, terms_thinned, functions_thinned}
use Rattle.ground_terms.proofs.Standing.{filter-append}
use Rattle.ground_terms.proofs.AppliedTerms.{flat-append}

flat_same : {A B : Type 0} (h k : A → List B) (xs : List A) → ((x : A) → h x ≡ k x) → flat_map h xs ≡ flat_map k xs
flat_same h k [] e = refl
flat_same h k (x ∷ xs) e = let a = e x in let b = flat_same h k xs e in cc

filter_same : {A : Type 0} (p q : A → Bool) (xs : List A) → ((x : A) → p x ≡ q x) → filter p xs ≡ filter q xs
filter_same p q [] e = refl
filter_same p q (x ∷ xs) e = ap (λ b. cond b (x ∷ filter p xs) (filter p xs)) (e x) ∙ ap (λ ys. cond (q x) (x ∷ ys) ys) (filter_same p q xs e)

-- tests that answer alike on a range
range_same : (p q : ℕ → Bool) (a n : ℕ) → ((x : ℕ) → x < a + n → p x ≡ q x) → filter p (range_with_len a n) ≡ filter q (range_with_len a n)
range_same p q a zero e = refl
range_same p q a (suc n) e =
    ap (λ b. cond b (a ∷ filter p (range_with_len (a + 1) n)) (filter p (range_with_len (a + 1) n))) (e a (omega arith))
    ∙ ap (λ ys. cond (q a) (a ∷ ys) ys) (range_same p q (a + 1) n (λ x lt. e x (omega (arith, lt))))

module _ (g : Signature) (f : Formula) where
  same_source : (ts : List GroundTerm) (o : Option ℕ) → of_source_in g ts o ≡ of_source g f ts o
  same_source ts None = refl
  same_source ts (Some sort) = refl

  same_fields : (ts : List GroundTerm) → flat_map (fields_of g ts) (functions g f) ≡ field_terms g f ts
  same_fields ts = flat_same (fields_of g ts) (λ h. map (field h) (of_source g f ts (source_of g h))) (functions g f) (λ h. ap (λ us. map (field h) us) (same_source ts (source_of g h)))

  same_choices : (ts : List GroundTerm) (above : List ℕ) → choices g ts above ≡ arguments g f ts above
  same_choices ts [] = refl
  same_choices ts (s ∷ above) = ap (λ ls. flat_map (λ t. map (term_and t) ls) (of_source g f ts (Some s))) (same_choices ts above)

  module _ (nodes : List Node) (ts : List GroundTerm) where
    skolem_at : Variable → List GroundTerm
    skolem_at v = map (skolem v.number v.sort) (arguments g f ts v.above)

    one_variable : (v : Variable) → flat_map (λ v. map (skolem v.number v.sort) (arguments g f ts v.above)) (filter (λ v. is_skolem g f v.above) (v ∷ [])) ≡ skolems_above g ts v.number v.sort v.above
    one_variable v = by v.above refl
      where
        by : (above : List ℕ) → v.above ≡ above
            → flat_map (λ v. map (skolem v.number v.sort) (arguments g f ts v.above)) (filter (λ v. is_skolem g f v.above) (v ∷ [])) ≡ skolems_above g ts v.number v.sort v.above
        by [] e =
            ap (λ a. flat_map (λ v. map (skolem v.number v.sort) (arguments g f ts v.above)) (cond (is_skolem g f a) (v ∷ []) [])) e ∙ sym (ap (λ a. skolems_above g ts v.number v.sort a) e)
        by (s ∷ above) e =
            ap (λ a. flat_map (λ v. map (skolem v.number v.sort) (arguments g f ts v.above)) (cond (is_skolem g f a) (v ∷ []) [])) e
            ∙ (append-nil (map (skolem v.number v.sort) (arguments g f ts v.above))
            ∙ (ap (λ ls. map (skolem v.number v.sort) ls) (sym (same_choices ts v.above))
            ∙ (ap (λ a. map (skolem v.number v.sort) (choices g ts a)) e ∙ sym (ap (λ a. skolems_above g ts v.number v.sort a) e))))

    one_code : (c : Part) → flat_map (λ v. map (skolem v.number v.sort) (arguments g f ts v.above)) (filter (λ v. is_skolem g f v.above) (code_variables g nodes c)) ≡ code_skolems g ts c
    one_code (Existential w) = one_variable (record { number = w.number; sort = w.sort; above = w.above })
    one_code (Universal s) = refl
    one_code (Named id n) = refl
    one_code (Dependent id) = refl
    one_code (Literal id) = refl

    all_codes : (cs : List Part)
        → flat_map (λ v. map (skolem v.number v.sort) (arguments g f ts v.above)) (filter (λ v. is_skolem g f v.above) (flat_map (code_variables g nodes) cs)) ≡ flat_map (code_skolems g ts) cs
    all_codes [] = refl
    all_codes (c ∷ cs) =
        ap (λ vs. flat_map (λ v. map (skolem v.number v.sort) (arguments g f ts v.above)) vs) (filter-append (λ v. is_skolem g f v.above) (code_variables g nodes c) (flat_map (code_variables g nodes) cs))
        ∙ (flat-append (λ v. map (skolem v.number v.sort) (arguments g f ts v.above)) (filter (λ v. is_skolem g f v.above) (code_variables g nodes c)) (filter (λ v. is_skolem g f v.above) (flat_map (code_variables g nodes) cs))
        ∙ (ap (λ xs. xs ++ flat_map (λ v. map (skolem v.number v.sort) (arguments g f ts v.above)) (filter (λ v. is_skolem g f v.above) (flat_map (code_variables g nodes) cs))) (one_code c)
        ∙ ap (λ xs. code_skolems g ts c ++ xs) (all_codes cs)))

    same_skolems : (cs : List Part) → AreThinned nodes (parts_of f) cs → flat_map (code_skolems g ts) cs ≡ skolem_terms g f ts
    same_skolems cs h =
        sym (all_codes cs)
        ∙ ap (λ vs. flat_map (λ v. map (skolem v.number v.sort) (arguments g f ts v.above)) (filter (λ v. is_skolem g f v.above) vs)) (sym (variables_thinned g nodes (parts_of f) cs h))

  pub same_plain : (t : GroundTerm) → is_plain_in (functions g f) t ≡ is_plain g f t
  same_plain (constant sort) = refl
  same_plain (skolem n sort ts) = refl
  same_plain (field h t) = refl

  pub same_plains : (ts : List GroundTerm) → filter (is_plain_in (functions g f)) ts ≡ filter (is_plain g f) ts
  same_plains ts = filter_same (is_plain_in (functions g f)) (is_plain g f) ts same_plain

  -- the rounds
  pub same_rounds : (nodes : List Node) (cs : List Part) (n : ℕ) → AreThinned nodes (parts_of f) cs
      → round_terms g (functions g f) cs (filter (is_plain g f) (first_terms g f)) (first_terms g f) n ≡ terms_after g f n
  same_rounds nodes cs zero h = refl
  same_rounds nodes cs (suc n) h =
      let ts : List GroundTerm = terms_after g f n in
      ap (λ us. filter (is_plain g f) (first_terms g f) ++ (flat_map (fields_of g us) (functions g f) ++ flat_map (code_skolems g us) cs)) (same_rounds nodes cs n h)
      ∙ (ap (λ xs. filter (is_plain g f) (first_terms g f) ++ (xs ++ flat_map (code_skolems g ts) cs)) (same_fields ts)
      ∙ ap (λ xs. filter (is_plain g f) (first_terms g f) ++ (field_terms g f ts ++ xs)) (same_skolems nodes ts cs h))

  -- names of variables
  names_of_codes : (nodes : List Node) (cs : List Part) → flat_map (λ v. option_to_list (name_of v.number v.sort v.above)) (flat_map (code_variables g nodes) cs) ≡ flat_map code_names cs
  names_of_codes nodes [] = refl
  names_of_codes nodes (c ∷ cs) =
      flat-append (λ v. option_to_list (name_of v.number v.sort v.above)) (code_variables g nodes c) (flat_map (code_variables g nodes) cs)
      ∙ (ap (λ xs. xs ++ flat_map (λ v. option_to_list (name_of v.number v.sort v.above)) (flat_map (code_variables g nodes) cs)) (one c) ∙ ap (λ xs. code_names c ++ xs) (names_of_codes nodes cs))
    where
      one : (c : Part) → flat_map (λ v. option_to_list (name_of v.number v.sort v.above)) (code_variables g nodes c) ≡ code_names c
      one (Existential w) = append-nil (option_to_list (name_of w.number w.sort w.above))
      one (Universal s) = refl
      one (Named id n) = refl
      one (Dependent id) = refl
      one (Literal id) = refl

  pub same_first : (nodes : List Node) (cs : List Part) (marks : List Bool) → AreThinned nodes (parts_of f) cs → AreNeededAfter g f g.sorts marks
      → map constant (filter (is_marked marks) (range_with_len 0 g.sorts)) ++ unique is_same_term (flat_map code_names cs ++ flat_map (code_terms g nodes) cs) ≡ first_terms g f
  same_first nodes cs marks h needed =
      let names : flat_map code_names cs ≡ own_names g f =
      sym (names_of_codes nodes cs) ∙ ap (λ vs. flat_map (λ v. option_to_list (name_of v.number v.sort v.above)) vs) (sym (variables_thinned g nodes (parts_of f) cs h)) in
      ap (λ xs. map constant xs ++ unique is_same_term (flat_map code_names cs ++ flat_map (code_terms g nodes) cs))
      (range_same (is_marked marks) (is_needed g f) 0 g.sorts (λ x lt. needed.marked x (omega (arith, lt))))
      ∙ (ap (λ xs. map constant (filter (is_needed g f) (range_with_len 0 g.sorts)) ++ unique is_same_term (xs ++ flat_map (code_terms g nodes) cs)) names
      ∙ ap (λ ts. map constant (filter (is_needed g f) (range_with_len 0 g.sorts)) ++ ts) (sym (terms_thinned g nodes (parts_of f) cs h (own_names g f))))

  pub same_functions : (nodes : List Node) (cs : List Part) → AreThinned nodes (parts_of f) cs → unique (λ h k. h == k) (flat_map (code_functions g nodes) cs) ≡ functions g f
  same_functions nodes cs h = sym (functions_thinned g nodes (parts_of f) cs h)

pub listed_terms : (ts : List GroundTerm) (a b : List TermNode) (xs : List ℕ) → AreListed ts a b [] xs → AreTermsAt b xs ts
listed_terms ts a b xs h = let P : List ℕ → Type 0 = λ ids. AreTermsAt b ids ts in subst P (sym h.whole) h.stand

module _ (g : Signature) (f : Formula) where
  pub first_is : (nodes : List Node) (cs cs' : List Part) (marks marks' : List Bool) (a b : List TermNode) (first : List ℕ) → cs' ≡ cs → marks' ≡ marks → AreThinned nodes (parts_of f) cs → AreNeededAfter g f g.sorts marks
      → AreListed (map constant (filter (is_marked marks') (range_with_len 0 g.sorts)) ++ unique is_same_term (flat_map code_names cs' ++ flat_map (code_terms g nodes) cs')) a b [] first
      → AreTermsAt b first (first_terms g f)
  first_is nodes cs cs' marks marks' a b first e m h needed l =
      let P : List Part → Type 0 =
      λ cs. AreListed (map constant (filter (is_marked marks') (range_with_len 0 g.sorts)) ++ unique is_same_term (flat_map code_names cs ++ flat_map (code_terms g nodes) cs)) a b [] first in
      let Q : List Bool → Type 0 =
      λ marks. AreListed (map constant (filter (is_marked marks) (range_with_len 0 g.sorts)) ++ unique is_same_term (flat_map code_names cs ++ flat_map (code_terms g nodes) cs)) a b [] first in
      let R : List GroundTerm → Type 0 = λ ts. AreTermsAt b first ts in
      subst R (same_first g f nodes cs marks h needed) (listed_terms _ a b first (subst Q m (subst P e l)))

  pub plain_is : (fs fs' first first' plain : List ℕ) (b : List TermNode) → fs' ≡ fs → first' ≡ first → fs ≡ functions g f → AreTermsAt b first (first_terms g f)
      → AreTermsAt b plain (filter (is_plain_in fs') (terms_at b first')) → AreTermsAt b plain (filter (is_plain g f) (first_terms g f))
  plain_is fs fs' first first' plain b e d applied firsts h =
      let R : List GroundTerm → Type 0 = λ ts. AreTermsAt b plain ts in
      subst R
      (ap (λ fs. filter (is_plain_in fs) (terms_at b first')) (e ∙ applied)
      ∙ (ap (λ ids. filter (is_plain_in (functions g f)) (terms_at b ids)) d ∙ (ap (λ ts. filter (is_plain_in (functions g f)) ts) firsts.are ∙ same_plains g f (first_terms g f)))) h

  pub from_basis : (basis : Basis) (fs' : List ℕ) (cs' : List Part) (plain' : List ℕ) (n : ℕ) → IsBasis g f basis → fs' ≡ basis.functions.items → cs' ≡ basis.parts.items → plain' ≡ basis.plain.items
      → round_terms g fs' cs' (terms_at basis.arena plain') (terms_at basis.arena basis.first.items) n ≡ terms_after g f n
  from_basis basis fs' cs' plain' n h a p q =
      let firsts : List GroundTerm = terms_at basis.arena basis.first.items in
      ap (λ fs. round_terms g fs cs' (terms_at basis.arena plain') firsts n) (a ∙ h.applied)
      ∙ (ap (λ cs. round_terms g (functions g f) cs (terms_at basis.arena plain') firsts n) p
      ∙ (ap (λ ids. round_terms g (functions g f) basis.parts.items (terms_at basis.arena ids) firsts n) q
      ∙ (ap (λ ts. round_terms g (functions g f) basis.parts.items ts firsts n) h.plain.are
      ∙ (ap (λ ts. round_terms g (functions g f) basis.parts.items (filter (is_plain g f) (first_terms g f)) ts n) h.first.are ∙ same_rounds g f h.nodes basis.parts.items n h.parts))))
