-- Reading a formula over terms is passing it over them.
use Rattle.std.proofs.Common.{◌≡◌, ℕ, ◌+◌, ◌<◌, inl, inr, Bool, true, not, refl, sym, ◌∙◌, List, [], ◌∷◌, ◌++◌, Some, None, Option, ap, Contains}
use Rattle.std.specs.Prelude.{option_and_then, is_some}
use Rattle.std.proofs.lemmas.List.Elements.{Contains-append_left, Contains-append_right}
use Rattle.form_formula.specs.declared.structure.Signature.{Signature}
use Rattle.form_formula.specs.declared.structure.Structure.{Structure}
use Rattle.form_formula.specs.NormalForm.{IsAtom, IsNormal}
use Rattle.form_formula.specs.Over.{IsOver}
use Rattle.form_formula.specs.Trees.{Formula, yes, no, equal, less, has, flag, present, negation, both, either, exists, forall}
use Rattle.form_formula.specs.Truth.{truth}
use Rattle.form_terms.specs.GroundTerms.{GroundTerm, GroundTerms, skolem, no_terms, and_last, sort_of}
use Rattle.form_terms.specs.Parts.{Variable, Part, existential, universal, parts, parts_of, quantifiers, name_of}
use Rattle.form_terms.specs.Universe.{ArisesWithin, HaveSorts, HasEach, variables_of, variables_in}
use Rattle.form_terms.specs.Structures.{IsStructure, size_of}
use Rattle.form_terms.specs.Passing.{Choice, IsChoice, PassesWith, element_named, elements_named, HoldsOver}
use Rattle.form_terms.specs.Reading.{Reads, Agree, AreNamed, Speaks, atoms_of}
use Rattle.form_terms.proofs.Lists.{Contains-head, Contains-tail, flat_map-Contains}
use Rattle.form_terms.proofs.NamedWithin.{arises_named}
use Rattle.form_terms.proofs.CutTruth.{and_last-sorts, and_last-each, and_last-elements}

value_there : {A : Type 0} (o : Option A) → is_some o ≡ true → (x : A) × (o ≡ Some x)
value_there None e = cc
value_there (Some x) e = (x, refl)

module _ (g : Signature) (f : Formula) (s : Structure) (c : Choice) (terms spoken : List GroundTerm) (is_there : GroundTerm → Bool)
    (holds : List GroundTerm → Formula → Bool) (agree : Agree g f s c spoken is_there holds) (closed : Speaks g f terms spoken) where
  named_more : (scope : List ℕ) (env : List GroundTerm) (xs : List ℕ) (sort : ℕ) (t : GroundTerm) (x : ℕ) → AreNamed g s c spoken scope env xs
      → Contains spoken t → sort_of g t ≡ Some sort → element_named s c t ≡ Some x
      → AreNamed g s c spoken (scope ++ sort ∷ []) (env ++ t ∷ []) (xs ++ x ∷ [])
  named_more [] [] [] sort t x h there kind named = ((there, kind, named), tt)
  named_more [] [] (y ∷ ys) sort t x h there kind named = absurd h
  named_more [] (u ∷ env) xs sort t x h there kind named = absurd h
  named_more (r ∷ scope) [] xs sort t x h there kind named = absurd h
  named_more (r ∷ scope) (u ∷ env) [] sort t x h there kind named = absurd h
  named_more (r ∷ scope) (u ∷ env) (y ∷ ys) sort t x h there kind named = (h.0, named_more scope env ys sort t x h.1 there kind named)

  -- a part of the formula, below some quantifiers
  pub record IsBelow (number : ℕ) (scope : List ℕ) (names : List (Option GroundTerm)) (above : List ℕ) (a : Formula) (env : List GroundTerm) (xs : List ℕ)
      (args : GroundTerms) (ys : List ℕ) : Type 0 where
    pub over : IsOver g scope a
    pub normal : IsNormal a
    pub inside : (p : Part) → Contains (parts number names above a) p → Contains (parts_of f) p
    pub atoms : (b : Formula) → Contains (atoms_of a) b → Contains (atoms_of f) b
    pub elements : AreNamed g s c spoken scope env xs
    pub sorts : HaveSorts g args above
    pub listed : HasEach (Contains terms) args
    pub named : elements_named s c args ≡ Some ys

  below_left : (number : ℕ) (scope : List ℕ) (names : List (Option GroundTerm)) (above : List ℕ) (a b : Formula) (env : List GroundTerm) (xs : List ℕ)
      (args : GroundTerms) (ys : List ℕ) → IsBelow number scope names above (both a b) env xs args ys → IsBelow number scope names above a env xs args ys
  below_left number scope names above a b env xs args ys h = record {
    over = h.over.0;
    normal = h.normal.0;
    inside = λ p here. h.inside p (Contains-append_left (parts number names above a) (parts (number + quantifiers a) names above b) p here);
    atoms = λ d here. h.atoms d (Contains-append_left (atoms_of a) (atoms_of b) d here);
    elements = h.elements;
    sorts = h.sorts;
    listed = h.listed;
    named = h.named;
  }

  below_right : (number : ℕ) (scope : List ℕ) (names : List (Option GroundTerm)) (above : List ℕ) (a b : Formula) (env : List GroundTerm) (xs : List ℕ)
      (args : GroundTerms) (ys : List ℕ) → IsBelow number scope names above (both a b) env xs args ys
      → IsBelow (number + quantifiers a) scope names above b env xs args ys
  below_right number scope names above a b env xs args ys h = record {
    over = h.over.1;
    normal = h.normal.1;
    inside = λ p here. h.inside p (Contains-append_right (parts number names above a) (parts (number + quantifiers a) names above b) p here);
    atoms = λ d here. h.atoms d (Contains-append_right (atoms_of a) (atoms_of b) d here);
    elements = h.elements;
    sorts = h.sorts;
    listed = h.listed;
    named = h.named;
  }

  either_both : (number : ℕ) (scope : List ℕ) (names : List (Option GroundTerm)) (above : List ℕ) (a b : Formula) (env : List GroundTerm) (xs : List ℕ)
      (args : GroundTerms) (ys : List ℕ) → IsBelow number scope names above (either a b) env xs args ys → IsBelow number scope names above (both a b) env xs args ys
  either_both number scope names above a b env xs args ys h = record {
    over = h.over;
    normal = h.normal;
    inside = h.inside;
    atoms = h.atoms;
    elements = h.elements;
    sorts = h.sorts;
    listed = h.listed;
    named = h.named;
  }

  -- the term of an `exists` is one of the list, and names what its variable is
  own_term : (number : ℕ) (scope : List ℕ) (names : List (Option GroundTerm)) (above : List ℕ) (sort : ℕ) (a : Formula) (env : List GroundTerm) (xs : List ℕ)
      (args : GroundTerms) (ys : List ℕ) → IsBelow number scope names above (exists sort a) env xs args ys
      → Contains spoken (skolem number sort args) × (element_named s c (skolem number sort args) ≡ c.variable number ys)
  own_term number scope names above sort a env xs args ys h =
      let v : Variable = record { number = number; sort = sort; above = above } in
      let rest : List Part = parts (number + 1) (names ++ name_of number sort above ∷ []) above a in
      let own : Contains (variables_of g f) v =
      flat_map-Contains variables_in (parts_of f) (existential v) v (h.inside (existential v) (Contains-head (existential v) rest)) (Contains-head v []) in
      (closed.applied (skolem number sort args) (above, own, h.sorts, h.listed), ap (option_and_then (c.variable number)) h.named)

  below_exists : (number : ℕ) (scope : List ℕ) (names : List (Option GroundTerm)) (above : List ℕ) (sort : ℕ) (a : Formula) (env : List GroundTerm) (xs : List ℕ)
      (args : GroundTerms) (ys : List ℕ) (x : ℕ) → IsBelow number scope names above (exists sort a) env xs args ys → c.variable number ys ≡ Some x
      → IsBelow (number + 1) (scope ++ sort ∷ []) (names ++ name_of number sort above ∷ []) above a (env ++ skolem number sort args ∷ []) (xs ++ x ∷ []) args ys
  below_exists number scope names above sort a env xs args ys x h e =
      let own = own_term number scope names above sort a env xs args ys h in
      let v : Variable = record { number = number; sort = sort; above = above } in
      let rest : List Part = parts (number + 1) (names ++ name_of number sort above ∷ []) above a in
      record {
        over = h.over.1;
        normal = h.normal;
        inside = λ p here. h.inside p (Contains-tail (existential v) rest p here);
        atoms = h.atoms;
        elements = named_more scope env xs sort (skolem number sort args) x h.elements own.0 refl (own.1 ∙ e);
        sorts = h.sorts;
        listed = h.listed;
        named = h.named;
      }

  below_forall : (number : ℕ) (scope : List ℕ) (names : List (Option GroundTerm)) (above : List ℕ) (sort : ℕ) (a : Formula) (env : List GroundTerm) (xs : List ℕ)
      (args : GroundTerms) (ys : List ℕ) (t : GroundTerm) (x : ℕ) → IsBelow number scope names above (forall sort a) env xs args ys
      → Contains terms t → sort_of g t ≡ Some sort → element_named s c t ≡ Some x
      → IsBelow (number + 1) (scope ++ sort ∷ []) (names ++ None ∷ []) (above ++ sort ∷ []) a (env ++ t ∷ []) (xs ++ x ∷ []) (and_last args t) (ys ++ x ∷ [])
  below_forall number scope names above sort a env xs args ys t x h there kind named =
      let rest : List Part = parts (number + 1) (names ++ None ∷ []) (above ++ sort ∷ []) a in
      record {
        over = h.over.1;
        normal = h.normal;
        inside = λ p here. h.inside p (Contains-tail (universal sort) rest p here);
        atoms = h.atoms;
        elements = named_more scope env xs sort t x h.elements (closed.ranged t there) kind named;
        sorts = and_last-sorts g args above t sort h.sorts kind;
        listed = and_last-each (Contains terms) args t h.listed there;
        named = and_last-elements s c args ys t x h.named named;
      }

  atom_same : (a : Formula) (number : ℕ) (scope : List ℕ) (names : List (Option GroundTerm)) (above : List ℕ) (env : List GroundTerm) (xs : List ℕ)
      (args : GroundTerms) (ys : List ℕ) → IsBelow number scope names above a env xs args ys → Contains (atoms_of a) a → holds env a ≡ truth s xs a
  atom_same a number scope names above env xs args ys h own = agree.atoms a scope env xs (h.atoms a own) h.over h.elements

  -- a negated atom
  negated_same : (a : Formula) (number : ℕ) (scope : List ℕ) (names : List (Option GroundTerm)) (above : List ℕ) (env : List GroundTerm) (xs : List ℕ)
      (args : GroundTerms) (ys : List ℕ) → IsBelow number scope names above (negation a) env xs args ys → holds env a ≡ truth s xs a
  negated_same a number scope names above env xs args ys h = agree.atoms a scope env xs (h.atoms a (own a h.normal)) h.over h.elements
    where
      own : (a : Formula) → IsAtom a → Contains (atoms_of a) a
      own yes atom = absurd atom
      own no atom = absurd atom
      own (equal t u) atom = Contains-head (equal t u) []
      own (less t u) atom = Contains-head (less t u) []
      own (has r t u) atom = Contains-head (has r t u) []
      own (flag k t) atom = Contains-head (flag k t) []
      own (present k t) atom = Contains-head (present k t) []
      own (negation a) atom = absurd atom
      own (both a b) atom = absurd atom
      own (either a b) atom = absurd atom
      own (exists sort a) atom = absurd atom
      own (forall sort a) atom = absurd atom

  abbrev Over : ℕ → List ℕ → List ℕ → Formula → Type 0
  Over = HoldsOver g s c (Contains terms)

  abbrev Read : ℕ → List GroundTerm → GroundTerms → Formula → Type 0
  Read = Reads g is_there holds terms

  pub reads_over : (a : Formula) (number : ℕ) (scope : List ℕ) (names : List (Option GroundTerm)) (above : List ℕ) (env : List GroundTerm) (xs : List ℕ)
      (args : GroundTerms) (ys : List ℕ) → IsBelow number scope names above a env xs args ys → Read number env args a → Over number xs ys a
  reads_over yes number scope names above env xs args ys h r = tt
  reads_over no number scope names above env xs args ys h r = r
  reads_over (equal t u) number scope names above env xs args ys h r' = sym (atom_same (equal t u) number scope names above env xs args ys h (Contains-head (equal t u) [])) ∙ r'
  reads_over (less t u) number scope names above env xs args ys h r' = sym (atom_same (less t u) number scope names above env xs args ys h (Contains-head (less t u) [])) ∙ r'
  reads_over (has r t u) number scope names above env xs args ys h r' = sym (atom_same (has r t u) number scope names above env xs args ys h (Contains-head (has r t u) [])) ∙ r'
  reads_over (flag k t) number scope names above env xs args ys h r' = sym (atom_same (flag k t) number scope names above env xs args ys h (Contains-head (flag k t) [])) ∙ r'
  reads_over (present k t) number scope names above env xs args ys h r' = sym (atom_same (present k t) number scope names above env xs args ys h (Contains-head (present k t) [])) ∙ r'
  reads_over (negation a) number scope names above env xs args ys h r = ap not (sym (negated_same a number scope names above env xs args ys h)) ∙ r
  reads_over (both a b) number scope names above env xs args ys h r = (
    reads_over a number scope names above env xs args ys (below_left number scope names above a b env xs args ys h) r.0,
    reads_over b (number + quantifiers a) scope names above env xs args ys (below_right number scope names above a b env xs args ys h) r.1,
  )
  reads_over (either a b) number scope names above env xs args ys h (inl r) =
      inl (reads_over a number scope names above env xs args ys (below_left number scope names above a b env xs args ys (either_both number scope names above a b env xs args ys h)) r)
  reads_over (either a b) number scope names above env xs args ys h (inr r) =
      inr (reads_over b (number + quantifiers a) scope names above env xs args ys (below_right number scope names above a b env xs args ys (either_both number scope names above a b env xs args ys h)) r)
  reads_over (exists sort a) number scope names above env xs args ys h (there, r) =
      let own = own_term number scope names above sort a env xs args ys h in
      let x = value_there (element_named s c (skolem number sort args)) (sym (agree.there (skolem number sort args) own.0) ∙ there) in
      let e : c.variable number ys ≡ Some x.0 = sym own.1 ∙ x.1 in (
        x.0,
        e,
        reads_over a (number + 1) (scope ++ sort ∷ []) (names ++ name_of number sort above ∷ []) above (env ++ skolem number sort args ∷ []) (xs ++ x.0 ∷ []) args ys
            (below_exists number scope names above sort a env xs args ys x.0 h e) r,
      )
  reads_over (forall sort a) number scope names above env xs args ys h r = λ x within (t, there, kind, named).
      reads_over a (number + 1) (scope ++ sort ∷ []) (names ++ None ∷ []) (above ++ sort ∷ []) (env ++ t ∷ []) (xs ++ x ∷ []) (and_last args t) (ys ++ x ∷ [])
      (below_forall number scope names above sort a env xs args ys t x h there kind named)
      (r t there kind (agree.there t (closed.ranged t there) ∙ ap is_some named))

  module _ (bounded : (t : GroundTerm) (sort x : ℕ) → Contains terms t → sort_of g t ≡ Some sort → element_named s c t ≡ Some x → x < size_of s sort) where
    pub over_reads : (a : Formula) (number : ℕ) (scope : List ℕ) (names : List (Option GroundTerm)) (above : List ℕ) (env : List GroundTerm) (xs : List ℕ)
        (args : GroundTerms) (ys : List ℕ) → IsBelow number scope names above a env xs args ys → Over number xs ys a → Read number env args a
    over_reads yes number scope names above env xs args ys h r = tt
    over_reads no number scope names above env xs args ys h r = r
    over_reads (equal t u) number scope names above env xs args ys h r' = (atom_same (equal t u) number scope names above env xs args ys h (Contains-head (equal t u) [])) ∙ r'
    over_reads (less t u) number scope names above env xs args ys h r' = (atom_same (less t u) number scope names above env xs args ys h (Contains-head (less t u) [])) ∙ r'
    over_reads (has r t u) number scope names above env xs args ys h r' = (atom_same (has r t u) number scope names above env xs args ys h (Contains-head (has r t u) [])) ∙ r'
    over_reads (flag k t) number scope names above env xs args ys h r' = (atom_same (flag k t) number scope names above env xs args ys h (Contains-head (flag k t) [])) ∙ r'
    over_reads (present k t) number scope names above env xs args ys h r' = (atom_same (present k t) number scope names above env xs args ys h (Contains-head (present k t) [])) ∙ r'
    over_reads (negation a) number scope names above env xs args ys h r = ap not ((negated_same a number scope names above env xs args ys h)) ∙ r
    over_reads (both a b) number scope names above env xs args ys h r = (
      over_reads a number scope names above env xs args ys (below_left number scope names above a b env xs args ys h) r.0,
      over_reads b (number + quantifiers a) scope names above env xs args ys (below_right number scope names above a b env xs args ys h) r.1,
    )
    over_reads (either a b) number scope names above env xs args ys h (inl r) =
        inl (over_reads a number scope names above env xs args ys (below_left number scope names above a b env xs args ys (either_both number scope names above a b env xs args ys h)) r)
    over_reads (either a b) number scope names above env xs args ys h (inr r) =
        inr (over_reads b (number + quantifiers a) scope names above env xs args ys (below_right number scope names above a b env xs args ys (either_both number scope names above a b env xs args ys h)) r)
    over_reads (exists sort a) number scope names above env xs args ys h (x, e, r) =
        let own = own_term number scope names above sort a env xs args ys h in (
          agree.there (skolem number sort args) own.0 ∙ ap is_some (own.1 ∙ e),
          over_reads a (number + 1) (scope ++ sort ∷ []) (names ++ name_of number sort above ∷ []) above (env ++ skolem number sort args ∷ []) (xs ++ x ∷ []) args ys
              (below_exists number scope names above sort a env xs args ys x h e) r,
        )
    over_reads (forall sort a) number scope names above env xs args ys h r = λ t there kind found.
        let x = value_there (element_named s c t) (sym (agree.there t (closed.ranged t there)) ∙ found) in
        over_reads a (number + 1) (scope ++ sort ∷ []) (names ++ None ∷ []) (above ++ sort ∷ []) (env ++ t ∷ []) (xs ++ x.0 ∷ []) (and_last args t) (ys ++ x.0 ∷ [])
        (below_forall number scope names above sort a env xs args ys t x.0 h there kind x.1)
        (r x.0 (bounded t sort x.0 there kind x.1) (t, there, kind, x.1))

-- the whole formula
module _ (g : Signature) (f : Formula) (s : Structure) (c : Choice) (terms spoken : List GroundTerm) (is_there : GroundTerm → Bool)
    (holds : List GroundTerm → Formula → Bool) (agree : Agree g f s c spoken is_there holds) (closed : Speaks g f terms spoken)
    (over : IsOver g [] f) (normal : IsNormal f) where
  whole : IsBelow g f s c terms spoken is_there holds agree closed 0 [] [] [] f [] [] no_terms []
  whole = record {
    over = over;
    normal = normal;
    inside = λ p here. here;
    atoms = λ b here. here;
    elements = tt;
    sorts = tt;
    listed = tt;
    named = refl;
  }

  pub read_passes : IsChoice g s f c → Reads g is_there holds terms 0 [] no_terms f → PassesWith g f (Contains terms) s c
  read_passes fits r = record { choice = fits; holds = reads_over g f s c terms spoken is_there holds agree closed f 0 [] [] [] [] [] no_terms [] whole r }

  pub passes_read : IsStructure g s → (n : ℕ) → ((t : GroundTerm) → Contains terms t → ArisesWithin g f n t) → PassesWith g f (Contains terms) s c
      → Reads g is_there holds terms 0 [] no_terms f
  passes_read structure n arises p =
      over_reads g f s c terms spoken is_there holds agree closed (λ t sort x there kind named. arises_named g f s c over structure p.choice n t (arises t there) sort x kind named)
      f 0 [] [] [] [] [] no_terms [] whole p.holds
