-- Atoms hold in a consistent table where they hold in the table of its structure.
use Rattle.std.proofs.Common.{◌≡◌, ℕ, zero, suc, ◌+◌, ◌⊎◌, inl, inr, Bool, true, false, ◌&&◌, refl, sym, ◌∙◌, List, [], ◌∷◌, Some, None, Option, ap, subst, arith, slice_get, Contains}
use Rattle.std.specs.Prelude.{option_and_then, is_some, ◌==◌, slice_index_or, unwrap_or, int_lt}
use Rattle.std.specs.List.{list_any, filter}
use Rattle.std.specs.Option.{option_map}
use Rattle.std.proofs.lemmas.Bool.{and_parts, eqb-true}
use Rattle.std.proofs.lemmas.Bool.Decides.{eqb_tells}
use Rattle.form_formula.specs.declared.structure.Range.{Range}
use Rattle.form_formula.specs.declared.structure.Range.TheVariants as kinds
use Rattle.form_formula.specs.declared.structure.FunSig.{FunSig}
use Rattle.form_formula.specs.declared.structure.SetSig.{SetSig}
use Rattle.form_formula.specs.declared.structure.Signature.{Signature}
use Rattle.form_formula.specs.declared.structure.SVal.{SVal}
use Rattle.form_formula.specs.declared.structure.SVal.TheVariants.{Rec, Num, Str}
use Rattle.form_formula.specs.declared.structure.Structure.{Structure}
use Rattle.form_formula.specs.Over.{IsFunction, IsOver, HasRange, AreComparable}
use Rattle.form_formula.specs.Trees.{Term, Formula, bound, num, str, app, yes, no, equal, less, has, flag, present, negation, both, either, exists, forall}
use Rattle.form_formula.specs.Truth.{element_of, are_equal, both_pass, number_of, is_true_value, relates}
use Rattle.form_terms.specs.GroundTerms.{GroundTerm, field, sort_of, record_sort}
use Rattle.form_terms.specs.Passing.{Choice, element_named}
use Rattle.form_terms.proofs.Kept.{enumerated, list_any-from, list_any-some, nat_same}
use Rattle.form_terms.proofs.Listed.{to_filter, to_map}
use Rattle.form_terms.proofs.CutStructure.{from_filter}
use Rattle.form_tables.specs.Vocabulary.{Vocabulary, Pair, IsVocabulary, IsValued, IsValuedIn, CoversTerm, CoversAtom, CoversPair, term_at, told}
use Rattle.form_tables.specs.Table.{Table, is_there, holds, value_at}
use Rattle.form_tables.specs.Consistent.{IsConsistent, range_of}
use Rattle.form_tables.specs.Made.{classes, place, element, made_value, made_relation, made, made_choice, table_of}
use Rattle.form_tables.proofs.Sound.{is_some_value}
use Rattle.form_tables.proofs.Classes.{sort_value, named_told, class_listed, one_class, at_there, one_element, sorted_range}
use Rattle.form_tables.proofs.MadeValues.{element_made, asked_made, value_made, named_valued}
use Rattle.form_tables.proofs.Transfer.{AreTerms}

same_number : (i j k n : ℕ) → (i ≡ j → k ≡ n) → (k ≡ n → i ≡ j) → (i == j) ≡ (k == n)
same_number i j k n there back =
    elim (eqb_tells i j) [
      | inl p ↦ elim (eqb_tells k n) [ inl q ↦ p.0 ∙ sym q.0 | inr q ↦ absurd (q.1 (there p.1)) ]
      | inr p ↦ elim (eqb_tells k n) [ inl q ↦ absurd (p.1 (back q.1)) | inr q ↦ p.0 ∙ sym q.0 ]
    ]

pub one_truth : (a b : Bool) → (a ≡ true → b ≡ true) → (b ≡ true → a ≡ true) → a ≡ b
one_truth true b p q = sym (p refl)
one_truth false true p q = q refl
one_truth false false p q = refl

unmoved : (h : SVal → SVal) → ((w : SVal) → h w ≡ w) → (o : Option SVal) → option_map h o ≡ o
unmoved h same None = refl
unmoved h same (Some w) = ap (λ w. Some w) (same w)

pub term_named : (g : Signature) (terms : List GroundTerm) (scope : List ℕ) (env : List GroundTerm) (depth sort : ℕ) → AreTerms g terms scope env
    → slice_get scope depth ≡ Some sort → (t : GroundTerm) × (slice_get env depth ≡ Some t) × Contains terms t × (sort_of g t ≡ Some sort)
term_named g terms [] [] depth sort h e = cc
term_named g terms [] (t ∷ env) depth sort h e = absurd h
term_named g terms (s ∷ scope) [] depth sort h e = absurd h
term_named g terms (s ∷ scope) (t ∷ env) zero sort h e = (t, refl, h.0.0, h.0.1 ∙ e)
term_named g terms (s ∷ scope) (t ∷ env) (suc depth) sort h e = term_named g terms scope env depth sort h.1 e

module _ (g : Signature) (f : Formula) (terms : List GroundTerm) (v : Vocabulary) (table : Table)
    (over : IsOver g [] f) (words : IsVocabulary g f terms v) (fits : IsConsistent g v table) where
  abbrev new : Structure
  new = made g v table

  abbrev choice : Choice
  choice = made_choice g v table

  abbrev own : Table
  own = table_of new choice

  abbrev at : GroundTerm → Option ℕ
  at t = element g v table t

  valued_told : (t : GroundTerm) → IsValued g v t → Contains (told v) t
  valued_told t h = choose (sort_of g t) h
    where
      choose : (o : Option ℕ) → IsValuedIn g v o t → Contains (told v) t
      choose None h = h
      choose (Some sort) h = named_told g f terms v table over words fits t h

  -- set relations at two terms
  relation_row : (r : ℕ) (sig : SetSig) → slice_get g.sets r ≡ Some sig → slice_index_or new.sets r [] ≡ made_relation g v table (r, sig)
  relation_row r sig there =
      let start : 0 + r ≡ r = omega arith in
      enumerated (made_relation g v table) 0 r g.sets sig [] there ∙ ap (λ r. made_relation g v table (r, sig)) start

  abbrev matches : ℕ → ℕ → ℕ × ℕ → Bool
  matches x y pair = (pair.0 == x) && (pair.1 == y)

  abbrev places : Pair → ℕ × ℕ
  places q = (unwrap_or (at q.holder) 0, unwrap_or (at q.member) 0)

  abbrev is_related : ℕ → Pair → Bool
  is_related r q = (q.relation == r) && table.has q.relation q.holder q.member

  related_made : (p : Pair) (x y : ℕ) → Contains v.pairs p → at p.holder ≡ Some x → at p.member ≡ Some y
      → table.has p.relation p.holder p.member ≡ relates new p.relation x y
  related_made p x y listed holder member =
      let (sig, there, holder-kind, holder-named, member-kind, member-named) = words.related p listed in
      one_truth (table.has p.relation p.holder p.member) (relates new p.relation x y)
      (λ e.
      let a = nat_same p.relation in
      let passes : is_related p.relation p ≡ true = cc in
      let pair = to_map places (filter (is_related p.relation) v.pairs) p (to_filter (is_related p.relation) v.pairs p listed passes) in
      let i = ap (λ o. unwrap_or o 0) holder in
      let j = ap (λ o. unwrap_or o 0) member in
      let left : (unwrap_or (at p.holder) 0 == x) ≡ true = ap (λ n. n == x) i ∙ nat_same x in
      let right : (unwrap_or (at p.member) 0 == y) ≡ true = ap (λ n. n == y) j ∙ nat_same y in
      let fit : matches x y (places p) ≡ true = cc in
      ap (list_any (matches x y)) (relation_row p.relation sig there)
      ∙ list_any-from (matches x y) (made_relation g v table (p.relation, sig)) (places p) pair fit)
      (λ e.
      let (pair, here, fit) = list_any-some (matches x y) (made_relation g v table (p.relation, sig)) (sym (ap (list_any (matches x y)) (relation_row p.relation sig there)) ∙ e) in
      let (q, q-listed, passes, q-is) = from_filter places (is_related p.relation) v.pairs pair here in
      let (a, b) = and_parts (q.relation == p.relation) (table.has q.relation q.holder q.member) passes in
      let relation : q.relation ≡ p.relation = eqb-true q.relation p.relation a in
      let alive = fits.relations.within q q-listed b in
      let (other, other-there, q-holder-kind, q-holder-named, q-member-kind, q-member-named) = words.related q q-listed in
      let both : Some other ≡ Some sig = sym other-there ∙ (ap (slice_get g.sets) relation ∙ there) in
      let same : other ≡ sig = cc in
      let (m, n) = and_parts (pair.0 == x) (pair.1 == y) fit in
      let first = placed q.holder other.from x q-holder-named q-holder-kind alive.0 (ap (λ p. p.0) q-is ∙ eqb-true pair.0 x m) in
      let second = placed q.member other.to y q-member-named q-member-kind alive.1 (ap (λ p. p.1) q-is ∙ eqb-true pair.1 y n) in
      sym (fits.relations.same q p q-listed listed relation
      (one_element g f terms v table over words fits q.holder p.holder sig.from x q-holder-named holder-named (q-holder-kind ∙ ap (λ sig. Some sig.from) same) holder-kind first holder)
      (one_element g f terms v table over words fits q.member p.member sig.to y q-member-named member-named (q-member-kind ∙ ap (λ sig. Some sig.to) same) member-kind second member))
      ∙ b)
    where
      placed : (t : GroundTerm) (sort n : ℕ) → Contains v.named t → sort_of g t ≡ Some sort → is_there table t ≡ true → unwrap_or (at t) 0 ≡ n → at t ≡ Some n
      placed t sort n there kind alive e =
          let (k, here) = is_some_value (at t) (sym (at_there g f terms v table over words fits t sort there kind) ∙ alive) in
          here ∙ ap (λ n. Some n) (sym (ap (λ o. unwrap_or o 0) here) ∙ e)

  pair_made : (p : Pair) → Contains v.pairs p
      → table.has p.relation p.holder p.member ≡ both_pass (relates new p.relation) (element_named new choice p.holder) (element_named new choice p.member)
  pair_made p listed =
      let (sig, there, holder-kind, holder-named, member-kind, member-named) = words.related p listed in
      let left = element_made g f terms v table over words fits p.holder holder-named in
      let right = element_made g f terms v table over words fits p.member member-named in
      choose (at p.holder) (at p.member) refl refl
      (at_there g f terms v table over words fits p.holder sig.from holder-named holder-kind)
      (at_there g f terms v table over words fits p.member sig.to member-named member-kind)
      ∙ (ap (λ o. both_pass (relates new p.relation) o (at p.member)) (sym left)
      ∙ ap (both_pass (relates new p.relation) (element_named new choice p.holder)) (sym right))
    where
      absent : (b : Bool) → table.has p.relation p.holder p.member ≡ b → (is_there table p.holder ≡ false) ⊎ (is_there table p.member ≡ false) → b ≡ false
      absent false e none = refl
      absent true e (inl none) = let alive = (fits.relations.within p listed e).0 in let no' : true ≡ false = sym alive ∙ none in cc
      absent true e (inr none) = let alive = (fits.relations.within p listed e).1 in let no' : true ≡ false = sym alive ∙ none in cc

      choose : (a b : Option ℕ) → at p.holder ≡ a → at p.member ≡ b → is_there table p.holder ≡ is_some (at p.holder) → is_there table p.member ≡ is_some (at p.member)
          → table.has p.relation p.holder p.member ≡ both_pass (relates new p.relation) (at p.holder) (at p.member)
      choose None b m n left right =
          absent (table.has p.relation p.holder p.member) refl (inl (left ∙ ap is_some m)) ∙ sym (ap (λ o. both_pass (relates new p.relation) o (at p.member)) m)
      choose (Some x) None m n left right =
          absent (table.has p.relation p.holder p.member) refl (inr (right ∙ ap is_some n))
          ∙ sym (ap (λ o. both_pass (relates new p.relation) o (at p.member)) m ∙ ap (both_pass (relates new p.relation) (Some x)) n)
      choose (Some x) (Some y) m n left right =
          related_made p x y listed m n
          ∙ sym (ap (λ o. both_pass (relates new p.relation) o (at p.member)) m ∙ ap (both_pass (relates new p.relation) (Some x)) n)

  module _ (scope : List ℕ) (env : List GroundTerm) (above : AreTerms g v.named scope env) where
    -- a record term is a ground term that names an element
    record_at : (t : Term) (sort : ℕ) → HasRange g scope t (kinds.Rec sort) → CoversTerm g v env t
        → (u : GroundTerm) × (term_at env t ≡ Some u) × Contains v.named u × (sort_of g u ≡ Some sort) × (value_at table env t ≡ table.value u)
    record_at (bound n depth) sort h covers =
        let (u, here, named, kind) = term_named g v.named scope env depth n above h.0 in
        let same : n ≡ sort = cc in
        (u, here, named, kind ∙ ap (λ n. Some n) same, ap (option_and_then table.value) here)
    record_at (num n) sort h covers = cc
    record_at (str w) sort h covers = cc
    record_at (app h t) sort (sig, there, inner, e) covers =
        let (u, here, named, kind, value) = record_at t sig.from inner covers.0 in
        let at-app : term_at env (app h t) ≡ Some (field h u) = ap (option_map (field h)) here in
        let sorted : sort_of g (field h u) ≡ Some sort = ap (option_and_then (λ sig. record_sort sig.to)) there ∙ ap record_sort (sym e) in
        let P : Option ℕ → Type 0 = λ o. IsValuedIn g v o (field h u) in
        (field h u, at-app, subst P sorted (covers.1 (field h u) at-app), sorted, ap (option_and_then table.value) at-app)

    -- a term has in the structure what the table tells
    value_carried : (t : Term) (range : Range) → HasRange g scope t range → CoversTerm g v env t
        → value_at own env t ≡ option_map (made_value g v table range) (value_at table env t)
    value_carried (bound n depth) range h covers =
        let (u, here, named, kind) = term_named g v.named scope env depth n above h.0 in
        let whole = value_made g f terms v table over words fits u (kinds.Rec n) (named_valued g f terms v table over words fits u named)
        (named_told g f terms v table over words fits u named) (sorted_range g u n kind) in
        ap (option_and_then own.value) here ∙ (whole ∙ (ap (λ o. option_map (made_value g v table (kinds.Rec n)) (option_and_then table.value o)) (sym here)
        ∙ ap (λ range. option_map (made_value g v table range) (value_at table env (bound n depth))) (sym h.1)))
    value_carried (num n) range h covers = ap (λ range. option_map (made_value g v table range) (Some (Num n))) (sym h)
    value_carried (str w) range h covers = ap (λ range. option_map (made_value g v table range) (Some (Str w))) (sym h)
    value_carried (app h t) range (sig, there, inner, e) covers =
        let (u, here, named, kind, value) = record_at t sig.from inner covers.0 in
        let at-app : term_at env (app h t) ≡ Some (field h u) = ap (option_map (field h)) here in
        let valued = covers.1 (field h u) at-app in
        let range-is : range_of g (field h u) ≡ Some range = ap (option_map (λ sig. sig.to)) there ∙ ap (λ r. Some r) (sym e) in
        ap (option_and_then own.value) at-app ∙ (value_made g f terms v table over words fits (field h u) range valued (valued_told (field h u) valued) range-is
        ∙ ap (λ o. option_map (made_value g v table range) (option_and_then table.value o)) (sym at-app))

    -- what a record term has is a number of its sort
    abbrev IsNumbered : ℕ → Option SVal → Type 0
    IsNumbered sort o = (o ≡ None) ⊎ ((k : ℕ) × (o ≡ Some (Rec k)) × Contains (classes g v table sort) k)

    numbered : (t : Term) (sort : ℕ) → HasRange g scope t (kinds.Rec sort) → CoversTerm g v env t → IsNumbered sort (value_at table env t)
    numbered t sort h covers =
        let (u, here, named, kind, value) = record_at t sort h covers in
        let P : Option SVal → Type 0 = λ o. IsNumbered sort o in
        subst P (sym value) (choose u named kind (table.value u) refl)
      where
        choose : (u : GroundTerm) → Contains v.named u → sort_of g u ≡ Some sort → (o : Option SVal) → table.value u ≡ o → IsNumbered sort (table.value u)
        choose u named kind None e = inl e
        choose u named kind (Some w) e =
            let (k, w-is) = sort_value g f terms v table over words fits u sort w (named_told g f terms v table over words fits u named) kind e in
            let value : table.value u ≡ Some (Rec k) = e ∙ ap (λ w. Some w) w-is in
            inr (k, value, class_listed g f terms v table over words fits u sort k named kind (ap (option_and_then element_of) value))

    equal_carried : (sort : ℕ) (a b : Option SVal) → IsNumbered sort a → IsNumbered sort b
        → both_pass are_equal a b ≡ both_pass are_equal (option_map (made_value g v table (kinds.Rec sort)) a) (option_map (made_value g v table (kinds.Rec sort)) b)
    equal_carried sort a b (inl p) q = cc
    equal_carried sort a b (inr (k, p, there)) (inl q) = cc
    equal_carried sort a b (inr (k, p, there)) (inr (n, q, here)) =
        let same = same_number k n (place g v table sort k) (place g v table sort n) (ap (place g v table sort)) (one_class g f terms v table over words fits sort k n there here) in
        let left : both_pass are_equal a b ≡ (k == n) = cc in
        let right : both_pass are_equal (option_map (made_value g v table (kinds.Rec sort)) a) (option_map (made_value g v table (kinds.Rec sort)) b)
        ≡ (place g v table sort k == place g v table sort n) = cc in
        left ∙ (same ∙ sym right)

    numbers_stay : (t : Term) → HasRange g scope t kinds.Num → CoversTerm g v env t → value_at own env t ≡ value_at table env t
    numbers_stay t h covers = value_carried t kinds.Num h covers ∙ unmoved (made_value g v table kinds.Num) (λ w. refl) (value_at table env t)

    equal_made : (t u : Term) (range : Range) → AreComparable range → HasRange g scope t range → HasRange g scope u range → CoversTerm g v env t → CoversTerm g v env u
        → both_pass are_equal (value_at table env t) (value_at table env u) ≡ both_pass are_equal (value_at own env t) (value_at own env u)
    equal_made t u range alike p q a b =
        let left = value_carried t range p a in
        let right = value_carried u range q b in
        choose range alike p q ∙ (ap (λ o. both_pass are_equal o (option_map (made_value g v table range) (value_at table env u))) (sym left)
        ∙ ap (both_pass are_equal (value_at own env t)) (sym right))
      where
        choose : (range : Range) → AreComparable range → HasRange g scope t range → HasRange g scope u range
            → both_pass are_equal (value_at table env t) (value_at table env u)
            ≡ both_pass are_equal (option_map (made_value g v table range) (value_at table env t)) (option_map (made_value g v table range) (value_at table env u))
        choose (kinds.Rec sort) alike p q = equal_carried sort (value_at table env t) (value_at table env u) (numbered t sort p a) (numbered u sort q b)
        choose kinds.Flag alike p q = absurd alike
        choose kinds.Num alike p q =
            let left = unmoved (made_value g v table kinds.Num) (λ w. refl) (value_at table env t) in
            let right = unmoved (made_value g v table kinds.Num) (λ w. refl) (value_at table env u) in
            sym (ap (λ o. both_pass are_equal o (option_map (made_value g v table kinds.Num) (value_at table env u))) left
            ∙ ap (both_pass are_equal (value_at table env t)) right)
        choose kinds.Str alike p q =
            let left = unmoved (made_value g v table kinds.Str) (λ w. refl) (value_at table env t) in
            let right = unmoved (made_value g v table kinds.Str) (λ w. refl) (value_at table env u) in
            sym (ap (λ o. both_pass are_equal o (option_map (made_value g v table kinds.Str) (value_at table env u))) left
            ∙ ap (both_pass are_equal (value_at table env t)) right)

    has_made : (r : ℕ) (t u : Term) (sig : SetSig) → HasRange g scope t (kinds.Rec sig.from) → HasRange g scope u (kinds.Rec sig.to) → CoversTerm g v env t → CoversTerm g v env u
        → CoversPair g v env r t u → both_pass (table.has r) (term_at env t) (term_at env u) ≡ both_pass (own.has r) (term_at env t) (term_at env u)
    has_made r t u sig p q a b pairs =
        let (x, x-at, x-named, x-kind, x-value) = record_at t sig.from p a in
        let (y, y-at, y-named, y-kind, y-value) = record_at u sig.to q b in
        let whole : table.has r x y ≡ own.has r x y = pair_made (record { relation = r; holder = x; member = y }) (pairs x y x-at y-at) in
        ap (λ o. both_pass (table.has r) o (term_at env u)) x-at ∙ (ap (both_pass (table.has r) (Some x)) y-at ∙ (whole
        ∙ (ap (both_pass (own.has r) (Some x)) (sym y-at) ∙ ap (λ o. both_pass (own.has r) o (term_at env u)) (sym x-at))))

    flag_made : (h : ℕ) (t : Term) (sig : FunSig) → IsFunction g h sig → HasRange g scope t (kinds.Rec sig.from) → sig.to ≡ kinds.Flag → CoversTerm g v env t
        → ((x : GroundTerm) → term_at env (app h t) ≡ Some x → Contains (told v) x) → value_at own env (app h t) ≡ value_at table env (app h t)
    flag_made h t sig there p to a b =
        let (u, here, named, kind, value) = record_at t sig.from p a in
        let at-app : term_at env (app h t) ≡ Some (field h u) = ap (option_map (field h)) here in
        let listed = b (field h u) at-app in
        let sorted : sort_of g (field h u) ≡ None = ap (option_and_then (λ sig. record_sort sig.to)) there ∙ ap record_sort to in
        let P : Option ℕ → Type 0 = λ o. IsValuedIn g v o (field h u) in
        let range-is : range_of g (field h u) ≡ Some kinds.Flag = ap (option_map (λ sig. sig.to)) there ∙ ap (λ r. Some r) to in
        ap (option_and_then own.value) at-app ∙ (value_made g f terms v table over words fits (field h u) kinds.Flag (subst P (sym sorted) listed) listed range-is
        ∙ (unmoved (made_value g v table kinds.Flag) (λ w. refl) (table.value (field h u)) ∙ ap (option_and_then table.value) (sym at-app)))

    pub atom_made : (a : Formula) → IsOver g scope a → CoversAtom g v env a → holds table env a ≡ holds own env a
    atom_made yes h covers = refl
    atom_made no h covers = refl
    atom_made (equal t u) (range, alike, p, q) (a, b) = equal_made t u range alike p q a b
    atom_made (less t u) (p, q) (a, b) =
        let left = ap (option_and_then number_of) (sym (numbers_stay t p a)) in
        let right = ap (option_and_then number_of) (sym (numbers_stay u q b)) in
        ap (λ o. both_pass int_lt o (option_and_then number_of (value_at table env u))) left ∙ ap (both_pass int_lt (option_and_then number_of (value_at own env t))) right
    atom_made (has r t u) (sig, there, p, q) (a, b, pairs) = has_made r t u sig p q a b pairs
    atom_made (flag h t) (sig, there, p, to) (a, b) = ap is_true_value (sym (flag_made h t sig there p to a b))
    atom_made (present h t) (sig, there, p) (a, b) =
        let (u, here, named, kind, value) = record_at t sig.from p a in
        let at-app : term_at env (app h t) ≡ Some (field h u) = ap (option_map (field h)) here in
        ap (λ o. is_some (option_and_then table.value o)) at-app ∙ (sym (asked_made g f terms v table over words fits h u (b (field h u) at-app))
        ∙ ap (λ o. is_some (option_and_then own.value o)) (sym at-app))
    atom_made (negation a) h covers = refl
    atom_made (both a b) h covers = refl
    atom_made (either a b) h covers = refl
    atom_made (exists sort a) h covers = refl
    atom_made (forall sort a) h covers = refl
