-- The vocabulary of which inputs speak decides how a formula is read.
use Rattle.std.proofs.Common.{◌≡◌, ℕ, ◌∙◌, sym, refl, ap, subst, true, Bool, List, [], ◌∷◌, get_or, Some, None, Option, Contains, inl, inr}
use Rattle.std.specs.Prelude.{slice_get, option_and_then, int_lt}
use Rattle.std.specs.Option.{option_map}
use Rattle.std.proofs.lemmas.Option.{get_or_from_slice_get, slice_get_within}
use Rattle.std.proofs.lemmas.List.Elements.{Contains-append_cases}
use Rattle.form_formula.specs.declared.node.Node.{Node}
use Rattle.form_formula.specs.declared.structure.FunSig.{FunSig}
use Rattle.form_formula.specs.declared.structure.Range.{Range}
use Rattle.form_formula.specs.declared.structure.Range.TheVariants as range
use Rattle.form_formula.specs.declared.structure.Signature.{Signature}
use Rattle.form_formula.specs.declared.structure.SVal.{SVal}
use Rattle.form_formula.specs.Nodes as formula
use Rattle.form_formula.specs.Over.{HasRange, IsOver}
use Rattle.form_formula.specs.Trees.{Formula, Term as ATerm, bound, num, str, app, equal, less, has, flag, present}
use Rattle.form_formula.specs.Truth.{are_equal, both_pass, number_of}
use Rattle.ground_gates.specs.Gates.{value_of}
use Rattle.form_terms.specs.GroundTerms.{GroundTerm, constant, skolem, field, no_terms, sort_of, record_sort}
use Rattle.form_terms.specs.Reading.{Reads}
use Rattle.form_terms.proofs.Lists.{Contains-head}
use Rattle.ground_terms.specs.declared.node.TermNode.{TermNode}
use Rattle.ground_terms.specs.Nodes.{term_of}
use Rattle.form_tables.specs.Vocabulary.{Vocabulary, AreTerms, CoversAtom, CoversTerm, IsDecidedBy, IsOther, IsFunctionAt, IsValued, IsValuedIn, told}
use Rattle.form_tables.specs.Table.{Table, holds, value_at}
use Rattle.form_tables.specs.Consistent.{range_of}
use Rattle.ground_instances.specs.declared.input.Value.{Value}
use Rattle.ground_instances.specs.declared.input.Value.TheVariants.{Term, Literal}
use Rattle.ground_instances.specs.declared.input.Input.{Input}
use Rattle.ground_instances.specs.declared.input.Input.TheVariants.{There, Equal, Less, Has, Flag, Present}
use Rattle.ground_instances.specs.declared.instantiation.Instances.{Instances}
use Rattle.ground_instances.specs.GroundAtoms.{holds_at}
use Rattle.ground_instances.specs.Inputs.{AreInputsOf, input_value, literal_of, value_at as ground_value_at}
use Rattle.ground_instances.specs.Made.{AreInstancesOf}
use Rattle.ground_problem.specs.Says.{says, value_in}
use Rattle.ground_problem.proofs.AtomsSaid.{read_also, atom_said}
use Rattle.ground_problem.specs.Inputs.{IsOfRange, IsToldInput, literal_range, pairs_in}
use Rattle.ground_problem.specs.declared.words.PairNode.{PairNode}
use Rattle.ground_problem.specs.Words.{pair_at}

-- an element with its place
pub contained : {A : Type 0} (xs : List A) (k : ℕ) (x : A) → slice_get xs k ≡ Some x → Contains xs x
contained xs k x e = (k, slice_get_within xs k x e, get_or_from_slice_get xs k x x e)

module _ (g : Signature) (v : Vocabulary) (nodes : List Node) (terms : List TermNode)
    (sorted : (t : GroundTerm) → Contains v.named t → (sort : ℕ) × (sort_of g t ≡ Some sort))
    (functions : (t : GroundTerm) → Contains v.others t → IsOther g v t) where
  -- a term of a formula that stands for a value, where this term stands for its variable
  record IsShown (value : Value) (range : Range) (sort : ℕ) (base : GroundTerm) (tm : ℕ → ATerm) : Type 0 where
    named : Contains v.named base
    kind : sort_of g base ≡ Some sort
    ranged : (scope : List ℕ) (d : ℕ) → slice_get scope d ≡ Some sort → HasRange g scope (tm d) range
    covered : (env : List GroundTerm) (d : ℕ) → slice_get env d ≡ Some base → CoversTerm g v env (tm d)
    valued : (table : Table) (env : List GroundTerm) (d : ℕ) → slice_get env d ≡ Some base → value_at table env (tm d) ≡ value_in table (ground_value_at nodes terms value)

  record Shown (value : Value) (range : Range) : Type 0 where
    sort : ℕ
    base : GroundTerm
    tm : ℕ → ATerm
    shown : IsShown value range sort base tm

  -- a term that names an element
  shown_named : (id sort : ℕ) → sort_of g (term_of terms id) ≡ Some sort → Contains v.named (term_of terms id) → Shown (Term id) (range.Rec sort)
  shown_named id sort kind named = record {
    sort = sort;
    base = term_of terms id;
    tm = λ d. bound sort d;
    shown = record {
      named = named;
      kind = kind;
      ranged = λ scope d e. (e, refl);
      covered = λ env d e. tt;
      valued = λ table env d e. ap (option_and_then table.value) e;
    };
  }

  valued_field : (h : ℕ) (u : GroundTerm) (o : Option ℕ) → sort_of g (field h u) ≡ o → IsValued g v (field h u) → IsValuedIn g v o (field h u)
  valued_field h u o e valued = let P : Option ℕ → Type 0 = λ o. IsValuedIn g v o (field h u) in subst P e valued

  -- a function at such a term
  shown_field : (id h : ℕ) (u : GroundTerm) (range : Range) → term_of terms id ≡ field h u → IsValued g v (field h u) → range_of g (field h u) ≡ Some range → IsFunctionAt g v h u → Shown (Term id) range
  shown_field id h u range e valued is (sig, function, source, named) =
      let to : Some sig.to ≡ Some range = sym (ap (option_map (λ (s : FunSig). s.to)) function) ∙ is in
      let same : sig.to ≡ range = cc in
      record {
        sort = sig.from;
        base = u;
        tm = λ d. app h (bound sig.from d);
        shown = record {
          named = named;
          kind = source;
          ranged = λ scope d e. (sig, function, (e, refl), sym same);
          covered = λ env d at. (
            tt,
            λ x there.
                let o : Some (field h u) ≡ Some x = sym (ap (option_map (field h)) at) ∙ there in
                let here : field h u ≡ x = cc in
                let P : GroundTerm → Type 0 = λ t. IsValued g v t in
                subst P here valued,
          );
          valued = λ table env d at. ap (λ o. option_and_then table.value (option_map (field h) o)) at ∙ ap table.value (sym e);
        };
      }

  field_told : (h : ℕ) (t u : GroundTerm) → Some (field h t) ≡ Some u → Contains (told v) (field h t) → Contains (told v) u
  field_told h t u e there = let same : field h t ≡ u = cc in let P : GroundTerm → Type 0 = λ u. Contains (told v) u in subst P same there

  no_named : (t : GroundTerm) → sort_of g t ≡ None → Contains v.named t → ⊥
  no_named t e named = let no' : None ≡ Some (sorted t named).0 = sym e ∙ (sorted t named).1 in cc

  told_field : (h : ℕ) (u : GroundTerm) → sort_of g (field h u) ≡ None → Contains (told v) (field h u) → IsFunctionAt g v h u
  told_field h u e there =
      elim (Contains-append_cases v.named v.others (field h u) there) [
        | inl named ↦ absurd (no_named (field h u) e named)
        | inr other ↦ functions (field h u) other
      ]

  record_range : (t : GroundTerm) (sort : ℕ) → range_of g t ≡ Some (range.Rec sort) → sort_of g t ≡ Some sort
  record_range (constant s) sort e = let same : s ≡ sort = cc in ap (λ n. Some n) same
  record_range (skolem n s ts) sort e = let same : s ≡ sort = cc in ap (λ n. Some n) same
  record_range (field h t) sort e = by (slice_get g.funs h) e
    where
      by : (o : Option FunSig) → option_map (λ sig. sig.to) o ≡ Some (range.Rec sort) → option_and_then (λ sig. record_sort sig.to) o ≡ Some sort
      by None e = cc
      by (Some sig) e = let same : sig.to ≡ range.Rec sort = cc in ap record_sort same

  plain_range : (t : GroundTerm) (r : Range) → record_sort r ≡ None → range_of g t ≡ Some r → (h : ℕ) × (u : GroundTerm) × (t ≡ field h u) × (sort_of g (field h u) ≡ None)
  plain_range (constant s) r plain e = let same : range.Rec s ≡ r = cc in let no' : Some s ≡ None = ap record_sort same ∙ plain in cc
  plain_range (skolem n s ts) r plain e = let same : range.Rec s ≡ r = cc in let no' : Some s ≡ None = ap record_sort same ∙ plain in cc
  plain_range (field h t) r plain e = (h, t, refl, by (slice_get g.funs h) e)
    where
      by : (o : Option FunSig) → option_map (λ sig. sig.to) o ≡ Some r → option_and_then (λ sig. record_sort sig.to) o ≡ None
      by None e = refl
      by (Some sig) e = let same : sig.to ≡ r = cc in ap record_sort same ∙ plain

  shown_plain : (id : ℕ) (r : Range) → record_sort r ≡ None → range_of g (term_of terms id) ≡ Some r → IsValued g v (term_of terms id) → Shown (Term id) r
  shown_plain id r plain is valued =
      let (h, u, e, none) = plain_range (term_of terms id) r plain is in
      let V : GroundTerm → Type 0 = λ t. IsValued g v t in
      let R : GroundTerm → Type 0 = λ t. range_of g t ≡ Some r in
      let here : IsValued g v (field h u) = subst V e valued in
      shown_field id h u r e here (subst R e is) (told_field h u none (valued_field h u None none here))

  shown_term : (id : ℕ) (r : Range) → range_of g (term_of terms id) ≡ Some r → IsValued g v (term_of terms id) → Shown (Term id) r
  shown_term id (range.Rec sort) is valued =
      let kind : sort_of g (term_of terms id) ≡ Some sort = record_range (term_of terms id) sort is in
      let P : Option ℕ → Type 0 = λ o. IsValuedIn g v o (term_of terms id) in
      shown_named id sort kind (subst P kind valued)
  shown_term id range.Flag is valued = shown_plain id range.Flag refl is valued
  shown_term id range.Num is valued = shown_plain id range.Num refl is valued
  shown_term id range.Str is valued = shown_plain id range.Str refl is valued

  -- a number or a text
  record IsLiteralShown (id : ℕ) (r : Range) (t : ATerm) : Type 0 where
    ranged : (scope : List ℕ) → HasRange g scope t r
    covered : (env : List GroundTerm) → CoversTerm g v env t
    valued : (table : Table) (env : List GroundTerm) → value_at table env t ≡ value_in table (literal_of t)

  literal_shown : (id : ℕ) (r : Range) (t : ATerm) → literal_range t ≡ Some r → IsLiteralShown id r t
  literal_shown id r (bound sort depth) e = cc
  literal_shown id r (num n) e = let same : range.Num ≡ r = cc in record { ranged = λ scope. sym same; covered = λ env. tt; valued = λ table env. refl }
  literal_shown id r (str w) e = let same : range.Str ≡ r = cc in record { ranged = λ scope. sym same; covered = λ env. tt; valued = λ table env. refl }
  literal_shown id r (app h t) e = cc

  -- terms of a formula that stand for two values
  record TwoShown (a b : Value) (r q : Range) : Type 0 where
    scope : List ℕ
    env : List GroundTerm
    above : AreTerms g v.named scope env
    left : ATerm
    right : ATerm
    left_range : HasRange g scope left r
    right_range : HasRange g scope right q
    left_covered : CoversTerm g v env left
    right_covered : CoversTerm g v env right
    left_value : (table : Table) → value_at table env left ≡ value_in table (ground_value_at nodes terms a)
    right_value : (table : Table) → value_at table env right ≡ value_in table (ground_value_at nodes terms b)

  two_shown : (a b : Value) (r q : Range) → IsOfRange g v nodes terms a r → IsOfRange g v nodes terms b q → TwoShown a b r q
  two_shown (Term i) (Term j) r q x y =
      let a = shown_term i r x.1 x.2 in
      let b = shown_term j q y.1 y.2 in
      record {
        scope = a.sort ∷ b.sort ∷ [];
        env = a.base ∷ b.base ∷ [];
        above = ((a.shown.named, a.shown.kind), ((b.shown.named, b.shown.kind), tt));
        left = a.tm 0;
        right = b.tm 1;
        left_range = a.shown.ranged (a.sort ∷ b.sort ∷ []) 0 refl;
        right_range = b.shown.ranged (a.sort ∷ b.sort ∷ []) 1 refl;
        left_covered = a.shown.covered (a.base ∷ b.base ∷ []) 0 refl;
        right_covered = b.shown.covered (a.base ∷ b.base ∷ []) 1 refl;
        left_value = λ table. a.shown.valued table (a.base ∷ b.base ∷ []) 0 refl;
        right_value = λ table. b.shown.valued table (a.base ∷ b.base ∷ []) 1 refl;
      }
  two_shown (Term i) (Literal j) r q x y =
      let a = shown_term i r x.1 x.2 in
      let t : ATerm = formula.term_of nodes j in
      let b = literal_shown j q t y in
      record {
        scope = a.sort ∷ [];
        env = a.base ∷ [];
        above = ((a.shown.named, a.shown.kind), tt);
        left = a.tm 0;
        right = t;
        left_range = a.shown.ranged (a.sort ∷ []) 0 refl;
        right_range = b.ranged (a.sort ∷ []);
        left_covered = a.shown.covered (a.base ∷ []) 0 refl;
        right_covered = b.covered (a.base ∷ []);
        left_value = λ table. a.shown.valued table (a.base ∷ []) 0 refl;
        right_value = λ table. b.valued table (a.base ∷ []);
      }
  two_shown (Literal i) (Term j) r q x y =
      let s : ATerm = formula.term_of nodes i in
      let a = literal_shown i r s x in
      let b = shown_term j q y.1 y.2 in
      record {
        scope = b.sort ∷ [];
        env = b.base ∷ [];
        above = ((b.shown.named, b.shown.kind), tt);
        left = s;
        right = b.tm 0;
        left_range = a.ranged (b.sort ∷ []);
        right_range = b.shown.ranged (b.sort ∷ []) 0 refl;
        left_covered = a.covered (b.base ∷ []);
        right_covered = b.shown.covered (b.base ∷ []) 0 refl;
        left_value = λ table. a.valued table (b.base ∷ []);
        right_value = λ table. b.shown.valued table (b.base ∷ []) 0 refl;
      }
  two_shown (Literal i) (Literal j) r q x y =
      let s : ATerm = formula.term_of nodes i in
      let t : ATerm = formula.term_of nodes j in
      let a = literal_shown i r s x in
      let b = literal_shown j q t y in
      record {
        scope = [];
        env = [];
        above = tt;
        left = s;
        right = t;
        left_range = a.ranged [];
        right_range = b.ranged [];
        left_covered = a.covered [];
        right_covered = b.covered [];
        left_value = λ table. a.valued table [];
        right_value = λ table. b.valued table [];
      }

  module _ (is_there is_there' : GroundTerm → Bool) (one two : Table) (there : (t : GroundTerm) → Contains v.named t → is_there t ≡ is_there' t)
      (atoms : (a : Formula) (scope : List ℕ) (env : List GroundTerm) → IsOver g scope a → AreTerms g v.named scope env → CoversAtom g v env a → holds one env a ≡ holds two env a) where
    -- an input that speaks of the vocabulary has one value
    pub same_input : (i : Input) → IsToldInput g v nodes terms i → ((p : PairNode) → Contains (pairs_in i) p → Contains v.pairs (pair_at terms p))
        → input_value nodes terms is_there (says one) i ≡ input_value nodes terms is_there' (says two) i
    same_input (There id) (single, named) pairs = there (term_of terms id) named
    same_input (Equal a b) (r, comparable, x, y) pairs =
        let s = two_shown a b r r x y in
        let P : (Table → Option SVal) → (Table → Option SVal) → Type 0 = λ l k. both_pass are_equal (l one) (k one) ≡ both_pass are_equal (l two) (k two) in
        let e : both_pass are_equal (value_at one s.env s.left) (value_at one s.env s.right) ≡ both_pass are_equal (value_at two s.env s.left) (value_at two s.env s.right) =
        atoms (equal s.left s.right) s.scope s.env (r, comparable, s.left_range, s.right_range) s.above (s.left_covered, s.right_covered) in
        sym (said one s) ∙ (e ∙ said two s)
      where
        said : (table : Table) (s : TwoShown a b r r) → both_pass are_equal (value_at table s.env s.left) (value_at table s.env s.right)
            ≡ both_pass are_equal (value_in table (ground_value_at nodes terms a)) (value_in table (ground_value_at nodes terms b))
        said table s =
            ap (λ o. both_pass are_equal o (value_at table s.env s.right)) (s.left_value table)
            ∙ ap (both_pass are_equal (value_in table (ground_value_at nodes terms a))) (s.right_value table)
    same_input (Less a b) (x, y) pairs =
        let s = two_shown a b range.Num range.Num x y in
        let e = atoms (less s.left s.right) s.scope s.env (s.left_range, s.right_range) s.above (s.left_covered, s.right_covered) in
        sym (said one s) ∙ (e ∙ said two s)
      where
        said : (table : Table) (s : TwoShown a b range.Num range.Num)
            → both_pass int_lt (option_and_then number_of (value_at table s.env s.left)) (option_and_then number_of (value_at table s.env s.right))
            ≡ both_pass int_lt (option_and_then number_of (value_in table (ground_value_at nodes terms a))) (option_and_then number_of (value_in table (ground_value_at nodes terms b)))
        said table s =
            ap (λ o. both_pass int_lt (option_and_then number_of o) (option_and_then number_of (value_at table s.env s.right))) (s.left_value table)
            ∙ ap (λ o. both_pass int_lt (option_and_then number_of (value_in table (ground_value_at nodes terms a))) (option_and_then number_of o)) (s.right_value table)
    same_input (Has r (Term a) (Term b)) (sig, relation, x, y) pairs =
        let t : GroundTerm = term_of terms a in
        let u : GroundTerm = term_of terms b in
        atoms (has r (bound sig.from 0) (bound sig.to 1)) (sig.from ∷ sig.to ∷ []) (t ∷ u ∷ []) (sig, relation, (refl, refl), (refl, refl)) ((x.2, x.1), ((y.2, y.1), tt)) (
          tt,
          tt,
          λ p q e d.
              let same : t ≡ p = cc in
              let same' : u ≡ q = cc in
              let P : GroundTerm → Type 0 = λ p. Contains v.pairs (record { relation = r; holder = p; member = u }) in
              let Q : GroundTerm → Type 0 = λ q. Contains v.pairs (record { relation = r; holder = p; member = q }) in
              subst Q same' (subst P same (pairs (record { relation = r; holder = a; member = b }) (Contains-head (record { relation = r; holder = a; member = b }) []))),
        )
    same_input (Has r (Term a) (Literal b)) (sig, relation, x, y) pairs = absurd y
    same_input (Has r (Literal a) b) (sig, relation, x, y) pairs = absurd x
    same_input (Flag h (Term a)) (sig, function, x, to, here) pairs =
        let t : GroundTerm = term_of terms a in
        atoms (flag h (bound sig.from 0)) (sig.from ∷ []) (t ∷ []) (sig, function, (refl, refl), to) ((x.2, x.1), tt) (tt, λ u e. field_told h t u e here)
    same_input (Flag h (Literal a)) (sig, function, x, to, here) pairs = absurd x
    same_input (Present h (Term a)) (sig, function, x, here) pairs =
        let t : GroundTerm = term_of terms a in
        atoms (present h (bound sig.from 0)) (sig.from ∷ []) (t ∷ []) (sig, function, (refl, refl)) ((x.2, x.1), tt) (tt, λ u e. field_told h t u e here)
    same_input (Present h (Literal a)) (sig, function, x, here) pairs = absurd x

module _ (g : Signature) (nodes : List Node) (f : Formula) (ts : List GroundTerm) (made : Instances) (v : Vocabulary) (over : IsOver g [] f) (instances : AreInstancesOf g nodes f ts made)
    (sorted : (t : GroundTerm) → Contains v.named t → (sort : ℕ) × (sort_of g t ≡ Some sort)) (functions : (t : GroundTerm) → Contains v.others t → IsOther g v t)
    (spoken : (i : Input) → Contains made.inputs i → IsToldInput g v nodes made.terms i) (pairs : (i : Input) (p : PairNode) → Contains made.inputs i → Contains (pairs_in i) p → Contains v.pairs (pair_at made.terms p)) where
  pub decided : IsDecidedBy g f ts v
  decided = λ is_there is_there' one two there atoms r.
      let values : ℕ → Bool = λ k. input_value nodes made.terms is_there (says one) (get_or made.inputs k (There 0)) in
      let here : AreInputsOf nodes made.terms is_there (says one) made.inputs values = λ k i e. ap (input_value nodes made.terms is_there (says one)) (get_or_from_slice_get made.inputs k i (There 0) e) in
      let also : AreInputsOf nodes made.terms is_there' (says two) made.inputs values = λ k i e.
      here k i e
      ∙ same_input g v nodes made.terms sorted functions is_there is_there' one two there atoms i (spoken i (contained made.inputs k i e)) (λ p c. pairs i p (contained made.inputs k i e) c) in
      let said : Reads g is_there (holds_at (says one)) ts 0 [] no_terms f =
      read_also g is_there (λ env a. holds one env a) (λ env a. holds_at (says one) env a) ts (λ a scope env over' size. atom_said g one scope env size a over') f 0 [] [] no_terms over refl r in
      let on : value_of values made.gates made.root ≡ true = (instances.reads is_there (says one) values here).1 said in
      read_also g is_there' (λ env a. holds_at (says two) env a) (λ env a. holds two env a) ts (λ a scope env over' size. sym (atom_said g two scope env size a over')) f 0 [] [] no_terms over refl
      ((instances.reads is_there' (says two) values also).0 on)
