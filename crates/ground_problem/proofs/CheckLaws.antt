-- Whether inputs speak of a vocabulary.
use Rattle.std.proofs.Common.{◌≡◌, ℕ, zero, suc, arith, ◌+◌, ◌<◌, ◌≤◌, ◌∙◌, ◌⊎◌, inl, inr, sym, refl, ap, subst, true, Bool, List, [], ◌∷◌, ◌++◌, length, get_or, take, Some, None, Option, Contains}
use Rattle.std.specs.Prelude.{slice_get, option_and_then, IfSome}
use Rattle.std.proofs.Math.ListN.{set}
use Rattle.std.specs.Option.{option_map}
use Rattle.std.proofs.lemmas.List.{take_all, take_more}
use Rattle.std.proofs.lemmas.List.Elements.{Contains-append_right, Contains-push_cases, Contains-push, Contains-append_left}
use Rattle.form_formula.specs.declared.node.Node.{Node}
use Rattle.form_formula.specs.declared.structure.FunSig.{FunSig}
use Rattle.form_formula.specs.declared.structure.Range.{Range}
use Rattle.form_formula.specs.declared.structure.Signature.{Signature}
use Rattle.form_terms.specs.GroundTerms.{GroundTerm, field, record_sort, sort_of}
use Rattle.ground_terms.specs.declared.node.TermNode.{TermNode}
use Rattle.ground_terms.specs.Nodes.{IsOne, term_of}
use Rattle.form_tables.specs.Vocabulary.{Vocabulary, IsValuedIn}
use Rattle.form_tables.specs.Consistent.{range_of}
use Rattle.ground_instances.specs.declared.input.Value.TheVariants.{Term}
use Rattle.ground_instances.specs.declared.input.Input.{Input}
use Rattle.ground_problem.specs.Inputs.{AreFieldsOf, IsFieldOf, IsOfRange, IsPlainRange}

-- what holds of all elements so far, and of one more
pub each_next : {A : Type 0} (P : A → Type 0) (xs : List A) (k : ℕ) (d : A) → k < length xs → ((x : A) → Contains (take k xs) x → P x) → P (get_or xs k d) → (x : A) → Contains (take (k + 1) xs) x → P x
each_next {A} P xs k d within h one x c =
    let Q : List A → Type 0 = λ ys. Contains ys x in
    elim (Contains-push_cases (take k xs) (get_or xs k d) x (subst Q (take_more xs k d within) c)) [ inl before ↦ h x before | inr e ↦ subst P e one ]

pub each_all : {A : Type 0} (P : A → Type 0) (xs : List A) (k : ℕ) → length xs ≤ k → ((x : A) → Contains (take k xs) x → P x) → (x : A) → Contains xs x → P x
each_all {A} P xs k past h x c = let Q : List A → Type 0 = λ ys. Contains ys x in h x (subst Q (sym (take_all k xs past)) c)

-- a mark that was set
pub set_cases : (xs : List Bool) (i id : ℕ) → slice_get (set xs i true) id ≡ Some true → (id ≡ i) ⊎ (slice_get xs id ≡ Some true)
set_cases [] i id e = inr e
set_cases (x ∷ xs) zero zero e = inl refl
set_cases (x ∷ xs) zero (suc id) e = inr e
set_cases (x ∷ xs) (suc i) zero e = inr e
set_cases (x ∷ xs) (suc i) (suc id) e = elim (set_cases xs i id e) [ inl same ↦ inl (ap suc same) | inr before ↦ inr before ]

pub set_kept : (xs : List Bool) (i id : ℕ) → slice_get xs id ≡ Some true → slice_get (set xs i true) id ≡ Some true
set_kept [] i id e = e
set_kept (x ∷ xs) zero zero e = refl
set_kept (x ∷ xs) zero (suc id) e = e
set_kept (x ∷ xs) (suc i) zero e = e
set_kept (x ∷ xs) (suc i) (suc id) e = set_kept xs i id e

pub set_here : (xs : List Bool) (i : ℕ) → i < length xs → slice_get (set xs i true) i ≡ Some true
set_here [] i lt = absurd (omega arith)
set_here (x ∷ xs) zero lt = refl
set_here (x ∷ xs) (suc i) lt = set_here xs i (omega arith)

-- the listed numbers so far that are below a count are marked, and so is one more
pub marked_next : (listed : List ℕ) (k count : ℕ) (marks after : List Bool) → k < length listed → length marks ≡ count
    → ((id : ℕ) → Contains (take k listed) id → id < count → slice_get marks id ≡ Some true)
    → ((id : ℕ) → slice_get marks id ≡ Some true → slice_get after id ≡ Some true) → (get_or listed k 0 < length marks → slice_get after (get_or listed k 0) ≡ Some true)
    → (id : ℕ) → Contains (take (k + 1) listed) id → id < count → slice_get after id ≡ Some true
marked_next listed k count marks after within size h kept here =
    let P : ℕ → Type 0 = λ id. id < count → slice_get after id ≡ Some true in
    each_next P listed k 0 within (λ id c lt. kept id (h id c lt)) (λ lt. here (omega arith))

-- the marks after one more
pub marks_on : (listed : List ℕ) (k : ℕ) → k < length listed → (marks after : List Bool) → ((id : ℕ) → slice_get marks id ≡ Some true → Contains (take k listed) id)
    → ((id : ℕ) → slice_get after id ≡ Some true → (id ≡ get_or listed k 0) ⊎ (slice_get marks id ≡ Some true)) → (id : ℕ) → slice_get after id ≡ Some true → Contains (take (k + 1) listed) id
marks_on listed k within marks after h set id at =
    let Q : List ℕ → Type 0 = λ ys. Contains ys id in
    let more = take_more listed k 0 within in
    elim (set id at) [
      | inl same ↦
          let P : ℕ → Type 0 = λ n. Contains (take k listed ++ get_or listed k 0 ∷ []) n in
          subst Q (sym more) (subst P (sym same) (Contains-push (take k listed) (get_or listed k 0)))
      | inr before ↦ subst Q (sym more) (Contains-append_left (take k listed) (get_or listed k 0 ∷ []) id (h id before))
    ]

pub some_as : {A : Type 0} (P Q : A → Type 0) → ((x : A) → P x → Q x) → (o : Option A) → IfSome o P → IfSome o Q
some_as P Q h None p = tt
some_as P Q h (Some x) p = h x p

-- a function that gives no element, at a term
pub plain_term : (g : Signature) (v : Vocabulary) (nodes : List Node) (terms : List TermNode) (id h : ℕ) (u : GroundTerm) → IsOne terms id → term_of terms id ≡ field h u → Contains v.others (term_of terms id) → (r : Range)
    → IsPlainRange g h r → IsOfRange g v nodes terms (Term id) r
plain_term g v nodes terms id h u one e other r (sig, function, to, plain) =
    let R : GroundTerm → Type 0 = λ t. range_of g t ≡ Some r in
    let S : GroundTerm → Type 0 = λ t. sort_of g t ≡ None in
    let is : range_of g (field h u) ≡ Some r = ap (option_map (λ (s : FunSig). s.to)) function ∙ ap (λ r. Some r) to in
    let none : sort_of g (field h u) ≡ None = ap (option_and_then (λ (s : FunSig). record_sort s.to)) function ∙ (ap record_sort to ∙ plain) in
    let V : Option ℕ → Type 0 = λ o. IsValuedIn g v o (term_of terms id) in
    (one, subst R (sym e) is, subst V (sym (subst S (sym e) none)) (Contains-append_right v.named v.others (term_of terms id) other))

-- the number of an input's function
pub field_in : (terms : List TermNode) (is : List Input) (ks : List ℕ) (k id : ℕ) (d : Input) → AreFieldsOf terms is ks → k < length is → slice_get ks k ≡ Some id → IsFieldOf terms (get_or is k d) id
field_in terms [] ks k id d h lt e = absurd (omega arith)
field_in terms (i ∷ is) [] k id d h lt e = absurd h
field_in terms (i ∷ is) (n ∷ ks) zero id d h lt e = let same : n ≡ id = cc in let P : ℕ → Type 0 = λ n. IsFieldOf terms i n in subst P same h.0
field_in terms (i ∷ is) (n ∷ ks) (suc k) id d h lt e = field_in terms is ks k id d h.1 (omega arith) e

-- the functions of inputs are as many
pub fields_length : (terms : List TermNode) (is : List Input) (ks : List ℕ) → AreFieldsOf terms is ks → length ks ≡ length is
fields_length terms [] [] h = refl
fields_length terms [] (k ∷ ks) h = absurd h
fields_length terms (i ∷ is) [] h = absurd h
fields_length terms (i ∷ is) (k ∷ ks) h = ap suc (fields_length terms is ks h.1)
