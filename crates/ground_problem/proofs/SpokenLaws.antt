-- The words of which inputs speak are a vocabulary.
use Rattle.std.proofs.Common.{◌≡◌, ℕ, zero, suc, ◌∙◌, sym, refl, ap, subst, Bool, List, [], ◌∷◌, map, Some, Contains, inl, inr, Vec, Global}
use Rattle.std.specs.Prelude.{slice_get}
use Rattle.std.specs.List.{flat_map}
use Rattle.form_formula.specs.declared.node.Node.{Node}
use Rattle.form_formula.specs.declared.structure.SetSig.{SetSig}
use Rattle.form_formula.specs.declared.structure.Signature.{Signature}
use Rattle.form_formula.specs.Over.{IsOver}
use Rattle.form_formula.specs.Trees.{Formula}
use Rattle.form_terms.specs.GroundTerms.{GroundTerm, GroundTerms, constant, skolem, field, no_terms, term_and, sort_of}
use Rattle.form_terms.specs.Universe.{HasEach, variables_of}
use Rattle.form_terms.proofs.Lists.{Contains-head, Contains-tail, Contains-cons_cases, Contains-none, Contains-flat_map, flat_map-Contains}
use Rattle.form_terms.proofs.Listed.{to_map, in_map}
use Rattle.ground_terms.specs.declared.node.TermNode.{TermNode}
use Rattle.ground_terms.specs.Nodes.{Extends, IsOne, term_of}
use Rattle.ground_terms.specs.declared.part.Variable.{Variable}
use Rattle.ground_terms.specs.Standing.{AreOnes, terms_at}
use Rattle.ground_terms.specs.Variables.{variable_at}
use Rattle.ground_terms.proofs.Placement.{kind_within}
use Rattle.ground_terms.proofs.Standing.{term_kept, terms_at_kept}
use Rattle.form_tables.specs.Vocabulary.{AreFormed, IsFormed, IsOther, Pair, Vocabulary, only}
use Rattle.ground_instances.specs.declared.input.Value.{Value}
use Rattle.ground_instances.specs.declared.input.Value.TheVariants.{Term, Literal}
use Rattle.ground_instances.specs.declared.input.Input.{Input}
use Rattle.ground_instances.specs.declared.input.Input.TheVariants.{There, Equal, Less, Has, Flag, Present}
use Rattle.ground_instances.specs.declared.instantiation.Instances.{Instances}
use Rattle.ground_instances.specs.GroundAtoms.{GroundAtom, named}
use Rattle.ground_instances.specs.Inputs.{AreInputs, AreInputsOf, IsInput, IsValue, input_value, value_at}
use Rattle.ground_instances.specs.Made.{AreInstancesOf}
use Rattle.ground_problem.specs.declared.spoken.Spoken.{Spoken}
use Rattle.ground_problem.specs.declared.words.PairNode.{PairNode}
use Rattle.ground_problem.specs.declared.words.Words.{Words}
use Rattle.ground_problem.specs.Inputs.{AreFieldsOf, IsOfSort, IsTermValue, IsToldInput, RelateTerms, RelatesTerms, pairs_in}
use Rattle.ground_instances.proofs.BoardLaws.{all_later}
use Rattle.ground_problem.specs.Spoken.{IsSpoken}
use Rattle.ground_problem.specs.Words.{ArePairs, IsWords, pair_at, vocabulary_at}
use Rattle.ground_problem.specs.WordsFound.{AreSpokenBy, AreWordsFor, IsTellingFor}
use Rattle.ground_problem.specs.declared.telling.Standing.TheVariants.{Named}
use Rattle.ground_problem.specs.declared.telling.Telling.{Telling}
use Rattle.ground_problem.specs.Telling.{AreAllMarked, AreSorted, IsFine, IsListedElement, IsTelling, told_so_far}
use Rattle.ground_problem.proofs.Decided.{decided}

-- inputs of numbers of terms stand for the same when there are more terms
module _ (nodes : List Node) (old new : List TermNode) (kept : Extends old new) where
  value_stays : (v : Value) → IsValue old v → value_at nodes new v ≡ value_at nodes old v
  value_stays (Term id) one = ap (λ t. named t) (term_kept old new id kept one)
  value_stays (Literal id) one = refl

  input_stays : (is_there : GroundTerm → Bool) (holds : GroundAtom → Bool) (i : Input) → IsInput old i → input_value nodes new is_there holds i ≡ input_value nodes old is_there holds i
  input_stays is_there holds (There id) one = ap is_there (term_kept old new id kept one)
  input_stays is_there holds (Equal v w) one = let a = value_stays v one.0 in let b = value_stays w one.1 in cc
  input_stays is_there holds (Less v w) one = let a = value_stays v one.0 in let b = value_stays w one.1 in cc
  input_stays is_there holds (Has r v w) one = let a = value_stays v one.0 in let b = value_stays w one.1 in cc
  input_stays is_there holds (Flag h v) one = let a = value_stays v one in cc
  input_stays is_there holds (Present h v) one = let a = value_stays v one in cc

  input_in : (is : List Input) (k : ℕ) (i : Input) → AreInputs old is → slice_get is k ≡ Some i → IsInput old i
  input_in [] k i ones e = cc
  input_in (j ∷ is) zero i ones e = let same : j ≡ i = cc in let P : Input → Type 0 = λ i. IsInput old i in subst P same ones.0
  input_in (j ∷ is) (suc k) i ones e = input_in is k i ones.1 e

  inputs_stay : (is_there : GroundTerm → Bool) (holds : GroundAtom → Bool) (is : List Input) (v : ℕ → Bool) → AreInputs old is → AreInputsOf nodes new is_there holds is v → AreInputsOf nodes old is_there holds is v
  inputs_stay is_there holds is v ones are = λ k i e. are k i e ∙ input_stays is_there holds i (input_in is k i ones e)

-- the instances are still those of the formula
pub instances_stay : (g : Signature) (nodes : List Node) (f : Formula) (ts : List GroundTerm) (old new : Instances) → Extends old.terms new.terms → AreInputs old.terms old.inputs
    → new.listed ≡ old.listed → new.inputs ≡ old.inputs → new.gates ≡ old.gates → new.root ≡ old.root → AreInstancesOf g nodes f ts old → AreInstancesOf g nodes f ts new
instances_stay g nodes f ts old new kept ones listed inputs gates root h =
    let moved : Instances = record old { terms = new.terms } in
    let all : AreInstancesOf g nodes f ts moved = record {
      there = h.there;
      below = h.below;
      stand = all_later old.terms new.terms old.inputs kept ones;
      listed = terms_at_kept old.terms new.terms old.listed.items ts kept h.listed;
      reads = λ is_there holds v are. h.reads is_there holds v (inputs_stay nodes old.terms new.terms kept is_there holds old.inputs v ones are);
    } in
    let same : moved ≡ new =
    ap (λ x. record { terms = new.terms; listed = x; inputs = old.inputs; gates = old.gates; root = old.root }) (sym listed)
    ∙ (ap (λ x. record { terms = new.terms; listed = new.listed; inputs = x; gates = old.gates; root = old.root }) (sym inputs)
    ∙ (ap (λ x. record { terms = new.terms; listed = new.listed; inputs = new.inputs; gates = x; root = old.root }) (sym gates)
    ∙ ap (λ x. record { terms = new.terms; listed = new.listed; inputs = new.inputs; gates = new.gates; root = x }) (sym root))) in
    let P : Instances → Type 0 = λ made. AreInstancesOf g nodes f ts made in
    subst P same all

-- what is formed of the named terms is so in each vocabulary that names them
module _ (g : Signature) (named : List GroundTerm) (v : Vocabulary) (kept : (t : GroundTerm) → Contains named t → Contains v.named t) where
  each_in : (ts : GroundTerms) → HasEach (Contains named) ts → HasEach (Contains v.named) ts
  each_in no_terms h = tt
  each_in (term_and t ts) h = (kept t h.0, each_in ts h.1)

  formed_in : (f : Formula) (t : GroundTerm) → IsFormed g f (only named) t → IsFormed g f v t
  formed_in f (constant sort) h = h
  formed_in f (skolem number sort ts) (above, variable, sorts, each) = (above, variable, sorts, each_in ts each)
  formed_in f (field h t) (sig, function, source, there) = (sig, function, source, kept t there)

  other_in : (t : GroundTerm) → IsOther g (only named) t → IsOther g v t
  other_in (constant sort) h = h
  other_in (skolem number sort ts) h = h
  other_in (field h t) (sig, function, source, there) = (sig, function, source, kept t there)

are_pairs : (terms : List TermNode) (ps : List PairNode) → ((p : PairNode) → Contains ps p → IsOne terms p.holder × IsOne terms p.member) → ArePairs terms ps
are_pairs terms [] h = tt
are_pairs terms (p ∷ ps) h = (h p (Contains-head p ps), are_pairs terms ps (λ q c. h q (Contains-tail p ps q c)))

module _ (g : Signature) (v : Vocabulary) (nodes : List Node) (terms : List TermNode) where
  abbrev IsRelated : PairNode → Type 0
  IsRelated p = (IsOne terms p.holder × IsOne terms p.member) × ((sig : SetSig) × (slice_get g.sets p.relation ≡ Some sig) × (sort_of g (term_of terms p.holder) ≡ Some sig.from)
      × Contains v.named (term_of terms p.holder) × (sort_of g (term_of terms p.member) ≡ Some sig.to) × Contains v.named (term_of terms p.member))

  -- the pairs of inputs that speak of the vocabulary
  pair_related : (i : Input) (p : PairNode) → IsToldInput g v nodes terms i → Contains (pairs_in i) p → IsRelated p
  pair_related (There id) p h c = Contains-none p c
  pair_related (Equal a b) p h c = Contains-none p c
  pair_related (Less a b) p h c = Contains-none p c
  pair_related (Has r (Term a) (Term b)) p (sig, relation, x, y) c =
      elim (Contains-cons_cases (record { relation = r; holder = a; member = b }) [] p c) [
        | inl e ↦ let P : PairNode → Type 0 = λ p. IsRelated p in subst P e ((x.0, y.0), (sig, relation, x.1, x.2, y.1, y.2))
        | inr none ↦ Contains-none p none
      ]
  pair_related (Has r (Term a) (Literal b)) p h c = Contains-none p c
  pair_related (Has r (Literal a) b) p h c = Contains-none p c
  pair_related (Flag h a) p t c = Contains-none p c
  pair_related (Present h a) p t c = Contains-none p c

  -- what they relate are terms
  of_sort : (a : Value) (sort : ℕ) → IsOfSort g v nodes terms a sort → IsTermValue a
  of_sort (Term id) sort h = tt
  of_sort (Literal id) sort h = absurd h

  relates : (i : Input) → IsToldInput g v nodes terms i → RelatesTerms i
  relates (There id) h = tt
  relates (Equal a b) h = tt
  relates (Less a b) h = tt
  relates (Has r a b) (sig, relation, x, y) = (of_sort a sig.from x, of_sort b sig.to y)
  relates (Flag h a) (sig, function, x, to, told) = of_sort a sig.from x
  relates (Present h a) (sig, function, x, there) = of_sort a sig.from x

-- what stands whichever formula the instances are of
module _ (g : Signature) (nodes : List Node) (variables : List Variable) (closed : Bool) (old : Instances) (s : Spoken) (found : AreSpokenBy g nodes variables closed old s.made s.words s.fields.items) where
  related_at : (p : PairNode) → Contains s.words.pairs.items p → IsRelated g (vocabulary_at s.made.terms s.words) nodes s.made.terms p
  related_at p c =
      let Q : List PairNode → Type 0 = λ ps. Contains ps p in
      let (i, listed, own') = Contains-flat_map pairs_in old.inputs p (subst Q found.words.pairs c) in
      pair_related g (vocabulary_at s.made.terms s.words) nodes s.made.terms i p (found.words.told i listed) own'

  pub words_stand : IsWords s.made.terms s.words
  words_stand = record { named = found.words.ones; others = found.words.other_ones; pairs = are_pairs s.made.terms s.words.pairs.items (λ p c. (related_at p c).0) }

  pub terms_related : RelateTerms s.made.inputs
  terms_related i c = let P : List Input → Type 0 = λ is. Contains is i in relates g (vocabulary_at s.made.terms s.words) nodes s.made.terms i (found.words.told i (subst P found.inputs c))

  pub fields_stand : AreFieldsOf s.made.terms s.made.inputs s.fields.items
  fields_stand = let P : List Input → Type 0 = λ is. AreFieldsOf s.made.terms is s.fields.items in subst P (sym found.inputs) found.added.stand

module _ (g : Signature) (nodes : List Node) (f : Formula) (ts : List GroundTerm) (variables : List Variable) (closed : Bool) (old : Instances) (s : Spoken)
    (found : AreSpokenBy g nodes variables closed old s.made s.words s.fields.items) (over : IsOver g [] f) (terms_formed : AreFormed g f ts)
    (own : map variable_at variables ≡ variables_of g f) (before : AreInstancesOf g nodes f ts old) where
  abbrev terms : List TermNode
  terms = s.made.terms

  abbrev v : Vocabulary
  v = vocabulary_at terms s.words

  instances : AreInstancesOf g nodes f ts s.made
  instances = instances_stay g nodes f ts old s.made found.added.kept found.ones found.listed found.inputs found.gates found.root before

  listed_are : terms_at terms old.listed.items ≡ ts
  listed_are = ap (λ (l : Vec ℕ Global). terms_at terms l.items) (sym found.listed) ∙ instances.listed.are

  to_listed : (t : GroundTerm) → Contains ts t → Contains (terms_at terms old.listed.items) t
  to_listed t c = let P : List GroundTerm → Type 0 = λ us. Contains us t in subst P (sym listed_are) c

  from_listed : (t : GroundTerm) → Contains (terms_at terms old.listed.items) t → Contains ts t
  from_listed t c = let P : List GroundTerm → Type 0 = λ us. Contains us t in subst P listed_are c

  are_sorted : AreSorted g terms old.listed.items
  are_sorted = record {
    ones = subst (λ (l : Vec ℕ Global). AreOnes terms l.items) found.listed instances.listed.ones;
    sorted = λ u c. terms_formed.sorted u (from_listed u c);
  }

  ranged : (t : GroundTerm) → Contains ts t → Contains v.named t
  ranged t c = found.words.ranged are_sorted t (to_listed t c)

  sorted : (t : GroundTerm) → Contains v.named t → (sort : ℕ) × (sort_of g t ≡ Some sort)
  sorted t c = (found.words.fine t c).kind

  functions : (t : GroundTerm) → Contains v.others t → IsOther g v t
  functions t c = other_in g v.named v (λ u d. d) t (found.words.functions t c)

  formed : (t : GroundTerm) → Contains v.named t → IsFormed g f v t
  formed t c =
      elim ((found.words.fine t c).formed f own) [
        | inl there ↦ formed_in g ts v ranged f t (terms_formed.formed t (from_listed t there))
        | inr here ↦ formed_in g v.named v (λ u d. d) f t here
      ]

  told_old : (i : Input) → Contains old.inputs i → IsToldInput g v nodes terms i
  told_old i c = found.words.told i c

  told_new : (i : Input) → Contains s.made.inputs i → IsToldInput g v nodes terms i
  told_new i c = let P : List Input → Type 0 = λ is. Contains is i in told_old i (subst P found.inputs c)

  to_pairs : (i : Input) (p : PairNode) → Contains s.made.inputs i → Contains (pairs_in i) p → Contains v.pairs (pair_at terms p)
  to_pairs i p c d =
      let P : List Input → Type 0 = λ is. Contains is i in
      let Q : List PairNode → Type 0 = λ ps. Contains ps p in
      to_map (pair_at terms) s.words.pairs.items p (subst Q (sym found.words.pairs) (flat_map-Contains pairs_in old.inputs i p (subst P found.inputs c) d))

  pub spoken : IsSpoken g nodes f ts closed s
  spoken = record {
    instances = instances;
    words = words_stand g nodes variables closed old s found;
    vocabulary = record {
      ranged = ranged;
      decides = decided g nodes f ts s.made v over instances sorted functions told_new to_pairs;
      sorted = sorted;
      formed = formed;
      functions = functions;
      related = λ p c.
          let (q, listed, e) = in_map (pair_at terms) s.words.pairs.items p c in
          let P : Pair → Type 0 = λ p. (sig : SetSig) × (slice_get g.sets p.relation ≡ Some sig) × (sort_of g p.holder ≡ Some sig.from) × Contains v.named p.holder × (sort_of g p.member ≡ Some sig.to) × Contains v.named p.member in
          subst P e (related_at g nodes variables closed old s found q listed).1;
    };
    within = λ e t c. from_listed t ((found.words.fine t c).within e);
    told = told_new;
    fields = fields_stand g nodes variables closed old s found;
  }

module _ (g : Signature) (arena : List Node) (variables : List Variable) (closed : Bool) (nodes : List TermNode) (listed : List ℕ) (inputs : List Input) where
  one_of : (ids : List ℕ) → AreOnes nodes ids → (id : ℕ) → Contains ids id → IsOne nodes id
  one_of [] ones id c = Contains-none id c
  one_of (n ∷ ids) ones id c =
      elim (Contains-cons_cases n ids id c) [
        | inl here ↦ let P : ℕ → Type 0 = λ k. IsOne nodes k in subst P here ones.0
        | inr rest ↦ one_of ids ones.1 id rest
      ]

  pub telling_for : (t : Telling) (marks : List Bool) → AreAllMarked nodes listed marks → IsTelling g variables (terms_at nodes listed) closed nodes t
      → ((id : ℕ) → IsListedElement g nodes marks id → slice_get t.standings.items id ≡ Some Named)
      → ((i : Input) → Contains inputs i → IsToldInput g (told_so_far nodes t) arena nodes i) → IsTellingFor g arena variables closed nodes listed inputs t
  telling_for t marks all h marked told = record {
    telling = h;
    ranged = λ sorted u c.
        let (id, there, e) = in_map (term_of nodes) listed u c in
        let P : GroundTerm → Type 0 = λ u. Contains (terms_at nodes t.named.items) u in
        let one = one_of listed sorted.ones id there in
        let kind = sorted.sorted (term_of nodes id) (to_map (term_of nodes) listed id there) in
        let element : IsListedElement g nodes marks id = record { one = one; marked = all id there (kind_within nodes id _ one); sort = kind.0; sorted = kind.1 } in
        subst P e (h.marked id (marked id element)).1;
    told = told;
  }

  pub words_for : (t : Telling) (w : Words) → w.named.items ≡ t.named.items → w.others.items ≡ t.others.items → w.pairs.items ≡ flat_map pairs_in inputs → IsTellingFor g arena variables closed nodes listed inputs t
      → AreWordsFor g arena variables closed nodes listed inputs w
  words_for t w n o p h =
      let O : List ℕ → Type 0 = λ ids. AreOnes nodes ids in
      let F : List ℕ → Type 0 = λ ids. (u : GroundTerm) → Contains (terms_at nodes ids) u → IsFine g variables (terms_at nodes listed) closed (terms_at nodes ids) u in
      let G : List ℕ → Type 0 = λ ids. (u : GroundTerm) → Contains (terms_at nodes t.others.items) u → IsOther g (only (terms_at nodes ids)) u in
      let G' : List ℕ → Type 0 = λ ids. (u : GroundTerm) → Contains (terms_at nodes ids) u → IsOther g (only (terms_at nodes w.named.items)) u in
      let R : List ℕ → Type 0 = λ ids. AreSorted g nodes listed → (u : GroundTerm) → Contains (terms_at nodes listed) u → Contains (terms_at nodes ids) u in
      let T : List ℕ → Type 0 = λ ids. (i : Input) → Contains inputs i → IsToldInput g (record { named = terms_at nodes ids; others = terms_at nodes t.others.items; pairs = map (pair_at nodes) w.pairs.items }) arena nodes i in
      let T' : List ℕ → Type 0 = λ ids. (i : Input) → Contains inputs i → IsToldInput g (record { named = terms_at nodes w.named.items; others = terms_at nodes ids; pairs = map (pair_at nodes) w.pairs.items }) arena nodes i in
      record {
        ones = subst O (sym n) h.telling.ones;
        other_ones = subst O (sym o) h.telling.other_ones;
        fine = subst F (sym n) h.telling.fine;
        functions = subst G' (sym o) (subst G (sym n) h.telling.functions);
        ranged = subst R (sym n) h.ranged;
        told = subst T' (sym o) (subst T (sym n) h.told);
        pairs = p;
      }
