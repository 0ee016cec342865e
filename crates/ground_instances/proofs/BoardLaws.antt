-- Boards that grow, and what gates mean on them.
use Rattle.std.proofs.Common.{◌≡◌, ℕ, zero, suc, ◌<◌, ◌≤◌, ◌⊎◌, Bool, true, false, not, ◌&&◌, ◌||◌, cond, refl, sym, ◌∙◌, List, [], ◌∷◌, ◌++◌, Some, length, ap, subst, arith, append_assoc, append-nil, length-append, inl, inr, Contains}
use Rattle.std.specs.Prelude.{slice_get}
use Rattle.std.proofs.lemmas.Option.{slice_get_within, get_or_from_slice_get}
use Rattle.form_formula.specs.declared.node.Node.{Node}
use Rattle.form_formula.proofs.Placement.{slice_get_front}
use Rattle.ground_gates.specs.declared.gate.Gate.{Gate}
use Rattle.ground_gates.specs.declared.gate.Gate.TheVariants.{Yes, No, Input, Both, Either}
use Rattle.ground_gates.specs.Added.{IsAdded}
use Rattle.ground_gates.specs.Clauses.{HasInputBelow, HaveInputsBelow}
use Rattle.ground_gates.specs.Gates.{gate_value, value_of, values_of}
use Rattle.ground_gates.proofs.Values.{value_of-front}
use Rattle.form_terms.specs.GroundTerms.{GroundTerm}
use Rattle.form_terms.proofs.Lists.{Contains-head, Contains-none, Contains-tail}
use Rattle.ground_terms.specs.declared.node.TermNode.{TermNode}
use Rattle.ground_terms.specs.Nodes.{Extends}
use Rattle.ground_terms.proofs.Standing.{extends_none, extends_both, one_kept, term_kept}
use Rattle.ground_instances.specs.declared.input.Value.{Value}
use Rattle.ground_instances.specs.declared.input.Value.TheVariants.{Term, Literal as Written}
use Rattle.ground_instances.specs.declared.input.Input.{Input as AnInput}
use Rattle.ground_instances.specs.declared.input.Input.TheVariants as input
use Rattle.ground_instances.specs.declared.board.Board.{Board}
use Rattle.ground_instances.specs.Boards.{Grows, Means}
use Rattle.ground_instances.specs.GroundAtoms.{GroundAtom, named, flagged, present_at}
use Rattle.ground_instances.specs.Inputs.{IsNumbered, IsValue, IsInput, AreInputs, value_at, input_value, AreInputsOf}

-- the numbers in values and inputs stay those of terms
pub fits_kept : (xs ys : List TermNode) (v : Value) → Extends xs ys → IsValue xs v → IsValue ys v
fits_kept xs ys (Term t) e h = one_kept xs ys t e h
fits_kept xs ys (Written t) e h = tt

fits_later : (xs ys : List TermNode) (i : AnInput) → Extends xs ys → IsInput xs i → IsInput ys i
fits_later xs ys (input.There t) e h = one_kept xs ys t e h
fits_later xs ys (input.Equal v w) e h = (fits_kept xs ys v e h.0, fits_kept xs ys w e h.1)
fits_later xs ys (input.Less v w) e h = (fits_kept xs ys v e h.0, fits_kept xs ys w e h.1)
fits_later xs ys (input.Has r v w) e h = (fits_kept xs ys v e h.0, fits_kept xs ys w e h.1)
fits_later xs ys (input.Flag k v) e h = fits_kept xs ys v e h
fits_later xs ys (input.Present k v) e h = fits_kept xs ys v e h

pub all_later : (xs ys : List TermNode) (is : List AnInput) → Extends xs ys → AreInputs xs is → AreInputs ys is
all_later xs ys [] e h = tt
all_later xs ys (i ∷ is) e h = (fits_later xs ys i e h.0, all_later xs ys is e h.1)

all_fit : (xs : List TermNode) (is : List AnInput) → ((i : AnInput) → Contains is i → IsInput xs i) → AreInputs xs is
all_fit xs [] h = tt
all_fit xs (i ∷ is) h = (h i (Contains-head i is), all_fit xs is (λ j c. h j (Contains-tail i is j c)))

all_more : (xs : List TermNode) (is js : List AnInput) → AreInputs xs is → ((i : AnInput) → Contains js i → IsInput xs i) → AreInputs xs (is ++ js)
all_more xs [] js h more = all_fit xs js more
all_more xs (i ∷ is) js h more = (h.0, all_more xs is js h.1 more)

pub grows_none : (a : Board) → Grows a a
grows_none a = record {
  terms = extends_none a.terms;
  more_inputs = [];
  inputs = sym (append-nil a.inputs);
  more_gates = [];
  gates = sym (append-nil a.gates);
  below = λ h. h;
  stand = λ h. h;
}

pub grows_both : (a b d : Board) → Grows a b → Grows b d → Grows a d
grows_both a b d p q = record {
  terms = extends_both a.terms b.terms d.terms p.terms q.terms;
  more_inputs = p.more_inputs ++ q.more_inputs;
  inputs = q.inputs ∙ (ap (λ xs. xs ++ q.more_inputs) p.inputs ∙ append_assoc a.inputs p.more_inputs q.more_inputs);
  more_gates = p.more_gates ++ q.more_gates;
  gates = q.gates ∙ (ap (λ xs. xs ++ q.more_gates) p.gates ∙ append_assoc a.gates p.more_gates q.more_gates);
  below = λ h. q.below (p.below h);
  stand = λ h. q.stand (p.stand h);
}

-- more terms alone
pub grows_terms : (a b : Board) → Extends a.terms b.terms → b.inputs ≡ a.inputs → b.gates ≡ a.gates → Grows a b
grows_terms a b e i h =
    let P : List AnInput → Type 0 = λ xs. HaveInputsBelow (length xs) b.gates in
    let Q : List Gate → Type 0 = λ xs. HaveInputsBelow (length a.inputs) xs in
    let S : List AnInput → Type 0 = λ xs. AreInputs b.terms xs in
    record {
      terms = e;
      more_inputs = [];
      inputs = i ∙ sym (append-nil a.inputs);
      more_gates = [];
      gates = h ∙ sym (append-nil a.gates);
      below = λ x. subst P (sym i) (subst Q (sym h) x);
      stand = λ x. subst S (sym i) (all_later a.terms b.terms a.inputs e x);
    }

-- a gate means what it meant
pub means_later : (nodes : List Node) (a b : Board) (test : (GroundTerm → Bool) → (GroundAtom → Bool) → Bool) (gate : ℕ) → Grows a b → Means nodes a test gate → Means nodes b test gate
means_later nodes a b test gate grows m = record {
  within = omega (arith, m.within, ap length grows.gates, length-append a.gates grows.more_gates);
  is = λ later is_there holds v more are. m.is later is_there holds v (grows_both a b later grows more) are;
}

-- and what is the same test
pub means_same : (nodes : List Node) (a : Board) (test test' : (GroundTerm → Bool) → (GroundAtom → Bool) → Bool) (gate : ℕ) → ((i : GroundTerm → Bool) (h : GroundAtom → Bool) → test i h ≡ test' i h)
    → Means nodes a test gate → Means nodes a test' gate
means_same nodes a test test' gate e m = record {
  within = m.within;
  is = λ later is_there holds v more are. m.is later is_there holds v more are ∙ e is_there holds;
}

-- the value of a gate later
value_later : (a later : Board) (v : ℕ → Bool) (gate : ℕ) → Grows a later → gate < length a.gates → value_of v later.gates gate ≡ value_of v a.gates gate
value_later a later v gate grows within = ap (λ gs. value_of v gs gate) grows.gates ∙ value_of-front v a.gates grows.more_gates gate within

append_cases : {A : Type 0} (xs ys : List A) (k : ℕ) (x : A) → slice_get (xs ++ ys) k ≡ Some x → (slice_get xs k ≡ Some x) ⊎ Contains ys x
append_cases [] ys k x e = inr (k, omega (arith, slice_get_within ys k x e), get_or_from_slice_get ys k x x e)
append_cases (y ∷ xs) ys zero x e = inl e
append_cases (y ∷ xs) ys (suc k) x e = append_cases xs ys k x e

below_later : (n m : ℕ) (gate : Gate) → n ≤ m → HasInputBelow n gate → HasInputBelow m gate
below_later n m Yes le h = tt
below_later n m No le h = tt
below_later n m (Input l) le h = omega arith
below_later n m (Both a b) le h = tt
below_later n m (Either a b) le h = tt

below_added : (n m : ℕ) (old : List Gate) (gate : Gate) (new : List Gate) (id : ℕ) → n ≤ m → IsAdded old gate new id → HasInputBelow m gate → HaveInputsBelow n old → HaveInputsBelow m new
below_added n m old gate new id le added here all k other e =
    let P : List Gate → Type 0 = λ gs. slice_get gs k ≡ Some other in
    elim (append_cases old added.more k other (subst P added.whole e)) [
      | inl there ↦ below_later n m other le (all k other there)
      | inr more ↦ let Q : Gate → Type 0 = λ g. HasInputBelow m g in subst Q (sym (added.only other more)) here
    ]

-- one more gate, and maybe one more input
pub gate_added : (a b : Board) (more : List AnInput) (gate : Gate) (id : ℕ) → b.terms ≡ a.terms → b.inputs ≡ a.inputs ++ more → ((j : AnInput) → Contains more j → IsInput a.terms j) → IsAdded a.gates gate b.gates id
    → HasInputBelow (length b.inputs) gate → Grows a b
gate_added a b more gate id e i fit added here =
    let le : length a.inputs ≤ length b.inputs = omega (arith, ap length i, length-append a.inputs more) in
    let P : List TermNode → Type 0 = λ ts. Extends a.terms ts in
    let S : List TermNode → Type 0 = λ ts. AreInputs ts b.inputs in
    let T : List AnInput → Type 0 = λ xs. AreInputs a.terms xs in
    record {
      terms = subst P (sym e) (extends_none a.terms);
      more_inputs = more;
      inputs = i;
      more_gates = added.more;
      gates = added.whole;
      below = λ all. below_added (length a.inputs) (length b.inputs) a.gates gate b.gates id le added here all;
      stand = λ x. subst S (sym e) (subst T (sym i) (all_more a.terms a.inputs more x fit));
    }

pub gate_grows : (a b : Board) (gate : Gate) (id : ℕ) → b.terms ≡ a.terms → b.inputs ≡ a.inputs → IsAdded a.gates gate b.gates id → HasInputBelow (length b.inputs) gate → Grows a b
gate_grows a b gate id e i added here = gate_added a b [] gate id e (i ∙ sym (append-nil a.inputs)) (λ j c. Contains-none j c) added here

-- what the added gate is worth later
module _ (nodes : List Node) (a b : Board) (id : ℕ) where
  added_within : (gate : Gate) → IsAdded a.gates gate b.gates id → id < length b.gates
  added_within gate added = omega (arith, slice_get_within b.gates id gate added.there)

  added_value : (gate : Gate) → IsAdded a.gates gate b.gates id → (later : Board) (v : ℕ → Bool) → Grows b later → value_of v later.gates id ≡ gate_value v (values_of v a.gates) gate
  added_value gate added later v more = value_later b later v id more (added_within gate added) ∙ added.means v

  pub means_yes : IsAdded a.gates Yes b.gates id → Means nodes b (λ is_there holds. true) id
  means_yes added = record { within = added_within Yes added; is = λ later is_there holds v more are. added_value Yes added later v more }

  pub means_no : IsAdded a.gates No b.gates id → Means nodes b (λ is_there holds. false) id
  means_no added = record { within = added_within No added; is = λ later is_there holds v more are. added_value No added later v more }

  abbrev Test : Type 0
  Test = (GroundTerm → Bool) → (GroundAtom → Bool) → Bool

  part_value : (test : Test) (part : ℕ) → Grows a b → Means nodes a test part → (later : Board) (is_there : GroundTerm → Bool) (holds : GroundAtom → Bool) (v : ℕ → Bool) → Grows b later
      → AreInputsOf nodes later.terms is_there holds later.inputs v → value_of v a.gates part ≡ test is_there holds
  part_value test part grows m later is_there holds v more are =
      let all = grows_both a b later grows more in
      sym (value_later a later v part all m.within) ∙ m.is later is_there holds v all are

  pub means_both : (p q : Test) (x y : ℕ) → Grows a b → IsAdded a.gates (Both x y) b.gates id → Means nodes a p x → Means nodes a q y → Means nodes b (λ is_there holds. p is_there holds && q is_there holds) id
  means_both p q x y grows added m n = record {
    within = added_within (Both x y) added;
    is = λ later is_there holds v more are.
        let whole = added_value (Both x y) added later v more in
        let left = part_value p x grows m later is_there holds v more are in
        let right = part_value q y grows n later is_there holds v more are in
        whole ∙ (ap (λ b. b && value_of v a.gates y) left ∙ ap (λ b. p is_there holds && b) right);
  }

  pub means_either : (p q : Test) (x y : ℕ) → Grows a b → IsAdded a.gates (Either x y) b.gates id → Means nodes a p x → Means nodes a q y → Means nodes b (λ is_there holds. p is_there holds || q is_there holds) id
  means_either p q x y grows added m n = record {
    within = added_within (Either x y) added;
    is = λ later is_there holds v more are.
        let whole = added_value (Either x y) added later v more in
        let left = part_value p x grows m later is_there holds v more are in
        let right = part_value q y grows n later is_there holds v more are in
        whole ∙ (ap (λ b. b || value_of v a.gates y) left ∙ ap (λ b. p is_there holds || b) right);
  }

-- values and inputs mean what they meant
pub value_kept : (nodes : List Node) (xs ys : List TermNode) (v : Value) → Extends xs ys → IsValue xs v → value_at nodes ys v ≡ value_at nodes xs v
value_kept nodes xs ys (Term t) e h = ap named (term_kept xs ys t e h)
value_kept nodes xs ys (Written t) e h = refl

module _ (nodes : List Node) (xs ys : List TermNode) (e : Extends xs ys) (is_there : GroundTerm → Bool) (holds : GroundAtom → Bool) where
  pub input_kept : (i : AnInput) → IsInput xs i → input_value nodes ys is_there holds i ≡ input_value nodes xs is_there holds i
  input_kept (input.There t) h = ap is_there (term_kept xs ys t e h)
  input_kept (input.Equal v w) h = let p = value_kept nodes xs ys v e h.0 in let q = value_kept nodes xs ys w e h.1 in cc
  input_kept (input.Less v w) h = let p = value_kept nodes xs ys v e h.0 in let q = value_kept nodes xs ys w e h.1 in cc
  input_kept (input.Has r v w) h = let p = value_kept nodes xs ys v e h.0 in let q = value_kept nodes xs ys w e h.1 in cc
  input_kept (input.Flag k v) h = ap (λ u. holds (flagged k u)) (value_kept nodes xs ys v e h)
  input_kept (input.Present k v) h = ap (λ u. holds (present_at k u)) (value_kept nodes xs ys v e h)

pub means_input : (nodes : List Node) (a b : Board) (i : AnInput) (var : ℕ) (plus : Bool) (id : ℕ) → b.terms ≡ a.terms → IsNumbered a.inputs i b.inputs var
    → IsAdded a.gates (Input (record { var = var; plus = plus })) b.gates id → IsInput a.terms i
    → Means nodes b (λ is_there holds. cond plus (input_value nodes a.terms is_there holds i) (not (input_value nodes a.terms is_there holds i))) id
means_input nodes a b i var plus id e numbered added fits =
    let gate : Gate = Input (record { var = var; plus = plus }) in
    record {
      within = omega (arith, slice_get_within b.gates id gate added.there);
      is = λ later is_there holds v more are.
          let P : List AnInput → Type 0 = λ is. slice_get is var ≡ Some i in
          let there : slice_get later.inputs var ≡ Some i = subst P (sym more.inputs) (slice_get_front b.inputs more.more_inputs var i numbered.there) in
          let Q : List TermNode → Type 0 = λ ts. Extends ts later.terms in
          let value : v var ≡ input_value nodes a.terms is_there holds i = are var i there ∙ input_kept nodes a.terms later.terms (subst Q e more.terms) is_there holds i fits in
          value_later b later v id more (omega (arith, slice_get_within b.gates id gate added.there)) ∙ (added.means v ∙ ap (λ b. cond plus b (not b)) value);
    }

pub input_within : (old : List AnInput) (i : AnInput) (new : List AnInput) (id : ℕ) → IsNumbered old i new id → id < length new
input_within old i new id h = omega (arith, slice_get_within new id i h.there)
