-- The clauses of all gates that have variables.
use Rattle.std.proofs.Common.{◌≡◌, ℕ, suc, zero, ◌<◌, ◌≤◌, ◌+◌, ◌-◌, ◌⊎◌, Bool, true, false, not, ◌&&◌, ◌||◌, cond, inl, inr, refl, sym, ◌∙◌, List, [], ◌∷◌, ◌++◌, Some, None, Option, length, map, ap, subst, arith, slice_get, slice_index_or, get_or, All, Contains, Vec, Global, fold}
use Rattle.std.specs.Prelude.{nat_lt}
use Rattle.std.specs.List.{list_all}
use Rattle.std.proofs.lemmas.Bool.Decides.{nat_tests}
use Rattle.form_terms.proofs.Lists.{Contains-none}
use Rattle.ground_gates.specs.declared.gate.Gate.{Gate as AnyGate}
use Rattle.ground_gates.specs.declared.gate.Gate.TheVariants.{Yes, No, Input as Leaf, Both, Either}
use Rattle.ground_gates.specs.declared.gate.Literal.{Literal}
use Rattle.ground_gates.specs.Gates.{literal_value, gate_value, values_of, value_of}
use Rattle.ground_gates.specs.Clauses.{AreFactsBelow, HaveVarsBelow, IsEncoding, Meets, inputs_by}
use Rattle.ground_gates.specs.declared.board.Board.{Board}
use Rattle.ground_gates.specs.declared.names.Owner.{Owner}
use Rattle.ground_gates.specs.declared.names.Owner.TheVariants.{Gate, Input}
use Rattle.ground_gates.specs.Encoded.{IsEncodedTo}
use Rattle.ground_gates.specs.Meaning.{IsFaithful, IsSoundAtInputs, owner_truth, truth, under}
use Rattle.ground_gates.specs.Names.{HasNoName, IsOnlyName, end_of}
use Rattle.ground_gates.specs.Said.{clauses_in, IsPlacedFor, Says}
use Rattle.ground_gates.proofs.Going.{faithful_front, sound_front, meets_front}
use Rattle.ground_gates.proofs.Disjoined.{length-lists}
use Rattle.ground_gates.proofs.VarsBelow.{placed_later}

below_or : (i k : ℕ) → i < k + 1 → (i < k) ⊎ (i ≡ k)
below_or zero zero lt = inr refl
below_or zero (suc k) lt = inl (omega arith)
below_or (suc i) zero lt = absurd (omega (arith, lt))
below_or (suc i) (suc k) lt = elim (below_or i k (omega (arith, lt))) [ inl less ↦ inl (omega (arith, less)) | inr same ↦ inr (ap suc same) ]

module _ (gates : List AnyGate) (inputs : List (List ℕ)) (base root : ℕ) where
  -- the gate itself
  pub encoded_first : (old new : Board) → old.names.base ≡ base → old.names.owners ≡ [] → clauses_in old ≡ [] → IsPlacedFor gates inputs root old
      → Says gates inputs root old new (λ w. under None w (truth gates inputs w root)) → IsEncodedTo gates inputs base root root new
  encoded_first old new begins none clauses placed h = record {
    begins = h.names.base ∙ begins;
    placed = placed_later gates inputs root root old new h.names placed;
    within = h.within (let P : List (List Literal) → Type 0 = λ cs. HaveVarsBelow (end_of old.names) cs in subst P (sym clauses) (λ clause c. Contains-none clause c));
    own = λ w met. own w met;
    sound = λ w met below. h.sound w met below (own w met) refl;
    complete = λ w faithful on. (h.complete w faithful on (nothing w)).0;
  }
    where
      nothing : (w : ℕ → Bool) → Meets (clauses_in old) w
      nothing w clause c = let P : List (List Literal) → Type 0 = λ cs. Contains cs clause in Contains-none clause (subst P clauses c)

      own : (w : ℕ → Bool) → Meets (clauses_in new) w → IsSoundAtInputs gates inputs w new.names
      own w met =
          h.inputs_too w met
          (λ n k at on. let P : List Owner → Type 0 = λ os. slice_get os n ≡ Some (Input k) in let at' = subst P none at in cc)

  -- one gate less
  pub encoded_none : (board : Board) (k : ℕ) → HasNoName board.names (Gate k) → IsEncodedTo gates inputs base root (k + 1) board → IsEncodedTo gates inputs base root k board
  encoded_none board k none h = record {
    begins = h.begins;
    placed = h.placed;
    within = h.within;
    own = h.own;
    sound = λ w met below.
        h.sound w met
        (λ n i at lt on.
        elim (below_or i k lt) [
          | inl less ↦ below n i at less on
          | inr same ↦ let P : ℕ → Type 0 = λ i. slice_get board.names.owners n ≡ Some (Gate i) in absurd (none n (subst P same at))
        ]);
    complete = h.complete;
  }

  follows : (a b : Bool) → (not a || b) ≡ true → a ≡ true → b ≡ true
  follows true b e h = e
  follows false b e h = cc

  following : (a b : Bool) → a ≡ b → (not a || b) ≡ true
  following true b e = sym e
  following false b e = refl

  pub encoded_on : (old new : Board) (k x : ℕ) → IsOnlyName old.names (Gate k) x → Says gates inputs k old new (λ w. under (Some x) w (truth gates inputs w k))
      → IsEncodedTo gates inputs base root (k + 1) old → IsEncodedTo gates inputs base root k new
  encoded_on old new k x is h e = record {
    begins = h.names.base ∙ e.begins;
    placed = placed_later gates inputs k root old new h.names e.placed;
    within = h.within e.within;
    own = λ w met. h.inputs_too w met (e.own w (front w met));
    sound = λ w met below.
        e.sound w (front w met)
        (λ n i at lt on.
        elim (below_or i k lt) [
          | inl less ↦ sound_front gates inputs k old.names new.names h.names w k below n i at less on
          | inr same ↦
              let P : ℕ → Type 0 = λ i. slice_get old.names.owners n ≡ Some (Gate i) in
              let Q : ℕ → Type 0 = λ i. truth gates inputs w i ≡ true in
              let place : n ≡ is.place = is.only n (subst P same at) in
              let variable : w x ≡ true = ap w (is.is ∙ ap (λ m. old.names.base + m) (sym place)) ∙ on in
              subst Q (sym same) (follows (w x) (truth gates inputs w k) (h.sound w met below (h.inputs_too w met (e.own w (front w met))) refl) variable)
        ]);
    complete = λ w faithful on.
        let faithful' = faithful_front gates inputs k old.names new.names h.names w faithful in
        (h.complete w faithful (following (w x) (truth gates inputs w k) (ap w is.is ∙ faithful' is.place (Gate k) is.here)) (e.complete w faithful' on)).0;
  }
    where
      front : (w : ℕ → Bool) → Meets (clauses_in new) w → Meets (clauses_in old) w
      front w met = meets_front (clauses_in old) (clauses_in new) h.more w h.whole met

-- values of inputs that are the same give the same truth
same_all : (v w : ℕ → Bool) (base : ℕ) → ((x : ℕ) → x < base → w x ≡ v x) → (xs : List ℕ) → All (λ x. x < base) xs → list_all w xs ≡ list_all v xs
same_all v w base kept [] all = refl
same_all v w base kept (x ∷ xs) all =
    let here : x < base = all 0 x (omega arith) in
    let rest = same_all v w base kept xs (λ k d lt. all (suc k) d (omega (arith, lt))) in
    ap (λ b. b && list_all w xs) (kept x here) ∙ ap (λ b. v x && b) rest

module _ (f g : ℕ → Bool) (same : (k : ℕ) → f k ≡ g k) where
  same_literal : (l : Literal) → literal_value f l ≡ literal_value g l
  same_literal l = ap (λ b. cond l.plus b (not b)) (same l.var)

  same_gate : (values : List Bool) (gate : AnyGate) → gate_value f values gate ≡ gate_value g values gate
  same_gate values Yes = refl
  same_gate values No = refl
  same_gate values (Leaf l) = same_literal l
  same_gate values (Both a b) = refl
  same_gate values (Either a b) = refl

  same_fold : (gates : List AnyGate) (values : List Bool)
      → fold (λ values gate. values ++ gate_value f values gate ∷ []) values gates ≡ fold (λ values gate. values ++ gate_value g values gate ∷ []) values gates
  same_fold [] values = refl
  same_fold (gate ∷ gates) values =
      ap (λ b. fold (λ values gate. values ++ gate_value f values gate ∷ []) (values ++ b ∷ []) gates) (same_gate values gate)
      ∙ same_fold gates (values ++ gate_value g values gate ∷ [])

  pub same_value : (gates : List AnyGate) (k : ℕ) → value_of f gates k ≡ value_of g gates k
  unfolding values_of
  same_value gates k = ap (λ vs. get_or vs k false) (same_fold gates [])

module _ (gates : List AnyGate) (inputs : List (List ℕ)) (base root : ℕ) (variables : (k : ℕ) → All (λ x. x < base) (slice_index_or inputs k [])) (board : Board)
    (h : IsEncodedTo gates inputs base root 0 board) where
  abbrev owners : List Owner
  owners = board.names.owners

  owner_at : (ℕ → Bool) → Option Owner → Bool
  owner_at v None = false
  owner_at v (Some o) = owner_truth gates inputs v o

  -- the values that are given, and those of what the variables behind them stand for
  extended : (ℕ → Bool) → ℕ → Bool
  extended v x = cond (nat_lt x base) (v x) (owner_at v (slice_get owners (x - base)))

  choose_below : (b p q : Bool) → b ≡ true → cond b p q ≡ p
  choose_below true p q e = refl
  choose_below false p q e = cc

  choose_above : (b p q : Bool) → b ≡ false → cond b p q ≡ q
  choose_above true p q e = cc
  choose_above false p q e = refl

  below_test : (x : ℕ) → x < base → nat_lt x base ≡ true
  below_test x lt = grind (arith, nat_tests)

  above_test : (n : ℕ) → nat_lt (base + n) base ≡ false
  above_test n = grind (arith, nat_tests)

  module _ (v : ℕ → Bool) where
    kept : (x : ℕ) → x < base → extended v x ≡ v x
    unfolding extended
    kept x lt = choose_below (nat_lt x base) (v x) (owner_at v (slice_get owners (x - base))) (below_test x lt)

    behind : (n : ℕ) (o : Owner) → slice_get owners n ≡ Some o → extended v (base + n) ≡ owner_truth gates inputs v o
    unfolding extended owner_at
    behind n o at =
        let back : (base + n) - base ≡ n = omega arith in
        choose_above (nat_lt (base + n) base) (v (base + n)) (owner_at v (slice_get owners ((base + n) - base))) (above_test n)
        ∙ (ap (λ i. owner_at v (slice_get owners i)) back ∙ ap (owner_at v) at)

    same_input : (k : ℕ) → inputs_by inputs (extended v) k ≡ inputs_by inputs v k
    same_input k = same_all v (extended v) base kept (slice_index_or inputs k []) (variables k)

    same_owner : (o : Owner) → owner_truth gates inputs (extended v) o ≡ owner_truth gates inputs v o
    same_owner (Gate k) = same_value (inputs_by inputs (extended v)) (inputs_by inputs v) same_input gates k
    same_owner (Input k) = same_input k

    faithful : IsFaithful gates inputs (extended v) board.names
    faithful n o at = ap (λ b. extended v (b + n)) h.begins ∙ (behind n o at ∙ sym (same_owner o))

  pub encoded : (end : ℕ) → end ≡ end_of board.names → length board.names.owners ≤ board.names.places + board.names.input_places → IsEncoding base end inputs gates root (clauses_in board)
  encoded end is few = record {
    rise = omega (arith, is, h.begins);
    few = omega (arith, is, few, h.begins, h.placed.places, h.placed.inputs_placed.places);
    sound = λ v met. h.sound v met (λ n k at lt on. absurd (omega (arith, lt)));
    complete = λ v on. (extended v, kept v, h.complete (extended v) (faithful v) (same_owner v (Gate root) ∙ on));
    below = λ clause l c here. let P : ℕ → Type 0 = λ n. l.var < n in subst P (sym is) (h.within clause c l here);
  }

-- the variables of each input are below the base
pub all_variables : (inputs : List (Vec ℕ Global)) (base : ℕ) → All (λ xs. All (λ x. x < base) xs.items) inputs → (k : ℕ) → All (λ x. x < base) (slice_index_or (map (λ xs. xs.items) inputs) k [])
all_variables [] base all k = λ i d lt. absurd (omega (arith, lt))
all_variables (xs ∷ inputs) base all zero = all 0 xs (omega arith)
all_variables (xs ∷ inputs) base all (suc k) = all_variables inputs base (λ i d lt. all (suc i) d (omega (arith, lt))) k

-- there are places for all, before there are variables
pub placed_first : (gates : List AnyGate) (inputs : List (Vec ℕ Global)) (base root : ℕ) (board : Board) → root < length gates → board.names.base ≡ base → {places : ℕ} → board.names.places ≡ places → places ≡ length gates
    → board.names.input_places ≡ length inputs → All (λ xs. All (λ x. x < base) xs.items) inputs → IsPlacedFor gates (map (λ xs. xs.items) inputs) root board
placed_first gates inputs base root board there begins of_gates size of_inputs variables =
    let P : ℕ → Type 0 = λ base. AreFactsBelow base (map (λ xs. xs.items) inputs) in
    record {
      few = omega (arith, there);
      places = of_gates ∙ size;
      inputs_placed = record { places = of_inputs ∙ sym (length-lists inputs); facts = subst P (sym begins) (all_variables inputs base variables) };
    }
