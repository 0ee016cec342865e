-- What the parts of a disjunction say.
use Rattle.std.proofs.Common.{◌≡◌, ℕ, ◌<◌, Bool, true, false, not, ◌&&◌, ◌||◌, cond, refl, sym, ◌∙◌, List, [], ◌∷◌, ◌++◌, length, map, ap, subst, All, Vec, Global, get_or, arith, zero, suc}
use Rattle.std.specs.List.{list_all, list_any}
use Rattle.std.specs.Prelude.{slice_index_or}
use Rattle.std.proofs.lemmas.List.Elements.{All-cons}
use Rattle.std.proofs.lemmas.List.Folds.{list_any-append}
use Rattle.ground_gates.specs.declared.gate.Gate.{Gate}
use Rattle.ground_gates.specs.declared.gate.Literal.{Literal}
use Rattle.ground_gates.specs.Gates.{literal_value}
use Rattle.ground_gates.specs.Clauses.{HasVarsBelow, inputs_by, meets_clause}
use Rattle.ground_gates.specs.declared.parts.Parts.{Parts}
use Rattle.ground_gates.specs.Literals.{is_false}
use Rattle.ground_gates.specs.Meaning.{input_truth, truth, some_part}
use Rattle.ground_gates.proofs.VarsBelow.{vars_both, vars_false}
use Rattle.ground_gates.specs.Parted.{IsWithInput, IsWithGates}

pub or_assoc : (a b c : Bool) → ((a || b) || c) ≡ (a || (b || c))
or_assoc true b c = refl
or_assoc false b c = refl

pub or_comm : (a b : Bool) → (a || b) ≡ (b || a)
or_comm true true = refl
or_comm true false = refl
or_comm false true = refl
or_comm false false = refl

pub or_false : (a : Bool) → (a || false) ≡ a
or_false true = refl
or_false false = refl

one_any : (p q : Bool) → (not p || not q) ≡ not (p && q)
one_any true q = refl
one_any false q = refl

pub negations : (v : ℕ → Bool) (xs : List ℕ) → list_any (literal_value v) (map is_false xs) ≡ not (list_all v xs)
negations v [] = refl
negations v (x ∷ xs) = ap (λ b. not (v x) || b) (negations v xs) ∙ one_any (v x) (list_all v xs)

pub any_last : {A : Type 0} (f : A → Bool) (xs : List A) (x : A) → list_any f (xs ++ x ∷ []) ≡ (f x || list_any f xs)
any_last f xs x = list_any-append f xs (x ∷ []) ∙ (ap (λ b. list_any f xs || b) (or_false (f x)) ∙ or_comm (list_any f xs) (f x))

-- a part more, at each of the three places
at_literals : (a x b c : Bool) → ((a || x) || (b || c)) ≡ (x || (a || (b || c)))
at_literals true true b c = refl
at_literals true false b c = refl
at_literals false x b c = refl

at_inputs : (a x b c : Bool) → (a || ((x || b) || c)) ≡ (x || (a || (b || c)))
at_inputs true true b c = refl
at_inputs true false b c = refl
at_inputs false true b c = refl
at_inputs false false b c = refl

at_stack : (a b x c : Bool) → (a || (b || (x || c))) ≡ (x || (a || (b || c)))
at_stack true b true c = refl
at_stack true b false c = refl
at_stack false true true c = refl
at_stack false true false c = refl
at_stack false false x c = refl

module _ (gates : List Gate) (inputs : List (List ℕ)) (old new : Parts) where
  pub with_literals : (ls : List Literal) → new.literals.items ≡ old.literals.items ++ ls → new.inputs ≡ old.inputs → new.stack ≡ old.stack
      → (w : ℕ → Bool) → some_part gates inputs w new ≡ (meets_clause w ls || some_part gates inputs w old)
  with_literals ls e i s w =
      let a : Bool = meets_clause w old.literals.items in
      let b : Bool = list_any (input_truth gates inputs w) old.inputs.items in
      let c : Bool = list_any (truth gates inputs w) old.stack.items in
      ap (λ ls. meets_clause w ls || (list_any (input_truth gates inputs w) new.inputs.items || list_any (truth gates inputs w) new.stack.items)) e
      ∙ (ap (λ i. meets_clause w (old.literals.items ++ ls) || (list_any (input_truth gates inputs w) i.items || list_any (truth gates inputs w) new.stack.items)) i
      ∙ (ap (λ s. meets_clause w (old.literals.items ++ ls) || (b || list_any (truth gates inputs w) s.items)) s
      ∙ (ap (λ x. x || (b || c)) (list_any-append (literal_value w) old.literals.items ls) ∙ at_literals a (meets_clause w ls) b c)))

  pub with_input : (k : ℕ) → new.literals ≡ old.literals → new.inputs.items ≡ old.inputs.items ++ k ∷ [] → new.stack ≡ old.stack
      → (w : ℕ → Bool) → some_part gates inputs w new ≡ (input_truth gates inputs w k || some_part gates inputs w old)
  with_input k l e s w =
      let a : Bool = meets_clause w old.literals.items in
      let b : Bool = list_any (input_truth gates inputs w) old.inputs.items in
      let c : Bool = list_any (truth gates inputs w) old.stack.items in
      ap (λ l. meets_clause w l.items || (list_any (input_truth gates inputs w) new.inputs.items || list_any (truth gates inputs w) new.stack.items)) l
      ∙ (ap (λ i. a || (list_any (input_truth gates inputs w) i || list_any (truth gates inputs w) new.stack.items)) e
      ∙ (ap (λ s. a || (list_any (input_truth gates inputs w) (old.inputs.items ++ k ∷ []) || list_any (truth gates inputs w) s.items)) s
      ∙ (ap (λ x. a || (x || c)) (any_last (input_truth gates inputs w) old.inputs.items k) ∙ at_inputs a (input_truth gates inputs w k) b c)))

  pub with_gate : (k : ℕ) → new.literals ≡ old.literals → new.inputs ≡ old.inputs → new.stack.items ≡ old.stack.items ++ k ∷ []
      → (w : ℕ → Bool) → some_part gates inputs w new ≡ (truth gates inputs w k || some_part gates inputs w old)
  with_gate k l i e w =
      let a : Bool = meets_clause w old.literals.items in
      let b : Bool = list_any (input_truth gates inputs w) old.inputs.items in
      let c : Bool = list_any (truth gates inputs w) old.stack.items in
      ap (λ l. meets_clause w l.items || (list_any (input_truth gates inputs w) new.inputs.items || list_any (truth gates inputs w) new.stack.items)) l
      ∙ (ap (λ i. a || (list_any (input_truth gates inputs w) i.items || list_any (truth gates inputs w) new.stack.items)) i
      ∙ (ap (λ s. a || (b || list_any (truth gates inputs w) s)) e
      ∙ (ap (λ x. a || (b || x)) (any_last (truth gates inputs w) old.stack.items k) ∙ at_stack a b (truth gates inputs w k) c)))

  pub with_gates : (x y : ℕ) → IsWithGates x y old new
      → (w : ℕ → Bool) → some_part gates inputs w new ≡ ((truth gates inputs w x || truth gates inputs w y) || some_part gates inputs w old)
  with_gates x y h w =
      let t : ℕ → Bool = truth gates inputs w in
      let a : Bool = meets_clause w old.literals.items in
      let b : Bool = list_any (input_truth gates inputs w) old.inputs.items in
      let c : Bool = list_any t old.stack.items in
      ap (λ l. meets_clause w l.items || (list_any (input_truth gates inputs w) new.inputs.items || list_any t new.stack.items)) h.literals
      ∙ (ap (λ i. a || (list_any (input_truth gates inputs w) i.items || list_any t new.stack.items)) h.inputs
      ∙ (ap (λ s. a || (b || list_any t s)) h.stack
      ∙ (ap (λ x. a || (b || x)) (any_last t (old.stack.items ++ y ∷ []) x)
      ∙ (at_stack a b (t x) (list_any t (old.stack.items ++ y ∷ []))
      ∙ (ap (λ z. t x || (a || (b || z))) (any_last t old.stack.items y) ∙ (ap (λ z. t x || z) (at_stack a b (t y) c) ∙ sym (or_assoc (t x) (t y) (a || (b || c)))))))))

pub items_at : (xs : List (Vec ℕ Global)) (k : ℕ) (d : Vec ℕ Global) → k < length xs → slice_index_or (map (λ xs. xs.items) xs) k [] ≡ (get_or xs k d).items
items_at [] k d lt = absurd (omega (arith, lt))
items_at (x ∷ xs) zero d lt = refl
items_at (x ∷ xs) (suc k) d lt = items_at xs k d (omega (arith, lt))

pub all_one : {A : Type 0} (P : A → Type 0) (x : A) → P x → All P (x ∷ [])
all_one P x h = All-cons P x [] h (λ k d lt. absurd (omega (arith, lt)))

module _ (inputs : List (List ℕ)) (old new : Parts) where
  pub no_input : (l : Literal) → l.plus ≡ false → new.literals.items ≡ old.literals.items ++ map is_false (slice_index_or inputs l.var []) → new.inputs ≡ old.inputs → new.stack ≡ old.stack
      → IsWithInput inputs l old new
  no_input l off e i s = record {
    says = λ gates w.
        with_literals gates inputs old new (map is_false (slice_index_or inputs l.var [])) e i s w
        ∙ ap (λ b. b || some_part gates inputs w old)
        (negations w (slice_index_or inputs l.var []) ∙ ap (λ p. cond p (inputs_by inputs w l.var) (not (inputs_by inputs w l.var))) (sym off));
    are = λ below are.
        let P : Vec ℕ Global → Type 0 = λ v. All (λ k. k < length inputs) v.items in
        let Q : Vec ℕ Global → Type 0 = λ v. All (λ k. k < below) v.items in
        record { inputs_in = subst P (sym i) are.inputs_in; stack_below = subst Q (sym s) are.stack_below };
    within = λ n facts before.
        let L : List Literal → Type 0 = λ ls. HasVarsBelow n ls in
        let more : List Literal = map is_false (slice_index_or inputs l.var []) in
        subst L (sym e) (vars_both n old.literals.items more before (vars_false n (slice_index_or inputs l.var []) (facts l.var)));
  }
