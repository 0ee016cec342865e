-- What a disjunction says while it is taken apart.
use Rattle.std.proofs.Common.{◌≡◌, ℕ, ◌<◌, ◌≤◌, Bool, true, false, not, ◌&&◌, ◌||◌, refl, sym, ◌∙◌, List, [], ◌∷◌, ◌++◌, Some, None, Option, length, map, ap, subst, arith, suc, slice_get, get_or, slice_index_or, All, Vec, Global, length-append}
use Rattle.std.specs.List.{list_all, list_any}
use Rattle.std.proofs.lemmas.List.Elements.{All-append}
use Rattle.std.proofs.lemmas.List.{get_or_append_left}
use Rattle.std.proofs.Math.Seq.{get_or-append_seam}
use Rattle.std.proofs.lemmas.Option.{slice_get-get_or}
use Rattle.ground_gates.specs.declared.gate.Gate.{Gate as AnyGate}
use Rattle.ground_gates.specs.declared.gate.Gate.TheVariants.{Yes, No, Input as Leaf, Either}
use Rattle.ground_gates.specs.declared.gate.Literal.{Literal}
use Rattle.ground_gates.specs.Gates.{literal_value, gate_value, values_of, ArePlaced}
use Rattle.ground_gates.specs.Clauses.{HasVarsBelow, HaveInputsBelow, inputs_by, meets_clause}
use Rattle.ground_gates.specs.declared.board.Board.{Board}
use Rattle.ground_gates.specs.declared.parts.Parts.{Parts}
use Rattle.ground_gates.specs.Literals.{is_true, is_none}
use Rattle.ground_gates.specs.Meaning.{input_truth, truth, some_part, under}
use Rattle.ground_gates.specs.Parted.{AreParts, IsWithInput, IsWithGates}
use Rattle.ground_gates.proofs.Values.{value_of-at}
use Rattle.ground_gates.specs.Said.{HasGate, HasInput, IsPlacedFor, Goes}
use Rattle.ground_gates.proofs.Going.{goes_as, goes_named, goes_by_name, goes_by_input, goes_same, goes_trans}
use Rattle.ground_gates.specs.declared.names.Owner.{Owner}
use Rattle.ground_gates.specs.Names.{Grows, IsNamed, NamesView, end_of}
use Rattle.ground_gates.proofs.VarsBelow.{end_rises, named_below, placed_later, vars_both, vars_later, vars_one}
use Rattle.ground_gates.proofs.PartLaws.{with_literals, with_input, with_gate, with_gates, or_false, or_comm, all_one}

module _ (gates : List AnyGate) (inputs : List (List ℕ)) (j : ℕ) (a b : Board) (old new : Parts) where
  pub named_part : (k x : ℕ) → k < j → HasGate k a b x → new.literals.items ≡ old.literals.items ++ is_true x ∷ [] → new.inputs ≡ old.inputs → new.stack ≡ old.stack
      → Goes gates inputs j a b (λ w. truth gates inputs w k || some_part gates inputs w old) (λ w. some_part gates inputs w new)
  named_part k x lt h ls i s =
      let p : (ℕ → Bool) → Bool = λ w. truth gates inputs w k || some_part gates inputs w old in
      goes_as gates inputs j a b p p (λ w. w x || some_part gates inputs w old) (λ w. some_part gates inputs w new) (λ w. refl)
      (λ w. with_literals gates inputs old new (is_true x ∷ []) ls i s w ∙ ap (λ b. b || some_part gates inputs w old) (or_false (w x)))
      (goes_by_name gates inputs j a b k x p (λ w. some_part gates inputs w old) lt h.named.is (goes_named gates inputs j a b k x p lt h))

module _ (gates : List AnyGate) (inputs : List (List ℕ)) (j : ℕ) (a : Board) where
  -- what is said is the same, in other words
  pub same_board : (p q : (ℕ → Bool) → Bool) → ((w : ℕ → Bool) → q w ≡ p w) → Goes gates inputs j a a p q
  same_board p q e = goes_as gates inputs j a a p p p q (λ w. refl) e (goes_same gates inputs j a a p refl refl)

  module _ (k : ℕ) (placed : ArePlaced gates) (old new : Parts) where
    abbrev asked : (ℕ → Bool) → Bool
    asked w = truth gates inputs w k || some_part gates inputs w old

    abbrev IsAt : AnyGate → Type 0
    IsAt gate = slice_get gates k ≡ Some gate

    -- the value of the gate, in place of its truth
    by_gate : (gate : AnyGate) → IsAt gate → (w : ℕ → Bool) → (b : Bool) → gate_value (inputs_by inputs w) (values_of (inputs_by inputs w) gates) gate ≡ b
        → (b || some_part gates inputs w old) ≡ asked w
    by_gate gate at w b e = ap (λ t. t || some_part gates inputs w old) (sym (value_of-at (inputs_by inputs w) gates k gate placed at ∙ e))

    pub yes_part : IsAt Yes → Goes gates inputs j a a asked (λ w. true)
    yes_part at = same_board asked (λ w. true) (λ w. by_gate Yes at w true refl)

    pub no_part : IsAt No → Goes gates inputs j a a asked (λ w. some_part gates inputs w old)
    no_part at = same_board asked (λ w. some_part gates inputs w old) (λ w. by_gate No at w false refl)

    pub input_part : (l : Literal) → IsAt (Leaf l) → IsWithInput inputs l old new → Goes gates inputs j a a asked (λ w. some_part gates inputs w new)
    input_part l at h =
        same_board asked (λ w. some_part gates inputs w new) (λ w. h.says gates w ∙ by_gate (Leaf l) at w (literal_value (inputs_by inputs w) l) refl)

    pub either_part : (x y : ℕ) → IsAt (Either x y) → IsWithGates x y old new → Goes gates inputs j a a asked (λ w. some_part gates inputs w new)
    either_part x y at h =
        same_board asked (λ w. some_part gates inputs w new)
        (λ w. with_gates gates inputs old new x y h w ∙ by_gate (Either x y) at w (truth gates inputs w x || truth gates inputs w y) refl)

-- what the code reads is the gate
pub at_gate : (gs gates : List AnyGate) (k : ℕ) (gate : AnyGate) → gs ≡ gates → k < length gates → get_or gs k Yes ≡ gate → slice_get gates k ≡ Some gate
at_gate gs gates k gate same within e = slice_get-get_or gates k Yes within ∙ ap (λ g. Some g) (ap (λ gs. get_or gs k Yes) (sym same) ∙ e)

-- an input of a gate is one of those that there are
pub input_within : (gates : List AnyGate) (n k : ℕ) (l : Literal) → HaveInputsBelow n gates → slice_get gates k ≡ Some (Leaf l) → l.var < n
input_within gates n k l below at = below k (Leaf l) at

pub parts_kept : (inputs : List (List ℕ)) (below : ℕ) (old new : Parts) → new.inputs ≡ old.inputs → new.stack ≡ old.stack → AreParts inputs below old → AreParts inputs below new
parts_kept inputs below old new i s are =
    let P : Vec ℕ Global → Type 0 = λ v. All (λ k. k < length inputs) v.items in
    let Q : Vec ℕ Global → Type 0 = λ v. All (λ k. k < below) v.items in
    record { inputs_in = subst P (sym i) are.inputs_in; stack_below = subst Q (sym s) are.stack_below }

pub gates_kept : (gates : List AnyGate) (inputs : List (List ℕ)) (below k x y : ℕ) (old new : Parts) → ArePlaced gates → slice_get gates k ≡ Some (Either x y) → k < below
    → IsWithGates x y old new → AreParts inputs below old → AreParts inputs below new
gates_kept gates inputs below k x y old new placed at lt h are =
    let P : Vec ℕ Global → Type 0 = λ v. All (λ k. k < length inputs) v.items in
    let Q : List ℕ → Type 0 = λ ks. All (λ k. k < below) ks in
    let (first, second) = placed k (Either x y) at in
    let B : ℕ → Type 0 = λ k. k < below in
    record {
      inputs_in = subst P (sym h.inputs) are.inputs_in;
      stack_below = subst Q (sym h.stack)
          (All-append B (old.stack.items ++ y ∷ []) (x ∷ []) (All-append B old.stack.items (y ∷ []) are.stack_below (all_one B y (omega (arith, second, lt)))) (all_one B x (omega (arith, first, lt))));
    }

pub length-lists : (xs : List (Vec ℕ Global)) → length (map (λ xs. xs.items) xs) ≡ length xs
length-lists [] = refl
length-lists (x ∷ xs) = ap suc (length-lists xs)

pub all_at_front : {A : Type 0} (P : A → Type 0) (xs ys : List A) → All P (xs ++ ys) → All P xs
all_at_front P xs ys all k d lt =
    let within : k < length (xs ++ ys) = omega (arith, lt, length-append xs ys) in
    subst P (get_or_append_left xs ys d k lt) (all k d within)

pub all_at_last : {A : Type 0} (P : A → Type 0) (xs : List A) (x : A) → All P (xs ++ x ∷ []) → P x
all_at_last P xs x all =
    let within : length xs < length (xs ++ x ∷ []) = omega (arith, length-append xs (x ∷ [])) in
    subst P (get_or-append_seam xs x [] x) (all (length xs) x within)

module _ (gates : List AnyGate) (inputs : List (List ℕ)) (j : ℕ) (start : Board) (first : Parts) where
  -- a disjunction is taken apart so far
  pub record IsApart (now : Board) (p : Parts) : Type 0 where
    pub goes : Goes gates inputs j start now (λ w. some_part gates inputs w first) (λ w. some_part gates inputs w p)
    pub are : AreParts inputs j p
    pub placed : IsPlacedFor gates inputs j now
    pub within : HasVarsBelow (end_of now.names) p.literals.items

  -- a gate is taken from the stack
  pub popped : (old new : Parts) (k : ℕ) → new.literals ≡ old.literals → new.inputs ≡ old.inputs → old.stack.items ≡ new.stack.items ++ k ∷ []
      → (w : ℕ → Bool) → (truth gates inputs w k || some_part gates inputs w new) ≡ some_part gates inputs w old
  popped old new k l i s w = sym (with_gate gates inputs new old k (sym l) (sym i) s w)

  pub are_popped : (old new : Parts) (k : ℕ) → new.inputs ≡ old.inputs → old.stack.items ≡ new.stack.items ++ k ∷ [] → AreParts inputs j old → (k < j) × AreParts inputs j new
  are_popped old new k i s are =
      let P : Vec ℕ Global → Type 0 = λ v. All (λ k. k < length inputs) v.items in
      let Q : List ℕ → Type 0 = λ ks. All (λ k. k < j) ks in
      let all = subst Q s are.stack_below in
      (all_at_last (λ k. k < j) new.stack.items k all, record { inputs_in = subst P (sym i) are.inputs_in; stack_below = all_at_front (λ k. k < j) new.stack.items (k ∷ []) all })

  -- an input is taken
  pub popped_input : (old new : Parts) (k : ℕ) → new.literals ≡ old.literals → old.inputs.items ≡ new.inputs.items ++ k ∷ [] → new.stack ≡ old.stack
      → (w : ℕ → Bool) → (input_truth gates inputs w k || some_part gates inputs w new) ≡ some_part gates inputs w old
  popped_input old new k l i s w = sym (with_input gates inputs new old k (sym l) i (sym s) w)

  pub are_popped_input : (old new : Parts) (k : ℕ) → old.inputs.items ≡ new.inputs.items ++ k ∷ [] → new.stack ≡ old.stack → AreParts inputs j old → (k < length inputs) × AreParts inputs j new
  are_popped_input old new k i s are =
      let P : List ℕ → Type 0 = λ ks. All (λ k. k < length inputs) ks in
      let Q : Vec ℕ Global → Type 0 = λ v. All (λ k. k < j) v.items in
      let all = subst P i are.inputs_in in
      (all_at_last (λ k. k < length inputs) new.inputs.items k all, record { inputs_in = all_at_front (λ k. k < length inputs) new.inputs.items (k ∷ []) all; stack_below = subst Q (sym s) are.stack_below })

  module _ (now new : Board) (p r : Parts) (asked : (ℕ → Bool) → Bool) (h : IsApart now p) (same : (w : ℕ → Bool) → asked w ≡ some_part gates inputs w p) where
    abbrev of_first : (ℕ → Bool) → Bool
    of_first w = some_part gates inputs w first

    abbrev of_now : (ℕ → Bool) → Bool
    of_now w = some_part gates inputs w p

    in_words : (rest : (ℕ → Bool) → Bool) → Goes gates inputs j now new asked rest → Goes gates inputs j now new of_now rest
    in_words rest step = goes_as gates inputs j now new asked of_now rest rest (λ w. sym (same w)) (λ w. refl) step

    -- one part gives way to others, or says that the whole is always true
    pub apart_on : Goes gates inputs j now new asked (λ w. some_part gates inputs w r) → AreParts inputs j r → HasVarsBelow (end_of new.names) r.literals.items → IsApart new r
    apart_on step are within =
        let rest : (ℕ → Bool) → Bool = λ w. some_part gates inputs w r in
        record {
          goes = goes_trans gates inputs j start now new of_first of_now rest h.goes (in_words rest step);
          are = are;
          placed = placed_later gates inputs j j now new step.names h.placed;
          within = within;
        }

    pub apart_always : Goes gates inputs j now new asked (λ w. true) → Goes gates inputs j start new of_first (λ w. true)
    apart_always step = goes_trans gates inputs j start now new of_first of_now (λ w. true) h.goes (in_words (λ w. true) step)

module _ (gates : List AnyGate) (inputs : List (List ℕ)) (j : ℕ) (a b : Board) (old new : Parts) (k : ℕ) where
  abbrev facts : List ℕ
  facts = slice_index_or inputs k []

  abbrev AreOpen : List ℕ → Type 0
  AreOpen others = (w : ℕ → Bool) → (meets_clause w old.literals.items || list_all w facts) ≡ (meets_clause w old.literals.items || list_all w others)

  -- the facts of an input beside the literals
  beside : (m t o r : Bool) → (m || t) ≡ (m || o) → (o || (m || r)) ≡ (t || (m || r))
  beside true t o r e = or_true_right o ∙ sym (or_true_right t)
    where
      or_true_right : (x : Bool) → (x || true) ≡ true
      or_true_right true = refl
      or_true_right false = refl
  beside false t o r e = ap (λ x. x || r) (sym e)

  abbrev input_asked : (ℕ → Bool) → Bool
  input_asked w = input_truth gates inputs w k || some_part gates inputs w old

  abbrev rest : (ℕ → Bool) → Bool
  rest w = list_any (input_truth gates inputs w) old.inputs.items || list_any (truth gates inputs w) old.stack.items

  by_others : (others : List ℕ) → AreOpen others → (w : ℕ → Bool) → (list_all w others || some_part gates inputs w old) ≡ input_asked w
  by_others others h w = beside (meets_clause w old.literals.items) (list_all w facts) (list_all w others) (rest w) (h w)

  pub no_other : AreOpen [] → Goes gates inputs j a a input_asked (λ w. true)
  no_other h = same_board gates inputs j a input_asked (λ w. true) (λ w. by_others [] h w)

  pub one_other : (x : ℕ) → AreOpen (x ∷ []) → new.literals.items ≡ old.literals.items ++ is_true x ∷ [] → new.inputs ≡ old.inputs → new.stack ≡ old.stack
      → Goes gates inputs j a a input_asked (λ w. some_part gates inputs w new)
  one_other x h ls i s =
      same_board gates inputs j a input_asked (λ w. some_part gates inputs w new)
      (λ w.
      with_literals gates inputs old new (is_true x ∷ []) ls i s w
      ∙ (ap (λ b. b || some_part gates inputs w old) (or_false (w x) ∙ and_true (w x)) ∙ by_others (x ∷ []) h w))
    where
      and_true : (x : Bool) → x ≡ (x && true)
      and_true true = refl
      and_true false = refl

  pub named_input : (x : ℕ) → HasInput gates inputs j k a b x → new.literals.items ≡ old.literals.items ++ is_true x ∷ [] → new.inputs ≡ old.inputs → new.stack ≡ old.stack
      → Goes gates inputs j a b input_asked (λ w. some_part gates inputs w new)
  named_input x h ls i s =
      goes_as gates inputs j a b input_asked input_asked (λ w. w x || some_part gates inputs w old) (λ w. some_part gates inputs w new) (λ w. refl)
      (λ w. with_literals gates inputs old new (is_true x ∷ []) ls i s w ∙ ap (λ b. b || some_part gates inputs w old) (or_false (w x)))
      (goes_by_input gates inputs j a b k x input_asked (λ w. some_part gates inputs w old) h.is (h.goes input_asked))

pub open_as : (ls ls' : List Literal) (xs xs' ys ys' : List ℕ) → ls ≡ ls' → xs ≡ xs' → ys ≡ ys'
    → ((w : ℕ → Bool) → (meets_clause w ls || list_all w xs) ≡ (meets_clause w ls || list_all w ys))
    → (w : ℕ → Bool) → (meets_clause w ls' || list_all w xs') ≡ (meets_clause w ls' || list_all w ys')
open_as ls ls' xs xs' ys ys' e d f h w =
    let P : List Literal → Type 0 = λ ls. (meets_clause w ls || list_all w xs') ≡ (meets_clause w ls || list_all w ys') in
    let Q : List ℕ → Type 0 = λ xs. (meets_clause w ls || list_all w xs) ≡ (meets_clause w ls || list_all w ys') in
    let R : List ℕ → Type 0 = λ ys. (meets_clause w ls || list_all w xs) ≡ (meets_clause w ls || list_all w ys) in
    subst P e (subst Q d (subst R f (h w)))

pub none_of : (xs : List ℕ) → length xs < 1 → xs ≡ []
none_of [] lt = refl
none_of (x ∷ xs) lt = absurd (omega (arith, lt))

pub one_of : (xs : List ℕ) (d : ℕ) → 1 ≤ length xs → length xs < 2 → xs ≡ get_or xs 0 d ∷ []
one_of [] d le lt = absurd (omega (arith, le))
one_of (x ∷ []) d le lt = refl
one_of (x ∷ (y ∷ xs)) d le lt = absurd (omega (arith, lt))

-- nothing but literals is left
pub only_literals : (gates : List AnyGate) (inputs : List (List ℕ)) (p : Parts) → p.inputs.items ≡ [] → p.stack.items ≡ [] → (w : ℕ → Bool) → some_part gates inputs w p ≡ meets_clause w p.literals.items
only_literals gates inputs p i s w =
    ap (λ xs. meets_clause w p.literals.items || (list_any (input_truth gates inputs w) xs || list_any (truth gates inputs w) p.stack.items)) i
    ∙ (ap (λ xs. meets_clause w p.literals.items || list_any (truth gates inputs w) xs) s ∙ or_false (meets_clause w p.literals.items))

-- what is said at first
pub first_parts : (gates : List AnyGate) (inputs : List (List ℕ)) (whole : Option ℕ) (a b : ℕ) (p : Parts) → p.literals.items ≡ is_none whole → p.inputs.items ≡ [] → p.stack.items ≡ b ∷ a ∷ []
    → (w : ℕ → Bool) → under whole w (truth gates inputs w a || truth gates inputs w b) ≡ some_part gates inputs w p
first_parts gates inputs whole a b p l i s w =
    let t : ℕ → Bool = truth gates inputs w in
    sym
    (ap (λ xs. meets_clause w xs || (list_any (input_truth gates inputs w) p.inputs.items || list_any t p.stack.items)) l
    ∙ (ap (λ xs. meets_clause w (is_none whole) || (list_any (input_truth gates inputs w) xs || list_any t p.stack.items)) i
    ∙ (ap (λ xs. meets_clause w (is_none whole) || list_any t xs) s ∙ by whole (t a) (t b))))
  where
    by : (whole : Option ℕ) (x y : Bool) → (meets_clause w (is_none whole) || (y || (x || false))) ≡ under whole w (x || y)
    by None x y = ap (λ b. y || b) (or_false x) ∙ or_comm y x
    by (Some v) x y = ap (λ b. b || (y || (x || false))) (or_false (not (w v))) ∙ ap (λ b. not (w v) || b) (ap (λ b. y || b) (or_false x) ∙ or_comm y x)

-- a literal more, of a variable that was named, or of one below the base
pub literals_named : (j : ℕ) (old new : NamesView) (o : Owner) (x : ℕ) (ls more : List Literal) → Grows j old new → IsNamed new o x → more ≡ ls ++ is_true x ∷ [] → HasVarsBelow (end_of old) ls → HasVarsBelow (end_of new) more
literals_named j old new o x ls more grows is e before =
    let P : List Literal → Type 0 = λ ls. HasVarsBelow (end_of new) ls in
    subst P (sym e)
    (vars_both (end_of new) ls (is_true x ∷ []) (vars_later (end_of old) (end_of new) ls (end_rises j old new grows) before) (vars_one (end_of new) (is_true x) (named_below new o x is)))

pub literals_one : (n x : ℕ) (ls more : List Literal) → x < n → more ≡ ls ++ is_true x ∷ [] → HasVarsBelow n ls → HasVarsBelow n more
literals_one n x ls more lt e before =
    let P : List Literal → Type 0 = λ ls. HasVarsBelow n ls in
    subst P (sym e) (vars_both n ls (is_true x ∷ []) before (vars_one n (is_true x) lt))
