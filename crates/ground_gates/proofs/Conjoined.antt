-- What clauses say of gates that are all true.
use Rattle.std.proofs.Common.{◌≡◌, ℕ, ◌<◌, ◌≤◌, Bool, true, false, not, ◌&&◌, ◌||◌, cond, refl, sym, ◌∙◌, List, [], ◌∷◌, ◌++◌, Some, None, Option, map, ap, subst, arith, slice_get, slice_index_or, All, Contains}
use Rattle.std.specs.List.{list_all}
use Rattle.std.proofs.lemmas.List.Elements.{All-append, Contains-append_right}
use Rattle.std.proofs.lemmas.List.Folds.{list_all-append}
use Rattle.form_terms.proofs.Kept.{list_all-from}
use Rattle.form_terms.proofs.Lists.{list_all-Contains}
use Rattle.ground_gates.specs.declared.gate.Gate.{Gate as AnyGate}
use Rattle.ground_gates.specs.declared.gate.Gate.TheVariants.{Yes, No, Input as Leaf, Both, Either}
use Rattle.ground_gates.specs.declared.gate.Literal.{Literal}
use Rattle.ground_gates.specs.Gates.{literal_value, gate_value, values_of, ArePlaced}
use Rattle.ground_gates.specs.Clauses.{HasVarsBelow, HaveVarsBelow, IsVarBelow, Meets, inputs_by, meets_clause}
use Rattle.ground_gates.proofs.Values.{value_of-at}
use Rattle.ground_gates.specs.declared.board.Board.{Board}
use Rattle.ground_gates.specs.Literals.{is_true, is_false, is_none}
use Rattle.ground_gates.specs.Meaning.{IsSoundAtInputs, truth, is_asked, under}
use Rattle.ground_gates.specs.Names.{NamesView, end_of}
use Rattle.ground_gates.specs.declared.names.Owner.TheVariants.{Gate}
use Rattle.ground_gates.specs.Said.{AreInputsPlaced, clauses_in, HasGate, Goes, IsPlacedFor, Says, all_under}
use Rattle.ground_gates.proofs.Going.{grows_same, goes_as, goes_beside, goes_by_name, goes_named, goes_trans, meets_more}
use Rattle.ground_gates.proofs.Disjoined.{same_board, all_at_front, all_at_last}
use Rattle.ground_gates.proofs.VarsBelow.{clauses_each, clauses_more, clauses_one, end_rises, facts_at, named_below, placed_later, var_later, vars_both, vars_false, vars_none, vars_one}
use Rattle.ground_gates.proofs.PartLaws.{all_one, negations, or_comm, or_false}

-- a clause that is to be met where a variable is true
pub denied_clause : (whole : Option ℕ) (ls : List Literal) (w : ℕ → Bool) → meets_clause w (is_none whole ++ ls) ≡ under whole w (meets_clause w ls)
denied_clause None ls w = refl
denied_clause (Some x) ls w = refl

pub under_true : (whole : Option ℕ) (w : ℕ → Bool) → under whole w true ≡ true
under_true None w = refl
under_true (Some x) w = by (w x)
  where
    by : (a : Bool) → (not a || true) ≡ true
    by true = refl
    by false = refl

pub under_both : (whole : Option ℕ) (w : ℕ → Bool) (x y : Bool) → (under whole w x && under whole w y) ≡ under whole w (x && y)
under_both None w x y = refl
under_both (Some v) w x y = by (w v) x y
  where
    by : (a x y : Bool) → ((not a || x) && (not a || y)) ≡ (not a || (x && y))
    by true x y = refl
    by false x y = refl

-- each of some variables is true
each_clause : (whole : Option ℕ) (w : ℕ → Bool) (facts : List ℕ) → list_all (meets_clause w) (map (λ x. is_none whole ++ is_true x ∷ []) facts) ≡ under whole w (list_all w facts)
each_clause whole w [] = sym (under_true whole w)
each_clause whole w (x ∷ facts) =
    ap (λ b. b && list_all (meets_clause w) (map (λ x. is_none whole ++ is_true x ∷ []) facts))
    (denied_clause whole (is_true x ∷ []) w ∙ ap (λ b. under whole w b) (or_false (w x)))
    ∙ (ap (λ b. under whole w (w x) && b) (each_clause whole w facts) ∙ under_both whole w (w x) (list_all w facts))

module _ (gates : List AnyGate) (inputs : List (List ℕ)) (j : ℕ) (a b : Board) where
  -- some clauses say it
  pub goes_all : (more : List (List Literal)) (p : (ℕ → Bool) → Bool) → b.names ≡ a.names → clauses_in b ≡ clauses_in a ++ more → HaveVarsBelow (end_of a.names) more
      → ((w : ℕ → Bool) → p w ≡ list_all (meets_clause w) more) → Says gates inputs j a b p
  goes_all more p names clauses vars e = record {
    names = grows_same j a.names b.names names;
    more = more;
    whole = clauses;
    within = λ before.
        let P : NamesView → Type 0 = λ names. HaveVarsBelow (end_of names) (clauses_in b) in
        subst P (sym names) (clauses_more (clauses_in a) more (clauses_in b) (end_of a.names) (end_of a.names) clauses (omega arith) vars before);
    inputs_too = λ w met own. let P : NamesView → Type 0 = λ n. IsSoundAtInputs gates inputs w n in subst P (sym names) own;
    sound = λ w met below own on.
        e w
        ∙ list_all-from (meets_clause w) more
        (λ clause c. let P : List (List Literal) → Type 0 = λ cs. Contains cs clause in met clause (subst P (sym clauses) (Contains-append_right (clauses_in a) more clause c)));
    complete = λ w faithful on met.
        let P : List (List Literal) → Type 0 = λ cs. Meets cs w in (
          subst P (sym clauses) (meets_more (clauses_in a) more w met (λ clause c. list_all-Contains (meets_clause w) more clause (sym (e w) ∙ on) c)),
          refl,
        );
  }

  pub goes_one : (clause : List Literal) (p : (ℕ → Bool) → Bool) → b.names ≡ a.names → clauses_in b ≡ clauses_in a ++ clause ∷ [] → HasVarsBelow (end_of a.names) clause
      → ((w : ℕ → Bool) → p w ≡ meets_clause w clause) → Says gates inputs j a b p
  goes_one clause p names clauses vars e = goes_all (clause ∷ []) p names clauses (clauses_one (end_of a.names) clause vars) (λ w. e w ∙ and_one (meets_clause w clause))
    where
      and_one : (x : Bool) → x ≡ (x && true)
      and_one true = refl
      and_one false = refl

  -- what an input's literal says
  pub says_input : (whole : Option ℕ) (l : Literal) → IsVarBelow (end_of a.names) whole → AreInputsPlaced inputs a → l.plus ≡ true → b.names ≡ a.names
      → clauses_in b ≡ clauses_in a ++ map (λ x. is_none whole ++ is_true x ∷ []) (slice_index_or inputs l.var [])
      → Says gates inputs j a b (λ w. under whole w (literal_value (inputs_by inputs w) l))
  says_input whole l variable placed on names clauses =
      goes_all (map (λ x. is_none whole ++ is_true x ∷ []) (slice_index_or inputs l.var [])) (λ w. under whole w (literal_value (inputs_by inputs w) l)) names clauses
      (clauses_each (end_of a.names) (is_none whole) (slice_index_or inputs l.var []) (vars_none (end_of a.names) whole variable) (facts_at inputs a l.var placed))
      (λ w.
      ap (λ p. under whole w (cond p (inputs_by inputs w l.var) (not (inputs_by inputs w l.var)))) on ∙ sym (each_clause whole w (slice_index_or inputs l.var [])))

  pub says_no_input : (whole : Option ℕ) (l : Literal) → IsVarBelow (end_of a.names) whole → AreInputsPlaced inputs a → l.plus ≡ false → b.names ≡ a.names
      → clauses_in b ≡ clauses_in a ++ (is_none whole ++ map is_false (slice_index_or inputs l.var [])) ∷ []
      → Says gates inputs j a b (λ w. under whole w (literal_value (inputs_by inputs w) l))
  says_no_input whole l variable placed off names clauses =
      let facts : List ℕ = slice_index_or inputs l.var [] in
      goes_one (is_none whole ++ map is_false facts) (λ w. under whole w (literal_value (inputs_by inputs w) l)) names clauses
      (vars_both (end_of a.names) (is_none whole) (map is_false facts) (vars_none (end_of a.names) whole variable) (vars_false (end_of a.names) facts (facts_at inputs a l.var placed)))
      (λ w.
      ap (λ p. under whole w (cond p (inputs_by inputs w l.var) (not (inputs_by inputs w l.var)))) off
      ∙ (ap (λ b. under whole w b) (sym (negations w facts)) ∙ sym (denied_clause whole (map is_false facts) w)))

  -- beside gates that are still to be said
  pub says_beside : (whole : Option ℕ) (k : ℕ) (stack : List ℕ) (t : (ℕ → Bool) → Bool) → ((w : ℕ → Bool) → truth gates inputs w k ≡ t w) → Says gates inputs j a b (λ w. under whole w (t w))
      → Goes gates inputs j a b (all_under gates inputs whole (k ∷ stack)) (all_under gates inputs whole stack)
  says_beside whole k stack t e h =
      let rest : (ℕ → Bool) → Bool = all_under gates inputs whole stack in
      goes_as gates inputs j a b (λ w. under whole w (t w) && rest w) (all_under gates inputs whole (k ∷ stack)) rest rest
      (λ w. ap (λ b. under whole w (b && list_all (truth gates inputs w) stack)) (e w) ∙ sym (under_both whole w (t w) (list_all (truth gates inputs w) stack))) (λ w. refl)
      (goes_beside gates inputs j a b (λ w. under whole w (t w)) (λ w. true) rest h)

module _ (gates : List AnyGate) (inputs : List (List ℕ)) (j k : ℕ) (placed : ArePlaced gates) where
  by_gate : (gate : AnyGate) → slice_get gates k ≡ Some gate → (w : ℕ → Bool) → truth gates inputs w k ≡ gate_value (inputs_by inputs w) (values_of (inputs_by inputs w) gates) gate
  by_gate gate at w = value_of-at (inputs_by inputs w) gates k gate placed at

  module _ (a b : Board) (whole : Option ℕ) (stack : List ℕ) where
    pub says_yes : slice_get gates k ≡ Some Yes → Goes gates inputs j a a (all_under gates inputs whole (k ∷ stack)) (all_under gates inputs whole stack)
    says_yes at =
        same_board gates inputs j a (all_under gates inputs whole (k ∷ stack)) (all_under gates inputs whole stack)
        (λ w. ap (λ b. under whole w (b && list_all (truth gates inputs w) stack)) (sym (by_gate Yes at w)))

    pub says_no : slice_get gates k ≡ Some No → IsVarBelow (end_of a.names) whole → b.names ≡ a.names → clauses_in b ≡ clauses_in a ++ is_none whole ∷ []
        → Goes gates inputs j a b (all_under gates inputs whole (k ∷ stack)) (all_under gates inputs whole stack)
    says_no at variable names clauses =
        says_beside gates inputs j a b whole k stack (λ w. false) (λ w. by_gate No at w)
        (goes_one gates inputs j a b (is_none whole) (λ w. under whole w false) names clauses (vars_none (end_of a.names) whole variable) (λ w. none w whole))
      where
        none : (w : ℕ → Bool) (whole : Option ℕ) → under whole w false ≡ meets_clause w (is_none whole)
        none w None = refl
        none w (Some x) = refl

    pub says_leaf : (l : Literal) → slice_get gates k ≡ Some (Leaf l) → Says gates inputs j a b (λ w. under whole w (literal_value (inputs_by inputs w) l))
        → Goes gates inputs j a b (all_under gates inputs whole (k ∷ stack)) (all_under gates inputs whole stack)
    says_leaf l at h = says_beside gates inputs j a b whole k stack (λ w. literal_value (inputs_by inputs w) l) (λ w. by_gate (Leaf l) at w) h

    pub says_one : (x y : ℕ) → slice_get gates k ≡ Some (Either x y) → Says gates inputs j a b (λ w. under whole w (truth gates inputs w x || truth gates inputs w y))
        → Goes gates inputs j a b (all_under gates inputs whole (k ∷ stack)) (all_under gates inputs whole stack)
    says_one x y at h = says_beside gates inputs j a b whole k stack (λ w. truth gates inputs w x || truth gates inputs w y) (λ w. by_gate (Either x y) at w) h

    pub says_both : (x y : ℕ) (new : List ℕ) → slice_get gates k ≡ Some (Both x y) → new ≡ (stack ++ y ∷ []) ++ x ∷ []
        → Goes gates inputs j a a (all_under gates inputs whole (k ∷ stack)) (all_under gates inputs whole new)
    says_both x y new at e =
        same_board gates inputs j a (all_under gates inputs whole (k ∷ stack)) (all_under gates inputs whole new)
        (λ w.
        let t : ℕ → Bool = truth gates inputs w in
        ap (λ b. under whole w b)
        (ap (list_all t) e
        ∙ (list_all-append t (stack ++ y ∷ []) (x ∷ [])
        ∙ (ap (λ b. b && (t x && true)) (list_all-append t stack (y ∷ [])) ∙ (order (list_all t stack) (t x) (t y) ∙ ap (λ b. b && list_all t stack) (sym (by_gate (Both x y) at w)))))))
      where
        order : (s x y : Bool) → ((s && (y && true)) && (x && true)) ≡ ((x && y) && s)
        order true true true = refl
        order true true false = refl
        order true false true = refl
        order true false false = refl
        order false true true = refl
        order false true false = refl
        order false false y = refl

  pub stack_below : (below x y : ℕ) (stack new : List ℕ) → slice_get gates k ≡ Some (Both x y) → k ≤ below → new ≡ (stack ++ y ∷ []) ++ x ∷ [] → All (λ k. k < below) stack → All (λ k. k < below) new
  stack_below below x y stack new at le e all =
      let B : ℕ → Type 0 = λ k. k < below in
      let P : List ℕ → Type 0 = λ ks. All B ks in
      let (first, second) = placed k (Both x y) at in
      subst P (sym e) (All-append B (stack ++ y ∷ []) (x ∷ []) (All-append B stack (y ∷ []) all (all_one B y (omega (arith, second, le)))) (all_one B x (omega (arith, first, le))))

-- a gate, by its variable
pub says_named : (gates : List AnyGate) (inputs : List (List ℕ)) (j : ℕ) (a b c : Board) (whole : Option ℕ) (k x : ℕ) → k < j → IsVarBelow (end_of a.names) whole → HasGate k a b x → c.names ≡ b.names
    → clauses_in c ≡ clauses_in b ++ (is_none whole ++ is_true x ∷ []) ∷ [] → Says gates inputs j a c (λ w. under whole w (truth gates inputs w k))
says_named gates inputs j a b c whole k x lt variable h names clauses =
    let end = end_of b.names in
    let more = var_later (end_of a.names) end whole (end_rises j a.names b.names (h.named.grows j lt)) variable in
    let asked : (ℕ → Bool) → Bool = λ w. under whole w (truth gates inputs w k) in
    let off : (ℕ → Bool) → Bool = λ w. not (is_asked whole w) in
    let turned : (ℕ → Bool) → Bool = λ w. truth gates inputs w k || off w in
    let named = goes_as gates inputs j a b asked asked asked turned (λ w. refl) (λ w. or_comm (truth gates inputs w k) (off w)) (goes_named gates inputs j a b k x asked lt h) in
    let by_name = goes_by_name gates inputs j a b k x asked off lt h.named.is named in
    let last = goes_one gates inputs j b c (is_none whole ++ is_true x ∷ []) (λ w. w x || off w) names clauses
    (vars_both end (is_none whole) (is_true x ∷ []) (vars_none end whole more) (vars_one end (is_true x) (named_below b.names (Gate k) x h.named.is)))
    (λ w. or_comm (w x) (off w) ∙ (ap (λ b. off w || b) (sym (or_false (w x))) ∙ sym (denied_clause whole (is_true x ∷ []) w))) in
    goes_trans gates inputs j a b c asked (λ w. w x || off w) (λ w. true) by_name last

module _ (gates : List AnyGate) (inputs : List (List ℕ)) (j : ℕ) (whole : Option ℕ) where
  abbrev of : List ℕ → (ℕ → Bool) → Bool
  of stack = all_under gates inputs whole stack

  -- the gates of a stack are said so far
  pub record AreSaid (start : Board) (first : List ℕ) (now : Board) (stack : List ℕ) : Type 0 where
    pub goes : Goes gates inputs j start now (of first) (of stack)
    pub below : All (λ k. k < j) stack
    pub placed : IsPlacedFor gates inputs j now
    pub variable : IsVarBelow (end_of now.names) whole

  popped_all : (stack new : List ℕ) (k : ℕ) → stack ≡ new ++ k ∷ [] → (w : ℕ → Bool) → of stack w ≡ of (k ∷ new) w
  popped_all stack new k e w =
      let t : ℕ → Bool = truth gates inputs w in
      ap (λ b. under whole w b) (ap (list_all t) e ∙ (list_all-append t new (k ∷ []) ∙ turn (list_all t new) (t k)))
    where
      turn : (a b : Bool) → (a && (b && true)) ≡ (b && a)
      turn true true = refl
      turn true false = refl
      turn false true = refl
      turn false false = refl

  -- one gate gives way to others
  pub said_on : (start : Board) (first : List ℕ) (now new : Board) (stack mid later : List ℕ) (k : ℕ) → AreSaid start first now stack → stack ≡ mid ++ k ∷ []
      → Goes gates inputs j now new (of (k ∷ mid)) (of later) → All (λ k. k < j) later → AreSaid start first new later
  said_on start first now new stack mid later k h e step below = record {
    goes = goes_trans gates inputs j start now new (of first) (of stack) (of later) h.goes
        (goes_as gates inputs j now new (of (k ∷ mid)) (of stack) (of later) (of later) (popped_all stack mid k e) (λ w. refl) step);
    below = below;
    placed = placed_later gates inputs j j now new step.names h.placed;
    variable = var_later (end_of now.names) (end_of new.names) whole (end_rises j now.names new.names step.names) h.variable;
  }

  pub said_popped : (stack mid : List ℕ) (k : ℕ) → stack ≡ mid ++ k ∷ [] → All (λ k. k < j) stack → (k < j) × All (λ k. k < j) mid
  said_popped stack mid k e all =
      let P : List ℕ → Type 0 = λ ks. All (λ k. k < j) ks in
      let all' = subst P e all in
      (all_at_last (λ k. k < j) mid k all', all_at_front (λ k. k < j) mid (k ∷ []) all')

  pub says_by_name : (a b : Board) (k : ℕ) (stack : List ℕ) → Says gates inputs j a b (λ w. under whole w (truth gates inputs w k)) → Goes gates inputs j a b (of (k ∷ stack)) (of stack)
  says_by_name a b k stack h = says_beside gates inputs j a b whole k stack (λ w. truth gates inputs w k) (λ w. refl) h

  -- all of it
  pub says_whole : (a b c d : Board) (k : ℕ) (s1 s2 s3 : List ℕ) → Goes gates inputs j a b (of (k ∷ [])) (of s1) → Goes gates inputs j b c (of s1) (of s2) → Goes gates inputs j c d (of s2) (of s3) → s3 ≡ []
      → Says gates inputs j a d (λ w. under whole w (truth gates inputs w k))
  says_whole a b c d k s1 s2 s3 p q r none =
      goes_as gates inputs j a d (of (k ∷ [])) (λ w. under whole w (truth gates inputs w k)) (of s3) (λ w. true) (λ w. ap (λ b. under whole w b) (and_one (truth gates inputs w k)))
      (λ w. sym (under_true whole w) ∙ ap (λ ks. of ks w) (sym none))
      (goes_trans gates inputs j a c d (of (k ∷ [])) (of s2) (of s3) (goes_trans gates inputs j a b c (of (k ∷ [])) (of s1) (of s2) p q) r)
    where
      and_one : (x : Bool) → x ≡ (x && true)
      and_one true = refl
      and_one false = refl
