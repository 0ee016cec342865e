-- How what clauses say goes on.
use Rattle.std.proofs.Common.{◌≡◌, ℕ, ◌<◌, ◌+◌, Bool, true, false, ◌&&◌, ◌||◌, inl, inr, refl, sym, ◌∙◌, List, [], ◌∷◌, ◌++◌, Some, ap, subst, slice_get, arith, Contains, append_assoc, append-nil}
use Rattle.std.proofs.lemmas.List.Elements.{Contains-append_cases, Contains-append_left, Contains-append_right}
use Rattle.form_formula.proofs.Placement.{slice_get_front}
use Rattle.form_terms.proofs.Lists.{Contains-head, Contains-cons_cases, Contains-none}
use Rattle.ground_gates.specs.declared.gate.Gate.{Gate as AnyGate}
use Rattle.ground_gates.specs.declared.gate.Literal.{Literal}
use Rattle.ground_gates.specs.Clauses.{HasVarsBelow, HaveVarsBelow, Meets, meets_clause}
use Rattle.ground_gates.specs.declared.board.Board.{Board}
use Rattle.ground_gates.specs.declared.names.Owner.{Owner}
use Rattle.ground_gates.specs.declared.names.Owner.TheVariants.{Gate, Input}
use Rattle.ground_gates.specs.Meaning.{IsFaithful, IsSoundBelow, IsSoundAtInputs, truth, input_truth}
use Rattle.ground_gates.specs.Names.{NamesView, Grows, IsNamed, end_of}
use Rattle.ground_gates.specs.Said.{clauses_in, IsPushed, HasGate, Goes}
use Rattle.ground_gates.proofs.VarsBelow.{clauses_more, clauses_one, clauses_same, end_rises}

pub grows_same : (j : ℕ) (old new : NamesView) → new ≡ old → Grows j old new
grows_same j old new e = record {
  base = ap (λ n. n.base) e;
  places = ap (λ n. n.places) e;
  input_places = ap (λ n. n.input_places) e;
  more = [];
  whole = ap (λ n. n.owners) e ∙ sym (append-nil old.owners);
  below = λ o c. Contains-none o c;
}

pub grows_trans : (j : ℕ) (a b c : NamesView) → Grows j a b → Grows j b c → Grows j a c
grows_trans j a b c p q = record {
  base = q.base ∙ p.base;
  places = q.places ∙ p.places;
  input_places = q.input_places ∙ p.input_places;
  more = p.more ++ q.more;
  whole = q.whole ∙ (ap (λ xs. xs ++ q.more) p.whole ∙ append_assoc a.owners p.more q.more);
  below = λ o here. elim (Contains-append_cases p.more q.more o here) [ inl x ↦ p.below o x | inr x ↦ q.below o x ];
}

pub meets_front : (old new more : List (List Literal)) (w : ℕ → Bool) → new ≡ old ++ more → Meets new w → Meets old w
meets_front old new more w e met clause here =
    let P : List (List Literal) → Type 0 = λ cs. Contains cs clause in
    met clause (subst P (sym e) (Contains-append_left old more clause here))

pub meets_more : (old more : List (List Literal)) (w : ℕ → Bool) → Meets old w → Meets more w → Meets (old ++ more) w
meets_more old more w p q clause here = elim (Contains-append_cases old more clause here) [ inl x ↦ p clause x | inr x ↦ q clause x ]

pub meets_one : (clause : List Literal) (w : ℕ → Bool) → meets_clause w clause ≡ true → Meets (clause ∷ []) w
meets_one clause w e other here =
    elim (Contains-cons_cases clause [] other here) [
      | inl same ↦ let P : List Literal → Type 0 = λ c. meets_clause w c ≡ true in subst P same e
      | inr none ↦ Contains-none other none
    ]

either : (t x q : Bool) → (x ≡ true → t ≡ true) → (x || q) ≡ true → (t || q) ≡ true
either t true q f e = ap (λ b. b || q) (f refl)
either true false q f e = refl
either false false q f e = e

module _ (gates : List AnyGate) (inputs : List (List ℕ)) where
  module _ (j : ℕ) (old new : NamesView) (grows : Grows j old new) (w : ℕ → Bool) where
    at_front : (n : ℕ) (o : Owner) → slice_get old.owners n ≡ Some o → slice_get new.owners n ≡ Some o
    at_front n o e = ap (λ xs. slice_get xs n) grows.whole ∙ slice_get_front old.owners grows.more n o e

    same_place : (n : ℕ) → w (new.base + n) ≡ w (old.base + n)
    same_place n = ap (λ b. w (b + n)) grows.base

    pub faithful_front : IsFaithful gates inputs w new → IsFaithful gates inputs w old
    faithful_front h n o e = sym (same_place n) ∙ h n o (at_front n o e)

    pub sound_front : (i : ℕ) → IsSoundBelow gates inputs w i new → IsSoundBelow gates inputs w i old
    sound_front i h n k e lt on = h n k (at_front n (Gate k) e) lt (same_place n ∙ on)

    pub inputs_front : IsSoundAtInputs gates inputs w new → IsSoundAtInputs gates inputs w old
    inputs_front h n k e on = h n k (at_front n (Input k) e) (same_place n ∙ on)

  abbrev Asked : Type 0
  Asked = (ℕ → Bool) → Bool

  module _ (j : ℕ) where
    -- nothing is new
    pub goes_same : (old new : Board) (p : Asked) → new.names ≡ old.names → clauses_in new ≡ clauses_in old → Goes gates inputs j old new p p
    goes_same old new p names clauses = record {
      names = grows_same j old.names new.names names;
      more = [];
      whole = clauses ∙ sym (append-nil (clauses_in old));
      within = λ h. clauses_same (end_of old.names) (end_of new.names) (clauses_in old) (clauses_in new) clauses (end_rises j old.names new.names (grows_same j old.names new.names names)) h;
      inputs_too = λ w met h. let P : NamesView → Type 0 = λ n. IsSoundAtInputs gates inputs w n in subst P (sym names) h;
      sound = λ w met below own on. on;
      complete = λ w faithful on met. let P : List (List Literal) → Type 0 = λ cs. Meets cs w in (subst P (sym clauses) met, on);
    }

    pub goes_trans : (a b c : Board) (p q r : Asked) → Goes gates inputs j a b p q → Goes gates inputs j b c q r → Goes gates inputs j a c p r
    goes_trans a b c p q r first second = record {
      names = grows_trans j a.names b.names c.names first.names second.names;
      more = first.more ++ second.more;
      whole = second.whole ∙ (ap (λ cs. cs ++ second.more) first.whole ∙ append_assoc (clauses_in a) first.more second.more);
      within = λ h. second.within (first.within h);
      inputs_too = λ w met h. second.inputs_too w met (first.inputs_too w (front w met) h);
      sound = λ w met below own on.
          first.sound w (front w met) (sound_front j b.names c.names second.names w j below) (inputs_front j b.names c.names second.names w own)
          (second.sound w met below own on);
      complete = λ w faithful on met.
          let (met', on') = first.complete w (faithful_front j b.names c.names second.names w faithful) on met in
          second.complete w faithful on' met';
    }
      where
        front : (w : ℕ → Bool) → Meets (clauses_in c) w → Meets (clauses_in b) w
        front w met = meets_front (clauses_in b) (clauses_in c) second.more w second.whole met

    -- what is asked and what is left, as others that are so at the same time
    pub goes_as : (a b : Board) (p p' q q' : Asked) → ((w : ℕ → Bool) → p' w ≡ p w) → ((w : ℕ → Bool) → q' w ≡ q w) → Goes gates inputs j a b p q → Goes gates inputs j a b p' q'
    goes_as a b p p' q q' e d h = record {
      names = h.names;
      more = h.more;
      whole = h.whole;
      within = h.within;
      inputs_too = h.inputs_too;
      sound = λ w met below own on. e w ∙ h.sound w met below own (sym (d w) ∙ on);
      complete = λ w faithful on met. let (met', on') = h.complete w faithful (sym (e w) ∙ on) met in (met', d w ∙ on');
    }

    left_true : (a b : Bool) → (a && b) ≡ true → a ≡ true
    left_true true b e = refl
    left_true false b e = cc

    right_true : (a b : Bool) → (a && b) ≡ true → b ≡ true
    right_true true b e = e
    right_true false b e = cc

    both_true : (a b : Bool) → a ≡ true → b ≡ true → (a && b) ≡ true
    both_true true b e d = d
    both_true false b e d = cc

    -- beside something else that is still to be said
    pub goes_beside : (a b : Board) (p q r : Asked) → Goes gates inputs j a b p q → Goes gates inputs j a b (λ w. p w && r w) (λ w. q w && r w)
    goes_beside a b p q r h = record {
      names = h.names;
      more = h.more;
      whole = h.whole;
      within = h.within;
      inputs_too = h.inputs_too;
      sound = λ w met below own on. both_true (p w) (r w) (h.sound w met below own (left_true (q w) (r w) on)) (right_true (q w) (r w) on);
      complete = λ w faithful on met.
          let (met', on') = h.complete w faithful (left_true (p w) (r w) on) met in
          (met', both_true (q w) (r w) on' (right_true (p w) (r w) on));
    }

    -- a clause says it
    pub goes_pushed : (a b : Board) (clause : List Literal) (p : Asked) → IsPushed a b clause → HasVarsBelow (end_of a.names) clause → ((w : ℕ → Bool) → p w ≡ meets_clause w clause)
        → Goes gates inputs j a b p (λ w. true)
    goes_pushed a b clause p h vars e = record {
      names = grows_same j a.names b.names h.names;
      more = clause ∷ [];
      whole = h.clauses;
      within =
          let P : NamesView → Type 0 = λ names. HaveVarsBelow (end_of names) (clauses_in b) in
          λ before.
          subst P (sym h.names)
          (clauses_more (clauses_in a) (clause ∷ []) (clauses_in b) (end_of a.names) (end_of a.names) h.clauses (omega arith) (clauses_one (end_of a.names) clause vars) before);
      inputs_too = λ w met own. let P : NamesView → Type 0 = λ n. IsSoundAtInputs gates inputs w n in subst P (sym h.names) own;
      sound = λ w met below own on.
          let P : List (List Literal) → Type 0 = λ cs. Contains cs clause in
          e w ∙ met clause (subst P (sym h.clauses) (Contains-append_right (clauses_in a) (clause ∷ []) clause (Contains-head clause [])));
      complete = λ w faithful on met.
          let P : List (List Literal) → Type 0 = λ cs. Meets cs w in
          (subst P (sym h.clauses) (meets_more (clauses_in a) (clause ∷ []) w met (meets_one clause w (sym (e w) ∙ on))), refl);
    }

    -- a gate has a variable
    pub goes_named : (a b : Board) (k x : ℕ) (p : Asked) → k < j → HasGate k a b x → Goes gates inputs j a b p p
    goes_named a b k x p lt h = record {
      names = h.named.grows j lt;
      more = [];
      whole = h.clauses ∙ sym (append-nil (clauses_in a));
      within = λ before. clauses_same (end_of a.names) (end_of b.names) (clauses_in a) (clauses_in b) h.clauses (end_rises j a.names b.names (h.named.grows j lt)) before;
      inputs_too = λ w met own. inputs_kept w own;
      sound = λ w met below own on. on;
      complete = λ w faithful on met. let P : List (List Literal) → Type 0 = λ cs. Meets cs w in (subst P (sym h.clauses) met, on);
    }
      where
        inputs_kept : (w : ℕ → Bool) → IsSoundAtInputs gates inputs w a.names → IsSoundAtInputs gates inputs w b.names
        inputs_kept w own n i e on =
            own n i (h.named.inputs n i e) (sym (ap (λ base. w (base + n)) (h.named.grows j lt).base) ∙ on)

    -- and it is true where the gate is
    pub goes_by_name : (a b : Board) (k x : ℕ) (p q : Asked) → k < j → IsNamed b.names (Gate k) x → Goes gates inputs j a b p (λ w. truth gates inputs w k || q w)
        → Goes gates inputs j a b p (λ w. w x || q w)
    goes_by_name a b k x p q lt (n, is, at) h = record {
      names = h.names;
      more = h.more;
      whole = h.whole;
      within = h.within;
      inputs_too = h.inputs_too;
      sound = λ w met below own on. h.sound w met below own (either (truth gates inputs w k) (w x) (q w) (λ e. below n k at lt (sym (ap w is) ∙ e)) on);
      complete = λ w faithful on met.
          let (met', on') = h.complete w faithful on met in
          (met', ap (λ b. b || q w) (ap w is ∙ faithful n (Gate k) at) ∙ on');
    }

    -- and so for an input
    pub goes_by_input : (a b : Board) (k x : ℕ) (p q : Asked) → IsNamed b.names (Input k) x → Goes gates inputs j a b p (λ w. input_truth gates inputs w k || q w)
        → Goes gates inputs j a b p (λ w. w x || q w)
    goes_by_input a b k x p q (n, is, at) h = record {
      names = h.names;
      more = h.more;
      whole = h.whole;
      within = h.within;
      inputs_too = h.inputs_too;
      sound = λ w met below own on. h.sound w met below own (either (input_truth gates inputs w k) (w x) (q w) (λ e. own n k at (sym (ap w is) ∙ e)) on);
      complete = λ w faithful on met.
          let (met', on') = h.complete w faithful on met in
          (met', ap (λ b. b || q w) (ap w is ∙ faithful n (Input k) at) ∙ on');
    }
