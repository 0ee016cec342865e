-- The variables of the theory's literals, and what a conflict of the theory says of the marked ones.
use Rattle.std.proofs.Common.{◌≡◌, ℕ, zero, suc, ◌<◌, ◌-◌, Bool, cond, not, List, [], ◌∷◌, ◌++◌, length, get_or, Option, Some, None, IsTrue, inl, inr, refl, sym, ap, subst, ◌∙◌, arith}
use Rattle.std.specs.List.{All, AllZip, Contains, slice_get, slice_index, cons_option}
use Rattle.std.specs.Option.{option_map, option_to_list}
use Rattle.std.proofs.lemmas.Bool.{cases_eq, cases_lt, cases_Bool}
use Rattle.std.proofs.lemmas.List.{append-nil, length-append, get_or_append_left, get_or-append_right}
use Rattle.std.proofs.lemmas.List.Elements.{All-nil, All-cons, All-head, All-tail}
use Rattle.std.proofs.lemmas.Option.{slice_get_within, get_or_from_slice_get}
use Rattle.solve_theory.specs.Models.{IsCore, literals_at}
use Rattle.solve_theory.proofs.Models.{IsCore-refutes}
use Rattle.solve_solver.specs.declared.literal.PLit.{PLit}
use Rattle.solve_solver.specs.declared.trail.Entry.{Entry}
use Rattle.solve_solver.specs.Assignment.{value_at, literal_value, negated, theory_literals}
use Rattle.solve_solver.specs.Marks.{AgreesMarked, ForcesMarked}
use Rattle.solve_solver.specs.ContextView.{ContextView, Lawful, IsKeptContext}
use Rattle.solve_solver.specs.Trail.{value_in, IsTrail, literal_of, trail_literals, trail_places}
use Rattle.solve_solver.proofs.Entailment.{literal_value-negated}
use Rattle.solve_solver.proofs.Trails.{value_in-here, value_in-other}
use Rattle.solve_solver.proofs.TheoryLists.{theory_literals-has, literal_of-among}

-- the theory's literal for a variable that is set
record IsPlaced {L : Type 0} (vars : ℕ) (atoms : List (Option (L × L))) (es : List Entry) (v : ℕ) (x : L) : Type 0 where
  value : Bool
  pair : L × L
  within : v < vars
  is_set : value_in es v ≡ Some value
  atom : get_or atoms v None ≡ Some pair
  is : x ≡ cond value pair.0 pair.1

AllZip-weaker : {A B : Type 0} (P Q : A → B → Type 0) → ((x : A) (y : B) → P x y → Q x y) → (xs : List A) (ys : List B) → AllZip P xs ys → AllZip Q xs ys
AllZip-weaker P Q f [] [] h = h
AllZip-weaker P Q f [] (y ∷ ys) h = h
AllZip-weaker P Q f (x ∷ xs) [] h = h
AllZip-weaker P Q f (x ∷ xs) (y ∷ ys) h = (f x y h.0, AllZip-weaker P Q f xs ys h.1)

IsPlaced-pushed : {L : Type 0} (vars : ℕ) (atoms : List (Option (L × L))) (e : Entry) (es : List Entry) → value_in es e.literal.var ≡ None → (v : ℕ) (x : L) → IsPlaced vars atoms es v x → IsPlaced vars atoms (e ∷ es) v x
IsPlaced-pushed vars atoms e es fresh v x h = record {
  value = h.value;
  pair = h.pair;
  within = h.within;
  is_set = elim (cases_eq e.literal.var v) [
    | inl q ↦ let none : value_in es v ≡ None = ap (value_in es) (sym q) ∙ fresh in let some = h.is_set in cc
    | inr q ↦ value_in-other e es v q ∙ h.is_set
  ];
  atom = h.atom;
  is = h.is;
}

AllZip-pushed : {A B : Type 0} (R : A → B → Type 0) (xs : List A) (ys : List B) (x : A) (y : B) → AllZip R xs ys → R x y → AllZip R (xs ++ x ∷ []) (ys ++ y ∷ [])
AllZip-pushed R [] [] x y h r = (r, tt)
AllZip-pushed R [] (b ∷ ys) x y h r = absurd h
AllZip-pushed R (a ∷ xs) [] x y h r = absurd h
AllZip-pushed R (a ∷ xs) (b ∷ ys) x y h r = (h.0, AllZip-pushed R xs ys x y h.1 r)

AllZip-at : {A B : Type 0} (R : A → B → Type 0) (xs : List A) (ys : List B) (d : A) (e : B) (p : ℕ) → AllZip R xs ys → p < length ys → R (get_or xs p d) (get_or ys p e)
AllZip-at R [] [] d e p h l = absurd (omega arith)
AllZip-at R [] (b ∷ ys) d e p h l = absurd h
AllZip-at R (a ∷ xs) [] d e p h l = absurd h
AllZip-at R (a ∷ xs) (b ∷ ys) d e zero h l = h.0
AllZip-at R (a ∷ xs) (b ∷ ys) d e (suc p) h l = AllZip-at R xs ys d e p h.1 (omega arith)

AllZip-length : {A B : Type 0} (R : A → B → Type 0) (xs : List A) (ys : List B) → AllZip R xs ys → length xs ≡ length ys
AllZip-length R [] [] h = refl
AllZip-length R [] (b ∷ ys) h = absurd h
AllZip-length R (a ∷ xs) [] h = absurd h
AllZip-length R (a ∷ xs) (b ∷ ys) h = ap (λ n. suc n) (AllZip-length R xs ys h.1)

one_placed : {L : Type 0} (vars : ℕ) (atoms : List (Option (L × L))) (e : Entry) (es : List Entry) (o : Option (L × L)) → IsTrail vars (e ∷ es) → get_or atoms e.literal.var None ≡ o → AllZip (IsPlaced vars atoms (e ∷ es)) (trail_places atoms es) (trail_literals atoms es)
    → AllZip (IsPlaced vars atoms (e ∷ es)) (trail_places atoms es ++ option_to_list (option_map (λ _. e.literal.var) (option_map (λ (pair : L × L). cond e.literal.plus pair.0 pair.1) o))) (trail_literals atoms es ++ option_to_list (option_map (λ (pair : L × L). cond e.literal.plus pair.0 pair.1) o))
one_placed vars atoms e es None t q before = rw (append-nil (trail_places atoms es), append-nil (trail_literals atoms es)) before
one_placed vars atoms e es (Some p) t q before =
    AllZip-pushed (IsPlaced vars atoms (e ∷ es)) (trail_places atoms es) (trail_literals atoms es) e.literal.var (cond e.literal.plus p.0 p.1) before
    (record {
      value = e.literal.plus;
      pair = p;
      within = t.0;
      is_set = value_in-here e es e.literal.var refl;
      atom = q;
      is = refl;
    })

all_placed : {L : Type 0} (vars : ℕ) (atoms : List (Option (L × L))) (es : List Entry) → IsTrail vars es → AllZip (IsPlaced vars atoms es) (trail_places atoms es) (trail_literals atoms es)
all_placed vars atoms [] t = tt
all_placed vars atoms (e ∷ es) t =
    one_placed vars atoms e es (get_or atoms e.literal.var None) t refl
    (AllZip-weaker (IsPlaced vars atoms es) (IsPlaced vars atoms (e ∷ es)) (IsPlaced-pushed vars atoms e es t.1.0)
    (trail_places atoms es) (trail_literals atoms es) (all_placed vars atoms es t.1.1))

pub length-trail_places : {L : Type 0} (vars : ℕ) (atoms : List (Option (L × L))) (es : List Entry) → IsTrail vars es → length (trail_places atoms es) ≡ length (trail_literals atoms es)
length-trail_places vars atoms es t = AllZip-length (IsPlaced vars atoms es) (trail_places atoms es) (trail_literals atoms es) (all_placed vars atoms es t)

-- the variables of the theory's literals are variables
pub trail_places-within : {L : Type 0} (vars : ℕ) (atoms : List (Option (L × L))) (es : List Entry) → IsTrail vars es → All (λ v. v < vars) (trail_places atoms es)
trail_places-within {L} vars atoms es t =
    within_all (trail_places atoms es) (trail_literals atoms es) (all_placed vars atoms es t)
  where
    within_all : (vs : List ℕ) (xs : List L) → AllZip (IsPlaced vars atoms es) vs xs → All (λ v. v < vars) vs
    within_all [] xs h = All-nil (λ v. v < vars)
    within_all (v ∷ vs) [] h = absurd h
    within_all (v ∷ vs) (x ∷ xs) h = All-cons (λ v. v < vars) v vs h.0.within (within_all vs xs h.1)

cons_option-All : {X : Type 0} (P : X → Type 0) (o : Option X) (rest : List X) → ((x : X) → o ≡ Some x → P x) → All P rest → All P (cons_option o rest)
cons_option-All P None rest first others = others
cons_option-All P (Some x) rest first others = All-cons P x rest (first x refl) others

literals_at-All : {L : Type 0} (P : L → Type 0) (Q : ℕ → Type 0) (xs : List L) (ps : List ℕ) → ((p : ℕ) (x : L) → Q p → slice_get xs p ≡ Some x → P x) → All Q ps → All P (literals_at xs ps)
literals_at-All P Q xs [] f h = All-nil P
literals_at-All P Q xs (p ∷ ps) f h =
    cons_option-All P (slice_get xs p) (literals_at xs ps) (λ x e. f p x (All-head Q p ps h) e) (literals_at-All P Q xs ps f (All-tail Q p ps h))

module _ {T M L : Type 0} (literals : T → List L) (capacity : T → ℕ) (takes : T → L → Bool) (models : T → M → Bool) (meets : M → L → Bool) (s : ContextView T L) (places : List ℕ) (places_room core_room : ℕ) (kept : IsKeptContext literals capacity takes models meets s places places_room core_room) where
  -- the literals of a conflict are among those of an assignment that has the marked ones and the refused one
  conflict_among : (last : List L) (marks : List Bool) (positions : List ℕ) (a : List Bool) → All (Contains (theory_literals a s.atoms)) last → length a ≡ s.vars → AgreesMarked a marks s.entries → All (λ p. p < length places → IsTrue (value_at marks (slice_index places p))) positions
      → All (Contains (theory_literals a s.atoms)) (literals_at (literals s.theory ++ last) positions)
  conflict_among last marks positions a among_last one_each agrees marked =
      literals_at-All (Contains (theory_literals a s.atoms)) (λ p. p < length places → IsTrue (value_at marks (slice_index places p))) (literals s.theory ++ last) positions at_place marked
    where
      zipped : AllZip (IsPlaced s.vars s.atoms s.entries) places (literals s.theory)
      zipped = rw (kept.places_in_step, kept.state.in_step) (all_placed s.vars s.atoms s.entries kept.state.is_trail)

      at_place : (p : ℕ) (x : L) → (p < length places → IsTrue (value_at marks (slice_index places p))) → slice_get (literals s.theory ++ last) p ≡ Some x → Contains (theory_literals a s.atoms) x
      at_place p x m e =
          let inside = slice_get_within (literals s.theory ++ last) p x e in
          let is : get_or (literals s.theory ++ last) p x ≡ x = get_or_from_slice_get (literals s.theory ++ last) p x x e in
          elim (cases_lt p (length (literals s.theory))) [
            | inl front ↦
                let placed : IsPlaced s.vars s.atoms s.entries (get_or places p 0) (get_or (literals s.theory) p x) = AllZip-at (IsPlaced s.vars s.atoms s.entries) places (literals s.theory) 0 x p zipped front in
                let here : IsTrue (value_at marks (get_or places p 0)) = m (omega (arith, AllZip-length (IsPlaced s.vars s.atoms s.entries) places (literals s.theory) zipped)) in
                let value : value_at a (get_or places p 0) ≡ placed.value = agrees (get_or places p 0) placed.value placed.is_set here in
                let same : x ≡ cond (value_at a (get_or places p 0)) placed.pair.0 placed.pair.1 =
                sym is ∙ get_or_append_left (literals s.theory) last x p front ∙ placed.is ∙ ap (λ b. cond b placed.pair.0 placed.pair.1) (sym value) in
                subst (Contains (theory_literals a s.atoms)) (sym same) (theory_literals-has a s.atoms (get_or places p 0) placed.pair (omega (arith, placed.within, one_each)) placed.atom)
            | inr behind ↦
                let read : get_or last (p - length (literals s.theory)) x ≡ x = sym (get_or-append_right (literals s.theory) last (length (literals s.theory)) p x refl behind) ∙ is in
                subst (Contains (theory_literals a s.atoms)) read (among_last (p - length (literals s.theory)) x (omega (arith, length-append (literals s.theory) last)))
          ]

  -- a literal that the theory refuses is false where the assignment has the marked ones
  pub conflict_forces : (l : PLit) (marks : List Bool) (positions : List ℕ) → l.var < s.vars → IsCore (models s.theory) meets (literals s.theory ++ option_to_list (literal_of s.atoms l)) positions → All (λ p. p < length places → IsTrue (value_at marks (slice_index places p))) positions → ForcesMarked (Lawful models meets s) marks s.entries (negated l)
  conflict_forces l marks positions within core marked a lawful agrees = elim (cases_Bool (literal_value a l)) [
    | inl t ↦ absurd (IsCore-refutes (models s.theory) meets (literals s.theory ++ option_to_list (literal_of s.atoms l)) positions core (theory_literals a s.atoms)
        (conflict_among (option_to_list (literal_of s.atoms l)) marks positions a (literal_of-among a s.atoms l (omega (arith, lawful.one_each)) t) lawful.one_each agrees marked) lawful.has_model)
    | inr f ↦ literal_value-negated a l ∙ ap not f
  ]
