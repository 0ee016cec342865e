-- The theory's literals of an assignment beside those of a trail.
use Rattle.std.proofs.Common.{◌≡◌, ℕ, zero, suc, ◌<◌, Bool, true, cond, List, [], ◌∷◌, length, get_or, Option, Some, None, inl, inr, refl, sym, ap, ◌∙◌, arith}
use Rattle.std.specs.List.{All, Contains}
use Rattle.std.specs.Option.{option_map, option_to_list}
use Rattle.std.proofs.lemmas.Bool.{cases_eq}
use Rattle.std.proofs.lemmas.List.Elements.{All-append, All-nil, All-cons, Contains-append_left, Contains-append_right}
use Rattle.solve_solver.specs.declared.literal.PLit.{PLit}
use Rattle.solve_solver.specs.declared.trail.Entry.{Entry}
use Rattle.solve_solver.specs.Assignment.{value_at, literal_value, theory_literals}
use Rattle.solve_solver.specs.Trail.{value_in, Agrees, IsTrail, literal_of, trail_literals}
use Rattle.solve_solver.proofs.Trails.{value_in-here, value_in-other}
use Rattle.solve_solver.proofs.Entailment.{value_from_true}

Contains-first : {X : Type 0} (x : X) (xs : List X) → Contains (x ∷ xs) x
Contains-first x xs = (0, omega arith, refl)

Contains-cons : {X : Type 0} (y : X) (xs : List X) (x : X) → Contains xs x → Contains (y ∷ xs) x
Contains-cons y xs x c = (suc c.0, omega (arith, c.1), c.2)

some_same : {X : Type 0} (x y : X) → Some x ≡ Some y → x ≡ y
some_same x y h = cc

-- the literal of a variable is among those of the assignment
pub theory_literals-has : {L : Type 0} (a : List Bool) (atoms : List (Option (L × L))) (v : ℕ) (pair : L × L) → v < length a → get_or atoms v None ≡ Some pair → Contains (theory_literals a atoms) (cond (value_at a v) pair.0 pair.1)
theory_literals-has [] atoms v pair h e = absurd (omega arith)
theory_literals-has (b ∷ a) [] v pair h e = cc
theory_literals-has (b ∷ a) (None ∷ atoms) zero pair h e = cc
theory_literals-has (b ∷ a) (None ∷ atoms) (suc v) pair h e = theory_literals-has a atoms v pair (omega arith) e
theory_literals-has {L} (b ∷ a) (Some p ∷ atoms) zero pair h e =
    let same = some_same p pair e in
    rw (← same) (Contains-first (cond b p.0 p.1) (theory_literals a atoms))
theory_literals-has (b ∷ a) (Some p ∷ atoms) (suc v) pair h e =
    Contains-cons (cond b p.0 p.1) (theory_literals a atoms) _ (theory_literals-has a atoms v pair (omega arith) e)

-- and these are all
pub All-theory_literals : {L : Type 0} (P : L → Type 0) (a : List Bool) (atoms : List (Option (L × L))) → ((v : ℕ) (pair : L × L) → v < length a → get_or atoms v None ≡ Some pair → P (cond (value_at a v) pair.0 pair.1)) → All P (theory_literals a atoms)
All-theory_literals P [] atoms h = All-nil P
All-theory_literals P (b ∷ a) [] h = All-nil P
All-theory_literals P (b ∷ a) (None ∷ atoms) h = All-theory_literals P a atoms (λ v pair l e. h (suc v) pair (omega arith) e)
All-theory_literals P (b ∷ a) (Some p ∷ atoms) h =
    All-cons P (cond b p.0 p.1) (theory_literals a atoms) (h zero p (omega arith) refl) (All-theory_literals P a atoms (λ v pair l e. h (suc v) pair (omega arith) e))

-- the theory's literal of a true literal is among those of the assignment
pub literal_of-among : {L : Type 0} (a : List Bool) (atoms : List (Option (L × L))) (l : PLit) → l.var < length a → literal_value a l ≡ true → All (Contains (theory_literals a atoms)) (option_to_list (literal_of atoms l))
literal_of-among {L} a atoms l h t = go (get_or atoms l.var None) refl
  where
    go : (o : Option (L × L)) → get_or atoms l.var None ≡ o → All (Contains (theory_literals a atoms)) (option_to_list (option_map (λ pair. cond l.plus pair.0 pair.1) o))
    go None e = All-nil (Contains (theory_literals a atoms))
    go (Some p) e =
        All-cons (Contains (theory_literals a atoms)) (cond l.plus p.0 p.1) []
        (rw (← value_from_true a l t) (theory_literals-has a atoms l.var p h e)) (All-nil (Contains (theory_literals a atoms)))

pub trail_literals-among : {L : Type 0} (a : List Bool) (atoms : List (Option (L × L))) (vars : ℕ) (es : List Entry) → length a ≡ vars → IsTrail vars es → Agrees a es → All (Contains (theory_literals a atoms)) (trail_literals atoms es)
trail_literals-among a atoms vars [] n t h = All-nil (Contains (theory_literals a atoms))
trail_literals-among a atoms vars (e ∷ es) n t h =
    All-append (Contains (theory_literals a atoms)) (trail_literals atoms es) (option_to_list (literal_of atoms e.literal))
    (trail_literals-among a atoms vars es n t.1.1 h.1) (literal_of-among a atoms e.literal (omega (arith, t.0)) h.0)

-- the theory's literal of a variable that is set is among those of the trail
pub trail_literals-has : {L : Type 0} (atoms : List (Option (L × L))) (es : List Entry) (v : ℕ) (b : Bool) (pair : L × L) → value_in es v ≡ Some b → get_or atoms v None ≡ Some pair → Contains (trail_literals atoms es) (cond b pair.0 pair.1)
trail_literals-has atoms [] v b pair h e = cc
trail_literals-has {L} atoms (x ∷ es) v b pair h e = elim (cases_eq x.literal.var v) [
  | inl q ↦
      let sign = some_same x.literal.plus b (sym (value_in-here x es v q) ∙ h) in
      let atom : get_or atoms x.literal.var None ≡ Some pair = ap (λ k. get_or atoms k None) q ∙ e in
      let last : literal_of atoms x.literal ≡ Some (cond b pair.0 pair.1) = ap (option_map (λ (p : L × L). cond x.literal.plus p.0 p.1)) atom ∙ ap (λ s. Some (cond s pair.0 pair.1)) sign in
      Contains-append_right (trail_literals atoms es) (option_to_list (literal_of atoms x.literal)) _
      (rw last (Contains-first (cond b pair.0 pair.1) []))
  | inr q ↦
      Contains-append_left (trail_literals atoms es) (option_to_list (literal_of atoms x.literal)) _
      (trail_literals-has atoms es v b pair (sym (value_in-other x es v q) ∙ h) e)
]
