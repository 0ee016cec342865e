-- A clause of a literal and of the opposites of the marked ones that force it.
use Rattle.std.proofs.Common.{◌≡◌, ℕ, ◌+◌, ◌<◌, ◌≤◌, Bool, true, false, not, List, [], ◌∷◌, ◌++◌, length, map, filter, get_or, take, IsTrue, inl, inr, refl, sym, ap, ◌∙◌, arith}
use Rattle.std.specs.List.{All, Contains}
use Rattle.std.proofs.lemmas.Bool.{cases_eq, cases_Bool, both_ways, cond-true, cond-false}
use Rattle.std.proofs.lemmas.List.{append-nil, length-map, map-append}
use Rattle.std.proofs.lemmas.List.Elements.{All-nil, All-cons, All-head, All-tail, All-filter, All-map, All-weaker, Contains-append_right, filter_more}
use Rattle.std.proofs.lemmas.List.Folds.{list_any-from_Any}
use Rattle.std.proofs.lemmas.List.Sums.{length-filter, count_by-le-length}
use Rattle.solve_solver.specs.declared.literal.PLit.{PLit}
use Rattle.solve_solver.specs.declared.trail.Entry.{Entry}
use Rattle.solve_solver.specs.Assignment.{value_at, literal_value, meets_clause, negated}
use Rattle.solve_solver.specs.Clauses.{IsWithin}
use Rattle.solve_solver.specs.Marks.{AgreesMarked, ForcesMarked, IsEntailed, collected}
use Rattle.solve_solver.proofs.Entailment.{value_from_true, literal_value-negated, same_some}
use Rattle.solve_solver.proofs.Trails.{value_in-here, value_in-other}

contained_is_met : (a : List Bool) (clause : List PLit) (l : PLit) → Contains clause l → literal_value a l ≡ true → IsTrue (meets_clause a clause)
contained_is_met a clause l (k, h, is) t = list_any-from_Any (literal_value a) clause (k, l, h, is, t)

-- a literal whose opposite is in a clause that is not met is true
opposite_unmet : (a : List Bool) (clause : List PLit) (l : PLit) → meets_clause a clause ≡ false → Contains clause (negated l) → literal_value a l ≡ true
opposite_unmet a clause l unmet c = elim (cases_Bool (literal_value a l)) [
  | inl t ↦ t
  | inr f ↦ absurd (both_ways (meets_clause a clause) unmet (contained_is_met a clause (negated l) c (literal_value-negated a l ∙ ap not f)))
]

-- an assignment that does not meet the clause has the marked literals
unmet_agrees : (a marks : List Bool) (clause : List PLit) (es : List Entry) → meets_clause a clause ≡ false → All (λ e. IsTrue (value_at marks e.literal.var) → Contains clause (negated e.literal)) es → AgreesMarked a marks es
unmet_agrees a marks clause [] unmet h v b e m = cc
unmet_agrees a marks clause (x ∷ es) unmet h v b is m = elim (cases_eq x.literal.var v) [
  | inl q ↦
      let marked : IsTrue (value_at marks x.literal.var) = ap (value_at marks) q ∙ m in
      let here = opposite_unmet a clause x.literal unmet (All-head (λ e. IsTrue (value_at marks e.literal.var) → Contains clause (negated e.literal)) x es h marked) in
      ap (value_at a) (sym q) ∙ value_from_true a x.literal here ∙ same_some x.literal.plus b (sym (value_in-here x es v q) ∙ is)
  | inr q ↦ unmet_agrees a marks clause es unmet (All-tail (λ e. IsTrue (value_at marks e.literal.var) → Contains clause (negated e.literal)) x es h) v b (sym (value_in-other x es v q) ∙ is) m
]

-- the opposites of the marked literals
opposites : List Bool → List Entry → List PLit
opposites marks es = map (λ (e : Entry). negated e.literal) (filter (λ (e : Entry). value_at marks e.literal.var) es)

opposites-marked : (marks : List Bool) (e : Entry) (es : List Entry) → IsTrue (value_at marks e.literal.var) → opposites marks (e ∷ es) ≡ negated e.literal ∷ opposites marks es
unfolding opposites
opposites-marked marks e es m = ap (map (λ (x : Entry). negated x.literal)) (cond-true (value_at marks e.literal.var) (e ∷ filter (λ (x : Entry). value_at marks x.literal.var) es) (filter (λ (x : Entry). value_at marks x.literal.var) es) m)

opposites-unmarked : (marks : List Bool) (e : Entry) (es : List Entry) → value_at marks e.literal.var ≡ false → opposites marks (e ∷ es) ≡ opposites marks es
unfolding opposites
opposites-unmarked marks e es m = ap (map (λ (x : Entry). negated x.literal)) (cond-false (value_at marks e.literal.var) (e ∷ filter (λ (x : Entry). value_at marks x.literal.var) es) (filter (λ (x : Entry). value_at marks x.literal.var) es) m)

Contains-behind : {X : Type 0} (y : X) (xs : List X) (x : X) → Contains xs x → Contains (y ∷ xs) x
Contains-behind y xs x there = Contains-append_right (y ∷ []) xs x there

-- they are among them
opposites-there : (marks : List Bool) (es : List Entry) → All (λ e. IsTrue (value_at marks e.literal.var) → Contains (opposites marks es) (negated e.literal)) es
opposites-there marks [] = All-nil (λ e. IsTrue (value_at marks e.literal.var) → Contains (opposites marks []) (negated e.literal))
opposites-there marks (x ∷ es) = elim (cases_Bool (value_at marks x.literal.var)) [
  | inl m ↦
      rw (opposites-marked marks x es m)
      (All-cons (λ e. IsTrue (value_at marks e.literal.var) → Contains (negated x.literal ∷ opposites marks es) (negated e.literal)) x es
      (λ _. (0, omega arith, refl))
      (All-weaker (λ e. IsTrue (value_at marks e.literal.var) → Contains (opposites marks es) (negated e.literal)) (λ e. IsTrue (value_at marks e.literal.var) → Contains (negated x.literal ∷ opposites marks es) (negated e.literal))
      (λ e has n. Contains-behind (negated x.literal) (opposites marks es) (negated e.literal) (has n)) es (opposites-there marks es)))
  | inr m ↦
      rw (opposites-unmarked marks x es m)
      (All-cons (λ e. IsTrue (value_at marks e.literal.var) → Contains (opposites marks es) (negated e.literal)) x es
      (λ n. absurd (both_ways (value_at marks x.literal.var) m n))
      (opposites-there marks es))
]

-- such a clause follows
pub collected_entailed : (Lawful : List Bool → Type 0) (marks : List Bool) (entries : List Entry) (l : PLit) → ForcesMarked Lawful marks entries l → IsEntailed Lawful (collected l marks entries)
unfolding opposites
collected_entailed Lawful marks entries l forced a lawful =
    let clause = collected l marks entries in
    let others = All-weaker (λ e. IsTrue (value_at marks e.literal.var) → Contains (opposites marks entries) (negated e.literal)) (λ e. IsTrue (value_at marks e.literal.var) → Contains clause (negated e.literal))
    (λ e has n. Contains-behind l (opposites marks entries) (negated e.literal) (has n)) entries (opposites-there marks entries) in
    elim (cases_Bool (meets_clause a clause)) [
      | inl met ↦ met
      | inr unmet ↦
          contained_is_met a clause l (0, omega arith, refl)
          (forced a lawful (unmet_agrees a marks clause entries unmet others))
    ]

pub collected_within : (vars : ℕ) (marks : List Bool) (entries : List Entry) (l : PLit) → l.var < vars → All (λ (e : Entry). e.literal.var < vars) entries → IsWithin vars (collected l marks entries)
collected_within vars marks entries l within each =
    let p = λ (e : Entry). value_at marks e.literal.var in
    let kept : All (λ (e : Entry). e.literal.var < vars) (filter p entries) = All-filter p (λ (e : Entry). e.literal.var < vars) entries each in
    All-cons (λ (x : PLit). x.var < vars) l (map (λ (e : Entry). negated e.literal) (filter p entries)) within
    (All-map (λ (x : PLit). x.var < vars) (λ (e : Entry). negated e.literal) (filter p entries) kept)

pub length-collected : (marks : List Bool) (entries : List Entry) (l : PLit) → length (collected l marks entries) ≤ length entries + 1
length-collected marks entries l =
    let p = λ (e : Entry). value_at marks e.literal.var in
    omega (arith, length-map (filter p entries) (λ (e : Entry). negated e.literal), length-filter p entries, count_by-le-length p entries)

-- a step of a loop over the trail: a marked literal whose opposite is put behind, or one that is not marked
pub collected_pushed : (marks : List Bool) (entries : List Entry) (i : ℕ) (d : Entry) (l : PLit) (clause : List PLit) (x : PLit) → i < length entries → IsTrue (value_at marks (get_or entries i d).literal.var) → x ≡ negated (get_or entries i d).literal → clause ≡ collected l marks (take i entries) → clause ++ x ∷ [] ≡ collected l marks (take (i + 1) entries)
collected_pushed marks entries i d l clause x h m is so_far =
    let p = λ (e : Entry). value_at marks e.literal.var in
    let opposite = λ (e : Entry). negated e.literal in
    let e = get_or entries i d in
    let more : filter p (take (i + 1) entries) ≡ filter p (take i entries) ++ e ∷ [] =
    filter_more p entries i d h ∙ ap (λ t. filter p (take i entries) ++ t) (cond-true (p e) (e ∷ []) [] m) in
    let all : map opposite (filter p (take (i + 1) entries)) ≡ map opposite (filter p (take i entries)) ++ negated e.literal ∷ [] =
    ap (map opposite) more ∙ map-append opposite (filter p (take i entries)) (e ∷ []) in
    rw (so_far, is) (sym (ap (λ t. l ∷ t) all))

pub collected_passed : (marks : List Bool) (entries : List Entry) (i : ℕ) (d : Entry) (l : PLit) (clause : List PLit) → i < length entries → value_at marks (get_or entries i d).literal.var ≡ false → clause ≡ collected l marks (take i entries) → clause ≡ collected l marks (take (i + 1) entries)
collected_passed marks entries i d l clause h m so_far =
    let p = λ (e : Entry). value_at marks e.literal.var in
    let e = get_or entries i d in
    let same : filter p (take (i + 1) entries) ≡ filter p (take i entries) =
    filter_more p entries i d h ∙ ap (λ t. filter p (take i entries) ++ t) (cond-false (p e) (e ∷ []) [] m) ∙ append-nil (filter p (take i entries)) in
    so_far ∙ sym (ap (λ t. l ∷ map (λ (x : Entry). negated x.literal) t) same)
