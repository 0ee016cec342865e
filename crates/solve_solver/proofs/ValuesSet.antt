-- Values of variables, by the trail that has them.
use Rattle.std.proofs.Common.{◌≡◌, ◌≢◌, ◌⊎◌, ℕ, ◌<◌, Bool, true, false, List, [], ◌∷◌, length, get_or, set, replicate, cond, map, Option, Some, None, inl, inr, refl, sym, ap, ◌∙◌, arith, zero-add, length-set, get_or-set_same, get_or-set_other}
use Rattle.std.specs.List.{All, Contains, slice_get}
use Rattle.std.proofs.lemmas.List.Elements.{All-contains}
use Rattle.std.specs.Bool.{OnTrue}
use Rattle.std.specs.Option.{option_map, unwrap_or, IfSome, IsSomeAnd}
use Rattle.std.proofs.lemmas.Bool.{cases_eq, cases_lt}
use Rattle.std.proofs.lemmas.List.{same_lists, get_or_past, get_or-map, length-map, length-replicate, get_or-replicate}
use Rattle.std.proofs.lemmas.List.FromFn.{get_or-map-range_with_len, length-map-range_with_len}
use Rattle.solve_solver.specs.declared.literal.PLit.{PLit}
use Rattle.solve_solver.specs.declared.trail.Entry.{Entry}
use Rattle.solve_solver.specs.declared.units.ClauseState.TheVariants.{Conflict}
use Rattle.solve_solver.specs.Assignment.{signed}
use Rattle.solve_solver.specs.Assumed.{IsExtended, values_of}
use Rattle.solve_solver.specs.Clauses.{IsWithin}
use Rattle.solve_solver.specs.SolverInside.{values_by}
use Rattle.solve_solver.specs.Trail.{assignment_of, value_in, literal_in}
use Rattle.solve_solver.specs.Units.{IsAt, IsFalseIn, IsOpen}
use Rattle.solve_solver.specs.Values.{set_value, Follow, IsClash, IsFalseBy, IsQuiet, Stay}
use Rattle.solve_solver.proofs.Shown.{All-at}
use Rattle.solve_solver.proofs.Trails.{value_in-here, value_in-other}

length-values_of : (vars : ℕ) (es : List Entry) → length (values_of vars es) ≡ vars
length-values_of vars es = length-map-range_with_len (value_in es) 0 vars

at : (vars : ℕ) (es : List Entry) (v : ℕ) (d : Option Bool) → v < vars → get_or (values_of vars es) v d ≡ value_in es v
at vars es v d h = get_or-map-range_with_len (value_in es) 0 vars v v d h (zero-add v)

-- the value of a variable
pub value_read : (vars : ℕ) (es : List Entry) (v : ℕ) → v < vars → set_value (values_of vars es) v ≡ value_in es v
value_read vars es v h = at vars es v None h

-- a variable that has a value is there
pub value_there : (vars : ℕ) (es : List Entry) (v : ℕ) (b : Bool) → set_value (values_of vars es) v ≡ Some b → (v < vars) × (value_in es v ≡ Some b)
value_there vars es v b h = elim (cases_lt v vars) [
  | inl lt ↦ (lt, sym (value_read vars es v lt) ∙ h)
  | inr past ↦
      let none : set_value (values_of vars es) v ≡ None = get_or_past (values_of vars es) v None (omega (arith, length-values_of vars es, past)) in
      cc
]

pub none_set : (vars : ℕ) → values_of vars [] ≡ replicate vars None
none_set vars =
    let n = length-values_of vars [] in
    same_lists (values_of vars []) (replicate vars None) (n ∙ sym (length-replicate vars None))
    (λ k d h. let lt : k < vars = omega (arith, n, h) in at vars [] k d lt ∙ sym (get_or-replicate vars k None d lt))

pub one_set : (vars : ℕ) (e : Entry) (es : List Entry) → e.literal.var < vars → values_of vars (e ∷ es) ≡ set (values_of vars es) e.literal.var (Some e.literal.plus)
one_set vars e es within =
    let n = length-values_of vars (e ∷ es) in
    let m = length-values_of vars es in
    same_lists (values_of vars (e ∷ es)) (set (values_of vars es) e.literal.var (Some e.literal.plus)) (n ∙ sym (length-set (values_of vars es) e.literal.var (Some e.literal.plus) ∙ m))
    (λ k d h.
    let lt : k < vars = omega (arith, n, h) in
    at vars (e ∷ es) k d lt
    ∙ (elim (cases_eq e.literal.var k) [
      | inl q ↦ value_in-here e es k q ∙ sym (ap (λ i. get_or (set (values_of vars es) e.literal.var (Some e.literal.plus)) i d) (sym q) ∙ get_or-set_same (values_of vars es) e.literal.var (Some e.literal.plus) d (omega (arith, m, within)))
      | inr q ↦ value_in-other e es k q ∙ sym (get_or-set_other (values_of vars es) e.literal.var k (Some e.literal.plus) d (λ r. q (sym r)) ∙ at vars es k d lt)
    ]))

-- what a literal is by the values
literal_by : (vars : ℕ) (es : List Entry) (l : PLit) → l.var < vars → option_map (signed l) (set_value (values_of vars es) l.var) ≡ literal_in es l
literal_by vars es l h = ap (option_map (signed l)) (value_read vars es l.var h)

pub false_by : (vars : ℕ) (es : List Entry) (l : PLit) → l.var < vars → IsFalseIn es l → IsFalseBy (values_of vars es) l
false_by vars es l h f = literal_by vars es l h ∙ f

false_in : (vars : ℕ) (es : List Entry) (l : PLit) → l.var < vars → IsFalseBy (values_of vars es) l → IsFalseIn es l
false_in vars es l h f = sym (literal_by vars es l h) ∙ f

-- no clause is in conflict or a unit
pub quiet_by : (vars : ℕ) (es : List Entry) (clauses : List (List PLit)) → All (IsWithin vars) clauses → All (IsOpen es) clauses → IsQuiet (values_of vars es) clauses
quiet_by vars es clauses within open_each k d lt =
    let clause = get_or clauses k d in
    let inside : IsWithin vars clause = within k d lt in
    let here : IsOpen es clause = open_each k d lt in (
      λ clash. let spot = here.not_false in
          spot.4 (rw spot.3 at (false_in vars es (get_or clause spot.0 spot.1) (inside spot.0 spot.1 spot.2) (clash spot.0 spot.1 spot.2))),
      λ l unit. here.no_unit l (record {
        unset = sym (value_read vars es l.var (unit_inside clause l inside unit.there)) ∙ unit.unset;
        there = unit.there;
        others = λ i e less. other (get_or clause i e) l (inside i e less) (unit.others i e less);
      }),
    )
  where
    unit_inside : (clause : List PLit) (l : PLit) → IsWithin vars clause → Contains clause l → l.var < vars
    unit_inside clause l inside there = All-contains (λ (x : PLit). x.var < vars) clause l inside there

    other : (x l : PLit) → x.var < vars → IsFalseBy (values_of vars es) x ⊎ (x ≡ l) → IsFalseIn es x ⊎ (x ≡ l)
    other x l h (inl f) = inl (false_in vars es x h f)
    other x l h (inr e) = inr e

-- the clause of a place is in conflict
pub clash_by : (vars : ℕ) (es : List Entry) (clauses : List (List PLit)) (place : ℕ) → All (IsWithin vars) clauses → IsAt es clauses place Conflict → IsSomeAnd (slice_get clauses place) (IsClash (values_of vars es))
clash_by vars es clauses place within at_place =
    let inside = All-at (IsWithin vars) clauses place at_place.clause within at_place.here in
    rw at_place.here (λ k d lt. false_by vars es (get_or at_place.clause k d) (inside k d lt) (at_place.is k d lt))

-- what follows, and what stays
pub follow_by : (vars : ℕ) (clauses : List (List PLit)) (old new : List Entry) → IsExtended vars clauses old new → Follow clauses (values_of vars old) (values_of vars new)
follow_by vars clauses old new h a meets agrees v b is =
    let there = value_there vars new v b is in
    h.follow a meets (λ w c lt was. agrees w c (value_read vars old w lt ∙ was)) v b there.0 there.1

pub stay_by : (vars : ℕ) (clauses : List (List PLit)) (old new : List Entry) → IsExtended vars clauses old new → Stay (values_of vars old) (values_of vars new)
stay_by vars clauses old new h v b is =
    let there = value_there vars old v b is in
    value_read vars new v there.0 ∙ h.stay v b there.1

-- those of the search, where it found an assignment, and else those that were assumed
pub values_where : (solved : Bool) (vars : ℕ) (es assumed : List Entry) → solved ≡ true → values_of vars es ≡ values_by solved vars es assumed
values_where true vars es assumed h = refl
values_where false vars es assumed h = cc

pub values_else : (solved : Bool) (vars : ℕ) (es assumed : List Entry) → solved ≡ false → values_of vars assumed ≡ values_by solved vars es assumed
values_else true vars es assumed h = cc
values_else false vars es assumed h = refl

set_some : (o : Option Bool) → o ≢ None → o ≡ Some (unwrap_or o false)
set_some None h = absurd (h refl)
set_some (Some b) h = refl

all_set : (vars : ℕ) (es : List Entry) → ((v : ℕ) → v < vars → value_in es v ≢ None) → values_of vars es ≡ map Some (assignment_of vars es)
all_set vars es set_each =
    let n = length-values_of vars es in
    let m = length-map-range_with_len (λ v. unwrap_or (value_in es v) false) 0 vars in
    same_lists (values_of vars es) (map Some (assignment_of vars es)) (n ∙ sym (length-map (assignment_of vars es) Some ∙ m))
    (λ k d h.
    let lt : k < vars = omega (arith, n, h) in
    at vars es k d lt
    ∙ set_some (value_in es k) (set_each k lt)
    ∙ sym (get_or-map Some (assignment_of vars es) k false d (omega (arith, m, lt)) ∙ ap Some (get_or-map-range_with_len (λ v. unwrap_or (value_in es v) false) 0 vars k k false lt (zero-add k))))

-- the values of an assignment that was found
pub values_found : (found : Bool) (vars : ℕ) (es assumed : List Entry) → OnTrue found ((v : ℕ) → v < vars → value_in es v ≢ None) → IfSome (cond found (Some (assignment_of vars es)) None) (λ a. values_by found vars es assumed ≡ map Some a)
values_found true vars es assumed h = all_set vars es h
values_found false vars es assumed h = tt
