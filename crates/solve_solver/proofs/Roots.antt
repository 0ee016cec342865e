-- The literals of a trail by their places, and what holds of those that no decision came before.
use Rattle.std.proofs.Common.{◌≡◌, ℕ, zero, suc, ◌+◌, ◌-◌, ◌<◌, Bool, false, List, [], ◌∷◌, length, get_or, drop, reverse, set, Some, None, inl, inr, refl, sym, ap, ◌∙◌, arith, get_or-set_other}
use Rattle.std.proofs.lemmas.Bool.{cases_eq, OnFalse_at}
use Rattle.std.proofs.lemmas.List.{drop_more, get_or-reverse, length-reverse}
use Rattle.std.proofs.lemmas.List.Elements.{All-cons, All-head, All-tail}
use Rattle.solve_solver.specs.declared.literal.PLit.{PLit}
use Rattle.solve_solver.specs.declared.trail.Entry.{Entry}
use Rattle.solve_solver.specs.Assignment.{value_at}
use Rattle.solve_solver.specs.Marks.{ForcesMarked, IsAsStrong}
use Rattle.solve_solver.specs.Root.{oldest, AreImplied, IsEntryAt}
use Rattle.solve_solver.specs.Trail.{value_in, Agrees, Follows, IsTrail}
use Rattle.solve_solver.proofs.Entailment.{value_from_true, same_some}
use Rattle.solve_solver.proofs.Trails.{value_in-here, value_in-other}

Follows-drop : (Lawful : List Bool → Type 0) (k : ℕ) (es : List Entry) → Follows Lawful es → Follows Lawful (drop k es)
Follows-drop Lawful zero es h = h
Follows-drop Lawful (suc k) [] h = tt
Follows-drop Lawful (suc k) (e ∷ es) h = Follows-drop Lawful k es h.1

-- what was set before any decision is true in each lawful assignment
implied_agree : (Lawful : List Bool → Type 0) (es : List Entry) → Follows Lawful es → AreImplied es → (a : List Bool) → Lawful a → Agrees a es
implied_agree Lawful [] h implied a lawful = tt
implied_agree Lawful (e ∷ es) h implied a lawful =
    let rest = implied_agree Lawful es h.1 (All-tail (λ (x : Entry). x.decided ≡ false) e es implied) a lawful in
    (OnFalse_at (All-head (λ (x : Entry). x.decided ≡ false) e es implied) h.0 a lawful rest, rest)

oldest-more : (es : List Entry) (place : ℕ) (d : Entry) → place < length es → oldest (place + 1) es ≡ get_or es (length es - (place + 1)) d ∷ oldest place es
oldest-more es place d h =
    let next : length es - (place + 1) + 1 ≡ length es - place = omega arith in
    drop_more es (length es - (place + 1)) d (omega arith) ∙ ap (λ n. get_or es (length es - (place + 1)) d ∷ drop n es) next

value_in-at : (vars : ℕ) (es : List Entry) (k : ℕ) (d : Entry) → IsTrail vars es → k < length es → value_in es (get_or es k d).literal.var ≡ Some (get_or es k d).literal.plus
value_in-at vars [] k d t h = absurd (omega arith)
value_in-at vars (e ∷ es) zero d t h = value_in-here e es e.literal.var refl
value_in-at vars (e ∷ es) (suc k) d t h =
    let below = value_in-at vars es k d t.1.1 (omega arith) in
    elim (cases_eq e.literal.var (get_or es k d).literal.var) [
      | inl q ↦ let fresh : value_in es (get_or es k d).literal.var ≡ None = ap (value_in es) (sym q) ∙ t.1.0 in cc
      | inr q ↦ value_in-other e es (get_or es k d).literal.var q ∙ below
    ]

-- a place of a list that is kept the other way round
pub read_reversed : (items : List Entry) (place : ℕ) (d : Entry) → place < length items → get_or items place d ≡ get_or (reverse items) (length (reverse items) - (place + 1)) d
read_reversed items place d h =
    let n = length-reverse items in
    let k : length items - 1 - (length (reverse items) - (place + 1)) ≡ place = omega arith in
    sym (get_or-reverse items (length (reverse items) - (place + 1)) d (omega arith) ∙ ap (λ i. get_or items i d) k)

pub entry_at : (Lawful : List Bool → Type 0) (vars : ℕ) (es : List Entry) (place : ℕ) (e : Entry) → IsTrail vars es → Follows Lawful es → place < length es → e ≡ get_or es (length es - (place + 1)) e → IsEntryAt Lawful es place e
entry_at Lawful vars es place e trail follows h is =
    let parts : oldest (place + 1) es ≡ e ∷ oldest place es = oldest-more es place e h ∙ ap (λ x. x ∷ oldest place es) (sym is) in
    let both : Follows Lawful (e ∷ oldest place es) = rw parts at (Follows-drop Lawful (length es - (place + 1)) es follows) in
    record {
      value_is = rw (← is) at (value_in-at vars es (length es - (place + 1)) e trail (omega arith));
      is_rooted = λ undecided implied a lawful. OnFalse_at undecided both.0 a lawful (implied_agree Lawful (oldest place es) both.1 implied a lawful);
      one_more = λ undecided implied. rw parts (All-cons (λ (x : Entry). x.decided ≡ false) e (oldest place es) undecided implied);
    }

-- a mark that the others force may go
pub IsAsStrong-without : (Lawful : List Bool → Type 0) (es : List Entry) (marks : List Bool) (l : PLit) → value_in es l.var ≡ Some l.plus → ForcesMarked Lawful (set marks l.var false) es l → IsAsStrong Lawful es (set marks l.var false) marks
IsAsStrong-without Lawful es marks l value_is forced a lawful agrees v b is m = elim (cases_eq v l.var) [
  | inl q ↦
      let here : value_in es l.var ≡ Some b = ap (value_in es) (sym q) ∙ is in
      ap (value_at a) q ∙ value_from_true a l (forced a lawful agrees) ∙ same_some l.plus b (sym value_is ∙ here)
  | inr q ↦ agrees v b is (get_or-set_other marks l.var v false false q ∙ m)
]
