-- Marks that are kept.
use Rattle.std.proofs.Common.{◌≡◌, ℕ, ◌<◌, ◌≤◌, ◌⊎◌, sym, ◌∙◌, List, Some, length, ap, subst, arith, rules, ◌-◌}
use Rattle.std.proofs.lemmas.Option.{same_Some}
use Rattle.std.specs.Prelude.{slice_get}
use Rattle.std.proofs.Math.Logic.{⊎_elim}
use Rattle.form_formula.specs.declared.node.Node.{Node}
use Rattle.form_formula.specs.declared.node.Node.TheVariants.{Bound, Num, Str, App, Yes, No, Eq, Less, Has, Flag, Present, Not, And, Or, Exists, Forall}
use Rattle.form_formula.specs.declared.marks.Wanted.{Wanted}
use Rattle.form_formula.specs.Nodes.{IsBelow}
use Rattle.form_formula.specs.Marks.{wanted_at, Covers, AreKept, opposite, PassesOn, ArePassedOn}

covers_more : (a b c : Wanted) → Covers b a → Covers c b → Covers c a
covers_more a b c h k = (λ e. k.0 (h.0 e), λ e. k.1 (h.1 e))

-- what is passed on stays so where marks are kept
pub passes_on_kept : (old new : List Wanted) (n : Node) (w : Wanted) → AreKept old new → PassesOn old n w → PassesOn new n w
passes_on_kept old new (Bound sort depth) w kept h = tt
passes_on_kept old new (Num n) w kept h = tt
passes_on_kept old new (Str t) w kept h = tt
passes_on_kept old new (App f t) w kept h = tt
passes_on_kept old new Yes w kept h = tt
passes_on_kept old new No w kept h = tt
passes_on_kept old new (Eq s t) w kept h = tt
passes_on_kept old new (Less s t) w kept h = tt
passes_on_kept old new (Has f s t) w kept h = tt
passes_on_kept old new (Flag f t) w kept h = tt
passes_on_kept old new (Present f t) w kept h = tt
passes_on_kept old new (Not a) w kept h = covers_more (opposite w) (wanted_at old a) (wanted_at new a) h (kept.1 a)
passes_on_kept old new (And a b) w kept h =
    (covers_more w (wanted_at old a) (wanted_at new a) h.0 (kept.1 a), covers_more w (wanted_at old b) (wanted_at new b) h.1 (kept.1 b))
passes_on_kept old new (Or a b) w kept h =
    (covers_more w (wanted_at old a) (wanted_at new a) h.0 (kept.1 a), covers_more w (wanted_at old b) (wanted_at new b) h.1 (kept.1 b))
passes_on_kept old new (Exists sort a) w kept h = covers_more w (wanted_at old a) (wanted_at new a) h (kept.1 a)
passes_on_kept old new (Forall sort a) w kept h = covers_more w (wanted_at old a) (wanted_at new a) h (kept.1 a)

pub kept_more : (a b c : List Wanted) → AreKept a b → AreKept b c → AreKept a c
kept_more a b c h k = (omega (arith, h.0, k.0), λ i. covers_more (wanted_at a i) (wanted_at b i) (wanted_at c i) (h.1 i) (k.1 i))

below_more : (i k : ℕ) (n : Node) → i ≤ k → IsBelow i n → IsBelow k n
below_more i k (Bound sort depth) le h = tt
below_more i k (Num n) le h = tt
below_more i k (Str t) le h = tt
below_more i k (App f t) le h = omega arith
below_more i k Yes le h = tt
below_more i k No le h = tt
below_more i k (Eq s t) le h = (omega arith, omega arith)
below_more i k (Less s t) le h = (omega arith, omega arith)
below_more i k (Has f s t) le h = (omega arith, omega arith)
below_more i k (Flag f t) le h = omega arith
below_more i k (Present f t) le h = omega arith
below_more i k (Not a) le h = omega arith
below_more i k (And a b) le h = (omega arith, omega arith)
below_more i k (Or a b) le h = (omega arith, omega arith)
below_more i k (Exists sort a) le h = omega arith
below_more i k (Forall sort a) le h = omega arith

-- one more node, the one before those that pass on, passes on
pub passed_on_step : (nodes : List Node) (old new : List Wanted) (left : ℕ) (n : Node) → 0 < left → slice_get nodes (left - 1) ≡ Some n → IsBelow (left - 1) n
    → AreKept old new → ((k : ℕ) → IsBelow k n → wanted_at new k ≡ wanted_at old k) → PassesOn new n (wanted_at old (left - 1))
    → ArePassedOn nodes old left → ArePassedOn nodes new (left - 1)
passed_on_step nodes old new left n positive here below kept above passes all k m from within e =
    ⊎_elim
    (λ (later : left ≤ k).
    let P : Wanted → Type 0 = λ w. PassesOn new m w in
    let inside : k < length old = omega (arith, kept.0) in
    subst P (sym (above k (below_more (left - 1) k n (omega arith) below))) (passes_on_kept old new m (wanted_at old k) kept (all k m later inside e)))
    (λ (same : k ≡ left - 1).
    let P : Wanted → Type 0 = λ w. PassesOn new m w in
    let Q : Node → Type 0 = λ m. PassesOn new m (wanted_at old k) in
    let R : ℕ → Type 0 = λ k. PassesOn new n (wanted_at old k) in
    let S : ℕ → Type 0 = λ k. IsBelow k n in
    let it : n ≡ m = same_Some n m (sym here ∙ (ap (λ i. slice_get nodes i) (sym same) ∙ e)) in
    subst P (sym (above k (subst S (sym same) below))) (subst Q it (subst R (sym same) passes)))
    (le_or_eq left k from)
  where
    le_or_eq : (left k : ℕ) → left - 1 ≤ k → (left ≤ k) ⊎ (k ≡ left - 1)
    le_or_eq left k h = search (rules, arith)
