-- Each step leaves less of a search.
use Rattle.std.proofs.Common.{◌≡◌, ℕ, zero, suc, ◌+◌, ◌-◌, ◌*◌, ◌<◌, ◌≤◌, Bool, true, false, cond, List, [], ◌∷◌, length, sym, ap, ◌∙◌, arith, zero-add}
use Rattle.solve_solver.specs.declared.trail.Entry.{Entry}
use Rattle.solve_solver.specs.Work.{tree_size, pending}

pub tree_size-positive : (n : ℕ) → 0 < tree_size n
tree_size-positive zero = omega arith
tree_size-positive (suc n) = omega (arith, tree_size-positive n)

-- the tree below a trail with room holds two of those below one more entry
tree_size-step : (vars k : ℕ) → k < vars → tree_size (vars - k) ≡ 4 * tree_size (vars - suc k)
tree_size-step vars k h =
    let e : vars - k ≡ suc (vars - suc k) = omega arith in
    ap tree_size e

-- a decision or a literal that follows
pub pushed_less : (vars : ℕ) (e : Entry) (es : List Entry) → length es < vars → tree_size (vars - suc (length es)) + pending vars (e ∷ es) < tree_size (vars - length es) + pending vars es
pushed_less vars e es h =
    let step = tree_size-step vars (length es) h in
    let some = tree_size-positive (vars - suc (length es)) in
    let most : cond e.decided (tree_size (vars - suc (length es)) + 1) 0 ≤ tree_size (vars - suc (length es)) + 1 = at_most e.decided _ in
    omega arith
  where
    at_most : (b : Bool) (n : ℕ) → cond b n 0 ≤ n
    at_most true n = omega arith
    at_most false n = omega arith

pub pending-follows : (vars : ℕ) (e : Entry) (es : List Entry) → e.decided ≡ false → pending vars (e ∷ es) ≡ pending vars es
pending-follows vars e es h = ap (λ b. cond b (tree_size (vars - suc (length es)) + 1) 0 + pending vars es) h ∙ zero-add (pending vars es)

pub pending-decided : (vars : ℕ) (e : Entry) (es : List Entry) → e.decided ≡ true → pending vars (e ∷ es) ≡ tree_size (vars - suc (length es)) + 1 + pending vars es
pending-decided vars e es h = ap (λ b. cond b (tree_size (vars - suc (length es)) + 1) 0 + pending vars es) h

pub follow_less : (vars n : ℕ) → n < vars → tree_size (vars - suc n) < tree_size (vars - n)
follow_less vars n h = omega (arith, tree_size-step vars n h, tree_size-positive (vars - suc n))

-- no trail leaves more than the empty one
pub most_left : (vars : ℕ) (es : List Entry) → length es ≤ vars → tree_size (vars - length es) + pending vars es ≤ tree_size vars
most_left vars [] h =
    let all : tree_size (vars - length {A = Entry} []) ≡ tree_size vars = ap tree_size (omega arith) in
    omega (arith, all)
most_left vars (e ∷ es) h =
    let step = pushed_less vars e es (omega arith) in
    let rest = most_left vars es (omega arith) in
    omega (arith, step, rest)

-- a restart less pays for what is left anew
pub restart_less : (vars left fewer before : ℕ) (es : List Entry) → fewer + 1 ≡ left → length es ≤ vars → fewer * (tree_size vars + 2) + (tree_size (vars - length es) + pending vars es + 1) < left * (tree_size vars + 2) + before
restart_less vars left fewer before es e h =
    let most = most_left vars es h in
    let paid : left * (tree_size vars + 2) ≡ fewer * (tree_size vars + 2) + (tree_size vars + 2) = ap (λ n. n * (tree_size vars + 2)) (sym e) ∙ omega arith in
    omega (arith, most, paid)
