-- A line leaves less work.
use Rattle.std.proofs.Common.{◌≡◌, ℕ, zero, suc, ◌+◌, ◌-◌, ◌<◌, ◌≤◌, List, [], ◌∷◌, ◌++◌, length, ◌∙◌, ap, arith, length-append}
use Rattle.certify_clauses.specs.Paths.{negative, positive}
use Rattle.certify_clauses.specs.Problem.{Problem}
use Rattle.certify_clauses.specs.declared.literal.Literal.{Literal}
use Rattle.certify_recheck.specs.Due.{due_at, later, tree}
use Rattle.certify_recheck.specs.Walking.{IsStep}
use Rattle.certify_recheck.specs.declared.line.Line.{Line}
use Rattle.certify_recheck.specs.declared.line.Line.TheVariants.{Heading, Duty, Split, Clause, Theory, End, Other}
use Rattle.certify_recheck.specs.declared.walk.Step.TheVariants.{More}
use Rattle.certify_making.specs.Following.{weight, work}

some_work : (n : ℕ) → 1 ≤ weight n
some_work zero = omega arith
some_work (suc n) = let some = some_work n in omega (arith, some)

third : (n k : ℕ) → k < n → weight (n - k) ≡ weight (n - (k + 1)) + (weight (n - (k + 1)) + weight (n - (k + 1)))
third n k lt = let next : n - k ≡ suc (n - (k + 1)) = omega arith in ap weight next

sum_less : (small w whole : ℕ) → whole ≡ small + (small + small) → 1 ≤ small → small + (small + w) < whole + w
sum_less small w whole e some = omega arith

one_less : (w whole : ℕ) → 1 ≤ whole → w < whole + w
one_less w whole some = omega arith

longer : (path : List Literal) (l : Literal) → length (path ++ l ∷ []) ≡ length path + 1
longer path l = length-append path (l ∷ [])

module _ (c : Problem) (n : ℕ) where
  -- a line that goes on leaves less: its branches are less than the tree
  pub less : (path new : List Literal) (l : Line) → IsStep c path l new More → length new ≤ n → work n (due_at c new) < work n (due_at c path)
  less path new Heading step few = absurd step.0
  less path new (Duty k) step few = absurd step.0
  less path new (Split v) step few =
      let e : due_at c new ≡ tree c (path ++ positive v ∷ []) ∷ (tree c (path ++ negative v ∷ []) ∷ later c path) = step.1 in
      let is : new ≡ path ++ positive v ∷ [] = cc in
      let here = longer path (positive v) in
      let there = longer path (negative v) in
      let long : length new ≡ length path + 1 = ap length is ∙ here in
      let room : length path < n = omega arith in
      let w = work n (later c path) in
      let small = weight (n - (length path + 1)) in
      let sum : work n (due_at c new) ≡ small + (small + w) =
      ap (work n) e ∙ (ap (λ k. weight (n - k) + (weight (n - length (path ++ negative v ∷ [])) + w)) here ∙ ap (λ k. small + (weight (n - k) + w)) there) in
      let whole : weight (n - length path) ≡ small + (small + small) = third n (length path) room in
      let some : 1 ≤ small = some_work (n - (length path + 1)) in
      rw sum (sum_less small w (weight (n - length path)) whole some)
  less path new (Clause k) step few =
      let e : due_at c new ≡ later c path = step.1 in
      let some : 1 ≤ weight (n - length path) = some_work (n - length path) in
      rw (ap (work n) e) (one_less (work n (later c path)) (weight (n - length path)) some)
  less path new Theory step few =
      let e : due_at c new ≡ later c path = step.1 in
      let some : 1 ≤ weight (n - length path) = some_work (n - length path) in
      rw (ap (work n) e) (one_less (work n (later c path)) (weight (n - length path)) some)
  less path new End step few = absurd step.0
  less path new Other step few = absurd step.0
