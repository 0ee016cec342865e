use Rattle.std.proofs.Common.{◌||◌, Option, ℕ, Some, subst, sym}
use Rattle.ground_instances.specs.Instances.{IsJoined}
use Rattle.ground_instances.proofs.BoardLaws.{grows_none}
use Rattle.ground_instances.proofs.joins.join_either.Goals as goal

pub returns-in_ok-gate-in-Some-Some : goal.returns-in_ok-gate-in-Some-Some
returns-in_ok-gate-in-Some-Some c =
    let gate : ℕ = c.in_ok-gate-in-Some-Some.gate in
    let L : Option ℕ → Type 0 = λ l. IsJoined c.args.board.now c.either.new.self (λ a b. a || b) l c.args.right (Some gate) in
    let R : Option ℕ → Type 0 = λ r. IsJoined c.args.board.now c.either.new.self (λ a b. a || b) (Some c.in-Some-Some.a) r (Some gate) in
    subst L (sym c.in-Some-Some.is-0)
    (subst R (sym c.in-Some-Some.is-1)
    (record { grows = c.in_ok-gate-in-Some-Some.ensures.grows; means = λ nodes p q m n. c.in_ok-gate-in-Some-Some.ensures.means nodes p q m n }))

pub returns-in_default : goal.returns-in_default
returns-in_default c = record { grows = grows_none c.args.board.now; means = λ nodes p q m n. tt }

pub returns-in_default-2 : goal.returns-in_default-2
returns-in_default-2 c = record { grows = grows_none c.args.board.now; means = λ nodes p q m n. tt }
