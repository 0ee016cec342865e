-- The assignment of 0 to each variable.
use Rattle.std.specs.Prelude.{◌≡◌, ◌==◌, ℕ, zero, suc, Bool, true, false, ◌&&◌, [], length, pos, replicate, refl, IsTrue}
use Rattle.std.specs.List.{list_all}
use Rattle.std.specs.Ordering.{int_eq}
use Rattle.std.proofs.Common.{ap}
use Rattle.std.proofs.lemmas.Bool.{eq-eqb}
use Rattle.std.proofs.lemmas.List.{length-replicate}
use Rattle.std.proofs.lemmas.List.Elements.{All-nil}
use Rattle.solve_theory.specs.Models.{HasModel}
use Rattle.solve_order.specs.Difference.{value_of, is_in_range, is_assignment, meets}

zeros_in_range : (n : ℕ) → IsTrue (list_all is_in_range (replicate n (pos 0)))
zeros_in_range zero = refl
zeros_in_range (suc n) = zeros_in_range n

first_is_zero : (n : ℕ) → value_of (replicate n (pos 0)) 0 ≡ pos 0
first_is_zero zero = refl
first_is_zero (suc n) = refl

and : (a b : Bool) → IsTrue a → IsTrue b → IsTrue (a && b)
and true b h k = k
and false b h k = absurd cc

zeros_are_assignment : (n : ℕ) → IsTrue (is_assignment n (replicate n (pos 0)))
zeros_are_assignment n =
    let zeros = replicate n (pos 0) in
    and (length zeros == n && int_eq (value_of zeros 0) (pos 0)) (list_all is_in_range zeros)
    (and (length zeros == n) (int_eq (value_of zeros 0) (pos 0)) (eq-eqb (length zeros) n (length-replicate n (pos 0))) (ap (λ z. int_eq z (pos 0)) (first_is_zero n)))
    (zeros_in_range n)

pub zero_is_model : (variables : ℕ) → HasModel (is_assignment variables) meets []
zero_is_model n = record { model = replicate n (pos 0); fits = record { is_model = zeros_are_assignment n; meets_each = All-nil _ } }
