-- The law that nothing asserted has a model, for `Equality`.
use Rattle.std.proofs.Common.{◌≡◌, ℕ, true, not, ◌&&◌, ◌||◌, eqb, ltb, List, [], length, get_or, arith}
use Rattle.std.proofs.Math.Logic.{⊎_elim}
use Rattle.std.specs.List.{list_all, range_with_len}
use Rattle.std.proofs.lemmas.Bool.{cases_eq, eqb-true, eq-eqb, ltb-true, and_parts, and_from, or_left, or_right, not_from_false, false_from_ne_true}
use Rattle.std.proofs.lemmas.List.FromFn.{length-range_with_len, get_or-range_with_len}
use Rattle.std.proofs.lemmas.List.Sums.{list_all-from_AllPass}
use Rattle.solve_theory.specs.Models.{HasModel}
use Rattle.solve_equality.specs.Equality.{are_together, meets_literal, keeps_apart, is_classes}

-- in the column of all numbers in order each term is alone
alone : (terms a b : ℕ) → are_together (range_with_len 0 terms) a b ≡ true → a ≡ b
alone terms a b e =
    let cs = range_with_len 0 terms in
    let parts = and_parts (ltb a (length cs) && ltb b (length cs)) (eqb (get_or cs a 0) (get_or cs b 0)) e in
    let both = and_parts (ltb a (length cs)) (ltb b (length cs)) parts.0 in
    let n = length-range_with_len 0 terms in
    let a_in = ltb-true a (length cs) both.0 in
    let b_in = ltb-true b (length cs) both.1 in
    omega (arith, eqb-true (get_or cs a 0) (get_or cs b 0) parts.1, get_or-range_with_len 0 terms a 0 (omega arith), get_or-range_with_len 0 terms b 0 (omega arith))

alone_keeps_apart : (terms : ℕ) (fixed : List ℕ) → keeps_apart fixed (range_with_len 0 terms) ≡ true
alone_keeps_apart terms fixed =
    let cs = range_with_len 0 terms in
    list_all-from_AllPass (λ a. list_all (λ b. eqb a b || not (are_together cs a b)) fixed) fixed
    (λ i d l. list_all-from_AllPass (λ b. eqb (get_or fixed i d) b || not (are_together cs (get_or fixed i d) b)) fixed
    (λ j e m.
    let a = get_or fixed i d in
    let b = get_or fixed j e in
    ⊎_elim
    (λ same. or_left (eqb a b) (not (are_together cs a b)) (eq-eqb a b same))
    (λ other. or_right (eqb a b) (not (are_together cs a b)) (not_from_false (are_together cs a b)
    (false_from_ne_true (are_together cs a b) (λ t. other (alone terms a b t)))))
    (cases_eq a b)))

-- that column is a model where nothing is asserted
pub empty_has_classes : (terms : ℕ) (fixed : List ℕ) → HasModel (is_classes terms fixed) meets_literal []
empty_has_classes terms fixed = record {
  model = range_with_len 0 terms;
  fits = record {
    is_model =
        and_from (eqb (length (range_with_len 0 terms)) terms) (keeps_apart fixed (range_with_len 0 terms))
        (eq-eqb (length (range_with_len 0 terms)) terms (length-range_with_len 0 terms)) (alone_keeps_apart terms fixed);
    meets_each = λ k d l. absurd (omega arith);
  };
}
