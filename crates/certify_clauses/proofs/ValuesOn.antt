-- The value that a path gives a variable.
use Rattle.std.proofs.Common.{◌≡◌, ◌≢◌, ℕ, ◌<◌, ◌≤◌, Bool, true, false, cond, List, [], ◌∷◌, ◌++◌, length, get_or, eqb, Option, None, Some, refl, sym, ◌∙◌, ap, arith}
use Rattle.std.specs.List.{All, AllPairs}
use Rattle.std.specs.Option.{option_or}
use Rattle.std.proofs.lemmas.Bool.{ne_eqb, eq-eqb, cond-true, cond-false, cases_eq}
use Rattle.std.proofs.lemmas.List.{get_or_append_left, get_or_push, length-append}
use Rattle.std.proofs.lemmas.List.Elements.{All-nil, All-cons, All-head, All-tail}
use Rattle.std.proofs.Math.Logic.{⊎_elim}
use Rattle.certify_clauses.specs.declared.literal.Literal.{Literal}
use Rattle.certify_clauses.specs.Paths.{value_on}

-- the value by the first literals, if these give one
pub value_on-append : (xs ys : List Literal) (v : ℕ) → value_on (xs ++ ys) v ≡ option_or (value_on xs v) (value_on ys v)
value_on-append [] ys v = refl
value_on-append (x ∷ xs) ys v =
    let P : Bool → Type 0 = λ b. cond b (Some x.plus) (value_on (xs ++ ys) v) ≡ option_or (cond b (Some x.plus) (value_on xs v)) (value_on ys v) in
    elim (eqb x.var v) as P [ true ↦ refl | false ↦ value_on-append xs ys v ]

pub value_on-head : (l : Literal) (ls : List Literal) → value_on (l ∷ ls) l.var ≡ Some l.plus
value_on-head l ls = cond-true (eqb l.var l.var) (Some l.plus) (value_on ls l.var) (eq-eqb l.var l.var refl)

pub value_on-tail : (l : Literal) (ls : List Literal) (v : ℕ) → l.var ≢ v → value_on (l ∷ ls) v ≡ value_on ls v
value_on-tail l ls v apart = cond-false (eqb l.var v) (Some l.plus) (value_on ls v) (ne_eqb l.var v apart)

-- a variable on no literal has no value, and one with no value is on none
pub value_on-apart : (ls : List Literal) (v : ℕ) → All (λ l. l.var ≢ v) ls → value_on ls v ≡ None
value_on-apart [] v h = refl
value_on-apart (l ∷ ls) v h =
    value_on-tail l ls v (All-head (λ k. k.var ≢ v) l ls h) ∙ value_on-apart ls v (All-tail (λ k. k.var ≢ v) l ls h)

pub apart_from_none : (ls : List Literal) (v : ℕ) → value_on ls v ≡ None → All (λ l. l.var ≢ v) ls
apart_from_none [] v e = All-nil (λ l. l.var ≢ v)
apart_from_none (l ∷ ls) v e =
    ⊎_elim
    (λ same. let found = cond-true (eqb l.var v) (Some l.plus) (value_on ls v) (eq-eqb l.var v same) in absurd (let bad : ◌≡◌ {A = Option Bool} None (Some l.plus) = sym e ∙ found in cc))
    (λ apart. All-cons (λ k. k.var ≢ v) l ls apart (apart_from_none ls v (sym (value_on-tail l ls v apart) ∙ e)))
    (cases_eq l.var v)

-- variables from a bound on are not on a path below it
pub value_on-past : (ls : List Literal) (n v : ℕ) → All (λ l. l.var < n) ls → n ≤ v → value_on ls v ≡ None
value_on-past ls n v below past = value_on-apart ls v (λ k d within same. let lt : (get_or ls k d).var < n = below k d within in absurd (omega arith))

-- one literal more gives its variable a value, and no other
pub value_on-push_same : (ls : List Literal) (l : Literal) → value_on ls l.var ≡ None → value_on (ls ++ l ∷ []) l.var ≡ Some l.plus
value_on-push_same ls l fresh = value_on-append ls (l ∷ []) l.var ∙ ap (λ o. option_or o (value_on (l ∷ []) l.var)) fresh ∙ value_on-head l []

pub value_on-push_other : (ls : List Literal) (l : Literal) (v : ℕ) → l.var ≢ v → value_on (ls ++ l ∷ []) v ≡ value_on ls v
value_on-push_other ls l v apart =
    value_on-append ls (l ∷ []) v ∙ ap (λ o. option_or (value_on ls v) o) (value_on-tail l [] v apart) ∙ or_none (value_on ls v)
  where
    or_none : (o : Option Bool) → option_or o None ≡ o
    or_none None = refl
    or_none (Some b) = refl

-- literals on variables of their own, and one more on another; and without the last
pub once-push : (ls : List Literal) (l : Literal) → AllPairs (λ j k. j.var ≢ k.var) ls → value_on ls l.var ≡ None → AllPairs (λ j k. j.var ≢ k.var) (ls ++ l ∷ [])
once-push ls l once fresh i j d before within =
    let apart = apart_from_none ls l.var fresh in
    let left = get_or_append_left ls (l ∷ []) d i (omega (arith, length-append ls (l ∷ []))) in
    ⊎_elim
    (λ last. λ e. apart i d (omega (arith, length-append ls (l ∷ []))) (ap (λ (k : Literal). k.var) (sym left) ∙ e ∙ ap (λ (k : Literal). k.var) (get_or_push ls l d j (sym last))))
    (λ inner.
    let right = get_or_append_left ls (l ∷ []) d j (omega (arith, length-append ls (l ∷ []))) in
    λ e. once i j d before (omega (arith, length-append ls (l ∷ []))) (ap (λ (k : Literal). k.var) (sym left) ∙ e ∙ ap (λ (k : Literal). k.var) right))
    (cases_eq j (length ls))

pub once-front : (ls : List Literal) (l : Literal) → AllPairs (λ j k. j.var ≢ k.var) (ls ++ l ∷ []) → AllPairs (λ j k. j.var ≢ k.var) ls
once-front ls l once i j d before within e =
    let left = get_or_append_left ls (l ∷ []) d i (omega arith) in
    let right = get_or_append_left ls (l ∷ []) d j within in
    once i j d before (omega (arith, length-append ls (l ∷ []))) (ap (λ (k : Literal). k.var) left ∙ e ∙ ap (λ (k : Literal). k.var) (sym right))

pub fresh-last : (ls : List Literal) (l : Literal) → AllPairs (λ j k. j.var ≢ k.var) (ls ++ l ∷ []) → value_on ls l.var ≡ None
fresh-last ls l once =
    value_on-apart ls l.var
    (λ i d within e.
    let left = get_or_append_left ls (l ∷ []) d i within in
    let right = get_or_push ls l d (length ls) refl in
    once i (length ls) d within (omega (arith, length-append ls (l ∷ []))) (ap (λ (k : Literal). k.var) left ∙ e ∙ ap (λ (k : Literal). k.var) (sym right)))
