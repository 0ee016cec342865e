-- Each variable of a formula has a number of its own.
use Rattle.std.proofs.Common.{◌≡◌, ℕ, ◌+◌, ◌<◌, ◌≤◌, inl, inr, refl, sym, List, [], ◌∷◌, ◌++◌, None, Option, ap, subst, arith, Contains, map}
use Rattle.std.specs.List.{flat_map}
use Rattle.form_formula.specs.declared.structure.Signature.{Signature}
use Rattle.form_formula.specs.Trees.{Formula, yes, no, equal, less, has, flag, present, negation, both, either, exists, forall}
use Rattle.form_terms.specs.GroundTerms.{GroundTerm}
use Rattle.form_terms.specs.Parts.{Variable, Part, existential, universal, atom_term, parts, quantifiers, name_of}
use Rattle.form_terms.specs.Universe.{variables_of, variables_in}
use Rattle.form_terms.specs.Listing.{HasNoRepeats}
use Rattle.form_terms.proofs.Lists.{Contains-cons_cases, Contains-none, Contains-flat_map}
use Rattle.form_terms.proofs.Listed.{in_map}
use Rattle.form_terms.proofs.Once.{append-HasNoRepeats}
use Rattle.form_terms.proofs.Witnesses.{numbered}

abbrev numbers : List Part → List ℕ
numbers ps = map (λ v. v.number) (flat_map variables_in ps)

numbers-append : (ps qs : List Part) → numbers (ps ++ qs) ≡ numbers ps ++ numbers qs
numbers-append [] qs = refl
numbers-append (existential v ∷ ps) qs = ap (λ ns. v.number ∷ ns) (numbers-append ps qs)
numbers-append (universal sort ∷ ps) qs = numbers-append ps qs
numbers-append (atom_term names t ∷ ps) qs = numbers-append ps qs

-- what a number belongs to
numbered_part : (ps : List Part) (n : ℕ) → Contains (numbers ps) n → (v : Variable) × Contains ps (existential v) × (v.number ≡ n)
numbered_part ps n c =
    let variable = in_map (λ v. v.number) (flat_map variables_in ps) n c in
    let found = Contains-flat_map variables_in ps variable.0 variable.1 in
    (variable.0, own found.0 variable.0 found.1 found.2, variable.2)
  where
    own : (p : Part) (v : Variable) → Contains ps p → Contains (variables_in p) v → Contains ps (existential v)
    own (existential w) v here there =
        elim (Contains-cons_cases w [] v there) [
          | inl e ↦ let Q : Variable → Type 0 = λ w. Contains ps (existential w) in subst Q e here
          | inr none ↦ Contains-none v none
        ]
    own (universal sort) v here there = Contains-none v there
    own (atom_term names t) v here there = Contains-none v there

within : (a : Formula) (number : ℕ) (names : List (Option GroundTerm)) (above : List ℕ) (n : ℕ) → Contains (numbers (parts number names above a)) n
    → (number ≤ n) × (n < number + quantifiers a)
within a number names above n c =
    let found = numbered_part (parts number names above a) n c in
    let h = numbered number names above a found.0 found.1 in
    (omega (arith, h.0, found.2), omega (arith, h.1, found.2))

once : (a : Formula) (number : ℕ) (names : List (Option GroundTerm)) (above : List ℕ) → HasNoRepeats (numbers (parts number names above a))
once yes number names above = tt
once no number names above = tt
once (equal t u) number names above = tt
once (less t u) number names above = tt
once (has r t u) number names above = tt
once (flag f t) number names above = tt
once (present f t) number names above = tt
once (negation a) number names above = once a number names above
once (both a b) number names above =
    let P : List ℕ → Type 0 = λ ns. HasNoRepeats ns in
    subst P (sym (numbers-append (parts number names above a) (parts (number + quantifiers a) names above b)))
    (append-HasNoRepeats (numbers (parts number names above a)) (numbers (parts (number + quantifiers a) names above b)) (once a number names above)
    (once b (number + quantifiers a) names above)
    (λ n left right.
    let low = within a number names above n left in
    let high = within b (number + quantifiers a) names above n right in
    absurd (omega (arith, low.1, high.0))))
once (either a b) number names above =
    let P : List ℕ → Type 0 = λ ns. HasNoRepeats ns in
    subst P (sym (numbers-append (parts number names above a) (parts (number + quantifiers a) names above b)))
    (append-HasNoRepeats (numbers (parts number names above a)) (numbers (parts (number + quantifiers a) names above b)) (once a number names above)
    (once b (number + quantifiers a) names above)
    (λ n left right.
    let low = within a number names above n left in
    let high = within b (number + quantifiers a) names above n right in
    absurd (omega (arith, low.1, high.0))))
once (exists sort a) number names above = (
  λ c. let low = within a (number + 1) (names ++ name_of number sort above ∷ []) above number c in absurd (omega (arith, low.0)),
  once a (number + 1) (names ++ name_of number sort above ∷ []) above,
)
once (forall sort a) number names above = once a (number + 1) (names ++ None ∷ []) (above ++ sort ∷ [])

pub variables_once : (g : Signature) (f : Formula) → HasNoRepeats (map (λ v. v.number) (variables_of g f))
variables_once g f = once f 0 [] []
