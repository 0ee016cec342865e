-- The negation normal form.
use Rattle.std.specs.Prelude.{Bool, true, false}
use Rattle.form_formula.specs.Trees.{Formula, yes, no, equal, less, has, flag, present, negation, both, either, exists, forall}

-- the normal form of a formula (true), of its negation (false)
abbrev pub signed_form : Bool → Formula → Formula
signed_form true yes = yes
signed_form false yes = no
signed_form true no = no
signed_form false no = yes
signed_form true (equal t u) = equal t u
signed_form false (equal t u) = negation (equal t u)
signed_form true (less t u) = less t u
signed_form false (less t u) = negation (less t u)
signed_form true (has r t u) = has r t u
signed_form false (has r t u) = negation (has r t u)
signed_form true (flag f t) = flag f t
signed_form false (flag f t) = negation (flag f t)
signed_form true (present f t) = present f t
signed_form false (present f t) = negation (present f t)
signed_form true (negation a) = signed_form false a
signed_form false (negation a) = signed_form true a
signed_form true (both a b) = both (signed_form true a) (signed_form true b)
signed_form false (both a b) = either (signed_form false a) (signed_form false b)
signed_form true (either a b) = either (signed_form true a) (signed_form true b)
signed_form false (either a b) = both (signed_form false a) (signed_form false b)
signed_form true (exists sort a) = exists sort (signed_form true a)
signed_form false (exists sort a) = forall sort (signed_form false a)
signed_form true (forall sort a) = forall sort (signed_form true a)
signed_form false (forall sort a) = exists sort (signed_form false a)

abbrev pub normal_form : Formula → Formula
normal_form f = signed_form true f

-- the formula is an atom that may be negated
abbrev pub IsAtom : Formula → Type 0
IsAtom yes = ⊥
IsAtom no = ⊥
IsAtom (equal t u) = Unit {0}
IsAtom (less t u) = Unit {0}
IsAtom (has r t u) = Unit {0}
IsAtom (flag f t) = Unit {0}
IsAtom (present f t) = Unit {0}
IsAtom (negation a) = ⊥
IsAtom (both a b) = ⊥
IsAtom (either a b) = ⊥
IsAtom (exists sort a) = ⊥
IsAtom (forall sort a) = ⊥

-- only atoms are negated, and neither yes nor no is
abbrev pub IsNormal : Formula → Type 0
IsNormal yes = Unit {0}
IsNormal no = Unit {0}
IsNormal (equal t u) = Unit {0}
IsNormal (less t u) = Unit {0}
IsNormal (has r t u) = Unit {0}
IsNormal (flag f t) = Unit {0}
IsNormal (present f t) = Unit {0}
IsNormal (negation a) = IsAtom a
IsNormal (both a b) = IsNormal a × IsNormal b
IsNormal (either a b) = IsNormal a × IsNormal b
IsNormal (exists sort a) = IsNormal a
IsNormal (forall sort a) = IsNormal a
