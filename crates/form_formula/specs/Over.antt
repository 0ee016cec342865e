-- Formulas and structures over a signature.
use Rattle.std.specs.Prelude.{◌≡◌, ℕ, ◌+◌, ◌<◌, List, [], ◌∷◌, ◌++◌, Some, slice_get}
use Rattle.form_formula.specs.declared.structure.Range.{Range}
use Rattle.form_formula.specs.declared.structure.Range.TheVariants.{Rec, Flag, Num, Str}
use Rattle.form_formula.specs.declared.structure.FunSig.{FunSig}
use Rattle.form_formula.specs.declared.structure.SetSig.{SetSig}
use Rattle.form_formula.specs.declared.structure.Signature.{Signature}
use Rattle.form_formula.specs.Trees.{Term, Formula, bound, num, str, app, yes, no, equal, less, has, flag, present, negation, both, either, exists, forall}

-- the signature has this function, with this signature of its own
abbrev pub IsFunction : Signature → ℕ → FunSig → Type 0
IsFunction g f sig = slice_get g.funs f ≡ Some sig

module _ (g : Signature) (scope : List ℕ) where
  -- the term has this range where the quantifiers above have these sorts, the outermost first
  abbrev pub HasRange : Term → Range → Type 0
  HasRange (bound sort depth) range = (slice_get scope depth ≡ Some sort) × (range ≡ Rec sort)
  HasRange (num n) range = range ≡ Num
  HasRange (str t) range = range ≡ Str
  HasRange (app f t) range = (sig : FunSig) × IsFunction g f sig × HasRange t (Rec sig.from) × (range ≡ sig.to)

-- the two terms are both of one sort, both numbers or both texts
abbrev pub AreComparable : Range → Type 0
AreComparable (Rec sort) = Unit {0}
AreComparable Flag = ⊥
AreComparable Num = Unit {0}
AreComparable Str = Unit {0}

-- the formula is over the signature where the quantifiers above have these sorts, the outermost first
abbrev pub IsOver : Signature → List ℕ → Formula → Type 0
IsOver g scope yes = Unit {0}
IsOver g scope no = Unit {0}
IsOver g scope (equal t u) = (range : Range) × AreComparable range × HasRange g scope t range × HasRange g scope u range
IsOver g scope (less t u) = HasRange g scope t Num × HasRange g scope u Num
IsOver g scope (has r t u) = (sig : SetSig) × (slice_get g.sets r ≡ Some sig) × HasRange g scope t (Rec sig.from) × HasRange g scope u (Rec sig.to)
IsOver g scope (flag f t) = (sig : FunSig) × IsFunction g f sig × HasRange g scope t (Rec sig.from) × (sig.to ≡ Flag)
IsOver g scope (present f t) = (sig : FunSig) × IsFunction g f sig × HasRange g scope t (Rec sig.from)
IsOver g scope (negation a) = IsOver g scope a
IsOver g scope (both a b) = IsOver g scope a × IsOver g scope b
IsOver g scope (either a b) = IsOver g scope a × IsOver g scope b
IsOver g scope (exists sort a) = (sort < g.sorts) × IsOver g (scope ++ sort ∷ []) a
IsOver g scope (forall sort a) = (sort < g.sorts) × IsOver g (scope ++ sort ∷ []) a

-- each variable has its quantifier, where so many stand above
abbrev pub IsClosedTerm : ℕ → Term → Type 0
IsClosedTerm above (bound sort depth) = depth < above
IsClosedTerm above (num n) = Unit {0}
IsClosedTerm above (str t) = Unit {0}
IsClosedTerm above (app f t) = IsClosedTerm above t

abbrev pub IsClosed : ℕ → Formula → Type 0
IsClosed above yes = Unit {0}
IsClosed above no = Unit {0}
IsClosed above (equal t u) = IsClosedTerm above t × IsClosedTerm above u
IsClosed above (less t u) = IsClosedTerm above t × IsClosedTerm above u
IsClosed above (has r t u) = IsClosedTerm above t × IsClosedTerm above u
IsClosed above (flag f t) = IsClosedTerm above t
IsClosed above (present f t) = IsClosedTerm above t
IsClosed above (negation a) = IsClosed above a
IsClosed above (both a b) = IsClosed above a × IsClosed above b
IsClosed above (either a b) = IsClosed above a × IsClosed above b
IsClosed above (exists sort a) = IsClosed (above + 1) a
IsClosed above (forall sort a) = IsClosed (above + 1) a
