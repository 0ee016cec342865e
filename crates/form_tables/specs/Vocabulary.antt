-- What a table speaks of, where a formula is read over terms.
use Rattle.std.specs.Prelude.{◌≡◌, ℕ, ◌+◌, Bool, List, [], ◌∷◌, ◌++◌, Option, None, Some, Contains, IsTrue, slice_get}
use Rattle.form_formula.specs.declared.structure.FunSig.{FunSig}
use Rattle.form_formula.specs.declared.structure.SetSig.{SetSig}
use Rattle.form_formula.specs.declared.structure.Signature.{Signature}
use Rattle.form_formula.specs.Over.{IsFunction, IsOver}
use Rattle.form_formula.specs.Trees.{Term, Formula, bound, num, str, app, yes, no, equal, less, has, flag, present, negation, both, either, exists, forall}
use Rattle.form_terms.specs.GroundTerms.{GroundTerm, GroundTerms, constant, skolem, field, no_terms, and_last, sort_of}
use Rattle.form_terms.specs.Parts.{quantifiers}
use Rattle.form_terms.specs.Universe.{variables_of, is_needed, HaveSorts, HasEach}
use Rattle.form_terms.specs.Reading.{Reads}
use Rattle.form_tables.specs.Table.{Table, holds}
pub use Rattle.form_tables.specs.Spoken.{Pair, Vocabulary, told, term_at}

module _ (g : Signature) (v : Vocabulary) where
  -- a function of the signature at a term that names an element of its source
  abbrev pub IsFunctionAt : ℕ → GroundTerm → Type 0
  IsFunctionAt h t = (sig : FunSig) × IsFunction g h sig × (sort_of g t ≡ Some sig.from) × Contains v.named t

  -- a term with a sort names an element, and any other has a value
  abbrev pub IsValuedIn : Option ℕ → GroundTerm → Type 0
  IsValuedIn None t = Contains (told v) t
  IsValuedIn (Some sort) t = Contains v.named t

  abbrev pub IsValued : GroundTerm → Type 0
  IsValued t = IsValuedIn (sort_of g t) t

  module _ (env : List GroundTerm) where
    -- a term of the formula, where the variables above are these terms, is valued with all its parts
    abbrev pub CoversTerm : Term → Type 0
    CoversTerm (bound sort depth) = Unit {0}
    CoversTerm (num n) = Unit {0}
    CoversTerm (str t) = Unit {0}
    CoversTerm (app h t) = CoversTerm t × ((x : GroundTerm) → term_at env (app h t) ≡ Some x → IsValued x)

    -- and a function at such a term is told
    abbrev pub CoversFunction : ℕ → Term → Type 0
    CoversFunction h t = CoversTerm t × ((x : GroundTerm) → term_at env (app h t) ≡ Some x → Contains (told v) x)

    abbrev pub CoversPair : ℕ → Term → Term → Type 0
    CoversPair r t u =
        (x y : GroundTerm) → term_at env t ≡ Some x → term_at env u ≡ Some y → Contains v.pairs (record { relation = r; holder = x; member = y })

    -- all that an atom speaks of is there
    abbrev pub CoversAtom : Formula → Type 0
    CoversAtom yes = Unit {0}
    CoversAtom no = Unit {0}
    CoversAtom (equal t u) = CoversTerm t × CoversTerm u
    CoversAtom (less t u) = CoversTerm t × CoversTerm u
    CoversAtom (has r t u) = CoversTerm t × CoversTerm u × CoversPair r t u
    CoversAtom (flag h t) = CoversFunction h t
    CoversAtom (present h t) = CoversFunction h t
    CoversAtom (negation a) = Unit {0}
    CoversAtom (both a b) = Unit {0}
    CoversAtom (either a b) = Unit {0}
    CoversAtom (exists sort a) = Unit {0}
    CoversAtom (forall sort a) = Unit {0}

  -- and all that a formula speaks of where it is read over the terms
  abbrev pub Covers : List GroundTerm → ℕ → List GroundTerm → GroundTerms → Formula → Type 0
  Covers terms number env args yes = CoversAtom env yes
  Covers terms number env args no = CoversAtom env no
  Covers terms number env args (equal t u) = CoversAtom env (equal t u)
  Covers terms number env args (less t u) = CoversAtom env (less t u)
  Covers terms number env args (has r t u) = CoversAtom env (has r t u)
  Covers terms number env args (flag h t) = CoversAtom env (flag h t)
  Covers terms number env args (present h t) = CoversAtom env (present h t)
  Covers terms number env args (negation a) = CoversAtom env a
  Covers terms number env args (both a b) = Covers terms number env args a × Covers terms (number + quantifiers a) env args b
  Covers terms number env args (either a b) = Covers terms number env args a × Covers terms (number + quantifiers a) env args b
  Covers terms number env args (exists sort a) =
      Contains v.named (skolem number sort args) × Covers terms (number + 1) (env ++ skolem number sort args ∷ []) args a
  Covers terms number env args (forall sort a) =
      (t : GroundTerm) → Contains terms t → sort_of g t ≡ Some sort → Covers terms (number + 1) (env ++ t ∷ []) (and_last args t) a

-- terms of these sorts, from the list
abbrev pub AreTerms : Signature → List GroundTerm → List ℕ → List GroundTerm → Type 0
AreTerms g terms [] [] = Unit {0}
AreTerms g terms [] (t ∷ ts) = ⊥
AreTerms g terms (sort ∷ sorts) [] = ⊥
AreTerms g terms (sort ∷ sorts) (t ∷ ts) = (Contains terms t × (sort_of g t ≡ Some sort)) × AreTerms g terms sorts ts

-- the vocabulary decides how a formula is read: where the same of its terms are there, and in two tables the same of the atoms hold that
-- speak of nothing else, the formula is read by one if it is by the other
abbrev pub IsDecidedBy : Signature → Formula → List GroundTerm → Vocabulary → Type 0
IsDecidedBy g f terms v =
    (is_there is_there' : GroundTerm → Bool) (one two : Table)
    → ((t : GroundTerm) → Contains v.named t → is_there t ≡ is_there' t)
    → ((a : Formula) (scope : List ℕ) (env : List GroundTerm) → IsOver g scope a → AreTerms g v.named scope env → CoversAtom g v env a
    → holds one env a ≡ holds two env a)
    → Reads g is_there (holds one) terms 0 [] no_terms f → Reads g is_there' (holds two) terms 0 [] no_terms f

-- a term that names an element is the constant of a needed sort, or the variable of an `exists` or a function at such terms
abbrev pub IsFormed : Signature → Formula → Vocabulary → GroundTerm → Type 0
IsFormed g f v (constant sort) = IsTrue (is_needed g f sort)
IsFormed g f v (skolem number sort ts) =
    (above : List ℕ) × Contains (variables_of g f) (record { number = number; sort = sort; above = above }) × HaveSorts g ts above × HasEach (Contains v.named) ts
IsFormed g f v (field h t) = IsFunctionAt g v h t

-- the other terms are functions at such terms
abbrev pub IsOther : Signature → Vocabulary → GroundTerm → Type 0
IsOther g v (constant sort) = ⊥
IsOther g v (skolem number sort ts) = ⊥
IsOther g v (field h t) = IsFunctionAt g v h t

-- the vocabulary has the terms over which a formula is read and what its own terms are made of, and decides how the formula is read
pub record IsVocabulary (g : Signature) (f : Formula) (terms : List GroundTerm) (v : Vocabulary) : Type 0 where
  pub ranged : (t : GroundTerm) → Contains terms t → Contains v.named t
  pub decides : IsDecidedBy g f terms v
  pub sorted : (t : GroundTerm) → Contains v.named t → (sort : ℕ) × (sort_of g t ≡ Some sort)
  pub formed : (t : GroundTerm) → Contains v.named t → IsFormed g f v t
  pub functions : (t : GroundTerm) → Contains v.others t → IsOther g v t
  pub related : (p : Pair) → Contains v.pairs p → (sig : SetSig) × (slice_get g.sets p.relation ≡ Some sig)
      × (sort_of g p.holder ≡ Some sig.from) × Contains v.named p.holder × (sort_of g p.member ≡ Some sig.to) × Contains v.named p.member

-- a vocabulary of terms alone
abbrev pub only : List GroundTerm → Vocabulary
only terms = record { named = terms; others = []; pairs = [] }

-- the terms of a list name elements, and are formed of each other
pub record AreFormed (g : Signature) (f : Formula) (terms : List GroundTerm) : Type 0 where
  pub sorted : (t : GroundTerm) → Contains terms t → (sort : ℕ) × (sort_of g t ≡ Some sort)
  pub formed : (t : GroundTerm) → Contains terms t → IsFormed g f (only terms) t
