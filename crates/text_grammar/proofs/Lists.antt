-- Lists of pieces cut in two.
use Rattle.std.proofs.Common.{◌≡◌, ◌⊎◌, inl, inr, List, [], ◌∷◌, ◌++◌, refl, ap, sym, ◌∙◌, Bool, true, false, ◌&&◌, ◌||◌}
use Rattle.text_ast.specs.Pieces.{Piece}
use Rattle.text_tree.specs.Forms.{Want, admits, may}

-- The second of two fronts of a list goes on from the first.
pub record GoesOn (a b c d : List Piece) : Type 0 where
  pub more : List Piece
  pub longer : c ≡ a ++ more
  pub rest : b ≡ more ++ d

heads : {x y : Piece} {a b : List Piece} → x ∷ a ≡ y ∷ b → x ≡ y
heads {x} {y} {a} {b} e = cc

tails : {x y : Piece} {a b : List Piece} → x ∷ a ≡ y ∷ b → a ≡ b
tails {x} {y} {a} {b} e = cc

pub compare : (a b c d : List Piece) → a ++ b ≡ c ++ d → GoesOn a b c d ⊎ GoesOn c d a b
compare [] b c d e = inl (record { more = c; longer = refl; rest = e })
compare (x ∷ a) b [] d e = inr (record { more = x ∷ a; longer = refl; rest = sym e })
compare (x ∷ a) b (y ∷ c) d e =
    let same : x ≡ y = heads e in
    elim (compare a b c d (tails e)) [
      | inl g ↦ inl (record { more = g.more; longer = ap (λ z. z ∷ c) (sym same) ∙ ap (λ z. x ∷ z) g.longer; rest = g.rest })
      | inr g ↦ inr (record { more = g.more; longer = ap (λ z. z ∷ a) same ∙ ap (λ z. y ∷ z) g.longer; rest = g.rest })
    ]

-- The list is empty, or begins with none of these.
abbrev pub Quiet : List Want → List Piece → Type 0
Quiet wants [] = Unit {0}
Quiet wants (l ∷ ls) = may wants l ≡ false

pub quiet_front : (wants : List Want) (a b : List Piece) → Quiet wants (a ++ b) → Quiet wants a
quiet_front wants [] b q = tt
quiet_front wants (l ∷ a) b q = q

pub may_left : (us vs : List Want) (l : Piece) → may us l ≡ true → may (us ++ vs) l ≡ true
may_left [] vs l e = cc
may_left (u ∷ us) vs l e =
    elim (admits u l) as (λ (b : Bool). (b || may us l) ≡ true → (b || may (us ++ vs) l) ≡ true) [ true ↦ λ h. refl | false ↦ λ h. may_left us vs l h ] e

pub may_right : (us vs : List Want) (l : Piece) → may vs l ≡ true → may (us ++ vs) l ≡ true
may_right [] vs l e = e
may_right (u ∷ us) vs l e =
    elim (admits u l) as (λ (b : Bool). (b || may (us ++ vs) l) ≡ true) [ true ↦ refl | false ↦ may_right us vs l e ]

pub both_true : (a b : Bool) → (a && b) ≡ true → (a ≡ true) × (b ≡ true)
both_true true b e = (refl, e)
both_true false b e = cc

pub snoc_not_nil : (a : List Piece) (l : Piece) → a ++ l ∷ [] ≡ [] → ⊥
snoc_not_nil [] l e = cc
snoc_not_nil (x ∷ a) l e = cc

pub no_front : (a b : List Piece) → a ++ b ≡ [] → a ≡ []
no_front [] b e = refl
no_front (x ∷ a) b e = cc

pub no_back : (a b : List Piece) → a ++ b ≡ [] → b ≡ []
no_back [] b e = e
no_back (x ∷ a) b e = cc

pub head_of : (x y : Piece) (a b : List Piece) → x ∷ a ≡ y ∷ b → x ≡ y
head_of x y a b e = cc

pub tail_of : (x y : Piece) (a b : List Piece) → x ∷ a ≡ y ∷ b → a ≡ b
tail_of x y a b e = cc

pub true_false : {b : Bool} → b ≡ true → b ≡ false → ⊥
true_false {b} e f = cc

-- No token is one of both.
abbrev pub Apart : List Want → List Want → Type 0
Apart us vs = (l : Piece) → may us l ≡ true → may vs l ≡ true → ⊥

pub apart_false : (us vs : List Want) → Apart us vs → (l : Piece) → may vs l ≡ true → may us l ≡ false
apart_false us vs apart l e =
    elim (may us l) as (λ (b : Bool). may us l ≡ b → b ≡ false) [ true ↦ λ was. absurd (apart l was e) | false ↦ λ was. refl ] refl

pub record Headed (a : List Piece) : Type 0 where
  pub head : Piece
  pub tail : List Piece
  pub is : a ≡ head ∷ tail

-- the list is empty, or has a head
pub headed : (a : List Piece) → (a ≡ []) ⊎ Headed a
headed [] = inl refl
headed (m ∷ k) = inr (record { head = m; tail = k; is = refl })
