-- What forms mean whose parts nest, by how many levels are left.
use Rattle.std.specs.Prelude.{◌≡◌, ◌⊎◌, ℕ, zero, suc, true, List, [], ◌∷◌}
use Rattle.text_ast.specs.Pieces.{Piece}
use Rattle.text_tree.specs.Forms.{Form, Want, TooDeep, Spells, Begins, Breaks, may}

-- the forms of the parts
abbrev pub Rules : (P : Type 0) → (P → Type 0) → Type 1
Rules P T = (p : P) → Form P T (T p)

abbrev pub SpellsPart : {P : Type 0} {T : P → Type 0} → Rules P T → ℕ → (p : P) → T p → List Piece → Type 0
SpellsPart G zero p x ls = ⊥
SpellsPart G (suc n) p x ls = Spells (SpellsPart G n) (G p) x ls

-- a token that F says may come first
abbrev pub IsFirst : List Want → List Piece → Type 0
IsFirst wants ls = (l : Piece) × (ls ≡ l ∷ []) × (may wants l ≡ true)

-- with no level left a part begins with its first token alone
abbrev pub BeginsPart : {P : Type 0} {T : P → Type 0} → Rules P T → (P → List Want) → ℕ → P → List Piece → Type 0
BeginsPart G F zero p ls = (ls ≡ []) ⊎ IsFirst (F p) ls
BeginsPart G F (suc n) p ls = Begins (SpellsPart G n) (BeginsPart G F n) (G p) ls

-- The last piece is the first of a part below as many others as may hold it. So many levels are left for parts that begin (m), and for
-- those that are spelled (the other number).
abbrev pub IsTooDeep : {P : Type 0} {T : P → Type 0} → Rules P T → (P → List Want) → ℕ → ℕ → P → List Piece → Type 0
IsTooDeep G F m zero p ls = IsFirst (F p) ls
IsTooDeep G F zero (suc n) p ls = ⊥
IsTooDeep G F (suc m) (suc n) p ls = Breaks (SpellsPart G n) (SpellsPart G m) (BeginsPart G F m) (IsTooDeep G F m n) TooDeep (G p) ls
