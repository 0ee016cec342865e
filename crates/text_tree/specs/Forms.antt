-- What the grammar is written in, and what it means.
use Rattle.std.specs.Prelude.{◌≡◌, ◌≤◌, ◌⊎◌, ℕ, suc, ◌-◌, Bool, true, false, if◌then◌else◌, not, ◌&&◌, nat_le, List, [], ◌∷◌, ◌++◌, length}
use Rattle.std.specs.List.{list_any}
use Rattle.std.specs.Str.{bytes_eq}
use Rattle.std.specs.Str.Parse.{digits_value}
use denote.Enum.Bare.{sameb}
use Rattle.text_lexer.specs.contracts.token.TokenKind.{the_type}
use Rattle.text_lexer.specs.declared.token.TokenKind.{TokenKind}
use Rattle.text_lexer.specs.declared.token.TokenKind.TheVariants as k
use Rattle.text_lexer.specs.declared.limits.TheConstants.{LARGEST_NUMBER}
use Rattle.text_ast.specs.Pieces.{Piece}
use Rattle.text_ast.specs.Words.{is_reserved_upper, is_reserved_lower}

-- what one token may be
pub data Want : Type 0 where
  -- a sign
  Sign : TokenKind → Want
  -- a reserved word
  Word : TokenKind → List ℕ → Want
  -- the name of a static or a model
  Upper : Want
  -- the name of a field or a variable
  Lower : Want
  -- a number without a sign, and one after a minus
  Plain : Want
  Negated : Want
  Literal : Want

-- one kind is the other
unfoldable pub same_kind : TokenKind → TokenKind → Bool
same_kind = sameb the_type

-- the largest number of 64 bits with a sign
abbrev pub largest : ℕ
largest = LARGEST_NUMBER - 1

-- the token is one that is wanted
unfoldable pub admits : Want → Piece → Bool
admits (Sign kind) l = same_kind l.kind kind
admits (Word kind word) l = same_kind l.kind kind && bytes_eq l.bytes word
admits Upper l = same_kind l.kind k.Upper && not (is_reserved_upper l.bytes)
admits Lower l = same_kind l.kind k.Lower && not (is_reserved_lower l.bytes)
admits Plain l = same_kind l.kind k.Number && nat_le (digits_value 10 l.bytes) largest
admits Negated l = same_kind l.kind k.Number && nat_le 1 (digits_value 10 l.bytes)
admits Literal l = same_kind l.kind k.Text

-- why a text is refused at a token
pub data Cause : Type 0 where
  NotGrammar : Cause
  TooDeep : Cause
  TooManyTokens : Cause
  TooManyStatics : Cause
  TooManyModels : Cause
  TooManyFields : Cause
  TooManyCommands : Cause

-- how often a form may stand, with the cause that stands at the first token of one too many
pub data Times : Type 0 where
  AnyNumber : Times
  AtMost : ℕ → Cause → Times

-- A form is what a list of pieces may be, with a value that it then has. The parts P hold each other, and have values in T.
pub data Form (P : Type 0) (T : P → Type 0) : Type 0 → Type 1 where
  -- no piece, and this value
  nothing : {A : Type 0} → A → Form P T A
  token : Want → Form P T Piece
  -- one form, and then the other
  both : {A B : Type 0} → Form P T A → Form P T B → Form P T (A × B)
  either : {A : Type 0} → Form P T A → Form P T A → Form P T A
  -- the form again and again
  each : {A : Type 0} → Times → Form P T A → Form P T (List A)
  -- the token and the second form again and again; and then the token and the third form, or the fourth
  ended : {A B : Type 0} → Times → Want → Form P T A → Form P T B → Form P T B → Form P T (List A × B)
  -- the form, and of its value what a function makes
  mapped : {A B : Type 0} → (A → B) → Form P T A → Form P T B
  -- a part, one level deeper
  part : (p : P) → Form P T (T p)
  -- the form, of at most so many tokens
  within : {A : Type 0} → ℕ → Form P T A → Form P T A

-- Whether the form may be no pieces. Of a choice only the second form is asked: in the grammars no first one may.
abbrev pub empty : {P : Type 0} {T : P → Type 0} → {A : Type 0} → Form P T A → Bool
empty (nothing x) = true
empty (token w) = false
empty (both f g) = empty f && empty g
empty (either f g) = empty g
empty (each times f) = true
empty (ended times w f g h) = empty h
empty (mapped make f) = empty f
empty (part p) = false
empty (within most f) = empty f

-- which tokens may come first, where F says it of the parts
abbrev pub first : {P : Type 0} {T : P → Type 0} → (P → List Want) → {A : Type 0} → Form P T A → List Want
first F (nothing x) = []
first F (token w) = w ∷ []
first F (both f g) = if empty f then first F f ++ first F g else first F f
first F (either f g) = first F f ++ first F g
first F (each times f) = first F f
first F (ended times w f g h) = w ∷ first F h
first F (mapped make f) = first F f
first F (part p) = F p
first F (within most f) = first F f

-- the piece is one of these
abbrev pub may : List Want → Piece → Bool
may wants l = list_any (λ w. admits w l) wants

-- ---- which pieces spell a value of the form

-- a front is of one form, and the rest of another
infixr 6 ◌then◌
abbrev pub ◌then◌ : (List Piece → Type 0) → (List Piece → Type 0) → List Piece → Type 0
(F then G) ls = (front back : List Piece) × (ls ≡ front ++ back) × F front × G back

abbrev pub SpellsEach : {A : Type 0} → (A → List Piece → Type 0) → List A → List Piece → Type 0
SpellsEach F [] ls = ls ≡ []
SpellsEach F (x ∷ xs) ls = (F x then SpellsEach F xs) ls

abbrev pub IsToken : Want → List Piece → Type 0
IsToken w ls = (l : Piece) × (ls ≡ l ∷ []) × (admits w l ≡ true)

-- so many may stand
abbrev pub AreWithin : Times → ℕ → Type 0
AreWithin AnyNumber count = Unit {0}
AreWithin (AtMost most cause) count = count ≤ most

-- there are as many as there may be, and one more is refused for the cause
abbrev pub IsFull : Times → ℕ → Cause → Type 0
IsFull AnyNumber count c = ⊥
IsFull (AtMost most cause) count c = (count ≡ most) × (c ≡ cause)

-- S spells the parts
abbrev pub Spells : {P : Type 0} {T : P → Type 0} → ((p : P) → T p → List Piece → Type 0)
    → {A : Type 0} → Form P T A → A → List Piece → Type 0
Spells S (nothing x) y ls = (y ≡ x) × (ls ≡ [])
Spells S (token w) y ls = (ls ≡ y ∷ []) × (admits w y ≡ true)
Spells S (both f g) y ls = (Spells S f y.0 then Spells S g y.1) ls
Spells S (either f g) y ls = Spells S f y ls ⊎ Spells S g y ls
Spells S (each times f) ys ls = SpellsEach (Spells S f) ys ls × AreWithin times (length ys)
Spells S (ended times w f g h) y ls =
    (SpellsEach (λ x. IsToken w then Spells S f x) y.0 then (λ rest. (IsToken w then Spells S g y.1) rest ⊎ Spells S h y.1 rest)) ls
    × AreWithin times (length y.0)
Spells S (mapped {A} make f) y ls = (x : A) × (y ≡ make x) × Spells S f x ls
Spells S (part p) y ls = S p y ls
Spells S (within most f) y ls = Spells S f y ls × (length ls ≤ most)

-- ---- the form without limits

abbrev pub loosened : {P : Type 0} {T : P → Type 0} → {A : Type 0} → Form P T A → Form P T A
loosened (nothing x) = nothing x
loosened (token w) = token w
loosened (both f g) = both (loosened f) (loosened g)
loosened (either f g) = either (loosened f) (loosened g)
loosened (each times f) = each AnyNumber (loosened f)
loosened (ended times w f g h) = ended AnyNumber w (loosened f) (loosened g) (loosened h)
loosened (mapped make f) = mapped make (loosened f)
loosened (part p) = part p
loosened (within most f) = loosened f

-- ---- which pieces begin a form, at any limits

abbrev pub Begins : {P : Type 0} {T : P → Type 0} → ((p : P) → T p → List Piece → Type 0) → (P → List Piece → Type 0)
    → {A : Type 0} → Form P T A → List Piece → Type 0
Begins S B (nothing x) ls = ls ≡ []
Begins S B (token w) ls = (ls ≡ []) ⊎ IsToken w ls
Begins S B (both {A} f g) ls = Begins S B f ls ⊎ ((x : A) × (Spells S (loosened f) x then Begins S B g) ls)
Begins S B (either f g) ls = Begins S B f ls ⊎ Begins S B g ls
Begins S B (each {A} times f) ls = (xs : List A) × (SpellsEach (Spells S (loosened f)) xs then Begins S B f) ls
Begins S B (ended {A} times w f g h) ls =
    (xs : List A) × (SpellsEach (λ x. IsToken w then Spells S (loosened f) x) xs then (λ rest.
    Begins S B h rest ⊎ (IsToken w then (λ more. Begins S B f more ⊎ Begins S B g more)) rest)) ls
Begins S B (mapped make f) ls = Begins S B f ls
Begins S B (part p) ls = B p ls
Begins S B (within most f) ls = Begins S B f ls

-- ---- the pieces of which the last is the first that breaks a limit

-- S spells the parts within the limits, and Z at any; B begins them, and D breaks the limit of levels
abbrev pub Breaks : {P : Type 0} {T : P → Type 0} → (S Z : (p : P) → T p → List Piece → Type 0) → (B D : P → List Piece → Type 0)
    → Cause → {A : Type 0} → Form P T A → List Piece → Type 0
Breaks S Z B D c (nothing x) ls = ⊥
Breaks S Z B D c (token w) ls = ⊥
Breaks S Z B D c (both {A} f g) ls = Breaks S Z B D c f ls ⊎ ((x : A) × (Spells S f x then Breaks S Z B D c g) ls)
Breaks S Z B D c (either f g) ls = Breaks S Z B D c f ls ⊎ Breaks S Z B D c g ls
Breaks S Z B D c (each {A} times f) ls =
    (xs : List A)
    × (((SpellsEach (Spells S f) xs then Breaks S Z B D c f) ls × AreWithin times (suc (length xs)))
    ⊎ ((SpellsEach (Spells S f) xs then (λ last. (length last ≡ 1) × Begins Z B f last)) ls × IsFull times (length xs) c))
Breaks S Z B D c (ended {A} times w f g h) ls =
    (xs : List A) × AreWithin times (length xs) × (SpellsEach (λ x. IsToken w then Spells S f x) xs then (λ rest.
    Breaks S Z B D c h rest ⊎ (IsToken w then Breaks S Z B D c g) rest
    ⊎ ((IsToken w then Breaks S Z B D c f) rest × AreWithin times (suc (length xs)))
    ⊎ ((IsToken w then (λ last. (length last ≡ 1) × Begins Z B f last)) rest × IsFull times (length xs) c))) ls
Breaks S Z B D c (mapped make f) ls = Breaks S Z B D c f ls
Breaks S Z B D c (part p) ls = D p ls × (c ≡ TooDeep)
Breaks S Z B D c (within most f) ls =
    (Breaks S Z B D c f ls × (length ls ≤ suc most)) ⊎ ((c ≡ TooManyTokens) × Begins Z B f ls × (length ls ≡ suc most))
