-- Lexemes of canonical spellings do not run together.
use Rattle.std.proofs.Common.{◌≡◌, ◌<◌, ℕ, Bool, true, false, leb, lit<, List, [], ◌∷◌, ◌++◌, length, codes, refl, sym, subst, append_assoc, Some, None}
use Rattle.std.specs.Prelude.{Option}
use Rattle.std.specs.List.{list_all}
use Rattle.text_lexer.specs.declared.token.TokenKind.{TokenKind}
use Rattle.text_lexer.specs.declared.token.TokenKind.TheVariants as k
use Rattle.text_lexer.specs.Lexes.{is_blank}
use Rattle.text_print.specs.Exprs.{Spelling, at_least, between, cases, choice, commas, joined, or_some, spaced, step, with_none}
use Rattle.text_print.specs.Marks.{Mark, blank, lower, sign, sp, written}

-- ---- which kinds may stand directly one after the other

-- after a word or a number
abbrev pub tight : TokenKind → Bool
tight k.Upper = false
tight k.Lower = false
tight k.Number = false
tight k.Text = true
tight k.ParenOpen = true
tight k.ParenClose = true
tight k.BracketOpen = true
tight k.BracketClose = true
tight k.BraceOpen = true
tight k.BraceClose = true
tight k.Comma = true
tight k.Colon = true
tight k.ColonColon = true
tight k.Dot = true
tight k.Arrow = true
tight k.Minus = true
tight k.Plus = true
tight k.EqEq = true
tight k.NotEq = true
tight k.Less = true
tight k.LessEq = true
tight k.Greater = true
tight k.GreaterEq = true
tight k.Not = true
tight k.AndAnd = true
tight k.OrOr = true
tight k.Bar = true
tight k.At = true

-- at the front of an expression or a set
abbrev pub starts : TokenKind → Bool
starts k.Upper = true
starts k.Lower = true
starts k.Number = true
starts k.Text = true
starts k.ParenOpen = true
starts k.ParenClose = false
starts k.BracketOpen = true
starts k.BracketClose = false
starts k.BraceOpen = false
starts k.BraceClose = false
starts k.Comma = false
starts k.Colon = false
starts k.ColonColon = false
starts k.Dot = false
starts k.Arrow = false
starts k.Minus = true
starts k.Plus = false
starts k.EqEq = false
starts k.NotEq = false
starts k.Less = false
starts k.LessEq = false
starts k.Greater = false
starts k.GreaterEq = false
starts k.Not = true
starts k.AndAnd = false
starts k.OrOr = false
starts k.Bar = false
starts k.At = false

-- at the end of one
abbrev pub ends : TokenKind → Bool
ends k.Upper = true
ends k.Lower = true
ends k.Number = true
ends k.Text = true
ends k.ParenOpen = false
ends k.ParenClose = true
ends k.BracketOpen = false
ends k.BracketClose = true
ends k.BraceOpen = false
ends k.BraceClose = true
ends k.Comma = false
ends k.Colon = false
ends k.ColonColon = false
ends k.Dot = false
ends k.Arrow = false
ends k.Minus = false
ends k.Plus = false
ends k.EqEq = false
ends k.NotEq = false
ends k.Less = false
ends k.LessEq = false
ends k.Greater = false
ends k.GreaterEq = false
ends k.Not = false
ends k.AndAnd = false
ends k.OrOr = false
ends k.Bar = false
ends k.At = false

abbrev pub is_number : TokenKind → Bool
is_number k.Upper = false
is_number k.Lower = false
is_number k.Number = true
is_number k.Text = false
is_number k.ParenOpen = false
is_number k.ParenClose = false
is_number k.BracketOpen = false
is_number k.BracketClose = false
is_number k.BraceOpen = false
is_number k.BraceClose = false
is_number k.Comma = false
is_number k.Colon = false
is_number k.ColonColon = false
is_number k.Dot = false
is_number k.Arrow = false
is_number k.Minus = false
is_number k.Plus = false
is_number k.EqEq = false
is_number k.NotEq = false
is_number k.Less = false
is_number k.LessEq = false
is_number k.Greater = false
is_number k.GreaterEq = false
is_number k.Not = false
is_number k.AndAnd = false
is_number k.OrOr = false
is_number k.Bar = false
is_number k.At = false

abbrev pub fits : TokenKind → TokenKind → Bool
fits k.Upper n = tight n
fits k.Lower n = tight n
fits k.Number n = tight n
fits k.Text n = true
fits k.ParenOpen n = true
fits k.ParenClose n = true
fits k.BracketOpen n = true
fits k.BracketClose n = true
fits k.BraceOpen n = true
fits k.BraceClose n = true
fits k.Comma n = true
fits k.Colon n = false
fits k.ColonColon n = true
fits k.Dot n = true
fits k.Arrow n = true
fits k.Minus n = is_number n
fits k.Plus n = true
fits k.EqEq n = true
fits k.NotEq n = true
fits k.Less n = false
fits k.LessEq n = true
fits k.Greater n = false
fits k.GreaterEq n = true
fits k.Not n = starts n
fits k.AndAnd n = true
fits k.OrOr n = true
fits k.Bar n = false
fits k.At n = true

pub ends_fit : (a b : TokenKind) → ends a ≡ true → tight b ≡ true → fits a b ≡ true
ends_fit k.Upper b e h = h
ends_fit k.Lower b e h = h
ends_fit k.Number b e h = h
ends_fit k.Text b e h = refl
ends_fit k.ParenOpen b e h = refl
ends_fit k.ParenClose b e h = refl
ends_fit k.BracketOpen b e h = refl
ends_fit k.BracketClose b e h = refl
ends_fit k.BraceOpen b e h = refl
ends_fit k.BraceClose b e h = refl
ends_fit k.Comma b e h = refl
ends_fit k.Colon b e h = cc
ends_fit k.ColonColon b e h = refl
ends_fit k.Dot b e h = refl
ends_fit k.Arrow b e h = refl
ends_fit k.Minus b e h = cc
ends_fit k.Plus b e h = refl
ends_fit k.EqEq b e h = refl
ends_fit k.NotEq b e h = refl
ends_fit k.Less b e h = cc
ends_fit k.LessEq b e h = refl
ends_fit k.Greater b e h = cc
ends_fit k.GreaterEq b e h = refl
ends_fit k.Not b e h = cc
ends_fit k.AndAnd b e h = refl
ends_fit k.OrOr b e h = refl
ends_fit k.Bar b e h = cc
ends_fit k.At b e h = refl

abbrev pub fit : Option TokenKind → TokenKind → Bool
fit None n = true
fit (Some p) n = fits p n

-- Blanks are blanks, and lexemes without one between them fit. The kind is that of a lexeme directly before.
abbrev pub Neat : Option TokenKind → List Mark → Type 0
Neat before [] = Unit {0}
Neat before (blank b ∷ ms) = (list_all is_blank b ≡ true) × (0 < length b) × Neat None ms
Neat before (written l ∷ ms) = (fit before l.kind ≡ true) × Neat (Some l.kind) ms

-- ---- spellings that may stand anywhere

abbrev pub Opens : Option TokenKind → Type 0
Opens before = (n : TokenKind) → starts n ≡ true → fit before n ≡ true

abbrev pub Closed : List Mark → Type 0
Closed rest = (n : TokenKind) → ends n ≡ true → Neat (Some n) rest

abbrev pub Calm : List Mark → Type 0
Calm ms = (before : Option TokenKind) (rest : List Mark) → Opens before → Closed rest → Neat before (ms ++ rest)

-- what may stand behind one
abbrev pub Tails : List Mark → Type 0
Tails ms = (rest : List Mark) → Closed rest → Closed (ms ++ rest)

pub opens_none : Opens None
opens_none n e = refl

one : 0 < length (codes " ")
one = lit< tt

pub spaced_neat : (rest : List Mark) → Neat None rest → (before : Option TokenKind) → Neat before (sp ∷ rest)
spaced_neat rest h before = (refl, one, h)

pub calm_then : (a x : List Mark) → Calm a → Tails x → Calm (a ++ x)
calm_then a x h t before rest opens closed = subst (Neat before) (sym (append_assoc a x rest)) (h before (x ++ rest) opens (t rest closed))

pub tails_nil : Tails []
tails_nil rest closed = closed

pub tails_sign : (n : TokenKind) → tight n ≡ true → ends n ≡ true → Tails (sign n ∷ [])
tails_sign n t e rest closed m f = (ends_fit m n f t, closed n e)

pub tails_between : (n : TokenKind) (a : List Mark) → Calm a → Tails (between n ++ a)
tails_between n a h rest closed m e = (refl, one, (refl, (refl, one, h None rest opens_none closed)))

pub tails_word : (w : List ℕ) (a : List Mark) → Calm a → Tails (spaced w ++ a)
tails_word w a h rest closed m e = (refl, one, (refl, (refl, one, h None rest opens_none closed)))

pub tails_field : (w : List ℕ) → Tails (sign k.Dot ∷ lower w ∷ [])
tails_field w rest closed m e = (ends_fit m k.Dot e refl, (refl, closed k.Lower refl))

pub calm_word : (w : List ℕ) → Calm (lower w ∷ [])
calm_word w before rest opens closed = (opens k.Lower refl, closed k.Lower refl)

pub calm_word_then : (w : List ℕ) (a : List Mark) → Calm a → Calm (lower w ∷ sp ∷ a)
calm_word_then w a h before rest opens closed = (opens k.Lower refl, (refl, one, h None rest opens_none closed))

pub calm_open : (n : TokenKind) (a : List Mark) → starts n ≡ true → Opens (Some n) → Calm a → Calm (sign n ∷ a)
calm_open n a s o h before rest opens closed = (opens n s, h (Some n) rest o closed)

pub calm_parens : (a : List Mark) → Calm a → Calm (sign k.ParenOpen ∷ (a ++ sign k.ParenClose ∷ []))
calm_parens a h = calm_open k.ParenOpen (a ++ sign k.ParenClose ∷ []) refl (λ n e. refl) (calm_then a (sign k.ParenClose ∷ []) h (tails_sign k.ParenClose refl refl))

pub calm_least : (r : ℕ) (s : Spelling) → Calm s.marks → Calm (at_least r s)
calm_least r s h = elim (leb r s.rank) as (λ (t : Bool). leb r s.rank ≡ t → Calm (at_least r s)) [
  | true ↦ λ e. (let same : at_least r s ≡ s.marks = rw e refl in subst Calm (sym same) h)
  | false ↦ λ e. (let same : at_least r s ≡ sign k.ParenOpen ∷ (s.marks ++ sign k.ParenClose ∷ []) = rw e refl in subst Calm (sym same) (calm_parens s.marks h))
] refl

pub calm_choice : (t a b : List Mark) → Calm t → Calm a → Calm b → Calm (choice t a b)
calm_choice t a b f g h =
    calm_word_then (codes "if") (t ++ (spaced (codes "then") ++ (a ++ (spaced (codes "else") ++ b))))
    (calm_then t (spaced (codes "then") ++ (a ++ (spaced (codes "else") ++ b))) f
    (tails_word (codes "then") (a ++ (spaced (codes "else") ++ b)) (calm_then a (spaced (codes "else") ++ b) g (tails_word (codes "else") b h))))

tails_none : (a : List Mark) → Calm a → Tails (with_none ++ a)
tails_none a h rest closed m e = (refl, one, (refl, (refl, one, (refl, (refl, one, (refl, (refl, one, h None rest opens_none closed)))))))

tails_some : (x : List ℕ) (b : List Mark) → Calm b → Tails (or_some ++ lower x ∷ (between k.Arrow ++ b))
tails_some x b h rest closed m e =
    (refl, one, (refl, (refl, one, (refl, (refl, one, (refl, (refl, one, (refl, (refl, one, h None rest opens_none closed)))))))))

pub calm_cases : (t a : List Mark) (x : List ℕ) (b : List Mark) → Calm t → Calm a → Calm b → Calm (cases t a x b)
calm_cases t a x b f g h =
    calm_word_then (codes "match") (t ++ (with_none ++ (a ++ (or_some ++ lower x ∷ (between k.Arrow ++ b)))))
    (calm_then t (with_none ++ (a ++ (or_some ++ lower x ∷ (between k.Arrow ++ b)))) f
    (tails_none (a ++ (or_some ++ lower x ∷ (between k.Arrow ++ b))) (calm_then a (or_some ++ lower x ∷ (between k.Arrow ++ b)) g (tails_some x b h))))

pub tails_step : (w x : List ℕ) (a : List Mark) → Calm a → Tails (step w x a)
tails_step w x a h rest closed m e = (
  ends_fit m k.Dot e refl,
  (
    refl,
    (
      refl,
      (
        refl,
        (
          refl,
          one,
          (
            refl,
            (
              refl,
              one,
              calm_then a (sign k.ParenClose ∷ []) h (tails_sign k.ParenClose refl refl) None rest opens_none closed,
            ),
          ),
        ),
      ),
    ),
  ),
)

-- ---- lists with commas

abbrev pub AllCalm : List (List Mark) → Type 0
AllCalm [] = Unit {0}
AllCalm (m ∷ ms) = Calm m × AllCalm ms

pub tails_joined : (ms : List (List Mark)) → AllCalm ms → Tails (joined (sign k.Comma ∷ sp ∷ []) ms)
tails_joined [] h rest closed n e = closed n e
tails_joined (m ∷ ms) (h, more) rest closed n e =
    (ends_fit n k.Comma e refl, (refl, one, calm_then m (joined (sign k.Comma ∷ sp ∷ []) ms) h (tails_joined ms more) None rest opens_none closed))

-- before something that may stand there without them
pub commas_neat : (ms : List (List Mark)) → AllCalm ms → (before : Option TokenKind) (rest : List Mark) → Opens before → Closed rest → Neat before rest → Neat before (commas ms ++ rest)
commas_neat [] h before rest opens closed now = now
commas_neat (m ∷ ms) (h, more) before rest opens closed now =
    calm_then m (joined (sign k.Comma ∷ sp ∷ []) ms) h (tails_joined ms more) before rest opens closed
