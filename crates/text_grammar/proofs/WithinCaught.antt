-- Where a form has too many tokens, its reader stops at the first too many, or before.
use Rattle.std.proofs.Common.{◌≡◌, ◌⊎◌, inl, inr, ℕ, List, [], ◌∷◌, ◌++◌, ◌≤◌, ◌<◌, ◌-◌, ◌+◌, suc, zero, length, drop, arith, length-append, refl, ap, sym, ◌∙◌, subst, append_assoc, Bool, true, false}
use Rattle.std.specs.Prelude.{if◌then◌else◌, nat_le}
use Rattle.std.proofs.lemmas.Bool.{leb-true, leb-false, le-leb}
use Rattle.text_ast.specs.Pieces.{Piece}
use Rattle.text_tree.specs.Forms.{Want, Cause, NotGrammar, TooDeep, TooManyTokens, TooManyStatics, TooManyModels, TooManyFields, TooManyCommands}
use Rattle.text_grammar.specs.Reading.{Answer, Got, Stuck, Reader, at_most}
use Rattle.text_grammar.proofs.Lists.{compare}
use Rattle.text_grammar.proofs.Shapes.{Shape}
use Rattle.text_grammar.proofs.Agrees.{Agrees, Blocked, blocked_all, IsBroken, Sound, BrWithin}
use Rattle.text_grammar.specs.Causes.{number}
use Rattle.text_grammar.proofs.Caught.{Caught, Catches, caught_here}

drop_front : (n : ℕ) (a b : List Piece) → length a ≡ n → drop n (a ++ b) ≡ b
drop_front zero [] b e = refl
drop_front zero (x ∷ a) b e = absurd (omega (arith, e))
drop_front (suc n) [] b e = absurd (omega (arith, e))
drop_front (suc n) (x ∷ a) b e = drop_front n a b (omega (arith, e))

no_piece : (a : List Piece) → length a ≡ 0 → a ≡ []
no_piece [] e = refl
no_piece (x ∷ a) e = absurd (omega (arith, e))

-- two backs of a list that are of one size are one
pub same_back : (a b c d : List Piece) → a ++ b ≡ c ++ d → length b ≡ length d → b ≡ d
same_back a b c d e size =
    elim (compare a b c d e) [
      | inl g ↦
          let none : length g.more ≡ 0 = omega (arith, ap length g.rest, length-append g.more d, size) in
          g.rest ∙ ap (λ z. z ++ d) (no_piece g.more none)
      | inr g ↦
          let none : length g.more ≡ 0 = omega (arith, ap length g.rest, length-append g.more b, size) in
          sym (g.rest ∙ ap (λ z. z ++ b) (no_piece g.more none))
    ]

-- what the next piece does not go on with is no shorter than what begins
pub no_shorter : (Be : List Piece → Type 0) → ((a b : List Piece) → Be (a ++ b) → Be a) → (begun more front rest : List Piece) → begun ++ more ≡ front ++ rest → Be begun → Blocked Be front rest
    → length begun ≤ length front
no_shorter Be closed begun more front rest e be blocked =
    elim (compare front rest begun more (sym e)) [
      | inl g ↦
          let none : g.more ≡ [] = blocked_all Be closed front rest g.more more blocked g.rest (subst Be g.longer be) in
          omega (arith, ap length g.longer, length-append front g.more, ap length none)
      | inr g ↦ omega (arith, ap length g.longer, length-append begun g.more)
    ]

pub less_or_same : (n m : ℕ) → n ≤ m → (n < m) ⊎ (n ≡ m)
less_or_same n m le =
    elim (nat_le (suc n) m) as (λ (b : Bool). nat_le (suc n) m ≡ b → (n < m) ⊎ (n ≡ m)) [
      | true ↦ λ e. inl (let lt = leb-true (suc n) m e in omega (arith, lt))
      | false ↦ λ e. inr (let ge = leb-false (suc n) m e in omega (arith, ge, le))
    ] refl

-- there the list has more tokens than it may have
record TooMany (most : ℕ) (a : List Piece) (l : Piece) (more whole : List Piece) : Type 0 where
  pub is : whole ≡ a ++ l ∷ more
  pub size : length a ≡ most

at_most-cut : {A : Type 0} (most : ℕ) (a : List Piece) (l : Piece) (more whole rest : List Piece) (ans : Answer A) → TooMany most a l more whole → most < length whole - length rest
    → (if nat_le (length whole - length rest) most then ans else Stuck TooManyTokens (drop most whole)) ≡ Stuck TooManyTokens (l ∷ more)
at_most-cut most a l more whole rest ans t lt =
    elim (nat_le (length whole - length rest) most) as (λ (b : Bool). nat_le (length whole - length rest) most ≡ b
    → (if b then ans else Stuck TooManyTokens (drop most whole)) ≡ Stuck TooManyTokens (l ∷ more)) [
      | true ↦ λ e. absurd (let le = leb-true (length whole - length rest) most e in omega (arith, le, lt))
      | false ↦ λ e. ap (Stuck TooManyTokens) (ap (drop most) t.is ∙ drop_front most a (l ∷ more) t.size)
    ] refl

-- the reader went beyond
long : (most : ℕ) (a : List Piece) (l : Piece) (more whole front rest : List Piece) → TooMany most a l more whole → whole ≡ front ++ rest → length (a ++ l ∷ []) ≤ length front
    → most < length whole - length rest
long most a l more whole front rest t e le =
    omega (arith, ap length e, length-append front rest, length-append a (l ∷ []), t.size, le)

beyond : (Be : List Piece → Type 0) → ((a b : List Piece) → Be (a ++ b) → Be a) → (most : ℕ) (a : List Piece) (l : Piece) (more whole front rest : List Piece) → TooMany most a l more whole
    → Be (a ++ l ∷ []) → whole ≡ front ++ rest → Blocked Be front rest → most < length whole - length rest
beyond Be closed most a l more whole front rest t be e blocked =
    let cut : (a ++ l ∷ []) ++ more ≡ front ++ rest = append_assoc a (l ∷ []) more ∙ sym t.is ∙ e in
    long most a l more whole front rest t e (no_shorter Be closed (a ++ l ∷ []) more front rest cut be blocked)

deep_first : (c : Cause) → c ≡ TooDeep → number c < number TooManyTokens
deep_first c e = subst (λ z. number z < 7) (sym e) (omega arith)

stopped : {A : Type 0} (Be : List Piece → Type 0) (Br : Cause → List Piece → Type 0) → ((c : Cause) (ls : List Piece) → Br c ls → c ≡ TooDeep)
    → (most : ℕ) (a : List Piece) (l : Piece) (more whole rest : List Piece) (c : Cause) → TooMany most a l more whole → IsBroken Be (Br c) whole rest
    → Caught {A = A} (at_most most whole (Stuck c rest)) TooManyTokens (l ∷ more)
stopped {A} Be Br deep most a l more whole rest c t s =
    let size : length whole ≡ length a + length (l ∷ more) = ap length t.is ∙ length-append a (l ∷ more) in
    elim (nat_le (length whole - length rest) most) as (λ (b : Bool). nat_le (length whole - length rest) most ≡ b
    → Caught {A = A} (if b then Stuck c rest else Stuck TooManyTokens (drop most whole)) TooManyTokens (l ∷ more)) [
      | true ↦ λ e.
          let le = leb-true (length whole - length rest) most e in
          let no_longer : length (l ∷ more) ≤ length rest = omega (arith, le, size, t.size, ap length s.glued, length-append s.front rest) in
          elim (less_or_same (length (l ∷ more)) (length rest) no_longer) [
            | inl less ↦ record { cause = c; stop = rest; is = refl; first = inl less }
            | inr same ↦ record {
              cause = c;
              stop = rest;
              is = refl;
              first = inr (same_back s.front rest a (l ∷ more) (sym s.glued ∙ t.is) (sym same), inl (deep_first c (deep c (s.front ++ s.last ∷ []) s.breaks)));
            }
          ]
      | false ↦ λ e. caught_here (ap (Stuck TooManyTokens) (ap (drop most) t.is ∙ drop_front most a (l ∷ more) t.size))
    ] refl

cut : {A : Type 0} (Sp Fr : A → List Piece → Type 0) (Be : List Piece → Type 0) (Br : Cause → List Piece → Type 0) → ((a b : List Piece) → Be (a ++ b) → Be a)
    → ((c : Cause) (ls : List Piece) → Br c ls → c ≡ TooDeep) → (most : ℕ) (a : List Piece) (l : Piece) (more whole : List Piece) → TooMany most a l more whole
    → Be (a ++ l ∷ []) → (ans : Answer A) → Sound Sp Fr Be Br whole ans → Caught (at_most most whole ans) TooManyTokens (l ∷ more)
cut Sp Fr Be Br closed deep most a l more whole t be (Got x rest) s =
    caught_here (at_most-cut most a l more whole rest (Got x rest) t (beyond Be closed most a l more whole s.front rest t be s.glued s.blocked))
cut Sp Fr Be Br closed deep most a l more whole t be (Stuck NotGrammar rest) s =
    caught_here (at_most-cut most a l more whole rest (Stuck NotGrammar rest) t (beyond Be closed most a l more whole s.front rest t be s.glued s.blocked))
cut Sp Fr Be Br closed deep most a l more whole t be (Stuck TooDeep rest) s = stopped Be Br deep most a l more whole rest TooDeep t s
cut Sp Fr Be Br closed deep most a l more whole t be (Stuck TooManyTokens rest) s = stopped Be Br deep most a l more whole rest TooManyTokens t s
cut Sp Fr Be Br closed deep most a l more whole t be (Stuck TooManyStatics rest) s = stopped Be Br deep most a l more whole rest TooManyStatics t s
cut Sp Fr Be Br closed deep most a l more whole t be (Stuck TooManyModels rest) s = stopped Be Br deep most a l more whole rest TooManyModels t s
cut Sp Fr Be Br closed deep most a l more whole t be (Stuck TooManyFields rest) s = stopped Be Br deep most a l more whole rest TooManyFields t s
cut Sp Fr Be Br closed deep most a l more whole t be (Stuck TooManyCommands rest) s = stopped Be Br deep most a l more whole rest TooManyCommands t s

-- a cause within the limit stays
inside : {A : Type 0} (most : ℕ) (a : List Piece) (l : Piece) (more : List Piece) (c : Cause) (ans : Answer A) → length (a ++ l ∷ []) ≤ suc most → Caught ans c (l ∷ more)
    → Caught (at_most most (a ++ l ∷ more) ans) c (l ∷ more)
inside most a l more c ans le k =
    let whole : List Piece = a ++ l ∷ more in
    let no_shorter : length (l ∷ more) ≤ length k.stop = elim k.first [ inl less ↦ omega (arith, less) | inr same ↦ omega (arith, ap length same.0) ] in
    let few : length whole - length k.stop ≤ most = omega (arith, le, no_shorter, length-append a (l ∷ more), length-append a (l ∷ [])) in
    let stays : at_most most whole (Stuck k.cause k.stop) ≡ Stuck k.cause k.stop =
    ap (λ (b : Bool). if b then Stuck k.cause k.stop else Stuck TooManyTokens (drop most whole)) (le-leb (length whole - length k.stop) most few) in
    record { cause = k.cause; stop = k.stop; is = ap (at_most most whole) k.is ∙ stays; first = k.first }

pub within_catches : {A : Type 0} (most : ℕ) {Sf Ff : A → List Piece → Type 0} {Bf : List Piece → Type 0} {Rf : Cause → List Piece → Type 0} {ff mf : List Want} {ef : Bool}
    → Shape Ff Bf ff mf ef → {rf : Reader A} → Agrees Sf Ff Bf Rf rf mf → Catches Bf Rf rf → ((c : Cause) (ls : List Piece) → Rf c ls → c ≡ TooDeep)
    → Catches Bf (BrWithin most Bf Rf) (λ ls. at_most most ls (rf ls))
within_catches {A} most {Sf} {Ff} {Bf} {Rf} f {rf} af cf deep = record {
  begins = λ c ls h. elim h [ inl b ↦ cf.begins c ls b.0 | inr b ↦ b.1 ];
  full = λ c ls h nil. elim h [ inl b ↦ cf.full c ls b.0 nil | inr b ↦ (let none : length ls ≡ 0 = ap length nil in omega (arith, none, b.2)) ];
  caught = λ c a l more h. elim h [
    | inl b ↦ inside most a l more c (rf (a ++ l ∷ more)) b.1 (cf.caught c a l more b.0)
    | inr b ↦
        let size : length a ≡ most = omega (arith, b.2, length-append a (l ∷ [])) in
        subst (λ z. Caught (at_most most (a ++ l ∷ more) (rf (a ++ l ∷ more))) z (l ∷ more)) (sym b.0)
        (cut Sf Ff Bf Rf f.closed deep most a l more (a ++ l ∷ more) (record { is = refl; size = size }) b.1 (rf (a ++ l ∷ more)) (af.sound (a ++ l ∷ more)))
  ];
}
