-- What holds at so many levels holds at more.
use Rattle.std.proofs.Common.{◌≡◌, inl, inr, ℕ, zero, suc, ◌≤◌, arith, List, [], ◌∷◌, subst}
use Rattle.text_ast.specs.Pieces.{Piece}
use Rattle.text_tree.specs.Forms.{Form, Want, Cause, TooDeep, SpellsEach, Spells, Begins, Breaks, loosened, nothing, token, both, either, each, ended, mapped, part, within}
use Rattle.text_tree.specs.Levels.{Rules, SpellsPart, BeginsPart, IsTooDeep}
use Rattle.text_grammar.proofs.LevelsAgree.{Fits, shape_at, agrees_at}

each_raised : {A : Type 0} (Sf Ff : A → List Piece → Type 0) → ((x : A) (a : List Piece) → Sf x a → Ff x a) → (xs : List A) (a : List Piece) → SpellsEach Sf xs a → SpellsEach Ff xs a
each_raised Sf Ff free [] a h = h
each_raised Sf Ff free (x ∷ xs) a (p, q, e, sp, sq) = (p, q, e, free x p sp, each_raised Sf Ff free xs q sq)

abbrev Spelling : {P : Type 0} → (P → Type 0) → Type 1
Spelling {P} T = (p : P) → T p → List Piece → Type 0

pub spells_raised : {P : Type 0} {T : P → Type 0} (S Z : Spelling T) → ((p : P) (x : T p) (ls : List Piece) → S p x ls → Z p x ls)
    → {A : Type 0} (f : Form P T A) (x : A) (ls : List Piece) → Spells S f x ls → Spells Z f x ls
spells_raised S Z up (nothing y) x ls h = h
spells_raised S Z up (token w) x ls h = h
spells_raised S Z up (both f g) x ls (p, q, e, sf, sg) = (p, q, e, spells_raised S Z up f x.0 p sf, spells_raised S Z up g x.1 q sg)
spells_raised S Z up (either f g) x ls (inl h) = inl (spells_raised S Z up f x ls h)
spells_raised S Z up (either f g) x ls (inr h) = inr (spells_raised S Z up g x ls h)
spells_raised S Z up (each times f) xs ls h = (each_raised (Spells S f) (Spells Z f) (spells_raised S Z up f) xs ls h.0, h.1)
spells_raised S Z up (ended times w f g k) x ls ((p, q, e, ip, inl (t, r, e2, tok, sg)), wi) =
    ((p, q, e, each_raised _ _ (λ y a b. (b.0, b.1, b.2, b.3, spells_raised S Z up f y b.1 b.4)) x.0 p ip, inl (t, r, e2, tok, spells_raised S Z up g x.1 r sg)), wi)
spells_raised S Z up (ended times w f g k) x ls ((p, q, e, ip, inr sk), wi) =
    ((p, q, e, each_raised _ _ (λ y a b. (b.0, b.1, b.2, b.3, spells_raised S Z up f y b.1 b.4)) x.0 p ip, inr (spells_raised S Z up k x.1 q sk)), wi)
spells_raised S Z up (mapped make f) x ls (y, e, h) = (y, e, spells_raised S Z up f y ls h)
spells_raised S Z up (part p) x ls h = up p x ls h
spells_raised S Z up (within most f) x ls h = (spells_raised S Z up f x ls h.0, h.1)

pub begins_raised : {P : Type 0} {T : P → Type 0} (S Z : Spelling T) → ((p : P) (x : T p) (ls : List Piece) → S p x ls → Z p x ls)
    → (B C : P → List Piece → Type 0) → ((p : P) (ls : List Piece) → B p ls → C p ls)
    → {A : Type 0} (f : Form P T A) (ls : List Piece) → Begins S B f ls → Begins Z C f ls
begins_raised S Z up B C on (nothing y) ls h = h
begins_raised S Z up B C on (token w) ls h = h
begins_raised S Z up B C on (both f g) ls (inl h) = inl (begins_raised S Z up B C on f ls h)
begins_raised S Z up B C on (both f g) ls (inr (x, (p, q, e, sf, b))) =
    inr (x, (p, q, e, spells_raised S Z up (loosened f) x p sf, begins_raised S Z up B C on g q b))
begins_raised S Z up B C on (either f g) ls (inl h) = inl (begins_raised S Z up B C on f ls h)
begins_raised S Z up B C on (either f g) ls (inr h) = inr (begins_raised S Z up B C on g ls h)
begins_raised S Z up B C on (each times f) ls (xs, (p, q, e, sp, b)) =
    (xs, (p, q, e, each_raised _ _ (spells_raised S Z up (loosened f)) xs p sp, begins_raised S Z up B C on f q b))
begins_raised S Z up B C on (ended times w f g k) ls (xs, (p, q, e, ip, r)) = (
  xs,
  (
    p,
    q,
    e,
    each_raised _ _ (λ y a b. (b.0, b.1, b.2, b.3, spells_raised S Z up (loosened f) y b.1 b.4)) xs p ip,
    elim r [
      | inl b ↦ inl (begins_raised S Z up B C on k q b)
      | inr b ↦ inr (b.0, b.1, b.2, b.3, elim b.4 [ inl a ↦ inl (begins_raised S Z up B C on f b.1 a) | inr a ↦ inr (begins_raised S Z up B C on g b.1 a) ])
    ],
  ),
)
begins_raised S Z up B C on (mapped make f) ls h = begins_raised S Z up B C on f ls h
begins_raised S Z up B C on (part p) ls h = on p ls h
begins_raised S Z up B C on (within most f) ls h = begins_raised S Z up B C on f ls h

pub breaks_raised : {P : Type 0} {T : P → Type 0} (W S Z : Spelling T) → ((p : P) (x : T p) (ls : List Piece) → S p x ls → Z p x ls)
    → (B C : P → List Piece → Type 0) → ((p : P) (ls : List Piece) → B p ls → C p ls)
    → (D E : P → List Piece → Type 0) → ((p : P) (ls : List Piece) → D p ls → E p ls)
    → (c : Cause) {A : Type 0} (f : Form P T A) (ls : List Piece) → Breaks W S B D c f ls → Breaks W Z C E c f ls
breaks_raised W S Z up B C on D E deep c (nothing y) ls h = h
breaks_raised W S Z up B C on D E deep c (token w) ls h = h
breaks_raised W S Z up B C on D E deep c (both f g) ls (inl h) = inl (breaks_raised W S Z up B C on D E deep c f ls h)
breaks_raised W S Z up B C on D E deep c (both f g) ls (inr (x, (p, q, e, sf, b))) = inr (x, (p, q, e, sf, breaks_raised W S Z up B C on D E deep c g q b))
breaks_raised W S Z up B C on D E deep c (either f g) ls (inl h) = inl (breaks_raised W S Z up B C on D E deep c f ls h)
breaks_raised W S Z up B C on D E deep c (either f g) ls (inr h) = inr (breaks_raised W S Z up B C on D E deep c g ls h)
breaks_raised W S Z up B C on D E deep c (each times f) ls (xs, inl ((p, q, e, sp, b), wi)) =
    (xs, inl ((p, q, e, sp, breaks_raised W S Z up B C on D E deep c f q b), wi))
breaks_raised W S Z up B C on D E deep c (each times f) ls (xs, inr ((p, q, e, sp, b), full)) =
    (xs, inr ((p, q, e, sp, (b.0, begins_raised S Z up B C on f q b.1)), full))
breaks_raised W S Z up B C on D E deep c (ended times w f g k) ls (xs, wi, (p, q, e, ip, r)) = (
  xs,
  wi,
  (
    p,
    q,
    e,
    ip,
    elim r [
      | inl b ↦ inl (breaks_raised W S Z up B C on D E deep c k q b)
      | inr r1 ↦ elim r1 [
        | inl b ↦ inr (inl (b.0, b.1, b.2, b.3, breaks_raised W S Z up B C on D E deep c g b.1 b.4))
        | inr r2 ↦ elim r2 [
          | inl b ↦ inr (inr (inl ((b.0.0, b.0.1, b.0.2, b.0.3, breaks_raised W S Z up B C on D E deep c f b.0.1 b.0.4), b.1)))
          | inr b ↦ inr (inr (inr ((b.0.0, b.0.1, b.0.2, b.0.3, (b.0.4.0, begins_raised S Z up B C on f b.0.1 b.0.4.1)), b.1)))
        ]
      ]
    ],
  ),
)
breaks_raised W S Z up B C on D E deep c (mapped make f) ls h = breaks_raised W S Z up B C on D E deep c f ls h
breaks_raised W S Z up B C on D E deep c (part p) ls h = (deep p ls h.0, h.1)
breaks_raised W S Z up B C on D E deep c (within most f) ls (inl h) = inl (breaks_raised W S Z up B C on D E deep c f ls h.0, h.1)
breaks_raised W S Z up B C on D E deep c (within most f) ls (inr h) = inr (h.0, begins_raised S Z up B C on f ls h.1, h.2)

-- ---- parts

pub part_spells : {P : Type 0} {T : P → Type 0} (G : Rules P T) (F M : P → List Want) → Fits G F M → (n m : ℕ) → n ≤ m → (p : P) (x : T p) (ls : List Piece)
    → SpellsPart G n p x ls → SpellsPart G m p x ls
part_spells G F M fits n m le p x ls h = (agrees_at G F M fits n m le p).free x ls h

pub part_begins : {P : Type 0} {T : P → Type 0} (G : Rules P T) (F M : P → List Want) → Fits G F M → (n m : ℕ) → n ≤ m → (p : P) (ls : List Piece)
    → BeginsPart G F n p ls → BeginsPart G F m p ls
part_begins {P} {T} G F M fits zero m le p ls (inl e) = subst (BeginsPart G F m p) (let nil : [] ≡ ls = cc in nil) (shape_at G F M fits m p).opens
part_begins {P} {T} G F M fits zero m le p ls (inr (l, e, first)) =
    subst (BeginsPart G F m p) (let is : l ∷ [] ≡ ls = cc in is) ((shape_at G F M fits m p).able l first)
part_begins G F M fits (suc n) zero le p ls h = absurd (omega (arith, le))
part_begins G F M fits (suc n) (suc m) le p ls h =
    let fewer : n ≤ m = omega (arith, le) in
    begins_raised (SpellsPart G n) (SpellsPart G m) (part_spells G F M fits n m fewer) (BeginsPart G F n) (BeginsPart G F m) (part_begins G F M fits n m fewer) (G p) ls h

pub part_deep : {P : Type 0} {T : P → Type 0} (G : Rules P T) (F M : P → List Want) → Fits G F M → (k n m : ℕ) → n ≤ m → (p : P) (ls : List Piece)
    → IsTooDeep G F n k p ls → IsTooDeep G F m k p ls
part_deep G F M fits zero n m le p ls h = h
part_deep G F M fits (suc k) zero m le p ls h = absurd h
part_deep G F M fits (suc k) (suc n) zero le p ls h = absurd (omega (arith, le))
part_deep G F M fits (suc k) (suc n) (suc m) le p ls h =
    let fewer : n ≤ m = omega (arith, le) in
    breaks_raised (SpellsPart G k) (SpellsPart G n) (SpellsPart G m) (part_spells G F M fits n m fewer) (BeginsPart G F n) (BeginsPart G F m) (part_begins G F M fits n m fewer)
    (IsTooDeep G F n k) (IsTooDeep G F m k) (part_deep G F M fits k n m fewer) TooDeep (G p) ls h
