-- Where a form of the grammar breaks a limit, its reader stops there, or before, at any number of levels.
use Rattle.std.proofs.Common.{◌≡◌, ℕ, zero, suc, ◌≤◌, arith, List, [], ◌∷◌, ◌++◌, Bool, true, false, ◌&&◌, not, refl, ap, sym, ◌∙◌, subst}
use Rattle.std.specs.Prelude.{if◌then◌else◌}
use Rattle.text_ast.specs.Pieces.{Piece}
use Rattle.text_tree.specs.Forms.{Form, Want, AnyNumber, AtMost, Cause, NotGrammar, TooDeep, Begins, Breaks, may, first, empty, nothing, token, both, either, each, ended, mapped, part, within}
use Rattle.text_tree.specs.Levels.{Rules, SpellsPart, BeginsPart, IsTooDeep}
use Rattle.text_grammar.specs.Reading.{Answer, Stuck, Reader, starts, read, read_part}
use Rattle.text_grammar.proofs.Lists.{both_true, no_back}
use Rattle.text_grammar.proofs.Tables.{mores, fine, apart}
use Rattle.text_grammar.proofs.Apart.{apart_sound}
use Rattle.text_grammar.proofs.Shapes.{Shape}
use Rattle.text_grammar.proofs.FormShapes.{shape, not_true, ends}
use Rattle.text_grammar.proofs.Agrees.{Agrees}
use Rattle.text_grammar.proofs.FormAgrees.{Limited, agrees}
use Rattle.text_grammar.proofs.LevelsAgree.{Unlimited, Fits, shape_at, agrees_at}
use Rattle.text_grammar.proofs.Caught.{Caught, Catches, caught_here, both_catches, either_catches, no_catches, mapped_catches}
use Rattle.text_grammar.proofs.WithinCaught.{within_catches}
use Rattle.text_grammar.proofs.EachCaught.{each_catches}
use Rattle.text_grammar.proofs.EndedCaught.{ended_catches}

abbrev pub is_part : {P : Type 0} {T : P → Type 0} {A : Type 0} → Form P T A → Bool
is_part (nothing x) = false
is_part (token w) = false
is_part (both f g) = false
is_part (either f g) = false
is_part (each times f) = false
is_part (ended times w f g h) = false
is_part (mapped make f) = false
is_part (part p) = true
is_part (within most f) = false

-- only parts are counted in tokens
abbrev pub counts_parts : {P : Type 0} {T : P → Type 0} {A : Type 0} → Form P T A → Bool
counts_parts (nothing x) = true
counts_parts (token w) = true
counts_parts (both f g) = counts_parts f && counts_parts g
counts_parts (either f g) = counts_parts f && counts_parts g
counts_parts (each times f) = counts_parts f
counts_parts (ended times w f g h) = counts_parts f && (counts_parts g && counts_parts h)
counts_parts (mapped make f) = counts_parts f
counts_parts (part p) = true
counts_parts (within most f) = is_part f

abbrev pub CountsParts : {P : Type 0} {T : P → Type 0} {A : Type 0} → Form P T A → Type 0
CountsParts (nothing x) = Unit {0}
CountsParts (token w) = Unit {0}
CountsParts (both f g) = CountsParts f × CountsParts g
CountsParts (either f g) = CountsParts f × CountsParts g
CountsParts (each times f) = CountsParts f
CountsParts (ended times w f g h) = CountsParts f × CountsParts g × CountsParts h
CountsParts (mapped make f) = CountsParts f
CountsParts (part p) = Unit {0}
CountsParts (within most f) = is_part f ≡ true

pub counts_sound : {P : Type 0} {T : P → Type 0} {A : Type 0} (f : Form P T A) → counts_parts f ≡ true → CountsParts f
counts_sound (nothing x) e = tt
counts_sound (token w) e = tt
counts_sound (both f g) e = let p = both_true (counts_parts f) (counts_parts g) e in (counts_sound f p.0, counts_sound g p.1)
counts_sound (either f g) e = let p = both_true (counts_parts f) (counts_parts g) e in (counts_sound f p.0, counts_sound g p.1)
counts_sound (each times f) e = counts_sound f e
counts_sound (ended times w f g h) e =
    let p = both_true (counts_parts f) (counts_parts g && counts_parts h) e in
    let q = both_true (counts_parts g) (counts_parts h) p.1 in
    (counts_sound f p.0, counts_sound g q.0, counts_sound h q.1)
counts_sound (mapped make f) e = counts_sound f e
counts_sound (part p) e = tt
counts_sound (within most f) e = e

-- nothing is counted where there are no limits
counts_none : {P : Type 0} {T : P → Type 0} {A : Type 0} (f : Form P T A) → Unlimited f → CountsParts f
counts_none (nothing x) u = tt
counts_none (token w) u = tt
counts_none (both f g) u = (counts_none f u.0, counts_none g u.1)
counts_none (either f g) u = (counts_none f u.0, counts_none g u.1)
counts_none (each AnyNumber f) u = counts_none f u
counts_none (each (AtMost most cause) f) u = absurd u
counts_none (ended AnyNumber w f g h) u = (counts_none f u.0, counts_none g u.1, counts_none h u.2)
counts_none (ended (AtMost most cause) w f g h) u = absurd u
counts_none (mapped make f) u = counts_none f u
counts_none (part p) u = tt
counts_none (within most f) u = absurd u

no_part : false ≡ true → ⊥
no_part e = cc

counts_part : {P : Type 0} {T : P → Type 0} {A : Type 0} (f : Form P T A) → is_part f ≡ true → CountsParts f
counts_part (nothing x) e = tt
counts_part (token w) e = tt
counts_part (both f g) e = absurd (no_part e)
counts_part (either f g) e = absurd (no_part e)
counts_part (each times f) e = absurd (no_part e)
counts_part (ended times w f g h) e = absurd (no_part e)
counts_part (mapped make f) e = absurd (no_part e)
counts_part (part p) e = tt
counts_part (within most f) e = absurd (no_part e)

part_deep : {P : Type 0} {T : P → Type 0} (S Z : (p : P) → T p → List Piece → Type 0) (B D : P → List Piece → Type 0) {A : Type 0} (f : Form P T A) → is_part f ≡ true
    → (c : Cause) (ls : List Piece) → Breaks S Z B D c f ls → c ≡ TooDeep
part_deep S Z B D (nothing x) e c ls h = absurd (no_part e)
part_deep S Z B D (token w) e c ls h = absurd (no_part e)
part_deep S Z B D (both f g) e c ls h = absurd (no_part e)
part_deep S Z B D (either f g) e c ls h = absurd (no_part e)
part_deep S Z B D (each times f) e c ls h = absurd (no_part e)
part_deep S Z B D (ended times w f g k) e c ls h = absurd (no_part e)
part_deep S Z B D (mapped make f) e c ls h = absurd (no_part e)
part_deep S Z B D (part p) e c ls h = h.1
part_deep S Z B D (within most f) e c ls h = absurd (no_part e)

pub catches : {P : Type 0} {T : P → Type 0} (F M : P → List Want) (S Z : (p : P) → T p → List Piece → Type 0) (B D : P → List Piece → Type 0) (R : (p : P) → Reader (T p))
    → ((p : P) → Shape (Z p) (B p) (F p) (M p) false) → ((p : P) → Agrees (S p) (Z p) (B p) (λ c ls. D p ls × (c ≡ TooDeep)) (R p) (M p))
    → ((p : P) → Catches (B p) (λ c ls. D p ls × (c ≡ TooDeep)) (R p))
    → {A : Type 0} (f : Form P T A) → fine F M f ≡ true → Limited f → CountsParts f
    → Catches {A = A} (Begins Z B f) (λ c ls. Breaks S Z B D c f ls) (read F R f)
unfolding read
catches F M S Z B D R shapes agree parts (nothing x) e l u = no_catches _ _
catches F M S Z B D R shapes agree parts (token w) e l u = no_catches _ _
catches F M S Z B D R shapes agree parts (both f g) e l u =
    let e1 = both_true (fine F M f) (fine F M g && apart (mores F M f) (first F g)) e in
    let e2 = both_true (fine F M g) (apart (mores F M f) (first F g)) e1.1 in
    both_catches (shape F M Z B shapes g e2.0) (apart_sound _ _ e2.1) (agrees F M S Z B D R shapes agree f e1.0 l.0)
    (catches F M S Z B D R shapes agree parts f e1.0 l.0 u.0) (catches F M S Z B D R shapes agree parts g e2.0 l.1 u.1)
catches F M S Z B D R shapes agree parts (either f g) e l u =
    let e1 = both_true (fine F M f) (fine F M g && (not (empty f) && apart (first F f) (first F g))) e in
    let e2 = both_true (fine F M g) (not (empty f) && apart (first F f) (first F g)) e1.1 in
    let e3 = both_true (not (empty f)) (apart (first F f) (first F g)) e2.1 in
    either_catches (shape F M Z B shapes f e1.0) (shape F M Z B shapes g e2.0) (apart_sound _ _ e3.1)
    (catches F M S Z B D R shapes agree parts f e1.0 l.0 u.0) (catches F M S Z B D R shapes agree parts g e2.0 l.1 u.1)
catches F M S Z B D R shapes agree parts (each times f) e l u =
    let e1 = both_true (fine F M f) (not (empty f) && apart (mores F M f) (first F f)) e in
    let e2 = both_true (not (empty f)) (apart (mores F M f) (first F f)) e1.1 in
    each_catches times (shape F M Z B shapes f e1.0) (not_true (empty f) e2.0) (apart_sound _ _ e2.1) (agrees F M S Z B D R shapes agree f e1.0 l.1)
    (catches F M S Z B D R shapes agree parts f e1.0 l.1 u)
catches F M S Z B D R shapes agree parts (ended times w f g h) e l u =
    let s = ends F M Z B shapes times w f g h e in
    ended_catches s.all times (agrees F M S Z B D R shapes agree f s.fine_f l.1) (catches F M S Z B D R shapes agree parts f s.fine_f l.1 u.0)
    (catches F M S Z B D R shapes agree parts g s.fine_g l.2 u.1) (catches F M S Z B D R shapes agree parts h s.fine_h l.3 u.2)
catches F M S Z B D R shapes agree parts (mapped make f) e l u = mapped_catches make (catches F M S Z B D R shapes agree parts f e l u)
catches F M S Z B D R shapes agree parts (part p) e l u = parts p
catches F M S Z B D R shapes agree parts (within most f) e l u =
    within_catches most (shape F M Z B shapes f e) (agrees F M S Z B D R shapes agree f e l)
    (catches F M S Z B D R shapes agree parts f e l (counts_part f u)) (part_deep S Z B D f u)

-- ---- parts

first_only : (a : List Piece) (l m : Piece) → a ++ l ∷ [] ≡ m ∷ [] → (a ≡ []) × (l ≡ m)
first_only [] l m e = (refl, let is : l ≡ m = cc in is)
first_only (x ∷ a) l m e = let none : a ++ l ∷ [] ≡ [] = cc in let no : l ∷ [] ≡ [] = no_back a (l ∷ []) none in cc

deep_first : {P : Type 0} {T : P → Type 0} (G : Rules P T) (F M : P → List Want) → Fits G F M → (m : ℕ) (p : P)
    → Catches (BeginsPart G F m p) (λ c ls. IsTooDeep G F m 0 p ls × (c ≡ TooDeep)) (read_part G F 0 p)
unfolding read_part
deep_first {P} {T} G F M fits m p = record {
  begins = λ c ls h. let (l, is, f) = h.0 in subst (BeginsPart G F m p) (sym is) ((shape_at G F M fits m p).able l f);
  full = λ c ls h nil. let (l, is, f) = h.0 in let no : [] ≡ l ∷ [] = sym nil ∙ is in cc;
  caught = λ c a l more h.
      let (m1, is, f) = h.0 in
      let only = first_only a l m1 is in
      let seen : may (F p) l ≡ true = ap (may (F p)) only.1 ∙ f in
      let at : Bool → Answer (T p) = λ b. if b then Stuck TooDeep (l ∷ more) else Stuck NotGrammar (l ∷ more) in
      let here : Caught (at (may (F p) l)) TooDeep (l ∷ more) = caught_here (ap at seen) in
      subst (λ z. Caught {A = T p} (if starts (F p) (z ++ l ∷ more) then Stuck TooDeep (z ++ l ∷ more) else Stuck NotGrammar (z ++ l ∷ more)) c (l ∷ more)) (sym only.0)
      (subst (λ z. Caught (at (may (F p) l)) z (l ∷ more)) (sym h.1) here);
}

pub part_catches : {P : Type 0} {T : P → Type 0} (G : Rules P T) (F M : P → List Want) → Fits G F M → (n m : ℕ) → n ≤ m → (p : P)
    → Catches (BeginsPart G F m p) (λ c ls. IsTooDeep G F m n p ls × (c ≡ TooDeep)) (read_part G F n p)
unfolding read_part
part_catches G F M fits zero m le p = deep_first G F M fits m p
part_catches G F M fits (suc n) zero le p = absurd (omega (arith, le))
part_catches {P} {T} G F M fits (suc n) (suc m) le p =
    let fewer : n ≤ m = omega (arith, le) in
    let k = catches F M (SpellsPart G n) (SpellsPart G m) (BeginsPart G F m) (IsTooDeep G F m n) (read_part G F n) (shape_at G F M fits m) (agrees_at G F M fits n m fewer)
    (part_catches G F M fits n m fewer) (G p) (fits.is_fine p) (fits.limited p) (counts_none (G p) (fits.unlimited p)) in
    record {
      begins = λ c ls h. k.begins TooDeep ls h.0;
      full = λ c ls h nil. k.full TooDeep ls h.0 nil;
      caught = λ c a l more h. subst (λ z. Caught (read F (read_part G F n) (G p) (a ++ l ∷ more)) z (l ∷ more)) (sym h.1) (k.caught TooDeep a l more h.0);
    }

-- a form over parts with n levels left, at any m levels
pub form_catches : {P : Type 0} {T : P → Type 0} (G : Rules P T) (F M : P → List Want) → Fits G F M → (n m : ℕ) → n ≤ m → {A : Type 0} (f : Form P T A) → fine F M f ≡ true → Limited f
    → CountsParts f → Catches {A = A} (Begins (SpellsPart G m) (BeginsPart G F m) f) (λ c ls. Breaks (SpellsPart G n) (SpellsPart G m) (BeginsPart G F m) (IsTooDeep G F m n) c f ls)
    (read F (read_part G F n) f)
form_catches G F M fits n m le f e l u =
    catches F M (SpellsPart G n) (SpellsPart G m) (BeginsPart G F m) (IsTooDeep G F m n) (read_part G F n) (shape_at G F M fits m) (agrees_at G F M fits n m le)
    (part_catches G F M fits n m le) f e l u
