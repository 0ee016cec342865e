-- Every form whose parts are apart has the shape that its tables say.
use Rattle.std.proofs.Common.{◌≡◌, List, [], ◌∷◌, Bool, true, false, ◌&&◌, not, refl}
use Rattle.text_ast.specs.Pieces.{Piece}
use Rattle.text_tree.specs.Forms.{Form, Want, Times, Spells, Begins, loosened, nothing, token, both, either, each, ended, mapped, part, within, first, empty}
use Rattle.text_grammar.proofs.Lists.{both_true}
use Rattle.text_grammar.proofs.Tables.{mores, fine, apart}
use Rattle.text_grammar.proofs.Apart.{apart_sound}
use Rattle.text_grammar.proofs.Shapes.{Shape, nothing_shape, token_shape, both_shape, either_shape, mapped_shape, each_shape}
use Rattle.text_grammar.proofs.Ended.{Ends, ended_shape}

pub not_true : (b : Bool) → not b ≡ true → b ≡ false
not_true true e = cc
not_true false e = refl

apart_ends : {P : Type 0} {T : P → Type 0} (F M : P → List Want) {A B : Type 0} (times : Times) (w : Want) (f : Form P T A) (g h : Form P T B) → fine F M (ended times w f g h) ≡ true
    → {Sf : A → List Piece → Type 0} {Bf : List Piece → Type 0} {Sg Sh : B → List Piece → Type 0} {Bg Bh : List Piece → Type 0}
    → Shape Sf Bf (first F f) (mores F M f) (empty f) → Shape Sg Bg (first F g) (mores F M g) (empty g) → Shape Sh Bh (first F h) (mores F M h) (empty h)
    → Ends w Sf Bf (first F f) (mores F M f) (empty f) Sg Bg (first F g) (mores F M g) (empty g) Sh Bh (first F h) (mores F M h) (empty h)
apart_ends F M times w f g h e sf sg sh =
    let e1 = both_true (fine F M f && (fine F M g && fine F M h)) _ e in
    let e4 = both_true (not (empty f) && not (empty g)) _ e1.1 in
    let e5 = both_true (not (empty f)) (not (empty g)) e4.0 in
    let e6 = both_true (apart (first F f) (first F g) && apart (w ∷ []) (first F h)) _ e4.1 in
    let e7 = both_true (apart (first F f) (first F g)) (apart (w ∷ []) (first F h)) e6.0 in
    let e8 = both_true (apart (mores F M f) (w ∷ [])) (apart (mores F M f) (first F h)) e6.1 in
    record {
      f = sf;
      g = sg;
      h = sh;
      f_full = not_true (empty f) e5.0;
      g_full = not_true (empty g) e5.1;
      f_g = apart_sound _ _ e7.0;
      w_h = apart_sound (w ∷ []) _ e7.1;
      f_w = apart_sound _ (w ∷ []) e8.0;
      f_h = apart_sound _ _ e8.1;
    }

pub shape : {P : Type 0} {T : P → Type 0} (F M : P → List Want) (S : (p : P) → T p → List Piece → Type 0) (B : P → List Piece → Type 0)
    → ((p : P) → Shape (S p) (B p) (F p) (M p) false) → {A : Type 0} (f : Form P T A) → fine F M f ≡ true
    → Shape {A = A} (Spells S (loosened f)) (Begins S B f) (first F f) (mores F M f) (empty f)
shape F M S B parts (nothing x) e = nothing_shape x
shape F M S B parts (token w) e = token_shape w
shape F M S B parts (both f g) e =
    let e1 = both_true (fine F M f) (fine F M g && apart (mores F M f) (first F g)) e in
    let e2 = both_true (fine F M g) (apart (mores F M f) (first F g)) e1.1 in
    both_shape (shape F M S B parts f e1.0) (shape F M S B parts g e2.0) (apart_sound _ _ e2.1)
shape F M S B parts (either f g) e =
    let e1 = both_true (fine F M f) (fine F M g && (not (empty f) && apart (first F f) (first F g))) e in
    let e2 = both_true (fine F M g) (not (empty f) && apart (first F f) (first F g)) e1.1 in
    let e3 = both_true (not (empty f)) (apart (first F f) (first F g)) e2.1 in
    either_shape (shape F M S B parts f e1.0) (shape F M S B parts g e2.0) (not_true (empty f) e3.0) (apart_sound _ _ e3.1)
shape F M S B parts (each times f) e =
    let e1 = both_true (fine F M f) (not (empty f) && apart (mores F M f) (first F f)) e in
    let e2 = both_true (not (empty f)) (apart (mores F M f) (first F f)) e1.1 in
    each_shape (shape F M S B parts f e1.0) (not_true (empty f) e2.0) (apart_sound _ _ e2.1)
shape F M S B parts (ended times w f g h) e =
    let e1 = both_true (fine F M f && (fine F M g && fine F M h)) _ e in
    let e2 = both_true (fine F M f) (fine F M g && fine F M h) e1.0 in
    let e3 = both_true (fine F M g) (fine F M h) e2.1 in
    ended_shape (apart_ends F M times w f g h e (shape F M S B parts f e2.0) (shape F M S B parts g e3.0) (shape F M S B parts h e3.1))
shape F M S B parts (mapped make f) e = mapped_shape make (shape F M S B parts f e)
shape F M S B parts (part p) e = parts p
shape F M S B parts (within most f) e = shape F M S B parts f e

pub record EndsOf {P : Type 0} {T : P → Type 0} (F M : P → List Want) (S : (p : P) → T p → List Piece → Type 0) (B : P → List Piece → Type 0) {A C : Type 0} (w : Want) (f : Form P T A) (g h : Form P T C) : Type 0 where
  pub fine_f : fine F M f ≡ true
  pub fine_g : fine F M g ≡ true
  pub fine_h : fine F M h ≡ true
  pub all :
      Ends w (Spells S (loosened f)) (Begins S B f) (first F f) (mores F M f) (empty f) (Spells S (loosened g)) (Begins S B g) (first F g) (mores F M g) (empty g)
      (Spells S (loosened h)) (Begins S B h) (first F h) (mores F M h) (empty h)

pub ends : {P : Type 0} {T : P → Type 0} (F M : P → List Want) (S : (p : P) → T p → List Piece → Type 0) (B : P → List Piece → Type 0)
    → ((p : P) → Shape (S p) (B p) (F p) (M p) false) → {A C : Type 0} (times : Times) (w : Want) (f : Form P T A) (g h : Form P T C) → fine F M (ended times w f g h) ≡ true
    → EndsOf F M S B w f g h
ends F M S B parts times w f g h e =
    let e1 = both_true (fine F M f && (fine F M g && fine F M h)) _ e in
    let e2 = both_true (fine F M f) (fine F M g && fine F M h) e1.0 in
    let e3 = both_true (fine F M g) (fine F M h) e2.1 in
    record {
      fine_f = e2.0;
      fine_g = e3.0;
      fine_h = e3.1;
      all = apart_ends F M times w f g h e (shape F M S B parts f e2.0) (shape F M S B parts g e3.0) (shape F M S B parts h e3.1);
    }
