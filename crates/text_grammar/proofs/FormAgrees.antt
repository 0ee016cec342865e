-- The reader of every form agrees with it, at any number of levels.
use Rattle.std.proofs.Common.{◌≡◌, List, true, false, ◌&&◌, not}
use Rattle.text_ast.specs.Pieces.{Piece}
use Rattle.text_tree.specs.Forms.{Form, Want, TooDeep, Spells, Begins, Breaks, loosened, first, empty, nothing, token, both, either, each, ended, mapped, part, within}
use Rattle.text_grammar.specs.Reading.{Reader, read}
use Rattle.text_grammar.proofs.Lists.{both_true}
use Rattle.text_grammar.proofs.Tables.{mores, fine, apart}
use Rattle.text_grammar.proofs.Apart.{apart_sound}
use Rattle.text_grammar.proofs.Shapes.{Shape}
use Rattle.text_grammar.proofs.FormShapes.{shape, not_true, ends}
use Rattle.text_grammar.proofs.Agrees.{Agrees, nothing_agrees, token_agrees, both_agrees, either_agrees, mapped_agrees, within_agrees}
use Rattle.text_grammar.proofs.EachAgrees.{HasLimit, each_agrees}
use Rattle.text_grammar.proofs.EndedAgrees.{ended_agrees}

-- every limit has its cause
abbrev pub Limited : {P : Type 0} {T : P → Type 0} {A : Type 0} → Form P T A → Type 0
Limited (nothing x) = Unit {0}
Limited (token w) = Unit {0}
Limited (both f g) = Limited f × Limited g
Limited (either f g) = Limited f × Limited g
Limited (each times f) = HasLimit times × Limited f
Limited (ended times w f g h) = HasLimit times × Limited f × Limited g × Limited h
Limited (mapped make f) = Limited f
Limited (part p) = Unit {0}
Limited (within most f) = Limited f

pub agrees : {P : Type 0} {T : P → Type 0} (F M : P → List Want) (S Z : (p : P) → T p → List Piece → Type 0) (B D : P → List Piece → Type 0) (R : (p : P) → Reader (T p))
    → ((p : P) → Shape (Z p) (B p) (F p) (M p) false) → ((p : P) → Agrees (S p) (Z p) (B p) (λ c ls. D p ls × (c ≡ TooDeep)) (R p) (M p))
    → {A : Type 0} (f : Form P T A) → fine F M f ≡ true → Limited f
    → Agrees {A = A} (Spells S f) (Spells Z (loosened f)) (Begins Z B f) (λ c ls. Breaks S Z B D c f ls) (read F R f) (mores F M f)
unfolding read
agrees F M S Z B D R shapes parts (nothing x) e l = nothing_agrees x
agrees F M S Z B D R shapes parts (token w) e l = token_agrees w
agrees F M S Z B D R shapes parts (both f g) e l =
    let e1 = both_true (fine F M f) (fine F M g && apart (mores F M f) (first F g)) e in
    let e2 = both_true (fine F M g) (apart (mores F M f) (first F g)) e1.1 in
    both_agrees (shape F M Z B shapes f e1.0) (shape F M Z B shapes g e2.0) (apart_sound _ _ e2.1)
    (agrees F M S Z B D R shapes parts f e1.0 l.0) (agrees F M S Z B D R shapes parts g e2.0 l.1)
agrees F M S Z B D R shapes parts (either f g) e l =
    let e1 = both_true (fine F M f) (fine F M g && (not (empty f) && apart (first F f) (first F g))) e in
    let e2 = both_true (fine F M g) (not (empty f) && apart (first F f) (first F g)) e1.1 in
    let e3 = both_true (not (empty f)) (apart (first F f) (first F g)) e2.1 in
    either_agrees (shape F M Z B shapes f e1.0) (shape F M Z B shapes g e2.0) (not_true (empty f) e3.0) (apart_sound _ _ e3.1)
    (agrees F M S Z B D R shapes parts f e1.0 l.0) (agrees F M S Z B D R shapes parts g e2.0 l.1)
agrees F M S Z B D R shapes parts (each times f) e l =
    let e1 = both_true (fine F M f) (not (empty f) && apart (mores F M f) (first F f)) e in
    let e2 = both_true (not (empty f)) (apart (mores F M f) (first F f)) e1.1 in
    each_agrees times (shape F M Z B shapes f e1.0) (not_true (empty f) e2.0) (apart_sound _ _ e2.1) l.0 (agrees F M S Z B D R shapes parts f e1.0 l.1)
agrees F M S Z B D R shapes parts (ended times w f g h) e l =
    let s = ends F M Z B shapes times w f g h e in
    ended_agrees s.all times l.0 (agrees F M S Z B D R shapes parts f s.fine_f l.1) (agrees F M S Z B D R shapes parts g s.fine_g l.2) (agrees F M S Z B D R shapes parts h s.fine_h l.3)
agrees F M S Z B D R shapes parts (mapped make f) e l = mapped_agrees make (agrees F M S Z B D R shapes parts f e l)
agrees F M S Z B D R shapes parts (part p) e l = parts p
agrees F M S Z B D R shapes parts (within most f) e l = within_agrees most (shape F M Z B shapes f e) (agrees F M S Z B D R shapes parts f e l)
