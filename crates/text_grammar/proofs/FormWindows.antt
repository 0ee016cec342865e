-- The reader of every form whose choices the next piece decides looks one piece ahead.
use Rattle.std.proofs.Common.{◌≡◌, inl, inr, ℕ, List, ◌∷◌, ◌++◌, suc, zero, length, arith, length-append, ap, ◌∙◌, subst, true, false, ◌&&◌, not}
use Rattle.text_tree.specs.Forms.{Form, Want, Times, AnyNumber, AtMost, NotGrammar, TooDeep, Spells, Begins, Breaks, loosened, first, empty, nothing, token, both, either, each, ended, mapped, part, within}
use Rattle.text_tree.specs.Levels.{Rules, SpellsPart, BeginsPart, IsTooDeep}
use Rattle.text_grammar.specs.Reading.{Stuck, Reader, read, read_part, excess, turns, read_each, read_end}
use Rattle.text_grammar.proofs.Lists.{both_true, headed, true_false}
use Rattle.text_grammar.proofs.Tables.{mores, fine, apart}
use Rattle.text_grammar.proofs.FormShapes.{shape, not_true}
use Rattle.text_grammar.proofs.Agrees.{IsRead, Sound}
use Rattle.text_grammar.proofs.FormAgrees.{Limited}
use Rattle.text_grammar.proofs.LevelsAgree.{Fits, form_agrees, shape_at}
use Rattle.text_grammar.proofs.Windows.{Looks, Moves, got_looks, stuck_looks, after_looks, made_looks, choice_looks, one_looks, at_most_looks, each_looks, any_looks, end_looks, any_end_looks}

-- a form that is not empty takes a piece where it is read
pub form_moves : {P : Type 0} {T : P → Type 0} (G : Rules P T) (F M : P → List Want) → Fits G F M → (n : ℕ) → {A : Type 0} (f : Form P T A)
    → fine F M f ≡ true → Limited f → empty f ≡ false → Moves (read F (read_part G F n) f)
form_moves {P} {T} G F M fits n {A} f e l full = λ ls x rest got.
    let a = form_agrees G F M fits n n (omega arith) f e l in
    let s = shape F M (SpellsPart G n) (BeginsPart G F n) (shape_at G F M fits n) f e in
    let r : IsRead {A = A} (Spells (SpellsPart G n) f) (Begins (SpellsPart G n) (BeginsPart G F n) f) ls rest x =
    subst (Sound {A = A} (Spells (SpellsPart G n) f) (Spells (SpellsPart G n) (loosened f)) (Begins (SpellsPart G n) (BeginsPart G F n) f)
    (λ c ls. Breaks (SpellsPart G n) (SpellsPart G n) (BeginsPart G F n) (IsTooDeep G F n n) c f ls) ls) got (a.sound ls) in
    elim (headed r.front) [
      | inl nil ↦ absurd (true_false (s.fills x (subst (Spells (SpellsPart G n) (loosened f) x) nil (a.free x r.front r.spelled))) full)
      | inr hd ↦
          let all : ls ≡ hd.head ∷ (hd.tail ++ rest) = r.glued ∙ ap (λ z. z ++ rest) hd.is in
          let size : length ls ≡ suc (length (hd.tail ++ rest)) = ap length all in
          omega (arith, size, length-append hd.tail rest)
    ]

times_looks : {A : Type 0} (times : Times) (wants : List Want) (rd : Reader A) → Moves rd → Looks rd → Looks (λ ls. read_each (excess times) (turns times ls) wants rd ls)
times_looks AnyNumber wants rd m r = any_looks NotGrammar wants rd m r
times_looks (AtMost most cause) wants rd m r = each_looks cause most wants rd r

times_end_looks : {A B : Type 0} (times : Times) (w : Want) (wants : List Want) (rd : Reader A) (last other : Reader B) → Looks rd → Looks last → Looks other
    → Looks (λ ls. read_end (excess times) (turns times ls) w wants rd last other ls)
times_end_looks AnyNumber w wants rd last other r l o = any_end_looks NotGrammar w wants rd last other r l o
times_end_looks (AtMost most cause) w wants rd last other r l o = end_looks cause most w wants rd last other r l o

-- over parts whose readers do
over_parts : {P : Type 0} {T : P → Type 0} (G : Rules P T) (F M : P → List Want) → Fits G F M → (n : ℕ) → ((p : P) → Looks (read_part G F n p))
    → {A : Type 0} (f : Form P T A) → fine F M f ≡ true → Limited f → Looks (read F (read_part G F n) f)
unfolding read
over_parts G F M fits n parts (nothing x) e l = got_looks x
over_parts G F M fits n parts (token w) e l = one_looks w
over_parts G F M fits n parts (both f g) e l =
    let e1 = both_true (fine F M f) (fine F M g && apart (mores F M f) (first F g)) e in
    let e2 = both_true (fine F M g) (apart (mores F M f) (first F g)) e1.1 in
    after_looks (read F (read_part G F n) f) _ (over_parts G F M fits n parts f e1.0 l.0) (λ x. made_looks (λ y. (x, y)) (read F (read_part G F n) g) (over_parts G F M fits n parts g e2.0 l.1))
over_parts G F M fits n parts (either f g) e l =
    let e1 = both_true (fine F M f) (fine F M g && (not (empty f) && apart (first F f) (first F g))) e in
    let e2 = both_true (fine F M g) (not (empty f) && apart (first F f) (first F g)) e1.1 in
    choice_looks (first F f) (read F (read_part G F n) f) (read F (read_part G F n) g) (over_parts G F M fits n parts f e1.0 l.0) (over_parts G F M fits n parts g e2.0 l.1)
over_parts G F M fits n parts (each times f) e l =
    let e1 = both_true (fine F M f) (not (empty f) && apart (mores F M f) (first F f)) e in
    let e2 = both_true (not (empty f)) (apart (mores F M f) (first F f)) e1.1 in
    times_looks times (first F f) (read F (read_part G F n) f) (form_moves G F M fits n f e1.0 l.1 (not_true (empty f) e2.0)) (over_parts G F M fits n parts f e1.0 l.1)
over_parts G F M fits n parts (ended times w f g h) e l =
    let e1 = both_true (fine F M f && (fine F M g && fine F M h)) _ e in
    let e2 = both_true (fine F M f) (fine F M g && fine F M h) e1.0 in
    let e3 = both_true (fine F M g) (fine F M h) e2.1 in
    times_end_looks times w (first F f) (read F (read_part G F n) f) (read F (read_part G F n) g) (read F (read_part G F n) h) (over_parts G F M fits n parts f e2.0 l.1)
    (over_parts G F M fits n parts g e3.0 l.2) (over_parts G F M fits n parts h e3.1 l.3)
over_parts G F M fits n parts (mapped make f) e l = made_looks make (read F (read_part G F n) f) (over_parts G F M fits n parts f e l)
over_parts G F M fits n parts (part p) e l = parts p
over_parts G F M fits n parts (within most f) e l = at_most_looks most (read F (read_part G F n) f) (over_parts G F M fits n parts f e l)

-- at any number of levels
pub part_looks : {P : Type 0} {T : P → Type 0} (G : Rules P T) (F M : P → List Want) → Fits G F M → (n : ℕ) (p : P) → Looks (read_part G F n p)
unfolding read_part
part_looks G F M fits zero p = choice_looks (F p) (λ ls. Stuck TooDeep ls) (λ ls. Stuck NotGrammar ls) (stuck_looks TooDeep) (stuck_looks NotGrammar)
part_looks G F M fits (suc n) p = over_parts G F M fits n (part_looks G F M fits n) (G p) (fits.is_fine p) (fits.limited p)
