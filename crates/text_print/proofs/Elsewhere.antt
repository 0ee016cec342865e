-- What pieces spell, the same pieces elsewhere spell too, offsets aside: how such facts go together.
use Rattle.std.proofs.Common.{◌≡◌, ◌⊎◌, inl, inr, ℕ, suc, arith, List, [], ◌∷◌, ◌++◌, length, map, refl, sym, ◌∙◌, ap, subst}
use Rattle.text_lexer.specs.Lexeme.{Lexeme}
use Rattle.text_ast.specs.Pieces.{Piece}
use Rattle.text_tree.specs.Forms.{Want, Times, AreWithin, IsToken, ◌then◌, Sign, Word, Upper, Lower, Plain, Negated, Literal, Spells, SpellsEach, admits, loosened, nothing, token, both, either, each, ended, mapped, part, within}
use Rattle.text_tree.specs.ExprGrammar.{Part, G, tree_of}
use Rattle.text_print.proofs.Canonical.{Same, cut, lexeme, lexemes}
use Rattle.text_print.proofs.Chains.{SameBytes}
use Rattle.text_print.proofs.Tokens.{Pieces}

-- a value with which the pieces are of the form, and which is as it should be
pub record Found {A : Type 0} (F : A → List Piece → Type 0) (R : A → Type 0) (ls : List Piece) : Type 0 where
  pub value : A
  pub is : R value
  pub spells : F value ls

-- whatever has the form, has it elsewhere too, with a value that is the same by R
pub record Moves {A : Type 0} (F : A → List Piece → Type 0) (R : A → A → Type 0) : Type 0 where
  pub go : (x : A) (ls ks : List Piece) → lexemes ks ≡ lexemes ls → F x ls → Found F (R x) ks

-- of forms of the grammar
pub record Stays (S : Pieces) {A : Type 0} (f : G A) (R : A → A → Type 0) : Type 0 where
  pub go : (x : A) (ls ks : List Piece) → lexemes ks ≡ lexemes ls → Spells S f x ls → Found (Spells S f) (R x) ks

-- with limits, and without
pub record Steady (S : Pieces) {A : Type 0} (f : G A) (R : A → A → Type 0) : Type 0 where
  pub tight : Stays S f R
  pub loose : Stays S (loosened f) R

abbrev pub Both : {A B : Type 0} → (A → A → Type 0) → (B → B → Type 0) → A × B → A × B → Type 0
Both R Q v w = R v.0 w.0 × Q v.1 w.1

-- ---- lists of pieces

pub as_lexemes : (ks ls : List Piece) → map lexeme ks ≡ map lexeme ls → lexemes ks ≡ lexemes ls
as_lexemes ks ls e = listed ks ∙ e ∙ sym (listed ls)
  where
    listed : (ls : List Piece) → lexemes ls ≡ map lexeme ls
    listed [] = refl
    listed (l ∷ ls) = ap (λ z. lexeme l ∷ z) (listed ls)

lexemes_append : (a b : List Piece) → lexemes (a ++ b) ≡ lexemes a ++ lexemes b
lexemes_append [] b = refl
lexemes_append (l ∷ a) b = ap (λ z. lexeme l ∷ z) (lexemes_append a b)

pub as_long : (ks ls : List Piece) → lexemes ks ≡ lexemes ls → length ks ≡ length ls
as_long [] [] e = refl
as_long [] (l ∷ ls) e = cc
as_long (k ∷ ks) [] e = cc
as_long (k ∷ ks) (l ∷ ls) e = ap suc (as_long ks ls (tail_of (lexeme k) (lexeme l) (lexemes ks) (lexemes ls) e))
  where
    tail_of : (x y : Lexeme) (a b : List Lexeme) → x ∷ a ≡ y ∷ b → a ≡ b
    tail_of x y a b e = cc

-- one piece elsewhere
pub record Single (l : Piece) (ks : List Piece) : Type 0 where
  pub piece : Piece
  pub is : ks ≡ piece ∷ []
  pub same : lexeme piece ≡ lexeme l

single : (l : Piece) (ks : List Piece) → lexemes ks ≡ lexeme l ∷ [] → Single l ks
single l [] e = absurd (no e)
  where
    no : [] ≡ lexeme l ∷ [] → ⊥
    no e = cc
single l (k ∷ []) e = record { piece = k; is = refl; same = head e }
  where
    head : lexeme k ∷ [] ≡ lexeme l ∷ [] → lexeme k ≡ lexeme l
    head e = cc
single l (k ∷ (h ∷ ks)) e = absurd (no e)
  where
    no : lexeme k ∷ (lexeme h ∷ lexemes ks) ≡ lexeme l ∷ [] → ⊥
    no e = cc

pub bytes_as : (k l : Piece) → lexeme k ≡ lexeme l → k.bytes ≡ l.bytes
bytes_as k l e = ap (λ z. z.bytes) e

kind_as : (k l : Piece) → lexeme k ≡ lexeme l → k.kind ≡ l.kind
kind_as k l e = ap (λ z. z.kind) e

-- which tokens a piece may be does not depend on its place
admits_as : (w : Want) (k l : Piece) → lexeme k ≡ lexeme l → admits w k ≡ admits w l
unfolding admits
admits_as (Sign kind) k l e = rw (kind_as k l e) refl
admits_as (Word kind word) k l e = rw (kind_as k l e, bytes_as k l e) refl
admits_as Upper k l e = rw (kind_as k l e, bytes_as k l e) refl
admits_as Lower k l e = rw (kind_as k l e, bytes_as k l e) refl
admits_as Plain k l e = rw (kind_as k l e, bytes_as k l e) refl
admits_as Negated k l e = rw (kind_as k l e, bytes_as k l e) refl
admits_as Literal k l e = rw (kind_as k l e) refl

-- a list of pieces in two, elsewhere
pub record Halves (front back ks : List Piece) : Type 0 where
  pub first : List Piece
  pub second : List Piece
  pub glue : ks ≡ first ++ second
  pub first_is : lexemes first ≡ lexemes front
  pub second_is : lexemes second ≡ lexemes back

halves : (front back ls ks : List Piece) → ls ≡ front ++ back → lexemes ks ≡ lexemes ls → Halves front back ks
halves front back ls ks glue same =
    let c = cut (lexemes front) (lexemes back) ks (same ∙ ap lexemes glue ∙ lexemes_append front back) in
    record { first = c.front; second = c.back; glue = c.glue; first_is = c.front_is; second_is = c.back_is }

-- ---- predicates

moves_token : {A : Type 0} (w : Want) {F : A → List Piece → Type 0} {R : A → A → Type 0} → Moves F R → Moves (λ x. IsToken w then F x) R
moves_token {A} w {F} {R} m = record {
  go = λ x ls ks same (front, back, glue, (l, is, may), d).
      let h = halves front back ls ks glue same in
      let one = single l h.first (h.first_is ∙ ap lexemes is) in
      let r = m.go x back h.second h.second_is d in
      record {
        value = r.value;
        is = r.is;
        spells = (h.first, h.second, h.glue, (one.piece, one.is, admits_as w one.piece l one.same ∙ may), r.spells);
      };
}

moves_each : {A : Type 0} (F : A → List Piece → Type 0) (R : A → A → Type 0) → Moves F R → (xs : List A) (ls ks : List Piece)
    → lexemes ks ≡ lexemes ls → SpellsEach F xs ls → Found (SpellsEach F) (Same R xs) ks
moves_each F R m [] ls [] same d = record { value = []; is = tt; spells = refl }
moves_each F R m [] ls (k ∷ ks) same d = absurd (no (same ∙ ap lexemes d))
  where
    no : lexeme k ∷ lexemes ks ≡ [] → ⊥
    no e = cc
moves_each F R m (x ∷ xs) ls ks same (front, back, glue, one, more) =
    let h = halves front back ls ks glue same in
    let a = m.go x front h.first h.first_is one in
    let b = moves_each F R m xs back h.second h.second_is more in
    record { value = a.value ∷ b.value; is = (a.is, b.is); spells = (h.first, h.second, h.glue, a.spells, b.spells) }

same_length : {A : Type 0} (R : A → A → Type 0) (xs ys : List A) → Same R xs ys → length ys ≡ length xs
same_length R [] [] r = refl
same_length R [] (y ∷ ys) r = absurd r
same_length R (x ∷ xs) [] r = absurd r
same_length R (x ∷ xs) (y ∷ ys) (r, more) = ap suc (same_length R xs ys more)

as_many : {A : Type 0} (times : Times) (R : A → A → Type 0) (xs ys : List A) → Same R xs ys → AreWithin times (length xs) → AreWithin times (length ys)
as_many times R xs ys r h = subst (AreWithin times) (sym (same_length R xs ys r)) h

-- ---- forms, with the limits that they have

nothing_stays : {S : Pieces} {A : Type 0} {R : A → A → Type 0} (x : A) → R x x → Stays S (nothing x) R
nothing_stays {S} {A} {R} x r = record { go = go }
  where
    go : (y : A) (ls ks : List Piece) → lexemes ks ≡ lexemes ls → Spells S (nothing x) y ls → Found (Spells S (nothing x)) (R y) ks
    go y ls [] same (is, nil) = record { value = x; is = subst (λ z. R z x) (sym is) r; spells = (refl, refl) }
    go y ls (k ∷ ks) same (is, nil) = absurd (no (same ∙ ap lexemes nil))
      where
        no : lexeme k ∷ lexemes ks ≡ [] → ⊥
        no e = cc

token_stays : {S : Pieces} (w : Want) → Stays S (token w) SameBytes
token_stays {S} w = record {
  go = λ l ls ks same (is, may).
      let one = single l ks (same ∙ ap lexemes is) in
      record { value = one.piece; is = bytes_as one.piece l one.same; spells = (one.is, admits_as w one.piece l one.same ∙ may) };
}

both_stays : {S : Pieces} {A B : Type 0} {f : G A} {g : G B} {R : A → A → Type 0} {Q : B → B → Type 0}
    → Stays S f R → Stays S g Q → Stays S (both f g) (Both R Q)
both_stays {S} {A} {B} {f} {g} {R} {Q} one two = record {
  go = λ v ls ks same (front, back, glue, a, b).
      let h = halves front back ls ks glue same in
      let x = one.go v.0 front h.first h.first_is a in
      let y = two.go v.1 back h.second h.second_is b in
      record { value = (x.value, y.value); is = (x.is, y.is); spells = (h.first, h.second, h.glue, x.spells, y.spells) };
}

either_stays : {S : Pieces} {A : Type 0} {f g : G A} {R : A → A → Type 0} → Stays S f R → Stays S g R → Stays S (either f g) R
either_stays {S} {A} {f} {g} {R} one two = record { go = go }
  where
    go : (x : A) (ls ks : List Piece) → lexemes ks ≡ lexemes ls → Spells S (either f g) x ls → Found (Spells S (either f g)) (R x) ks
    go x ls ks same (inl d) = let r = one.go x ls ks same d in record { value = r.value; is = r.is; spells = inl r.spells }
    go x ls ks same (inr d) = let r = two.go x ls ks same d in record { value = r.value; is = r.is; spells = inr r.spells }

each_stays : {S : Pieces} {A : Type 0} {times : Times} {f : G A} {R : A → A → Type 0} → Stays S f R → Stays S (each times f) (Same R)
each_stays {S} {A} {times} {f} {R} m = record {
  go = λ xs ls ks same (d, few).
      let r = moves_each (Spells S f) R (record { go = m.go }) xs ls ks same d in
      record { value = r.value; is = r.is; spells = (r.spells, as_many times R xs r.value r.is few) };
}

ended_stays : {S : Pieces} {A B : Type 0} {times : Times} {w : Want} {f : G A} {g h : G B} {R : A → A → Type 0} {Q : B → B → Type 0}
    → Stays S f R → Stays S g Q → Stays S h Q → Stays S (ended times w f g h) (Both (Same R) Q)
ended_stays {S} {A} {B} {times} {w} {f} {g} {h} {R} {Q} m last other = record {
  go = λ v ls ks same ((front, back, glue, items, end), few).
      let parts = halves front back ls ks glue same in
      let item : Moves (λ x. IsToken w then Spells S f x) R = moves_token w (record { go = m.go }) in
      let a = moves_each (λ x. IsToken w then Spells S f x) R item v.0 front parts.first parts.first_is items in
      let b = ending v.1 back parts.second parts.second_is end in
      record {
        value = (a.value, b.value);
        is = (a.is, b.is);
        spells = ((parts.first, parts.second, parts.glue, a.spells, b.spells), as_many times R v.0 a.value a.is few);
      };
}
  where
    Ends : B → List Piece → Type 0
    Ends y rest = (IsToken w then Spells S g y) rest ⊎ Spells S h y rest

    ending : (y : B) (ls ks : List Piece) → lexemes ks ≡ lexemes ls → Ends y ls → Found Ends (Q y) ks
    ending y ls ks same (inl d) =
        let closing : Moves (λ x. IsToken w then Spells S g x) Q = moves_token w (record { go = last.go }) in
        let r = closing.go y ls ks same d in
        record { value = r.value; is = r.is; spells = inl r.spells }
    ending y ls ks same (inr d) = let r = other.go y ls ks same d in record { value = r.value; is = r.is; spells = inr r.spells }

mapped_stays : {S : Pieces} {A B : Type 0} {make : A → B} {f : G A} {R : A → A → Type 0} {Q : B → B → Type 0}
    → ((v w : A) → R v w → Q (make v) (make w)) → Stays S f R → Stays S (mapped make f) Q
mapped_stays {S} {A} {B} {make} {f} {R} {Q} keeps m = record {
  go = λ y ls ks same (x, is, d).
      let r = m.go x ls ks same d in
      record {
        value = make r.value;
        is = subst (λ z. Q z (make r.value)) (sym is) (keeps x r.value r.is);
        spells = (r.value, refl, r.spells);
      };
}

within_stays : {S : Pieces} {A : Type 0} {most : ℕ} {f : G A} {R : A → A → Type 0} → Stays S f R → Stays S (within most f) R
within_stays {S} {A} {most} {f} {R} m = record {
  go = λ x ls ks same (d, few).
      let r = m.go x ls ks same d in
      let long : length ks ≡ length ls = as_long ks ls same in
      record { value = r.value; is = r.is; spells = (r.spells, omega arith) };
}

-- ---- forms, with limits and without

pub part_steady : {S : Pieces} {p : Part} {R : tree_of p → tree_of p → Type 0} → Stays S (part p) R → Steady S (part p) R
part_steady {S} {p} {R} m = record { tight = m; loose = m }

pub nothing_steady : {S : Pieces} {A : Type 0} {R : A → A → Type 0} (x : A) → R x x → Steady S (nothing x) R
nothing_steady {S} {A} {R} x r = record { tight = nothing_stays x r; loose = nothing_stays x r }

pub token_steady : {S : Pieces} (w : Want) → Steady S (token w) SameBytes
token_steady {S} w = record { tight = token_stays w; loose = token_stays w }

pub both_steady : {S : Pieces} {A B : Type 0} {f : G A} {g : G B} {R : A → A → Type 0} {Q : B → B → Type 0}
    → Steady S f R → Steady S g Q → Steady S (both f g) (Both R Q)
both_steady one two = record { tight = both_stays one.tight two.tight; loose = both_stays one.loose two.loose }

pub either_steady : {S : Pieces} {A : Type 0} {f g : G A} {R : A → A → Type 0} → Steady S f R → Steady S g R → Steady S (either f g) R
either_steady one two = record { tight = either_stays one.tight two.tight; loose = either_stays one.loose two.loose }

pub each_steady : {S : Pieces} {A : Type 0} {times : Times} {f : G A} {R : A → A → Type 0} → Steady S f R → Steady S (each times f) (Same R)
each_steady m = record { tight = each_stays m.tight; loose = each_stays m.loose }

pub ended_steady : {S : Pieces} {A B : Type 0} {times : Times} {w : Want} {f : G A} {g h : G B} {R : A → A → Type 0} {Q : B → B → Type 0}
    → Steady S f R → Steady S g Q → Steady S h Q → Steady S (ended times w f g h) (Both (Same R) Q)
ended_steady m last other = record { tight = ended_stays m.tight last.tight other.tight; loose = ended_stays m.loose last.loose other.loose }

pub mapped_steady : {S : Pieces} {A B : Type 0} {make : A → B} {f : G A} {R : A → A → Type 0} {Q : B → B → Type 0}
    → ((v w : A) → R v w → Q (make v) (make w)) → Steady S f R → Steady S (mapped make f) Q
mapped_steady keeps m = record { tight = mapped_stays keeps m.tight; loose = mapped_stays keeps m.loose }

pub within_steady : {S : Pieces} {A : Type 0} {most : ℕ} {f : G A} {R : A → A → Type 0} → Steady S f R → Steady S (within most f) R
within_steady m = record { tight = within_stays m.tight; loose = m.loose }

-- ---- forms between and behind signs

pub behind_steady : {S : Pieces} {A : Type 0} {w : Want} {f : G A} {R : A → A → Type 0}
    → Steady S f R → Steady S (mapped {A = Piece × A} (λ v. v.1) (both (token w) f)) R
behind_steady {S} {A} {w} {f} {R} m = mapped_steady {R = Both SameBytes R} (λ v w r. r.1) (both_steady (token_steady w) m)

-- a form, and again with commas between; or nothing
pub between_steady : {S : Pieces} {A : Type 0} {v w : Want} {f : G A} {R : A → A → Type 0}
    → Steady S f R → Steady S (mapped {A = Piece × (A × Piece)} (λ v. v.1.0) (both (token v) (both f (token w)))) R
between_steady {S} {A} {v} {w} {f} {R} m = mapped_steady {R = Both SameBytes (Both R SameBytes)} (λ v w r. r.1.0) (both_steady (token_steady v) (both_steady m (token_steady w)))
