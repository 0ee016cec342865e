-- Tables that are apart admit no token together.
use Rattle.std.proofs.Common.{◌≡◌, List, [], ◌∷◌, ℕ, Bool, true, false, ◌||◌, not, refl, sym, ◌∙◌, subst}
use Rattle.std.specs.List.{list_all}
use Rattle.std.specs.Str.{bytes_eq}
use Rattle.std.proofs.lemmas.Slice.Eq.{bytes_eq-Decides}
use denote.Enum.Bare.{same_true, true_same}
use Rattle.text_lexer.specs.contracts.token.TokenKind.{the_type}
use Rattle.text_lexer.specs.declared.token.TokenKind.{TokenKind}
use Rattle.text_ast.specs.Words.{is_reserved_upper, is_reserved_lower}
use Rattle.text_ast.specs.Pieces.{Piece}
use Rattle.text_tree.specs.Forms.{Want, Sign, Word, Upper, Lower, Plain, Negated, Literal, same_kind, admits, may}
use Rattle.text_grammar.proofs.Tables.{kind_of, unlike, differ, apart}
use Rattle.text_grammar.proofs.Lists.{both_true, Apart}

same_kind-refl : (kind : TokenKind) → same_kind kind kind ≡ true
unfolding same_kind
same_kind-refl kind = true_same the_type kind kind refl

pub same_kind-true : (a b : TokenKind) → same_kind a b ≡ true → a ≡ b
unfolding same_kind
same_kind-true a b e = same_true the_type tt a b e

pub bytes_eq-true : (a b : List ℕ) → bytes_eq a b ≡ true → a ≡ b
bytes_eq-true a b e = (bytes_eq-Decides a b).0 e

bytes_eq-refl : (bytes : List ℕ) → bytes_eq bytes bytes ≡ true
bytes_eq-refl bytes = (bytes_eq-Decides bytes bytes).1 refl

admits_kind : (w : Want) (l : Piece) → admits w l ≡ true → l.kind ≡ kind_of w
unfolding admits
admits_kind (Sign kind) l e = same_kind-true l.kind kind e
admits_kind (Word kind word) l e = same_kind-true l.kind kind (both_true (same_kind l.kind kind) (bytes_eq l.bytes word) e).0
admits_kind Upper l e = same_kind-true _ _ (both_true _ _ e).0
admits_kind Lower l e = same_kind-true _ _ (both_true _ _ e).0
admits_kind Plain l e = same_kind-true _ _ (both_true _ _ e).0
admits_kind Negated l e = same_kind-true _ _ (both_true _ _ e).0
admits_kind Literal l e = same_kind-true _ _ e

word_is : (kind : TokenKind) (word : List ℕ) (l : Piece) → admits (Word kind word) l ≡ true → l.bytes ≡ word
unfolding admits
word_is kind word l e = bytes_eq-true l.bytes word (both_true (same_kind l.kind kind) (bytes_eq l.bytes word) e).1

upper_is : (l : Piece) → admits Upper l ≡ true → not (is_reserved_upper l.bytes) ≡ true
unfolding admits
upper_is l e = (both_true _ _ e).1

lower_is : (l : Piece) → admits Lower l ≡ true → not (is_reserved_lower l.bytes) ≡ true
unfolding admits
lower_is l e = (both_true _ _ e).1

not_both : (b : Bool) → b ≡ true → not b ≡ true → ⊥
not_both true e f = cc
not_both false e f = cc

unlike_sound : (u v : Want) (l : Piece) → unlike u v ≡ true → admits u l ≡ true → admits v l ≡ true → ⊥
unlike_sound (Word kind word) (Word other second) l e a b =
    let same : word ≡ second = sym (word_is kind word l a) ∙ word_is other second l b in
    not_both (bytes_eq word second) (subst (λ z. bytes_eq word z ≡ true) same (bytes_eq-refl word)) e
unlike_sound (Word kind word) Upper l e a b = not_both (is_reserved_upper word) e (subst (λ z. not (is_reserved_upper z) ≡ true) (word_is kind word l a) (upper_is l b))
unlike_sound Upper (Word kind word) l e a b = not_both (is_reserved_upper word) e (subst (λ z. not (is_reserved_upper z) ≡ true) (word_is kind word l b) (upper_is l a))
unlike_sound (Word kind word) Lower l e a b = not_both (is_reserved_lower word) e (subst (λ z. not (is_reserved_lower z) ≡ true) (word_is kind word l a) (lower_is l b))
unlike_sound Lower (Word kind word) l e a b = not_both (is_reserved_lower word) e (subst (λ z. not (is_reserved_lower z) ≡ true) (word_is kind word l b) (lower_is l a))
unlike_sound u v l e a b = cc

differ_sound : (u v : Want) (l : Piece) → differ u v ≡ true → admits u l ≡ true → admits v l ≡ true → ⊥
differ_sound u v l e a b =
    let same : kind_of u ≡ kind_of v = sym (admits_kind u l a) ∙ admits_kind v l b in
    let test : same_kind (kind_of u) (kind_of v) ≡ true = subst (λ z. same_kind (kind_of u) z ≡ true) same (same_kind-refl (kind_of u)) in
    unlike_sound u v l (elim (same_kind (kind_of u) (kind_of v)) as (λ (z : Bool). z ≡ true → (not z || unlike u v) ≡ true → unlike u v ≡ true)
    [ true ↦ λ p q. q | false ↦ λ p q. cc ] test e) a b

one_apart : (u : Want) (vs : List Want) (l : Piece) → list_all (λ v. differ u v) vs ≡ true → admits u l ≡ true → may vs l ≡ true → ⊥
one_apart u [] l e a m = cc
one_apart u (v ∷ vs) l e a m =
    let parts = both_true (differ u v) (list_all (λ v. differ u v) vs) e in
    elim (admits v l) as (λ (b : Bool). admits v l ≡ b → (b || may vs l) ≡ true → ⊥)
    [ true ↦ λ was h. differ_sound u v l parts.0 a was | false ↦ λ was h. one_apart u vs l parts.1 a h ] refl m

pub apart_sound : (us vs : List Want) → apart us vs ≡ true → Apart us vs
apart_sound [] vs e l m n = cc
apart_sound (u ∷ us) vs e l m n =
    let parts = both_true (list_all (λ v. differ u v) vs) (apart us vs) e in
    elim (admits u l) as (λ (b : Bool). admits u l ≡ b → (b || may us l) ≡ true → ⊥)
    [ true ↦ λ was h. one_apart u vs l parts.0 was n | false ↦ λ was h. apart_sound us vs parts.1 l h n ] refl m
