-- A table that has the tokens of another.
use Rattle.std.proofs.Common.{◌≡◌, List, [], ◌∷◌, Bool, true, false, ◌&&◌, ◌||◌, refl, ap, subst}
use Rattle.std.specs.List.{list_all, list_any}
use Rattle.std.specs.Str.{bytes_eq}
use Rattle.text_ast.specs.Pieces.{Piece}
use Rattle.text_tree.specs.Forms.{Want, Sign, Word, Upper, Lower, Plain, Negated, Literal, same_kind, admits, may}
use Rattle.text_grammar.proofs.Lists.{both_true}
use Rattle.text_grammar.proofs.Apart.{same_kind-true, bytes_eq-true}

abbrev pub same_want : Want → Want → Bool
same_want (Sign a) (Sign b) = same_kind a b
same_want (Word k a) (Word l b) = same_kind k l && bytes_eq a b
same_want Upper Upper = true
same_want Lower Lower = true
same_want Plain Plain = true
same_want Negated Negated = true
same_want Literal Literal = true
same_want u v = false

abbrev pub covers : List Want → List Want → Bool
covers vs us = list_all (λ u. list_any (λ v. same_want u v) vs) us

same_admits : (u v : Want) (l : Piece) → same_want u v ≡ true → admits u l ≡ true → admits v l ≡ true
same_admits (Sign a) (Sign b) l e h = subst (λ z. admits (Sign z) l ≡ true) (same_kind-true a b e) h
same_admits (Word k a) (Word m b) l e h =
    let parts = both_true (same_kind k m) (bytes_eq a b) e in
    subst (λ z. admits (Word z b) l ≡ true) (same_kind-true k m parts.0) (subst (λ z. admits (Word k z) l ≡ true) (bytes_eq-true a b parts.1) h)
same_admits Upper Upper l e h = h
same_admits Lower Lower l e h = h
same_admits Plain Plain l e h = h
same_admits Negated Negated l e h = h
same_admits Literal Literal l e h = h
same_admits u v l e h = cc

or_right : (a b : Bool) → b ≡ true → (a || b) ≡ true
or_right true b e = refl
or_right false b e = e

one_covers : (u : Want) (vs : List Want) (l : Piece) → list_any (λ v. same_want u v) vs ≡ true → admits u l ≡ true → may vs l ≡ true
one_covers u [] l e h = cc
one_covers u (v ∷ vs) l e h =
    elim (same_want u v) as (λ (b : Bool). same_want u v ≡ b → (b || list_any (λ v. same_want u v) vs) ≡ true → (admits v l || may vs l) ≡ true) [
      | true ↦ λ was t. ap (λ b. b || may vs l) (same_admits u v l was h)
      | false ↦ λ was t. or_right (admits v l) (may vs l) (one_covers u vs l t h)
    ] refl e

pub covers_sound : (vs us : List Want) → covers vs us ≡ true → (l : Piece) → may us l ≡ true → may vs l ≡ true
covers_sound vs [] e l m = cc
covers_sound vs (u ∷ us) e l m =
    let parts = both_true (list_any (λ v. same_want u v) vs) (covers vs us) e in
    elim (admits u l) as (λ (b : Bool). admits u l ≡ b → (b || may us l) ≡ true → may vs l ≡ true)
    [ true ↦ λ was t. one_covers u vs l parts.0 was | false ↦ λ was t. covers_sound vs us parts.1 l t ] refl m
