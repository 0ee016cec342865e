-- Commas right before closing braces: in whatever is spelled there are none but at the end of a model.
use Rattle.std.proofs.Common.{◌≡◌, ◌≤◌, ◌+◌, ◌⊎◌, inl, inr, ℕ, arith, Bool, true, false, List, [], ◌∷◌, ◌++◌, map, length, refl, sym, ◌∙◌, ap, subst}
use Rattle.std.specs.Prelude.{◌&&◌, ◌||◌, not, if◌then◌else◌}
use denote.Enum.Bare.{same_true}
use Rattle.text_lexer.specs.contracts.token.TokenKind.{the_type}
use Rattle.text_lexer.specs.declared.token.TokenKind.{TokenKind}
use Rattle.text_lexer.specs.declared.token.TokenKind.TheVariants as k
use Rattle.text_ast.specs.Pieces.{Piece}
use Rattle.text_tree.specs.Forms.{Want, Sign, Word, Upper, Lower, Plain, Negated, Literal, Spells, SpellsEach, IsToken, ◌then◌, admits, same_kind, nothing, token, both, either, each, ended, mapped, part, within}
use Rattle.text_tree.specs.ExprGrammar.{G, Part, tree_of}
use Rattle.text_print.proofs.Tokens.{Pieces, and_true, both_true}

abbrev pub is_comma : TokenKind → Bool
is_comma kind = same_kind kind k.Comma

abbrev pub is_brace : TokenKind → Bool
is_brace kind = same_kind kind k.BraceClose

-- whether the first is a closing brace
abbrev pub begins : List TokenKind → Bool
begins [] = false
begins (x ∷ xs) = is_brace x

-- whether the last is a comma
abbrev pub ends : List TokenKind → Bool
ends [] = false
ends (x ∷ []) = is_comma x
ends (x ∷ y ∷ xs) = ends (y ∷ xs)

abbrev pub counted_if : Bool → ℕ
counted_if true = 1
counted_if false = 0

-- how many commas stand right before a closing brace
abbrev pub lasts : List TokenKind → ℕ
lasts [] = 0
lasts (x ∷ xs) = counted_if (is_comma x && begins xs) + lasts xs

abbrev pub kinds : List Piece → List TokenKind
kinds ls = map (λ (l : Piece). l.kind) ls

-- ---- lists in two

pub kinds_append : (a b : List Piece) → kinds (a ++ b) ≡ kinds a ++ kinds b
kinds_append [] b = refl
kinds_append (l ∷ a) b = ap (λ z. l.kind ∷ z) (kinds_append a b)

and_false : (b : Bool) → (b && false) ≡ false
and_false true = refl
and_false false = refl

true_not_false : (b : Bool) → b ≡ true → b ≡ false → ⊥
true_not_false b h k = cc

pub not_begun : (xs ys : List TokenKind) → begins ys ≡ false → lasts (xs ++ ys) ≡ lasts xs + lasts ys
not_begun [] ys none = omega arith
not_begun (x ∷ []) ys none =
    let one : (is_comma x && begins ys) ≡ false = ap (λ b. is_comma x && b) none ∙ and_false (is_comma x) in
    let other : (is_comma x && false) ≡ false = and_false (is_comma x) in
    let a : counted_if (is_comma x && begins ys) ≡ 0 = ap counted_if one in
    let c : counted_if (is_comma x && false) ≡ 0 = ap counted_if other in
    omega (arith, a, c)
not_begun (x ∷ y ∷ xs) ys none =
    let rest = not_begun (y ∷ xs) ys none in
    omega (arith, rest)

pub not_ended : (xs ys : List TokenKind) → ends xs ≡ false → lasts (xs ++ ys) ≡ lasts xs + lasts ys
not_ended [] ys none = omega arith
not_ended (x ∷ []) ys none =
    let a : counted_if (is_comma x && begins ys) ≡ 0 = ap (λ b. counted_if (b && begins ys)) none in
    let c : counted_if (is_comma x && false) ≡ 0 = ap (λ b. counted_if (b && false)) none in
    omega (arith, a, c)
not_ended (x ∷ y ∷ xs) ys none =
    let rest = not_ended (y ∷ xs) ys none in
    omega (arith, rest)

ends_append : (xs ys : List TokenKind) → ends (xs ++ ys) ≡ true → (ends ys ≡ true) ⊎ ((ys ≡ []) × (ends xs ≡ true))
ends_append [] ys h = inl h
ends_append (x ∷ []) [] h = inr (refl, h)
ends_append (x ∷ []) (y ∷ ys) h = inl h
ends_append (x ∷ z ∷ xs) ys h = ends_append (z ∷ xs) ys h

begins_append : (xs ys : List TokenKind) → begins (xs ++ ys) ≡ true → (begins xs ≡ true) ⊎ ((xs ≡ []) × (begins ys ≡ true))
begins_append [] ys h = inr (refl, h)
begins_append (x ∷ xs) ys h = inl h

no_append : (xs ys : List TokenKind) → xs ++ ys ≡ [] → (xs ≡ []) × (ys ≡ [])
no_append [] ys h = (refl, h)
no_append (x ∷ xs) ys h = absurd (let none : x ∷ (xs ++ ys) ≡ [] = h in cc)

counted_one : (b : Bool) → counted_if b ≤ 1
counted_one true = omega arith
counted_one false = omega arith

pub lasts_short : (x : TokenKind) (xs : List TokenKind) → lasts (x ∷ xs) ≤ length xs
lasts_short x [] = (let c : counted_if (is_comma x && false) ≡ 0 = ap counted_if (and_false (is_comma x)) in omega (arith, c))
lasts_short x (y ∷ ys) = omega (arith, counted_one (is_comma x && is_brace y), lasts_short y ys)

-- ---- what a form says of the kinds that are spelled

-- No comma stands right before a closing brace; a comma may be the last, a closing brace the first; there may be none.
pub record Facts : Type 0 where
  pub ok : Bool
  pub ends : Bool
  pub begins : Bool
  pub empty : Bool

pub record Keeps (f : Facts) (ks : List TokenKind) : Type 0 where
  pub calm : f.ok ≡ true → lasts ks ≡ 0
  pub ended : ends ks ≡ true → f.ends ≡ true
  pub begun : begins ks ≡ true → f.begins ≡ true
  pub none : ks ≡ [] → f.empty ≡ true

abbrev pub both_facts : Facts → Facts → Facts
both_facts f g = record {
  ok = f.ok && (g.ok && not (f.ends && g.begins));
  ends = g.ends || (g.empty && f.ends);
  begins = f.begins || (f.empty && g.begins);
  empty = f.empty && g.empty;
}

abbrev pub either_facts : Facts → Facts → Facts
either_facts f g = record { ok = f.ok && g.ok; ends = f.ends || g.ends; begins = f.begins || g.begins; empty = f.empty || g.empty }

abbrev pub each_facts : Facts → Facts
each_facts f = record { ok = f.ok && not (f.ends && f.begins); ends = f.ends; begins = f.begins; empty = true }

-- whether the token may be of the kind
abbrev pub may_be : Want → TokenKind → Bool
may_be (Sign kind) c = same_kind kind c
may_be (Word kind word) c = same_kind kind c
may_be Upper c = same_kind k.Upper c
may_be Lower c = same_kind k.Lower c
may_be Plain c = same_kind k.Number c
may_be Negated c = same_kind k.Number c
may_be Literal c = same_kind k.Text c

abbrev pub token_facts : Want → Facts
token_facts w = record { ok = true; ends = may_be w k.Comma; begins = may_be w k.BraceClose; empty = false }

abbrev pub part_facts : Facts
part_facts = record { ok = true; ends = false; begins = false; empty = false }

abbrev pub facts : {A : Type 0} → G A → Facts
facts (nothing x) = record { ok = true; ends = false; begins = false; empty = true }
facts (token w) = token_facts w
facts (both f g) = both_facts (facts f) (facts g)
facts (either f g) = either_facts (facts f) (facts g)
facts (each times f) = each_facts (facts f)
facts (ended times w f g h) = both_facts (each_facts (both_facts (token_facts w) (facts f))) (either_facts (both_facts (token_facts w) (facts g)) (facts h))
facts (mapped make f) = facts f
facts (part p) = part_facts
facts (within most f) = facts f

-- ---- and that it is so

or_left : (a b : Bool) → a ≡ true → (a || b) ≡ true
or_left true b h = refl
or_left false b h = cc

or_right : (a b : Bool) → b ≡ true → (a || b) ≡ true
or_right true b h = refl
or_right false b h = h

not_both : (a b : Bool) → not (a && b) ≡ true → a ≡ true → b ≡ false
not_both true true h k = cc
not_both true false h k = refl
not_both false b h k = cc

one_of : (b : Bool) → (b ≡ true) ⊎ (b ≡ false)
one_of true = inl refl
one_of false = inr refl

-- a list is false where true would follow
refuted : (b c : Bool) → (b ≡ true → c ≡ true) → c ≡ false → b ≡ false
refuted true c f h = let is : c ≡ true = f refl in cc
refuted false c f h = refl

glued : (f g : Facts) (xs ys : List TokenKind) → (ends xs ≡ true → f.ends ≡ true) → (begins ys ≡ true → g.begins ≡ true) → not (f.ends && g.begins) ≡ true
    → lasts (xs ++ ys) ≡ lasts xs + lasts ys
glued f g xs ys one other apart = elim (one_of (ends xs)) [
  | inl is ↦ not_begun xs ys (refuted (begins ys) g.begins other (not_both f.ends g.begins apart (one is)))
  | inr none ↦ not_ended xs ys none
]

pub both_keeps : (f g : Facts) (xs ys : List TokenKind) → Keeps f xs → Keeps g ys → Keeps (both_facts f g) (xs ++ ys)
both_keeps f g xs ys one other = record {
  calm = λ h. (
      let a = both_true f.ok (g.ok && not (f.ends && g.begins)) h in
      let b = both_true g.ok (not (f.ends && g.begins)) a.1 in
      omega (arith, glued f g xs ys one.ended other.begun b.1, one.calm a.0, other.calm b.0));
  ended = λ h. elim (ends_append xs ys h) [
    | inl e ↦ or_left g.ends (g.empty && f.ends) (other.ended e)
    | inr e ↦ or_right g.ends (g.empty && f.ends) (and_true g.empty f.ends (other.none e.0) (one.ended e.1))
  ];
  begun = λ h. elim (begins_append xs ys h) [
    | inl e ↦ or_left f.begins (f.empty && g.begins) (one.begun e)
    | inr e ↦ or_right f.begins (f.empty && g.begins) (and_true f.empty g.begins (one.none e.0) (other.begun e.1))
  ];
  none = λ h. (let e = no_append xs ys h in and_true f.empty g.empty (one.none e.0) (other.none e.1));
}

left_keeps : (f g : Facts) (xs : List TokenKind) → Keeps f xs → Keeps (either_facts f g) xs
left_keeps f g xs one = record {
  calm = λ h. one.calm (both_true f.ok g.ok h).0;
  ended = λ h. or_left f.ends g.ends (one.ended h);
  begun = λ h. or_left f.begins g.begins (one.begun h);
  none = λ h. or_left f.empty g.empty (one.none h);
}

right_keeps : (f g : Facts) (xs : List TokenKind) → Keeps g xs → Keeps (either_facts f g) xs
right_keeps f g xs other = record {
  calm = λ h. other.calm (both_true f.ok g.ok h).1;
  ended = λ h. or_right f.ends g.ends (other.ended h);
  begun = λ h. or_right f.begins g.begins (other.begun h);
  none = λ h. or_right f.empty g.empty (other.none h);
}

none_keeps : (f : Facts) → f.empty ≡ true → Keeps f []
none_keeps f h = record { calm = λ e. refl; ended = λ e. cc; begun = λ e. cc; none = λ e. h }

more_keeps : (f : Facts) (xs ys : List TokenKind) → Keeps f xs → Keeps (each_facts f) ys → Keeps (each_facts f) (xs ++ ys)
more_keeps f xs ys one rest = record {
  calm = λ h. (
      let a = both_true f.ok (not (f.ends && f.begins)) h in
      omega (arith, glued f f xs ys one.ended rest.begun a.1, one.calm a.0, rest.calm h));
  ended = λ h. elim (ends_append xs ys h) [ inl e ↦ rest.ended e | inr e ↦ one.ended e.1 ];
  begun = λ h. elim (begins_append xs ys h) [ inl e ↦ one.begun e | inr e ↦ rest.begun e.1 ];
  none = λ h. refl;
}

pub each_keeps : {A : Type 0} (f : Facts) (F : A → List Piece → Type 0) → ((x : A) (ls : List Piece) → F x ls → Keeps f (kinds ls)) → (xs : List A) (ls : List Piece)
    → SpellsEach F xs ls → Keeps (each_facts f) (kinds ls)
each_keeps f F one [] ls h = subst (λ z. Keeps (each_facts f) (kinds z)) (sym h) (none_keeps (each_facts f) refl)
each_keeps f F one (x ∷ xs) ls (p, q, g, first, more) =
    subst (λ z. Keeps (each_facts f) z) (sym (ap kinds g ∙ kinds_append p q)) (more_keeps f (kinds p) (kinds q) (one x p first) (each_keeps f F one xs q more))

same_kinds : (a b : TokenKind) → same_kind a b ≡ true → a ≡ b
unfolding same_kind
same_kinds a b e = same_true the_type tt a b e

kind_of : (w : Want) (l : Piece) (c : TokenKind) → admits w l ≡ true → same_kind l.kind c ≡ true → may_be w c ≡ true
unfolding admits
kind_of (Sign kind) l c h is = subst (λ z. same_kind z c ≡ true) (same_kinds l.kind kind h) is
kind_of (Word kind word) l c h is = subst (λ z. same_kind z c ≡ true) (same_kinds l.kind kind (both_true (same_kind l.kind kind) _ h).0) is
kind_of Upper l c h is = subst (λ z. same_kind z c ≡ true) (same_kinds l.kind k.Upper (both_true (same_kind l.kind k.Upper) _ h).0) is
kind_of Lower l c h is = subst (λ z. same_kind z c ≡ true) (same_kinds l.kind k.Lower (both_true (same_kind l.kind k.Lower) _ h).0) is
kind_of Plain l c h is = subst (λ z. same_kind z c ≡ true) (same_kinds l.kind k.Number (both_true (same_kind l.kind k.Number) _ h).0) is
kind_of Negated l c h is = subst (λ z. same_kind z c ≡ true) (same_kinds l.kind k.Number (both_true (same_kind l.kind k.Number) _ h).0) is
kind_of Literal l c h is = subst (λ z. same_kind z c ≡ true) (same_kinds l.kind k.Text h) is

pub token_keeps : (w : Want) (l : Piece) (ls : List Piece) → ls ≡ l ∷ [] → admits w l ≡ true → Keeps (token_facts w) (kinds ls)
token_keeps w l ls is h =
    subst (λ z. Keeps (token_facts w) (kinds z)) (sym is)
    (record {
      calm = λ e. (let c : counted_if (is_comma l.kind && false) ≡ 0 = ap counted_if (and_false (is_comma l.kind)) in omega (arith, c));
      ended = λ e. kind_of w l k.Comma h e;
      begun = λ e. kind_of w l k.BraceClose h e;
      none = λ e. cc;
    })

-- a front and a back
pub two_keeps : {F H : List Piece → Type 0} (f g : Facts) (ls : List Piece) → ((p : List Piece) → F p → Keeps f (kinds p)) → ((q : List Piece) → H q → Keeps g (kinds q)) → (F then H) ls
    → Keeps (both_facts f g) (kinds ls)
two_keeps f g ls one other (p, q, glue, a, b) =
    subst (λ z. Keeps (both_facts f g) z) (sym (ap kinds glue ∙ kinds_append p q)) (both_keeps f g (kinds p) (kinds q) (one p a) (other q b))

-- the parts are as they should be
abbrev pub Calm : Pieces → Type 0
Calm S = (p : Part) (x : tree_of p) (ls : List Piece) → S p x ls → Keeps part_facts (kinds ls)

pub keeps : (S : Pieces) → Calm S → {A : Type 0} (f : G A) (x : A) (ls : List Piece) → Spells S f x ls → Keeps (facts f) (kinds ls)
keeps S parts (nothing y) x ls (e, is) = subst (λ z. Keeps (facts (nothing y)) (kinds z)) (sym is) (none_keeps (facts (nothing y)) refl)
keeps S parts (token w) x ls (is, h) = token_keeps w x ls is h
keeps S parts (both f g) x ls h = two_keeps (facts f) (facts g) ls (λ p a. keeps S parts f x.0 p a) (λ q b. keeps S parts g x.1 q b) h
keeps S parts (either f g) x ls (inl h) = left_keeps (facts f) (facts g) (kinds ls) (keeps S parts f x ls h)
keeps S parts (either f g) x ls (inr h) = right_keeps (facts f) (facts g) (kinds ls) (keeps S parts g x ls h)
keeps S parts (each times f) x ls (h, few) = each_keeps (facts f) (Spells S f) (λ y p a. keeps S parts f y p a) x ls h
keeps S parts (ended times w f g h) x ls (d, few) =
    let F = both_facts (token_facts w) (facts f) in
    let H = both_facts (token_facts w) (facts g) in
    two_keeps (each_facts F) (either_facts H (facts h)) ls
    (λ p a. each_keeps F (λ y. IsToken w then Spells S f y)
    (λ y r e. two_keeps (token_facts w) (facts f) r (λ t (l, is, b). token_keeps w l t is b) (λ t b. keeps S parts f y t b) e) x.0 p a)
    (λ q. elim [
      | inl e ↦ left_keeps H (facts h) (kinds q) (two_keeps (token_facts w) (facts g) q (λ t (l, is, b). token_keeps w l t is b) (λ t b. keeps S parts g x.1 t b) e)
      | inr e ↦ right_keeps H (facts h) (kinds q) (keeps S parts h x.1 q e)
    ]) d
keeps S parts (mapped make f) x ls (y, is, h) = keeps S parts f y ls h
keeps S parts (part p) x ls h = parts p x ls h
keeps S parts (within most f) x ls (h, few) = keeps S parts f x ls h

-- ---- forms that spell no such comma, and no comma at their end

abbrev pub Silent : {A : Type 0} → Pieces → G A → Type 0
Silent {A} S f = (x : A) (ls : List Piece) → Spells S f x ls → (lasts (kinds ls) ≡ 0) × (ends (kinds ls) ≡ false)

pub not_last : (f : Facts) (ks : List TokenKind) → f.ends ≡ false → Keeps f ks → ends ks ≡ false
not_last f ks quiet h = refuted (ends ks) f.ends h.ended quiet

pub silent_list : (f : Facts) (ks : List TokenKind) → f.ok ≡ true → f.ends ≡ false → Keeps f ks → (lasts ks ≡ 0) × (ends ks ≡ false)
silent_list f ks ok quiet h = (h.calm ok, not_last f ks quiet h)

pub silent : (S : Pieces) → Calm S → {A : Type 0} (f : G A) → (facts f).ok ≡ true → (facts f).ends ≡ false → Silent S f
silent S parts f ok quiet x ls h = silent_list (facts f) (kinds ls) ok quiet (keeps S parts f x ls h)

-- behind a silent front
pub behind_silent : (ls p q : List Piece) → ls ≡ p ++ q → (lasts (kinds p) ≡ 0) × (ends (kinds p) ≡ false) → lasts (kinds ls) ≡ lasts (kinds q)
behind_silent ls p q g (calm, quiet) =
    let whole : lasts (kinds ls) ≡ lasts (kinds p ++ kinds q) = ap lasts (ap kinds g ∙ kinds_append p q) in
    omega (arith, whole, not_ended (kinds p) (kinds q) quiet, calm)
