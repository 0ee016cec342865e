-- What is spelled over some parts is spelled over more.
use Rattle.std.proofs.Common.{◌≡◌, inl, inr, ℕ, zero, suc, List, [], ◌∷◌, ◌++◌, refl, ◌∙◌, ap, append_assoc}
use Rattle.text_ast.specs.Pieces.{Piece}
use Rattle.text_tree.specs.Forms.{Form, Spells, SpellsEach, IsToken, ◌then◌, nothing, token, both, either, each, ended, mapped, part, within}
use Rattle.text_tree.specs.Levels.{Rules, SpellsPart}

pub each_more : {A : Type 0} (F G : A → List Piece → Type 0) → ((x : A) (ls : List Piece) → F x ls → G x ls) → (xs : List A) (ls : List Piece)
    → SpellsEach F xs ls → SpellsEach G xs ls
each_more F G u [] ls h = h
each_more F G u (x ∷ xs) ls (p, q, e, one, rest) = (p, q, e, u x p one, each_more F G u xs q rest)

pub each_snoc : {A : Type 0} (F : A → List Piece → Type 0) (xs : List A) (x : A) (a b : List Piece) → SpellsEach F xs a → F x b → SpellsEach F (xs ++ x ∷ []) (a ++ b)
each_snoc F [] x a b h k = (b, [], ap (λ (z : List Piece). z ++ b) h ∙ nil_right b, k, refl)
  where
    nil_right : (b : List Piece) → b ≡ b ++ []
    nil_right [] = refl
    nil_right (l ∷ b) = ap (λ z. l ∷ z) (nil_right b)
each_snoc F (y ∷ ys) x a b (p, q, e, one, rest) h =
    (p, q ++ b, ap (λ (z : List Piece). z ++ b) e ∙ append_assoc p q b, one, each_snoc F ys x q b rest h)

pub spells_more : {P : Type 0} {T : P → Type 0} (S Z : (p : P) → T p → List Piece → Type 0) → ((p : P) (x : T p) (ls : List Piece) → S p x ls → Z p x ls)
    → {A : Type 0} (f : Form P T A) (y : A) (ls : List Piece) → Spells S f y ls → Spells Z f y ls
spells_more S Z u (nothing x) y ls h = h
spells_more S Z u (token w) y ls h = h
spells_more S Z u (both f g) y ls (p, q, e, a, b) = (p, q, e, spells_more S Z u f y.0 p a, spells_more S Z u g y.1 q b)
spells_more S Z u (either f g) y ls (inl h) = inl (spells_more S Z u f y ls h)
spells_more S Z u (either f g) y ls (inr h) = inr (spells_more S Z u g y ls h)
spells_more S Z u (each times f) y ls (h, t) = (each_more (Spells S f) (Spells Z f) (spells_more S Z u f) y ls h, t)
spells_more S Z u (ended times w f g k) y ls ((p, q, e, items, end), t) = (
  (
    p,
    q,
    e,
    each_more (λ x. IsToken w then Spells S f x) (λ x. IsToken w then Spells Z f x)
        (λ x ks d. (d.0, d.1, d.2, d.3, spells_more S Z u f x d.1 d.4)) y.0 p items,
    elim end [
      | inl d ↦ inl (d.0, d.1, d.2, d.3, spells_more S Z u g y.1 d.1 d.4)
      | inr d ↦ inr (spells_more S Z u k y.1 q d)
    ],
  ),
  t,
)
spells_more S Z u (mapped make f) y ls (x, e, h) = (x, e, spells_more S Z u f x ls h)
spells_more S Z u (part p) y ls h = u p y ls h
spells_more S Z u (within most f) y ls (h, t) = (spells_more S Z u f y ls h, t)

-- one level more
pub level_more : {P : Type 0} {T : P → Type 0} (G : Rules P T) (n : ℕ) (p : P) (x : T p) (ls : List Piece) → SpellsPart G n p x ls → SpellsPart G (suc n) p x ls
level_more G zero p x ls h = absurd h
level_more G (suc n) p x ls h = spells_more (SpellsPart G n) (SpellsPart G (suc n)) (level_more G n) (G p) x ls h
