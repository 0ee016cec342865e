-- Facts as variables, one after another.
use Rattle.std.proofs.Common.{◌≡◌, ℕ, zero, suc, ◌+◌, ◌<◌, ◌∙◌, sym, ap, subst, List, [], ◌∷◌, ◌++◌, Some, length, get_or, take, append_assoc}
use Rattle.std.specs.Prelude.{slice_get}
use Rattle.std.proofs.lemmas.List.{take_more}
use Rattle.ground_gates.specs.declared.gate.Literal.{Literal}
use Rattle.ground_problem.specs.declared.facts.FactNode.{FactNode}
use Rattle.ground_problem.specs.declared.facts.FactLiteral.{FactLiteral}
use Rattle.ground_problem.specs.declared.numbering.Numbering.{Numbering}
use Rattle.ground_problem.specs.Numbers.{IsNumber, AreNumbers, IsLiteralFor, AreLiterals, KeepsFacts, Zips}

module _ {A B : Type 0} where
  zips_push : (R : A → B → Type 0) (xs : List A) (ys : List B) (x : A) (y : B) → Zips R xs ys → R x y → Zips R (xs ++ x ∷ []) (ys ++ y ∷ [])
  zips_push R [] [] x y h r = (r, tt)
  zips_push R [] (b ∷ ys) x y h r = absurd h
  zips_push R (a ∷ xs) [] x y h r = absurd h
  zips_push R (a ∷ xs) (b ∷ ys) x y h r = (h.0, zips_push R xs ys x y h.1 r)

  pub zips_as : (R S : A → B → Type 0) → ((x : A) (y : B) → R x y → S x y) → (xs : List A) (ys : List B) → Zips R xs ys → Zips S xs ys
  zips_as R S more [] [] h = tt
  zips_as R S more [] (b ∷ ys) h = absurd h
  zips_as R S more (a ∷ xs) [] h = absurd h
  zips_as R S more (a ∷ xs) (b ∷ ys) h = (more a b h.0, zips_as R S more xs ys h.1)

  -- one element more
  pub zips_next : (R S : A → B → Type 0) → ((x : A) (y : B) → R x y → S x y) → (xs after : List A) (ys : List B) (k : ℕ) (d : B) (x : A) → k < length ys → Zips R xs (take k ys) → S x (get_or ys k d)
      → after ≡ xs ++ x ∷ [] → Zips S after (take (k + 1) ys)
  zips_next R S more xs after ys k d x within h one e =
      let P : List A → Type 0 = λ xs. Zips S xs (take (k + 1) ys) in
      let Q : List B → Type 0 = λ ys. Zips S (xs ++ x ∷ []) ys in
      subst P (sym e) (subst Q (sym (take_more ys k d within)) (zips_push S xs (take k ys) x (get_or ys k d) (zips_as R S more xs (take k ys) h) one))

pub kept_both : (a b c : Numbering) → KeepsFacts a b → KeepsFacts b c → KeepsFacts a c
kept_both a b c p q = record {
  more = p.more ++ q.more;
  whole = q.whole ∙ (ap (λ xs. xs ++ q.more) p.whole ∙ append_assoc a.facts.keys p.more q.more);
}

slice_get_front : {A : Type 0} (xs ys : List A) (k : ℕ) (x : A) → slice_get xs k ≡ Some x → slice_get (xs ++ ys) k ≡ Some x
slice_get_front [] ys k x e = cc
slice_get_front (z ∷ xs) ys zero x e = e
slice_get_front (z ∷ xs) ys (suc k) x e = slice_get_front xs ys k x e

pub number_kept : (old new : Numbering) → KeepsFacts old new → (x : ℕ) (p : FactNode) → IsNumber old.facts.keys x p → IsNumber new.facts.keys x p
number_kept old new h x p at =
    let P : List FactNode → Type 0 = λ keys. slice_get keys x ≡ Some p in
    subst P (sym h.whole) (slice_get_front old.facts.keys h.more x p at)

pub numbers_kept : (old new : Numbering) → KeepsFacts old new → (xs : List ℕ) (ps : List FactNode) → AreNumbers old.facts.keys xs ps → AreNumbers new.facts.keys xs ps
numbers_kept old new h xs ps are = zips_as (IsNumber old.facts.keys) (IsNumber new.facts.keys) (number_kept old new h) xs ps are

pub literal_kept : (old new : Numbering) → KeepsFacts old new → (l : Literal) (p : FactLiteral) → IsLiteralFor old.facts.keys l p → IsLiteralFor new.facts.keys l p
literal_kept old new h l p (number, sign) = (number_kept old new h l.var p.fact number, sign)

pub literals_kept : (old new : Numbering) → KeepsFacts old new → (ls : List Literal) (ps : List FactLiteral) → AreLiterals old.facts.keys ls ps → AreLiterals new.facts.keys ls ps
literals_kept old new h ls ps are = zips_as (IsLiteralFor old.facts.keys) (IsLiteralFor new.facts.keys) (literal_kept old new h) ls ps are
