-- Forms with commas between them.
use Rattle.std.proofs.Common.{◌≡◌, List, [], ◌∷◌, ◌++◌, map, refl, ◌∙◌, ap}
use Rattle.std.specs.List.{AllByRecursion, AllZip, flat_map}
use Rattle.text_lexer.specs.declared.token.TokenKind.TheVariants as k
use Rattle.text_lexer.specs.Lexeme.{Lexeme, sign_of}
use Rattle.text_tree.specs.Forms.{AnyNumber, Sign, Spells, both, each, mapped, nothing}
use Rattle.text_print.specs.Exprs.{commas, joined}
use Rattle.text_print.specs.Marks.{Mark, blank, lexemes_of_marks, written, sp, sign as mark}
use Rattle.data_tree.specs.Grammar.{G, behind, listed, sign}
use Rattle.text_print.proofs.Tokens.{at, part_of}
use Rattle.data_read.proofs.Forms.{Pieces, Told, told-as, told-behind, told-both, told-each, told-left, told-mapped, told-none, told-right, told-sign}

pub lexemes-append : (a b : List Mark) → lexemes_of_marks (a ++ b) ≡ lexemes_of_marks a ++ lexemes_of_marks b
lexemes-append [] b = refl
lexemes-append (blank bytes ∷ a) b = lexemes-append a b
lexemes-append (written l ∷ a) b = ap (λ z. l ∷ z) (lexemes-append a b)

pub lexemes-flat : {A : Type 0} (m : A → List Mark) (xs : List A) → lexemes_of_marks (flat_map m xs) ≡ flat_map (λ x. lexemes_of_marks (m x)) xs
lexemes-flat m [] = refl
lexemes-flat m (x ∷ xs) = lexemes-append (m x) (flat_map m xs) ∙ ap (λ z. lexemes_of_marks (m x) ++ z) (lexemes-flat m xs)

abbrev comma : Lexeme
comma = at k.Comma (sign_of k.Comma)

lexemes-joined : {A : Type 0} (m : A → List Mark) (xs : List A)
    → lexemes_of_marks (joined (mark k.Comma ∷ sp ∷ []) (map m xs)) ≡ flat_map (λ x. comma ∷ lexemes_of_marks (m x)) xs
lexemes-joined m [] = refl
lexemes-joined m (x ∷ xs) =
    ap (λ z. comma ∷ z)
    (lexemes-append (m x) (joined (mark k.Comma ∷ sp ∷ []) (map m xs)) ∙ ap (λ z. lexemes_of_marks (m x) ++ z) (lexemes-joined m xs))

module _ (S : Pieces) where
  told-comma : Told (λ l. Unit {0}) (Spells S (sign k.Comma)) (comma ∷ [])
  told-comma = told-sign S k.Comma (part_of comma (record { form = refl; limits = tt }) refl)

  pub told-listed : {A B : Type 0} (f : G B) (R : A → B → Type 0) (P : A → Type 0) (m : A → List Mark) → ((x : A) → P x → Told (R x) (Spells S f) (lexemes_of_marks (m x)))
      → (xs : List A) → AllByRecursion P xs → Told (AllZip R xs) (Spells S (listed f)) (lexemes_of_marks (commas (map m xs)))
  told-listed f R P m h [] all =
      told-right S (mapped (λ v. v.0 ∷ v.1) (both f (each AnyNumber (behind (sign k.Comma) f)))) (nothing []) (told-none [] tt (refl, refl))
  told-listed {A} {B} f R P m h (x ∷ xs) all =
      let more = each AnyNumber (behind (sign k.Comma) f) in
      let others = told-each S (behind (sign k.Comma) f) R P (λ y. comma ∷ lexemes_of_marks (m y)) (λ y p. told-behind S (Sign k.Comma) comma f told-comma (h y p)) xs all.1 in
      told-as (lexemes-append (m x) (joined (mark k.Comma ∷ sp ∷ []) (map m xs)) ∙ ap (λ z. lexemes_of_marks (m x) ++ z) (lexemes-joined m xs))
      (told-left S (mapped (λ v. v.0 ∷ v.1) (both f more)) (nothing [])
      (told-mapped S (λ v. v.0 ∷ v.1) (both f more) (AllZip R (x ∷ xs)) (λ v is. is) (told-both S f more (h x all.0) others)))
