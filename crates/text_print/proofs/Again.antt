-- From what is known of canonical spellings to the words of the laws.
use Rattle.std.proofs.Common.{◌≡◌, ℕ, suc, arith, List, [], ◌∷◌, map, length, refl, ◌∙◌, ap}
use Rattle.text_ast.specs.Pieces.{Piece}
use Rattle.text_tree.specs.Forms.{Spells}
use Rattle.text_tree.specs.Levels.{SpellsPart}
use Rattle.text_tree.specs.ExprGrammar.{G, rule}
use Rattle.text_tree.specs.Grammar.{most_levels}
use Rattle.text_print.specs.Marks.{Mark, lexemes_of_marks}
use Rattle.text_print.specs.Reprinted.{AreOf, AreTokens, IsReprinted, lexeme}
use Rattle.text_print.proofs.Canonical.{AreGood, Canonical, lexemes}

pub good_of : (ls : List Piece) → AreTokens ls → AreGood ls
good_of [] h = tt
good_of (l ∷ ls) h = (h 0 l (omega arith), good_of ls (λ k d within. h (suc k) d (omega arith)))

pub mapped_is : (ls : List Piece) → lexemes ls ≡ map lexeme ls
mapped_is [] = refl
mapped_is (l ∷ ls) = ap (λ z. lexeme l ∷ z) (mapped_is ls)

pub reprinted : {A : Type 0} (f : G A) (stripped : A → A) (x : A) (n : ℕ) (marks : List Mark) (ks : List Piece)
    → Canonical (λ y. stripped y ≡ stripped x) (Spells (SpellsPart rule most_levels) f) (lexemes_of_marks marks) n → AreOf marks ks → IsReprinted f stripped x n ks
reprinted f stripped x n marks ks h of =
    let r = h.reads ks (mapped_is ks ∙ of) in
    record { tree = r.value; spells = r.spells; same = r.is; short = r.short }

pub reprinted_whole : {A : Type 0} (f : G A) (stripped : A → A) (x : A) (n : ℕ) (marks : List Mark) (ks : List Piece)
    → Canonical (λ y. stripped y ≡ stripped x) (Spells (SpellsPart rule most_levels) f) (lexemes_of_marks marks) n → AreOf marks ks → IsReprinted f stripped x (length ks) ks
reprinted_whole f stripped x n marks ks h of =
    let r = h.reads ks (mapped_is ks ∙ of) in
    record { tree = r.value; spells = r.spells; same = r.is; short = omega arith }
