-- Which branch a list and a path take.
use Rattle.std.proofs.Common.{◌≡◌, ℕ, List, [], ◌∷◌, refl, true, false}
use Rattle.text_ast.specs.Pieces.{Piece}
use Rattle.text_lexer.specs.declared.token.TokenKind.{TokenKind}
use Rattle.text_tree.specs.Forms.{Lower, Sign, admits, each, first, AnyNumber}
use Rattle.text_tree.specs.ExprGrammar.{◌⨾◌, filter_form, flat_step, item_form, listed, map_step, path_steps}
use Rattle.text_tree.specs.Texts.{first_of}
use Rattle.text_grammar.specs.Reading.{Got, made, one, read, starts}
use Rattle.text_syntax.specs.Parts.{behind_comma, cons_pair}
use Rattle.text_syntax.specs.Reads.{reading}
use Rattle.std.proofs.Common.{drop, Bool}
use Rattle.std.specs.Prelude.{if◌then◌else◌, ◌||◌}
use Rattle.text_grammar.specs.Reading.{Stuck}
use Rattle.text_tree.specs.Forms.{NotGrammar}

pub filters_some : (levels : ℕ) (ls : List Piece) → starts (Lower ∷ []) ls ≡ true
    → reading levels (listed filter_form) ls ≡ made cons_pair (reading levels (filter_form ⨾ each AnyNumber (behind_comma filter_form)) ls)
unfolding read filter_form
filters_some levels ls e = rw e refl

pub filters_none : (levels : ℕ) (ls : List Piece) → starts (Lower ∷ []) ls ≡ false → reading levels (listed filter_form) ls ≡ Got [] ls
unfolding read filter_form
filters_none levels ls e = rw e refl

pub items_none : (levels : ℕ) (ls : List Piece) → starts (first first_of item_form) ls ≡ false → reading levels (listed item_form) ls ≡ Got [] ls
unfolding read item_form
items_none levels ls e = rw e refl

pub path_none : (levels : ℕ) (ls : List Piece) → starts (first first_of map_step) ls ≡ false → reading levels path_steps ls ≡ reading levels flat_step ls
unfolding read path_steps map_step
path_none levels ls e = rw e refl

pub taken_of : (kind : TokenKind) (ls : List Piece) → starts (Sign kind ∷ []) ls ≡ true → (l : Piece) × (one (Sign kind) ls ≡ Got l (drop 1 ls))
taken_of kind [] e = absurd (cc)
taken_of kind (l ∷ ls) e = (l, go (admits (Sign kind) l) e)
  where
    go : (b : Bool) → (b || false) ≡ true → (if b then Got l ls else Stuck NotGrammar (l ∷ ls)) ≡ Got l ls
    go true h = refl
    go false h = absurd (cc)
