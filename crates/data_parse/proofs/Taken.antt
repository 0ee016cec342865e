-- The kind of a token that was read.
use Rattle.std.proofs.Common.{rules, ◌≡◌, ◌∙◌, sym, ap, List, [], ◌∷◌, Bool, true, false, refl}
use Rattle.std.specs.Prelude.{if◌then◌else◌}
use denote.Enum.Bare.{same_true}
use Rattle.text_lexer.specs.contracts.token.TokenKind.{the_type}
use Rattle.text_lexer.specs.declared.token.TokenKind.{TokenKind}
use Rattle.text_ast.specs.Pieces.{Piece}
use Rattle.text_tree.specs.Forms.{NotGrammar, Sign, admits, same_kind}
use Rattle.text_grammar.specs.Reading.{Got, Stuck, one}

same : (a b : TokenKind) → same_kind a b ≡ true → a ≡ b
unfolding same_kind
same a b e = same_true the_type (search rules) a b e

pub kind_read : (kind : TokenKind) (ls rest : List Piece) (l : Piece) → one (Sign kind) ls ≡ Got l rest → l.kind ≡ kind
unfolding admits
kind_read kind [] rest l e = absurd (let no : ⊥ = cc in no)
kind_read kind (m ∷ ls) rest l e =
    elim (same_kind m.kind kind) as (λ (b : Bool). same_kind m.kind kind ≡ b → (if b then Got m ls else Stuck NotGrammar (m ∷ ls)) ≡ Got l rest → l.kind ≡ kind) [
      | true ↦ λ was is. (let read : m ≡ l = cc in ap (λ (x : Piece). x.kind) (sym read) ∙ same m.kind kind was)
      | false ↦ λ was is. absurd (let no : ⊥ = cc in no)
    ] refl e
