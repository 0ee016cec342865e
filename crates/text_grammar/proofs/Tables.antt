-- The tables of a form: what may go on with it, and whether its parts are apart.
use Rattle.std.proofs.Common.{List, [], ◌∷◌, ◌++◌, Bool, true, false, ◌&&◌, ◌||◌, not}
use Rattle.std.specs.Prelude.{if◌then◌else◌}
use Rattle.std.specs.List.{list_all}
use Rattle.std.specs.Str.{bytes_eq}
use Rattle.text_lexer.specs.declared.token.TokenKind.{TokenKind}
use Rattle.text_lexer.specs.declared.token.TokenKind.TheVariants as k
use Rattle.text_ast.specs.Words.{is_reserved_upper, is_reserved_lower}
use Rattle.text_tree.specs.Forms.{Form, Want, Sign, Word, Upper, Lower, Plain, Negated, Literal, same_kind, nothing, token, both, either, each, ended, mapped, part, within, first, empty}

abbrev pub kind_of : Want → TokenKind
kind_of (Sign kind) = kind
kind_of (Word kind word) = kind
kind_of Upper = k.Upper
kind_of Lower = k.Lower
kind_of Plain = k.Number
kind_of Negated = k.Number
kind_of Literal = k.Text

-- tokens of one kind that are not the same
abbrev pub unlike : Want → Want → Bool
unlike (Word kind word) (Word other second) = not (bytes_eq word second)
unlike (Word kind word) Upper = is_reserved_upper word
unlike Upper (Word kind word) = is_reserved_upper word
unlike (Word kind word) Lower = is_reserved_lower word
unlike Lower (Word kind word) = is_reserved_lower word
unlike u v = false

abbrev pub differ : Want → Want → Bool
differ u v = not (same_kind (kind_of u) (kind_of v)) || unlike u v

abbrev pub apart : List Want → List Want → Bool
apart us vs = list_all (λ u. list_all (λ v. differ u v) vs) us

abbrev pub mores : {P : Type 0} {T : P → Type 0} → (P → List Want) → (P → List Want) → {A : Type 0} → Form P T A → List Want
mores F M (nothing x) = []
mores F M (token w) = []
mores F M (both f g) = mores F M g ++ (if empty g then mores F M f else [])
mores F M (either f g) = mores F M f ++ (mores F M g ++ (if empty g then first F f else []))
mores F M (each times f) = first F f ++ mores F M f
mores F M (ended times w f g h) = mores F M g ++ (mores F M h ++ (if empty h then w ∷ mores F M f else []))
mores F M (mapped make f) = mores F M f
mores F M (part p) = M p
mores F M (within most f) = mores F M f

-- each choice is decided by the next token
abbrev pub fine : {P : Type 0} {T : P → Type 0} → (P → List Want) → (P → List Want) → {A : Type 0} → Form P T A → Bool
fine F M (nothing x) = true
fine F M (token w) = true
fine F M (both f g) = fine F M f && (fine F M g && apart (mores F M f) (first F g))
fine F M (either f g) = fine F M f && (fine F M g && (not (empty f) && apart (first F f) (first F g)))
fine F M (each times f) = fine F M f && (not (empty f) && apart (mores F M f) (first F f))
fine F M (ended times w f g h) =
    (fine F M f && (fine F M g && fine F M h)) && ((not (empty f) && not (empty g)) && ((apart (first F f) (first F g) && apart (w ∷ []) (first F h))
    && (apart (mores F M f) (w ∷ []) && apart (mores F M f) (first F h))))
fine F M (mapped make f) = fine F M f
fine F M (part p) = true
fine F M (within most f) = fine F M f
