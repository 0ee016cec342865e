-- Which tokens begin a command.
use Rattle.std.proofs.Common.{◌≡◌, ◌∙◌, List, [], ◌∷◌, ◌||◌, ap}
use Rattle.std.specs.Prelude.{codes}
use Rattle.text_ast.specs.Pieces.{Piece}
use Rattle.text_lexer.specs.declared.token.TokenKind.TheVariants as k
use Rattle.text_tree.specs.Forms.{Want, Upper, Word, first}
use Rattle.text_tree.specs.Grammar.{command_form, model_command}
use Rattle.text_tree.specs.Texts.{first_of}
use Rattle.text_grammar.specs.Reading.{starts}
use Rattle.text_syntax.proofs.Starts.{starts_append}

next : (w : Want) (ws : List Want) (ls : List Piece) → starts (w ∷ ws) ls ≡ (starts (w ∷ []) ls || starts ws ls)
next w ws ls = starts_append (w ∷ []) ws ls

six : (a b c d e f : Want) (ls : List Piece)
    → starts (a ∷ b ∷ c ∷ d ∷ e ∷ f ∷ []) ls
    ≡ (starts (a ∷ []) ls || (starts (b ∷ []) ls || (starts (c ∷ []) ls || (starts (d ∷ []) ls || (starts (e ∷ []) ls || starts (f ∷ []) ls)))))
six a b c d e f ls =
    next a (b ∷ c ∷ d ∷ e ∷ f ∷ []) ls ∙ ap (λ z. starts (a ∷ []) ls || z) (next b (c ∷ d ∷ e ∷ f ∷ []) ls ∙ ap (λ z. starts (b ∷ []) ls || z) (next c (d ∷ e ∷ f ∷ []) ls
    ∙ ap (λ z. starts (c ∷ []) ls || z) (next d (e ∷ f ∷ []) ls ∙ ap (λ z. starts (d ∷ []) ls || z) (next e (f ∷ []) ls))))

pub command_starts : (ls : List Piece)
    → starts (first first_of command_form) ls
    ≡ (starts (Word k.Upper (codes "CreateModel") ∷ []) ls || (starts (Word k.Upper (codes "DeleteModel") ∷ []) ls || (starts (Word k.Upper (codes "AddStatic") ∷ []) ls
    || (starts (Word k.Upper (codes "RemoveStatic") ∷ []) ls || (starts (Word k.Upper (codes "AddPrincipal") ∷ []) ls || starts (Upper ∷ []) ls)))))
unfolding command_form model_command
command_starts ls =
    six (Word k.Upper (codes "CreateModel")) (Word k.Upper (codes "DeleteModel")) (Word k.Upper (codes "AddStatic")) (Word k.Upper (codes "RemoveStatic"))
    (Word k.Upper (codes "AddPrincipal")) Upper ls
