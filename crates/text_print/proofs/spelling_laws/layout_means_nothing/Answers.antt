use Rattle.std.proofs.Common.{◌≡◌, ℕ, List, subst, sym}
use Rattle.text_lexer.proofs.TokenLists.{one_list}
use Rattle.text_ast.specs.Pieces.{pieces_of}
use Rattle.text_tree.specs.ExprGrammar.{G, rule}
use Rattle.text_tree.specs.Grammar.{most_levels, policy_form, script_form, spec_form}
use Rattle.text_tree.specs.Levels.{SpellsPart}
use Rattle.text_tree.specs.Stripped.{stripped_policy, stripped_script, stripped_spec}
use Rattle.text_tree.specs.Texts.{IsSpelled, IsTextOf}
use Rattle.text_print.specs.Reprinted.{HaveSameTokens, IsPrinted}
use Rattle.text_print.proofs.Elsewhere.{Steady, as_lexemes}
use Rattle.text_print.proofs.ElsewhereExprs.{parts}
use Rattle.text_print.proofs.ElsewhereTexts.{policy_steady, script_steady, spec_steady}
use Rattle.text_print.proofs.spelling_laws.layout_means_nothing.Goals as goal

in_other : {A : Type 0} (f : G A) (stripped : A → A) → Steady (SpellsPart rule most_levels) f (λ x y. stripped y ≡ stripped x)
    → (text other : List ℕ) (x : A) → HaveSameTokens text other → IsTextOf f text x → IsPrinted f stripped x other
in_other {A} f stripped steady text other x h (tokens, lexed, spelled) =
    let one : tokens ≡ h.tokens = one_list text tokens h.tokens lexed h.lexed in
    let there : IsSpelled f x (pieces_of text h.tokens) = subst (λ z. IsSpelled f x (pieces_of text z)) one spelled in
    let r = steady.tight.go x (pieces_of text h.tokens) (pieces_of other h.others)
    (as_lexemes (pieces_of other h.others) (pieces_of text h.tokens) (sym h.same)) there in
    record { tree = r.value; spells = (h.others, h.lexed_too, r.spells); same = r.is }

pub returns-clause-policies : goal.returns-clause-policies
returns-clause-policies c = in_other policy_form stripped_policy (policy_steady (parts most_levels))

pub returns-clause-specifications : goal.returns-clause-specifications
returns-clause-specifications c = in_other spec_form stripped_spec (spec_steady (parts most_levels))

pub returns-clause-scripts : goal.returns-clause-scripts
returns-clause-scripts c = in_other script_form stripped_script (script_steady (parts most_levels))
