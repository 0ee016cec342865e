-- The two chains of sets.
use Rattle.std.proofs.Common.{ℕ, [], ◌∷◌}
use Rattle.text_ast.specs.Pieces.{Piece}
use Rattle.text_lexer.specs.declared.token.TokenKind.TheVariants as k
use Rattle.text_tree.specs.declared.exprs.Expr.{Expr}
use Rattle.text_tree.specs.declared.exprs.SetExpr.{SetExpr}
use Rattle.text_tree.specs.declared.exprs.SetExpr.TheVariants as s
use Rattle.text_tree.specs.Forms.{Lower, Sign, first, nothing, token}
use Rattle.text_tree.specs.ExprGrammar.{flat_step, get, map_step, path_steps, step}
use Rattle.text_tree.specs.Texts.{first_of}
use Rattle.text_syntax.specs.Reads.{reading}
use Rattle.text_syntax.proofs.Chaining.{Chain}

abbrev pub step_chain : ℕ → Chain SetExpr (SetExpr → SetExpr) (SetExpr → SetExpr) SetExpr
step_chain levels = record {
  op = step;
  finish = step;
  behind = Sign k.Dot;
  wants = first first_of map_step;
  element = reading levels map_step;
  last = reading levels flat_step;
  other = reading levels (nothing (λ of. of));
}

-- of a variable at an offset
abbrev pub field_chain : ℕ → ℕ → Chain Expr Piece (SetExpr → SetExpr) SetExpr
field_chain levels at = record {
  op = get;
  finish = λ x make. make (s.Path at x);
  behind = Sign k.Dot;
  wants = Lower ∷ [];
  element = reading levels (token Lower);
  last = reading levels path_steps;
  other = reading levels (nothing (λ of. of));
}
