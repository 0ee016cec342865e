-- Function values that read expressions and sets.
use Rattle.std.specs.Prelude.{ℕ, List, Result}
use Rattle.std.specs.declared.alloc.Global.{Global}
use denote.Ref.{MutBor}
use Rattle.text_ast.specs.Pieces.{Piece}
use Rattle.text_tree.specs.declared.exprs.Expr.{Expr}
use Rattle.text_tree.specs.declared.exprs.SetExpr.{SetExpr}
use Rattle.text_tree.specs.ExprGrammar.{Expression, Set, rule}
use Rattle.text_tree.specs.Texts.{first_of}
use Rattle.text_grammar.specs.Reading.{read_part}
use Rattle.text_syntax.specs.declared.stop.Stop.{Stop}
use Rattle.text_syntax.specs.Reads.{Reads}

-- what a function needs that reads an A at a cursor, and what it does
abbrev pub Needs : Type 1
Needs = Global → MutBor (List Piece) → ℕ → Type 0

abbrev pub Does : Type 0 → Type 1
Does A = Global → MutBor (List Piece) → ℕ → Result A Stop → MutBor (List Piece) → Type 0

-- Two function values may be called where parts nest so many levels deep, and read expressions and sets then.
pub record Nests (levels : ℕ) (pre : Needs) (post : Does Expr) (set_pre : Needs) (set_post : Does SetExpr) : Type 0 where
  pub callable : (alloc : Global) (old : MutBor (List Piece)) → pre alloc old levels
  pub reads : (alloc : Global) (old new : MutBor (List Piece)) (r : Result Expr Stop) → post alloc old levels r new
      → Reads (read_part rule first_of levels Expression old.now) r new.now
  pub set_callable : (alloc : Global) (old : MutBor (List Piece)) → set_pre alloc old levels
  pub set_reads : (alloc : Global) (old new : MutBor (List Piece)) (r : Result SetExpr Stop) → set_post alloc old levels r new
      → Reads (read_part rule first_of levels Set old.now) r new.now
