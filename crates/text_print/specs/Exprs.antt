-- The canonical spelling of expressions and sets.
use Rattle.std.specs.Prelude.{ℕ, true, false, ◌==◌, nat_le, if◌then◌else◌, List, [], ◌∷◌, ◌++◌, codes}
use Rattle.text_lexer.specs.declared.token.TokenKind.{TokenKind}
use Rattle.text_lexer.specs.declared.token.TokenKind.TheVariants as k
use Rattle.text_tree.specs.declared.exprs.CmpOp.{CmpOp}
use Rattle.text_tree.specs.declared.exprs.CmpOp.TheVariants.{Eq, Ne, Lt, Le, Gt, Ge}
use Rattle.text_tree.specs.declared.exprs.FilterOp.{FilterOp}
use Rattle.text_tree.specs.declared.exprs.FilterOp.TheVariants as filter
use Rattle.text_tree.specs.declared.exprs.Expr.{Expr}
use Rattle.text_tree.specs.declared.exprs.Expr.TheOpen.{Expr-F, SetExpr-F, Item-F, Filter-F}
use Rattle.text_tree.specs.declared.exprs.Expr.TheFolds.{fold-Expr, fold-SetExpr, fold-Item, fold-Filter}
use Rattle.text_tree.specs.declared.exprs.SetExpr.{SetExpr}
use Rattle.text_tree.specs.declared.exprs.Item.{Item}
use Rattle.text_tree.specs.declared.exprs.Filter.{Filter}
use Rattle.text_print.specs.Marks.{Mark, lower, number, sign, sp, text, upper}

-- How tightly a spelling holds together: where the grammar asks for more, it stands in parentheses.
-- Of expressions: 0 `if` and `match`, 1 `||`, 2 `&&`, 3 comparisons and `in`, 4 `!`, 5 what needs none, 6 paths.
-- Of sets: 0 `if` and `match`, 1 `+` and `-`, 2 what needs none, 3 a path after which `in` needs no braces.
pub record Spelling : Type 0 where
  pub rank : ℕ
  pub marks : List Mark

-- in parentheses, unless it holds together so tightly
abbrev pub at_least : ℕ → Spelling → List Mark
at_least rank s = if nat_le rank s.rank then s.marks else sign k.ParenOpen ∷ (s.marks ++ sign k.ParenClose ∷ [])

-- the set after `in`
abbrev pub container : Spelling → List Mark
container s = if s.rank == 3 then s.marks else sign k.BraceOpen ∷ (s.marks ++ sign k.BraceClose ∷ [])

abbrev pub cmp_sign : CmpOp → TokenKind
cmp_sign Eq = k.EqEq
cmp_sign Ne = k.NotEq
cmp_sign Lt = k.Less
cmp_sign Le = k.LessEq
cmp_sign Gt = k.Greater
cmp_sign Ge = k.GreaterEq

abbrev pub between : TokenKind → List Mark
between kind = sp ∷ sign kind ∷ sp ∷ []

abbrev pub spaced : List ℕ → List Mark
spaced word = sp ∷ lower word ∷ sp ∷ []

-- what stands between a filter's field and its value; equality is a colon
abbrev pub filter_sign : FilterOp → List Mark
filter_sign (filter.Cmp Eq) = sign k.Colon ∷ sp ∷ []
filter_sign (filter.Cmp Ne) = between k.NotEq
filter_sign (filter.Cmp Lt) = between k.Less
filter_sign (filter.Cmp Le) = between k.LessEq
filter_sign (filter.Cmp Gt) = between k.Greater
filter_sign (filter.Cmp Ge) = between k.GreaterEq
filter_sign filter.Has = spaced (codes "has")

-- spellings, each after the marks `before` and then after commas
abbrev pub joined : List Mark → List (List Mark) → List Mark
joined before [] = []
joined before (first ∷ rest) = before ++ (first ++ joined (sign k.Comma ∷ sp ∷ []) rest)

abbrev pub commas : List (List Mark) → List Mark
commas = joined []

-- `if c then a else b`
abbrev pub choice : List Mark → List Mark → List Mark → List Mark
choice c a b =
    lower (codes "if") ∷ sp ∷ (c ++ (spaced (codes "then") ++ (a ++ (spaced (codes "else") ++ b))))

-- what stands between what `match` takes apart and the branch for none, and between the branches
abbrev pub with_none : List Mark
with_none = sp ∷ lower (codes "with") ∷ sp ∷ lower (codes "none") ∷ sp ∷ sign k.Arrow ∷ sp ∷ []

abbrev pub or_some : List Mark
or_some = sp ∷ sign k.Bar ∷ sp ∷ lower (codes "some") ∷ sp ∷ []

abbrev pub cases : List Mark → List Mark → List ℕ → List Mark → List Mark
cases e a x b =
    lower (codes "match") ∷ sp ∷ (e ++ (with_none ++ (a ++ (or_some ++ (lower x ∷ (between k.Arrow ++ b))))))

-- `.map(x -> ..)`, by its word
abbrev pub step : List ℕ → List ℕ → List Mark → List Mark
step word x body =
    sign k.Dot ∷ lower word ∷ sign k.ParenOpen ∷ lower x ∷ (between k.Arrow ++ (body ++ sign k.ParenClose ∷ []))

-- ---- one level, of which the parts are spelled

abbrev pub expr_spelling : Expr-F Spelling (List Mark) Spelling (List Mark) → Spelling
expr_spelling (Expr-F.Flag at true) = record { rank = 5; marks = lower (codes "true") ∷ [] }
expr_spelling (Expr-F.Flag at false) = record { rank = 5; marks = lower (codes "false") ∷ [] }
expr_spelling (Expr-F.Num at value) = record { rank = 5; marks = number value }
expr_spelling (Expr-F.Str at value) = record { rank = 5; marks = text value ∷ [] }
expr_spelling (Expr-F.Var at x) = record { rank = 6; marks = lower x.name ∷ [] }
expr_spelling (Expr-F.NoneLit at) = record { rank = 5; marks = lower (codes "none") ∷ [] }
expr_spelling (Expr-F.SomeLit at e) =
    record { rank = 5; marks = lower (codes "some") ∷ sign k.ParenOpen ∷ (e.marks ++ sign k.ParenClose ∷ []) }
expr_spelling (Expr-F.Get at e field) = record { rank = 6; marks = at_least 6 e ++ sign k.Dot ∷ lower field.name ∷ [] }
expr_spelling (Expr-F.Cmp at op a b) = record { rank = 3; marks = at_least 4 a ++ (between (cmp_sign op) ++ at_least 4 b) }
expr_spelling (Expr-F.Member at e set) = record { rank = 3; marks = at_least 4 e ++ (spaced (codes "in") ++ container set) }
expr_spelling (Expr-F.Not at e) = record { rank = 4; marks = sign k.Not ∷ at_least 5 e }
expr_spelling (Expr-F.And at a b) = record { rank = 2; marks = at_least 2 a ++ (between k.AndAnd ++ at_least 3 b) }
expr_spelling (Expr-F.Or at a b) = record { rank = 1; marks = at_least 1 a ++ (between k.OrOr ++ at_least 2 b) }
expr_spelling (Expr-F.IfE at c a b) = record { rank = 0; marks = choice c.marks a.marks b.marks }
expr_spelling (Expr-F.MatchE at e a (x, b)) = record { rank = 0; marks = cases e.marks a.marks x.name b.marks }

abbrev pub item_spelling : Item-F Spelling (List Mark) Spelling (List Mark) → List Mark
item_spelling (Item-F.Static x) = upper x.name ∷ []
item_spelling (Item-F.One e) = e.marks

abbrev pub filter_spelling : Filter-F Spelling (List Mark) Spelling (List Mark) → List Mark
filter_spelling f = lower f.field.name ∷ (filter_sign f.op ++ f.value.marks)

abbrev pub set_spelling : SetExpr-F Spelling (List Mark) Spelling (List Mark) → Spelling
set_spelling (SetExpr-F.Everyone at word) = record { rank = 2; marks = lower (codes "public") ∷ [] }
set_spelling (SetExpr-F.Nobody at) = record { rank = 2; marks = lower (codes "none") ∷ [] }
set_spelling (SetExpr-F.List at items) =
    record { rank = 2; marks = sign k.BracketOpen ∷ (commas items ++ sign k.BracketClose ∷ []) }
set_spelling (SetExpr-F.Sum at a b) = record { rank = 1; marks = at_least 1 a ++ (between k.Plus ++ at_least 2 b) }
set_spelling (SetExpr-F.Less at a b) = record { rank = 1; marks = at_least 1 a ++ (between k.Minus ++ at_least 2 b) }
set_spelling (SetExpr-F.Find at model filters) = record {
  rank = 2;
  marks =
      upper model.name ∷ sign k.ColonColon ∷ upper (codes "Find") ∷ sign k.ParenOpen ∷ sign k.BraceOpen
      ∷ (commas filters ++ sign k.BraceClose ∷ sign k.ParenClose ∷ []);
}
set_spelling (SetExpr-F.Path at e) = record { rank = 3; marks = at_least 6 e }
set_spelling (SetExpr-F.MapS at of x e) = record { rank = 2; marks = of.marks ++ step (codes "map") x.name e.marks }
set_spelling (SetExpr-F.FlatS at of x set) = record { rank = 2; marks = of.marks ++ step (codes "flat_map") x.name set.marks }
set_spelling (SetExpr-F.IfS at c a b) = record { rank = 0; marks = choice c.marks a.marks b.marks }
set_spelling (SetExpr-F.MatchS at e a x b) = record { rank = 0; marks = cases e.marks a.marks x.name b.marks }

-- ---- whole trees

abbrev pub spelled_expr : Expr → Spelling
spelled_expr = fold-Expr Spelling (List Mark) Spelling (List Mark) expr_spelling item_spelling set_spelling filter_spelling

abbrev pub spelled_set : SetExpr → Spelling
spelled_set = fold-SetExpr Spelling (List Mark) Spelling (List Mark) expr_spelling item_spelling set_spelling filter_spelling

abbrev pub spelled_item : Item → List Mark
spelled_item = fold-Item Spelling (List Mark) Spelling (List Mark) expr_spelling item_spelling set_spelling filter_spelling

abbrev pub spelled_filter : Filter → List Mark
spelled_filter = fold-Filter Spelling (List Mark) Spelling (List Mark) expr_spelling item_spelling set_spelling filter_spelling
