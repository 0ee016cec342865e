-- Lexemes of expressions and sets do not run together.
use Rattle.std.proofs.Common.{◌≡◌, ℕ, ℤ, pos, negsuc, Bool, true, false, eqb, lit<, List, [], ◌∷◌, ◌++◌, map, codes, refl, sym, subst, append_assoc, Some, None}
use Rattle.text_lexer.specs.declared.token.TokenKind.TheVariants as k
use Rattle.text_tree.specs.declared.named.Named.{Named}
use Rattle.text_tree.specs.declared.exprs.CmpOp.TheVariants as op
use Rattle.text_tree.specs.declared.exprs.FilterOp.{FilterOp}
use Rattle.text_tree.specs.declared.exprs.FilterOp.TheVariants as filter
use Rattle.text_tree.specs.declared.exprs.Expr.{Expr, map-Expr, roll-Expr}
use Rattle.text_tree.specs.declared.exprs.SetExpr.{SetExpr, map-SetExpr, roll-SetExpr}
use Rattle.text_tree.specs.declared.exprs.Item.{Item, map-Item, roll-Item}
use Rattle.text_tree.specs.declared.exprs.Filter.{Filter, map-Filter, roll-Filter}
use Rattle.text_tree.specs.declared.exprs.Expr.TheOpen.{Expr-F, SetExpr-F, Item-F, Filter-F}
use Rattle.text_tree.specs.declared.exprs.Expr.TheFolds.{fold-roll-Expr, fold-roll-SetExpr, fold-roll-Item, fold-roll-Filter, ind-Expr, ind-SetExpr}
use Rattle.text_print.specs.Exprs.{Spelling, at_least, between, cmp_sign, commas, container, expr_spelling, filter_spelling, item_spelling, set_spelling, spaced, spelled_expr, spelled_filter, spelled_item, spelled_set, step}
use Rattle.text_print.specs.Marks.{Mark, lower, number, sign, text, upper}
use Rattle.text_print.proofs.Neat.{AllCalm, Calm, Neat, Tails, calm_cases, calm_choice, calm_least, calm_open, calm_then, calm_word, commas_neat, ends_fit, tails_between, tails_field, tails_sign, tails_step}

abbrev pub CalmExpr : Expr → Type 0
CalmExpr x = Calm (spelled_expr x).marks

abbrev pub CalmItem : Item → Type 0
CalmItem x = Calm (spelled_item x)

abbrev pub CalmSet : SetExpr → Type 0
CalmSet x = Calm (spelled_set x).marks

abbrev pub CalmFilter : Filter → Type 0
CalmFilter x = Calm (spelled_filter x)

abbrev SureExpr : Type 0
SureExpr = (x : Expr) × CalmExpr x

abbrev SureItem : Type 0
SureItem = (x : Item) × CalmItem x

abbrev SureSet : Type 0
SureSet = (x : SetExpr) × CalmSet x

abbrev SureFilter : Type 0
SureFilter = (x : Filter) × CalmFilter x

all_items : (xs : List SureItem) → AllCalm (map spelled_item (map (λ e. e.0) xs))
all_items [] = tt
all_items (x ∷ xs) = (x.1, all_items xs)

all_filters : (xs : List SureFilter) → AllCalm (map spelled_filter (map (λ e. e.0) xs))
all_filters [] = tt
all_filters (x ∷ xs) = (x.1, all_filters xs)

calm_number : (v : ℤ) → Calm (number v)
calm_number (pos n) before rest opens closed = (opens k.Number refl, closed k.Number refl)
calm_number (negsuc n) before rest opens closed = (opens k.Minus refl, (refl, closed k.Number refl))

calm_text : (t : List ℕ) → Calm (text t ∷ [])
calm_text t before rest opens closed = (opens k.Text refl, closed k.Text refl)

calm_upper : (x : List ℕ) → Calm (upper x ∷ [])
calm_upper x before rest opens closed = (opens k.Upper refl, closed k.Upper refl)

calm_some : (a : List Mark) → Calm a → Calm (expr_spelling (Expr-F.SomeLit 0 (record { rank = 0; marks = a }))).marks
calm_some a h before rest opens closed =
    (opens k.Lower refl, (refl, calm_then a (sign k.ParenClose ∷ []) h (tails_sign k.ParenClose refl refl) (Some k.ParenOpen) rest (λ n e. refl) closed))

tails_in : (s : Spelling) → Calm s.marks → Tails (spaced (codes "in") ++ container s)
tails_in s h rest closed m e = elim (eqb s.rank 3) as (λ (t : Bool). eqb s.rank 3 ≡ t → Neat (Some m) ((spaced (codes "in") ++ container s) ++ rest)) [
  | true ↦ λ is. (let same : container s ≡ s.marks = rw is refl in
      subst (λ z. Neat (Some m) ((spaced (codes "in") ++ z) ++ rest)) (sym same) (refl, lit< tt, (refl, (refl, lit< tt, h None rest (λ n e. refl) closed))))
  | false ↦ λ is. (let same : container s ≡ sign k.BraceOpen ∷ (s.marks ++ sign k.BraceClose ∷ []) = rw is refl in
      subst (λ z. Neat (Some m) ((spaced (codes "in") ++ z) ++ rest)) (sym same) (
        refl,
        lit< tt,
        (
          refl,
          (
            refl,
            lit< tt,
            (refl, calm_then s.marks (sign k.BraceClose ∷ []) h (tails_sign k.BraceClose refl refl) (Some k.BraceOpen) rest (λ n e. refl) closed),
          ),
        ),
      ))
] refl

calm_list : (ms : List (List Mark)) → AllCalm ms → Calm (sign k.BracketOpen ∷ (commas ms ++ sign k.BracketClose ∷ []))
calm_list ms all before rest opens closed = (
  opens k.BracketOpen refl,
  subst (Neat (Some k.BracketOpen)) (sym (append_assoc (commas ms) (sign k.BracketClose ∷ []) rest))
      (commas_neat ms all (Some k.BracketOpen) (sign k.BracketClose ∷ rest) (λ n e. refl) (tails_sign k.BracketClose refl refl rest closed) (refl, closed k.BracketClose refl)),
)

calm_find : (x : Named) (ms : List (List Mark)) → AllCalm ms
    → Calm (upper x.name ∷ sign k.ColonColon ∷ upper (codes "Find") ∷ sign k.ParenOpen ∷ sign k.BraceOpen ∷ (commas ms ++ sign k.BraceClose ∷ sign k.ParenClose ∷ []))
calm_find x ms all before rest opens closed = (
  opens k.Upper refl,
  (
    refl,
    (
      refl,
      (
        refl,
        (
          refl,
          subst (Neat (Some k.BraceOpen)) (sym (append_assoc (commas ms) (sign k.BraceClose ∷ sign k.ParenClose ∷ []) rest))
              (commas_neat ms all (Some k.BraceOpen) (sign k.BraceClose ∷ sign k.ParenClose ∷ rest) (λ n e. refl)
              (λ n e. (ends_fit n k.BraceClose e refl, (refl, closed k.ParenClose refl))) (refl, (refl, closed k.ParenClose refl))),
        ),
      ),
    ),
  ),
)

calm_filter : (x : List ℕ) (o : FilterOp) (a : List Mark) → Calm a → Calm (filter_spelling (record { field = record { name = x; at = 0 }; op = o; value = record { rank = 0; marks = a } }))
calm_filter x (filter.Cmp op.Eq) a h before rest opens closed = (opens k.Lower refl, (refl, (refl, lit< tt, h None rest (λ n e. refl) closed)))
calm_filter x (filter.Cmp op.Ne) a h before rest opens closed = (opens k.Lower refl, (refl, lit< tt, (refl, (refl, lit< tt, h None rest (λ n e. refl) closed))))
calm_filter x (filter.Cmp op.Lt) a h before rest opens closed = (opens k.Lower refl, (refl, lit< tt, (refl, (refl, lit< tt, h None rest (λ n e. refl) closed))))
calm_filter x (filter.Cmp op.Le) a h before rest opens closed = (opens k.Lower refl, (refl, lit< tt, (refl, (refl, lit< tt, h None rest (λ n e. refl) closed))))
calm_filter x (filter.Cmp op.Gt) a h before rest opens closed = (opens k.Lower refl, (refl, lit< tt, (refl, (refl, lit< tt, h None rest (λ n e. refl) closed))))
calm_filter x (filter.Cmp op.Ge) a h before rest opens closed = (opens k.Lower refl, (refl, lit< tt, (refl, (refl, lit< tt, h None rest (λ n e. refl) closed))))
calm_filter x filter.Has a h before rest opens closed = (opens k.Lower refl, (refl, lit< tt, (refl, (refl, lit< tt, h None rest (λ n e. refl) closed))))

expr_step : (y : Expr-F SureExpr SureItem SureSet SureFilter)
    → CalmExpr (roll-Expr (map-Expr SureExpr SureItem SureSet SureFilter Expr Item SetExpr Filter (λ e. e.0) (λ e. e.0) (λ e. e.0) (λ e. e.0) y))
expr_step (Expr-F.Flag at true) = subst (λ z. Calm z.marks) (sym (fold-roll-Expr Spelling (List Mark) Spelling (List Mark) expr_spelling item_spelling set_spelling filter_spelling (Expr-F.Flag at true))) (calm_word (codes "true"))
expr_step (Expr-F.Flag at false) = subst (λ z. Calm z.marks) (sym (fold-roll-Expr Spelling (List Mark) Spelling (List Mark) expr_spelling item_spelling set_spelling filter_spelling (Expr-F.Flag at false))) (calm_word (codes "false"))
expr_step (Expr-F.Num at v) =
    subst (λ z. Calm z.marks) (sym (fold-roll-Expr Spelling (List Mark) Spelling (List Mark) expr_spelling item_spelling set_spelling filter_spelling (Expr-F.Num at v))) (calm_number v)
expr_step (Expr-F.Str at txt) =
    subst (λ z. Calm z.marks) (sym (fold-roll-Expr Spelling (List Mark) Spelling (List Mark) expr_spelling item_spelling set_spelling filter_spelling (Expr-F.Str at txt))) (calm_text txt)
expr_step (Expr-F.Var at x) =
    subst (λ z. Calm z.marks) (sym (fold-roll-Expr Spelling (List Mark) Spelling (List Mark) expr_spelling item_spelling set_spelling filter_spelling (Expr-F.Var at x))) (calm_word x.name)
expr_step (Expr-F.NoneLit at) =
    subst (λ z. Calm z.marks) (sym (fold-roll-Expr Spelling (List Mark) Spelling (List Mark) expr_spelling item_spelling set_spelling filter_spelling (Expr-F.NoneLit at))) (calm_word (codes "none"))
expr_step (Expr-F.SomeLit at a) =
    subst (λ z. Calm z.marks) (sym (fold-roll-Expr Spelling (List Mark) Spelling (List Mark) expr_spelling item_spelling set_spelling filter_spelling (Expr-F.SomeLit at a.0))) (calm_some (spelled_expr a.0).marks a.1)
expr_step (Expr-F.Get at a f) =
    subst (λ z. Calm z.marks) (sym (fold-roll-Expr Spelling (List Mark) Spelling (List Mark) expr_spelling item_spelling set_spelling filter_spelling (Expr-F.Get at a.0 f))) (calm_then (at_least 6 (spelled_expr a.0)) (sign k.Dot ∷ lower f.name ∷ []) (calm_least 6 (spelled_expr a.0) a.1) (tails_field f.name))
expr_step (Expr-F.Cmp at op a b) =
    subst (λ z. Calm z.marks) (sym (fold-roll-Expr Spelling (List Mark) Spelling (List Mark) expr_spelling item_spelling set_spelling filter_spelling (Expr-F.Cmp at op a.0 b.0))) (calm_then (at_least 4 (spelled_expr a.0)) (between (cmp_sign op) ++ (at_least 4 (spelled_expr b.0))) (calm_least 4 (spelled_expr a.0) a.1) (tails_between (cmp_sign op) (at_least 4 (spelled_expr b.0)) (calm_least 4 (spelled_expr b.0) b.1)))
expr_step (Expr-F.Member at a t) =
    subst (λ z. Calm z.marks) (sym (fold-roll-Expr Spelling (List Mark) Spelling (List Mark) expr_spelling item_spelling set_spelling filter_spelling (Expr-F.Member at a.0 t.0))) (calm_then (at_least 4 (spelled_expr a.0)) (spaced (codes "in") ++ container (spelled_set t.0)) (calm_least 4 (spelled_expr a.0) a.1) (tails_in (spelled_set t.0) t.1))
expr_step (Expr-F.Not at a) =
    subst (λ z. Calm z.marks) (sym (fold-roll-Expr Spelling (List Mark) Spelling (List Mark) expr_spelling item_spelling set_spelling filter_spelling (Expr-F.Not at a.0))) (calm_open k.Not (at_least 5 (spelled_expr a.0)) refl (λ n e. e) (calm_least 5 (spelled_expr a.0) a.1))
expr_step (Expr-F.And at a b) =
    subst (λ z. Calm z.marks) (sym (fold-roll-Expr Spelling (List Mark) Spelling (List Mark) expr_spelling item_spelling set_spelling filter_spelling (Expr-F.And at a.0 b.0))) (calm_then (at_least 2 (spelled_expr a.0)) (between k.AndAnd ++ (at_least 3 (spelled_expr b.0))) (calm_least 2 (spelled_expr a.0) a.1) (tails_between k.AndAnd (at_least 3 (spelled_expr b.0)) (calm_least 3 (spelled_expr b.0) b.1)))
expr_step (Expr-F.Or at a b) =
    subst (λ z. Calm z.marks) (sym (fold-roll-Expr Spelling (List Mark) Spelling (List Mark) expr_spelling item_spelling set_spelling filter_spelling (Expr-F.Or at a.0 b.0))) (calm_then (at_least 1 (spelled_expr a.0)) (between k.OrOr ++ (at_least 2 (spelled_expr b.0))) (calm_least 1 (spelled_expr a.0) a.1) (tails_between k.OrOr (at_least 2 (spelled_expr b.0)) (calm_least 2 (spelled_expr b.0) b.1)))
expr_step (Expr-F.IfE at a b d) =
    subst (λ z. Calm z.marks) (sym (fold-roll-Expr Spelling (List Mark) Spelling (List Mark) expr_spelling item_spelling set_spelling filter_spelling (Expr-F.IfE at a.0 b.0 d.0))) (calm_choice (spelled_expr a.0).marks (spelled_expr b.0).marks (spelled_expr d.0).marks a.1 b.1 d.1)
expr_step (Expr-F.MatchE at a b (x, d)) =
    subst (λ z. Calm z.marks) (sym (fold-roll-Expr Spelling (List Mark) Spelling (List Mark) expr_spelling item_spelling set_spelling filter_spelling (Expr-F.MatchE at a.0 b.0 (x, d.0)))) (calm_cases (spelled_expr a.0).marks (spelled_expr b.0).marks x.name (spelled_expr d.0).marks a.1 b.1 d.1)

set_step : (y : SetExpr-F SureExpr SureItem SureSet SureFilter)
    → CalmSet (roll-SetExpr (map-SetExpr SureExpr SureItem SureSet SureFilter Expr Item SetExpr Filter (λ e. e.0) (λ e. e.0) (λ e. e.0) (λ e. e.0) y))
set_step (SetExpr-F.Everyone at w) =
    subst (λ z. Calm z.marks) (sym (fold-roll-SetExpr Spelling (List Mark) Spelling (List Mark) expr_spelling item_spelling set_spelling filter_spelling (SetExpr-F.Everyone at w))) (calm_word (codes "public"))
set_step (SetExpr-F.Nobody at) =
    subst (λ z. Calm z.marks) (sym (fold-roll-SetExpr Spelling (List Mark) Spelling (List Mark) expr_spelling item_spelling set_spelling filter_spelling (SetExpr-F.Nobody at))) (calm_word (codes "none"))
set_step (SetExpr-F.List at xs) =
    subst (λ z. Calm z.marks) (sym (fold-roll-SetExpr Spelling (List Mark) Spelling (List Mark) expr_spelling item_spelling set_spelling filter_spelling (SetExpr-F.List at (map (λ e. e.0) xs)))) (calm_list (map spelled_item (map (λ e. e.0) xs)) (all_items xs))
set_step (SetExpr-F.Sum at t u) =
    subst (λ z. Calm z.marks) (sym (fold-roll-SetExpr Spelling (List Mark) Spelling (List Mark) expr_spelling item_spelling set_spelling filter_spelling (SetExpr-F.Sum at t.0 u.0))) (calm_then (at_least 1 (spelled_set t.0)) (between k.Plus ++ (at_least 2 (spelled_set u.0))) (calm_least 1 (spelled_set t.0) t.1) (tails_between k.Plus (at_least 2 (spelled_set u.0)) (calm_least 2 (spelled_set u.0) u.1)))
set_step (SetExpr-F.Less at t u) =
    subst (λ z. Calm z.marks) (sym (fold-roll-SetExpr Spelling (List Mark) Spelling (List Mark) expr_spelling item_spelling set_spelling filter_spelling (SetExpr-F.Less at t.0 u.0))) (calm_then (at_least 1 (spelled_set t.0)) (between k.Minus ++ (at_least 2 (spelled_set u.0))) (calm_least 1 (spelled_set t.0) t.1) (tails_between k.Minus (at_least 2 (spelled_set u.0)) (calm_least 2 (spelled_set u.0) u.1)))
set_step (SetExpr-F.Find at x fs) =
    subst (λ z. Calm z.marks) (sym (fold-roll-SetExpr Spelling (List Mark) Spelling (List Mark) expr_spelling item_spelling set_spelling filter_spelling (SetExpr-F.Find at x (map (λ e. e.0) fs)))) (calm_find x (map spelled_filter (map (λ e. e.0) fs)) (all_filters fs))
set_step (SetExpr-F.Path at a) =
    subst (λ z. Calm z.marks) (sym (fold-roll-SetExpr Spelling (List Mark) Spelling (List Mark) expr_spelling item_spelling set_spelling filter_spelling (SetExpr-F.Path at a.0))) (calm_least 6 (spelled_expr a.0) a.1)
set_step (SetExpr-F.MapS at t x a) =
    subst (λ z. Calm z.marks) (sym (fold-roll-SetExpr Spelling (List Mark) Spelling (List Mark) expr_spelling item_spelling set_spelling filter_spelling (SetExpr-F.MapS at t.0 x a.0))) (calm_then (spelled_set t.0).marks (step (codes "map") x.name (spelled_expr a.0).marks) t.1 (tails_step (codes "map") x.name (spelled_expr a.0).marks a.1))
set_step (SetExpr-F.FlatS at t x u) =
    subst (λ z. Calm z.marks) (sym (fold-roll-SetExpr Spelling (List Mark) Spelling (List Mark) expr_spelling item_spelling set_spelling filter_spelling (SetExpr-F.FlatS at t.0 x u.0))) (calm_then (spelled_set t.0).marks (step (codes "flat_map") x.name (spelled_set u.0).marks) t.1 (tails_step (codes "flat_map") x.name (spelled_set u.0).marks u.1))
set_step (SetExpr-F.IfS at a t u) =
    subst (λ z. Calm z.marks) (sym (fold-roll-SetExpr Spelling (List Mark) Spelling (List Mark) expr_spelling item_spelling set_spelling filter_spelling (SetExpr-F.IfS at a.0 t.0 u.0))) (calm_choice (spelled_expr a.0).marks (spelled_set t.0).marks (spelled_set u.0).marks a.1 t.1 u.1)
set_step (SetExpr-F.MatchS at a t x u) =
    subst (λ z. Calm z.marks) (sym (fold-roll-SetExpr Spelling (List Mark) Spelling (List Mark) expr_spelling item_spelling set_spelling filter_spelling (SetExpr-F.MatchS at a.0 t.0 x u.0))) (calm_cases (spelled_expr a.0).marks (spelled_set t.0).marks x.name (spelled_set u.0).marks a.1 t.1 u.1)

item_step : (y : Item-F SureExpr SureItem SureSet SureFilter)
    → CalmItem (roll-Item (map-Item SureExpr SureItem SureSet SureFilter Expr Item SetExpr Filter (λ e. e.0) (λ e. e.0) (λ e. e.0) (λ e. e.0) y))
item_step (Item-F.Static x) = subst Calm (sym (fold-roll-Item Spelling (List Mark) Spelling (List Mark) expr_spelling item_spelling set_spelling filter_spelling (Item-F.Static x))) (calm_upper x.name)
item_step (Item-F.One a) = subst Calm (sym (fold-roll-Item Spelling (List Mark) Spelling (List Mark) expr_spelling item_spelling set_spelling filter_spelling (Item-F.One a.0))) a.1

filter_step : (y : Filter-F SureExpr SureItem SureSet SureFilter)
    → CalmFilter (roll-Filter (map-Filter SureExpr SureItem SureSet SureFilter Expr Item SetExpr Filter (λ e. e.0) (λ e. e.0) (λ e. e.0) (λ e. e.0) y))
filter_step y =
    subst Calm (sym (fold-roll-Filter Spelling (List Mark) Spelling (List Mark) expr_spelling item_spelling set_spelling filter_spelling (record { field = y.field; op = y.op; value = y.value.0 })))
    (calm_filter y.field.name y.op (spelled_expr y.value.0).marks y.value.1)

pub calm_expr : (x : Expr) → CalmExpr x
calm_expr =
    ind-Expr CalmExpr CalmItem CalmSet CalmFilter (λ x y is. subst (λ z. CalmExpr (roll-Expr z)) is (expr_step y)) (λ x y is. subst (λ z. CalmItem (roll-Item z)) is (item_step y))
    (λ x y is. subst (λ z. CalmSet (roll-SetExpr z)) is (set_step y)) (λ x y is. subst (λ z. CalmFilter (roll-Filter z)) is (filter_step y))

pub calm_set : (x : SetExpr) → CalmSet x
calm_set =
    ind-SetExpr CalmExpr CalmItem CalmSet CalmFilter (λ x y is. subst (λ z. CalmExpr (roll-Expr z)) is (expr_step y)) (λ x y is. subst (λ z. CalmItem (roll-Item z)) is (item_step y))
    (λ x y is. subst (λ z. CalmSet (roll-SetExpr z)) is (set_step y)) (λ x y is. subst (λ z. CalmFilter (roll-Filter z)) is (filter_step y))
