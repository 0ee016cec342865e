-- The type of an expression and of a set, or the first fault: the first part, from the left, that breaks a rule.
use Rattle.std.specs.Prelude.{ℕ, List, Option, Some, None, Ok, Err, map}
use Rattle.text_tree.specs.declared.exprs.Expr.{Expr}
use Rattle.text_tree.specs.declared.exprs.Expr.TheOpen.{Expr-F, SetExpr-F, Item-F, Filter-F}
use Rattle.text_tree.specs.declared.exprs.Expr.TheFolds.{fold-Expr, fold-SetExpr, fold-Item, fold-Filter}
use Rattle.text_tree.specs.declared.exprs.SetExpr.{SetExpr}
use Rattle.text_tree.specs.declared.exprs.Item.{Item}
use Rattle.text_tree.specs.declared.exprs.Filter.{Filter}
use Rattle.type_schema.specs.declared.types.TBase.TheVariants as base
use Rattle.type_schema.specs.declared.types.TTy.{TTy}
use Rattle.type_schema.specs.declared.types.TTy.TheVariants.{Plain, Opt}
use Rattle.type_schema.specs.declared.trees.TExpr.TheVariants as t
use Rattle.type_schema.specs.declared.trees.TSet.{TSet}
use Rattle.type_schema.specs.declared.trees.TSet.TheVariants as ts
use Rattle.type_schema.specs.declared.trees.TItem.{TItem}
use Rattle.type_schema.specs.declared.trees.TItem.TheVariants as ti
use Rattle.type_schema.specs.declared.trees.TFilter.{TFilter}
use Rattle.type_schema.specs.declared.trees.TFilter.TheVariants as tf
use Rattle.type_schema.specs.Schema.{Schema}
use Rattle.type_typing.specs.declared.asked.Content.{Content}
use Rattle.type_typing.specs.declared.asked.Content.TheVariants.{Records}
use Rattle.type_typing.specs.declared.asked.Source.{Source}
use Rattle.type_typing.specs.declared.asked.Typed.{Typed}
use Rattle.type_typing.specs.declared.vars.Var.{Var}
use Rattle.type_typing.specs.declared.type_err.TypeErr.TheVariants.{Unknown, WrongType}
use Rattle.type_typing.specs.Names.{field_named, model_named, static_named, var_named}
use Rattle.type_typing.specs.Asked.{among_principals, base_of, field_of_record, fits, id_asked, id_of, inner_asked, may_hold, none_of, option_of, of_type, set_of_ids, source, truth, under}
use Rattle.type_typing.specs.Compared.{compared, left_asked, tested}
use Rattle.type_typing.specs.Outcome.{Checked, ◌>>=◌, all_checked, or_else}

-- An expression as typing sees it: what it is for these variables where its place asks this type, or none.
abbrev pub ExprTyping : Type 0
ExprTyping = List Var → Option TTy → Checked Typed

-- A set as typing sees it: what it is as the source of a `map`, and what it is where this content is asked.
pub record SetTyping : Type 0 where
  pub source : List Var → Checked Source
  pub type : List Var → Content → Checked TSet

abbrev pub ItemTyping : Type 0
ItemTyping = List Var → Content → Checked TItem

-- a filter on the records of the model of this number
abbrev pub FilterTyping : Type 0
FilterTyping = List Var → ℕ → Checked TFilter

abbrev pub bool : Option TTy
bool = Some (Plain base.Bool)

module _ (s : Schema) where
  -- ---- one level of an expression, of which the parts are typed

  abbrev pub expr_layer : Expr-F ExprTyping ItemTyping SetTyping FilterTyping → ExprTyping
  expr_layer (Expr-F.Flag at value) vars asked = fits (truth at (t.Flag value)) asked
  expr_layer (Expr-F.Num at value) vars asked = fits (of_type at (Plain base.Int) (t.Num value)) asked
  expr_layer (Expr-F.Str at text) vars asked = fits (of_type at (Plain base.Text) (t.Str text)) asked
  expr_layer (Expr-F.Var at x) vars asked =
      or_else (var_named vars x.name) (Unknown x.at) >>= (λ var. fits (of_type at var.1 (t.Var var.0 x.name)) asked)
  expr_layer (Expr-F.NoneLit at) vars asked = none_of asked at
  expr_layer (Expr-F.SomeLit at e) vars asked = do
    inner ← e vars (inner_asked asked)
    b ← base_of inner.ty inner.at
    fits (of_type at (Opt b) (t.SomeLit inner.tree)) asked
  expr_layer (Expr-F.Get at e f) vars asked = do
    of ← e vars None
    field ← field_of_record s of.ty of.at f
    fits (of_type at field.2 (t.Get of.tree field.0 field.1)) asked
  expr_layer (Expr-F.Cmp at op a b) vars asked = do
    left ← a vars (left_asked op)
    by ← base_of left.ty left.at
    right ← b vars (Some left.ty)
    fits (truth at (compared op by left.tree right.tree)) asked
  expr_layer (Expr-F.Member at e set) vars asked = do
    of ← e vars None
    m ← id_of of.ty of.at
    all ← set.type vars (Records m)
    fits (truth at (t.Member of.tree m all)) asked
  expr_layer (Expr-F.Not at e) vars asked = do
    inner ← e vars bool
    fits (truth at (t.Not inner.tree)) asked
  expr_layer (Expr-F.And at a b) vars asked = do
    left ← a vars bool
    right ← b vars bool
    fits (truth at (t.And left.tree right.tree)) asked
  expr_layer (Expr-F.Or at a b) vars asked = do
    left ← a vars bool
    right ← b vars bool
    fits (truth at (t.Or left.tree right.tree)) asked
  expr_layer (Expr-F.IfE at c a b) vars asked = do
    test ← c vars bool
    one ← a vars asked
    other ← b vars (Some one.ty)
    Ok (of_type at one.ty (t.IfE test.tree one.tree other.tree))
  expr_layer (Expr-F.MatchE at e a (x, b)) vars asked = do
    of ← e vars None
    inside ← option_of of.ty of.at
    none ← a vars asked
    inner ← under vars x (Plain inside)
    some ← b inner (Some none.ty)
    Ok (of_type at none.ty (t.MatchE of.tree none.tree x.name some.tree))

  -- ---- one level of an item, of a filter, and of a set

  abbrev pub item_layer : Item-F ExprTyping ItemTyping SetTyping FilterTyping → ItemTyping
  item_layer (Item-F.Static x) vars content = do
    _ ← among_principals content x.at
    n ← or_else (static_named s x.name) (Unknown x.at)
    Ok (ti.Static n)
  item_layer (Item-F.One e) vars content = do
    of ← e vars (id_asked content)
    m ← id_of of.ty of.at
    _ ← may_hold s content m of.at
    Ok (ti.One m of.tree)

  -- The value of a filter does not see the record that is sought.
  abbrev pub filter_layer : Filter-F ExprTyping ItemTyping SetTyping FilterTyping → FilterTyping
  filter_layer f vars m = do
    field ← or_else (field_named s m f.field.name) (Unknown f.field.at)
    asked ← tested f.op field.1 f.field.at
    value ← f.value vars (Some asked)
    Ok (tf.Test field.0 f.op value.tree)

  -- What `map` and `flat_map` may go over: records of one model. A chain is placed at its first token, inside its parentheses. Nothing else is spelled before them.
  abbrev pub source_layer : SetExpr-F ExprTyping ItemTyping SetTyping FilterTyping → List Var → Checked Source
  source_layer (SetExpr-F.Everyone at word) vars = Err (WrongType at)
  source_layer (SetExpr-F.Nobody at) vars = Err (WrongType at)
  source_layer (SetExpr-F.List at items) vars = Err (WrongType at)
  source_layer (SetExpr-F.Sum at a b) vars = Err (WrongType at)
  source_layer (SetExpr-F.Less at a b) vars = Err (WrongType at)
  source_layer (SetExpr-F.Find at model filters) vars = do
    m ← or_else (model_named s model.name) (Unknown model.at)
    tests ← all_checked (map (λ (f : FilterTyping). f vars m) filters)
    Ok (source model.at m (ts.Find m tests))
  source_layer (SetExpr-F.Path at e) vars = do
    of ← e vars None
    m ← set_of_ids of.ty of.at
    Ok (source of.at m (ts.Path m of.tree))
  source_layer (SetExpr-F.MapS at of x e) vars = do
    over ← of.source vars
    inner ← under vars x (Plain (base.Id over.model))
    each ← e inner None
    m ← id_of each.ty each.at
    Ok (source over.at m (ts.MapS over.set over.model x.name m each.tree))
  source_layer (SetExpr-F.FlatS at of x set) vars = Err (WrongType at)
  source_layer (SetExpr-F.IfS at c a b) vars = Err (WrongType at)
  source_layer (SetExpr-F.MatchS at e a x b) vars = Err (WrongType at)

  -- a chain that holds records of one model, where this content is asked
  abbrev pub chain : Checked Source → Content → Checked TSet
  chain source content = source >>= (λ of. may_hold s content of.model of.at >>= (λ _. Ok of.set))

  abbrev pub content_layer : SetExpr-F ExprTyping ItemTyping SetTyping FilterTyping → List Var → Content → Checked TSet
  content_layer (SetExpr-F.Everyone at word) vars content = among_principals content word >>= (λ _. Ok ts.Everyone)
  content_layer (SetExpr-F.Nobody at) vars content = Ok ts.Nobody
  content_layer (SetExpr-F.List at items) vars content =
      all_checked (map (λ (item : ItemTyping). item vars content) items) >>= (λ all. Ok (ts.List all))
  content_layer (SetExpr-F.Sum at a b) vars content = do
    left ← a.type vars content
    right ← b.type vars content
    Ok (ts.Sum left right)
  content_layer (SetExpr-F.Less at a b) vars content = do
    left ← a.type vars content
    right ← b.type vars content
    Ok (ts.Less left right)
  content_layer (SetExpr-F.Find at model filters) vars content =
      chain (source_layer (SetExpr-F.Find at model filters) vars) content
  content_layer (SetExpr-F.Path at e) vars content = chain (source_layer (SetExpr-F.Path at e) vars) content
  content_layer (SetExpr-F.MapS at of x e) vars content = chain (source_layer (SetExpr-F.MapS at of x e) vars) content
  content_layer (SetExpr-F.FlatS at of x set) vars content = do
    over ← of.source vars
    inner ← under vars x (Plain (base.Id over.model))
    each ← set.type inner content
    Ok (ts.FlatS over.set over.model x.name each)
  content_layer (SetExpr-F.IfS at c a b) vars content = do
    test ← c vars bool
    one ← a.type vars content
    other ← b.type vars content
    Ok (ts.IfS test.tree one other)
  content_layer (SetExpr-F.MatchS at e a x b) vars content = do
    of ← e vars None
    inside ← option_of of.ty of.at
    none ← a.type vars content
    inner ← under vars x (Plain inside)
    some ← b.type inner content
    Ok (ts.MatchS of.tree none x.name some)

  abbrev pub set_layer : SetExpr-F ExprTyping ItemTyping SetTyping FilterTyping → SetTyping
  set_layer layer = record { source = source_layer layer; type = content_layer layer }

  -- ---- whole trees

  abbrev pub expr_typing : Expr → ExprTyping
  expr_typing = fold-Expr ExprTyping ItemTyping SetTyping FilterTyping expr_layer item_layer set_layer filter_layer

  abbrev pub set_typing : SetExpr → SetTyping
  set_typing = fold-SetExpr ExprTyping ItemTyping SetTyping FilterTyping expr_layer item_layer set_layer filter_layer

  abbrev pub item_typing : Item → ItemTyping
  item_typing = fold-Item ExprTyping ItemTyping SetTyping FilterTyping expr_layer item_layer set_layer filter_layer

  abbrev pub filter_typing : Filter → FilterTyping
  filter_typing = fold-Filter ExprTyping ItemTyping SetTyping FilterTyping expr_layer item_layer set_layer filter_layer

  -- the expression where this type is asked, or none, and the set where this content is
  unfoldable pub typed_expr : List Var → Option TTy → Expr → Checked Typed
  typed_expr vars asked e = expr_typing e vars asked

  unfoldable pub typed_set : List Var → Content → SetExpr → Checked TSet
  typed_set vars content set = (set_typing set).type vars content

  -- the set that `map` or `flat_map` goes over
  unfoldable pub typed_source : List Var → SetExpr → Checked Source
  typed_source vars set = (set_typing set).source vars

  -- the items of a list where this content is asked, and the filters on records of a model
  unfoldable pub typed_item : List Var → Content → Item → Checked TItem
  typed_item vars content item = item_typing item vars content

  abbrev pub typed_items : List Var → Content → List Item → Checked (List TItem)
  typed_items vars content items = all_checked (map (typed_item vars content) items)

  unfoldable pub typed_filter : List Var → ℕ → Filter → Checked TFilter
  typed_filter vars m filter = filter_typing filter vars m

  abbrev pub typed_filters : List Var → ℕ → List Filter → Checked (List TFilter)
  typed_filters vars m filters = all_checked (map (typed_filter vars m) filters)
