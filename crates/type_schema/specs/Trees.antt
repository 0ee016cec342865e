-- Typed expressions, sets, policies and initialisers. A variable is its depth: how many stand outside it. A node keeps the name of the
-- variable that it binds or is, and the sign of the comparison that it was written as; the meaning reads neither.
use Rattle.std.specs.Prelude.{ℕ, ℤ, Bool, List}
use Rattle.text_tree.specs.declared.exprs.CmpOp.{CmpOp}
use Rattle.text_tree.specs.declared.exprs.FilterOp.{FilterOp}

-- a name, as its bytes
abbrev pub Name : Type 0
Name = List ℕ

mutual
  pub data Expr : Type 0 where
    flag : Bool → Expr
    num : ℤ → Expr
    str : List ℕ → Expr
    var : (depth : ℕ) (name : Name) → Expr
    -- no value of an option, and a value of one
    nothing : Expr
    just : Expr → Expr
    -- the field of a record of the model
    get : Expr → (model field : ℕ) → Expr
    -- of two numbers, texts or ids; of two truth values; of two numbers
    equal : Expr → Expr → CmpOp → Expr
    iff : Expr → Expr → CmpOp → Expr
    less : Expr → Expr → CmpOp → Expr
    -- whether a record of the model is in the set
    within : Expr → (model : ℕ) → SetExpr → Expr
    negation : Expr → Expr
    both : Expr → Expr → Expr
    either : Expr → Expr → Expr
    -- if, then, else
    if_expr : Expr → Expr → Expr → Expr
    -- the option, what stands for none, the variable, and what stands for some value, which the variable is
    match_expr : Expr → Expr → Name → Expr → Expr

  pub data SetExpr : Type 0 where
    everyone : SetExpr
    nobody : SetExpr
    listed : Items → SetExpr
    union : SetExpr → SetExpr → SetExpr
    minus : SetExpr → SetExpr → SetExpr
    -- the records of the model that meet every filter
    find : (model : ℕ) → Filters → SetExpr
    -- the set of ids of records of the model that the expression gives
    path : (model : ℕ) → Expr → SetExpr
    -- for each record of the source's model in the source, the record of the last model that the expression gives
    mapped : SetExpr → (source : ℕ) → Name → (model : ℕ) → Expr → SetExpr
    -- for each record of the source's model in the source, the set
    flat_mapped : SetExpr → (source : ℕ) → Name → SetExpr → SetExpr
    if_set : Expr → SetExpr → SetExpr → SetExpr
    match_set : Expr → SetExpr → Name → SetExpr → SetExpr

  -- static principals, and records of a model
  pub data Items : Type 0 where
    no_items : Items
    static_item : (static : ℕ) → Items → Items
    record_item : (model : ℕ) → Expr → Items → Items

  -- a field of the record that is sought, how it is tested, and the value that it is tested with
  pub data Filters : Type 0 where
    no_filters : Filters
    filter_and : (field : ℕ) → FilterOp → Expr → Filters → Filters

-- who is allowed a right on a record: every principal, none, or those in the set where the variable is the record
pub data Policy : Type 0 where
  to_all : Policy
  to_none : Policy
  by_record : Name → SetExpr → Policy

-- what an added field holds at a record: the value of the expression, or the ids of the records of the model that are in the set
pub data Init : Type 0 where
  plain : Expr → Init
  of_set : (model : ℕ) → SetExpr → Init
