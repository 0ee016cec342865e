-- What is answered of a whole, by what was found of its parts so far.
use Rattle.std.proofs.Common.{◌≡◌, ◌≢◌, ℕ, ℤ, Bool, List, sym, ◌∙◌, ap}
use Rattle.std.specs.Prelude.{Option, Some, None, Ok, Err}
use Rattle.text_tree.specs.declared.named.Named.{Named}
use Rattle.text_tree.specs.declared.exprs.CmpOp.{CmpOp}
use Rattle.text_tree.specs.declared.exprs.Expr.{Expr}
use Rattle.text_tree.specs.declared.exprs.SetExpr.{SetExpr}
use Rattle.text_tree.specs.declared.exprs.Expr.TheVariants as e
use Rattle.type_schema.specs.declared.types.TBase.{TBase}
use Rattle.type_schema.specs.declared.types.TBase.TheVariants as base
use Rattle.type_schema.specs.declared.types.TTy.{TTy}
use Rattle.type_schema.specs.declared.types.TTy.TheVariants.{Plain, Opt}
use Rattle.type_schema.specs.declared.trees.TExpr.TheVariants as t
use Rattle.type_schema.specs.declared.trees.TSet.{TSet}
use Rattle.type_schema.specs.Schema.{Schema}
use Rattle.type_typing.specs.declared.asked.Content.TheVariants.{Records}
use Rattle.type_typing.specs.declared.asked.Typed.{Typed}
use Rattle.type_typing.specs.declared.vars.Var.{Var}
use Rattle.type_typing.specs.declared.type_err.TypeErr.{TypeErr}
use Rattle.type_typing.specs.declared.type_err.TypeErr.TheVariants.{OutOfMemory, Unknown}
use Rattle.type_typing.specs.Names.{var_named}
use Rattle.type_typing.specs.Asked.{base_of, field_of_record, fits, id_of, inner_asked, none_of, option_of, of_type, truth, under}
use Rattle.type_typing.specs.Compared.{compared, left_asked}
use Rattle.type_typing.specs.Exprs.{bool, typed_expr, typed_set}
use Rattle.type_typing.specs.Outcome.{Checked, Gives, ◌>>=◌, or_else}
use Rattle.type_typing.proofs.Forms as form

-- a part is found
pub goes_on : {A B : Type 0} (o : Checked A) (f : A → Checked B) (a : A) → o ≡ Ok a → (o >>= f) ≡ f a
goes_on o f a h = ap (λ z. z >>= f) h

-- a part has a fault
pub stops : {A B : Type 0} (o : Checked A) (f : A → Checked B) (err : TypeErr) → o ≡ Err err → (o >>= f) ≡ Err err
stops o f err h = ap (λ z. z >>= f) h

pub same_gives : {A : Type 0} (o p : Checked A) (r : Checked A) → o ≡ p → Gives p r → Gives o r
same_gives o p (Ok a) e h = e ∙ h
same_gives o p (Err err) e h = λ ne. e ∙ h ne

-- an answer that is the outcome
pub is_given : {A : Type 0} (o r : Checked A) → r ≡ o → Gives o r
is_given o (Ok a) h = sym h
is_given o (Err err) h = λ _. sym h

pub Flag_last : (s : Schema) (vars : List Var) (asked : Option TTy) (value : Bool) (at : ℕ) (w : Expr) (r : Checked Typed) → w ≡ e.Flag at value → Gives (fits (truth at (t.Flag value)) asked) r
    → Gives (typed_expr s vars asked w) r
Flag_last s vars asked value at w r is done =
    same_gives (typed_expr s vars asked w) (fits (truth at (t.Flag value)) asked) r
    ((ap (λ z. typed_expr s vars asked z) is ∙ form.Flag_is s vars asked value at)) done

pub Num_last : (s : Schema) (vars : List Var) (asked : Option TTy) (value : ℤ) (at : ℕ) (w : Expr) (r : Checked Typed) → w ≡ e.Num at value → Gives (fits (of_type at (Plain base.Int) (t.Num value)) asked) r
    → Gives (typed_expr s vars asked w) r
Num_last s vars asked value at w r is done =
    same_gives (typed_expr s vars asked w) (fits (of_type at (Plain base.Int) (t.Num value)) asked) r
    ((ap (λ z. typed_expr s vars asked z) is ∙ form.Num_is s vars asked value at)) done

pub Str_last : (s : Schema) (vars : List Var) (asked : Option TTy) (text : List ℕ) (at : ℕ) (w : Expr) (r : Checked Typed) → w ≡ e.Str at text → Gives (fits (of_type at (Plain base.Text) (t.Str text)) asked) r
    → Gives (typed_expr s vars asked w) r
Str_last s vars asked text at w r is done =
    same_gives (typed_expr s vars asked w) (fits (of_type at (Plain base.Text) (t.Str text)) asked) r
    ((ap (λ z. typed_expr s vars asked z) is ∙ form.Str_is s vars asked text at)) done

pub NoneLit_last : (s : Schema) (vars : List Var) (asked : Option TTy) (at : ℕ) (w : Expr) (r : Checked Typed) → w ≡ e.NoneLit at → Gives (none_of asked at) r
    → Gives (typed_expr s vars asked w) r
NoneLit_last s vars asked at w r is done =
    same_gives (typed_expr s vars asked w) (none_of asked at) r
    ((ap (λ z. typed_expr s vars asked z) is ∙ form.NoneLit_is s vars asked at)) done

pub Var_last : (s : Schema) (vars : List Var) (asked : Option TTy) (x : Named) (at : ℕ) (w : Expr) (r : Checked Typed) → w ≡ e.Var at x → Gives (or_else (var_named vars x.name) (Unknown x.at) >>= (λ var. fits (of_type at var.1 (t.Var var.0 x.name)) asked)) r
    → Gives (typed_expr s vars asked w) r
Var_last s vars asked x at w r is done =
    same_gives (typed_expr s vars asked w) (or_else (var_named vars x.name) (Unknown x.at) >>= (λ var. fits (of_type at var.1 (t.Var var.0 x.name)) asked)) r
    ((ap (λ z. typed_expr s vars asked z) is ∙ form.Var_is s vars asked x at)) done

pub SomeLit_fault0 : (s : Schema) (vars : List Var) (asked : Option TTy) (x : Expr) (at : ℕ) (w : Expr) (err : TypeErr) → w ≡ e.SomeLit at x → (err ≢ OutOfMemory → typed_expr s vars (inner_asked asked) x ≡ Err err)
    → err ≢ OutOfMemory → typed_expr s vars asked w ≡ Err err
SomeLit_fault0 s vars asked x at w err is fault ne =
    (ap (λ z. typed_expr s vars asked z) is ∙ form.SomeLit_is s vars asked x at)
    ∙ stops (typed_expr s vars (inner_asked asked) x) (λ inner. base_of inner.ty inner.at >>= (λ b. fits (of_type at (Opt b) (t.SomeLit inner.tree)) asked)) err (fault ne)

pub SomeLit_last : (s : Schema) (vars : List Var) (asked : Option TTy) (x : Expr) (at : ℕ) (w : Expr) (inner : Typed) (r : Checked Typed) → w ≡ e.SomeLit at x → typed_expr s vars (inner_asked asked) x ≡ Ok inner → Gives (base_of inner.ty inner.at >>= (λ b. fits (of_type at (Opt b) (t.SomeLit inner.tree)) asked)) r
    → Gives (typed_expr s vars asked w) r
SomeLit_last s vars asked x at w inner r is found0 done =
    same_gives (typed_expr s vars asked w) (base_of inner.ty inner.at >>= (λ b. fits (of_type at (Opt b) (t.SomeLit inner.tree)) asked)) r
    ((ap (λ z. typed_expr s vars asked z) is ∙ form.SomeLit_is s vars asked x at)
    ∙ goes_on (typed_expr s vars (inner_asked asked) x) (λ inner. base_of inner.ty inner.at >>= (λ b. fits (of_type at (Opt b) (t.SomeLit inner.tree)) asked)) inner found0) done

pub Get_fault0 : (s : Schema) (vars : List Var) (asked : Option TTy) (x : Expr) (f : Named) (at : ℕ) (w : Expr) (err : TypeErr) → w ≡ e.Get at x f → (err ≢ OutOfMemory → typed_expr s vars None x ≡ Err err)
    → err ≢ OutOfMemory → typed_expr s vars asked w ≡ Err err
Get_fault0 s vars asked x f at w err is fault ne =
    (ap (λ z. typed_expr s vars asked z) is ∙ form.Get_is s vars asked x f at)
    ∙ stops (typed_expr s vars None x) (λ of. field_of_record s of.ty of.at f >>= (λ field. fits (of_type at field.2 (t.Get of.tree field.0 field.1)) asked)) err (fault ne)

pub Get_last : (s : Schema) (vars : List Var) (asked : Option TTy) (x : Expr) (f : Named) (at : ℕ) (w : Expr) (of : Typed) (r : Checked Typed) → w ≡ e.Get at x f → typed_expr s vars None x ≡ Ok of → Gives (field_of_record s of.ty of.at f >>= (λ field. fits (of_type at field.2 (t.Get of.tree field.0 field.1)) asked)) r
    → Gives (typed_expr s vars asked w) r
Get_last s vars asked x f at w of r is found0 done =
    same_gives (typed_expr s vars asked w) (field_of_record s of.ty of.at f >>= (λ field. fits (of_type at field.2 (t.Get of.tree field.0 field.1)) asked)) r
    ((ap (λ z. typed_expr s vars asked z) is ∙ form.Get_is s vars asked x f at)
    ∙ goes_on (typed_expr s vars None x) (λ of. field_of_record s of.ty of.at f >>= (λ field. fits (of_type at field.2 (t.Get of.tree field.0 field.1)) asked)) of found0) done

pub Cmp_fault0 : (s : Schema) (vars : List Var) (asked : Option TTy) (op : CmpOp) (x y : Expr) (at : ℕ) (w : Expr) (err : TypeErr) → w ≡ e.Cmp at op x y → (err ≢ OutOfMemory → typed_expr s vars (left_asked op) x ≡ Err err)
    → err ≢ OutOfMemory → typed_expr s vars asked w ≡ Err err
Cmp_fault0 s vars asked op x y at w err is fault ne =
    (ap (λ z. typed_expr s vars asked z) is ∙ form.Cmp_is s vars asked op x y at)
    ∙ stops (typed_expr s vars (left_asked op) x) (λ left. (base_of left.ty left.at >>= (λ by. (typed_expr s vars (Some left.ty) y >>= (λ right. fits (truth at (compared op by left.tree right.tree)) asked))))) err (fault ne)

pub Cmp_fault1 : (s : Schema) (vars : List Var) (asked : Option TTy) (op : CmpOp) (x y : Expr) (at : ℕ) (w : Expr) (left : Typed) (err : TypeErr) → w ≡ e.Cmp at op x y → typed_expr s vars (left_asked op) x ≡ Ok left → (err ≢ OutOfMemory → base_of left.ty left.at ≡ Err err)
    → err ≢ OutOfMemory → typed_expr s vars asked w ≡ Err err
Cmp_fault1 s vars asked op x y at w left err is found0 fault ne =
    (ap (λ z. typed_expr s vars asked z) is ∙ form.Cmp_is s vars asked op x y at)
    ∙ goes_on (typed_expr s vars (left_asked op) x) (λ left. (base_of left.ty left.at >>= (λ by. (typed_expr s vars (Some left.ty) y >>= (λ right. fits (truth at (compared op by left.tree right.tree)) asked))))) left found0
    ∙ stops (base_of left.ty left.at) (λ by. (typed_expr s vars (Some left.ty) y >>= (λ right. fits (truth at (compared op by left.tree right.tree)) asked))) err (fault ne)

pub Cmp_fault2 : (s : Schema) (vars : List Var) (asked : Option TTy) (op : CmpOp) (x y : Expr) (at : ℕ) (w : Expr) (left : Typed) (by : TBase) (err : TypeErr) → w ≡ e.Cmp at op x y → typed_expr s vars (left_asked op) x ≡ Ok left → base_of left.ty left.at ≡ Ok by → (err ≢ OutOfMemory → typed_expr s vars (Some left.ty) y ≡ Err err)
    → err ≢ OutOfMemory → typed_expr s vars asked w ≡ Err err
Cmp_fault2 s vars asked op x y at w left by err is found0 found1 fault ne =
    (ap (λ z. typed_expr s vars asked z) is ∙ form.Cmp_is s vars asked op x y at)
    ∙ goes_on (typed_expr s vars (left_asked op) x) (λ left. (base_of left.ty left.at >>= (λ by. (typed_expr s vars (Some left.ty) y >>= (λ right. fits (truth at (compared op by left.tree right.tree)) asked))))) left found0
    ∙ goes_on (base_of left.ty left.at) (λ by. (typed_expr s vars (Some left.ty) y >>= (λ right. fits (truth at (compared op by left.tree right.tree)) asked))) by found1
    ∙ stops (typed_expr s vars (Some left.ty) y) (λ right. fits (truth at (compared op by left.tree right.tree)) asked) err (fault ne)

pub Cmp_last : (s : Schema) (vars : List Var) (asked : Option TTy) (op : CmpOp) (x y : Expr) (at : ℕ) (w : Expr) (left : Typed) (by : TBase) (right : Typed) (r : Checked Typed) → w ≡ e.Cmp at op x y → typed_expr s vars (left_asked op) x ≡ Ok left → base_of left.ty left.at ≡ Ok by → typed_expr s vars (Some left.ty) y ≡ Ok right → Gives (fits (truth at (compared op by left.tree right.tree)) asked) r
    → Gives (typed_expr s vars asked w) r
Cmp_last s vars asked op x y at w left by right r is found0 found1 found2 done =
    same_gives (typed_expr s vars asked w) (fits (truth at (compared op by left.tree right.tree)) asked) r
    ((ap (λ z. typed_expr s vars asked z) is ∙ form.Cmp_is s vars asked op x y at)
    ∙ goes_on (typed_expr s vars (left_asked op) x) (λ left. (base_of left.ty left.at >>= (λ by. (typed_expr s vars (Some left.ty) y >>= (λ right. fits (truth at (compared op by left.tree right.tree)) asked))))) left found0
    ∙ goes_on (base_of left.ty left.at) (λ by. (typed_expr s vars (Some left.ty) y >>= (λ right. fits (truth at (compared op by left.tree right.tree)) asked))) by found1
    ∙ goes_on (typed_expr s vars (Some left.ty) y) (λ right. fits (truth at (compared op by left.tree right.tree)) asked) right found2) done

pub Member_fault0 : (s : Schema) (vars : List Var) (asked : Option TTy) (x : Expr) (set : SetExpr) (at : ℕ) (w : Expr) (err : TypeErr) → w ≡ e.Member at x set → (err ≢ OutOfMemory → typed_expr s vars None x ≡ Err err)
    → err ≢ OutOfMemory → typed_expr s vars asked w ≡ Err err
Member_fault0 s vars asked x set at w err is fault ne =
    (ap (λ z. typed_expr s vars asked z) is ∙ form.Member_is s vars asked x set at)
    ∙ stops (typed_expr s vars None x) (λ of. (id_of of.ty of.at >>= (λ m. (typed_set s vars (Records m) set >>= (λ all. fits (truth at (t.Member of.tree m all)) asked))))) err (fault ne)

pub Member_fault1 : (s : Schema) (vars : List Var) (asked : Option TTy) (x : Expr) (set : SetExpr) (at : ℕ) (w : Expr) (of : Typed) (err : TypeErr) → w ≡ e.Member at x set → typed_expr s vars None x ≡ Ok of → (err ≢ OutOfMemory → id_of of.ty of.at ≡ Err err)
    → err ≢ OutOfMemory → typed_expr s vars asked w ≡ Err err
Member_fault1 s vars asked x set at w of err is found0 fault ne =
    (ap (λ z. typed_expr s vars asked z) is ∙ form.Member_is s vars asked x set at)
    ∙ goes_on (typed_expr s vars None x) (λ of. (id_of of.ty of.at >>= (λ m. (typed_set s vars (Records m) set >>= (λ all. fits (truth at (t.Member of.tree m all)) asked))))) of found0
    ∙ stops (id_of of.ty of.at) (λ m. (typed_set s vars (Records m) set >>= (λ all. fits (truth at (t.Member of.tree m all)) asked))) err (fault ne)

pub Member_fault2 : (s : Schema) (vars : List Var) (asked : Option TTy) (x : Expr) (set : SetExpr) (at : ℕ) (w : Expr) (of : Typed) (m : ℕ) (err : TypeErr) → w ≡ e.Member at x set → typed_expr s vars None x ≡ Ok of → id_of of.ty of.at ≡ Ok m → (err ≢ OutOfMemory → typed_set s vars (Records m) set ≡ Err err)
    → err ≢ OutOfMemory → typed_expr s vars asked w ≡ Err err
Member_fault2 s vars asked x set at w of m err is found0 found1 fault ne =
    (ap (λ z. typed_expr s vars asked z) is ∙ form.Member_is s vars asked x set at)
    ∙ goes_on (typed_expr s vars None x) (λ of. (id_of of.ty of.at >>= (λ m. (typed_set s vars (Records m) set >>= (λ all. fits (truth at (t.Member of.tree m all)) asked))))) of found0
    ∙ goes_on (id_of of.ty of.at) (λ m. (typed_set s vars (Records m) set >>= (λ all. fits (truth at (t.Member of.tree m all)) asked))) m found1
    ∙ stops (typed_set s vars (Records m) set) (λ all. fits (truth at (t.Member of.tree m all)) asked) err (fault ne)

pub Member_last : (s : Schema) (vars : List Var) (asked : Option TTy) (x : Expr) (set : SetExpr) (at : ℕ) (w : Expr) (of : Typed) (m : ℕ) (all : TSet) (r : Checked Typed) → w ≡ e.Member at x set → typed_expr s vars None x ≡ Ok of → id_of of.ty of.at ≡ Ok m → typed_set s vars (Records m) set ≡ Ok all → Gives (fits (truth at (t.Member of.tree m all)) asked) r
    → Gives (typed_expr s vars asked w) r
Member_last s vars asked x set at w of m all r is found0 found1 found2 done =
    same_gives (typed_expr s vars asked w) (fits (truth at (t.Member of.tree m all)) asked) r
    ((ap (λ z. typed_expr s vars asked z) is ∙ form.Member_is s vars asked x set at)
    ∙ goes_on (typed_expr s vars None x) (λ of. (id_of of.ty of.at >>= (λ m. (typed_set s vars (Records m) set >>= (λ all. fits (truth at (t.Member of.tree m all)) asked))))) of found0
    ∙ goes_on (id_of of.ty of.at) (λ m. (typed_set s vars (Records m) set >>= (λ all. fits (truth at (t.Member of.tree m all)) asked))) m found1
    ∙ goes_on (typed_set s vars (Records m) set) (λ all. fits (truth at (t.Member of.tree m all)) asked) all found2) done

pub Not_fault0 : (s : Schema) (vars : List Var) (asked : Option TTy) (x : Expr) (at : ℕ) (w : Expr) (err : TypeErr) → w ≡ e.Not at x → (err ≢ OutOfMemory → typed_expr s vars bool x ≡ Err err)
    → err ≢ OutOfMemory → typed_expr s vars asked w ≡ Err err
Not_fault0 s vars asked x at w err is fault ne =
    (ap (λ z. typed_expr s vars asked z) is ∙ form.Not_is s vars asked x at)
    ∙ stops (typed_expr s vars bool x) (λ inner. fits (truth at (t.Not inner.tree)) asked) err (fault ne)

pub Not_last : (s : Schema) (vars : List Var) (asked : Option TTy) (x : Expr) (at : ℕ) (w : Expr) (inner : Typed) (r : Checked Typed) → w ≡ e.Not at x → typed_expr s vars bool x ≡ Ok inner → Gives (fits (truth at (t.Not inner.tree)) asked) r
    → Gives (typed_expr s vars asked w) r
Not_last s vars asked x at w inner r is found0 done =
    same_gives (typed_expr s vars asked w) (fits (truth at (t.Not inner.tree)) asked) r
    ((ap (λ z. typed_expr s vars asked z) is ∙ form.Not_is s vars asked x at)
    ∙ goes_on (typed_expr s vars bool x) (λ inner. fits (truth at (t.Not inner.tree)) asked) inner found0) done

pub And_fault0 : (s : Schema) (vars : List Var) (asked : Option TTy) (x y : Expr) (at : ℕ) (w : Expr) (err : TypeErr) → w ≡ e.And at x y → (err ≢ OutOfMemory → typed_expr s vars bool x ≡ Err err)
    → err ≢ OutOfMemory → typed_expr s vars asked w ≡ Err err
And_fault0 s vars asked x y at w err is fault ne =
    (ap (λ z. typed_expr s vars asked z) is ∙ form.And_is s vars asked x y at)
    ∙ stops (typed_expr s vars bool x) (λ left. (typed_expr s vars bool y >>= (λ right. fits (truth at (t.And left.tree right.tree)) asked))) err (fault ne)

pub And_fault1 : (s : Schema) (vars : List Var) (asked : Option TTy) (x y : Expr) (at : ℕ) (w : Expr) (left : Typed) (err : TypeErr) → w ≡ e.And at x y → typed_expr s vars bool x ≡ Ok left → (err ≢ OutOfMemory → typed_expr s vars bool y ≡ Err err)
    → err ≢ OutOfMemory → typed_expr s vars asked w ≡ Err err
And_fault1 s vars asked x y at w left err is found0 fault ne =
    (ap (λ z. typed_expr s vars asked z) is ∙ form.And_is s vars asked x y at)
    ∙ goes_on (typed_expr s vars bool x) (λ left. (typed_expr s vars bool y >>= (λ right. fits (truth at (t.And left.tree right.tree)) asked))) left found0
    ∙ stops (typed_expr s vars bool y) (λ right. fits (truth at (t.And left.tree right.tree)) asked) err (fault ne)

pub And_last : (s : Schema) (vars : List Var) (asked : Option TTy) (x y : Expr) (at : ℕ) (w : Expr) (left : Typed) (right : Typed) (r : Checked Typed) → w ≡ e.And at x y → typed_expr s vars bool x ≡ Ok left → typed_expr s vars bool y ≡ Ok right → Gives (fits (truth at (t.And left.tree right.tree)) asked) r
    → Gives (typed_expr s vars asked w) r
And_last s vars asked x y at w left right r is found0 found1 done =
    same_gives (typed_expr s vars asked w) (fits (truth at (t.And left.tree right.tree)) asked) r
    ((ap (λ z. typed_expr s vars asked z) is ∙ form.And_is s vars asked x y at)
    ∙ goes_on (typed_expr s vars bool x) (λ left. (typed_expr s vars bool y >>= (λ right. fits (truth at (t.And left.tree right.tree)) asked))) left found0
    ∙ goes_on (typed_expr s vars bool y) (λ right. fits (truth at (t.And left.tree right.tree)) asked) right found1) done

pub Or_fault0 : (s : Schema) (vars : List Var) (asked : Option TTy) (x y : Expr) (at : ℕ) (w : Expr) (err : TypeErr) → w ≡ e.Or at x y → (err ≢ OutOfMemory → typed_expr s vars bool x ≡ Err err)
    → err ≢ OutOfMemory → typed_expr s vars asked w ≡ Err err
Or_fault0 s vars asked x y at w err is fault ne =
    (ap (λ z. typed_expr s vars asked z) is ∙ form.Or_is s vars asked x y at)
    ∙ stops (typed_expr s vars bool x) (λ left. (typed_expr s vars bool y >>= (λ right. fits (truth at (t.Or left.tree right.tree)) asked))) err (fault ne)

pub Or_fault1 : (s : Schema) (vars : List Var) (asked : Option TTy) (x y : Expr) (at : ℕ) (w : Expr) (left : Typed) (err : TypeErr) → w ≡ e.Or at x y → typed_expr s vars bool x ≡ Ok left → (err ≢ OutOfMemory → typed_expr s vars bool y ≡ Err err)
    → err ≢ OutOfMemory → typed_expr s vars asked w ≡ Err err
Or_fault1 s vars asked x y at w left err is found0 fault ne =
    (ap (λ z. typed_expr s vars asked z) is ∙ form.Or_is s vars asked x y at)
    ∙ goes_on (typed_expr s vars bool x) (λ left. (typed_expr s vars bool y >>= (λ right. fits (truth at (t.Or left.tree right.tree)) asked))) left found0
    ∙ stops (typed_expr s vars bool y) (λ right. fits (truth at (t.Or left.tree right.tree)) asked) err (fault ne)

pub Or_last : (s : Schema) (vars : List Var) (asked : Option TTy) (x y : Expr) (at : ℕ) (w : Expr) (left : Typed) (right : Typed) (r : Checked Typed) → w ≡ e.Or at x y → typed_expr s vars bool x ≡ Ok left → typed_expr s vars bool y ≡ Ok right → Gives (fits (truth at (t.Or left.tree right.tree)) asked) r
    → Gives (typed_expr s vars asked w) r
Or_last s vars asked x y at w left right r is found0 found1 done =
    same_gives (typed_expr s vars asked w) (fits (truth at (t.Or left.tree right.tree)) asked) r
    ((ap (λ z. typed_expr s vars asked z) is ∙ form.Or_is s vars asked x y at)
    ∙ goes_on (typed_expr s vars bool x) (λ left. (typed_expr s vars bool y >>= (λ right. fits (truth at (t.Or left.tree right.tree)) asked))) left found0
    ∙ goes_on (typed_expr s vars bool y) (λ right. fits (truth at (t.Or left.tree right.tree)) asked) right found1) done

pub IfE_fault0 : (s : Schema) (vars : List Var) (asked : Option TTy) (c x y : Expr) (at : ℕ) (w : Expr) (err : TypeErr) → w ≡ e.IfE at c x y → (err ≢ OutOfMemory → typed_expr s vars bool c ≡ Err err)
    → err ≢ OutOfMemory → typed_expr s vars asked w ≡ Err err
IfE_fault0 s vars asked c x y at w err is fault ne =
    (ap (λ z. typed_expr s vars asked z) is ∙ form.IfE_is s vars asked c x y at)
    ∙ stops (typed_expr s vars bool c) (λ test. (typed_expr s vars asked x >>= (λ one. (typed_expr s vars (Some one.ty) y >>= (λ other. Ok (of_type at one.ty (t.IfE test.tree one.tree other.tree))))))) err (fault ne)

pub IfE_fault1 : (s : Schema) (vars : List Var) (asked : Option TTy) (c x y : Expr) (at : ℕ) (w : Expr) (test : Typed) (err : TypeErr) → w ≡ e.IfE at c x y → typed_expr s vars bool c ≡ Ok test → (err ≢ OutOfMemory → typed_expr s vars asked x ≡ Err err)
    → err ≢ OutOfMemory → typed_expr s vars asked w ≡ Err err
IfE_fault1 s vars asked c x y at w test err is found0 fault ne =
    (ap (λ z. typed_expr s vars asked z) is ∙ form.IfE_is s vars asked c x y at)
    ∙ goes_on (typed_expr s vars bool c) (λ test. (typed_expr s vars asked x >>= (λ one. (typed_expr s vars (Some one.ty) y >>= (λ other. Ok (of_type at one.ty (t.IfE test.tree one.tree other.tree))))))) test found0
    ∙ stops (typed_expr s vars asked x) (λ one. (typed_expr s vars (Some one.ty) y >>= (λ other. Ok (of_type at one.ty (t.IfE test.tree one.tree other.tree))))) err (fault ne)

pub IfE_fault2 : (s : Schema) (vars : List Var) (asked : Option TTy) (c x y : Expr) (at : ℕ) (w : Expr) (test : Typed) (one : Typed) (err : TypeErr) → w ≡ e.IfE at c x y → typed_expr s vars bool c ≡ Ok test → typed_expr s vars asked x ≡ Ok one → (err ≢ OutOfMemory → typed_expr s vars (Some one.ty) y ≡ Err err)
    → err ≢ OutOfMemory → typed_expr s vars asked w ≡ Err err
IfE_fault2 s vars asked c x y at w test one err is found0 found1 fault ne =
    (ap (λ z. typed_expr s vars asked z) is ∙ form.IfE_is s vars asked c x y at)
    ∙ goes_on (typed_expr s vars bool c) (λ test. (typed_expr s vars asked x >>= (λ one. (typed_expr s vars (Some one.ty) y >>= (λ other. Ok (of_type at one.ty (t.IfE test.tree one.tree other.tree))))))) test found0
    ∙ goes_on (typed_expr s vars asked x) (λ one. (typed_expr s vars (Some one.ty) y >>= (λ other. Ok (of_type at one.ty (t.IfE test.tree one.tree other.tree))))) one found1
    ∙ stops (typed_expr s vars (Some one.ty) y) (λ other. Ok (of_type at one.ty (t.IfE test.tree one.tree other.tree))) err (fault ne)

pub IfE_last : (s : Schema) (vars : List Var) (asked : Option TTy) (c x y : Expr) (at : ℕ) (w : Expr) (test : Typed) (one : Typed) (other : Typed) (r : Checked Typed) → w ≡ e.IfE at c x y → typed_expr s vars bool c ≡ Ok test → typed_expr s vars asked x ≡ Ok one → typed_expr s vars (Some one.ty) y ≡ Ok other → Gives (Ok (of_type at one.ty (t.IfE test.tree one.tree other.tree))) r
    → Gives (typed_expr s vars asked w) r
IfE_last s vars asked c x y at w test one other r is found0 found1 found2 done =
    same_gives (typed_expr s vars asked w) (Ok (of_type at one.ty (t.IfE test.tree one.tree other.tree))) r
    ((ap (λ z. typed_expr s vars asked z) is ∙ form.IfE_is s vars asked c x y at)
    ∙ goes_on (typed_expr s vars bool c) (λ test. (typed_expr s vars asked x >>= (λ one. (typed_expr s vars (Some one.ty) y >>= (λ other. Ok (of_type at one.ty (t.IfE test.tree one.tree other.tree))))))) test found0
    ∙ goes_on (typed_expr s vars asked x) (λ one. (typed_expr s vars (Some one.ty) y >>= (λ other. Ok (of_type at one.ty (t.IfE test.tree one.tree other.tree))))) one found1
    ∙ goes_on (typed_expr s vars (Some one.ty) y) (λ other. Ok (of_type at one.ty (t.IfE test.tree one.tree other.tree))) other found2) done

pub MatchE_fault0 : (s : Schema) (vars : List Var) (asked : Option TTy) (x y : Expr) (v : Named) (z : Expr) (at : ℕ) (w : Expr) (err : TypeErr) → w ≡ e.MatchE at x y (v, z) → (err ≢ OutOfMemory → typed_expr s vars None x ≡ Err err)
    → err ≢ OutOfMemory → typed_expr s vars asked w ≡ Err err
MatchE_fault0 s vars asked x y v z at w err is fault ne =
    (ap (λ z. typed_expr s vars asked z) is ∙ form.MatchE_is s vars asked x y v z at)
    ∙ stops (typed_expr s vars None x) (λ of. (option_of of.ty of.at >>= (λ inside. (typed_expr s vars asked y >>= (λ none. (under vars v (Plain inside) >>= (λ inner. (typed_expr s inner (Some none.ty) z >>= (λ some. Ok (of_type at none.ty (t.MatchE of.tree none.tree v.name some.tree))))))))))) err (fault ne)

pub MatchE_fault1 : (s : Schema) (vars : List Var) (asked : Option TTy) (x y : Expr) (v : Named) (z : Expr) (at : ℕ) (w : Expr) (of : Typed) (err : TypeErr) → w ≡ e.MatchE at x y (v, z) → typed_expr s vars None x ≡ Ok of → (err ≢ OutOfMemory → option_of of.ty of.at ≡ Err err)
    → err ≢ OutOfMemory → typed_expr s vars asked w ≡ Err err
MatchE_fault1 s vars asked x y v z at w of err is found0 fault ne =
    (ap (λ z. typed_expr s vars asked z) is ∙ form.MatchE_is s vars asked x y v z at)
    ∙ goes_on (typed_expr s vars None x) (λ of. (option_of of.ty of.at >>= (λ inside. (typed_expr s vars asked y >>= (λ none. (under vars v (Plain inside) >>= (λ inner. (typed_expr s inner (Some none.ty) z >>= (λ some. Ok (of_type at none.ty (t.MatchE of.tree none.tree v.name some.tree))))))))))) of found0
    ∙ stops (option_of of.ty of.at) (λ inside. (typed_expr s vars asked y >>= (λ none. (under vars v (Plain inside) >>= (λ inner. (typed_expr s inner (Some none.ty) z >>= (λ some. Ok (of_type at none.ty (t.MatchE of.tree none.tree v.name some.tree))))))))) err (fault ne)

pub MatchE_fault2 : (s : Schema) (vars : List Var) (asked : Option TTy) (x y : Expr) (v : Named) (z : Expr) (at : ℕ) (w : Expr) (of : Typed) (inside : TBase) (err : TypeErr) → w ≡ e.MatchE at x y (v, z) → typed_expr s vars None x ≡ Ok of → option_of of.ty of.at ≡ Ok inside → (err ≢ OutOfMemory → typed_expr s vars asked y ≡ Err err)
    → err ≢ OutOfMemory → typed_expr s vars asked w ≡ Err err
MatchE_fault2 s vars asked x y v z at w of inside err is found0 found1 fault ne =
    (ap (λ z. typed_expr s vars asked z) is ∙ form.MatchE_is s vars asked x y v z at)
    ∙ goes_on (typed_expr s vars None x) (λ of. (option_of of.ty of.at >>= (λ inside. (typed_expr s vars asked y >>= (λ none. (under vars v (Plain inside) >>= (λ inner. (typed_expr s inner (Some none.ty) z >>= (λ some. Ok (of_type at none.ty (t.MatchE of.tree none.tree v.name some.tree))))))))))) of found0
    ∙ goes_on (option_of of.ty of.at) (λ inside. (typed_expr s vars asked y >>= (λ none. (under vars v (Plain inside) >>= (λ inner. (typed_expr s inner (Some none.ty) z >>= (λ some. Ok (of_type at none.ty (t.MatchE of.tree none.tree v.name some.tree))))))))) inside found1
    ∙ stops (typed_expr s vars asked y) (λ none. (under vars v (Plain inside) >>= (λ inner. (typed_expr s inner (Some none.ty) z >>= (λ some. Ok (of_type at none.ty (t.MatchE of.tree none.tree v.name some.tree))))))) err (fault ne)

pub MatchE_fault3 : (s : Schema) (vars : List Var) (asked : Option TTy) (x y : Expr) (v : Named) (z : Expr) (at : ℕ) (w : Expr) (of : Typed) (inside : TBase) (none : Typed) (err : TypeErr) → w ≡ e.MatchE at x y (v, z) → typed_expr s vars None x ≡ Ok of → option_of of.ty of.at ≡ Ok inside → typed_expr s vars asked y ≡ Ok none → (err ≢ OutOfMemory → under vars v (Plain inside) ≡ Err err)
    → err ≢ OutOfMemory → typed_expr s vars asked w ≡ Err err
MatchE_fault3 s vars asked x y v z at w of inside none err is found0 found1 found2 fault ne =
    (ap (λ z. typed_expr s vars asked z) is ∙ form.MatchE_is s vars asked x y v z at)
    ∙ goes_on (typed_expr s vars None x) (λ of. (option_of of.ty of.at >>= (λ inside. (typed_expr s vars asked y >>= (λ none. (under vars v (Plain inside) >>= (λ inner. (typed_expr s inner (Some none.ty) z >>= (λ some. Ok (of_type at none.ty (t.MatchE of.tree none.tree v.name some.tree))))))))))) of found0
    ∙ goes_on (option_of of.ty of.at) (λ inside. (typed_expr s vars asked y >>= (λ none. (under vars v (Plain inside) >>= (λ inner. (typed_expr s inner (Some none.ty) z >>= (λ some. Ok (of_type at none.ty (t.MatchE of.tree none.tree v.name some.tree))))))))) inside found1
    ∙ goes_on (typed_expr s vars asked y) (λ none. (under vars v (Plain inside) >>= (λ inner. (typed_expr s inner (Some none.ty) z >>= (λ some. Ok (of_type at none.ty (t.MatchE of.tree none.tree v.name some.tree))))))) none found2
    ∙ stops (under vars v (Plain inside)) (λ inner. (typed_expr s inner (Some none.ty) z >>= (λ some. Ok (of_type at none.ty (t.MatchE of.tree none.tree v.name some.tree))))) err (fault ne)

pub MatchE_fault4 : (s : Schema) (vars : List Var) (asked : Option TTy) (x y : Expr) (v : Named) (z : Expr) (at : ℕ) (w : Expr) (of : Typed) (inside : TBase) (none : Typed) (inner : List Var) (err : TypeErr) → w ≡ e.MatchE at x y (v, z) → typed_expr s vars None x ≡ Ok of → option_of of.ty of.at ≡ Ok inside → typed_expr s vars asked y ≡ Ok none → under vars v (Plain inside) ≡ Ok inner → (err ≢ OutOfMemory → typed_expr s inner (Some none.ty) z ≡ Err err)
    → err ≢ OutOfMemory → typed_expr s vars asked w ≡ Err err
MatchE_fault4 s vars asked x y v z at w of inside none inner err is found0 found1 found2 found3 fault ne =
    (ap (λ z. typed_expr s vars asked z) is ∙ form.MatchE_is s vars asked x y v z at)
    ∙ goes_on (typed_expr s vars None x) (λ of. (option_of of.ty of.at >>= (λ inside. (typed_expr s vars asked y >>= (λ none. (under vars v (Plain inside) >>= (λ inner. (typed_expr s inner (Some none.ty) z >>= (λ some. Ok (of_type at none.ty (t.MatchE of.tree none.tree v.name some.tree))))))))))) of found0
    ∙ goes_on (option_of of.ty of.at) (λ inside. (typed_expr s vars asked y >>= (λ none. (under vars v (Plain inside) >>= (λ inner. (typed_expr s inner (Some none.ty) z >>= (λ some. Ok (of_type at none.ty (t.MatchE of.tree none.tree v.name some.tree))))))))) inside found1
    ∙ goes_on (typed_expr s vars asked y) (λ none. (under vars v (Plain inside) >>= (λ inner. (typed_expr s inner (Some none.ty) z >>= (λ some. Ok (of_type at none.ty (t.MatchE of.tree none.tree v.name some.tree))))))) none found2
    ∙ goes_on (under vars v (Plain inside)) (λ inner. (typed_expr s inner (Some none.ty) z >>= (λ some. Ok (of_type at none.ty (t.MatchE of.tree none.tree v.name some.tree))))) inner found3
    ∙ stops (typed_expr s inner (Some none.ty) z) (λ some. Ok (of_type at none.ty (t.MatchE of.tree none.tree v.name some.tree))) err (fault ne)

pub MatchE_last : (s : Schema) (vars : List Var) (asked : Option TTy) (x y : Expr) (v : Named) (z : Expr) (at : ℕ) (w : Expr) (of : Typed) (inside : TBase) (none : Typed) (inner : List Var) (some : Typed) (r : Checked Typed) → w ≡ e.MatchE at x y (v, z) → typed_expr s vars None x ≡ Ok of → option_of of.ty of.at ≡ Ok inside → typed_expr s vars asked y ≡ Ok none → under vars v (Plain inside) ≡ Ok inner → typed_expr s inner (Some none.ty) z ≡ Ok some → Gives (Ok (of_type at none.ty (t.MatchE of.tree none.tree v.name some.tree))) r
    → Gives (typed_expr s vars asked w) r
MatchE_last s vars asked x y v z at w of inside none inner some r is found0 found1 found2 found3 found4 done =
    same_gives (typed_expr s vars asked w) (Ok (of_type at none.ty (t.MatchE of.tree none.tree v.name some.tree))) r
    ((ap (λ z. typed_expr s vars asked z) is ∙ form.MatchE_is s vars asked x y v z at)
    ∙ goes_on (typed_expr s vars None x) (λ of. (option_of of.ty of.at >>= (λ inside. (typed_expr s vars asked y >>= (λ none. (under vars v (Plain inside) >>= (λ inner. (typed_expr s inner (Some none.ty) z >>= (λ some. Ok (of_type at none.ty (t.MatchE of.tree none.tree v.name some.tree))))))))))) of found0
    ∙ goes_on (option_of of.ty of.at) (λ inside. (typed_expr s vars asked y >>= (λ none. (under vars v (Plain inside) >>= (λ inner. (typed_expr s inner (Some none.ty) z >>= (λ some. Ok (of_type at none.ty (t.MatchE of.tree none.tree v.name some.tree))))))))) inside found1
    ∙ goes_on (typed_expr s vars asked y) (λ none. (under vars v (Plain inside) >>= (λ inner. (typed_expr s inner (Some none.ty) z >>= (λ some. Ok (of_type at none.ty (t.MatchE of.tree none.tree v.name some.tree))))))) none found2
    ∙ goes_on (under vars v (Plain inside)) (λ inner. (typed_expr s inner (Some none.ty) z >>= (λ some. Ok (of_type at none.ty (t.MatchE of.tree none.tree v.name some.tree))))) inner found3
    ∙ goes_on (typed_expr s inner (Some none.ty) z) (λ some. Ok (of_type at none.ty (t.MatchE of.tree none.tree v.name some.tree))) some found4) done
