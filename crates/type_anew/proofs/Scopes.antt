-- Variables with the types of a scope under new numbers, and what new numbers make of what a place asks.
use Rattle.std.proofs.Common.{◌≡◌, ℕ, ◌+◌, Bool, false, not, cond, List, [], ◌∷◌, ◌++◌, length, map, refl, sym, ◌∙◌, ap}
use Rattle.std.specs.Prelude.{Option, Some, None, Ok, Err, IsTrue, nat_lt, option_and_then, option_map, position, slice_get, ◌||◌, if◌then◌else◌}
use Rattle.std.specs.List.{list_any, position_or_len}
use Rattle.std.specs.Str.{bytes_eq}
use Rattle.std.proofs.lemmas.List.{length-map, map-append}
use Rattle.std.proofs.lemmas.Option.{slice_get-map}
use Rattle.text_tree.specs.declared.exprs.CmpOp.{CmpOp}
use Rattle.text_tree.specs.declared.exprs.CmpOp.TheVariants.{Eq, Ne, Lt, Le, Gt, Ge}
use Rattle.text_tree.specs.declared.exprs.FilterOp.{FilterOp}
use Rattle.text_tree.specs.declared.exprs.FilterOp.TheVariants.{Cmp, Has}
use Rattle.type_schema.specs.declared.types.TBase.{TBase}
use Rattle.type_schema.specs.declared.types.TBase.TheVariants as base
use Rattle.type_schema.specs.declared.types.TTy.{TTy}
use Rattle.type_schema.specs.declared.types.TTy.TheVariants.{Plain, Set, Opt}
use Rattle.type_schema.specs.Trees.{Name, Expr, flag, num, str, var, nothing, just, get, equal, iff, less, within, negation, both, either, if_expr, match_expr}
use Rattle.type_schema.specs.Schema.{ModelInfo, Schema}
use Rattle.type_schema.specs.Typing.{Scope, IsExpr, MaySign, MayTest}
use Rattle.type_typing.specs.declared.type_err.TypeErr.TheVariants.{Twice}
use Rattle.type_typing.specs.declared.vars.Var.{Var}
use Rattle.type_typing.specs.Names.{var_named}
use Rattle.type_typing.specs.Asked.{under}
use Rattle.type_typing.specs.Compared.{ordered, signed, tested}
use Rattle.type_proper.specs.Shown.{shows}
use Rattle.type_anew.specs.Names as the
use Rattle.type_anew.specs.RenumberedAnew.{renumbered_base, renumbered_type}
use Rattle.type_anew.specs.Labels.{IsFree, IsNamed}

-- ---- what has a type that is no option shows it

abbrev pub IsSingle : TTy → Type 0
IsSingle (Plain b) = Unit {0}
IsSingle (Set m) = Unit {0}
IsSingle (Opt b) = ⊥

option-apart : (ty : TTy) (b : TBase) → IsSingle ty → ty ≡ Opt b → ⊥
option-apart (Plain a) b single is = cc
option-apart (Set m) b single is = cc
option-apart (Opt a) b single is = single

pub single-shows : (s : Schema) (scope : Scope) (ty : TTy) (x : Expr) → IsSingle ty → IsExpr s scope ty x → IsTrue (shows x)
single-shows s scope ty (flag b) single h = refl
single-shows s scope ty (num n) single h = refl
single-shows s scope ty (str bytes) single h = refl
single-shows s scope ty (var depth name) single h = refl
single-shows s scope ty nothing single h = absurd (option-apart ty h.0 single h.1)
single-shows s scope ty (just x) single h = refl
single-shows s scope ty (get x m f) single h = refl
single-shows s scope ty (equal x y op) single h = refl
single-shows s scope ty (iff x y op) single h = refl
single-shows s scope ty (less x y op) single h = refl
single-shows s scope ty (within x m set) single h = refl
single-shows s scope ty (negation x) single h = refl
single-shows s scope ty (both x y) single h = refl
single-shows s scope ty (either x y) single h = refl
single-shows s scope ty (if_expr c x y) single h = single-shows s scope ty x single h.1
single-shows s scope ty (match_expr x y name z) single h = single-shows s scope ty y single h.2

-- ---- lists seen through a function

prefix-map : {A B : Type 0} (f : A → B) (p : B → Bool) (xs : List A) → position_or_len p (map f xs) ≡ position_or_len (λ x. p (f x)) xs
prefix-map f p [] = refl
prefix-map f p (x ∷ xs) = ap (λ n. cond (not (p (f x))) (1 + n) 0) (prefix-map f p xs)

pub position-map : {A B : Type 0} (f : A → B) (p : B → Bool) (xs : List A) → position p (map f xs) ≡ position (λ x. p (f x)) xs
position-map f p xs =
    ap (λ n. cond (nat_lt n (length (map f xs))) (Some n) None) (prefix-map f p xs)
    ∙ ap (λ l. cond (nat_lt (position_or_len (λ x. p (f x)) xs) l) (Some (position_or_len (λ x. p (f x)) xs)) None) (length-map xs f)

pub any-map : {A B : Type 0} (f : A → B) (p : B → Bool) (xs : List A) → list_any p (map f xs) ≡ list_any (λ x. p (f x)) xs
any-map f p [] = refl
any-map f p (x ∷ xs) = ap (λ b. p (f x) || b) (any-map f p xs)

abbrev pub name_of : Var → Name
name_of v = v.name

abbrev pub type_of_var : Var → TTy
type_of_var v = v.ty

abbrev pub at_depth : ℕ → Var → ℕ × TTy
at_depth d v = (d, v.ty)

-- ---- scopes

module _ (models : List ModelInfo) where
  -- the variables have these names, and the types of the scope under the new numbers
  pub record IsScoped (names : List Name) (scope : Scope) (vars : List Var) : Type 0 where
    pub named : map name_of vars ≡ names
    pub typed : map type_of_var vars ≡ map (renumbered_type models) scope

  abbrev pub more_vars : List Var → Name → TTy → List Var
  more_vars vars name ty = vars ++ (record { name = name; ty = renumbered_type models ty }) ∷ []

  pub scoped-more : (names : List Name) (scope : Scope) (vars : List Var) (name : Name) (ty : TTy) → IsScoped names scope vars → IsScoped (names ++ name ∷ []) (scope ++ ty ∷ []) (more_vars vars name ty)
  scoped-more names scope vars name ty is = record {
    named = map-append name_of vars ((record { name = name; ty = renumbered_type models ty }) ∷ []) ∙ ap (λ ns. ns ++ name ∷ []) is.named;
    typed =
        map-append type_of_var vars ((record { name = name; ty = renumbered_type models ty }) ∷ [])
        ∙ ap (λ ts. ts ++ renumbered_type models ty ∷ []) is.typed
        ∙ sym (map-append (renumbered_type models) scope (ty ∷ []));
  }

  pub under-more : (names : List Name) (scope : Scope) (vars : List Var) (name : Name) (ty : TTy) → IsScoped names scope vars → IsFree names name
      → under vars (the.named name) (renumbered_type models ty) ≡ Ok (more_vars vars name ty)
  unfolding under
  under-more names scope vars name ty is free =
      let none : list_any (λ (v : Var). bytes_eq v.name name) vars ≡ false = sym (any-map name_of (λ x. bytes_eq x name) vars) ∙ ap (list_any (λ x. bytes_eq x name)) is.named ∙ free in
      ap (λ b. if b then Err (Twice 0) else Ok (more_vars vars name ty)) none

  pub var-there : (names : List Name) (scope : Scope) (vars : List Var) (depth : ℕ) (name : Name) (ty : TTy) → IsScoped names scope vars → IsNamed names depth name
      → slice_get scope depth ≡ Some ty → var_named vars name ≡ Some (depth, renumbered_type models ty)
  unfolding var_named
  var-there names scope vars depth name ty is at has =
      let there : position (λ (v : Var). bytes_eq v.name name) vars ≡ Some depth = sym (position-map name_of (λ x. bytes_eq x name) vars) ∙ ap (position (λ x. bytes_eq x name)) is.named ∙ at in
      let typed : option_map type_of_var (slice_get vars depth) ≡ Some (renumbered_type models ty)
      = sym (slice_get-map type_of_var vars depth) ∙ ap (λ ts. slice_get ts depth) is.typed ∙ slice_get-map (renumbered_type models) scope depth ∙ ap (option_map (renumbered_type models)) has in
      ap (option_and_then (λ d. option_map (at_depth d) (slice_get vars d))) there ∙ out (slice_get vars depth) typed
    where
      pair : TTy → ℕ × TTy
      pair z = (depth, z)

      out : (o : Option Var) → option_map type_of_var o ≡ Some (renumbered_type models ty) → option_map (at_depth depth) o ≡ Some (depth, renumbered_type models ty)
      out None e = absurd (cc e)
      out (Some v) e = let same : v.ty ≡ renumbered_type models ty = cc e in ap (λ z. Some (pair z)) same

  -- ---- what a filter asks

  ordered-new : (b : TBase) → b ≡ base.Int → ordered (renumbered_base models b) 0 ≡ Ok (Plain (renumbered_base models b))
  unfolding ordered
  ordered-new base.Bool is = absurd (cc is)
  ordered-new base.Int is = refl
  ordered-new base.Text is = absurd (cc is)
  ordered-new (base.Id m) is = absurd (cc is)

  signed-new : (op : CmpOp) (b : TBase) → MaySign op b → signed op (renumbered_base models b) 0 ≡ Ok (Plain (renumbered_base models b))
  unfolding signed
  signed-new Eq b may = refl
  signed-new Ne b may = refl
  signed-new Lt b may = ordered-new b may
  signed-new Le b may = ordered-new b may
  signed-new Gt b may = ordered-new b may
  signed-new Ge b may = ordered-new b may

  pub tested-new : (s : Schema) (op : FilterOp) (held asked : TTy) → MayTest s op held asked → tested op (renumbered_type models held) 0 ≡ Ok (renumbered_type models asked)
  unfolding tested
  tested-new s (Cmp op) (Plain b) asked may = signed-new op b may.0 ∙ ap (λ z. Ok (renumbered_type models z)) (sym may.1)
  tested-new s (Cmp op) (Set m) asked may = absurd may
  tested-new s (Cmp op) (Opt b) asked may = absurd may
  tested-new s Has (Plain b) asked may = absurd may
  tested-new s Has (Set m) asked may = ap (λ z. Ok (renumbered_type models z)) (sym may)
  tested-new s Has (Opt b) asked may = absurd may
