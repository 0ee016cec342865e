-- What is typed has the type that is asked, and its model is there.
use Rattle.std.proofs.Common.{◌≡◌, ℕ, zero, suc, Bool, true, false, cond, List, [], ◌∷◌, ◌++◌, map, refl, sym, ◌∙◌, ap, subst}
use Rattle.std.specs.Prelude.{◌==◌, IsTrue, is_some, Option, Some, None, Ok, Err, IfSome, option_and_then, option_map, position, slice_get, nat_eq, if◌then◌else◌}
use Rattle.std.specs.List.{AllByRecursion, IsDistinct, find, list_any}
use Rattle.std.specs.Str.{bytes_eq}
use Rattle.std.proofs.lemmas.Bool.{eqb-true, eq-eqb}
use Rattle.std.proofs.lemmas.Option.{slice_get-map}
use Rattle.text_tree.specs.declared.named.Named.{Named}
use Rattle.type_schema.specs.declared.types.TBase.{TBase}
use Rattle.type_schema.specs.declared.types.TBase.TheVariants as base
use Rattle.type_schema.specs.declared.types.TTy.{TTy}
use Rattle.type_schema.specs.declared.types.TTy.TheVariants.{Plain, Set, Opt}
use Rattle.type_schema.specs.declared.trees.TExpr.{TExpr}
use Rattle.type_schema.specs.Trees.{Name, Expr}
use Rattle.type_schema.specs.Schema.{FieldInfo, ModelInfo, StaticInfo, Schema, model_of, static_of, type_of, is_principal_model}
use Rattle.type_schema.specs.Typing as typing
use Rattle.type_schema.specs.Typing.{HasModel, Scope, MayHold, IsExpr, IsType}
use Rattle.type_schema.specs.Views.{expr_of}
use Rattle.type_typing.specs.declared.asked.Content.{Content}
use Rattle.type_typing.specs.declared.asked.Content.TheVariants.{Principals, Records}
use Rattle.type_typing.specs.declared.asked.Typed.{Typed}
use Rattle.type_typing.specs.declared.vars.Var.{Var}
use Rattle.type_typing.specs.declared.type_err.TypeErr.{TypeErr}
use Rattle.type_typing.specs.declared.type_err.TypeErr.TheVariants.{Unknown, WrongType, NotPrincipal, Twice}
use Rattle.type_typing.specs.Names.{field_named, model_named, static_named, var_named}
use Rattle.type_typing.specs.Asked.{base_of, field_of_record, fits, id_of, may_hold, option_of, of_type, same_base, same_type, set_of_ids, under}
use Rattle.type_typing.specs.WellTyped.{HasLiterals, HasFields, HaveFields}
use Rattle.type_typing.specs.Outcome.{Checked, ◌>>=◌, or_else}
use Rattle.type_typing.proofs.Parts.{first_part, ok_same}

-- ---- variables, and what a set may hold

abbrev pub scope_of : List Var → Scope
scope_of vars = map (λ (v : Var). v.ty) vars

abbrev pub AreTyped : Schema → List Var → Type 0
AreTyped s vars = AllByRecursion (λ (v : Var). IsType s v.ty) vars

abbrev pub content_of : Content → typing.Content
content_of Principals = typing.principals
content_of (Records m) = typing.records m

-- an expression that is typed, where this type was asked, or none
pub record IsOf (s : Schema) (vars : List Var) (asked : Option TTy) (r : Typed) : Type 0 where
  pub expr : IsExpr s (scope_of vars) r.ty (expr_of r.tree)
  pub type : IsType s r.ty
  pub same : IfSome asked (λ t. r.ty ≡ t)

-- ---- outcomes

pub known : {A : Type 0} (o : Option A) (fault : TypeErr) (a : A) → or_else o fault ≡ Ok a → o ≡ Some a
known (Some x) fault a h = ap Some (ok_same x a h)
known None fault a h = let never : ⊥ = cc in absurd never

-- ---- the same type

same_base_is : (a b : TBase) → same_base a b ≡ true → a ≡ b
same_base_is base.Bool base.Bool h = refl
same_base_is base.Bool base.Int h = cc
same_base_is base.Bool base.Text h = cc
same_base_is base.Bool (base.Id n) h = cc
same_base_is base.Int base.Bool h = cc
same_base_is base.Int base.Int h = refl
same_base_is base.Int base.Text h = cc
same_base_is base.Int (base.Id n) h = cc
same_base_is base.Text base.Bool h = cc
same_base_is base.Text base.Int h = cc
same_base_is base.Text base.Text h = refl
same_base_is base.Text (base.Id n) h = cc
same_base_is (base.Id m) base.Bool h = cc
same_base_is (base.Id m) base.Int h = cc
same_base_is (base.Id m) base.Text h = cc
same_base_is (base.Id m) (base.Id n) h = ap base.Id (eqb-true m n h)

same_type_is : (a b : TTy) → same_type a b ≡ true → a ≡ b
unfolding same_type
same_type_is (Plain a) (Plain b) h = ap Plain (same_base_is a b h)
same_type_is (Plain a) (Set n) h = cc
same_type_is (Plain a) (Opt b) h = cc
same_type_is (Set m) (Plain b) h = cc
same_type_is (Set m) (Set n) h = ap Set (eqb-true m n h)
same_type_is (Set m) (Opt b) h = cc
same_type_is (Opt a) (Plain b) h = cc
same_type_is (Opt a) (Set n) h = cc
same_type_is (Opt a) (Opt b) h = ap Opt (same_base_is a b h)

chosen : (found : Typed) (t : TTy) (r : Typed) (b : Bool) → same_type found.ty t ≡ b → (if b then Ok found else Err (WrongType found.at)) ≡ Ok r → (found ≡ r) × (found.ty ≡ t)
chosen found t r true e h = (ok_same found r h, same_type_is found.ty t e)
chosen found t r false e h = let never : ⊥ = cc in absurd never

pub fits_is : (found : Typed) (asked : Option TTy) (r : Typed) → fits found asked ≡ Ok r → (found ≡ r) × IfSome asked (λ t. found.ty ≡ t)
unfolding fits
fits_is found None r h = (ok_same found r h, tt)
fits_is found (Some t) r h = chosen found t r (same_type found.ty t) refl h

pub fitted : (s : Schema) (vars : List Var) (asked : Option TTy) (at : ℕ) (ty : TTy) (tree : TExpr) (x : Expr) (r : Typed)
    → expr_of tree ≡ x → fits (of_type at ty tree) asked ≡ Ok r → IsExpr s (scope_of vars) ty x → IsType s ty → IsOf s vars asked r
fitted s vars asked at ty tree x r seen h typed ok =
    let k = fits_is (of_type at ty tree) asked r h in
    let made : IsOf s vars asked (of_type at ty tree) = record { expr = subst (λ z. IsExpr s (scope_of vars) ty z) (sym seen) typed; type = ok; same = k.1 } in
    subst (λ z. IsOf s vars asked z) k.0 made

pub literals_of : (asked : Option TTy) (at : ℕ) (ty : TTy) (tree : TExpr) (x : Expr) (r : Typed)
    → expr_of tree ≡ x → fits (of_type at ty tree) asked ≡ Ok r → HasLiterals (expr_of r.tree) → HasLiterals x
literals_of asked at ty tree x r seen h lit =
    let k = fits_is (of_type at ty tree) asked r h in
    let there : HasLiterals (expr_of tree) = subst (λ (z : Typed). HasLiterals (expr_of z.tree)) (sym k.0) lit in
    subst HasLiterals seen there

-- what is of the type that was asked
pub at_type : (s : Schema) (vars : List Var) (t : TTy) (r : Typed) → IsOf s vars (Some t) r → IsExpr s (scope_of vars) t (expr_of r.tree)
at_type s vars t r a = subst (λ z. IsExpr s (scope_of vars) z (expr_of r.tree)) a.same a.expr

-- what is of this type
pub of_this : (s : Schema) (vars : List Var) (asked : Option TTy) (t : TTy) (r : Typed) → IsOf s vars asked r → r.ty ≡ t → IsExpr s (scope_of vars) t (expr_of r.tree)
of_this s vars asked t r a e = subst (λ z. IsExpr s (scope_of vars) z (expr_of r.tree)) e a.expr

-- ---- ids, base types, options and sets

pub id_is : (t : TTy) (at m : ℕ) → id_of t at ≡ Ok m → t ≡ Plain (base.Id m)
unfolding id_of
id_is (Plain base.Bool) at m h = cc
id_is (Plain base.Int) at m h = cc
id_is (Plain base.Text) at m h = cc
id_is (Plain (base.Id n)) at m h = ap (λ k. Plain (base.Id k)) (ok_same n m h)
id_is (Set n) at m h = cc
id_is (Opt b) at m h = cc

pub base_is : (t : TTy) (at : ℕ) (b : TBase) → base_of t at ≡ Ok b → t ≡ Plain b
unfolding base_of
base_is (Plain a) at b h = ap Plain (ok_same a b h)
base_is (Set n) at b h = cc
base_is (Opt a) at b h = cc

pub option_is : (t : TTy) (at : ℕ) (b : TBase) → option_of t at ≡ Ok b → t ≡ Opt b
unfolding option_of
option_is (Plain a) at b h = cc
option_is (Set n) at b h = cc
option_is (Opt a) at b h = ap Opt (ok_same a b h)

pub set_is : (t : TTy) (at m : ℕ) → set_of_ids t at ≡ Ok m → t ≡ Set m
unfolding set_of_ids
set_is (Plain a) at m h = cc
set_is (Set n) at m h = ap Set (ok_same n m h)
set_is (Opt a) at m h = cc

-- ---- variables

append-scope : (vars : List Var) (v : Var) → scope_of (vars ++ v ∷ []) ≡ scope_of vars ++ v.ty ∷ []
append-scope [] v = refl
append-scope (w ∷ vars) v = ap (λ (ts : Scope). w.ty ∷ ts) (append-scope vars v)

append-typed : (s : Schema) (vars : List Var) (v : Var) → AreTyped s vars → IsType s v.ty → AreTyped s (vars ++ v ∷ [])
append-typed s [] v ok here = (here, tt)
append-typed s (w ∷ vars) v ok here = (ok.0, append-typed s vars v ok.1 here)

abbrev one_more : Named → TTy → Var
one_more x ty = record { name = x.name; ty = ty }

under_chosen : (vars : List Var) (x : Named) (ty : TTy) (inner : List Var) (b : Bool) → (if b then Err (Twice x.at) else Ok (vars ++ one_more x ty ∷ [])) ≡ Ok inner → vars ++ one_more x ty ∷ [] ≡ inner
under_chosen vars x ty inner true h = let never : ⊥ = cc in absurd never
under_chosen vars x ty inner false h = ok_same (vars ++ one_more x ty ∷ []) inner h

under_is : (vars : List Var) (x : Named) (ty : TTy) (inner : List Var) → under vars x ty ≡ Ok inner → vars ++ one_more x ty ∷ [] ≡ inner
unfolding under
under_is vars x ty inner h = under_chosen vars x ty inner (list_any (λ (v : Var). bytes_eq v.name x.name) vars) h

pub inner_scope : (vars : List Var) (x : Named) (ty : TTy) (inner : List Var) → under vars x ty ≡ Ok inner → scope_of inner ≡ scope_of vars ++ ty ∷ []
inner_scope vars x ty inner h = sym (ap scope_of (under_is vars x ty inner h)) ∙ append-scope vars (one_more x ty)

pub inner_typed : (s : Schema) (vars : List Var) (x : Named) (ty : TTy) (inner : List Var) → under vars x ty ≡ Ok inner → AreTyped s vars → IsType s ty → AreTyped s inner
inner_typed s vars x ty inner h ok here = subst (AreTyped s) (under_is vars x ty inner h) (append-typed s vars (one_more x ty) ok here)

typed_at : (s : Schema) (vars : List Var) (d : ℕ) (v : Var) → AreTyped s vars → slice_get vars d ≡ Some v → IsType s v.ty
typed_at s [] d v ok h = let never : ⊥ = cc in absurd never
typed_at s (w ∷ vars) zero v ok h = let e : w ≡ v = cc in subst (λ (z : Var). IsType s z.ty) e ok.0
typed_at s (w ∷ vars) (suc d) v ok h = typed_at s vars d v ok.1 h

var_chosen : (s : Schema) (vars : List Var) (o : Option ℕ) (r : ℕ × TTy) → AreTyped s vars
    → option_and_then (λ d. option_map (λ (v : Var). (d, v.ty)) (slice_get vars d)) o ≡ Some r → (slice_get (scope_of vars) r.0 ≡ Some r.1) × IsType s r.1
var_chosen s vars None r ok h = let never : ⊥ = cc in absurd never
var_chosen s vars (Some d) r ok h = at_depth (slice_get vars d) refl h
  where
    at_depth : (o : Option Var) → slice_get vars d ≡ o → option_map (λ (v : Var). (d, v.ty)) o ≡ Some r → (slice_get (scope_of vars) r.0 ≡ Some r.1) × IsType s r.1
    at_depth None is h = let never : ⊥ = cc in absurd never
    at_depth (Some v) is h =
        let e : (d, v.ty) ≡ r = cc in
        let there : slice_get (scope_of vars) d ≡ Some v.ty = slice_get-map (λ (v : Var). v.ty) vars d ∙ ap (option_map (λ (v : Var). v.ty)) is in
        subst (λ (z : ℕ × TTy). (slice_get (scope_of vars) z.0 ≡ Some z.1) × IsType s z.1) e (there, typed_at s vars d v ok is)

pub var_is : (s : Schema) (vars : List Var) (name : Name) (r : ℕ × TTy) → AreTyped s vars → var_named vars name ≡ Some r → (slice_get (scope_of vars) r.0 ≡ Some r.1) × IsType s r.1
unfolding var_named
var_is s vars name r ok h = var_chosen s vars (position (λ (v : Var). bytes_eq v.name name) vars) r ok h

-- ---- what a name names is there under its number

there_is : {A : Type 0} (number : A → ℕ) (p : A → Bool) (xs : List A) (m : ℕ) → option_map number (find p xs) ≡ Some m → IsTrue (is_some (find (λ x. number x == m) xs))
there_is number p [] m h = let never : ⊥ = cc in absurd never
there_is {A} number p (x ∷ xs) m h = here (p x) (there_is number p xs m) h
  where
    other : (b : Bool) → IsTrue (is_some (find (λ x. number x == m) xs)) → IsTrue (is_some (cond b (Some x) (find (λ x. number x == m) xs)))
    other true h = refl
    other false h = h

    here : (b : Bool) → (option_map number (find p xs) ≡ Some m → IsTrue (is_some (find (λ x. number x == m) xs))) → option_map number (cond b (Some x) (find p xs)) ≡ Some m
        → IsTrue (is_some (cond (number x == m) (Some x) (find (λ x. number x == m) xs)))
    here true later h = let e : number x ≡ m = cc in rw (eq-eqb (number x) m e) refl
    here false later h = other (number x == m) (later h)

pub model_is : (s : Schema) (name : Name) (m : ℕ) → model_named s name ≡ Some m → HasModel s m
unfolding model_named
model_is s name m h = there_is (λ (i : ModelInfo). i.number) (λ (i : ModelInfo). bytes_eq i.name name) s.models m h

pub static_is : (s : Schema) (name : Name) (n : ℕ) → static_named s name ≡ Some n → IsTrue (is_some (static_of s n))
unfolding static_named
static_is s name n h = there_is (λ (i : StaticInfo). i.number) (λ (i : StaticInfo). bytes_eq i.name name) s.statics n h

-- a field of a model, where the fields' numbers differ
no_earlier : (f : FieldInfo) (fs : List FieldInfo) (p : FieldInfo → Bool) (g : FieldInfo) → AllByRecursion (λ n. nat_eq f.number n ≡ false) (map (λ (h : FieldInfo). h.number) fs) → find p fs ≡ Some g → (f.number == g.number) ≡ false
no_earlier f [] p g differ h = let never : ⊥ = cc in absurd never
no_earlier f (h ∷ fs) p g differ found = at_first (p h) (no_earlier f fs p g differ.1) found
  where
    at_first : (b : Bool) → (find p fs ≡ Some g → (f.number == g.number) ≡ false) → cond b (Some h) (find p fs) ≡ Some g → (f.number == g.number) ≡ false
    at_first true later e = let same : h ≡ g = cc in subst (λ (z : FieldInfo). (f.number == z.number) ≡ false) same differ.0
    at_first false later e = later e

by_number : (fs : List FieldInfo) (p : FieldInfo → Bool) (g : FieldInfo) → IsDistinct nat_eq (map (λ (f : FieldInfo). f.number) fs) → find p fs ≡ Some g → find (λ (f : FieldInfo). f.number == g.number) fs ≡ Some g
unfolding IsDistinct
by_number [] p g differ h = let never : ⊥ = cc in absurd never
by_number (f ∷ fs) p g differ h = at_first (p f) (by_number fs p g differ.1) h
  where
    at_first : (b : Bool) → (find p fs ≡ Some g → find (λ (f : FieldInfo). f.number == g.number) fs ≡ Some g) → cond b (Some f) (find p fs) ≡ Some g
        → cond (f.number == g.number) (Some f) (find (λ (f : FieldInfo). f.number == g.number) fs) ≡ Some g
    at_first true later e = let same : f ≡ g = cc in rw (eq-eqb f.number g.number (ap (λ (z : FieldInfo). z.number) same)) (ap Some same)
    at_first false later e = rw (no_earlier f fs p g differ.0 e) (later e)

type_among : (s : Schema) (fs : List FieldInfo) (p : FieldInfo → Bool) (g : FieldInfo) → AllByRecursion (λ (f : FieldInfo). IsType s f.ty) fs → find p fs ≡ Some g → IsType s g.ty
type_among s [] p g ok h = let never : ⊥ = cc in absurd never
type_among s (f ∷ fs) p g ok h = at_first (p f) (type_among s fs p g ok.1) h
  where
    at_first : (b : Bool) → (find p fs ≡ Some g → IsType s g.ty) → cond b (Some f) (find p fs) ≡ Some g → IsType s g.ty
    at_first true later e = let same : f ≡ g = cc in subst (λ (z : FieldInfo). IsType s z.ty) same ok.0
    at_first false later e = later e

fields_at : (s : Schema) (ms : List ModelInfo) (p : ModelInfo → Bool) (i : ModelInfo) → AllByRecursion (HasFields s) ms → find p ms ≡ Some i → HasFields s i
fields_at s [] p i ok h = let never : ⊥ = cc in absurd never
fields_at s (j ∷ ms) p i ok h = at_first (p j) (fields_at s ms p i ok.1) h
  where
    at_first : (b : Bool) → (find p ms ≡ Some i → HasFields s i) → cond b (Some j) (find p ms) ≡ Some i → HasFields s i
    at_first true later e = let same : j ≡ i = cc in subst (HasFields s) same ok.0
    at_first false later e = later e

abbrev number_and_type : FieldInfo → ℕ × TTy
number_and_type f = (f.number, f.ty)

field_chosen : (s : Schema) (name : Name) (r : ℕ × TTy) (o : Option ModelInfo) → ((i : ModelInfo) → o ≡ Some i → HasFields s i)
    → option_and_then (λ (i : ModelInfo). option_map number_and_type (find (λ (f : FieldInfo). bytes_eq f.name name) i.fields)) o ≡ Some r
    → (option_map (λ (f : FieldInfo). f.ty) (option_and_then (λ (i : ModelInfo). find (λ (f : FieldInfo). f.number == r.0) i.fields) o) ≡ Some r.1) × IsType s r.1
field_chosen s name r None ok h = let never : ⊥ = cc in absurd never
field_chosen s name r (Some i) ok h = at_field (find (λ (f : FieldInfo). bytes_eq f.name name) i.fields) refl h
  where
    at_field : (o : Option FieldInfo) → find (λ (f : FieldInfo). bytes_eq f.name name) i.fields ≡ o → option_map number_and_type o ≡ Some r
        → (option_map (λ (f : FieldInfo). f.ty) (find (λ (f : FieldInfo). f.number == r.0) i.fields) ≡ Some r.1) × IsType s r.1
    at_field None is h = let never : ⊥ = cc in absurd never
    at_field (Some g) is h =
        let e : (g.number, g.ty) ≡ r = cc in
        let has = ok i refl in
        let found = by_number i.fields (λ (f : FieldInfo). bytes_eq f.name name) g has.numbers is in
        subst (λ (z : ℕ × TTy). (option_map (λ (f : FieldInfo). f.ty) (find (λ (f : FieldInfo). f.number == z.0) i.fields) ≡ Some z.1) × IsType s z.1) e
        (ap (option_map (λ (f : FieldInfo). f.ty)) found, type_among s i.fields (λ (f : FieldInfo). bytes_eq f.name name) g has.types is)

pub field_is : (s : Schema) (m : ℕ) (name : Name) (r : ℕ × TTy) → HaveFields s → field_named s m name ≡ Some r → (type_of s m r.0 ≡ Some r.1) × IsType s r.1
unfolding field_named
field_is s m name r ok h =
    field_chosen s name r (model_of s m) (λ i found. fields_at s s.models (λ (i : ModelInfo). i.number == m) i ok found) h

pub record_field_is : (s : Schema) (t : TTy) (at : ℕ) (f : Named) (r : ℕ × ℕ × TTy) → HaveFields s → field_of_record s t at f ≡ Ok r
    → (t ≡ Plain (base.Id r.0)) × (type_of s r.0 r.1 ≡ Some r.2) × IsType s r.2
unfolding field_of_record
record_field_is s t at f r ok h =
    let last : ℕ → ℕ × TTy → Checked (ℕ × ℕ × TTy) = λ m field. Ok (m, field.0, field.1) in
    let rest : ℕ → Checked (ℕ × ℕ × TTy) = λ m. or_else (field_named s m f.name) (Unknown f.at) >>= last m in
    let model = first_part (id_of t at) rest r h in
    let field = first_part (or_else (field_named s model.0 f.name) (Unknown f.at)) (last model.0) r model.2 in
    let named = field_is s model.0 f.name field.0 ok (known (field_named s model.0 f.name) (Unknown f.at) field.0 field.1) in
    let e : (model.0, field.0.0, field.0.1) ≡ r = ok_same (model.0, field.0.0, field.0.1) r field.2 in
    subst (λ (z : ℕ × ℕ × TTy). (t ≡ Plain (base.Id z.0)) × (type_of s z.0 z.1 ≡ Some z.2) × IsType s z.2) e (id_is t at model.0 model.1, named.0, named.1)

-- ---- what a set may hold

held_records : (s : Schema) (n m at : ℕ) (b : Bool) (u : Unit {0}) → (n == m) ≡ b → (if b then Ok tt else Err (WrongType at)) ≡ Ok u → m ≡ n
held_records s n m at true u e h = sym (eqb-true n m e)
held_records s n m at false u e h = let never : ⊥ = cc in absurd never

held_principals : (s : Schema) (at : ℕ) (b : Bool) (u : Unit {0}) → (if b then Ok tt else Err (NotPrincipal at)) ≡ Ok u → IsTrue b
held_principals s at true u h = refl
held_principals s at false u h = let never : ⊥ = cc in absurd never

pub held_is : (s : Schema) (content : Content) (m at : ℕ) (u : Unit {0}) → may_hold s content m at ≡ Ok u → HasModel s m → MayHold s (content_of content) m
unfolding may_hold
held_is s Principals m at u h has = held_principals s at (is_principal_model s m) u h
held_is s (Records n) m at u h has = (has, held_records s n m at (n == m) u refl h)
