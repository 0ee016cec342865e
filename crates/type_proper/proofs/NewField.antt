-- A command that adds a field, over a proper schema, fits it.
use Rattle.std.proofs.Common.{◌≡◌, ◌==◌, ℕ, ◌+◌, Bool, true, false, cond, List, [], ◌∷◌, ◌++◌, map, refl, sym, ap, ◌∙◌, subst}
use Rattle.std.specs.Prelude.{Option, Some, None, Ok, is_some, IsTrue, option_and_then}
use Rattle.std.specs.List.{AllByRecursion, find}
use Rattle.std.specs.Option.{option_map}
use Rattle.std.specs.Str.{bytes_eq}
use Rattle.text_tree.specs.declared.named.Named.{Named}
use Rattle.text_tree.specs.declared.models.Base as tree_base
use Rattle.text_tree.specs.declared.models.Base.TheVariants as b
use Rattle.text_tree.specs.declared.models.Ty as tree_ty
use Rattle.text_tree.specs.declared.models.Ty.TheVariants as ty
use Rattle.text_tree.specs.declared.models.FieldDef.{FieldDef}
use Rattle.text_tree.specs.declared.policies.Init as tree_init
use Rattle.text_tree.specs.declared.policies.Policy as tree_policy
use Rattle.type_schema.specs.declared.types.TBase.{TBase}
use Rattle.type_schema.specs.declared.types.TBase.TheVariants as base
use Rattle.type_schema.specs.declared.types.TTy.{TTy}
use Rattle.type_schema.specs.declared.types.TTy.TheVariants.{Plain, Set, Opt}
use Rattle.type_schema.specs.Trees.{Name, Policy, Init, to_none}
use Rattle.type_schema.specs.Schema.{FieldInfo, ModelInfo, Schema, field_in, model_in, model_of, static_of}
use Rattle.type_schema.specs.Typing.{HasModel, IsBase, IsField, IsInit, IsPolicy, IsType}
use Rattle.type_schema.specs.Commands.{Command, add_field, change_model, schema_after, with_field}
use Rattle.type_schema.specs.Views.{init_of}
use Rattle.type_typing.specs.declared.type_err.TypeErr.TheVariants.{Unknown}
use Rattle.type_typing.specs.Names.{field_named, model_named}
use Rattle.type_typing.specs.Outcome.{Checked, ◌>>=◌, or_else}
use Rattle.type_typing.specs.Policies.{typed_base, typed_init, typed_model, typed_type}
use Rattle.type_typing.specs.WellTyped.{HasFields, HaveFields, InitHasLiterals}
use Rattle.type_typing.proofs.Fitted.{model_is}
use Rattle.type_typing.proofs.Sound.{typed_is_well_typed}
use Rattle.type_specs.specs.declared.stage.Stage.{Stage}
use Rattle.type_specs.specs.declared.stage.Stage.TheVariants.{Types, Policies}
use Rattle.type_specs.specs.Models.{policy_at, policy_over, typed_field}
use Rattle.type_commands.specs.declared.thing.Thing.TheVariants as the
use Rattle.type_commands.specs.Resolved.{added_field, field_count, field_seen, init_over, known_model, new_field_in, with_new_field}
use Rattle.type_proper.specs.Shown.{PolicyIsShown}
use Rattle.type_proper.specs.Steady.{FieldIsShown, IsSteady}
use Rattle.type_proper.specs.Literals.{CommandHasLiterals, FieldHasLiterals}
use Rattle.type_proper.specs.Fits.{Fits}
use Rattle.type_proper.proofs.Kept.{Keeps, type-kept}
use Rattle.type_proper.proofs.Lists.{all-fail, all-map, all-weaken}
use Rattle.type_proper.proofs.Lookups.{Becomes, Found, find-changed, keeps-found, static-free}
use Rattle.type_proper.proofs.Grown.{changed_to, fields-more, policy-grown, same-number}
use Rattle.type_proper.proofs.After.{changed, gone, keeps-changed}
use Rattle.type_proper.proofs.WithField.{closed_field-steady}
use Rattle.type_proper.proofs.Resolves.{bound, have-fields, model-there, none-mapped, not-taken, ok-same, or_else-some, over-good}

-- ---- types of fields

model-typed : (s : Schema) (x : Named) (m : ℕ) → typed_model s x ≡ Ok m → HasModel s m
model-typed s x m e = model_is s x.name m (or_else-some (model_named s x.name) _ m e)

base-typed : (s : Schema) (x : tree_base.Base) (t : TBase) → typed_base s x ≡ Ok t → IsBase s t
unfolding typed_base
base-typed s (b.Bool at) t e = subst (IsBase s) (ok-same base.Bool t e) tt
base-typed s (b.Int at) t e = subst (IsBase s) (ok-same base.Int t e) tt
base-typed s (b.Text at) t e = subst (IsBase s) (ok-same base.Text t e) tt
base-typed s (b.Id model at) t e =
    let (m, there, e1) = bound (typed_model s model) (λ m. Ok (base.Id m)) t e in
    subst (IsBase s) (ok-same (base.Id m) t e1) (model-typed s model m there)

pub type-typed : (s : Schema) (x : tree_ty.Ty) (t : TTy) → typed_type s x ≡ Ok t → IsType s t
unfolding typed_type
type-typed s (ty.Plain plain) t e =
    let (u, there, e1) = bound (typed_base s plain) (λ u. Ok (Plain u)) t e in
    subst (IsType s) (ok-same (Plain u) t e1) (base-typed s plain u there)
type-typed s (ty.Set model at) t e =
    let (m, there, e1) = bound (typed_model s model) (λ m. Ok (Set m)) t e in
    subst (IsType s) (ok-same (Set m) t e1) (model-typed s model m there)
type-typed s (ty.Opt inside at) t e =
    let (u, there, e1) = bound (typed_base s inside) (λ u. Ok (Opt u)) t e in
    subst (IsType s) (ok-same (Opt u) t e1) (base-typed s inside u there)

-- where names name the same models, types are the same
module _ (s after : Schema) (same : (name : Name) → model_named after name ≡ model_named s name) where
  base-same : (x : tree_base.Base) → typed_base after x ≡ typed_base s x
  unfolding typed_base
  base-same (b.Bool at) = refl
  base-same (b.Int at) = refl
  base-same (b.Text at) = refl
  base-same (b.Id model at) = ap (λ o. or_else o (Unknown model.at) >>= (λ m. Ok (base.Id m))) (same model.name)

  pub type-same : (x : tree_ty.Ty) → typed_type after x ≡ typed_type s x
  unfolding typed_type
  type-same (ty.Plain plain) = ap (λ (o : Checked TBase). o >>= (λ u. Ok (Plain u))) (base-same plain)
  type-same (ty.Set model at) = ap (λ o. or_else o (Unknown model.at) >>= (λ m. Ok (Set m))) (same model.name)
  type-same (ty.Opt inside at) = ap (λ (o : Checked TBase). o >>= (λ u. Ok (Opt u))) (base-same inside)

-- ---- a field of a stage

pub field-parts : (stage : Stage) (s : Schema) (m n : ℕ) (f : FieldDef) (info : FieldInfo) → typed_field stage s m n f ≡ Ok info
    → (t : TTy) × (read : Policy) × (write : Policy) × (typed_type s f.ty ≡ Ok t) × (policy_at stage s m f.read ≡ Ok read) × (policy_at stage s m f.write ≡ Ok write)
    × ((record { number = n; name = f.name.name; ty = t; read = read; write = write }) ≡ info)
unfolding typed_field
field-parts stage s m n f info e =
    let (t, there, e1) = bound (typed_type s f.ty) _ info e in
    let (read, one, e2) = bound (policy_at stage s m f.read) _ info e1 in
    let (write, other, e3) = bound (policy_at stage s m f.write) _ info e2 in
    (t, read, write, there, one, other, ok-same _ info e3)

pub none-at : (s : Schema) (m : ℕ) (p : tree_policy.Policy) (q : Policy) → policy_at Types s m p ≡ Ok q → to_none ≡ q
unfolding policy_at
none-at s m p q e = ok-same to_none q e

pub over-at : (s : Schema) (m : ℕ) (p : tree_policy.Policy) (q : Policy) → policy_at Policies s m p ≡ Ok q → policy_over s m p ≡ Ok q
unfolding policy_at
over-at s m p q e = e

-- ---- names, and lookups, where a model has one more field

named-changed : (m : ℕ) (f : FieldInfo) (name : Name) (ms : List ModelInfo)
    → option_map (λ (i : ModelInfo). i.number) (find (λ (i : ModelInfo). bytes_eq i.name name) (change_model m (with_field f) ms)) ≡ option_map (λ (i : ModelInfo). i.number) (find (λ (i : ModelInfo). bytes_eq i.name name) ms)
named-changed m f name [] = refl
named-changed m f name (info ∷ ms) = at (named-changed m f name ms) (info.number == m)
  where
    out : (i j : ModelInfo) → i.number ≡ j.number → (b : Bool) (one other : Option ModelInfo) → option_map (λ (i : ModelInfo). i.number) one ≡ option_map (λ (i : ModelInfo). i.number) other
        → option_map (λ (i : ModelInfo). i.number) (cond b (Some i) one) ≡ option_map (λ (i : ModelInfo). i.number) (cond b (Some j) other)
    out i j same true one other h = ap Some same
    out i j same false one other h = h

    at : option_map (λ (i : ModelInfo). i.number) (find (λ (i : ModelInfo). bytes_eq i.name name) (change_model m (with_field f) ms)) ≡ option_map (λ (i : ModelInfo). i.number) (find (λ (i : ModelInfo). bytes_eq i.name name) ms)
        → (b : Bool) → option_map (λ (i : ModelInfo). i.number) (find (λ (i : ModelInfo). bytes_eq i.name name) (cond b (with_field f info) info ∷ change_model m (with_field f) ms))
        ≡ option_map (λ (i : ModelInfo). i.number) (find (λ (i : ModelInfo). bytes_eq i.name name) (info ∷ ms))
    at rest true = out (with_field f info) info refl (bytes_eq info.name name) _ _ rest
    at rest false = out info info refl (bytes_eq info.name name) _ _ rest

-- a field of the same number and type in place of another
last-type : (fields : List FieldInfo) (f g : FieldInfo) (k : ℕ) → f.number ≡ g.number → f.ty ≡ g.ty
    → option_map (λ (h : FieldInfo). h.ty) (field_in (fields ++ f ∷ []) k) ≡ option_map (λ (h : FieldInfo). h.ty) (field_in (fields ++ g ∷ []) k)
last-type [] f g k number type = ap (λ n. option_map (λ (h : FieldInfo). h.ty) (cond (n == k) (Some f) None)) number ∙ out (g.number == k)
  where
    out : (b : Bool) → option_map (λ (h : FieldInfo). h.ty) (cond b (Some f) None) ≡ option_map (λ (h : FieldInfo). h.ty) (cond b (Some g) None)
    out true = ap Some type
    out false = refl
last-type (x ∷ fields) f g k number type = out (last-type fields f g k number type) (x.number == k)
  where
    out : option_map (λ (h : FieldInfo). h.ty) (field_in (fields ++ f ∷ []) k) ≡ option_map (λ (h : FieldInfo). h.ty) (field_in (fields ++ g ∷ []) k) → (b : Bool)
        → option_map (λ (h : FieldInfo). h.ty) (cond b (Some x) (field_in (fields ++ f ∷ []) k)) ≡ option_map (λ (h : FieldInfo). h.ty) (cond b (Some x) (field_in (fields ++ g ∷ []) k))
    out rest true = refl
    out rest false = rest

module _ (s : Schema) (m k : ℕ) (f g : FieldInfo) (number : f.number ≡ g.number) (type : f.ty ≡ g.ty) where
  replaced : (n : ℕ) (i : ModelInfo) → Becomes (the.Static k) n (changed_to m (with_field f) i) (changed_to m (with_field g) i)
  replaced n i = at (i.number == m)
    where
      at : (b : Bool) → Becomes (the.Static k) n (cond b (with_field f i) i) (cond b (with_field g i) i)
      at true = record { principal = λ h. h; field = λ j t other is. (sym (last-type i.fields f g j number type) ∙ is, static-free k t) }
      at false = record { principal = λ h. h; field = λ j t other is. (is, static-free k t) }

  -- what is found with the one field is found with the other
  found-replaced : (after : Schema) → after.models ≡ change_model m (with_field g) s.models → (n : ℕ) (info : ModelInfo) (o : Option ModelInfo) → model_of s n ≡ o
      → option_map (changed_to m (with_field f)) o ≡ Some info → Found (the.Static k) after n info
  found-replaced after are n info None is e = absurd (cc e)
  found-replaced after are n info (Some i) is e =
      let there : changed_to m (with_field f) i ≡ info = cc e in
      let found : model_of after n ≡ Some (changed_to m (with_field g) i) =
      ap (λ (ms : List ModelInfo). find (λ (j : ModelInfo). j.number == n) ms) are
      ∙ find-changed (λ (j : ModelInfo). j.number) (changed_to m (with_field g)) (same-number m (with_field g) (λ i. refl)) n s.models
      ∙ ap (option_map (changed_to m (with_field g))) is in
      (changed_to m (with_field g) i, found, subst (λ (j : ModelInfo). Becomes (the.Static k) n j (changed_to m (with_field g) i)) there (replaced n i))

  pub keeps-replaced : (known after : Schema) → known.models ≡ change_model m (with_field f) s.models → after.models ≡ change_model m (with_field g) s.models → known.statics ≡ s.statics → after.statics ≡ s.statics
      → Keeps (the.Static k) known after
  keeps-replaced known after are were statics kept =
      keeps-found (the.Static k) known after
      (λ n other has. ap (λ all. is_some (find (λ i. i.number == n) all)) (kept ∙ sym statics) ∙ has)
      (λ n info free is.
      found-replaced after were n info (model_of s n) refl
      (sym (find-changed (λ (j : ModelInfo). j.number) (changed_to m (with_field f)) (same-number m (with_field f) (λ i. refl)) n s.models)
      ∙ sym (ap (λ (ms : List ModelInfo). find (λ (j : ModelInfo). j.number == n) ms) are) ∙ is))

-- what is there does not depend on the next numbers
base-there : (s t : Schema) → s.models ≡ t.models → (x : TBase) → IsBase s x → IsBase t x
base-there s t are base.Bool is = tt
base-there s t are base.Int is = tt
base-there s t are base.Text is = tt
base-there s t are (base.Id m) is = subst (λ (ms : List ModelInfo). IsTrue (is_some (model_in ms m))) are is

type-there : (s t : Schema) → s.models ≡ t.models → (x : TTy) → IsType s x → IsType t x
type-there s t are (Plain x) is = base-there s t are x is
type-there s t are (Set m) is = subst (λ (ms : List ModelInfo). IsTrue (is_some (model_in ms m))) are is
type-there s t are (Opt x) is = base-there s t are x is

pub fields-there : (s t : Schema) → s.models ≡ t.models → HaveFields s → HaveFields t
fields-there s t are have =
    subst (λ (ms : List ModelInfo). AllByRecursion (HasFields t) ms) are
    (all-weaken (HasFields s) (HasFields t)
    (λ info h. record { numbers = h.numbers; types = all-weaken (λ (f : FieldInfo). IsType s f.ty) (λ (f : FieldInfo). IsType t f.ty) (λ f is. type-there s t are f.ty is) info.fields h.types }) s.models have)

abbrev number_and_type : FieldInfo → ℕ × TTy
number_and_type f = (f.number, f.ty)

-- ---- the command

module _ (s : Schema) (steady : IsSteady s) where
  abbrev named-in : Name → ModelInfo → Option (ℕ × TTy)
  named-in name info = option_map number_and_type (find (λ (f : FieldInfo). bytes_eq f.name name) info.fields)

  new-field : (m : ℕ) (name : Name) → is_some (field_named s m name) ≡ false → (info : ModelInfo) → model_of s m ≡ Some info → AllByRecursion (λ n. bytes_eq n name ≡ false) (map (λ (g : FieldInfo). g.name) info.fields)
  unfolding field_named
  new-field m name none info there =
      let found : is_some (named-in name info) ≡ false = sym (ap (λ (o : Option ModelInfo). is_some (option_and_then (named-in name) o)) there) ∙ none in
      all-map (λ n. bytes_eq n name ≡ false) (λ (g : FieldInfo). g.name) info.fields
      (all-fail (λ (f : FieldInfo). bytes_eq f.name name) info.fields (none-mapped number_and_type (find (λ (f : FieldInfo). bytes_eq f.name name) info.fields) found))

  -- the field, which is seen by its policies
  field-fits : (m : ℕ) (f : FieldDef) (init : Init) (field : FieldInfo) → HasModel s m
      → ((info : ModelInfo) → model_of s m ≡ Some info → AllByRecursion (λ n. bytes_eq n f.name.name ≡ false) (map (λ (g : FieldInfo). g.name) info.fields))
      → field_seen s m f ≡ Ok field → FieldHasLiterals field
      → (field.number ≡ s.next_field) × (field.name ≡ f.name.name) × IsType s field.ty × IsField (schema_after s (add_field m field init)) m field × FieldIsShown field
  unfolding field_seen model_named
  field-fits m f init field has new e lit =
      let (closed, goes, e1) = bound (typed_field Types s m s.next_field f) _ field e in
      let a = field-parts Types s m s.next_field f closed goes in
      let known : Schema = with_new_field s m closed in
      let z = field-parts Policies known m s.next_field f field e1 in
      let closed-number : closed.number ≡ s.next_field = sym (ap (λ (i : FieldInfo). i.number) a.6) in
      let closed-type : closed.ty ≡ a.0 = sym (ap (λ (i : FieldInfo). i.ty) a.6) in
      let closed-name : closed.name ≡ f.name.name = sym (ap (λ (i : FieldInfo). i.name) a.6) in
      let closed-read : to_none ≡ closed.read = none-at s m f.read a.1 a.4 ∙ ap (λ (i : FieldInfo). i.read) a.6 in
      let closed-write : to_none ≡ closed.write = none-at s m f.write a.2 a.5 ∙ ap (λ (i : FieldInfo). i.write) a.6 in
      let there : IsType s a.0 = type-typed s f.ty a.0 a.3 in
      let later : Schema = changed s steady m (with_field closed) (s.next_field + 1) s.added in
      let grows : Keeps (the.Static s.next_static) s later =
      keeps-changed s steady m (s.next_field + 1) s.added (with_field closed) (λ i. refl)
      (λ n i. record { principal = λ h. h; field = λ g t other is. (fields-more i.fields closed g t is, static-free s.next_static t) }) in
      let closed-is : IsField later m closed = record {
        ty = subst (IsType later) (sym closed-type) (type-kept (the.Static s.next_static) s later grows a.0 (static-free s.next_static a.0) there);
        read = subst (λ (q : Policy). IsPolicy later m q) closed-read tt;
        write = subst (λ (q : Policy). IsPolicy later m q) closed-write tt;
      } in
      let closed-shown : FieldIsShown closed = (subst PolicyIsShown closed-read tt, subst PolicyIsShown closed-write tt) in
      let known-steady : IsSteady later = closed_field-steady s steady m closed closed-number (λ info is. subst (λ (n : Name). AllByRecursion (λ k. bytes_eq k n ≡ false) (map (λ (g : FieldInfo). g.name) info.fields)) (sym closed-name) (new info is)) closed-is closed-shown in
      let known-fields : HaveFields known = fields-there later known refl (have-fields later known-steady) in
      let known-has : HasModel known m = grows.model m refl has in
      let type : z.0 ≡ a.0 = ok-same z.0 a.0 (sym z.3 ∙ type-same s known (λ name. named-changed m closed name s.models) f.ty ∙ a.3) in
      let lits : FieldHasLiterals (record { number = s.next_field; name = f.name.name; ty = z.0; read = z.1; write = z.2 }) = subst FieldHasLiterals (sym z.6) lit in
      let read = over-good known m f.read z.1 known-fields known-has (over-at known m f.read z.1 z.4) lits.0 in
      let write = over-good known m f.write z.2 known-fields known-has (over-at known m f.write z.2 z.5) lits.1 in
      let number : field.number ≡ s.next_field = sym (ap (λ (i : FieldInfo). i.number) z.6) in
      let field-type : field.ty ≡ z.0 = sym (ap (λ (i : FieldInfo). i.ty) z.6) in
      let after : Schema = schema_after s (add_field m field init) in
      let keeps : Keeps (the.Static s.next_static) known after =
      keeps-replaced s m s.next_static closed field (closed-number ∙ sym number) (closed-type ∙ sym type ∙ sym field-type) known after refl refl refl refl in
      let none-there : static_of known s.next_static ≡ None = gone s steady in
      let made-read : z.1 ≡ field.read = ap (λ (i : FieldInfo). i.read) z.6 in
      let made-write : z.2 ≡ field.write = ap (λ (i : FieldInfo). i.write) z.6 in (
        number,
        sym (ap (λ (i : FieldInfo). i.name) z.6),
        subst (IsType s) (sym (field-type ∙ type)) there,
        record {
          ty = subst (IsType after) (sym field-type) (type-kept (the.Static s.next_static) known after keeps z.0 (static-free s.next_static z.0) (type-typed known f.ty z.0 z.3));
          read = subst (IsPolicy after m) made-read (policy-grown known s.next_static none-there after keeps m z.1 read.0 read.1);
          write = subst (IsPolicy after m) made-write (policy-grown known s.next_static none-there after keeps m z.2 write.0 write.1);
        },
        (subst PolicyIsShown made-read read.1, subst PolicyIsShown made-write write.1),
      )

  pub added_field-fits : (model : Named) (f : FieldDef) (x : Named) (init : tree_init.Init) (command : Command) → CommandHasLiterals command → added_field s model f x init ≡ Ok command → Fits s command
  unfolding added_field init_over
  added_field-fits model f x init command lit e =
      let (m, there, e1) = bound (known_model s model) _ command e in
      let (u, new, e2) = bound (new_field_in s m f.name) _ command e1 in
      let (field, seen, e3) = bound (field_seen s m f) _ command e2 in
      let (first, goes, e4) = bound (init_over s m field.ty x init) _ command e3 in
      let made = ok-same (add_field m field first) command e4 in
      let lits : CommandHasLiterals (add_field m field first) = subst CommandHasLiterals (sym made) lit in
      let has = model-there s model m there in
      let names = new-field m f.name.name (not-taken (is_some (field_named s m f.name.name)) (field_count s m) _ f.name u new) in
      let fits = field-fits m f first field has names seen lits.0 in
      let (typed, is, e5) = bound (typed_init s m field.ty x init) (λ typed. Ok (init_of typed)) first goes in
      let same : init_of typed ≡ first = ok-same (init_of typed) first e5 in
      let init_lits : InitHasLiterals (init_of typed) = subst InitHasLiterals (sym same) lits.1 in
      let good = typed_is_well_typed.inits s m field.ty x init typed (have-fields s steady) has fits.2 is init_lits in
      subst (Fits s) made
      (fits.0, λ info is. subst (λ (n : Name). AllByRecursion (λ k. bytes_eq k n ≡ false) (map (λ (g : FieldInfo). g.name) info.fields)) (sym fits.1) (names info is), fits.3, fits.4, subst (IsInit s m field.ty) same good)
