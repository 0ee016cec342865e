-- A command that creates a model, over a proper schema, fits it.
use Rattle.std.proofs.Common.{◌≡◌, ◌==◌, ℕ, ◌+◌, Bool, true, false, cond, List, [], ◌∷◌, ◌++◌, length, map, refl, sym, ap, ◌∙◌, subst, arith, eq-eqb, append_assoc, append-nil}
use Rattle.std.specs.Prelude.{Some, None, Ok, is_some, IsTrue}
use Rattle.std.specs.List.{AllByRecursion, IsDistinct, find, list_any}
use Rattle.std.specs.Option.{option_map}
use Rattle.std.specs.Str.{bytes_eq}
use Rattle.std.proofs.lemmas.List.{length-append}
use Rattle.text_tree.specs.declared.models.FieldDef.{FieldDef}
use Rattle.text_tree.specs.declared.models.ModelDef.{ModelDef}
use Rattle.type_schema.specs.Trees.{Name, Policy, to_none}
use Rattle.type_schema.specs.Schema.{FieldInfo, ModelInfo, Schema, field_in, model_in, static_of}
use Rattle.type_schema.specs.Typing.{HasModel, IsField, IsModel, IsPolicy, IsType}
use Rattle.type_schema.specs.Commands.{Command, AreNumberedFrom, create_model, schema_after}
use Rattle.type_typing.specs.Names.{model_named}
use Rattle.type_typing.specs.WellTyped.{HaveFields, PolicyHasLiterals}
use Rattle.type_specs.specs.declared.stage.Stage.{Stage}
use Rattle.type_specs.specs.declared.stage.Stage.TheVariants.{Types, Policies}
use Rattle.type_specs.specs.InTurn.{in_turn}
use Rattle.type_specs.specs.Models.{bare_model, created_model, policy_at, typed_field, typed_model, with_model, with_names, with_next_field, with_typed}
use Rattle.type_specs.specs.NewNames.{fields_differ, is_taken, new_field, new_model, with_field_name}
use Rattle.type_commands.specs.declared.thing.Thing.TheVariants as the
use Rattle.type_commands.specs.Resolved.{created}
use Rattle.type_proper.specs.Shown.{PolicyIsShown}
use Rattle.type_proper.specs.Steady.{FieldIsShown, IsSteady, ModelIsShown}
use Rattle.type_proper.specs.Literals.{CommandHasLiterals, FieldHasLiterals, ModelHasLiterals}
use Rattle.type_proper.specs.Fits.{Fits, IsNewName}
use Rattle.type_proper.proofs.Kept.{Keeps, neither, type-kept}
use Rattle.type_proper.proofs.Lists.{all-weaken, distinct-append, distinct-none, distinct-one}
use Rattle.type_proper.proofs.Lookups.{Becomes, keeps-found, static-free}
use Rattle.type_proper.proofs.Grown.{policy-grown}
use Rattle.type_proper.proofs.After.{created-steady, gone}
use Rattle.type_proper.proofs.NewField.{field-parts, none-at, over-at, type-same, type-typed}
use Rattle.type_proper.proofs.Resolves.{bound, have-fields, new-name, not-taken, ok-same, over-good}

-- ---- the fields of a stage

abbrev pub FieldsMade : Stage → Schema → ℕ → ℕ → List FieldDef → List FieldInfo → Type 0
FieldsMade stage over m n [] [] = Unit {0}
FieldsMade stage over m n [] (f ∷ fs) = ⊥
FieldsMade stage over m n (d ∷ ds) [] = ⊥
FieldsMade stage over m n (d ∷ ds) (f ∷ fs) = (typed_field stage over m n d ≡ Ok f) × FieldsMade stage over m (n + 1) ds fs

fields-made : (stage : Stage) (over : Schema) (m k : ℕ) (defs : List FieldDef) (done out : List FieldInfo) → in_turn (with_next_field stage over m k) done defs ≡ Ok out
    → (new : List FieldInfo) × (done ++ new ≡ out) × FieldsMade stage over m (k + length done) defs new
unfolding with_next_field
fields-made stage over m k [] done out e = ([], append-nil done ∙ ok-same done out e, tt)
fields-made stage over m k (d ∷ ds) done out e =
    let (more, goes, rest) = bound (with_next_field stage over m k done d) (λ after. in_turn (with_next_field stage over m k) after ds) out e in
    let (f, typed, is) = bound (typed_field stage over m (k + length done) d) (λ (f : FieldInfo). Ok (done ++ f ∷ [])) more goes in
    let made : done ++ f ∷ [] ≡ more = ok-same (done ++ f ∷ []) more is in
    let later = fields-made stage over m k ds more out rest in
    let counted : k + length more ≡ (k + length done) + 1 = omega (arith, ap length made, length-append done (f ∷ [])) in
    (f ∷ later.0, sym (append_assoc done (f ∷ []) later.0) ∙ ap (λ (xs : List FieldInfo). xs ++ later.0) made ∙ later.1, (typed, subst (λ n. FieldsMade stage over m n ds later.0) counted later.2))

pub made-names : (stage : Stage) (over : Schema) (m n : ℕ) (defs : List FieldDef) (fs : List FieldInfo) → FieldsMade stage over m n defs fs → map (λ (f : FieldInfo). f.name) fs ≡ map (λ (d : FieldDef). d.name.name) defs
made-names stage over m n [] [] made = refl
made-names stage over m n [] (f ∷ fs) made = absurd made
made-names stage over m n (d ∷ ds) [] made = absurd made
made-names stage over m n (d ∷ ds) (f ∷ fs) made =
    let a = field-parts stage over m n d f made.0 in
    ap (λ (x : Name). x ∷ map (λ (f : FieldInfo). f.name) fs) (sym (ap (λ (i : FieldInfo). i.name) a.6)) ∙ ap (λ (xs : List Name). d.name.name ∷ xs) (made-names stage over m (n + 1) ds fs made.1)

pub made-numbered : (stage : Stage) (over : Schema) (m n : ℕ) (defs : List FieldDef) (fs : List FieldInfo) → FieldsMade stage over m n defs fs → AreNumberedFrom n fs
made-numbered stage over m n [] [] made = tt
made-numbered stage over m n [] (f ∷ fs) made = absurd made
made-numbered stage over m n (d ∷ ds) [] made = absurd made
made-numbered stage over m n (d ∷ ds) (f ∷ fs) made =
    let a = field-parts stage over m n d f made.0 in
    (sym (ap (λ (i : FieldInfo). i.number) a.6), made-numbered stage over m (n + 1) ds fs made.1)

-- the types of both stages are the same
module _ (named known : Schema) (same : (name : Name) → model_named known name ≡ model_named named name) where
  one-type : (m n : ℕ) (d : FieldDef) (f g : FieldInfo) → typed_field Types named m n d ≡ Ok f → typed_field Policies known m n d ≡ Ok g → (f.number ≡ g.number) × (f.ty ≡ g.ty) × IsType known f.ty
  one-type m n d f g one other =
      let a = field-parts Types named m n d f one in
      let z = field-parts Policies known m n d g other in
      let f-type : f.ty ≡ a.0 = sym (ap (λ (i : FieldInfo). i.ty) a.6) in
      let g-type : g.ty ≡ z.0 = sym (ap (λ (i : FieldInfo). i.ty) z.6) in
      let type : a.0 ≡ z.0 = ok-same a.0 z.0 (sym a.3 ∙ sym (type-same named known same d.ty) ∙ z.3) in
      (sym (ap (λ (i : FieldInfo). i.number) a.6) ∙ ap (λ (i : FieldInfo). i.number) z.6, f-type ∙ type ∙ sym g-type, subst (IsType known) (sym (f-type ∙ type)) (type-typed known d.ty z.0 z.3))

  pub both-types : (m n : ℕ) (defs : List FieldDef) (fs gs : List FieldInfo) → FieldsMade Types named m n defs fs → FieldsMade Policies known m n defs gs → (k : ℕ)
      → option_map (λ (f : FieldInfo). f.ty) (field_in fs k) ≡ option_map (λ (f : FieldInfo). f.ty) (field_in gs k)
  both-types m n [] [] [] one other k = refl
  both-types m n [] (f ∷ fs) gs one other k = absurd one
  both-types m n [] [] (g ∷ gs) one other k = absurd other
  both-types m n (d ∷ ds) [] gs one other k = absurd one
  both-types m n (d ∷ ds) (f ∷ fs) [] one other k = absurd other
  both-types m n (d ∷ ds) (f ∷ fs) (g ∷ gs) one other k =
      let it = one-type m n d f g one.0 other.0 in
      ap (λ j. option_map (λ (h : FieldInfo). h.ty) (cond (j == k) (Some f) (field_in fs k))) it.0 ∙ pick it.1 (both-types m (n + 1) ds fs gs one.1 other.1 k) (g.number == k)
    where
      pick : f.ty ≡ g.ty → option_map (λ (h : FieldInfo). h.ty) (field_in fs k) ≡ option_map (λ (h : FieldInfo). h.ty) (field_in gs k) → (b : Bool)
          → option_map (λ (h : FieldInfo). h.ty) (cond b (Some f) (field_in fs k)) ≡ option_map (λ (h : FieldInfo). h.ty) (cond b (Some g) (field_in gs k))
      pick type rest true = ap Some type
      pick type rest false = rest

  -- with the types alone it is well typed
  closed-fields : (m n : ℕ) (defs : List FieldDef) (fs gs : List FieldInfo) → FieldsMade Types named m n defs fs → FieldsMade Policies known m n defs gs
      → AllByRecursion (IsField known m) fs × AllByRecursion FieldIsShown fs
  closed-fields m n [] [] gs one other = (tt, tt)
  closed-fields m n [] (f ∷ fs) gs one other = absurd one
  closed-fields m n (d ∷ ds) [] gs one other = absurd one
  closed-fields m n (d ∷ ds) (f ∷ fs) [] one other = absurd other
  closed-fields m n (d ∷ ds) (f ∷ fs) (g ∷ gs) one other =
      let a = field-parts Types named m n d f one.0 in
      let it = one-type m n d f g one.0 other.0 in
      let read : to_none ≡ f.read = none-at named m d.read a.1 a.4 ∙ ap (λ (i : FieldInfo). i.read) a.6 in
      let write : to_none ≡ f.write = none-at named m d.write a.2 a.5 ∙ ap (λ (i : FieldInfo). i.write) a.6 in
      let rest = closed-fields m (n + 1) ds fs gs one.1 other.1 in
      ((record { ty = it.2; read = subst (IsPolicy known m) read tt; write = subst (IsPolicy known m) write tt }, rest.0), ((subst PolicyIsShown read tt, subst PolicyIsShown write tt), rest.1))

-- with policies over a schema of which something is kept
module _ (known after : Schema) (k : ℕ) (none : static_of known k ≡ None) (keeps : Keeps (the.Static k) known after) (have : HaveFields known) where
  field-good : (m n : ℕ) (d : FieldDef) (g : FieldInfo) → HasModel known m → typed_field Policies known m n d ≡ Ok g → FieldHasLiterals g → IsField after m g × FieldIsShown g
  field-good m n d g has e lit =
      let z = field-parts Policies known m n d g e in
      let read-is : z.1 ≡ g.read = ap (λ (i : FieldInfo). i.read) z.6 in
      let write-is : z.2 ≡ g.write = ap (λ (i : FieldInfo). i.write) z.6 in
      let type : z.0 ≡ g.ty = ap (λ (i : FieldInfo). i.ty) z.6 in
      let lits : FieldHasLiterals (record { number = n; name = d.name.name; ty = z.0; read = z.1; write = z.2 }) = subst FieldHasLiterals (sym z.6) lit in
      let read = over-good known m d.read z.1 have has (over-at known m d.read z.1 z.4) lits.0 in
      let write = over-good known m d.write z.2 have has (over-at known m d.write z.2 z.5) lits.1 in (
        record {
          ty = subst (IsType after) type (type-kept (the.Static k) known after keeps z.0 (static-free k z.0) (type-typed known d.ty z.0 z.3));
          read = subst (IsPolicy after m) read-is (policy-grown known k none after keeps m z.1 read.0 read.1);
          write = subst (IsPolicy after m) write-is (policy-grown known k none after keeps m z.2 write.0 write.1);
        },
        (subst PolicyIsShown read-is read.1, subst PolicyIsShown write-is write.1),
      )

  pub fields-good : (m n : ℕ) (defs : List FieldDef) (gs : List FieldInfo) → HasModel known m → FieldsMade Policies known m n defs gs → AllByRecursion FieldHasLiterals gs
      → AllByRecursion (IsField after m) gs × AllByRecursion FieldIsShown gs
  fields-good m n [] [] has made lit = (tt, tt)
  fields-good m n [] (g ∷ gs) has made lit = absurd made
  fields-good m n (d ∷ ds) [] has made lit = absurd made
  fields-good m n (d ∷ ds) (g ∷ gs) has made lit =
      let one = field-good m n d g has made.0 lit.0 in
      let rest = fields-good m (n + 1) ds gs has made.1 lit.1 in
      ((one.0, rest.0), (one.1, rest.1))

-- ---- names of fields

any-none : (x : Name) (names : List Name) → list_any (λ name. bytes_eq name x) names ≡ false → AllByRecursion (λ n. bytes_eq n x ≡ false) names
any-none x [] e = tt
any-none x (n ∷ names) e = let un = neither (bytes_eq n x) (list_any (λ name. bytes_eq name x) names) e in (un.0, any-none x names un.1)

differ-on : (defs : List FieldDef) (done out : List Name) → IsDistinct bytes_eq done → in_turn with_field_name done defs ≡ Ok out → IsDistinct bytes_eq (done ++ map (λ (d : FieldDef). d.name.name) defs)
differ-on [] done out distinct e = subst (IsDistinct bytes_eq) (sym (append-nil done)) distinct
differ-on (d ∷ ds) done out distinct e =
    let (more, goes, rest) = bound (with_field_name done d) (λ after. in_turn with_field_name after ds) out e in
    let (u, new, is) = bound (new_field done d.name) (λ _. Ok (done ++ d.name.name ∷ [])) more goes in
    let made : done ++ d.name.name ∷ [] ≡ more = ok-same (done ++ d.name.name ∷ []) more is in
    let apart = any-none d.name.name done (not-taken (list_any (λ name. bytes_eq name d.name.name) done) _ _ d.name u new) in
    let one : IsDistinct bytes_eq (done ++ d.name.name ∷ []) =
    distinct-append bytes_eq done (d.name.name ∷ []) distinct (distinct-one bytes_eq d.name.name)
    (all-weaken (λ n. bytes_eq n d.name.name ≡ false) (λ n. AllByRecursion (λ y. bytes_eq n y ≡ false) (d.name.name ∷ [])) (λ n h. (h, tt)) done apart) in
    let later = differ-on ds more out (subst (IsDistinct bytes_eq) made one) rest in
    subst (IsDistinct bytes_eq) (ap (λ (xs : List Name). xs ++ map (λ (d : FieldDef). d.name.name) ds) (sym made) ∙ append_assoc done (d.name.name ∷ []) (map (λ (d : FieldDef). d.name.name) ds)) later

pub names-differ : (fields : List FieldDef) (u : Unit {0}) → fields_differ fields ≡ Ok u → IsDistinct bytes_eq (map (λ (d : FieldDef). d.name.name) fields)
unfolding fields_differ
names-differ fields u e =
    let (out, goes, is) = bound (in_turn with_field_name [] fields) (λ _. Ok tt) u e in
    differ-on fields [] out (distinct-none bytes_eq) goes

-- ---- a model behind others, in place of another

module _ (a c : ModelInfo) (number : a.number ≡ c.number) where
  last-named : a.name ≡ c.name → (name : Name) (ms : List ModelInfo)
      → option_map (λ (i : ModelInfo). i.number) (find (λ (i : ModelInfo). bytes_eq i.name name) (ms ++ a ∷ [])) ≡ option_map (λ (i : ModelInfo). i.number) (find (λ (i : ModelInfo). bytes_eq i.name name) (ms ++ c ∷ []))
  last-named same name [] = ap (λ x. option_map (λ (i : ModelInfo). i.number) (cond (bytes_eq x name) (Some a) None)) same ∙ pick (bytes_eq c.name name)
    where
      pick : (b : Bool) → option_map (λ (i : ModelInfo). i.number) (cond b (Some a) None) ≡ option_map (λ (i : ModelInfo). i.number) (cond b (Some c) None)
      pick true = ap Some number
      pick false = refl
  last-named same name (x ∷ ms) = pick (last-named same name ms) (bytes_eq x.name name)
    where
      pick : option_map (λ (i : ModelInfo). i.number) (find (λ (i : ModelInfo). bytes_eq i.name name) (ms ++ a ∷ [])) ≡ option_map (λ (i : ModelInfo). i.number) (find (λ (i : ModelInfo). bytes_eq i.name name) (ms ++ c ∷ []))
          → (b : Bool) → option_map (λ (i : ModelInfo). i.number) (cond b (Some x) (find (λ (i : ModelInfo). bytes_eq i.name name) (ms ++ a ∷ [])))
          ≡ option_map (λ (i : ModelInfo). i.number) (cond b (Some x) (find (λ (i : ModelInfo). bytes_eq i.name name) (ms ++ c ∷ [])))
      pick rest true = refl
      pick rest false = rest

  -- it is there by its number
  last-there : (ms : List ModelInfo) → IsTrue (is_some (model_in (ms ++ a ∷ []) a.number))
  last-there [] = ap (λ b. is_some (cond b (Some a) None)) (eq-eqb a.number a.number refl)
  last-there (x ∷ ms) = pick (last-there ms) (x.number == a.number)
    where
      pick : IsTrue (is_some (model_in (ms ++ a ∷ []) a.number)) → (b : Bool) → IsTrue (is_some (cond b (Some x) (model_in (ms ++ a ∷ []) a.number)))
      pick rest true = refl
      pick rest false = rest

  -- what is found with the one is found with the other
  last-found : (k : ℕ) → ((n : ℕ) → Becomes (the.Static k) n a c) → (n : ℕ) (i : ModelInfo) (ms : List ModelInfo) → model_in (ms ++ a ∷ []) n ≡ Some i
      → (later : ModelInfo) × (model_in (ms ++ c ∷ []) n ≡ Some later) × Becomes (the.Static k) n i later
  last-found k becomes n i [] e = pick (a.number == n) refl e
    where
      pick : (b : Bool) → (a.number == n) ≡ b → cond b (Some a) None ≡ Some i → (later : ModelInfo) × (cond (c.number == n) (Some c) None ≡ Some later) × Becomes (the.Static k) n i later
      pick true is e =
          let same : a ≡ i = cc e in
          (c, ap (λ b. cond b (Some c) None) (ap (λ j. j == n) (sym number) ∙ is), subst (λ (j : ModelInfo). Becomes (the.Static k) n j c) same (becomes n))
      pick false is e = absurd (cc e)
  last-found k becomes n i (x ∷ ms) e = pick (λ e. last-found k becomes n i ms e) (x.number == n) e
    where
      pick : (model_in (ms ++ a ∷ []) n ≡ Some i → (later : ModelInfo) × (model_in (ms ++ c ∷ []) n ≡ Some later) × Becomes (the.Static k) n i later) → (b : Bool)
          → cond b (Some x) (model_in (ms ++ a ∷ []) n) ≡ Some i → (later : ModelInfo) × (cond b (Some x) (model_in (ms ++ c ∷ []) n) ≡ Some later) × Becomes (the.Static k) n i later
      pick rest true e =
          let same : x ≡ i = cc e in
          (x, refl, subst (λ (j : ModelInfo). Becomes (the.Static k) n j x) same (record { principal = λ h. h; field = λ f t other is. (is, static-free k t) }))
      pick rest false e = rest e

-- ---- the command

pub model-parts : (stage : Stage) (over s : Schema) (d : ModelDef) (info : ModelInfo) → typed_model stage over s d ≡ Ok info
    → (create : Policy) × (delete : Policy) × (fields : List FieldInfo) × (policy_at stage over s.next_model d.create ≡ Ok create) × (policy_at stage over s.next_model d.delete ≡ Ok delete)
    × FieldsMade stage over s.next_model s.next_field d.fields fields
    × ((record { number = s.next_model; name = d.name.name; principal = d.principal; create = create; delete = delete; fields = fields }) ≡ info)
unfolding typed_model
model-parts stage over s d info e =
    let (create, one, e1) = bound (policy_at stage over s.next_model d.create) _ info e in
    let (delete, other, e2) = bound (policy_at stage over s.next_model d.delete) _ info e1 in
    let (fields, goes, e3) = bound (in_turn (with_next_field stage over s.next_model s.next_field) [] d.fields) _ info e2 in
    let made = fields-made stage over s.next_model s.next_field d.fields [] fields goes in
    let zero-more : s.next_field + length {A = FieldInfo} [] ≡ s.next_field = omega arith in
    (create, delete, fields, one, other, subst (FieldsMade stage over s.next_model s.next_field d.fields) made.1 (subst (λ n. FieldsMade stage over s.next_model n d.fields made.0) zero-more made.2), ok-same _ info e3)

module _ (s : Schema) (steady : IsSteady s) (d : ModelDef) where
  abbrev k : ℕ
  k = s.next_static

  module _ (named known : Schema) (closed info : ModelInfo) (named-is : with_model s (bare_model s d) ≡ named) (known-is : with_model s closed ≡ known)
      (closed-made : typed_model Types named s d ≡ Ok closed) (info-made : typed_model Policies known s d ≡ Ok info) (new : IsNewName s d.name.name)
      (differ : IsDistinct bytes_eq (map (λ (f : FieldDef). f.name.name) d.fields)) (lit : ModelHasLiterals info) where
    model-fits : Fits s (create_model info)
    unfolding model_named
    model-fits =
        let a = model-parts Types named s d closed closed-made in
        let z = model-parts Policies known s d info info-made in
        let closed-number : closed.number ≡ s.next_model = sym (ap (λ (i : ModelInfo). i.number) a.6) in
        let closed-name : closed.name ≡ d.name.name = sym (ap (λ (i : ModelInfo). i.name) a.6) in
        let info-number : info.number ≡ s.next_model = sym (ap (λ (i : ModelInfo). i.number) z.6) in
        let info-name : info.name ≡ d.name.name = sym (ap (λ (i : ModelInfo). i.name) z.6) in
        let same : (name : Name) → model_named known name ≡ model_named named name =
        λ name. sym (ap (λ (t : Schema). model_named t name) known-is)
        ∙ last-named closed (bare_model s d) closed-number closed-name name s.models
        ∙ ap (λ (t : Schema). model_named t name) named-is in
        let closed-made : FieldsMade Types named s.next_model s.next_field d.fields closed.fields =
        subst (FieldsMade Types named s.next_model s.next_field d.fields) (ap (λ (i : ModelInfo). i.fields) a.6) a.5 in
        let info-made : FieldsMade Policies known s.next_model s.next_field d.fields info.fields =
        subst (FieldsMade Policies known s.next_model s.next_field d.fields) (ap (λ (i : ModelInfo). i.fields) z.6) z.5 in
        let closed-good = closed-fields named known same s.next_model s.next_field d.fields closed.fields info.fields closed-made info-made in
        let create-none : to_none ≡ closed.create = none-at named s.next_model d.create a.0 a.3 ∙ ap (λ (i : ModelInfo). i.create) a.6 in
        let delete-none : to_none ≡ closed.delete = none-at named s.next_model d.delete a.1 a.4 ∙ ap (λ (i : ModelInfo). i.delete) a.6 in
        let closed-typed : IsModel known closed = record {
          create = subst (IsPolicy known closed.number) create-none tt;
          delete = subst (IsPolicy known closed.number) delete-none tt;
          fields = subst (λ n. AllByRecursion (IsField known n) closed.fields) (sym closed-number) closed-good.0;
        } in
        let closed-shown : ModelIsShown closed = (subst PolicyIsShown create-none tt, subst PolicyIsShown delete-none tt, closed-good.1) in
        let known-steady : IsSteady known =
        subst IsSteady known-is
        (created-steady s steady closed closed-number (made-numbered Types named s.next_model s.next_field d.fields closed.fields closed-made) (subst (IsNewName s) (sym closed-name) new)
        (subst (IsDistinct bytes_eq) (sym (made-names Types named s.next_model s.next_field d.fields closed.fields closed-made)) differ)
        (subst (λ (t : Schema). IsModel t closed) (sym known-is) closed-typed) closed-shown) in
        let have : HaveFields known = have-fields known known-steady in
        let has : HasModel known s.next_model =
        subst (λ n. HasModel known n) closed-number (subst (λ (t : Schema). HasModel t closed.number) known-is (last-there closed closed refl s.models)) in
        let after : Schema = schema_after s (create_model info) in
        let number : closed.number ≡ info.number = closed-number ∙ sym info-number in
        let principal : closed.principal ≡ info.principal = sym (ap (λ (i : ModelInfo). i.principal) a.6) ∙ ap (λ (i : ModelInfo). i.principal) z.6 in
        let becomes : (n : ℕ) → Becomes (the.Static s.next_static) n closed info = λ n. record {
          principal = λ h. sym principal ∙ h;
          field = λ f t other is. (sym (both-types named known same s.next_model s.next_field d.fields closed.fields info.fields closed-made info-made f) ∙ is, static-free s.next_static t);
        } in
        let closed-after : Schema = with_model s closed in
        let keeps-from : Keeps (the.Static s.next_static) closed-after after =
        keeps-found (the.Static s.next_static) closed-after after (λ n other has. has) (λ n i free is. last-found closed info number s.next_static becomes n i s.models is) in
        let keeps : Keeps (the.Static s.next_static) known after = subst (λ (t : Schema). Keeps (the.Static s.next_static) t after) known-is keeps-from in
        let none : static_of known s.next_static ≡ None = subst (λ (t : Schema). static_of t s.next_static ≡ None) known-is (gone s steady) in
        let create-is : z.0 ≡ info.create = ap (λ (i : ModelInfo). i.create) z.6 in
        let delete-is : z.1 ≡ info.delete = ap (λ (i : ModelInfo). i.delete) z.6 in
        let create = over-good known s.next_model d.create z.0 have has (over-at known s.next_model d.create z.0 z.3) (subst PolicyHasLiterals (sym create-is) lit.0) in
        let delete = over-good known s.next_model d.delete z.1 have has (over-at known s.next_model d.delete z.1 z.4) (subst PolicyHasLiterals (sym delete-is) lit.1) in
        let fields = fields-good known after s.next_static none keeps have s.next_model s.next_field d.fields info.fields has info-made lit.2 in (
          info-number,
          made-numbered Policies known s.next_model s.next_field d.fields info.fields info-made,
          subst (IsNewName s) (sym info-name) new,
          subst (IsDistinct bytes_eq) (sym (made-names Policies known s.next_model s.next_field d.fields info.fields info-made)) differ,
          record {
            create = subst (λ n. IsPolicy after n info.create) (sym info-number) (subst (IsPolicy after s.next_model) create-is (policy-grown known s.next_static none after keeps s.next_model z.0 create.0 create.1));
            delete = subst (λ n. IsPolicy after n info.delete) (sym info-number) (subst (IsPolicy after s.next_model) delete-is (policy-grown known s.next_static none after keeps s.next_model z.1 delete.0 delete.1));
            fields = subst (λ n. AllByRecursion (IsField after n) info.fields) (sym info-number) fields.0;
          },
          (subst PolicyIsShown create-is create.1, subst PolicyIsShown delete-is delete.1, fields.1),
        )

  pub created-fits : (command : Command) → CommandHasLiterals command → created s d ≡ Ok command → Fits s command
  unfolding created created_model with_names with_typed
  created-fits command lit e =
      let (info, goes, is) = bound (created_model s d) (λ (info : ModelInfo). Ok (create_model info)) command e in
      let (named, names, e1) = bound (with_names s d) _ info goes in
      let (known, types, e2) = bound (with_typed Types named s d) _ info e1 in
      let (u, new, e3) = bound (new_model s d.name) _ named names in
      let (v, differ, e4) = bound (fields_differ d.fields) _ named e3 in
      let (closed, closes, e5) = bound (typed_model Types named s d) (λ (i : ModelInfo). Ok (with_model s i)) known types in
      let made = ok-same (create_model info) command is in
      let lits : ModelHasLiterals info = subst CommandHasLiterals (sym made) lit in
      subst (Fits s) made
      (model-fits named known closed info (ok-same (with_model s (bare_model s d)) named e4) (ok-same (with_model s closed) known e5) closes e2
      (new-name s d.name.name (not-taken (is_taken s d.name.name) _ _ d.name u new)) (names-differ d.fields v differ) lits)
