-- The plain data of models and schemas that are changed in place.
use Rattle.std.proofs.Common.{◌≡◌, ℕ, ◌+◌, List, [], ◌∷◌, ◌++◌, map, refl, sym, ap, ◌∙◌}
use Rattle.std.specs.declared.rc.Rc.{Rc}
use Rattle.std.specs.declared.alloc.Global.{Global}
use Rattle.std.proofs.lemmas.List.{map-append}
use Rattle.text_tree.specs.declared.models.FieldDef.{FieldDef}
use Rattle.type_schema.specs.declared.trees.TInit.{TInit}
use Rattle.type_schema.specs.declared.trees.TPolicy.{TPolicy}
use Rattle.type_schema.specs.declared.schemas.StaticInfo as code_static
use Rattle.type_schema.specs.declared.schemas.FieldInfo as code_field
use Rattle.type_schema.specs.declared.schemas.ModelInfo as code_model
use Rattle.type_schema.specs.declared.schemas.Schema as code_schema
use Rattle.type_schema.specs.declared.schemas.RemovedField.{RemovedField}
use Rattle.type_schema.specs.Trees.{Policy, Init}
use Rattle.type_schema.specs.Schema.{StaticInfo, FieldInfo, ModelInfo, Added, Schema}
use Rattle.type_schema.specs.SchemaViews.{added_of, static_info_of, field_info_of, model_info_of, schema_of}
use Rattle.type_schema.specs.Commands.{add_field, schema_after, with_field}
use Rattle.type_schema.specs.Views.{init_of, policy_of}
use Rattle.type_typing.specs.Names.{plain_of}
use Rattle.type_typing.specs.Outcome.{◌>>=◌}
use Rattle.type_typing.specs.declared.type_err.TypeErr.{TypeErr}
use Rattle.std.specs.Prelude.{Ok, Err}
use Rattle.type_specs.specs.declared.stage.Stage.TheVariants.{Types, Policies}
use Rattle.type_specs.specs.Models.{typed_field}
use Rattle.type_commands.specs.Changes.{changed_schema, with_added}
use Rattle.type_commands.specs.Resolved.{field_seen, with_new_field}

-- ---- models

pub field_pushed : (copy info : code_model.ModelInfo) (f g : code_field.FieldInfo) (fields : List code_field.FieldInfo)
    → model_info_of copy ≡ model_info_of info → field_info_of f ≡ field_info_of g → fields ≡ copy.fields ++ f ∷ []
    → model_info_of (record copy { fields = fields }) ≡ with_field (field_info_of g) (model_info_of info)
field_pushed copy info f g fields same same_field are =
    ap (λ (l : List code_field.FieldInfo). record (model_info_of copy) { fields = map field_info_of l }) are
    ∙ ap (λ (l : List FieldInfo). record (model_info_of copy) { fields = l }) (map-append field_info_of copy.fields (f ∷ []))
    ∙ ap (λ (h : FieldInfo). with_field h (model_info_of copy)) same_field
    ∙ ap (λ (m : ModelInfo). with_field (field_info_of g) m) same

pub fields_replaced : (copy info : code_model.ModelInfo) (fields : List code_field.FieldInfo) (seen : List FieldInfo)
    → model_info_of copy ≡ model_info_of info → map field_info_of fields ≡ seen → model_info_of (record copy { fields = fields }) ≡ record (model_info_of info) { fields = seen }
fields_replaced copy info fields seen same are =
    ap (λ (l : List FieldInfo). record (model_info_of copy) { fields = l }) are ∙ ap (λ (m : ModelInfo). record m { fields = seen }) same

pub policies_replaced : (copy info : code_model.ModelInfo) (c d : Rc TPolicy Global) (p q : Policy)
    → model_info_of copy ≡ model_info_of info → policy_of c.value ≡ p → policy_of d.value ≡ q
    → model_info_of (record copy { create = c; delete = d }) ≡ record (model_info_of info) { create = p; delete = q }
policies_replaced copy info c d p q same one other =
    ap (λ (m : ModelInfo). record m { create = policy_of c.value; delete = policy_of d.value }) same
    ∙ ap (λ (r : Policy). record (model_info_of info) { create = r; delete = policy_of d.value }) one
    ∙ ap (λ (r : Policy). record (model_info_of info) { create = p; delete = r }) other

-- ---- schemas

pub models_replaced : (copy s : code_schema.Schema) (models : List code_model.ModelInfo) (seen : List ModelInfo)
    → schema_of copy ≡ schema_of s → map model_info_of models ≡ seen → plain_of (record copy { models = models }) ≡ record (plain_of s) { models = seen }
unfolding plain_of
models_replaced copy s models seen same are =
    ap (λ (l : List ModelInfo). record (schema_of copy) { models = l }) are ∙ ap (λ (t : Schema). record t { models = seen }) same

-- and what is removed with them
pub removed_replaced : (copy : code_schema.Schema) (s : Schema) (models : List code_model.ModelInfo) (seen : List ModelInfo) (removed : List RemovedField) (all : List RemovedField)
    → plain_of (record copy { models = models }) ≡ record s { models = seen } → removed ≡ all
    → plain_of (record copy { models = models; removed = removed }) ≡ record s { models = seen; removed = all }
unfolding plain_of
removed_replaced copy s models seen removed all same is =
    ap (λ (t : Schema). record t { removed = removed }) same ∙ ap (λ (r : List RemovedField). record s { models = seen; removed = r }) is

pub statics_replaced : (copy s : code_schema.Schema) (statics : List code_static.StaticInfo) (seen : List StaticInfo)
    → schema_of copy ≡ schema_of s → map static_info_of statics ≡ seen → plain_of (record copy { statics = statics }) ≡ record (plain_of s) { statics = seen }
unfolding plain_of
statics_replaced copy s statics seen same are =
    ap (λ (l : List StaticInfo). record (schema_of copy) { statics = l }) are ∙ ap (λ (t : Schema). record t { statics = seen }) same

pub plain_models : (s : code_schema.Schema) → (plain_of s).models ≡ map model_info_of s.models
unfolding plain_of
plain_models s = refl

pub plain_statics : (s : code_schema.Schema) → (plain_of s).statics ≡ map static_info_of s.statics
unfolding plain_of
plain_statics s = refl

pub pushed_added : (s : code_schema.Schema) (m f : ℕ) (init : Rc TInit Global) → plain_of (record s { next_field = s.next_field + 1; added = s.added ++ (m, f, init) ∷ [] }) ≡ with_added (plain_of s) (record { model = m; field = f; init = init_of init.value })
unfolding plain_of
pushed_added s m f init = ap (λ (l : List Added). record (schema_of s) { next_field = s.next_field + 1; added = l }) (map-append added_of s.added ((m, f, init) ∷ []))

pub pushed_added_as : (s : code_schema.Schema) (m f n : ℕ) (init : Rc TInit Global) (added : List (ℕ × ℕ × Rc TInit Global))
    → added ≡ s.added ++ (m, f, init) ∷ [] → n ≡ s.next_field + 1
    → with_added (plain_of s) (record { model = m; field = f; init = init_of init.value }) ≡ plain_of (record s { next_field = n; added = added })
pushed_added_as s m f n init added are is =
    sym (pushed_added s m f init)
    ∙ ap (λ (l : List (ℕ × ℕ × Rc TInit Global)). plain_of (record s { next_field = s.next_field + 1; added = l })) (sym are)
    ∙ ap (λ k. plain_of (record s { next_field = k; added = added })) (sym is)

-- ---- a field that is added

pub after_new_field : (s t : Schema) (m : ℕ) (f g : FieldInfo) (i j : Init)
    → g ≡ f → j ≡ i → t ≡ changed_schema s m (with_field g) → schema_after s (add_field m f i) ≡ with_added t (record { model = m; field = f.number; init = j })
after_new_field s t m f g i j same_field same_init is =
    ap (λ (k : Init). with_added (changed_schema s m (with_field f)) (record { model = m; field = f.number; init = k })) (sym same_init)
    ∙ ap (λ (h : FieldInfo). with_added (changed_schema s m (with_field h)) (record { model = m; field = f.number; init = j })) (sym same_field)
    ∙ ap (λ (u : Schema). with_added u (record { model = m; field = f.number; init = j })) (sym is)

pub seen_fails : (s : code_schema.Schema) (m : ℕ) (f : FieldDef) (e : TypeErr) → typed_field Types (plain_of s) m s.next_field f ≡ Err e → field_seen (plain_of s) m f ≡ Err e
unfolding field_seen plain_of
seen_fails s m f e fails = ap (λ o. o >>= (λ (closed : FieldInfo). typed_field Policies (with_new_field (schema_of s) m closed) m s.next_field f)) fails

pub seen_goes : (s known : code_schema.Schema) (m : ℕ) (f : FieldDef) (closed : FieldInfo)
    → typed_field Types (plain_of s) m s.next_field f ≡ Ok closed → plain_of known ≡ with_new_field (plain_of s) m closed
    → typed_field Policies (plain_of known) m s.next_field f ≡ field_seen (plain_of s) m f
unfolding field_seen plain_of
seen_goes s known m f closed types is =
    ap (λ (t : Schema). typed_field Policies t m s.next_field f) is
    ∙ sym (ap (λ o. o >>= (λ (closed : FieldInfo). typed_field Policies (with_new_field (schema_of s) m closed) m s.next_field f)) types)
