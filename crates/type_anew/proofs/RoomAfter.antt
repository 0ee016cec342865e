-- A schema that has room has it after each command that typing gives.
use Rattle.std.proofs.Common.{◌≡◌, ◌==◌, ℕ, ◌<◌, ◌≤◌, Bool, true, false, not, cond, List, [], ◌∷◌, length, map, refl, sym, ap, ◌∙◌, subst, arith, length-append}
use Rattle.std.specs.Prelude.{Some, Ok, nat_eq, filter, if◌then◌else◌}
use Rattle.std.specs.List.{AllByRecursion, IsDistinct, find}
use Rattle.std.specs.Option.{option_map_or}
use Rattle.std.proofs.lemmas.Bool.{eq-eqb}
use Rattle.text_ast.specs.Limits.{most_statics, most_models, most_fields}
use Rattle.text_tree.specs.declared.named.Named.{Named}
use Rattle.text_tree.specs.declared.models.ModelDef.{ModelDef}
use Rattle.text_tree.specs.declared.commands.Command as written
use Rattle.text_tree.specs.declared.commands.Command.TheVariants as w
use Rattle.type_schema.specs.Schema.{StaticInfo, FieldInfo, ModelInfo, Schema}
use Rattle.type_schema.specs.Commands.{Command, create_model, delete_model, add_static, remove_static, add_principal, add_field, remove_field, update_field, weaken_field, update_model, weaken_model, change_field, change_model, schema_after, with_field, with_field_policies, with_model_policies, without_field}
use Rattle.type_schema.specs.Proper.{IsProper, model_numbers}
use Rattle.type_specs.specs.declared.stage.Stage.TheVariants.{Types, Policies}
use Rattle.type_specs.specs.Models.{created_model, with_names, with_typed}
use Rattle.type_specs.specs.NewNames.{fields_differ, is_taken, new_model}
use Rattle.type_commands.specs.Resolved.{field_count, new_field_in, resolved}
use Rattle.type_proper.proofs.Grown.{all-changed, with_policies}
use Rattle.type_proper.proofs.Lists.{all-append, all-both, all-filter, all-unmap, all-weaken}
use Rattle.type_proper.proofs.NewModel.{model-parts}
use Rattle.type_proper.proofs.Resolves.{bound}
use Rattle.type_anew.specs.Room.{IsWithinNumbers}
use Rattle.type_anew.proofs.RetypedCommands.{IsMade, is-made}
use Rattle.type_anew.proofs.Room.{HaveFewFields, few-fields, made-long, room-left}

-- ---- there is room for what it adds

abbrev FitsRoom : Schema → Command → Type 0
FitsRoom s (create_model info) = (length s.models < most_models) × (length info.fields ≤ most_fields)
FitsRoom s (delete_model m) = Unit {0}
FitsRoom s (add_static info) = length s.statics < most_statics
FitsRoom s (remove_static n) = Unit {0}
FitsRoom s (add_principal m) = Unit {0}
FitsRoom s (add_field m f init) = AllByRecursion (λ (i : ModelInfo). i.number ≡ m → length i.fields < most_fields) s.models
FitsRoom s (remove_field m f) = Unit {0}
FitsRoom s (update_field m f read write) = Unit {0}
FitsRoom s (weaken_field m f read write reason) = Unit {0}
FitsRoom s (update_model m create delete) = Unit {0}
FitsRoom s (weaken_model m create delete reason) = Unit {0}

created-fits : (s : Schema) (d : ModelDef) (info : ModelInfo) → created_model s d ≡ Ok info → FitsRoom s (create_model info)
unfolding created_model with_names
created-fits s d info e =
    let (named, names, e1) = bound (with_names s d) _ info e in
    let (known, types, e2) = bound (with_typed Types named s d) _ info e1 in
    let (u, new, e3) = bound (new_model s d.name) _ named names in
    let (v, differ, e4) = bound (fields_differ d.fields) _ named e3 in
    let m = model-parts Policies known s d info e2 in
    let long : length info.fields ≡ length d.fields = sym (ap (λ (j : ModelInfo). length j.fields) m.6) ∙ made-long Policies known s.next_model s.next_field d.fields m.2 m.5 in
    let few = few-fields d.fields v differ in
    (room-left _ (length s.models) most_models d.name u new, omega (arith, long, few))

-- the model of a number is the only one
only : (ms : List ModelInfo) (m : ℕ) → IsDistinct nat_eq (model_numbers ms) → AllByRecursion (λ (info : ModelInfo). info.number ≡ m → find (λ (i : ModelInfo). i.number == m) ms ≡ Some info) ms
unfolding IsDistinct
only [] m distinct = tt
only (x ∷ ms) m distinct =
    let apart = all-unmap (λ n. nat_eq x.number n ≡ false) (λ (i : ModelInfo). i.number) ms distinct.0 in
    let later =
    all-both (λ (i : ModelInfo). nat_eq x.number i.number ≡ false) (λ (info : ModelInfo). info.number ≡ m → find (λ (i : ModelInfo). i.number == m) ms ≡ Some info)
    (λ (info : ModelInfo). info.number ≡ m → find (λ (i : ModelInfo). i.number == m) (x ∷ ms) ≡ Some info)
    (λ info off found is.
    let other : (x.number == m) ≡ false = subst (λ n. nat_eq x.number n ≡ false) is off in
    ap (λ b. cond b (Some x) (find (λ (i : ModelInfo). i.number == m) ms)) other ∙ found is) ms apart (only ms m distinct.1) in
    (λ is. ap (λ b. cond b (Some x) (find (λ (i : ModelInfo). i.number == m) ms)) (eq-eqb x.number m is), later)

field-fits : (s : Schema) → IsProper s → (m : ℕ) (x : Named) (u : Unit {0}) → new_field_in s m x ≡ Ok u → AllByRecursion (λ (i : ModelInfo). i.number ≡ m → length i.fields < most_fields) s.models
unfolding field_count
field-fits s proper m x u e =
    let left : field_count s m < most_fields = room-left _ (field_count s m) most_fields x u e in
    all-weaken (λ (info : ModelInfo). info.number ≡ m → find (λ (i : ModelInfo). i.number == m) s.models ≡ Some info) (λ (i : ModelInfo). i.number ≡ m → length i.fields < most_fields)
    (λ info found is. subst (λ n. n < most_fields) (ap (λ o. option_map_or (λ (i : ModelInfo). length i.fields) o 0) (found is)) left) s.models (only s.models m proper.models.distinct)

made-fits : (s : Schema) → IsProper s → (c : written.Command) (command : Command) → IsMade s c command → FitsRoom s command
made-fits s proper (w.CreateModel d at) command is = subst (FitsRoom s) is.2 (created-fits s d is.0 is.1)
made-fits s proper (w.DeleteModel model at) command is = subst (FitsRoom s) is.1 tt
made-fits s proper (w.AddStatic x at) command is = subst (FitsRoom s) is.2 (room-left (is_taken s x.name) (length s.statics) most_statics x is.0 is.1)
made-fits s proper (w.RemoveStatic x at) command is = subst (FitsRoom s) is.1 tt
made-fits s proper (w.AddPrincipal model at) command is = subst (FitsRoom s) is.1 tt
made-fits s proper (w.AddField model f x init at) command is = subst (FitsRoom s) is.5 (field-fits s proper is.0 f.name is.1 is.4)
made-fits s proper (w.RemoveField model x at) command is = subst (FitsRoom s) is.2 tt
made-fits s proper (w.UpdateFieldPolicy model x p q at) command is = subst (FitsRoom s) is.2.4 tt
made-fits s proper (w.WeakenFieldPolicy model x p q reason at) command is = subst (FitsRoom s) is.3.4 tt
made-fits s proper (w.UpdatePolicy model p q at) command is = subst (FitsRoom s) is.1.4 tt
made-fits s proper (w.WeakenPolicy model p q reason at) command is = subst (FitsRoom s) is.2.4 tt

-- ---- the schema after it

long-map : {A B : Type 0} (f : A → B) (xs : List A) → length (map f xs) ≡ length xs
long-map f [] = refl
long-map f (x ∷ xs) = let rest = long-map f xs in omega (arith, rest)

short-filter : {A : Type 0} (p : A → Bool) (xs : List A) → length (filter p xs) ≤ length xs
short-filter p [] = omega arith
short-filter {A} p (x ∷ xs) = at (p x) (short-filter p xs)
  where
    at : (b : Bool) → length (filter p xs) ≤ length xs → length (cond b (x ∷ filter p xs) (filter p xs)) ≤ length (x ∷ xs)
    at true rest = omega (arith, rest)
    at false rest = omega (arith, rest)

-- one model changed
room-changed : (s after : Schema) (m : ℕ) (change : ModelInfo → ModelInfo) → IsWithinNumbers s → after.statics ≡ s.statics → after.models ≡ change_model m change s.models
    → ((info : ModelInfo) → (change info).number ≡ info.number) → HaveFewFields (change_model m change s.models) → IsWithinNumbers after
room-changed s after m change room statics models number few =
    let many : length after.models ≡ length s.models = ap length models ∙ long-map (λ (info : ModelInfo). if info.number == m then change info else info) s.models in
    let room_before = room.models in
    record {
      statics = subst (λ xs. length xs ≤ most_statics) (sym statics) room.statics;
      models = omega (arith, many, room_before);
      fields = subst HaveFewFields (sym models) few;
    }

-- with no more fields than before
no-more : (m : ℕ) (change : ModelInfo → ModelInfo) → ((info : ModelInfo) → (change info).number ≡ info.number) → ((info : ModelInfo) → length (change info).fields ≤ length info.fields)
    → (ms : List ModelInfo) → HaveFewFields ms → HaveFewFields (change_model m change ms)
no-more m change number short ms few =
    all-changed m change number (λ (i : ModelInfo). length i.fields ≤ most_fields) (λ (i : ModelInfo). length i.fields ≤ most_fields)
    (λ info is le. let less = short info in omega (arith, le, less)) (λ info is le. le) ms few

changed-room : (s after : Schema) (m : ℕ) (change : ModelInfo → ModelInfo) → IsWithinNumbers s → after.statics ≡ s.statics → after.models ≡ change_model m change s.models
    → ((info : ModelInfo) → (change info).number ≡ info.number) → ((info : ModelInfo) → length (change info).fields ≤ length info.fields) → IsWithinNumbers after
changed-room s after m change room statics models number short = room-changed s after m change room statics models number (no-more m change number short s.models room.fields)

same-many : (fields : List FieldInfo) (f : ℕ) (change : FieldInfo → FieldInfo) → length (change_field f change fields) ≤ length fields
same-many fields f change = let e = long-map (λ (g : FieldInfo). if g.number == f then change g else g) fields in omega (arith, e)

pub after-room : (s : Schema) (c : Command) → IsWithinNumbers s → FitsRoom s c → IsWithinNumbers (schema_after s c)
after-room s (create_model info) room fits =
    let count = length-append s.models (info ∷ []) in
    let left = fits.0 in
    record {
      statics = room.statics;
      models = omega (arith, count, left);
      fields = all-append (λ (i : ModelInfo). length i.fields ≤ most_fields) s.models (info ∷ []) room.fields (fits.1, tt);
    }
after-room s (delete_model m) room fits =
    let short = short-filter (λ (info : ModelInfo). not (info.number == m)) s.models in
    let before = room.models in
    record {
      statics = room.statics;
      models = omega (arith, short, before);
      fields = all-filter (λ (i : ModelInfo). length i.fields ≤ most_fields) (λ (i : ModelInfo). length i.fields ≤ most_fields) (λ (info : ModelInfo). not (info.number == m)) (λ info is le. le) s.models room.fields;
    }
after-room s (add_static info) room fits =
    let count = length-append s.statics (info ∷ []) in
    record { statics = omega (arith, count, fits); models = room.models; fields = room.fields }
after-room s (remove_static n) room fits =
    let short = short-filter (λ (info : StaticInfo). not (info.number == n)) s.statics in
    let before = room.statics in
    record { statics = omega (arith, short, before); models = room.models; fields = room.fields }
after-room s (add_principal m) room fits =
    changed-room s (schema_after s (add_principal m)) m (λ (info : ModelInfo). record info { principal = true }) room refl refl (λ info. refl) (λ info. omega arith)
after-room s (add_field m f init) room fits =
    room-changed s (schema_after s (add_field m f init)) m (with_field f) room refl refl (λ info. refl)
    (all-changed m (with_field f) (λ info. refl) (λ (i : ModelInfo). (i.number ≡ m → length i.fields < most_fields) × (length i.fields ≤ most_fields)) (λ (i : ModelInfo). length i.fields ≤ most_fields)
    (λ info is k. let count = length-append info.fields (f ∷ []) in let left = k.0 is in omega (arith, count, left)) (λ info is k. k.1) s.models
    (all-both (λ (i : ModelInfo). i.number ≡ m → length i.fields < most_fields) (λ (i : ModelInfo). length i.fields ≤ most_fields)
    (λ (i : ModelInfo). (i.number ≡ m → length i.fields < most_fields) × (length i.fields ≤ most_fields)) (λ info left le. (left, le)) s.models fits room.fields))
after-room s (remove_field m f) room fits =
    changed-room s (schema_after s (remove_field m f)) m (without_field f) room refl refl (λ info. refl) (λ info. short-filter (λ (g : FieldInfo). not (g.number == f)) info.fields)
after-room s (update_field m f read write) room fits =
    changed-room s (schema_after s (update_field m f read write)) m (with_field_policies f read write) room refl refl (λ info. refl) (λ info. same-many info.fields f (with_policies read write))
after-room s (weaken_field m f read write reason) room fits =
    changed-room s (schema_after s (weaken_field m f read write reason)) m (with_field_policies f read write) room refl refl (λ info. refl) (λ info. same-many info.fields f (with_policies read write))
after-room s (update_model m create delete) room fits =
    changed-room s (schema_after s (update_model m create delete)) m (with_model_policies create delete) room refl refl (λ info. refl) (λ info. omega arith)
after-room s (weaken_model m create delete reason) room fits =
    changed-room s (schema_after s (weaken_model m create delete reason)) m (with_model_policies create delete) room refl refl (λ info. refl) (λ info. omega arith)

pub command-room : (s : Schema) → IsProper s → IsWithinNumbers s → (c : written.Command) (command : Command) → resolved s c ≡ Ok command → IsWithinNumbers (schema_after s command)
command-room s proper room c command is = after-room s command room (made-fits s proper c command (is-made s c command is))
