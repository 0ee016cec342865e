-- What a command leaves of a schema has names that are words, where the command brings no others.
use Rattle.std.proofs.Common.{not, Bool, true, false, cond, List, [], ◌∷◌, ◌++◌, map, filter}
use Rattle.std.specs.Prelude.{Option, if◌then◌else◌}
use Rattle.std.specs.List.{AllByRecursion}
use Rattle.std.specs.Str.{bytes_eq}
use Rattle.text_tree.specs.declared.models.FieldDef.{FieldDef}
use Rattle.text_tree.specs.declared.models.ModelDef.{ModelDef}
use Rattle.text_tree.specs.declared.models.Spec.{Spec}
use Rattle.text_tree.specs.declared.policies.Policy.{Policy}
use Rattle.text_tree.specs.declared.commands.Command.{Command}
use Rattle.text_tree.specs.declared.commands.Command.TheVariants as command
use Rattle.text_tree.specs.Stripped.{stripped_command, stripped_field, stripped_model, stripped_right, stripped_spec}
use Rattle.type_schema.specs.Trees.{Name}
use Rattle.type_schema.specs.Schema.{FieldInfo, ModelInfo, Schema}
use Rattle.type_anew.specs.Changed.{change_def, given_or, marked, spec_after, with_def, with_field_rights, with_model_rights, without_def}
use Rattle.type_anew.specs.Names.{Names, names_in}
use Rattle.type_anew.specs.Specs.{written_field, written_model, written_spec}
use Rattle.data_read.specs.Words.{HasWords, HasWordsIn, IsFieldName}
use Rattle.data_read.proofs.WordsSpelled.{CommandHasWords, DefHasWords, FieldHasWords, SpecHasWords}

-- ---- lists that were changed

all-append : {A : Type 0} (P : A → Type 0) (xs : List A) (x : A) → AllByRecursion P xs → P x → AllByRecursion P (xs ++ x ∷ [])
all-append P [] x all one = (one, tt)
all-append P (y ∷ xs) x all one = (all.0, all-append P xs x all.1 one)

all-filter : {A : Type 0} (P : A → Type 0) (p : A → Bool) (xs : List A) → AllByRecursion P xs → AllByRecursion P (filter p xs)
all-filter P p [] all = tt
all-filter P p (x ∷ xs) all =
    elim (p x) as (λ (b : Bool). AllByRecursion P (cond b (x ∷ filter p xs) (filter p xs))) [
      | true ↦ (all.0, all-filter P p xs all.1)
      | false ↦ all-filter P p xs all.1
    ]

all-changed : {A : Type 0} (P : A → Type 0) (p : A → Bool) (change : A → A) → ((x : A) → P x → P (change x)) → (xs : List A) → AllByRecursion P xs
    → AllByRecursion P (map (λ x. if p x then change x else x) xs)
all-changed P p change keeps [] all = tt
all-changed P p change keeps (x ∷ xs) all =
    (elim (p x) as (λ (b : Bool). P (if b then change x else x)) [ true ↦ keeps x all.0 | false ↦ all.0 ], all-changed P p change keeps xs all.1)

all-onto : {A B : Type 0} (P : A → Type 0) (Q : B → Type 0) (f : A → B) → ((x : A) → P x → Q (f x)) → (xs : List A) → AllByRecursion P xs → AllByRecursion Q (map f xs)
all-onto P Q f keeps [] all = tt
all-onto P Q f keeps (x ∷ xs) all = (keeps x all.0, all-onto P Q f keeps xs all.1)

all-back : {A B : Type 0} (P : A → Type 0) (Q : B → Type 0) (f : A → B) → ((x : A) → Q (f x) → P x) → (xs : List A) → AllByRecursion Q (map f xs) → AllByRecursion P xs
all-back P Q f keeps [] all = tt
all-back P Q f keeps (x ∷ xs) all = (keeps x all.0, all-back P Q f keeps xs all.1)

-- ---- without offsets

stripped-def : (d : ModelDef) → DefHasWords d → DefHasWords (stripped_model d)
stripped-def d is = record { model = is.model; fields = all-onto FieldHasWords FieldHasWords stripped_field (λ f h. h) d.fields is.fields }

pub stripped-words : (x : Spec) → SpecHasWords x → SpecHasWords (stripped_spec x)
stripped-words x all = all-onto DefHasWords DefHasWords stripped_model stripped-def x.models all

-- ---- after a command

model-changed : (name : Name) (change : ModelDef → ModelDef) → ((d : ModelDef) → DefHasWords d → DefHasWords (change d)) → (ds : List ModelDef) → AllByRecursion DefHasWords ds
    → AllByRecursion DefHasWords (change_def name change ds)
model-changed name change keeps ds all = all-changed DefHasWords (λ (d : ModelDef). bytes_eq d.name.name name) change keeps ds all

rights-kept : (name : Name) (read write : Option Policy) (d : ModelDef) → DefHasWords d → DefHasWords (with_field_rights name read write d)
rights-kept name read write d is = record {
  model = is.model;
  fields =
      all-changed FieldHasWords (λ (f : FieldDef). bytes_eq f.name.name name) (λ (f : FieldDef). record f { read = given_or read f.read; write = given_or write f.write }) (λ f h. h) d.fields is.fields;
}

pub words-after : (x : Spec) (c : Command) → CommandHasWords c → SpecHasWords x → SpecHasWords (spec_after x (stripped_command c))
words-after x (command.CreateModel d at) is all = all-append DefHasWords x.models (stripped_model d) all (stripped-def d is)
words-after x (command.DeleteModel m at) is all = all-filter DefHasWords (λ (d : ModelDef). not (bytes_eq d.name.name m.name)) x.models all
words-after x (command.AddStatic n at) is all = all
words-after x (command.RemoveStatic n at) is all = all
words-after x (command.AddPrincipal m at) is all = model-changed m.name marked (λ d h. record { model = h.model; fields = h.fields }) x.models all
words-after x (command.AddField m f v i at) is all =
    model-changed m.name (with_def (stripped_field f)) (λ d h. record { model = h.model; fields = all-append FieldHasWords d.fields (stripped_field f) h.fields is }) x.models all
words-after x (command.RemoveField m f at) is all =
    model-changed m.name (without_def f.name)
    (λ d h. record { model = h.model; fields = all-filter FieldHasWords (λ (g : FieldDef). not (bytes_eq g.name.name f.name)) d.fields h.fields }) x.models all
words-after x (command.UpdateFieldPolicy m f a b at) is all =
    model-changed m.name (with_field_rights f.name (stripped_right a) (stripped_right b)) (rights-kept f.name (stripped_right a) (stripped_right b)) x.models all
words-after x (command.WeakenFieldPolicy m f a b p at) is all =
    model-changed m.name (with_field_rights f.name (stripped_right a) (stripped_right b)) (rights-kept f.name (stripped_right a) (stripped_right b)) x.models all
words-after x (command.UpdatePolicy m a b at) is all =
    model-changed m.name (with_model_rights (stripped_right a) (stripped_right b)) (λ d h. record { model = h.model; fields = h.fields }) x.models all
words-after x (command.WeakenPolicy m a b p at) is all =
    model-changed m.name (with_model_rights (stripped_right a) (stripped_right b)) (λ d h. record { model = h.model; fields = h.fields }) x.models all

-- ---- schemas and the trees that they are written as

def-of : (names : Names) (m : ModelInfo) → HasWordsIn m → DefHasWords (written_model names m)
def-of names m is = record { model = is.model; fields = all-onto (λ (f : FieldInfo). IsFieldName f.name) FieldHasWords (written_field names) (λ f h. h) m.fields is.fields }

of-def : (names : Names) (m : ModelInfo) → DefHasWords (written_model names m) → HasWordsIn m
of-def names m is = record { model = is.model; fields = all-back (λ (f : FieldInfo). IsFieldName f.name) FieldHasWords (written_field names) (λ f h. h) m.fields is.fields }

pub written-words : (s : Schema) → HasWords s → SpecHasWords (written_spec s)
written-words s all = all-onto HasWordsIn DefHasWords (written_model (names_in s)) (def-of (names_in s)) s.models all

pub words-of-written : (s : Schema) → SpecHasWords (written_spec s) → HasWords s
words-of-written s all = all-back HasWordsIn DefHasWords (written_model (names_in s)) (of-def (names_in s)) s.models all
