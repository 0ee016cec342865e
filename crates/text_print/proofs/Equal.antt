-- Equal trees, offsets aside, have one spelling.
use Rattle.std.proofs.Common.{◌≡◌, ℕ, List, [], ◌∷◌, ◌++◌, map, refl, sym, ◌∙◌, ap, subst, Option, Some, None}
use Rattle.std.specs.List.{flat_map}
use Rattle.std.specs.Prelude.{codes}
use Rattle.text_lexer.specs.declared.token.TokenKind.TheVariants as k
use Rattle.text_tree.specs.declared.policies.Policy.{Policy}
use Rattle.text_tree.specs.declared.policies.Init.{Init}
use Rattle.text_tree.specs.declared.policies.Init.TheVariants as init
use Rattle.text_tree.specs.declared.models.Base.{Base}
use Rattle.text_tree.specs.declared.models.Base.TheVariants as base
use Rattle.text_tree.specs.declared.models.Ty.{Ty}
use Rattle.text_tree.specs.declared.models.Ty.TheVariants as ty
use Rattle.text_tree.specs.declared.models.FieldDef.{FieldDef}
use Rattle.text_tree.specs.declared.models.ModelDef.{ModelDef}
use Rattle.text_tree.specs.declared.models.Spec.{Spec}
use Rattle.text_tree.specs.declared.commands.Command.{Command}
use Rattle.text_tree.specs.declared.commands.Command.TheVariants as command
use Rattle.text_tree.specs.declared.commands.Script.{Script}
use Rattle.text_tree.specs.ExprGrammar.{G}
use Rattle.text_tree.specs.Stripped.{stripped_base, stripped_command, stripped_field, stripped_init, stripped_model, stripped_name, stripped_policy, stripped_right, stripped_script, stripped_spec, stripped_type}
use Rattle.text_tree.specs.Texts.{IsTextOf}
use Rattle.text_print.specs.Commands.{because, close, command_line, on_model, rights, spelled_command, spelled_init, spelled_script}
use Rattle.text_print.specs.Exprs.{commas}
use Rattle.text_print.specs.Marks.{Mark, lower, newline, sign, sp, text_of_marks}
use Rattle.text_print.specs.Models.{applied, braced, entry, entry_line, field_line, lambda, model_head, model_lines, right, rights_of_field, spelled_base, spelled_field, spelled_model, spelled_spec, spelled_type, static_line}
use Rattle.text_print.specs.Reprinted.{IsPrinted}
use Rattle.text_print.proofs.Fusion.{expr_same, set_same}
use Rattle.text_print.proofs.Needed.{policy_same}

flat_same : {A : Type 0} (g : A → List Mark) (s : A → A) → ((x : A) → g (s x) ≡ g x) → (xs : List A) → flat_map g (map s xs) ≡ flat_map g xs
flat_same g s same [] = refl
flat_same g s same (x ∷ xs) = ap (λ z. z ++ flat_map g (map s xs)) (same x) ∙ ap (λ z. g x ++ z) (flat_same g s same xs)

map_same : {A B : Type 0} (g : A → B) (s : A → A) → ((x : A) → g (s x) ≡ g x) → (xs : List A) → map g (map s xs) ≡ map g xs
map_same g s same [] = refl
map_same g s same (x ∷ xs) = ap (λ z. z ∷ map g (map s xs)) (same x) ∙ ap (λ z. g x ∷ z) (map_same g s same xs)

-- ---- specifications

base_same : (b : Base) → spelled_base (stripped_base b) ≡ spelled_base b
base_same (base.Bool at) = refl
base_same (base.Int at) = refl
base_same (base.Text at) = refl
base_same (base.Id model at) = refl

type_same : (t : Ty) → spelled_type (stripped_type t) ≡ spelled_type t
type_same (ty.Plain b) = base_same b
type_same (ty.Set model at) = refl
type_same (ty.Opt b at) = ap (applied (codes "Option")) (base_same b)

field_same : (f : FieldDef) → spelled_field (stripped_field f) ≡ spelled_field f
field_same f =
    ap (λ z. entry f.name.name (z ++ sp ∷ rights_of_field (stripped_field f))) (type_same f.ty)
    ∙ ap (λ z. entry f.name.name (spelled_type f.ty ++ sp ∷ braced (entry (codes "read") z ++ sign k.Comma ∷ sp ∷ right (codes "write") (stripped_policy f.write)))) (policy_same f.read)
    ∙ ap (λ z. entry f.name.name (spelled_type f.ty ++ sp ∷ braced (right (codes "read") f.read ++ sign k.Comma ∷ sp ∷ entry (codes "write") z))) (policy_same f.write)

line_same : (f : FieldDef) → field_line (stripped_field f) ≡ field_line f
line_same f = ap entry_line (field_same f)

model_same : (m : ModelDef) → spelled_model (stripped_model m) ≡ spelled_model m
model_same m =
    ap (λ z. model_head m ++ braced (commas (entry (codes "create") z ∷ right (codes "delete") (stripped_policy m.delete) ∷ map spelled_field (map stripped_field m.fields)))) (policy_same m.create)
    ∙ ap (λ z. model_head m ++ braced (commas (right (codes "create") m.create ∷ entry (codes "delete") z ∷ map spelled_field (map stripped_field m.fields)))) (policy_same m.delete)
    ∙ ap (λ z. model_head m ++ braced (commas (right (codes "create") m.create ∷ right (codes "delete") m.delete ∷ z))) (map_same spelled_field stripped_field field_same m.fields)

lines_same : (m : ModelDef) → model_lines (stripped_model m) ≡ model_lines m
lines_same m =
    ap (λ z. model_head m ++ sign k.BraceOpen ∷ newline ∷ (entry_line (entry (codes "create") z) ++ (entry_line (right (codes "delete") (stripped_policy m.delete)) ++ (flat_map field_line (map stripped_field m.fields) ++ sign k.BraceClose ∷ newline ∷ [])))) (policy_same m.create)
    ∙ ap (λ z. model_head m ++ sign k.BraceOpen ∷ newline ∷ (entry_line (right (codes "create") m.create) ++ (entry_line (entry (codes "delete") z) ++ (flat_map field_line (map stripped_field m.fields) ++ sign k.BraceClose ∷ newline ∷ [])))) (policy_same m.delete)
    ∙ ap (λ z. model_head m ++ sign k.BraceOpen ∷ newline ∷ (entry_line (right (codes "create") m.create) ++ (entry_line (right (codes "delete") m.delete) ++ (z ++ sign k.BraceClose ∷ newline ∷ [])))) (flat_same field_line stripped_field line_same m.fields)

spec_same : (s : Spec) → spelled_spec (stripped_spec s) ≡ spelled_spec s
spec_same s =
    ap (λ z. z ++ flat_map model_lines (map stripped_model s.models)) (flat_same static_line stripped_name (λ x. refl) s.statics)
    ∙ ap (λ z. flat_map static_line s.statics ++ z) (flat_same model_lines stripped_model lines_same s.models)

pub one_spec : (x y : Spec) → stripped_spec x ≡ stripped_spec y → spelled_spec x ≡ spelled_spec y
one_spec x y same = sym (spec_same x) ∙ ap spelled_spec same ∙ spec_same y

-- ---- scripts

init_same : (x : Init) → spelled_init (stripped_init x) ≡ spelled_init x
init_same (init.Plain x) = ap (λ z. z.marks) (expr_same x)
init_same (init.OfSet set) = ap (λ z. z.marks) (set_same set)

rights_same : (one other : List ℕ) (a b : Option Policy) → rights one other (stripped_right a) (stripped_right b) ≡ rights one other a b
rights_same one other None None = refl
rights_same one other None (Some q) = ap (λ z. braced (entry other z)) (policy_same q)
rights_same one other (Some p) None = ap (λ z. braced (entry one z)) (policy_same p)
rights_same one other (Some p) (Some q) =
    ap (λ z. braced (entry one z ++ sign k.Comma ∷ sp ∷ right other (stripped_policy q))) (policy_same p)
    ∙ ap (λ z. braced (right one p ++ sign k.Comma ∷ sp ∷ entry other z)) (policy_same q)

command_same : (c : Command) → spelled_command (stripped_command c) ≡ spelled_command c
command_same (command.CreateModel model at) = ap (applied (codes "CreateModel")) (model_same model)
command_same (command.DeleteModel model at) = refl
command_same (command.AddStatic static at) = refl
command_same (command.RemoveStatic static at) = refl
command_same (command.AddPrincipal model at) = refl
command_same (command.AddField model field x init at) =
    ap (λ z. on_model model (codes "AddField") ++ ((z ++ sign k.Comma ∷ sp ∷ lambda x.name (spelled_init (stripped_init init))) ++ close)) (field_same field)
    ∙ ap (λ z. on_model model (codes "AddField") ++ ((spelled_field field ++ sign k.Comma ∷ sp ∷ lambda x.name z) ++ close)) (init_same init)
command_same (command.RemoveField model field at) = refl
command_same (command.UpdateFieldPolicy model field read write at) =
    ap (λ z. on_model model (codes "UpdateFieldPolicy") ++ ((lower field.name ∷ sign k.Comma ∷ sp ∷ z) ++ close)) (rights_same (codes "read") (codes "write") read write)
command_same (command.WeakenFieldPolicy model field read write reason at) =
    ap (λ z. on_model model (codes "WeakenFieldPolicy") ++ ((lower field.name ∷ sign k.Comma ∷ sp ∷ z) ++ (because reason ++ close))) (rights_same (codes "read") (codes "write") read write)
command_same (command.UpdatePolicy model create delete at) =
    ap (λ z. on_model model (codes "UpdatePolicy") ++ (z ++ close)) (rights_same (codes "create") (codes "delete") create delete)
command_same (command.WeakenPolicy model create delete reason at) =
    ap (λ z. on_model model (codes "WeakenPolicy") ++ (z ++ (because reason ++ close))) (rights_same (codes "create") (codes "delete") create delete)

script_same : (s : Script) → spelled_script (stripped_script s) ≡ spelled_script s
script_same s = flat_same command_line stripped_command (λ c. ap (λ z. z ++ newline ∷ []) (command_same c)) s.commands

pub one_script : (x y : Script) → stripped_script x ≡ stripped_script y → spelled_script x ≡ spelled_script y
one_script x y same = sym (script_same x) ∙ ap spelled_script same ∙ script_same y

-- ---- texts

-- what is printed of one tree spells each equal one
pub of_equal : {A : Type 0} (f : G A) (stripped : A → A) (marks : A → List Mark) (x y : A) → stripped y ≡ stripped x → marks y ≡ marks x
    → IsPrinted f stripped y (text_of_marks (marks y)) → IsPrinted f stripped x (text_of_marks (marks x))
of_equal f stripped marks x y same one h =
    let spells = subst (λ z. IsTextOf f (text_of_marks z) h.tree) one h.spells in
    record { tree = h.tree; spells = spells; same = h.same ∙ same }
