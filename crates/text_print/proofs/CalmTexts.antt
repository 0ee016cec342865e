-- Lexemes of policies, specifications and scripts do not run together.
use Rattle.std.proofs.Common.{◌≡◌, ℕ, Bool, true, false, lit<, List, [], ◌∷◌, ◌++◌, map, codes, refl, sym, subst, append_assoc, append-nil, Some, None}
use Rattle.std.specs.Prelude.{Option}
use Rattle.std.specs.List.{flat_map}
use Rattle.text_lexer.specs.declared.token.TokenKind.{TokenKind}
use Rattle.text_lexer.specs.declared.token.TokenKind.TheVariants as k
use Rattle.text_tree.specs.declared.named.Named.{Named}
use Rattle.text_tree.specs.declared.named.Reason.{Reason}
use Rattle.text_tree.specs.declared.policies.Policy.{Policy}
use Rattle.text_tree.specs.declared.policies.Policy.TheVariants as policy
use Rattle.text_tree.specs.declared.policies.Init.{Init}
use Rattle.text_tree.specs.declared.policies.Init.TheVariants as init
use Rattle.text_tree.specs.declared.models.Base.{Base}
use Rattle.text_tree.specs.declared.models.Base.TheVariants as base
use Rattle.text_tree.specs.declared.models.Ty.{Ty}
use Rattle.text_tree.specs.declared.models.Ty.TheVariants as ty
use Rattle.text_tree.specs.declared.models.FieldDef.{FieldDef}
use Rattle.text_tree.specs.declared.models.ModelDef.{ModelDef}
use Rattle.text_tree.specs.declared.models.Spec.{Spec}
use Rattle.text_tree.specs.declared.commands.Command.{Command}
use Rattle.text_tree.specs.declared.commands.Command.TheVariants as command
use Rattle.text_tree.specs.declared.commands.Script.{Script}
use Rattle.text_print.specs.Exprs.{commas, joined, spelled_set}
use Rattle.text_print.specs.Models.{applied, braced, entry, entry_line, field_line, id_of, lambda, model_head, model_lines, right, rights_of_field, spelled_base, spelled_field, spelled_model, spelled_policy, spelled_spec, spelled_type, static_line}
use Rattle.text_print.specs.Commands.{added, because, close, command_line, naming, rights, spelled_command, spelled_init, spelled_script}
use Rattle.text_print.specs.Marks.{Mark, lower, newline, sign, sp, upper}
use Rattle.text_print.proofs.CalmTrees.{calm_expr, calm_set}
use Rattle.text_print.proofs.Neat.{AllCalm, Calm, Closed, Neat, Tails, calm_then, calm_word, ends_fit, fit, opens_none, tails_joined, tails_sign}

-- ---- policies, types and fields

calm_lambda : (x : List ℕ) (a : List Mark) → Calm a → Calm (lambda x a)
calm_lambda x a h before rest opens closed = (opens k.Lower refl, (refl, lit< tt, (refl, (refl, lit< tt, h None rest opens_none closed))))

pub calm_policy : (x : Policy) → Calm (spelled_policy x)
calm_policy (policy.Everyone at) = calm_word (codes "public")
calm_policy (policy.Nobody at) = calm_word (codes "none")
calm_policy (policy.Fun x set) = calm_lambda x.name (spelled_set set).marks (calm_set set)

calm_entry : (w : List ℕ) (a : List Mark) → Calm a → Calm (entry w a)
calm_entry w a h before rest opens closed = (opens k.Lower refl, (refl, (refl, lit< tt, h None rest opens_none closed)))

calm_right : (w : List ℕ) (x : Policy) → Calm (right w x)
calm_right w x = calm_entry w (spelled_policy x) (calm_policy x)

calm_upper : (w : List ℕ) → Calm (upper w ∷ [])
calm_upper w before rest opens closed = (opens k.Upper refl, closed k.Upper refl)

calm_applied : (w : List ℕ) (a : List Mark) → Calm a → Calm (applied w a)
calm_applied w a h before rest opens closed =
    (opens k.Upper refl, (refl, calm_then a (sign k.ParenClose ∷ []) h (tails_sign k.ParenClose refl refl) (Some k.ParenOpen) rest (λ n e. refl) closed))

calm_id : (x : Named) → Calm (id_of x)
calm_id x = calm_applied (codes "Id") (upper x.name ∷ []) (calm_upper x.name)

calm_base : (x : Base) → Calm (spelled_base x)
calm_base (base.Bool at) = calm_upper (codes "Bool")
calm_base (base.Int at) = calm_upper (codes "Int")
calm_base (base.Text at) = calm_upper (codes "Text")
calm_base (base.Id x at) = calm_id x

calm_type : (x : Ty) → Calm (spelled_type x)
calm_type (ty.Plain x) = calm_base x
calm_type (ty.Set x at) = calm_applied (codes "Set") (id_of x) (calm_id x)
calm_type (ty.Opt x at) = calm_applied (codes "Option") (spelled_base x) (calm_base x)

calm_comma : (a b : List Mark) → Calm a → Calm b → Calm (a ++ sign k.Comma ∷ sp ∷ b)
calm_comma a b h j =
    calm_then a (sign k.Comma ∷ sp ∷ b) h (λ rest closed n e. (ends_fit n k.Comma e refl, (refl, lit< tt, j None rest opens_none closed)))

tails_braced : (a : List Mark) → Calm a → Tails (sp ∷ braced a)
tails_braced a h rest closed m e =
    (refl, lit< tt, (refl, calm_then a (sign k.BraceClose ∷ []) h (tails_sign k.BraceClose refl refl) (Some k.BraceOpen) rest (λ n f. refl) closed))

calm_field : (x : FieldDef) → Calm (spelled_field x)
calm_field x =
    calm_entry x.name.name (spelled_type x.ty ++ sp ∷ rights_of_field x)
    (calm_then (spelled_type x.ty) (sp ∷ rights_of_field x) (calm_type x.ty)
    (tails_braced (right (codes "read") x.read ++ sign k.Comma ∷ sp ∷ right (codes "write") x.write)
    (calm_comma (right (codes "read") x.read) (right (codes "write") x.write) (calm_right (codes "read") x.read) (calm_right (codes "write") x.write))))

-- ---- models

calm_fields : (xs : List FieldDef) → AllCalm (map spelled_field xs)
calm_fields [] = tt
calm_fields (x ∷ xs) = (calm_field x, calm_fields xs)

-- the head of a model, and what may stand after its blank
calm_head : (x : ModelDef) (p : Bool) → x.principal ≡ p → (a : List Mark) → ((rest : List Mark) → Closed rest → Neat None (a ++ rest)) → Calm (model_head x ++ a)
calm_head x true is a h before rest opens closed =
    let marks : model_head x ≡ lower (codes "principal") ∷ sp ∷ lower (codes "model") ∷ sp ∷ upper x.name.name ∷ sp ∷ [] = rw is refl in
    subst (λ z. Neat before ((z ++ a) ++ rest)) (sym marks)
    (opens k.Lower refl, (refl, lit< tt, (refl, (refl, lit< tt, (refl, (refl, lit< tt, h rest closed))))))
calm_head x false is a h before rest opens closed =
    let marks : model_head x ≡ lower (codes "model") ∷ sp ∷ upper x.name.name ∷ sp ∷ [] = rw is refl in
    subst (λ z. Neat before ((z ++ a) ++ rest)) (sym marks) (opens k.Lower refl, (refl, lit< tt, (refl, (refl, lit< tt, h rest closed))))

calm_model : (x : ModelDef) → Calm (spelled_model x)
calm_model x =
    let one = right (codes "create") x.create in
    let other = right (codes "delete") x.delete in
    let all = commas (one ∷ other ∷ map spelled_field x.fields) in
    calm_head x x.principal refl (braced all) (λ rest closed. (
      refl,
      calm_then all (sign k.BraceClose ∷ [])
          (calm_then one (joined (sign k.Comma ∷ sp ∷ []) (other ∷ map spelled_field x.fields)) (calm_right (codes "create") x.create)
          (tails_joined (other ∷ map spelled_field x.fields) (calm_right (codes "delete") x.delete, calm_fields x.fields)))
          (tails_sign k.BraceClose refl refl) (Some k.BraceOpen) rest (λ n e. refl) closed,
    ))

-- ---- lines

abbrev pub Line : List Mark → Type 0
Line ms = (rest : List Mark) → Neat None rest → Neat None (ms ++ rest)

line_append : (a b : List Mark) → Line a → Line b → Line (a ++ b)
line_append a b h j rest now = subst (Neat None) (sym (append_assoc a b rest)) (h (b ++ rest) (j rest now))

line_flat : {A : Type 0} (m : A → List Mark) → ((x : A) → Line (m x)) → (xs : List A) → Line (flat_map m xs)
line_flat m h [] rest now = now
line_flat m h (x ∷ xs) rest now = line_append (m x) (flat_map m xs) (h x) (line_flat m h xs) rest now

line_entry : (a : List Mark) → Calm a → Line (entry_line a)
line_entry a h rest now = (
  refl,
  lit< tt,
  subst (Neat None) (sym (append_assoc a (sign k.Comma ∷ newline ∷ []) rest))
      (h None (sign k.Comma ∷ newline ∷ rest) opens_none (λ n e. (ends_fit n k.Comma e refl, (refl, lit< tt, now)))),
)

line_static : (x : Named) → Line (static_line x)
line_static x rest now = (refl, (refl, lit< tt, (refl, (refl, lit< tt, now))))

line_head : (x : ModelDef) (p : Bool) → x.principal ≡ p → (a : List Mark) → Line a → Line (model_head x ++ a)
line_head x true is a h rest now =
    let marks : model_head x ≡ lower (codes "principal") ∷ sp ∷ lower (codes "model") ∷ sp ∷ upper x.name.name ∷ sp ∷ [] = rw is refl in
    subst (λ z. Neat None ((z ++ a) ++ rest)) (sym marks) (refl, (refl, lit< tt, (refl, (refl, lit< tt, (refl, (refl, lit< tt, h rest now))))))
line_head x false is a h rest now =
    let marks : model_head x ≡ lower (codes "model") ∷ sp ∷ upper x.name.name ∷ sp ∷ [] = rw is refl in
    subst (λ z. Neat None ((z ++ a) ++ rest)) (sym marks) (refl, (refl, lit< tt, (refl, (refl, lit< tt, h rest now))))

line_model : (x : ModelDef) → Line (model_lines x)
line_model x rest now =
    let one = entry_line (right (codes "create") x.create) in
    let other = entry_line (right (codes "delete") x.delete) in
    let end = sign k.BraceClose ∷ newline ∷ [] in
    let more = flat_map field_line x.fields ++ end in
    let inner : Line (one ++ (other ++ more)) =
    line_append one (other ++ more) (line_entry (right (codes "create") x.create) (calm_right (codes "create") x.create))
    (line_append other more (line_entry (right (codes "delete") x.delete) (calm_right (codes "delete") x.delete))
    (line_append (flat_map field_line x.fields) end (line_flat field_line (λ f. line_entry (spelled_field f) (calm_field f)) x.fields) (λ r h. (refl, (refl, lit< tt, h))))) in
    let opened : Line (sign k.BraceOpen ∷ newline ∷ (one ++ (other ++ more))) = λ r h. (refl, (refl, lit< tt, inner r h)) in
    line_head x x.principal refl (sign k.BraceOpen ∷ newline ∷ (one ++ (other ++ more))) opened rest now

pub neat_spec : (x : Spec) → Neat None (spelled_spec x)
neat_spec x =
    subst (Neat None) (append-nil (spelled_spec x))
    (line_append (flat_map static_line x.statics) (flat_map model_lines x.models) (line_flat static_line line_static x.statics) (line_flat model_lines line_model x.models) [] tt)

-- ---- commands

calm_init : (x : Init) → Calm (spelled_init x)
calm_init (init.Plain e) = calm_expr e
calm_init (init.OfSet set) = calm_set set

-- the rights that are given, in braces
rights_neat : (one other : List ℕ) (a b : Option Policy) (before : Option TokenKind) (rest : List Mark) → fit before k.BraceOpen ≡ true → Closed rest
    → Neat before (rights one other a b ++ rest)
rights_neat one other None None before rest f closed = (f, (refl, closed k.BraceClose refl))
rights_neat one other None (Some b) before rest f closed =
    (f, calm_then (right other b) (sign k.BraceClose ∷ []) (calm_right other b) (tails_sign k.BraceClose refl refl) (Some k.BraceOpen) rest (λ n e. refl) closed)
rights_neat one other (Some a) None before rest f closed =
    (f, calm_then (right one a) (sign k.BraceClose ∷ []) (calm_right one a) (tails_sign k.BraceClose refl refl) (Some k.BraceOpen) rest (λ n e. refl) closed)
rights_neat one other (Some a) (Some b) before rest f closed = (
  f,
  calm_then (right one a ++ sign k.Comma ∷ sp ∷ right other b) (sign k.BraceClose ∷ []) (calm_comma (right one a) (right other b) (calm_right one a) (calm_right other b))
      (tails_sign k.BraceClose refl refl) (Some k.BraceOpen) rest (λ n e. refl) closed,
)

-- rights, and the closing parenthesis
rights_closed : (one other : List ℕ) (a b : Option Policy) (before : Option TokenKind) (rest : List Mark) → fit before k.BraceOpen ≡ true → Closed rest
    → Neat before ((rights one other a b ++ close) ++ rest)
rights_closed one other a b before rest f closed =
    subst (Neat before) (sym (append_assoc (rights one other a b) close rest))
    (rights_neat one other a b before (close ++ rest) f (tails_sign k.ParenClose refl refl rest closed))

-- rights, a reason and the closing parenthesis
rights_because : (one other : List ℕ) (a b : Option Policy) (p : Reason) (before : Option TokenKind) (rest : List Mark) → fit before k.BraceOpen ≡ true → Closed rest
    → Neat before ((rights one other a b ++ (because p ++ close)) ++ rest)
rights_because one other a b p before rest f closed =
    subst (Neat before) (sym (append_assoc (rights one other a b) (because p ++ close) rest))
    (rights_neat one other a b before ((because p ++ close) ++ rest) f
    (λ n e. (ends_fit n k.Comma e refl, (refl, lit< tt, (refl, (refl, closed k.ParenClose refl))))))

line_of : (a : List Mark) → Calm a → (rest : List Mark) → Closed rest → Neat None (a ++ rest)
line_of a h rest closed = h None rest opens_none closed

command_neat : (x : Command) (rest : List Mark) → Closed rest → Neat None (spelled_command x ++ rest)
command_neat (command.CreateModel m at) rest closed = line_of (applied (codes "CreateModel") (spelled_model m)) (calm_applied (codes "CreateModel") (spelled_model m) (calm_model m)) rest closed
command_neat (command.DeleteModel x at) rest closed = line_of (naming (codes "DeleteModel") x) (calm_applied (codes "DeleteModel") (upper x.name ∷ []) (calm_upper x.name)) rest closed
command_neat (command.AddStatic x at) rest closed = line_of (naming (codes "AddStatic") x) (calm_applied (codes "AddStatic") (upper x.name ∷ []) (calm_upper x.name)) rest closed
command_neat (command.RemoveStatic x at) rest closed = line_of (naming (codes "RemoveStatic") x) (calm_applied (codes "RemoveStatic") (upper x.name ∷ []) (calm_upper x.name)) rest closed
command_neat (command.AddPrincipal x at) rest closed = line_of (naming (codes "AddPrincipal") x) (calm_applied (codes "AddPrincipal") (upper x.name ∷ []) (calm_upper x.name)) rest closed
command_neat (command.AddField m f x i at) rest closed = (
  refl,
  (
    refl,
    (
      refl,
      (
        refl,
        calm_then (added f x i) close (calm_comma (spelled_field f) (lambda x.name (spelled_init i)) (calm_field f) (calm_lambda x.name (spelled_init i) (calm_init i)))
            (tails_sign k.ParenClose refl refl) (Some k.ParenOpen) rest (λ n e. refl) closed,
      ),
    ),
  ),
)
command_neat (command.RemoveField m f at) rest closed = (refl, (refl, (refl, (refl, (refl, (refl, closed k.ParenClose refl))))))
command_neat (command.UpdateFieldPolicy m f a b at) rest closed =
    (refl, (refl, (refl, (refl, (refl, (refl, (refl, lit< tt, rights_closed (codes "read") (codes "write") a b None rest refl closed)))))))
command_neat (command.WeakenFieldPolicy m f a b p at) rest closed =
    (refl, (refl, (refl, (refl, (refl, (refl, (refl, lit< tt, rights_because (codes "read") (codes "write") a b p None rest refl closed)))))))
command_neat (command.UpdatePolicy m a b at) rest closed = (refl, (refl, (refl, (refl, rights_closed (codes "create") (codes "delete") a b (Some k.ParenOpen) rest refl closed))))
command_neat (command.WeakenPolicy m a b p at) rest closed =
    (refl, (refl, (refl, (refl, rights_because (codes "create") (codes "delete") a b p (Some k.ParenOpen) rest refl closed))))

line_command : (x : Command) → Line (command_line x)
line_command x rest now =
    subst (Neat None) (sym (append_assoc (spelled_command x) (newline ∷ []) rest)) (command_neat x (newline ∷ rest) (λ n e. (refl, lit< tt, now)))

pub neat_script : (x : Script) → Neat None (spelled_script x)
neat_script x = subst (Neat None) (append-nil (spelled_script x)) (line_flat command_line line_command x.commands [] tt)

pub neat_policy : (x : Policy) → Neat None (spelled_policy x)
neat_policy x = subst (Neat None) (append-nil (spelled_policy x)) (calm_policy x None [] opens_none (λ n e. tt))
