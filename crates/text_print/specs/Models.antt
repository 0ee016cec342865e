-- The canonical spelling of policies, types, fields, models and specifications.
use Rattle.std.specs.Prelude.{ℕ, Bool, true, false, List, [], ◌∷◌, ◌++◌, map, codes}
use Rattle.std.specs.List.{flat_map}
use Rattle.text_lexer.specs.declared.token.TokenKind.TheVariants as k
use Rattle.text_tree.specs.declared.named.Named.{Named}
use Rattle.text_tree.specs.declared.policies.Policy.{Policy}
use Rattle.text_tree.specs.declared.policies.Policy.TheVariants as policy
use Rattle.text_tree.specs.declared.models.Base.{Base}
use Rattle.text_tree.specs.declared.models.Base.TheVariants as base
use Rattle.text_tree.specs.declared.models.Ty.{Ty}
use Rattle.text_tree.specs.declared.models.Ty.TheVariants as ty
use Rattle.text_tree.specs.declared.models.FieldDef.{FieldDef}
use Rattle.text_tree.specs.declared.models.ModelDef.{ModelDef}
use Rattle.text_tree.specs.declared.models.Spec.{Spec}
use Rattle.text_print.specs.Exprs.{between, commas, spelled_set}
use Rattle.text_print.specs.Marks.{Mark, blank, lower, newline, sign, sp, upper}

-- ---- policies

-- a variable, and after an arrow what is said of it
abbrev pub lambda : List ℕ → List Mark → List Mark
lambda x body = lower x ∷ (between k.Arrow ++ body)

abbrev pub spelled_policy : Policy → List Mark
spelled_policy (policy.Everyone at) = lower (codes "public") ∷ []
spelled_policy (policy.Nobody at) = lower (codes "none") ∷ []
spelled_policy (policy.Fun x set) = lambda x.name (spelled_set set).marks

-- what a right or a field is: its word, and after a colon the rest
abbrev pub entry : List ℕ → List Mark → List Mark
entry word marks = lower word ∷ sign k.Colon ∷ sp ∷ marks

abbrev pub right : List ℕ → Policy → List Mark
right word policy = entry word (spelled_policy policy)

-- ---- types and fields

abbrev pub braced : List Mark → List Mark
braced marks = sign k.BraceOpen ∷ (marks ++ sign k.BraceClose ∷ [])

-- a word of the language, and in parentheses what it is given
abbrev pub applied : List ℕ → List Mark → List Mark
applied word marks = upper word ∷ sign k.ParenOpen ∷ (marks ++ sign k.ParenClose ∷ [])

-- the records of a model
abbrev pub id_of : Named → List Mark
id_of model = applied (codes "Id") (upper model.name ∷ [])

abbrev pub spelled_base : Base → List Mark
spelled_base (base.Bool at) = upper (codes "Bool") ∷ []
spelled_base (base.Int at) = upper (codes "Int") ∷ []
spelled_base (base.Text at) = upper (codes "Text") ∷ []
spelled_base (base.Id model at) = id_of model

abbrev pub spelled_type : Ty → List Mark
spelled_type (ty.Plain base) = spelled_base base
spelled_type (ty.Set model at) = applied (codes "Set") (id_of model)
spelled_type (ty.Opt base at) = applied (codes "Option") (spelled_base base)

abbrev pub rights_of_field : FieldDef → List Mark
rights_of_field f = braced (right (codes "read") f.read ++ sign k.Comma ∷ sp ∷ right (codes "write") f.write)

-- `f: T {read: P, write: P}`
abbrev pub spelled_field : FieldDef → List Mark
spelled_field f = entry f.name.name (spelled_type f.ty ++ sp ∷ rights_of_field f)

-- ---- models and specifications

-- what stands before the brace of a model
abbrev pub principal_mark : Bool → List Mark
principal_mark true = lower (codes "principal") ∷ sp ∷ []
principal_mark false = []

abbrev pub model_head : ModelDef → List Mark
model_head m = principal_mark m.principal ++ lower (codes "model") ∷ sp ∷ upper m.name.name ∷ sp ∷ []

-- on one line
abbrev pub spelled_model : ModelDef → List Mark
spelled_model m =
    model_head m
    ++ braced (commas (right (codes "create") m.create ∷ right (codes "delete") m.delete ∷ map spelled_field m.fields))

-- a right or a field on a line of its own
abbrev pub entry_line : List Mark → List Mark
entry_line marks = blank (codes "  ") ∷ (marks ++ sign k.Comma ∷ newline ∷ [])

abbrev pub field_line : FieldDef → List Mark
field_line f = entry_line (spelled_field f)

-- on lines: the head, each right and each field, and the closing brace
abbrev pub model_lines : ModelDef → List Mark
model_lines m =
    model_head m
    ++ sign k.BraceOpen ∷ newline ∷ (entry_line (right (codes "create") m.create) ++ (entry_line (right (codes "delete") m.delete)
    ++ (flat_map field_line m.fields ++ sign k.BraceClose ∷ newline ∷ [])))

abbrev pub static_line : Named → List Mark
static_line x = lower (codes "static") ∷ sp ∷ upper x.name ∷ newline ∷ []

abbrev pub spelled_spec : Spec → List Mark
spelled_spec s = flat_map static_line s.statics ++ flat_map model_lines s.models
