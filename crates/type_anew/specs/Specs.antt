-- The tree that a schema is written as: its statics and models in their order. Of what typing gives it is the tree that was typed.
use Rattle.std.specs.Prelude.{map}
use Rattle.text_tree.specs.declared.models.Base.{Base}
use Rattle.text_tree.specs.declared.models.Base.TheVariants as b
use Rattle.text_tree.specs.declared.models.Ty.{Ty}
use Rattle.text_tree.specs.declared.models.Ty.TheVariants as ty
use Rattle.text_tree.specs.declared.models.FieldDef.{FieldDef}
use Rattle.text_tree.specs.declared.models.ModelDef.{ModelDef}
use Rattle.text_tree.specs.declared.models.Spec.{Spec}
use Rattle.type_schema.specs.declared.types.TBase.{TBase}
use Rattle.type_schema.specs.declared.types.TBase.TheVariants as base
use Rattle.type_schema.specs.declared.types.TTy.{TTy}
use Rattle.type_schema.specs.declared.types.TTy.TheVariants.{Plain, Set, Opt}
use Rattle.type_schema.specs.Schema.{StaticInfo, FieldInfo, ModelInfo, Schema}
use Rattle.type_anew.specs.Names.{Names, named, names_in}
use Rattle.type_anew.specs.Trees.{written_policy}

module _ (names : Names) where
  abbrev pub written_base : TBase → Base
  written_base base.Bool = b.Bool 0
  written_base base.Int = b.Int 0
  written_base base.Text = b.Text 0
  written_base (base.Id m) = b.Id (named (names.model m)) 0

  abbrev pub written_type : TTy → Ty
  written_type (Plain t) = ty.Plain (written_base t)
  written_type (Set m) = ty.Set (named (names.model m)) 0
  written_type (Opt t) = ty.Opt (written_base t) 0

  abbrev pub written_field : FieldInfo → FieldDef
  written_field f = record {
    name = named f.name;
    ty = written_type f.ty;
    read = written_policy names f.read;
    write = written_policy names f.write;
  }

  abbrev pub written_model : ModelInfo → ModelDef
  written_model m = record {
    principal = m.principal;
    name = named m.name;
    create = written_policy names m.create;
    delete = written_policy names m.delete;
    fields = map written_field m.fields;
    at = 0;
  }

abbrev pub written_spec : Schema → Spec
written_spec s = record {
  statics = map (λ (n : StaticInfo). named n.name) s.statics;
  models = map (written_model (names_in s)) s.models;
}
