-- The plain data that uses of the code stand for.
use Rattle.std.specs.Prelude.{◌≡◌}
use Rattle.text_tree.specs.declared.exprs.CmpOp.{CmpOp}
use Rattle.text_tree.specs.declared.exprs.CmpOp.TheVariants.{Eq, Ne, Lt, Le, Gt, Ge}
use Rattle.type_schema.specs.declared.trees.TExpr.{TExpr}
use Rattle.type_schema.specs.Uses.{Use}
use Rattle.duty_listing.specs.declared.uses.Use as code_use

abbrev pub use_data : code_use.Use → Use
use_data u = record { model = u.model; field = u.field }

-- the sides of a comparison as they stand in the text: with `>` and `<=` they are exchanged
abbrev pub AreInText : CmpOp → TExpr → TExpr → TExpr → TExpr → Type 0
AreInText Eq left right a b = (a ≡ left) × (b ≡ right)
AreInText Ne left right a b = (a ≡ left) × (b ≡ right)
AreInText Lt left right a b = (a ≡ left) × (b ≡ right)
AreInText Le left right a b = (a ≡ right) × (b ≡ left)
AreInText Gt left right a b = (a ≡ right) × (b ≡ left)
AreInText Ge left right a b = (a ≡ left) × (b ≡ right)
