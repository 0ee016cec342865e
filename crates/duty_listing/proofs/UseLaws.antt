-- The uses in parts, and in the whole.
use Rattle.std.proofs.Common.{◌≡◌, refl, ap, sym, ◌∙◌, List, ◌++◌, append_assoc}
use Rattle.text_tree.specs.declared.exprs.CmpOp.{CmpOp}
use Rattle.text_tree.specs.declared.exprs.CmpOp.TheVariants.{Eq, Ne, Lt, Le, Gt, Ge}
use Rattle.type_schema.specs.declared.trees.TExpr.{TExpr}
use Rattle.type_schema.specs.declared.trees.TSet.{TSet}
use Rattle.type_schema.specs.Uses.{Use, uses_of, set_uses_of, in_order_of_text}
use Rattle.type_schema.specs.Views.{expr_of, set_of}
use Rattle.duty_listing.specs.Uses.{AreInText}
use Rattle.duty_listing.proofs.Joined.{joined}

abbrev in_expr : TExpr → List Use
in_expr e = uses_of (expr_of e)

abbrev in_set : TSet → List Use
in_set e = set_uses_of (set_of e)

pub two_exprs : (e a b x y : TExpr) (old mid new : List Use) → in_expr e ≡ in_expr a ++ in_expr b → x ≡ a → y ≡ b
    → mid ≡ old ++ in_expr x → new ≡ mid ++ in_expr y → new ≡ old ++ in_expr e
two_exprs e a b x y old mid new w i j p q =
    joined old mid new (in_expr e) (in_expr a) (in_expr b) w (p ∙ ap (λ x. old ++ in_expr x) i) (q ∙ ap (λ y. mid ++ in_expr y) j)

pub expr_set : (e a x : TExpr) (b y : TSet) (old mid new : List Use) → in_expr e ≡ in_expr a ++ in_set b → x ≡ a → y ≡ b
    → mid ≡ old ++ in_expr x → new ≡ mid ++ in_set y → new ≡ old ++ in_expr e
expr_set e a x b y old mid new w i j p q =
    joined old mid new (in_expr e) (in_expr a) (in_set b) w (p ∙ ap (λ x. old ++ in_expr x) i) (q ∙ ap (λ y. mid ++ in_set y) j)

pub three_exprs : (e a b c x y z : TExpr) (old one mid new : List Use) → in_expr e ≡ (in_expr a ++ in_expr b) ++ in_expr c → x ≡ a → y ≡ b → z ≡ c
    → one ≡ old ++ in_expr x → mid ≡ one ++ in_expr y → new ≡ mid ++ in_expr z → new ≡ old ++ in_expr e
three_exprs e a b c x y z old one mid new w i j k p q r =
    joined old mid new (in_expr e) (in_expr a ++ in_expr b) (in_expr c) w
    (joined old one mid (in_expr a ++ in_expr b) (in_expr a) (in_expr b) refl (p ∙ ap (λ x. old ++ in_expr x) i) (q ∙ ap (λ y. one ++ in_expr y) j))
    (r ∙ ap (λ z. mid ++ in_expr z) k)

both_in : (a b x y : TExpr) → x ≡ a → y ≡ b → in_expr a ++ in_expr b ≡ in_expr x ++ in_expr y
both_in a b x y i j = ap (λ a. in_expr a ++ in_expr b) (sym i) ∙ ap (λ b. in_expr x ++ in_expr b) (sym j)

pub in_text_order : (op : CmpOp) (left right a b : TExpr) → AreInText op left right a b → in_order_of_text op (in_expr left) (in_expr right) ≡ in_expr a ++ in_expr b
in_text_order Eq left right a b h = both_in left right a b h.0 h.1
in_text_order Ne left right a b h = both_in left right a b h.0 h.1
in_text_order Lt left right a b h = both_in left right a b h.0 h.1
in_text_order Le left right a b h = both_in right left a b h.0 h.1
in_text_order Gt left right a b h = both_in right left a b h.0 h.1
in_text_order Ge left right a b h = both_in left right a b h.0 h.1
